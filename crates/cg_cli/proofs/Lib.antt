pub mod RunFacts
pub mod Budgets
pub mod KeptLines
pub mod Refusals
pub mod Summaries
pub mod ExpandFacts
pub mod RecordFacts
pub mod AnswersOfJobs
