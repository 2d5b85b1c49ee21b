pub mod FlagsetLemmas
