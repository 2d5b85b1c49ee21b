use Rattle.cg_collect.proofs.MeetingStages.{met_once}
use Rattle.cg_collect.proofs.laws.a_collection_meets_each_stage_once.Goals as goal

pub returns : goal.returns
returns c = met_once
