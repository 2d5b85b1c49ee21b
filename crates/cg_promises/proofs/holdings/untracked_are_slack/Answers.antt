use Rattle.cg_promises.proofs.UntrackedStayRuns.{untracked_slack}
use Rattle.cg_promises.proofs.holdings.untracked_are_slack.Goals as goal

pub returns : goal.returns
returns c = untracked_slack
