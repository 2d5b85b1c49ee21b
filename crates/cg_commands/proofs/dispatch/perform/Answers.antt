-- What each command asks of the script is in the spelling of the command, and what was done is its effect.
use Rattle.std.proofs.Common.{refl, ◌<◌, length}
use Rattle.std.proofs.lemmas.List.Elements.{All-head}
use Rattle.std.specs.Prelude.{[]}
use Rattle.cg_commands.proofs.TextLemmas.{known_in}
use Rattle.cg_commands.proofs.Counting.{plainly, inspects}
use Rattle.cg_commands.proofs.dispatch.perform.Goals as goal

pub returns-in-Call : goal.returns-in-Call
returns-in-Call g c = plainly _ _ _ _ _ _ c.in-Call.is tt _ _ c.call.ensures refl

pub returns-in-Quit : goal.returns-in-Quit
returns-in-Quit g c = plainly _ _ _ _ _ _ c.in-Quit.is tt _ _ c.quit.ensures refl

pub returns-in-Print : goal.returns-in-Print
returns-in-Print g c = plainly _ _ _ _ _ _ c.in-Print.is tt _ _ c.print.ensures refl

pub returns-in-Refs : goal.returns-in-Refs
returns-in-Refs g c = plainly _ _ _ _ _ _ c.in-Refs.is tt _ _ c.refs.ensures refl

pub returns-in-Tracked : goal.returns-in-Tracked
returns-in-Tracked g c = plainly _ _ _ _ _ _ c.in-Tracked.is tt _ _ c.tracked.ensures refl

pub returns-in-Finalized : goal.returns-in-Finalized
returns-in-Finalized g c = plainly _ _ _ _ _ _ c.in-Finalized.is tt _ _ c.finalized.ensures refl

pub returns-in-Referents : goal.returns-in-Referents
returns-in-Referents g c = inspects _ _ _ _ _ _ c.in-Referents.is tt refl _ _ c.running.ensures c.referents.ensures

pub returns-in-Referrers : goal.returns-in-Referrers
returns-in-Referrers g c = inspects _ _ _ _ _ _ c.in-Referrers.is tt refl _ _ c.running-in-Referrers.ensures c.referrers.ensures

pub returns-in-Why : goal.returns-in-Why
returns-in-Why g c = inspects _ _ _ _ _ _ c.in-Why.is tt refl _ _ c.running-in-Why.ensures c.why.ensures

pub why-requires-clause-known : goal.why-requires-clause-known
why-requires-clause-known g c = All-head (λ n. n < length c.args.heap.now.names) c.in-Why.name [] (known_in _ _ _ c.in-Why.is c.requires.spelled)

pub returns-in-Collect : goal.returns-in-Collect
returns-in-Collect g c = c.control.ensures c.args.locals.now c.args.room
