use Rattle.std.proofs.Common.{sym, ◌∙◌}
use Rattle.cg_graph.specs.Value.{value_at}
use Rattle.cg_commands.specs.Answers.{gives}
use Rattle.cg_commands.specs.Keys.{missing_in}
use Rattle.cg_commands.proofs.Reading.{live-value_at}
use Rattle.cg_commands.proofs.Steps.{at_entry, no_entry}
use Rattle.cg_commands.proofs.EntryLemmas.{keyed_there, refuses_value, refuses_other, declines-missing}
use Rattle.cg_commands.proofs.keys.bind_under.Goals as goal

pub returns-in_default : goal.returns-in_default
returns-in_default g c = refuses_value _ _ _ _ _ c.in_default.not-Ref

pub bind_to-requires-clause-live : goal.bind_to-requires-clause-live
bind_to-requires-clause-live g c = live-value_at _ c.sound.ensures _ _ _ (sym c.in-Some-Some.field-0-is ∙ c.in-Some-Some.ensures.value)

pub returns-in-Some-Some : goal.returns-in-Some-Some
returns-in-Some-Some g c =
    at_entry _ _ _ _ _ (keyed_there _ _ _ _ c.in-Ref.is _ c.code.ensures c.in-Some-Some.ensures.kind) _ _ (λ es. value_at es c.args.key) _
    (sym c.in-Some-Some.field-0-is ∙ c.in-Some-Some.ensures.value) _ _ (gives c.bind_to.result) c.bind_to.ensures

pub returns-in-Some-None : goal.returns-in-Some-None
returns-in-Some-None g c =
    rw c.missing.ensures (no_entry _ _ _ _ _ (keyed_there _ _ _ _ c.in-Ref.is _ c.code.ensures c.in-Some-None.ensures.kind) _ _ (λ es. value_at es c.args.key)
    (sym c.in-Some-None.field-0-is ∙ c.in-Some-None.ensures.value) (missing_in c.args.kind) (declines-missing _ c.args.kind) _)

pub returns-in-None : goal.returns-in-None
returns-in-None g c = refuses_other _ _ _ _ c.in-Ref.is _ c.code.ensures _ _ c.requires.live c.in-None.ensures.other
