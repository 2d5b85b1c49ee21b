use Rattle.std.proofs.Common.{sym, ◌∙◌, subst, None, Ok}
use Rattle.std.proofs.lemmas.Option.{MatchOption-at_some, MatchOption-at_none}
use Rattle.cg_graph.specs.Value.{entry_at}
use Rattle.cg_heap.specs.Calls.{IsMutable}
use Rattle.cg_commands.specs.declared.done.Done.TheVariants.{Changed}
use Rattle.cg_commands.specs.Keys.{missing_in}
use Rattle.cg_commands.proofs.Steps.{at_entry, no_entry}
use Rattle.cg_commands.proofs.EntryLemmas.{changes, keyed_there, refuses_value, refuses_other, declines-missing, takes_key}
use Rattle.cg_commands.proofs.keys.take_under.Goals as goal

pub returns-in_default : goal.returns-in_default
returns-in_default g c = λ locals. refuses_value _ _ _ locals _ c.in_default.not-Ref

pub take_key_if-requires-clause-mutable : goal.take_key_if-requires-clause-mutable
take_key_if-requires-clause-mutable g c = subst IsMutable (sym c.code.ensures) (changes c.args.kind)

pub returns-in-Some-Some : goal.returns-in-Some-Some
returns-in-Some-Some g c = λ locals.
    let found = sym c.in-Some-Some.field-0-is ∙ c.in-Some-Some.ensures.entry in
    at_entry _ _ _ _ _ (keyed_there _ _ _ _ c.in-Ref.is _ c.code.ensures c.in-Some-Some.ensures.kind) _ _ (λ es. entry_at es c.args.key) _ found _ _ (Ok (Changed None c.references_of.result))
    (takes_key _ c.sound.ensures _ _ _ _ (keyed_there _ _ _ _ c.in-Ref.is _ c.code.ensures c.in-Some-Some.ensures.kind) _ _ _ _ found
    (MatchOption-at_some _ _ _ c.in-Some-Some.field-0-is c.in-Some-Some.ensures.rest) c.references_of.ensures)

pub returns-in-Some-None : goal.returns-in-Some-None
returns-in-Some-None g c = λ locals.
    rw (c.missing.ensures, MatchOption-at_none _ _ c.in-Some-None.field-0-is c.in-Some-None.ensures.none)
    (no_entry _ _ _ _ _ (keyed_there _ _ _ _ c.in-Ref.is _ c.code.ensures c.in-Some-None.ensures.kind) _ _ (λ es. entry_at es c.args.key)
    (sym c.in-Some-None.field-0-is ∙ c.in-Some-None.ensures.entry) (missing_in c.args.kind) (declines-missing _ c.args.kind) _)

pub returns-in-None : goal.returns-in-None
returns-in-None g c = λ locals. rw (c.in-None.ensures.other.1) (refuses_other _ _ _ _ c.in-Ref.is _ c.code.ensures locals _ c.requires.live c.in-None.ensures.other.0)
