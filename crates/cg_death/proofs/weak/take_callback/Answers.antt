use Rattle.std.proofs.Common.{◌≡◌, ◌∙◌, [], ◌∷◌, ◌++◌, IsSome, refl, subst, sym, ap}
use Rattle.std.specs.Prelude.{IfSome}
use Rattle.cg_value.specs.declared.Entry.{Entry}
use Rattle.cg_value.specs.declared.Val.TheVariants.{Ref}
use Rattle.cg_graph.specs.Value.{item, reference_in, entry_references, without_last}
use Rattle.cg_graph.specs.Store.{entries_of}
use Rattle.cg_graph.specs.Changes.{held, rewritten}
use Rattle.cg_death.proofs.Querying.{entry_there, entry-is, callback-is, taken-is}
use Rattle.cg_death.proofs.weak.take_callback.Goals as goal

pub unwrap-entry-requires : goal.unwrap-entry-requires
unwrap-entry-requires g c = entry_there (entries_of c.args.heap.now c.args.weak) (item (Ref c.requires.callback.0)) c.detach.result c.requires.callback.1 c.detach.ensures.empty

pub unwrap-requires : goal.unwrap-requires
unwrap-requires g c =
    let last : entries_of c.args.heap.now c.args.weak ≡ without_last (entries_of c.args.heap.now c.args.weak) ++ c.unwrap-entry.result ∷ [] =
    subst (λ r. IfSome r (λ e. entries_of c.args.heap.now c.args.weak ≡ without_last (entries_of c.args.heap.now c.args.weak) ++ e ∷ [])) c.unwrap-entry.ensures c.detach.ensures.last in
    let entry : c.unwrap-entry.result ≡ item (Ref c.requires.callback.0) = entry-is (entries_of c.args.heap.now c.args.weak) (item (Ref c.requires.callback.0))
    c.unwrap-entry.result c.requires.callback.1 last in
    subst IsSome (sym (c.reference_in.ensures ∙ ap (λ (e : Entry). reference_in e.val) entry)) refl

pub returns-clause-callback : goal.returns-clause-callback
returns-clause-callback g c =
    let last : entries_of c.args.heap.now c.args.weak ≡ without_last (entries_of c.args.heap.now c.args.weak) ++ c.unwrap-entry.result ∷ [] =
    subst (λ r. IfSome r (λ e. entries_of c.args.heap.now c.args.weak ≡ without_last (entries_of c.args.heap.now c.args.weak) ++ e ∷ [])) c.unwrap-entry.ensures c.detach.ensures.last in
    callback-is c.args.heap.now c.args.weak c.requires.callback.0 c.unwrap.result c.unwrap-entry.result c.requires.callback.1 last (sym c.reference_in.ensures ∙ c.unwrap.ensures)

pub returns-clause-rest : goal.returns-clause-rest
returns-clause-rest g c =
    let last : entries_of c.args.heap.now c.args.weak ≡ without_last (entries_of c.args.heap.now c.args.weak) ++ c.unwrap-entry.result ∷ [] =
    subst (λ r. IfSome r (λ e. entries_of c.args.heap.now c.args.weak ≡ without_last (entries_of c.args.heap.now c.args.weak) ++ e ∷ [])) c.unwrap-entry.ensures c.detach.ensures.last in
    taken-is c.args.heap.now c.detach.new.self c.args.weak c.unwrap.result c.unwrap-entry.result
    (callback-is c.args.heap.now c.args.weak c.requires.callback.0 c.unwrap.result c.unwrap-entry.result c.requires.callback.1 last (sym c.reference_in.ensures ∙ c.unwrap.ensures))
    last
    (subst (λ r. IfSome r (λ e. c.detach.new.self ≡ held (entry_references e) (rewritten c.args.weak (without_last (entries_of c.args.heap.now c.args.weak))
    c.args.heap.now))) c.unwrap-entry.ensures c.detach.ensures.rest)
