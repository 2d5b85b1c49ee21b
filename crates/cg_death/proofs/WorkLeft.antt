-- The work left in a death decreases.
use Rattle.std.proofs.Common.{◌≡◌, refl, ◌∙◌, ap, ℕ, inr, List, [], ◌∷◌, ◌++◌, length, length-append, Option, Some, None, IsSome, arith}
use Rattle.std.specs.Prelude.{option_map}
use Rattle.std.specs.FinMap as fin
use Rattle.cg_value.specs.declared.Entry.{Entry}
use Rattle.cg_graph.specs.Value.{entry_references, without_last}
use Rattle.cg_graph.specs.Maps.{mapped}
use Rattle.cg_graph.specs.Holdings.{occurrences}
use Rattle.cg_graph.specs.Store.{Store, Node, IsLive, entries_of, entries_in}
use Rattle.cg_graph.specs.Changes.{held, rewritten, more, with_entries, unheld, less}
use Rattle.cg_graph.proofs.Maps.{get-mapped, get-changed_same}
use Rattle.cg_heap.proofs.ReferenceLemmas.{entry-le}
use Rattle.cg_death.specs.declared.release.Release.{Release}
use Rattle.cg_death.specs.declared.phase.Phase.{Phase}
use Rattle.cg_death.specs.declared.phase.Phase.TheVariants as phase_of
use Rattle.cg_death.specs.Activities.{references_left}
use Rattle.cg_death.specs.Falls.{Falls}
use Rattle.cg_death.specs.Deaths.{TakesNext}

-- holds leave entries alone
entries-kept : (g : ℕ → Node → Node) → ((s : ℕ) (n : Node) → (g s n).entries ≡ n.entries) → (store : Store) (q : ℕ) → entries_in (fin.get (mapped g store.nodes) q) ≡ entries_of store q
entries-kept g same store q = ap entries_in (get-mapped g store.nodes q) ∙ known (fin.get store.nodes q)
  where
    known : (x : Option Node) → entries_in (option_map (g q) x) ≡ entries_in x
    known None = refl
    known (Some n) = same q n

pub entries-held : (refs : List ℕ) (store : Store) (q : ℕ) → entries_of (held refs store) q ≡ entries_of store q
entries-held refs = entries-kept (λ s n. more (occurrences s refs) n) (λ s n. refl)

pub entries-unheld : (refs : List ℕ) (store : Store) (q : ℕ) → entries_of (unheld refs store) q ≡ entries_of store q
entries-unheld refs = entries-kept (λ s n. less (occurrences s refs) n) (λ s n. refl)

pub entries-rewritten : (store : Store) (o : ℕ) (entries : List Entry) → IsLive store o → entries_of (rewritten o entries store) o ≡ entries
entries-rewritten store o entries live = ap entries_in (get-changed_same (with_entries entries) o store.nodes o refl) ∙ known (fin.get store.nodes o) live
  where
    known : (x : Option Node) → IsSome x → entries_in (option_map (with_entries entries) x) ≡ entries
    known None h = cc
    known (Some n) h = refl

-- an entry was removed, and its references are to be given up
pub falls-taken : (store : Store) (o : ℕ) (e : Entry) (release : Release) → IsLive store o → entries_of store o ≡ without_last (entries_of store o) ++ e ∷ []
    → references_left release ≡ entry_references e
    → Falls o store phase_of.Emptying None (held (entry_references e) (rewritten o (without_last (entries_of store o)) store)) phase_of.Emptying (Some release)
falls-taken store o e release live last refs =
    let new : entries_of (held (entry_references e) (rewritten o (without_last (entries_of store o)) store)) o ≡ without_last (entries_of store o) =
    entries-held (entry_references e) (rewritten o (without_last (entries_of store o)) store) o ∙ entries-rewritten store o (without_last (entries_of store o)) live in
    let fewer : length (entries_of (held (entry_references e) (rewritten o (without_last (entries_of store o)) store)) o) ≡ length (without_last (entries_of store o)) = ap length new in
    let one_more : length (entries_of store o) ≡ length (without_last (entries_of store o) ++ e ∷ []) = ap length last in
    let few : length (references_left release) ≡ length (entry_references e) = ap length refs in
    inr (refl, omega (arith, fewer, one_more, few, entry-le e, length-append (without_last (entries_of store o)) (e ∷ [])))

-- a callback was given up, and its weak reference comes next
pub falls-call_ended : (store : Store) (o weak callback : ℕ) (release : Release) → references_left release ≡ weak ∷ []
    → Falls o store (phase_of.AfterCall weak callback) None (unheld (callback ∷ []) store) phase_of.Calling (Some release)
falls-call_ended store o weak callback release left =
    let one : length (references_left release) ≡ 1 = ap length left in
    let same : length (entries_of (unheld (callback ∷ []) store) o) ≡ length (entries_of store o) = ap length (entries-unheld (callback ∷ []) store o) in
    inr (refl, omega (arith, one, same))

pub falls-step : (store : Store) (o q : ℕ) (phase : Phase) (before after : Option Release) → TakesNext before (Some q) after → Falls o store phase before (unheld (q ∷ []) store) phase after
falls-step store o q phase None after takes = absurd takes
falls-step store o q phase (Some release) None takes = absurd takes
falls-step store o q phase (Some release) (Some left) takes =
    let fewer : length (references_left release) ≡ length (q ∷ references_left left) = ap length takes in
    let same : length (entries_of (unheld (q ∷ []) store) o) ≡ length (entries_of store o) = ap length (entries-unheld (q ∷ []) store o) in
    inr (refl, omega (arith, fewer, same))
