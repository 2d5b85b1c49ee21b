-- What the layer above may conclude for a step from what it knows of the world: what a death requires of the heap, in
-- each world that the heap represents.
use Rattle.std.proofs.Common.{◌≡◌, ◌≢◌, refl, sym, ◌∙◌, ap, subst, ℕ, ◌+◌, ◌<◌, true, false, List, [], ◌∷◌, ◌++◌, Option, Some, None, IsSome, arith}
use Rattle.std.specs.Prelude.{flat_map, option_map, slice_get, is_some}
use Rattle.std.specs.List.{All}
use Rattle.std.specs.FinMap as fin
use Rattle.cg_graph.specs.Member.{Includes}
use Rattle.cg_graph.specs.Holdings.{occurrences}
use Rattle.cg_graph.specs.Object.{object_at, is_in_map}
use Rattle.cg_graph.specs.Rows.{weak_references_in}
use Rattle.cg_graph.specs.Store.{Store, Node, object_from, outside_of, IsLive, waiting_for}
use Rattle.cg_graph.proofs.Objects.{object-at, occurrences-append}
use Rattle.cg_machine.specs.World.{World, Activity}
use Rattle.cg_machine.specs.Holdings.{holds, in_degree}
use Rattle.cg_machine.specs.Weak.{weak_references}
use Rattle.cg_represents.specs.Represents.{Represents}
use Rattle.cg_heap.specs.Weak.{AreRows}
use Rattle.cg_heap.proofs.RowLemmas.{no_referent}
use Rattle.cg_death.specs.declared.death.Death.{Death}
use Rattle.cg_death.specs.Activities.{IsUnheld, HasHolds, AreNewer}
use Rattle.cg_death.specs.Deaths.{on_stack, held_by}
use Rattle.cg_represents.proofs.Representing.{count-in_degree}
use Rattle.cg_death.proofs.WeakObjects.{weak_references-are}

-- what is on top of the stack is held from outside
pub held_on_top : (store : Store) (w : World) → Represents store w → (tops below : List Activity) → w.stack ≡ tops ++ below → HasHolds store (flat_map holds tops)
held_on_top store w r tops below top s =
    let all : outside_of store s ≡ occurrences s (flat_map holds (tops ++ below)) = r.outside s ∙ ap (λ st. occurrences s (flat_map holds st)) top in
    omega (arith, all, split tops)
  where
    split : (xs : List Activity) → occurrences s (flat_map holds (xs ++ below)) ≡ occurrences s (flat_map holds xs) + occurrences s (flat_map holds below)
    split [] = omega arith
    split (a ∷ xs) = omega (arith, split xs, occurrences-append s (holds a) (flat_map holds (xs ++ below)), occurrences-append s (holds a) (flat_map holds xs))

pub death_is_held : (store : Store) (w : World) → Represents store w → (d : Death) (below : List Activity) → w.stack ≡ on_stack d store ++ below → HasHolds store (held_by d store)
death_is_held store w r d below top = held_on_top store w r (on_stack d store) below top

-- an object of the world lives in the heap
pub lives_in_heap : (store : Store) (w : World) → Represents store w → (o : ℕ) → is_in_map w.objects o ≡ true → IsLive store o
lives_in_heap store w r o there = known (fin.get store.nodes o) (sym (ap is_some (sym (ap (λ os. object_at os o) r.objects) ∙ object-at store o)) ∙ there)
  where
    known : (x : Option Node) → is_some (option_map (object_from store.rows o) x) ≡ true → IsSome x
    known None e = absurd (let x : false ≡ true = e in cc)
    known (Some n) e = refl

-- and is unheld there if it is unheld in the world
pub unheld_in_heap : (store : Store) (w : World) → Represents store w → (o : ℕ) → is_in_map w.objects o ≡ true → in_degree w o ≡ 0 → IsUnheld store o
unheld_in_heap store w r o there none = record { live = lives_in_heap store w r o there; none = count-in_degree store w r o ∙ none }

-- the weak references of the world are those of the rows
pub rows_of_world : (store : Store) (w : World) → Represents store w → AreRows store → (o : ℕ) → weak_references w.objects o ≡ weak_references_in store.rows o
rows_of_world store w r ok o = ap (λ os. weak_references os o) (sym r.objects) ∙ weak_references-are store ok o

-- a waiting weak reference is newer than the others
pub newer_in_heap : (store : Store) (w : World) → Represents store w → AreRows store → (o : ℕ) (waiting : List ℕ) → waiting ≡ waiting_for store o
    → ((v q : ℕ) → Includes waiting v → Includes (weak_references w.objects o) q → q < v) → AreNewer store o
newer_in_heap store w r ok o waiting is newer v q waits refers = newer v q (subst (λ l. Includes l v) (sym is) waits) (subst (λ l. Includes l q) (sym (rows_of_world store w r ok o)) refers)

-- no row refers to the object if no weak reference does and none waits
pub no_referent_in_heap : (store : Store) (w : World) → Represents store w → AreRows store → (o : ℕ) → weak_references w.objects o ≡ [] → waiting_for store o
    ≡ [] → All (λ r. r.referent ≢ o) store.rows
no_referent_in_heap store w r ok o none none_waits =
    no_referent store.rows o (ap (λ l. slice_get l 0) (sym (rows_of_world store w r ok o) ∙ none)) (ap (λ l. slice_get l 0) none_waits)
