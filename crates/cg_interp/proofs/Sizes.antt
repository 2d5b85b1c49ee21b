-- Bounds on the lists of a heap, its rows, and the entries of an object.
use Rattle.std.proofs.Common.{◌≡◌, refl, sym, ap, subst, ℕ, zero, suc, ◌+◌, ◌<◌, ◌≤◌, Bool, true, false, cond, List, [], ◌∷◌, length, map, Option, Some, None, IsSome, length-append, arith}
use Rattle.std.specs.Prelude.{◌==◌, All}
use Rattle.std.specs.FinMap as fin
use Rattle.std.proofs.lemmas.Bool.{eqb-true}
use Rattle.std.proofs.lemmas.List.{length-map}
use Rattle.std.proofs.lemmas.List.Elements.{All-head, All-tail}
use Rattle.cg_value.specs.declared.Entry.{Entry}
use Rattle.cg_value.specs.declared.Place.{Place}
use Rattle.cg_value.specs.declared.KindCode.TheVariants.{Weak}
use Rattle.cg_graph.specs.Maps.{total, part}
use Rattle.cg_graph.specs.Member.{Includes}
use Rattle.cg_graph.specs.Holdings.{occurrences}
use Rattle.cg_graph.specs.Value.{references, entry_references}
use Rattle.cg_graph.specs.Object.{Object, serials}
use Rattle.cg_graph.specs.Rows.{Row, IsRising}
use Rattle.cg_graph.specs.Store.{Store, Node, held_within, held_by, inner, list_at, objects_of, object_from, entries_of, entries_in, IsLive, HasCode}
use Rattle.cg_graph.proofs.Maps.{total-remove}
use Rattle.cg_graph.proofs.Members.{Includes-map, Includes-map_cases}
use Rattle.cg_heap.specs.Keeps.{size, IsSaved}
use Rattle.cg_heap.specs.Calls.{IsSound}
use Rattle.cg_represents.proofs.Lists.{occurrences-cons, fewer_times, present, Includes-of_count}
use Rattle.cg_death.proofs.RowSplits.{all_in}
use Rattle.cg_collect.proofs.PlacesOfObjects.{node_of_live, object_there}
use Rattle.cg_collect.proofs.WalkTurns.{list_few}
use Rattle.cg_interp.proofs.LawsOfEngines.{few_objects}

-- exposes the heap's invariant to proofs
pub record IsSmall (store : Store) : Type 0 where
  pub lists : (p : Place) → length (list_at store p) ≤ 1000001
  pub rows : length store.rows ≤ 1000001
  pub entries : (o : ℕ) → length (entries_of store o) ≤ 5000001

-- there are at most as many different serials as objects
different_few : (store : Store) → IsSound store → (xs : List ℕ) → ((s : ℕ) → occurrences s xs ≤ 1) → ((s : ℕ) → 0 < occurrences s xs → IsLive store s) → length xs ≤ 1000001
different_few store sound xs once live =
    let fits = fewer_times xs (serials (objects_of store)) (λ s. go s (occurrences s xs) refl) in
    omega (arith, fits, length-map (objects_of store) (λ (x : Object). x.serial), few_objects store sound.objects)
  where
    there : (s : ℕ) → IsLive store s → 0 < occurrences s (serials (objects_of store))
    there s lives =
        let (n, got) = node_of_live store s lives in
        present s (serials (objects_of store)) (Includes-map (λ (x : Object). x.serial) (objects_of store) (object_from store.rows s n) (object_there store s n got))

    go : (s n : ℕ) → occurrences s xs ≡ n → occurrences s xs ≤ occurrences s (serials (objects_of store))
    go s zero e = omega (arith, e)
    go s (suc n) e = let some = once s in let more = there s (live s (omega (arith, e))) in omega (arith, some, more)

-- Rows rise by weak reference, so each belongs to another one.
above_all : (r : Row) (rows : List Row) → All (λ (x : Row). r.weak < x.weak) rows → (s : ℕ) → Includes (map (λ (x : Row). x.weak) rows) s → r.weak < s
above_all r rows above s m =
    let (x, inside, is) = Includes-map_cases (λ (x : Row). x.weak) rows s m in
    subst (λ k. r.weak < k) is (all_in (λ (x : Row). r.weak < x.weak) rows x above inside)

weak_once : (rows : List Row) → IsRising rows → (s : ℕ) → occurrences s (map (λ (r : Row). r.weak) rows) ≤ 1
weak_once [] rise s = omega arith
weak_once (r ∷ rows) rise s = go (weak_once rows rise.1 s) (occurrences s (map (λ (x : Row). x.weak) rows)) refl (r.weak == s) refl
  where
    here : occurrences s (r.weak ∷ map (λ (x : Row). x.weak) rows) ≡ cond (r.weak == s) 1 0 + occurrences s (map (λ (x : Row). x.weak) rows)
    here = occurrences-cons s r.weak (map (λ (x : Row). x.weak) rows)

    go : occurrences s (map (λ (x : Row). x.weak) rows) ≤ 1 → (n : ℕ) → occurrences s (map (λ (x : Row). x.weak) rows) ≡ n → (b : Bool) → (r.weak == s) ≡ b
        → occurrences s (r.weak ∷ map (λ (x : Row). x.weak) rows) ≤ 1
    go rest n e false is = let none : cond {A = ℕ} (r.weak == s) 1 0 ≡ 0 = ap (λ b. cond {A = ℕ} b 1 0) is in omega (arith, here, rest, none)
    go rest zero e true is = let one : cond {A = ℕ} (r.weak == s) 1 0 ≡ 1 = ap (λ b. cond {A = ℕ} b 1 0) is in omega (arith, here, one, e)
    go rest (suc n) e true is =
        let same : r.weak ≡ s = eqb-true r.weak s is in
        let low = above_all r rows rise.0 s (Includes-of_count s (map (λ (x : Row). x.weak) rows) (omega (arith, e))) in
        absurd (omega (arith, low, same))

rows_few : (store : Store) → IsSound store → length store.rows ≤ 1000001
rows_few store sound =
    let few = different_few store sound (map (λ (r : Row). r.weak) store.rows) (weak_once store.rows sound.rows.rise) (λ s there.
    let (r, inside, is) = Includes-map_cases (λ (r : Row). r.weak) store.rows s (Includes-of_count s (map (λ (r : Row). r.weak) store.rows) there) in
    let (n, got, code) = all_in (λ (x : Row). HasCode store x.weak Weak) store.rows r sound.rows.weak inside in
    subst (IsLive store) is (subst IsSome (sym got) refl)) in
    omega (arith, few, length-map store.rows (λ (r : Row). r.weak))

-- The garbage list has no duplicates.
saved_length : (es : List Entry) → All IsSaved es → length (references es) ≡ length es
saved_length [] h = refl
saved_length (e ∷ es) h =
    let (s, is) = All-head IsSaved e es h in
    let one : length (entry_references e) ≡ 1 = ap (λ y. length (entry_references y)) is in
    omega (arith, one, length-append (entry_references e) (references es), saved_length es (All-tail IsSaved e es h))

held_by_garbage : (store : Store) (s : ℕ) → 0 < occurrences s (references (entries_of store 1)) → 0 < inner store s
unfolding held_within
held_by_garbage store s held =
    let here = known (fin.get store.nodes 1) in
    let all = total-remove (held_by s) store.nodes 1 in
    omega (arith, here, all, held)
  where
    known : (x : Option Node) → part (held_by s) x ≡ occurrences s (references (entries_in x))
    known None = refl
    known (Some n) = refl

garbage_few : (store : Store) → IsSound store → length (entries_of store 1) ≤ 1000001
garbage_few store sound =
    let saved : List ℕ = references (entries_of store 1) in
    let few = different_few store sound saved (λ s. omega (arith, sound.garbage.once s, occurrences-cons s 1 saved)) (λ s there. sound.live s (held_by_garbage store s there)) in
    omega (arith, few, saved_length (entries_of store 1) sound.garbage.saved)

-- no object has more entries than all together
part_few : (store : Store) (o : ℕ) → length (entries_of store o) ≤ total size store.nodes
part_few store o =
    let here = known (fin.get store.nodes o) in
    let all = total-remove size store.nodes o in
    omega (arith, here, all)
  where
    known : (x : Option Node) → part size x ≡ length (entries_in x)
    known None = refl
    known (Some n) = refl

pub small : (store : Store) → IsSound store → IsSmall store
small store sound = record {
  lists = list_few store sound;
  rows = rows_few store sound;
  entries = λ o. omega (arith, part_few store o, garbage_few store sound, sound.entries);
}
