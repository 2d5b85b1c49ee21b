-- What a change of place, a mark or a hold does to a heap that represents a world.
use Rattle.std.proofs.Common.{◌≡◌, ◌≢◌, refl, sym, ◌∙◌, ap, subst, ℕ, ◌<◌, Bool, true, false, cond, not, inl, inr, List, [], ◌∷◌, ◌++◌, length, set, arith}
use Rattle.std.specs.Prelude.{◌⊎◌, ◌==◌, if◌then◌else◌}
use Rattle.std.proofs.lemmas.Bool.{cases_eq, cases_lt, eq-eqb, ne_eqb}
use Rattle.std.proofs.lemmas.List.{get_or-set_same, get_or-set_other, get_or_past, length-set}
use Rattle.cg_value.specs.declared.Place.{Place}
use Rattle.cg_value.specs.declared.Place.TheVariants.{Pend}
use Rattle.cg_graph.specs.Member.{Includes}
use Rattle.cg_graph.specs.Holdings.{occurrences}
use Rattle.cg_graph.specs.Object.{Object, change, with_place as object_placed, marked as object_marked}
use Rattle.cg_graph.specs.Places.{place_number, list_of, without_serial, leaves_list}
use Rattle.cg_graph.specs.Store.{Store, count_of, list_at, place_of}
use Rattle.cg_graph.specs.Changes.{held, more, moved, with_place}
use Rattle.cg_graph.proofs.Objects.{objects-same, objects-changed}
use Rattle.cg_graph.proofs.Members.{either}
use Rattle.cg_machine.specs.World.{World, Collecting, Collection, CollectPhase, WeakClearing, WeakCalling, AfterCallback, AfterRelease, with_change}
use Rattle.cg_machine.specs.Holdings.{collect_holds}
use Rattle.cg_represents.specs.Represents.{Represents, CollectionWaits}
use Rattle.cg_heap.specs.Calls.{with_node, marked}
use Rattle.cg_represents.proofs.Representing.{held_by_one, Matches}
use Rattle.cg_represents.proofs.Lists.{occurrences-cons}
use Rattle.cg_death.proofs.Worlds.{matches-alike}

-- a list without a serial that it does not contain
without-absent : (o : ℕ) (xs : List ℕ) → occurrences o xs ≡ 0 → without_serial o xs ≡ xs
without-absent o [] none = refl
without-absent o (x ∷ xs) none =
    elim (cases_eq o x) [
      | inl same ↦ absurd (omega (arith, none, occurrences-cons o x xs, one x same))
      | inr differs ↦
          ap (λ b. cond (not b) (x ∷ without_serial o xs) (without_serial o xs)) (ne_eqb o x differs)
          ∙ ap (λ l. x ∷ l) (without-absent o xs (omega (arith, none, occurrences-cons o x xs)))
    ]
  where
    one : (x : ℕ) → o ≡ x → cond {A = ℕ} (x == o) 1 0 ≡ 1
    one x same = ap (λ b. cond {A = ℕ} b 1 0) (eq-eqb x o (sym same))

-- what a collection waits with stays after an object that it does not hold has left the list
waits-without : (o : ℕ) (phase : CollectPhase) (pending : List ℕ) → occurrences o (collect_holds phase) ≡ 0 → CollectionWaits phase pending → CollectionWaits phase (without_serial o pending)
waits-without o (WeakClearing waiting) pending none is = ap (without_serial o) is ∙ without-absent o waiting none
waits-without o (WeakCalling waiting) pending none is = ap (without_serial o) is ∙ without-absent o waiting none
waits-without o (AfterCallback weak waiting) pending none is = ap (without_serial o) is ∙ without-absent o (weak ∷ waiting) none
waits-without o (AfterRelease weak waiting) pending none (inl is) = inl (ap (without_serial o) is ∙ without-absent o waiting none)
waits-without o (AfterRelease weak waiting) pending none (inr is) =
    elim (cases_eq o weak) [
      | inl same ↦ inl (ap (without_serial o) is ∙ ap (λ b. cond (not b) (weak ∷ without_serial o waiting) (without_serial o waiting)) (eq-eqb o weak same) ∙ without-absent o waiting none)
      | inr differs ↦ inr (ap (without_serial o) is ∙ ap (λ b. cond (not b) (weak ∷ without_serial o waiting) (without_serial o waiting))
          (ne_eqb o weak differs) ∙ ap (λ l. weak ∷ l) (without-absent o waiting none))
    ]
waits-without o phase pending none is = ap (without_serial o) is

-- a list that an object leaves, and the others
pub left-cases : (lists : List (List ℕ)) (o p q : ℕ) → (list_of (leaves_list lists o p) q ≡ list_of lists q) ⊎ (list_of (leaves_list lists o p) q ≡ without_serial o (list_of lists q))
left-cases lists o p q =
    either (cases_eq q p)
    (λ same. either (cases_lt q (length lists))
    (λ within. inr (ap (λ k. list_of (leaves_list lists o k) q) (sym same) ∙ get_or-set_same lists q (without_serial o (list_of lists q)) [] within))
    (λ past. inl (ap (λ k. list_of (leaves_list lists o k) q) (sym same) ∙ get_or_past (set lists q (without_serial o (list_of lists q))) q []
    (omega (arith, past, length-set lists q (without_serial o (list_of lists q)))) ∙ sym (get_or_past lists q [] past))))
    (λ differs. inl (get_or-set_other lists p q (without_serial o (list_of lists p)) [] differs))

-- no collection holds an unheld object
unheld_by : (store : Store) (w : World) → Represents store w → (o : ℕ) → count_of store o ≡ 0 → (c : Collection) → Includes w.stack (Collecting c) → occurrences o (collect_holds c.phase) ≡ 0
unheld_by store w r o none c m = let there = held_by_one o w.stack (Collecting c) m in omega (arith, there, r.outside o, none)

-- the waiting ones of a collection, after such an object moved or was freed
abbrev pub StillWaits : Store → Store → World → Type 0
StillWaits store new w = (c : Collection) → Includes w.stack (Collecting c) → CollectionWaits c.phase (list_at new Pend)

pub still-waits : (store : Store) (w : World) → Represents store w → (o : ℕ) → count_of store o ≡ 0 → (new : Store) → (list_at new Pend ≡ list_at store Pend)
    ⊎ (list_at new Pend ≡ without_serial o (list_at store Pend)) → StillWaits store new w
still-waits store w r o none new (inl e) c m = subst (CollectionWaits c.phase) (sym e) (r.collection c m)
still-waits store w r o none new (inr e) c m = subst (CollectionWaits c.phase) (sym e) (waits-without o c.phase (list_at store Pend) (unheld_by store w r o none c m) (r.collection c m))

pub matches-held : (refs : List ℕ) (store : Store) (w : World) → Matches store w → Matches (held refs store) w
matches-held refs store w m = matches-alike store (held refs store).nodes w w.objects m (objects-same store (λ s n. more (occurrences s refs) n) (λ s n. refl) ∙ m.objects)

-- What waits in a collection, after an object moved to a place that does not exist.
pub moved-cases : (store : Store) (o : ℕ) (q : Place) → 6 ≢ place_number q → (list_at (moved o q store) Pend ≡ list_at store Pend)
    ⊎ (list_at (moved o q store) Pend ≡ without_serial o (list_at store Pend))
moved-cases store o q differs =
    let left = leaves_list store.lists o (place_number (place_of store o)) in
    let kept : list_at (moved o q store) Pend ≡ list_of left 6 = get_or-set_other left (place_number q) 6 (list_of left (place_number q) ++ o ∷ []) [] differs in
    either (left-cases store.lists o (place_number (place_of store o)) 6) (λ e. inl (kept ∙ e)) (λ e. inr (kept ∙ e))

-- an object changed twice
pub change-change : (f g : Object → Object) → ((x : Object) → (g x).serial ≡ x.serial) → (o : ℕ) (objects : List Object) → change f o (change g o objects) ≡ change (λ x. f (g x)) o objects
change-change f g same o [] = refl
change-change f g same o (x ∷ objects) = λ i. each (x.serial == o) refl i ∷ change-change f g same o objects i
  where
    each : (b : Bool) → (x.serial == o) ≡ b → (if (if b then g x else x).serial == o then f (if b then g x else x) else (if b then g x else x)) ≡ (if b then f (g x) else x)
    each true e = ap (λ c. if c then f (g x) else g x) (ap (λ s. s == o) (same x) ∙ e)
    each false e = ap (λ c. if c then f x else x) e

-- an unheld object moves
pub matches-moved : (store : Store) (w : World) (o : ℕ) (q : Place) → 6 ≢ place_number q → Represents store w → count_of store o ≡ 0 → Matches (moved o q store) (with_change (object_placed q) o w)
matches-moved store w o q differs r none = record {
  objects = objects-changed store o (with_place q) (object_placed q) (λ s n. refl) ∙ ap (change (object_placed q) o) r.objects;
  next_serial = r.next_serial;
  names = r.names;
  deaths = r.deaths;
  no_others = r.no_others;
  collection = still-waits store w r o none (moved o q store) (moved-cases store o q differs);
}

-- and is marked
pub matches-marked : (store : Store) (w : World) (o : ℕ) (q : Place) → Matches store (with_change (object_placed q) o w) → Matches (with_node marked o store)
    (with_change (λ x. object_marked (object_placed q x)) o w)
matches-marked store w o q m = matches-alike store (with_node marked o store).nodes (with_change (object_placed q) o w) (change (λ x. object_marked (object_placed q x)) o w.objects) m
    (objects-changed store o marked object_marked (λ s n. refl) ∙ ap (change object_marked o) m.objects ∙ change-change object_marked (object_placed q) (λ x. refl) o w.objects)

pub only-one : (o q : ℕ) → 0 < occurrences q (o ∷ []) → q ≡ o
only-one o q there = elim (cases_eq o q) [
  | inl same ↦ sym same
  | inr differs ↦ absurd (omega (arith, there, occurrences-cons q o [], none differs))
]
  where
    none : o ≢ q → cond {A = ℕ} (o == q) 1 0 ≡ 0
    none differs = ap (λ b. cond {A = ℕ} b 1 0) (ne_eqb o q differs)
