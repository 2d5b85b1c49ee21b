-- The garbage list gets an entry for each object saved, and there are no more of these than objects.
use Rattle.std.proofs.Common.{◌≡◌, refl, ap, ℕ, suc, ◌+◌, ◌≤◌, Bool, true, false, cond, List, [], ◌∷◌, ◌++◌, length, length-append, arith}
use Rattle.std.specs.Prelude.{◌==◌, filter, if◌then◌else◌}
use Rattle.std.proofs.lemmas.Bool.{eqb-true}
use Rattle.cg_value.specs.declared.Val.TheVariants.{Ref}
use Rattle.cg_graph.specs.Value.{item}
use Rattle.cg_graph.specs.Object.{Object, change, with_entries, serials}
use Rattle.cg_machine.specs.Collect.{saved, all_saved}
use Rattle.cg_represents.proofs.Serials.{Rises, change-below}
use Rattle.cg_laws.proofs.Measure.{entries_in, size_of}
use Rattle.cg_laws.proofs.FewerEntries.{Stays, map_stays, if_same, stays_after}

pub filter_size : (p : Object → Bool) (objects : List Object) → length (serials (filter p objects)) ≤ size_of objects
filter_size p [] = omega arith
filter_size p (x ∷ objects) = go (p x) (filter_size p objects)
  where
    go : (b : Bool) → length (serials (filter p objects)) ≤ size_of objects → length (serials (cond b (x ∷ filter p objects) (filter p objects))) ≤ 1 + size_of objects
    go true h = omega (arith, h)
    go false h = omega (arith, h)

-- one object changes: all entries grow as much as its own
pub change_grows : (f : Object → Object) (k : ℕ) → ((x : Object) → length (f x).entries ≤ length x.entries + k) → (o low high : ℕ) (objects : List Object)
    → Rises low high objects → entries_in (change f o objects) ≤ entries_in objects + k
change_grows f k h o low high [] r = omega arith
change_grows f k h o low high (x ∷ objects) r = go (x.serial == o) refl (change_grows f k h o (suc x.serial) high objects r.1)
  where
    go : (b : Bool) → (x.serial == o) ≡ b → entries_in (change f o objects) ≤ entries_in objects + k → length (if b then f x else x).entries + entries_in
        (change f o objects) ≤ length x.entries + entries_in objects + k
    go true e ih =
        let same : entries_in (change f o objects) ≡ entries_in objects = ap entries_in (change-below f o (suc x.serial) high objects (omega (arith, eqb-true x.serial o e)) r.1) in
        omega (arith, h x, same)
    go false e ih = omega (arith, ih)

abbrev pub entry_for : ℕ → Object → Object
entry_for o x = with_entries (x.entries ++ item (Ref o) ∷ []) x

pub saved_stays : (o : ℕ) (objects : List Object) → Stays (saved o objects) objects
saved_stays o objects = map_stays (λ x. if x.serial == 1 then entry_for o x else x) (if_same (entry_for o) (record { serial = λ x. refl; referent = λ x. refl }) (λ x. x.serial == 1)) objects

pub saved_entries : (o low high : ℕ) (objects : List Object) → Rises low high objects → entries_in (saved o objects) ≤ entries_in objects + 1
saved_entries o low high objects r = change_grows (entry_for o) 1 (λ x. omega (arith, length-append x.entries (item (Ref o) ∷ []))) 1 low high objects r

pub all_saved_stays : (keeps : List ℕ) (objects : List Object) → Stays (all_saved keeps objects) objects
all_saved_stays [] objects = record { rises = λ low high h. h; referents = omega arith; size = omega arith }
all_saved_stays (o ∷ keeps) objects = stays_after (all_saved keeps (saved o objects)) (saved o objects) objects (all_saved_stays keeps (saved o objects)) (saved_stays o objects)

pub all_saved_entries : (keeps : List ℕ) (low high : ℕ) (objects : List Object) → Rises low high objects → entries_in (all_saved keeps objects) ≤ entries_in objects + length keeps
all_saved_entries [] low high objects r = omega arith
all_saved_entries (o ∷ keeps) low high objects r = omega (arith, all_saved_entries keeps low high (saved o objects) ((saved_stays o objects).rises low high r), saved_entries o low high objects r)
