-- Each turn of a collection leaves fewer condemned objects.
use Rattle.std.proofs.Common.{◌≡◌, refl, sym, ◌∙◌, ap, subst, ℕ, ◌<◌, ◌≤◌, Bool, true, false, List, [], ◌∷◌, ◌++◌, None, arith}
use Rattle.std.specs.Prelude.{◌==◌, if◌then◌else◌}
use Rattle.std.proofs.lemmas.Bool.{eq-eqb}
use Rattle.cg_value.specs.declared.Place.{Place}
use Rattle.cg_value.specs.declared.Place.TheVariants.{Cand}
use Rattle.cg_value.specs.declared.Val.TheVariants.{Ref}
use Rattle.cg_graph.specs.Member.{Includes}
use Rattle.cg_graph.specs.Value.{item}
use Rattle.cg_graph.specs.Object.{Object, change, is_at, same_place, with_place, with_entries, objects_at, serials_at, with_referent}
use Rattle.cg_graph.proofs.Members.{Includes-map, Includes-map_cases, Includes-filter_cases}
use Rattle.cg_machine.specs.Weak.{AllLose, loses_referent}
use Rattle.cg_machine.specs.Collect.{saved}
use Rattle.cg_laws.proofs.Sums.{tally, bit, tally-lt, tally-map_le, tally-map_lt, tally-map_to}
use Rattle.cg_laws.proofs.Measure.{candidates, other_candidate}
use Rattle.cg_laws.proofs.FewerEntries.{if_fades, place_fades, Faded, faded_after, unchanged, change_fades, referent_fades}

-- one of them moves
pub leaves : (p : Place) → same_place p Cand ≡ false → (objects : List Object) (o : ℕ) (x : Object) → Includes objects x → x.serial ≡ o → is_at Cand x ≡ true
    → candidates (change (with_place p) o objects) < candidates objects
leaves p e objects o x m s c =
    tally-map_lt (λ x. bit (is_at Cand x)) (λ x. if x.serial == o then with_place p x else x) (if_fades (with_place p) (place_fades p e) (λ x. x.serial == o)).condemned objects x m
    (subst (λ b. bit (is_at Cand (if b then with_place p x else x)) < bit (is_at Cand x)) (sym (eq-eqb x.serial o s)) (subst (λ b. bit b < bit (is_at Cand x))
    (sym e) (subst (λ b. 0 < bit b) (sym c) (omega arith))))

other_le : (o : ℕ) (x : Object) → other_candidate o x ≤ bit (is_at Cand x)
other_le o x = go (x.serial == o)
  where
    go : (b : Bool) → (if b then 0 else bit (is_at Cand x)) ≤ bit (is_at Cand x)
    go true = omega arith
    go false = omega arith

pub others_fewer : (objects : List Object) (x : Object) → Includes objects x → is_at Cand x ≡ true → tally (other_candidate x.serial) objects < candidates objects
others_fewer objects x m c =
    tally-lt (other_candidate x.serial) (λ x. bit (is_at Cand x)) (other_le x.serial) objects x m
    (subst (λ b. (if b then 0 else bit (is_at Cand x)) < bit (is_at Cand x)) (sym (eq-eqb x.serial x.serial refl)) (subst (λ b. 0 < bit b) (sym c) (omega arith)))

pub only_others : (p : Place) → same_place p Cand ≡ false → (o : ℕ) (objects : List Object) → candidates (change (with_place p) o objects) ≤ tally (other_candidate o) objects
only_others p e o objects = tally-map_to (λ x. bit (is_at Cand x)) (other_candidate o) (λ x. if x.serial == o then with_place p x else x) (λ x. go (x.serial == o) x) objects
  where
    go : (b : Bool) (x : Object) → bit (is_at Cand (if b then with_place p x else x)) ≤ (if b then 0 else bit (is_at Cand x))
    go true x = subst (λ c. bit c ≤ 0) (sym e) (omega arith)
    go false x = omega arith

kept_at : (b : Bool) (f : Object → Object) → ((x : Object) → (f x).place ≡ x.place) → ((x : Object) → (f x).serial ≡ x.serial) → (x : Object)
    → ((if b then f x else x).place ≡ x.place) × ((if b then f x else x).serial ≡ x.serial)
kept_at true f p s x = (p x, s x)
kept_at false f p s x = (refl, refl)

pub saved_leaves : (p : Place) → same_place p Cand ≡ false → (objects : List Object) (x : Object) → Includes objects x → is_at Cand x ≡ true
    → candidates (change (with_place p) x.serial (saved x.serial objects)) < candidates objects
saved_leaves p e objects x m c =
    let kept = kept_at (x.serial == 1) (λ y. with_entries (y.entries ++ item (Ref x.serial) ∷ []) y) (λ y. refl) (λ y. refl) x in
    let fewer = leaves p e (saved x.serial objects) x.serial (if x.serial == 1 then with_entries (x.entries ++ item (Ref x.serial) ∷ []) x else x)
    (Includes-map (λ y. if y.serial == 1 then with_entries (y.entries ++ item (Ref x.serial) ∷ []) y else y) objects x m) kept.1 (ap (λ q. same_place q Cand) kept.0 ∙ c) in
    let same : candidates (saved x.serial objects) ≤ candidates objects = tally-map_le (λ y. bit (is_at Cand y)) (λ y. if y.serial == 1
    then with_entries (y.entries ++ item (Ref x.serial) ∷ []) y else y)
    (λ y. subst (λ q. bit (same_place q Cand) ≤ bit (is_at Cand y)) (sym (kept_at (y.serial == 1) (λ z. with_entries (z.entries ++ item (Ref x.serial) ∷ []) z)
    (λ z. refl) (λ z. refl) y).0) (omega arith)) objects in
    omega (arith, fewer, same)

pub member_at : (objects : List Object) (p : Place) (o : ℕ) → Includes (serials_at objects p) o → (x : Object) × Includes objects x × (x.serial ≡ o) × (is_at p x ≡ true)
member_at objects p o m =
    let found = Includes-map_cases (λ (x : Object). x.serial) (objects_at objects p) o m in
    let kept = Includes-filter_cases (is_at p) objects found.0 found.1 in
    (found.0, kept.0, found.2, kept.1)

-- weak references that lose their referents
pub AllLose-fades : (wanted : Object → Bool) (objects : List Object) (weaks : List ℕ) (after : List Object) → AllLose wanted objects weaks after → Faded after objects
AllLose-fades wanted objects [] after l = subst (λ os. Faded os objects) (sym l.1) (unchanged objects)
AllLose-fades wanted objects (weak ∷ weaks) after l =
    faded_after after (loses_referent weak objects) objects (AllLose-fades wanted (loses_referent weak objects) weaks after l.1) (change_fades (with_referent None) referent_fades weak objects)
