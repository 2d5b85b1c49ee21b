-- How often an object occurs in references: of values, of entries, and of lists of entries.
use Rattle.std.proofs.Common.{◌≡◌, ℕ, zero, suc, ◌+◌, ◌-◌, ◌*◌, ◌<◌, ◌≤◌, Bool, List, [], ◌∷◌, ◌++◌, length, Option, Some, None, cond, refl, ap, ◌∙◌, inl, inr, arith, length-append, remove, take}
use Rattle.std.specs.Prelude.{◌==◌, slice_get, option_to_list}
use Rattle.std.proofs.lemmas.Bool.{cases_eq, ne_eqb}
use Rattle.std.proofs.lemmas.List.Sums.{sum_by-append, sum_by-cons, count_by-le-length}
use Rattle.cg_value.specs.declared.Val.{Val}
use Rattle.cg_value.specs.declared.Val.TheVariants as val
use Rattle.cg_value.specs.declared.Entry.{Entry}
use Rattle.cg_graph.specs.Holdings.{occurrences, name_holdings}
use Rattle.cg_graph.specs.Value.{references, entry_references, reference_in, references_of_value, item, without_last}

-- at most one reference in a value, and at most two in an entry
pub reference-le : (v : Val) → length (option_to_list (reference_in v)) ≤ 1
reference-le val.None = omega arith
reference-le (val.Int n) = omega arith
reference-le (val.Str n) = omega arith
reference-le (val.Ref n) = omega arith

pub name-le : (v : Option Val) → length (references_of_value v) ≤ 1
name-le None = omega arith
name-le (Some v) = reference-le v

pub names-le : (names : List (Option Val)) → length (name_holdings names) ≤ length names
names-le [] = omega arith
names-le (v ∷ names) = omega (arith, length-append (references_of_value v) (name_holdings names), name-le v, names-le names)

pub entry-le : (e : Entry) → length (entry_references e) ≤ 2
entry-le e = omega (arith, length-append (option_to_list (reference_in e.val)) (option_to_list (reference_in e.key)), reference-le e.val, reference-le e.key)

pub references-le : (es : List Entry) → length (references es) ≤ 2 * length es
references-le [] = omega arith
references-le (e ∷ es) =
    omega (arith, length-append (entry_references e) (references es), entry-le e, references-le es)

pub occurrences-le : (s : ℕ) (xs : List ℕ) → occurrences s xs ≤ length xs
occurrences-le s xs = count_by-le-length (λ r. r == s) xs

abbrev pub one_if : Bool → ℕ
one_if b = cond b 1 0

pub occurrences-one : (s o : ℕ) → occurrences s (o ∷ []) ≡ one_if (o == s)
occurrences-one s o = omega (arith, sum_by-cons {X = ℕ} (λ r. cond (r == s) 1 0) o [])

pub occurrences-append : (s : ℕ) (xs ys : List ℕ) → occurrences s (xs ++ ys) ≡ occurrences s xs + occurrences s ys
occurrences-append s xs ys = sum_by-append (λ r. cond (r == s) 1 0) xs ys

-- the references of a list with an entry appended or removed
pub references-append : (s : ℕ) (xs ys : List Entry) → occurrences s (references (xs ++ ys)) ≡ occurrences s (references xs) + occurrences s (references ys)
references-append s [] ys = omega arith
references-append s (x ∷ xs) ys =
    omega (arith, occurrences-append s (entry_references x) (references (xs ++ ys)), occurrences-append s (entry_references x) (references xs), references-append s xs ys)

some_same : (x y : Entry) → Some x ≡ Some y → x ≡ y
some_same x y e = cc

pub references-remove : (s : ℕ) (es : List Entry) (i : ℕ) (e : Entry) → slice_get es i ≡ Some e → occurrences s (references es)
    ≡ occurrences s (references (remove es i)) + occurrences s (entry_references e)
references-remove s [] i e at = absurd (cc)
references-remove s (x ∷ es) zero e at =
    let is : x ≡ e = some_same x e at in
    occurrences-append s (entry_references x) (references es) ∙ ap (λ y. occurrences s (entry_references y) + occurrences s (references es)) is ∙ omega arith
references-remove s (x ∷ es) (suc i) e at =
    omega (arith, occurrences-append s (entry_references x) (references es), occurrences-append s (entry_references x) (references (remove es i)), references-remove s es i e at)

pub length-remove : (es : List Entry) (i : ℕ) (e : Entry) → slice_get es i ≡ Some e → length es ≡ suc (length (remove es i))
length-remove [] i e at = absurd (cc)
length-remove (x ∷ es) zero e at = refl
length-remove (x ∷ es) (suc i) e at = ap suc (length-remove es i e at)

-- the last entry removed
pub last-remove : (es rest : List Entry) (e : Entry) → es ≡ rest ++ e ∷ [] → (without_last es ≡ rest) × ((s : ℕ) → occurrences s (references es)
    ≡ occurrences s (references rest) + occurrences s (entry_references e)) × (length es ≡ suc (length rest))
last-remove es rest e is =
    let len : length es ≡ length rest + 1 = ap length is ∙ length-append rest (e ∷ []) in
    let before : length es - 1 ≡ length rest = omega (arith, len) in (
      (λ i. take (before i) (is i)) ∙ front rest,
      λ s. ap (λ l. occurrences s (references l)) is ∙ references-append s rest (e ∷ []) ∙ omega (arith, occurrences-append s (entry_references e) []),
      omega (arith, len),
    )
  where
    front : (xs : List Entry) → take (length xs) (xs ++ e ∷ []) ≡ xs
    front [] = refl
    front (x ∷ xs) = ap (λ l. x ∷ l) (front xs)

pub occurrences-item : (s : ℕ) (v : Val) → occurrences s (entry_references (item v)) ≡ occurrences s (references_of_value (Some v))
occurrences-item s v = omega (arith, occurrences-append s (references_of_value (Some v)) [])

pub push-item : (s : ℕ) (es : List Entry) (v : Val) → occurrences s (references (es ++ item v ∷ [])) ≡ occurrences s (references es) + occurrences s (references_of_value (Some v))
push-item s es v = omega (arith, references-append s es (item v ∷ []), occurrences-append s (entry_references (item v)) [], occurrences-item s v)

-- what a value refers to
pub refs-are : (v : Val) (s : ℕ) → 0 < occurrences s (references_of_value (Some v)) → v ≡ val.Ref s
refs-are val.None s h = absurd (omega (arith, h))
refs-are (val.Int n) s h = absurd (omega (arith, h))
refs-are (val.Str n) s h = absurd (omega (arith, h))
refs-are (val.Ref o) s h =
    elim (cases_eq o s) [
      | inl same ↦ ap val.Ref same
      | inr differs ↦
          let none : one_if (o == s) ≡ 0 = ap one_if (ne_eqb o s differs) in
          absurd (omega (arith, h, none, occurrences-one s o))
    ]
