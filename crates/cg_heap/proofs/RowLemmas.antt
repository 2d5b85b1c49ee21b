-- What a caller may conclude about the rows: the objects they name live, and an object found by no query is in no row.
use Rattle.std.proofs.Common.{◌≡◌, ◌≢◌, ◌⊎◌, ℕ, length, Bool, true, false, not, cond, List, [], ◌∷◌, map, Option, Some, None, refl, sym, ap, ◌∙◌, subst, inl, inr, arith}
use Rattle.std.specs.Prelude.{◌==◌, ◌&&◌, find, filter, reverse, slice_get, option_map}
use Rattle.std.specs.List.{All}
use Rattle.std.proofs.lemmas.Bool.{cases_eq, eq-eqb, ne_eqb, eqb-true}
use Rattle.std.proofs.lemmas.List.{length-reverse}
use Rattle.std.proofs.lemmas.List.Elements.{All-nil, All-cons, All-head, All-tail, All-weaker}
use Rattle.cg_value.specs.declared.KindCode.TheVariants.{Weak}
use Rattle.cg_graph.specs.Rows.{Row, referent_in, waited_in, refers_to, waits_with, weak_references_in, waiting_in, without_row}
use Rattle.cg_graph.specs.Store.{Store, IsLive, HasCode}
use Rattle.cg_heap.specs.Weak.{AreRows, IsInNoRow}

-- what a row is found to be
module _ (test : Row → Bool) where
  abbrev found : List Row → ℕ → Option ℕ
  found rows weak = option_map (λ r. r.referent) (find (λ r. (r.weak == weak) && test r) rows)

  -- a property of each row holds for the one found
  of_found : (P : ℕ → ℕ → Type 0) (rows : List Row) (weak o : ℕ) → All (λ r. P r.weak r.referent) rows → found rows weak ≡ Some o → P weak o
  of_found P [] weak o each is = absurd (cc)
  of_found P (r ∷ rows) weak o each is = go (r.weak == weak) refl (test r) refl (of_found P rows weak o (All-tail (λ x. P x.weak x.referent) r rows each))
    where
      here : P r.weak r.referent
      here = All-head (λ x. P x.weak x.referent) r rows each

      spelled : (a b : Bool) → (r.weak == weak) ≡ a → test r ≡ b → option_map (λ r. r.referent) (cond (a && b) (Some r) (find (λ r. (r.weak == weak) && test r) rows)) ≡ Some o
      spelled a b is_a is_b = (λ i. option_map (λ (x : Row). x.referent) (cond (sym is_a i && sym is_b i) (Some r) (find (λ r. (r.weak == weak) && test r) rows))) ∙ is

      go : (a : Bool) → (r.weak == weak) ≡ a → (b : Bool) → test r ≡ b → (found rows weak ≡ Some o → P weak o) → P weak o
      go true is_a true is_b rest =
          let same : Some r.referent ≡ Some o = spelled true true is_a is_b in
          let referent : r.referent ≡ o = cc in
          subst (λ (q : ℕ × ℕ). P q.0 q.1) (λ i. (eqb-true r.weak weak is_a i, referent i)) here
      go true is_a false is_b rest = rest (spelled true false is_a is_b)
      go false is_a b is_b rest = rest (spelled false b is_a is_b)

-- a weak reference with a referent lives, and so does its referent
pub refers_live : (store : Store) → AreRows store → (weak o : ℕ) → referent_in store.rows weak ≡ Some o → HasCode store weak Weak × IsLive store o
refers_live store rows weak o is = (
  of_found (λ r. not r.waits) (λ w x. HasCode store w Weak) store.rows weak o rows.weak is,
  of_found (λ r. not r.waits) (λ w x. IsLive store x) store.rows weak o rows.referent is,
)

-- so do a waiting one and the object with which it waits
pub waits_live : (store : Store) → AreRows store → (weak o : ℕ) → waited_in store.rows weak ≡ Some o → HasCode store weak Weak × IsLive store o
waits_live store rows weak o is = (
  of_found (λ r. r.waits) (λ w x. HasCode store w Weak) store.rows weak o rows.weak is,
  of_found (λ r. r.waits) (λ w x. IsLive store x) store.rows weak o rows.referent is,
)

-- two properties of each element
pub all_both : {X : Type 0} (P Q R : X → Type 0) → ((x : X) → P x → Q x → R x) → (xs : List X) → All P xs → All Q xs → All R xs
all_both P Q R both [] ps qs = All-nil R
all_both P Q R both (x ∷ xs) ps qs = All-cons R x xs (both x (All-head P x xs ps) (All-head Q x xs qs)) (all_both P Q R both xs (All-tail P x xs ps) (All-tail Q x xs qs))

-- if no row passes a test, each fails it
no_newest : (test : Row → Bool) (P : Row → Type 0) → ((r : Row) → test r ≡ false → P r) → (rows : List Row) → slice_get (reverse (map (λ (r : Row). r.weak) (filter test rows))) 0 ≡ None → All P rows
no_newest test P fails rows is = each rows (empty (filter test rows) is)
  where
    nothing : (xs : List ℕ) → slice_get xs 0 ≡ None → length xs ≡ 0
    nothing [] e = refl
    nothing (x ∷ xs) e = absurd (cc)

    empty : (xs : List Row) → slice_get (reverse (map (λ (r : Row). r.weak) xs)) 0 ≡ None → xs ≡ []
    empty [] e = refl
    empty (x ∷ xs) e = absurd (omega (arith, length-reverse (map (λ (r : Row). r.weak) (x ∷ xs)), nothing (reverse (map (λ (r : Row). r.weak) (x ∷ xs))) e))

    each : (xs : List Row) → filter test xs ≡ [] → All P xs
    each [] e = All-nil P
    each (x ∷ xs) e = go (test x) refl (each xs)
      where
        go : (b : Bool) → test x ≡ b → (filter test xs ≡ [] → All P xs) → All P (x ∷ xs)
        go true here rest = absurd (let is : x ∷ filter test xs ≡ [] = sym (ap (λ b. cond b (x ∷ filter test xs) (filter test xs)) here) ∙ e in cc)
        go false here rest = All-cons P x xs (fails x here) (rest (sym (ap (λ b. cond b (x ∷ filter test xs) (filter test xs)) here) ∙ e))

fails : (a b : Bool) → (a && b) ≡ false → (a && not b) ≡ false → a ≡ false
fails true true x y = absurd (let e : true ≡ false = x in cc)
fails true false x y = absurd (let e : true ≡ false = y in cc)
fails false b x y = refl

-- An object that is no weak reference's referent, and with which none waits, is in no row except its own.
pub no_referent : (rows : List Row) (o : ℕ) → slice_get (weak_references_in rows o) 0 ≡ None → slice_get (waiting_in rows o) 0 ≡ None → All (λ r. r.referent ≢ o) rows
no_referent rows o newest waiting =
    all_both (λ r. waits_with o r ≡ false) (λ r. refers_to o r ≡ false) (λ r. r.referent ≢ o)
    (λ r not_waits not_refers same. let no : (r.referent == o) ≡ false = fails (r.referent == o) r.waits not_waits not_refers in let yes : (r.referent == o)
    ≡ true = eq-eqb r.referent o same in absurd (let e : true ≡ false = sym yes ∙ no in cc))
    rows
    (no_newest (waits_with o) (λ r. waits_with o r ≡ false) (λ r is. is) rows waiting)
    (no_newest (refers_to o) (λ r. refers_to o r ≡ false) (λ r is. is) rows newest)

-- An object that is not a weak reference has no row of its own, nor does one whose row has left.
pub no_own_row : (store : Store) → AreRows store → (o : ℕ) → (HasCode store o Weak → ⊥) → All (λ r. r.weak ≢ o) store.rows
no_own_row store rows o other = All-weaker (λ r. HasCode store r.weak Weak) (λ r. r.weak ≢ o) (λ r has same. other (subst (λ w. HasCode store w Weak) same has)) store.rows rows.weak

pub row_left : (weak : ℕ) (rows : List Row) → All (λ r. r.weak ≢ weak) (without_row weak rows)
row_left weak [] = All-nil (λ r. r.weak ≢ weak)
row_left weak (x ∷ rows) = go (cases_eq x.weak weak) (row_left weak rows)
  where
    go : (x.weak ≡ weak) ⊎ (x.weak ≢ weak) → All (λ r. r.weak ≢ weak) (without_row weak rows) → All (λ r. r.weak ≢ weak) (without_row weak (x ∷ rows))
    go (inl same) rest = subst (All (λ r. r.weak ≢ weak)) (sym (ap (λ b. cond (not b) (x ∷ without_row weak rows) (without_row weak rows)) (eq-eqb x.weak weak same))) rest
    go (inr differs) rest = subst (All (λ r. r.weak ≢ weak)) (sym (ap (λ b. cond (not b) (x ∷ without_row weak rows) (without_row weak rows))
        (ne_eqb x.weak weak differs))) (All-cons (λ r. r.weak ≢ weak) x (without_row weak rows) differs rest)

-- together: it is in no row, as `free` requires
pub in_no_row : (rows : List Row) (o : ℕ) → All (λ r. r.weak ≢ o) rows → All (λ r. r.referent ≢ o) rows → IsInNoRow o rows
in_no_row rows o weak referent = all_both (λ r. r.weak ≢ o) (λ r. r.referent ≢ o) (λ r. (r.weak ≢ o) × (r.referent ≢ o)) (λ r w x. (w, x)) rows weak referent
