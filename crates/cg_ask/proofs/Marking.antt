-- Marks that represent sets of members.
use Rattle.std.proofs.Common.{◌≡◌, refl, sym, ◌∙◌, ap, subst, ℕ, zero, suc, ◌+◌, ◌<◌, ◌≤◌, Bool, true, false, not, nat_lt, ◌&&◌, ◌||◌, ◌⊎◌, inl, inr, List, [], ◌∷◌, ◌++◌, length, take, Some, arith, get_or, set, replicate, take_all, length-append}
use Rattle.std.specs.Prelude.{◌↔◌}
use Rattle.std.proofs.lemmas.Bool.{cases_eq, cases_lt, ltb-true, lt-ltb}
use Rattle.std.proofs.lemmas.List.{length-set, length-replicate, get_or_read_under}
use Rattle.std.proofs.lemmas.Option.{slice_get_within, same_Some}
use Rattle.cg_graph.specs.Member.{Includes}
use Rattle.cg_graph.proofs.Members.{either}
use Rattle.cg_search.specs.Places.{Marks, is_marked}
use Rattle.cg_search.proofs.Places.{slice_get-set_same, slice_get-set_other, unmarked, includes_more, includes_first, includes_last}
use Rattle.cg_search.proofs.Edges.{marks_of_is, is_of_marks}
use Rattle.cg_search.proofs.Counting.{past_end}
use Rattle.cg_snapshot.specs.Text.{AreMembers}
use Rattle.cg_ask.specs.Marked.{MarkJust}

pub is_or_not : (marks : List Bool) (i : ℕ) → Marks marks i ⊎ (¬ Marks marks i)
is_or_not marks i = by (is_marked marks i) refl
  where
    by : (b : Bool) → is_marked marks i ≡ b → Marks marks i ⊎ (¬ Marks marks i)
    by true e = inl (marks_of_is marks i e)
    by false e = inr (λ m. absurd (let yes = is_of_marks marks i m in let no = e in clash yes no))
      where
        clash : {c : Bool} → c ≡ true → c ≡ false → ⊥
        clash p q = absurd (cc)

-- two lists of marks, combined place by place
abbrev pub zipped : (Bool → Bool → Bool) → List Bool → List Bool → List Bool
zipped f (a ∷ marks) (b ∷ others) = f a b ∷ zipped f marks others
zipped f xs others = []

zipped_suc : (f : Bool → Bool → Bool) (marks others : List Bool) (k : ℕ) (d : Bool) → k < length marks → length marks ≡ length others
    → zipped f (take (suc k) marks) (take (suc k) others) ≡ zipped f (take k marks) (take k others) ++ f (get_or marks k d) (get_or others k d) ∷ []
zipped_suc f [] others k d within long = absurd (omega (arith, within))
zipped_suc f (a ∷ marks) [] k d within long = absurd (omega (arith, long))
zipped_suc f (a ∷ marks) (b ∷ others) zero d within long = refl
zipped_suc f (a ∷ marks) (b ∷ others) (suc k) d within long = ap (λ t. f a b ∷ t) (zipped_suc f marks others k d (omega (arith, within)) (omega (arith, long)))

pub zipped_next : (f : Bool → Bool → Bool) (marks others : List Bool) (k : ℕ) (d : Bool) → k < length marks → length marks ≡ length others
    → zipped f (take (k + 1) marks) (take (k + 1) others) ≡ zipped f (take k marks) (take k others) ++ f (get_or marks k d) (get_or others k d) ∷ []
zipped_next f marks others k d within long =
    let one : k + 1 ≡ suc k = omega arith in
    ap (λ n. zipped f (take n marks) (take n others)) one ∙ zipped_suc f marks others k d within long

pub zipped_all : (f : Bool → Bool → Bool) (marks others left : List Bool) (k : ℕ) → length marks ≤ k → length marks ≡ length others → left
    ≡ zipped f (take k marks) (take k others) → left ≡ zipped f marks others
zipped_all f marks others left k end long is = is ∙ ap (λ xs. zipped f xs (take k others)) (take_all k marks end) ∙ ap (zipped f marks) (take_all k others (omega (arith, end, long)))

length-zipped : (f : Bool → Bool → Bool) (marks others : List Bool) → length marks ≡ length others → length (zipped f marks others) ≡ length marks
length-zipped f [] others long = refl
length-zipped f (a ∷ marks) [] long = absurd (omega (arith, long))
length-zipped f (a ∷ marks) (b ∷ others) long = ap suc (length-zipped f marks others (omega (arith, long)))

only_true : (a b : Bool) → (a && not b) ≡ true → (a ≡ true) × (b ≡ true → ⊥)
only_true true true h = absurd (cc)
only_true true false h = (refl, λ e. absurd (cc))
only_true false b h = absurd (cc)

true_only : (a b : Bool) → a ≡ true → (b ≡ true → ⊥) → (a && not b) ≡ true
true_only true true h n = absurd (n refl)
true_only true false h n = refl
true_only false b h n = absurd (cc)

abbrev pub only : Bool → Bool → Bool
only a b = a && not b

abbrev pub any : Bool → Bool → Bool
any a b = a || b

pub only_at : (marks others : List Bool) (i : ℕ) → length marks ≡ length others → Marks (zipped only marks others) i ↔ (Marks marks i × ¬ Marks others i)
only_at [] others i long = (λ m. absurd (cc), λ m. absurd (let h = m.0 in cc))
only_at (a ∷ marks) [] i long = absurd (omega (arith, long))
only_at (a ∷ marks) (b ∷ others) zero long = (
  λ m. let p = only_true a b (same_Some (a && not b) true m) in (ap Some p.0, λ e. p.1 (same_Some b true e)),
  λ m. ap Some (true_only a b (same_Some a true m.0) (λ e. m.1 (ap Some e))),
)
only_at (a ∷ marks) (b ∷ others) (suc i) long = only_at marks others i (omega (arith, long))

any_true : (a b : Bool) → (a || b) ≡ true → (a ≡ true) ⊎ (b ≡ true)
any_true true b h = inl refl
any_true false b h = inr h

true_any : (a b : Bool) → (a ≡ true) ⊎ (b ≡ true) → (a || b) ≡ true
true_any true b h = refl
true_any false b (inl h) = absurd (cc)
true_any false b (inr h) = h

pub any_at : (marks others : List Bool) (i : ℕ) → length marks ≡ length others → Marks (zipped any marks others) i ↔ (Marks marks i ⊎ Marks others i)
any_at [] [] i long = (λ m. absurd (cc), λ m. either m (λ e. absurd (cc)) (λ e. absurd (cc)))
any_at (a ∷ marks) (b ∷ others) zero long = (
  λ m. either (any_true a b (same_Some (a || b) true m)) (λ e. inl (ap Some e)) (λ e. inr (ap Some e)),
  λ m. ap Some (true_any a b (either m (λ e. inl (same_Some a true e)) (λ e. inr (same_Some b true e)))),
)
any_at (a ∷ marks) (b ∷ others) (suc i) long = any_at marks others i (omega (arith, long))
any_at xs list i long = absurd (omega (arith, long))

pub just_only : (marks others left : List Bool) → length marks ≡ length others → left ≡ zipped only marks others → MarkJust (length marks) (λ i. Marks marks i × ¬ Marks others i) left
just_only marks others left long is = subst (λ (ms : List Bool). MarkJust (length marks) (λ i. Marks marks i × ¬ Marks others i) ms) (sym is)
    (record { len = length-zipped only marks others long; just = λ i. only_at marks others i long })

pub just_any : (marks others left : List Bool) → length marks ≡ length others → left ≡ zipped any marks others → MarkJust (length marks) (λ i. Marks marks i ⊎ Marks others i) left
just_any marks others left long is = subst (λ (ms : List Bool). MarkJust (length marks) (λ i. Marks marks i ⊎ Marks others i) ms) (sym is)
    (record { len = length-zipped any marks others long; just = λ i. any_at marks others i long })

pub just_all : (count : ℕ) (marks : List Bool) → marks ≡ replicate count true → MarkJust count (λ i. i < count) marks
just_all count marks is = subst (λ (ms : List Bool). MarkJust count (λ i. i < count) ms) (sym is) (record {
  len = length-replicate count true;
  just = λ i. (λ m. omega (arith, slice_get_within (replicate count true) i true m, length-replicate count true), λ below. there count i below);
})
  where
    there : (n i : ℕ) → i < n → Marks (replicate n true) i
    there zero i below = absurd (omega (arith, below))
    there (suc n) zero below = refl
    there (suc n) (suc i) below = there n i (omega (arith, below))

pub just_none : (count : ℕ) (places : List ℕ) (marks : List Bool) → marks ≡ replicate count false → MarkJust count (Includes (take 0 places)) marks
just_none count places marks is = subst (λ (ms : List Bool). MarkJust count (Includes (take 0 places)) ms) (sym is)
    (record { len = length-replicate count false; just = λ i. (λ m. absurd (unmarked count i m), λ h. absurd h) })

just_one_more : (count : ℕ) (places : List ℕ) (marks : List Bool) (k at : ℕ) → at ≡ get_or places k 0 → k < length places → at < count
    → MarkJust count (Includes (take k places)) marks → MarkJust count (Includes (take (k + 1) places)) (set marks at true)
just_one_more count places marks k at is within inside h = record {
  len = length-set marks at true ∙ h.len;
  just = λ i. (
    λ m. either (cases_eq i at) (λ e. subst (λ j. Includes (take (k + 1) places) j) (sym (e ∙ is)) (includes_last places k 0 within))
        (λ n. includes_first places k 0 i within ((h.just i).0 (sym (slice_get-set_other marks at i true n) ∙ m))),
    λ m. either (includes_more places k 0 i within m)
        (λ old. either (cases_eq i at) (λ e. subst (λ j. Marks (set marks at true) j) (sym e) now) (λ n. slice_get-set_other marks at i true n ∙ (h.just i).1 old))
        (λ e. subst (λ j. Marks (set marks at true) j) (is ∙ e) now),
  );
}
  where
    now : Marks (set marks at true) at
    now = slice_get-set_same marks at true (omega (arith, inside, h.len))

pub just_next : (count : ℕ) (places : List ℕ) (marks : List Bool) (k : ℕ) → k < length places → get_or places k 0 < count
    → MarkJust count (Includes (take k places)) marks → MarkJust count (Includes (take (k + 1) places)) (set marks (get_or places k 0) true)
just_next count places marks k within inside h = just_one_more count places marks k (get_or places k 0) refl within inside h

pub just_places : (count : ℕ) (places : List ℕ) (marks : List Bool) (k : ℕ) → length places ≤ k → MarkJust count (Includes (take k places)) marks → MarkJust count (Includes places) marks
just_places count places marks k end h = subst (λ (ps : List ℕ). MarkJust count (Includes ps) marks) (take_all k places end) h

-- each is a place of a member
pub member_of : (count : ℕ) (ns : List ℕ) (x : ℕ) → AreMembers count ns → Includes ns x → x < count
member_of count [] x h m = absurd m
member_of count (n ∷ ns) x h (inl e) = subst (λ y. y < count) e h.0
member_of count (n ∷ ns) x h (inr m) = member_of count ns x h.1 m

pub next_member : (count : ℕ) (ns : List ℕ) (k : ℕ) → AreMembers count ns → k < length ns → get_or ns k 0 < count
next_member count [] k h within = absurd (omega (arith, within))
next_member count (n ∷ ns) zero h within = h.0
next_member count (n ∷ ns) (suc k) h within = next_member count ns k h.1 (omega (arith, within))

pub members_of : (count : ℕ) (ns : List ℕ) → ((x : ℕ) → Includes ns x → x < count) → AreMembers count ns
members_of count [] h = tt
members_of count (n ∷ ns) h = (h n (inl refl), members_of count ns (λ x m. h x (inr m)))

-- the mark at a place
pub mark_read : (marks : List Bool) (at : ℕ) (mark : Bool) → at < length marks → mark ≡ get_or marks at mark → get_or marks at false ≡ mark
mark_read marks at mark within is = sym (get_or_read_under marks at (length marks) mark false is within refl)

-- Marks computed one by one.
pub record MarksSo (at : ℕ) (f : ℕ → Bool) (marks : List Bool) : Type 0 where
  pub len : length marks ≡ at
  pub each : (i : ℕ) → i < at → get_or marks i false ≡ f i

pub so_first : (f : ℕ → Bool) (marks : List Bool) → marks ≡ [] → MarksSo 0 f marks
so_first f marks is = record { len = ap (λ (bs : List Bool). length bs) is; each = λ i low. absurd (omega (arith, low)) }

pub so_next : (at : ℕ) (f : ℕ → Bool) (marks new : List Bool) (b : Bool) → new ≡ marks ++ b ∷ [] → b ≡ f at → MarksSo at f marks → MarksSo (at + 1) f new
so_next at f marks new b is value h = record {
  len = omega (arith, ap (λ (bs : List Bool). length bs) is, length-append marks (b ∷ []), h.len);
  each = λ i low. either (cases_eq i at)
      (λ e. ap (λ (bs : List Bool). get_or bs i false) is ∙ last marks b i (e ∙ sym h.len) ∙ value ∙ ap f (sym e))
      (λ n. ap (λ (bs : List Bool). get_or bs i false) is ∙ front marks b i (omega (arith, low, n, h.len)) ∙ h.each i (omega (arith, low, n)));
}
  where
    last : (xs : List Bool) (y : Bool) (i : ℕ) → i ≡ length xs → get_or (xs ++ y ∷ []) i false ≡ y
    last [] y zero e = refl
    last (x ∷ xs) y (suc i) e = last xs y i (omega (arith, e))
    last xs y n e = absurd (omega (arith, e))

    front : (xs : List Bool) (y : Bool) (i : ℕ) → i < length xs → get_or (xs ++ y ∷ []) i false ≡ get_or xs i false
    front [] y i low = absurd (omega (arith, low))
    front (x ∷ xs) y zero low = refl
    front (x ∷ xs) y (suc i) low = front xs y i (omega (arith, low))

pub marks_all : (count at : ℕ) (f : ℕ → Bool) (P : ℕ → Type 0) (marks : List Bool) → count ≤ at → at ≤ count → ((i : ℕ) → i < count → (f i ≡ true) ↔ P i)
    → ((i : ℕ) → P i → i < count) → MarksSo at f marks → MarkJust count P marks
marks_all count at f P marks end low means within h =
    let same : at ≡ count = omega (arith, end, low) in
    record {
      len = h.len ∙ same;
      just = λ i. (
        λ m. let below : i < count = omega (arith, slice_get_within marks i true m, h.len, same) in (means i below).0 (sym (h.each i (omega (arith, below, same))) ∙ is_of_marks marks i m),
        λ p. let below = within i p in marks_of_is marks i (h.each i (omega (arith, below, same)) ∙ (means i below).1 p),
      );
    }

pub below_all : (numbers others : List ℕ) (marks : List Bool) (at : ℕ) → length numbers ≡ length others → length numbers ≤ at → at ≤ length numbers
    → MarksSo at (λ i. nat_lt (get_or numbers i 0) (get_or others i 0)) marks → MarkJust (length numbers) (λ i. get_or numbers i 0 < get_or others i 0) marks
below_all numbers others marks at long end low h =
    marks_all (length numbers) at (λ i. nat_lt (get_or numbers i 0) (get_or others i 0)) (λ i. get_or numbers i 0 < get_or others i 0) marks end low
    (λ i within. (λ e. ltb-true (get_or numbers i 0) (get_or others i 0) e, λ p. lt-ltb (get_or numbers i 0) (get_or others i 0) p))
    (λ i p. either (cases_lt i (length numbers)) (λ l. l) (λ g. absurd (omega (arith, p, past_end others i (omega (arith, g, long)))))) h
