-- The lists of serials that chains of slots represent.
use Rattle.std.proofs.Common.{◌≡◌, ◌≢◌, ◌⊎◌, ℕ, ◌<◌, not, List, [], ◌∷◌, ◌++◌, map, length, get_or, set, Option, Some, None, cond, refl, sym, ap, ◌∙◌, inl, inr, arith}
use Rattle.std.specs.Prelude.{unwrap_or, slice_get, if◌then◌else◌}
use Rattle.std.proofs.lemmas.Bool.{cases_eq, eq-eqb, ne_eqb}
use Rattle.std.proofs.lemmas.List.{get_or-set_same, get_or-set_other, length-set, get_or-map, ext_get_or, map-append}
use Rattle.slab.specs.Slab.{Slab, get}
use Rattle.cg_graph.specs.Holdings.{occurrences}
use Rattle.cg_graph.specs.Places.{list_of, without_serial, leaves_list, joins_list, merge_lists}
use Rattle.cg_arena.specs.declared.slot.Slot.{Slot}
use Rattle.cg_arena.specs.Links.{ListEnds, chain_from, no_ends}
use Rattle.cg_arena.specs.Nodes.{following, count_in_list}
use Rattle.cg_arena.specs.Slots.{serial_in, place_in_slot}
use Rattle.cg_arena.specs.Table.{serials_of, IsSpelled, IsNamed, ends_at}
use Rattle.cg_arena.proofs.Occurrences.{one-same, one-apart, occurrences-cons, without-absent}
use Rattle.cg_arena.proofs.Chains.{chain-read}
use Rattle.cg_arena.proofs.ChangedChains.{appended_at, appended-here, appended-there}
use Rattle.cg_arena.proofs.Merged.{merged_chain, merged-to, merged-from, merged-other, Which, To, From, Other, which}

-- the serial of a slot, and those of a list of slots
abbrev pub serial_at : Slab Slot → ℕ → ℕ
serial_at s k = unwrap_or (serial_in (get s k)) 0

abbrev pub serials : Slab Slot → List ℕ → List ℕ
serials s ks = map (serial_at s) ks

-- a slot that has a place has a serial
pub has_serial : (p : ℕ) (o : Option Slot) → count_in_list p (place_in_slot o) ≡ 1 → (u : ℕ) × (serial_in o ≡ Some u)
has_serial p None stands = absurd (omega (arith, stands))
has_serial p (Some c) stands = (c.serial, refl)

-- the list of a place is the serials of its chain
pub list-at : (s : Slab Slot) (ends : List ListEnds) (chain : ℕ → List ℕ) (loose : Option ℕ) → length ends ≡ 10 → IsSpelled (get s) (ends_at ends) chain loose
    → (r : ℕ) → r < 10 → list_of (map (serials_of s) ends) r ≡ serials s (chain r)
unfolding serials_of
list-at s ends chain loose ten spelled r below =
    get_or-map (serials_of s) ends r no_ends [] (omega (arith, ten, below))
    ∙ ap (λ (e : ListEnds). serials s (chain_from s e.size e.first)) (spelled.ended r below)
    ∙ ap (serials s) (chain-read s None (chain r) (spelled.linked r below))

-- ten lists are equal if each is
pub ten_lists : (xs ys : List (List ℕ)) → length xs ≡ 10 → length ys ≡ 10 → ((r : ℕ) → r < 10 → list_of xs r ≡ list_of ys r) → xs ≡ ys
ten_lists xs ys xs_ten ys_ten same = ext_get_or [] xs ys (xs_ten ∙ sym ys_ten) (λ r below. same r (omega (arith, below, xs_ten)))

pub serials-same : (s new : Slab Slot) (ks : List ℕ) → ((j : ℕ) → 0 < occurrences j ks → serial_in (get new j) ≡ serial_in (get s j)) → serials new ks ≡ serials s ks
serials-same s new [] same = refl
serials-same s new (k ∷ ks) same =
    let here = same k (omega (arith, occurrences-cons k k ks, one-same k k refl)) in
    let rest = serials-same s new ks (λ j stands. same j (omega (arith, stands, occurrences-cons j k ks))) in
    λ i. unwrap_or (here i) 0 ∷ rest i

-- one serial, in the slot that its row names
module _ (s : Slab Slot) (row : ℕ → Option ℕ) (names : IsNamed (λ k. serial_in (get s k)) row) (t k : ℕ) (row_is : row t ≡ Some k) where
  pub serial-here : serial_at s k ≡ t
  serial-here = ap (λ o. unwrap_or o 0) (names.rowed t k row_is)

  pub serial-there : (j u : ℕ) → serial_in (get s j) ≡ Some u → j ≢ k → serial_at s j ≢ t
  serial-there j u is differs same =
      let u_is : u ≡ t = sym (ap (λ o. unwrap_or o 0) is) ∙ same in
      let row_t : row t ≡ Some j = ap row (sym u_is) ∙ names.named j u is in
      let both : Some j ≡ Some k = sym row_t ∙ row_is in
      differs (cc)

  -- the list without the serial
  pub without-serials : (ks : List ℕ) → ((j : ℕ) → 0 < occurrences j ks → (u : ℕ) × (serial_in (get s j) ≡ Some u)) → without_serial t (serials s ks) ≡ serials s (without_serial k ks)
  without-serials [] there = refl
  without-serials (x ∷ ks) there = go (cases_eq k x) (there x (omega (arith, occurrences-cons x x ks, one-same x x refl)))
      (without-serials ks (λ j stands. there j (omega (arith, stands, occurrences-cons j x ks))))
    where
      go : (k ≡ x) ⊎ (k ≢ x) → (u : ℕ) × (serial_in (get s x) ≡ Some u) → without_serial t (serials s ks) ≡ serials s (without_serial k ks)
          → without_serial t (serials s (x ∷ ks)) ≡ serials s (without_serial k (x ∷ ks))
      go (inl same) found rest =
          ap (λ b. cond (not b) (serial_at s x ∷ without_serial t (serials s ks)) (without_serial t (serials s ks))) (eq-eqb t (serial_at s x) (sym serial-here ∙ ap (serial_at s) same))
          ∙ rest
          ∙ sym (ap (λ b. serials s (cond (not b) (x ∷ without_serial k ks) (without_serial k ks))) (eq-eqb k x same))
      go (inr differs) found rest =
          ap (λ b. cond (not b) (serial_at s x ∷ without_serial t (serials s ks)) (without_serial t (serials s ks)))
          (ne_eqb t (serial_at s x) (λ e. serial-there x found.0 found.1 (λ f. differs (sym f)) (sym e)))
          ∙ ap (λ ys. serial_at s x ∷ ys) rest
          ∙ sym (ap (λ b. serials s (cond (not b) (x ∷ without_serial k ks) (without_serial k ks))) (ne_eqb k x differs))

  -- how often it occurs in the list
  pub occurrences-serials : (ks : List ℕ) → ((j : ℕ) → 0 < occurrences j ks → (u : ℕ) × (serial_in (get s j) ≡ Some u)) → occurrences t (serials s ks) ≡ occurrences k ks
  occurrences-serials [] there = refl
  occurrences-serials (x ∷ ks) there = go (cases_eq x k) (there x (omega (arith, occurrences-cons x x ks, one-same x x refl)))
      (occurrences-serials ks (λ j stands. there j (omega (arith, stands, occurrences-cons j x ks))))
    where
      go : (x ≡ k) ⊎ (x ≢ k) → (u : ℕ) × (serial_in (get s x) ≡ Some u) → occurrences t (serials s ks) ≡ occurrences k ks → occurrences t (serials s (x ∷ ks)) ≡ occurrences k (x ∷ ks)
      go (inl same) found rest = omega (
        arith,
        rest,
        occurrences-cons t (serial_at s x) (serials s ks),
        occurrences-cons k x ks,
        one-same k x same,
        one-same t (serial_at s x) (ap (serial_at s) same ∙ serial-here),
      )
      go (inr differs) found rest = omega (
        arith,
        rest,
        occurrences-cons t (serial_at s x) (serials s ks),
        occurrences-cons k x ks,
        one-apart k x differs,
        one-apart t (serial_at s x) (serial-there x found.0 found.1 differs),
      )

  -- what comes after it
  pub following-serials : (front back : List ℕ) → occurrences k front ≡ 0 → ((j : ℕ) → 0 < occurrences j front → (u : ℕ) × (serial_in (get s j) ≡ Some u))
      → following t (serials s (front ++ k ∷ back)) ≡ slice_get (serials s back) 0
  following-serials [] back absent there = ap (λ b. if b then slice_get (serials s back) 0 else following t (serials s back)) (eq-eqb (serial_at s k) t serial-here)
  following-serials (x ∷ front) back absent there =
      let differs : x ≢ k = λ same. absurd (omega (arith, absent, occurrences-cons k x front, one-same k x same)) in
      let found = there x (omega (arith, occurrences-cons x x front, one-same x x refl)) in
      ap (λ b. if b then slice_get (serials s (front ++ k ∷ back)) 0 else following t (serials s (front ++ k ∷ back))) (ne_eqb (serial_at s x) t (serial-there x found.0 found.1 differs))
      ∙ following-serials front back (omega (arith, absent, occurrences-cons k x front)) (λ j stands. there j (omega (arith, stands, occurrences-cons j x front)))

-- a serial without a row is in no list
pub serials-absent : (s : Slab Slot) (row : ℕ → Option ℕ) → IsNamed (λ k. serial_in (get s k)) row → (t : ℕ) → row t ≡ None → (ks : List ℕ)
    → ((j : ℕ) → 0 < occurrences j ks → (u : ℕ) × (serial_in (get s j) ≡ Some u)) → occurrences t (serials s ks) ≡ 0
serials-absent s row names t none [] there = refl
serials-absent s row names t none (x ∷ ks) there =
    let found = there x (omega (arith, occurrences-cons x x ks, one-same x x refl)) in
    let rest = serials-absent s row names t none ks (λ j stands. there j (omega (arith, stands, occurrences-cons j x ks))) in
    let differs : serial_at s x ≢ t = λ same.
    let u_is : found.0 ≡ t = sym (ap (λ o. unwrap_or o 0) found.1) ∙ same in
    let row_t : row t ≡ Some x = ap row (sym u_is) ∙ names.named x found.0 found.1 in
    let both : None ≡ Some x = sym none ∙ row_t in
    absurd (cc) in
    omega (arith, rest, occurrences-cons t (serial_at s x) (serials s ks), one-apart t (serial_at s x) differs)

-- the ten lists after a serial leaves or joins one, or one list is appended to another
module _ (s : Slab Slot) (lists : List (List ℕ)) (chain : ℕ → List ℕ) (ten : length lists ≡ 10) (are : (r : ℕ) → r < 10 → list_of lists r ≡ serials s (chain r)) where
  pub lists-left : (row : ℕ → Option ℕ) → IsNamed (λ k. serial_in (get s k)) row → (t k p : ℕ) → row t ≡ Some k → p < 10
      → ((j r : ℕ) → r < 10 → 0 < occurrences j (chain r) → (u : ℕ) × (serial_in (get s j) ≡ Some u))
      → ((r : ℕ) → r < 10 → r ≢ p → occurrences k (chain r) ≡ 0) → (r : ℕ) → r < 10 → list_of (leaves_list lists t p) r ≡ serials s (without_serial k (chain r))
  lists-left row names t k p row_is p_below there absent r below = elim (cases_eq r p) [
    | inl same ↦
        ap (λ q. list_of (leaves_list lists t p) q) same
        ∙ get_or-set_same lists p (without_serial t (list_of lists p)) [] (omega (arith, ten, p_below))
        ∙ ap (without_serial t) (are p p_below)
        ∙ without-serials s row names t k row_is (chain p) (λ j. there j p p_below)
        ∙ ap (λ q. serials s (without_serial k (chain q))) (sym same)
    | inr differs ↦
        get_or-set_other lists p r (without_serial t (list_of lists p)) [] differs
        ∙ are r below
        ∙ ap (serials s) (sym (without-absent k (chain r) (absent r below differs)))
  ]

  pub lists-joined : (t k q : ℕ) → serial_at s k ≡ t → q < 10 → (r : ℕ) → r < 10 → list_of (joins_list lists t q) r ≡ serials s (appended_at q (k ∷ []) chain r)
  lists-joined t k q is q_below r below = elim (cases_eq r q) [
    | inl same ↦
        ap (λ p. list_of (joins_list lists t q) p) same
        ∙ get_or-set_same lists q (list_of lists q ++ t ∷ []) [] (omega (arith, ten, q_below))
        ∙ (λ i. are q q_below i ++ sym is i ∷ [])
        ∙ sym (map-append (serial_at s) (chain q) (k ∷ []))
        ∙ ap (λ p. serials s (chain p ++ k ∷ [])) (sym same)
        ∙ ap (serials s) (sym (appended-here q (k ∷ []) chain r same))
    | inr differs ↦
        get_or-set_other lists q r (list_of lists q ++ t ∷ []) [] differs
        ∙ are r below
        ∙ ap (serials s) (sym (appended-there q (k ∷ []) chain r differs))
  ]

  pub lists-merged : (p q : ℕ) → p ≢ q → p < 10 → q < 10 → (r : ℕ) → r < 10 → list_of (merge_lists lists p q) r ≡ serials s (merged_chain p q chain r)
  lists-merged p q differ p_below q_below r below = go (which p q r)
    where
      go : Which p q r → list_of (merge_lists lists p q) r ≡ serials s (merged_chain p q chain r)
      go (To same) =
          get_or-set_other (set lists q (list_of lists q ++ list_of lists p)) p r [] [] (λ e. differ (sym e ∙ same))
          ∙ ap (λ n. get_or (set lists q (list_of lists q ++ list_of lists p)) n []) same
          ∙ get_or-set_same lists q (list_of lists q ++ list_of lists p) [] (omega (arith, ten, q_below))
          ∙ (λ i. are q q_below i ++ are p p_below i)
          ∙ sym (map-append (serial_at s) (chain q) (chain p))
          ∙ ap (serials s) (sym (merged-to p q differ chain r same))
      go (From same) =
          ap (λ n. get_or (set (set lists q (list_of lists q ++ list_of lists p)) p []) n []) same
          ∙ get_or-set_same (set lists q (list_of lists q ++ list_of lists p)) p [] [] (omega (arith, length-set lists q (list_of lists q ++ list_of lists p), ten, p_below))
          ∙ ap (serials s) (sym (merged-from p q differ chain r same))
      go (Other not_to not_from) =
          get_or-set_other (set lists q (list_of lists q ++ list_of lists p)) p r [] [] not_from
          ∙ get_or-set_other lists q r (list_of lists q ++ list_of lists p) [] not_to
          ∙ are r below
          ∙ ap (serials s) (sym (merged-other p q differ chain r not_to not_from))
