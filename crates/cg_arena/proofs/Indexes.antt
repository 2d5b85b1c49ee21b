-- What an index says of slots, and how it changes when a serial is added or removed.
use Rattle.std.proofs.Common.{◌≡◌, ◌≢◌, ◌⊎◌, ℕ, zero, suc, ◌+◌, ◌<◌, ◌≤◌, length, List, [], ◌∷◌, map, get_or, Option, Some, None, IsSome, cond, Contains, refl, sym, ap, ◌∙◌, subst, inl, inr, arith}
use Rattle.std.specs.Prelude.{option_map, nat_eq, slice_set, slice_index_or, ◌==◌, if◌then◌else◌}
use Rattle.std.proofs.lemmas.Bool.{cases_eq, eq-eqb, ne_eqb}
use Rattle.slab.specs.Slab.{Slab, get, entries, entries_from}
use Rattle.slab.proofs.SlabLemmas.{Contains-cons, Contains-cons_cases, Contains-entries}
use Rattle.cg_arena.specs.declared.slot.Slot.{Slot}
use Rattle.cg_arena.specs.declared.index.SlotIndex.{SlotIndex}
use Rattle.cg_arena.specs.Slots.{serial_in}
use Rattle.cg_arena.specs.Links.{rewritten}
use Rattle.cg_arena.specs.Table.{row_of, rows_of, IsNamed}
use Rattle.cg_arena.specs.Index.{guess_at, guess_index, LeadsTo, HasRowsBelow, IsIndex, IsIndexOf}

-- the row of an occupied slot
abbrev row : ℕ × Slot → ℕ × ℕ
row e = (e.1.serial, e.0)

first_or_later : (q : ℕ) (e : ℕ × Slot) (es : List (ℕ × Slot)) → (q ≡ e.1.serial → row_of (map row (e ∷ es)) q ≡ Some e.0) × (q ≢ e.1.serial → row_of (map row (e ∷ es)) q ≡ row_of (map row es) q)
first_or_later q e es = (
  λ same. ap (λ b. cond b (Some e.0) (row_of (map row es) q)) (eq-eqb q e.1.serial same),
  λ differs. ap (λ b. cond b (Some e.0) (row_of (map row es) q)) (ne_eqb q e.1.serial differs),
)

-- each row comes from one of the slots
listed : (q : ℕ) (es : List (ℕ × Slot)) (j : ℕ) → row_of (map row es) q ≡ Some j → (c : Slot) × Contains es (j, c) × (c.serial ≡ q)
listed q [] j is = absurd (cc)
listed q (e ∷ es) j is = elim (cases_eq q e.1.serial) [
  | inl same ↦
      let both : Some e.0 ≡ Some j = sym ((first_or_later q e es).0 same) ∙ is in
      let place : e.0 ≡ j = cc in
      (e.1, (0, omega arith, λ i. (place i, e.1)), sym same)
  | inr differs ↦
      let found = listed q es j (sym ((first_or_later q e es).1 differs) ∙ is) in
      (found.0, Contains-cons e (j, found.0) es found.1, found.2)
]

later : (q : ℕ) (e : ℕ × Slot) (es : List (ℕ × Slot)) (j : ℕ) (c : Slot) → c.serial ≡ q → q ≢ e.1.serial → (e ≡ (j, c)) ⊎ Contains es (j, c) → Contains es (j, c)
later q e es j c is differs (inl here) = absurd (differs (sym is ∙ ap (λ (p : ℕ × Slot). p.1.serial) (sym here)))
later q e es j c is differs (inr there) = there

-- each slot has a row
in_row : (q : ℕ) (es : List (ℕ × Slot)) (j : ℕ) (c : Slot) → Contains es (j, c) → c.serial ≡ q → IsSome (row_of (map row es) q)
in_row q [] j c stands is = absurd (omega (arith, stands.1))
in_row q (e ∷ es) j c stands is = elim (cases_eq q e.1.serial) [
  | inl same ↦ subst IsSome (sym ((first_or_later q e es).0 same)) refl
  | inr differs ↦ subst IsSome (sym ((first_or_later q e es).1 differs)) (in_row q es j c (later q e es j c is differs (Contains-cons_cases e (j, c) es stands)) is)
]

-- a row names a slot with that serial
pub row_stands : (s : Slab Slot) (q j : ℕ) → row_of (rows_of s) q ≡ Some j → serial_in (get s j) ≡ Some q
unfolding rows_of
row_stands s q j is =
    let found = listed q (entries s) j is in
    ap serial_in ((Contains-entries s j found.0).0 found.1) ∙ ap Some found.2

-- a slot with a serial is occupied
pub the_node : (o : Option Slot) (q : ℕ) → serial_in o ≡ Some q → (c : Slot) × (o ≡ Some c) × (c.serial ≡ q)
the_node None q is = absurd (cc)
the_node (Some c) q is = (c, refl, cc)

-- the serial of each slot has a row
pub stands_row : (s : Slab Slot) (q j : ℕ) → serial_in (get s j) ≡ Some q → IsSome (row_of (rows_of s) q)
unfolding rows_of
stands_row s q j is =
    let found = the_node (get s j) q is in
    in_row q (entries s) j found.0 ((Contains-entries s j found.0).1 found.1) found.2

-- the row of a serial that is in at most one slot
pub row-is : (s : Slab Slot) (q : ℕ) (o : Option ℕ) → ((j : ℕ) → serial_in (get s j) ≡ Some q → o ≡ Some j) → ((j : ℕ) → o ≡ Some j → serial_in (get s j) ≡ Some q) → row_of (rows_of s) q ≡ o
row-is s q o there back = go (row_of (rows_of s) q) refl o refl
  where
    go : (r : Option ℕ) → row_of (rows_of s) q ≡ r → (p : Option ℕ) → o ≡ p → row_of (rows_of s) q ≡ o
    go None none None empty = none ∙ sym empty
    go None none (Some j) is = let some : IsSome {T = ℕ} None = subst IsSome none (stands_row s q j (back j is)) in absurd (cc)
    go (Some i) is p same = is ∙ sym (there i (row_stands s q i is))

-- writing a field other than the serial keeps the rows
rows-set : (f : Slot → Slot) → ((x : Slot) → (f x).serial ≡ x.serial) → (os : List (Option Slot)) (k i : ℕ)
    → map row (entries_from i (slice_set os k (option_map f (get_or os k None)))) ≡ map row (entries_from i os)
rows-set f keeps [] k i = refl
rows-set f keeps (None ∷ os) zero i = refl
rows-set f keeps (Some c ∷ os) zero i = λ t. (keeps c t, i) ∷ map row (entries_from (i + 1) os)
rows-set f keeps (None ∷ os) (suc k) i = rows-set f keeps os k (i + 1)
rows-set f keeps (Some c ∷ os) (suc k) i = λ t. (c.serial, i) ∷ rows-set f keeps os k (i + 1) t

pub rows-rewritten : (f : Slot → Slot) → ((x : Slot) → (f x).serial ≡ x.serial) → (k : ℕ) (s : Slab Slot) → rows_of (rewritten f k s) ≡ rows_of s
unfolding rows_of rewritten
rows-rewritten f keeps k s = rows-set f keeps s.slots k 0

-- the index holds while the slots keep their serials
pub index_still : (serial new : ℕ → Option ℕ) (x : SlotIndex) → ((k : ℕ) → new k ≡ serial k) → IsIndex serial x → IsIndex new x
index_still serial new x same index =
    record {
      found = λ k s is. index.found k s (sym (same k) ∙ is);
      right = λ s k is. same k ∙ index.right s k is;
      below = index.below;
    }

module _ (s : Slab Slot) (x : SlotIndex) (index : IsIndexOf s x) (t : ℕ) where
  -- a serial that is not in its guessed slot has a row
  pub by_row : (guess : ℕ) → guess ≡ guess_at x.hints t → serial_in (get s guess) ≢ Some t → row_of x.rows.entries t ≡ row_of (rows_of s) t
  by_row guess guess_is elsewhere = go (row_of (rows_of s) t) refl (row_of x.rows.entries t) refl
    where
      go : (r : Option ℕ) → row_of (rows_of s) t ≡ r → (o : Option ℕ) → row_of x.rows.entries t ≡ o → row_of x.rows.entries t ≡ row_of (rows_of s) t
      go None none None empty = empty ∙ sym none
      go r are (Some k) is = is ∙ sym (index.names.named k t (index.finds.right t k is))
      go (Some k) is None empty = elim (index.finds.found k t (row_stands s t k is)) [
        | inl guessed ↦ absurd (elsewhere (ap (λ i. serial_in (get s i)) (guess_is ∙ guessed) ∙ row_stands s t k is))
        | inr rowed ↦ rowed ∙ sym is
      ]

  -- that row is right
  pub row_right : (at : ℕ) → row_of x.rows.entries t ≡ Some at → row_of (rows_of s) t ≡ Some at
  row_right at is = index.names.named at t (index.finds.right t at is)

  pub here_row : (c : Slot) (at : ℕ) → get s at ≡ Some c → c.serial ≡ t → row_of (rows_of s) t ≡ Some at
  here_row c at is serial = index.names.named at t (ap serial_in is ∙ ap Some serial)

-- a guess is reset to another slot, and the serial that it found gets a row
pub displaced_found : (s : Slab Slot) (x y : SlotIndex) → IsNamed (λ k. serial_in (get s k)) (row_of (rows_of s)) → (t other : ℕ) → serial_in (get s (guess_at x.hints t)) ≡ Some other
    → ((q : ℕ) → guess_index x.hints q ≢ guess_index x.hints t → guess_at y.hints q ≡ guess_at x.hints q)
    → ((q : ℕ) → row_of y.rows.entries q ≡ (if other == q then Some (guess_at x.hints t) else row_of x.rows.entries q))
    → (k q : ℕ) → serial_in (get s k) ≡ Some q → LeadsTo x q k → LeadsTo y q k
displaced_found s x y named t other stands guesses rows k q is leads = elim (cases_eq other q) [
  | inl same ↦
      let both : Some k ≡ Some (guess_at x.hints t) = sym (named.named k q is) ∙ ap (row_of (rows_of s)) (sym same) ∙ named.named (guess_at x.hints t) other stands in
      inr (rows q ∙ ap (λ b. if b then Some (guess_at x.hints t) else row_of x.rows.entries q) (eq-eqb other q same) ∙ sym both)
  | inr differs ↦ elim leads [
    | inl guessed ↦ elim (cases_eq (guess_index x.hints q) (guess_index x.hints t)) [
      | inl shared ↦
          let here : k ≡ guess_at x.hints t = sym guessed ∙ ap (λ n. slice_index_or x.hints.guesses.items n 0) shared in
          let both : Some other ≡ Some q = sym stands ∙ ap (λ i. serial_in (get s i)) (sym here) ∙ is in
          absurd (differs (cc))
      | inr apart ↦ inl (guesses q apart ∙ guessed)
    ]
    | inr rowed ↦ inr (rows q ∙ ap (λ b. if b then Some (guess_at x.hints t) else row_of x.rows.entries q) (ne_eqb other q differs) ∙ rowed)
  ]
]

-- a new serial is put into a vacant slot
module _ (s : Slab Slot) (x y : SlotIndex) (index : IsIndexOf s x) (t at : ℕ) (fresh : row_of (rows_of s) t ≡ None) (vacant : get s at ≡ None)
    (below : HasRowsBelow y) (noted : LeadsTo y t at) (others : (k q : ℕ) → serial_in (get s k) ≡ Some q → q ≢ t → LeadsTo x q k → LeadsTo y q k)
    (rows : (q k : ℕ) → row_of y.rows.entries q ≡ Some k → (row_of x.rows.entries q ≡ Some k) ⊎ ((serial_in (get s k) ≡ Some q) ⊎ ((q ≡ t) × (k ≡ at)))) where
  abbrev with_it : ℕ → Option ℕ
  with_it k = if k == at then Some t else serial_in (get s k)

  with-here : (k : ℕ) → k ≡ at → with_it k ≡ Some t
  with-here k same = ap (λ b. if b then Some t else serial_in (get s k)) (eq-eqb k at same)

  with-there : (k : ℕ) → k ≢ at → with_it k ≡ serial_in (get s k)
  with-there k differs = ap (λ b. if b then Some t else serial_in (get s k)) (ne_eqb k at differs)

  still : (q k : ℕ) → serial_in (get s k) ≡ Some q → with_it k ≡ Some q
  still q k was =
      let other : k ≢ at = λ same. let none : None ≡ Some q = sym (ap serial_in vacant) ∙ ap (λ i. serial_in (get s i)) (sym same) ∙ was in absurd (cc) in
      with-there k other ∙ was

  pub added_index : IsIndex (λ k. if k == at then Some t else serial_in (get s k)) y
  added_index =
      record {
        found = λ k q is. elim (cases_eq k at) [
          | inl same ↦
              let both : Some t ≡ Some q = sym (with-here k same) ∙ is in
              let serial : t ≡ q = cc in
              subst (λ i. LeadsTo y q i) (sym same) (subst (λ i. LeadsTo y i at) serial noted)
          | inr differs ↦
              let was : serial_in (get s k) ≡ Some q = sym (with-there k differs) ∙ is in
              let other : q ≢ t = λ same. let none : None ≡ Some k = sym fresh ∙ ap (row_of (rows_of s)) (sym same) ∙ index.names.named k q was in absurd (cc) in
              others k q was other (index.finds.found k q was)
        ];
        right = λ q k is. elim (rows q k is) [
          | inl old ↦ still q k (index.finds.right q k old)
          | inr new ↦ elim new [
            | inl stands ↦ still q k stands
            | inr here ↦ with-here k here.1 ∙ ap Some (sym here.0)
          ]
        ];
        below = below;
      }

-- the index finds the serials of the first slots, and no row is wrong
pub record FindsBelow (s : Slab Slot) (x : SlotIndex) (n : ℕ) : Type 0 where
  pub found : (k q : ℕ) → k < n → serial_in (get s k) ≡ Some q → LeadsTo x q k
  pub right : (q k : ℕ) → row_of x.rows.entries q ≡ Some k → serial_in (get s k) ≡ Some q
  pub below : HasRowsBelow x

-- reserving rows changes nothing
pub reserved_found : (s : Slab Slot) (x y : SlotIndex) (n : ℕ) → y.hints ≡ x.hints → y.rows.entries ≡ x.rows.entries → y.most ≡ x.most → FindsBelow s x n → FindsBelow s y n
reserved_found s x y n hints entries most below =
    record {
      found = λ k q within is. elim (below.found k q within is) [
        | inl guessed ↦ inl (ap (λ h. guess_at h q) hints ∙ guessed)
        | inr rowed ↦ inr (ap (λ es. row_of es q) entries ∙ rowed)
      ];
      right = λ q k is. below.right q k (sym (ap (λ es. row_of es q) entries) ∙ is);
      below = λ q k is. omega (arith, most, below.below q k (sym (ap (λ es. row_of es q) entries) ∙ is));
    }

module _ (s : Slab Slot) (x : SlotIndex) (at : ℕ) (below : FindsBelow s x at) where
  -- the next slot, if vacant
  pub vacant_found : get s at ≡ None → FindsBelow s x (at + 1)
  vacant_found vacant =
      record {
        found = λ k q within is. elim (cases_eq k at) [
          | inl same ↦ let none : None ≡ Some q = sym (ap serial_in vacant) ∙ ap (λ i. serial_in (get s i)) (sym same) ∙ is in absurd (cc)
          | inr differs ↦ below.found k q (omega (arith, within, differs)) is
        ];
        right = below.right;
        below = below.below;
      }

  -- the next slot, after its serial is noted
  pub noted_found : IsNamed (λ k. serial_in (get s k)) (row_of (rows_of s)) → (y : SlotIndex) → HasRowsBelow y → (c : Slot) → get s at ≡ Some c → LeadsTo y c.serial at
      → ((k q : ℕ) → serial_in (get s k) ≡ Some q → q ≢ c.serial → LeadsTo x q k → LeadsTo y q k)
      → ((q k : ℕ) → row_of y.rows.entries q ≡ Some k → (row_of x.rows.entries q ≡ Some k) ⊎ ((serial_in (get s k) ≡ Some q) ⊎ ((q ≡ c.serial) × (k ≡ at))))
      → FindsBelow s y (at + 1)
  noted_found named y above c here noted others rows =
      record {
        found = λ k q within is. elim (cases_eq k at) [
          | inl same ↦
              let both : Some c.serial ≡ Some q = sym (ap serial_in here) ∙ ap (λ i. serial_in (get s i)) (sym same) ∙ is in
              let serial : c.serial ≡ q = cc in
              subst (λ i. LeadsTo y q i) (sym same) (subst (λ i. LeadsTo y i at) serial noted)
          | inr differs ↦
              let other : q ≢ c.serial = λ same. let both : Some k ≡ Some at = sym (named.named k q is) ∙ ap (row_of (rows_of s)) same ∙ named.named at c.serial (ap serial_in here) in differs (cc) in
              others k q is other (below.found k q (omega (arith, within, differs)) is)
        ];
        right = λ q k is. elim (rows q k is) [
          | inl old ↦ below.right q k old
          | inr new ↦ elim new [
            | inl stands ↦ stands
            | inr it ↦ ap (λ i. serial_in (get s i)) it.1 ∙ ap serial_in here ∙ ap Some (sym it.0)
          ]
        ];
        below = above;
      }

the_serial : (os : List (Option Slot)) (k q : ℕ) → serial_in (get_or os k None) ≡ Some q → k < length os
the_serial [] k q is = absurd (cc)
the_serial (o ∷ os) zero q is = omega arith
the_serial (o ∷ os) (suc k) q is = omega (arith, the_serial os k q is)

-- all slots were checked
pub all_found : (s : Slab Slot) (x : SlotIndex) (n : ℕ) → IsNamed (λ k. serial_in (get s k)) (row_of (rows_of s)) → length s.slots ≤ n → FindsBelow s x n → IsIndexOf s x
all_found s x n named enough below =
    record {
      finds = record {
        found = λ k q is. below.found k q (omega (arith, enough, the_serial s.slots k q is)) is;
        right = below.right;
        below = below.below;
      };
      names = named;
    }

-- the rows after a serial is put into a vacant slot, and after a slot's serial is removed
module _ (s new : Slab Slot) (named : IsNamed (λ k. serial_in (get s k)) (row_of (rows_of s))) (t k : ℕ) (there : (j : ℕ) → j ≢ k → serial_in (get new j) ≡ serial_in (get s j)) where
  module _ (fresh : row_of (rows_of s) t ≡ None) (vacant : get s k ≡ None) (here : serial_in (get new k) ≡ Some t) where
    pub rows_with : (q : ℕ) → row_of (rows_of new) q ≡ (if nat_eq t q then Some k else row_of (rows_of s) q)
    rows_with q = elim (cases_eq t q) [
      | inl same ↦
          row-is new q (Some k)
          (λ j is. elim (cases_eq j k) [
            | inl at ↦ ap Some (sym at)
            | inr elsewhere ↦ let none : None ≡ Some j = sym fresh ∙ ap (row_of (rows_of s)) same ∙ named.named j q (sym (there j elsewhere) ∙ is) in absurd (cc)
          ])
          (λ j is. let at : k ≡ j = cc in ap (λ i. serial_in (get new i)) (sym at) ∙ here ∙ ap Some same)
          ∙ sym (ap (λ b. if b then Some k else row_of (rows_of s) q) (eq-eqb t q same))
      | inr differs ↦
          row-is new q (row_of (rows_of s) q)
          (λ j is. elim (cases_eq j k) [
            | inl at ↦ let both : Some t ≡ Some q = sym here ∙ ap (λ i. serial_in (get new i)) (sym at) ∙ is in absurd (differs (cc))
            | inr elsewhere ↦ named.named j q (sym (there j elsewhere) ∙ is)
          ])
          (λ j is.
          let was = row_stands s q j is in
          there j (λ at. let none : None ≡ Some q = sym (ap serial_in vacant) ∙ ap (λ i. serial_in (get s i)) (sym at) ∙ was in absurd (cc)) ∙ was)
          ∙ sym (ap (λ b. if b then Some k else row_of (rows_of s) q) (ne_eqb t q differs))
    ]

    pub index_with : (x : SlotIndex) → IsIndex (λ j. if j == k then Some t else serial_in (get s j)) x → IsIndex (λ j. serial_in (get new j)) x
    index_with x =
        index_still (λ j. if j == k then Some t else serial_in (get s j)) (λ j. serial_in (get new j)) x
        (λ j. elim (cases_eq j k) [
          | inl at ↦ ap (λ i. serial_in (get new i)) at ∙ here ∙ sym (ap (λ b. if b then Some t else serial_in (get s j)) (eq-eqb j k at))
          | inr elsewhere ↦ there j elsewhere ∙ sym (ap (λ b. if b then Some t else serial_in (get s j)) (ne_eqb j k elsewhere))
        ])

  module _ (row_is : row_of (rows_of s) t ≡ Some k) (here : serial_in (get new k) ≡ None) where
    pub rows_without : (q : ℕ) → row_of (rows_of new) q ≡ (if nat_eq t q then None else row_of (rows_of s) q)
    rows_without q = elim (cases_eq t q) [
      | inl same ↦
          row-is new q None
          (λ j is. elim (cases_eq j k) [
            | inl at ↦ let none : None ≡ Some q = sym here ∙ ap (λ i. serial_in (get new i)) (sym at) ∙ is in absurd (cc)
            | inr elsewhere ↦
                let both : Some j ≡ Some k = sym (named.named j q (sym (there j elsewhere) ∙ is)) ∙ ap (row_of (rows_of s)) (sym same) ∙ row_is in
                absurd (elsewhere (cc))
          ])
          (λ j is. absurd (cc))
          ∙ sym (ap (λ b. if b then None else row_of (rows_of s) q) (eq-eqb t q same))
      | inr differs ↦
          row-is new q (row_of (rows_of s) q)
          (λ j is. elim (cases_eq j k) [
            | inl at ↦ let none : None ≡ Some q = sym here ∙ ap (λ i. serial_in (get new i)) (sym at) ∙ is in absurd (cc)
            | inr elsewhere ↦ named.named j q (sym (there j elsewhere) ∙ is)
          ])
          (λ j is.
          let was = row_stands s q j is in
          there j (λ at. let both : Some t ≡ Some q = sym (row_stands s t k row_is) ∙ ap (λ i. serial_in (get s i)) (sym at) ∙ was in differs (cc)) ∙ was)
          ∙ sym (ap (λ b. if b then None else row_of (rows_of s) q) (ne_eqb t q differs))
    ]

    pub index_without : (x : SlotIndex) → IsIndex (λ j. if j == k then None else serial_in (get s j)) x → IsIndex (λ j. serial_in (get new j)) x
    index_without x =
        index_still (λ j. if j == k then None else serial_in (get s j)) (λ j. serial_in (get new j)) x
        (λ j. elim (cases_eq j k) [
          | inl at ↦ ap (λ i. serial_in (get new i)) at ∙ here ∙ sym (ap (λ b. if b then None else serial_in (get s j)) (eq-eqb j k at))
          | inr elsewhere ↦ there j elsewhere ∙ sym (ap (λ b. if b then None else serial_in (get s j)) (ne_eqb j k elsewhere))
        ])
