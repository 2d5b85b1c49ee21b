-- How slots and homes relate, and the order after an index is removed or appended.
use Rattle.std.proofs.Common.{◌≡◌, ◌≢◌, ℕ, zero, suc, ◌+◌, ◌*◌, ◌-◌, ◌<◌, ◌≤◌, ◌^◌, ◌/◌, min, List, [], ◌∷◌, ◌++◌, Option, Some, None, refl, sym, ap, ◌∙◌, subst, length, take, drop, get_or, set, map, arith, length-append, inl, inr, ◌⊎◌}
use Rattle.std.specs.Prelude.{slice_get, remove, All}
use Rattle.std.specs.List.{filter, range_with_len}
use Rattle.std.proofs.lemmas.Option.{slice_get-get_or}
use Rattle.std.specs.Option.{is_some}
use Rattle.std.specs.Option.{option_to_list}
use Rattle.std.proofs.lemmas.Bool.{cases_lt, cases_eq}
use Rattle.std.proofs.lemmas.Bool.Decides.{nat_tests}
use Rattle.std.proofs.lemmas.List.{length-set, get_or-set_same, get_or-set_other, get_or_append_left, get_or_push, get_or_past, get_or_default, length_push, length-map, length-take, length-drop, get_or-take, get_or-drop, take-append-le}
use Rattle.std.proofs.lemmas.Grind.{flat_map-append}
use Rattle.cg_kind.specs.declared.notes.TheConstants.{AT_ONCE}
use Rattle.cg_kinds.specs.Order.{indexes, pairs_before, renamed, AreHomes, AreSums, AreCounts, AreClosed, HasBlocks, IsSound}
use Rattle.cg_kinds.proofs.SumLemmas.{IsOneMore, raised}
use Rattle.cg_kinds.proofs.SlotLemmas.{pair_within, gap_later, before_all, few_pairs}

some_is : (a b : ℕ) → Some a ≡ Some b → a ≡ b
some_is a b is = cc

-- replacing an index in a slot keeps the number of pairs
pub refilled_before : (slots : List (Option ℕ)) (slot was index k : ℕ) → get_or slots slot None ≡ Some was → pairs_before (set slots slot (Some index)) k ≡ pairs_before slots k
refilled_before [] slot was index k pair = refl
refilled_before (x ∷ slots) slot was index zero pair = refl
refilled_before (x ∷ slots) zero was index (suc k) pair = sym (ap (λ o. length (option_to_list o ++ indexes (take k slots))) pair)
refilled_before (x ∷ slots) (suc slot) was index (suc k) pair =
    length-append (option_to_list x) (indexes (take k (set slots slot (Some index))))
    ∙ ap (λ n. length (option_to_list x) + n) (refilled_before slots slot was index k pair)
    ∙ sym (length-append (option_to_list x) (indexes (take k slots)))

-- a new gap removes the index from the order
pub indexes-gap : (slots : List (Option ℕ)) (slot index : ℕ) → get_or slots slot None ≡ Some index → indexes (set slots slot None) ≡ remove (indexes slots) (pairs_before slots slot)
indexes-gap [] slot index pair = absurd (cc)
indexes-gap (x ∷ slots) zero index pair = sym (ap (λ o. remove (option_to_list o ++ indexes slots) 0) pair)
indexes-gap (None ∷ slots) (suc slot) index pair = indexes-gap slots slot index pair
indexes-gap (Some m ∷ slots) (suc slot) index pair = ap (λ l. m ∷ l) (indexes-gap slots slot index pair)

-- the index in a slot is in the order at the number of pairs before it
pub order_at : (slots : List (Option ℕ)) (slot index : ℕ) → get_or slots slot None ≡ Some index → slice_get (indexes slots) (pairs_before slots slot) ≡ Some index
order_at [] slot index pair = absurd (cc)
order_at (x ∷ slots) zero index pair = ap (λ o. slice_get (option_to_list o ++ indexes slots) 0) pair
order_at (None ∷ slots) (suc slot) index pair = order_at slots slot index pair
order_at (Some m ∷ slots) (suc slot) index pair = order_at slots slot index pair

-- the slot of the index at a place of the order
pub record HasSlot (slots : List (Option ℕ)) (place index : ℕ) : Type 0 where
  pub slot : ℕ
  pub pair : get_or slots slot None ≡ Some index
  pub before : pairs_before slots slot ≡ place

pub has_slot : (slots : List (Option ℕ)) (place index : ℕ) → slice_get (indexes slots) place ≡ Some index → HasSlot slots place index
has_slot [] place index is = absurd (cc)
has_slot (None ∷ slots) place index is =
    let rest = has_slot slots place index is in
    record { slot = suc rest.slot; pair = rest.pair; before = rest.before }
has_slot (Some m ∷ slots) zero index is = record { slot = zero; pair = is; before = refl }
has_slot (Some m ∷ slots) (suc place) index is =
    let rest = has_slot slots place index is in
    record { slot = suc rest.slot; pair = rest.pair; before = ap suc rest.before }

pub renamed_other : (last gone index : ℕ) → index ≢ last → renamed last gone index ≡ index
renamed_other last gone index differs = grind (arith, nat_tests)

pub renamed_last : (last gone : ℕ) → renamed last gone last ≡ gone
renamed_last last gone = grind (arith, nat_tests)

-- no index of these slots is the last
others_stay : (last gone : ℕ) (slots : List (Option ℕ)) → ((slot : ℕ) → get_or slots slot None ≡ Some last → ⊥) → map (renamed last gone) (indexes slots) ≡ indexes slots
others_stay last gone [] none = refl
others_stay last gone (None ∷ slots) none = others_stay last gone slots (λ slot. none (suc slot))
others_stay last gone (Some m ∷ slots) none =
    ap (λ n. n ∷ map (renamed last gone) (indexes slots)) (renamed_other last gone m (λ is. none 0 (ap Some is)))
    ∙ ap (λ l. m ∷ l) (others_stay last gone slots (λ slot. none (suc slot)))

-- the last index, which is in one slot, is renamed there
pub indexes-refilled : (last gone : ℕ) (slots : List (Option ℕ)) (slot : ℕ) → get_or slots slot None ≡ Some last → ((other : ℕ) → get_or slots other None ≡ Some last → other ≡ slot)
    → indexes (set slots slot (Some gone)) ≡ map (renamed last gone) (indexes slots)
indexes-refilled last gone [] slot pair only = absurd (cc)
indexes-refilled last gone (x ∷ slots) zero pair only =
    let none : (slot : ℕ) → get_or slots slot None ≡ Some last → ⊥ = λ slot is. absurd (omega (arith, only (suc slot) is)) in
    ap (λ l. gone ∷ l) (sym (others_stay last gone slots none))
    ∙ ap (λ n. n ∷ map (renamed last gone) (indexes slots)) (sym (renamed_last last gone))
    ∙ sym (ap (λ o. map (renamed last gone) (option_to_list o ++ indexes slots)) pair)
indexes-refilled last gone (None ∷ slots) (suc slot) pair only =
    indexes-refilled last gone slots slot pair (λ other is. omega (arith, only (suc other) is))
indexes-refilled last gone (Some m ∷ slots) (suc slot) pair only =
    ap (λ l. m ∷ l) (indexes-refilled last gone slots slot pair (λ other is. omega (arith, only (suc other) is)))
    ∙ ap (λ n. n ∷ map (renamed last gone) (indexes slots)) (sym (renamed_other last gone m (λ is. absurd (omega (arith, only 0 (ap Some is))))))

-- if the last index itself is removed, no other is renamed
pub renamed-itself : (last : ℕ) (order : List ℕ) → map (renamed last last) order ≡ order
renamed-itself last [] = refl
renamed-itself last (index ∷ order) =
    let same : renamed last last index ≡ index = grind (arith, nat_tests) in
    ap (λ n. n ∷ map (renamed last last) order) same ∙ ap (λ l. index ∷ l) (renamed-itself last order)

module _ (slots : List (Option ℕ)) (homes : List ℕ) (are : AreHomes slots homes) where
  -- an index is in only one slot
  pub one_slot : (index slot other : ℕ) → get_or slots slot None ≡ Some index → get_or slots other None ≡ Some index → other ≡ slot
  one_slot index slot other here there = sym (are.at_home other index there) ∙ are.at_home slot index here

  one_index : (slot index other : ℕ) → get_or slots slot None ≡ Some index → get_or slots slot None ≡ Some other → index ≡ other
  one_index slot index other here there = some_is index other (sym here ∙ there)

  pub gap_pairs : (slot index : ℕ) → get_or slots slot None ≡ Some index → length (indexes (set slots slot None)) + 1 ≡ length homes
  gap_pairs slot index pair =
      let within = pair_within slots slot index pair in
      let n = gap_later slots slot (length slots) index pair within in
      let a = before_all (set slots slot None) (length slots) (omega (arith, length-set slots slot None)) in
      let b = before_all slots (length slots) (omega arith) in
      omega (arith, n, a, b, are.each)

  -- the contents of a slot after a gap is made
  pub left_there : (slot other index : ℕ) → get_or (set slots slot None) other None ≡ Some index → (other ≢ slot) × (get_or slots other None ≡ Some index)
  left_there slot other index is = elim (cases_eq other slot) [
    | inl same ↦ absurd (gone same)
    | inr differs ↦ (differs, sym (get_or-set_other slots slot other None None differs) ∙ is)
  ]
    where
      gone : other ≡ slot → ⊥
      gone same = elim (cases_lt slot (length slots)) [
        | inl within ↦
            let none : get_or (set slots slot None) other None ≡ None = ap (λ n. get_or (set slots slot None) n None) same ∙ get_or-set_same slots slot None None within in
            (cc)
        | inr past ↦
            let none : get_or (set slots slot None) other None ≡ None = get_or_past (set slots slot None) other None (omega (arith, past, same, length-set slots slot None)) in
            (cc)
      ]

  module _ (rest : List ℕ) (moved : ℕ) (whole : homes ≡ rest ++ moved ∷ []) where
    long : length homes ≡ length rest + 1
    long = ap length whole ∙ length_push rest moved

    last_home : get_or homes (length rest) 0 ≡ moved
    last_home = ap (λ l. get_or l (length rest) 0) whole ∙ get_or_push rest moved 0 (length rest) refl

    rest_home : (index : ℕ) → index < length rest → get_or rest index 0 ≡ get_or homes index 0
    rest_home index below = sym (ap (λ l. get_or l index 0) whole ∙ get_or_append_left rest (moved ∷ []) 0 index below)

    pub last_there : get_or slots moved None ≡ Some (length rest)
    last_there = subst (λ s. get_or slots s None ≡ Some (length rest)) last_home (are.home (length rest) (omega (arith, long)))

    pub last_is : length homes - 1 ≡ length rest
    last_is = omega (arith, long)

    -- the last index keeps its slot when a gap is made elsewhere
    pub still_there : (slot : ℕ) → (moved ≡ slot → ⊥) → get_or (set slots slot None) moved None ≡ Some (length rest)
    still_there slot differs = get_or-set_other slots slot moved None None differs ∙ last_there

    -- the last index is removed
    pub taken_last : (slot index : ℕ) → get_or slots slot None ≡ Some index → moved ≡ slot → (index ≡ length rest) × AreHomes (set slots slot None) rest
    taken_last slot index pair same =
        let last : index ≡ length rest = one_index slot index (length rest) pair (subst (λ s. get_or slots s None ≡ Some (length rest)) same last_there) in (
          last,
          record {
            home = λ k below.
                let was = are.home k (omega (arith, below, long)) in
                let differs : get_or homes k 0 ≢ slot = λ at. absurd (omega (arith, below, last, one_index slot k index (subst (λ s. get_or slots s None ≡ Some k) at was) pair)) in
                ap (λ s. get_or (set slots slot None) s None) (rest_home k below) ∙ get_or-set_other slots slot (get_or homes k 0) None None differs ∙ was;
            within = λ s k is. below s k is;
            at_home = λ s k is. rest_home k (below s k is) ∙ are.at_home s k (left_there slot s k is).1;
            each = omega (arith, gap_pairs slot index pair, long);
          },
        )
      where
        below : (s k : ℕ) → get_or (set slots slot None) s None ≡ Some k → k < length rest
        below s k is =
            let left = left_there slot s k is in
            let differs : k ≢ length rest = λ at. left.0 (sym (one_slot k s moved left.1 (last_there ∙ ap Some (sym at))) ∙ same) in
            omega (arith, differs, long, are.within s k left.1)

    -- if another is removed, its index is not the last
    pub other_within : (slot index : ℕ) → get_or slots slot None ≡ Some index → moved ≢ slot → index < length rest
    other_within slot index pair differs =
        let other : index ≢ length rest = λ is. differs (one_slot index slot moved pair (last_there ∙ ap Some (sym is))) in
        omega (arith, other, long, are.within slot index pair)

    -- another is removed, and the last index is renamed to it
    pub taken_other : (slot index : ℕ) → get_or slots slot None ≡ Some index → moved ≢ slot → AreHomes (set (set slots slot None) moved (Some index)) (set rest index moved)
    taken_other slot index pair differs = record {
      home = λ k below. elim (cases_eq k index) [
        | inl same ↦
            ap (λ n. get_or now (get_or (set rest index moved) n 0) None) same
            ∙ ap (λ s. get_or now s None) (get_or-set_same rest index moved 0 small)
            ∙ at_moved
            ∙ ap Some (sym same)
        | inr other ↦
            let low : k < length rest = omega (arith, below, length-set rest index moved) in
            let was = are.home k (omega (arith, low, long)) in
            let a : get_or homes k 0 ≢ slot = λ at. other (one_index slot k index (subst (λ s. get_or slots s None ≡ Some k) at was) pair) in
            let b : get_or homes k 0 ≢ moved = λ at. absurd (omega (arith, low, one_index moved k (length rest) (subst (λ s. get_or slots s None ≡ Some k) at was) last_there)) in
            ap (λ s. get_or now s None) (get_or-set_other rest index k moved 0 other ∙ rest_home k low)
            ∙ get_or-set_other (set slots slot None) moved (get_or homes k 0) (Some index) None b
            ∙ get_or-set_other slots slot (get_or homes k 0) None None a
            ∙ was
      ];
      within = λ s k is. elim (found s k is) [
        | inl here ↦ omega (arith, here.1, small, length-set rest index moved)
        | inr there ↦ omega (arith, there.0, length-set rest index moved)
      ];
      at_home = λ s k is. elim (found s k is) [
        | inl here ↦ ap (λ n. get_or (set rest index moved) n 0) here.1 ∙ get_or-set_same rest index moved 0 small ∙ sym here.0
        | inr there ↦ get_or-set_other rest index k moved 0 there.1 ∙ rest_home k there.0 ∙ are.at_home s k there.2
      ];
      each =
          let a = before_all now (length now) (omega arith) in
          let b = before_all (set slots slot None) (length now) (omega (arith, length-set (set slots slot None) moved (Some index))) in
          let m = refilled_before (set slots slot None) moved (length rest) index (length now) still in
          omega (arith, a, b, m, gap_pairs slot index pair, long, length-set rest index moved);
    }
      where
        now : List (Option ℕ)
        now = set (set slots slot None) moved (Some index)

        still : get_or (set slots slot None) moved None ≡ Some (length rest)
        still = still_there slot differs

        at_moved : get_or now moved None ≡ Some index
        at_moved = get_or-set_same (set slots slot None) moved (Some index) None (pair_within (set slots slot None) moved (length rest) still)

        small : index < length rest
        small = other_within slot index pair differs

        found : (s k : ℕ) → get_or now s None ≡ Some k → ((s ≡ moved) × (k ≡ index)) ⊎ ((k < length rest) × (k ≢ index) × (get_or slots s None ≡ Some k))
        found s k is = elim (cases_eq s moved) [
          | inl same ↦ inl (same, some_is k index (sym is ∙ ap (λ n. get_or now n None) same ∙ at_moved))
          | inr other ↦
              let left = left_there slot s k (sym (get_or-set_other (set slots slot None) moved s (Some index) None other) ∙ is) in
              let a : k ≢ length rest = λ at. other (sym (one_slot k s moved left.1 (last_there ∙ ap Some (sym at)))) in
              let b : k ≢ index = λ at. left.0 (sym (one_slot k s slot left.1 (pair ∙ ap Some (sym at)))) in
              inr (omega (arith, a, long, are.within s k left.1), b, left.1)
        ]

-- the slots after one index is renamed to another
pub slots_moved : (slots : List (Option ℕ)) (slot moved index : ℕ) (gap filled : Option ℕ) → gap ≡ None → filled ≡ Some index → set (set slots slot None) moved
    (Some index) ≡ set (set slots slot gap) moved filled
slots_moved slots slot moved index gap filled is_gap is_filled =
    sym (ap (λ o. set (set slots slot o) moved filled) is_gap ∙ ap (set (set slots slot None) moved) is_filled)

indexes-closed : (order : List ℕ) → indexes (map (λ index. Some index) order) ≡ order
indexes-closed [] = refl
indexes-closed (index ∷ order) = ap (λ l. index ∷ l) (indexes-closed order)

slice_get-closed : (order : List ℕ) (slot index : ℕ) → get_or (map (λ index. Some index) order) slot None ≡ Some index → slice_get order slot ≡ Some index
slice_get-closed [] slot index is = absurd (cc)
slice_get-closed (m ∷ order) zero index is = is
slice_get-closed (m ∷ order) (suc slot) index is = slice_get-closed order slot index is

get_or-closed : (order : List ℕ) (slot index : ℕ) → slice_get order slot ≡ Some index → get_or (map (λ index. Some index) order) slot None ≡ Some index
get_or-closed [] slot index is = absurd (cc)
get_or-closed (m ∷ order) zero index is = is
get_or-closed (m ∷ order) (suc slot) index is = get_or-closed order slot index is

-- without gaps, a slot has as many pairs as slots before it
before-closed : (order : List ℕ) (slot : ℕ) → slot ≤ length order → pairs_before (map (λ index. Some index) order) slot ≡ slot
before-closed order zero within = refl
before-closed [] (suc slot) within = absurd (omega (arith, within))
before-closed (m ∷ order) (suc slot) within = ap suc (before-closed order slot (omega (arith, within)))

-- closing gaps keeps the order
pub same_order : (slots now : List (Option ℕ)) → now ≡ map (λ index. Some index) (indexes slots) → indexes now ≡ indexes slots
same_order slots now closed = ap indexes closed ∙ indexes-closed (indexes slots)

pub length-closed : (slots now : List (Option ℕ)) → now ≡ map (λ index. Some index) (indexes slots) → length now ≡ length (indexes slots)
length-closed slots now closed = ap length closed ∙ length-map (indexes slots) (λ index. Some index)

-- without gaps, the number of pairs before a slot within the length
before_within : (order : List ℕ) (now : List (Option ℕ)) → now ≡ map (λ index. Some index) order → (slot : ℕ) → pairs_before now slot ≡ min slot (length now)
before_within order now closed slot =
    let n : length now ≡ length order = ap length closed ∙ length-map order (λ index. Some index) in
    elim (cases_lt slot (length order)) [
      | inl low ↦
          let e : pairs_before now slot ≡ slot = ap (λ l. pairs_before l slot) closed ∙ before-closed order slot (omega (arith, low)) in
          omega (arith, e, n, low)
      | inr high ↦
          let e : length (indexes now) ≡ length order = ap (λ l. length (indexes l)) closed ∙ ap length (indexes-closed order) in
          omega (arith, before_all now slot (omega (arith, n, high)), e, n, high)
    ]

pub closed_counts : (order : List ℕ) (now : List (Option ℕ)) (counts : List ℕ) → now ≡ map (λ index. Some index) order
    → ((block : ℕ) → block < length counts → get_or counts block 0 ≡ min 16 (length now - 16 * block)) → length now ≤ 16 * length counts → length now < 2 ^ 32 → AreCounts now counts
closed_counts order now counts closed each covered small = record {
  each = λ block within. omega (arith, each block within, before_within order now closed (16 * block + 16), before_within order now closed (16 * block));
  covered = covered;
  small = small;
}

module _ (now : List (Option ℕ)) (homes : List ℕ) (are : AreClosed now homes) where
  closed_was : (slot index : ℕ) → get_or now slot None ≡ Some index → HasSlot are.was slot index
  closed_was slot index is = has_slot are.was slot index (slice_get-closed (indexes are.was) slot index (ap (λ l. get_or l slot None) (sym are.closed) ∙ is))

  pub closed_within : (slot index : ℕ) → get_or now slot None ≡ Some index → index < length homes
  closed_within slot index is = let was = closed_was slot index is in are.homes_were.within was.slot index was.pair

  pub closed_one : (slot other index : ℕ) → get_or now slot None ≡ Some index → get_or now other None ≡ Some index → slot ≡ other
  closed_one slot other index here there =
      let a = closed_was slot index here in
      let b = closed_was other index there in
      sym a.before ∙ ap (pairs_before are.was) (one_slot are.was homes are.homes_were index b.slot a.slot b.pair a.pair) ∙ b.before

  -- one more home is set
  pub settled_more : (now_homes : List ℕ) (slot index : ℕ) → length now_homes ≡ length homes → get_or now slot None ≡ Some index
      → ((s k : ℕ) → s < slot → get_or now s None ≡ Some k → get_or now_homes k 0 ≡ s)
      → (s k : ℕ) → s < slot + 1 → get_or now s None ≡ Some k → get_or (set now_homes index slot) k 0 ≡ s
  settled_more now_homes slot index long pair settled s k below is = elim (cases_eq k index) [
    | inl same ↦
        ap (λ n. get_or (set now_homes index slot) n 0) same
        ∙ get_or-set_same now_homes index slot 0 (omega (arith, long, closed_within slot index pair))
        ∙ closed_one slot s index pair (is ∙ ap Some same)
    | inr differs ↦
        let other : s ≢ slot = λ at. differs (some_is k index (sym is ∙ ap (λ n. get_or now n None) at ∙ pair)) in
        get_or-set_other now_homes index k slot 0 differs ∙ settled s k (omega (arith, below, other)) is
  ]

  pub settled_all : (now_homes : List ℕ) → length now_homes ≡ length homes → ((s k : ℕ) → s < length now → get_or now s None ≡ Some k → get_or now_homes k 0 ≡ s) → AreHomes now now_homes
  settled_all now_homes long settled = record {
    home = λ index below.
        let was = are.homes_were.home index (omega (arith, below, long)) in
        let place = order_at are.was (get_or homes index 0) index was in
        let there : get_or now (pairs_before are.was (get_or homes index 0)) None ≡ Some index =
        ap (λ l. get_or l (pairs_before are.was (get_or homes index 0)) None) are.closed ∙ get_or-closed (indexes are.was) (pairs_before are.was (get_or homes index 0)) index place in
        ap (λ s. get_or now s None) (settled (pairs_before are.was (get_or homes index 0)) index (pair_within now _ index there) there) ∙ there;
    within = λ slot index is. omega (arith, closed_within slot index is, long);
    at_home = λ slot index is. settled slot index (pair_within now slot index is) is;
    each = ap length (same_order are.was now are.closed) ∙ are.homes_were.each ∙ sym long;
  }

-- one more pair is appended
pub pushed_homes : (slots : List (Option ℕ)) (homes : List ℕ) → AreHomes slots homes → AreHomes (slots ++ Some (length homes) ∷ []) (homes ++ length slots ∷ [])
pushed_homes slots homes are = record {
  home = λ index below. elim (cases_lt index (length homes)) [
    | inl low ↦
        let was = are.home index low in
        ap (λ s. get_or now s None) (get_or_append_left homes (length slots ∷ []) 0 index low)
        ∙ get_or_append_left slots (Some (length homes) ∷ []) None (get_or homes index 0) (pair_within slots (get_or homes index 0) index was)
        ∙ was
    | inr high ↦
        let same : index ≡ length homes = omega (arith, below, high, length_push homes (length slots)) in
        ap (λ n. get_or now (get_or (homes ++ length slots ∷ []) n 0) None) same
        ∙ ap (λ s. get_or now s None) (get_or_push homes (length slots) 0 (length homes) refl)
        ∙ get_or_push slots (Some (length homes)) None (length slots) refl
        ∙ ap Some (sym same)
  ];
  within = λ slot index is. elim (found slot index is) [
    | inl old ↦ omega (arith, are.within slot index old, length_push homes (length slots))
    | inr new ↦ omega (arith, new.1, length_push homes (length slots))
  ];
  at_home = λ slot index is. elim (found slot index is) [
    | inl old ↦ get_or_append_left homes (length slots ∷ []) 0 index (are.within slot index old) ∙ are.at_home slot index old
    | inr new ↦ ap (λ n. get_or (homes ++ length slots ∷ []) n 0) new.1 ∙ get_or_push homes (length slots) 0 (length homes) refl ∙ sym new.0
  ];
  each =
      ap length (flat_map-append option_to_list slots (Some (length homes) ∷ []))
      ∙ length_push (indexes slots) (length homes)
      ∙ ap (λ n. n + 1) are.each
      ∙ sym (length_push homes (length slots));
}
  where
    now : List (Option ℕ)
    now = slots ++ Some (length homes) ∷ []

    found : (slot index : ℕ) → get_or now slot None ≡ Some index → (get_or slots slot None ≡ Some index) ⊎ ((slot ≡ length slots) × (index ≡ length homes))
    found slot index is = elim (cases_lt slot (length slots)) [
      | inl low ↦ inl (sym (get_or_append_left slots (Some (length homes) ∷ []) None slot low) ∙ is)
      | inr high ↦
          let within = pair_within now slot index is in
          let same : slot ≡ length slots = omega (arith, high, within, length_push slots (Some (length homes))) in
          inr (same, some_is index (length homes) (sym is ∙ ap (λ n. get_or now n None) same ∙ get_or_push slots (Some (length homes)) None (length slots) refl))
    ]

-- one more slot with a pair
pushed_more : (slots : List (Option ℕ)) (index : ℕ) → IsOneMore (pairs_before slots) (pairs_before (slots ++ Some index ∷ [])) (length slots)
pushed_more slots index = record {
  earlier = λ k before. ap (λ l. length (indexes l)) (take-append-le k slots (Some index ∷ []) before);
  later = λ k behind.
      let n : length (indexes (slots ++ Some index ∷ [])) ≡ length (indexes slots) + 1 =
      ap length (flat_map-append option_to_list slots (Some index ∷ [])) ∙ length_push (indexes slots) index in
      omega (arith, n, before_all (slots ++ Some index ∷ []) k (omega (arith, behind, length_push slots (Some index))), before_all slots k (omega (arith, behind)));
}

pub pushed_counts : (slots : List (Option ℕ)) (index : ℕ) (counts counts_now : List ℕ) → AreCounts slots counts → length slots < 16 * length counts → length slots + 1 < 2 ^ 32
    → counts_now ≡ set counts (length slots / 16) (get_or counts (length slots / 16) 0 + 1) → AreCounts (slots ++ Some index ∷ []) counts_now
pushed_counts slots index counts counts_now are room small counts_are =
    let a : length counts_now ≡ length counts = ap length counts_are ∙ length-set counts (length slots / 16) (get_or counts (length slots / 16) 0 + 1) in
    record {
      each = subst (AreSums (pairs_before (slots ++ Some index ∷ []))) (sym counts_are)
          (raised (pairs_before slots) (pairs_before (slots ++ Some index ∷ [])) (length slots) (pushed_more slots index) counts (omega (arith, room)) are.each);
      covered = omega (arith, a, room, length_push slots (Some index));
      small = omega (arith, small, length_push slots (Some index));
    }

-- room and number of blocks are unchanged
pub blocks_kept : (room room_now : ℕ) (counts counts_now : List ℕ) → room_now ≡ room → length counts_now ≡ length counts → HasBlocks room counts → HasBlocks room_now counts_now
blocks_kept room room_now counts counts_now same long has = record {
  blocks = omega (arith, same, long, has.blocks);
  small = omega (arith, same, has.small);
}

pub few_homes : (slots : List (Option ℕ)) (homes : List ℕ) → AreHomes slots homes → length homes ≤ length slots
few_homes slots homes are = omega (arith, are.each, few_pairs slots)

-- slots with the gaps filtered out
pub closed-filter : (slots : List (Option ℕ)) → filter is_some slots ≡ map (λ index. Some index) (indexes slots)
closed-filter [] = refl
closed-filter (None ∷ slots) = closed-filter slots
closed-filter (Some index ∷ slots) = ap (λ l. Some index ∷ l) (closed-filter slots)

-- an index has only one place in the order
pub place_only : (slots : List (Option ℕ)) (homes : List ℕ) → AreHomes slots homes → (index slot place : ℕ) → get_or slots slot None ≡ Some index
    → slice_get (indexes slots) place ≡ Some index → place ≡ pairs_before slots slot
place_only slots homes are index slot place pair is =
    let there = has_slot slots place index is in
    sym there.before ∙ ap (pairs_before slots) (one_slot slots homes are index slot there.slot pair there.pair)

-- the home of an index has it
pub pair_home : (slots : List (Option ℕ)) (homes : List ℕ) → AreHomes slots homes → (order : List ℕ) → indexes slots ≡ order → (index home : ℕ)
    → index < length order → home ≡ get_or homes index home → get_or slots home None ≡ Some index
pair_home slots homes are order is index home below told =
    let low : index < length homes = omega (arith, below, ap length is, are.each) in
    ap (λ s. get_or slots s None) (told ∙ get_or_default homes index home 0 low) ∙ are.home index low

-- the slot that is an index's home, from the index's place
pub record HasHome (slots : List (Option ℕ)) (homes order : List ℕ) (index place home : ℕ) : Type 0 where
  pub pair : get_or slots home None ≡ Some index
  pub one : (other : ℕ) → get_or slots home None ≡ Some other → other ≡ index
  pub before : pairs_before slots home ≡ place
  pub count : length homes ≡ length order

pub home_of : (slots : List (Option ℕ)) (homes : List ℕ) → AreHomes slots homes → (order : List ℕ) → indexes slots ≡ order → (index place : ℕ) → slice_get order place ≡ Some index
    → (home : ℕ) → home ≡ get_or homes index home → HasHome slots homes order index place home
home_of slots homes are order is index place at home told =
    let there = has_slot slots place index (ap (λ l. slice_get l place) is ∙ at) in
    let pair = pair_home slots homes are order is index home (omega (arith, are.within there.slot index there.pair, are.each, ap length is)) told in
    record {
      pair = pair;
      one = λ other found. some_is other index (sym found ∙ pair);
      before = sym (place_only slots homes are index home place pair (ap (λ l. slice_get l place) is ∙ at));
      count = sym are.each ∙ ap length is;
    }

all_indexes : (P : ℕ → Type 0) (slots : List (Option ℕ)) → ((slot index : ℕ) → get_or slots slot None ≡ Some index → P index) → All P (indexes slots)
all_indexes P slots each = λ k d within.
    let there = has_slot slots k (get_or (indexes slots) k d) (slice_get-get_or (indexes slots) k d within) in
    each there.slot (get_or (indexes slots) k d) there.pair

-- what remains after an index is removed
abbrev pub IsOther : List ℕ → ℕ → ℕ → Type 0
IsOther order index other = (other < length order) × (other ≢ index)

others_left : (slots : List (Option ℕ)) (homes : List ℕ) → AreHomes slots homes → (slot index : ℕ) → get_or slots slot None ≡ Some index
    → All (IsOther (indexes slots) index) (remove (indexes slots) (pairs_before slots slot))
others_left slots homes are slot index pair =
    subst (All (IsOther (indexes slots) index)) (indexes-gap slots slot index pair)
    (all_indexes (IsOther (indexes slots) index) (set slots slot None) (λ s k is.
    let left = left_there slots homes are slot s k is in
    (omega (arith, are.within s k left.1, are.each), λ same. left.0 (one_slot slots homes are index slot s pair (left.1 ∙ ap Some same)))))

pub taken_facts : (slots : List (Option ℕ)) (homes : List ℕ) → AreHomes slots homes → (slot index place : ℕ) (order : List ℕ) → get_or slots slot None
    ≡ Some index → indexes slots ≡ order → pairs_before slots slot ≡ place
    → (slice_get order place ≡ Some index) × (All (IsOther order index) (remove order place) × (index < length order))
taken_facts slots homes are slot index place order pair is before = (
  ap (λ l. slice_get l place) (sym is) ∙ ap (slice_get (indexes slots)) (sym before) ∙ order_at slots slot index pair,
  (
    subst (λ l. All (IsOther l index) (remove l place)) is (subst (λ n. All (IsOther (indexes slots) index) (remove (indexes slots) n)) before (others_left slots homes are slot index pair)),
    omega (arith, are.within slot index pair, are.each, ap length is),
  ),
)

-- a complete order extended by one index
pub range_more : (from count : ℕ) → range_with_len from (suc count) ≡ range_with_len from count ++ (from + count) ∷ []
range_more from zero = let n : from ≡ from + 0 = omega arith in ap (λ m. m ∷ []) n
range_more from (suc count) =
    let n : from + 1 + count ≡ from + suc count = omega arith in
    ap (λ l. from ∷ l) (range_more (from + 1) count) ∙ ap (λ m. from ∷ range_with_len (from + 1) count ++ m ∷ []) n

pub sound_order : (slots : List (Option ℕ)) (homes : List ℕ) → AreHomes slots homes → (order : List ℕ) → indexes slots ≡ order → IsSound order
sound_order slots homes are order is = subst IsSound is (record {
  within = all_indexes (λ index. index < length (indexes slots)) slots (λ slot index pair. omega (arith, are.within slot index pair, are.each));
  placed = λ index below.
      let pair = are.home index (omega (arith, below, are.each)) in
      record {
        place = pairs_before slots (get_or homes index 0);
        at = order_at slots (get_or homes index 0) index pair;
        only = λ other there. place_only slots homes are index (get_or homes index 0) other pair there;
      };
})

-- some indexes of an order are below its length
pub some_within : (order : List ℕ) (i : ℕ) (some : List ℕ) → some ≡ take AT_ONCE (drop i order) → IsSound order → All (λ index. index < length order) some
some_within order i some is sound k d below =
    let n : k < length (take AT_ONCE (drop i order)) = omega (arith, below, ap length is) in
    let at : get_or some k d ≡ get_or order (i + k) d =
    ap (λ l. get_or l k d) is ∙ get_or-take AT_ONCE (drop i order) k d (omega (arith, n, length-take AT_ONCE (drop i order))) ∙ get_or-drop i order k d in
    let low = sound.within (i + k) d (omega (arith, n, length-take AT_ONCE (drop i order), length-drop i order)) in
    omega (arith, at, low)
