-- What every write to slots keeps: the serials, the number of occupied slots, and the room.
use Rattle.std.proofs.Common.{◌≡◌, ◌≢◌, ℕ, ◌<◌, Bool, true, List, [], ◌∷◌, length, Option, Some, None, refl, sym, ap, ◌∙◌, inl, inr, arith, cond}
use Rattle.std.specs.Prelude.{option_map, is_some, count_by}
use Rattle.std.proofs.lemmas.Bool.{cases_lt, cases_eq}
use Rattle.std.proofs.lemmas.List.{set_past}
use Rattle.std.proofs.lemmas.List.Sums.{sum_by-set}
use Rattle.slab.specs.Slab.{Slab, get, slab_len}
use Rattle.cg_value.specs.declared.Place.{Place}
use Rattle.cg_graph.specs.Holdings.{occurrences}
use Rattle.cg_arena.specs.declared.slot.Slot.{Slot}
use Rattle.cg_arena.specs.Slots.{serial_in, place_in_slot, node_in, with_before, with_after, with_place}
use Rattle.cg_arena.specs.Table.{rows_of}
use Rattle.cg_arena.specs.Links.{rewritten, link_set, tied, all_placed}
use Rattle.cg_arena.proofs.Occurrences.{one-same, one-apart, occurrences-cons}
use Rattle.cg_arena.proofs.Writes.{part-rewritten, get-rewritten_same, get-rewritten_other}
use Rattle.cg_arena.proofs.TiedSlots.{part-tied}
use Rattle.cg_arena.proofs.Indexes.{rows-rewritten}

pub record SameShape (s new : Slab Slot) : Type 0 where
  pub serials : (k : ℕ) → serial_in (get new k) ≡ serial_in (get s k)
  pub len : slab_len new ≡ slab_len s
  pub rest : new ≡ record s { slots = new.slots }
  pub rows : rows_of new ≡ rows_of s

pub shape-trans : (s mid new : Slab Slot) → SameShape s mid → SameShape mid new → SameShape s new
shape-trans s mid new first second =
    record {
      serials = λ k. second.serials k ∙ first.serials k;
      len = second.len ∙ first.len;
      rest = second.rest ∙ ap (λ (z : Slab Slot). record z { slots = new.slots }) first.rest;
      rows = second.rows ∙ first.rows;
    }

still_some : (f : Slot → Slot) (o : Option Slot) → is_some (option_map f o) ≡ is_some o
still_some f None = refl
still_some f (Some x) = refl

abbrev counts : Option Slot → ℕ
counts o = cond (is_some o) 1 0

module _ (f : Slot → Slot) (k : ℕ) (s : Slab Slot) where
  len-rewritten : slab_len (rewritten f k s) ≡ slab_len s
  unfolding rewritten
  len-rewritten = elim (cases_lt k (length s.slots)) [
    | inl within ↦
        let same : counts (option_map f (get s k)) ≡ counts (get s k) = ap (λ (b : Bool). let n : ℕ = cond b 1 0 in n) (still_some f (get s k)) in
        omega (arith, same, sum_by-set {X = Option Slot} (λ o. cond (is_some o) 1 0) s.slots k (option_map f (get s k)) None within)
    | inr past ↦ ap (λ xs. count_by is_some xs) (set_past s.slots k (option_map f (get s k)) past)
  ]

  rest-rewritten : rewritten f k s ≡ record s { slots = (rewritten f k s).slots }
  unfolding rewritten
  rest-rewritten = refl

  pub shape-rewritten : ((x : Slot) → (f x).serial ≡ x.serial) → SameShape s (rewritten f k s)
  shape-rewritten keeps =
      record {
        serials = part-rewritten serial_in f (λ x. ap Some (keeps x)) k s;
        len = len-rewritten;
        rest = rest-rewritten;
        rows = rows-rewritten f keeps k s;
      }

same_shape : (s : Slab Slot) → SameShape s s
same_shape s = record { serials = λ k. refl; len = refl; rest = refl; rows = refl }

pub shape-link_set : (write : Option ℕ → Slot → Slot) → ((o : Option ℕ) (x : Slot) → (write o x).serial ≡ x.serial) → (at to : Option ℕ) (s : Slab Slot) → SameShape s (link_set write at to s)
shape-link_set write keeps None to s = same_shape s
shape-link_set write keeps (Some k) to s = shape-rewritten (write to) k s (keeps to)

pub shape-tied : (before after : Option ℕ) (s : Slab Slot) → SameShape s (tied before after s)
shape-tied before after s =
    shape-trans s (link_set with_after before after s) (tied before after s)
    (shape-link_set with_after (λ o x. refl) before after s)
    (shape-link_set with_before (λ o x. refl) after before (link_set with_after before after s))

pub shape-all_placed : (ks : List ℕ) (place : Place) (s : Slab Slot) → SameShape s (all_placed ks place s)
shape-all_placed [] place s = same_shape s
shape-all_placed (k ∷ ks) place s =
    shape-trans s (rewritten (with_place place) k s) (all_placed (k ∷ ks) place s)
    (shape-rewritten (with_place place) k s (λ x. refl))
    (shape-all_placed ks place (rewritten (with_place place) k s))

-- tying slots changes no node
pub nodes-tied : (before after : Option ℕ) (s : Slab Slot) (k : ℕ) → node_in (get (tied before after s) k) ≡ node_in (get s k)
nodes-tied before after s k = part-tied node_in (λ o x. refl) (λ o x. refl) before after s k

pub places-tied : (before after : Option ℕ) (s : Slab Slot) (k : ℕ) → place_in_slot (get (tied before after s) k) ≡ place_in_slot (get s k)
places-tied before after s k = part-tied place_in_slot (λ o x. refl) (λ o x. refl) before after s k

pub there-tied : (before after : Option ℕ) (s : Slab Slot) (k : ℕ) → is_some (get (tied before after s) k) ≡ is_some (get s k)
there-tied before after s k = part-tied is_some (λ o x. refl) (λ o x. refl) before after s k

-- the nodes that get a place are exactly those of the list
module _ {X : Type 0} (part : Option Slot → X) (keeps : (p : Place) (x : Slot) → part (Some (with_place p x)) ≡ part (Some x)) where
  pub part-all_placed : (ks : List ℕ) (place : Place) (s : Slab Slot) (j : ℕ) → part (get (all_placed ks place s) j) ≡ part (get s j)
  part-all_placed [] place s j = refl
  part-all_placed (k ∷ ks) place s j =
      part-all_placed ks place (rewritten (with_place place) k s) j
      ∙ part-rewritten part (with_place place) (keeps place) k s j

pub get-all_placed_aside : (ks : List ℕ) (place : Place) (s : Slab Slot) (j : ℕ) → occurrences j ks ≡ 0 → get (all_placed ks place s) j ≡ get s j
get-all_placed_aside [] place s j none = refl
get-all_placed_aside (k ∷ ks) place s j none =
    let differs : j ≢ k = λ same. absurd (omega (arith, none, occurrences-cons j k ks, one-same j k (sym same))) in
    get-all_placed_aside ks place (rewritten (with_place place) k s) j (omega (arith, none, occurrences-cons j k ks))
    ∙ get-rewritten_other (with_place place) k s j differs

-- an occupied slot gets the place
pub place_written : (place : Place) (o : Option Slot) → is_some o ≡ true → place_in_slot (option_map (with_place place) o) ≡ Some place
place_written place None there = absurd (cc)
place_written place (Some c) there = refl

-- placing a slot twice equals placing it once
placed_twice : (place : Place) (o : Option Slot) → option_map (with_place place) (option_map (with_place place) o) ≡ option_map (with_place place) o
placed_twice place None = refl
placed_twice place (Some x) = refl

pub get-all_placed_among : (ks : List ℕ) (place : Place) (s : Slab Slot) (j : ℕ) → 0 < occurrences j ks → get (all_placed ks place s) j ≡ option_map (with_place place) (get s j)
get-all_placed_among [] place s j some = absurd (omega (arith, some))
get-all_placed_among (k ∷ ks) place s j some =
    let here = λ (same : j ≡ k). let e : get (rewritten (with_place place) k s) j ≡ option_map (with_place place) (get s j) =
    ap (get (rewritten (with_place place) k s)) same ∙ get-rewritten_same (with_place place) k s ∙ ap (λ i. option_map (with_place place) (get s i))
    (sym same) in e in
    elim (cases_eq (occurrences j ks) 0) [
      | inl none ↦
          let same : j ≡ k = elim (cases_eq j k) [ inl e ↦ e | inr d ↦ absurd (omega (arith, some, none, occurrences-cons j k ks, one-apart j k (λ e. d (sym e)))) ] in
          get-all_placed_aside ks place (rewritten (with_place place) k s) j none ∙ here same
      | inr more ↦
          get-all_placed_among ks place (rewritten (with_place place) k s) j (omega (arith, more))
          ∙ elim (cases_eq j k) [
            | inl same ↦ ap (option_map (with_place place)) (here same) ∙ placed_twice place (get s j)
            | inr differs ↦ ap (option_map (with_place place)) (get-rewritten_other (with_place place) k s j differs)
          ]
    ]
