-- What the fields of an arena say of one serial, and what a change of other parts of a slot keeps.
use Rattle.std.proofs.Common.{◌≡◌, ◌≢◌, ℕ, ◌+◌, ◌-◌, ◌<◌, ◌^◌, List, [], ◌∷◌, map, Option, Some, None, refl, sym, ap, ◌∙◌, subst, inl, inr, arith}
use Rattle.std.specs.Prelude.{Bool, ◌↔◌, IsTrue, option_map, IsSome, min, ◌==◌, if◌then◌else◌}
use Rattle.std.proofs.lemmas.Bool.{cases_eq, eqb-true, eq-eqb, ne_eqb}
use Rattle.std.proofs.lemmas.List.{length-map}
use Rattle.std.specs.Ordering.{nat_cmp}
use Rattle.std.specs.FinMap as fin
use Rattle.slab.specs.Slab.{Slab, get, slab_len}
use Rattle.cg_graph.specs.Maps.{mapped, changed}
use Rattle.cg_graph.specs.Holdings.{occurrences}
use Rattle.cg_graph.proofs.Maps.{get-changed_same}
use Rattle.cg_arena.specs.declared.slot.Slot.{Slot}
use Rattle.cg_arena.specs.declared.slot.Marks.{Marks}
use Rattle.cg_arena.specs.declared.slot.Marks.TheVariants.{Neither, Classed, Finalized, Both}
use Rattle.cg_arena.specs.declared.index.SlotIndex.{SlotIndex}
use Rattle.cg_arena.specs.Links.{ListEnds, rewritten}
use Rattle.cg_arena.specs.Nodes.{Nodes, ArenaNode, HasNode, IsPlace, count_in, count_of, with_node_changed, node_finalized, node_counted_up, node_counted_down, counted_up, counted_down, count_in_list}
use Rattle.cg_arena.specs.Slots.{before_in, after_in, serial_in, place_in_slot, node_in, node_of, before_of, after_of, with_count, with_mark}
use Rattle.cg_arena.specs.Table.{nodes_of, rows_of, serials_of, room_of, IsSpelled, IsNamed, ends_at, row_of, IsSound}
use Rattle.cg_arena.specs.Index.{guess_at, IsIndexOf, Finds, HasRow, IsKept}
use Rattle.cg_arena.proofs.Occurrences.{one-same, one-apart, occurrences-single}
use Rattle.cg_arena.proofs.Chains.{HasLinks, linked_still}
use Rattle.cg_arena.proofs.Writes.{part-rewritten, get-rewritten_same, get-rewritten_other}
use Rattle.cg_arena.proofs.Shapes.{SameShape, shape-rewritten}
use Rattle.cg_arena.proofs.Indexes.{index_still, the_node, by_row, here_row}
use Rattle.cg_arena.proofs.Rows.{get-nodes_of, nodes-changed}
use Rattle.cg_arena.proofs.Lists.{serials-same, list-at, ten_lists}

-- the value of given fields
abbrev pub value_of : Slab Slot → List ListEnds → List (ℕ × ℕ) → ℕ → Nodes
value_of s ends rows spare = record { nodes = nodes_of rows s; lists = map (serials_of s) ends; room = room_of spare s }

-- the fields satisfy the invariant, and that is their value
pub record StandsFor (s : Slab Slot) (ends : List ListEnds) (x : SlotIndex) (spare : ℕ) (v : Nodes) : Type 0 where
  pub kept : IsKept s x ends
  pub view : value_of s ends (rows_of s) spare ≡ v

pub room_still : (spare : ℕ) (s new : Slab Slot) → new ≡ record s { slots = new.slots } → slab_len new ≡ slab_len s → room_of spare new ≡ room_of spare s
room_still spare s new rest len = λ i. min (min 1 (2 ^ 32 - 1 - (rest i).vacant_key)) (min spare ((rest i).capacity - len i))

some_mapped : {X Y : Type 0} (f : X → Y) (o : Option X) → IsSome (option_map f o) → IsSome o
some_mapped f None has = absurd (cc)
some_mapped f (Some x) has = refl

pub some_serial : (o : Option Slot) (t : ℕ) → serial_in o ≡ Some t → IsSome o
some_serial None t is = absurd (cc)
some_serial (Some c) t is = refl

module _ (s : Slab Slot) (ends : List ListEnds) (rows : List (ℕ × ℕ)) (spare : ℕ) (v : Nodes) (view_is : value_of s ends rows spare ≡ v) (t : ℕ) where
  -- a serial with a node has a row
  pub row_there : HasNode v t → IsSome (row_of rows t)
  row_there has =
      some_mapped (λ k. node_in (get s k)) (row_of rows t)
      (subst IsSome (get-nodes_of rows s t) (subst (λ (w : Nodes). IsSome (fin.get w.nodes t)) (sym view_is) has))

  pub row_there_back : IsSome (row_of rows t) → HasNode v t
  row_there_back has =
      subst (λ (w : Nodes). IsSome (fin.get w.nodes t)) view_is
      (subst IsSome (sym (get-nodes_of rows s t)) (mapped_some (row_of rows t) has))
    where
      mapped_some : (o : Option ℕ) → IsSome o → IsSome (option_map (λ k. node_in (get s k)) o)
      mapped_some None h = absurd (cc)
      mapped_some (Some x) h = refl

  -- its node is that of the slot
  pub node_here : (k : ℕ) (c : Slot) → row_of rows t ≡ Some k → get s k ≡ Some c → fin.get v.nodes t ≡ Some (node_of c)
  node_here k c row_is slot_is =
      ap (λ (w : Nodes). fin.get w.nodes t) (sym view_is)
      ∙ get-nodes_of rows s t
      ∙ ap (option_map (λ j. node_in (get s j))) row_is
      ∙ ap (λ o. Some (node_in o)) slot_is

pub some_value : {X : Type 0} (o : Option X) → IsSome o → (x : X) × (o ≡ Some x)
some_value None some = absurd (cc)
some_value (Some x) some = (x, refl)

-- a row names an occupied slot
pub slot_there : (s : Slab Slot) (ends : List ListEnds) (rows : List (ℕ × ℕ)) → IsSound s ends rows → (t k : ℕ) → row_of rows t ≡ Some k → IsSome (get s k)
slot_there s ends rows sound t k row_is = some_serial (get s k) t (sound.names.rowed t k row_is)

-- an occupied slot's place has a number below 10
pub slot_placed : (s : Slab Slot) (ends : List ListEnds) (rows : List (ℕ × ℕ)) → IsSound s ends rows → (k : ℕ) (c : Slot) → get s k ≡ Some c → IsPlace c.place
slot_placed s ends rows sound k c is = (sound.placed k c.place (ap place_in_slot is)).0

spelled_still : (cell new : ℕ → Option Slot) (ends : ℕ → ListEnds) (chain : ℕ → List ℕ) → ((j : ℕ) → HasLinks cell new j) → ((j : ℕ) → place_in_slot (new j)
    ≡ place_in_slot (cell j)) → IsSpelled cell ends chain None → IsSpelled new ends chain None
spelled_still cell new ends chain links places spelled =
    record {
      linked = λ p below. linked_still cell new None (chain p) None (λ j stands. links j) (spelled.linked p below);
      ended = spelled.ended;
      standing = λ p k below. spelled.standing p k below ∙ ap (count_in_list p) (sym (places k));
    }

pub named_still : (serial new row : ℕ → Option ℕ) → ((k : ℕ) → new k ≡ serial k) → IsNamed serial row → IsNamed new row
named_still serial new row same names =
    record {
      named = λ k s is. names.named k s (sym (same k) ∙ is);
      rowed = λ s k is. same k ∙ names.rowed s k is;
    }

-- links, places and serials are unchanged
module _ (s new : Slab Slot) (ends : List ListEnds) (rows : List (ℕ × ℕ)) (sound : IsSound s ends rows) (links : (j : ℕ) → HasLinks (get s) (get new) j)
    (places : (j : ℕ) → place_in_slot (get new j) ≡ place_in_slot (get s j)) (names : (j : ℕ) → serial_in (get new j) ≡ serial_in (get s j)) (len : slab_len new
    ≡ slab_len s) where
  pub sound_still : IsSound new ends rows
  sound_still =
      record {
        ten = sound.ten;
        chain = sound.chain;
        spelled = spelled_still (get s) (get new) (ends_at ends) sound.chain links places sound.spelled;
        names = named_still (λ k. serial_in (get s k)) (λ k. serial_in (get new k)) (row_of rows) names sound.names;
        placed = λ k p is. sound.placed k p (sym (places k) ∙ is);
        counted = sound.counted ∙ sym len;
        few = subst (λ n. n < 2 ^ 64) (sym len) sound.few;
      }

  still_spelled : IsSpelled (get new) (ends_at ends) sound.chain None
  still_spelled = spelled_still (get s) (get new) (ends_at ends) sound.chain links places sound.spelled

  pub lists_still : map (serials_of new) ends ≡ map (serials_of s) ends
  lists_still =
      ten_lists (map (serials_of new) ends) (map (serials_of s) ends) (length-map ends (serials_of new) ∙ sound.ten) (length-map ends (serials_of s) ∙ sound.ten)
      (λ r below.
      list-at new ends sound.chain None sound.ten still_spelled r below
      ∙ serials-same s new (sound.chain r) (λ j stands. names j)
      ∙ sym (list-at s ends sound.chain None sound.ten sound.spelled r below))

-- all serials are in their old slots
module _ (s new : Slab Slot) (shape : SameShape s new) where
  pub kept_by : (x : SlotIndex) (ends later : List ListEnds) → IsKept s x ends → IsSound new later (rows_of s) → IsKept new x later
  kept_by x ends later kept sound =
      record {
        sound = subst (IsSound new later) (sym shape.rows) sound;
        indexed = index_still (λ k. serial_in (get s k)) (λ k. serial_in (get new k)) x shape.serials kept.indexed;
      }

  pub seen_by : (ends : List ListEnds) (spare : ℕ) (v : Nodes) → value_of new ends (rows_of s) spare ≡ v → value_of new ends (rows_of new) spare ≡ v
  seen_by ends spare v is = ap (λ rows. value_of new ends rows spare) shape.rows ∙ is

-- one field of one node is written
module _ (f : Slot → Slot) (befores : (x : Slot) → before_of (f x) ≡ before_of x) (afters : (x : Slot) → after_of (f x) ≡ after_of x)
    (serial_same : (x : Slot) → (f x).serial ≡ x.serial) (place_same : (x : Slot) → (f x).place ≡ x.place) (s : Slab Slot) (ends : List ListEnds) (x : SlotIndex)
    (kept : IsKept s x ends) (k : ℕ) where
  abbrev rows : List (ℕ × ℕ)
  rows = rows_of s

  abbrev sound : IsSound s ends (rows_of s)
  sound = kept.sound

  shape : SameShape s (rewritten f k s)
  shape = shape-rewritten f k s serial_same

  field_links : (j : ℕ) → HasLinks (get s) (get (rewritten f k s)) j
  field_links j = (part-rewritten before_in f befores k s j, part-rewritten after_in f afters k s j)

  field_places : (j : ℕ) → place_in_slot (get (rewritten f k s) j) ≡ place_in_slot (get s j)
  field_places j = part-rewritten place_in_slot f (λ x. ap Some (place_same x)) k s j

  pub field_kept : (new : Slab Slot) → new ≡ rewritten f k s → IsKept new x ends
  field_kept new is = subst (λ z. IsKept z x ends) (sym is) (kept_by s (rewritten f k s) shape x ends ends kept (sound_still s (rewritten f k s) ends
      (rows_of s) kept.sound field_links field_places shape.serials shape.len))

  -- the value with the node changed
  pub field_view : (new : Slab Slot) → new ≡ rewritten f k s → (spare : ℕ) (v : Nodes) → value_of s ends (rows_of s) spare ≡ v → (g : ArenaNode → ArenaNode)
      (t : ℕ) (c : Slot) → row_of (rows_of s) t ≡ Some k → get s k ≡ Some c → node_of (f c) ≡ g (node_of c)
      → value_of new ends (rows_of new) spare ≡ with_node_changed g t v
  field_view new is spare v view_is g t c row_is slot_is node_is =
      let node_here : node_in (get (rewritten f k s) k) ≡ g (node_in (get s k)) =
      ap node_in (get-rewritten_same f k s ∙ ap (option_map f) slot_is) ∙ node_is ∙ ap (λ o. g (node_in o)) (sym slot_is) in
      let nodes_are = nodes-changed rows s (rewritten f k s) sound.names g t k row_is node_here (λ j differs. ap node_in (get-rewritten_other f k s j differs)) in
      let lists_are = lists_still s (rewritten f k s) ends rows sound field_links field_places shape.serials shape.len in
      let changed_is : value_of (rewritten f k s) ends rows spare ≡ with_node_changed g t (value_of s ends rows spare) = λ i. record {
        nodes = nodes_are i;
        lists = lists_are i;
        room = room_still spare s (rewritten f k s) shape.rest shape.len i;
      } in
      ap (λ z. value_of z ends (rows_of z) spare) is
      ∙ seen_by s (rewritten f k s) shape ends spare (with_node_changed g t (value_of s ends rows spare)) changed_is
      ∙ ap (with_node_changed g t) view_is

-- a slot with the mark has the marked node
pub node_of-with_mark : (c : Slot) → node_of (with_mark c) ≡ node_finalized (node_of c)
node_of-with_mark c = go c.marks
  where
    go : (m : Marks) → node_of (with_mark (record c { marks = m })) ≡ node_finalized (node_of (record c { marks = m }))
    go Neither = refl
    go Classed = refl
    go Finalized = refl
    go Both = refl

-- one count rises or falls
once_changed : (step : ℕ → ArenaNode → ArenaNode) → ((n : ArenaNode) → step 0 n ≡ n) → (t : ℕ) (m : fin.FinMap nat_cmp ArenaNode)
    → mapped (λ q n. step (occurrences q (t ∷ [])) n) m ≡ changed (step 1) t m
once_changed step nothing t m = ap (λ (g : ℕ → ArenaNode → ArenaNode). mapped g m) (λ i q n. each q n i)
  where
    each : (q : ℕ) (n : ArenaNode) → step (occurrences q (t ∷ [])) n ≡ (if q == t then step 1 n else n)
    each q n = elim (cases_eq q t) [
      | inl same ↦
          ap (λ k. step k n) (occurrences-single q t ∙ one-same q t (sym same))
          ∙ sym (ap (λ b. if b then step 1 n else n) (eq-eqb q t same))
      | inr differs ↦
          ap (λ k. step k n) (occurrences-single q t ∙ one-apart q t (λ e. differs (sym e)))
          ∙ nothing n
          ∙ sym (ap (λ b. if b then step 1 n else n) (ne_eqb q t differs))
    ]

up_by_none : (n : ArenaNode) → node_counted_up 0 n ≡ n
up_by_none n = let same : n.count + 0 ≡ n.count = omega arith in ap (λ k. record n { count = k }) same

down_by_none : (n : ArenaNode) → node_counted_down 0 n ≡ n
down_by_none n = let same : n.count - 0 ≡ n.count = omega arith in ap (λ k. record n { count = k }) same

pub up_once : (t : ℕ) (v : Nodes) → with_node_changed (node_counted_up 1) t v ≡ counted_up (t ∷ []) v
up_once t v = ap (λ m. record v { nodes = m }) (sym (once_changed node_counted_up up_by_none t v.nodes))

pub down_once : (t : ℕ) (v : Nodes) → with_node_changed (node_counted_down 1) t v ≡ counted_down (t ∷ []) v
down_once t v = ap (λ m. record v { nodes = m }) (sym (once_changed node_counted_down down_by_none t v.nodes))

-- a count above 0 belongs to a node
pub counted_there : (o : Option ArenaNode) → 0 < count_in o → IsSome o
counted_there None counted = absurd (omega (arith, counted))
counted_there (Some n) counted = refl

-- the index, and a serial whose slot is found
module _ (s : Slab Slot) (ends : List ListEnds) (x : SlotIndex) (kept : IsKept s x ends) where
  pub index_kept : IsIndexOf s x
  index_kept = record { finds = kept.indexed; names = kept.sound.names }

  pub count_kept : (n k : ℕ) (new : Slab Slot) → new ≡ rewritten (with_count n) k s → IsKept new x ends
  count_kept n k = field_kept (with_count n) (λ c. refl) (λ c. refl) (λ c. refl) (λ c. refl) s ends x kept k

  module _ (spare : ℕ) (v : Nodes) (view_is : value_of s ends (rows_of s) spare ≡ v) (t : ℕ) where
    -- the index finds each serial that has a node
    pub found : HasNode v t → Finds s x t
    found has = record { index = index_kept; there = row_there s ends (rows_of s) spare v view_is t has }

    -- by its row, if it is not in its guessed slot
    pub found_by_row : HasNode v t → (guess : ℕ) → guess ≡ guess_at x.hints t → serial_in (get s guess) ≢ Some t → HasRow s x t
    found_by_row has guess guess_is elsewhere =
        let row = some_value (row_of x.rows.entries t) (subst IsSome (sym (by_row s x index_kept t guess guess_is elsewhere)) (found has).there) in
        let node = the_node (get s row.0) t (kept.indexed.right t row.0 row.1) in
        record { at = row.0; slot = node.0; row = row.1; there = node.1; serial_is = node.2 }

    module _ (k : ℕ) (c : Slot) (slot_is : get s k ≡ Some c) (serial_is : c.serial ≡ t) where
      row_is : row_of (rows_of s) t ≡ Some k
      row_is = here_row s x index_kept t c k slot_is serial_is

      node_is : fin.get v.nodes t ≡ Some (node_of c)
      node_is = node_here s ends (rows_of s) spare v view_is t k c row_is slot_is

      pub count_here : count_of v t ≡ c.count
      count_here = ap count_in node_is

      -- its count rises or falls by 1
      pub up_view : (new : Slab Slot) → new ≡ rewritten (with_count (c.count + 1)) k s → value_of new ends (rows_of new) spare ≡ counted_up (t ∷ []) v
      up_view new is =
          field_view (with_count (c.count + 1)) (λ d. refl) (λ d. refl) (λ d. refl) (λ d. refl) s ends x kept k new is spare v view_is (node_counted_up 1) t c row_is slot_is refl
          ∙ up_once t v

      pub down_view : (new : Slab Slot) → new ≡ rewritten (with_count (c.count - 1)) k s → value_of new ends (rows_of new) spare ≡ counted_down (t ∷ []) v
      down_view new is =
          field_view (with_count (c.count - 1)) (λ d. refl) (λ d. refl) (λ d. refl) (λ d. refl) s ends x kept k new is spare v view_is (node_counted_down 1) t c row_is slot_is refl
          ∙ down_once t v

      -- whether the count is then 0
      pub down_to_none : (b : Bool) → b ≡ (c.count - 1 == 0) → (w : Nodes) → w ≡ counted_down (t ∷ []) v → IsTrue b ↔ (count_of w t ≡ 0)
      down_to_none b b_is w down = ((λ yes. left ∙ eqb-true (c.count - 1) 0 (sym b_is ∙ yes)), (λ none. b_is ∙ eq-eqb (c.count - 1) 0 (sym left ∙ none)))
        where
          left : count_of w t ≡ c.count - 1
          left =
              ap (λ (u : Nodes). count_of u t) (down ∙ sym (down_once t v))
              ∙ ap count_in (get-changed_same (node_counted_down 1) t v.nodes t refl ∙ ap (option_map (node_counted_down 1)) node_is)
