-- The nodes that rows and slots represent, when a slot or a row changes.
use Rattle.std.proofs.Common.{◌≡◌, ◌≢◌, ℕ, Bool, true, false, List, [], ◌∷◌, map, Option, Some, None, cond, refl, sym, ap, ◌∙◌, inl, inr}
use Rattle.std.specs.Prelude.{nat_eq, option_map, if◌then◌else◌}
use Rattle.std.specs.Map.{lookup}
use Rattle.std.proofs.lemmas.Bool.{cases_eq, eq-eqb, ne_eqb}
use Rattle.std.specs.Ordering.{nat_cmp}
use Rattle.std.specs.Cmp.{nat_cmp_total, unsigned_tied}
use Rattle.std.specs.FinMap as fin
use Rattle.slab.specs.Slab.{Slab, get}
use Rattle.cg_graph.specs.Maps.{mapped, changed}
use Rattle.cg_graph.proofs.Maps.{same_map, get-mapped, get-changed_same, get-changed_other, get-insert_same, get-insert_other, get-remove_same, get-remove_other}
use Rattle.cg_arena.specs.declared.slot.Slot.{Slot}
use Rattle.cg_arena.specs.Nodes.{ArenaNode}
use Rattle.cg_arena.specs.Slots.{serial_in, node_in}
use Rattle.cg_arena.specs.Table.{nodes_of, row_of, IsNamed}

find-lookup : {X : Type 0} (q : ℕ) (es : List (ℕ × X)) → fin.find nat_cmp q es ≡ lookup (nat_eq q) es
find-lookup q [] = refl
find-lookup q (e ∷ es) = λ i. cond (unsigned_tied q e.0 i) (Some e.1) (find-lookup q es i)

lookup-map : {X Y : Type 0} (f : X → Y) (q : ℕ) (es : List (ℕ × X)) → lookup (nat_eq q) (map (λ (e : ℕ × X). (e.0, f e.1)) es) ≡ option_map f (lookup (nat_eq q) es)
lookup-map f q [] = refl
lookup-map {X} {Y} f q (e ∷ es) = go (nat_eq q e.0) (lookup-map f q es)
  where
    go : (b : Bool) → lookup (nat_eq q) (map (λ (e : ℕ × X). (e.0, f e.1)) es) ≡ option_map f (lookup (nat_eq q) es)
        → cond b (Some (f e.1)) (lookup (nat_eq q) (map (λ (e : ℕ × X). (e.0, f e.1)) es)) ≡ option_map f (cond b (Some e.1) (lookup (nat_eq q) es))
    go true rest = refl
    go false rest = rest

-- the node of a serial is that of the slot its row names
pub get-nodes_of : (rows : List (ℕ × ℕ)) (s : Slab Slot) (q : ℕ) → fin.get (nodes_of rows s) q ≡ option_map (λ k. node_in (get s k)) (row_of rows q)
unfolding nodes_of
get-nodes_of rows s q =
    fin.get-from_entries nat_cmp_total (map (λ (e : ℕ × ℕ). (e.0, node_in (get s e.1))) rows) q
    ∙ find-lookup q (map (λ (e : ℕ × ℕ). (e.0, node_in (get s e.1))) rows)
    ∙ lookup-map (λ k. node_in (get s k)) q rows

-- a function applied to each value of a map
at_each : {X Y : Type 0} (f g : X → Y) (o : Option X) → ((x : X) → o ≡ Some x → f x ≡ g x) → option_map f o ≡ option_map g o
at_each f g None same = refl
at_each f g (Some x) same = ap Some (same x refl)

option_map-map : {X Y Z : Type 0} (g : Y → Z) (f : X → Y) (o : Option X) → option_map g (option_map f o) ≡ option_map (λ x. g (f x)) o
option_map-map g f None = refl
option_map-map g f (Some x) = refl

-- a change of other parts keeps the nodes
pub nodes-same : (rows : List (ℕ × ℕ)) (s new : Slab Slot) → ((k : ℕ) → node_in (get new k) ≡ node_in (get s k)) → nodes_of rows new ≡ nodes_of rows s
nodes-same rows s new same =
    same_map (nodes_of rows new) (nodes_of rows s)
    (λ q.
    get-nodes_of rows new q
    ∙ at_each (λ k. node_in (get new k)) (λ k. node_in (get s k)) (row_of rows q) (λ k is. same k)
    ∙ sym (get-nodes_of rows s q))

-- no two serials share a slot
pub one_serial : (serial row : ℕ → Option ℕ) → IsNamed serial row → (s t k : ℕ) → row s ≡ Some k → row t ≡ Some k → s ≡ t
one_serial serial row names s t k s_is t_is =
    let s_there = names.rowed s k s_is in
    let t_there = names.rowed t k t_is in
    let both : Some s ≡ Some t = sym s_there ∙ t_there in
    cc

-- one slot gets another node
pub nodes-changed : (rows : List (ℕ × ℕ)) (s new : Slab Slot) → IsNamed (λ k. serial_in (get s k)) (row_of rows) → (g : ArenaNode → ArenaNode) (t k : ℕ) → row_of rows t ≡ Some k
    → node_in (get new k) ≡ g (node_in (get s k)) → ((j : ℕ) → j ≢ k → node_in (get new j) ≡ node_in (get s j)) → nodes_of rows new ≡ changed g t (nodes_of rows s)
nodes-changed rows s new names g t k row_is here there =
    same_map (nodes_of rows new) (changed g t (nodes_of rows s))
    (λ q. get-nodes_of rows new q ∙ elim (cases_eq q t) [
      | inl same ↦
          ap (λ u. option_map (λ j. node_in (get new j)) (row_of rows u)) same
          ∙ ap (option_map (λ j. node_in (get new j))) row_is
          ∙ ap Some here
          ∙ sym
          (
          get-changed_same g t (nodes_of rows s) q same
          ∙ ap (λ u. option_map g (fin.get (nodes_of rows s) u)) same
          ∙ ap (option_map g) (get-nodes_of rows s t ∙ ap (option_map (λ j. node_in (get s j))) row_is)
          )
      | inr differs ↦
          at_each (λ j. node_in (get new j)) (λ j. node_in (get s j)) (row_of rows q)
          (λ j is. there j (λ same. differs (one_serial (λ k. serial_in (get s k)) (row_of rows) names q t k (is ∙ ap Some same) row_is)))
          ∙ sym (get-changed_other g t (nodes_of rows s) q differs ∙ get-nodes_of rows s q)
    ])

-- each slot gets another node
pub nodes-mapped : (rows : List (ℕ × ℕ)) (s new : Slab Slot) (g : ArenaNode → ArenaNode) → ((q k : ℕ) → row_of rows q ≡ Some k → node_in (get new k)
    ≡ g (node_in (get s k))) → nodes_of rows new ≡ mapped (λ q n. g n) (nodes_of rows s)
nodes-mapped rows s new g each =
    same_map (nodes_of rows new) (mapped (λ q n. g n) (nodes_of rows s))
    (λ q.
    get-nodes_of rows new q
    ∙ at_each (λ k. node_in (get new k)) (λ k. g (node_in (get s k))) (row_of rows q) (each q)
    ∙ sym (option_map-map g (λ k. node_in (get s k)) (row_of rows q))
    ∙ sym (get-mapped (λ q n. g n) (nodes_of rows s) q ∙ ap (option_map g) (get-nodes_of rows s q)))

-- a row is added
pub nodes-insert : (rows later : List (ℕ × ℕ)) (s new : Slab Slot) → IsNamed (λ k. serial_in (get s k)) (row_of rows) → (t k : ℕ) (n : ArenaNode) → get s k ≡ None
    → ((q : ℕ) → row_of later q ≡ (if nat_eq t q then Some k else row_of rows q)) → node_in (get new k) ≡ n → ((j : ℕ) → j ≢ k → node_in (get new j) ≡ node_in (get s j))
    → nodes_of later new ≡ fin.insert (nodes_of rows s) t n
nodes-insert rows later s new names t k n vacant rows_are here there =
    same_map (nodes_of later new) (fin.insert (nodes_of rows s) t n)
    (λ q. get-nodes_of later new q ∙ ap (option_map (λ j. node_in (get new j))) (rows_are q) ∙ elim (cases_eq q t) [
      | inl same ↦
          ap (λ b. option_map (λ j. node_in (get new j)) (if b then Some k else row_of rows q)) (eq-eqb t q (sym same))
          ∙ ap Some here
          ∙ sym (get-insert_same (nodes_of rows s) t q n same)
      | inr differs ↦
          ap (λ b. option_map (λ j. node_in (get new j)) (if b then Some k else row_of rows q)) (ne_eqb t q (λ e. differs (sym e)))
          ∙ at_each (λ j. node_in (get new j)) (λ j. node_in (get s j)) (row_of rows q)
          (λ j is. there j (λ same.
          let named = names.rowed q j is in
          let none : serial_in (get s j) ≡ None = ap (λ i. serial_in (get s i)) same ∙ ap serial_in vacant in
          absurd (cc)))
          ∙ sym (get-insert_other (nodes_of rows s) t q n differs ∙ get-nodes_of rows s q)
    ])

-- a row is removed
pub nodes-remove : (rows later : List (ℕ × ℕ)) (s new : Slab Slot) → IsNamed (λ k. serial_in (get s k)) (row_of rows) → (t k : ℕ) → row_of rows t ≡ Some k
    → ((q : ℕ) → row_of later q ≡ (if nat_eq t q then None else row_of rows q)) → ((j : ℕ) → j ≢ k → node_in (get new j) ≡ node_in (get s j))
    → nodes_of later new ≡ fin.remove (nodes_of rows s) t
nodes-remove rows later s new names t k row_is rows_are there =
    same_map (nodes_of later new) (fin.remove (nodes_of rows s) t)
    (λ q. get-nodes_of later new q ∙ ap (option_map (λ j. node_in (get new j))) (rows_are q) ∙ elim (cases_eq q t) [
      | inl same ↦
          ap (λ b. option_map (λ j. node_in (get new j)) (if b then None else row_of rows q)) (eq-eqb t q (sym same))
          ∙ sym (get-remove_same (nodes_of rows s) t q same)
      | inr differs ↦
          ap (λ b. option_map (λ j. node_in (get new j)) (if b then None else row_of rows q)) (ne_eqb t q (λ e. differs (sym e)))
          ∙ at_each (λ j. node_in (get new j)) (λ j. node_in (get s j)) (row_of rows q)
          (λ j is. there j (λ same. differs (one_serial (λ k. serial_in (get s k)) (row_of rows) names q t k (is ∙ ap Some same) row_is)))
          ∙ sym (get-remove_other (nodes_of rows s) t q differs ∙ get-nodes_of rows s q)
    ])
