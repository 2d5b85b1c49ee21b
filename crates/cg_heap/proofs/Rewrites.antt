-- The effect of writing or freeing one body.
use Rattle.std.proofs.Common.{◌≡◌, ◌≢◌, ℕ, zero, suc, ◌+◌, ◌≤◌, List, length, set, Option, Some, None, refl, sym, ap, ◌∙◌, subst, inl, inr, arith}
use Rattle.std.specs.Prelude.{◌==◌, option_map, if◌then◌else◌}
use Rattle.std.proofs.lemmas.Bool.{cases_eq}
use Rattle.std.proofs.lemmas.List.{get_or-set_same, get_or-set_other, length-set}
use Rattle.std.specs.Ordering.{nat_cmp}
use Rattle.std.specs.FinMap as fin
use Rattle.cg_value.specs.declared.Entry.{Entry}
use Rattle.cg_value.specs.declared.KindCode.{KindCode}
use Rattle.cg_value.specs.declared.KindCode.TheVariants.{List as ListKind, Tuple, Dict, Inst, Func, Weak}
use Rattle.cg_kind.specs.Bodies.{Bodies, with_body, body_of, entries_of as body_entries, spare_of}
use Rattle.cg_graph.specs.Maps.{changed, total, part}
use Rattle.cg_graph.specs.Holdings.{occurrences}
use Rattle.cg_graph.specs.Value.{references}
use Rattle.cg_graph.specs.Store.{Store, Node, held_within, held_by, inner, entries_of, entries_in}
use Rattle.cg_graph.specs.Changes.{with_entries, rewritten}
use Rattle.cg_graph.proofs.Maps.{total-mapped, total-changed, get-changed_same, get-changed_other, get-insert_same, get-insert_other, total-remove, get-remove_other, get-remove_same, same_map}
use Rattle.cg_arena.specs.Nodes.{ArenaNode}
use Rattle.cg_heap.specs.Boxes.{code_index, bodies_at, HasBody, spare_in_box}
use Rattle.cg_heap.specs.Keeps.{Shape, Alike, node_from, seat_in, size, one, IsWellMade, IsWellMadeAt}
use Rattle.cg_heap.proofs.BoxLemmas.{code_index-below}
use Rattle.cg_heap.proofs.HeapIsStore.{is_live-mapped}
use Rattle.std.proofs.lemmas.Option.{some_pair_parts}

abbrev code_at : ℕ → KindCode
code_at zero = ListKind
code_at (suc zero) = Tuple
code_at (suc (suc zero)) = Dict
code_at (suc (suc (suc zero))) = Inst
code_at (suc (suc (suc (suc zero)))) = Func
code_at (suc (suc (suc (suc (suc n))))) = Weak

code_at-index : (c : KindCode) → code_at (code_index c) ≡ c
code_at-index ListKind = refl
code_at-index Tuple = refl
code_at-index Dict = refl
code_at-index Inst = refl
code_at-index Func = refl
code_at-index Weak = refl

pub same_code : (c d : KindCode) → code_index c ≡ code_index d → c ≡ d
same_code c d e = sym (code_at-index c) ∙ ap code_at e ∙ code_at-index d

-- the node of a seat
pub node_seated : (a : Option ArenaNode) (code : KindCode) (body : ℕ) → seat_in a ≡ Some (code, body) → (n : ArenaNode) × (a ≡ Some n) × (n.code ≡ code) × (n.body ≡ body)
node_seated None code body e = absurd (cc)
node_seated (Some n) code body e = let parts = some_pair_parts n.code code n.body body e in (n, refl, parts.0, parts.1)

-- the object of a node
pub object-of : (all : List Bodies) (nodes : fin.FinMap nat_cmp ArenaNode) (m : fin.FinMap nat_cmp Node) (o : ℕ) (n : ArenaNode) → Alike all (fin.get nodes o)
    (fin.get m o) → fin.get nodes o ≡ Some n → (x : Node) × (fin.get m o ≡ Some x) × (x ≡ node_from all n x.outside) × HasBody all n.code n.body
object-of all nodes m o n h found = known (fin.get m o) (subst (λ a. Alike all a (fin.get m o)) found h)
  where
    known : (y : Option Node) → Alike all (Some n) y → (x : Node) × (y ≡ Some x) × (x ≡ node_from all n x.outside) × HasBody all n.code n.body
    known None h = absurd h
    known (Some x) h = (x, refl, h.0, h.1)

module _ (all : List Bodies) (nodes : fin.FinMap nat_cmp ArenaNode) (store : Store) (ok : Shape all nodes store) (o : ℕ) (n : ArenaNode)
    (found : fin.get nodes o ≡ Some n) (es : List Entry) (spare : ℕ) where
  abbrev written : Bodies
  written = with_body (bodies_at all n.code) n.body es spare

  abbrev pub all_after : List Bodies
  all_after = set all (code_index n.code) written

  bodies_at-same : (c : KindCode) → c ≡ n.code → bodies_at all_after c ≡ written
  bodies_at-same c e =
      ap (bodies_at all_after) e
      ∙ get_or-set_same all (code_index n.code) written fin.empty (omega (arith, ok.six, code_index-below n.code))

  bodies_at-other : (c : KindCode) → c ≢ n.code → bodies_at all_after c ≡ bodies_at all c
  bodies_at-other c differs =
      get_or-set_other all (code_index n.code) (code_index c) written fin.empty (λ e. differs (same_code c n.code e))

  body-written : fin.get (bodies_at all_after n.code) n.body ≡ Some (body_of es spare)
  body-written = ap (λ m. fin.get m n.body) (bodies_at-same n.code refl) ∙ get-insert_same (bodies_at all n.code) n.body n.body (body_of es spare) refl

  body-kept : (p : ℕ) (m : ArenaNode) → fin.get nodes p ≡ Some m → p ≢ o → fin.get (bodies_at all_after m.code) m.body ≡ fin.get (bodies_at all m.code) m.body
  body-kept p m at differs =
      elim (cases_eq (code_index m.code) (code_index n.code)) [
        | inl same ↦
            let code : m.code ≡ n.code = same_code m.code n.code same in
            ap (λ x. fin.get x m.body) (bodies_at-same m.code code)
            ∙ get-insert_other (bodies_at all n.code) n.body m.body (body_of es spare)
            (λ body. differs (ok.apart p o (n.code, n.body) (ap seat_in at ∙ (λ i. Some (code i, body i))) (ap seat_in found)))
            ∙ ap (λ c. fin.get (bodies_at all c) m.body) (sym code)
        | inr other ↦ ap (λ x. fin.get x m.body) (bodies_at-other m.code (λ e. other (ap code_index e)))
      ]

  -- all other spare capacities are kept, and the new one is set
  pub spare-kept : (p : ℕ) (code : KindCode) (body : ℕ) → p ≢ o → seat_in (fin.get nodes p) ≡ Some (code, body) → spare_in_box all_after code body ≡ spare_in_box all code body
  spare-kept p code body differs seat =
      let (m, at, c, b) = node_seated (fin.get nodes p) code body seat in
      (λ i. spare_in_box all_after (sym c i) (sym b i)) ∙ ap spare_of (body-kept p m at differs) ∙ (λ i. spare_in_box all (c i) (b i))

  pub spare-written : spare_in_box all_after n.code n.body ≡ spare
  spare-written = ap spare_of body-written

  alike-written : (q : ℕ) → Alike all_after (fin.get nodes q) (fin.get (changed (with_entries es) o store.nodes) q)
  alike-written q =
      elim (cases_eq q o) [
        | inl same ↦
            let (x, at, is, h) = object-of all nodes store.nodes o n (ok.alike o) found in
            rw (get-changed_same (with_entries es) o store.nodes q same, same, at, found)
            (ap (with_entries es) is ∙ ap (λ b. with_entries (body_entries b) (node_from all n x.outside)) (sym body-written), rw body-written refl)
        | inr differs ↦ rw (get-changed_other (with_entries es) o store.nodes q differs) (known (fin.get nodes q) (fin.get store.nodes q) refl differs (ok.alike q))
      ]
    where
      known : (a : Option ArenaNode) (x : Option Node) → fin.get nodes q ≡ a → q ≢ o → Alike all a x → Alike all_after a x
      known None None at differs h = tt
      known None (Some x) at differs h = absurd h
      known (Some m) None at differs h = absurd h
      known (Some m) (Some x) at differs h =
          let kept = body-kept q m at differs in
          (h.0 ∙ ap (λ b. with_entries (body_entries b) (node_from all m x.outside)) (sym kept), rw kept h.1)

  pub shape-written : Shape all_after nodes (rewritten o es store)
  shape-written =
      record {
        six = length-set all (code_index n.code) written ∙ ok.six;
        alike = alike-written;
        apart = ok.apart;
        below = λ s h. ok.below s (is_live-mapped (λ s x. if s == o then with_entries es x else x) store.nodes s h);
      }

-- writing an object's own entries changes nothing
pub rewritten-same : (store : Store) (o : ℕ) → rewritten o (entries_of store o) store ≡ store
rewritten-same store o = λ i. record store { nodes = same_map (changed (with_entries (entries_of store o)) o store.nodes) store.nodes same i }
  where
    known : (y : Option Node) → option_map (with_entries (entries_in y)) y ≡ y
    known None = refl
    known (Some x) = refl

    same : (q : ℕ) → fin.get (changed (with_entries (entries_of store o)) o store.nodes) q ≡ fin.get store.nodes q
    same q =
        elim (cases_eq q o) [
          | inl is ↦
              get-changed_same (with_entries (entries_of store o)) o store.nodes q is
              ∙ ap (λ k. option_map (with_entries (entries_in (fin.get store.nodes k))) (fin.get store.nodes q)) (sym is)
              ∙ known (fin.get store.nodes q)
          | inr differs ↦ get-changed_other (with_entries (entries_of store o)) o store.nodes q differs
        ]

-- what new entries of an object change
module _ (store : Store) (o : ℕ) (x : Node) (found : fin.get store.nodes o ≡ Some x) (es : List Entry) where
  pub inner-written : (s : ℕ) → inner (rewritten o es store) s + occurrences s (references x.entries) ≡ inner store s + occurrences s (references es)
  unfolding held_within
  inner-written s = omega (arith, total-changed (held_by s) (with_entries es) store.nodes o x found)

  pub ones-written : total one (rewritten o es store).nodes ≡ total one store.nodes
  ones-written = total-mapped (λ s x. if s == o then with_entries es x else x) one one store.nodes (λ s x. refl)

  pub well-written : ((s : ℕ) → IsWellMadeAt (fin.get store.nodes s)) → (IsWellMade x → IsWellMade (with_entries es x)) → (s : ℕ) → IsWellMadeAt (fin.get (rewritten o es store).nodes s)
  well-written was new s =
      elim (cases_eq s o) [
        | inl same ↦
            let here : IsWellMade x = subst IsWellMadeAt found (was o) in
            subst IsWellMadeAt (sym (get-changed_same (with_entries es) o store.nodes s same ∙ ap (λ q. option_map (with_entries es) (fin.get store.nodes q))
            same ∙ ap (option_map (with_entries es)) found)) (new here)
        | inr differs ↦ subst IsWellMadeAt (sym (get-changed_other (with_entries es) o store.nodes s differs)) (was s)
      ]

  pub sizes-written : total size (rewritten o es store).nodes + length x.entries ≡ total size store.nodes + length es
  sizes-written = total-changed size (with_entries es) store.nodes o x found

  pub entries-written : entries_of (rewritten o es store) o ≡ es
  entries-written = ap entries_in (get-changed_same (with_entries es) o store.nodes o refl ∙ ap (option_map (with_entries es)) found)

  pub entries-written_other : (s : ℕ) → s ≢ o → entries_of (rewritten o es store) s ≡ entries_of store s
  entries-written_other s differs = ap entries_in (get-changed_other (with_entries es) o store.nodes s differs)

  -- two objects together have at most as many entries as all objects
  pub two-sizes : (s : ℕ) → s ≢ o → length x.entries + length (entries_of store s) ≤ total size store.nodes
  two-sizes s differs =
      let first : total size (fin.remove store.nodes o) + length x.entries ≡ total size store.nodes =
      ap (λ y. total size (fin.remove store.nodes o) + part size y) (sym found) ∙ total-remove size store.nodes o in
      let second = total-remove size (fin.remove store.nodes o) s in
      let there : part size (fin.get (fin.remove store.nodes o) s) ≡ length (entries_of store s) = ap (part size) (get-remove_other store.nodes o s differs) ∙ known (fin.get store.nodes s) in
      omega (arith, first, second, there)
    where
      known : (y : Option Node) → part size y ≡ length (entries_in y)
      known None = refl
      known (Some y) = refl

-- A body is freed with its node.
module _ (all : List Bodies) (nodes : fin.FinMap nat_cmp ArenaNode) (store : Store) (ok : Shape all nodes store) (o : ℕ) (n : ArenaNode) (found : fin.get nodes o ≡ Some n) where
  abbrev left : Bodies
  left = fin.remove (bodies_at all n.code) n.body

  left-same : (c : KindCode) → c ≡ n.code → bodies_at (set all (code_index n.code) left) c ≡ left
  left-same c e =
      ap (bodies_at (set all (code_index n.code) left)) e
      ∙ get_or-set_same all (code_index n.code) left fin.empty (omega (arith, ok.six, code_index-below n.code))

  left-other : (c : KindCode) → c ≢ n.code → bodies_at (set all (code_index n.code) left) c ≡ bodies_at all c
  left-other c differs =
      get_or-set_other all (code_index n.code) (code_index c) left fin.empty (λ e. differs (same_code c n.code e))

  left-kept : (p : ℕ) (m : ArenaNode) → fin.get nodes p ≡ Some m → p ≢ o → fin.get (bodies_at (set all (code_index n.code) left) m.code) m.body ≡ fin.get (bodies_at all m.code) m.body
  left-kept p m at differs =
      elim (cases_eq (code_index m.code) (code_index n.code)) [
        | inl same ↦
            let code : m.code ≡ n.code = same_code m.code n.code same in
            ap (λ x. fin.get x m.body) (left-same m.code code)
            ∙ get-remove_other (bodies_at all n.code) n.body m.body
            (λ body. differs (ok.apart p o (n.code, n.body) (ap seat_in at ∙ (λ i. Some (code i, body i))) (ap seat_in found)))
            ∙ ap (λ c. fin.get (bodies_at all c) m.body) (sym code)
        | inr other ↦ ap (λ x. fin.get x m.body) (left-other m.code (λ e. other (ap code_index e)))
      ]

  pub spare-left : (p : ℕ) (code : KindCode) (body : ℕ) → p ≢ o → seat_in (fin.get nodes p) ≡ Some (code, body) → spare_in_box (set all (code_index n.code) left) code body ≡ spare_in_box all code body
  spare-left p code body differs seat =
      let (m, at, c, b) = node_seated (fin.get nodes p) code body seat in
      (λ i. spare_in_box (set all (code_index n.code) left) (sym c i) (sym b i)) ∙ ap spare_of (left-kept p m at differs) ∙ (λ i. spare_in_box all (c i) (b i))

  pub bodies_gone : (q : ℕ) → Alike (set all (code_index n.code) left) (fin.get (fin.remove nodes o) q) (fin.get (fin.remove store.nodes o) q)
  bodies_gone q =
      elim (cases_eq q o) [
        | inl same ↦ rw (get-remove_same nodes o q same, get-remove_same store.nodes o q same) tt
        | inr differs ↦ rw (get-remove_other nodes o q differs, get-remove_other store.nodes o q differs) (known (fin.get nodes q) (fin.get store.nodes q) refl differs (ok.alike q))
      ]
    where
      known : (a : Option ArenaNode) (x : Option Node) → fin.get nodes q ≡ a → q ≢ o → Alike all a x → Alike (set all (code_index n.code) left) a x
      known None None at differs h = tt
      known None (Some x) at differs h = absurd h
      known (Some m) None at differs h = absurd h
      known (Some m) (Some x) at differs h =
          let kept = left-kept q m at differs in
          (h.0 ∙ ap (λ b. with_entries (body_entries b) (node_from all m x.outside)) (sym kept), rw kept h.1)
