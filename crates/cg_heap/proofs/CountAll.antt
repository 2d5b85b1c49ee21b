-- References counted one by one.
use Rattle.std.proofs.Common.{◌≡◌, ◌⊎◌, ℕ, ◌+◌, ◌<◌, ◌≤◌, List, [], ◌∷◌, ◌++◌, length, get_or, Option, Some, None, IsSome, refl, sym, ap, ◌∙◌, subst, inl, inr, arith, take, drop}
use Rattle.std.specs.Prelude.{◌==◌, option_map, IfSome}
use Rattle.std.proofs.lemmas.Bool.{cases_eq, eq-eqb}
use Rattle.std.proofs.lemmas.List.{take_more, take-append-drop}
use Rattle.std.specs.FinMap as fin
use Rattle.cg_value.specs.declared.Val.{Val}
use Rattle.cg_value.specs.declared.Val.TheVariants as val
use Rattle.cg_value.specs.declared.Entry.{Entry}
use Rattle.cg_graph.specs.Holdings.{occurrences}
use Rattle.cg_graph.specs.Value.{references, entry_references, references_of_value}
use Rattle.cg_graph.proofs.Maps.{get-mapped, same_map, get-insert_same, get-insert_other}
use Rattle.cg_arena.specs.Nodes.{ArenaNode, Nodes, count_in, counted_up, node_counted_up, with_node, with_room, IsPlace}
use Rattle.cg_value.specs.declared.KindCode.{KindCode}
use Rattle.cg_value.specs.declared.KindCode.TheVariants.{List as ListKind, Tuple, Dict, Inst, Func, Weak}
use Rattle.cg_graph.specs.Object.{first_place}
use Rattle.cg_heap.proofs.ReferenceLemmas.{occurrences-append, references-append, occurrences-le, occurrences-one, one_if}
use Rattle.cg_heap.specs.Keeps.{seat_in}
use Rattle.cg_heap.proofs.HeapIsStore.{live-mapped}

counts-more : (j k : ℕ) (a : Option ArenaNode) (m : ℕ) → m ≡ j + k → option_map (node_counted_up k) (option_map (node_counted_up j) a) ≡ option_map (node_counted_up m) a
counts-more j k None m e = refl
counts-more j k (Some n) m e = let same : (n.count + j) + k ≡ n.count + m = omega (arith, e) in ap (λ c. Some (record n { count = c })) same

-- counting one by one, and all at once
pub counted_twice : (xs ys zs : List ℕ) (v : Nodes) → ((s : ℕ) → occurrences s zs ≡ occurrences s xs + occurrences s ys) → counted_up ys (counted_up xs v) ≡ counted_up zs v
counted_twice xs ys zs v e =
    λ i. record {
      nodes = same_map (counted_up ys (counted_up xs v)).nodes (counted_up zs v).nodes (λ s.
          get-mapped (λ s n. node_counted_up (occurrences s ys) n) (counted_up xs v).nodes s
          ∙ ap (option_map (node_counted_up (occurrences s ys))) (get-mapped (λ s n. node_counted_up (occurrences s xs) n) v.nodes s)
          ∙ counts-more (occurrences s xs) (occurrences s ys) (fin.get v.nodes s) (occurrences s zs) (e s)
          ∙ sym (get-mapped (λ s n. node_counted_up (occurrences s zs) n) v.nodes s)) i;
      lists = v.lists;
      room = v.room;
    }

pub count-le : (xs : List ℕ) (v : Nodes) (s : ℕ) → count_in (fin.get (counted_up xs v).nodes s) ≤ count_in (fin.get v.nodes s) + occurrences s xs
count-le xs v s = subst (λ a. count_in a ≤ count_in (fin.get v.nodes s) + occurrences s xs) (sym (get-mapped (λ s n. node_counted_up (occurrences s xs) n) v.nodes s)) (known (fin.get v.nodes s))
  where
    known : (a : Option ArenaNode) → count_in (option_map (node_counted_up (occurrences s xs)) a) ≤ count_in a + occurrences s xs
    known None = omega arith
    known (Some n) = omega arith

-- the references of the entries so far and the next one
references-more : (s : ℕ) (es : List Entry) (i : ℕ) (d : Entry) → i < length es → occurrences s (references (take (i + 1) es))
    ≡ occurrences s (references (take i es)) + occurrences s (references_of_value (Some (get_or es i d).val)) + occurrences s
    (references_of_value (Some (get_or es i d).key))
references-more s es i d h =
    ap (λ l. occurrences s (references l)) (take_more es i d h)
    ∙ references-append s (take i es) (get_or es i d ∷ [])
    ∙ omega (arith, occurrences-append s (entry_references (get_or es i d)) [], occurrences-append s (references_of_value (Some (get_or es i d).val)) (references_of_value (Some (get_or es i d).key)))

references-le : (s : ℕ) (es : List Entry) (i : ℕ) → occurrences s (references (take i es)) ≤ occurrences s (references es)
references-le s es i =
    let all : occurrences s (references es) ≡ occurrences s (references (take i es ++ drop i es)) = ap (λ l. occurrences s (references l)) (sym (take-append-drop i es)) in
    omega (arith, all, references-append s (take i es) (drop i es))

abbrev one_of : Val → ℕ → ℕ
one_of v s = occurrences s (references_of_value (Some v))

refers : (v : Val) (s : ℕ) → v ≡ val.Ref s → 0 < one_of v s
refers v s e =
    let is : one_of v s ≡ one_of (val.Ref s) s = ap (λ w. one_of w s) e in
    let one : one_if (s == s) ≡ 1 = ap one_if (eq-eqb s s refl) in
    omega (arith, is, occurrences-one s s, one)

module _ (v now : Nodes) (es : List Entry) (i : ℕ) (d : Entry) (h : i < length es) (so_far : now ≡ counted_up (references (take i es)) v) where
  module _ (live : (s : ℕ) → 0 < occurrences s (references es) → IsSome (fin.get v.nodes s)) (room : (s : ℕ) → count_in (fin.get v.nodes s) + occurrences s (references es) < 4294967295) where
    here : (s : ℕ) → ((get_or es i d).val ≡ val.Ref s) ⊎ ((get_or es i d).key ≡ val.Ref s) → 0 < occurrences s (references es)
    here s (inl e) = let r = refers (get_or es i d).val s e in omega (arith, references-more s es i d h, references-le s es (i + 1), r)
    here s (inr e) = let r = refers (get_or es i d).key s e in omega (arith, references-more s es i d h, references-le s es (i + 1), r)

    live-now : (s : ℕ) → 0 < occurrences s (references es) → IsSome (fin.get now.nodes s)
    live-now s there = subst (λ (w : Nodes). IsSome (fin.get w.nodes s)) (sym so_far) (live-mapped (λ s n. node_counted_up (occurrences s (references (take i es))) n) v.nodes s (live s there))

    pub first-live : (s : ℕ) → (get_or es i d).val ≡ val.Ref s → IsSome (fin.get now.nodes s)
    first-live s e = live-now s (here s (inl e))

    pub first-room : (s : ℕ) → (get_or es i d).val ≡ val.Ref s → count_in (fin.get now.nodes s) < 4294967295
    first-room s e = subst (λ (w : Nodes). count_in (fin.get w.nodes s) < 4294967295) (sym so_far) (omega (arith, count-le (references (take i es)) v s, references-le s es i, room s))

    module _ (next : Nodes) (counted : next ≡ counted_up (references_of_value (Some (get_or es i d).val)) now) where
      pub second-live : (s : ℕ) → (get_or es i d).key ≡ val.Ref s → IsSome (fin.get next.nodes s)
      second-live s e = subst (λ (w : Nodes). IsSome (fin.get w.nodes s)) (sym counted)
          (live-mapped (λ s n. node_counted_up (occurrences s (references_of_value (Some (get_or es i d).val))) n) now.nodes s (live-now s (here s (inr e))))

      pub second-room : (s : ℕ) → (get_or es i d).key ≡ val.Ref s → count_in (fin.get next.nodes s) < 4294967295
      second-room s e =
          subst (λ (w : Nodes). count_in (fin.get w.nodes s) < 4294967295) (sym counted)
          (subst (λ (w : Nodes). count_in (fin.get (counted_up (references_of_value (Some (get_or es i d).val)) w).nodes s) < 4294967295) (sym so_far)
          (omega (
            arith,
            count-le (references_of_value (Some (get_or es i d).val)) (counted_up (references (take i es)) v) s,
            count-le (references (take i es))
                v s,
            references-more s es i d h,
            references-le s es (i + 1),
            room s,
          )))

  pub both-counted : (next last : Nodes) → next ≡ counted_up (references_of_value (Some (get_or es i d).val)) now → last
      ≡ counted_up (references_of_value (Some (get_or es i d).key)) next → last ≡ counted_up (references (take (i + 1) es)) v
  both-counted next last e f =
      f ∙ ap (counted_up (references_of_value (Some (get_or es i d).key))) (e ∙ ap (counted_up (references_of_value (Some (get_or es i d).val))) so_far)
      ∙ ap (counted_up (references_of_value (Some (get_or es i d).key))) (counted_twice (references (take i es))
      (references_of_value (Some (get_or es i d).val)) (references (take i es) ++ references_of_value (Some (get_or es i d).val)) v
      (λ s. occurrences-append s (references (take i es)) (references_of_value (Some (get_or es i d).val))))
      ∙ counted_twice (references (take i es) ++ references_of_value (Some (get_or es i d).val)) (references_of_value (Some (get_or es i d).key)) (references (take (i + 1) es)) v
      (λ s. omega (arith, references-more s es i d h, occurrences-append s (references (take i es)) (references_of_value (Some (get_or es i d).val))))

-- none counted yet, and all counted
pub none-counted : (v : Nodes) → v ≡ counted_up [] v
none-counted v = λ i. record {
  nodes = same_map v.nodes (counted_up [] v).nodes (λ s. known (fin.get v.nodes s)
      ∙ sym (get-mapped (λ s n. node_counted_up (occurrences s []) n) v.nodes s)) i;
  lists = v.lists;
  room = v.room;
}
  where
    known : (a : Option ArenaNode) → a ≡ option_map (node_counted_up 0) a
    known None = refl
    known (Some n) = let same : n.count ≡ n.count + 0 = omega arith in ap (λ c. Some (record n { count = c })) same

-- a node added and counted once
module _ (v x : Nodes) (serial : ℕ) (n : ArenaNode) (room : ℕ) (none : n.count ≡ 0) (added : x ≡ counted_up (serial ∷ []) (with_node serial n (with_room room v))) where
  abbrev w : Nodes
  w = with_node serial n (with_room room v)

  pub others_live : (s : ℕ) → IsSome (fin.get v.nodes s) → IsSome (fin.get x.nodes s)
  others_live s live =
      subst (λ (u : Nodes). IsSome (fin.get u.nodes s)) (sym added)
      (live-mapped (λ s n. node_counted_up (occurrences s (serial ∷ [])) n) w.nodes s
      (elim (cases_eq s serial) [
        | inl same ↦ subst IsSome (sym (get-insert_same v.nodes serial s n same)) refl
        | inr differs ↦ subst IsSome (sym (get-insert_other v.nodes serial s n differs)) live
      ]))

  pub others_room : (s k : ℕ) → count_in (fin.get v.nodes s) + k < 4294967294 → count_in (fin.get x.nodes s) + k < 4294967295
  others_room s k fits =
      let up : count_in (fin.get x.nodes s) ≤ count_in (fin.get w.nodes s) + occurrences s (serial ∷ []) =
      subst (λ (u : Nodes). count_in (fin.get u.nodes s) ≤ count_in (fin.get w.nodes s) + occurrences s (serial ∷ [])) (sym added)
      (count-le (serial ∷ []) w s) in
      let one : occurrences s (serial ∷ []) ≤ 1 = occurrences-le s (serial ∷ []) in
      let here : count_in (fin.get w.nodes s) ≤ count_in (fin.get v.nodes s) = elim (cases_eq s serial) [
        | inl same ↦ let is : count_in (fin.get w.nodes s) ≡ 0 = ap count_in (get-insert_same v.nodes serial s n same) ∙ none in omega (arith, is)
        | inr differs ↦ let is : count_in (fin.get w.nodes s) ≡ count_in (fin.get v.nodes s) = ap count_in (get-insert_other v.nodes serial s n differs) in omega (arith, is)
      ] in
      omega (arith, up, one, here, fits)

-- the seat of a node
pub seated : (a : Option ArenaNode) (code : KindCode) (body : ℕ) → IsSome a → IfSome a (λ n. code ≡ n.code) → IfSome a (λ n. body ≡ n.body) → seat_in a ≡ Some (code, body)
seated None code body live c b = absurd (cc)
seated (Some n) code body live c b = λ i. Some (sym c i, sym b i)

pub is_place-first : (c : KindCode) → IsPlace (first_place c)
is_place-first ListKind = omega arith
is_place-first Tuple = omega arith
is_place-first Dict = omega arith
is_place-first Inst = omega arith
is_place-first Func = omega arith
is_place-first Weak = omega arith
