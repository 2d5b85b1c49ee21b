-- Removing an entry.
use Rattle.std.proofs.Common.{◌≡◌, ◌≢◌, ℕ, suc, ◌+◌, ◌-◌, ◌<◌, ◌≤◌, List, [], ◌∷◌, length, Option, Some, None, IsSome, refl, sym, ap, ◌∙◌, inl, inr, arith, subst}
use Rattle.std.specs.Prelude.{◌==◌, if◌then◌else◌, All}
use Rattle.std.proofs.lemmas.Bool.{cases_eq, eq-eqb, ne_eqb}
use Rattle.std.specs.Ordering.{nat_cmp}
use Rattle.std.specs.FinMap as fin
use Rattle.cg_value.specs.declared.Entry.{Entry}
use Rattle.cg_kind.specs.Bodies.{Bodies}
use Rattle.cg_graph.specs.Maps.{total}
use Rattle.cg_graph.specs.Holdings.{occurrences}
use Rattle.cg_graph.specs.Value.{references}
use Rattle.cg_graph.specs.Store.{Store, Node, inner, count_of, IsLive, entries_of, entries_in}
use Rattle.cg_graph.specs.Changes.{held, rewritten, with_entries}
use Rattle.cg_arena.specs.Nodes.{ArenaNode, Nodes, count_in}
use Rattle.cg_heap.specs.declared.heap.objects.Objects.{Objects}
use Rattle.cg_heap.proofs.HoldLemmas.{outside-held, outside-rewritten}
use Rattle.cg_heap.proofs.ReferenceLemmas.{occurrences-append}
use Rattle.cg_heap.specs.Keeps.{HeapKeeps, Alike, size, IsWellMade, IsGarbage, IsSaved, seat_in}
use Rattle.cg_heap.specs.Calls.{number_less}
use Rattle.cg_heap.proofs.HeapIsStore.{shape-held, held-inner, held-ones, held-well, held-sizes, held-entries, live-mapped}
use Rattle.cg_heap.proofs.Rewrites.{all_after, object-of, shape-written, inner-written, ones-written, well-written, sizes-written, entries-written, entries-written_other, two-sizes, spare-kept, spare-written}
use Rattle.cg_heap.specs.Boxes.{spare_in_box}
use Rattle.std.proofs.lemmas.Option.{some_pair_parts}
use Rattle.cg_value.specs.declared.KindCode.TheVariants.{List as ListKind}

-- a held object is live
pub held-live : (all : List Bodies) (nodes : fin.FinMap nat_cmp ArenaNode) (objects : Objects) (number : ℕ) (store : Store) → HeapKeeps all nodes objects number store
    → (s : ℕ) → 0 < inner store s → IsLive store s
held-live all nodes objects number store ok s held = known (fin.get nodes s) (fin.get store.nodes s) (ok.shape.alike s) (omega (arith, ok.counted s, held))
  where
    known : (a : Option ArenaNode) (x : Option Node) → Alike all a x → 0 < count_in a → IsSome x
    known None x h c = absurd (omega (arith, c))
    known (Some n) None h c = absurd h
    known (Some n) (Some x) h c = refl

number_less-other : (o number : ℕ) → o ≢ 1 → number_less o number ≡ number - 1
number_less-other o number differs = ap (λ b. if b then number else number - 1) (ne_eqb o 1 differs)

number_less-same : (o number : ℕ) → o ≡ 1 → number_less o number ≡ number
number_less-same o number same = ap (λ b. if b then number else number - 1) (eq-eqb o 1 same)

module _ (all : List Bodies) (v : Nodes) (objects : Objects) (number : ℕ) (store : Store) (ok : HeapKeeps all v.nodes objects number store) (o : ℕ) (n : ArenaNode)
    (found : fin.get v.nodes o ≡ Some n) (es : List Entry) (spare : ℕ) where
  abbrev after : List Bodies
  after = all_after all v.nodes store ok.shape o n found es spare

  entries-now : (x : Node) → fin.get store.nodes o ≡ Some x → x.entries ≡ entries_of store o
  entries-now x at = sym (ap entries_in at)

  pub enough : 0 < length (entries_of store o) → o ≢ 1 → 0 < number
  enough some other =
      let (x, at, is, h) = object-of all v.nodes store.nodes o n (ok.shape.alike o) found in
      let len : length x.entries ≡ length (entries_of store o) = ap length (entries-now x at) in
      omega (arith, len, some, two-sizes store o x at es 1 (λ e. other (sym e)), ok.sized)

  module _ (refs : List ℕ) (split : (s : ℕ) → occurrences s (references (entries_of store o)) ≡ occurrences s (references es) + occurrences s refs)
      (shorter : length (entries_of store o) ≡ suc (length es)) (well : (x : Node) → fin.get store.nodes o ≡ Some x → IsWellMade x
      → IsWellMade (with_entries es x)) (room : o ≡ 1 → spare_in_box all n.code n.body + 1 ≤ spare) (saved : o ≡ 1 → All IsSaved (entries_of store o)
      → All IsSaved es) where
    abbrev pub taken : Store
    taken = held refs (rewritten o es store)

    pub keeps-taken : HeapKeeps after v.nodes objects (number_less o number) taken
    keeps-taken =
        let (x, at, is, h) = object-of all v.nodes store.nodes o n (ok.shape.alike o) found in
        record {
          shape = shape-held after v.nodes (rewritten o es store) (shape-written all v.nodes store ok.shape o n found es spare) refs;
          counted = counted x at;
          well = held-well refs (rewritten o es store) (well-written store o x at es ok.well (well x at));
          numbered = held-ones refs (rewritten o es store) ∙ ones-written store o x at es ∙ ok.numbered;
          sized = (sizes x at).0;
          object_limit = ok.object_limit;
          entry_limit = (sizes x at).1;
          saves = saves_now x at;
          root = record { body = ok.root.body; seat = ok.root.seat; enough = ok.root.enough; ready = ready_now x at };
          garbage = (sizes x at).2;
          names = ok.names;
        }
      where
        refs_live : (x : Node) → fin.get store.nodes o ≡ Some x → (s : ℕ) → 0 < occurrences s refs → IsLive (rewritten o es store) s
        refs_live x at s there =
            let was : occurrences s (references x.entries) ≡ occurrences s (references (entries_of store o)) = ap (λ l. occurrences s (references l)) (entries-now x at) in
            let live = held-live all v.nodes objects number store ok s (omega (arith, inner-written store o x at es s, was, split s, there)) in
            live-mapped (λ s x. if s == o then with_entries es x else x) store.nodes s live

        counted : (x : Node) → fin.get store.nodes o ≡ Some x → (s : ℕ) → count_in (fin.get v.nodes s) ≡ count_of taken s
        counted x at s =
            let was : occurrences s (references x.entries) ≡ occurrences s (references (entries_of store o)) = ap (λ l. occurrences s (references l)) (entries-now x at) in
            omega (
              arith,
              ok.counted s,
              inner-written store o x at es s,
              was,
              split s,
              outside-rewritten o es store s,
              held-inner refs (rewritten o es store) s,
              outside-held refs (rewritten o es store) s (refs_live x at s),
            )

        -- the entries of the garbage list too
        entries_root : (x : Node) → fin.get store.nodes o ≡ Some x → o ≡ 1 → entries_of taken 1 ≡ es
        entries_root x at same = held-entries refs (rewritten o es store) 1 ∙ ap (entries_of (rewritten o es store)) (sym same) ∙ entries-written store o x at es

        entries_other : (x : Node) → fin.get store.nodes o ≡ Some x → o ≢ 1 → entries_of taken 1 ≡ entries_of store 1
        entries_other x at differs = held-entries refs (rewritten o es store) 1 ∙ entries-written_other store o x at es 1 (λ e. differs (sym e))

        saves_now : (x : Node) → fin.get store.nodes o ≡ Some x → IsGarbage (entries_of taken 1)
        saves_now x at =
            elim (cases_eq o 1) [
              | inl same ↦
                  let old : entries_of store 1 ≡ entries_of store o = ap (entries_of store) (sym same) in
                  subst IsGarbage (sym (entries_root x at same)) (record {
                    saved = saved same (subst (λ (l : List Entry). All IsSaved l) old ok.saves.saved);
                    once = λ s.
                        let was : occurrences s (references (entries_of store 1)) ≡ occurrences s (references (entries_of store o)) = ap (λ l. occurrences s (references l)) old in
                        omega (arith, occurrences-append s (1 ∷ []) (references es), occurrences-append s (1 ∷ []) (references (entries_of store 1)), ok.saves.once s, split s, was);
                  })
              | inr differs ↦ subst IsGarbage (sym (entries_other x at differs)) ok.saves
            ]

        ready_now : (x : Node) → fin.get store.nodes o ≡ Some x → objects.savable ≤ length (entries_of taken 1) + spare_in_box after ListKind ok.root.body
        ready_now x at =
            elim (cases_eq o 1) [
              | inl same ↦
                  let parts = some_pair_parts n.code ListKind n.body ok.root.body (sym (ap seat_in found) ∙ ap (λ k. seat_in (fin.get v.nodes k)) same ∙ ok.root.seat) in
                  let now : spare_in_box after ListKind ok.root.body ≡ spare = (λ i. spare_in_box after (sym parts.0 i) (sym parts.1 i))
                  ∙ spare-written all v.nodes store ok.shape o n found es spare in
                  let old : spare_in_box all n.code n.body ≡ spare_in_box all ListKind ok.root.body = (λ i. spare_in_box all (parts.0 i) (parts.1 i)) in
                  let len : length (entries_of taken 1) ≡ length es = ap length (entries_root x at same) in
                  let was : length (entries_of store 1) ≡ length (entries_of store o) = ap (λ k. length (entries_of store k)) (sym same) in
                  omega (arith, now, old, len, was, shorter, room same, ok.root.ready)
              | inr differs ↦
                  let now : spare_in_box after ListKind ok.root.body ≡ spare_in_box all ListKind ok.root.body = spare-kept all v.nodes store ok.shape o n found
                  es spare 1 ListKind ok.root.body (λ e. differs (sym e)) ok.root.seat in
                  let len : length (entries_of taken 1) ≡ length (entries_of store 1) = ap length (entries_other x at differs) in
                  omega (arith, now, len, ok.root.ready)
            ]

        sizes : (x : Node) → fin.get store.nodes o ≡ Some x → (total size taken.nodes ≡ number_less o number + length (entries_of taken 1))
            × (number_less o number ≤ 4000000) × (length (entries_of taken 1) ≤ 1000000)
        sizes x at =
            let len : length x.entries ≡ length (entries_of store o) = ap length (entries-now x at) in
            let here : length (entries_of taken 1) ≡ length (entries_of (rewritten o es store) 1) = ap length (held-entries refs (rewritten o es store) 1) in
            elim (cases_eq o 1) [
              | inl same ↦
                  let now : length (entries_of (rewritten o es store) 1) ≡ length es = ap (λ k. length (entries_of (rewritten o es store) k)) (sym same)
                  ∙ ap length (entries-written store o x at es) in
                  let old : length (entries_of store o) ≡ length (entries_of store 1) = ap (λ k. length (entries_of store k)) same in
                  let less = number_less-same o number same in (
                    omega (arith, held-sizes refs (rewritten o es store), sizes-written store o x at es, len, here, now, old, less, ok.sized, shorter),
                    omega (arith, less, ok.entry_limit),
                    omega (arith, here, now, old, shorter, ok.garbage),
                  )
              | inr differs ↦
                  let now : length (entries_of (rewritten o es store) 1) ≡ length (entries_of store 1) = ap length (entries-written_other store o x at es 1 (λ e. differs (sym e))) in
                  let less = number_less-other o number differs in
                  let some = enough (omega (arith, shorter)) differs in (
                    omega (arith, held-sizes refs (rewritten o es store), sizes-written store o x at es, len, here, now, less, ok.sized, shorter, some),
                    omega (arith, less, ok.entry_limit),
                    omega (arith, here, now, ok.garbage),
                  )
            ]
