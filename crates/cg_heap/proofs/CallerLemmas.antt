-- What a caller may conclude about the store after a call: which objects live, of which kind, and how many outside
-- holds there are.
use Rattle.std.proofs.Common.{◌≡◌, ◌≢◌, ℕ, ◌+◌, ◌-◌, ◌<◌, ◌≤◌, Bool, true, false, List, [], ◌∷◌, map, length, Option, Some, None, IsSome, refl, sym, ap, ◌∙◌, subst, inl, inr, arith, sum_by}
use Rattle.std.specs.Prelude.{◌==◌, option_map, if◌then◌else◌}
use Rattle.std.proofs.lemmas.Bool.{cases_eq, eq-eqb, ne_eqb}
use Rattle.std.proofs.lemmas.List.Sums.{sum_by-cons}
use Rattle.std.specs.Ordering.{nat_cmp}
use Rattle.std.specs.FinMap as fin
use Rattle.cg_value.specs.declared.Entry.{Entry}
use Rattle.cg_value.specs.declared.Place.{Place}
use Rattle.cg_value.specs.declared.KindCode.{KindCode}
use Rattle.cg_graph.specs.Maps.{mapped, changed, total, part}
use Rattle.cg_graph.specs.Holdings.{occurrences}
use Rattle.cg_graph.specs.Places.{place_number}
use Rattle.cg_graph.specs.Store.{Store, Node, IsLive, HasCode, outside_of, outside_in}
use Rattle.cg_graph.specs.Changes.{more, less, held, unheld, with_entries, rewritten, with_place, moved, made, new_node, gone, garbage_node, opening_store}
use Rattle.cg_graph.proofs.Maps.{get-mapped, entries-mapped, total-mapped, total-insert, total-changed, total-remove, get-changed_same, get-changed_other, get-insert_same, get-insert_other, get-remove_other, same_map}
use Rattle.cg_heap.proofs.ReferenceLemmas.{occurrences-one, one_if}
use Rattle.cg_heap.specs.Keeps.{outside_total}
use Rattle.cg_heap.specs.Calls.{place_merged, merged, with_node}

abbrev out : Node → ℕ
out n = n.outside

-- each object of the old store is in the new one, with the same kind
abbrev pub KeepsKinds : Store → Store → Type 0
KeepsKinds old new = (s : ℕ) (c : KindCode) → HasCode old s c → HasCode new s c

pub live_of_kind : (store : Store) (s : ℕ) (c : KindCode) → HasCode store s c → IsLive store s
live_of_kind store s c (n, at, is) = subst IsSome (sym at) refl

pub kind_of_live : (store : Store) (s : ℕ) → IsLive store s → (c : KindCode) × HasCode store s c
kind_of_live store s live = known (fin.get store.nodes s) refl live
  where
    known : (x : Option Node) → fin.get store.nodes s ≡ x → IsSome x → (c : KindCode) × HasCode store s c
    known None e l = absurd (cc)
    known (Some n) e l = (n.code, (n, e, refl))

-- live objects stay live
pub lives_on : (old new : Store) → KeepsKinds old new → (s : ℕ) → IsLive old s → IsLive new s
lives_on old new kinds s live = let (c, has) = kind_of_live old s live in live_of_kind new s c (kinds s c has)

-- calls that change objects keep them and their kinds
pub kinds-mapped : (g : ℕ → Node → Node) → ((s : ℕ) (n : Node) → (g s n).code ≡ n.code) → (old new : Store) → new.nodes ≡ mapped g old.nodes → KeepsKinds old new
kinds-mapped g same old new is s c (n, at, kind) = (g s n, ap (λ m. fin.get m s) is ∙ get-mapped g old.nodes s ∙ ap (option_map (g s)) at, same s n ∙ kind)

pub kinds-changed : (f : Node → Node) → ((n : Node) → (f n).code ≡ n.code) → (o : ℕ) (old new : Store) → new.nodes ≡ changed f o old.nodes → KeepsKinds old new
kinds-changed f same o old new is = kinds-mapped (λ s x. if s == o then f x else x) (λ s n. known (s == o) n) old new is
  where
    known : (b : Bool) (n : Node) → (if b then f n else n).code ≡ n.code
    known true n = same n
    known false n = refl

pub kinds-held : (refs : List ℕ) (store : Store) → KeepsKinds store (held refs store)
kinds-held refs store = kinds-mapped (λ s n. more (occurrences s refs) n) (λ s n. refl) store (held refs store) refl

pub kinds-unheld : (refs : List ℕ) (store : Store) → KeepsKinds store (unheld refs store)
kinds-unheld refs store = kinds-mapped (λ s n. less (occurrences s refs) n) (λ s n. refl) store (unheld refs store) refl

pub kinds-rewritten : (o : ℕ) (es : List Entry) (store : Store) → KeepsKinds store (rewritten o es store)
kinds-rewritten o es store = kinds-changed (with_entries es) (λ n. refl) o store (rewritten o es store) refl

pub kinds-moved : (o : ℕ) (p : Place) (store : Store) → KeepsKinds store (moved o p store)
kinds-moved o p store = kinds-changed (with_place p) (λ n. refl) o store (moved o p store) refl

pub kinds-merged : (p q : Place) (store : Store) → KeepsKinds store (merged p q store)
kinds-merged p q store = kinds-mapped (λ s n. place_merged p q n) (λ s n. known (place_number n.place == place_number p) n) store (merged p q store) refl
  where
    known : (b : Bool) (n : Node) → (if b then with_place q n else n).code ≡ n.code
    known true n = refl
    known false n = refl

pub kinds-with_node : (f : Node → Node) → ((n : Node) → (f n).code ≡ n.code) → (o : ℕ) (store : Store) → KeepsKinds store (with_node f o store)
kinds-with_node f same o store = kinds-changed f same o store (with_node f o store) refl

-- making an object, when no live serial is above the last: the others live on, and it lives
pub kinds-made : (code : KindCode) (class : Option ℕ) (parts : List Entry) (store : Store) → ((s : ℕ) → IsLive store s → s ≤ store.last) → KeepsKinds store (made code class parts store)
kinds-made code class parts store below s c (n, at, kind) =
    let low : s ≤ store.last = below s (subst IsSome (sym at) refl) in
    (n, get-insert_other store.nodes (store.last + 1) s (new_node code class parts) (λ same. absurd (omega (arith, same, low))) ∙ at, kind)

pub made_kind : (code : KindCode) (class : Option ℕ) (parts : List Entry) (store : Store) → HasCode (made code class parts store) (store.last + 1) code
made_kind code class parts store = (new_node code class parts, get-insert_same store.nodes (store.last + 1) (store.last + 1) (new_node code class parts) refl, refl)

-- freeing an object: the others live on
pub kinds-gone : (o : ℕ) (store : Store) (s : ℕ) (c : KindCode) → s ≢ o → HasCode store s c → HasCode (gone o store) s c
kinds-gone o store s c differs (n, at, kind) = (n, get-remove_other store.nodes o s differs ∙ at, kind)

-- the empty map sums to 0
pub total-empty : (f : Node → ℕ) → total f fin.empty ≡ 0
total-empty f = known (fin.entries fin.empty) (sym (fin.len-entries fin.empty) ∙ fin.len-empty nat_cmp Node)
  where
    known : (es : List (ℕ × Node)) → length es ≡ 0 → sum_by (λ (e : ℕ × Node). f e.1) es ≡ 0
    known [] e = refl
    known (x ∷ es) e = absurd (omega (arith, e))

-- in the initial store nothing is held from outside
pub opening_total : (names : ℕ) → outside_total (opening_store names) ≡ 0
opening_total names =
    let none : part out (fin.get fin.empty 1) ≡ 0 = ap (part out) (fin.get-empty nat_cmp 1) in
    omega (arith, total-insert out fin.empty 1 garbage_node, none, total-empty out)

module _ (m : fin.FinMap nat_cmp Node) where
  -- if no object gains outside holds, the total does not grow
  total_lower : (g : ℕ → Node → Node) → ((s : ℕ) (n : Node) → (g s n).outside ≤ n.outside) → total out (mapped g m) ≤ total out m
  total_lower g lower = subst (λ es. sum_by {X = ℕ × Node} (λ e. out e.1) es ≤ total out m) (sym (entries-mapped g m)) (sums (fin.entries m))
    where
      sums : (es : List (ℕ × Node)) → sum_by {X = ℕ × Node} (λ e. out e.1) (map (λ e. (e.0, g e.0 e.1)) es) ≤ sum_by {X = ℕ × Node} (λ e. out e.1) es
      sums [] = omega arith
      sums (e ∷ es) =
          omega (
            arith,
            lower e.0 e.1,
            sums es,
            sum_by-cons {X = ℕ × Node} (λ e. out e.1) (e.0, g e.0 e.1) (map (λ e. (e.0, g e.0 e.1)) es),
            sum_by-cons {X = ℕ × Node} (λ e. out e.1) e es,
          )

  -- one object gains one hold
  one_more : (r : ℕ) → total out (changed (more 1) r m) ≤ total out m + 1
  one_more r = known (fin.get m r) refl
    where
      known : (x : Option Node) → fin.get m r ≡ x → total out (changed (more 1) r m) ≤ total out m + 1
      known None at =
          let same : changed (more 1) r m ≡ m = same_map (changed (more 1) r m) m (λ q. elim (cases_eq q r) [
            | inl is ↦ get-changed_same (more 1) r m q is ∙ (λ i. option_map (more 1) ((ap (fin.get m) is ∙ at) i)) ∙ sym (ap (fin.get m) is ∙ at)
            | inr differs ↦ get-changed_other (more 1) r m q differs
          ]) in
          let is : total out (changed (more 1) r m) ≡ total out m = ap (total out) same in
          omega (arith, is)
      known (Some x) at = omega (arith, total-changed out (more 1) m r x at)

more_twice : (j k l : ℕ) → l ≡ j + k → (x : Option Node) → option_map (more l) x ≡ option_map (more k) (option_map (more j) x)
more_twice j k l e None = refl
more_twice j k l e (Some n) = let same : n.outside + l ≡ (n.outside + j) + k = omega (arith, e) in ap (λ c. Some (record n { outside = c })) same

-- adding holds one by one
held_next : (r : ℕ) (refs : List ℕ) (m : fin.FinMap nat_cmp Node) → mapped (λ s n. more (occurrences s (r ∷ refs)) n) m ≡ mapped (λ s n. more (occurrences s refs) n) (changed (more 1) r m)
held_next r refs m =
    same_map (mapped (λ s n. more (occurrences s (r ∷ refs)) n) m) (mapped (λ s n. more (occurrences s refs) n) (changed (more 1) r m)) (λ q.
    get-mapped (λ s n. more (occurrences s (r ∷ refs)) n) m q
    ∙ step q
    ∙ sym (get-mapped (λ s n. more (occurrences s refs) n) (changed (more 1) r m) q))
  where
    step : (q : ℕ) → option_map (more (occurrences q (r ∷ refs))) (fin.get m q) ≡ option_map (more (occurrences q refs)) (fin.get (changed (more 1) r m) q)
    step q = elim (cases_eq q r) [
      | inl same ↦
          let one : one_if (r == q) ≡ 1 = ap one_if (eq-eqb r q (sym same)) in
          more_twice 1 (occurrences q refs) (occurrences q (r ∷ refs)) (omega (arith, one, sum_by-cons {X = ℕ} (λ x. one_if (x == q)) r refs)) (fin.get m q)
          ∙ ap (option_map (more (occurrences q refs))) (sym (get-changed_same (more 1) r m q same))
      | inr differs ↦
          let none : one_if (r == q) ≡ 0 = ap one_if (ne_eqb r q (λ e. differs (sym e))) in
          let is : occurrences q (r ∷ refs) ≡ occurrences q refs = omega (arith, none, sum_by-cons {X = ℕ} (λ x. one_if (x == q)) r refs) in
          ap (λ k. option_map (more k) (fin.get m q)) is ∙ ap (option_map (more (occurrences q refs))) (sym (get-changed_other (more 1) r m q differs))
    ]

total_held : (refs : List ℕ) (m : fin.FinMap nat_cmp Node) → total out (mapped (λ s n. more (occurrences s refs) n) m) ≤ total out m + length refs
total_held [] m =
    let is : total out (mapped (λ s n. more (occurrences s []) n) m) ≡ total out m = total-mapped (λ s n. more (occurrences s []) n) out out m (λ s n. omega arith) in
    omega (arith, is)
total_held (r ∷ refs) m =
    let is : total out (mapped (λ s n. more (occurrences s (r ∷ refs)) n) m) ≡ total out (mapped (λ s n. more (occurrences s refs) n) (changed (more 1) r m)) = ap (total out) (held_next r refs m) in
    omega (arith, is, total_held refs (changed (more 1) r m), one_more m r)

-- The number of outside holds afterwards. At most one more for each reference:
pub total-held : (refs : List ℕ) (store : Store) → outside_total (held refs store) ≤ outside_total store + length refs
total-held refs store = total_held refs store.nodes

-- at most the old number:
pub total-unheld : (refs : List ℕ) (store : Store) → outside_total (unheld refs store) ≤ outside_total store
total-unheld refs store = total_lower store.nodes (λ s n. less (occurrences s refs) n) (λ s n. omega arith)

pub total-gone : (o : ℕ) (store : Store) → outside_total (gone o store) ≤ outside_total store
total-gone o store = omega (arith, total-remove out store.nodes o)

-- one more:
pub total-made : (code : KindCode) (class : Option ℕ) (parts : List Entry) (store : Store) → outside_total (made code class parts store) ≤ outside_total store + 1
total-made code class parts store = omega (arith, total-insert out store.nodes (store.last + 1) (new_node code class parts))

-- unchanged:
pub total-with_node : (f : Node → Node) → ((n : Node) → (f n).outside ≡ n.outside) → (o : ℕ) (store : Store) → outside_total (with_node f o store) ≡ outside_total store
total-with_node f same o store = total-mapped (λ s x. if s == o then f x else x) out out store.nodes (λ s n. known (s == o) n)
  where
    known : (b : Bool) (n : Node) → out (if b then f n else n) ≡ out n
    known true n = same n
    known false n = refl

pub total-rewritten : (o : ℕ) (es : List Entry) (store : Store) → outside_total (rewritten o es store) ≡ outside_total store
total-rewritten o es store = total-with_node (with_entries es) (λ n. refl) o store

pub total-moved : (o : ℕ) (p : Place) (store : Store) → outside_total (moved o p store) ≡ outside_total store
total-moved o p store = total-with_node (with_place p) (λ n. refl) o store

pub total-merged : (p q : Place) (store : Store) → outside_total (merged p q store) ≡ outside_total store
total-merged p q store = total-mapped (λ s n. place_merged p q n) out out store.nodes (λ s n. known (place_number n.place == place_number p) n)
  where
    known : (b : Bool) (n : Node) → out (if b then with_place q n else n) ≡ out n
    known true n = refl
    known false n = refl

-- releasing a hold that exists: exactly one less
pub total-unheld_one : (o : ℕ) (store : Store) → 0 < outside_of store o → outside_total (unheld (o ∷ []) store) + 1 ≡ outside_total store
total-unheld_one o store has = known (fin.get store.nodes o) refl has
  where
    one_less : unheld (o ∷ []) store ≡ with_node (less 1) o store
    one_less i = record store {
      nodes = same_map (unheld (o ∷ []) store).nodes (changed (less 1) o store.nodes) (λ q.
          get-mapped (λ s n. less (occurrences s (o ∷ [])) n) store.nodes q ∙ elim (cases_eq q o) [
            | inl same ↦
                let one : occurrences q (o ∷ []) ≡ 1 = occurrences-one q o ∙ ap one_if (eq-eqb o q (sym same)) in
                ap (λ k. option_map (less k) (fin.get store.nodes q)) one ∙ sym (get-changed_same (less 1) o store.nodes q same)
            | inr differs ↦
                let none : occurrences q (o ∷ []) ≡ 0 = occurrences-one q o ∙ ap one_if (ne_eqb o q (λ e. differs (sym e))) in
                ap (λ k. option_map (less k) (fin.get store.nodes q)) none ∙ as_it_is (fin.get store.nodes q) ∙ sym (get-changed_other (less 1) o store.nodes q differs)
          ]) i;
    }
      where
        as_it_is : (x : Option Node) → option_map (less 0) x ≡ x
        as_it_is None = refl
        as_it_is (Some n) = let same : n.outside - 0 ≡ n.outside = omega arith in ap (λ k. Some (record n { outside = k })) same

    known : (x : Option Node) → fin.get store.nodes o ≡ x → 0 < outside_in x → outside_total (unheld (o ∷ []) store) + 1 ≡ outside_total store
    known None at some = absurd (omega (arith, some))
    known (Some x) at some =
        let is : outside_total (unheld (o ∷ []) store) ≡ total out (changed (less 1) o store.nodes) = ap outside_total one_less in
        omega (arith, is, some, total-changed out (less 1) store.nodes o x at)
