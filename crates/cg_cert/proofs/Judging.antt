-- A graph by positions is the graph: rows and edges, counts, paths, and the sets found.
use Rattle.std.proofs.Common.{◌≡◌, refl, sym, ◌∙◌, ap, subst, ℕ, suc, ◌<◌, Bool, true, false, inl, inr, List, [], ◌∷◌, ◌++◌, length, Option, Some, None, arith, map}
use Rattle.std.specs.Prelude.{◌↔◌, slice_get, option_map}
use Rattle.std.specs.List.{concat}
use Rattle.std.proofs.lemmas.Bool.{cases_eq}
use Rattle.std.proofs.lemmas.List.{map-append, length-map}
use Rattle.std.proofs.lemmas.Option.{same_Some, none-some, slice_get-map, slice_get_within}
use Rattle.cg_graph.specs.declared.Edge.{Edge}
use Rattle.cg_graph.specs.Member.{Includes}
use Rattle.cg_graph.specs.Holdings.{occurrences}
use Rattle.cg_graph.specs.Reach.{Reach, first, next}
use Rattle.cg_graph.proofs.Members.{either, Includes-append_left, Includes-append_right, Includes-append_cases, Includes-map, Includes-map_cases}
use Rattle.cg_search.specs.Places.{Marks, Leads, begins, follows}
use Rattle.cg_search.proofs.Places.{includes_at, place_in, occurrences-same, occurrences-other}
use Rattle.cg_search.proofs.Trails.{get_below}
use Rattle.cg_records.specs.declared.graph.Member.{Member}
use Rattle.cg_cert.specs.Judged.{serials_of, references_of, edges_of, IsHeld, IsMarked}
use Rattle.cg_cert.specs.Positions.{ArePlacedOnce, names_in, IsRowOf, AreRowsOf, MarksAll, CountTargets, CountReferences, ExceedEach}

-- an element of a mapped list
some_mapped : {A B : Type 0} (f : A → B) (o : Option A) (y : B) → option_map f o ≡ Some y → (x : A) × (o ≡ Some x) × (f x ≡ y)
some_mapped f None y e = absurd (none-some y e)
some_mapped f (Some x) y e = (x, refl, same_Some (f x) y e)

pub mapped_at : {A B : Type 0} (f : A → B) (xs : List A) (i : ℕ) (x : A) → slice_get xs i ≡ Some x → slice_get (map f xs) i ≡ Some (f x)
mapped_at f xs i x at = slice_get-map f xs i ∙ ap (option_map f) at

pub from_mapped : {A B : Type 0} (f : A → B) (xs : List A) (i : ℕ) (y : B) → slice_get (map f xs) i ≡ Some y → (x : A) × (slice_get xs i ≡ Some x) × (f x ≡ y)
from_mapped f xs i y at = some_mapped f (slice_get xs i) y (sym (slice_get-map f xs i) ∙ at)

-- an edge is a reference of a member
edge_in : (members : List Member) (m : Member) (p : ℕ) → Includes members m → Includes m.refs p → Includes (edges_of members) (record { from = m.serial; to = p })
edge_in [] m p h r = absurd h
edge_in (k ∷ members) m p (inl e) r =
    Includes-append_left (map (λ q. record { from = k.serial; to = q }) k.refs) (edges_of members) (record { from = m.serial; to = p })
    (subst (λ (n : Member). Includes (map {B = Edge} (λ q. record { from = n.serial; to = q }) n.refs) (record { from = m.serial; to = p })) (sym e)
    (Includes-map {Y = Edge} (λ q. record { from = m.serial; to = q }) m.refs p r))
edge_in (k ∷ members) m p (inr h) r = Includes-append_right (map (λ q. record { from = k.serial; to = q }) k.refs) (edges_of members) (record { from = m.serial; to = p }) (edge_in members m p h r)

edge_from : (members : List Member) (e : Edge) → Includes (edges_of members) e → (m : Member) × Includes members m × (m.serial ≡ e.from) × Includes m.refs e.to
edge_from [] e h = absurd h
edge_from (k ∷ members) e h = either (Includes-append_cases (map (λ q. record { from = k.serial; to = q }) k.refs) (edges_of members) e h)
    (λ here. let found = Includes-map_cases {Y = Edge} (λ q. record { from = k.serial; to = q }) k.refs e here in
    (k, inl refl, ap (λ (f : Edge). f.from) found.2, subst (λ q. Includes k.refs q) (ap (λ (f : Edge). f.to) found.2) found.1))
    (λ rest. let found = edge_from members e rest in (found.0, inr found.1, found.2, found.3))

-- an element of a row, and of the serials that the row represents
module _ (names refs row : List ℕ) (is : IsRowOf names refs row) where
  pub row_named : (j : ℕ) → Includes row j → (o : ℕ) × (slice_get names j ≡ Some o) × Includes refs o
  row_named j h =
      let found = Includes-map_cases Some refs (slice_get names j) (subst (λ (os : List (Option ℕ)). Includes os (slice_get names j)) is (Includes-map (slice_get names) row j h)) in
      (found.0, sym found.2, found.1)

  pub named_row : (o : ℕ) → Includes refs o → (j : ℕ) × Includes row j × (slice_get names j ≡ Some o)
  named_row o h = Includes-map_cases (slice_get names) row (Some o) (subst (λ (os : List (Option ℕ)). Includes os (Some o)) (sym is) (Includes-map Some refs o h))

-- all rows represent all references
pub rows_joined : (names : List ℕ) (members : List Member) (rows : List (List ℕ)) → AreRowsOf names members rows → IsRowOf names (references_of members) (concat rows)
rows_joined names [] [] e = refl
rows_joined names (m ∷ members) (r ∷ rows) e =
    let head : names_in names r ≡ map Some m.refs = cc in
    let tail : map (names_in names) rows ≡ map (λ n. map Some n.refs) members = cc in
    map-append (slice_get names) r (concat rows)
    ∙ ap (λ (os : List (Option ℕ)). os ++ names_in names (concat rows)) head
    ∙ ap (λ (os : List (Option ℕ)). map Some m.refs ++ os) (rows_joined names members rows tail)
    ∙ sym (map-append Some m.refs (references_of members))
rows_joined names xs list e = absurd (cc)

-- a position is a target as often as its name is a reference
pub counted : (names : List ℕ) → ArePlacedOnce names → (refs row : List ℕ) → IsRowOf names refs row → (i o : ℕ) → slice_get names i ≡ Some o → occurrences i row ≡ occurrences o refs
counted names once [] [] e i o at = refl
counted names once (p ∷ refs) (j ∷ row) e i o at =
    let head : slice_get names j ≡ Some p = cc in
    let tail : names_in names row ≡ map Some refs = cc in
    let rest = counted names once refs row tail i o at in
    either (cases_eq j i)
    (λ same. occurrences-same i j row same ∙ ap suc rest ∙ sym (occurrences-same o p refs (same_Some p o (sym head ∙ ap (slice_get names) same ∙ at))))
    (λ differs. occurrences-other i j row differs ∙ rest ∙ sym (occurrences-other o p refs (λ e. differs (once o j i (head ∙ ap Some e) at))))
counted names once xs list e i o at = absurd (cc)

-- a graph by positions
module _ (members : List Member) (rows : List (List ℕ)) (once : ArePlacedOnce (serials_of members)) (are : AreRowsOf (serials_of members) members rows) where
  row_at : (i : ℕ) (m : Member) → slice_get members i ≡ Some m → (row : List ℕ) × (slice_get rows i ≡ Some row) × IsRowOf (serials_of members) m.refs row
  row_at i m at =
      from_mapped (names_in (serials_of members)) rows i (map Some m.refs) (ap (λ (os : List (List (Option ℕ))). slice_get os i) are
      ∙ mapped_at (λ (n : Member). map {B = Option ℕ} Some n.refs) members i m at)

  member_at : (i : ℕ) (row : List ℕ) → slice_get rows i ≡ Some row → (m : Member) × (slice_get members i ≡ Some m) × IsRowOf (serials_of members) m.refs row
  member_at i row at =
      let found = from_mapped (λ (n : Member). map {B = Option ℕ} Some n.refs) members i (names_in (serials_of members) row)
      (ap (λ (os : List (List (Option ℕ))). slice_get os i) (sym are) ∙ mapped_at (names_in (serials_of members)) rows i row at) in
      (found.0, found.1, sym found.2)

  -- each target is a position
  pub targets_within : (i : ℕ) → Includes (concat rows) i → i < length members
  targets_within i h =
      let found = row_named (serials_of members) (references_of members) (concat rows) (rows_joined (serials_of members) members rows are) i h in
      omega (arith, slice_get_within (serials_of members) i found.0 found.1, length-map members (λ (m : Member). m.serial))

  pub rows_long : length rows ≡ length members
  rows_long = sym (length-map rows (names_in (serials_of members))) ∙ ap length are ∙ length-map members (λ (m : Member). map {B = Option ℕ} Some m.refs)

  -- a member's occurrences are those of its position
  occurrences-at : (i : ℕ) (m : Member) → slice_get members i ≡ Some m → occurrences i (concat rows) ≡ occurrences m.serial (references_of members)
  occurrences-at i m at = counted (serials_of members) once (references_of members) (concat rows) (rows_joined (serials_of members) members rows are) i m.serial
      (mapped_at (λ (n : Member). n.serial) members i m at)

  -- counts of positions are counts of references
  pub counts_there : (counts : List ℕ) → CountTargets rows counts → CountReferences members counts
  counts_there counts h = record {
    len = h.len ∙ rows_long;
    each = λ i m at. h.each i (omega (arith, slice_get_within members i m at, rows_long)) ∙ occurrences-at i m at;
  }

  -- a member held from outside is marked
  module _ (marks : List Bool) (h : ExceedEach members marks) where
    pub held_there : (i o : ℕ) → slice_get (serials_of members) i ≡ Some o → Marks marks i → IsHeld members o
    held_there i o at mark =
        let (m, here, named) = from_mapped (λ (n : Member). n.serial) members i o at in
        record { member = m; among = includes_at members i m here; serial = named; exceeds = subst (λ s. occurrences s (references_of members) < m.degree) named ((h.each i m here).0 mark) }

    pub held_back : (i o : ℕ) → slice_get (serials_of members) i ≡ Some o → IsHeld members o → Marks marks i
    held_back i o at held =
        let (j, here) = place_in members held.member held.among in
        let same : j ≡ i = once o j i (mapped_at (λ (n : Member). n.serial) members j held.member here ∙ ap Some held.serial) at in
        subst (λ k. Marks marks k) same ((h.each j held.member here).1 (subst (λ s. occurrences s (references_of members) < held.member.degree) (sym held.serial) held.exceeds))

  pub marked_there : (i o : ℕ) → slice_get (serials_of members) i ≡ Some o → Marks (map (λ (m : Member). m.legacy) members) i → IsMarked members o
  marked_there i o at mark =
      let (m, here, named) = from_mapped (λ (n : Member). n.serial) members i o at in
      let (n, there, some) = from_mapped (λ (m : Member). m.legacy) members i true mark in
      let same : n ≡ m = same_Some n m (sym there ∙ here) in
      record { member = m; among = includes_at members i m here; serial = named; marked = ap (λ (k : Member). k.legacy) (sym same) ∙ some }

  pub marked_back : (i o : ℕ) → slice_get (serials_of members) i ≡ Some o → IsMarked members o → Marks (map (λ (m : Member). m.legacy) members) i
  marked_back i o at mark =
      let (j, here) = place_in members mark.member mark.among in
      let same : j ≡ i = once o j i (mapped_at (λ (n : Member). n.serial) members j mark.member here ∙ ap Some mark.serial) at in
      subst (λ k. Marks (map (λ (m : Member). m.legacy) members) k) same (mapped_at (λ (m : Member). m.legacy) members j mark.member here ∙ ap Some mark.marked)

  -- paths by rows are paths by edges
  module _ (starts allowed : List Bool) (Held Inside : ℕ → Type 0) where
    pub led_there : ((i o : ℕ) → slice_get (serials_of members) i ≡ Some o → Marks starts i → Held o) → ((i o : ℕ) → slice_get (serials_of members) i ≡ Some o → Marks allowed i → Inside o)
        → (i : ℕ) → Leads starts allowed rows i → (o : ℕ) → slice_get (serials_of members) i ≡ Some o → Reach Held Inside (edges_of members) o
    led_there held inside _ (begins i s a) o at = first (held i o at s) (inside i o at a)
    led_there held inside _ (follows k j row l row_is in_row a) o at =
        let (m, here, is) = member_at k row row_is in
        let (p, named, in_refs) = row_named (serials_of members) m.refs row is j in_row in
        let same : p ≡ o = same_Some p o (sym named ∙ at) in
        next (led_there held inside k l m.serial (mapped_at (λ (n : Member). n.serial) members k m here))
        (edge_in members m o (includes_at members k m here) (subst (λ q. Includes m.refs q) same in_refs)) (inside j o at a)

    pub reach_back : ((i o : ℕ) → slice_get (serials_of members) i ≡ Some o → Held o → Marks starts i) → ((i o : ℕ) → slice_get (serials_of members) i ≡ Some o → Inside o → Marks allowed i)
        → (o : ℕ) → Reach Held Inside (edges_of members) o → (i : ℕ) → slice_get (serials_of members) i ≡ Some o → Leads starts allowed rows i
    reach_back held inside o (first h m) i at = begins i (held i o at h) (inside i o at m)
    reach_back held inside o (next {o = q} r arrow m) i at =
        let (k, among, from, in_refs) = edge_from members (record { from = q; to = o }) arrow in
        let (j, here) = place_in members k among in
        let (row, row_is, is) = row_at j k here in
        let (t, in_row, named) = named_row (serials_of members) k.refs row is o in_refs in
        let same : t ≡ i = once o t i named at in
        follows j i row (reach_back held inside q r j (mapped_at (λ (n : Member). n.serial) members j k here ∙ ap Some from)) row_is (subst (λ s. Includes row s) same in_row) (inside i o at m)

-- marks that agree are equal
pub same_marks : (a b : List Bool) → length a ≡ length b → ((i : ℕ) → Marks a i ↔ Marks b i) → a ≡ b
same_marks [] [] long agree = refl
same_marks (x ∷ a) (y ∷ b) long agree = heads x y (agree 0) (same_marks a b (omega (arith, long)) (λ i. agree (suc i)))
  where
    heads : (u v : Bool) → (Marks (u ∷ a) 0 ↔ Marks (v ∷ b) 0) → a ≡ b → ◌≡◌ {A = List Bool} (u ∷ a) (v ∷ b)
    heads true true e rest = ap (λ (xs : List Bool). true ∷ xs) rest
    heads false false e rest = ap (λ (xs : List Bool). false ∷ xs) rest
    heads true false e rest = let clash = e.0 refl in absurd (cc)
    heads false true e rest = let clash = e.1 refl in absurd (cc)
same_marks xs list long agree = absurd (omega (arith, long))

-- a set was found correctly exactly if its marks are the computed ones
pub finds_same : (names serials : List ℕ) (P : ℕ → Type 0) (marks found : List Bool) → MarksAll names serials marks → length found ≡ length names
    → ((i o : ℕ) → slice_get names i ≡ Some o → (Marks found i ↔ P o))
    → ((o : ℕ) → Includes serials o → Includes names o) → ((o : ℕ) → P o → Includes names o) → (found ≡ marks) ↔ ((o : ℕ) → Includes serials o ↔ P o)
finds_same names serials P marks found all long is named inside = (there, back)
  where
    there : found ≡ marks → (o : ℕ) → Includes serials o ↔ P o
    there same o = (
      λ h. let (i, at) = place_in names o (named o h) in (is i o at).0 (subst (λ (ms : List Bool). Marks ms i) (sym same) ((all.marked i o at).1 h)),
      λ p. let (i, at) = place_in names o (inside o p) in (all.marked i o at).0 (subst (λ (ms : List Bool). Marks ms i) same ((is i o at).1 p)),
    )

    back : ((o : ℕ) → Includes serials o ↔ P o) → found ≡ marks
    back agree = same_marks found marks (long ∙ sym all.len) (λ i. (
      λ m. let (o, at) = get_below names i (omega (arith, long, slice_get_within found i true m)) in (all.marked i o at).1 ((agree o).1 ((is i o at).0 m)),
      λ m. let (o, at) = get_below names i (omega (arith, all.len, slice_get_within marks i true m)) in (is i o at).1 ((agree o).0 ((all.marked i o at).0 m)),
    ))
