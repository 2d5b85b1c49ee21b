-- What paths reach, by marks.
use Rattle.std.proofs.Common.{◌≡◌, refl, sym, ◌∙◌, ap, subst, ℕ, zero, suc, ◌<◌, Bool, true, nat_lt, inl, inr, List, [], ◌∷◌, length, map, Option, Some, None, arith, get_or}
use Rattle.std.specs.Prelude.{◌↔◌, IfSome, IfNone}
use Rattle.std.specs.Global.{Vec}
use Rattle.std.specs.List.{AllByRecursion}
use Rattle.std.proofs.lemmas.Bool.{cases_lt, ltb-true, lt-ltb}
use Rattle.std.proofs.lemmas.List.{length-map}
use Rattle.std.proofs.lemmas.Option.{slice_get_within}
use Rattle.cg_graph.specs.declared.Edge.{Edge}
use Rattle.cg_graph.specs.Member.{Includes}
use Rattle.cg_graph.specs.Reach.{Reach}
use Rattle.cg_graph.specs.Path.{IsPath}
use Rattle.cg_graph.proofs.Members.{either}
use Rattle.cg_search.specs.Places.{Marks, edges_of, Leads, IsShortestWay, HasNoWay}
use Rattle.cg_search.specs.Places.{IsWay as IsWayByMarks}
use Rattle.cg_search.proofs.Edges.{reach_of_leads, leads_of_reach}
use Rattle.cg_snapshot.specs.declared.heap.Member.{Member}
use Rattle.cg_ask.specs.Asked.{rows_of, IsHeld, edges, IsReached, IsLost, IsOther, IsWay, IsShortest, HasNone}
use Rattle.cg_ask.specs.Counted.{AreOutside}
use Rattle.cg_ask.specs.Marked.{MarkJust}
use Rattle.cg_ask.proofs.Counting.{no_degree}

above : (numbers : List ℕ) (i : ℕ) → (Marks (map (λ n. nat_lt 0 n) numbers) i → 0 < get_or numbers i 0) × (0 < get_or numbers i 0 → Marks (map (λ n. nat_lt 0 n) numbers) i)
above [] i = (λ m. absurd (cc), λ h. absurd (omega (arith, h)))
above (n ∷ numbers) zero = (λ m. ltb-true 0 n (is m), λ h. ap Some (lt-ltb 0 n h))
  where
    is : Some (nat_lt 0 n) ≡ Some true → nat_lt 0 n ≡ true
    is e = cc
above (n ∷ numbers) (suc i) = above numbers i

-- a member with outside holds is held
pub held_just : (ms : List Member) (outside : List ℕ) (held : List Bool) → AreOutside ms outside → held ≡ map (λ n. nat_lt 0 n) outside → MarkJust (length ms) (IsHeld ms) held
held_just ms outside held are is = subst (λ (bs : List Bool). MarkJust (length ms) (IsHeld ms) bs) (sym is) (record {
  len = length-map outside (λ n. nat_lt 0 n) ∙ are.len;
  just = λ i. (
    λ m.
        let within : i < length ms = omega (arith, slice_get_within (map (λ n. nat_lt 0 n) outside) i true m, length-map outside (λ n. nat_lt 0 n), are.len) in
        let some = (above outside i).0 m in
        omega (arith, some, are.each i within),
    λ h.
        let within = member i h in
        (above outside i).1 (omega (arith, h, are.each i within)),
  );
})
  where
    member : (i : ℕ) → IsHeld ms i → i < length ms
    member i h = either (cases_lt i (length ms)) (λ l. l) (λ g. absurd (omega (arith, h, no_degree ms i g)))

-- the search finds exactly what paths reach
pub found_just : (ms : List Member) (rows : List (List ℕ)) (starts allowed found : List Bool) (Held Inside : ℕ → Type 0) → ((i : ℕ) → Marks starts i ↔ Held i)
    → ((i : ℕ) → Marks allowed i ↔ Inside i) → length found ≡ length ms → ((i : ℕ) → Marks found i ↔ Leads starts allowed rows i)
    → (arrows : List Edge) → arrows ≡ edges_of rows → MarkJust (length ms) (Reach Held Inside arrows) found
found_just ms rows starts allowed found Held Inside starting allowing len led arrows is = subst (λ (es : List Edge). MarkJust (length ms) (Reach Held Inside es) found) (sym is) (record {
  len = len;
  just = λ i. (
    λ m. reach_of_leads starts allowed rows Held Inside (λ j s. (starting j).0 s) (λ j a. (allowing j).0 a) i ((led i).0 m),
    λ r. (led i).1 (leads_of_reach starts allowed rows Held Inside (λ j h a. (starting j).1 h) (λ j a. (allowing j).1 a) i r),
  );
})

-- what is not found is lost
pub lost_just : (ms : List Member) (all found lost : List Bool) → MarkJust (length ms) (λ i. i < length ms) all → MarkJust (length ms) (IsReached ms) found
    → MarkJust (length all) (λ i. Marks all i × ¬ Marks found i) lost → MarkJust (length ms) (IsLost ms) lost
lost_just ms all found lost a f h = record {
  len = h.len ∙ a.len;
  just = λ i. (
    λ m. let p = (h.just i).0 m in record { member = (a.just i).0 p.0; no_path = λ r. p.1 ((f.just i).1 r) },
    λ u. (h.just i).1 ((a.just i).1 u.member, λ m. u.no_path ((f.just i).0 m)),
  );
}

pub others_just : (ms : List Member) (places : List ℕ) (all these others : List Bool) → MarkJust (length ms) (λ i. i < length ms) all
    → MarkJust (length ms) (Includes places) these → MarkJust (length all) (λ i. Marks all i × ¬ Marks these i) others
    → MarkJust (length ms) (IsOther ms places) others
others_just ms places all these others a t h = record {
  len = h.len ∙ a.len;
  just = λ i. (
    λ m. let p = (h.just i).0 m in ((a.just i).0 p.0, λ k. p.1 ((t.just i).1 k)),
    λ o. (h.just i).1 ((a.just i).1 o.0, λ m. o.1 ((t.just i).0 m)),
  );
}

-- Paths by marks are paths of members.
module _ (ms : List Member) (without : List ℕ) (held others : List Bool) (h : MarkJust (length ms) (IsHeld ms) held) (o : MarkJust (length ms) (IsOther ms without) others) where
  path_same : (Held Also : ℕ → Type 0) → ((i : ℕ) → Held i → Also i) → (path : List ℕ) (object : ℕ) → IsPath Held (edges ms) path object → IsPath Also (edges ms) path object
  path_same Held Also f [] object p = absurd p
  path_same Held Also f (x ∷ path) object p = (f x p.0, p.1)

  all_others : (path : List ℕ) → AllByRecursion (Marks others) path → (x : ℕ) → Includes path x → IsOther ms without x
  all_others [] a x m = absurd m
  all_others (y ∷ path) a x (inl e) = subst (λ z. IsOther ms without z) e ((o.just y).0 a.0)
  all_others (y ∷ path) a x (inr m) = all_others path a.1 x m

  all_marked : (path : List ℕ) → ((x : ℕ) → Includes path x → IsOther ms without x) → AllByRecursion (Marks others) path
  all_marked [] a = tt
  all_marked (y ∷ path) a = ((o.just y).1 (a y (inl refl)), all_marked path (λ x m. a x (inr m)))

  way_of : (path : List ℕ) (object : ℕ) → IsWayByMarks held others (rows_of ms) path object → IsWay ms without path object
  way_of path object w = record { leads = path_same (Marks held) (IsHeld ms) (λ i m. (h.just i).0 m) path object w.leads; others = all_others path w.by_allowed }

  of_way : (path : List ℕ) (object : ℕ) → IsWay ms without path object → IsWayByMarks held others (rows_of ms) path object
  of_way path object w = record { leads = path_same (IsHeld ms) (Marks held) (λ i m. (h.just i).1 m) path object w.leads; by_allowed = all_marked path w.others }

  pub shortest_of : (path : List ℕ) (object : ℕ) → IsShortestWay held others (rows_of ms) path object → IsShortest ms without path object
  shortest_of path object s = record { is_way = way_of path object s.is_way; shortest = λ other w. s.shortest other (of_way other object w) }

  pub none_of : (object : ℕ) → HasNoWay held others (rows_of ms) object → HasNone ms without object
  none_of object n path w = n path (of_way path object w)

-- each element of a path is a member
pub path_members : (ms : List Member) (without path : List ℕ) (object : ℕ) → IsShortest ms without path object → (x : ℕ) → Includes path x → x < length ms
path_members ms without path object s x m = (s.is_way.others x m).0

-- the result of a search for a path
module _ (ms : List Member) (without : List ℕ) (held others : List Bool) (h : MarkJust (length ms) (IsHeld ms) held) (o : MarkJust (length ms) (IsOther ms without) others) (object : ℕ) where
  pub found_way : (way : Option (Vec ℕ)) → IfSome way (λ path. IsShortestWay held others (rows_of ms) path.items object) → IfSome way (λ path. IsShortest ms without path.items object)
  found_way None s = tt
  found_way (Some path) s = shortest_of ms without held others h o path.items object s

  pub found_none : (way : Option (Vec ℕ)) → IfNone way (HasNoWay held others (rows_of ms) object) → IfNone way (HasNone ms without object)
  found_none None n = none_of ms without held others h o object n
  found_none (Some path) n = tt
