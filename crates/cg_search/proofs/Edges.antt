-- The edges of rows, and paths along them.
use Rattle.std.proofs.Common.{◌≡◌, refl, sym, ◌∙◌, ap, subst, ℕ, zero, suc, ◌+◌, Bool, true, false, List, [], ◌∷◌, map, Some, arith}
use Rattle.std.specs.Prelude.{slice_get, filter}
use Rattle.std.specs.List.{AllByRecursion}
use Rattle.std.proofs.lemmas.Option.{get_or_from_slice_get, same_Some}
use Rattle.cg_graph.specs.declared.Edge.{Edge}
use Rattle.cg_graph.specs.Member.{Includes}
use Rattle.cg_graph.specs.Reach.{Reach, first, next}
use Rattle.cg_graph.specs.Path.{IsPath, LeadsTo, IsShortestPath, HasNoPath}
use Rattle.cg_graph.proofs.Members.{either, Includes-append_left, Includes-append_right, Includes-append_cases, Includes-map, Includes-map_cases, Includes-filter, Includes-filter_cases}
use Rattle.cg_search.specs.Places.{Marks, is_marked, edges_from, edges_of, steps_of, StartsAt, Leads, begins, follows, IsWay, IsShortestWay, HasNoWay}

abbrev edge : ℕ → ℕ → Edge
edge from to = record { from = from; to = to }

-- an edge is a target of a row
edge_in_from : (k : ℕ) (rows : List (List ℕ)) (i : ℕ) (row : List ℕ) (t o : ℕ) → slice_get rows i ≡ Some row → Includes row t → o ≡ k + i → Includes (edges_from k rows) (edge o t)
edge_in_from k [] i row t o at h e = absurd (cc)
edge_in_from k (r ∷ rows) zero row t o at h e =
    let same : r ≡ row = cc in
    let here : k ≡ o = omega (arith, e) in
    Includes-append_left (map (λ u. edge k u) r) (edges_from (k + 1) rows) (edge o t)
    (subst (λ p. Includes (map {B = Edge} (λ u. edge k u) r) (edge p t)) here (Includes-map {Y = Edge} (λ u. edge k u) r t (subst (λ (xs : List ℕ). Includes xs t) (sym same) h)))
edge_in_from k (r ∷ rows) (suc i) row t o at h e = Includes-append_right (map (λ u. edge k u) r) (edges_from (k + 1) rows) (edge o t) (edge_in_from (k + 1) rows i row t o at h (omega (arith, e)))

edge_out_from : (k : ℕ) (rows : List (List ℕ)) (o t : ℕ) → Includes (edges_from k rows) (edge o t) → (i : ℕ) × (row : List ℕ) × (o ≡ k + i) × (slice_get rows i ≡ Some row) × Includes row t
edge_out_from k [] o t h = absurd h
edge_out_from k (r ∷ rows) o t h = either (Includes-append_cases (map (λ u. edge k u) r) (edges_from (k + 1) rows) (edge o t) h)
    (λ here.
    let found = Includes-map_cases {Y = Edge} (λ u. edge k u) r (edge o t) here in
    let from : k ≡ o = ap (λ (e : Edge). e.from) found.2 in
    let to : found.0 ≡ t = ap (λ (e : Edge). e.to) found.2 in
    (0, r, omega (arith, from), refl, subst (λ u. Includes r u) to found.1))
    (λ rest. let found = edge_out_from (k + 1) rows o t rest in (suc found.0, found.1, omega (arith, found.2), found.3, found.4))

pub edge_in : (rows : List (List ℕ)) (o : ℕ) (row : List ℕ) (t : ℕ) → slice_get rows o ≡ Some row → Includes row t → Includes (edges_of rows) (edge o t)
edge_in rows o row t at h = edge_in_from 0 rows o row t o at h (omega arith)

pub edge_out : (rows : List (List ℕ)) (o t : ℕ) → Includes (edges_of rows) (edge o t) → (row : List ℕ) × (slice_get rows o ≡ Some row) × Includes row t
edge_out rows o t h =
    let found = edge_out_from 0 rows o t h in
    let same : found.0 ≡ o = omega (arith, found.2) in
    (found.1, subst (λ i. slice_get rows i ≡ Some found.1) same found.3, found.4)

-- the mark at a place
pub marks_of_is : (marks : List Bool) (i : ℕ) → is_marked marks i ≡ true → Marks marks i
marks_of_is [] i h = absurd (cc)
marks_of_is (m ∷ marks) zero h = ap Some h
marks_of_is (m ∷ marks) (suc i) h = marks_of_is marks i h

pub is_of_marks : (marks : List Bool) (i : ℕ) → Marks marks i → is_marked marks i ≡ true
is_of_marks marks i h = get_or_from_slice_get marks i true false h

-- an edge to an allowed place
module _ (allowed : List Bool) (rows : List (List ℕ)) where
  pub step_in : (o : ℕ) (row : List ℕ) (t : ℕ) → slice_get rows o ≡ Some row → Includes (filter (is_marked allowed) row) t → Includes (steps_of allowed rows) (edge o t)
  step_in o row t at h =
      let is = Includes-filter_cases (is_marked allowed) row t h in
      Includes-filter (λ (e : Edge). is_marked allowed e.to) (edges_of rows) (edge o t) is.1 (edge_in rows o row t at is.0)

  pub step_out : (o : ℕ) (row : List ℕ) (t : ℕ) → slice_get rows o ≡ Some row → Includes (steps_of allowed rows) (edge o t) → Includes (filter (is_marked allowed) row) t
  step_out o row t at h =
      let is = Includes-filter_cases (λ (e : Edge). is_marked allowed e.to) (edges_of rows) (edge o t) h in
      let found = edge_out rows o t is.0 in
      let same : found.0 ≡ row = same_Some found.0 row (sym found.1 ∙ at) in
      Includes-filter (is_marked allowed) row t is.1 (subst (λ (xs : List ℕ). Includes xs t) same found.2)

  leads_way : (path : List ℕ) (o object : ℕ) → LeadsTo (steps_of allowed rows) o path object → LeadsTo (edges_of rows) o path object × AllByRecursion (Marks allowed) path
  leads_way [] o object h = (h, tt)
  leads_way (p ∷ path) o object h =
      let is = Includes-filter_cases (λ (e : Edge). is_marked allowed e.to) (edges_of rows) (edge o p) h.0 in
      let rest = leads_way path p object h.1 in
      ((is.0, rest.0), (marks_of_is allowed p is.1, rest.1))

  way_leads : (path : List ℕ) (o object : ℕ) → LeadsTo (edges_of rows) o path object → AllByRecursion (Marks allowed) path → LeadsTo (steps_of allowed rows) o path object
  way_leads [] o object h a = h
  way_leads (p ∷ path) o object h a = (Includes-filter (λ (e : Edge). is_marked allowed e.to) (edges_of rows) (edge o p) (is_of_marks allowed p a.0) h.0, way_leads path p object h.1 a.1)

  module _ (starts : List Bool) where
    way_of_path : (path : List ℕ) (object : ℕ) → IsPath (StartsAt starts allowed) (steps_of allowed rows) path object → IsWay starts allowed rows path object
    way_of_path [] object h = absurd h
    way_of_path (o ∷ path) object h = let rest = leads_way path o object h.1 in record { leads = (h.0.0, rest.0); by_allowed = (h.0.1, rest.1) }

    path_of_way : (path : List ℕ) (object : ℕ) → IsWay starts allowed rows path object → IsPath (StartsAt starts allowed) (steps_of allowed rows) path object
    path_of_way [] object h = absurd h.leads
    path_of_way (o ∷ path) object h = ((h.leads.0, h.by_allowed.0), way_leads path o object h.leads.1 h.by_allowed.1)

    pub shortest_of_path : (path : List ℕ) (object : ℕ) → IsShortestPath (StartsAt starts allowed) (steps_of allowed rows) path object → IsShortestWay starts allowed rows path object
    shortest_of_path path object h = record { is_way = way_of_path path object h.leads; shortest = λ other way. h.shortest other (path_of_way other object way) }

    pub none_of_path : (object : ℕ) → HasNoPath (StartsAt starts allowed) (steps_of allowed rows) object → HasNoWay starts allowed rows object
    none_of_path object h path way = h path (path_of_way path object way)

-- paths by rows lead exactly where paths by edges do
module _ (starts allowed : List Bool) (rows : List (List ℕ)) (Held Inside : ℕ → Type 0) where
  pub reach_of_leads : ((i : ℕ) → Marks starts i → Held i) → ((i : ℕ) → Marks allowed i → Inside i) → (i : ℕ) → Leads starts allowed rows i → Reach Held Inside (edges_of rows) i
  reach_of_leads held inside _ (begins i s a) = first (held i s) (inside i a)
  reach_of_leads held inside _ (follows i j row l at h a) = next (reach_of_leads held inside i l) (edge_in rows i row j at h) (inside j a)

  pub leads_of_reach : ((i : ℕ) → Held i → Inside i → Marks starts i) → ((i : ℕ) → Inside i → Marks allowed i) → (i : ℕ) → Reach Held Inside (edges_of rows) i → Leads starts allowed rows i
  leads_of_reach starting allowing i (first h m) = begins i (starting i h m) (allowing i m)
  leads_of_reach starting allowing i (next {o = o} r e m) = let found = edge_out rows o i e in follows o i found.0 (leads_of_reach starting allowing o r) found.1 found.2 (allowing i m)
