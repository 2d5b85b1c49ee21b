-- A walk from the objects that kept a number is a path from outside.
use Rattle.std.proofs.Common.{◌≡◌, refl, sym, ◌∙◌, ap, subst, ℕ, ◌+◌, ◌≤◌, inl, inr, List, [], ◌∷◌, ◌++◌, length, map, arith}
use Rattle.std.specs.Prelude.{sum_by, flat_map}
use Rattle.cg_value.specs.declared.Place.{Place}
use Rattle.cg_value.specs.declared.Entry.{Entry}
use Rattle.cg_graph.specs.Member.{Includes}
use Rattle.cg_graph.specs.Holdings.{occurrences, entry_holdings}
use Rattle.cg_trial.specs.View.{View, IsSame, IsSameButNumbers, Lowered, held_by}
use Rattle.cg_graph.specs.Value.{references}
use Rattle.cg_graph.specs.declared.Edge.{Edge}
use Rattle.cg_graph.specs.Reach.{edges, first, next}
use Rattle.cg_trial.specs.Paths.{graph_in, Reached, entries_in}
use Rattle.cg_trial.specs.Sift.{Walk, starts, goes, IsNowhereElse, IsSifted, IsSieved}
use Rattle.cg_graph.proofs.Members.{Includes-map, Includes-map_cases, either, Includes-append_cases, Includes-append_left, Includes-append_right}
use Rattle.cg_trial.proofs.Passes.{list_same, same_more, but_numbers_more}
use Rattle.cg_trial.proofs.Entries.{refs_same}

abbrev pub arrow : ℕ → ℕ → Edge
arrow o p = record { from = o; to = p }

-- the edges are the references of the members' entries
pub edges_in : (v : View) (members : List ℕ) (o p : ℕ) → Includes members o → Includes (references (v.entries o)) p → Includes (edges (graph_in v members)) (arrow o p)
edges_in v [] o p h k = absurd h
edges_in v (m ∷ members) o p (inl e) k =
    Includes-append_left (map (arrow m) (references (v.entries m))) (edges (graph_in v members)) (arrow o p)
    (subst (λ q. Includes (map (arrow q) (references (v.entries q))) (arrow o p)) (sym e) (Includes-map (arrow o) (references (v.entries o)) p k))
edges_in v (m ∷ members) o p (inr h) k = Includes-append_right (map (arrow m) (references (v.entries m))) (edges (graph_in v members)) (arrow o p) (edges_in v members o p h k)

pub edges_out : (v : View) (members : List ℕ) (o p : ℕ) → Includes (edges (graph_in v members)) (arrow o p) → Includes members o × Includes (references (v.entries o)) p
edges_out v [] o p h = absurd h
edges_out v (m ∷ members) o p h =
    either (Includes-append_cases (map (arrow m) (references (v.entries m))) (edges (graph_in v members)) (arrow o p) h)
    (λ k.
    let found = Includes-map_cases (arrow m) (references (v.entries m)) (arrow o p) k in
    let here : m ≡ o = ap (λ (e : Edge). e.from) found.2 in
    let there : found.0 ≡ p = ap (λ (e : Edge). e.to) found.2 in
    (inl here, subst (λ q. Includes (references (v.entries q)) p) here (subst (λ q. Includes (references (v.entries m)) q) there found.1)))
    (λ k. let rest = edges_out v members o p k in (inr rest.0, rest.1))

pub holdings_of : (v : View) (members : List ℕ) → entry_holdings (graph_in v members) ≡ held_by v members
holdings_of v [] = refl
holdings_of v (m ∷ members) = ap (λ (r : List ℕ). references (v.entries m) ++ r) (holdings_of v members)

pub held_same : (a b : View) (xs ys : List ℕ) → IsSame a b → xs ≡ ys → held_by b xs ≡ held_by a ys
held_same a b xs ys same e = ap (λ (es : ℕ → List Entry). flat_map (λ o. references (es o)) xs) same.hold ∙ ap (held_by a) e

pub entries_same : (a b : View) (xs ys : List ℕ) → IsSame a b → xs ≡ ys → entries_in b xs ≡ entries_in a ys
entries_same a b xs ys same e = ap (λ (es : ℕ → List Entry). sum_by (λ o. length (es o)) xs) same.hold ∙ ap (entries_in a) e

walk_member : (v : View) (members : List ℕ) (o : ℕ) → Walk v members o → Includes members o
walk_member v members o (starts n h) = h
walk_member v members o (goes w r h) = h

-- The counts were copied from v to a, then lowered from a to b; then the walk went from b to c.
module _ (members : Place) (v a b c : View) (copied : IsSameButNumbers v a) (counts : (o : ℕ) → Includes (v.listed members) o → a.number o ≡ v.degree o)
    (lowered : Lowered members (held_by a (a.listed members)) a b) where
  same_b : IsSameButNumbers v b
  same_b = but_numbers_more copied lowered.rest

  number_b : (o : ℕ) → Includes (v.listed members) o → b.number o + occurrences o (entry_holdings (graph_in v (v.listed members))) ≡ v.degree o
  number_b o h =
      let e = lowered.lower o (subst (λ (xs : List ℕ). Includes xs o) (sym (list_same members copied)) h) in
      let f : occurrences o (held_by a (a.listed members)) ≡ occurrences o (entry_holdings (graph_in v (v.listed members))) =
      ap (occurrences o) (held_same v a (a.listed members) (v.listed members) copied.same (list_same members copied) ∙ sym (holdings_of v (v.listed members))) in
      let g = counts o h in
      omega arith

  walk_path : (o : ℕ) → Walk b (v.listed members) o → Reached v (v.listed members) o
  walk_path o (starts n h) = first (let e = number_b o h in omega arith) h
  walk_path o (goes {o = p} w r h) =
      next (walk_path p w) (edges_in v (v.listed members) p o (walk_member b (v.listed members) p w) (subst (λ (es : List ℕ). Includes es o) (refs_same v b p same_b.same) r)) h

  path_walk : (o : ℕ) → Reached v (v.listed members) o → Walk b (v.listed members) o
  path_walk o (first k h) = starts (λ z. let e = number_b o h in absurd (omega arith)) h
  path_walk o (next {o = p} w e h) = goes (path_walk p w) (subst (λ (es : List ℕ). Includes es o) (sym (refs_same v b p same_b.same)) (edges_out v (v.listed members) p o e).1) h

  pub sieved_of : IsSifted members b c → IsSieved members v c
  sieved_of s = record {
    same = same_more same_b.same s.same;
    others = λ q h k. s.others q h k ∙ list_same q same_b;
    sums = λ f. s.sums f ∙ ap (sum_by f) (list_same members same_b);
    reached = λ o h. walk_path o (subst (λ (xs : List ℕ). Walk b xs o) (list_same members same_b) (s.reached o h));
    all_reached = λ o w. s.all_reached o (subst (λ (xs : List ℕ). Walk b xs o) (sym (list_same members same_b)) (path_walk o w));
  }

pub counted_room : (members : Place) (v a : View) → IsSameButNumbers v a → ((o : ℕ) → Includes (v.listed members) o → a.number o ≡ v.degree o) → ((o : ℕ) → occurrences o (held_by v (v.listed members)) ≤ v.degree o)
    → (o : ℕ) → Includes (a.listed members) o → occurrences o (held_by a (a.listed members)) ≤ a.number o
counted_room members v a rest counts counted o h =
    let e = counts o (subst (λ (xs : List ℕ). Includes xs o) (list_same members rest) h) in
    let f : occurrences o (held_by a (a.listed members)) ≡ occurrences o (held_by v (v.listed members)) = ap (occurrences o) (held_same v a (a.listed members) (v.listed members) rest.same (list_same members rest)) in
    let g = counted o in
    omega arith

pub apart_same : (members : Place) (v b : View) → IsSameButNumbers v b → IsNowhereElse members v → IsNowhereElse members b
apart_same members v b rest alone = λ q o h i.
    ap (occurrences o) (list_same q rest) ∙ alone q o h (subst (λ (xs : List ℕ). Includes xs o) (list_same members rest) i)
