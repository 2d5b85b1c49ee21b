-- Paths of holders, and what they reach.
use Rattle.std.proofs.Common.{refl, sym, subst, ℕ, ◌<◌, List, [], ◌∷◌, ◌++◌, length, inl, inr}
use Rattle.std.specs.Prelude.{◌↔◌}
use Rattle.cg_graph.specs.declared.Edge.{Edge}
use Rattle.cg_graph.specs.Member.{Includes}
use Rattle.cg_graph.specs.Reach.{Reach, first, next}
use Rattle.cg_graph.specs.Path.{IsPath, LeadsTo}
use Rattle.cg_graph.proofs.Members.{either, Includes-append_cases}
use Rattle.cg_snapshot.specs.declared.heap.Member.{Member}
use Rattle.cg_ask.specs.Asked.{edges, IsHeld, IsMember, IsOther, IsLost, IsWay, HasNone}

-- a path extended by one step
leads_more : (arrows : List Edge) (from : ℕ) (path : List ℕ) (o p : ℕ) → LeadsTo arrows from path o → Includes arrows (record { from = o; to = p }) → LeadsTo arrows from (path ++ p ∷ []) p
leads_more arrows from [] o p e step = (subst (λ x. Includes arrows (record { from = x; to = p })) (sym e) step, refl)
leads_more arrows from (x ∷ path) o p l step = (l.0, leads_more arrows x path o p l.1 step)

path_more : (Held : ℕ → Type 0) (arrows : List Edge) (path : List ℕ) (o p : ℕ) → IsPath Held arrows path o → Includes arrows (record { from = o; to = p }) → IsPath Held arrows (path ++ p ∷ []) p
path_more Held arrows [] o p l step = absurd l
path_more Held arrows (x ∷ path) o p l step = (l.0, leads_more arrows x path o p l.1 step)

-- along a path from a reached member
along : (Held Inside : ℕ → Type 0) (arrows : List Edge) (from : ℕ) (path : List ℕ) (o : ℕ) → Reach Held Inside arrows from → LeadsTo arrows from path o
    → ((x : ℕ) → Includes path x → Inside x) → Reach Held Inside arrows o
along Held Inside arrows from [] o r e inside = subst (λ x. Reach Held Inside arrows x) e r
along Held Inside arrows from (x ∷ path) o r l inside = along Held Inside arrows x path o (next r l.0 (inside x (inl refl))) l.1 (λ y m. inside y (inr m))

module _ (ms : List Member) (without : List ℕ) where
  way_to : (o : ℕ) → Reach (IsHeld ms) (IsOther ms without) (edges ms) o → (path : List ℕ) × IsWay ms without path o
  way_to o (first h i) = (o ∷ [], record { leads = (h, refl); others = λ x m. either m (λ e. subst (λ y. IsOther ms without y) e i) (λ f. absurd f) })
  way_to o (next {o = x} r e i) =
      let w = way_to x r in (
        w.0 ++ o ∷ [],
        record {
          leads = path_more (IsHeld ms) (edges ms) w.0 x o w.1.leads e;
          others = λ y m. either (Includes-append_cases w.0 (o ∷ []) y m) (λ k. w.1.others y k) (λ k. either k (λ f. subst (λ z. IsOther ms without z) f i) (λ f. absurd f));
        },
      )

  reached_by : (path : List ℕ) (o : ℕ) → IsPath (IsHeld ms) (edges ms) path o → ((x : ℕ) → Includes path x → IsOther ms without x) → Reach (IsHeld ms) (IsOther ms without) (edges ms) o
  reached_by [] o l others = absurd l
  reached_by (x ∷ path) o l others = along (IsHeld ms) (IsOther ms without) (edges ms) x path o (first l.0 (others x (inl refl))) l.1 (λ y m. others y (inr m))

  pub ways_are_reach : (o : ℕ) → Reach (IsHeld ms) (IsOther ms without) (edges ms) o ↔ ((path : List ℕ) × IsWay ms without path o)
  ways_are_reach o = (λ r. way_to o r, λ w. reached_by w.0 o w.1.leads w.1.others)

-- excluding no members excludes nothing
other_of : (ms : List Member) (o : ℕ) → Reach (IsHeld ms) (IsMember ms) (edges ms) o → Reach (IsHeld ms) (IsOther ms []) (edges ms) o
other_of ms o (first h i) = first h (i, λ m. m)
other_of ms o (next {o = x} r e i) = next (other_of ms x r) e (i, λ m. m)

of_other : (ms : List Member) (o : ℕ) → Reach (IsHeld ms) (IsOther ms []) (edges ms) o → Reach (IsHeld ms) (IsMember ms) (edges ms) o
of_other ms o (first h i) = first h i.0
of_other ms o (next {o = x} r e i) = next (of_other ms x r) e i.0

pub lost_has_none : (ms : List Member) (o : ℕ) → o < length ms → IsLost ms o ↔ HasNone ms [] o
lost_has_none ms o within = (
  λ lost path w. lost.no_path (of_other ms o ((ways_are_reach ms [] o).1 (path, w))),
  λ none. record { member = within; no_path = λ r. let w = (ways_are_reach ms [] o).0 (other_of ms o r) in none w.0 w.1 },
)
