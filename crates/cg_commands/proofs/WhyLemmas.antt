-- The heap's reason why an object is alive is the machine's, in the world that it represents.
use Rattle.std.proofs.Common.{◌≡◌, sym, ap, subst, ℕ, List, [], ◌∷◌, ◌++◌, Result, arith}
use Rattle.std.specs.Prelude.{flat_map}
use Rattle.cg_graph.specs.declared.Edge.{Edge}
use Rattle.cg_graph.specs.Holdings.{occurrences, name_holdings, graph_of}
use Rattle.cg_graph.specs.Reach.{edges}
use Rattle.cg_graph.specs.Path.{IsHeldElse, IsShortestPath, HasNoPath}
use Rattle.cg_graph.specs.Store.{Store}
use Rattle.cg_graph.proofs.Objects.{occurrences-append}
use Rattle.cg_inspect.specs.declared.reason.Why.{Why}
use Rattle.cg_inspect.specs.declared.reason.Why.TheVariants as reason
use Rattle.cg_inspect.specs.Inspection.{IsReason, arrows_of, holdings_but_entries}
use Rattle.cg_machine.specs.declared.event.Event.{Event}
use Rattle.cg_machine.specs.World.{World}
use Rattle.cg_machine.specs.Holdings.{holds, other_holdings}
use Rattle.cg_machine.specs.Effects.{Effect}
use Rattle.cg_represents.specs.Represents.{Represents}
use Rattle.cg_machine.specs.Commands.{Explanation, HasPath, HasNone}
use Rattle.cg_commands.specs.Reasons.{Explained, reason_lines}

module _ (store : Store) (w : World) (r : Represents store w) where
  -- what roots hold
  holdings-but_entries : holdings_but_entries store ≡ other_holdings w
  holdings-but_entries = λ i s. same s i
    where
      same : (s : ℕ) → holdings_but_entries store s ≡ other_holdings w s
      same s =
          let names : occurrences s (name_holdings store.names) ≡ occurrences s (name_holdings w.names) = ap (λ names. occurrences s (name_holdings names)) r.names in
          omega (arith, names, r.outside s, occurrences-append s (name_holdings w.names ++ (1 ∷ [])) (flat_map holds w.stack), occurrences-append s (name_holdings w.names) (1 ∷ []))

  arrows-same : arrows_of store ≡ edges (graph_of w.objects)
  arrows-same = ap (λ objects. edges (graph_of objects)) r.objects

  -- In terms of the heap, and in those of the machine.
  in_world : (P : (ℕ → ℕ) → List Edge → Type 0) → P (holdings_but_entries store) (arrows_of store) → P (other_holdings w) (edges (graph_of w.objects))
  in_world P h = subst (λ arrows. P (other_holdings w) arrows) arrows-same (subst (λ holdings. P holdings (arrows_of store)) holdings-but_entries h)

  -- The machine expects exactly these lines.
  pub explanation : (effect : Result Effect ℕ) (lines : List Event) (explained : Explained effect store lines) → Explanation w explained.object lines
  explanation effect lines explained = subst (Explanation w explained.object) (sym explained.tells) (known explained.reason explained.is_reason)
    where
      known : (why : Why) → IsReason store explained.object why → Explanation w explained.object (reason_lines why)
      known (reason.Path path) is = HasPath path.items (in_world (λ holdings arrows. IsShortestPath (IsHeldElse holdings explained.object) arrows path.items explained.object) is)
      known reason.Unreachable is = HasNone (in_world (λ holdings arrows. HasNoPath (IsHeldElse holdings explained.object) arrows explained.object) is)
