-- Steps of the machine from a world with an explicit stack, and what a heap says of such a world.
use Rattle.std.proofs.Common.{◌≡◌, refl, sym, ap, subst, List, [], ◌∷◌, ◌++◌}
use Rattle.cg_script.specs.declared.Script.{Script}
use Rattle.std.specs.Ordering.{nat_cmp}
use Rattle.std.specs.FinMap as fin
use Rattle.cg_graph.specs.Object.{Object}
use Rattle.cg_graph.specs.Store.{Store, Node, objects_of}
use Rattle.cg_machine.specs.declared.event.FrameSpec.{FrameSpec}
use Rattle.cg_machine.specs.Frame.{start_frame}
use Rattle.cg_represents.proofs.Representing.{Matches}
use Rattle.cg_machine.specs.World.{World, Activity, Numbers, with_stack}
use Rattle.cg_machine.specs.declared.event.Event.{Event}
use Rattle.cg_represents.specs.Represents.{Represents, Goes}
use Rattle.cg_death.specs.declared.answer.DeathStep.{DeathStep}
use Rattle.cg_death.specs.Answers.{DeathStands, DeathAnswer, DeathSteps, WentOn, GaveFrame}

-- a world is that world with its own stack
pub at_stack : (P : World → Type 0) (w : World) (stack : List Activity) → w.stack ≡ stack → P (with_stack stack w) → P w
at_stack P w stack top p = subst (λ s. P (with_stack s w)) (sym top) p

pub spelled : (store : Store) (w : World) (stack : List Activity) → DeathStands store w stack → DeathStands store (with_stack stack w) stack
spelled store w stack s = subst (λ st. DeathStands store (with_stack st w) stack) s.top s

-- an answer for each world is one for those with an explicit stack
pub steps_at : (script : Script) (old : Store) (tops : List Activity) (new : Store) (tops_after : List Activity) (answer : DeathStep)
    → ((v : World) (below : List Activity) → DeathStands old (with_stack (tops ++ below) v) (tops ++ below) → DeathAnswer script (with_stack (tops ++ below) v) new (tops_after ++ below) answer)
    → DeathSteps script old tops new tops_after answer
steps_at script old tops new tops_after answer each w below s = at_stack (λ u. DeathAnswer script u new (tops_after ++ below) answer) w (tops ++ below) s.top
    (each w below (spelled old w (tops ++ below) s))

-- a step that goes on, or hands out a frame
pub went_to : {script : Script} {w : World} {events : List Event} {numbers : Numbers} {store : Store} {stack : List Activity} (after : World) → Goes script w events after
    → Represents store after → after.stack ≡ stack → (after.numbers ≡ numbers) × (after.budget ≡ w.budget) × (after.outcome ≡ w.outcome) → WentOn script w events numbers store stack
went_to after goes represents top keeps = record {
  goes = record { after = after; goes = goes; top = top; represents = represents };
  keeps = record { numbers = keeps.0; budget = keeps.1; outcome = keeps.2 };
}

pub gave_frame : {script : Script} {w : World} {store : Store} {stack : List Activity} (spec : FrameSpec) (before : World)
    → Goes script w (start_frame script spec before).0 (start_frame script spec before).1 → Represents store before → before.stack ≡ stack
    → (before.numbers ≡ w.numbers) × (before.budget ≡ w.budget) × (before.outcome ≡ w.outcome) → GaveFrame script w spec store stack
gave_frame spec before goes represents top keeps = record {
  hands = record { before = before; goes = goes; top = top; represents = represents };
  keeps = record { numbers = keeps.0; budget = keeps.1; outcome = keeps.2 };
}

-- Other nodes and objects that agree, beside the same rows, lists, names and stack.
pub matches-alike : (store : Store) (nodes : fin.FinMap nat_cmp Node) (w : World) (objects : List Object) → Matches store w
    → objects_of (record store { nodes = nodes }) ≡ objects → Matches (record store { nodes = nodes }) (record w { objects = objects })
matches-alike store nodes w objects m same =
    record { objects = same; next_serial = m.next_serial; names = m.names; deaths = m.deaths; no_others = m.no_others; collection = m.collection }

pub append_none : {X : Type 0} (xs : List X) → xs ++ [] ≡ xs
append_none [] = refl
append_none (x ∷ xs) = ap (λ l. x ∷ l) (append_none xs)
