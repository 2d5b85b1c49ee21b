-- The worked script with one exit finalizer, by computation: the plain executor takes its steps.
use Rattle.std.proofs.Common.{◌≡◌, refl, ℕ, zero, suc, Bool, true, ◌&&◌, List, [], ◌∷◌, Some, inl, inr, arith}
use Rattle.std.specs.Prelude.{◌==◌, count_by}
use Rattle.std.specs.Fmt.{digits}
use Rattle.std.proofs.lemmas.Bool.{eqb-true}
use Rattle.cg_script.specs.declared.Command.TheVariants.{MakeFunc, MakeInst}
use Rattle.cg_script.specs.Words.{atoms}
use Rattle.cg_script.specs.Forms.{bindings, openers}
use Rattle.cg_script.specs.Meanings.{meaning}
use Rattle.cg_script.specs.Reading.{meant, reading, spells}
use Rattle.cg_script.proofs.ReadScripts.{read_known}
use Rattle.cg_graph.proofs.Members.{true_and}
use Rattle.cg_machine.specs.World.{World, Activity, Frame, TopLevel, opening}
use Rattle.cg_machine.specs.declared.event.FrameSort.TheVariants.{Call as CallFrame}
use Rattle.cg_machine.specs.Run.{StepTaken, world_after}
use Rattle.cg_machine.specs.Refusals.{◌>>=◌}
use Rattle.cg_laws.proofs.Deterministic.{first_steps_run, next}
use Rattle.cg_weakcoll.specs.Expansion.{expansion}
use Rattle.cg_weakcoll.specs.Exits.{IsExit, FindsAlive, NoneRefused, exit_body, is_refusal}
use Rattle.cg_weakcoll.specs.WorkedExits.{FindsAliveAndCalls, one_finalizer, one_script, the_exit}
use Rattle.cg_weakcoll.proofs.WorkedFinalizers.{classes_told, exit_there}

spelled : reading (expansion one_finalizer) ≡ spells one_script.names one_script.items
unfolding digits expansion atoms openers bindings meaning meant
spelled = refl

there : IsExit one_script the_exit
there = exit_there one_script the_exit (MakeFunc 2 0 [] ∷ MakeInst 3 0 ∷ []) [] []
    refl refl refl refl refl refl refl refl (classes_told 1) (λ i. omega (arith, i)) (λ i. omega (arith, i)) (λ i. omega (arith, i)) (λ i. omega (arith, i)) (λ i. omega (arith, i)) (λ i. omega (arith, i))

-- the steps from a position on
abbrev start : World
start = opening one_script 100

abbrev world_at : ℕ → World → World
world_at zero w = w
world_at (suc n) w = world_at n (next one_script w).world

abbrev some_steps : ℕ → World → List StepTaken
some_steps zero w = []
some_steps (suc n) w = next one_script w ∷ some_steps n (next one_script w).world

-- up to the call, and then up to the function's frame
abbrev before : List StepTaken
before = some_steps 11 start

abbrev during : List StepTaken
during = some_steps 20 (world_at 11 start)

-- no command is refused in some steps
abbrev none_in : List StepTaken → Bool
none_in [] = true
none_in (step ∷ steps) = (count_by is_refusal step.events == 0) && none_in steps

none_told : (below : List Activity) (w : World) (steps : List StepTaken) → none_in steps ≡ true → NoneRefused below w steps
none_told below w [] none = tt
none_told below w (step ∷ steps) none =
    let both = true_and (count_by is_refusal step.events == 0) (none_in steps) none in
    (λ frame is. eqb-true (count_by is_refusal step.events) 0 both.0, none_told below step.world steps both.1)

-- the frame of the procedure, the function #4, on the script's own finished commands
the_frame : Frame
the_frame = record { sort = CallFrame; subject = 4; function = Some 4; commands = exit_body the_exit }

alive : FindsAlive the_exit (world_after one_script 100 before) the_frame (TopLevel [] ∷ [])
unfolding ◌>>=◌ the_frame
alive = record { stack = refl; commands = refl; no_collection = refl; weak = _; member = inr (inr (inr (inr (inl refl)))); named = refl; refers = λ i. cc }

pub alive_and_calls : FindsAliveAndCalls
unfolding ◌>>=◌ the_frame
alive_and_calls = record {
  spelled = spelled;
  known = read_known one_script (expansion one_finalizer, spelled);
  exit = there;
  before = before;
  during = during;
  run = first_steps_run one_script 31 start tt;
  frame = the_frame;
  below = TopLevel [] ∷ [];
  alive = alive;
  none_refused = none_told (TopLevel [] ∷ []) (world_after one_script 100 before) during refl;
  calls = refl;
}
