-- What a command leaves on top of the stack: its own activity, perhaps without its remaining commands.
use Rattle.std.proofs.Common.{◌≡◌, refl, sym, ◌∙◌, ap, subst, ℕ, ◌||◌, List, [], ◌∷◌, ◌++◌, Option, None, Some}
use Rattle.std.specs.Prelude.{unwrap_or, option_and_then, option_map, IsSome, IfSome}
use Rattle.std.specs.FinMap as fin
use Rattle.cg_graph.specs.Object.{Object, object_at}
use Rattle.cg_graph.specs.Store.{Store, Node, IsLive, object_from}
use Rattle.cg_graph.proofs.Objects.{object-at}
use Rattle.cg_machine.specs.Frame.{procedure_of}
use Rattle.cg_script.specs.declared.Script.{Script}
use Rattle.cg_machine.specs.Program.{commands_of}
use Rattle.cg_machine.specs.World.{World, Activity, TopLevel, Framed, with_stack}
use Rattle.cg_machine.specs.Holdings.{holds}
use Rattle.cg_machine.specs.Commands.{without_commands, stopped_frame}
use Rattle.cg_represents.specs.Represents.{Represents}
use Rattle.cg_interp.specs.declared.activity.Activity.{Activity as Own}
use Rattle.cg_interp.specs.declared.activity.Activity.TheVariants as activity
use Rattle.cg_policy.specs.Policy.{Policy}
use Rattle.cg_interp.specs.Engines.{State, StandsFor, ActivityShows, ShowsAll, commands_from, frame_of, under, is_collecting, any_collecting}
use Rattle.cg_interp.specs.declared.caller.Caller.{Caller}
use Rattle.cg_interp.specs.declared.caller.Runner.{Runner}
use Rattle.cg_interp.specs.declared.caller.Runner.TheVariants as runner_is
use Rattle.cg_interp.specs.Callers.{caller_activity, with_next, without_rest_in_frame, activity_at, left_when_stopped}
use Rattle.cg_interp.proofs.StackChanges.{IsPlain, plain_frame, plain_script, replaced, spelled}

-- Another activity with the same holds replaces the top one.
module _ (script : Script) (old new : State) (top top_after : Own) (a b : Activity) (f : List Activity → List Activity) (w : World)
    (plain_a : IsPlain a) (plain_b : IsPlain b) (same : holds b ≡ holds a) (turns : (below : List Activity) → f (a ∷ below) ≡ b ∷ below)
    (shown : (tops : List Activity) → ActivityShows script top tops → tops ≡ a ∷ []) (shows : ActivityShows script top_after (b ∷ [])) (alike : is_collecting top_after ≡ is_collecting top) where
  pub retopped : StandsFor script (under top old) w → new.store ≡ old.store → new.policy ≡ old.policy → new.activities ≡ top_after ∷ old.activities → new.budget
      ≡ old.budget → StandsFor script new (with_stack (f w.stack) w)
  retopped stands store policy top_is budget =
      record {
        represents = subst (λ st. Represents new.store (with_stack (f st) w)) (sym at)
            (subst (λ st. Represents st (with_stack (f (a ∷ below)) w)) (sym store)
            (subst (λ st. Represents old.store (with_stack st w)) (sym (turns below))
            (replaced old.store w a b below plain_a plain_b same (spelled (Represents old.store) w (a ∷ below) at stands.represents))));
        shows = subst (λ st. ShowsAll script new.activities (f st)) (sym at)
            (subst (λ l. ShowsAll script l (f (a ∷ below))) (sym top_is)
            (subst (λ st. ShowsAll script (top_after ∷ old.activities) st) (sym (turns below))
            (record { tops = b ∷ []; below = below; shows = shows; some = λ e. absurd (cc); over = stands.shows.over; is = refl })));
        budget = stands.budget ∙ sym budget;
        running = stands.running;
        numbers = ap (λ (p : Policy). p.numbers) policy ∙ stands.numbers;
        collecting =
            ap (λ (p : Policy). p.running) policy ∙ stands.collecting ∙ ap (λ b. b || any_collecting old.activities) (sym alike) ∙ ap any_collecting (sym top_is);
      }
    where
      below : List Activity
      below = stands.shows.below

      at : w.stack ≡ a ∷ below
      at = stands.shows.is ∙ ap (λ l. l ++ below) (shown stands.shows.tops stands.shows.shows)

module _ (script : Script) (old new : State) (w : World) where
  -- a frame is put back without its commands
  stops_frame_by : (r : Runner) (next : Option ℕ) → StandsFor script (under (activity_at r next) old) w → new.store ≡ old.store → new.policy ≡ old.policy
      → new.activities ≡ activity_at r (left_when_stopped r next) ∷ old.activities → new.budget ≡ old.budget
      → StandsFor script new (with_stack (stopped_frame w.stack) w)
  stops_frame_by runner_is.Script next stands store policy is budget =
      retopped script old new (activity.Script next) (activity.Script next) (TopLevel (commands_from next (commands_of script.items)))
      (TopLevel (commands_from next (commands_of script.items))) stopped_frame w
      (plain_script _) (plain_script _) refl (λ below. refl) (λ tops e. e) refl refl stands store policy is budget
  stops_frame_by (runner_is.Frame locals procedure) next stands store policy is budget =
      retopped script old new (activity.Frame locals procedure next) (activity.Frame locals procedure None) (Framed (frame_of script locals procedure next))
      (Framed (frame_of script locals procedure None)) stopped_frame w
      (plain_frame _) (plain_frame _) refl (λ below. refl) (λ tops e. e) refl refl stands store policy is budget

  pub stops_frame : (caller : Caller) → StandsFor script (under (caller_activity caller) old) w → new.store ≡ old.store → new.policy ≡ old.policy
      → new.activities ≡ caller_activity (without_rest_in_frame caller) ∷ old.activities → new.budget ≡ old.budget
      → StandsFor script new (with_stack (stopped_frame w.stack) w)
  stops_frame caller = stops_frame_by caller.runner caller.next

  -- a caller is put back without its commands
  stops_by : (r : Runner) (next : Option ℕ) → StandsFor script (under (activity_at r next) old) w → new.store ≡ old.store → new.policy ≡ old.policy
      → new.activities ≡ activity_at r None ∷ old.activities → new.budget ≡ old.budget
      → StandsFor script new (with_stack (without_commands w.stack) w)
  stops_by runner_is.Script next stands store policy is budget =
      retopped script old new (activity.Script next) (activity.Script None) (TopLevel (commands_from next (commands_of script.items))) (TopLevel []) without_commands w
      (plain_script _) (plain_script _) refl (λ below. refl) (λ tops e. e) refl refl stands store policy is budget
  stops_by (runner_is.Frame locals procedure) next stands store policy is budget =
      retopped script old new (activity.Frame locals procedure next) (activity.Frame locals procedure None) (Framed (frame_of script locals procedure next))
      (Framed (frame_of script locals procedure None)) without_commands w
      (plain_frame _) (plain_frame _) refl (λ below. refl) (λ tops e. e) refl refl stands store policy is budget

  pub stops : (caller : Caller) → StandsFor script (under (caller_activity caller) old) w → new.store ≡ old.store → new.policy ≡ old.policy → new.activities
      ≡ caller_activity (with_next None caller) ∷ old.activities → new.budget ≡ old.budget
      → StandsFor script new (with_stack (without_commands w.stack) w)
  stops caller = stops_by caller.runner caller.next

-- the procedure of a function, which the heap stores with it
pub procedure_known : (store : Store) (w : World) (f : ℕ) (class : Option ℕ) → Represents store w → IsLive store f → IfSome (fin.get store.nodes f) (λ n. class
    ≡ n.class) → procedure_of w f ≡ unwrap_or class 0
procedure_known store w f class r live told =
    ap (λ x. unwrap_or (option_and_then (λ (x : Object). x.class) x) 0) (ap (λ os. object_at os f) (sym r.objects) ∙ object-at store f)
    ∙ known (fin.get store.nodes f) live told
  where
    known : (x : Option Node) → IsSome x → IfSome x (λ n. class ≡ n.class) → unwrap_or (option_and_then (λ (x : Object). x.class) (option_map (object_from store.rows f) x)) 0 ≡ unwrap_or class 0
    known None there told = absurd (cc)
    known (Some n) there told = ap (λ k. unwrap_or k 0) (sym told)

-- another engine with the same parts represents the same worlds
pub same_engine : (script : Script) (old new : State) (w : World) → StandsFor script old w → new.store ≡ old.store → new.policy ≡ old.policy → new.activities
    ≡ old.activities → new.budget ≡ old.budget → StandsFor script new w
same_engine script old new w stands store policy activities budget = record {
  represents = subst (λ st. Represents st w) (sym store) stands.represents;
  shows = subst (λ l. ShowsAll script l w.stack) (sym activities) stands.shows;
  budget = stands.budget ∙ sym budget;
  running = stands.running;
  numbers = ap (λ (p : Policy). p.numbers) policy ∙ stands.numbers;
  collecting = ap (λ (p : Policy). p.running) policy ∙ stands.collecting ∙ ap any_collecting (sym activities);
}
