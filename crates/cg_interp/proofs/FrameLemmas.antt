-- How a frame starts and ends: the engine makes the machine's transition.
use Rattle.std.proofs.Common.{◌≡◌, ◌≢◌, refl, sym, ◌∙◌, ap, subst, ℕ, ◌+◌, ◌-◌, ◌<◌, Bool, true, false, List, [], ◌∷◌, ◌++◌, Option, None, Some, arith, cond}
use Rattle.std.specs.Prelude.{option_to_list, if◌then◌else◌, ◌==◌, IfSome, OnSome}
use Rattle.std.proofs.lemmas.Bool.{ne_eqb, eq-eqb, eqb-true}
use Rattle.cg_script.specs.declared.Script.{Script}
use Rattle.cg_graph.specs.Holdings.{occurrences}
use Rattle.cg_graph.specs.Store.{Store, IsLive}
use Rattle.cg_graph.specs.Changes.{held}
use Rattle.cg_machine.specs.declared.event.Event.TheVariants.{Enter, Leave, BudgetSpent}
use Rattle.cg_machine.specs.declared.event.FrameSpec.{FrameSpec}
use Rattle.cg_machine.specs.Program.{body_of}
use Rattle.cg_machine.specs.World.{World, Activity, Framed, Frame, Releasing, BudgetIsSpent, with_stack}
use Rattle.cg_machine.specs.Holdings.{holds, call_holds}
use Rattle.cg_machine.specs.Frame.{Transition, start_frame, gives_up_function}
use Rattle.cg_represents.specs.Represents.{Represents}
use Rattle.cg_machine.specs.Run.{StepOf, FrameStep}
use Rattle.cg_death.specs.declared.release.Release.{Release}
use Rattle.cg_death.specs.Activities.{references_left}
use Rattle.cg_interp.specs.Releases.{released_by, with_release, with_release_on}
use Rattle.cg_commands.specs.declared.locals.Locals.{Locals}
use Rattle.cg_interp.specs.declared.activity.Activity.TheVariants as activity
use Rattle.cg_interp.specs.declared.turned.Turned.TheVariants as turned
use Rattle.cg_policy.specs.Policy.{Policy}
use Rattle.cg_interp.specs.Engines.{State, StandsFor, ShowsAll, ShowsTop, frame_of, commands_from, under, any_collecting}
use Rattle.cg_interp.specs.Turns.{Makes, Turns}
use Rattle.cg_interp.proofs.StackChanges.{plain_frame, plain_release, holding, taken, replaced, spelled, one_step}

-- the function that a frame holds lives
called_live : (store : Store) (o : Option ℕ) → IfSome o (λ f. IsLive store f) → (s : ℕ) → 0 < occurrences s (option_to_list o) → IsLive store s
called_live store None live s h = absurd (omega (arith, h))
called_live store (Some f) live s h = go (f == s) refl h
  where
    go : (b : Bool) → (f == s) ≡ b → 0 < 0 + cond b 1 0 → IsLive store s
    go true e k = subst (IsLive store) (eqb-true f s e) live
    go false e k = absurd (omega (arith, k))

-- what is held is the function of a call
pub still_live : (P : ℕ → Type 0) (C : Type 0) (called function : Option ℕ) → IfSome called (λ f. function ≡ Some f) → OnSome called C → (C → IfSome function P) → IfSome called P
still_live P C None function only call live = tt
still_live P C (Some f) function only call live = subst (λ o. IfSome o P) only (live call)

pub when_called : (P C : Type 0) (called : Option ℕ) → OnSome called C → (C → P) → OnSome called P
when_called P C None call p = tt
when_called P C (Some f) call p = p call

module _ (script : Script) (old new : State) (spec : FrameSpec) (w : World) (stands : StandsFor script old w) where
  chosen : Bool → Transition
  chosen b =
      if b
      then (BudgetSpent ∷ [], record w { outcome = BudgetIsSpent })
      else (
        Enter spec.sort spec.subject ∷ [],
        record w {
          budget = w.budget - 1;
          stack = Framed (record { sort = spec.sort; subject = spec.subject; function = spec.func; commands = body_of script spec.proc }) ∷ w.stack;
        },
      )

  pub spends : old.budget ≡ 0 → Makes script (start_frame script spec w) new turned.Spent
  unfolding chosen
  spends none = subst (λ b. Makes script (chosen b) new turned.Spent) (sym (eq-eqb w.budget 0 (stands.budget ∙ none))) (refl, refl)

  pub enters : (called : Option ℕ) → old.budget ≢ 0 → call_holds spec.sort spec.func ≡ option_to_list called → IfSome called (λ f. IsLive old.store f)
      → new.store ≡ held (option_to_list called) old.store → new.policy ≡ old.policy
      → new.activities ≡ activity.Frame (record { sort = spec.sort; subject = spec.subject; func = spec.func }) spec.proc (Some 0) ∷ old.activities
      → new.budget ≡ old.budget - 1 → Makes script (start_frame script spec w) new (turned.Line (Enter spec.sort spec.subject))
  unfolding chosen
  enters called some is live now policy top left =
      subst (λ b. Makes script (chosen b) new (turned.Line (Enter spec.sort spec.subject))) (sym (ne_eqb w.budget 0 (λ z. some (sym stands.budget ∙ z)))) (
        refl,
        record {
          represents = subst (λ st. Represents st (chosen false).1) (sym now) (holding old.store (record w { budget = w.budget - 1 }) frame
              (option_to_list called) (plain_frame _) is (called_live old.store called live) (anywhere stands.represents));
          shows = subst (λ l. ShowsAll script l (frame ∷ w.stack)) (sym top) (record { tops = frame ∷ []; below = w.stack; shows = refl; some = λ e. absurd (cc); over = stands.shows; is = refl });
          budget = ap (λ n. n - 1) stands.budget ∙ sym left;
          running = stands.running;
          numbers = ap (λ (p : Policy). p.numbers) policy ∙ stands.numbers;
          collecting = ap (λ (p : Policy). p.running) policy ∙ stands.collecting ∙ ap any_collecting (sym top);
        },
      )
    where
      frame : Activity
      frame = Framed (record { sort = spec.sort; subject = spec.subject; function = spec.func; commands = body_of script spec.proc })

      anywhere : Represents old.store w → Represents old.store (record w { budget = w.budget - 1 })
      anywhere r = record { objects = r.objects; next_serial = r.next_serial; names = r.names; outside = r.outside; deaths = r.deaths; no_others = r.no_others; collection = r.collection }

-- A frame is on top: the top of the world's stack.
pub top_of : (script : Script) (locals : Locals) (procedure : ℕ) (next : Option ℕ) (rest : List Activity → Type 0) (stack : List Activity)
    → ShowsTop script (activity.Frame locals procedure next) rest stack
    → (below : List Activity) × rest below × (stack ≡ Framed (frame_of script locals procedure next) ∷ below)
top_of script locals procedure next rest stack s = (s.below, s.over, s.is ∙ ap (λ l. l ++ s.below) s.shows)

module _ (script : Script) (old new : State) (locals : Locals) (procedure : ℕ) (next : Option ℕ) (w : World)
    (none : commands_from next (body_of script procedure) ≡ []) (stands : StandsFor script (under (activity.Frame locals procedure next) old) w) where
  abbrev frame : Frame
  frame = frame_of script locals procedure next

  parts : (below : List Activity) × ShowsAll script old.activities below × (w.stack ≡ Framed frame ∷ below)
  parts = top_of script locals procedure next (ShowsAll script old.activities) w.stack stands.shows

  abbrev after : Option Release → World
  after release = with_release release (with_stack parts.0 w)

  steps : (release : Option Release) → ((v : World) → gives_up_function locals.sort locals.func v ≡ with_release release v) → StepOf script w w.stack (Leave ∷ []) (after release)
  steps release is =
      subst (λ st. StepOf script w st (Leave ∷ []) (after release)) (sym parts.2)
      (subst (λ cs. FrameStep script w frame cs parts.0 (Leave ∷ []) (after release)) (sym none) (refl, sym (is (with_stack parts.0 w))))

  represents-after : (release : Option Release) → call_holds locals.sort locals.func ≡ released_by release → Represents old.store (after release)
  represents-after None holds = taken old.store w (Framed frame) parts.0 (plain_frame frame) holds (spelled (Represents old.store) w (Framed frame ∷ parts.0) parts.2 stands.represents)
  represents-after (Some release) holds =
      replaced old.store w (Framed frame) (Releasing (references_left release)) parts.0 (plain_frame frame) (plain_release (references_left release)) (sym holds)
      (spelled (Represents old.store) w (Framed frame ∷ parts.0) parts.2 stands.represents)

  shows-after : (release : Option Release) → ShowsAll script (with_release_on release old.activities) (after release).stack
  shows-after None = parts.1
  shows-after (Some release) = record { tops = Releasing (references_left release) ∷ []; below = parts.0; shows = refl; some = λ e. absurd (cc); over = parts.1; is = refl }

  budget-after : (release : Option Release) → ((after release).budget ≡ w.budget) × ((after release).outcome ≡ w.outcome) × ((after release).numbers ≡ w.numbers)
  budget-after None = (refl, refl, refl)
  budget-after (Some release) = (refl, refl, refl)

  collecting-after : (release : Option Release) → any_collecting (with_release_on release old.activities) ≡ any_collecting old.activities
  collecting-after None = refl
  collecting-after (Some release) = refl

  pub leaves : (release : Option Release) → ((v : World) → gives_up_function locals.sort locals.func v ≡ with_release release v) → call_holds locals.sort locals.func ≡ released_by release
      → new.activities ≡ with_release_on release old.activities → new.store ≡ old.store → new.policy ≡ old.policy → new.budget ≡ old.budget → Turns script w new (turned.Line Leave)
  leaves release is holds top same policy left = record {
    after = after release;
    goes = one_step script w (Leave ∷ []) (after release) stands.running (steps release is);
    moves = λ e. absurd (cc);
    stands = record {
      represents = subst (λ st. Represents st (after release)) (sym same) (represents-after release holds);
      shows = subst (λ l. ShowsAll script l (after release).stack) (sym top) (shows-after release);
      budget = (budget-after release).0 ∙ stands.budget ∙ sym left;
      running = (budget-after release).1 ∙ stands.running;
      numbers = ap (λ (p : Policy). p.numbers) policy ∙ stands.numbers ∙ sym (budget-after release).2;
      collecting = ap (λ (p : Policy). p.running) policy ∙ stands.collecting ∙ sym (collecting-after release) ∙ ap any_collecting (sym top);
    };
  }
