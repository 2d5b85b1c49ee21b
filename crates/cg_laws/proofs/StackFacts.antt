-- What is known of each activity on the stack: the function of a frame, and that weak references to a dying object are
-- cleared newest first. A step keeps this of the activities below it.
use Rattle.std.proofs.Common.{◌≡◌, ◌≢◌, refl, sym, ◌∙◌, subst, ℕ, ◌<◌, true, inl, inr, ◌⊎◌, List, [], ◌∷◌, ◌++◌, Option, Some, None, arith}
use Rattle.std.specs.Prelude.{flat_map, option_to_list}
use Rattle.cg_script.specs.declared.Script.{Script}
use Rattle.cg_graph.specs.Member.{Includes}
use Rattle.cg_graph.specs.Value.{references}
use Rattle.cg_graph.specs.Object.{Object, serials}
use Rattle.cg_graph.proofs.Members.{either, Includes-append_right, Includes-map_cases}
use Rattle.cg_machine.specs.declared.event.FrameSort.{FrameSort}
use Rattle.cg_machine.specs.declared.event.FrameSort.TheVariants.{Callback, Call}
use Rattle.cg_machine.specs.World.{World, Activity, Framed, Dying, Death, DyingPhase, Clearing}
use Rattle.cg_machine.specs.Holdings.{holds, call_holds}
use Rattle.cg_machine.specs.Weak.{is_function, weak_references}
use Rattle.cg_represents.specs.Orderly.{waits_of, all_waits}
use Rattle.cg_laws.specs.Laws.{LeavesBelow}
use Rattle.cg_represents.proofs.Serials.{Rises}
use Rattle.cg_laws.proofs.Unreferred.{lives_within}
use Rattle.cg_laws.proofs.Unheld.{Rests, AreResting}
use Rattle.cg_laws.proofs.HeldLives.{waits_held}
use Rattle.cg_laws.proofs.HeldLivesDeaths.{HasOrder}
use Rattle.cg_laws.proofs.LeftBelow.{LeavesIt}

-- the object with this serial is a function
abbrev pub AreFunctions : List Object → ℕ → Type 0
AreFunctions objects g = (x : Object) → Includes objects x → x.serial ≡ g → is_function x ≡ true

-- the object with this serial holds g
abbrev pub HoldsIn : List Object → ℕ → ℕ → Type 0
HoldsIn objects s g = (x : Object) → Includes objects x → x.serial ≡ s → Includes (references x.entries) g

-- the callback of a frame is held by the activity below or by the weak reference that waits there
pub record IsCalled (objects : List Object) (weak g : ℕ) (below : List Activity) : Type 0 where
  pub functions : AreFunctions objects g
  pub held : Includes (flat_map holds below) g ⊎ Includes (all_waits below) weak × HoldsIn objects weak g

abbrev pub KnowsFunction : List Object → FrameSort → ℕ → Option ℕ → List Activity → Type 0
KnowsFunction objects Callback o function below = (g : ℕ) × (function ≡ Some g) × IsCalled objects o g below
KnowsFunction objects Call o function below = (function ≡ Some o) × AreFunctions objects o
KnowsFunction objects sort o function below = function ≡ None

-- waiting weak references are newer than those that still refer to the object
abbrev pub AreNewer : List Object → ℕ → List ℕ → Type 0
AreNewer objects o waiting = (v q : ℕ) → Includes waiting v → Includes (weak_references objects o) q → q < v

-- the order in which weak references to a dying object are cleared
abbrev pub ClearsInOrder : List Object → ℕ → DyingPhase → Type 0
ClearsInOrder objects o (Clearing waiting) = AreNewer objects o waiting
ClearsInOrder objects o phase = Unit {0}

-- what is known of an activity, and of a stack
abbrev pub IsKnown : List Object → Activity → List Activity → Type 0
IsKnown objects (Framed f) below = KnowsFunction objects f.sort f.subject f.function below
IsKnown objects (Dying d) below = ClearsInOrder objects d.object d.phase
IsKnown objects activity below = Unit {0}

abbrev pub AreKnown : List Object → List Activity → Type 0
AreKnown objects [] = Unit {0}
AreKnown objects (a ∷ below) = IsKnown objects a below × AreKnown objects below

abbrev pub IsAllKnown : World → Type 0
IsAllKnown w = AreKnown w.objects w.stack

-- The function of a frame is a function, and lives.
module _ (w : World) (h : HasOrder w) where
  entry_lives : (weak g : ℕ) → Includes (serials w.objects) weak → HoldsIn w.objects weak g → Includes (serials w.objects) g
  entry_lives weak g lives entries =
      let x = Includes-map_cases (λ (z : Object). z.serial) w.objects weak lives in
      h.entries_live x.0 x.1 g (entries x.0 x.1 x.2)

  pub function_lives : (sort : FrameSort) (o : ℕ) (function : Option ℕ) (below : List Activity)
      → ((s : ℕ) → Includes (call_holds sort function ++ flat_map holds below) s → Includes (flat_map holds w.stack) s)
      → KnowsFunction w.objects sort o function below → (g : ℕ) → function ≡ Some g → AreFunctions w.objects g × Includes (serials w.objects) g
  function_lives Callback o function below held k g e =
      let same : Some k.0 ≡ Some g = sym k.1 ∙ e in
      let is : k.0 ≡ g = cc in (
        subst (AreFunctions w.objects) is k.2.functions,
        subst (Includes (serials w.objects)) is (either k.2.held (λ m. h.stack_lives k.0 (held k.0 m)) (λ m. entry_lives o k.0 (h.stack_lives o (held o (waits_held below o m.0))) m.1)),
      )
  function_lives Call o function below held k g e =
      let same : Some o ≡ Some g = sym k.0 ∙ e in
      let is : o ≡ g = cc in (
        subst (AreFunctions w.objects) is k.1,
        h.stack_lives g (held g (subst (λ m. Includes (option_to_list m ++ flat_map holds below) g) (sym e) (inl refl))),
      )
  function_lives sort o function below held k g e = absurd (let no : None ≡ Some g = sym k ∙ e in cc)

-- nothing lies on a death that is clearing weak references
pub rests_in_order : (script : Script) (w : World) (objects : List Object) (o : ℕ) (phase : DyingPhase) → Rests script w o phase → ClearsInOrder objects o phase
rests_in_order script w objects o (Clearing waiting) h = absurd h
rests_in_order script w objects o phase h = tt

-- A step keeps this of the activities below it.
module _ (script : Script) (w : World) (a : Activity) (below : List Activity) (after : World) (top : w.stack ≡ a ∷ below)
    (rises : Rises 1 w.next_serial w.objects) (h : HasOrder w) (l : LeavesIt w below after) (b : LeavesBelow w a below after) where
  functions_kept : (g : ℕ) → Includes (serials w.objects) g → AreFunctions w.objects g → AreFunctions after.objects g
  functions_kept g lives all y m e = either (l.from y m)
      (λ k. let code : y.code ≡ k.was.code = k.later.code in let same : is_function y ≡ is_function k.was = cc in same ∙ all k.was k.member (sym k.later.serial ∙ e))
      (λ new. absurd (let within = lives_within 1 w.next_serial w.objects g rises lives in let is : y.serial ≡ w.next_serial = new.0 in omega (arith, within.1, is, e)))

  entries_kept : (weak g : ℕ) → Includes (all_waits below) weak → HoldsIn w.objects weak g → HoldsIn after.objects weak g
  entries_kept weak g waits entries y m e = let x = b.waiting weak waits y m e in subst (λ es. Includes (references es) g) (sym x.3) (entries x.0 x.1 (x.2 ∙ e))

  frame_kept : (sort : FrameSort) (o : ℕ) (function : Option ℕ) (under : List Activity) → ((s : ℕ) → Includes (call_holds sort function ++ flat_map holds under)
      s → Includes (flat_map holds w.stack) s) → ((s : ℕ) → Includes (all_waits under) s → Includes (all_waits below) s)
      → KnowsFunction w.objects sort o function under → KnowsFunction after.objects sort o function under
  frame_kept Callback o function under held waits k = (
    k.0,
    k.1,
    record {
      functions = functions_kept k.0 (function_lives w h Callback o function under held k k.0 k.1).1 k.2.functions;
      held = either k.2.held (λ m. inl m) (λ m. inr (m.0, entries_kept o k.0 (waits o m.0) m.1));
    },
  )
  frame_kept Call o function under held waits k = (k.0, functions_kept o (function_lives w h Call o function under held k o k.0).1 k.1)
  frame_kept sort o function under held waits k = k

  one_kept : (c : Activity) (under : List Activity) → ((s : ℕ) → Includes (flat_map holds (c ∷ under)) s → Includes (flat_map holds w.stack) s)
      → ((s : ℕ) → Includes (all_waits under) s → Includes (all_waits below) s)
      → ((d : Death) → c ≡ Dying d → Rests script w d.object d.phase) → IsKnown w.objects c under → IsKnown after.objects c under
  one_kept (Framed f) under held waits resting k = frame_kept f.sort f.subject f.function under held waits k
  one_kept (Dying d) under held waits resting k = rests_in_order script w after.objects d.object d.phase (resting d refl)
  one_kept a under held waits resting k = tt

  all_kept : (under : List Activity) → ((s : ℕ) → Includes (flat_map holds under) s → Includes (flat_map holds w.stack) s) → ((s : ℕ) → Includes (all_waits under) s → Includes (all_waits below) s)
      → AreResting script w under → AreKnown w.objects under → AreKnown after.objects under
  all_kept [] held waits resting k = tt
  all_kept (c ∷ under) held waits resting k =
      let fewer = λ (s : ℕ) (m : Includes (all_waits under) s). waits s (Includes-append_right (waits_of c) (all_waits under) s m) in (
        one_kept c under held fewer (λ d e. resting d (inl e)) k.0,
        all_kept under (λ s m. held s (Includes-append_right (holds c) (flat_map holds under) s m)) fewer (λ d m. resting d (inr m)) k.1,
      )

  in_stack : (s : ℕ) → Includes (flat_map holds (a ∷ below)) s → Includes (flat_map holds w.stack) s
  in_stack s m = subst (λ st. Includes (flat_map holds st) s) (sym top) m

  pub below_kept : AreResting script w below → AreKnown w.objects below → AreKnown after.objects below
  below_kept resting k = all_kept below (λ s m. in_stack s (Includes-append_right (holds a) (flat_map holds below) s m)) (λ s m. m) resting k

  pub top_kept : ((d : Death) → a ≢ Dying d) → IsKnown w.objects a below → IsKnown after.objects a below
  top_kept none k = one_kept a below in_stack (λ s m. m) (λ d e. absurd (none d e)) k
