-- What a step other than a command's does to names, objects and the stack.
use Rattle.std.proofs.Common.{◌≡◌, refl, sym, ap, subst, ℕ, Bool, true, inl, inr, ◌⊎◌, List, [], ◌∷◌, ◌++◌, map, Some, None}
use Rattle.std.specs.Prelude.{◌==◌, if◌then◌else◌, flat_map, unwrap_or}
use Rattle.cg_value.specs.declared.Place.{Place}
use Rattle.cg_value.specs.declared.Place.TheVariants.{Gen}
use Rattle.cg_script.specs.declared.Script.{Script}
use Rattle.cg_graph.specs.Member.{Includes}
use Rattle.cg_graph.specs.Value.{references}
use Rattle.cg_graph.specs.Object.{Object, change, with_place, with_referent}
use Rattle.cg_graph.proofs.Members.{either}
use Rattle.cg_machine.specs.declared.event.Event.{Event}
use Rattle.cg_machine.specs.declared.event.Event.TheVariants.{BudgetSpent, Enter}
use Rattle.cg_machine.specs.declared.event.FrameSort.{FrameSort}
use Rattle.cg_machine.specs.declared.event.FrameSort.TheVariants.{Del, Legacy, Callback, Call}
use Rattle.cg_machine.specs.declared.event.FrameSpec.{FrameSpec}
use Rattle.cg_machine.specs.Program.{body_of, finalizer_of, legacy_of}
use Rattle.cg_machine.specs.World.{World, Activity, Framed, Releasing, Dying, Death, Collecting, Frame, Clearing, CollectPhase, WeakClearing, WeakCalling, AfterCallback, AfterRelease, BudgetIsSpent}
use Rattle.cg_machine.specs.Frame.{Transition, procedure_of, start_frame}
use Rattle.cg_machine.specs.Weak.{callback_of, loses_referent}
use Rattle.cg_machine.specs.Collect.{IsMemberOf, Survives, is_condemned, merged}
use Rattle.cg_represents.specs.Orderly.{death_waits}
use Rattle.cg_laws.proofs.Unreferred.{IsLater, later_refl, later_trans, place_later}
use Rattle.cg_laws.specs.Apart.{IsFound}
use Rattle.cg_laws.proofs.Pointwise.{IsOrder, Came, came, came_if}
use Rattle.cg_laws.proofs.Starting.{starts_either}

-- the weak references whose callbacks are still to run
abbrev pub to_call_in : CollectPhase → List ℕ
to_call_in (WeakClearing waiting) = waiting
to_call_in (WeakCalling waiting) = waiting
to_call_in (AfterCallback weak waiting) = waiting
to_call_in (AfterRelease weak waiting) = waiting
to_call_in phase = []

abbrev pub to_call : Activity → List ℕ
to_call (Dying d) = death_waits d.phase
to_call (Collecting c) = to_call_in c.phase
to_call a = []

abbrev pub all_to_call : List Activity → List ℕ
all_to_call stack = flat_map to_call stack

-- an object dies and its weak references are cleared, or it is condemned
abbrev pub IsLost : World → ℕ → Type 0
IsLost w referent = ((d : Death) × (waiting : List ℕ) × Includes w.stack (Dying d) × (d.object ≡ referent) × (d.phase ≡ Clearing waiting))
    ⊎ ((z : Object) × Includes w.objects z × (z.serial ≡ referent) × (is_condemned z ≡ true))

pub record Loses (w : World) (weak : ℕ) : Type 0 where
  pub object : Object
  pub member : Includes w.objects object
  pub same : object.serial ≡ weak
  pub referent : ℕ
  pub refers : object.referent ≡ Some referent
  pub lost : IsLost w referent

-- one whose callback is still to run after a step
abbrev pub Waited : World → ℕ → Type 0
Waited w weak = Includes (all_to_call w.stack) weak ⊎ Loses w weak

-- the procedure of a frame that no command started
abbrev pub BegunBy : Script → World → FrameSort → ℕ → ℕ → Type 0
BegunBy script w Del o p = (x : Object) × Includes w.objects x × (x.serial ≡ o) × (finalizer_of script x ≡ Some p)
BegunBy script w Legacy o p = (x : Object) × Includes w.objects x × (x.serial ≡ o) × (legacy_of script x ≡ Some p)
BegunBy script w Callback o p = Includes (all_to_call w.stack) o × (p ≡ procedure_of w (unwrap_or (callback_of w.objects o) 0))
BegunBy script w Call o p = ⊥

pub record IsBegun (script : Script) (w : World) (f : Frame) : Type 0 where
  pub proc : ℕ
  pub commands : f.commands ≡ body_of script proc
  pub by : BegunBy script w f.sort f.subject proc

-- what such a step may leave on the stack
abbrev pub IsRaised : Script → World → Activity → Type 0
IsRaised script w (Framed f) = IsBegun script w f
IsRaised script w (Releasing references) = Unit {0}
IsRaised script w (Dying d) = (weak : ℕ) → Includes (death_waits d.phase) weak → Waited w weak
IsRaised script w (Collecting c) = (weak : ℕ) → Includes (to_call_in c.phase) weak → Waited w weak
IsRaised script w a = ⊥

-- an object is condemned or uncollectable
abbrev pub IsAside : World → ℕ → Type 0
IsAside w n = (z : Object) × Includes w.objects z × (z.serial ≡ n) × IsFound z.place

-- a starting collection finds it unreachable
abbrev pub IsCollected : World → ℕ → Type 0
IsCollected w n = (g : ℕ) × IsMemberOf (merged g w) (Gen g) n × ¬ Survives (merged g w) (Gen g) n

-- the same object later: it keeps its references, or refers to partitioned objects; it stays partitioned, or is collected
pub record Ages (w : World) (x y : Object) : Type 0 where
  pub later : IsLater x y
  pub refers : (n : ℕ) → Includes (references y.entries) n → Includes (references x.entries) n ⊎ IsAside w n
  pub place : IsFound y.place → IsFound x.place ⊎ IsCollected w x.serial

abbrev pub Grows : World → List Object → List Object → Type 0
Grows w before after = Came (Ages w) before after

-- a callback begins, the next one of the top activity
pub record Called (w : World) (below tops : List Activity) (events : List Event) (n : ℕ) : Type 0 where
  pub rest : List ℕ
  pub first : all_to_call w.stack ≡ n ∷ (rest ++ all_to_call below)
  pub others : (a : Activity) → Includes tops a → (m : ℕ) → Includes (to_call a) m → Includes rest m
  pub alone : events ≡ Enter Callback n ∷ []

pub record Acts (script : Script) (w : World) (below : List Activity) (events : List Event) (after : World) : Type 0 where
  pub names : after.names ≡ w.names
  pub serial : after.next_serial ≡ w.next_serial
  pub grows : Grows w w.objects after.objects
  pub tops : List Activity
  pub stack : after.stack ≡ tops ++ below
  pub raised : (a : Activity) → Includes tops a → IsRaised script w a
  pub callbacks : (n : ℕ) → Includes events (Enter Callback n) → Called w below tops events n

pub same_ages : (w : World) (x : Object) → Ages w x x
same_ages w x = record { later = later_refl x; refers = λ n m. inl m; place = λ f. inl f }

pub ages_trans : (w : World) (x y z : Object) → Ages w x y → Ages w y z → Ages w x z
ages_trans w x y z h k = record {
  later = later_trans x y z h.later k.later;
  refers = λ n m. either (k.refers n m) (h.refers n) (λ a. inr a);
  place = λ f. either (k.place f) h.place (λ c. inr (subst (IsCollected w) h.later.serial c));
}

pub ages : (w : World) → IsOrder (Ages w)
ages w = record { same = same_ages w; trans = ages_trans w }

pub grows_same : (w : World) (objects : List Object) → Grows w objects objects
grows_same w = (came (Ages w) (ages w)).same

pub grows_trans : (w : World) (before now after : List Object) → Grows w before now → Grows w now after → Grows w before after
grows_trans w = (came (Ages w) (ages w)).trans

pub grows_if : (w : World) (f : Object → Object) (test : Object → Bool) (objects : List Object) → ((x : Object) → Includes objects x → test x ≡ true
    → Ages w x (f x)) → Grows w objects (map (λ x. if test x then f x else x) objects)
grows_if w = came_if (Ages w) (same_ages w)

-- in another place
pub placed_ages : (w : World) (p : Place) (x : Object) → (IsFound p → IsFound x.place ⊎ IsCollected w x.serial) → Ages w x (with_place p x)
placed_ages w p x place = record { later = place_later p x; refers = λ n i. inl i; place = place }

-- a place of unpartitioned objects
pub grows_at : (w : World) (p : Place) (test : Object → Bool) (objects : List Object) → ¬ IsFound p → Grows w objects (map (λ x. if test x then with_place p x else x) objects)
grows_at w p test objects apart = grows_if w (with_place p) test objects (λ x m t. placed_ages w p x (λ f. absurd (apart f)))

pub grows_place : (w : World) (p : Place) (s : ℕ) (objects : List Object) → ¬ IsFound p → Grows w objects (change (with_place p) s objects)
grows_place w p s = grows_at w p (λ x. x.serial == s)

pub lost_ages : (w : World) (x : Object) → Ages w x (with_referent None x)
lost_ages w x = record { later = record { serial = refl; code = refl; class = refl; referent = inr refl }; refers = λ n i. inl i; place = λ f. inl f }

pub grows_lost : (w : World) (s : ℕ) (objects : List Object) → Grows w objects (loses_referent s objects)
grows_lost w s objects = grows_if w (with_referent None) (λ x. x.serial == s) objects (λ x m t. lost_ages w x)

pub yields_acts : {script : Script} {w : World} {below : List Activity} {told events : List Event} {next after : World} → (events ≡ told) × (after ≡ next)
    → Acts script w below told next → Acts script w below events after
yields_acts {script} {w} {below} {told} {events} {next} {after} step h = subst (λ es. Acts script w below es after) (sym step.0) (subst (Acts script w below told) (sym step.1) h)

module _ (script : Script) (w : World) (below : List Activity) where
  -- a step that starts no callback
  pub acts : (events : List Event) (after : World) → after.names ≡ w.names → after.next_serial ≡ w.next_serial → Grows w w.objects after.objects → (tops : List Activity) → after.stack ≡ tops ++ below
      → ((a : Activity) → Includes tops a → IsRaised script w a) → ((n : ℕ) → ¬ Includes events (Enter Callback n)) → Acts script w below events after
  acts events after names serial grows tops stack raised none = record {
    names = names;
    serial = serial;
    grows = grows;
    tops = tops;
    stack = stack;
    raised = raised;
    callbacks = λ n m. absurd (none n m);
  }

  pub one_raised : (t : Activity) → IsRaised script w t → (a : Activity) → Includes (t ∷ []) a → IsRaised script w a
  one_raised t h a (inl e) = subst (IsRaised script w) e h
  one_raised t h a (inr none) = absurd none

  pub two_raised : (s t : Activity) → IsRaised script w s → IsRaised script w t → (a : Activity) → Includes (s ∷ t ∷ []) a → IsRaised script w a
  two_raised s t h k a (inl e) = subst (IsRaised script w) e h
  two_raised s t h k a (inr m) = one_raised t k a m

  pub starts_acts : (spec : FrameSpec) (u : World) (t : Activity) → u.names ≡ w.names → u.next_serial ≡ w.next_serial → Grows w w.objects u.objects → u.stack
      ≡ t ∷ below → IsRaised script w t → BegunBy script w spec.sort spec.subject spec.proc
      → (spec.sort ≡ Callback → (rest : List ℕ) × (all_to_call w.stack ≡ spec.subject ∷ (rest ++ all_to_call below)) × ((m : ℕ) → Includes (to_call t) m
      → Includes rest m)) → (let s : Transition = start_frame script spec u in Acts script w below s.0 s.1)
  starts_acts spec u t names serial grows stack raised by called = starts_either (Acts script w below) script spec u
      (acts (BudgetSpent ∷ []) (record u { outcome = BudgetIsSpent }) names serial grows (t ∷ []) stack (one_raised t raised) (λ n m. either m (λ e. cc) (λ no. no)))
      (λ some. record {
        names = names;
        serial = serial;
        grows = grows;
        tops = frame ∷ t ∷ [];
        stack = ap (λ (st : List Activity). frame ∷ st) stack;
        raised = two_raised frame t (record { proc = spec.proc; commands = refl; by = by }) raised;
        callbacks = begins;
      })
    where
      frame : Activity
      frame = Framed (record { sort = spec.sort; subject = spec.subject; function = spec.func; commands = body_of script spec.proc })

      begins : (n : ℕ) → Includes (Enter spec.sort spec.subject ∷ []) (Enter Callback n) → Called w below (frame ∷ t ∷ []) (Enter spec.sort spec.subject ∷ []) n
      begins n (inr none) = absurd none
      begins n (inl e) =
          let sort : spec.sort ≡ Callback = cc in
          let same : spec.subject ≡ n = cc in
          let k = called sort in
          record {
            rest = k.0;
            first = subst (λ i. all_to_call w.stack ≡ i ∷ (k.0 ++ all_to_call below)) same k.1;
            others = λ a m i r. either m (λ is. absurd (subst (λ (b : Activity). Includes (to_call b) i) (sym is) r))
                (λ is. either is (λ q. k.2 i (subst (λ (b : Activity). Includes (to_call b) i) (sym q) r)) (λ no. absurd no));
            alone = ap (λ (x : Event). x ∷ []) e;
          }
