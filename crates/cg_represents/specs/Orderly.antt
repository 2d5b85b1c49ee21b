-- What it is for a world to be in order, and when a dying object is held. The engine's calls ask this of the world that a heap
-- stands for. That each world of a run is so is a law, in `cg_laws`. (Ours, after PEP 442.)
use Rattle.std.specs.Prelude.{◌≡◌, ◌≢◌, ℕ, ◌≤◌, Bool, true, false, List, [], ◌∷◌, Some, None, flat_map}
use Rattle.cg_value.specs.declared.KindCode.TheVariants.{Weak}
use Rattle.cg_value.specs.declared.Place.TheVariants.{Untracked}
use Rattle.cg_graph.specs.Member.{Includes}
use Rattle.cg_graph.specs.Value.{references}
use Rattle.cg_graph.specs.Object.{Object, serials}
use Rattle.cg_graph.specs.Holdings.{occurrences}
use Rattle.cg_machine.specs.declared.event.FrameSort.TheVariants.{Call}
use Rattle.cg_machine.specs.World.{World, Activity, TopLevel, Framed, Releasing, Dying, Collecting, ShuttingDown, Frame, Death, DyingPhase, AfterFinalizer, Clearing, Calling, AfterCall, LegacyFinalizer, AfterLegacy, Emptying, CollectPhase, WeakClearing, WeakCalling, AfterCallback, AfterRelease}
use Rattle.cg_machine.specs.Holdings.{holdings}
use Rattle.cg_machine.specs.Weak.{callback_in, has_weak_references, is_function}
use Rattle.cg_machine.specs.Collect.{is_condemned}

-- A dying object is held, at least by its death, while a frame of its own runs, and at no other time.
abbrev pub IsHeldInItsFramesAlone : ℕ → DyingPhase → List ℕ → Type 0
IsHeldInItsFramesAlone o AfterFinalizer held = occurrences o held ≢ 0
IsHeldInItsFramesAlone o AfterLegacy held = occurrences o held ≢ 0
IsHeldInItsFramesAlone o phase held = occurrences o held ≡ 0

-- the weak references that a death waits with
abbrev pub death_waits : DyingPhase → List ℕ
death_waits (Clearing waiting) = waiting
death_waits (Calling waiting) = waiting
death_waits (AfterCall weak callback waiting) = waiting
death_waits phase = []

-- the weak references that an activity waits with: their callbacks are to come, or that of the first one runs
abbrev pub collection_waits : CollectPhase → List ℕ
collection_waits (WeakClearing waiting) = waiting
collection_waits (WeakCalling waiting) = waiting
collection_waits (AfterCallback weak waiting) = weak ∷ waiting
collection_waits (AfterRelease weak waiting) = waiting
collection_waits phase = []

-- those of any activity
abbrev pub waits_of : Activity → List ℕ
waits_of (TopLevel commands) = []
waits_of (Framed f) = []
waits_of (Releasing references) = []
waits_of (Dying d) = death_waits d.phase
waits_of (Collecting c) = collection_waits c.phase
waits_of (ShuttingDown started) = []

-- all of a stack
abbrev pub all_waits : List Activity → List ℕ
all_waits stack = flat_map waits_of stack

-- a weak reference that waits for its callback has one, and has lost its referent
pub record IsWaiting (x : Object) : Type 0 where
  pub code : x.code ≡ Weak
  pub referent : x.referent ≡ None
  pub callback : callback_in x.entries ≢ None

-- a function is there
abbrev pub HasFunction : List Object → ℕ → Type 0
HasFunction objects f = (z : Object) × Includes objects z × (z.serial ≡ f) × (is_function z ≡ true)

-- the finalizer or the legacy finalizer of the dying object runs, or has ended just now
abbrev pub runs_own_frame : DyingPhase → Bool
runs_own_frame AfterFinalizer = true
runs_own_frame AfterLegacy = true
runs_own_frame phase = false

-- all weak references have lost the dying object, and no frame of its own has run since
abbrev pub is_cleared : DyingPhase → Bool
is_cleared (Calling waiting) = true
is_cleared (AfterCall weak callback waiting) = true
is_cleared LegacyFinalizer = true
is_cleared Emptying = true
is_cleared phase = false

-- what is known of a dying object: it lives, it refers to nothing, it is untracked, and nothing refers to it once it is cleared
pub record IsDeathIn (objects : List Object) (d : Death) : Type 0 where
  pub lives : Includes (serials objects) d.object
  pub refers_to_none : (x : Object) → Includes objects x → x.serial ≡ d.object → x.referent ≡ None
  pub untracked : runs_own_frame d.phase ≡ false → (x : Object) → Includes objects x → x.serial ≡ d.object → x.place ≡ Untracked
  pub unreferred : is_cleared d.phase ≡ true → (x : Object) → Includes objects x → x.referent ≢ Some d.object

-- no object dies twice at once
abbrev pub AreDeathsOfOthers : List Activity → Type 0
AreDeathsOfOthers [] = Unit {0}
AreDeathsOfOthers (a ∷ below) = ((d : Death) → a ≡ Dying d → (e : Death) → Includes below (Dying e) → e.object ≢ d.object) × AreDeathsOfOthers below

-- What is held lives, `self` and `ref` of a frame too; a referent is an instance or a function, and the entries of a weak
-- reference hold functions; what waits for its callback has one, waits once, and is not condemned.
pub record IsOrderly (w : World) : Type 0 where
  pub held_live : (o : ℕ) → Includes (holdings w) o → Includes (serials w.objects) o
  pub referents : (x : Object) → Includes w.objects x → (r : ℕ) → x.referent ≡ Some r → (x.code ≡ Weak) × ((z : Object) × Includes w.objects z × (z.serial ≡ r) × (has_weak_references z ≡ true))
  pub callbacks : (x : Object) → Includes w.objects x → x.code ≡ Weak → (f : ℕ) → Includes (references x.entries) f → HasFunction w.objects f
  pub locals : (f : Frame) → Includes w.stack (Framed f) → f.sort ≢ Call → Includes (serials w.objects) f.subject
  pub deaths : (d : Death) → Includes w.stack (Dying d) → IsDeathIn w.objects d
  pub others : AreDeathsOfOthers w.stack
  pub waiting : (weak : ℕ) → Includes (all_waits w.stack) weak → (x : Object) → Includes w.objects x → x.serial ≡ weak → IsWaiting x
  pub once : (weak : ℕ) → occurrences weak (all_waits w.stack) ≤ 1
  pub condemned : (x : Object) → Includes w.objects x → is_condemned x ≡ true → ¬ Includes (all_waits w.stack) x.serial
