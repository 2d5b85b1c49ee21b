-- What a step does to objects and what it prints of them. Each object was there before, and its mark stays, or it has the
-- next serial. A step prints one line that begins a frame or frees an object, or lines that name living objects.
use Rattle.std.proofs.Common.{◌≡◌, refl, ◌∙◌, subst, ℕ, ◌≤◌, Bool, true, false, inl, inr, ◌⊎◌, List, [], ◌∷◌, map}
use Rattle.std.specs.Prelude.{◌==◌, if◌then◌else◌}
use Rattle.cg_value.specs.declared.Place.{Place}
use Rattle.cg_script.specs.declared.Script.{Script}
use Rattle.cg_graph.specs.Member.{Includes}
use Rattle.cg_graph.specs.Object.{Object, change, serials, with_place, without}
use Rattle.cg_machine.specs.declared.event.Event.{Event}
use Rattle.cg_machine.specs.declared.event.Event.TheVariants.{Enter, Free, BudgetSpent}
use Rattle.cg_machine.specs.declared.event.FrameSort.{FrameSort}
use Rattle.cg_machine.specs.declared.event.FrameSort.TheVariants.{Del}
use Rattle.cg_machine.specs.declared.event.FrameSpec.{FrameSpec}
use Rattle.cg_machine.specs.World.{World, BudgetIsSpent}
use Rattle.cg_machine.specs.Frame.{Transition, start_frame}
use Rattle.cg_laws.specs.Laws.{named}
use Rattle.cg_laws.proofs.Pointwise.{IsOrder, Came, Lasts, came, came_if, came_lives, came_map, came_without, lasts_if, lasts_lives, lasts_map}
use Rattle.cg_laws.proofs.Starting.{starts_either}

-- the same object later: a finalizer that has run stays so
pub record Marks (x y : Object) : Type 0 where
  pub serial : y.serial ≡ x.serial
  pub code : y.code ≡ x.code
  pub class : y.class ≡ x.class
  pub finalized : x.finalized ≡ true → y.finalized ≡ true

abbrev pub Origin : List Object → List Object → Type 0
Origin before after = Came Marks before after

-- and none is removed
pub record Old (before after : List Object) : Type 0 where
  pub origin : Origin before after
  pub lasts : (n : ℕ) → Includes (serials before) n → Includes (serials after) n

-- each was there, or has the next serial
abbrev pub Follows : List Object → ℕ → List Object → Type 0
Follows before next after = (y : Object) → Includes after y → ((x : Object) × Includes before x × Marks x y) ⊎ (y.serial ≡ next)

-- the serial of a living object, or the next one
abbrev pub IsThere : List Object → ℕ → ℕ → Type 0
IsThere objects next n = Includes (serials objects) n ⊎ (n ≡ next)

-- a line that begins no frame and frees nothing
abbrev pub IsPlain : Event → Type 0
IsPlain (Enter sort n) = ⊥
IsPlain (Free n) = ⊥
IsPlain event = Unit {0}

-- such a line, which names living objects
abbrev pub IsTold : List Object → ℕ → Event → Type 0
IsTold objects next event = IsPlain event × ((n : ℕ) → Includes (named event) n → IsThere objects next n)

-- the finalizer of an object begins: it had not run before, and has now
pub record Begins (before after : List Object) (n : ℕ) : Type 0 where
  pub object : Object
  pub member : Includes before object
  pub serial : object.serial ≡ n
  pub unmarked : object.finalized ≡ false
  pub marked : (y : Object) → Includes after y → y.serial ≡ n → y.finalized ≡ true

-- a frame of a living object begins
abbrev pub Enters : FrameSort → List Object → List Object → ℕ → Type 0
Enters Del before after n = Begins before after n
Enters sort before after n = Includes (serials before) n

-- a line that begins a frame or frees an object
abbrev pub Says : List Object → List Object → Event → Type 0
Says before after (Enter sort n) = Enters sort before after n
Says before after (Free n) = Includes (serials before) n × ¬ Includes (serials after) n
Says before after event = ⊥

abbrev pub AreTold : List Object → ℕ → List Object → List Event → Type 0
AreTold before next after events = ((event : Event) → Includes events event → IsTold before next event) ⊎ ((event : Event) × (events ≡ event ∷ []) × Says before after event)

pub record KeepsFinalizers (before : List Object) (next : ℕ) (events : List Event) (after : World) : Type 0 where
  pub follows : Follows before next after.objects
  pub serial : next ≤ after.next_serial
  pub told : AreTold before next after.objects events
  pub lasts : (n : ℕ) → Includes (serials before) n → Includes (serials after.objects) n ⊎ Includes events (Free n)

pub marks_order : IsOrder Marks
marks_order = record {
  same = λ x. record { serial = refl; code = refl; class = refl; finalized = λ e. e };
  trans = λ x y z h k. record { serial = k.serial ∙ h.serial; code = k.code ∙ h.code; class = k.class ∙ h.class; finalized = λ e. k.finalized (h.finalized e) };
}

-- one that is there still has its serial
still : (before after : List Object) → Lasts Marks before after → (n : ℕ) → Includes (serials before) n → Includes (serials after) n
still = lasts_lives Marks (λ x y k. k.serial)

pub same_old : (objects : List Object) → Old objects objects
same_old objects = record { origin = (came Marks marks_order).same objects; lasts = λ n m. m }

pub old_trans : (before now after : List Object) → Old before now → Old now after → Old before after
old_trans before now after h k = record { origin = (came Marks marks_order).trans before now after h.origin k.origin; lasts = λ n m. k.lasts n (h.lasts n m) }

pub map_old : (f : Object → Object) → ((x : Object) → Marks x (f x)) → (objects : List Object) → Old objects (map f objects)
map_old f h objects = record { origin = came_map Marks marks_order.same f objects (λ x m. h x); lasts = still objects (map f objects) (lasts_map Marks marks_order.same f objects (λ x m. h x)) }

pub if_old : (f : Object → Object) → ((x : Object) → Marks x (f x)) → (test : Object → Bool) (objects : List Object) → Old objects (map (λ x. if test x then f x else x) objects)
if_old f h test objects = record { origin = came_if Marks marks_order.same f test objects (λ x m t. h x); lasts = still objects _ (lasts_if Marks marks_order.same f test objects (λ x m t. h x)) }

pub change_old : (f : Object → Object) → ((x : Object) → Marks x (f x)) → (s : ℕ) (objects : List Object) → Old objects (change f s objects)
change_old f h s objects = if_old f h (λ x. x.serial == s) objects

pub place_marks : (p : Place) (x : Object) → Marks x (with_place p x)
place_marks p x = record { serial = refl; code = refl; class = refl; finalized = λ e. e }

pub without_old : (o : ℕ) (objects : List Object) → Origin objects (without o objects)
without_old = came_without Marks marks_order.same

pub origin_lives : (before after : List Object) → Origin before after → (n : ℕ) → Includes (serials after) n → Includes (serials before) n
origin_lives = came_lives Marks (λ x y k. k.serial)

pub old_lives : (before after : List Object) → Old before after → (n : ℕ) → Includes (serials after) n → Includes (serials before) n
old_lives before after old n m = origin_lives before after old.origin n m

-- steps without a line, with lines, and that start a frame
module _ (objects : List Object) (next : ℕ) where
  pub quiet : (after : World) → Old objects after.objects → next ≤ after.next_serial → KeepsFinalizers objects next [] after
  quiet after old serial = record { follows = λ y m. inl (old.origin y m); serial = serial; told = inl (λ event m. absurd m); lasts = λ n m. inl (old.lasts n m) }

  pub one_told : (event : Event) → IsTold objects next event → (e : Event) → Includes (event ∷ []) e → IsTold objects next e
  one_told event h e (inl i) = subst (IsTold objects next) i h
  one_told event h e (inr n) = absurd n

  pub tells : (events : List Event) (after : World) → ((event : Event) → Includes events event → IsTold objects next event) → Old objects after.objects
      → next ≤ after.next_serial → KeepsFinalizers objects next events after
  tells events after told old serial = record { follows = λ y m. inl (old.origin y m); serial = serial; told = inl told; lasts = λ n m. inl (old.lasts n m) }

  pub starts_told : (script : Script) (spec : FrameSpec) (u : World) → Old objects u.objects → next ≤ u.next_serial → Enters spec.sort objects u.objects
      spec.subject → (let s : Transition = start_frame script spec u in KeepsFinalizers objects next s.0 s.1)
  starts_told script spec u old serial enters = starts_either (KeepsFinalizers objects next) script spec u (tells (BudgetSpent ∷ []) (record u { outcome = BudgetIsSpent })
      (one_told BudgetSpent (tt, λ n m. absurd m)) old serial)
      (λ some. record { follows = λ y m. inl (old.origin y m); serial = serial; told = inr (Enter spec.sort spec.subject, refl, enters); lasts = λ n m. inl (old.lasts n m) })
