-- What a step does to weak references: one loses its referent with a line, or when it begins to die, and never gets it back.
use Rattle.std.proofs.Common.{◌≡◌, refl, sym, subst, ℕ, ◌-◌, Bool, true, false, inl, inr, ◌⊎◌, List, [], ◌∷◌, ◌++◌, map, None}
use Rattle.std.specs.Prelude.{◌==◌, if◌then◌else◌}
use Rattle.cg_value.specs.declared.Entry.{Entry}
use Rattle.cg_script.specs.declared.Script.{Script}
use Rattle.cg_graph.specs.Member.{Includes}
use Rattle.cg_graph.specs.Object.{Object, change, with_entries}
use Rattle.cg_graph.proofs.Members.{either, Includes-append_left}
use Rattle.cg_machine.specs.declared.event.Event.{Event}
use Rattle.cg_machine.specs.declared.event.Event.TheVariants.{Enter, Cleared, Free, BudgetSpent}
use Rattle.cg_machine.specs.declared.event.FrameSpec.{FrameSpec}
use Rattle.cg_machine.specs.World.{World, Activity, Dying, Death, DyingPhase, Finalizer, AfterFinalizer, AfterLegacy, BudgetIsSpent}
use Rattle.cg_machine.specs.Frame.{Transition, start_frame}
use Rattle.cg_laws.proofs.Advances.{Advance, Plainly, WithFrame, AreLinesOf, Shows, Frees, HasChanged, LosesBy, changed_becomes}
use Rattle.cg_laws.proofs.Pointwise.{Came, came_if, came_map}
use Rattle.cg_laws.proofs.LinesNameLive.{HasNoReferent}
use Rattle.cg_laws.proofs.Starting.{begun_frame, starts_either}

-- no frame of the dying object itself runs
abbrev pub is_frameless : DyingPhase → Bool
is_frameless AfterFinalizer = false
is_frameless AfterLegacy = false
is_frameless phase = true

-- an object is dying in this way
pub record IsFading (stack : List Activity) (n : ℕ) : Type 0 where
  pub death : Death
  pub member : Includes stack (Dying death)
  pub object : death.object ≡ n
  pub frameless : is_frameless death.phase ≡ true

-- the same object later: it has its referent, or has lost it for a reason
pub record Wanes (lost : ℕ → Type 0) (x y : Object) : Type 0 where
  pub serial : y.serial ≡ x.serial
  pub code : y.code ≡ x.code
  pub referent : (y.referent ≡ x.referent) ⊎ (y.referent ≡ None) × lost y.serial

abbrev pub Waned : (ℕ → Type 0) → List Object → List Object → Type 0
Waned lost before after = Came (Wanes lost) before after

-- for no reason
abbrev pub Never : ℕ → Type 0
Never n = ⊥

-- no line clears a weak reference
abbrev pub ClearNone : List Event → Type 0
ClearNone events = (n : ℕ) → ¬ Includes events (Cleared n)

abbrev pub IsOther : Event → Type 0
IsOther (Cleared n) = ⊥
IsOther event = Unit {0}

-- why a step may take a referent
abbrev pub IsLost : List Event → List Activity → ℕ → Type 0
IsLost events stack n = Includes events (Cleared n) ⊎ IsFading stack n

pub record LosesReferents (before : List Object) (next : ℕ) (events : List Event) (after : World) : Type 0 where
  pub was : (y : Object) → Includes after.objects y → ((x : Object) × Includes before x × Wanes (IsLost events after.stack) x y) ⊎ (y.serial ≡ next)
  pub cleared : (n : ℕ) → Includes events (Cleared n) → HasNoReferent n after.objects

-- changes of objects
pub wanes_for : (lost more : ℕ → Type 0) → ((n : ℕ) → lost n → more n) → (x y : Object) → Wanes lost x y → Wanes more x y
wanes_for lost more h x y k = record { serial = k.serial; code = k.code; referent = either k.referent (λ e. inl e) (λ e. inr (e.0, h y.serial e.1)) }

wanes_same : (lost : ℕ → Type 0) (x : Object) → Wanes lost x x
wanes_same lost x = record { serial = refl; code = refl; referent = inl refl }

pub same_waned : (lost : ℕ → Type 0) (objects : List Object) → Waned lost objects objects
same_waned lost objects y m = (y, m, wanes_same lost y)

pub map_waned : (lost : ℕ → Type 0) (f : Object → Object) → ((x : Object) → Wanes lost x (f x)) → (objects : List Object) → Waned lost objects (map f objects)
map_waned lost f h objects = came_map (Wanes lost) (wanes_same lost) f objects (λ x m. h x)

pub if_waned : (lost : ℕ → Type 0) (f : Object → Object) (test : Object → Bool) → ((x : Object) → test x ≡ true → Wanes lost x (f x)) → (objects : List Object)
    → Waned lost objects (map (λ x. if test x then f x else x) objects)
if_waned lost f test h objects = came_if (Wanes lost) (wanes_same lost) f test objects (λ x m t. h x t)

pub entries_waned : (es : List Entry) (s : ℕ) (objects : List Object) → Waned Never objects (change (with_entries es) s objects)
entries_waned es s objects = if_waned Never (with_entries es) (λ x. x.serial == s) (λ x e. record { serial = refl; code = refl; referent = inl refl }) objects

pub none_cleared : ClearNone []
none_cleared n m = m

pub other_line : (event : Event) → IsOther event → ClearNone (event ∷ [])
other_line event h n m = either m (λ e. subst IsOther e h) (λ k. k)

pub others_more : (event : Event) (events : List Event) → IsOther event → ClearNone events → ClearNone (event ∷ events)
others_more event events h k n m = either m (λ e. subst IsOther e h) (k n)

module _ (objects : List Object) (next : ℕ) where
  -- no referent is lost
  pub steady : (events : List Event) (after : World) → ClearNone events → Waned Never objects after.objects → LosesReferents objects next events after
  steady events after none waned = record {
    was = λ y m. let x = waned y m in inl (
      x.0,
      x.1,
      wanes_for Never (IsLost events after.stack) (λ n k. absurd k) x.0 y
          x.2,
    );
    cleared = λ n m. absurd (none n m);
  }

  pub starts_going : (script : Script) (spec : FrameSpec) (u : World) → Waned Never objects u.objects → (let s : Transition = start_frame script spec u in LosesReferents objects next s.0 s.1)
  starts_going script spec u waned = starts_either (LosesReferents objects next) script spec u (steady (BudgetSpent ∷ []) (record u { outcome = BudgetIsSpent }) (other_line BudgetSpent tt) waned)
      (λ some. steady (Enter spec.sort spec.subject ∷ []) (record u { budget = u.budget - 1; stack = begun_frame script spec ∷ u.stack }) (other_line (Enter spec.sort spec.subject) tt) waned)

-- a step of an activity without commands
waned : (top : Activity) (tops : List Activity) (lines : List Event) (before after : List Object) → HasChanged top tops lines before after → Waned (LosesBy lines tops) before after
waned top tops lines before after c y m =
    let x = changed_becomes top tops lines before after c y m in (
      x.0,
      x.1,
      record {
        serial = x.2.later.serial;
        code = x.2.later.code;
        referent = either x.2.later.referent (λ e. inl e)
            (λ none. either x.2.referent (λ e. inl e) (λ l. inr (none, subst (LosesBy lines tops) (sym x.2.later.serial) l)));
      },
    )

cleared : (before after : List Object) (top : Activity) (lines : List Event) → AreLinesOf before after top lines → (n : ℕ) → Includes lines (Cleared n) → HasNoReferent n after
cleared before after top lines (Shows ls h) n m = (h (Cleared n) m).0
cleared before after top lines (Frees o dies gone) n m = absurd (other_line (Free o) tt n m)

pub advance_wanes : (script : Script) (v : World) (top : Activity) (below : List Activity) (lines : List Event) (after : World) → Advance script v top below
    lines after → LosesReferents v.objects v.next_serial lines after
advance_wanes script v top below lines after (Plainly tops objects numbers ls t c n shown) = record {
  was = λ y m. let x = waned top tops ls v.objects objects c y m in inl (
    x.0,
    x.1,
    wanes_for (LosesBy ls tops) (IsLost ls (tops ++ below))
        (λ k l. either l (λ i. inl i) (λ i. inr (record {
          death = record { object = k; phase = Finalizer };
          member = Includes-append_left tops below _ i;
          object = refl;
          frameless = refl;
        }))) x.0 y x.2,
  );
  cleared = cleared v.objects objects top ls shown;
}
advance_wanes script v top below lines after (WithFrame spec a objects s g held c) = starts_going v.objects v.next_serial script spec (record v { objects = objects; stack = a ∷ below })
    (λ y m. let x = waned top [] [] v.objects objects c y m in (x.0, x.1, wanes_for (LosesBy [] []) Never (λ k l. either l (λ i. i) (λ i. i)) x.0 y x.2))
