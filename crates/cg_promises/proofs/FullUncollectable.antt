-- Uncollectable objects in a full collection in which no frame begins: each keeps its references, and is in its place or
-- dying.
use Rattle.std.proofs.Common.{◌≡◌, ◌≢◌, refl, sym, ◌∙◌, ap, subst, ℕ, Bool, true, false, inl, inr, ◌⊎◌, List, ◌∷◌, map}
use Rattle.std.specs.Prelude.{if◌then◌else◌, is_some}
use Rattle.cg_value.specs.declared.Place.TheVariants.{Legacy}
use Rattle.cg_script.specs.declared.Script.{Script}
use Rattle.cg_graph.specs.Member.{Includes}
use Rattle.cg_graph.specs.Value.{references}
use Rattle.cg_graph.specs.Object.{Object}
use Rattle.cg_graph.proofs.Members.{either, Includes-map}
use Rattle.cg_machine.specs.Program.{legacy_of}
use Rattle.cg_machine.specs.World.{Activity, Releasing, Dying, Death, DyingPhase, Finalizer, Clearing, Calling, LegacyFinalizer}

-- one of the activities is its death
abbrev pub Dies : List Activity → ℕ → Type 0
Dies tops n = (d : Death) × Includes tops (Dying d) × (d.object ≡ n)

pub dies_under : (a : Activity) (tops : List Activity) (n : ℕ) → Dies tops n → Dies (a ∷ tops) n
dies_under a tops n d = (d.0, inr d.1, d.2)

pub dies_without : (a : Activity) (tops : List Activity) (n : ℕ) → ((d : Death) → a ≢ Dying d) → Dies (a ∷ tops) n → Dies tops n
dies_without a tops n live d = either d.1 (λ e. absurd (live d.0 e)) (λ k. (d.0, k, d.2))

same_death : (d e : Death) → Dying d ≡ Dying e → d ≡ e
same_death d e same = cc

pub dies_first : (d : Death) (tops : List Activity) (n : ℕ) → Dies (Dying d ∷ tops) n → (d.object ≡ n) ⊎ Dies tops n
dies_first d tops n e = either e.1 (λ i. inl (ap (λ (z : Death). z.object) (same_death d e.0 i) ∙ e.2)) (λ k. inr (e.0, k, e.2))

-- the phases of a death up to the legacy finalizer, except those with a frame of its own
abbrev pub IsCalm : DyingPhase → Type 0
IsCalm Finalizer = Unit {0}
IsCalm (Clearing waiting) = Unit {0}
IsCalm (Calling waiting) = Unit {0}
IsCalm LegacyFinalizer = Unit {0}
IsCalm phase = ⊥

module _ (script : Script) (aside : ℕ → Type 0) (start : List Object) where
  -- an object whose class has a legacy finalizer
  abbrev pub IsLegacy : ℕ → Type 0
  IsLegacy o = (x : Object) × Includes start x × (x.serial ≡ o) × (is_some (legacy_of script x) ≡ true)

  -- an uncollectable object has a legacy finalizer, or another uncollectable object refers to it
  abbrev pub IsAsideBy : ℕ → Type 0
  IsAsideBy o = IsLegacy o ⊎ ((x : Object) × Includes start x × aside x.serial × Includes (references x.entries) o)

  -- on top of the collection: releases and deaths; the death of an uncollectable object will run its legacy finalizer
  abbrev pub IsLight : Activity → Type 0
  IsLight (Releasing refs) = Unit {0}
  IsLight (Dying d) = aside d.object → IsCalm d.phase × IsLegacy d.object
  IsLight a = ⊥

  -- an object that was uncollectable since the start
  pub record Waits (tops : List Activity) (x y : Object) : Type 0 where
    pub serial : y.serial ≡ x.serial
    pub refers : (o : ℕ) → Includes (references x.entries) o → Includes (references y.entries) o
    pub legacy : legacy_of script y ≡ legacy_of script x
    pub place : (y.place ≡ Legacy) ⊎ Dies tops y.serial

  abbrev pub AllWait : List Object → List Activity → Type 0
  AllWait objects tops = (x : Object) → Includes start x → aside x.serial → (y : Object) × Includes objects y × Waits tops x y

  -- and during one step
  pub record Abides (tops : List Activity) (x y : Object) : Type 0 where
    pub serial : y.serial ≡ x.serial
    pub refers : (o : ℕ) → Includes (references x.entries) o → Includes (references y.entries) o
    pub legacy : legacy_of script y ≡ legacy_of script x
    pub place : x.place ≡ Legacy → (y.place ≡ Legacy) ⊎ Dies tops y.serial

  abbrev pub Abide : List Activity → List Object → List Object → Type 0
  Abide tops before after = (x : Object) → Includes before x → aside x.serial → (y : Object) × Includes after y × Abides tops x y

  pub abide_same : (tops : List Activity) (objects : List Object) → Abide tops objects objects
  abide_same tops objects x m a = (x, m, record { serial = refl; refers = λ o i. i; legacy = refl; place = λ e. inl e })

  pub abide_trans : (tops : List Activity) (before now after : List Object) → Abide tops before now → Abide tops now after → Abide tops before after
  abide_trans tops before now after h k x m a =
      let y = h x m a in
      let z = k y.0 y.1 (subst aside (sym y.2.serial) a) in (
        z.0,
        z.1,
        record {
          serial = z.2.serial ∙ y.2.serial;
          refers = λ o i. z.2.refers o (y.2.refers o i);
          legacy = z.2.legacy ∙ y.2.legacy;
          place = λ e. either (y.2.place e) (λ i. z.2.place i) (λ d. inr (subst (Dies tops) (sym z.2.serial) d));
        },
      )

  pub test_abide : (tops : List Activity) (f : Object → Object) (test : Object → Bool) (objects : List Object) → ((x : Object) → Includes objects x → test x
      ≡ true → aside x.serial → Abides tops x (f x)) → Abide tops objects (map (λ x. if test x then f x else x) objects)
  test_abide tops f test objects h x m a = (if test x then f x else x, Includes-map (λ x. if test x then f x else x) objects x m, one (test x) refl)
    where
      one : (b : Bool) → test x ≡ b → Abides tops x (if b then f x else x)
      one true t = h x m t a
      one false t = record { serial = refl; refers = λ o i. i; legacy = refl; place = λ e. inl e }

  pub all_wait : (before after : List Object) (tops to : List Activity) → Abide to before after → ((n : ℕ) → aside n → Dies tops n → Dies to n) → AllWait before tops → AllWait after to
  all_wait before after tops to k deaths h x m a =
      let y = h x m a in
      let z = k y.0 y.1 (subst aside (sym y.2.serial) a) in (
        z.0,
        z.1,
        record {
          serial = z.2.serial ∙ y.2.serial;
          refers = λ o i. z.2.refers o (y.2.refers o i);
          legacy = z.2.legacy ∙ y.2.legacy;
          place = either y.2.place (λ i. z.2.place i) (λ d. inr (subst (Dies to) (sym z.2.serial) (deaths y.0.serial (subst aside (sym y.2.serial) a) d)));
        },
      )
