-- The invariant of runs: a dying object is unheld, or held by its own death while its own code runs.
use Rattle.std.proofs.Common.{◌||◌, ◌≡◌, ◌≢◌, refl, sym, ◌∙◌, ap, subst, ℕ, Bool, true, false, inl, inr, ◌⊎◌, List, [], ◌∷◌}
use Rattle.std.specs.Prelude.{◌==◌, flat_map}
use Rattle.std.specs.List.{list_any}
use Rattle.std.proofs.lemmas.Bool.{eq-eqb}
use Rattle.cg_script.specs.declared.Script.{Script}
use Rattle.cg_graph.specs.Member.{Includes}
use Rattle.cg_graph.specs.Object.{serials}
use Rattle.cg_machine.specs.declared.event.FrameSort.{FrameSort}
use Rattle.cg_machine.specs.declared.event.FrameSort.TheVariants.{Call}
use Rattle.cg_machine.specs.World.{World, Activity, Framed, Dying, Collecting, Death, DyingPhase, Finalizer, AfterFinalizer, Clearing, Calling, AfterCall, AfterLegacy, Detaching, Emptying, CollectPhase, AfterRelease, AfterTurn}
use Rattle.cg_graph.proofs.Members.{either, or_left, Includes-append_left, Includes-append_right, Includes-append_cases}
use Rattle.cg_machine.specs.Holdings.{holds, dying_holds, is_death_of}
use Rattle.cg_laws.proofs.Unreferred.{AreQuiet, Unheld, Forgotten, Mortal, HasFinalizers, NoneRefers, AreReferred, Alters, alters_refl, mortal_after, finalizers_after, still_forgotten}

-- the local of a frame, `self` or `ref`, is held below it
abbrev pub IsLocalHeld : FrameSort → ℕ → List Activity → Type 0
IsLocalHeld Call o below = Unit {0}
IsLocalHeld sort o below = Includes (flat_map holds below) o

-- if a death below is that of o, it holds o there
abbrev pub IsHeldWhereDying : ℕ → List Activity → Type 0
IsHeldWhereDying o below = (d : Death) → Includes below (Dying d) → d.object ≡ o → Includes (flat_map holds below) o

-- an object that a collection gave up and will visit again
abbrev pub GivenUp : CollectPhase → List Activity → Type 0
GivenUp (AfterRelease weak waiting) below = IsHeldWhereDying weak below
GivenUp (AfterTurn o) below = IsHeldWhereDying o below
GivenUp phase below = Unit {0}

-- what an activity needs of those below it: an object dies at most once at a time
abbrev pub IsOver : Activity → List Activity → Type 0
IsOver (Framed f) below = IsLocalHeld f.sort f.subject below
IsOver (Dying d) below = list_any (is_death_of d.object) below ≡ false
IsOver (Collecting c) below = GivenUp c.phase below
IsOver a below = Unit {0}

abbrev pub AreOver : List Activity → Type 0
AreOver [] = Unit {0}
AreOver (a ∷ below) = IsOver a below × AreOver below

-- a death below another activity
abbrev pub Rests : Script → World → ℕ → DyingPhase → Type 0
Rests script w o AfterFinalizer = Mortal w.objects o
Rests script w o (Calling waiting) = Mortal w.objects o × Forgotten w o
Rests script w o (AfterCall weak callback waiting) = Mortal w.objects o × Forgotten w o
Rests script w o AfterLegacy = Mortal w.objects o × HasFinalizers script w.objects o
Rests script w o Emptying = Mortal w.objects o × Forgotten w o
Rests script w o phase = ⊥

abbrev pub AreResting : Script → World → List Activity → Type 0
AreResting script w below = (d : Death) → Includes below (Dying d) → Rests script w d.object d.phase

abbrev pub Stands : Script → World → ℕ → DyingPhase → Type 0
Stands script w o Finalizer = Unheld w o
Stands script w o AfterFinalizer = Mortal w.objects o
Stands script w o (Clearing waiting) = Unheld w o × (waiting ≢ [] → Includes (serials w.objects) o)
Stands script w o (Calling waiting) = Forgotten w o × (waiting ≢ [] → Mortal w.objects o)
Stands script w o (AfterCall weak callback waiting) = Mortal w.objects o × Forgotten w o
Stands script w o AfterLegacy = Mortal w.objects o × HasFinalizers script w.objects o
Stands script w o Detaching = Unheld w o × (HasFinalizers script w.objects o ⊎ NoneRefers o w.objects)
Stands script w o phase = Forgotten w o

abbrev pub IsOnTop : Script → World → Activity → Type 0
IsOnTop script w (Dying d) = Stands script w d.object d.phase
IsOnTop script w a = Unit {0}

abbrev pub IsStack : Script → World → List Activity → Type 0
IsStack script w [] = Unit {0}
IsStack script w (a ∷ below) = IsOnTop script w a × AreResting script w below

pub record Calm (script : Script) (w : World) : Type 0 where
  pub referred : AreReferred w.objects
  pub over : AreOver w.stack
  pub stack : IsStack script w w.stack

pub stands : (script : Script) (w : World) (o : ℕ) (phase : DyingPhase) → Rests script w o phase → Stands script w o phase
stands script w o AfterFinalizer h = h
stands script w o (Calling waiting) h = (h.1, λ e. h.0)
stands script w o (AfterCall weak callback waiting) h = h
stands script w o AfterLegacy h = h
stands script w o Emptying h = h.1
stands script w o phase h = absurd h

on_top : (script : Script) (w : World) (a : Activity) (below : List Activity) → AreResting script w (a ∷ below) → IsOnTop script w a
on_top script w (Dying d) below h = stands script w d.object d.phase (h d (inl refl))
on_top script w _ below h = tt

pub resting_stack : (script : Script) (w : World) (stack : List Activity) → AreResting script w stack → IsStack script w stack
resting_stack script w [] h = tt
resting_stack script w (a ∷ below) h = (on_top script w a below h, λ d m. h d (inr m))

-- what a step keeps of a death that lies below
pub record Keeps (script : Script) (w after : World) (o : ℕ) : Type 0 where
  pub mortal : Mortal w.objects o → Mortal after.objects o
  pub finalizers : Mortal w.objects o → HasFinalizers script w.objects o → HasFinalizers script after.objects o
  pub forgotten : Mortal w.objects o → Forgotten w o → Forgotten after o

rests_after : (script : Script) (w after : World) (o : ℕ) (phase : DyingPhase) → Keeps script w after o → Rests script w o phase → Rests script after o phase
rests_after script w after o AfterFinalizer k h = k.mortal h
rests_after script w after o (Calling waiting) k h = (k.mortal h.0, k.forgotten h.0 h.1)
rests_after script w after o (AfterCall weak callback waiting) k h = (k.mortal h.0, k.forgotten h.0 h.1)
rests_after script w after o AfterLegacy k h = (k.mortal h.0, k.finalizers h.0 h.1)
rests_after script w after o Emptying k h = (k.mortal h.0, k.forgotten h.0 h.1)
rests_after script w after o phase k h = h

pub resting_after : (script : Script) (w after : World) (below : List Activity) → ((d : Death) → Includes below (Dying d) → Keeps script w after d.object)
    → AreResting script w below → AreResting script after below
resting_after script w after below k h d m = rests_after script w after d.object d.phase (k d m) (h d m)

pub altered_keeps : (script : Script) (w after : World) (o : ℕ) → Alters w.objects after.objects → (Mortal w.objects o → Forgotten w o → Forgotten after o) → Keeps script w after o
altered_keeps script w after o alters forgotten = record {
  mortal = mortal_after w.objects after.objects alters o;
  finalizers = λ m. finalizers_after script w.objects after.objects alters o;
  forgotten = forgotten;
}

pub same_objects : (script : Script) (w after : World) (o : ℕ) → after.names ≡ w.names → after.objects ≡ w.objects → (¬ Includes (flat_map holds w.stack) o
    → ¬ Includes (flat_map holds after.stack) o) → Keeps script w after o
same_objects script w after o names objects stack =
    let alters : Alters w.objects after.objects = subst (λ os. Alters w.objects os) (sym objects) (alters_refl w.objects) in
    altered_keeps script w after o alters (λ m. still_forgotten w after o names alters (subst (λ os. AreQuiet o os) (sym objects)) stack)

-- what a stack does not hold
pub popped_free : (a : Activity) (below : List Activity) (o : ℕ) → ¬ Includes (flat_map holds (a ∷ below)) o → ¬ Includes (flat_map holds below) o
popped_free a below o k m = k (Includes-append_right (holds a) (flat_map holds below) o m)

pub top_free : (a : Activity) (below : List Activity) (o : ℕ) → ¬ Includes (flat_map holds (a ∷ below)) o → ¬ Includes (holds a) o
top_free a below o k m = k (Includes-append_left (holds a) (flat_map holds below) o m)

pub pushed_free : (a : Activity) (below : List Activity) (o : ℕ) → ¬ Includes (holds a) o → ¬ Includes (flat_map holds below) o → ¬ Includes (flat_map holds (a ∷ below)) o
pushed_free a below o h k m = either (Includes-append_cases (holds a) (flat_map holds below) o m) h k

pub turned_free : (a b : Activity) (below : List Activity) (o : ℕ) → (¬ Includes (holds a) o → ¬ Includes (holds b) o) → ¬ Includes (flat_map holds (a ∷ below))
    o → ¬ Includes (flat_map holds (b ∷ below)) o
turned_free a b below o h k = pushed_free b below o (h (top_free a below o k)) (popped_free a below o k)

-- each hold of a member is one of the stack
pub held_by_member : (stack : List Activity) (a : Activity) (o : ℕ) → Includes stack a → Includes (holds a) o → Includes (flat_map holds stack) o
held_by_member [] a o m h = absurd m
held_by_member (b ∷ stack) a o (inl e) h = Includes-append_left (holds b) (flat_map holds stack) o (subst (λ c. Includes (holds c) o) (sym e) h)
held_by_member (b ∷ stack) a o (inr m) h = Includes-append_right (holds b) (flat_map holds stack) o (held_by_member stack a o m h)

-- a death with something above it holds its object, or its object is forgotten
pub rests_cases : (script : Script) (w : World) (o : ℕ) (phase : DyingPhase) → Rests script w o phase → Includes (dying_holds o phase) o ⊎ Forgotten w o
rests_cases script w o AfterFinalizer h = inl (inl refl)
rests_cases script w o (Calling waiting) h = inr h.1
rests_cases script w o (AfterCall weak callback waiting) h = inr h.1
rests_cases script w o AfterLegacy h = inl (inl refl)
rests_cases script w o Emptying h = inr h.1
rests_cases script w o phase h = absurd h

-- an object that is held while it dies below is held there
pub held_where_dying : (script : Script) (w : World) (below : List Activity) (o : ℕ) → AreResting script w below → (Forgotten w o → ⊥) → IsHeldWhereDying o below
held_where_dying script w below o resting held d m e =
    either (rests_cases script w d.object d.phase (resting d m))
    (λ own. subst (λ s. Includes (flat_map holds below) s) e (held_by_member below (Dying d) d.object m own))
    (λ none. absurd (held (subst (Forgotten w) e none)))

-- no death on a stack is of an object that is not dying there
pub not_dying : (o : ℕ) (stack : List Activity) (d : Death) → list_any (is_death_of o) stack ≡ false → Includes stack (Dying d) → d.object ≢ o
not_dying o [] d none m e = absurd m
not_dying o (Dying c ∷ stack) d none (inl i) e =
    let same : c ≡ d = cc in
    let yes : (c.object == o) ≡ true = eq-eqb c.object o (ap (λ (x : Death). x.object) same ∙ e) in
    absurd (let no : true ≡ false = sym (or_left (c.object == o) (list_any (is_death_of o) stack) yes) ∙ none in cc)
not_dying o (a ∷ stack) d none (inl i) e = cc
not_dying o (a ∷ stack) d none (inr m) e = not_dying o stack d (rest (is_death_of o a) (list_any (is_death_of o) stack) none) m e
  where
    rest : (b c : Bool) → (b || c) ≡ false → c ≡ false
    rest true c h = cc
    rest false c h = h
