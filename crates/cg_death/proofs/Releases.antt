-- When the heap gives up a hold, it does the machine's release step.
use Rattle.std.proofs.Common.{◌≡◌, ◌≢◌, refl, sym, ◌∙◌, ap, subst, ℕ, ◌+◌, ◌<◌, ◌≤◌, Bool, true, false, cond, not, inl, inr, List, [], ◌∷◌, ◌++◌, arith}
use Rattle.std.specs.Prelude.{◌==◌, ◌&&◌, flat_map, if◌then◌else◌}
use Rattle.std.proofs.lemmas.Bool.{cases_Bool, eqb-true, eq-eqb, ne_eqb, and_from, and_right}
use Rattle.cg_script.specs.declared.Script.{Script}
use Rattle.cg_graph.specs.Member.{Includes}
use Rattle.cg_graph.specs.Holdings.{occurrences}
use Rattle.cg_graph.specs.Store.{Store, count_of}
use Rattle.cg_graph.specs.Changes.{unheld, less}
use Rattle.cg_graph.proofs.Objects.{objects-same}
use Rattle.cg_graph.proofs.Members.{either}
use Rattle.cg_heap.proofs.HoldLemmas.{outside-unheld}
use Rattle.cg_machine.specs.World.{World, Activity, Releasing, Dying, Death, DyingPhase, AfterFinalizer, AfterLegacy, with_stack}
use Rattle.cg_machine.specs.Holdings.{holdings, holds, in_degree, is_dying, dying_holds}
use Rattle.cg_machine.specs.Frame.{Transition, begin_death}
use Rattle.cg_represents.specs.Orderly.{IsHeldInItsFramesAlone}
use Rattle.cg_represents.specs.Represents.{Represents, Goes}
use Rattle.cg_death.specs.declared.answer.DeathStep.TheVariants as answer_of
use Rattle.cg_death.specs.Answers.{DeathStands, WentOn, GaveDeath, ReleaseAnswer, ReleaseSteps, release_answer}
use Rattle.cg_death.proofs.Worlds.{at_stack, spelled, went_to, matches-alike}
use Rattle.cg_represents.proofs.Representing.{in_one, occurrences-one, count-in_degree, held_by_one, held_by_stack, death_found, Matches, matches, represents, popped, pushed}
use Rattle.cg_represents.proofs.Lists.{occurrences-cons}

pub matches-unheld : (refs : List ℕ) (store : Store) (w : World) → Matches store w → Matches (unheld refs store) w
matches-unheld refs store w m = matches-alike store (unheld refs store).nodes w w.objects m (objects-same store (λ s n. less (occurrences s refs) n) (λ s n. refl) ∙ m.objects)

-- a held dying object is held by its own death, once
held_by_death : (o : ℕ) (phase : DyingPhase) (held : List ℕ) → IsHeldInItsFramesAlone o phase held → 0 < occurrences o held → occurrences o (dying_holds o phase) ≡ 1
held_by_death o AfterFinalizer held h m = occurrences-one o
held_by_death o AfterLegacy held h m = occurrences-one o
held_by_death o phase held h m = absurd (omega (arith, h, m))

-- A reference is given up: its object begins to die exactly if its count is now 0.
module _ (script : Script) (store : Store) (v : World) (o : ℕ) (references : List ℕ) (below : List Activity) where
  abbrev before : World
  before = with_stack (Releasing (o ∷ references) ∷ below) v

  abbrev after : World
  after = with_stack (Releasing references ∷ below) v

  module _ (s : DeathStands store before (Releasing (o ∷ references) ∷ below)) where
    represents-after : Represents (unheld (o ∷ []) store) after
    represents-after =
        represents (unheld (o ∷ []) store) after
        (matches-unheld (o ∷ []) store after (pushed store v references below (popped store v (o ∷ references) below (matches store before s.represents))))
        (λ q. omega (arith, outside-unheld (o ∷ []) store q, s.represents.outside q, occurrences-cons q o (references ++ flat_map holds below), occurrences-cons q o []))

    is_held : 0 < occurrences o (holdings before)
    is_held =
        let first : occurrences o (o ∷ references) ≡ 1 + occurrences o references = occurrences-cons o o references ∙ ap (λ b. cond b 1 0 + occurrences o references) (eq-eqb o o refl) in
        let there : occurrences o (o ∷ references) ≤ occurrences o (flat_map holds before.stack) = held_by_one o before.stack (Releasing (o ∷ references)) (inl refl) in
        omega (arith, first, there, held_by_stack o before)

    not_dying : in_degree after o ≡ 0 → is_dying after o ≡ false
    not_dying none = either (cases_Bool (is_dying after o)) (λ yes'. absurd (no' (death_found o (Releasing references ∷ below) yes'))) (λ e. e)
      where
        no' : (d : Death) × Includes (Releasing references ∷ below) (Dying d) × (d.object ≡ o) → ⊥
        no' (d, m, e) =
            let own : occurrences d.object (dying_holds d.object d.phase) ≡ 1 = held_by_death d.object d.phase (holdings before)
            (s.unheld d (either m (λ i. cc) (λ k. inr k))) (subst (λ q. 0 < occurrences q (holdings before)) (sym e) is_held) in
            let there : occurrences d.object (dying_holds d.object d.phase) ≤ occurrences d.object (flat_map holds (Releasing references ∷ below)) =
            held_by_one d.object (Releasing references ∷ below) (Dying d) m in
            let all : occurrences d.object (flat_map holds (Releasing references ∷ below)) ≤ in_degree after d.object = held_by_stack d.object after in
            let none_there : in_degree after d.object ≡ 0 = ap (in_degree after) e ∙ none in
            omega (arith, own, there, all, none_there)

    choice : Bool → Transition
    choice b = if b then ([], begin_death o after) else ([], after)

    by_choice : (b : Bool) → (not (is_dying after o) && (in_degree after o == 0)) ≡ b → Goes script before (choice b).0 (choice b).1
    unfolding choice
    by_choice b e =
        in_one script before (choice b).0 (choice b).1 s.running
        (sym (ap (λ c. (choice c).0) e), sym (ap (λ c. (choice c).1) e))

    died : in_degree after o ≡ 0 → GaveDeath script before o (unheld (o ∷ []) store) (Releasing references ∷ below)
    unfolding choice
    died none = record {
      hands = record {
        before = after;
        goes = by_choice true (and_from (not (is_dying after o)) _ (ap not (not_dying none)) (eq-eqb _ 0 none));
        top = refl;
        represents = represents-after;
      };
      keeps = record { numbers = refl; budget = refl; outcome = refl };
    }

    lives : in_degree after o ≢ 0 → WentOn script before [] before.numbers (unheld (o ∷ []) store) (Releasing references ∷ below)
    unfolding choice
    lives held = went_to after (by_choice false (and_right (not (is_dying after o)) _ (ne_eqb _ 0 held))) represents-after refl (refl, refl, refl)

    -- the answer that the count decides
    pub given_up : (new : Store) → new ≡ unheld (o ∷ []) store → ReleaseAnswer script before below new references (release_answer (o ∷ []) new)
    given_up new is = subst (λ st. ReleaseAnswer script before below st references (release_answer (o ∷ []) st)) (sym is) (by_count (count_of (unheld (o ∷ []) store) o == 0) refl)
      where
        count : count_of (unheld (o ∷ []) store) o ≡ in_degree after o
        count = count-in_degree (unheld (o ∷ []) store) after represents-after o

        by_count : (b : Bool) → (count_of (unheld (o ∷ []) store) o == 0) ≡ b
            → ReleaseAnswer script before below (unheld (o ∷ []) store) references (if b then answer_of.Died o else answer_of.Continue)
        by_count true e = died (sym count ∙ eqb-true _ 0 e)
        by_count false e = lives (λ z. absurd (let no : true ≡ false = sym (eq-eqb _ 0 (count ∙ z)) ∙ e in cc))

-- the step of a release with a reference left
pub gives_up : (store new : Store) (o : ℕ) (left : List ℕ) → new ≡ unheld (o ∷ []) store → ReleaseSteps store (o ∷ left) new left (release_answer (o ∷ []) new)
gives_up store new o left is script w below s =
    at_stack (λ u. ReleaseAnswer script u below new left (release_answer (o ∷ []) new)) w (Releasing (o ∷ left) ∷ below) s.top
    (given_up script store w o left below (spelled store w (Releasing (o ∷ left) ∷ below) s) new is)

-- an empty release ends
pub pops : (store : Store) → ReleaseSteps store [] store [] answer_of.Gone
pops store script w below s =
    at_stack (λ u. ReleaseAnswer script u below store [] answer_of.Gone) w (Releasing [] ∷ below) s.top
    (here (spelled store w (Releasing [] ∷ below) s))
  where
    here : DeathStands store (with_stack (Releasing [] ∷ below) w) (Releasing [] ∷ below) → ReleaseAnswer script (with_stack (Releasing [] ∷ below) w) below store [] answer_of.Gone
    here t = went_to (with_stack below w)
        (in_one script (with_stack (Releasing [] ∷ below) w) [] (with_stack below w) t.running (refl, refl))
        (represents store (with_stack below w) (popped store w [] below (matches store (with_stack (Releasing [] ∷ below) w) t.represents)) t.represents.outside) refl (refl, refl, refl)
