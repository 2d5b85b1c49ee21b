-- What a collection gives up: each reference is a step of the machine's release above it.
use Rattle.std.proofs.Common.{◌≡◌, refl, sym, ◌∙◌, ap, subst, ℕ, ◌+◌, ◌*◌, ◌<◌, ◌≤◌, Bool, true, false, not, List, [], ◌∷◌, ◌++◌, length, Option, Some, None, IsSome, inr, sum_by, arith}
use Rattle.std.specs.Prelude.{◌==◌, filter, is_some, drop, option_map, if◌then◌else◌}
use Rattle.std.specs.FinMap as fin
use Rattle.cg_value.specs.declared.Entry.{Entry}
use Rattle.cg_value.specs.declared.KindCode.TheVariants.{Weak}
use Rattle.cg_value.specs.declared.Place.TheVariants.{Cand, Seen, Legacy, Pend}
use Rattle.cg_script.specs.declared.Script.{Script}
use Rattle.cg_graph.specs.Holdings.{occurrences}
use Rattle.cg_graph.specs.Places.{list_of, without_serial}
use Rattle.cg_graph.specs.Store.{Store, Node, list_at, entries_of, entries_in, place_of, place_in, count_of}
use Rattle.cg_graph.specs.Changes.{unheld, less}
use Rattle.cg_graph.proofs.Maps.{get-mapped}
use Rattle.cg_heap.proofs.CallerLemmas.{kinds-unheld}
use Rattle.cg_machine.specs.Program.{profile_of}
use Rattle.cg_machine.specs.World as machine
use Rattle.cg_machine.specs.World.{World, Activity, Releasing, Numbers}
use Rattle.cg_machine.specs.Weak.{callback_in}
use Rattle.cg_represents.specs.Represents.{Represents}
use Rattle.cg_policy.specs.Policy.{Policy}
use Rattle.cg_death.specs.declared.release.Release.{Release}
use Rattle.cg_death.specs.declared.answer.DeathStep.{DeathStep}
use Rattle.cg_death.specs.declared.answer.DeathStep.TheVariants as death_answer
use Rattle.cg_death.specs.Activities.{references_left}
use Rattle.cg_death.specs.Answers as Death
use Rattle.cg_death.specs.Answers.{ReleaseAnswer, once_released, release_answer}
use Rattle.cg_death.proofs.Callbacks.{callback-at}
use Rattle.cg_collect.specs.declared.answer.CollectStep.{CollectStep}
use Rattle.cg_collect.specs.declared.answer.CollectStep.TheVariants as answer_of
use Rattle.cg_collect.specs.declared.collection.Collection.{Collection}
use Rattle.cg_collect.specs.declared.phase.Phase.{Phase}
use Rattle.cg_collect.specs.declared.phase.Phase.TheVariants as phase_of
use Rattle.cg_collect.specs.Phases.{machine_phase, collecting, released_over, lines_left, store_after}
use Rattle.cg_collect.specs.Ready.{IsHeapApart, OthersHaveCallbacks, IsReadyForCollectionAt, HasItsWalk, HasFewCollected, MayGiveUp, GivesUpIn, MayRun, IsBegun, SparesGarbageList}
use Rattle.cg_collect.specs.Answers.{CollectionShows, CollectAnswer, CollectSteps, numbers_at}
use Rattle.cg_collect.specs.Turns.{pass_of, passes_on, ComesNearer, KeepsObjects, left_in_pass, to_clear, others_cleared}
use Rattle.cg_collect.specs.Collections.{IsReadyForCollection, KeepsReady, CollectFalls, CollectionEndsWith, GivesUpNext, once_given_up, give_up_answer}
use Rattle.cg_collect.specs.Stages.{detection_at, stage_at, MeetsStage}
use Rattle.cg_collect.proofs.Stages.{TakesStep, leaves_stage}
use Rattle.cg_collect.proofs.NothingIsMade.{keeps-released}
use Rattle.cg_collect.proofs.FinalizerPhase.{still_unsaved}

-- A release that neither died nor ended went on.
pub goes_on_with : (c : Collection) (release : Release) (answer : DeathStep) → ((o : ℕ) → answer ≡ death_answer.Died o → ⊥) → (answer ≡ death_answer.Gone → ⊥)
    → (record c { release = Some release } ≡ once_given_up c release answer) × (answer_of.Continue ≡ give_up_answer answer)
goes_on_with c release (death_answer.Died o) died gone = absurd (died o refl)
goes_on_with c release death_answer.Gone died gone = absurd (gone refl)
goes_on_with c release answer died gone = (refl, refl)

-- What holds in each phase that gives something up holds where something may be given up.
pub in_each : (P : Phase → Type 0) → ((weak : ℕ) → P (phase_of.AfterRelease weak)) → P phase_of.Finalizing → ((o : ℕ) → P (phase_of.Turn o)) → ((o : ℕ) → P (phase_of.AfterTurn o))
    → (p : Phase) → MayGiveUp p → P p
in_each P released finalizing turn turned (phase_of.AfterRelease weak) may = released weak
in_each P released finalizing turn turned phase_of.Finalizing may = finalizing
in_each P released finalizing turn turned (phase_of.Turn o) may = turn o
in_each P released finalizing turn turned (phase_of.AfterTurn o) may = turned o
in_each P released finalizing turn turned p may = absurd may

-- A phase that gives something up: no line is left, and it is on the machine's stack.
record GivesUpAt (p : Phase) : Type 0 where
  lines : (script : Script) (asked : Bool) (c : Collection) (store : Store) → lines_left script asked c p store ≡ []
  heap : (store : Store) → store_after p store ≡ store
  numbers : (g : ℕ) (n : Numbers) → numbers_at p g n ≡ n
  phase : List ℕ → machine.CollectPhase
  stands : (pending : List ℕ) → machine_phase p pending ≡ Some (phase pending)

gives_up_at : (p : Phase) → MayGiveUp p → GivesUpAt p
gives_up_at = in_each GivesUpAt
    (λ weak. record {
      lines = λ script asked c store. refl;
      heap = λ store. refl;
      numbers = λ g n. refl;
      phase = λ pending. machine.AfterRelease weak (filter (λ q. not (q == weak)) pending);
      stands = λ pending. refl;
    })
    (record { lines = λ script asked c store. refl; heap = λ store. refl; numbers = λ g n. refl; phase = λ pending. machine.Finalizing; stands = λ pending. refl })
    (λ o. record { lines = λ script asked c store. refl; heap = λ store. refl; numbers = λ g n. refl; phase = λ pending. machine.Turn o; stands = λ pending. refl })
    (λ o. record { lines = λ script asked c store. refl; heap = λ store. refl; numbers = λ g n. refl; phase = λ pending. machine.AfterTurn o; stands = λ pending. refl })

-- A release leaves the lists, the entries, the places and the kinds of a heap alone.
lists-released : (refs : List ℕ) (store : Store) → (once_released refs store).lists ≡ store.lists
lists-released [] store = refl
lists-released (o ∷ refs) store = refl

-- The collection answers as the release does.
module _ (script : Script) (asked : Bool) (c : Collection) (store now : Store) (policy : Policy) (w : World) (below : List Activity) (after : Release)
    (may : MayGiveUp c.phase) (lists : now.lists ≡ store.lists)
    (numbers : policy.numbers ≡ w.numbers) (running : policy.running ≡ true) where
  at : GivesUpAt c.phase
  at = gives_up_at c.phase may

  abbrev under : List Activity
  under = collecting asked c (machine_phase c.phase (list_at store Pend)) ++ below

  -- what it represents then
  shows_at : (r : Option Release) (v : World) → Represents now v → v.numbers ≡ w.numbers
      → v.stack ≡ released_over r (collecting asked c (machine_phase c.phase (list_at store Pend))) ++ below → CollectionShows asked (record c { release = r }) now policy v below
  shows_at r v rep numbers_now top = record {
    represents = subst (λ st. Represents st v) (sym (at.heap now)) rep;
    numbers = numbers ∙ sym numbers_now ∙ sym (at.numbers c.generation v.numbers);
    running = running ∙ sym (ap is_some (at.stands []));
    top = top ∙ ap (λ l. released_over r (collecting asked c (machine_phase c.phase (list_of l 6))) ++ below) (sym lists);
  }

  no_lines : [] ≡ lines_left script asked c c.phase store
  no_lines = sym (at.lines script asked c store)

  answered : (a : DeathStep) → ReleaseAnswer script w under now (references_left after) a → CollectAnswer script asked w below
      (lines_left script asked c c.phase store) (once_given_up c after a) now policy (give_up_answer a)
  answered death_answer.Continue r = record {
    events = [];
    after = r.goes.after;
    goes = r.goes.goes;
    lines = ap (λ l. l ++ []) (at.lines script asked c store) ∙ sym (at.lines script asked (record c { release = Some after }) now);
    shows = shows_at (Some after) r.goes.after r.goes.represents r.keeps.numbers r.goes.top;
    keeps = record { budget = r.keeps.budget; outcome = r.keeps.outcome };
  }
  answered (death_answer.Died o) r = (
    at.lines script asked c store,
    at.lines script asked (record c { release = Some after }) now,
    record {
      before = r.hands.before;
      goes = r.hands.goes;
      shows = shows_at (Some after) r.hands.before r.hands.represents r.keeps.numbers r.hands.top;
      keeps = record { budget = r.keeps.budget; outcome = r.keeps.outcome };
    },
  )
  answered death_answer.Gone r = record {
    events = [];
    after = r.goes.after;
    goes = r.goes.goes;
    lines = ap (λ l. l ++ []) (at.lines script asked c store) ∙ sym (at.lines script asked (record c { release = None }) now);
    shows = shows_at None r.goes.after r.goes.represents r.keeps.numbers r.goes.top;
    keeps = record { budget = r.keeps.budget; outcome = r.keeps.outcome };
  }
  answered a r = absurd r

may_give_up : (p : Phase) (r : Option Release) (release : Release) → r ≡ Some release → GivesUpIn p r → MayGiveUp p
may_give_up p r release is may = subst (GivesUpIn p) is may

-- Giving up a reference is a step of the machine.
gives_up-steps : (script : Script) (policy : Policy) (c : Collection) (store : Store) (new : Collection) (now : Store) (answer : CollectStep)
    → GivesUpIn c.phase c.release → GivesUpNext c store new now answer → CollectSteps script c store policy new now policy answer
gives_up-steps script policy c store new now answer gives g asked w below s =
    let may = may_give_up c.phase c.release g.before g.had gives in
    let at = gives_up_at c.phase may in
    let under : List Activity = collecting asked c (machine_phase c.phase (list_at store Pend)) ++ below in
    let stands : Death.DeathStands store w (Releasing (references_left g.before) ∷ under) = record {
      represents = subst (λ st. Represents st w) (at.heap store) s.shows.represents;
      top = s.shows.top ∙ ap (λ r. released_over r (collecting asked c (machine_phase c.phase (list_at store Pend))) ++ below) g.had;
      running = s.running;
      unheld = s.unheld;
      once = s.once;
    } in
    let a : DeathStep = release_answer (references_left g.before) now in
    subst (λ (n : Collection). CollectAnswer script asked w below (lines_left script asked c c.phase store) n now policy answer) (sym g.collection)
    (subst (λ k. CollectAnswer script asked w below (lines_left script asked c c.phase store) (once_given_up c g.after a) now policy k) (sym g.told)
    (answered script asked c store now policy w below g.after may (ap (λ (st : Store). st.lists) g.heap ∙ lists-released (references_left g.before) store)
    (s.shows.numbers ∙ at.numbers c.generation w.numbers) (s.shows.running ∙ ap is_some (at.stands []))
    a (g.steps script w under stands)))

-- What a release leaves of a heap.
module _ (refs : List ℕ) (store : Store) where
  abbrev let_off : Store
  let_off = unheld refs store

  place_of-unheld : (s : ℕ) → place_of let_off s ≡ place_of store s
  place_of-unheld s = ap place_in (get-mapped (λ k n. less (occurrences k refs) n) store.nodes s) ∙ known (fin.get store.nodes s)
    where
      known : (x : Option Node) → place_in (option_map (less (occurrences s refs)) x) ≡ place_in x
      known None = refl
      known (Some n) = refl

  entries_of-unheld : (s : ℕ) → entries_of let_off s ≡ entries_of store s
  entries_of-unheld s = ap entries_in (get-mapped (λ k n. less (occurrences k refs) n) store.nodes s) ∙ known (fin.get store.nodes s)
    where
      known : (x : Option Node) → entries_in (option_map (less (occurrences s refs)) x) ≡ entries_in x
      known None = refl
      known (Some n) = refl

  apart-unheld : IsHeapApart store → IsHeapApart let_off
  apart-unheld apart = record {
    garbage = place_of-unheld 1 ∙ apart.garbage;
    back = apart.back;
    candidates = still_unsaved store let_off Cand (entries_of-unheld 1) apart.candidates;
    seen = still_unsaved store let_off Seen (entries_of-unheld 1) apart.seen;
    legacy = still_unsaved store let_off Legacy (entries_of-unheld 1) apart.legacy;
  }

  others-unheld : (weak : ℕ) → OthersHaveCallbacks store weak → OthersHaveCallbacks let_off weak
  others-unheld weak have u m differs = let has = have u m differs in (
    kinds-unheld refs store u Weak has.0,
    subst IsSome (sym (callback-at let_off u ∙ ap callback_in (entries_of-unheld u) ∙ sym (callback-at store u))) has.1,
  )

  -- the phases that give something up are still ready
  ready-unheld : (g : ℕ) (p : Phase) → MayGiveUp p → IsReadyForCollectionAt store g p → IsReadyForCollectionAt let_off g p
  ready-unheld g = in_each (λ p. IsReadyForCollectionAt store g p → IsReadyForCollectionAt let_off g p)
      (λ weak r. ((apart-unheld r.0.0, r.0.1), others-unheld weak r.1, r.2)) (λ r. apart-unheld r) (λ o r. ((apart-unheld r.0.0, r.0.1), r.1)) (λ o r. ((apart-unheld r.0.0, r.0.1), r.1))

  -- as few are collected
  few-unheld : (n : ℕ) (p : Phase) → MayGiveUp p → HasFewCollected n p store → HasFewCollected n p let_off
  few-unheld n = in_each (λ p. HasFewCollected n p store → HasFewCollected n p let_off) (λ weak few. few) (λ few. few) (λ o few. few) (λ o few. few)

  to_clear-unheld : (o : ℕ) → to_clear let_off o ≡ to_clear store o
  to_clear-unheld o = ap (λ (es : List Entry). 16 + 4 * length es) (entries_of-unheld o)

  others_cleared-unheld : (o : ℕ) → others_cleared let_off o ≡ others_cleared store o
  others_cleared-unheld o = λ i. sum_by (λ q. to_clear-unheld q i) (without_serial o (list_at store Cand))

  -- and as much is left in the pass
  left-unheld : (p : Phase) → MayGiveUp p → left_in_pass p let_off ≡ left_in_pass p store
  left-unheld = in_each (λ p. left_in_pass p let_off ≡ left_in_pass p store)
      (λ weak. refl) refl (λ o i. others_cleared-unheld o i + to_clear-unheld o i + 8) (λ o. ap (λ n. n + 10) (others_cleared-unheld o))

-- What lasts in a phase that gives something up: deaths run in it, it comes after the start, and it spares the garbage list.
record Lasts (p : Phase) : Type 0 where
  runs : MayRun p
  begun : IsBegun p
  onward : passes_on p ≡ 0
  meets : MeetsStage p (stage_at p (detection_at p)) p
  spares : (store : Store) (g : ℕ) → IsReadyForCollectionAt store g p → SparesGarbageList p
  walk : (profile : ℕ) (store : Store) → HasItsWalk profile store p

lasts_at : (p : Phase) → MayGiveUp p → Lasts p
lasts_at = in_each Lasts
    (λ weak. record { runs = tt; begun = tt; onward = refl; meets = refl; spares = λ store g r. r.2; walk = λ profile store. tt })
    (record { runs = tt; begun = tt; onward = refl; meets = refl; spares = λ store g r. tt; walk = λ profile store. tt })
    (λ o. record { runs = tt; begun = tt; onward = refl; meets = refl; spares = λ store g r. r.1; walk = λ profile store. tt })
    (λ o. record { runs = tt; begun = tt; onward = refl; meets = refl; spares = λ store g r. r.1; walk = λ profile store. tt })

record Unchanged (store now : Store) (p : Phase) : Type 0 where
  ready : (g : ℕ) → IsReadyForCollectionAt store g p → IsReadyForCollectionAt now g p
  few : (n : ℕ) → HasFewCollected n p store → HasFewCollected n p now
  left : left_in_pass p now ≡ left_in_pass p store

unchanged : (refs : List ℕ) (store now : Store) (p : Phase) → MayGiveUp p → now ≡ once_released refs store → Unchanged store now p
unchanged [] store now p may is = subst (λ n. Unchanged store n p) (sym is) (record { ready = λ g r. r; few = λ n few. few; left = refl })
unchanged (o ∷ refs) store now p may is = subst (λ n. Unchanged store n p) (sym is) (record {
  ready = λ g r. ready-unheld (o ∷ []) store g p may r;
  few = λ n few. few-unheld (o ∷ []) store n p may few;
  left = left-unheld (o ∷ []) store p may;
})

-- A release goes on, hands out an object that died, or is done: no other answer has to be told of.
in_release : (P : DeathStep → Type 0) → P death_answer.Continue → ((o : ℕ) → P (death_answer.Died o)) → P death_answer.Gone → (refs : List ℕ) (now : Store) → P (release_answer refs now)
in_release P more died gone [] now = gone
in_release P more died gone (o ∷ refs) now = choice (count_of now o == 0)
  where
    choice : (b : Bool) → P (if b then death_answer.Died o else death_answer.Continue)
    choice true = died o
    choice false = more

-- a release that goes on had a reference
gave_one : (refs rest : List ℕ) (now : Store) → release_answer refs now ≡ death_answer.Continue → rest ≡ drop 1 refs → length rest < length refs
gave_one [] rest now e is = absurd (cc)
gave_one (o ∷ refs) rest now e is = let same : length rest ≡ length refs = ap length is in omega (arith, same)

module _ (c : Collection) (store : Store) (new : Collection) (now : Store) (answer : CollectStep) (gives : GivesUpIn c.phase c.release) (g : GivesUpNext c store new now answer) where
  may : MayGiveUp c.phase
  may = may_give_up c.phase c.release g.before g.had gives

  same : Unchanged store now c.phase
  same = unchanged (references_left g.before) store now c.phase may g.heap

  -- the heap is ready for the next step
  gives_up-ready : (script : Script) → IsReadyForCollection script c store → KeepsReady script new now answer
  gives_up-ready script ready = subst (λ (n : Collection). KeepsReady script n now answer) (sym g.collection)
      (subst (KeepsReady script (once_given_up c g.after (release_answer (references_left g.before) now)) now) (sym g.told)
      (in_release (λ a. KeepsReady script (once_given_up c g.after a) now (give_up_answer a)) (ready_then (Some g.after) may)
      (λ o. (
        record {
          runs = (lasts_at c.phase may).runs;
          generation = ready.generation;
          collected = same.few c.collected ready.collected;
          gives_up = may;
          spares = (lasts_at c.phase may).spares store c.generation ready.phase;
        },
        refl,
      ))
      (ready_then None tt) (references_left g.before) now))
    where
      ready_then : (r : Option Release) → GivesUpIn c.phase r → IsReadyForCollection script (record c { release = r }) now
      ready_then r gives_then = record {
        generation = ready.generation;
        phase = same.ready c.generation ready.phase;
        walk = (lasts_at c.phase may).walk (profile_of script.items) now;
        collected = same.few c.collected ready.collected;
        gives_up = gives_then;
      }

  -- generation, phase and the last pass stay
  gives_up-stays : (new.generation ≡ c.generation) × (new.phase ≡ c.phase) × (new.detected ≡ c.detected)
  gives_up-stays = subst (λ (n : Collection). (n.generation ≡ c.generation) × (n.phase ≡ c.phase) × (n.detected ≡ c.detected)) (sym g.collection)
      (in_release (λ a. ((once_given_up c g.after a).generation ≡ c.generation) × ((once_given_up c g.after a).phase ≡ c.phase) × ((once_given_up c g.after a).detected ≡ c.detected))
      (refl, refl, refl) (λ o. (refl, refl, refl)) (refl, refl, refl) (references_left g.before) now)

  gives_up-falls : answer ≡ answer_of.Continue → CollectFalls c store new now
  gives_up-falls went =
      subst (λ (n : Collection). CollectFalls c store n now) (sym g.collection)
      (subst (λ (r : Option Release). ComesNearer store c.phase r now (once_given_up c g.after (release_answer (references_left g.before) now)).phase
      (once_given_up c g.after (release_answer (references_left g.before) now)).release) (sym g.had)
      (in_release (λ a. release_answer (references_left g.before) now ≡ a → give_up_answer a ≡ answer_of.Continue
      → ComesNearer store c.phase (Some g.before) now (once_given_up c g.after a).phase (once_given_up c g.after a).release)
      (λ is e. inr (refl, omega (arith, same.left, gave_one (references_left g.before) (references_left g.after) now is g.rest)))
      (λ o is e. absurd (cc))
      (λ is e. inr (refl, omega (arith, same.left)))
      (references_left g.before) now refl (sym g.told ∙ went)))

  -- a step that gives something up does not end the collection
  goes_on : (a : DeathStep) → CollectionEndsWith c (give_up_answer a)
  goes_on (death_answer.Died o) = tt
  goes_on a = tt

  pub gives_up-step : (script : Script) (policy : Policy) → IsReadyForCollection script c store → c.detected ≡ detection_at c.phase → TakesStep script c store policy new now policy answer
  gives_up-step script policy ready is =
      let begun : IsBegun new.phase = subst IsBegun (sym gives_up-stays.1) (lasts_at c.phase may).begun in
      let onward : pass_of c.phase + passes_on c.phase ≤ pass_of new.phase = omega (arith, (lasts_at c.phase may).onward, ap pass_of gives_up-stays.1) in
      record {
        steps = gives_up-steps script policy c store new now answer gives g;
        ready = gives_up-ready script ready;
        falls = gives_up-falls;
        died = g.unheld;
        ends = subst (CollectionEndsWith c) (sym g.told) (goes_on (release_answer (references_left g.before) now));
        generation = gives_up-stays.0;
        begun = begun;
        onward = onward;
        detected = gives_up-stays.2 ∙ is;
        -- the stage of a step without a reachability pass
        stage = leaves_stage c.phase new.phase new.detected (gives_up-stays.2 ∙ is) begun (λ start. absurd (subst MayGiveUp start may)) onward;
        meets = subst (λ d. MeetsStage c.phase (stage_at new.phase d) new.phase) (sym (gives_up-stays.2 ∙ is))
            (subst (λ p. MeetsStage c.phase (stage_at p (detection_at c.phase)) p) (sym gives_up-stays.1) (lasts_at c.phase may).meets);
        keeps = subst (KeepsObjects store) (sym g.heap) (keeps-released (references_left g.before) store);
      }
