-- Worlds with a collection on top, the machine's steps from them, and what of a heap represents them.
use Rattle.std.proofs.Common.{◌≡◌, refl, sym, ◌∙◌, ap, subst, ℕ, ◌+◌, Bool, true, cond, inl, inr, List, [], ◌∷◌, ◌++◌, Option, None, add-zero, arith}
use Rattle.std.specs.Prelude.{flat_map, count_by, is_some}
use Rattle.std.proofs.lemmas.List.Sums.{sum_by-cons}
use Rattle.cg_value.specs.declared.Place.TheVariants.{Pend}
use Rattle.cg_script.specs.declared.Script.{Script}
use Rattle.cg_graph.specs.Member.{Includes}
use Rattle.cg_graph.specs.Holdings.{occurrences}
use Rattle.cg_graph.specs.Object.{Object}
use Rattle.cg_graph.specs.Rows.{Row}
use Rattle.cg_graph.specs.Store.{Store, objects_of, outside_of, list_at, waiting_for}
use Rattle.cg_graph.proofs.Members.{either}
use Rattle.cg_graph.proofs.Objects.{occurrences-append}
use Rattle.cg_machine.specs.declared.event.Event.{Event}
use Rattle.cg_machine.specs.World as machine
use Rattle.cg_machine.specs.World.{World, Activity, Releasing, Collecting, Running, with_stack, with_objects}
use Rattle.cg_machine.specs.Holdings.{holds, collect_holds, is_collection}
use Rattle.cg_machine.specs.Run.{StepOf}
use Rattle.cg_represents.specs.Represents.{Represents, Goes, CollectionWaits}
use Rattle.cg_represents.proofs.Representing.{Matches, represents, pushed, in_one}
use Rattle.cg_death.specs.declared.release.Release.{Release}
use Rattle.cg_death.proofs.Worlds.{at_stack, append_none}
use Rattle.cg_policy.specs.Policy.{Policy}
use Rattle.cg_collect.specs.declared.answer.CollectStep.{CollectStep}
use Rattle.cg_collect.specs.declared.collection.Collection.{Collection}
use Rattle.cg_collect.specs.declared.collection.Facts.{Facts}
use Rattle.cg_collect.specs.declared.phase.Phase.{Phase}
use Rattle.cg_collect.specs.declared.phase.Turn.{Turn}
use Rattle.cg_collect.specs.Phases.{machine_phase, on_stack, lines_left, store_after}
use Rattle.cg_collect.specs.Answers.{CollectionStands, CollectionShows, WentOn, CollectAnswer, CollectSteps, numbers_at}
use Rattle.cg_collect.specs.Turns.{collection_at, TurnSteps}

-- a world is that world with its own stack
pub spelled : (asked : Bool) (c : Collection) (store : Store) (policy : Policy) (w : World) (below : List Activity) → CollectionStands asked c store policy w
    below → CollectionStands asked c store policy (with_stack (on_stack asked c store ++ below) w) below
spelled asked c store policy w below s = subst (λ st. CollectionStands asked c store policy (with_stack st w) below) s.shows.top s

-- an answer for each world is one for those with an explicit stack
pub steps_at : (script : Script) (old : Collection) (store : Store) (policy : Policy) (new : Collection) (now : Store) (policy_now : Policy) (answer : CollectStep)
    → ((asked : Bool) (v : World) (below : List Activity) → CollectionStands asked old store policy (with_stack (on_stack asked old store ++ below) v) below
    → CollectAnswer script asked (with_stack (on_stack asked old store ++ below) v) below (lines_left script asked old old.phase store) new now policy_now answer)
    → CollectSteps script old store policy new now policy_now answer
steps_at script old store policy new now policy_now answer each asked w below s =
    at_stack (λ u. CollectAnswer script asked u below (lines_left script asked old old.phase store) new now policy_now answer) w (on_stack asked old store ++ below) s.shows.top
    (each asked w below (spelled asked old store policy w below s))

-- A turn that counts no object: the collection keeps its facts.
pub turn_steps : (script : Script) (facts : Facts) (phase : Phase) (store : Store) (policy : Policy) (now : Store) (policy_now : Policy) (turn : Turn)
    (next : Phase) (release : Option Release) (answer : CollectStep)
    → turn ≡ record { phase = next; release = release; collected = 0; answer = answer }
    → CollectSteps script (collection_at facts phase None) store policy (collection_at facts next release) now policy_now answer
    → TurnSteps script facts phase store policy now policy_now turn
turn_steps script facts phase store policy now policy_now turn next release answer is steps =
    subst (λ (t : Turn). TurnSteps script facts phase store policy now policy_now t) (sym is)
    (subst (λ n. CollectSteps script (collection_at facts phase None) store policy (record (collection_at facts next release) { collected = n }) now policy_now
    answer) (sym (add-zero facts.collected)) steps)

-- A call that made one step of the machine goes on over what that step leaves.
pub went : {asked : Bool} {below : List Activity} {left told : List Event} {c : Collection} {store : Store} {policy : Policy}
    → (script : Script) (w : World) (events : List Event) (after : World) → w.outcome ≡ Running → StepOf script w w.stack events after
    → left ++ events ≡ told ++ lines_left script asked c c.phase store → Represents (store_after c.phase store) after → policy.numbers ≡ numbers_at c.phase c.generation after.numbers
    → policy.running ≡ is_some (machine_phase c.phase []) → after.stack ≡ on_stack asked c store ++ below → after.budget ≡ w.budget → after.outcome ≡ w.outcome
    → WentOn script asked w below left told c store policy
went script w events after running step lines represents numbers runs top budget outcome = record {
  events = events;
  after = after;
  goes = in_one script w events after running step;
  lines = lines;
  shows = record { represents = represents; numbers = numbers; running = runs; top = top };
  keeps = record { budget = budget; outcome = outcome };
}

-- no step of the machine
pub stays : (script : Script) (w : World) → Goes script w [] w
stays script w = record { steps = []; run = tt; prints = refl; ends = refl; alone = tt }

-- A call that prints at most one line of the machine's last step, and makes no step.
pub only_tells : (script : Script) (asked : Bool) (w : World) (below : List Activity) (left told : List Event) (c : Collection) (store : Store) (policy : Policy)
    → left ≡ told ++ lines_left script asked c c.phase store → CollectionShows asked c store policy w below → WentOn script asked w below left told c store policy
only_tells script asked w below left told c store policy lines shows = record {
  events = [];
  after = w;
  goes = stays script w;
  lines = append_none left ∙ lines;
  shows = shows;
  keeps = record { budget = refl; outcome = refl };
}

-- below a collection there is none
pub none_below : (below : List Activity) → count_by is_collection below ≡ 0 → (c : machine.Collection) → Includes below (Collecting c) → ⊥
none_below [] none c m = m
none_below (a ∷ below) none c m =
    let split : count_by is_collection (a ∷ below) ≡ cond {A = ℕ} (is_collection a) 1 0 + count_by is_collection below = sum_by-cons (λ (b : Activity). cond {A = ℕ} (is_collection b) 1 0) a below in
    either m
    (λ e. let one : cond {A = ℕ} (is_collection a) 1 0 ≡ 1 = ap (λ b. cond {A = ℕ} (is_collection b) 1 0) e in absurd (omega (arith, none, split, one)))
    (λ k. none_below below (omega (arith, none, split)) c k)

-- What a call leaves of a heap except objects, lists and holds.
pub record LeavesRest (old new : Store) : Type 0 where
  pub last : new.last ≡ old.last
  pub names : new.names ≡ old.names
  pub waiting : (o : ℕ) → waiting_for new o ≡ waiting_for old o
  pub no_more : (r : Row) → Includes new.rows r → r.waits ≡ true → Includes old.rows r

-- the rows stay as they are
pub with_same_rows : (old new : Store) → new.last ≡ old.last → new.names ≡ old.names → new.rows ≡ old.rows → LeavesRest old new
with_same_rows old new last names rows = record {
  last = last;
  names = names;
  waiting = λ o i. Rattle.cg_graph.specs.Rows.waiting_in (rows i) o;
  no_more = λ r m waits. subst (λ (rs : List Row). Includes rs r) rows m;
}

-- The collection on top goes to another phase, over another heap.
module _ (old new : Store) (v : World) (below : List Activity) (a b : machine.Collection) (r : Represents old (with_stack (Collecting a ∷ below) v)) (alone : count_by is_collection below ≡ 0) where
  pub pending_is : CollectionWaits a.phase (list_at old Pend)
  pending_is = r.collection a (inl refl)

  matches_on : (objects : List Object) → objects_of new ≡ objects → LeavesRest old new → CollectionWaits b.phase (list_at new Pend)
      → Matches new (with_stack (Collecting b ∷ below) (with_objects objects v))
  matches_on objects are rest waits = record {
    objects = are;
    next_serial = r.next_serial ∙ ap (λ n. n + 1) (sym rest.last);
    names = rest.names ∙ r.names;
    deaths = λ d m. either m (λ e. absurd (cc)) (λ k. r.deaths d (inr k) ∙ sym (rest.waiting d.object));
    no_others = λ row m waits. let found = r.no_others row (rest.no_more row m waits) waits in either found.1 (λ e. absurd (cc)) (λ k. (found.0, inr k, found.2));
    collection = λ c m. either m (λ e. let same : b ≡ c = cc in subst (λ (x : machine.Collection). CollectionWaits x.phase (list_at new Pend)) same waits) (λ k. absurd (none_below below alone c k));
  }

  pub represents_on : (objects : List Object) → objects_of new ≡ objects → LeavesRest old new → CollectionWaits b.phase (list_at new Pend)
      → ((s : ℕ) → outside_of new s + occurrences s (collect_holds a.phase) ≡ outside_of old s + occurrences s (collect_holds b.phase))
      → Represents new (with_stack (Collecting b ∷ below) (with_objects objects v))
  represents_on objects are rest waits held =
      represents new (with_stack (Collecting b ∷ below) (with_objects objects v)) (matches_on objects are rest waits)
      (λ s. omega (arith, held s, r.outside s, occurrences-append s (collect_holds a.phase) (flat_map holds below), occurrences-append s (collect_holds b.phase) (flat_map holds below)))

  -- and gives these references up
  pub represents_giving_up : (refs : List ℕ) (objects : List Object) → objects_of new ≡ objects → LeavesRest old new → CollectionWaits b.phase (list_at new Pend)
      → ((s : ℕ) → outside_of new s + occurrences s (collect_holds a.phase) ≡ outside_of old s + (occurrences s refs + occurrences s (collect_holds b.phase)))
      → Represents new (with_stack (Releasing refs ∷ Collecting b ∷ below) (with_objects objects v))
  represents_giving_up refs objects are rest waits held =
      represents new (with_stack (Releasing refs ∷ Collecting b ∷ below) (with_objects objects v))
      (pushed new (with_objects objects v) refs (Collecting b ∷ below) (matches_on objects are rest waits))
      (λ s. omega (
        arith,
        held s,
        r.outside s,
        occurrences-append s (collect_holds a.phase) (flat_map holds below),
        occurrences-append s refs (collect_holds b.phase ++ flat_map holds below),
        occurrences-append s (collect_holds b.phase) (flat_map holds below),
      ))

pub represents_same : (store : Store) (v : World) (below : List Activity) (a b : machine.Collection) → Represents store (with_stack (Collecting a ∷ below) v) → count_by is_collection below ≡ 0
    → CollectionWaits b.phase (list_at store Pend) → ((s : ℕ) → occurrences s (collect_holds a.phase) ≡ occurrences s (collect_holds b.phase)) → Represents store (with_stack (Collecting b ∷ below) v)
represents_same store v below a b r alone waits held =
    represents_on store store v below a b r alone v.objects r.objects (with_same_rows store store refl refl refl) waits (λ s. omega (arith, held s))
