-- At the start, the heap does the machine's step.
use Rattle.std.proofs.Common.{◌≡◌, refl, sym, ◌∙◌, ap, subst, ℕ, ◌+◌, ◌<◌, ◌≤◌, Bool, true, false, List, [], ◌∷◌, ◌++◌, length, map, Option, Some, None, arith}
use Rattle.std.specs.Prelude.{◌==◌, ◌^◌, if◌then◌else◌, unwrap_or}
use Rattle.cg_value.specs.declared.Place.{Place}
use Rattle.cg_value.specs.declared.Place.TheVariants.{Gen, Frozen, Cand, Pend}
use Rattle.cg_script.specs.declared.Script.{Script}
use Rattle.cg_graph.specs.Holdings.{occurrences}
use Rattle.cg_graph.specs.Object.{Object, with_place, serials_at}
use Rattle.cg_graph.specs.Store.{Store, objects_of, list_at, place_of}
use Rattle.cg_machine.specs.declared.event.Event.{Event}
use Rattle.cg_machine.specs.declared.event.Event.TheVariants.{Gens, GcStart, GcCollectable}
use Rattle.cg_machine.specs.World as machine
use Rattle.cg_machine.specs.World.{World, Activity, Collecting, Numbers, with_stack, with_objects}
use Rattle.cg_machine.specs.Effects.{gens_line}
use Rattle.cg_machine.specs.Collect.{merged, merged_place, begun, survived, has_flag, stats, collectable, lines_if, Sorts, sorted, survivor_count, start_world}
use Rattle.cg_machine.specs.Program.{profile_of}
use Rattle.cg_represents.specs.Represents.{Represents}
use Rattle.cg_represents.proofs.Representing.{in_one}
use Rattle.cg_heap.specs.Calls.{IsListed}
use Rattle.cg_trial.specs.Split.{IsSameButPlaces}
use Rattle.cg_policy.specs.Policy.{Policy, with_numbers, IsBounded}
use Rattle.cg_policy.specs.Flagset.{bits_of}
use Rattle.cg_collect.specs.declared.answer.CollectStep.TheVariants as answer_of
use Rattle.cg_collect.specs.declared.collection.Facts.{Facts}
use Rattle.cg_collect.specs.declared.phase.Phase.{Phase}
use Rattle.cg_collect.specs.declared.phase.Phase.TheVariants as phase_of
use Rattle.cg_collect.specs.declared.phase.Turn.{Turn}
use Rattle.cg_collect.specs.Numbers.{AreSmall}
use Rattle.cg_collect.specs.Phases.{collection_of, lines_left}
use Rattle.cg_collect.specs.Ready.{IsClear, IsReadyForCollectionAt, HasItsWalk, IsApartUnseen, IsEmptyAt, HasFewCollected}
use Rattle.cg_collect.specs.Answers.{CollectionShows, CollectionStands, WentOn, CollectSteps}
use Rattle.cg_collect.specs.Stages.{detection_at}
use Rattle.cg_collect.specs.Turns.{Advances, collection_at, TakesTurn}
use Rattle.cg_collect.specs.Starting.{told_sizes, told_if, told_after_sizes, told_start}
use Rattle.cg_collect.proofs.PlacesOfObjects.{same_more, map_alike, place_there, objects_on, outside_on, list_has, list_length}
use Rattle.cg_collect.proofs.TakingTurns.{in_policy, leads_to, tells}
use Rattle.cg_collect.proofs.StartLines.{ready_told, walk_told, few_told, told_lines}
use Rattle.cg_collect.proofs.UnreachablePlaces.{nobody_waits, apart_unseen}
use Rattle.cg_collect.proofs.PlacesInStart.{Trace, same16}
use Rattle.cg_collect.proofs.Sorts.{chosen, places, sorts, objects_sorted, survivors_counted}
use Rattle.cg_collect.proofs.NothingIsMade.{keeps-same}
use Rattle.cg_collect.proofs.Worlds.{steps_at, with_same_rows, represents_on}

-- the phases after the start represent the machine's weak phase
shows_start : (asked : Bool) (facts : Facts) (s b : Bool) (old store : Store) (policy : Policy) (after : World) (below : List Activity)
    → Represents store after → policy.numbers ≡ after.numbers → policy.running ≡ true
    → after.stack ≡ Collecting (collection_of asked (collection_at facts phase_of.Start None) (machine.WeakClearing (list_at store Pend))) ∷ below
    → CollectionShows asked (collection_at facts (told_start s b old store) None) store policy after below
shows_start asked facts true b old store policy after below r n run top = record { represents = r; numbers = n; running = run; top = top }
shows_start asked facts false true old store policy after below r n run top = record { represents = r; numbers = n; running = run; top = top }
shows_start asked facts false false old store policy after below r n run top = record { represents = r; numbers = n; running = run; top = top }

-- the lines after the first
lines_start : (script : Script) (asked : Bool) (facts : Facts) (s b : Bool) (old store : Store) (sizes : Event) → sizes ≡ Gens (length (list_at old (Gen 0)))
    (length (list_at old (Gen 1))) (length (list_at old (Gen 2))) (length (list_at old Frozen))
    → b ≡ has_flag (bits_of facts.flags) collectable
    → lines_if s (sizes ∷ []) ++ lines_if b (map GcCollectable (list_at store Cand)) ≡ lines_left script asked (collection_at facts (told_start s b old store) None) (told_start s b old store) store
lines_start script asked facts true b old store sizes is flag = λ i. is i ∷ lines_if (flag i) (map GcCollectable (list_at store Cand))
lines_start script asked facts false b old store sizes is flag = sym (told_lines script asked facts store b)

ready_start : (g : ℕ) (s b : Bool) (old store : Store) → IsListed store → IsApartUnseen store → IsEmptyAt store Pend → IsReadyForCollectionAt store g (told_start s b old store)
ready_start g true b old store listed apart pending = (apart, pending)
ready_start g false b old store listed apart pending = ready_told store listed apart pending g b

walk_start : (profile : ℕ) (s b : Bool) (old store : Store) → IsListed store → IsApartUnseen store → IsEmptyAt store Pend → HasItsWalk profile store (told_start s b old store)
walk_start profile true b old store listed apart pending = tt
walk_start profile false b old store listed apart pending = walk_told store listed apart pending profile b

few_start : (n : ℕ) (s b : Bool) (old store : Store) → n ≡ 0 → HasFewCollected n (told_start s b old store) store
few_start n true b old store e = e
few_start n false b old store e = few_told n b store e

-- no reachability pass comes next
pub apart_start : (s b : Bool) (old store : Store) → detection_at (unwrap_or (if s then Some (told_sizes old) else None) (told_if b store)) ≡ None
apart_start true b old store = refl
apart_start false true old store = refl
apart_start false false old store = refl

onward_start : (s b : Bool) (old store : Store) → Advances phase_of.Start (told_start s b old store)
onward_start true b old store = (omega arith, refl)
onward_start false true old store = (omega arith, refl)
onward_start false false old store = (omega arith, refl)

-- what the code prints first
told_start-is : (s b : Bool) (old store : Store) → unwrap_or (if s then Some (told_sizes old) else None) (told_if b store) ≡ told_start s b old store
told_start-is true b old store = refl
told_start-is false b old store = refl

-- the numbers stay small
pub still_bounded : (g n : ℕ) (numbers : Numbers) → AreSmall numbers → n ≤ 1000001 → IsBounded (survived g n numbers)
still_bounded g n numbers below few = record {
  zero = omega (arith, below.zero);
  one = omega (arith, below.one);
  two = omega (arith, below.two);
  pending = waits (g == 0) (g == 1);
  total = left (g == 2);
}
  where
    waits : (b c : Bool) → (if b then numbers.pending else (if c then numbers.pending + n else 0)) < 2 ^ 127
    waits true c = omega (arith, below.pending)
    waits false true = omega (arith, below.pending, few)
    waits false false = omega arith

    left : (b : Bool) → (if b then n else numbers.total) < 2 ^ 63
    left true = omega (arith, few)
    left false = omega (arith, below.total)

renumbered : (store : Store) (w : World) (numbers : Numbers) → Represents store w → Represents store (record w { numbers = numbers })
renumbered store w numbers r = record { objects = r.objects; next_serial = r.next_serial; names = r.names; outside = r.outside; deaths = r.deaths; no_others = r.no_others; collection = r.collection }

module _ (script : Script) (facts : Facts) (s0 s1 s2 s4 s5 s6 : Store) (t : Trace script facts.generation s0 s1 s2 s4 s5 s6) (listed0 : IsListed s0)
    (listed4 : IsListed s4) (listed6 : IsListed s6) (pending : IsEmptyAt s6 Pend) (policy : Policy) where
  abbrev g : ℕ
  g = facts.generation

  abbrev with_stats : Bool
  with_stats = has_flag (bits_of facts.flags) stats

  abbrev with_lines : Bool
  with_lines = has_flag (bits_of facts.flags) collectable

  abbrev places_of : Object → Place
  places_of = places script g s0 s1 s2 s4 s5 s6 t

  abbrev counted : ℕ
  counted = length (list_at s4 (Gen g))

  abbrev policy_now : Policy
  policy_now = with_numbers (survived g counted policy.numbers) policy

  module _ (asked : Bool) (v : World) (below : List Activity) (s : CollectionStands asked (collection_at facts phase_of.Start None) s0 policy
      (with_stack (Collecting (collection_of asked (collection_at facts phase_of.Start None) machine.Start) ∷ below) v) below) where
    abbrev first_one : machine.Collection
    first_one = collection_of asked (collection_at facts phase_of.Start None) machine.Start

    abbrev w : World
    w = with_stack (Collecting first_one ∷ below) v

    r : Represents s0 w
    r = s.shows.represents

    merged_objects : objects_of s1 ≡ (merged g w).objects
    merged_objects =
        objects_on s0 s1 t.merges.same
        ∙ map_alike (λ x. with_place (place_of s1 x.serial) x) (λ x. with_place (merged_place g x.place) x) (objects_of s0)
        (λ x m. ap (λ p. with_place p x) (t.merges.places x.serial ∙ ap (merged_place g) (place_there s0 x m)))
        ∙ ap (map (λ x. with_place (merged_place g x.place) x)) r.objects

    sorts_merged : Sorts script g (merged g w) (chosen script g s0 s1 s2 s4 s5 s6 t) places_of
    sorts_merged =
        subst (λ (os : List Object). Sorts script g (with_objects os (merged g w)) (chosen script g s0 s1 s2 s4 s5 s6 t) places_of) merged_objects
        (sorts script g s0 s1 s2 s4 s5 s6 t (merged g w) (t.merges.same.names ∙ r.names) (λ o. outside_on s0 s1 t.merges.same o ∙ r.outside o))

    objects_after : objects_of s6 ≡ sorted g places_of (merged g w).objects
    objects_after = objects_sorted script g s0 s1 s2 s4 s5 s6 t ∙ ap (sorted g places_of) merged_objects

    numbers_after : survived g counted policy.numbers ≡ survived g (survivor_count g places_of (merged g w).objects) (begun g w.numbers)
    numbers_after =
        let count : counted ≡ survivor_count g places_of (merged g w).objects = survivors_counted script g s0 s1 s2 s4 s5 s6 t listed4 ∙ ap (survivor_count g places_of) merged_objects in
        λ i. survived g (count i) (s.shows.numbers i)

    abbrev after : World
    after = start_world first_one places_of below (merged g w)

    events : List Event
    events = (GcStart g ∷ []) ++ lines_if with_stats (gens_line w.objects ∷ []) ++ lines_if with_lines (map GcCollectable (list_at s6 Cand))

    sizes : gens_line w.objects ≡ Gens (length (list_at s0 (Gen 0))) (length (list_at s0 (Gen 1))) (length (list_at s0 (Gen 2))) (length (list_at s0 Frozen))
    sizes = ap gens_line (sym r.objects) ∙ (λ i. Gens (sym (list_length s0 listed0 (Gen 0)) i) (sym (list_length s0 listed0 (Gen 1)) i)
        (sym (list_length s0 listed0 (Gen 2)) i) (sym (list_length s0 listed0 Frozen) i))

    same06 : IsSameButPlaces s0 s6
    same06 = same_more s0 s1 s6 t.merges.same (same16 script g s0 s1 s2 s4 s5 s6 t)

    represents_after : Represents s6 after
    represents_after =
        represents_on s0 s6 (record v { numbers = survived g (survivor_count g places_of (merged g w).objects) (begun g w.numbers) }) below first_one
        (record first_one { phase = machine.WeakClearing [] })
        (renumbered s0 w (survived g (survivor_count g places_of (merged g w).objects) (begun g w.numbers)) r) s.alone
        (sorted g places_of (merged g w).objects) objects_after (with_same_rows s0 s6 same06.last same06.names same06.rows) pending
        (λ q. let e = outside_on s0 s6 same06 q in omega (arith, e))

    went_on : WentOn script asked w below [] (GcStart g ∷ []) (collection_at facts (told_start with_stats with_lines s0 s6) None) s6 policy_now
    unfolding events
    went_on = record {
      events = events;
      after = after;
      goes = in_one script w events after s.running (record {
        chosen = chosen script g s0 s1 s2 s4 s5 s6 t;
        places = places_of;
        sorts = sorts_merged;
        world = refl;
        collectables = list_at s6 Cand;
        any_order = λ o. list_has s6 listed6 Cand o ∙ ap (λ os. occurrences o (serials_at os Cand)) objects_after;
        lines = refl;
      });
      lines = ap (λ l. GcStart g ∷ l) (lines_start script asked facts with_stats with_lines s0 s6 (gens_line w.objects) sizes refl);
      shows = shows_start asked facts with_stats with_lines s0 s6 policy_now after below represents_after numbers_after s.shows.running
          (λ i. Collecting (collection_of asked (collection_at facts phase_of.Start None) (machine.WeakClearing (sym pending i))) ∷ below);
      keeps = record { budget = refl; outcome = refl };
    }

  steps_start : CollectSteps script (collection_at facts phase_of.Start None) s0 policy (collection_at facts (told_start with_stats with_lines s0 s6) None) s6 policy_now (answer_of.Emit (GcStart g))
  steps_start =
      steps_at script (collection_at facts phase_of.Start None) s0 policy (collection_at facts (told_start with_stats with_lines s0 s6) None) s6 policy_now (answer_of.Emit (GcStart g))
      (λ asked v below s. went_on asked v below s)

-- The turn of the start, with the numbers and the phases that the code has.
module _ (script : Script) (facts : Facts) (s0 s1 s2 s4 s5 s6 : Store) (t : Trace script facts.generation s0 s1 s2 s4 s5 s6) (listed0 : IsListed s0)
    (listed4 : IsListed s4) (listed6 : IsListed s6) (clear : IsClear s0)
    (sizes : Option Phase) (sizes_are : sizes ≡ (if has_flag (bits_of facts.flags) stats then Some (told_sizes s0) else None)) (told : Phase) (told_is : told
    ≡ unwrap_or sizes (told_after_sizes (bits_of facts.flags) s6))
    (turn : Turn) (is : turn ≡ record { phase = told; release = None; collected = 0; answer = answer_of.Emit (GcStart facts.generation) }) where
  abbrev with_sizes : Bool
  with_sizes = has_flag (bits_of facts.flags) stats

  abbrev with_members : Bool
  with_members = has_flag (bits_of facts.flags) collectable

  waits_none : IsEmptyAt s6 Pend
  waits_none = nobody_waits script facts.generation s0 s1 s2 s4 s5 s6 t listed0 listed6 clear

  leads_there : turn ≡ record { phase = told_start with_sizes with_members s0 s6; release = None; collected = 0; answer = answer_of.Emit (GcStart facts.generation) }
  leads_there = leads_to is (told_is ∙ ap (λ (x : Option Phase). unwrap_or x (told_after_sizes (bits_of facts.flags) s6)) sizes_are ∙ told_start-is with_sizes with_members s0 s6)

  pub takes_start : (policy policy_after : Policy) (survivors : ℕ) → survivors ≡ length (list_at s4 (Gen facts.generation)) → policy_after
      ≡ with_numbers (survived facts.generation survivors policy.numbers) policy
      → TakesTurn script facts phase_of.Start s0 policy s6 policy_after turn
  takes_start policy policy_after survivors count after =
      let unseen = apart_unseen script facts.generation s0 s1 s2 s4 s5 s6 t listed0 listed6 clear in
      in_policy (after ∙ ap (λ (n : ℕ). with_numbers (survived facts.generation n policy.numbers) policy) count)
      (tells leads_there (steps_start script facts s0 s1 s2 s4 s5 s6 t listed0 listed4 listed6 waits_none policy)
      (ready_start facts.generation with_sizes with_members s0 s6 listed6 unseen waits_none) (walk_start (profile_of script.items) with_sizes with_members s0 s6 listed6 unseen waits_none)
      (λ n none. few_start n with_sizes with_members s0 s6 none) (onward_start with_sizes with_members s0 s6)
      (keeps-same s0 s6 (same_more s0 s1 s6 t.merges.same (same16 script facts.generation s0 s1 s2 s4 s5 s6 t))))
