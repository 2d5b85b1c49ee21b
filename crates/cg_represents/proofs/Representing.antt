-- What follows for the layers above from what a heap represents: a count is the in-degree, a dying object has a death on
-- the stack, and a release changes only the holds.
use Rattle.std.proofs.Common.{◌≡◌, refl, sym, ◌∙◌, ap, ℕ, ◌+◌, ◌≤◌, true, false, cond, inl, inr, List, [], ◌∷◌, ◌++◌, arith}
use Rattle.std.specs.Prelude.{flat_map, ◌==◌}
use Rattle.std.specs.List.{list_any}
use Rattle.std.proofs.lemmas.Bool.{eqb-true, eq-eqb}
use Rattle.cg_value.specs.declared.Place.TheVariants.{Pend}
use Rattle.cg_script.specs.declared.Script.{Script}
use Rattle.cg_graph.specs.Member.{Includes}
use Rattle.cg_graph.specs.Holdings.{occurrences, graph_of, entry_holdings, name_holdings}
use Rattle.cg_graph.specs.Rows.{Row}
use Rattle.cg_graph.specs.Store.{Store, objects_of, outside_of, count_of, inner, list_at, waiting_for}
use Rattle.cg_graph.proofs.Objects.{inner-holdings, occurrences-append}
use Rattle.cg_graph.proofs.Members.{either, true_or}
use Rattle.cg_machine.specs.declared.event.Event.{Event}
use Rattle.cg_machine.specs.World.{World, Activity, Releasing, Dying, Collecting, Death, Collection, Running, with_stack}
use Rattle.cg_machine.specs.Holdings.{holdings, holds, in_degree, is_death_of}
use Rattle.cg_machine.specs.Run.{StepOf, StepTaken}
use Rattle.cg_represents.proofs.Lists.{occurrences-cons}
use Rattle.cg_represents.specs.Represents.{Represents, Goes, MakesDetectionsAlone, detects, CollectionWaits}
use Rattle.cg_represents.specs.Orderly.{death_waits}

append_none : (events : List Event) → events ++ [] ≡ events
append_none [] = refl
append_none (e ∷ events) = ap (λ l. e ∷ l) (append_none events)

pub in_one : (script : Script) (w : World) (events : List Event) (after : World) → w.outcome ≡ Running → StepOf script w w.stack events after → Goes script w events after
in_one script w events after running step = record {
  steps = record { events = events; world = after } ∷ [];
  run = (record { running = running; step = step }, tt);
  prints = append_none events;
  ends = refl;
  alone = tt;
}

-- one more step, where neither it nor the next is a reachability pass
alone_after : (w : World) (step : StepTaken) (steps : List StepTaken) → detects w.stack ≡ false → detects step.world.stack ≡ false
    → MakesDetectionsAlone step.world steps → MakesDetectionsAlone w (step ∷ steps)
alone_after w step [] none next alone = tt
alone_after w step (one ∷ []) none next alone = (none, (next, tt))
alone_after w step (one ∷ two ∷ steps) none next alone = (none, alone)

-- a step that prints nothing and then more steps, where neither it nor the next is a reachability pass
pub and_then : (script : Script) (w mid : World) (events : List Event) (after : World) → w.outcome ≡ Running → StepOf script w w.stack [] mid → detects w.stack
    ≡ false → detects mid.stack ≡ false → Goes script mid events after → Goes script w events after
and_then script w mid events after running step none next rest = record {
  steps = record { events = []; world = mid } ∷ rest.steps;
  run = (record { running = running; step = step }, rest.run);
  prints = rest.prints;
  ends = rest.ends;
  alone = alone_after w (record { events = []; world = mid }) rest.steps none next rest.alone;
}

pub occurrences-one : (o : ℕ) → occurrences o (o ∷ []) ≡ 1
occurrences-one o = occurrences-cons o o [] ∙ ap (λ b. cond b 1 0 + 0) (eq-eqb o o refl)

-- the heap's count is the in-degree
pub count-in_degree : (store : Store) (w : World) → Represents store w → (s : ℕ) → count_of store s ≡ in_degree w s
count-in_degree store w r s =
    let within : inner store s ≡ occurrences s (name_holdings w.names ++ (1 ∷ []) ++ entry_holdings (graph_of w.objects)) =
    inner-holdings store s
    ∙ ap (λ ns. occurrences s (name_holdings ns ++ (1 ∷ []) ++ entry_holdings (graph_of (objects_of store)))) r.names
    ∙ ap (λ os. occurrences s (name_holdings w.names ++ (1 ∷ []) ++ entry_holdings (graph_of os))) r.objects in
    (λ i. within i + r.outside s i)
    ∙ sym (occurrences-append s (name_holdings w.names ++ (1 ∷ []) ++ entry_holdings (graph_of w.objects)) (flat_map holds w.stack))

-- what an activity holds, the stack holds
pub held_by_one : (o : ℕ) (stack : List Activity) (a : Activity) → Includes stack a → occurrences o (holds a) ≤ occurrences o (flat_map holds stack)
held_by_one o [] a m = absurd m
held_by_one o (b ∷ stack) a m = rw (occurrences-append o (holds b) (flat_map holds stack))
    (either m (λ e. let same : occurrences o (holds b) ≡ occurrences o (holds a) = ap (λ c. occurrences o (holds c)) e in omega (arith, same))
    (λ k. let below = held_by_one o stack a k in omega (arith, below)))

-- what the stack holds is held
pub held_by_stack : (o : ℕ) (w : World) → occurrences o (flat_map holds w.stack) ≤ occurrences o (holdings w)
held_by_stack o w = rw (occurrences-append o (name_holdings w.names ++ (1 ∷ []) ++ entry_holdings (graph_of w.objects)) (flat_map holds w.stack)) (omega arith)

-- an object that is dying has a death on the stack
pub death_found : (o : ℕ) (stack : List Activity) → list_any (is_death_of o) stack ≡ true → (d : Death) × Includes stack (Dying d) × (d.object ≡ o)
death_found o [] h = cc
death_found o (Dying d ∷ stack) h = either (true_or (d.object == o) (list_any (is_death_of o) stack) h) (λ e. (d, inl refl, eqb-true d.object o e))
    (λ e. let f = death_found o stack e in (f.0, inr f.1, f.2))
death_found o (a ∷ stack) h = let f = death_found o stack h in (f.0, inr f.1, f.2)

-- A heap represents a world, apart from the outside holds.
pub record Matches (store : Store) (w : World) : Type 0 where
  pub objects : objects_of store ≡ w.objects
  pub next_serial : w.next_serial ≡ store.last + 1
  pub names : store.names ≡ w.names
  pub deaths : (d : Death) → Includes w.stack (Dying d) → death_waits d.phase ≡ waiting_for store d.object
  pub no_others : (r : Row) → Includes store.rows r → r.waits ≡ true → (d : Death) × Includes w.stack (Dying d) × (d.object ≡ r.referent)
  pub collection : (c : Collection) → Includes w.stack (Collecting c) → CollectionWaits c.phase (list_at store Pend)

pub matches : (store : Store) (w : World) → Represents store w → Matches store w
matches store w r = record { objects = r.objects; next_serial = r.next_serial; names = r.names; deaths = r.deaths; no_others = r.no_others; collection = r.collection }

pub represents : (store : Store) (w : World) → Matches store w → ((s : ℕ) → outside_of store s ≡ occurrences s (flat_map holds w.stack)) → Represents store w
represents store w m outside = record { objects = m.objects; next_serial = m.next_serial; names = m.names; outside = outside; deaths = m.deaths; no_others = m.no_others; collection = m.collection }

-- One release more or less changes only the holds.
module _ (store : Store) (w : World) (references : List ℕ) (below : List Activity) where
  pub pushed : Matches store (with_stack below w) → Matches store (with_stack (Releasing references ∷ below) w)
  pushed m = record {
    objects = m.objects;
    next_serial = m.next_serial;
    names = m.names;
    deaths = λ d i. m.deaths d (either i (λ e. cc) (λ k. k));
    no_others = λ r i waits. let found = m.no_others r i waits in (found.0, inr found.1, found.2);
    collection = λ c i. m.collection c (either i (λ e. cc) (λ k. k));
  }

  pub popped : Matches store (with_stack (Releasing references ∷ below) w) → Matches store (with_stack below w)
  popped m = record {
    objects = m.objects;
    next_serial = m.next_serial;
    names = m.names;
    deaths = λ d i. m.deaths d (inr i);
    no_others = λ r i waits. let found = m.no_others r i waits in (found.0, either found.1 (λ e. cc) (λ k. k), found.2);
    collection = λ c i. m.collection c (inr i);
  }
