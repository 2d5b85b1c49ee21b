-- A command of the collector does the machine's effect.
use Rattle.std.proofs.Common.{◌≡◌, refl, sym, ◌∙◌, ap, subst, ◌+◌, Bool, false, List, [], map, Option, Some, None, Result, Ok, Err}
use Rattle.std.specs.Prelude.{ℤ, ok_or, option_to_list}
use Rattle.cg_value.specs.declared.Val.TheVariants as val
use Rattle.cg_value.specs.declared.Place.{Place}
use Rattle.cg_script.specs.declared.Command.{Command}
use Rattle.cg_script.specs.declared.Command.TheVariants.{Collect}
use Rattle.cg_graph.specs.Member.{Includes}
use Rattle.cg_graph.specs.Object.{with_place}
use Rattle.cg_graph.specs.Rows.{Row}
use Rattle.cg_graph.specs.Store.{Store, waiting_for}
use Rattle.cg_graph.specs.Value.{item}
use Rattle.cg_machine.specs.declared.event.Event.{Event}
use Rattle.cg_machine.specs.World.{World, Numbers}
use Rattle.cg_machine.specs.Refusals.{bad_generation, ◌>>=◌}
use Rattle.cg_machine.specs.Effects.{Changes, Collects as CollectsEffect, replaced, prints}
use Rattle.cg_machine.specs.Commands.{effect}
use Rattle.cg_represents.specs.Represents.{Represents, CollectionWaits}
use Rattle.cg_policy.specs.Policy.{Policy, with_numbers}
use Rattle.cg_policy.specs.Laws.{policy_of}
use Rattle.cg_commands.specs.declared.done.Done.{Done}
use Rattle.cg_commands.specs.declared.done.Done.TheVariants.{Changed, Calls, Collects, Quits, Tells}
use Rattle.cg_commands.specs.declared.done.Refusal.{Refusal}
use Rattle.cg_commands.specs.declared.done.Refusal.TheVariants.{NoName, WrongKind, NoIndex, NoKey, NoAttribute, NotWeak, NotCallable, BadGeneration, Unhashable, OutOfMemory, ObjectLimit, EntryLimit, InCollection}
use Rattle.cg_commands.specs.declared.locals.Locals.{Locals}
use Rattle.cg_commands.specs.Answers.{AnswersOnHeap, Performs, policy_after}
use Rattle.cg_commands.specs.Attempts.{Attempts}
use Rattle.cg_commands.specs.Controls.{IsControl, IsAsked, IsOfObjectsAndNumbers, Leaves}
use Rattle.cg_commands.specs.Growth.{makes_object}
use Rattle.cg_commands.specs.Places.{Replaces, KeepsAllButPlaces}
use Rattle.cg_commands.specs.Stands.{HeapAndLocalsStandFor}
use Rattle.cg_commands.proofs.ChangesOfHeaps.{gives_nothing}
use Rattle.cg_commands.proofs.GrowthOfHeaps.{nothing_made, grows_within}

-- moved objects, in the world that the heap represents
replaced_represents : (places : Place → Place) (numbers : Numbers → Numbers) (old new : Store) → Replaces places old new → (w : World) → Represents old w
    → Represents new (record w { objects = replaced places w; numbers = numbers w.numbers })
replaced_represents places numbers old new moves w r = record {
  objects = moves.objects ∙ ap (map (λ x. with_place (places x.place) x)) r.objects;
  next_serial = r.next_serial ∙ ap (λ n. n + 1) (sym moves.keeps.last);
  names = moves.keeps.names ∙ r.names;
  outside = λ s. moves.outside s ∙ r.outside s;
  deaths = λ d m. r.deaths d m ∙ ap (λ (rows : List Row). waiting_for (record old { rows = rows }) d.object) (sym moves.keeps.rows);
  no_others = λ row m waits. r.no_others row (subst (λ rows. Includes rows row) moves.keeps.rows m) waits;
  collection = λ c m. subst (CollectionWaits c.phase) (sym moves.waiting) (r.collection c m);
}

module _ (old : Store) (was : Policy) (locals : Option Locals) (room : Bool) (given command : Command) (is : given ≡ command) (control : IsControl command) (none : makes_object command ≡ false) where
  -- It is a change of objects and numbers, with these lines.
  module _ (line : Option Event) (after : World → World) (does : (w : World) → HeapAndLocalsStandFor old locals w → was ≡ policy_of w → effect w command
      ≡ Ok (Changes false (option_to_list line) [] (after w))) (places_alone : (w : World) → IsOfObjectsAndNumbers w (effect w command)) where
    changed : (new : Store) → ((w : World) → Represents old w → Represents new (after w)) → (w : World) → HeapAndLocalsStandFor old locals w → was ≡ policy_of w
        → AnswersOnHeap (Ok (Changed line (item val.None))) (effect w command) old new
    changed new represents w s same = gives_nothing (effect w command) line (item val.None) false (after w) old new (does w s same) refl (represents w s.represents)

    changes : (new : Store) → KeepsAllButPlaces old new → ((w : World) → Represents old w → Represents new (after w)) → (now : Policy)
        → ((w : World) → was ≡ policy_of w → now ≡ policy_of (after w)) → (done : Done) → done ≡ Changed line (item val.None) → Attempts old was locals room
        given new now (Ok done)
    changes new keeps represents now policy done told =
        subst (λ c. Attempts old was locals room c new now (Ok done)) (sym is)
        (subst (λ d. Attempts old was locals room command new now (Ok d)) (sym told) (record {
          performs = λ w s same. record {
            heap = changed new represents w s same;
            policy = policy w same ∙ ap (λ r. policy_after (Ok (Changed line (item val.None))) r was) (sym (does w s same));
          };
          leaves = λ c. record { heap = keeps; world = places_alone; nothing = refl };
          grows = λ w s same. grows_within command w room old new (Ok (Changed line (item val.None))) s.represents (changed new represents w s same)
              (nothing_made (Ok (Changed line (item val.None))) (makes_object command) room none);
        }))

  nothing_moves : KeepsAllButPlaces old old
  nothing_moves = record { last = refl; names = refl; rows = refl; objects = refl; holds = refl }

  -- it sets numbers
  pub sets : (numbers : Numbers → Numbers) → ((w : World) → effect w command ≡ Ok (Changes false [] [] (record w { numbers = numbers w.numbers })))
      → (now : Policy) → now ≡ with_numbers (numbers was.numbers) was → (done : Done) → done ≡ Changed None (item val.None) → Attempts old was locals room given
      old now (Ok done)
  sets numbers does now set =
      changes None (λ w. record w { numbers = numbers w.numbers }) (λ w s same. does w) (λ w. subst (IsOfObjectsAndNumbers w) (sym (does w)) refl) old nothing_moves
      (λ w r. record { objects = r.objects; next_serial = r.next_serial; names = r.names; outside = r.outside; deaths = r.deaths; no_others = r.no_others; collection = r.collection })
      now (λ w same. set ∙ ap (λ (p : Policy). with_numbers (numbers p.numbers) p) same)

  -- it prints a line
  pub tells : (line : World → Event) → ((w : World) → effect w command ≡ prints w (line w)) → (here : Event) → ((w : World) → Represents old w → was
      ≡ policy_of w → line w ≡ here) → (done : Done) → done ≡ Changed (Some here) (item val.None) → Attempts old was locals room given old was (Ok done)
  tells line does here told =
      changes (Some here) (λ w. w) (λ w s same. does w ∙ ap (prints w) (told w s.represents same)) (λ w. subst (IsOfObjectsAndNumbers w) (sym (does w)) refl) old nothing_moves
      (λ w r. r) was (λ w same. same)

  -- it moves objects, and sets numbers
  pub replaces : (places : Place → Place) (numbers : Numbers → Numbers)
      → ((w : World) → effect w command ≡ Ok (Changes false [] [] (record w { objects = replaced places w; numbers = numbers w.numbers }))) → (new : Store)
      → Replaces places old new
      → (now : Policy) → now ≡ with_numbers (numbers was.numbers) was → (done : Done) → done ≡ Changed None (item val.None) → Attempts old was locals room given new now (Ok done)
  replaces places numbers does new moves now set =
      changes None (λ w. record w { objects = replaced places w; numbers = numbers w.numbers }) (λ w s same. does w) (λ w. subst (IsOfObjectsAndNumbers w) (sym (does w)) refl) new moves.keeps
      (λ w r. replaced_represents places numbers old new moves w r)
      now (λ w same. set ∙ ap (λ (p : Policy). with_numbers (numbers p.numbers) p) same)

-- What `collect` answers. Nothing has changed.
module _ (store : Store) (was : Policy) (locals : Option Locals) (number : ℤ) where
  asks_leaves : (answer : Result Done Refusal) → IsAsked number answer → Leaves store was (Collect number) store was answer
  asks_leaves (Ok (Changed line given_up)) asked = absurd asked
  asks_leaves (Ok (Calls f)) asked = absurd asked
  asks_leaves (Ok (Collects g)) asked = record { number = number; is = refl; asked = asked; store = refl; policy = refl }
  asks_leaves (Ok Quits) asked = absurd asked
  asks_leaves (Ok (Tells lines)) asked = absurd asked
  asks_leaves (Err refusal) asked = record { number = number; is = refl; asked = asked; store = refl; policy = refl }

  asks_performs : (answer : Result Done Refusal) → IsAsked number answer → Performs store was locals (λ w. effect w (Collect number)) store was answer
  unfolding ◌>>=◌
  asks_performs (Ok (Changed line given_up)) asked w s same = absurd asked
  asks_performs (Ok (Calls f)) asked w s same = absurd asked
  asks_performs (Ok (Collects g)) asked w s same = record { heap = (ap (λ x. ok_or x bad_generation >>= (λ g. Ok (CollectsEffect g))) asked.0, asked.1, refl); policy = refl }
  asks_performs (Ok Quits) asked w s same = absurd asked
  asks_performs (Ok (Tells lines)) asked w s same = absurd asked
  asks_performs (Err NoName) asked w s same = absurd asked
  asks_performs (Err WrongKind) asked w s same = absurd asked
  asks_performs (Err NoIndex) asked w s same = absurd asked
  asks_performs (Err NoKey) asked w s same = absurd asked
  asks_performs (Err NoAttribute) asked w s same = absurd asked
  asks_performs (Err NotWeak) asked w s same = absurd asked
  asks_performs (Err NotCallable) asked w s same = absurd asked
  asks_performs (Err BadGeneration) asked w s same = record { heap = (ap (λ x. ok_or x bad_generation >>= (λ g. Ok (CollectsEffect g))) asked, refl); policy = refl }
  asks_performs (Err Unhashable) asked w s same = absurd asked
  asks_performs (Err OutOfMemory) asked w s same = absurd asked
  asks_performs (Err ObjectLimit) asked w s same = absurd asked
  asks_performs (Err EntryLimit) asked w s same = absurd asked
  asks_performs (Err InCollection) asked w s same = absurd asked

  pub asks : (room : Bool) (given : Command) → given ≡ Collect number → (answer : Result Done Refusal) → IsAsked number answer → Attempts store was locals room given store was answer
  asks room given is answer asked = subst (λ c. Attempts store was locals room c store was answer) (sym is) (record {
    performs = asks_performs answer asked;
    leaves = λ control. asks_leaves answer asked;
    grows = λ w s same. grows_within (Collect number) w room store store answer s.represents (asks_performs answer asked w s same).heap (nothing_made answer false room refl);
  })
