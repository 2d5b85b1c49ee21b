-- In the last phase of a death, the heap does the machine's step.
use Rattle.std.proofs.Common.{◌≡◌, refl, sym, ◌∙◌, ap, subst, ℕ, suc, ◌-◌, ◌<◌, inl, inr, List, [], ◌∷◌, ◌++◌, length, length-append, Option, Some, None, arith}
use Rattle.std.specs.Prelude.{flat_map, unwrap_or, option_map, slice_get}
use Rattle.std.proofs.lemmas.Bool.{cases_eq}
use Rattle.std.specs.FinMap as fin
use Rattle.cg_value.specs.declared.Entry.{Entry}
use Rattle.cg_script.specs.declared.Script.{Script}
use Rattle.cg_graph.specs.Value.{references, entry_references, last_entry, without_last}
use Rattle.cg_graph.specs.Holdings.{occurrences}
use Rattle.cg_graph.specs.Object.{Object, change, without, with_entries as object_entries, entries_of as object_entries_of}
use Rattle.cg_graph.specs.Places.{place_number}
use Rattle.cg_graph.specs.Store.{Store, Node, objects_of, object_from, outside_of, outside_in, inner, count_of, IsLive, entries_of, entries_in, place_of}
use Rattle.cg_graph.specs.Changes.{held, rewritten, gone, with_entries}
use Rattle.cg_graph.proofs.Maps.{get-remove_same, get-remove_other}
use Rattle.cg_graph.proofs.Objects.{objects-changed, objects-remove, object-at, occurrences-append}
use Rattle.cg_machine.specs.World.{World, Activity, Releasing, Emptying, push, with_stack, with_change}
use Rattle.cg_machine.specs.declared.event.Event.TheVariants.{Free}
use Rattle.cg_machine.specs.Holdings.{holds}
use Rattle.cg_machine.specs.Dying.{empty_one, death_at}
use Rattle.cg_death.specs.declared.release.Release.{Release}
use Rattle.cg_death.specs.declared.answer.DeathStep.TheVariants as answer_of
use Rattle.cg_death.specs.declared.phase.Phase.TheVariants as phase_of
use Rattle.cg_death.specs.Activities.{death_of, references_left}
use Rattle.cg_death.specs.Answers.{DeathStands, WentOn, TurnSteps, numbers_after}
use Rattle.cg_death.proofs.TakingTurns.{telling, turn_at}
use Rattle.cg_death.proofs.Worlds.{went_to, matches-alike}
use Rattle.cg_represents.proofs.Representing.{Matches, matches, represents, pushed}
use Rattle.cg_death.proofs.Turns.{here, ended, waits_are, steps_to}
use Rattle.cg_heap.proofs.ReferenceLemmas.{references-append}
use Rattle.cg_heap.proofs.HoldLemmas.{entries_hold, outside-held, outside-rewritten}
use Rattle.cg_heap.proofs.CallerLemmas.{lives_on, kinds-rewritten}
use Rattle.cg_death.proofs.Places.{matches-held, left-cases, still-waits}

-- an object's entries in the store are those in the world
pub entries-agree : (store : Store) (o : ℕ) → object_entries_of (objects_of store) o ≡ entries_of store o
entries-agree store o = ap (λ x. unwrap_or (option_map (λ (x : Object). x.entries) x) []) (object-at store o) ∙ known (fin.get store.nodes o)
  where
    known : (x : Option Node) → unwrap_or (option_map (λ (x : Object). x.entries) (option_map (object_from store.rows o) x)) [] ≡ entries_in x
    known None = refl
    known (Some n) = refl

-- the last entry of such a list
last-of : (xs : List Entry) (e : Entry) → last_entry (xs ++ e ∷ []) ≡ Some e
last-of [] e = refl
last-of (x ∷ xs) e = ap (slice_get (x ∷ xs ++ e ∷ [])) len ∙ ap (slice_get (xs ++ e ∷ [])) len' ∙ last-of xs e
  where
    len : length (x ∷ xs ++ e ∷ []) - 1 ≡ suc (length xs)
    len = omega (arith, length-append xs (e ∷ []))

    len' : length xs ≡ length (xs ++ e ∷ []) - 1
    len' = omega (arith, length-append xs (e ∷ []))

module _ (script : Script) (store : Store) (v : World) (o : ℕ) (below : List Activity) (s : DeathStands store (here store v o Emptying below) (death_of o Emptying ∷ below)) where
  abbrev w : World
  w = here store v o Emptying below

  entries-are : object_entries_of w.objects o ≡ entries_of store o
  entries-are = ap (λ os. object_entries_of os o) (sym s.represents.objects) ∙ entries-agree store o

  was : (q : ℕ) → outside_of store q ≡ occurrences q (flat_map holds below)
  was q = s.represents.outside q

  module _ (sound : (q : ℕ) → 0 < inner store q → IsLive store q) (e : Entry) (last : entries_of store o ≡ without_last (entries_of store o) ++ e ∷ []) where
    abbrev rest : List Entry
    rest = without_last (entries_of store o)

    abbrev pub left : Store
    left = held (entry_references e) (rewritten o rest store)

    abbrev after : World
    after = push (Releasing (entry_references e)) (death_at o Emptying below (with_change (object_entries (without_last (object_entries_of w.objects o))) o w))

    objects-are : objects_of (rewritten o rest store) ≡ after.objects
    objects-are =
        objects-changed store o (with_entries rest) (object_entries rest) (λ q n. refl)
        ∙ ap (change (object_entries rest) o) s.represents.objects
        ∙ ap (λ es. change (object_entries (without_last es)) o w.objects) (sym entries-are)

    refs-live : (q : ℕ) → 0 < occurrences q (entry_references e) → IsLive (rewritten o rest store) q
    refs-live q there =
        let split : occurrences q (references (entries_of store o)) ≡ occurrences q (references (rest ++ e ∷ [])) = ap (λ es. occurrences q (references es)) last in
        lives_on store (rewritten o rest store) (kinds-rewritten o rest store) q
        (sound q (omega (arith, entries_hold store o q, split, references-append q rest (e ∷ []), occurrences-append q (entry_references e) [], there)))

    outside-are : (q : ℕ) → outside_of left q ≡ occurrences q (entry_references e ++ flat_map holds below)
    outside-are q = omega (
      arith,
      outside-held (entry_references e) (rewritten o rest store) q (refs-live q),
      outside-rewritten o rest store q,
      was q,
      occurrences-append q (entry_references e) (flat_map holds below),
    )

    matches-rewritten : Matches (rewritten o rest store) (with_stack (death_of o Emptying ∷ below) after)
    matches-rewritten = matches-alike store (rewritten o rest store).nodes w after.objects (matches store w s.represents) objects-are

    pub taken : WentOn script w [] w.numbers left (Releasing (entry_references e) ∷ death_of o Emptying ∷ below)
    taken = went_to after
        (steps_to store v o Emptying below script s [] after (ap (empty_one o below w) (ap last_entry (entries-are ∙ last) ∙ last-of rest e)))
        (represents left after (matches-held (entry_references e) (rewritten o rest store) after (pushed (rewritten o rest store) after
        (entry_references e) (death_of o Emptying ∷ below) matches-rewritten)) outside-are) refl (refl, refl, refl)

  module _ (none : count_of store o ≡ 0) (empty : entries_of store o ≡ []) where
    abbrev freed : World
    freed = with_stack below (record w { objects = without o w.objects; numbers = record w.numbers { zero_count = w.numbers.zero_count - 1 } })

    outside-left : (q : ℕ) → outside_of (gone o store) q ≡ occurrences q (flat_map holds below)
    outside-left q =
        elim (cases_eq q o) [
          | inl same ↦
              let now : outside_of (gone o store) q ≡ 0 = ap outside_in (get-remove_same store.nodes o q same) in
              let zero_outside : outside_of store q ≡ 0 = ap (outside_of store) same ∙ (omega (arith, none)) in
              omega (arith, now, was q, zero_outside)
          | inr differs ↦ ap outside_in (get-remove_other store.nodes o q differs) ∙ was q
        ]

    matches-gone : Matches (gone o store) (with_stack (death_of o Emptying ∷ below) freed)
    matches-gone = record {
      objects = objects-remove store o ∙ ap (without o) s.represents.objects;
      next_serial = s.represents.next_serial;
      names = s.represents.names;
      deaths = s.represents.deaths;
      no_others = s.represents.no_others;
      collection = still-waits store w s.represents o none (gone o store) (left-cases store.lists o (place_number (place_of store o)) 6);
    }

    pub let_go : WentOn script w (Free o ∷ []) (numbers_after (Free o) w.numbers) (gone o store) below
    let_go = went_to freed
        (steps_to store v o Emptying below script s (Free o ∷ []) freed (ap (empty_one o below w) (ap last_entry (entries-are ∙ empty))))
        (represents (gone o store) freed (ended (gone o store) freed o Emptying below (sym (waits_are store v o Emptying below (matches store w s.represents))) matches-gone) outside-left)
        refl (refl, refl, refl)

pub turn-taken : (script : Script) (store : Store) (o : ℕ) (e : Entry) (release : Release) → ((q : ℕ) → 0 < inner store q → IsLive store q)
    → entries_of store o ≡ without_last (entries_of store o) ++ e ∷ [] → references_left release ≡ entry_references e
    → TurnSteps script store o phase_of.Emptying (held (entry_references e) (rewritten o (without_last (entries_of store o)) store))
    (record { phase = phase_of.Emptying; release = Some release; answer = answer_of.Continue })
turn-taken script store o e release sound last refs =
    turn_at script store o phase_of.Emptying (held (entry_references e) (rewritten o (without_last (entries_of store o)) store))
    (record { phase = phase_of.Emptying; release = Some release; answer = answer_of.Continue })
    (λ v below s.
    subst (λ l. WentOn script (here store v o Emptying below) [] v.numbers (left script store v o below s sound e last) (Releasing l ∷ death_of o Emptying ∷ below)) (sym refs)
    (taken script store v o below s sound e last))

pub turn-gone : (script : Script) (store : Store) (o : ℕ) → count_of store o ≡ 0 → entries_of store o ≡ [] → TurnSteps script store o phase_of.Emptying (gone o store) (telling (Free o) phase_of.Over)
turn-gone script store o none empty =
    turn_at script store o phase_of.Emptying (gone o store) (telling (Free o) phase_of.Over) (λ v below s. let_go script store v o below s none empty)
