-- A plain executor of collections, and that it takes steps of the machine.
use Rattle.std.proofs.Common.{◌≡◌, refl, sym, ap, subst, ℕ, ◌+◌, ◌<◌, Bool, true, false, ◌⊎◌, inl, inr, List, [], ◌∷◌, ◌++◌, map, length, Option, Some, None, arith}
use Rattle.std.specs.Prelude.{◌==◌, filter, count_by, option_and_then}
use Rattle.std.proofs.lemmas.Bool.{cases_Bool, eqb-true}
use Rattle.cg_value.specs.declared.Place.TheVariants.{Gen, Cand, Seen, Legacy}
use Rattle.cg_script.specs.declared.Script.{Script}
use Rattle.cg_graph.specs.Member.{Includes, includes}
use Rattle.cg_graph.specs.Object.{Object, object_at, entries_of, objects_at, serials, serials_at}
use Rattle.cg_graph.specs.Holdings.{occurrences}
use Rattle.cg_graph.proofs.Members.{either, Includes-of, includes-of}
use Rattle.cg_machine.specs.declared.event.Event.TheVariants.{Alive, Cleared, GcStart, GcCollectable, GcUncollectable, GcSaved, GcStop, Collected}
use Rattle.cg_machine.specs.World.{World, Activity, Releasing, Collection, CollectPhase, Start, WeakClearing, WeakCalling, AfterCallback, AfterRelease, Finalizing, AfterFinalizing, Split, Turns, Turn, AfterTurn, Ending, push, with_stack, with_objects}
use Rattle.cg_machine.specs.Frame.{Transition}
use Rattle.cg_graph.specs.Value.{last_entry}
use Rattle.cg_machine.specs.Dying.{finalizer_to_run}
use Rattle.cg_machine.specs.Effects.{gens_line}
use Rattle.cg_machine.specs.Collect.{merged, start_world, StartStep, WeakClearingStep, loses_in_weak_phase, clears_one, calls_back, after_release, FinalizingStep, looks_at, replaced_place, loses_at_split, get_older, SplitStep, TurnsStep, takes_turn, empties, after_turn, is_saved, all_saved, EndStep, PhaseStep, collection_at, lines_if, has_flag, stats, collectable, uncollectable, older}
use Rattle.cg_laws.proofs.Garbage.{survivors, survivors_survive, Survives-survivors}
use Rattle.cg_laws.proofs.CollectionStarts.{plain_chosen, plain_places, plain_sorts}
use Rattle.cg_laws.proofs.Clearing.{newest, newest_spec, IsGreatest, greatest_is_newest, clears, plain_lose}
use Rattle.cg_machine.specs.Program.{profile_of}
use Rattle.cg_represents.proofs.Lists.{occurrences-cons}

-- each once
abbrev pub distinct_at : Bool → ℕ → List ℕ → List ℕ
distinct_at true x xs = xs
distinct_at false x xs = x ∷ xs

abbrev pub distinct : List ℕ → List ℕ
distinct [] = []
distinct (x ∷ xs) = distinct_at (includes xs x) x (distinct xs)

distinct_only_at : (b : Bool) (x : ℕ) (xs : List ℕ) (y : ℕ) → (Includes (distinct xs) y → Includes xs y) → Includes (distinct_at b x (distinct xs)) y → (x ≡ y) ⊎ Includes xs y
distinct_only_at true x xs y ih k = inr (ih k)
distinct_only_at false x xs y ih k = either k (λ i. inl i) (λ m. inr (ih m))

distinct_only : (xs : List ℕ) (y : ℕ) → Includes (distinct xs) y → Includes xs y
distinct_only [] y h = h
distinct_only (x ∷ xs) y h = distinct_only_at (includes xs x) x xs y (distinct_only xs y) h

distinct_keeps_at : (b : Bool) (x : ℕ) (xs : List ℕ) (y : ℕ) → includes xs x ≡ b → ((z : ℕ) → Includes xs z → Includes (distinct xs) z) → (x ≡ y)
    ⊎ Includes xs y → Includes (distinct_at b x (distinct xs)) y
distinct_keeps_at true x xs y e ih k = either k (λ i. ih y (subst (λ z. Includes xs z) i (Includes-of xs x e))) (ih y)
distinct_keeps_at false x xs y e ih k = either k (λ i. inl i) (λ m. inr (ih y m))

distinct_keeps : (xs : List ℕ) (y : ℕ) → Includes xs y → Includes (distinct xs) y
distinct_keeps [] y h = h
distinct_keeps (x ∷ xs) y h = distinct_keeps_at (includes xs x) x xs y refl (distinct_keeps xs) h

occurrences_none : (o : ℕ) (xs : List ℕ) → (Includes xs o → ⊥) → occurrences o xs ≡ 0
occurrences_none o [] h = refl
occurrences_none o (x ∷ xs) h =
    let other : (x == o) ≡ false = either (cases_Bool (x == o)) (λ e. absurd (h (inl (eqb-true x o e)))) (λ e. e) in
    rw (occurrences-cons o x xs, other, occurrences_none o xs (λ m. h (inr m))) (omega arith)

once_at : (b c : Bool) (o x : ℕ) (xs : List ℕ) → includes xs x ≡ b → (x == o) ≡ c → occurrences o (distinct xs) < 2 → occurrences o (distinct_at b x (distinct xs)) < 2
once_at true c o x xs e d ih = ih
once_at false true o x xs e d ih =
    let none : occurrences o (distinct xs) ≡ 0 = occurrences_none o (distinct xs) (λ m. let there : includes xs x ≡ true = includes-of xs x
    (subst (λ z. Includes xs z) (sym (eqb-true x o d)) (distinct_only xs o m)) in cc) in
    rw (occurrences-cons o x (distinct xs), d, none) (omega arith)
once_at false false o x xs e d ih = rw (occurrences-cons o x (distinct xs), d) (omega (arith, ih))

once : (xs : List ℕ) (o : ℕ) → occurrences o (distinct xs) < 2
once [] o = omega arith
once (x ∷ xs) o = once_at (includes xs x) (x == o) o x xs refl refl (once xs o)

abbrev pub plain_start : Script → Collection → List Activity → World → Transition
plain_start script c below w =
    let m = merged c.generation w in
    let after = start_world c (plain_places script c.generation m) below m in
    ((GcStart c.generation ∷ []) ++ lines_if (has_flag c.flags stats) (gens_line w.objects ∷ []) ++ lines_if (has_flag c.flags collectable) (map GcCollectable (serials_at after.objects Cand)), after)

pub plain_start_steps : (script : Script) (c : Collection) (below : List Activity) (w : World) → StartStep script w c below (plain_start script c below w).0 (plain_start script c below w).1
plain_start_steps script c below w = record {
  chosen = plain_chosen c.generation (merged c.generation w);
  places = plain_places script c.generation (merged c.generation w);
  sorts = plain_sorts script c.generation (merged c.generation w);
  world = refl;
  collectables = serials_at (plain_start script c below w).1.objects Cand;
  any_order = λ o. refl;
  lines = refl;
}

abbrev pub plain_weak_at : Collection → List ℕ → List Activity → World → Option Object → Transition
plain_weak_at c waiting below w None = ([], collection_at c (WeakCalling waiting) below w)
plain_weak_at c waiting below w (Some y) = clears_one c waiting below w y.serial

plain_weak_steps_at : (profile : ℕ) (c : Collection) (waiting : List ℕ) (below : List Activity) (w : World) (o : Option Object) → IsGreatest (loses_in_weak_phase profile w.objects) w.objects o
    → WeakClearingStep profile c waiting below w (plain_weak_at c waiting below w o).0 (plain_weak_at c waiting below w o).1
plain_weak_steps_at profile c waiting below w None none = inr (none, (refl, refl))
plain_weak_steps_at profile c waiting below w (Some y) some = inl (record {
  weak = y.serial;
  newest = greatest_is_newest (loses_in_weak_phase profile w.objects)
      w.objects y some;
  yields = (refl, refl);
})

abbrev pub plain_finalizing : Script → Collection → List Activity → World → List ℕ → Transition
plain_finalizing script c below w [] = ([], collection_at c Split below (replaced_place Seen Cand w))
plain_finalizing script c below w (o ∷ os) = looks_at script c o below w (option_and_then (finalizer_to_run script) (object_at w.objects o))

plain_finalizing_steps : (script : Script) (c : Collection) (below : List Activity) (w : World) (os : List ℕ) → serials_at w.objects Cand ≡ os
    → FinalizingStep script c below w (plain_finalizing script c below w os).0 (plain_finalizing script c below w os).1
plain_finalizing_steps script c below w [] e = inr (e, (refl, refl))
plain_finalizing_steps script c below w (o ∷ os) e = inl (record { object = o; condemned = subst (λ xs. Includes xs o) (sym e) (inl refl); yields = (refl, refl) })

abbrev pub plain_alive : World → List ℕ
plain_alive w = distinct (survivors w Cand)

abbrev pub plain_cleared : Collection → World → List ℕ × List Object
plain_cleared c w =
    let objects = get_older c.generation (plain_alive w) w.objects in
    clears (loses_at_split objects) (count_by (loses_at_split objects) objects) objects

abbrev pub plain_split : Collection → List Activity → World → Transition
plain_split c below w = (
  map Alive (plain_alive w) ++ map Cleared (plain_cleared c w).0,
  collection_at (record c { collected = c.collected + length (serials_at (plain_cleared c w).1 Cand) }) Turns below (with_objects (plain_cleared c w).1 w),
)

pub plain_split_steps : (c : Collection) (below : List Activity) (w : World) → SplitStep c below w (plain_split c below w).0 (plain_split c below w).1
plain_split_steps c below w = record {
  alive = plain_alive w;
  survivors = λ o. (λ m. survivors_survive w Cand o (distinct_only (survivors w Cand) o m), λ r. distinct_keeps (survivors w Cand) o (Survives-survivors w Cand o r));
  once = once (survivors w Cand);
  cleared = (plain_cleared c w).0;
  objects = (plain_cleared c w).1;
  lose = plain_lose (loses_at_split (get_older c.generation (plain_alive w) w.objects)) (λ x. refl) (get_older c.generation (plain_alive w) w.objects);
  lines = refl;
  world = refl;
}

abbrev pub plain_turns : Collection → List Activity → World → List Object → Transition
plain_turns c below w [] = ([], collection_at c Ending below w)
plain_turns c below w (x ∷ xs) = takes_turn c x below w

plain_turns_steps : (c : Collection) (below : List Activity) (w : World) (xs : List Object) → objects_at w.objects Cand ≡ xs
    → TurnsStep c below w (plain_turns c below w xs).0 (plain_turns c below w xs).1
plain_turns_steps c below w [] e = inr (ap serials e, (refl, refl))
plain_turns_steps c below w (x ∷ xs) e = inl (record { object = x; member = subst (λ ys. Includes ys x) (sym e) (inl refl); yields = (refl, refl) })

abbrev pub plain_end : Script → Collection → List Activity → World → Transition
plain_end script c below w =
    let told = serials_at w.objects Legacy in
    let keeps = serials (filter (is_saved script c) w.objects) in (
      lines_if (has_flag c.flags uncollectable) (map GcUncollectable told) ++ map GcSaved keeps ++ GcStop c.generation c.collected (length told)
          ∷ lines_if c.asked (Collected (c.collected + length told) ∷ []),
      with_stack below (replaced_place Legacy (Gen (older c.generation)) (with_objects (all_saved keeps w.objects) w)),
    )

pub plain_end_steps : (script : Script) (c : Collection) (below : List Activity) (w : World) → EndStep script c below w (plain_end script c below w).0 (plain_end script c below w).1
plain_end_steps script c below w = record {
  told = serials_at w.objects Legacy;
  told_order = λ o. refl;
  keeps = serials (filter (is_saved script c) w.objects);
  keeps_order = λ o. refl;
  lines = refl;
  world = refl;
}

abbrev pub plain_phase : Script → Collection → CollectPhase → List Activity → World → Transition
plain_phase script c Start below w = plain_start script c below w
plain_phase script c (WeakClearing waiting) below w = plain_weak_at c waiting below w (newest (loses_in_weak_phase (profile_of script.items) w.objects) w.objects)
plain_phase script c (WeakCalling waiting) below w = calls_back script c waiting below w
plain_phase script c (AfterCallback weak waiting) below w = ([], push (Releasing (weak ∷ [])) (collection_at c (AfterRelease weak waiting) below w))
plain_phase script c (AfterRelease weak waiting) below w = after_release c weak waiting below w
plain_phase script c Finalizing below w = plain_finalizing script c below w (serials_at w.objects Cand)
plain_phase script c (AfterFinalizing o) below w = ([], push (Releasing (o ∷ [])) (collection_at c Finalizing below w))
plain_phase script c Split below w = plain_split c below w
plain_phase script c Turns below w = plain_turns c below w (objects_at w.objects Cand)
plain_phase script c (Turn o) below w = empties c o below w (last_entry (entries_of w.objects o))
plain_phase script c (AfterTurn o) below w = after_turn c o below w
plain_phase script c Ending below w = plain_end script c below w

pub plain_phase_steps : (script : Script) (c : Collection) (phase : CollectPhase) (below : List Activity) (w : World) → PhaseStep script c phase below w
    (plain_phase script c phase below w).0 (plain_phase script c phase below w).1
plain_phase_steps script c Start below w = plain_start_steps script c below w
plain_phase_steps script c (WeakClearing waiting) below w = plain_weak_steps_at (profile_of script.items) c waiting below w
    (newest (loses_in_weak_phase (profile_of script.items) w.objects) w.objects) (newest_spec (loses_in_weak_phase (profile_of script.items) w.objects)
    w.objects)
plain_phase_steps script c Finalizing below w = plain_finalizing_steps script c below w (serials_at w.objects Cand) refl
plain_phase_steps script c Split below w = plain_split_steps c below w
plain_phase_steps script c Turns below w = plain_turns_steps c below w (objects_at w.objects Cand) refl
plain_phase_steps script c Ending below w = plain_end_steps script c below w
plain_phase_steps script c phase below w = (refl, refl)
