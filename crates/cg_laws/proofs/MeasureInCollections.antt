-- Steps of collections.
use Rattle.cg_laws.proofs.MeasureInDeaths.{references_two}
use Rattle.cg_laws.proofs.GarbageList.{saved_stays, saved_entries, all_saved_stays, all_saved_entries, filter_size}
use Rattle.cg_represents.proofs.Lists.{no_longer}
use Rattle.std.proofs.Common.{◌≡◌, refl, sym, subst, ℕ, ◌+◌, ◌<◌, ◌≤◌, Bool, true, false, not, inl, inr, List, [], ◌∷◌, ◌++◌, map, length, Option, Some, None, arith}
use Rattle.std.specs.Prelude.{◌==◌, ◌||◌, ◌&&◌, nat_lt, if◌then◌else◌, unwrap_or, option_map, option_and_then, is_some, filter}
use Rattle.std.specs.List.{list_any}
use Rattle.std.proofs.lemmas.Bool.{le-ltb, and_right}
use Rattle.cg_value.specs.declared.Place.{Place}
use Rattle.cg_value.specs.declared.Place.TheVariants.{Gen, Cand, Seen, Legacy, Pend}
use Rattle.cg_script.specs.declared.Script.{Script}
use Rattle.cg_graph.specs.Member.{Includes, includes}
use Rattle.cg_graph.specs.Value.{entry_references, last_entry, without_last}
use Rattle.cg_graph.specs.Object.{Object, change, object_at, entries_of, is_at, with_place, with_entries, with_referent, marked, serials_at, serials}
use Rattle.cg_graph.proofs.Members.{Includes-filter_cases}
use Rattle.cg_machine.specs.declared.event.FrameSpec.{FrameSpec}
use Rattle.cg_machine.specs.declared.event.Event.{Event}
use Rattle.cg_machine.specs.Program.{profile_of}
use Rattle.cg_machine.specs.World.{World, Activity, Releasing, Collecting, Collection, CollectPhase, Start, WeakClearing, WeakCalling, AfterCallback, AfterRelease, Finalizing, AfterFinalizing, Split, Turns, Turn, AfterTurn, Ending, Numbers, Running, with_objects}
use Rattle.cg_machine.specs.Frame.{start_frame}
use Rattle.cg_machine.specs.Weak.{loses_referent}
use Rattle.cg_machine.specs.Dying.{finalizer_to_run}
use Rattle.cg_machine.specs.Due.{is_due}
use Rattle.cg_machine.specs.Collect.{collection_at, merged, merged_place, begun, survived, sorted, start_world, survivor_count, older, waits, calls_back, after_release, looks_at, get_older, takes_turn, saved, all_saved, empties, after_turn, PhaseStep, loses_at_split, is_saved}
use Rattle.cg_laws.proofs.Sums.{tally, tally-append, tally-map_le}
use Rattle.cg_represents.proofs.Serials.{change-shortened, shortened}
use Rattle.cg_laws.proofs.Measure.{commands_left, is_first, is_starting, due_rank, due_left, phase_rank, rank_in, left_at, left_in, entries_in, referents_in, summary, Lower, by_rank, by_left, by_entries, by_referents, weight_in, size_of}
use Rattle.cg_laws.proofs.FewerEntries.{Faded, unchanged, change_fades, place_fades, referent_fades, shortened_fades, marked_fades, then_fades, loses_one, shorter, Stays, Same, faded_stays, faded_after, stays_after, map_stays, placed, placed_entries, map_fades, if_fades}
use Rattle.cg_laws.proofs.Candidates.{leaves, others_fewer, only_others, saved_leaves, member_at, AllLose-fades}
use Rattle.cg_laws.proofs.InvariantOfRuns.{collections_in, Sound, Moves, starts, IsPlain, CountsNothing, plain_counts}
use Rattle.cg_laws.proofs.Clearing.{refers_early}
use Rattle.cg_laws.proofs.Starting.{turn_either, called_back_either, option_either}

-- no collection is underway below
pub record NoneUnderway (stack : List Activity) : Type 0 where
  pub starting : list_any is_starting stack ≡ false
  pub rank : tally rank_in stack ≡ 0
  pub left : (objects : List Object) → tally (left_in objects) stack ≡ 0

pub none_underway : (stack : List Activity) → tally collections_in stack ≤ 0 → NoneUnderway stack
none_underway [] h = record { starting = refl; rank = refl; left = λ objects. refl }
none_underway (Collecting c ∷ stack) h = absurd (omega (arith, h))
none_underway (_ ∷ stack) h = let k = none_underway stack (omega (arith, h)) in record { starting = k.starting; rank = omega (arith, k.rank); left = λ objects. omega (arith, k.left objects) }

-- What a step of a collection lowers, with tops above the collection.
pub data Progresses (before after : List Object) (p q : CollectPhase) (tops : List Activity) : Type 0 where
  next_phase : phase_rank q < phase_rank p → entries_in after ≤ entries_in before → tally weight_in tops ≤ 8 → Progresses before after p q tops
  fewer_turns : phase_rank q ≤ phase_rank p → left_at after q < left_at before p → entries_in after ≤ entries_in before + 1 → tally weight_in tops ≤ 8 → Progresses before after p q tops
  fewer_entries : phase_rank q ≤ phase_rank p → left_at after q ≤ left_at before p → entries_in after < entries_in before → tally weight_in tops ≤ 15 → Progresses before after p q tops
  fewer_referents : phase_rank q ≤ phase_rank p → left_at after q ≤ left_at before p → entries_in after ≤ entries_in before → referents_in after < referents_in
      before → tally weight_in tops ≤ 0 → Progresses before after p q tops

due_same : (b c d s : Bool) → c ≡ false → d ≡ false → due_rank b (c || s) ≤ due_rank b (d || s)
due_same b false false s e f = omega arith
due_same b bit d s e f = cc

module _ (script : Script) (c : Collection) (below : List Activity) (v : World) where
  pub goes_to : (p q : CollectPhase) (d : Collection) (tops : List Activity) (objects : List Object) → IsPlain tops → is_first p ≡ false → is_first q ≡ false
      → Stays objects v.objects → Progresses v.objects objects p q tops → Sound (collection_at c p below v)
      → Moves script (collection_at c p below v) (record v { objects = objects; stack = tops ++ Collecting (record d { phase = q }) ∷ below })
  goes_to p q d tops objects plain not_first first_not stays progresses sound = record {
    sound = record { rises = stays.rises 1 v.next_serial sound.rises; bottom = counts.bottom sound.bottom; single = omega (arith, counts.collections, sound.single) };
    lower = lower progresses;
  }
    where
      counts : CountsNothing tops (Collecting (record d { phase = q }) ∷ below)
      counts = plain_counts tops (Collecting (record d { phase = q }) ∷ below) plain

      none : NoneUnderway below
      none = none_underway below (omega (arith, sound.single))

      after : World
      after = record v { objects = objects; stack = tops ++ Collecting (record d { phase = q }) ∷ below }

      commands : commands_left script after ≤ commands_left script (collection_at c p below v)
      commands = omega (arith, counts.commands)

      due : due_left after ≤ due_left (collection_at c p below v)
      due = subst (λ s. due_rank (is_due v.numbers) s ≤ due_left (collection_at c p below v)) (sym counts.starting) (due_same (is_due v.numbers) (is_first q)
          (is_first p) (list_any is_starting below) first_not not_first)

      over : List Activity
      over = Collecting (record d { phase = q }) ∷ below

      lower : Progresses v.objects objects p q tops → Lower (summary script after) (summary script (collection_at c p below v))
      lower (next_phase r e h) = by_rank commands stays.size due (omega (arith, r, counts.rank)) (omega (arith, e)) stays.referents (omega (arith, h, tally-append weight_in tops over))
      lower (fewer_turns r l e h) = by_left commands stays.size due (omega (arith, r, counts.rank)) (omega (
        arith,
        l,
        counts.left objects,
        none.left objects,
        none.left v.objects,
      )) e stays.referents (omega (arith, h, tally-append weight_in tops over))
      lower (fewer_entries r l e h) = by_entries commands stays.size due (omega (arith, r, counts.rank))
          (omega (arith, l, counts.left objects, none.left objects, none.left v.objects)) e stays.referents (omega (arith, h, tally-append weight_in tops over))
      lower (fewer_referents r l e f h) = by_referents commands stays.size due (omega (arith, r, counts.rank))
          (omega (arith, l, counts.left objects, none.left objects, none.left v.objects)) e f (omega (arith, h, tally-append weight_in tops over))

  all_stay : Stays v.objects v.objects
  all_stay = faded_stays v.objects v.objects (unchanged v.objects)

  -- only the phase changes, and perhaps a release goes on top
  turns_to : (p q : CollectPhase) (tops : List Activity) → IsPlain tops → is_first p ≡ false → is_first q ≡ false → phase_rank q < phase_rank p
      → tally weight_in tops ≤ 8 → Sound (collection_at c p below v)
      → Moves script (collection_at c p below v) (record v { stack = tops ++ Collecting (record c { phase = q }) ∷ below })
  turns_to p q tops plain not_first first_not r h sound = goes_to p q c tops v.objects plain not_first first_not all_stay (next_phase r (omega arith) h) sound

  changes : (p q : CollectPhase) (objects : List Object) → Faded objects v.objects → is_first p ≡ false → is_first q ≡ false → Progresses v.objects objects p q [] → Sound (collection_at c p below v)
      → Moves script (collection_at c p below v) (collection_at c q below (with_objects objects v))
  changes p q objects faded not_first first_not progresses sound = goes_to p q c [] objects tt not_first first_not (faded_stays objects v.objects faded) progresses sound

  calls_for : (p q : CollectPhase) (spec : FrameSpec) (objects : List Object) → Faded objects v.objects → Sound (collection_at c p below v) → v.outcome ≡ Running
      → Moves script (collection_at c p below v) (start_frame script spec (collection_at c q below (with_objects objects v))).1
  calls_for p q spec objects faded sound running =
      starts script spec (collection_at c p below v) (collection_at c q below (with_objects objects v))
      (record { rises = faded.rises 1 v.next_serial sound.rises; bottom = sound.bottom; single = sound.single }) running
      (record { commands = omega arith; size = faded.size; entries = faded.entries; referents = faded.referents; weight = omega arith })

  moves_to : (p : CollectPhase) (after now : World) → after ≡ now → Moves script (collection_at c p below v) now → Moves script (collection_at c p below v) after
  moves_to p after now e m = subst (λ u. Moves script (collection_at c p below v) u) (sym e) m

  begun_not_due : (g n : ℕ) (numbers : Numbers) → is_due (survived g n (begun g numbers)) ≡ false
  begun_not_due g n numbers = and_right (numbers.enabled && not (numbers.zero_threshold == 0)) (nat_lt numbers.zero_threshold 0) (le-ltb numbers.zero_threshold 0 (omega arith))

  not_due : (s : Bool) → due_rank false s ≤ 1
  not_due true = omega arith
  not_due false = omega arith

  has_referent : (o : Option ℕ) (f : ℕ → Bool) → unwrap_or (option_map f o) false ≡ true → is_some o ≡ true
  has_referent None f e = e
  has_referent (Some r) f e = refl

  calls_back_moves : (waiting : List ℕ) → Sound (collection_at c (WeakCalling waiting) below v) → v.outcome ≡ Running
      → Moves script (collection_at c (WeakCalling waiting) below v) (calls_back script c waiting below (collection_at c (WeakCalling waiting) below v)).1
  calls_back_moves [] sound running = turns_to (WeakCalling []) Finalizing [] tt refl refl (omega arith) (omega arith) sound
  calls_back_moves (weak ∷ waiting) sound running = calls_for (WeakCalling (weak ∷ waiting)) (AfterCallback weak waiting) _ v.objects (unchanged v.objects) sound running

  after_wait_moves : (weak : ℕ) (waiting : List ℕ) → Sound (collection_at c (AfterRelease weak waiting) below v)
      → Moves script (collection_at c (AfterRelease weak waiting) below v) (after_release c weak waiting below (collection_at c (AfterRelease weak waiting)
      below v)).1
  after_wait_moves weak waiting sound = called_back_either (λ lines. Moves script (collection_at c (AfterRelease weak waiting) below v)) c weak waiting below
      (collection_at c (AfterRelease weak waiting) below v)
      (λ t. changes (AfterRelease weak waiting) (WeakCalling waiting) (change (with_place (Gen (older c.generation))) weak v.objects)
      (change_fades (with_place (Gen (older c.generation))) (place_fades (Gen (older c.generation)) refl) weak v.objects) refl refl
      (next_phase (omega arith) (change_fades (with_place (Gen (older c.generation))) (place_fades (Gen (older c.generation)) refl) weak v.objects).entries
      (omega arith)) sound)
      (λ t. goes_to (AfterRelease weak waiting) (WeakCalling waiting) (record c { collected = c.collected + 1 }) [] v.objects tt refl refl all_stay
      (next_phase (omega arith) (omega arith) (omega arith)) sound)

  turn_moves : (x : Object) → Includes v.objects x → is_at Cand x ≡ true → Sound (collection_at c Turns below v) → Moves script (collection_at c Turns below v)
      (takes_turn c x below (collection_at c Turns below v)).1
  turn_moves x m e sound = turn_either (λ lines. Moves script (collection_at c Turns below v)) c x below (collection_at c Turns below v)
      (λ t. goes_to Turns Turns c [] (change (with_place next) x.serial (saved x.serial v.objects)) tt refl refl
      (stays_after (change (with_place next) x.serial (saved x.serial v.objects)) (saved x.serial v.objects) v.objects
      (faded_stays (change (with_place next) x.serial (saved x.serial v.objects)) (saved x.serial v.objects) (moved (saved x.serial v.objects)))
      (saved_stays x.serial v.objects))
      (fewer_turns (omega arith) (omega (arith, saved_leaves next refl v.objects x m e)) (omega (
        arith,
        (moved (saved x.serial v.objects)).entries,
        saved_entries x.serial 1 v.next_serial v.objects sound.rises,
      )) (omega arith)) sound)
      (λ t s. changes Turns Turns (change (with_place next) x.serial v.objects) (moved v.objects) refl refl
      (fewer_turns (omega arith) (omega (arith, leaves next refl v.objects x.serial x m refl e)) (omega (arith, (moved v.objects).entries)) (omega arith)) sound)
      (λ t s. goes_to Turns (Turn x.serial) c [] v.objects tt refl refl all_stay (fewer_turns (omega arith) (omega (arith, others_fewer v.objects x m e)) (omega arith) (omega arith)) sound)
    where
      next : Place
      next = Gen (older c.generation)

      moved : (objects : List Object) → Faded (change (with_place next) x.serial objects) objects
      moved objects = change_fades (with_place next) (place_fades next refl) x.serial objects

  after_turn_moves : (o : ℕ) → Sound (collection_at c (AfterTurn o) below v) → Moves script (collection_at c (AfterTurn o) below v) (after_turn c o below (collection_at c (AfterTurn o) below v)).1
  after_turn_moves o sound =
      let fade = change_fades (with_place (Gen (older c.generation))) (place_fades (Gen (older c.generation)) refl) o v.objects in
      changes (AfterTurn o) Turns (change (with_place (Gen (older c.generation))) o v.objects) fade refl refl
      (fewer_turns (omega arith) (omega (arith, only_others (Gen (older c.generation)) refl o v.objects)) (omega (arith, fade.entries)) (omega arith)) sound

  pub phase_moves : (p : CollectPhase) (events : List Event) (after : World) → PhaseStep script c p below (collection_at c p below v) events after
      → Sound (collection_at c p below v) → v.outcome ≡ Running → Moves script (collection_at c p below v) after
  phase_moves Start events after step sound running = moves_to Start after now step.world (record {
    sound = record { rises = stays.rises 1 v.next_serial sound.rises; bottom = sound.bottom; single = sound.single };
    lower = by_rank (omega arith) stays.size (subst (λ b. due_rank b (list_any is_starting below) ≤ due_left (collection_at c Start below v))
        (sym (begun_not_due c.generation count v.numbers)) (not_due (list_any is_starting below))) (omega arith) (omega (arith, same_entries)) stays.referents
        (omega arith);
  })
    where
      w : World
      w = merged c.generation (collection_at c Start below v)

      now : World
      now = start_world c step.places below w

      count : ℕ
      count = survivor_count c.generation step.places w.objects

      merge_same : Same (λ x. with_place (merged_place c.generation x.place) x)
      merge_same = record { serial = λ x. refl; referent = λ x. refl }

      stays : Stays (sorted c.generation step.places w.objects) v.objects
      stays = stays_after (sorted c.generation step.places w.objects) w.objects v.objects (placed step.places (is_at (Gen c.generation)) w.objects)
          (map_stays (λ x. with_place (merged_place c.generation x.place) x) merge_same v.objects)

      same_entries : entries_in (sorted c.generation step.places w.objects) ≤ entries_in v.objects
      same_entries =
          let first = placed_entries step.places (is_at (Gen c.generation)) w.objects in
          let second : entries_in w.objects ≤ entries_in v.objects = tally-map_le (λ x. length x.entries) (λ x. with_place (merged_place c.generation x.place) x) (λ x. omega arith) v.objects in
          omega (arith, first, second)
  phase_moves (WeakClearing waiting) events after (inl step) sound running = moves_to (WeakClearing waiting) after _ step.yields.1 (go (waits v.objects step.weak))
    where
      lost : List Object
      lost = loses_referent step.weak v.objects

      fade : Faded lost v.objects
      fade = change_fades (with_referent None) referent_fades step.weak v.objects

      pend : Faded (change (with_place Pend) step.weak lost) lost
      pend = change_fades (with_place Pend) (place_fades Pend refl) step.weak lost

      fewer : referents_in lost < referents_in v.objects
      fewer = loses_one v.objects step.weak step.newest.object step.newest.member step.newest.is (has_referent step.newest.object.referent _
          (refers_early (profile_of script.items) v.objects step.newest.object step.newest.to_lose))

      go : (b : Bool) → Moves script (collection_at c (WeakClearing waiting) below v) (if b then collection_at c (WeakClearing (waiting ++ step.weak ∷ []))
          below (with_objects (change (with_place Pend) step.weak lost) v) else collection_at c (WeakClearing waiting) below (with_objects lost v))
      go true = goes_to (WeakClearing waiting) (WeakClearing (waiting ++ step.weak ∷ [])) c [] (change (with_place Pend) step.weak lost) tt refl refl
          (faded_stays (change (with_place Pend) step.weak lost) v.objects (faded_after (change (with_place Pend) step.weak lost) lost v.objects pend fade))
          (fewer_referents (omega arith) (omega (arith, pend.condemned, fade.condemned)) (omega (arith, pend.entries, fade.entries)) (omega (arith, pend.referents, fewer)) (omega arith)) sound
      go false = changes (WeakClearing waiting) (WeakClearing waiting) lost fade refl refl (fewer_referents (omega arith) (omega (arith, fade.condemned)) fade.entries fewer (omega arith)) sound
  phase_moves (WeakClearing waiting) events after (inr step) sound running = moves_to (WeakClearing waiting) after _ step.1.1 (turns_to (WeakClearing waiting) (WeakCalling waiting)
      [] tt refl refl (omega arith) (omega arith) sound)
  phase_moves (WeakCalling waiting) events after step sound running = moves_to (WeakCalling waiting) after _ step.1 (calls_back_moves waiting sound running)
  phase_moves (AfterCallback weak waiting) events after step sound running = moves_to (AfterCallback weak waiting) after _ step.1
      (turns_to (AfterCallback weak waiting) (AfterRelease weak waiting) (Releasing (weak ∷ []) ∷ []) tt refl refl (omega arith) (omega arith) sound)
  phase_moves (AfterRelease weak waiting) events after step sound running = moves_to (AfterRelease weak waiting) after _ step.1 (after_wait_moves weak waiting sound)
  phase_moves Finalizing events after (inl step) sound running =
      moves_to Finalizing after _ step.yields.1 (option_either (λ lines. Moves script (collection_at c Finalizing below v)) (looks_at script c step.object below (collection_at c Finalizing below v)) (option_and_then (finalizer_to_run script) (object_at v.objects step.object))
      (λ e. changes Finalizing Finalizing (change (with_place Seen) step.object v.objects) (change_fades (with_place Seen) (place_fades Seen refl) step.object v.objects) refl refl
      (fewer_turns (omega arith) (omega (arith, leaves Seen refl v.objects step.object (member_at v.objects Cand step.object step.condemned).0 (member_at v.objects Cand step.object step.condemned).1 (member_at v.objects Cand step.object step.condemned).2 (member_at v.objects Cand step.object step.condemned).3))
      (omega (arith, (change_fades (with_place Seen) (place_fades Seen refl) step.object v.objects).entries)) (omega arith)) sound)
      (λ p e. calls_for Finalizing (AfterFinalizing step.object) _ (change (λ x. marked (with_place Seen x)) step.object v.objects) (change_fades (λ x. marked (with_place Seen x))
      (then_fades (with_place Seen) marked (place_fades Seen refl) marked_fades) step.object v.objects) sound running))
  phase_moves Finalizing events after (inr step) sound running =
      moves_to Finalizing after _ step.1.1 (goes_to Finalizing Split c [] (map (λ x. if is_at Seen x then with_place Cand x else x) v.objects) tt refl refl
      (placed (λ x. Cand) (is_at Seen) v.objects) (next_phase (omega arith) (placed_entries (λ x. Cand) (is_at Seen) v.objects) (omega arith)) sound)
  phase_moves (AfterFinalizing o) events after step sound running = moves_to (AfterFinalizing o) after _ step.1 (turns_to (AfterFinalizing o) Finalizing
      (Releasing (o ∷ []) ∷ []) tt refl refl (omega arith) (omega arith) sound)
  phase_moves Split events after step sound running = moves_to Split after _ step.world
      (goes_to Split Turns (record c { collected = c.collected + length (serials_at step.objects Cand) }) [] step.objects tt refl refl
      (faded_stays step.objects v.objects fade) (next_phase (omega arith) fade.entries (omega arith)) sound)
    where
      now : List Object
      now = get_older c.generation step.alive v.objects

      fade : Faded step.objects v.objects
      fade = faded_after step.objects now v.objects (AllLose-fades (loses_at_split now) now step.cleared step.objects step.lose)
          (map_fades (λ x. if includes step.alive x.serial then with_place (Gen (older c.generation)) x else x)
          (if_fades (with_place (Gen (older c.generation))) (place_fades (Gen (older c.generation)) refl) (λ x. includes step.alive x.serial)) v.objects)
  phase_moves Turns events after (inl step) sound running =
      let kept = Includes-filter_cases (is_at Cand) v.objects step.object step.member in
      moves_to Turns after _ step.yields.1 (turn_moves step.object kept.0 kept.1 sound)
  phase_moves Turns events after (inr step) sound running = moves_to Turns after _ step.1.1 (turns_to Turns Ending [] tt refl refl (omega arith) (omega arith) sound)
  phase_moves (Turn o) events after step sound running = moves_to (Turn o) after _ step.1 (option_either (λ lines. Moves script (collection_at c (Turn o) below v)) (empties c o below (collection_at c (Turn o) below v)) (last_entry (entries_of v.objects o))
      (λ e. goes_to (Turn o) (AfterTurn o) c (Releasing (o ∷ []) ∷ []) v.objects tt refl refl all_stay (fewer_turns (omega arith) (omega arith) (omega arith) (omega arith)) sound)
      (λ entry e. let same = change-shortened o 1 v.next_serial v.objects sound.rises in
      let fade : Faded (change (with_entries (without_last (entries_of v.objects o))) o v.objects) v.objects = subst (λ os. Faded os v.objects) (sym same)
      (change_fades shortened shortened_fades o v.objects) in
      goes_to (Turn o) (Turn o) c (Releasing (entry_references entry) ∷ []) (change (with_entries (without_last (entries_of v.objects o))) o v.objects) tt refl refl (faded_stays _ v.objects fade)
      (fewer_entries (omega arith) (omega (arith, fade.others o)) (subst (λ os. entries_in os < entries_in v.objects) (sym same) (shorter v.objects o entry e))
      (omega (arith, references_two entry))) sound))
  phase_moves (AfterTurn o) events after step sound running = moves_to (AfterTurn o) after _ step.1 (after_turn_moves o sound)
  phase_moves Ending events after step sound running = moves_to Ending after _ step.world (record {
    sound = record { rises = stays.rises 1 v.next_serial sound.rises; bottom = sound.bottom; single = omega (arith, sound.single) };
    lower = by_rank (omega arith) stays.size (omega arith) (omega arith) grown stays.referents (omega arith);
  })
    where
      place : Place
      place = Gen (older c.generation)

      kept : List Object
      kept = all_saved step.keeps v.objects

      now : List Object
      now = map (λ x. if is_at Legacy x then with_place place x else x) kept

      stays : Stays now v.objects
      stays = stays_after now kept v.objects (placed (λ x. place) (is_at Legacy) kept) (all_saved_stays step.keeps v.objects)

      grown : entries_in now ≤ entries_in v.objects + size_of v.objects
      grown =
          let first = placed_entries (λ x. place) (is_at Legacy) kept in
          let second = all_saved_entries step.keeps 1 v.next_serial v.objects sound.rises in
          let third = no_longer step.keeps (serials (filter (is_saved script c) v.objects)) step.keeps_order in
          let fourth = filter_size (is_saved script c) v.objects in
          omega (arith, first, second, third, fourth)
