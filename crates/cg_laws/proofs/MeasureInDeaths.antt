-- Steps of releases, of deaths and of frames that end.
use Rattle.std.proofs.Common.{length-append, ◌≡◌, refl, sym, ◌∙◌, subst, ℕ, ◌-◌, ◌<◌, ◌≤◌, Bool, true, false, not, inl, inr, List, [], ◌∷◌, ◌++◌, length, reverse, Option, Some, None, arith, ◌+◌}
use Rattle.std.specs.Prelude.{option_to_list, ◌==◌, ◌||◌, ◌&&◌, nat_lt, if◌then◌else◌, unwrap_or, option_map, option_and_then, is_some, filter}
use Rattle.std.specs.List.{list_any}
use Rattle.std.proofs.lemmas.List.{reverse-append}
use Rattle.std.proofs.lemmas.Bool.{ltb-true, lt-ltb, and_parts, and_from}
use Rattle.cg_value.specs.declared.Entry.{Entry}
use Rattle.cg_value.specs.declared.Place.TheVariants.{Untracked, Gen}
use Rattle.cg_script.specs.declared.Script.{Script}
use Rattle.cg_graph.specs.Member.{Includes}
use Rattle.cg_graph.specs.Value.{reference_in, entry_references, last_entry, without_last}
use Rattle.cg_graph.specs.Object.{Object, change, without, object_at, entries_of, with_place, with_entries, with_referent, marked, serials}
use Rattle.cg_graph.proofs.Members.{either, Includes-append_cases, Includes-map_cases, Includes-filter_cases}
use Rattle.cg_machine.specs.declared.event.FrameSort.{FrameSort}
use Rattle.cg_machine.specs.declared.event.FrameSort.TheVariants.{Del, Legacy, Call}
use Rattle.cg_machine.specs.declared.event.FrameSpec.{FrameSpec}
use Rattle.cg_machine.specs.Program.{legacy_of}
use Rattle.cg_machine.specs.World.{push, World, Activity, TopLevel, Framed, Releasing, Dying, Collecting, ShuttingDown, Frame, Numbers, DyingPhase, Finalizer, AfterFinalizer, Clearing, Calling, AfterCall, LegacyFinalizer, AfterLegacy, Detaching, Emptying, Running, with_stack, with_change}
use Rattle.cg_machine.specs.Frame.{gives_up_function, start_frame, frame_end, released}
use Rattle.cg_machine.specs.Weak.{has_weak_references, is_reference_to, weak_references_if, weak_references, loses_referent, callback_of}
use Rattle.cg_machine.specs.Dying.{has_finalizers, finalizer_to_run, run_finalizer, run_legacy, after_frame, clear_one, detach_one, empty_one, dying}
use Rattle.cg_machine.specs.Due.{is_due}
use Rattle.cg_laws.proofs.Sums.{tally, tally-append}
use Rattle.cg_represents.proofs.Serials.{change-shortened, shortened}
use Rattle.cg_laws.proofs.Measure.{commands_left, is_starting, due_rank, due_left, rank_in, left_in, entries_in, referents_in, death_weight, weight_in, summary, Lower, by_entries, by_referents, by_weight}
use Rattle.cg_laws.proofs.FewerEntries.{Fades, Faded, unchanged, change_fades, filter_fades, place_fades, referent_fades, shortened_fades, entries_fades, marked_fades, then_fades, loses_one, shorter, left_fades}
use Rattle.cg_laws.proofs.InvariantOfRuns.{HasBottom, collections_in, Sound, Moves, starts, IsPlain, CountsNothing, plain_counts, due_less}
use Rattle.cg_laws.proofs.Starting.{own_frame_either, release_either, option_either, list_either}

abbrev pub IsLow : Activity → Type 0
IsLow (TopLevel commands) = ⊥
IsLow (ShuttingDown started) = ⊥
IsLow (Collecting c) = ⊥
IsLow _ = Unit {0}

pub record Low (a : Activity) : Type 0 where
  pub collections : collections_in a ≡ 0
  pub starting : is_starting a ≡ false
  pub rank : rank_in a ≡ 0
  pub left : (objects : List Object) → left_in objects a ≡ 0
  pub bottom : (below : List Activity) → HasBottom (a ∷ below) → HasBottom below

pub low : (a : Activity) → IsLow a → Low a
low (TopLevel commands) h = absurd h
low (ShuttingDown started) h = absurd h
low (Collecting c) h = absurd h
low a h = record { collections = refl; starting = refl; rank = refl; left = λ objects. refl; bottom = λ below b. b }

-- What such a step lowers, with tops in place of a.
pub data Gains (before after : List Object) (a : Activity) (tops : List Activity) : Type 0 where
  lighter : tally weight_in tops < weight_in a → Gains before after a tops
  fewer_referents : referents_in after < referents_in before → tally weight_in tops ≤ weight_in a → Gains before after a tops
  fewer_entries : entries_in after < entries_in before → tally weight_in tops ≤ weight_in a + 15 → Gains before after a tops

starting_same : (b c : Bool) → b ≡ false → (b || c) ≡ c
starting_same true c e = cc
starting_same false c e = refl

module _ (script : Script) (v : World) (a : Activity) (below : List Activity) where
  abbrev pub before : World
  before = with_stack (a ∷ below) v

  abbrev pub after : List Object → Numbers → List Activity → World
  after objects numbers tops = record v { objects = objects; numbers = numbers; stack = tops ++ below }

  pub quiet : (objects : List Object) (numbers : Numbers) (tops : List Activity) → IsLow a → IsPlain tops → Faded objects v.objects → (is_due numbers ≡ true → is_due v.numbers ≡ true)
      → Gains v.objects objects a tops → Sound before → Moves script before (after objects numbers tops)
  quiet objects numbers tops l p faded due gains sound = record {
    sound = record {
      rises = faded.rises 1 v.next_serial sound.rises;
      bottom = counts.bottom (from.bottom below sound.bottom);
      single = omega (arith, counts.collections, from.collections, sound.single);
    };
    lower = lower gains;
  }
    where
      counts : CountsNothing tops below
      counts = plain_counts tops below p

      from : Low a
      from = low a l

      commands : commands_left script (after objects numbers tops) ≤ commands_left script before
      commands = omega (arith, counts.commands)

      still_due : due_left (after objects numbers tops) ≤ due_left before
      still_due = subst (λ s. due_rank (is_due numbers) s ≤ due_rank (is_due v.numbers) (list_any is_starting (a ∷ below)))
          (starting_same (is_starting a) (list_any is_starting below) from.starting ∙ sym counts.starting) (due_less (is_due numbers) (is_due v.numbers)
          (list_any is_starting (a ∷ below)) due)

      rank : tally rank_in (tops ++ below) ≤ tally rank_in (a ∷ below)
      rank = omega (arith, counts.rank)

      left : tally (left_in objects) (tops ++ below) ≤ tally (left_in v.objects) (a ∷ below)
      left = omega (arith, counts.left objects, left_fades objects v.objects faded below)

      lower : Gains v.objects objects a tops → Lower (summary script (after objects numbers tops)) (summary script before)
      lower (lighter h) = by_weight commands faded.size still_due rank left faded.entries faded.referents (omega (arith, h, tally-append weight_in tops below))
      lower (fewer_referents h l) = by_referents commands faded.size still_due rank left faded.entries h (omega (arith, l, tally-append weight_in tops below))
      lower (fewer_entries h l) = by_entries commands faded.size still_due rank left h faded.referents (omega (arith, l, tally-append weight_in tops below))

-- one entry less does not raise the count
less_due : (n : Numbers) → is_due (record n { zero_count = n.zero_count - 1 }) ≡ true → is_due n ≡ true
less_due n e =
    let parts = and_parts (n.enabled && not (n.zero_threshold == 0)) (nat_lt n.zero_threshold (n.zero_count - 1)) e in
    let low : n.zero_threshold < n.zero_count - 1 = ltb-true n.zero_threshold (n.zero_count - 1) parts.1 in
    and_from (n.enabled && not (n.zero_threshold == 0)) (nat_lt n.zero_threshold n.zero_count) parts.0 (lt-ltb n.zero_threshold n.zero_count (omega (arith, low)))

-- a listed weak reference lives and has a referent
pub Includes-reverse : (xs : List ℕ) (x : ℕ) → Includes (reverse xs) x → Includes xs x
Includes-reverse [] x m = m
Includes-reverse (y ∷ xs) x m =
    either (Includes-append_cases (reverse xs) (y ∷ []) x (subst (λ ys. Includes ys x) (reverse-append (y ∷ []) xs) m)) (λ k. inr (Includes-reverse xs x k))
    (λ k. either k (λ e. inl e) (λ n. absurd n))

refers_some : (o : ℕ) (r : Option ℕ) → unwrap_or (option_map (λ p. p == o) r) false ≡ true → is_some r ≡ true
refers_some o None e = e
refers_some o (Some p) e = refl

pub passed : (b : Bool) (weaks : List ℕ) (weak : ℕ) (rest : List ℕ) → (if b then weaks else []) ≡ weak ∷ rest → weaks ≡ weak ∷ rest
passed true weaks weak rest e = e
passed false weaks weak rest e = cc

pub refers_first : (test : Object → Bool) (objects : List Object) (o weak : ℕ) (weaks : List ℕ) → weak_references_if test objects o ≡ weak ∷ weaks
    → (y : Object) × Includes objects y × (y.serial ≡ weak) × (is_some y.referent ≡ true)
refers_first test objects o weak weaks e =
    let all = passed (unwrap_or (option_map test (object_at objects o)) false) (weak_references objects o) weak weaks e in
    let m : Includes (reverse (serials (filter (is_reference_to o) objects))) weak = subst (λ ys. Includes ys weak) (sym all) (inl refl) in
    let found = Includes-map_cases (λ (x : Object). x.serial) (filter (is_reference_to o) objects) weak (Includes-reverse (serials (filter (is_reference_to o) objects)) weak m) in
    let kept = Includes-filter_cases (is_reference_to o) objects found.0 found.1 in
    (found.0, kept.0, found.2, refers_some o found.0.referent kept.1)

-- an entry has two references at most
pub list_one : (m : Option ℕ) → length (option_to_list m) ≤ 1
list_one None = omega arith
list_one (Some o) = omega arith

pub references_two : (e : Entry) → length (entry_references e) ≤ 2
references_two e = omega (arith, length-append (option_to_list (reference_in e.val)) (option_to_list (reference_in e.key)), list_one (reference_in e.val), list_one (reference_in e.key))

abbrev pub death_at : ℕ → DyingPhase → List Activity → World → World
death_at o phase below v = with_stack (Dying (record { object = o; phase = phase }) ∷ below) v

module _ (script : Script) (o : ℕ) (below : List Activity) (v : World) where
  -- it goes on to a phase of less weight
  goes_on : (phase next : DyingPhase) → death_weight next < death_weight phase → Sound (death_at o phase below v) → Moves script (death_at o phase below v) (death_at o next below v)
  goes_on phase next l sound = quiet script v (Dying (record { object = o; phase = phase })) below v.objects v.numbers
      (Dying (record { object = o; phase = next }) ∷ []) tt tt (unchanged v.objects) (λ e. e) (lighter (omega (arith, l))) sound

  -- it changes one object and starts a frame
  calls : (phase next : DyingPhase) (spec : FrameSpec) (f : Object → Object) (p : ℕ) → Fades f → death_weight next ≤ death_weight phase + 16 → Sound (death_at o phase below v) → v.outcome ≡ Running
      → Moves script (death_at o phase below v) (start_frame script spec (death_at o next below (with_change f p v))).1
  calls phase next spec f p k l sound running =
      let fade = change_fades f k p v.objects in
      starts script spec (death_at o phase below v) (death_at o next below (with_change f p v)) (record {
        rises = fade.rises 1 v.next_serial sound.rises;
        bottom = sound.bottom;
        single = sound.single;
      }) running
      (record { commands = omega arith; size = fade.size; entries = fade.entries; referents = fade.referents; weight = omega (arith, l) })

  after_frame_moves : (phase next : DyingPhase) → death_weight next < death_weight phase → Sound (death_at o phase below v)
      → Moves script (death_at o phase below v) (after_frame o next below (death_at o phase below v)).1
  after_frame_moves phase next l sound = own_frame_either (λ lines. Moves script (death_at o phase below v)) o next below (death_at o phase below v)
      (λ t. quiet script v (Dying (record { object = o; phase = phase })) below (change (with_place Untracked) o v.objects) v.numbers
      (Dying (record { object = o; phase = next }) ∷ []) tt tt (change_fades (with_place Untracked) (place_fades Untracked refl) o v.objects) (λ e. e)
      (lighter (omega (arith, l))) sound)
      (λ t. quiet script v (Dying (record { object = o; phase = phase })) below v.objects v.numbers [] tt tt (unchanged v.objects) (λ e. e) (lighter (omega (arith, l))) sound)

  loses : (test : Object → Bool) (phase next : DyingPhase) → death_weight next ≤ death_weight phase → (weak : ℕ) (weaks : List ℕ) → weak_references_if test
      v.objects o ≡ weak ∷ weaks → Sound (death_at o phase below v)
      → Moves script (death_at o phase below v) (record v { objects = loses_referent weak v.objects; stack = Dying (record { object = o; phase = next }) ∷ below })
  loses test phase next l weak weaks e sound =
      let y = refers_first test v.objects o weak weaks e in
      quiet script v (Dying (record { object = o; phase = phase })) below (loses_referent weak v.objects) v.numbers (Dying (record { object = o; phase = next })
      ∷ []) tt tt (change_fades (with_referent None) referent_fades weak v.objects) (λ e. e) (fewer_referents (loses_one v.objects weak y.0 y.1 y.2 y.3)
      (omega (arith, l))) sound

  pub dying_moves : (phase : DyingPhase) → Sound (death_at o phase below v) → v.outcome ≡ Running → Moves script (death_at o phase below v) (dying script o phase below (death_at o phase below v)).1
  dying_moves Finalizer sound running = option_either (λ lines. Moves script (death_at o Finalizer below v)) (run_finalizer script o below (death_at o Finalizer below v)) (option_and_then (finalizer_to_run script) (object_at v.objects o))
      (λ e. goes_on Finalizer (Clearing []) (omega arith) sound)
      (λ p e. calls Finalizer AfterFinalizer (record { sort = Del; proc = p; subject = o; func = None })
      (λ x. marked (with_place (Gen 0) x)) o (then_fades (with_place (Gen 0)) marked (place_fades (Gen 0) refl) marked_fades) (omega arith) sound running)
  dying_moves AfterFinalizer sound running = after_frame_moves AfterFinalizer (Clearing []) (omega arith) sound
  dying_moves (Clearing waiting) sound running = list_either (λ lines. Moves script (death_at o (Clearing waiting) below v)) (clear_one o waiting below (death_at o (Clearing waiting) below v)) (weak_references_if has_weak_references v.objects o)
      (λ e. goes_on (Clearing waiting) (Calling waiting) (omega arith) sound)
      (λ weak weaks e. loses has_weak_references (Clearing waiting)
      (Clearing (waiting ++ (if is_some (callback_of v.objects weak) then weak ∷ [] else []))) (omega arith) weak weaks e sound)
  dying_moves (Calling []) sound running = goes_on (Calling []) LegacyFinalizer (omega arith) sound
  dying_moves (Calling (weak ∷ waiting)) sound running = calls (Calling (weak ∷ waiting)) (AfterCall weak (unwrap_or (callback_of v.objects weak) 0) waiting) _
      (with_entries []) weak entries_fades (omega arith) sound running
  dying_moves (AfterCall weak callback waiting) sound running =
      quiet script v (Dying (record { object = o; phase = AfterCall weak callback waiting })) below v.objects v.numbers (Releasing (callback ∷ weak ∷ [])
      ∷ Dying (record { object = o; phase = Calling waiting }) ∷ []) tt tt (unchanged v.objects) (λ e. e) (lighter (omega arith)) sound
  dying_moves LegacyFinalizer sound running = option_either (λ lines. Moves script (death_at o LegacyFinalizer below v)) (run_legacy script o below (death_at o LegacyFinalizer below v)) (option_and_then (legacy_of script) (object_at v.objects o))
      (λ e. goes_on LegacyFinalizer Detaching (omega arith) sound)
      (λ p e. calls LegacyFinalizer AfterLegacy (record { sort = Legacy; proc = p; subject = o; func = None }) (with_place (Gen 0)) o
      (place_fades (Gen 0) refl) (omega arith) sound running)
  dying_moves AfterLegacy sound running = after_frame_moves AfterLegacy Detaching (omega arith) sound
  dying_moves Detaching sound running = list_either (λ lines. Moves script (death_at o Detaching below v)) (detach_one o below (death_at o Detaching below v)) (weak_references_if (has_finalizers script) v.objects o)
      (λ e. goes_on Detaching Emptying (omega arith) sound)
      (λ weak weaks e. loses (has_finalizers script) Detaching Detaching (omega arith) weak weaks e sound)
  dying_moves Emptying sound running = option_either (λ lines. Moves script (death_at o Emptying below v)) (empty_one o below (death_at o Emptying below v)) (last_entry (entries_of v.objects o))
      (λ e. quiet script v (Dying (record { object = o; phase = Emptying })) below (without o v.objects)
      (record v.numbers { zero_count = v.numbers.zero_count - 1 }) [] tt tt (filter_fades (λ x. not (x.serial == o)) v.objects) (less_due v.numbers)
      (lighter (omega arith)) sound)
      (λ entry e. let same = change-shortened o 1 v.next_serial v.objects sound.rises in
      quiet script v (Dying (record { object = o; phase = Emptying })) below (change (with_entries (without_last (entries_of v.objects o))) o v.objects)
      v.numbers (Releasing (entry_references entry) ∷ Dying (record { object = o; phase = Emptying }) ∷ []) tt tt
      (subst (λ os. Faded os v.objects) (sym same) (change_fades shortened shortened_fades o v.objects)) (λ e. e)
      (fewer_entries (subst (λ os. entries_in os < entries_in v.objects) (sym same) (shorter v.objects o entry e)) (omega (arith, references_two entry))) sound)

pub released_moves : (script : Script) (references : List ℕ) (below : List Activity) (v : World) → Sound (with_stack (Releasing references ∷ below) v)
    → Moves script (with_stack (Releasing references ∷ below) v) (released references below (with_stack (Releasing references ∷ below) v)).1
released_moves script [] below v sound = quiet script v (Releasing []) below v.objects v.numbers [] tt tt (unchanged v.objects) (λ e. e) (lighter (omega arith)) sound
released_moves script (o ∷ references) below v sound = release_either (λ lines. Moves script (with_stack (Releasing (o ∷ references) ∷ below) v)) o references below v
    (λ t. quiet script v (Releasing (o ∷ references)) below (change (λ x. with_referent None (with_place Untracked x)) o v.objects) v.numbers
    (Dying (record { object = o; phase = Finalizer }) ∷ Releasing references ∷ []) tt tt
    (change_fades (λ x. with_referent None (with_place Untracked x)) (then_fades (with_place Untracked) (with_referent None) (place_fades Untracked refl)
    referent_fades) o v.objects) (λ e. e) (lighter (omega arith)) sound)
    (λ t. quiet script v (Releasing (o ∷ references)) below v.objects v.numbers (Releasing references ∷ []) tt tt (unchanged v.objects) (λ e. e) (lighter (omega arith)) sound)

pub frame_end_moves : (script : Script) (f : Frame) (below : List Activity) (v : World) → Sound (with_stack (Framed f ∷ below) v)
    → Moves script (with_stack (Framed f ∷ below) v) (frame_end f (with_stack below v)).1
frame_end_moves script f below v sound = by_sort f.sort f.function
  where
    gives_up : (references : List ℕ) → length references ≤ 1 → Moves script (with_stack (Framed f ∷ below) v) (push (Releasing references) (with_stack below v))
    gives_up references few = quiet script v (Framed f) below v.objects v.numbers (Releasing references ∷ []) tt tt (unchanged v.objects) (λ e. e) (lighter (omega (arith, few))) sound

    by_sort : (sort : FrameSort) (function : Option ℕ) → Moves script (with_stack (Framed f ∷ below) v) (gives_up_function sort function (with_stack below v))
    by_sort Call None = gives_up [] (omega arith)
    by_sort Call (Some g) = gives_up (g ∷ []) (omega arith)
    by_sort sort function = quiet script v (Framed f) below v.objects v.numbers [] tt tt (unchanged v.objects) (λ e. e) (lighter (omega arith)) sound
