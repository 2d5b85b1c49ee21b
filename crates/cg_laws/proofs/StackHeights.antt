-- Bounds the height of a run's stack and what it holds, by counting each sort of activity.
use Rattle.std.proofs.Common.{◌≡◌, refl, sym, ◌∙◌, ap, subst, ℕ, zero, suc, ◌+◌, ◌*◌, ◌≤◌, Bool, true, false, cond, inl, inr, List, [], ◌∷◌, ◌++◌, Option, length, length-append, arith}
use Rattle.std.specs.Prelude.{◌==◌, flat_map, count_by}
use Rattle.std.proofs.lemmas.List.Sums.{sum_by-cons}
use Rattle.std.proofs.lemmas.Bool.{eqb-true}
use Rattle.std.proofs.lemmas.List.{length-map}
use Rattle.cg_graph.specs.Member.{Includes, includes}
use Rattle.cg_graph.specs.Object.{Object, serials}
use Rattle.cg_graph.specs.Holdings.{name_holdings, occurrences, graph_of, entry_holdings}
use Rattle.cg_graph.proofs.Members.{Includes-of, includes-of, Includes-append_right}
use Rattle.cg_machine.specs.declared.event.FrameSort.{FrameSort}
use Rattle.cg_machine.specs.declared.event.FrameSort.TheVariants.{Call}
use Rattle.cg_machine.specs.World.{World, Activity, TopLevel, Framed, Releasing, Dying, Collecting, Death, DyingPhase, Clearing, CollectPhase, WeakClearing, opening, ShuttingDown}
use Rattle.cg_machine.specs.Holdings.{holds, call_holds, dying_holds, collect_holds, is_collection}
use Rattle.cg_represents.specs.Orderly.{death_waits, collection_waits, all_waits, AreDeathsOfOthers, IsOrderly}
use Rattle.cg_machine.specs.Run.{last_world}
use Rattle.cg_laws.specs.Bounds.{is_top_level, is_frame, is_release, is_death, IsOverTopLevel, HasNoRelease, AreReleasesApart, IsBounded, StacksAreBounded}
use Rattle.cg_laws.proofs.Sums.{bit, tally-le}
use Rattle.cg_represents.proofs.Lists.{occurrences-cons, fewer_times, absent, no_times}
use Rattle.cg_laws.proofs.InvariantOfRuns.{HasBottom, Sound, collections_in, opening_sound}
use Rattle.cg_laws.proofs.Ending.{sound_after}
use Rattle.cg_laws.proofs.HeldLives.{waits_held}
use Rattle.cg_laws.proofs.HeldLivesRuns.{worlds_orderly}
use Rattle.cg_laws.proofs.RoomOnStack.{how_many, Room}
use Rattle.cg_laws.proofs.RoomOnStackRuns.{runs_have_room}
use Rattle.cg_laws.proofs.MeasureInDeaths.{list_one}

-- the counts of the law, as sums
counted : (sort : Activity → Bool) (stack : List Activity) → count_by sort stack ≡ how_many sort stack
counted sort [] = refl
counted sort (a ∷ stack) = let rest = counted sort stack in omega (arith, rest, sum_by-cons (λ x. cond (sort x) 1 0) a stack)

-- A list without repetition whose members are all in another list is no longer than that list.
others_fit : (xs ys : List ℕ) → ((o : ℕ) → occurrences o xs ≤ 1) → ((o : ℕ) → Includes xs o → Includes ys o) → length xs ≤ length ys
others_fit xs ys once inside = fewer_times xs ys (λ o. go o (includes xs o) refl)
  where
    some : (o n : ℕ) → occurrences o ys ≡ n → Includes ys o → 1 ≤ occurrences o ys
    some o zero e m = absurd (absent o ys e m)
    some o (suc n) e m = omega (arith, e)

    go : (o : ℕ) (t : Bool) → includes xs o ≡ t → occurrences o xs ≤ occurrences o ys
    go o true e = omega (arith, once o, some o (occurrences o ys) refl (inside o (Includes-of xs o e)))
    go o false e = omega (arith, no_times o xs (λ m. let no : true ≡ false = sym (includes-of xs o m) ∙ e in cc))

-- the objects that are dying
abbrev dying_on : List Activity → List ℕ
dying_on [] = []
dying_on (Dying d ∷ below) = d.object ∷ dying_on below
dying_on (a ∷ below) = dying_on below

dying_count : (stack : List Activity) → length (dying_on stack) ≡ how_many is_death stack
dying_count [] = refl
dying_count (Dying d ∷ below) = omega (arith, dying_count below)
dying_count (_ ∷ below) = omega (arith, dying_count below)

death_on : (stack : List Activity) (o : ℕ) → Includes (dying_on stack) o → (d : Death) × Includes stack (Dying d) × (d.object ≡ o)
death_on [] o m = absurd m
death_on (Dying d ∷ below) o (inl e) = (d, inl refl, e)
death_on (Dying d ∷ below) o (inr m) = let found = death_on below o m in (found.0, inr found.1, found.2)
death_on (_ ∷ below) o m = let found = death_on below o m in (found.0, inr found.1, found.2)

dying_once : (stack : List Activity) → AreDeathsOfOthers stack → (o : ℕ) → occurrences o (dying_on stack) ≤ 1
dying_once [] h o = omega arith
dying_once (Dying d ∷ below) h o = go (dying_once below h.1 o) (d.object == o) refl
  where
    go : occurrences o (dying_on below) ≤ 1 → (t : Bool) → (d.object == o) ≡ t → occurrences o (d.object ∷ dying_on below) ≤ 1
    go rest true e =
        let none : occurrences o (dying_on below) ≡ 0 = no_times o (dying_on below) (λ m. let found = death_on below o m in h.0 d refl found.0 found.1 (found.2 ∙ sym (eqb-true d.object o e))) in
        let one : ◌≡◌ {A = ℕ} (cond (d.object == o) 1 0) 1 = ap (λ k. cond k 1 0) e in
        omega (arith, none, one, occurrences-cons o d.object (dying_on below))
    go rest false e =
        let one : ◌≡◌ {A = ℕ} (cond (d.object == o) 1 0) 0 = ap (λ k. cond k 1 0) e in
        omega (arith, one, occurrences-cons o d.object (dying_on below), rest)
dying_once (_ ∷ below) h o = dying_once below h.1 o

-- each release but the top one has a death on it
pub record ReleasesFit (stack : List Activity) : Type 0 where
  pub at_most : how_many is_release stack ≤ how_many is_death stack + 1
  pub none_on_top : HasNoRelease stack → how_many is_release stack ≤ how_many is_death stack

releases_fit : (stack : List Activity) → AreReleasesApart stack → ReleasesFit stack
releases_fit [] h = record { at_most = omega arith; none_on_top = λ t. omega arith }
releases_fit (Releasing references ∷ below) h = let rest = (releases_fit below h.2).none_on_top h.1 in record { at_most = omega (arith, rest); none_on_top = λ t. absurd t }
releases_fit (Dying d ∷ below) h = let rest = (releases_fit below h).at_most in record { at_most = omega (arith, rest); none_on_top = λ t. omega (arith, rest) }
releases_fit (_ ∷ below) h = let rest = (releases_fit below h.1).none_on_top h.0 in record { at_most = omega (arith, rest); none_on_top = λ t. omega (arith, rest) }

-- what is above the script's own commands
over_one : (a : Activity) (below : List Activity) → is_top_level a ≡ false → IsOverTopLevel below → IsOverTopLevel (a ∷ below)
over_one a below other h = record {
  others = a ∷ h.others;
  lowest = h.lowest;
  is = h.is;
  bottom = ap (λ (st : List Activity). a ∷ st) h.bottom;
  nowhere_else = let none : ◌≡◌ {A = ℕ} (cond (is_top_level a) 1 0) 0 = ap (λ t. cond t 1 0) other in omega (arith, none, h.nowhere_else, sum_by-cons (λ x. cond (is_top_level x) 1 0) a h.others);
}

is_over : (stack : List Activity) → HasBottom stack → IsOverTopLevel stack
is_over [] h = absurd h
is_over (TopLevel commands ∷ below) h = record { others = []; lowest = TopLevel commands; is = refl; bottom = ap (λ (st : List Activity). TopLevel commands ∷ st) h; nowhere_else = refl }
is_over (ShuttingDown started ∷ below) h = record { others = []; lowest = ShuttingDown started; is = refl; bottom = ap (λ (st : List Activity). ShuttingDown started ∷ st) h; nowhere_else = refl }
is_over (a ∷ below) h = over_one a below refl (is_over below h)

height_of : (stack : List Activity) → HasBottom stack → length stack ≡ 1 + how_many is_frame stack + how_many is_release stack + how_many is_death stack + how_many is_collection stack
height_of [] h = absurd h
height_of (Framed f ∷ below) h = omega (arith, height_of below h)
height_of (Releasing references ∷ below) h = omega (arith, height_of below h)
height_of (Dying d ∷ below) h = omega (arith, height_of below h)
height_of (Collecting c ∷ below) h = omega (arith, height_of below h)
height_of (a ∷ below) h =
    let none : (sort : Activity → Bool) → how_many sort below ≡ 0 = λ sort. ap (how_many sort) h in
    let low : length below ≡ 0 = ap (λ (st : List Activity). length st) h in
    omega (arith, low, none is_frame, none is_release, none is_death, none is_collection)

frame_holds : (sort : FrameSort) (function : Option ℕ) → length (call_holds sort function) ≤ 1
frame_holds Call function = list_one function
frame_holds sort function = omega arith

death_holds : (o : ℕ) (phase : DyingPhase) → length (dying_holds o phase) ≤ 2 + length (death_waits phase)
death_holds o (Clearing waiting) = omega arith
death_holds o _ = omega arith

collection_holds : (phase : CollectPhase) → length (collect_holds phase) ≤ 1 + length (collection_waits phase)
collection_holds (WeakClearing waiting) = omega arith
collection_holds _ = omega arith

abbrev held_by : List Activity → ℕ
held_by stack = how_many is_frame stack + 2 * how_many is_release stack + 2 * how_many is_death stack + how_many is_collection stack + length (all_waits stack)

holds_at_most : (stack : List Activity) → AreReleasesApart stack → length (flat_map holds stack) ≤ held_by stack
holds_at_most [] h = omega arith
holds_at_most (Framed f ∷ below) h = omega (arith, holds_at_most below h.1, frame_holds f.sort f.function, length-append (call_holds f.sort f.function) (flat_map holds below))
holds_at_most (Releasing references ∷ below) h = omega (arith, holds_at_most below h.2, h.0, length-append references (flat_map holds below))
holds_at_most (Dying d ∷ below) h = omega (
  arith,
  holds_at_most below h,
  death_holds d.object d.phase,
  length-append (dying_holds d.object d.phase)
      (flat_map holds below),
  length-append (death_waits d.phase) (all_waits below),
)
holds_at_most (Collecting c ∷ below) h = omega (
  arith,
  holds_at_most below h.1,
  collection_holds c.phase,
  length-append (collect_holds c.phase)
      (flat_map holds below),
  length-append (collection_waits c.phase) (all_waits below),
)
holds_at_most (a ∷ below) h = omega (arith, holds_at_most below h.1)

one_collection : (a : Activity) → bit (is_collection a) ≤ collections_in a
one_collection (Collecting c) = omega arith
one_collection _ = omega arith

-- a world with the invariants
module _ (b : ℕ) (w : World) (sound : Sound w) (h : IsOrderly w) (room : Room b w.budget w.stack) where
  deaths_fit : how_many is_death w.stack ≤ length w.objects
  deaths_fit = omega (
    arith,
    dying_count w.stack,
    length-map w.objects (λ (x : Object). x.serial),
    others_fit (dying_on w.stack) (serials w.objects) (dying_once w.stack h.others)
        (λ o m. let found = death_on w.stack o m in subst (Includes (serials w.objects)) found.2 (h.deaths found.0 found.1).lives),
  )

  waiting_fit : length (all_waits w.stack) ≤ length w.objects
  waiting_fit = omega (
    arith,
    length-map w.objects (λ (x : Object). x.serial),
    others_fit (all_waits w.stack) (serials w.objects) h.once
        (λ o m. h.held_live o (Includes-append_right (name_holdings w.names ++ (1 ∷ []) ++ entry_holdings (graph_of w.objects)) (flat_map holds w.stack) o (waits_held w.stack o m))),
  )

  single : how_many is_collection w.stack ≤ 1
  single = omega (arith, sound.single, tally-le (λ a. bit (is_collection a)) collections_in one_collection w.stack)

  bounds : IsBounded b w
  bounds = let fit = releases_fit w.stack room.apart in record {
    top_level = is_over w.stack sound.bottom;
    frames = omega (arith, room.frames, counted is_frame w.stack);
    deaths = omega (arith, deaths_fit, counted is_death w.stack);
    apart = room.apart;
    releases = omega (arith, fit.at_most, counted is_release w.stack, counted is_death w.stack);
    collections = omega (arith, single, counted is_collection w.stack);
    waiting = waiting_fit;
    height = omega (arith, height_of w.stack sound.bottom, room.frames, fit.at_most, deaths_fit, single);
    holds = omega (arith, holds_at_most w.stack room.apart, room.frames, fit.at_most, deaths_fit, single, waiting_fit);
  }

pub stacks_bounded : StacksAreBounded
stacks_bounded script budget steps run = bounds budget (last_world (opening script budget) steps) (sound_after script (opening script budget) steps
    (opening_sound script budget) run) (worlds_orderly script budget steps run) (runs_have_room script budget steps run)
