-- The number that falls in a run of the engine: in each turn the machine makes a step, or a remaining line of a
-- collection is printed, or the collection comes nearer to its end.
use Rattle.std.proofs.Math.Nat.{mul-le-mul_right, mul-le-mul_left}
use Rattle.std.proofs.Common.{◌≡◌, ◌≢◌, refl, sym, ap, ℕ, suc, ◌+◌, ◌*◌, ◌-◌, ◌<◌, ◌≤◌, ◌⊎◌, Bool, true, false, inl, inr, not, List, [], ◌∷◌, ◌++◌, length, map, Option, Some, None, length-append, sum_by, arith}
use Rattle.std.specs.Prelude.{◌==◌, nat_eq, if◌then◌else◌, option_to_list, filter}
use Rattle.std.proofs.lemmas.List.{length-map}
use Rattle.std.proofs.lemmas.List.Sums.{length-filter, count_by-le-length, sum_by-cons}
use Rattle.cg_value.specs.declared.Place.TheVariants.{Gen, Cand, Pend}
use Rattle.cg_script.specs.declared.Script.{Script}
use Rattle.cg_graph.specs.Places.{without_serial}
use Rattle.cg_graph.specs.Rows.{Row, weak_references_in, referent_in}
use Rattle.cg_graph.specs.Store.{Store, list_at, place_of}
use Rattle.cg_machine.specs.declared.event.Event.{Event}
use Rattle.cg_machine.specs.declared.event.Event.TheVariants.{Alive, Cleared, GcCollectable, GcUncollectable, GcSaved, Collected}
use Rattle.cg_machine.specs.World.{World}
use Rattle.cg_machine.specs.Collect.{lines_if, has_flag, collectable, older}
use Rattle.cg_machine.specs.Run.{StepTaken}
use Rattle.cg_laws.proofs.InvariantOfRuns.{Sound}
use Rattle.cg_laws.proofs.MeasureNumber.{number_of}
use Rattle.cg_laws.proofs.Ending.{run_falls}
use Rattle.cg_death.specs.declared.release.Release.{Release}
use Rattle.cg_policy.specs.Flagset.{bits_of}
use Rattle.cg_collect.specs.declared.collection.Collection.{Collection}
use Rattle.cg_collect.specs.declared.phase.Phase.{Phase}
use Rattle.cg_collect.specs.declared.phase.Phase.TheVariants as phase_of
use Rattle.cg_collect.specs.Phases.{from_on, lines_left, cleared_lines, saved_lines, stop_lines, is_saved_at, old_list, member_lines, members_losing, still_unlinked, without_rows, without_referents, references_in, refers_to_any}
use Rattle.cg_collect.specs.Ready.{to_look_at}
use Rattle.cg_collect.specs.Turns.{pass_of, left_in_pass, still_released, to_clear, still_cleared, others_cleared, list_around, left_to_walk}
use Rattle.cg_collect.proofs.RowWalks.{references-le}
use Rattle.cg_interp.specs.declared.activity.Activity.{Activity}
use Rattle.cg_interp.specs.declared.activity.Activity.TheVariants as activity
use Rattle.cg_interp.specs.Engines.{State}
use Rattle.cg_interp.specs.Collecting.{StandsWith}
use Rattle.cg_interp.specs.Telling.{GoesOnTo, Advances, IsNearer}
use Rattle.cg_interp.proofs.Counting.{world_from, lines_of, lines_are, same_number}
use Rattle.cg_interp.proofs.Sizes.{IsSmall}
use Rattle.cg_graph.specs.Member.{includes}

-- more lines than a collection ever has left, and more than is ever left in one of its passes
unfoldable pub lines_limit : ℕ
lines_limit = 4000000000000

unfoldable pub pass_limit : ℕ
pass_limit = 30000000000000

some_lines : 0 < lines_limit
unfolding lines_limit
some_lines = omega arith

some_pass : 0 < pass_limit
unfolding pass_limit
some_pass = omega arith

some_way : 0 < 17 * pass_limit
some_way = omega (arith, some_pass)

-- how far a collection on top is from its end; 0 without one
abbrev pub way_left : List Activity → Store → ℕ
way_left (activity.Collecting asked c ∷ below) store = (16 - pass_of c.phase) * pass_limit + (left_in_pass c.phase store + still_released c.release)
way_left _ store = 0

-- The number that falls: first the machine's, then the remaining lines, then the distance of the collection.
abbrev pub falling : Script → State → ℕ
falling script e =
    number_of script (world_from script e) * (lines_limit * (17 * pass_limit)) + length (lines_of script e.activities e.store) * (17 * pass_limit) + way_left e.activities e.store

-- numbers of lists
from_on-le : (next : Option ℕ) (xs : List ℕ) → length (from_on next xs) ≤ length xs
from_on-le None xs = omega arith
from_on-le (Some o) [] = omega arith
from_on-le (Some o) (x ∷ xs) = go (x == o) (from_on-le (Some o) xs)
  where
    go : (b : Bool) → length (from_on (Some o) xs) ≤ length xs → length (if b then x ∷ xs else from_on (Some o) xs) ≤ suc (length xs)
    go true h = omega arith
    go false h = omega (arith, h)

cleared-le : (rows : List Row) (members : List ℕ) → length (cleared_lines rows members) ≤ length members * length rows
cleared-le rows [] = omega arith
cleared-le rows (o ∷ members) =
    omega (
      arith,
      length-append (map Cleared (weak_references_in rows o)) (cleared_lines rows members),
      length-map (weak_references_in rows o) Cleared,
      references-le rows o,
      cleared-le rows members,
    )

saved-le : (script : Script) (flags : ℕ) (store : Store) (members : List ℕ) → length (saved_lines script flags store members) ≤ length members
saved-le script flags store members =
    omega (
      arith,
      length-map (filter (is_saved_at script flags store) members) GcSaved,
      length-filter (is_saved_at script flags store) members,
      count_by-le-length (is_saved_at script flags store) members,
    )

lines_if-le : (b : Bool) (lines : List Event) → length (lines_if b lines) ≤ length lines
lines_if-le true lines = omega arith
lines_if-le false lines = omega arith

stop_few : (asked : Bool) (c : Collection) (number : ℕ) → length (stop_lines asked c number) ≤ 2
stop_few asked c number = omega (arith, lines_if-le asked (Collected (c.collected + number) ∷ []))

joined : (xs ys : List Event) (m n : ℕ) → length xs ≤ m → length ys ≤ n → length (xs ++ ys) ≤ m + n
joined xs ys m n few some = omega (arith, length-append xs ys, few, some)

below_limit : (xs : List Event) (n : ℕ) → length xs ≤ n → n ≤ 3000000000000 → length xs < lines_limit
unfolding lines_limit
below_limit xs n few low = omega (arith, few, low)

-- products of small numbers
product : (a b x y : ℕ) → a ≤ b → x ≤ y → a * x ≤ b * y
product a b x y h k = omega (arith, mul-le-mul_right x h, mul-le-mul_left b k)

sum_few : (f : ℕ → ℕ) (most : ℕ) → ((o : ℕ) → f o ≤ most) → (xs : List ℕ) → sum_by f xs ≤ length xs * most
sum_few f most few [] = omega arith
sum_few f most few (o ∷ xs) = omega (arith, sum_by-cons f o xs, few o, sum_few f most few xs)

-- rows are removed, and none is added
without_rows-le : (weaks : List ℕ) (rows : List Row) → length (without_rows weaks rows) ≤ length rows
without_rows-le weaks rows = omega (arith, length-filter (λ r. not (includes weaks r.weak)) rows, count_by-le-length (λ r. not (includes weaks r.weak)) rows)

without_referents-le : (members : List ℕ) (rows : List Row) → length (without_referents members rows) ≤ length rows
without_referents-le members rows = omega (arith, length-filter (λ r. not (refers_to_any members r)) rows, count_by-le-length (λ r. not (refers_to_any members r)) rows)

references_in-le : (rows : List Row) (o : Option ℕ) → length (references_in rows o) ≤ length rows
references_in-le rows None = omega arith
references_in-le rows (Some o) = references-le rows o

losing-le : (final members : List ℕ) (rows : List Row) (most : ℕ) → length rows ≤ most → length (members_losing final members rows) ≤ length members * most
losing-le final [] rows most few = omega arith
losing-le final (o ∷ members) rows most few =
    let weaks : List ℕ = filter (includes final) (references_in rows (referent_in rows o)) in
    omega (
      arith,
      length-append weaks (members_losing final members (without_rows weaks rows)),
      length-filter (includes final) (references_in rows (referent_in rows o)),
      count_by-le-length (includes final) (references_in rows (referent_in rows o)),
      references_in-le rows (referent_in rows o),
      few,
      losing-le final members (without_rows weaks rows) most (omega (arith, few, without_rows-le weaks rows)),
    )

losing_few : (final members : List ℕ) (rows : List Row) → length members ≤ 1000001 → length rows ≤ 1000001 → length (members_losing final members rows) ≤ 1000002000001
losing_few final members rows some few = omega (arith, losing-le final members rows 1000001 few, product (length members) 1000001 1000001 1000001 some (omega arith))

module _ (store : Store) (small : IsSmall store) where
  cleared_few : (members : List ℕ) → length members ≤ 1000001 → length (cleared_lines store.rows members) ≤ 1000002000001
  cleared_few members few = omega (arith, cleared-le store.rows members, product (length members) 1000001 (length store.rows) 1000001 few small.rows)

  saved_few : (script : Script) (c : Collection) (next : Option ℕ) → length (saved_lines script (bits_of c.flags) store (from_on next (old_list c store))) ≤ 1000001
  saved_few script c next = omega (arith, saved-le script (bits_of c.flags) store (from_on next (old_list c store)), from_on-le next (old_list c store), small.lists (Gen (older c.generation)))

  looks_few : (weak : Option ℕ) → length (to_look_at store weak) ≤ 1000001
  looks_few None = omega arith
  looks_few (Some weak) = omega (arith, from_on-le (Some weak) (references_in store.rows (referent_in store.rows weak)), references_in-le store.rows (referent_in store.rows weak), small.rows)

  members_few : length (member_lines store) ≤ 1000002000001
  members_few =
      let final : List ℕ = list_at store Cand in
      let rows : length (without_referents final store.rows) ≤ 1000001 = omega (arith, without_referents-le final store.rows, small.rows) in
      omega (arith, length-map (members_losing final final (without_referents final store.rows)) Cleared, losing_few final final (without_referents final store.rows) (small.lists Cand) rows)

  -- few lines are left
  lines_few : (script : Script) (asked : Bool) (c : Collection) (phase : Phase) → length (lines_left script asked c phase store) < lines_limit
  unfolding lines_limit
  lines_few script asked c (phase_of.Sizes zero one two frozen) =
      omega (arith, lines_if-le (has_flag (bits_of c.flags) collectable) (map GcCollectable (list_at store Cand)), length-map (list_at store Cand) GcCollectable, small.lists Cand)
  lines_few script asked c (phase_of.Telling next) =
      omega (arith, length-map (from_on next (list_at store Cand)) GcCollectable, from_on-le next (list_at store Cand), small.lists Cand)
  lines_few script asked c (phase_of.Living next) =
      below_limit (map Alive (from_on next (old_list c store)) ++ (cleared_lines store.rows (list_at store Cand) ++ member_lines store)) (1000001 + (1000002000001 + 1000002000001))
      (joined _ _ 1000001 (1000002000001 + 1000002000001)
      (omega (arith, length-map (from_on next (old_list c store)) Alive, from_on-le next (old_list c store), small.lists (Gen (older c.generation))))
      (joined _ _ 1000002000001 1000002000001 (cleared_few (list_at store Cand) (small.lists Cand)) members_few)) (omega arith)
  lines_few script asked c (phase_of.Detaching next) =
      below_limit (cleared_lines store.rows (from_on next (list_at store Cand)) ++ member_lines store) (1000002000001 + 1000002000001)
      (joined _ _ 1000002000001 1000002000001 (cleared_few (from_on next (list_at store Cand)) (omega (arith, from_on-le next (list_at store Cand), small.lists Cand))) members_few) (omega arith)
  lines_few script asked c (phase_of.Unlinking member weak) =
      let final : List ℕ = list_at store Cand in
      let weaks : List ℕ = filter (includes final) (to_look_at store weak) in
      let looked : length weaks ≤ 1000001 = omega (arith, length-filter (includes final) (to_look_at store weak), count_by-le-length (includes final) (to_look_at store weak), looks_few weak) in
      let rows : length (without_rows weaks store.rows) ≤ 1000001 = omega (arith, without_rows-le weaks store.rows, small.rows) in
      let rest : length (members_losing final (from_on member final) (without_rows weaks store.rows)) ≤ 1000002000001 = losing_few final (from_on member final)
      (without_rows weaks store.rows) (omega (arith, from_on-le member final, small.lists Cand)) rows in
      below_limit (still_unlinked final weaks member store) (1000001 + 1000002000001)
      (omega (
        arith,
        length-map (weaks ++ members_losing final (from_on member final) (without_rows weaks store.rows)) Cleared,
        length-append weaks (members_losing final (from_on member final) (without_rows weaks store.rows)),
        looked,
        rest,
      )) (omega arith)
  lines_few script asked c (phase_of.Uncollectable first next number) =
      let told : length (map GcUncollectable (from_on next (old_list c store))) ≤ 1000001 =
      omega (
        arith,
        length-map (from_on next (old_list c store)) GcUncollectable,
        from_on-le next (old_list c store),
        small.lists (Gen (older c.generation)),
      ) in
      below_limit (map GcUncollectable (from_on next (old_list c store)) ++ saved_lines script (bits_of c.flags) store (from_on first (old_list c store))
      ++ stop_lines asked c number) (1000001 + 1000001 + 2)
      (joined _ _ (1000001 + 1000001) 2 (joined _ _ 1000001 1000001 told (saved_few script c first)) (stop_few asked c number)) (omega arith)
  lines_few script asked c (phase_of.Saved next number) =
      below_limit (saved_lines script (bits_of c.flags) store (from_on next (old_list c store)) ++ stop_lines asked c number) (1000001 + 2)
      (joined _ _ 1000001 2 (saved_few script c next) (stop_few asked c number)) (omega arith)
  lines_few script asked c (phase_of.Stopping number) = omega (arith, lines_if-le asked (Collected (c.collected + number) ∷ []))
  lines_few script asked c (phase_of.Over number) = omega (arith, lines_if-le asked (Collected (c.collected + number) ∷ []))
  lines_few script asked c phase = omega arith

  -- what is left in a pass
  cleared_each : (o : ℕ) → to_clear store o ≤ 20000020
  cleared_each o = omega (arith, small.entries o)

  all_cleared : still_cleared store ≤ 20000040000020
  all_cleared = omega (arith, sum_few (to_clear store) 20000020 cleared_each (list_at store Cand), product (length (list_at store Cand)) 1000001 20000020 20000020 (small.lists Cand) (omega arith))

  others_few : (o : ℕ) → others_cleared store o ≤ 20000040000020
  others_few o =
      let fewer : length (without_serial o (list_at store Cand)) ≤ 1000001 = omega (
        arith,
        length-filter (λ x. not (nat_eq o x)) (list_at store Cand),
        count_by-le-length (λ x. not (nat_eq o x)) (list_at store Cand),
        small.lists Cand,
      ) in
      omega (
        arith,
        sum_few (to_clear store) 20000020 cleared_each (without_serial o (list_at store Cand)),
        product (length (without_serial o (list_at store Cand))) 1000001 20000020 20000020 fewer (omega arith),
      )

  around_few : (next : Option ℕ) → length (list_around store next) ≤ 1000001
  around_few None = omega arith
  around_few (Some o) = small.lists (place_of store o)

  walk_few : (member weak : Option ℕ) → left_to_walk member weak store ≤ 25000000000000
  walk_few member weak =
      let members : length (from_on member (list_at store Cand)) ≤ 1000001 = omega (arith, from_on-le member (list_at store Cand), small.lists Cand) in
      omega (arith, product (length (from_on member (list_at store Cand))) 1000001 (length store.rows + 1) 1000002 members (omega (arith, small.rows)), looks_few weak)

  pass_few : (phase : Phase) → left_in_pass phase store ≤ 25000000000000
  pass_few (phase_of.WeakClearing member weak) = walk_few member weak
  pass_few (phase_of.Unlinking member weak) = walk_few member weak
  pass_few phase_of.WeakCalling = omega (arith, small.lists Pend)
  pass_few (phase_of.AfterCallback weak) = omega (arith, small.lists Pend)
  pass_few (phase_of.AfterRelease weak) = omega (arith, small.lists Pend)
  pass_few phase_of.Finalizing = omega (arith, small.lists Cand)
  pass_few (phase_of.AfterFinalizing o) = omega (arith, small.lists Cand)
  pass_few (phase_of.Detaching next) = omega (arith, from_on-le next (list_at store Cand), small.lists Cand)
  pass_few phase_of.Turns = omega (arith, all_cleared)
  pass_few (phase_of.Turn o) = omega (arith, others_few o, cleared_each o)
  pass_few (phase_of.AfterTurn o) = omega (arith, others_few o)
  pass_few (phase_of.Saved next number) = omega (arith, from_on-le next (list_around store next), around_few next)
  pass_few phase = omega arith

  released_few : (release : Option Release) → still_released release ≤ 3
  released_few None = omega arith
  released_few (Some release) = omega (arith, length-append (option_to_list release.first) (option_to_list release.second), one release.first, one release.second)
    where
      one : (o : Option ℕ) → length (option_to_list o) ≤ 1
      one None = omega arith
      one (Some o) = omega arith

  in_pass_few : (c : Collection) → left_in_pass c.phase store + still_released c.release < pass_limit
  unfolding pass_limit
  in_pass_few c = omega (arith, pass_few c.phase, released_few c.release)

  way_few : (activities : List Activity) → way_left activities store < 17 * pass_limit
  way_few (activity.Collecting asked c ∷ below) =
      let passes : (16 - pass_of c.phase) * pass_limit ≤ 16 * pass_limit = product (16 - pass_of c.phase) 16 pass_limit pass_limit (omega arith) (omega arith) in
      omega (arith, passes, in_pass_few c)
  way_few _ = some_way

  few_lines : (script : Script) (activities : List Activity) → length (lines_of script activities store) < lines_limit
  few_lines script (activity.Collecting asked c ∷ below) = lines_few script asked c c.phase
  few_lines script _ = some_lines

-- A collection that comes nearer to its end has a smaller distance.
passes_few : (phase : Phase) → pass_of phase < 16
passes_few phase_of.Start = omega arith
passes_few _ = omega arith

further : (a b l m limit : ℕ) → a < b → l < limit → a * limit + l < b * limit + m
further a b l m limit less few = omega (arith, product (suc a) b limit limit (omega (arith, less)) (omega arith), few)

pub shorter : (activities below : List Activity) (old new : Store) → IsSmall new → IsNearer activities old below new → way_left below new < way_left activities old
shorter (activity.Collecting asked c ∷ rest) below old new small near = go below near
  where
    over : 0 < (16 - pass_of c.phase) * pass_limit + (left_in_pass c.phase old + still_released c.release)
    over = omega (arith, further 0 (16 - pass_of c.phase) 0 (left_in_pass c.phase old + still_released c.release) pass_limit (omega (arith, passes_few c.phase)) some_pass)

    go : (below : List Activity) → IsNearer (activity.Collecting asked c ∷ rest) old below new → way_left below new < (16 - pass_of c.phase) * pass_limit +
        (left_in_pass c.phase old + still_released c.release)
    go (activity.Collecting also d ∷ below) (inl later) =
        further (16 - pass_of d.phase) (16 - pass_of c.phase) (left_in_pass d.phase new + still_released d.release) (left_in_pass c.phase old + still_released
        c.release) pass_limit (omega (arith, later, passes_few d.phase)) (in_pass_few new small d)
    go (activity.Collecting also d ∷ below) (inr (same, less)) =
        let passes : (16 - pass_of d.phase) * pass_limit ≡ (16 - pass_of c.phase) * pass_limit = ap (λ p. (16 - p) * pass_limit) (sym same) in
        omega (arith, passes, less)
    go _ near = over
shorter _ below old new small near = absurd near

-- The first of three numbers that changes falls.
module _ (lines_most way_most : ℕ) where
  abbrev three : ℕ → ℕ → ℕ → ℕ
  three n lines way = n * (lines_most * way_most) + lines * way_most + way

  first_falls : (n m lines more way further : ℕ) → n < m → lines < lines_most → way < way_most → three n lines way < three m more further
  first_falls n m lines more way further less few near =
      omega (
        arith,
        product (suc n) m (lines_most * way_most) (lines_most * way_most) (omega (arith, less)) (omega arith),
        product (suc lines) lines_most
            way_most way_most (omega (arith, few)) (omega arith),
        near,
      )

  second_falls : (n m lines more way further : ℕ) → n ≤ m → lines < more → way < way_most → three n lines way < three m more further
  second_falls n m lines more way further less fewer near =
      omega (arith, product n m (lines_most * way_most) (lines_most * way_most) less (omega arith), product (suc lines) more way_most way_most (omega (arith, fewer)) (omega arith), near)

  third_falls : (n m lines more way further : ℕ) → n ≤ m → lines ≡ more → way < further → three n lines way < three m more further
  third_falls n m lines more way further less same nearer =
      omega (arith, product n m (lines_most * way_most) (lines_most * way_most) less (omega arith), ap (λ l. l * way_most) same, nearer)

-- A turn that goes on lowers the number.
module _ (script : Script) (old new : State) (w : World) (left told : List Event) (stands : StandsWith script old left w) (sound : Sound w)
    (small : IsSmall new.store) (turn : GoesOnTo script (Advances old left new) w left told new) where
  abbrev before : ℕ
  before = number_of script (world_from script old)

  abbrev after : ℕ
  after = number_of script (world_from script new)

  abbrev lines_before : ℕ
  lines_before = length (lines_of script old.activities old.store)

  abbrev lines_after : ℕ
  lines_after = length (lines_of script new.activities new.store)

  abbrev way_before : ℕ
  way_before = way_left old.activities old.store

  abbrev way_after : ℕ
  way_after = way_left new.activities new.store

  number_falls : after + length turn.goes.steps ≤ before
  number_falls =
      let cost = run_falls script w turn.goes.steps sound turn.goes.run in
      let ends = ap (number_of script) turn.goes.ends in
      omega (arith, cost, ends, same_number script old left w stands, same_number script new turn.still turn.after turn.stands)

  some_steps : (steps : List StepTaken) → steps ≢ [] → 0 < length steps
  some_steps [] h = absurd (h refl)
  some_steps (s ∷ steps) h = omega arith

  were : length left ≡ lines_before
  were = ap length (lines_are script old left w stands)

  are : length turn.still ≡ lines_after
  are = ap length (lines_are script new turn.still turn.after turn.stands)

  pub turn_falls : falling script new < falling script old
  turn_falls = go turn.moves
    where
      go : (turn.goes.steps ≢ []) ⊎ Advances old left new turn.still → falling script new < falling script old
      go (inl moves) =
          first_falls lines_limit (17 * pass_limit) after before lines_after lines_before way_after way_before
          (omega (arith, number_falls, some_steps turn.goes.steps moves)) (few_lines new.store small script new.activities)
          (way_few new.store small new.activities)
      go (inr (inl fewer)) =
          second_falls lines_limit (17 * pass_limit) after before lines_after lines_before way_after way_before (omega (arith, number_falls))
          (omega (arith, fewer, were, are)) (way_few new.store small new.activities)
      go (inr (inr (same, near))) =
          third_falls lines_limit (17 * pass_limit) after before lines_after lines_before way_after way_before (omega (arith, number_falls))
          (omega (arith, same, were, are)) (shorter old.activities new.activities old.store new.store small near)
