-- What each step of the machine lowers: seven numbers, in lexicographic order.
use Rattle.std.proofs.Common.{ℕ, suc, ◌+◌, ◌*◌, ◌<◌, ◌≤◌, Bool, true, false, not, cond, List, length, Option}
use Rattle.std.specs.Prelude.{◌==◌, if◌then◌else◌, is_some}
use Rattle.std.specs.List.{list_any}
use Rattle.cg_value.specs.declared.Val.{Val}
use Rattle.cg_value.specs.declared.Place.TheVariants.{Cand}
use Rattle.cg_script.specs.declared.Script.{Script}
use Rattle.cg_graph.specs.Object.{Object, is_at}
use Rattle.cg_machine.specs.Program.{procedures}
use Rattle.cg_machine.specs.World.{World, Activity, TopLevel, Framed, Releasing, Dying, Collecting, ShuttingDown, DyingPhase, Finalizer, AfterFinalizer, Clearing, Calling, AfterCall, LegacyFinalizer, AfterLegacy, Detaching, Emptying, CollectPhase, Start, WeakClearing, WeakCalling, AfterCallback, AfterRelease, Finalizing, AfterFinalizing, Split, Turn, AfterTurn, Ending, Outcome, Running}
use Rattle.cg_machine.specs.Due.{is_due}
use Rattle.cg_laws.proofs.Sums.{tally, bit}

-- 1. Commands that can still run: those on the stack, and for each frame left in the budget one for its start and the bodies of
-- the script. Each weighs two, since it may bind a name; a bound name weighs one, since the shutdown gives it up.
abbrev pub alive : Outcome → ℕ
alive Running = 1
alive other = 0

abbrev pub commands_in : Activity → ℕ
commands_in (TopLevel commands) = 2 * length commands + 2
commands_in (Framed f) = 2 * length f.commands
commands_in (ShuttingDown started) = bit (not started)
commands_in _ = 0

abbrev pub all_bodies : Script → ℕ
all_bodies script = tally (λ p. length p.body) (procedures script.items)

abbrev pub bound_names : List (Option Val) → ℕ
bound_names names = tally (λ v. bit (is_some v)) names

abbrev pub commands_left : Script → World → ℕ
commands_left script w = alive w.outcome + 2 * (w.budget * suc (all_bodies script)) + tally commands_in w.stack + bound_names w.names

-- 2. Whether a collection is due by the numbers, or one on the stack is about to start. Its start clears both.
abbrev pub is_first : CollectPhase → Bool
is_first Start = true
is_first _ = false

abbrev pub is_starting : Activity → Bool
is_starting (Collecting c) = is_first c.phase
is_starting _ = false

abbrev pub due_rank : Bool → Bool → ℕ
due_rank due starting = cond starting 1 (cond due 2 0)

abbrev pub due_left : World → ℕ
due_left w = due_rank (is_due w.numbers) (list_any is_starting w.stack)

-- 3. The remaining phases of a collection. It returns to an earlier phase only by a frame.
abbrev pub phase_rank : CollectPhase → ℕ
phase_rank Start = 10
phase_rank (WeakClearing waiting) = 9
phase_rank (AfterCallback weak waiting) = 8
phase_rank (AfterRelease weak waiting) = 7
phase_rank (WeakCalling waiting) = 6
phase_rank (AfterFinalizing o) = 5
phase_rank Finalizing = 4
phase_rank Split = 3
phase_rank Ending = 1
phase_rank phase = 2

abbrev pub rank_in : Activity → ℕ
rank_in (Collecting c) = phase_rank c.phase
rank_in _ = 0

-- 4. The remaining condemned objects: three steps for each turn.
abbrev pub candidates : List Object → ℕ
candidates objects = tally (λ x. bit (is_at Cand x)) objects

abbrev pub other_candidate : ℕ → Object → ℕ
other_candidate o x = if x.serial == o then 0 else bit (is_at Cand x)

abbrev pub left_at : List Object → CollectPhase → ℕ
left_at objects (Turn o) = 3 * tally (other_candidate o) objects + 2
left_at objects (AfterTurn o) = 3 * tally (other_candidate o) objects + 1
left_at objects _ = 3 * candidates objects

abbrev pub left_in : List Object → Activity → ℕ
left_in objects (Collecting c) = left_at objects c.phase
left_in objects _ = 0

-- 5. Entries. 6. Weak references with a referent.
abbrev pub entries_in : List Object → ℕ
entries_in objects = tally (λ x. length x.entries) objects

abbrev pub referents_in : List Object → ℕ
referents_in objects = tally (λ x. bit (is_some x.referent)) objects

-- 7. The remaining work of frames, releases and deaths. A given-up reference weighs more than the death that it may begin.
abbrev pub death_weight : DyingPhase → ℕ
death_weight Finalizer = 6
death_weight AfterFinalizer = 6
death_weight (Clearing waiting) = 5
death_weight (Calling waiting) = 4
death_weight (AfterCall weak callback waiting) = 20
death_weight LegacyFinalizer = 3
death_weight AfterLegacy = 3
death_weight Detaching = 2
death_weight Emptying = 1

abbrev pub weight_in : Activity → ℕ
weight_in (Framed f) = 9
weight_in (Releasing references) = 1 + 7 * length references
weight_in (Dying d) = death_weight d.phase
weight_in _ = 0

abbrev pub size_of : List Object → ℕ
size_of objects = tally (λ x. 1) objects

pub record Summary : Type 0 where
  pub commands : ℕ
  pub due : ℕ
  pub rank : ℕ
  pub left : ℕ
  pub entries : ℕ
  pub referents : ℕ
  pub weight : ℕ
  pub size : ℕ

abbrev pub summary : Script → World → Summary
summary script w = record {
  commands = commands_left script w;
  due = due_left w;
  rank = tally rank_in w.stack;
  left = tally (left_in w.objects) w.stack;
  entries = entries_in w.objects;
  referents = referents_in w.objects;
  weight = tally weight_in w.stack;
  size = size_of w.objects;
}

-- The first number that changes falls. Later ones may rise by a bounded amount.
pub data Lower (n o : Summary) : Type 0 where
  by_commands : n.commands < o.commands → n.size + n.commands ≤ o.size + o.commands → n.entries ≤ o.entries + 4000000 → n.referents ≤ o.referents + 1 → n.weight ≤ o.weight + 40 → Lower n o
  by_due : n.commands ≤ o.commands → n.size ≤ o.size → n.due < o.due → n.entries ≤ o.entries → n.referents ≤ o.referents → n.weight ≤ o.weight → Lower n o
  by_rank : n.commands ≤ o.commands → n.size ≤ o.size → n.due ≤ o.due → n.rank < o.rank → n.entries ≤ o.entries + o.size → n.referents ≤ o.referents → n.weight ≤ o.weight + 8 → Lower n o
  by_left : n.commands ≤ o.commands → n.size ≤ o.size → n.due ≤ o.due → n.rank ≤ o.rank → n.left < o.left → n.entries ≤ o.entries + 1 → n.referents ≤ o.referents → n.weight ≤ o.weight + 8 → Lower n o
  by_entries : n.commands ≤ o.commands → n.size ≤ o.size → n.due ≤ o.due → n.rank ≤ o.rank → n.left ≤ o.left → n.entries < o.entries → n.referents ≤ o.referents → n.weight ≤ o.weight + 15 → Lower n o
  by_referents : n.commands ≤ o.commands → n.size ≤ o.size → n.due ≤ o.due → n.rank ≤ o.rank → n.left ≤ o.left → n.entries ≤ o.entries → n.referents < o.referents → n.weight ≤ o.weight → Lower n o
  by_weight : n.commands ≤ o.commands → n.size ≤ o.size → n.due ≤ o.due → n.rank ≤ o.rank → n.left ≤ o.left → n.entries ≤ o.entries → n.referents ≤ o.referents → n.weight < o.weight → Lower n o

-- What holds in each sound world.
pub record Bounded (s : Summary) : Type 0 where
  pub due : s.due ≤ 2
  pub rank : s.rank ≤ 10
  pub left : s.left ≤ 3 * s.size + 2

-- One number for all seven. There are never more objects than size and commands together.
abbrev pub number : Summary → ℕ
number s =
    s.commands * (4000 * (s.size + s.commands + 1) + 80000200)
    + (1300 * s.due + 120 * s.rank) * (s.size + s.commands + 1) + 30 * s.left + 20 * s.entries + s.referents + s.weight
