-- The collector's numbers stay small in every run of a well-formed script.
use Rattle.std.proofs.Common.{ℕ, ◌+◌, ◌*◌, ◌<◌, ◌≤◌, Bool, true, false, length, arith}
use Rattle.std.specs.Prelude.{◌==◌, ◌^◌, if◌then◌else◌}
use Rattle.std.proofs.lemmas.Nat.{mul-le}
use Rattle.cg_script.specs.declared.Script.{Script}
use Rattle.cg_script.specs.Spelled.{IsSpelled}
use Rattle.cg_machine.specs.Program.{commands_of}
use Rattle.cg_machine.specs.World.{World, Numbers}
use Rattle.cg_machine.specs.Collect.{begun}
use Rattle.cg_laws.specs.Few.{AreFew, HasFewNumbers}
use Rattle.cg_collect.specs.declared.phase.Phase.{Phase}
use Rattle.cg_collect.specs.declared.phase.Phase.TheVariants as phase_of
use Rattle.cg_collect.specs.Numbers.{AreSmall}
use Rattle.cg_collect.specs.Answers.{numbers_at}
use Rattle.cg_interp.proofs.SpelledLemmas.{short_bodies, few_commands}

-- a square bounds the pending number
below_square : (pending square : ℕ) → pending ≤ 16 * square → square ≤ 40000400001 * 40000400001 → pending < 2 ^ 126
below_square pending square low high = omega (arith, low, high)

few_are_small : (commands : ℕ) (n : Numbers) → commands ≤ 40000400000 → AreFew commands n → AreSmall n
few_are_small commands n low few = record {
  zero = omega (arith, few.zero, low);
  one = omega (arith, few.one, low);
  two = omega (arith, few.two, low);
  pending = below_square n.pending ((commands + 1) * (commands + 1)) few.pending (mul-le (commands + 1) (commands + 1) 40000400001 40000400001 (omega (arith, low)) (omega (arith, low)));
  total = omega (arith, few.total, low);
}

-- also those that a collection has begun with
begun_are_small : (commands g : ℕ) (n : Numbers) → commands ≤ 40000400000 → AreFew commands n → AreSmall (begun g n)
begun_are_small commands g n low few = record {
  zero = omega arith;
  one = one (g == 0);
  two = two (g == 0) (g == 1);
  pending = (few_are_small commands n low few).pending;
  total = (few_are_small commands n low few).total;
}
  where
    one : (b : Bool) → (if b then n.one_count + 1 else 0) < 2 ^ 62
    one true = omega (arith, few.one, low)
    one false = omega arith

    two : (b c : Bool) → (if b then n.two_count else (if c then n.two_count + 1 else 0)) < 2 ^ 62
    two true c = omega (arith, few.two, low)
    two false true = omega (arith, few.two, low)
    two false false = omega arith

at_phase : (commands g : ℕ) (phase : Phase) (n : Numbers) → commands ≤ 40000400000 → AreFew commands n → AreSmall (numbers_at phase g n)
at_phase commands g phase_of.Start n low few = begun_are_small commands g n low few
at_phase commands g phase n low few = few_are_small commands n low few

module _ (script : Script) (budget : ℕ) (w : World) (spelled : IsSpelled script) (few : HasFewNumbers script budget w) (low : budget ≤ 100000) where
  -- no run does more commands
  most : length (commands_of script.items) + budget * 400000 ≤ 40000400000
  most = omega (arith, few_commands script.items, spelled.few_lines, low)

  pub small_numbers : AreSmall w.numbers
  small_numbers = few_are_small (length (commands_of script.items) + budget * 400000) w.numbers most (few 400000 (short_bodies script spelled))

  -- at any phase of a collection
  pub small_at : (phase : Phase) (g : ℕ) → AreSmall (numbers_at phase g w.numbers)
  small_at phase g = at_phase (length (commands_of script.items) + budget * 400000) g phase w.numbers most (few 400000 (short_bodies script spelled))
