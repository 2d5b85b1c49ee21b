-- Bounds the collector's numbers by the remaining commands; what the start of a collection does to them; and a command
-- counts at most one object.
use Rattle.std.proofs.Common.{◌≡◌, refl, sym, subst, ℕ, suc, ◌+◌, ◌*◌, ◌<◌, ◌≤◌, Bool, true, false, not, ◌&&◌, List, [], ◌∷◌, arith}
use Rattle.std.specs.Prelude.{◌==◌, ◌/◌, nat_lt, ◌||◌, if◌then◌else◌}
use Rattle.std.specs.List.{list_any}
use Rattle.std.proofs.lemmas.Bool.{and_parts, ltb-true, or_parts}
use Rattle.cg_script.specs.declared.Command.{Command}
use Rattle.cg_machine.specs.World.{World, Activity, Numbers}
use Rattle.cg_machine.specs.Effects.{Effect, Changes}
use Rattle.cg_machine.specs.Collect.{begun, survived}
use Rattle.cg_machine.specs.Due.{due_generation, is_due}
use Rattle.cg_represents.proofs.Shapes.{Shape, Makes, Sets, Freezes, StartsFrame, StartsCollection, Ends, AsksWhy}
use Rattle.cg_laws.proofs.SerialsOfSteps.{left_on}
use Rattle.cg_laws.proofs.Measure.{is_starting}

-- the three counts together
abbrev pub counts : Numbers → ℕ
counts n = n.zero_count + n.one_count + n.two_count

-- the most that a run has: commands in a procedure, commands in all, and objects
pub record Limits : Type 0 where
  pub longest : ℕ
  pub commands : ℕ
  pub objects : ℕ

-- No collection is about to start. The counts, and what was spent, are within two for each command that is left or may still
-- come. Each collection of 1 spends one and makes at most all objects pending.
pub record Settled (limits : Limits) (n : Numbers) (budget : ℕ) (stack : List Activity) : Type 0 where
  pub spent : ℕ
  pub within : 2 * (left_on stack + budget * limits.longest) + counts n + spent ≤ 2 * limits.commands
  pub pending : n.pending ≤ spent * limits.objects
  pub total : n.total ≤ limits.objects
  pub still : list_any is_starting stack ≡ false

-- they stay within when a collection starts, however many objects survive
abbrev pub StartsSettled : Limits → Numbers → ℕ → List Activity → ℕ → Type 0
StartsSettled limits n budget stack g = (survivors : ℕ) → survivors ≤ limits.objects → Settled limits (survived g survivors (begun g n)) budget stack

abbrev pub raised : Numbers → Numbers
raised n = record n { zero_count = n.zero_count + 2 }

module _ (limits : Limits) (n : Numbers) (budget : ℕ) (stack : List Activity) where
  -- a count rises by one at most
  begun_counts : (zero one : Bool) → 0 + (if zero then n.one_count + 1 else 0) + (if zero then n.two_count else (if one then n.two_count + 1 else 0)) ≤ counts n + 1
  begun_counts true one = omega arith
  begun_counts false true = omega arith
  begun_counts false false = omega arith

  survivors_pend : (spent survivors : ℕ) → n.pending ≤ spent * limits.objects → survivors ≤ limits.objects → (zero one : Bool)
      → (if zero then n.pending else (if one then n.pending + survivors else 0)) ≤ suc spent * limits.objects
  survivors_pend spent survivors h fit true one = omega (arith, h)
  survivors_pend spent survivors h fit false true = omega (arith, h, fit)
  survivors_pend spent survivors h fit false false = omega arith

  survivors_total : (survivors : ℕ) → n.total ≤ limits.objects → survivors ≤ limits.objects → (two : Bool) → (if two then survivors else n.total) ≤ limits.objects
  survivors_total survivors h fit true = fit
  survivors_total survivors h fit false = h

  -- a collection that a command asks for
  pub asked_settles : (g : ℕ) → Settled limits (raised n) budget stack → StartsSettled limits n budget stack g
  asked_settles g h survivors fit = record {
    spent = suc h.spent;
    within = omega (arith, h.within, begun_counts (g == 0) (g == 1));
    pending = survivors_pend h.spent survivors h.pending fit (g == 0) (g == 1);
    total = survivors_total survivors h.total fit (g == 2);
    still = h.still;
  }

  -- a due collection: its counts are above their thresholds, and become 0
  pub due_settles : is_due n ≡ true → Settled limits n budget stack → StartsSettled limits n budget stack (due_generation n)
  due_settles is h survivors fit = go (nat_lt n.two_threshold n.two_count && not (nat_lt n.pending (n.total / 4))) (nat_lt n.one_threshold n.one_count) (λ e. ltb-true n.one_threshold n.one_count e)
    where
      zero_above : n.zero_threshold < n.zero_count
      zero_above = ltb-true n.zero_threshold n.zero_count (and_parts (n.enabled && not (n.zero_threshold == 0)) (nat_lt n.zero_threshold n.zero_count) is).1

      go : (two one : Bool) → (one ≡ true → n.one_threshold < n.one_count) → (let g : ℕ = if two then 2 else (if one then 1 else 0) in Settled limits (survived g survivors (begun g n)) budget stack)
      go true one above = record { spent = h.spent; within = omega (arith, h.within); pending = omega arith; total = fit; still = h.still }
      go false true above = record { spent = suc h.spent; within = omega (arith, h.within, zero_above, above refl); pending = omega (arith, h.pending, fit); total = h.total; still = h.still }
      go false false above = record { spent = h.spent; within = omega (arith, h.within, zero_above); pending = h.pending; total = h.total; still = h.still }

-- a full collection sets the counts to 0
pub full_settles : (limits : Limits) (n : Numbers) (budget : ℕ) (stack : List Activity) → Settled limits n budget stack → StartsSettled limits n budget stack 2
full_settles limits n budget stack h survivors fit = record { spent = h.spent; within = omega (arith, h.within); pending = omega arith; total = fit; still = h.still }

-- activities without commands are pushed and popped
module _ (limits : Limits) (n : Numbers) (budget : ℕ) (a : Activity) (below : List Activity) where
  pub on_top : left_on (a ∷ []) ≡ 0 → is_starting a ≡ false → Settled limits n budget below → Settled limits n budget (a ∷ below)
  on_top none quiet h = record {
    spent = h.spent;
    within = omega (arith, h.within, none);
    pending = h.pending;
    total = h.total;
    still = subst (λ b. (b || list_any is_starting below) ≡ false) (sym quiet) h.still;
  }

  pub off_top : Settled limits n budget (a ∷ below) → Settled limits n budget below
  off_top h = record { spent = h.spent; within = omega (arith, h.within); pending = h.pending; total = h.total; still = (or_parts (is_starting a) (list_any is_starting below) h.still).1 }

-- what a command does to the numbers: it counts at most one object
pub record CountsOne (n after : Numbers) : Type 0 where
  pub counts_one : counts after ≤ counts n + 1
  pub pending : after.pending ≡ n.pending
  pub total : after.total ≡ n.total

abbrev pub LeavesNumbers : World → Effect → Type 0
LeavesNumbers w (Changes wants_memory lines given_up after) = CountsOne w.numbers after.numbers
LeavesNumbers w effect = Unit {0}

pub shape_counts : (w : World) (command : Command) (e : Effect) → Shape w command e → LeavesNumbers w e
shape_counts w command e (Makes name kind class entries referent own parts) = record { counts_one = omega arith; pending = refl; total = refl }
shape_counts w command e (Sets numbers own keeps) = record { counts_one = omega (arith, keeps.zero_count, keeps.one_count, keeps.two_count); pending = keeps.pending; total = keeps.total }
shape_counts w command e (Freezes is) = record { counts_one = omega arith; pending = refl; total = refl }
shape_counts w command e (StartsFrame f h) = tt
shape_counts w command e (StartsCollection g low) = tt
shape_counts w command e Ends = tt
shape_counts w command e (AsksWhy x h calm) = tt
shape_counts w command e s = record { counts_one = omega arith; pending = refl; total = refl }
