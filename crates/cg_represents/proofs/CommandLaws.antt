-- What each command leaves, and checks in order.
use Rattle.std.proofs.Common.{◌≡◌, ℕ, ◌+◌, ◌≤◌, Result, Ok, Err, refl, Option, Some, None}
use Rattle.cg_machine.specs.World.{World}
use Rattle.cg_machine.specs.Effects.{Effect, Changes}
use Rattle.cg_machine.specs.Refusals.{◌>>=◌}
use Rattle.cg_represents.proofs.Serials.{Rises}
use Rattle.std.specs.Prelude.{ok_or}

-- An effect leaves the stack and the budget, does not end the run, keeps serials rising, and makes at most one object.
pub record Leaves (w after : World) : Type 0 where
  pub stack : after.stack ≡ w.stack
  pub budget : after.budget ≡ w.budget
  pub outcome : after.outcome ≡ w.outcome
  pub rises : Rises 1 w.next_serial w.objects → Rises 1 after.next_serial after.objects
  pub serial : after.next_serial ≤ w.next_serial + 1

abbrev pub LeavesStack : World → Effect → Type 0
LeavesStack w (Changes wants_memory lines given_up after) = Leaves w after
LeavesStack w effect = Unit {0}

abbrev pub Each : {A : Type 0} → (A → Type 0) → Result A ℕ → Type 0
Each P (Ok x) = P x
Each P (Err e) = Unit {0}

pub checked : {A B : Type 0} (P : B → Type 0) (m : Result A ℕ) (f : A → Result B ℕ) → ((x : A) → Each P (f x)) → Each P (m >>= f)
unfolding ◌>>=◌
checked P (Ok x) f h = h x
checked P (Err e) f h = tt

-- checks in order, where each result has a property
pub each_then : {A B : Type 0} (Q : A → Type 0) (P : B → Type 0) (m : Result A ℕ) (f : A → Result B ℕ) → Each Q m → ((x : A) → Q x → Each P (f x)) → Each P (m >>= f)
unfolding ◌>>=◌
each_then Q P (Ok x) f q h = h x q
each_then Q P (Err e) f q h = tt

pub each_some : {A : Type 0} (m : Option A) (refusal : ℕ) → Each (λ x. m ≡ Some x) (ok_or m refusal)
each_some None refusal = tt
each_some (Some x) refusal = refl
