use mir.Val.{bool_byte}
use Rattle.std.proofs.Common.{◌≡◌, refl, ℕ, Bool, true, false, cond, ◌+◌, ap, sym, ◌∙◌, arith}
use Rattle.cg_graph.specs.Holdings.{occurrences}
use Rattle.cg_trial.specs.View.{view_of}
use Rattle.cg_trial.specs.Sift.{zeros_at}
use Rattle.cg_trial.proofs.CountBounds.{is_ready}
use Rattle.cg_trial.proofs.Lists.{occurs}
use Rattle.cg_trial.proofs.TakingBack.{zeros_changed}
use Rattle.cg_trial.proofs.candidates.lower_number.Goals as goal

pub set_number-requires-clause-place : goal.set_number-requires-clause-place
set_number-requires-clause-place g c = (c.args.members, c.requires.members, c.if-is_member.ensures.is.0 refl)

pub returns-then-is_member-clause-unheld : goal.returns-then-is_member-clause-unheld
returns-then-is_member-clause-unheld g c =
    let v = view_of c.args.heap.now in
    let here = c.if-is_member.ensures.is.0 refl in
    let once : occurrences c.args.object (v.listed c.args.members) ≡ 1 = omega (arith, (is_ready c.args.members c.args.heap.now c.sound.ensures).once c.args.object, occurs (v.listed c.args.members) c.args.object here) in
    zeros_changed c.args.members c.args.object _ v (view_of c.set_number.new.heap) c.set_number.ensures once (λ none. omega (arith, none, c.requires.room here, c.requires.some))
    ∙ ap (λ (k : ℕ). zeros_at c.args.members v + k) (bit _ ∙ sym c.from.ensures)
  where
    bit : (b : Bool) → cond b 1 0 ≡ bool_byte b
    bit true = refl
    bit false = refl
