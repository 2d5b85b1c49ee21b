use Rattle.std.proofs.Common.{length, arith}
use Rattle.std.specs.Prelude.{codes}
use Rattle.cg_ask.specs.Asked.{IsLost, IsStuck}
use Rattle.cg_ask.specs.Answers.{TellsLost}
use Rattle.cg_ask.proofs.Rows.{flagged_same}
use Rattle.cg_ask.proofs.sets.put_lost.Goals as goal
use Rattle.cg_ask.proofs.FaultsOfHeaps.{long}

pub stuck_of-requires-clause-lost : goal.stuck_of-requires-clause-lost
stuck_of-requires-clause-lost c = rw c.deref.ensures.value c.in_ok-lost.ensures

pub put_flagged-requires : goal.put_flagged-requires
put_flagged-requires c = omega (arith, long c.deref-2.ensures.value, long c.deref-3.ensures.value, c.in_ok-lost.ensures.len, c.in_ok-stuck.ensures.len)

pub returns : goal.returns
returns c =
    let rows = rw (c.deref-2.ensures.value, c.deref-3.ensures.value) at c.in_ok-put_flagged.ensures in
    flagged_same (length c.args.members.now) (IsLost c.args.members.now) (IsStuck c.args.members.now) c.in_ok-lost.lost.items c.in_ok-stuck.stuck.items
    (codes "lost") c.args.out.now.items c.put_flagged.new.out.items (TellsLost c.args.members.now)
    c.in_ok-lost.ensures c.in_ok-stuck.ensures (λ m ns p q. record { lost = p; stuck = q }) (λ m ns t. (t.lost, t.stuck)) rows
