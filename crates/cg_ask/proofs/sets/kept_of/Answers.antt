use Rattle.std.proofs.Common.{◌∙◌, map, arith}
use Rattle.cg_ask.proofs.KeptByUntoldWords.{all_within, kept_just, plain_rows, same_rows, rows_long}
use Rattle.cg_ask.proofs.sets.kept_of.Goals as goal
use Rattle.cg_ask.proofs.FaultsOfHeaps.{long}

pub reached-requires-clause-as_many : goal.reached-requires-clause-as_many
reached-requires-clause-as_many c = omega (arith, long c.deref.ensures.value, long c.deref-2.ensures.value, c.in_ok-held.ensures.len, c.in_ok-all.ensures.len)

pub reached-requires-clause-long : goal.reached-requires-clause-long
reached-requires-clause-long c =
    omega (arith, long c.deref-2.ensures.value, long c.deref-3.ensures.value, rows_long c.args.members.now c.in_ok-rows.rows.items c.in_ok-rows.ensures, c.in_ok-all.ensures.len)

pub reached-requires-clause-within : goal.reached-requires-clause-within
reached-requires-clause-within c = λ i m.
    let within = all_within c.args.members.now c.deref-3.result.now c.requires.right (c.deref-3.ensures.value ∙ c.in_ok-rows.ensures) i (plain_rows c.deref-3.result.now i m) in
    omega (arith, within, long c.deref-2.ensures.value, c.in_ok-all.ensures.len)

pub without-requires : goal.without-requires
without-requires c =
    omega (arith, long c.deref-2.ensures.value, long c.deref-4.ensures.value, long c.deref-5.ensures.value, c.in_ok-before.ensures.len, c.in_ok-found.ensures.len, c.in_ok-all.ensures.len)

pub returns : goal.returns
returns c =
    let all = c.in_ok-all.ensures in
    let led = rw (c.deref.ensures.value, c.deref-2.ensures.value, c.deref-3.ensures.value) at c.in_ok-found.ensures.led in
    let len = rw (c.deref-2.ensures.value) at c.in_ok-found.ensures.len in
    let left = rw (c.deref-4.ensures.value, c.deref-5.ensures.value) at c.in_ok-kept.ensures in
    kept_just c.args.members.now (map (λ p. p) c.in_ok-rows.rows.items) c.in_ok-held.held.items c.in_ok-all.all.items c.in_ok-found.found.items
    c.in_ok-before.before.items c.in_ok-kept.kept.items (same_rows c.in_ok-rows.rows.items ∙ c.in_ok-rows.ensures) c.in_ok-held.ensures all len led
    c.in_ok-before.ensures left
