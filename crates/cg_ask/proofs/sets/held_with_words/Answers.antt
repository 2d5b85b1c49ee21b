use Rattle.std.proofs.Common.{arith}
use Rattle.cg_ask.proofs.KeptByUntoldWords.{held_with_just}
use Rattle.cg_ask.proofs.sets.held_with_words.Goals as goal
use Rattle.cg_ask.proofs.FaultsOfHeaps.{long}

pub below-requires : goal.below-requires
below-requires c = omega (arith, long c.as_slice.ensures.value, c.requires.counts.words.len, c.requires.outside.len)

pub returns : goal.returns
returns c =
    let less = rw (c.as_slice.ensures.value) at c.in_ok-held.ensures in
    held_with_just c.args.members.now c.args.counts.now c.args.outside.now c.in_ok-held.held.items c.requires.counts c.requires.outside less
