use Rattle.std.proofs.Common.{refl, inl, sym, arith}
use Rattle.cg_value.specs.declared.Place.TheVariants.{Cand, Seen}
use Rattle.cg_collect.proofs.NothingIsMade.{keeps-merged}
use Rattle.cg_collect.proofs.FinalizerPhase.{turn-all_looked, apart_again}
use Rattle.cg_collect.proofs.TakingTurns.{in_heap, goes_on}
use Rattle.cg_collect.proofs.finalizing.look_at_one.Goals as goal

pub returns-in-None : goal.returns-in-None
returns-in-None g c = λ facts policy.
    let store = c.args.heap.now in
    in_heap c.merge.ensures (goes_on c.to.ensures (turn-all_looked store c.sound.ensures.listed (sym c.in-None.ensures) c.args.script.now facts policy)
    (apart_again store c.sound.ensures.listed (sym c.in-None.ensures) c.requires.ready) tt (inl (omega arith)) (λ n few. few) (omega arith, refl) (keeps-merged Seen Cand store))
