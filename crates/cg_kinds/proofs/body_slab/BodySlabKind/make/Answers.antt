use Rattle.std.proofs.Common.{ap}
use Rattle.cg_kinds.proofs.PlaceLemmas.{made, bodies-slots, vacant-at, on_err_any}
use Rattle.cg_kinds.proofs.body_slab.BodySlabKind.make.Goals as goal

pub returns-in_err-at-clause-err : goal.returns-in_err-at-clause-err
returns-in_err-at-clause-err g c =
    on_err_any c.from_residual-in_err-at.result
    (bodies-slots g.C.Contents.body c.args.self.now.slab c.insert.new.self (ap (λ s. s.slots) c.in_err-at.ensures.err))

pub returns-clause-made : goal.returns-clause-made
returns-clause-made g c = made g.C.Contents.body _ _ _ _ _ c.in_ok-at.ensures.updates c.in_ok-contents.ensures

pub returns-clause-vacant : goal.returns-clause-vacant
returns-clause-vacant g c = vacant-at g.C.Contents.body _ _ c.in_ok-at.ensures.was_vacant
