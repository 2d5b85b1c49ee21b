use Rattle.std.proofs.Common.{◌++◌, sym, ap, ◌∙◌, append-nil, append_assoc, take, get_or, take_all}
use Rattle.cg_snapshot.specs.Rows.{spaced, all_spaced}
use Rattle.cg_snapshot.proofs.Numbers.{spaced_next}
use Rattle.cg_snapshot.proofs.writing.put_places.Goals as goal

pub places-init : goal.places-init
places-init c = sym (append-nil c.args.out.now.items)

pub places-preserved : goal.places-preserved
places-preserved c =
    let done = all_spaced (take c.places.place-index c.args.places.now) in
    let next = spaced (get_or c.args.places.now c.places.place-index 0) in
    c.in_ok-put_spaced.ensures ∙ ap (λ t. t ++ next) c.places.invariant ∙ append_assoc c.args.out.now.items done next ∙ ap (λ t. c.args.out.now.items ++ t)
    (sym (spaced_next c.args.places.now c.places.place-index c.places-test.true))

pub returns : goal.returns
returns c = c.places.invariant ∙ ap (λ ns. c.args.out.now.items ++ all_spaced ns) (take_all c.places.place-index c.args.places.now c.places-test.false)
