use Rattle.std.proofs.Common.{sym, ◌∙◌, ap, ◌++◌, ◌∷◌, [], take, false}
use Rattle.cg_ask.proofs.Marking.{zipped, any, zipped_next, zipped_all, just_any}
use Rattle.cg_ask.proofs.marks.joined.Goals as goal

pub places-preserved : goal.places-preserved
places-preserved c =
    let next = zipped_next any c.args.marks.now c.args.others.now c.places.at false c.places-test.true c.requires in
    c.in_ok-push.ensures.items ∙ ap (λ xs. xs ++ c.is_any.result ∷ []) c.places.invariant
    ∙ ap (λ b. zipped any (take c.places.at c.args.marks.now) (take c.places.at c.args.others.now) ++ b ∷ []) c.is_any.ensures ∙ sym next

pub returns : goal.returns
returns c = just_any c.args.marks.now c.args.others.now c.places.all.items c.requires (zipped_all any c.args.marks.now c.args.others.now c.places.all.items
    c.places.at c.places-test.false c.requires c.places.invariant)
