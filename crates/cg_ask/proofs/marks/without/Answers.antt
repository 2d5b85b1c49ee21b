use Rattle.std.proofs.Common.{sym, ◌∙◌, ap, ◌++◌, ◌∷◌, [], take, false}
use Rattle.cg_ask.proofs.Marking.{zipped, only, zipped_next, zipped_all, just_only}
use Rattle.cg_ask.proofs.marks.without.Goals as goal

pub places-preserved : goal.places-preserved
places-preserved c =
    let next = zipped_next only c.args.marks.now c.args.others.now c.places.at false c.places-test.true c.requires in
    c.in_ok-push.ensures.items ∙ ap (λ xs. xs ++ c.is_only.result ∷ []) c.places.invariant
    ∙ ap (λ b. zipped only (take c.places.at c.args.marks.now) (take c.places.at c.args.others.now) ++ b ∷ []) c.is_only.ensures ∙ sym next

pub returns : goal.returns
returns c = just_only c.args.marks.now c.args.others.now c.places.left.items c.requires (zipped_all only c.args.marks.now c.args.others.now c.places.left.items
    c.places.at c.places-test.false c.requires c.places.invariant)
