use Rattle.std.proofs.Common.{◌≡◌, [], ◌∷◌, ◌++◌, Some, sym, ap, ◌∙◌}
use Rattle.cg_records.specs.Members.{member, with_reference}
use Rattle.cg_records.proofs.Machine.{with_reference-last}
use Rattle.cg_records.proofs.graph.Members.refer.Goals as goal

pub returns-in_ok-push-in-Some-2 : goal.returns-in_ok-push-in-Some-2
returns-in_ok-push-in-Some-2 c =
    let m = c.in-Some.member in
    let front = c.pop.new.self.items in
    let before : c.args.self.now ≡ front ++ m ∷ [] = cc (c.self.view_is, c.in-Some.ensures.items) in
    ap (λ ms. with_reference ms c.args.serial) before ∙ with_reference-last front m.serial m.degree m.legacy m.refs c.args.serial
    ∙ ap Some (ap (λ refs. front ++ member m.serial m.degree m.legacy refs ∷ []) (sym c.in_ok-push-in-Some.ensures) ∙ sym c.in_ok-push-in-Some-2.ensures.items)
