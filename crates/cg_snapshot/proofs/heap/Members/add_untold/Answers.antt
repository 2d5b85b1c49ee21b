use Rattle.std.proofs.Common.{◌≡◌, [], ◌∷◌, ◌++◌, Some, sym, ap, ◌∙◌}
use Rattle.cg_snapshot.specs.Members.{with_untold}
use Rattle.cg_snapshot.proofs.Machine.{untold_had, untold_given}
use Rattle.cg_snapshot.proofs.heap.Members.add_untold.Goals as goal

pub returns-then-not-is_empty : goal.returns-then-not-is_empty
returns-then-not-is_empty c =
    let m = c.in-Some.member in
    let front = c.pop.new.self.items in
    let before : c.args.self.now ≡ front ++ m ∷ [] = cc (c.self.view_is, c.in-Some.ensures.items) in
    ap (λ ms. with_untold ms c.args.untold) before ∙ untold_had front m c.args.untold (sym c.is_empty.ensures ∙ c.if-not-is_empty.true)

pub returns-in_ok-push-in-Some-2 : goal.returns-in_ok-push-in-Some-2
returns-in_ok-push-in-Some-2 c =
    let m = c.in-Some.member in
    let front = c.pop.new.self.items in
    let before : c.args.self.now ≡ front ++ m ∷ [] = cc (c.self.view_is, c.in-Some.ensures.items) in
    ap (λ ms. with_untold ms c.args.untold) before ∙ untold_given front m c.args.untold (sym c.is_empty.ensures ∙ c.if-not-is_empty.false) ∙ ap Some (sym c.in_ok-push-in-Some-2.ensures.items)
