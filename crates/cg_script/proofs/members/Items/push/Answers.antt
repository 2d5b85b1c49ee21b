use Rattle.std.proofs.Common.{sym, ap, subst, ◌∙◌, ◌++◌, ◌∷◌, [], length}
use Rattle.cg_script.specs.Items.{AreDeclared, IsIndexIfAny}
use Rattle.cg_script.proofs.Positions.{declared_more}
use Rattle.cg_script.proofs.members.Items.push.Goals as goal

pub invariant_of-self-2 : goal.invariant_of-self-2
invariant_of-self-2 c =
    let e = c.add.ensures in
    let members = c.self.inside.members.items in
    let same = c.in_ok-reserve.ensures.items in
    let now = c.push_reserved.ensures.items ∙ ap (λ l. l ++ c.args.item ∷ []) same in (
      subst (λ items. AreDeclared items c.add.new.self) (sym now) (declared_more members c.args.item c.self.inside.declared c.add.new.self e.profile e.budget e.shutdown c.self.invariant.0),
      subst (λ items. IsIndexIfAny items c.index_line.new.index) (sym now) (c.in_ok-index_line.ensures.ok members (c.len.ensures ∙ c.reserve.new.self.ok.0 ∙ ap length same) c.self.invariant.1),
    )

pub invariant_of-self-in_err-index_line : goal.invariant_of-self-in_err-index_line
invariant_of-self-in_err-index_line c =
    let members = c.self.inside.members.items in
    let same = c.in_ok-reserve.ensures.items in (
      subst (λ items. AreDeclared items c.self.inside.declared) (sym same) c.self.invariant.0,
      subst (λ items. IsIndexIfAny items c.index_line.new.index) (sym same) (c.in_err-index_line.ensures.err members c.self.invariant.1),
    )
