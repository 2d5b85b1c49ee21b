use Rattle.std.proofs.Common.{IsSome, refl, sym, ◌∙◌, subst}
use Rattle.cg_arena.proofs.Indexes.{by_row, here_row}
use Rattle.cg_arena.proofs.index.SlotIndex.has.Goals as goal

pub returns-in-Some : goal.returns-in-Some
returns-in-Some c = (
  λ yes. subst IsSome (sym (here_row c.args.slots.now c.args.self.now c.requires c.args.serial c.in-Some.field-0 c.guess.result c.in-Some.ensures.node c.in-Some.ensures.serial)) refl,
  λ has. refl,
)

pub returns-in-None : goal.returns-in-None
returns-in-None c =
    let same = by_row c.args.slots.now c.args.self.now c.requires c.args.serial c.guess.result c.guess.ensures (c.in-None.ensures.none refl) in
    (λ yes. subst IsSome same (sym c.contains_key.ensures ∙ yes), λ has. c.contains_key.ensures ∙ subst IsSome (sym same) has)
