use Rattle.std.proofs.Common.{sym, ◌∙◌, ap, subst}
use Rattle.cg_value.specs.declared.Place.TheVariants.{Gen, Frozen}
use Rattle.cg_heap.specs.Calls.{merged}
use Rattle.cg_machine.specs.Effects.{frozen}
use Rattle.cg_commands.specs.Places.{Replaces}
use Rattle.cg_commands.proofs.Replacing.{freezes}
use Rattle.cg_commands.proofs.generations.freeze.Goals as goal

pub returns : goal.returns
returns g c =
    let now = c.merge-3.ensures ∙ ap (merged (Gen 2) Frozen) (c.merge-2.ensures ∙ ap (merged (Gen 1) Frozen) c.merge.ensures) in
    subst (Replaces frozen c.args.heap.now) (sym now) (freezes c.args.heap.now c.sound.ensures.listed)
