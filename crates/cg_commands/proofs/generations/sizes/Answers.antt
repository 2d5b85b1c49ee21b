use Rattle.std.proofs.Common.{◌∙◌, arith}
use Rattle.cg_value.specs.declared.Place.TheVariants.{Gen, Frozen}
use Rattle.cg_machine.specs.declared.event.Event.TheVariants.{Gens}
use Rattle.cg_commands.proofs.PlaceSizes.{size_is}
use Rattle.cg_commands.proofs.generations.sizes.Goals as goal

pub returns : goal.returns
returns g c =
    let zero = c.size.ensures ∙ size_is c.args.heap.now c.sound.ensures.listed (Gen 0) (omega arith) in
    let one = c.size-2.ensures ∙ size_is c.args.heap.now c.sound.ensures.listed (Gen 1) (omega arith) in
    let two = c.size-3.ensures ∙ size_is c.args.heap.now c.sound.ensures.listed (Gen 2) (omega arith) in
    let permanent = c.size-4.ensures ∙ size_is c.args.heap.now c.sound.ensures.listed Frozen (omega arith) in
    λ i. Gens (zero i) (one i) (two i) (permanent i)
