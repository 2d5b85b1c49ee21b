use Rattle.std.proofs.Common.{◌≡◌, sym, ◌∙◌, ap, false}
use Rattle.cg_machine.specs.Collect.{has_flag, collectable}
use Rattle.cg_policy.specs.Flagset.{bits_of}
use Rattle.cg_collect.specs.Starting.{told_if}
use Rattle.cg_collect.proofs.StartLines.{collectable_at}
use Rattle.cg_collect.proofs.start.after_sizes.Goals as goal

pub returns-else-contains : goal.returns-else-contains
returns-else-contains g c =
    let unset : has_flag (bits_of c.args.facts.flags) collectable ≡ false = sym (collectable_at (bits_of c.args.facts.flags)) ∙ sym (c.contains.ensures tt) ∙ c.if-contains.false in
    c.weak_phase.ensures ∙ ap (λ b. told_if b c.args.heap.now) (sym unset)
