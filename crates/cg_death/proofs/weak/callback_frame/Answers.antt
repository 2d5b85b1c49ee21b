use Rattle.std.proofs.Common.{◌∙◌, ap, ℕ, Some}
use Rattle.std.specs.Prelude.{unwrap_or}
use Rattle.cg_machine.specs.declared.event.FrameSort.TheVariants.{Callback}
use Rattle.cg_death.proofs.Callbacks.{procedure-told}
use Rattle.cg_death.proofs.weak.callback_frame.Goals as goal

pub returns : goal.returns
returns g c =
    let proc_is = c.unwrap_or.ensures ∙ ap (λ k. unwrap_or k 0) (procedure-told c.args.heap.now c.args.callback c.class_of.result c.requires c.class_of.ensures) in
    ap (λ (p : ℕ). record { sort = Callback; proc = p; subject = c.args.weak; func = Some c.args.callback }) proc_is
