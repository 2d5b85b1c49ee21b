use Rattle.std.proofs.Common.{◌≡◌, ◌∙◌, sym, ap, subst, ℕ, Some}
use Rattle.std.specs.Prelude.{unwrap_or, option_and_then}
use Rattle.cg_graph.specs.Object.{Object, object_at}
use Rattle.cg_graph.specs.Store.{objects_of, IsLive}
use Rattle.cg_machine.specs.declared.event.FrameSort.TheVariants.{Callback}
use Rattle.cg_machine.specs.Weak.{callback_of}
use Rattle.cg_collect.proofs.Pending.{callback_lives, callback_there}
use Rattle.cg_collect.proofs.weak.frame_of_callback.Goals as goal

pub callback_frame-requires : goal.callback_frame-requires
callback_frame-requires g c =
    subst (IsLive c.args.heap.now) (sym (c.unwrap_or-callback.ensures ∙ ap (λ k. unwrap_or k 0) c.callback_looking.ensures.callback))
    (callback_lives c.args.heap.now c.sound.ensures.live c.args.weak (unwrap_or (callback_of (objects_of c.args.heap.now) c.args.weak) 0)
    (callback_there (callback_of (objects_of c.args.heap.now) c.args.weak) c.requires.callback))

pub returns-clause-frame : goal.returns-clause-frame
returns-clause-frame g c =
    let f_is : c.unwrap_or-callback.result ≡ unwrap_or (callback_of (objects_of c.args.heap.now) c.args.weak) 0 = c.unwrap_or-callback.ensures
    ∙ ap (λ k. unwrap_or k 0) c.callback_looking.ensures.callback in
    c.callback_frame.ensures
    ∙ ap (λ (k : ℕ). record { sort = Callback; proc = unwrap_or (option_and_then (λ (x : Object). x.class) (object_at (objects_of c.args.heap.now) k)) 0; subject = c.args.weak; func = Some k }) f_is
