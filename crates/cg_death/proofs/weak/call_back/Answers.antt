use Rattle.std.proofs.Common.{◌≡◌, refl, ◌∙◌, [], ◌∷◌, Some, IsSome, subst, sym, ap, ℕ}
use Rattle.std.specs.Prelude.{unwrap_or, option_and_then}
use Rattle.std.specs.FinMap as fin
use Rattle.cg_graph.specs.Rows.{waiting_in, waited_in}
use Rattle.cg_graph.specs.Object.{Object, object_at}
use Rattle.cg_graph.specs.Store.{Store, IsLive, objects_of}
use Rattle.cg_graph.specs.Changes.{held, rewritten}
use Rattle.cg_machine.specs.declared.event.FrameSort.TheVariants.{Callback}
use Rattle.cg_heap.specs.Weak.{forgotten_weak}
use Rattle.cg_heap.proofs.CallerLemmas.{lives_on, kinds-held, kinds-rewritten}
use Rattle.cg_death.specs.declared.phase.Phase.TheVariants as phase_of
use Rattle.cg_death.proofs.RowSplits.{head_in}
use Rattle.cg_death.proofs.Callbacks.{turn-called, procedure-after}
use Rattle.cg_death.proofs.Querying.{newest-waits, callback-lives}
use Rattle.cg_death.proofs.LeavingTheRest.{rest-called}
use Rattle.cg_death.proofs.SteadyRows.{steady-called}
use Rattle.cg_death.proofs.TakingTurns.{running, runs}
use Rattle.cg_death.proofs.weak.call_back.Goals as goal

pub take_callback-callback-requires-clause-live : goal.take_callback-callback-requires-clause-live
take_callback-callback-requires-clause-live g c = (newest-waits c.args.heap.now c.args.object c.args.weak c.sound.ensures.rows c.requires.newest).1

pub take_callback-callback-requires-clause-callback : goal.take_callback-callback-requires-clause-callback
take_callback-callback-requires-clause-callback g c = c.requires.callbacks c.args.weak (head_in (waiting_in c.args.heap.now.rows c.args.object) c.args.weak c.requires.newest)

pub forget_weak-requires-clause-live : goal.forget_weak-requires-clause-live
forget_weak-requires-clause-live g c =
    subst (λ st. IsLive st c.args.weak) (sym c.take_callback-callback.ensures.rest)
    (lives_on (rewritten c.args.weak [] c.args.heap.now) (held (c.take_callback-callback.result ∷ []) (rewritten c.args.weak [] c.args.heap.now))
    (kinds-held (c.take_callback-callback.result ∷ []) (rewritten c.args.weak [] c.args.heap.now)) c.args.weak
    (lives_on c.args.heap.now (rewritten c.args.weak [] c.args.heap.now) (kinds-rewritten c.args.weak [] c.args.heap.now) c.args.weak
    (newest-waits c.args.heap.now c.args.object c.args.weak c.sound.ensures.rows c.requires.newest).1))

pub forget_weak-requires-clause-waits : goal.forget_weak-requires-clause-waits
forget_weak-requires-clause-waits g c =
    subst (λ (st : Store). IsSome (waited_in st.rows c.args.weak)) (sym c.take_callback-callback.ensures.rest)
    (newest-waits c.args.heap.now c.args.object c.args.weak c.sound.ensures.rows c.requires.newest).0

pub callback_frame-requires : goal.callback_frame-requires
callback_frame-requires g c =
    subst (λ (st : Store). IsSome (fin.get st.nodes c.take_callback-callback.result)) (sym (c.forget_weak.ensures ∙ ap (forgotten_weak c.args.weak) c.take_callback-callback.ensures.rest))
    (callback-lives c.args.heap.now c.args.weak c.take_callback-callback.result c.sound.ensures.live c.take_callback-callback.ensures.callback)

pub returns : goal.returns
returns g c = λ script.
    let f : ℕ = c.take_callback-callback.result in
    let new_is : c.forget_weak.new.self ≡ forgotten_weak c.args.weak (held (f ∷ []) (rewritten c.args.weak [] c.args.heap.now)) = c.forget_weak.ensures
    ∙ ap (forgotten_weak c.args.weak) c.take_callback-callback.ensures.rest in
    let proc_is = ap (λ (st : Store). unwrap_or (option_and_then (λ (x : Object). x.class) (object_at (objects_of st) f)) 0) new_is ∙ ap (λ k. unwrap_or k 0)
    (procedure-after c.args.heap.now c.args.weak f [] (f ∷ [])) in
    let frame_is = c.callback_frame.ensures ∙ ap (λ (p : ℕ). record { sort = Callback; proc = p; subject = c.args.weak; func = Some f }) proc_is in
    runs new_is (rest-called c.args.weak f c.args.heap.now)
    (steady-called script c.args.heap.now c.args.object c.args.weak f c.sound.ensures c.requires.newest c.take_callback-callback.ensures.callback)
    _ (c.runs.ensures ∙ ap (running (phase_of.AfterCall c.args.weak f)) frame_is)
    (turn-called script c.args.heap.now c.args.object c.args.weak f c.sound.ensures.rows c.requires.newest c.sound.ensures.live c.take_callback-callback.ensures.callback)
    refl (f, refl, refl) (λ over. absurd (cc))
