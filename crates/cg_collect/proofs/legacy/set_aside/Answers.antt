use Rattle.std.proofs.Common.{◌≡◌, sym, subst, arith}
use Rattle.std.proofs.lemmas.Grind.{common_steps}
use Rattle.cg_value.specs.declared.Val.{Val}
use Rattle.cg_value.specs.declared.Val.TheVariants.{Ref}
use Rattle.cg_value.specs.declared.Place.TheVariants.{Cand}
use Rattle.cg_graph.specs.Store.{Store, place_of, IsLive}
use Rattle.cg_trial.specs.View.{targets}
use Rattle.cg_collect.specs.Starting.{SetsReferencesAside}
use Rattle.cg_collect.proofs.Uncollectable.{aside_one}
use Rattle.cg_collect.proofs.legacy.set_aside.Goals as goal

pub returns-then-eq : goal.returns-then-eq
returns-then-eq g c =
    let at : place_of c.args.heap.now c.in-Ref.object ≡ Cand = grind (arith, common_steps) in
    let live : IsLive c.args.heap.now c.in-Ref.object = c.requires c.in-Ref.object c.in-Ref.is in
    subst (λ (v : Val). SetsReferencesAside (targets v) c.args.heap.now c.move_to.new.self) (sym c.in-Ref.is)
    (subst (λ (s : Store). SetsReferencesAside (targets (Ref c.in-Ref.object)) c.args.heap.now s) (sym c.move_to.ensures)
    (aside_one c.in-Ref.object c.args.heap.now c.sound.ensures.listed live at))
