use Rattle.std.proofs.Common.{refl, sym, ◌∙◌, arith}
use Rattle.cg_interp.proofs.GivingUp.{gave_none, left_held, gave_more, gave_all, gave_death, gave_no_line}
use Rattle.cg_interp.proofs.ReleaseLemmas.{fewer}
use Rattle.cg_death.proofs.ObjectNumbers.{none_then}
use Rattle.cg_interp.proofs.releases.give_up.Goals as goal

pub references-init : goal.references-init
references-init g c = record { gave = gave_none c.args.heap.now c.args.release.now; objects = record { objects = omega arith; names = refl } }

pub step-requires : goal.step-requires
step-requires g c = left_held c.args.heap.now c.references.heap c.args.release.now c.references.release c.references.invariant.gave c.requires.stands

pub references-preserved : goal.references-preserved
references-preserved g c = record {
  gave = λ script e w stands sound.
      gave_more c.args.heap.now c.references.heap c.args.release.now c.references.release c.references.invariant.gave c.step.new.heap c.step.new.self
      c.step.result c.step.ensures.steps script e w stands sound c.in-Continue.is
      (fewer _ _ c.step.new.heap c.step.ensures.left (sym c.in-Continue.is ∙ c.step.ensures.answer));
  objects = none_then _ _ _ c.references.invariant.objects c.step.ensures.objects;
}

pub returns-in-Died-clause-releases : goal.returns-in-Died-clause-releases
returns-in-Died-clause-releases g c = λ script e w stands sound.
    gave_death c.args.heap.now c.references.heap c.args.release.now c.references.release c.references.invariant.gave c.step.new.heap c.step.new.self
    c.step.result c.step.ensures.steps script e w stands sound c.in-Died.object c.in-Died.is

pub returns-in-Gone-clause-releases : goal.returns-in-Gone-clause-releases
returns-in-Gone-clause-releases g c = λ script e w stands sound.
    gave_all c.args.heap.now c.references.heap c.args.release.now c.references.release c.references.invariant.gave c.step.new.heap c.step.new.self c.step.result
    c.step.ensures.steps script e w stands sound c.in-Gone.is

pub unreachable-requires : goal.unreachable-requires
unreachable-requires g c =
    let (script, e, w, stands, sound) = c.requires.stands in
    gave_no_line c.args.heap.now c.references.heap c.args.release.now c.references.release c.references.invariant.gave c.step.new.heap c.step.new.self
    c.step.result c.step.ensures.steps script e w stands sound c.in_default.not-Continue c.in_default.not-Gone c.in_default.not-Died
