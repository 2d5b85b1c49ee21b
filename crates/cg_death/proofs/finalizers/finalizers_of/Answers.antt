use Rattle.std.proofs.Common.{◌∙◌, sym}
use Rattle.cg_death.proofs.Classes.{class-at, none-at}
use Rattle.cg_death.proofs.finalizers.finalizers_of.Goals as goal

pub returns-in-Some-clause-del : goal.returns-in-Some-clause-del
returns-in-Some-clause-del g c =
    c.finalizers_in.ensures.del
    ∙ sym (class-at c.args.script.now c.args.heap.now c.args.object c.requires (λ c. c.del) c.kind_of.result c.class_of.result _ c.kind_of.ensures c.class_of.ensures c.in-Inst.is c.in-Some.is)

pub returns-in-Some-clause-legacy : goal.returns-in-Some-clause-legacy
returns-in-Some-clause-legacy g c =
    c.finalizers_in.ensures.legacy
    ∙ sym (class-at c.args.script.now c.args.heap.now c.args.object c.requires (λ c. c.legacy) c.kind_of.result c.class_of.result _ c.kind_of.ensures c.class_of.ensures c.in-Inst.is c.in-Some.is)

pub returns-in-None-clause-del : goal.returns-in-None-clause-del
returns-in-None-clause-del g c =
    sym (class-at c.args.script.now c.args.heap.now c.args.object c.requires (λ c. c.del) c.kind_of.result c.class_of.result _ c.kind_of.ensures c.class_of.ensures c.in-Inst.is c.in-None.is)

pub returns-in-None-clause-legacy : goal.returns-in-None-clause-legacy
returns-in-None-clause-legacy g c =
    sym (class-at c.args.script.now c.args.heap.now c.args.object c.requires (λ c. c.legacy) c.kind_of.result c.class_of.result _ c.kind_of.ensures c.class_of.ensures c.in-Inst.is c.in-None.is)

pub returns-in_default : goal.returns-in_default
returns-in_default g c =
    let none = none-at c.args.script.now c.args.heap.now c.args.object c.requires in record {
      del = sym (none (λ c. c.del) c.kind_of.result c.in_default.not-Inst c.kind_of.ensures);
      legacy = sym (none (λ c. c.legacy) c.kind_of.result c.in_default.not-Inst c.kind_of.ensures);
    }
