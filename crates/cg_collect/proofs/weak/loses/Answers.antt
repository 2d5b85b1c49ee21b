use Rattle.std.proofs.Common.{◌∙◌, sym, ap}
use Rattle.std.specs.Prelude.{◌||◌}
use Rattle.cg_graph.specs.Store.{objects_of}
use Rattle.cg_machine.specs.Collect.{is_condemned_in}
use Rattle.cg_heap.proofs.RowLemmas.{refers_live}
use Rattle.cg_collect.proofs.Walking.{loses-some, loses-none}
use Rattle.cg_collect.proofs.weak.loses.Goals as goal

pub is_condemned-requires : goal.is_condemned-requires
is_condemned-requires g c = (refers_live c.args.heap.now c.sound.ensures.rows c.args.weak c.in-Some.referent (sym c.in-Some.ensures.referent)).1

pub returns-then-is_condemned-clause-loses : goal.returns-then-is_condemned-clause-loses
returns-then-is_condemned-clause-loses g c =
    c.if-is_condemned.true
    ∙ sym (loses-some c.args.profile c.args.heap.now c.args.weak c.requires c.in-Some.referent (sym c.in-Some.ensures.referent) (sym c.is_lost_early.ensures.early ∙ c.if-is_lost_early.true)
    ∙ ap (λ b. b || is_condemned_in (objects_of c.args.heap.now) c.args.weak) (sym c.is_condemned.ensures ∙ c.if-is_condemned.true))

pub returns-else-is_condemned-clause-loses : goal.returns-else-is_condemned-clause-loses
returns-else-is_condemned-clause-loses g c =
    c.is_condemned-else-is_condemned.ensures
    ∙ sym (loses-some c.args.profile c.args.heap.now c.args.weak c.requires c.in-Some.referent (sym c.in-Some.ensures.referent) (sym c.is_lost_early.ensures.early ∙ c.if-is_lost_early.true)
    ∙ ap (λ b. b || is_condemned_in (objects_of c.args.heap.now) c.args.weak) (sym c.is_condemned.ensures ∙ c.if-is_condemned.false))

pub returns-in-None-clause-loses : goal.returns-in-None-clause-loses
returns-in-None-clause-loses g c = sym (loses-none c.args.profile c.args.heap.now c.args.weak c.requires (sym c.in-None.ensures.referent))
