use Rattle.std.proofs.Common.{ap, map}
use Rattle.gcrun.proofs.Six.{six_pushed}
use Rattle.gcrun.proofs.kinds.run_over.Goals as goal

pub gc_run-requires-clause-kinds : goal.gc_run-requires-clause-kinds
gc_run-requires-clause-kinds g c =
    six_pushed (ap (map _) c.new-kinds.ensures.items) c.in_ok-push.ensures.codes c.in_ok-push-2.ensures.codes c.in_ok-push-3.ensures.codes
    c.in_ok-push-4.ensures.codes c.in_ok-push-5.ensures.codes c.in_ok-push-6.ensures.codes
    c.requires.lists c.requires.tuples c.requires.dicts c.requires.instances c.requires.functions c.requires.weak_references

pub gc_run-requires-clause-empty : goal.gc_run-requires-clause-empty
gc_run-requires-clause-empty g c =
    six_pushed (ap (map _) c.new-kinds.ensures.items) c.in_ok-push.ensures.bodies c.in_ok-push-2.ensures.bodies c.in_ok-push-3.ensures.bodies
    c.in_ok-push-4.ensures.bodies c.in_ok-push-5.ensures.bodies c.in_ok-push-6.ensures.bodies
    c.requires.no_list c.requires.no_tuple c.requires.no_dict c.requires.no_instance c.requires.no_function c.requires.no_weak_reference
