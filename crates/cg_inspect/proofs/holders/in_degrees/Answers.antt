use Rattle.std.proofs.Common.{get_or}
use Rattle.cg_graph.specs.Store.{count_of}
use Rattle.cg_inspect.proofs.Objects.{in_range}
use Rattle.cg_inspect.proofs.Holdings.{numbers_next}
use Rattle.cg_inspect.proofs.holders.in_degrees.Goals as goal

pub refs-requires : goal.refs-requires
refs-requires g c = c.requires (get_or c.args.objects.now c.objects.object-index 0) (in_range c.args.objects.now c.objects.object-index c.objects-test.true)

pub objects-preserved : goal.objects-preserved
objects-preserved g c =
    numbers_next (count_of c.args.heap.now) c.args.objects.now c.objects.object-index c.refs.result c.objects.numbers.entries c.set_number.new.numbers.entries
    c.objects-test.true c.objects.invariant c.refs.ensures.count c.in_ok-set_number.ensures
