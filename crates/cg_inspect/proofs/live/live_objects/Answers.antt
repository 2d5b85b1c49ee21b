use Rattle.std.proofs.Common.{List, ℕ, subst, IsPermutation}
use Rattle.std.proofs.lemmas.List.Sorted.{IsNonDecreasingBy-from_sort}
use Rattle.cg_inspect.proofs.Objects.{sorted_lists}
use Rattle.cg_inspect.proofs.live.live_objects.Goals as goal

pub returns : goal.returns
returns g c =
    sorted_lists c.args.heap.now c.sound.ensures.listed c.requires c.sort_unstable.new.self.items
    (subst (λ (l : List ℕ). IsPermutation l c.sort_unstable.new.self.items) c.in_ok-objects.ensures c.sort_unstable.ensures.permutation)
    (IsNonDecreasingBy-from_sort (λ x. x) c.sort_unstable.new.self.items c.sort_unstable.ensures.sorted)
