use Rattle.std.proofs.Common.{◌<◌, Some, length, subst, sym, arith}
use Rattle.std.proofs.lemmas.Option.{slice_get_within}
use Rattle.cg_heap.specs.Calls.{IsGreatestBound}
use Rattle.cg_heap.proofs.heap.Heap.greatest_name.Goals as goal

pub returns-in_err-name-clause-greatest : goal.returns-in_err-name-clause-greatest
returns-in_err-name-clause-greatest g c = subst (λ s. IsGreatestBound s.names c.from_residual.result) c.self.view_is
    (subst (λ r. IsGreatestBound c.self.inside.names r) (sym c.from_residual.ensures) c.in_err-name.ensures.greatest)

pub overflow_cast-result : goal.overflow_cast-result
overflow_cast-result g c =
    let few : length c.self.inside.names < 1073741824 = c.self.invariant.0.names in
    let within : c.in_ok-name.name < length c.self.inside.names = slice_get_within c.self.inside.names c.in_ok-name.name _ c.in_ok-name.ensures.greatest.0.1 in
    omega (arith, few, within)

pub returns-clause-greatest : goal.returns-clause-greatest
returns-clause-greatest g c = subst (λ s. IsGreatestBound s.names (Some c.in_ok-name.name)) c.self.view_is c.in_ok-name.ensures.greatest
