use Rattle.std.proofs.Common.{◌≡◌, ◌++◌, ◌∷◌, [], take}
use Rattle.std.specs.Prelude.{codes, flat_map}
use Rattle.cg_ask.specs.Answers.{line}
use Rattle.cg_ask.proofs.why.put_rest.Given as goal

abbrev pub invariant-places : goal.invariant-places
invariant-places l = l.out.items ≡ l.fn.out.items ++ flat_map (λ o. line (codes "via") (o ∷ [])) (take l.place-index l.path)
