use Rattle.std.proofs.Common.{sym, ◌∙◌}
use Rattle.std.proofs.lemmas.Bool.{eqb-true}
use Rattle.cg_kinds.proofs.PlaceLemmas.{bodies-none}
use Rattle.cg_kinds.proofs.body_slab.BodySlabKind.is_empty.Goals as goal

pub returns : goal.returns
returns g c = λ yes. bodies-none g.C.Contents.body _ (eqb-true _ _ (sym c.is_empty.ensures ∙ yes))
