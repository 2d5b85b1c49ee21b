use Rattle.std.proofs.Common.{◌∙◌, sym, ap}
use Rattle.std.specs.List.{position_from}
use Rattle.std.proofs.lemmas.Iterator.Adapters.{position_from-zero}
use Rattle.cg_kind.specs.Calls.{has_key}
use Rattle.cg_kinds.proofs.few.Few.find.Goals as goal

pub returns : goal.returns
returns c = c.place_in.ensures ∙ ap (position_from (has_key c.args.key) 0) (c.as_slice.ensures.value ∙ c.self.view_is) ∙ sym (position_from-zero (has_key c.args.key) c.args.self.now)
