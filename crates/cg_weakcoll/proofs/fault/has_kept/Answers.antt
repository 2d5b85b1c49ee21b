use Rattle.std.proofs.Common.{sym, ◌∙◌}
use Rattle.cg_value.proofs.Interned.{any_map}
use Rattle.cg_weakcoll.specs.Expansion.{is_kept}
use Rattle.cg_weakcoll.proofs.fault.has_kept.Goals as goal

pub returns : goal.returns
returns c = c.any_kept.ensures ∙ sym (any_map is_kept (λ w. w.now) c.args.words.now)
