use Rattle.std.proofs.Common.{ap, ◌∙◌}
use Rattle.std.specs.List.{list_all}
use Rattle.cg_script.specs.Words.{is_name_byte}
use Rattle.cg_script.proofs.Ascii.{name_behind}
use Rattle.cg_script.proofs.Cuts.{all_taken}
use Rattle.cg_script.proofs.word.goes_on_as_name.Goals as goal

pub returns : goal.returns
returns c = c.has_name_bytes.ensures ∙ ap (list_all is_name_byte) (all_taken 1 c.args.word.now) ∙ name_behind c.args.word.now c.requires
