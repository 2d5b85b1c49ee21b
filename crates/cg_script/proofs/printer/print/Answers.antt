use Rattle.std.proofs.Common.{◌++◌, ◌∙◌, ap}
use Rattle.std.specs.Prelude.{flat_map}
use Rattle.cg_script.specs.Canonical.{item_lines, line_of_words, naming_of}
use Rattle.cg_script.proofs.Written.{all_written}
use Rattle.cg_script.proofs.printer.print.Goals as goal

pub returns : goal.returns
returns c =
    all_written c.args.script.now.names c.args.script.now.items c.new-out.result.items c.write_items.new.out.items c.new-out.ensures.items
    (c.in_ok-write_items.ensures
    ∙ ap (λ l. c.new-out.result.items ++ flat_map (λ item. flat_map line_of_words (item_lines (naming_of c.args.script.now.names c.args.script.now.items)
    item)) l) c.as_slice.ensures)
