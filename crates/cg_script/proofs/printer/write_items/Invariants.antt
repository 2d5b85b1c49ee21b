use Rattle.std.proofs.Common.{◌≡◌, ◌++◌, take}
use Rattle.std.specs.Prelude.{flat_map}
use Rattle.cg_script.specs.Canonical.{item_lines, line_of_words, names_by}
use Rattle.cg_script.proofs.printer.write_items.Given as goal

-- the items so far are written
abbrev pub invariant-items : goal.invariant-items
invariant-items l = l.out.items ≡ l.fn.out.items ++ flat_map (λ item. flat_map line_of_words (item_lines (names_by l.naming) item)) (take l.item-index l.items)
