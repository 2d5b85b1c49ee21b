use Rattle.cg_script.specs.Canonical.{names_by}
use Rattle.cg_script.proofs.Written.{line_written}
use Rattle.cg_script.proofs.printer.write_line.Goals as goal

pub returns : goal.returns
returns c =
    line_written (names_by c.args.naming.now) c.args.form c.args.first c.args.keys.now c.args.parts.now c.args.values.now c.args.out.now.items c.write_place.new.out.items c.write_places.new.out.items
    c.write_places-2.new.out.items c.write_values.new.out.items c.push.new.self.items c.in_ok-write_place.ensures c.in_ok-write_places.ensures
    c.in_ok-write_places-2.ensures c.in_ok-write_values.ensures c.in_ok-push.ensures.items
