use Rattle.cg_ask.proofs.Rows.{line_first, line_next, line_end}
use Rattle.cg_ask.proofs.lines.put_line.Goals as goal

pub numbers-init : goal.numbers-init
numbers-init c = line_first c.args.out.now.items c.extend_from_slice.new.self.items c.args.word.now c.args.numbers.now c.in_ok-extend_from_slice.ensures.items

pub numbers-preserved : goal.numbers-preserved
numbers-preserved c = line_next c.args.out.now.items c.numbers.out.items c.put_spaced.new.out.items c.args.word.now c.args.numbers.now c.numbers.number-index
    c.numbers-test.true c.numbers.invariant c.in_ok-put_spaced.ensures

pub returns : goal.returns
returns c = line_end c.args.out.now.items c.numbers.out.items c.push.new.self.items c.args.word.now c.args.numbers.now c.numbers.number-index
    c.numbers-test.false c.numbers.invariant c.in_ok-push.ensures.items
