use Rattle.std.proofs.Common.{arith}
use Rattle.cg_script.proofs.RowsByLength.{short_no_atom}
use Rattle.cg_script.proofs.word.atom.Goals as goal

pub returns-then-word-lt-FEWEST_ATOM_BYTES : goal.returns-then-word-lt-FEWEST_ATOM_BYTES
returns-then-word-lt-FEWEST_ATOM_BYTES c = short_no_atom c.args.word.now (omega (arith, c.if-word-lt-FEWEST_ATOM_BYTES.true))
