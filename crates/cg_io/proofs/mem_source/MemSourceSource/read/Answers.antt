use Rattle.std.proofs.Common.{◌+◌, arith, drop}
use Rattle.std.proofs.lemmas.Grind.{common_steps}
use Rattle.cg_io.proofs.Copies.{copied_front}
use Rattle.cg_io.proofs.mem_source.MemSourceSource.read.Goals as goal

pub returns-clause-bytes : goal.returns-clause-bytes
returns-clause-bytes c =
    copied_front c.args.self.now.left (drop (c.self.inside.at + c.copy_front-n.result) c.self.inside.bytes.items) c.args.buf.now c.copy_front-n.new.buf c.copy_front-n.result
    (grind (arith, common_steps))
    (grind (arith, common_steps))
    (grind (arith, common_steps))
