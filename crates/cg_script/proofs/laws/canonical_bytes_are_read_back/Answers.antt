use Rattle.cg_script.proofs.ReadBack.{read_back}
use Rattle.cg_script.proofs.laws.canonical_bytes_are_read_back.Goals as goal

pub returns : goal.returns
returns c = λ bytes names items e. read_back bytes names items e
