use Rattle.cg_inspect.proofs.Orders.{one_first}
use Rattle.cg_inspect.proofs.laws.one_path_comes_first.Goals as goal

pub returns : goal.returns
returns c = λ store object path other short first long last. one_first store object path other short first long last
