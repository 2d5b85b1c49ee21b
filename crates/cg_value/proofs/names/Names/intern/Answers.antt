use Rattle.std.proofs.Common.{ap, sym, ◌++◌, ◌∷◌, [], cond}
use Rattle.std.specs.Str.{bytes_eq}
use Rattle.cg_value.proofs.Interned.{found_there}
use Rattle.cg_value.proofs.names.Names.intern.Goals as goal

pub returns-then-is_number_of-clause-ok : goal.returns-then-is_number_of-clause-ok
returns-then-is_number_of-clause-ok c =
    let there = found_there (bytes_eq c.args.text.now) c.args.self.now _ (c.is_number_of.ensures.0 c.if-is_number_of.true) in
    ap (λ b. cond b c.args.self.now (c.args.self.now ++ c.args.text.now ∷ [])) (sym there)
