use Rattle.std.proofs.Common.{◌≡◌, ◌∙◌, false, sym, ap}
use Rattle.cg_kind.specs.Calls.{has_key}
use Rattle.cg_kinds.proofs.FewLemmas.{found_later}
use Rattle.cg_kinds.proofs.few.place_in.Goals as goal

pub pairs-preserved : goal.pairs-preserved
pairs-preserved c =
    let other : has_key c.args.key c.index-pairs-at.result ≡ false = ap (λ key. has_key key c.index-pairs-at.result) (sym c.new-wanted.ensures) ∙ sym c.is_under.ensures ∙ c.if-is_under.false in
    c.pairs.invariant ∙ found_later c.args.key c.pairs.at c.args.pairs.now _ c.pairs-test.true (ap (has_key c.args.key) (sym c.index-pairs-at.is) ∙ other)
