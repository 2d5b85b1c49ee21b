use Rattle.std.proofs.Common.{◌-◌, sym, subst, take, drop, length, List, ℕ}
use Rattle.cg_snapshot.proofs.CutBytes.{IsAt, lacks_before, at_place, at_is_tail, all_taken}
use Rattle.cg_snapshot.proofs.number.cut_word.Goals as goal

pub returns-clause-word : goal.returns-clause-word
returns-clause-word c = lacks_before 32 c.args.bytes.now c.place_of-end.result c.place_of-end.ensures.before

pub returns-clause-tail : goal.returns-clause-tail
returns-clause-tail c =
    at_is_tail (take (length c.args.bytes.now - c.place_of-end.result) (drop c.place_of-end.result c.args.bytes.now))
    (subst (λ (t : List ℕ). IsAt 32 t) (sym (all_taken c.place_of-end.result c.args.bytes.now)) (at_place 32 c.args.bytes.now c.place_of-end.result c.place_of-end.ensures.found))
