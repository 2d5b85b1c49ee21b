use Rattle.std.proofs.Common.{◌≡◌, ℕ, List, length, sym, ◌∙◌, ap}
use Rattle.std.proofs.lemmas.Bool.{eqb-false}
use Rattle.cg_snapshot.proofs.Numbers.{but_word, but_numbers, none_in_true}
use Rattle.cg_snapshot.proofs.row.read_but.Goals as goal
use Rattle.cg_snapshot.proofs.row.read_but.Goals.{else-is_empty-2-via-then-is_empty-2+else-not-is_empty-2, else-is_empty-2-via-else-is_empty-2}

pub returns-then-not-is_empty-clause-none : goal.returns-then-not-is_empty-clause-none
returns-then-not-is_empty-clause-none c = λ but small same.
    let some : ¬ (length c.args.bytes.now ≡ 0) = eqb-false (length c.args.bytes.now) 0 (sym c.is_empty.ensures ∙ c.if-is_empty.false) in
    let parts = but_word c.args.bytes.now c.in-Some.rest.now c.cut_word.result.0.now c.cut_word.result.1.now but some c.in-Some.ensures c.cut_word.ensures.whole
    c.cut_word.ensures.word c.cut_word.ensures.tail same in
    eqb-false (length c.cut_word.result.0.now) 0 (sym c.is_empty-2.ensures ∙ c.if-not-is_empty.true) (ap (λ (t : List ℕ). length t) parts.0)

pub returns-else-is_empty-2-clause-none : goal.returns-else-is_empty-2-clause-none
returns-else-is_empty-2-clause-none c = λ but small same.
    let some : ¬ (length c.args.bytes.now ≡ 0) = eqb-false (length c.args.bytes.now) 0 (sym c.is_empty.ensures ∙ c.if-is_empty.false) in
    let parts =
    but_numbers c.args.bytes.now c.in-Some.rest.now c.cut_word.result.0.now c.cut_word.result.1.now but c.in_ok-but.but c.in_ok-but.left.now some
    c.in-Some.ensures c.cut_word.ensures.whole c.cut_word.ensures.word c.cut_word.ensures.tail small same c.in_ok-but.ensures.found
    c.in_ok-but.ensures.small c.in_ok-but.ensures.tail c.in_ok-but.ensures.stops in
    elim c.else-is_empty-2.branch [
      | else-is_empty-2-via-then-is_empty-2+else-not-is_empty-2 w ↦ none_in_true c.in_ok-but.but (sym w.is_empty-then-is_empty-2.ensures ∙ w.if-not-is_empty-2.false) parts.0
      | else-is_empty-2-via-else-is_empty-2 w ↦ eqb-false (length c.in_ok-but.left.now) 0 (sym c.is_empty-3.ensures ∙ w.if-is_empty-2.false) (ap (λ (t : List ℕ). length t) parts.1)
    ]
