use Rattle.std.proofs.Common.{sym, ◌∙◌, ap, subst, List, ℕ, length, ◌≤◌, arith, ◌++◌, get_or, [], ◌∷◌, length-append}
use Rattle.std.specs.Prelude.{option_to_list}
use Rattle.std.proofs.lemmas.Option.{MatchOption-at_none}
use Rattle.cg_graph.specs.Member.{Includes}
use Rattle.cg_graph.specs.Holdings.{occurrences}
use Rattle.cg_search.proofs.Visited.{empty_of}
use Rattle.cg_snapshot.specs.declared.heap.Member.{Member}
use Rattle.cg_ask.specs.Released.{Releases}
use Rattle.cg_ask.proofs.Counting.{row_read}
use Rattle.cg_ask.proofs.DiesByCount.{died_first, at_within, row_at_within, row_some, died_more, died_all}
use Rattle.cg_ask.proofs.dying.dying.Goals as goal

pub turns-init : goal.turns-init
turns-init c = died_first c.args.members.now c.args.given.now c.requires.right c.requires.long c.in_ok-left.left.items c.in_ok-dead.dead.items
    c.in_ok-waits.waits.items c.in_ok-left.ensures c.in_ok-dead.ensures.items c.in_ok-waits.ensures

pub offset_bounds-members-at : goal.offset_bounds-members-at
offset_bounds-members-at c =
    let popped = c.pop.ensures.items ∙ ap (λ o. c.pop.new.self.items ++ option_to_list o) c.in-Some.is in
    let within = at_within c.args.members.now c.args.given.now c.requires.right c.requires.long c.turns.left.items c.turns.dead.items c.turns.waits.items
    c.pop.new.self.items c.in-Some.at c.turns.invariant popped in
    omega (arith, within)

pub bounds-members-at : goal.bounds-members-at
bounds-members-at c =
    let popped = c.pop.ensures.items ∙ ap (λ o. c.pop.new.self.items ++ option_to_list o) c.in-Some.is in
    at_within c.args.members.now c.args.given.now c.requires.right c.requires.long c.turns.left.items c.turns.dead.items c.turns.waits.items c.pop.new.self.items c.in-Some.at c.turns.invariant popped

pub release_all-requires-clause-within : goal.release_all-requires-clause-within
release_all-requires-clause-within c = λ i h.
    let popped = c.pop.ensures.items ∙ ap (λ o. c.pop.new.self.items ++ option_to_list o) c.in-Some.is in
    let inside = at_within c.args.members.now c.args.given.now c.requires.right c.requires.long c.turns.left.items c.turns.dead.items c.turns.waits.items
    c.pop.new.self.items c.in-Some.at c.turns.invariant popped in
    let row = row_read c.args.members.now c.in-Some.at c.index-members-at.result inside c.index-members-at.is in
    let within = row_at_within c.args.members.now c.args.given.now c.requires.right c.requires.long c.turns.left.items c.turns.dead.items c.turns.waits.items
    c.pop.new.self.items c.in-Some.at c.turns.invariant popped i (subst (λ (ns : List ℕ). Includes ns i) (c.as_slice.ensures ∙ ap (λ (m : Member). m.refs)
    (sym c.index-members-at.is) ∙ sym row) h) in
    omega (arith, within, c.turns.invariant.len)

pub release_all-requires-clause-long : goal.release_all-requires-clause-long
release_all-requires-clause-long c = omega (arith, c.turns.invariant.len, c.turns.invariant.long)

pub release_all-requires-clause-some : goal.release_all-requires-clause-some
release_all-requires-clause-some c = λ i.
    let popped = c.pop.ensures.items ∙ ap (λ o. c.pop.new.self.items ++ option_to_list o) c.in-Some.is in
    let inside = at_within c.args.members.now c.args.given.now c.requires.right c.requires.long c.turns.left.items c.turns.dead.items c.turns.waits.items
    c.pop.new.self.items c.in-Some.at c.turns.invariant popped in
    let row = row_read c.args.members.now c.in-Some.at c.index-members-at.result inside c.index-members-at.is in
    subst (λ (ns : List ℕ). occurrences i ns ≤ get_or c.turns.left.items i 0) (row ∙ sym (c.as_slice.ensures ∙ ap (λ (m : Member). m.refs) (sym c.index-members-at.is)))
    (row_some c.args.members.now c.args.given.now c.requires.right c.requires.long c.turns.left.items c.turns.dead.items c.turns.waits.items
    c.pop.new.self.items c.in-Some.at c.turns.invariant popped i)

pub turns-preserved : goal.turns-preserved
turns-preserved c =
    let popped = c.pop.ensures.items ∙ ap (λ o. c.pop.new.self.items ++ option_to_list o) c.in-Some.is in
    let inside = at_within c.args.members.now c.args.given.now c.requires.right c.requires.long c.turns.left.items c.turns.dead.items c.turns.waits.items
    c.pop.new.self.items c.in-Some.at c.turns.invariant popped in
    let row = row_read c.args.members.now c.in-Some.at c.index-members-at.result inside c.index-members-at.is in
    died_more c.args.members.now c.args.given.now c.requires.right c.requires.long c.turns.left.items c.turns.dead.items c.turns.waits.items
    c.pop.new.self.items c.in-Some.at c.turns.invariant popped c.release_all.new.left.items c.release_all.new.dead.items c.release_all.new.waits.items
    (subst (λ (ns : List ℕ). Releases ns c.turns.left.items c.turns.dead.items c.pop.new.self.items c.release_all.new.left.items c.release_all.new.dead.items
    c.release_all.new.waits.items) (c.as_slice.ensures ∙ ap (λ (m : Member). m.refs) (sym c.index-members-at.is) ∙ sym row) c.in_ok-release_all.ensures)

pub turns-smaller : goal.turns-smaller
turns-smaller c =
    let popped = ap length (c.pop.ensures.items ∙ ap (λ o. c.pop.new.self.items ++ option_to_list o) c.in-Some.is) in
    omega (arith, popped, c.in_ok-release_all.ensures.measure, length-append c.pop.new.self.items (c.in-Some.at ∷ []))

pub returns : goal.returns
returns c =
    let none = (MatchOption-at_none _ _ c.in_default.is c.pop.ensures.cases).0 in
    died_all c.args.members.now c.args.given.now c.requires.right c.requires.long c.turns.left.items c.turns.dead.items c.turns.waits.items c.turns.invariant
    (empty_of c.turns.waits.items (grind (arith, none, c.turns.waits.ok)))
