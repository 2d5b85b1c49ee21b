use Rattle.std.proofs.Common.{◌≡◌, ◌∙◌, ◌+◌, ◌<◌, ◌/◌, ap, sym, subst, length, set, get_or, arith}
use Rattle.std.specs.List.{sum}
use Rattle.std.proofs.lemmas.List.{get_or_default}
use Rattle.cg_kinds.specs.Pairs.{unboxed}
use Rattle.cg_kinds.specs.Order.{AreAbove}
use Rattle.cg_kinds.proofs.SumLemmas.{above_told, none_above, all_parts, raised_above}
use Rattle.cg_kinds.proofs.sums.Sums.+raise.Goals as goal
use Rattle.cg_kinds.proofs.sums.Sums.+raise.Goals.{in-Some, in_default}

pub raise-requires : goal.raise-requires
raise-requires t c =
    let numbers = c.self.inside.numbers.items in
    let above = above_told numbers c.self.inside.above c.in-Some.parts c.self.invariant c.in-Some.is in
    let long = ap length c.deref_mut.ensures.value in
    let whole : length numbers ≡ length c.args.self.now = ap length c.self.view_is in
    let all : sum c.deref_mut.result.now ≡ sum c.args.self.now = ap sum c.deref_mut.ensures.value ∙ all_parts numbers c.in-Some.parts.value above ∙ ap sum c.self.view_is in
    (omega (arith, c.decreases, above.fewer, long, whole), (omega (arith, c.requires.within, above.covered, long, whole), omega (arith, all, c.requires.small)))

pub invariant_of-self : goal.invariant_of-self
invariant_of-self t c =
    let numbers = c.self.inside.numbers.items in
    let i = c.args.i in
    let within : c.args.i < length c.self.inside.numbers.items = omega (arith, c.requires.within, ap length c.self.view_is) in
    elim c.match-self.branch [
      | in-Some w ↦
          let parts = w.in-Some.parts.value in
          let above = above_told numbers c.self.inside.above w.in-Some.parts c.self.invariant w.in-Some.is in
          subst (λ s. AreAbove s.numbers.items (unboxed s.above)) (sym w.self-inside-is)
          (raised_above numbers parts above i within _ _
          (ap (λ n. set numbers i (n + 1)) (c.index_mut.ensures.value ∙ get_or_default numbers i _ 0 within))
          (w.raise.ensures ∙ ap (λ l. set l (i / 16) (get_or l (i / 16) 0 + 1)) w.deref_mut.ensures.value))
      | in_default w ↦ subst (λ s. AreAbove s.numbers.items (unboxed s.above)) (sym w.self-inside-is) (none_above _ c.self.inside.above w.in_default.is)
    ]
