use Rattle.std.proofs.Common.{◌≡◌, ◌∙◌, ◌-◌, ◌<◌, ◌/◌, ap, sym, subst, length, set, get_or, arith}
use Rattle.std.proofs.lemmas.List.{get_or_default}
use Rattle.cg_kinds.specs.Pairs.{unboxed}
use Rattle.cg_kinds.specs.Order.{AreAbove}
use Rattle.cg_kinds.proofs.SumLemmas.{above_told, none_above, lowered_above, part_some}
use Rattle.cg_kinds.proofs.sums.Sums.+lower.Goals as goal
use Rattle.cg_kinds.proofs.sums.Sums.+lower.Goals.{in-Some, in_default}

pub lower-requires : goal.lower-requires
lower-requires t c =
    let numbers = c.self.inside.numbers.items in
    let above = above_told numbers c.self.inside.above c.in-Some.parts c.self.invariant c.in-Some.is in
    let long = ap length c.deref_mut.ensures.value in
    let whole : length numbers ≡ length c.args.self.now = ap length c.self.view_is in
    let within : c.args.i < length c.self.inside.numbers.items = omega (arith, c.requires.within, whole) in
    let at : get_or numbers c.args.i 0 ≡ get_or c.args.self.now c.args.i 0 = ap (λ l. get_or l c.args.i 0) c.self.view_is in
    let there : get_or c.deref_mut.result.now (c.args.i / 16) 0 ≡ get_or c.in-Some.parts.value (c.args.i / 16) 0 = ap (λ l. get_or l (c.args.i / 16) 0) c.deref_mut.ensures.value in
    let part_is = part_some numbers c.in-Some.parts.value above c.args.i within (omega (arith, at, c.requires.some)) in
    (omega (arith, c.decreases, above.fewer, long, whole), (omega (arith, c.requires.within, above.covered, long, whole), omega (arith, part_is, there)))

pub invariant_of-self : goal.invariant_of-self
invariant_of-self t c =
    let numbers = c.self.inside.numbers.items in
    let i = c.args.i in
    let within : c.args.i < length c.self.inside.numbers.items = omega (arith, c.requires.within, ap length c.self.view_is) in
    let at : get_or numbers i 0 ≡ get_or c.args.self.now i 0 = ap (λ l. get_or l i 0) c.self.view_is in
    let some : 0 < get_or numbers i 0 = omega (arith, at, c.requires.some) in
    elim c.match-self.branch [
      | in-Some w ↦
          let parts = w.in-Some.parts.value in
          let above = above_told numbers c.self.inside.above w.in-Some.parts c.self.invariant w.in-Some.is in
          subst (λ s. AreAbove s.numbers.items (unboxed s.above)) (sym w.self-inside-is)
          (lowered_above numbers parts above i within some _ _
          (ap (λ n. set numbers i (n - 1)) (c.index_mut.ensures.value ∙ get_or_default numbers i _ 0 within))
          (w.lower.ensures ∙ ap (λ l. set l (i / 16) (get_or l (i / 16) 0 - 1)) w.deref_mut.ensures.value))
      | in_default w ↦ subst (λ s. AreAbove s.numbers.items (unboxed s.above)) (sym w.self-inside-is) (none_above _ c.self.inside.above w.in_default.is)
    ]
