use Rattle.std.proofs.Common.{◌≡◌, ◌∙◌, ◌<◌, ◌*◌, ◌++◌, ◌∷◌, [], ap, sym, subst, length, arith}
use Rattle.cg_kinds.specs.declared.sums.Sums.TheInside.{Inside}
use Rattle.cg_kinds.specs.Pairs.{unboxed}
use Rattle.cg_kinds.specs.Order.{AreAbove}
use Rattle.std.specs.List.{sum}
use Rattle.cg_kinds.proofs.SumLemmas.{above_told, none_above, all_parts, pushed_part, pushed_below, first_above}
use Rattle.cg_kinds.proofs.sums.Sums.+push.Goals as goal
use Rattle.cg_kinds.proofs.sums.Sums.+push.Goals.{in-Some+then-len+in_ok-push-in-Some, in-Some+else-len, in-None+then-len-eq-PART+in_ok-first_sums-in-None+in-Some-1, in-None+then-len-eq-PART+in_ok-first_sums-in-None+in-None-1, in-None+else-len-eq-PART}

pub push-requires : goal.push-requires
push-requires t c =
    let numbers = c.self.inside.numbers.items in
    let above = above_told numbers c.self.inside.above c.in-Some.parts c.self.invariant c.in-Some.is in
    let all : sum c.deref_mut.result.now ≡ sum c.args.self.now = ap sum c.deref_mut.ensures.value ∙ all_parts numbers c.in-Some.parts.value above ∙ ap sum c.self.view_is in
    (omega (arith, c.decreases, above.fewer, ap length c.deref_mut.ensures.value, ap length c.self.view_is), omega (arith, all, c.requires))

-- the state after the 0 is appended and the sums above were prepared for it
finish : (t : _) (c : goal.In_ok-push t) (now : Inside) → c.match-self.self-inside ≡ now → AreAbove (now.numbers.items ++ 0 ∷ []) (unboxed now.above)
    → AreAbove c.push-2.new.self.items (unboxed c.match-self.self-inside.above)
finish t c now is are =
    subst (λ l. AreAbove l (unboxed c.match-self.self-inside.above)) (sym c.in_ok-push.ensures.items)
    (subst (λ s. AreAbove (s.numbers.items ++ 0 ∷ []) (unboxed s.above)) (sym is) are)

pub invariant_of-self-2 : goal.invariant_of-self-2
invariant_of-self-2 t c =
    let numbers = c.self.inside.numbers.items in
    elim c.match-self.branch [
      | in-Some+then-len+in_ok-push-in-Some w ↦
          let parts = w.in-Some.parts.value in
          let above = above_told numbers c.self.inside.above w.in-Some.parts c.self.invariant w.in-Some.is in
          let full : length numbers ≡ 16 * length parts = omega (arith, above.covered, w.if-len.true, w.len.ensures, w.len-in-Some.ensures, ap length w.deref.ensures) in
          let more = pushed_part numbers parts above full w.push.new.self (w.in_ok-push-in-Some.ensures.ok ∙ ap (λ l. l ++ 0 ∷ []) w.deref_mut.ensures.value) in
          finish t c _ w.self-inside-is (pushed_below numbers w.push.new.self more.0 more.1)
      | in-Some+else-len w ↦
          let parts = w.in-Some.parts.value in
          let above = above_told numbers c.self.inside.above w.in-Some.parts c.self.invariant w.in-Some.is in
          let room : length numbers < 16 * length parts = omega (arith, above.covered, w.if-len.false, w.len.ensures, w.len-in-Some.ensures, ap length w.deref.ensures) in
          finish t c _ w.self-inside-is (pushed_below numbers parts above room)
      | in-None+then-len-eq-PART+in_ok-first_sums-in-None+in-Some-1 w ↦
          let sums = w.in_ok-first_sums-in-None.field-0.value in
          let more = first_above numbers sums (omega (arith, w.if-len-eq-PART.true, w.len-in-None.ensures)) (w.in_ok-first_sums-in-None.ensures ∙ ap (λ l. sum l ∷ 0 ∷ []) w.as_slice.ensures.value) in
          finish t c _ w.self-inside-is (pushed_below numbers sums more.0 more.1)
      | in-None+then-len-eq-PART+in_ok-first_sums-in-None+in-None-1 w ↦
          let sums = w.in_ok-first_sums-in-None.field-0.value in
          let more = first_above numbers sums (omega (arith, w.if-len-eq-PART.true, w.len-in-None.ensures)) (w.in_ok-first_sums-in-None.ensures ∙ ap (λ l. sum l ∷ 0 ∷ []) w.as_slice.ensures.value) in
          finish t c _ w.self-inside-is (pushed_below numbers sums more.0 more.1)
      | in-None+else-len-eq-PART w ↦ finish t c _ w.self-inside-is (none_above _ c.self.inside.above w.in-None.is)
    ]
