use Rattle.std.proofs.Common.{refl, sym, ◌∙◌, ap, subst, ◌+◌, ◌-◌, ◌≡◌, IsSome, length, arith, vec_len, vec_capacity}
use Rattle.cg_interp.specs.Stacks.{Stacked, death_on, with_death}
use Rattle.cg_interp.proofs.TopDeaths.{some_slot, stacked, death_there, death_replaced}
use Rattle.cg_interp.proofs.stack.Stack.death_on_top_mut.Goals as goal

pub returns : goal.returns
returns c =
    let seat = c.self.inside.seat in
    let slots = c.self.inside.slots in
    let some = some_slot seat slots.items (subst (λ (s : Stacked). IsSome (death_on s.activities)) (sym c.self.view_is) c.requires) in
    let last = c.len-top.result - 1 in
    let is : last + 1 ≡ length slots.items = omega (arith, some, c.len-top.ensures, slots.ok.0) in
    let top = c.index_mut.result.now in
    let read = c.index_mut.ensures.value in (
      (
        refl,
        λ w. ap (λ l. stacked l (vec_capacity slots - vec_len slots)) (death_replaced slots.items last top is read w seat) ∙ ap (λ s. with_death s w) c.self.view_is,
      ),
      record {
        writes_back = tt;
        value = ap (λ (s : Stacked). death_on s.activities) (sym c.self.view_is) ∙ death_there slots.items last top is read seat ∙ c.death_mut.ensures.value;
      },
    )
