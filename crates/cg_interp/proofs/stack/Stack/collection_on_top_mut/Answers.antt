use Rattle.std.proofs.Common.{refl, sym, ◌∙◌, ap, subst, ◌-◌, IsSome, Some, map, vec_len, vec_capacity}
use Rattle.std.specs.Prelude.{reverse}
use Rattle.cg_interp.specs.Stacks.{Stacked, asked_on, collection_on, with_collection}
use Rattle.cg_interp.specs.Slots.{filled, IsSeatOf}
use Rattle.cg_interp.proofs.TopCollections.{not_empty, seated_there, collection_replaced}
use Rattle.cg_interp.proofs.TopDeaths.{stacked}
use Rattle.cg_interp.proofs.stack.Stack.collection_on_top_mut.Goals as goal

pub unreachable-requires : goal.unreachable-requires
unreachable-requires c =
    not_empty c.self.inside.slots.items (subst (λ seat. IsSome (asked_on (reverse (map (filled seat) c.self.inside.slots.items)))) c.in-None.is
    (subst (λ (s : Stacked). IsSome (asked_on s.activities)) (sym c.self.view_is) c.requires))

pub returns : goal.returns
returns c =
    let slots = c.self.inside.slots in
    let seated = subst (IsSeatOf slots.items) c.in-Some.is c.self.invariant in
    let collects = subst (λ seat. IsSome (asked_on (reverse (map (filled seat) slots.items)))) c.in-Some.is
    (subst (λ (s : Stacked). IsSome (asked_on s.activities)) (sym c.self.view_is) c.requires) in (
      (
        refl,
        λ w. ap (λ l. stacked l (vec_capacity slots - vec_len slots)) (collection_replaced c.in-Some.collection w slots.items seated collects)
            ∙ ap (λ seat. with_collection (stacked (reverse (map (filled seat) slots.items)) (vec_capacity slots - vec_len slots)) w) (sym c.in-Some.is)
            ∙ ap (λ s. with_collection s w) c.self.view_is,
      ),
      record {
        writes_back = tt;
        value = ap (λ (s : Stacked). collection_on s.activities) (sym c.self.view_is)
            ∙ ap (λ seat. collection_on (reverse (map (filled seat) slots.items))) c.in-Some.is
            ∙ seated_there c.in-Some.collection slots.items collects
            ∙ ap Some (sym c.in-Some.collection-is);
      },
    )
