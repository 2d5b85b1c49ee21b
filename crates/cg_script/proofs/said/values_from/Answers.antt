use Rattle.std.proofs.Common.{◌≡◌, ℕ, ◌+◌, ◌-◌, ◌<◌, ◌≤◌, List, [], ◌∷◌, ◌∙◌, ap, ◌++◌, map, drop, length, arith, max, length-append}
use Rattle.cg_script.specs.declared.command.Operand.{Operand}
use Rattle.cg_script.proofs.Places.{value_of_part, values_more, values_end}
use Rattle.cg_script.proofs.said.values_from.Goals as goal

room_first : (n capacity some : ℕ) (values : List Operand) → values ≡ [] → capacity ≡ max some n → length values + n ≤ capacity
room_first n capacity some values e c = omega (arith, ap length e)

room_behind : (new old : List Operand) (v : Operand) (now before n at : ℕ) → new ≡ old ++ v ∷ [] → now ≡ before → at < n → length old + (n - at) ≤ before → length new + (n - (at + 1)) ≤ now
room_behind new old v now before n at e same h room = let a = ap length e ∙ length-append old (v ∷ []) in omega (arith, a)

pub places-init : goal.places-init
places-init c = record {
  values = ap (λ vs. vs ++ map value_of_part (drop c.args.place c.args.parts.now)) c.in_ok-values.ensures.items;
  room = room_first _ _ _ c.in_ok-values.values.items c.in_ok-values.ensures.items (c.in_ok-values.ensures.capacity ∙ ap (max _) c.saturating_sub.ensures);
}

pub push_reserved-requires : goal.push_reserved-requires
push_reserved-requires c = (omega arith, omega (arith, c.places.invariant.room, c.places-test.true))

pub places-preserved : goal.places-preserved
places-preserved c = record {
  values = ap (λ vs. vs ++ map value_of_part (drop (c.places.at + 1) c.args.parts.now)) c.push_reserved.ensures.items
      ∙ values_more c.args.parts.now c.places.at _ c.value_of.result c.places.values.items _ c.places-test.true c.value_of.ensures c.places.invariant.values;
  room = room_behind c.push_reserved.new.self.items c.places.values.items c.value_of.result c.push_reserved.new.self.capacity c.places.values.capacity (length c.args.parts.now) c.places.at
      c.push_reserved.ensures.items c.push_reserved.ensures.capacity c.places-test.true c.places.invariant.room;
}

pub returns : goal.returns
returns c = c.of_few.ensures ∙ values_end c.args.parts.now c.places.at c.places.values.items _ c.places-test.false c.places.invariant.values
