use Rattle.std.proofs.Common.{◌≡◌, refl, ap, sym, subst, ◌∙◌, true, false, Some, None, Option}
use Rattle.std.specs.Prelude.{IfSome, IfNone, OnSome, is_some}
use Rattle.cg_value.specs.declared.Entry.{Entry}
use Rattle.cg_graph.specs.Store.{HasCode}
use Rattle.cg_graph.specs.Value.{entry_at as entry_under}
use Rattle.cg_heap.specs.Calls.{IsMutable}
use Rattle.cg_heap.proofs.Calls.{stands, has_node, as_before}
use Rattle.cg_heap.proofs.CallsOnSeats.{has_body, has_code, no_other, code_is, has_number, entries_are, some_with_key, after_taking_key}
use Rattle.cg_heap.proofs.heap.Heap.take_key_if.Goals as goal

record Taken (r : Option Entry) : Type 0 where
  entry : Entry
  is : r ≡ Some entry

taken : (r : Option Entry) → is_some r ≡ true → Taken r
taken (Some e) some = record { entry = e; is = refl }
taken None some = absurd (cc)

missing : (r : Option Entry) → is_some r ≡ false → r ≡ None
missing (Some e) none = absurd (cc)
missing None none = refl

-- a fact about a present entry, and about a missing one
of_entry : {P : Type 0} (r : Option Entry) (e : Entry) → r ≡ Some e → OnSome r P → P
of_entry (Some x) e is p = p
of_entry None e is p = absurd (cc)

for_entry : (P : Entry → Type 0) (r : Option Entry) (e : Entry) → r ≡ Some e → P e → IfSome r P
for_entry P r e is p = subst (λ o. IfSome o P) (sym is) p

not_none : (P : Type 0) (r : Option Entry) (e : Entry) → r ≡ Some e → IfNone r P
not_none P (Some x) e is = tt
not_none P None e is = absurd (cc)

of_none : {P : Type 0} (r : Option Entry) → r ≡ None → IfNone r P → P
of_none (Some x) is p = absurd (cc)
of_none None is p = p

for_none : {P : Type 0} (r : Option Entry) → r ≡ None → P → IfNone r P
for_none {P} r is p = subst (λ o. IfNone o P) (sym is) p

not_some : (P : Entry → Type 0) (r : Option Entry) → r ≡ None → IfSome r P
not_some P (Some x) is = absurd (cc)
not_some P None is = tt

pub seat_near-seat-requires : goal.seat_near-seat-requires
seat_near-seat-requires g c = has_node (stands c.self.inside.arena c.self.invariant c.self.view_is) c.args.object c.requires.live

pub take_key-taken-requires : goal.take_key-taken-requires
take_key-taken-requires g c = has_body (stands c.self.inside.arena c.self.invariant c.self.view_is) c.args.object _ _ c.seat_near-seat.ensures

pub fewer-requires : goal.fewer-requires
fewer-requires g c =
    let t = taken c.take_key-taken.result (sym c.is_some.ensures ∙ c.if-is_some.true) in
    has_number (stands c.self.inside.arena c.self.invariant c.self.view_is) c.args.object _ _ c.seat_near-seat.ensures (some_with_key
    (stands c.self.inside.arena c.self.invariant c.self.view_is) c.args.object _ _ c.seat_near-seat.ensures c.args.key _ (sym t.is
    ∙ c.take_key-taken.ensures.entry))

pub invariant_of-self : goal.invariant_of-self
invariant_of-self g c =
    let t = taken c.take_key-taken.result (sym c.is_some.ensures ∙ c.if-is_some.true) in
    (after_taking_key (stands c.self.inside.arena c.self.invariant c.self.view_is) c.args.object _ _ c.seat_near-seat.ensures (
      c.requires.live,
      subst IsMutable (sym (c.is_of.ensures.0 c.if-not-is_of.false) ∙ code_is (stands c.self.inside.arena c.self.invariant c.self.view_is) c.args.object _ _
          c.seat_near-seat.ensures) c.requires.mutable,
    ) c.args.key _ (sym t.is ∙ c.take_key-taken.ensures.entry) _ (of_entry c.take_key-taken.result t.entry t.is
    c.take_key-taken.ensures.rest) _ c.fewer.ensures c.requires.few).keeps

pub returns-then-is_some-clause-entry : goal.returns-then-is_some-clause-entry
returns-then-is_some-clause-entry g c = c.take_key-taken.ensures.entry ∙ ap (λ es. entry_under es c.args.key) (entries_are (stands c.self.inside.arena c.self.invariant c.self.view_is) c.args.object _
    _ c.seat_near-seat.ensures)

pub returns-then-is_some-clause-rest : goal.returns-then-is_some-clause-rest
returns-then-is_some-clause-rest g c =
    let t = taken c.take_key-taken.result (sym c.is_some.ensures ∙ c.if-is_some.true) in
    for_entry _ c.take_key-taken.result t.entry t.is (after_taking_key (stands c.self.inside.arena c.self.invariant c.self.view_is) c.args.object _ _ c.seat_near-seat.ensures (
      c.requires.live,
      subst IsMutable (sym (c.is_of.ensures.0 c.if-not-is_of.false)
          ∙ code_is (stands c.self.inside.arena c.self.invariant c.self.view_is) c.args.object _ _ c.seat_near-seat.ensures) c.requires.mutable,
    ) c.args.key _ (sym t.is
    ∙ c.take_key-taken.ensures.entry) _ (of_entry c.take_key-taken.result t.entry t.is c.take_key-taken.ensures.rest) _ c.fewer.ensures c.requires.few).is

pub returns-then-is_some-clause-none : goal.returns-then-is_some-clause-none
returns-then-is_some-clause-none g c =
    let t = taken c.take_key-taken.result (sym c.is_some.ensures ∙ c.if-is_some.true) in
    not_none _ c.take_key-taken.result t.entry t.is

pub invariant_of-self-else-is_some : goal.invariant_of-self-else-is_some
invariant_of-self-else-is_some g c =
    let none = missing c.take_key-taken.result (sym c.is_some.ensures ∙ c.if-is_some.false) in
    (as_before (stands c.self.inside.arena c.self.invariant c.self.view_is) _ (of_none c.take_key-taken.result none c.take_key-taken.ensures.none)).keeps

pub returns-else-is_some-clause-entry : goal.returns-else-is_some-clause-entry
returns-else-is_some-clause-entry g c = c.take_key-taken.ensures.entry ∙ ap (λ es. entry_under es c.args.key) (entries_are (stands c.self.inside.arena c.self.invariant c.self.view_is) c.args.object _
    _ c.seat_near-seat.ensures)

pub returns-else-is_some-clause-rest : goal.returns-else-is_some-clause-rest
returns-else-is_some-clause-rest g c =
    let none = missing c.take_key-taken.result (sym c.is_some.ensures ∙ c.if-is_some.false) in
    not_some _ c.take_key-taken.result none

pub returns-else-is_some-clause-none : goal.returns-else-is_some-clause-none
returns-else-is_some-clause-none g c =
    let none = missing c.take_key-taken.result (sym c.is_some.ensures ∙ c.if-is_some.false) in
    for_none c.take_key-taken.result none (as_before (stands c.self.inside.arena c.self.invariant c.self.view_is) _ (of_none c.take_key-taken.result none
    c.take_key-taken.ensures.none)).is

pub returns-then-not-is_of-clause-other : goal.returns-then-not-is_of-clause-other
returns-then-not-is_of-clause-other g c = (
  λ has. no_other (stands c.self.inside.arena c.self.invariant c.self.view_is) c.args.object _ _ c.seat_near-seat.ensures
      c.args.code (λ e. let both : true ≡ false = sym (c.is_of.ensures.1 e) ∙ c.if-not-is_of.true in absurd (cc)) has,
  refl,
)

pub returns-then-is_some-clause-kind : goal.returns-then-is_some-clause-kind
returns-then-is_some-clause-kind g c = subst (HasCode c.args.self.now c.args.object) (c.is_of.ensures.0 c.if-not-is_of.false) (has_code (stands c.self.inside.arena c.self.invariant c.self.view_is)
    c.args.object _ _ c.seat_near-seat.ensures)

pub returns-else-is_some-clause-kind : goal.returns-else-is_some-clause-kind
returns-else-is_some-clause-kind g c = subst (HasCode c.args.self.now c.args.object) (c.is_of.ensures.0 c.if-not-is_of.false) (has_code (stands c.self.inside.arena c.self.invariant c.self.view_is)
    c.args.object _ _ c.seat_near-seat.ensures)
