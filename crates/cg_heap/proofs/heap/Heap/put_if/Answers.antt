use Rattle.std.proofs.Common.{◌≡◌, refl, true, false, Some, sym, ap, subst, ◌∙◌}
use Rattle.cg_graph.specs.Store.{IsLive, HasCode}
use Rattle.cg_graph.specs.Value.{references_of_value}
use Rattle.cg_heap.specs.Calls.{tracked_if, with_put}
use Rattle.cg_heap.proofs.Calls.{stands, count_fits, count_fits_after, count_fits_twice, live_value, still_live, live_put}
use Rattle.cg_heap.proofs.CallsOnSeats.{has_code, no_other, value_here, after_adding, after_replacing, tracks_put}
use Rattle.cg_heap.proofs.PutCalls.{below_limit}
use Rattle.cg_heap.proofs.heap.Heap.put_if.Goals as goal

pub count_near-requires-clause-room : goal.count_near-requires-clause-room
count_near-requires-clause-room g c = λ s e. count_fits (stands c.self.inside.arena c.self.invariant c.self.view_is) s

pub invariant_of-self : goal.invariant_of-self
invariant_of-self g c = (after_replacing (stands c.self.inside.arena c.self.invariant c.self.view_is) c.args.object _ _ c.seat_and_place_near-place.ensures.seat c.args.key c.args.val c.in-Ok-Some.was
    (c.requires.can (subst (HasCode c.args.self.now c.args.object) (c.is_of.ensures.0 c.if-not-is_of.false) (has_code (stands c.self.inside.arena c.self.invariant c.self.view_is) c.args.object _ _
    c.seat_and_place_near-place.ensures.seat))) (sym c.in-Ok-Some.ensures.replaced ∙ c.in-Ok-Some.field-0-is) _ _ c.in-Ok-Some.ensures.ok (c.requires.other (subst (HasCode c.args.self.now
    c.args.object) (c.is_of.ensures.0 c.if-not-is_of.false) (has_code (stands c.self.inside.arena c.self.invariant c.self.view_is) c.args.object _ _ c.seat_and_place_near-place.ensures.seat)))
    c.requires.live_val c.requires.few _ c.count_near.ensures).keeps

pub track_if-requires : goal.track_if-requires
track_if-requires g c = subst (λ s. IsLive s c.args.object) (sym (after_replacing (stands c.self.inside.arena c.self.invariant c.self.view_is) c.args.object _ _
    c.seat_and_place_near-place.ensures.seat c.args.key c.args.val c.in-Ok-Some.was (c.requires.can (subst (HasCode c.args.self.now c.args.object) (c.is_of.ensures.0 c.if-not-is_of.false) (has_code
    (stands c.self.inside.arena c.self.invariant c.self.view_is) c.args.object _ _ c.seat_and_place_near-place.ensures.seat))) (sym c.in-Ok-Some.ensures.replaced ∙ c.in-Ok-Some.field-0-is) _ _
    c.in-Ok-Some.ensures.ok (c.requires.other (subst (HasCode c.args.self.now c.args.object) (c.is_of.ensures.0 c.if-not-is_of.false) (has_code (stands c.self.inside.arena c.self.invariant
    c.self.view_is) c.args.object _ _ c.seat_and_place_near-place.ensures.seat))) c.requires.live_val c.requires.few _ c.count_near.ensures).is) (live_put c.args.self.now c.args.object c.args.key
    c.args.val c.args.object c.requires.live)

pub returns-in-Ok-Some-clause-ok : goal.returns-in-Ok-Some-clause-ok
returns-in-Ok-Some-clause-ok g c = c.track_if.ensures ∙ (λ i. tracked_if (c.makes_tracked-tracks.ensures i) c.args.object ((after_replacing (stands c.self.inside.arena c.self.invariant
    c.self.view_is) c.args.object _ _ c.seat_and_place_near-place.ensures.seat c.args.key c.args.val c.in-Ok-Some.was (c.requires.can (subst (HasCode c.args.self.now c.args.object) (c.is_of.ensures.0
    c.if-not-is_of.false) (has_code (stands c.self.inside.arena c.self.invariant c.self.view_is) c.args.object _ _ c.seat_and_place_near-place.ensures.seat))) (sym c.in-Ok-Some.ensures.replaced ∙
    c.in-Ok-Some.field-0-is) _ _ c.in-Ok-Some.ensures.ok (c.requires.other (subst (HasCode c.args.self.now c.args.object) (c.is_of.ensures.0 c.if-not-is_of.false) (has_code (stands
    c.self.inside.arena c.self.invariant c.self.view_is) c.args.object _ _ c.seat_and_place_near-place.ensures.seat))) c.requires.live_val c.requires.few _ c.count_near.ensures).is i)) ∙ ap (λ b.
    tracked_if b c.args.object (with_put c.args.self.now c.args.object c.args.key c.args.val)) (tracks_put (stands c.self.inside.arena c.self.invariant c.self.view_is) c.args.object _ _
    c.seat_and_place_near-place.ensures.seat c.args.key c.args.val _ c.requires.live c.seat_and_place_near-place.ensures.place)

pub count_near-requires-in-Ok-None-clause-room : goal.count_near-requires-in-Ok-None-clause-room
count_near-requires-in-Ok-None-clause-room g c = λ s e. count_fits (stands c.self.inside.arena c.self.invariant c.self.view_is) s

pub count_in-requires-clause-live : goal.count_in-requires-clause-live
count_in-requires-clause-live g c = λ s e. still_live c.self.inside.arena _ (references_of_value (Some c.args.val)) c.count_near-in-Ok-None.ensures s (live_value (stands c.self.inside.arena
    c.self.invariant c.self.view_is) c.args.key c.requires.live_key s e)

pub count_in-requires-clause-room : goal.count_in-requires-clause-room
count_in-requires-clause-room g c = λ s e. count_fits_after c.args.val c.self.inside.arena _ c.count_near-in-Ok-None.ensures (count_fits_twice (stands c.self.inside.arena c.self.invariant
    c.self.view_is)) s

pub invariant_of-self-in-Ok-None : goal.invariant_of-self-in-Ok-None
invariant_of-self-in-Ok-None g c = (after_adding (stands c.self.inside.arena c.self.invariant c.self.view_is) c.args.object _ _ c.seat_and_place_near-place.ensures.seat c.args.key c.args.val
    (c.requires.can (subst (HasCode c.args.self.now c.args.object) (c.is_of.ensures.0 c.if-not-is_of.false) (has_code (stands c.self.inside.arena c.self.invariant c.self.view_is) c.args.object _ _
    c.seat_and_place_near-place.ensures.seat))) (sym (value_here (stands c.self.inside.arena c.self.invariant c.self.view_is) c.args.object _ _ c.seat_and_place_near-place.ensures.seat c.args.key) ∙
    sym c.in-Ok-None.ensures.replaced ∙ c.in-Ok-None.field-0-is) _ _ c.in-Ok-None.ensures.ok (c.requires.other (subst (HasCode c.args.self.now c.args.object) (c.is_of.ensures.0 c.if-not-is_of.false)
    (has_code (stands c.self.inside.arena c.self.invariant c.self.view_is) c.args.object _ _ c.seat_and_place_near-place.ensures.seat))) c.requires.live_key c.requires.live_val (below_limit _
    c.self.inside.entries c.is_past_limit.result c.is_past_limit.ensures c.if-is_past_limit.false (sym c.in-Ok-None.ensures.replaced ∙ c.in-Ok-None.field-0-is)) _ _ c.count_near-in-Ok-None.ensures
    c.count_in.ensures).keeps

pub track_if-requires-in-Ok-None : goal.track_if-requires-in-Ok-None
track_if-requires-in-Ok-None g c = subst (λ s. IsLive s c.args.object) (sym (after_adding (stands c.self.inside.arena c.self.invariant c.self.view_is) c.args.object _ _
    c.seat_and_place_near-place.ensures.seat c.args.key c.args.val (c.requires.can (subst (HasCode c.args.self.now c.args.object) (c.is_of.ensures.0 c.if-not-is_of.false) (has_code (stands
    c.self.inside.arena c.self.invariant c.self.view_is) c.args.object _ _ c.seat_and_place_near-place.ensures.seat))) (sym (value_here (stands c.self.inside.arena c.self.invariant c.self.view_is)
    c.args.object _ _ c.seat_and_place_near-place.ensures.seat c.args.key) ∙ sym c.in-Ok-None.ensures.replaced ∙ c.in-Ok-None.field-0-is) _ _ c.in-Ok-None.ensures.ok (c.requires.other (subst (HasCode
    c.args.self.now c.args.object) (c.is_of.ensures.0 c.if-not-is_of.false) (has_code (stands c.self.inside.arena c.self.invariant c.self.view_is) c.args.object _ _
    c.seat_and_place_near-place.ensures.seat))) c.requires.live_key c.requires.live_val (below_limit _ c.self.inside.entries c.is_past_limit.result c.is_past_limit.ensures c.if-is_past_limit.false
    (sym c.in-Ok-None.ensures.replaced ∙ c.in-Ok-None.field-0-is)) _ _ c.count_near-in-Ok-None.ensures c.count_in.ensures).is) (live_put c.args.self.now c.args.object c.args.key c.args.val
    c.args.object c.requires.live)

pub returns-in-Ok-None-clause-ok : goal.returns-in-Ok-None-clause-ok
returns-in-Ok-None-clause-ok g c = c.track_if-in-Ok-None.ensures ∙ (λ i. tracked_if (c.makes_tracked-tracks.ensures i) c.args.object ((after_adding (stands c.self.inside.arena c.self.invariant
    c.self.view_is) c.args.object _ _ c.seat_and_place_near-place.ensures.seat c.args.key c.args.val (c.requires.can (subst (HasCode c.args.self.now c.args.object) (c.is_of.ensures.0
    c.if-not-is_of.false) (has_code (stands c.self.inside.arena c.self.invariant c.self.view_is) c.args.object _ _ c.seat_and_place_near-place.ensures.seat))) (sym (value_here (stands
    c.self.inside.arena c.self.invariant c.self.view_is) c.args.object _ _ c.seat_and_place_near-place.ensures.seat c.args.key) ∙ sym c.in-Ok-None.ensures.replaced ∙ c.in-Ok-None.field-0-is) _ _
    c.in-Ok-None.ensures.ok (c.requires.other (subst (HasCode c.args.self.now c.args.object) (c.is_of.ensures.0 c.if-not-is_of.false) (has_code (stands c.self.inside.arena c.self.invariant
    c.self.view_is) c.args.object _ _ c.seat_and_place_near-place.ensures.seat))) c.requires.live_key c.requires.live_val (below_limit _ c.self.inside.entries c.is_past_limit.result
    c.is_past_limit.ensures c.if-is_past_limit.false (sym c.in-Ok-None.ensures.replaced ∙ c.in-Ok-None.field-0-is)) _ _ c.count_near-in-Ok-None.ensures c.count_in.ensures).is i)) ∙ ap (λ b.
    tracked_if b c.args.object (with_put c.args.self.now c.args.object c.args.key c.args.val)) (tracks_put (stands c.self.inside.arena c.self.invariant c.self.view_is) c.args.object _ _
    c.seat_and_place_near-place.ensures.seat c.args.key c.args.val _ c.requires.live c.seat_and_place_near-place.ensures.place)

pub returns-then-not-is_of-clause-other : goal.returns-then-not-is_of-clause-other
returns-then-not-is_of-clause-other g c = (
  λ has. no_other (stands c.self.inside.arena c.self.invariant c.self.view_is) c.args.object _ _
      c.seat_and_place_near-place.ensures.seat c.args.code (λ e. let both : true ≡ false = sym (c.is_of.ensures.1 e) ∙ c.if-not-is_of.true in absurd (cc)) has,
  refl,
)
