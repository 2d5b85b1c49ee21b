-- Which steps take entries: a release takes none, a death those of its object and of the weak reference that it calls back, a
-- collection those of the member that has its turn.
use Rattle.std.proofs.Common.{◌≡◌, refl, sym, ◌∙◌, ap, subst, ℕ, inl, inr, ◌⊎◌, List, [], ◌∷◌, ◌++◌}
use Rattle.std.proofs.lemmas.List.{append-nil, append_assoc}
use Rattle.cg_value.specs.declared.Val.TheVariants.{Ref}
use Rattle.cg_script.specs.declared.Script.{Script}
use Rattle.cg_graph.specs.Value.{item}
use Rattle.cg_graph.specs.Object.{Object}
use Rattle.cg_graph.proofs.Members.{either}
use Rattle.cg_machine.specs.declared.event.Event.{Event}
use Rattle.cg_machine.specs.World.{World, Activity, Releasing, Dying, Collecting, Collection, CollectPhase, Death, DyingPhase, Calling, Emptying, Turn, with_stack}
use Rattle.cg_machine.specs.Frame.{released}
use Rattle.cg_machine.specs.Dying.{death_at, dying}
use Rattle.cg_machine.specs.Collect.{collection_at, PhaseStep}
use Rattle.cg_laws.specs.Laws.{IsLengthened}
use Rattle.cg_laws.proofs.Advances.{Advance, Plainly, WithFrame, HasChanged, Owns, OfEmptied, OfCalled, OfTurn, changed_came}
use Rattle.cg_laws.proofs.Pointwise.{IsOrder, Came}
use Rattle.cg_laws.proofs.Starting.{starts_either}
use Rattle.cg_laws.proofs.Advancing.{released_advances, dying_advances, phase_advances}

-- each object has its old entries and perhaps more, with some exceptions
abbrev pub Longer : (ℕ → Type 0) → Object → Object → Type 0
Longer Except x y = (x.serial ≡ y.serial) × (IsLengthened x y ⊎ Except y.serial)

abbrev pub Lengthens : (ℕ → Type 0) → List Object → List Object → Type 0
Lengthens Except before after = Came (Longer Except) before after

abbrev pub Nowhere : ℕ → Type 0
Nowhere n = ⊥

same_entries : (x y : Object) → y.entries ≡ x.entries → IsLengthened x y
same_entries x y e = ([], e ∙ sym (append-nil x.entries))

longer_order : (Except : ℕ → Type 0) → IsOrder (Longer Except)
longer_order Except = record {
  same = λ x. (refl, inl (same_entries x x refl));
  trans = λ x y z h k. (h.0 ∙ k.0, either k.1 (λ l. either h.1 (λ j. inl (j.0 ++ l.0, l.1 ∙ ap (λ es. es ++ l.0) j.1 ∙ append_assoc x.entries j.0 l.0)) (λ o. inr (subst Except k.0 o))) (λ o. inr o));
}

changed_lengthens : (top : Activity) (tops : List Activity) (lines : List Event) (before after : List Object) → HasChanged top tops lines before after → Lengthens (Owns top) before after
changed_lengthens top tops lines = changed_came (Longer (Owns top)) (longer_order (Owns top)) top tops lines (λ x y k. (sym k.later.serial, inl (same_entries x y k.entries)))
    (λ objects s es owns fewer x m e. (refl, inr (subst (Owns top) (sym e) owns))) (λ is o x e. (refl, inl (item (Ref o) ∷ [], refl)))

advance_lengthens : (script : Script) (v : World) (top : Activity) (below : List Activity) (lines : List Event) (after : World) → Advance script v top below
    lines after → Lengthens (Owns top) v.objects after.objects
advance_lengthens script v top below lines after (Plainly tops objects numbers ls t c n shown) = changed_lengthens top tops ls v.objects objects c
advance_lengthens script v top below lines after (WithFrame spec a objects s c held m) =
    let l = changed_lengthens top [] [] v.objects objects m in
    starts_either (λ es w. Lengthens (Owns top) v.objects w.objects) script spec (record v { objects = objects; stack = a ∷ below }) l (λ some. l)

owned_only : (P Q : ℕ → Type 0) (before after : List Object) → ((n : ℕ) → P n → Q n) → Lengthens P before after → Lengthens Q before after
owned_only P Q before after h l y m = let x = l y m in (x.0, x.1, (x.2.0, either x.2.1 (λ e. inl e) (λ o. inr (h y.serial o))))

-- the weak reference that a death calls back
abbrev pub CallsBack : DyingPhase → ℕ → Type 0
CallsBack (Calling (weak ∷ waiting)) n = weak ≡ n
CallsBack phase n = ⊥

owned_by_release : (top : Activity) (n : ℕ) → Owns top n → (refs : List ℕ) → top ≡ Releasing refs → ⊥
owned_by_release top n (OfEmptied o) refs e = cc
owned_by_release top n other refs e = cc

owned_by_death : (top : Activity) (n : ℕ) → Owns top n → (d : Death) → top ≡ Dying d → (d.object ≡ n) ⊎ CallsBack d.phase n
owned_by_death top n (OfEmptied o) d e = let same : record { object = o; phase = Emptying } ≡ d = cc in inl (ap (λ (z : Death). z.object) (sym same))
owned_by_death top n (OfCalled o weak waiting) d e = let same : record { object = o; phase = Calling (weak ∷ waiting) } ≡ d = cc in inr (subst (λ (z : Death). CallsBack z.phase weak) same refl)
owned_by_death top n (OfTurn c o t) d e = absurd (cc)

owned_by_collection : (top : Activity) (n : ℕ) → Owns top n → (c : Collection) → top ≡ Collecting c → c.phase ≡ Turn n
owned_by_collection top n (OfTurn b o t) c e = let same : b ≡ c = cc in subst (λ (z : Collection). z.phase ≡ Turn o) same t
owned_by_collection top n other c e = absurd (cc)

pub released_lengthens : (refs : List ℕ) (below : List Activity) (script : Script) (v : World) → Lengthens Nowhere v.objects (released refs below (with_stack (Releasing refs ∷ below) v)).1.objects
released_lengthens refs below script v = owned_only (Owns (Releasing refs)) Nowhere v.objects _ (λ n o. owned_by_release (Releasing refs) n o refs refl)
    (advance_lengthens script v (Releasing refs) below _ _ (released_advances script refs below v))

pub dying_takes : (script : Script) (o : ℕ) (below : List Activity) (v : World) (phase : DyingPhase) → Lengthens (λ n. (o ≡ n) ⊎ CallsBack phase n) v.objects
    (dying script o phase below (death_at o phase below v)).1.objects
dying_takes script o below v phase = owned_only (Owns (Dying (record { object = o; phase = phase }))) (λ n. (o ≡ n) ⊎ CallsBack phase n) v.objects _
    (λ n owns. owned_by_death (Dying (record { object = o; phase = phase })) n owns (record { object = o; phase = phase }) refl)
    (advance_lengthens script v (Dying (record { object = o; phase = phase })) below _ _ (dying_advances script o below v phase))

pub phase_takes : (script : Script) (c : Collection) (below : List Activity) (v : World) (phase : CollectPhase) (events : List Event) (after : World)
    → PhaseStep script c phase below (collection_at c phase below v) events after → Lengthens (λ n. phase ≡ Turn n) v.objects after.objects
phase_takes script c below v phase events after step = owned_only (Owns (Collecting (record c { phase = phase }))) (λ n. phase ≡ Turn n) v.objects after.objects
    (λ n owns. owned_by_collection (Collecting (record c { phase = phase })) n owns (record c { phase = phase }) refl)
    (advance_lengthens script v (Collecting (record c { phase = phase })) below events after (phase_advances script c below v phase events after step))
