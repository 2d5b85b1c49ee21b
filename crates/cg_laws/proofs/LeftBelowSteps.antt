-- Releases, deaths and collections leave alone what lies below them.
use Rattle.std.proofs.Common.{◌≡◌, refl, sym, ap, subst, ℕ, true, false, cond, inl, inr, ◌⊎◌, List, [], ◌∷◌, ◌++◌, arith}
use Rattle.std.specs.Prelude.{◌==◌}
use Rattle.std.proofs.lemmas.Bool.{eq-eqb}
use Rattle.cg_script.specs.declared.Script.{Script}
use Rattle.cg_graph.specs.Member.{Includes}
use Rattle.cg_graph.specs.Object.{Object}
use Rattle.cg_graph.proofs.Members.{Includes-append_right}
use Rattle.cg_graph.proofs.Objects.{occurrences-append}
use Rattle.cg_machine.specs.declared.event.Event.{Event}
use Rattle.cg_machine.specs.declared.event.FrameSpec.{FrameSpec}
use Rattle.cg_machine.specs.World.{World, Activity, Collecting, Dying, Emptying}
use Rattle.cg_machine.specs.Frame.{start_frame}
use Rattle.cg_machine.specs.Holdings.{collect_holds, is_collection}
use Rattle.cg_represents.specs.Orderly.{all_waits, collection_waits}
use Rattle.cg_laws.specs.Laws.{IsOfCollection}
use Rattle.cg_represents.proofs.Lists.{occurrences-cons, absent}
use Rattle.cg_laws.proofs.Unheld.{Calm, not_dying, popped_free}
use Rattle.cg_laws.proofs.HeldLives.{waits_held}
use Rattle.cg_laws.proofs.HeldLivesDeaths.{HasOrder}
use Rattle.cg_laws.proofs.Advances.{Advance, Plainly, WithFrame, HasChanged, NothingChanges, ChangesEach, IsMoved, StaysThere, IsUntracked, IsRevived, IsPlaced, asides, LosesEntries, GetsEntry, LosesObject, Followed, Owns, OfEmptied, OfCalled, OfTurn}
use Rattle.cg_laws.proofs.Starting.{begun_frame, starts_either}
use Rattle.cg_laws.proofs.Invariants.{on}
use Rattle.cg_laws.proofs.LeftBelow.{AreFrom, MayChange, IsCollectionOnTop, from_refl, from_trans, from_entries, from_without, from_saved, LeavesIt, leaves_from, held_may_change, garbage_may_change}

pub starts_leaves : (script : Script) (spec : FrameSpec) (w : World) (below : List Activity) (u : World) → LeavesIt w below u → LeavesIt w below (start_frame script spec u).1
starts_leaves script spec w below u l = starts_either (λ lines. LeavesIt w below) script spec u (record { tops = l.tops; stack = l.stack; from = l.from })
    (λ some. record { tops = begun_frame script spec ∷ l.tops; stack = ap (λ st. begun_frame script spec ∷ st) l.stack; from = l.from })

collects_on_top : (top : Activity) (below : List Activity) → is_collection top ≡ true → IsCollectionOnTop (top ∷ below)
collects_on_top (Collecting c) below e = tt
collects_on_top top below e = absurd (let no : false ≡ true = e in cc)

-- only a collection puts an object into a place of its own
moved_place : (top : Activity) (below : List Activity) (x y : Object) → IsMoved top x y → IsOfCollection y.place → (x.place ≡ y.place) ⊎ IsCollectionOnTop (top ∷ below)
moved_place top below x y (StaysThere e) k = inl e
moved_place top below x y (IsUntracked e) k = absurd (subst IsOfCollection e k)
moved_place top below x y (IsRevived f e) k = absurd (subst IsOfCollection e k)
moved_place top below x y (IsPlaced c e h) k = inr (collects_on_top top below (ap is_collection e))

module _ (script : Script) (below : List Activity) (v : World) where
  -- a step takes no entries of an object that is dying or waiting below
  owner_may_change : (top : Activity) (s : ℕ) → Owns top s → Calm script (on top below v) → HasOrder (on top below v) → MayChange (on top below v) below s
  owner_may_change top s (OfEmptied o) c h = record {
    dying = λ d m f e. not_dying o below d c.over.0 m (sym e);
    waiting = λ k. popped_free (Dying (record { object = o; phase = Emptying })) below o c.stack.0.unheld.stack (waits_held below o k);
  }
  owner_may_change top s (OfCalled o weak waiting) c h = held_may_change (on top below v) top below weak refl (inl refl)
      (let all = h.once weak in
      let one : ◌≡◌ {A = ℕ} (cond (weak == weak) 1 0) 1 = ap (λ k. cond k 1 0) (eq-eqb weak weak refl) in
      absent weak (all_waits below) (omega (arith, all, one, occurrences-cons weak weak waiting, occurrences-append weak (weak ∷ waiting) (all_waits below))))
  owner_may_change top s (OfTurn g o e) c h = held_may_change (on top below v) top below o refl (subst (λ p. Includes (collect_holds p) o) (sym e) (inl refl))
      (λ k. (h.turns g (inl refl) o e).0 (Includes-append_right (collection_waits g.phase) (all_waits below) o k))

  module _ (top : Activity) (c : Calm script (on top below v)) (h : HasOrder (on top below v)) where
    changed_from : (tops : List Activity) (lines : List Event) (before after : List Object) → HasChanged top tops lines before after → AreFrom (on top below v) below before after
    changed_from tops lines before after (NothingChanges objects) = from_refl (on top below v) below objects
    changed_from tops lines before after (ChangesEach f test objects aside) = λ y m. let x = asides top tops lines f test objects aside y m
        in record { was = x.0; member = x.1; later = x.2.later; entries = inl x.2.entries; place = moved_place top below x.0 y x.2.moved }
    changed_from tops lines before after (LosesEntries es s objects owns fewer) = from_entries (on top below v) below es s (owner_may_change top s owns c h) objects
    changed_from tops lines before after (GetsEntry o objects is) = from_saved (on top below v) below o (garbage_may_change (on top below v) top below refl h) objects
    changed_from tops lines before after (LosesObject o objects owns line) = from_without (on top below v) below o objects
    changed_from tops lines before after (Followed first now last a b) = from_trans (on top below v) below first now last (changed_from tops lines first now a) (changed_from tops lines now last b)

    pub advance_leaves : (lines : List Event) (after : World) → Advance script v top below lines after → LeavesIt (on top below v) below after
    advance_leaves lines after (Plainly tops objects numbers ls t a n none) = leaves_from (on top below v) below
        (record v { objects = objects; numbers = numbers; stack = tops ++ below }) tops refl (changed_from tops ls v.objects objects a)
    advance_leaves lines after (WithFrame spec a objects s g held m) = starts_leaves script spec (on top below v) below (record v { objects = objects; stack = a ∷ below })
        (leaves_from (on top below v) below (record v { objects = objects; stack = a ∷ below }) (a ∷ []) refl (changed_from [] [] v.objects objects m))
