-- Every generation, of an object or of a collection, is 0, 1 or 2.
use Rattle.std.proofs.Common.{◌≡◌, refl, sym, ◌∙◌, subst, ℕ, ◌≤◌, Bool, true, not, inl, inr, List, [], ◌∷◌, ◌++◌, map, arith}
use Rattle.std.specs.Prelude.{◌==◌, if◌then◌else◌}
use Rattle.cg_value.specs.declared.Val.TheVariants.{Ref}
use Rattle.cg_value.specs.declared.Entry.{Entry}
use Rattle.cg_value.specs.declared.Place.{Place}
use Rattle.cg_value.specs.declared.Place.TheVariants.{Gen}
use Rattle.cg_script.specs.declared.Script.{Script}
use Rattle.cg_graph.specs.Member.{Includes}
use Rattle.cg_graph.specs.Value.{item}
use Rattle.cg_graph.specs.Object.{Object, change, with_entries}
use Rattle.cg_graph.proofs.Members.{either, Includes-map_cases, Includes-filter_cases}
use Rattle.cg_machine.specs.declared.event.Event.{Event}
use Rattle.cg_machine.specs.declared.event.FrameSpec.{FrameSpec}
use Rattle.cg_machine.specs.World.{World, Activity, Releasing, Dying, Collecting, Collection, Finalizer}
use Rattle.cg_machine.specs.Frame.{start_frame}
use Rattle.cg_laws.proofs.Advances.{Advance, Plainly, WithFrame, HasChanged, NothingChanges, ChangesEach, LosesEntries, GetsEntry, LosesObject, Followed, IsPlaceIn, IsMoved, StaysThere, IsUntracked, IsRevived, IsPlaced, asides, Continues, CollectionGoesOn, Tops, TopEnds, GivesFunction, GivesReference, BeginsDeath, TopGoesOn, GivesReferences}
use Rattle.cg_laws.proofs.Starting.{begun_frame, starts_either}
use Rattle.cg_laws.proofs.Invariants.{on}
use Rattle.cg_represents.proofs.Lists.{each_changed}

abbrev pub IsYoung : Place → Type 0
IsYoung (Gen i) = i ≤ 2
IsYoung p = Unit {0}

abbrev pub AreYoung : List Object → Type 0
AreYoung objects = (x : Object) → Includes objects x → IsYoung x.place

pub record Young (objects : List Object) (stack : List Activity) : Type 0 where
  pub places : AreYoung objects
  pub ages : (c : Collection) → Includes stack (Collecting c) → c.generation ≤ 2

abbrev pub IsYoungWorld : World → Type 0
IsYoungWorld w = Young w.objects w.stack

pub map_young : (f : Object → Object) (objects : List Object) → ((x : Object) → Includes objects x → IsYoung x.place → IsYoung (f x).place) → AreYoung objects → AreYoung (map f objects)
map_young f objects h young y m = let x = Includes-map_cases f objects y m in subst (λ (z : Object). IsYoung z.place) x.2 (h x.0 x.1 (young x.0 x.1))

pub test_young : (f : Object → Object) (test : Object → Bool) (objects : List Object) → ((x : Object) → Includes objects x → test x ≡ true → IsYoung x.place
    → IsYoung (f x).place) → AreYoung objects → AreYoung (map (λ x. if test x then f x else x) objects)
test_young f test objects h young = each_changed (λ z. IsYoung z.place) f test objects (λ x m t. h x m t (young x m)) (λ x m t. young x m)

pub entries_young : (es : List Entry) (o : ℕ) (objects : List Object) → AreYoung objects → AreYoung (change (with_entries es) o objects)
entries_young es o objects h = test_young (with_entries es) (λ x. x.serial == o) objects (λ x m t k. k) h

pub push_young : (a : Activity) (stack : List Activity) (objects : List Object) → ((c : Collection) → a ≡ Collecting c → c.generation ≤ 2) → Young objects stack → Young objects (a ∷ stack)
push_young a stack objects age h = record { places = h.places; ages = λ c m. either m (age c) (h.ages c) }

pub turn_young : (a b : Activity) (below : List Activity) (before after : List Object) → AreYoung after → ((c : Collection) → b ≡ Collecting c
    → c.generation ≤ 2) → Young before (a ∷ below) → Young after (b ∷ below)
turn_young a b below before after young age h = record { places = young; ages = λ c m. either m (age c) (λ k. h.ages c (inr k)) }

pub starts_young : (script : Script) (spec : FrameSpec) (u : World) → IsYoungWorld u → IsYoungWorld (start_frame script spec u).1
starts_young script spec u h = starts_either (λ lines. IsYoungWorld) script spec u (record { places = h.places; ages = h.ages })
    (λ some. push_young (begun_frame script spec) u.stack u.objects (λ c e. cc) h)

-- where another activity's step moves objects
place_young : (g : ℕ) (p : Place) → g ≤ 2 → IsPlaceIn g p → IsYoung p
place_young g (Gen i) age h = either h (λ e. omega (arith, age, e)) (λ e. omega (arith, e))
place_young g p age h = tt

module _ (top : Activity) (age : (c : Collection) → top ≡ Collecting c → c.generation ≤ 2) where
  moved_young : (x y : Object) → IsMoved top x y → IsYoung x.place → IsYoung y.place
  moved_young x y (StaysThere e) h = subst IsYoung e h
  moved_young x y (IsUntracked e) h = subst IsYoung (sym e) tt
  moved_young x y (IsRevived f e) h = subst IsYoung (sym e) (omega arith)
  moved_young x y (IsPlaced c is k) h = place_young c.generation y.place (age c is) k

  changed_young : (tops : List Activity) (lines : List Event) (before after : List Object) → HasChanged top tops lines before after → AreYoung before → AreYoung after
  changed_young tops lines before after (NothingChanges objects) h = h
  changed_young tops lines before after (ChangesEach f test objects aside) h = λ y m. let x = asides top tops lines f test objects aside y m in moved_young x.0 y x.2.moved (h x.0 x.1)
  changed_young tops lines before after (LosesEntries es s objects owns fewer) h = entries_young es s objects h
  changed_young tops lines before after (GetsEntry o objects is) h = test_young (λ x. with_entries (x.entries ++ item (Ref o) ∷ []) x) (λ x. x.serial == 1) objects (λ x m t k. k) h
  changed_young tops lines before after (LosesObject o objects owns line) h = λ x m. h x (Includes-filter_cases (λ (z : Object). not (z.serial == o)) objects x m).0
  changed_young tops lines before after (Followed first now last c d) h = changed_young tops lines now last d (changed_young tops lines first now c h)

continues_young : (before after : List Object) (top a : Activity) → ((c : Collection) → top ≡ Collecting c → c.generation ≤ 2) → Continues before after top a
    → (c : Collection) → a ≡ Collecting c → c.generation ≤ 2
continues_young before after top a age (CollectionGoesOn b d same begun early) c e = let is : d.generation ≡ c.generation = cc in subst (λ n. n ≤ 2) (sym same ∙ is) (age b refl)
continues_young before after top a age other c e = cc

tops_young : (before after : List Object) (top : Activity) (tops below : List Activity) → Tops before after top tops → AreYoung after → Young before (top ∷ below) → Young after (tops ++ below)
tops_young before after top tops below (TopEnds a gone) young h = record { places = young; ages = λ c m. h.ages c (inr m) }
tops_young before after top tops below (GivesFunction f references few) young h = turn_young top (Releasing references) below before after young (λ c e. cc) h
tops_young before after top tops below (GivesReference o references) young h = turn_young top (Releasing references) below before after young (λ c e. cc) h
tops_young before after top tops below (BeginsDeath o references) young h = push_young (Dying (record { object = o; phase = Finalizer })) (Releasing references
    ∷ below) after (λ c e. cc) (turn_young top (Releasing references) below before after young (λ c e. cc) h)
tops_young before after top tops below (TopGoesOn t a c held) young h = turn_young t a below before after young (continues_young before after t a (λ d e. h.ages d (inl e)) c) h
tops_young before after top tops below (GivesReferences t a references few c held) young h = push_young (Releasing references) (a ∷ below) after (λ d e. cc)
    (turn_young t a below before after young (continues_young before after t a (λ d e. h.ages d (inl e)) c) h)

pub advance_young : (script : Script) (top : Activity) (below : List Activity) (v : World) (lines : List Event) (after : World) → Advance script v top below
    lines after → IsYoungWorld (on top below v) → IsYoungWorld after
advance_young script top below v lines after (Plainly tops objects numbers ls t c n none) h = tops_young v.objects objects top tops below t
    (changed_young top (λ d e. h.ages d (inl e)) tops ls v.objects objects c h.places) h
advance_young script top below v lines after (WithFrame spec a objects s c held m) h =
    starts_young script spec (record v { objects = objects; stack = a ∷ below }) (tops_young v.objects objects top (a ∷ []) below (TopGoesOn top a c held)
    (changed_young top (λ d e. h.ages d (inl e)) [] [] v.objects objects m h.places) h)
