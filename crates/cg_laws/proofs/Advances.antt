-- The forms of a step of an activity without commands left: the end of a frame, or a step of a release, a death or a collection.
-- Laws that need no more than that go by these forms, not by the phases.
use Rattle.std.proofs.Common.{◌≡◌, ◌≢◌, refl, ◌∙◌, subst, ℕ, ◌-◌, ◌≤◌, Bool, true, false, inl, inr, ◌⊎◌, List, [], ◌∷◌, ◌++◌, length, map, Some, None}
use Rattle.std.specs.Prelude.{◌==◌, if◌then◌else◌, option_and_then, unwrap_or}
use Rattle.std.proofs.lemmas.Bool.{eqb-true}
use Rattle.cg_value.specs.declared.Entry.{Entry}
use Rattle.cg_value.specs.declared.Place.{Place}
use Rattle.cg_value.specs.declared.Place.TheVariants.{Untracked, Gen}
use Rattle.cg_value.specs.declared.Val.TheVariants.{Ref}
use Rattle.cg_script.specs.declared.Script.{Script}
use Rattle.cg_graph.specs.Member.{Includes}
use Rattle.cg_graph.specs.Value.{entry_references, item, references}
use Rattle.cg_graph.specs.Object.{Object, change, entries_of, object_at, serials, with_entries, without}
use Rattle.cg_graph.proofs.Members.{either, Includes-append_cases}
use Rattle.cg_machine.specs.declared.event.Event.{Event}
use Rattle.cg_machine.specs.declared.event.Event.TheVariants.{Cleared, Enter, Free, GcStop, Value}
use Rattle.cg_machine.specs.declared.event.FrameSort.TheVariants.{Del, Legacy, Callback}
use Rattle.cg_machine.specs.declared.event.FrameSpec.{FrameSpec}
use Rattle.cg_machine.specs.World.{World, Activity, Framed, Releasing, Dying, Collecting, Frame, Numbers, DyingPhase, Finalizer, Clearing, Calling, LegacyFinalizer, Emptying, Collection, CollectPhase, Start, Split, Turns, Turn, AfterTurn, Ending}
use Rattle.cg_machine.specs.Holdings.{collect_holds, holds, is_collection}
use Rattle.cg_machine.specs.Frame.{start_frame}
use Rattle.cg_machine.specs.Program.{legacy_of}
use Rattle.cg_machine.specs.Weak.{has_weak_references, weak_references_if, loses_referent, callback_of}
use Rattle.cg_machine.specs.Dying.{finalizer_to_run}
use Rattle.cg_machine.specs.Collect.{older, begun, saved, survived, waits}
use Rattle.cg_laws.specs.Origins.{commands_on}
use Rattle.cg_represents.specs.Orderly.{death_waits, waits_of}
use Rattle.cg_laws.specs.Laws.{named}
use Rattle.cg_laws.proofs.Lookups.{references_of_member}
use Rattle.cg_laws.proofs.Measure.{is_first}
use Rattle.cg_laws.proofs.Unreferred.{IsLater, later_refl, later_trans, still_later}
use Rattle.cg_laws.proofs.Pointwise.{IsOrder, Came, Lasts, came, came_if, came_without, lasts_if, lasts_lives}
use Rattle.cg_laws.proofs.LinesNameLive.{HasNoReferent, without_lasts}

-- whose entries a step may take: a dying object, one that has its turn, or a weak reference that is called back
pub data Owns : Activity → ℕ → Type 0 where
  OfEmptied : (o : ℕ) → Owns (Dying (record { object = o; phase = Emptying })) o
  OfCalled : (o weak : ℕ) (waiting : List ℕ) → Owns (Dying (record { object = o; phase = Calling (weak ∷ waiting) })) weak
  OfTurn : (c : Collection) (o : ℕ) → c.phase ≡ Turn o → Owns (Collecting c) o

-- an object whose finalizer or legacy finalizer is to come
pub data Finalizes : Activity → ℕ → Type 0 where
  Soon : (o : ℕ) → Finalizes (Dying (record { object = o; phase = Finalizer })) o
  Late : (o : ℕ) → Finalizes (Dying (record { object = o; phase = LegacyFinalizer })) o

-- a collection puts objects only into its own generation and the older one
abbrev pub IsPlaceIn : ℕ → Place → Type 0
IsPlaceIn g (Gen i) = (i ≡ g) ⊎ (i ≡ older g)
IsPlaceIn g p = Unit {0}

-- where an object moves
pub data IsMoved (top : Activity) (x y : Object) : Type 0 where
  StaysThere : x.place ≡ y.place → IsMoved top x y
  IsUntracked : y.place ≡ Untracked → IsMoved top x y
  IsRevived : Finalizes top x.serial → y.place ≡ Gen 0 → IsMoved top x y
  IsPlaced : (c : Collection) → top ≡ Collecting c → IsPlaceIn c.generation y.place → IsMoved top x y

-- why a weak reference may be cleared: a line says so, or it begins to die
abbrev pub LosesBy : List Event → List Activity → ℕ → Type 0
LosesBy lines tops n = Includes lines (Cleared n) ⊎ Includes tops (Dying (record { object = n; phase = Finalizer }))

-- the same object with its entries, after a step that prints lines and replaces the top activity
pub record KeepsEntries (top : Activity) (tops : List Activity) (lines : List Event) (x y : Object) : Type 0 where
  pub later : IsLater x y
  pub referent : (y.referent ≡ x.referent) ⊎ LosesBy lines tops x.serial
  pub entries : y.entries ≡ x.entries
  pub finalized : x.finalized ≡ true → y.finalized ≡ true
  pub moved : IsMoved top x y

-- how the objects change
pub data HasChanged (top : Activity) (tops : List Activity) (lines : List Event) : List Object → List Object → Type 0 where
  NothingChanges : (objects : List Object) → HasChanged top tops lines objects objects
  ChangesEach : (f : Object → Object) (test : Object → Bool) (objects : List Object) → ((x : Object) → Includes objects x → test x ≡ true
      → KeepsEntries top tops lines x (f x)) → HasChanged top tops lines objects (map (λ x. if test x then f x else x) objects)
  LosesEntries : (es : List Entry) (s : ℕ) (objects : List Object) → Owns top s → ((e : Entry) → Includes es e → Includes (entries_of objects s) e)
      → HasChanged top tops lines objects (change (with_entries es) s objects)
  GetsEntry : (o : ℕ) (objects : List Object) → is_collection top ≡ true → HasChanged top tops lines objects (saved o objects)
  LosesObject : (o : ℕ) (objects : List Object) → Owns top o → Includes lines (Free o) → HasChanged top tops lines objects (without o objects)
  Followed : (before now after : List Object) → HasChanged top tops lines before now → HasChanged top tops lines now after → HasChanged top tops lines before after

-- How the numbers change: one object less is counted, or a collection starts.
pub data Renumbers (top : Activity) (objects : List Object) (n : Numbers) : Numbers → Type 0 where
  SameCounts : Renumbers top objects n n
  OneLess : Renumbers top objects n (record n { zero_count = n.zero_count - 1 })
  BegunCounts : (c : Collection) (survivors : ℕ) → top ≡ Collecting c → c.phase ≡ Start → survivors ≤ length objects → Renumbers top objects n (survived c.generation survivors (begun c.generation n))

-- A death that clears weak references clears the newest first; none waits at first.
abbrev pub ClearsNone : DyingPhase → Type 0
ClearsNone (Clearing waiting) = waiting ≡ []
ClearsNone phase = Unit {0}

-- a phase before the second reachability pass or after the turns
abbrev pub IsEarly : CollectPhase → Type 0
IsEarly Turns = ⊥
IsEarly (Turn o) = ⊥
IsEarly (AfterTurn o) = ⊥
IsEarly phase = Unit {0}

pub data Continues (before after : List Object) : Activity → Activity → Type 0 where
  DeathGoesOn : (o : ℕ) (phase next : DyingPhase) → ((n : ℕ) → Includes (death_waits next) n → Includes (death_waits phase) n) → ClearsNone next
      → Continues before after (Dying (record { object = o; phase = phase })) (Dying (record { object = o; phase = next }))
  DeathClears : (o weak : ℕ) (waiting weaks : List ℕ) (b : Bool) → weak_references_if has_weak_references before o ≡ weak ∷ weaks → after ≡ loses_referent weak before
      → Continues before after (Dying (record { object = o; phase = Clearing waiting })) (Dying (record { object = o; phase = Clearing (waiting ++ (if b then weak ∷ [] else [])) }))
  CollectionGoesOn : (c d : Collection) → d.generation ≡ c.generation → is_first d.phase ≡ false → (IsEarly c.phase → c.phase ≢ Split → IsEarly d.phase)
      → Continues before after (Collecting c) (Collecting d)

-- A collection keeps each hold or gives it up.
abbrev pub HoldsOn : List ℕ → Activity → Activity → Type 0
HoldsOn given (Collecting c) a = (n : ℕ) → Includes (collect_holds c.phase) n → Includes given n ⊎ Includes (holds a) n
HoldsOn given top a = Unit {0}

abbrev pub HoldsNone : Activity → Type 0
HoldsNone (Collecting c) = collect_holds c.phase ≡ []
HoldsNone top = Unit {0}

-- what replaces the top activity
pub data Tops (before after : List Object) : Activity → List Activity → Type 0 where
  TopEnds : (top : Activity) → HoldsNone top → Tops before after top []
  GivesFunction : (f : Frame) (references : List ℕ) → length references ≤ 1 → Tops before after (Framed f) (Releasing references ∷ [])
  GivesReference : (o : ℕ) (references : List ℕ) → Tops before after (Releasing (o ∷ references)) (Releasing references ∷ [])
  BeginsDeath : (o : ℕ) (references : List ℕ) → Tops before after (Releasing (o ∷ references)) (Dying (record { object = o; phase = Finalizer }) ∷ Releasing references ∷ [])
  TopGoesOn : (top a : Activity) → Continues before after top a → HoldsOn [] top a → Tops before after top (a ∷ [])
  GivesReferences : (top a : Activity) (references : List ℕ) → length references ≤ 2 → Continues before after top a → HoldsOn references top a → Tops before after top (Releasing references ∷ a ∷ [])

pub data FrameOf (script : Script) (before after : List Object) (top a : Activity) : FrameSpec → Type 0 where
  OfFinalizer : (o p : ℕ) → option_and_then (finalizer_to_run script) (object_at before o) ≡ Some p → ((y : Object) → Includes after y → y.serial ≡ o
      → y.finalized ≡ true) → FrameOf script before after top a (record { sort = Del; proc = p; subject = o; func = None })
  OfLegacy : (o p : ℕ) → option_and_then (legacy_of script) (object_at before o) ≡ Some p → FrameOf script before after top a (record { sort = Legacy; proc = p; subject = o; func = None })
  OfCallback : (weak p : ℕ) → Includes (waits_of top) weak → Includes (holds a) (unwrap_or (callback_of before weak) 0) ⊎ Includes (waits_of a) weak × (after ≡ before)
      → FrameOf script before after top a (record { sort = Callback; proc = p; subject = weak; func = Some (unwrap_or (callback_of before weak) 0) })

-- A line shows no value and begins no frame, only the end of a collection stops it, and a cleared weak reference has no
-- referent after.
abbrev pub IsEnding : Activity → Type 0
IsEnding (Collecting c) = c.phase ≡ Ending
IsEnding top = ⊥

abbrev pub IsLineOf : List Object → Activity → Event → Type 0
IsLineOf after top (Value v) = ⊥
IsLineOf after top (Enter sort n) = ⊥
IsLineOf after top (Free n) = ⊥
IsLineOf after top (Cleared n) = HasNoReferent n after
IsLineOf after top (GcStop g collected found) = IsEnding top
IsLineOf after top event = Unit {0}

abbrev pub IsDeathOf : Activity → ℕ → Type 0
IsDeathOf (Dying d) n = d.object ≡ n
IsDeathOf top n = ⊥

-- a line names an object that is there or dies
abbrev pub NamesThere : List Object → Activity → Event → Type 0
NamesThere before top event = (n : ℕ) → Includes (named event) n → Includes (serials before) n ⊎ IsDeathOf top n

abbrev pub Shown : List Object → List Object → Activity → List Event → Type 0
Shown before after top lines = (event : Event) → Includes lines event → IsLineOf after top event × NamesThere before top event

-- The line that frees an object is the only line of its step.
pub data AreLinesOf (before after : List Object) (top : Activity) : List Event → Type 0 where
  Shows : (lines : List Event) → Shown before after top lines → AreLinesOf before after top lines
  Frees : (o : ℕ) → IsDeathOf top o → ¬ Includes (serials after) o → AreLinesOf before after top (Free o ∷ [])

-- What a step of the activity on top of `below` can be. It leaves the names and makes no object.
pub data Advance (script : Script) (v : World) (top : Activity) (below : List Activity) : List Event → World → Type 0 where
  Plainly : (tops : List Activity) (objects : List Object) (numbers : Numbers) (lines : List Event) → Tops v.objects objects top tops
      → HasChanged top tops lines v.objects objects → Renumbers top v.objects v.numbers numbers → AreLinesOf v.objects objects top lines
      → Advance script v top below lines (record v { objects = objects; numbers = numbers; stack = tops ++ below })
  WithFrame : (spec : FrameSpec) (a : Activity) (objects : List Object) → FrameOf script v.objects objects top a spec → Continues v.objects objects top a
      → HoldsOn [] top a → HasChanged top [] [] v.objects objects
      → Advance script v top below (start_frame script spec (record v { objects = objects; stack = a ∷ below })).0 (start_frame script spec (record v { objects = objects; stack = a ∷ below })).1

pub continues_idle : (before after : List Object) (a b : Activity) → Continues before after a b → commands_on b ≡ []
continues_idle before after a b (DeathGoesOn o phase next waits none) = refl
continues_idle before after a b other = refl

-- where changed objects come from, and where they are
module _ (top : Activity) (tops : List Activity) (lines : List Event) where
  as_is : (x : Object) → KeepsEntries top tops lines x x
  as_is x = record { later = later_refl x; referent = inl refl; entries = refl; finalized = λ e. e; moved = StaysThere refl }

  pub asides : (f : Object → Object) (test : Object → Bool) (objects : List Object) → ((x : Object) → Includes objects x → test x ≡ true
      → KeepsEntries top tops lines x (f x)) → Came (KeepsEntries top tops lines) objects (map (λ x. if test x then f x else x) objects)
  asides = came_if (KeepsEntries top tops lines) as_is

  pub asides_last : (f : Object → Object) (test : Object → Bool) (objects : List Object) → ((x : Object) → Includes objects x → test x ≡ true
      → KeepsEntries top tops lines x (f x)) → Lasts (KeepsEntries top tops lines) objects (map (λ x. if test x then f x else x) objects)
  asides_last = lasts_if (KeepsEntries top tops lines) as_is

-- A relation that each change of one object respects is respected by the whole step.
module _ (R : Object → Object → Type 0) (order : IsOrder R) (top : Activity) (tops : List Activity) (lines : List Event) (keeps : (x y : Object) → KeepsEntries top tops lines x y → R x y)
    (loses : (objects : List Object) (s : ℕ) (es : List Entry) → Owns top s → ((e : Entry) → Includes es e → Includes (entries_of objects s) e) → (x : Object)
    → Includes objects x → x.serial ≡ s → R x (with_entries es x))
    (gets : is_collection top ≡ true → (o : ℕ) (x : Object) → x.serial ≡ 1 → R x (with_entries (x.entries ++ item (Ref o) ∷ []) x)) where
  pub changed_came : (before after : List Object) → HasChanged top tops lines before after → Came R before after
  changed_came before after (NothingChanges objects) = (came R order).same objects
  changed_came before after (ChangesEach f test objects aside) = came_if R order.same f test objects (λ x m t. keeps x (f x) (aside x m t))
  changed_came before after (LosesEntries es s objects owns fewer) = came_if R order.same (with_entries es) (λ x. x.serial == s) objects
      (λ x m t. loses objects s es owns fewer x m (eqb-true x.serial s t))
  changed_came before after (GetsEntry o objects is) = came_if R order.same (λ x. with_entries (x.entries ++ item (Ref o) ∷ []) x) (λ x. x.serial == 1) objects
      (λ x m t. gets is o x (eqb-true x.serial 1 t))
  changed_came before after (LosesObject o objects owns line) = came_without R order.same o objects
  changed_came before after (Followed first now last h k) = (came R order).trans first now last (changed_came first now h) (changed_came now last k)

-- the same object later: its referent goes for a reason, and its mark stays
pub record Becomes (tops : List Activity) (lines : List Event) (x y : Object) : Type 0 where
  pub later : IsLater x y
  pub referent : (y.referent ≡ x.referent) ⊎ LosesBy lines tops x.serial
  pub finalized : x.finalized ≡ true → y.finalized ≡ true

module _ (top : Activity) (tops : List Activity) (lines : List Event) where
  kept : (x y : Object) → KeepsEntries top tops lines x y → Becomes tops lines x y
  kept x y k = record { later = k.later; referent = k.referent; finalized = k.finalized }

  becomes : IsOrder (Becomes tops lines)
  becomes = record {
    same = λ x. record { later = later_refl x; referent = inl refl; finalized = λ e. e };
    trans = λ x y z h k. record {
      later = later_trans x y z h.later k.later;
      referent = either k.referent (λ e. either h.referent (λ i. inl (e ∙ i)) (λ l. inr l)) (λ l. inr (subst (LosesBy lines tops) h.later.serial l));
      finalized = λ e. k.finalized (h.finalized e);
    };
  }

  same_entry : (es : List Entry) (x : Object) → Becomes tops lines x (with_entries es x)
  same_entry es x = record { later = still_later; referent = inl refl; finalized = λ e. e }

  pub changed_becomes : (before after : List Object) → HasChanged top tops lines before after → Came (Becomes tops lines) before after
  changed_becomes = changed_came (Becomes tops lines) becomes top tops lines kept (λ objects s es owns fewer x m e. same_entry es x) (λ is o x e. same_entry _ x)

  pub changed_origin : (before after : List Object) → HasChanged top tops lines before after → Came IsLater before after
  changed_origin before after h y m = let x = changed_becomes before after h y m in (x.0, x.1, x.2.later)

  -- each object is still there, except one that a line frees
  pub changed_lasts : (before after : List Object) → HasChanged top tops lines before after → (n : ℕ) → Includes (serials before) n → Includes (serials after) n ⊎ Includes lines (Free n)
  changed_lasts before after (NothingChanges objects) n m = inl m
  changed_lasts before after (ChangesEach f test objects aside) n m = inl (lasts_lives (Becomes tops lines) (λ x y k. k.later.serial) objects after
      (lasts_if (Becomes tops lines) becomes.same f test objects (λ x i t. kept x (f x) (aside x i t))) n m)
  changed_lasts before after (LosesEntries es s objects owns fewer) n m = inl (lasts_lives (Becomes tops lines) (λ x y k. k.later.serial) objects after
      (lasts_if (Becomes tops lines) becomes.same (with_entries es) (λ x. x.serial == s) objects (λ x i t. same_entry es x)) n m)
  changed_lasts before after (GetsEntry o objects is) n m = inl (lasts_lives (Becomes tops lines) (λ x y k. k.later.serial) objects after
      (lasts_if (Becomes tops lines) becomes.same (λ x. with_entries (x.entries ++ item (Ref o) ∷ []) x) (λ x. x.serial == 1) objects (λ x i t. same_entry _ x))
      n m)
  changed_lasts before after (LosesObject o objects owns line) n m = either (without_lasts o objects n m) (λ k. inl k) (λ e. inr (subst (λ k. Includes lines (Free k)) e line))
  changed_lasts before after (Followed first now last h k) n m = either (changed_lasts first now h n m) (changed_lasts now last k n) (λ f. inr f)

pub fewer_references : (es entries : List Entry) → ((e : Entry) → Includes es e → Includes entries e) → (n : ℕ) → Includes (references es) n → Includes (references entries) n
fewer_references [] entries h n m = absurd m
fewer_references (e ∷ es) entries h n m = either (Includes-append_cases (entry_references e) (references es) n m)
    (references_of_member entries e n (h e (inl refl))) (fewer_references es entries (λ x i. h x (inr i)) n)
