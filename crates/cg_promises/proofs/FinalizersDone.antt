-- While a collection is under way, no condemned object has a legacy finalizer, and those already visited have no finalizer to
-- run.
use Rattle.std.proofs.Common.{◌≡◌, ◌≢◌, refl, sym, ◌∙◌, ap, subst, ℕ, ◌+◌, Bool, true, false, not, ◌&&◌, inl, inr, ◌⊎◌, List, [], ◌∷◌, ◌++◌, map, length, Option, Some, None, arith}
use Rattle.std.specs.Prelude.{◌==◌, ◌||◌, if◌then◌else◌, is_some, nat_le, option_and_then, unwrap_or}
use Rattle.std.proofs.lemmas.Bool.{eqb-true}
use Rattle.cg_value.specs.declared.Entry.{Entry}
use Rattle.cg_value.specs.declared.Place.{Place}
use Rattle.cg_value.specs.declared.Place.TheVariants.{Untracked, Gen, Cand, Seen, Legacy, Pend}
use Rattle.cg_script.specs.declared.Script.{Script}
use Rattle.cg_graph.specs.Member.{Includes, includes}
use Rattle.cg_graph.specs.Reach.{first}
use Rattle.cg_graph.specs.Value.{entry_references, last_entry, without_last}
use Rattle.cg_graph.specs.Object.{Object, change, object_at, objects_at, entries_of, is_at, is_tracked, marked, same_place, serials_at, with_entries, with_place, with_referent}
use Rattle.cg_graph.proofs.Members.{either, Includes-filter, Includes-map, Includes-map_cases}
use Rattle.cg_machine.specs.declared.event.Event.{Event}
use Rattle.cg_machine.specs.declared.event.FrameSort.TheVariants.{Del, Callback}
use Rattle.cg_machine.specs.declared.event.FrameSpec.{FrameSpec}
use Rattle.cg_machine.specs.Program.{finalizer_of, legacy_of}
use Rattle.cg_machine.specs.World.{World, Activity, Releasing, Collecting, Collection, CollectPhase, Start, WeakClearing, WeakCalling, AfterCallback, AfterRelease, Finalizing, AfterFinalizing, Split, Turns, Turn, AfterTurn, Ending, with_change, with_objects}
use Rattle.cg_machine.specs.Frame.{Transition, procedure_of, start_frame}
use Rattle.cg_machine.specs.Weak.{AllLose, callback_of, loses_referent}
use Rattle.cg_machine.specs.Dying.{finalizer_to_run}
use Rattle.cg_machine.specs.Operands.{is_dict}
use Rattle.cg_machine.specs.Collect.{IsGarbage, IsSetAside, IsMemberOf, Survives, all_saved, calls_back, after_release, collection_at, empties, get_older, has_legacy, has_none_tracked, looks_at, loses_at_split, merged, merged_place, older, saved, sorted, survivor_place, takes_turn, untrack, untracked_if, waits, PhaseStep, Sorts}
use Rattle.cg_laws.specs.Laws.{HadItsPlace, IsOfCollection}
use Rattle.cg_laws.proofs.Starting.{begun_frame, starts_either, turn_either, called_back_either, option_either}
use Rattle.cg_represents.proofs.Serials.{Rises, Rises-map}
use Rattle.cg_laws.proofs.Unreferred.{lives_within}
use Rattle.cg_laws.proofs.Lookups.{at_member, same_object}
use Rattle.cg_laws.specs.Apart.{StandsRightly}
use Rattle.cg_laws.proofs.SetsApart.{NoneCollects, stands_at}
use Rattle.cg_represents.proofs.Places.{place_is}
use Rattle.cg_represents.proofs.Lists.{each_changed}
use Rattle.cg_laws.proofs.Pointwise.{IsOrder, Came, came, came_all_lose, came_all_saved, came_if}
use Rattle.cg_promises.proofs.FinalizerOnce.{Follows, Marks, marks_order}

-- the places of condemned objects
abbrev pub IsWanted : Place → Type 0
IsWanted Cand = Unit {0}
IsWanted Seen = Unit {0}
IsWanted place = ⊥

-- it has no finalizer to run
abbrev pub Ran : Script → Object → Type 0
Ran script x = is_some (finalizer_of script x) ≡ true → x.finalized ≡ true

abbrev pub RanAt : Script → CollectPhase → List Object → Type 0
RanAt script Finalizing objects = (x : Object) → Includes objects x → x.place ≡ Seen → Ran script x
RanAt script (AfterFinalizing o) objects = (x : Object) → Includes objects x → x.place ≡ Seen → Ran script x
RanAt script Split objects = (x : Object) → Includes objects x → x.place ≡ Cand → Ran script x
RanAt script phase objects = Unit {0}

abbrev pub HaveNoLegacy : Script → List Object → Type 0
HaveNoLegacy script objects = (x : Object) → Includes objects x → IsWanted x.place → legacy_of script x ≡ None

pub record Primed (script : Script) (objects : List Object) (stack : List Activity) : Type 0 where
  pub no_legacy : HaveNoLegacy script objects
  pub ran : (c : Collection) → Includes stack (Collecting c) → RanAt script c.phase objects

-- an object later, which is condemned only if it was before
pub record Lingers (x y : Object) : Type 0 where
  pub wanted : IsWanted y.place → IsWanted x.place
  pub marks : Marks x y

abbrev pub Linger : List Object → List Object → Type 0
Linger before after = Came Lingers before after

pub legacy_later : (script : Script) (x y : Object) → Marks x y → legacy_of script x ≡ None → legacy_of script y ≡ None
legacy_later script x y m e = same ∙ e
  where
    same : legacy_of script y ≡ legacy_of script x
    same = let c : y.code ≡ x.code = m.code in let k : y.class ≡ x.class = m.class in cc

pub ran_later : (script : Script) (x y : Object) → Marks x y → Ran script x → Ran script y
ran_later script x y m r some = m.finalized (r (ap (λ q. is_some q) (sym same) ∙ some))
  where
    same : finalizer_of script y ≡ finalizer_of script x
    same = let c : y.code ≡ x.code = m.code in let k : y.class ≡ x.class = m.class in cc

pub linger_legacy : (script : Script) (before after : List Object) → Linger before after → HaveNoLegacy script before → HaveNoLegacy script after
linger_legacy script before after l h y m w = let x = l y m in legacy_later script x.0 y x.2.marks (h x.0 x.1 (x.2.wanted w))

lingers : IsOrder Lingers
lingers = record {
  same = λ x. record { wanted = λ w. w; marks = marks_order.same x };
  trans = λ x y z h k. record { wanted = λ w. h.wanted (k.wanted w); marks = marks_order.trans x y z h.marks k.marks };
}

same_linger : (objects : List Object) → Linger objects objects
same_linger = (came Lingers lingers).same

linger_trans : (before now after : List Object) → Linger before now → Linger now after → Linger before after
linger_trans = (came Lingers lingers).trans

if_linger : (f : Object → Object) (test : Object → Bool) (objects : List Object) → ((x : Object) → Marks x (f x)) → ((x : Object) → Includes objects x → test x
    ≡ true → IsWanted (f x).place → IsWanted x.place) → Linger objects (map (λ x. if test x then f x else x) objects)
if_linger f test objects marks wanted = came_if Lingers lingers.same f test objects (λ x m t. record { wanted = wanted x m t; marks = marks x })

placed_marks : (p : Place) (x : Object) → Marks x (with_place p x)
placed_marks p x = record { serial = refl; code = refl; class = refl; finalized = λ e. e }

place_linger : (p : Place) → ¬ IsWanted p → (o : ℕ) (objects : List Object) → Linger objects (change (with_place p) o objects)
place_linger p out o objects = if_linger (with_place p) (λ x. x.serial == o) objects (placed_marks p) (λ x m t w. absurd (out w))

lost_linger : (weak : ℕ) (objects : List Object) → Linger objects (loses_referent weak objects)
lost_linger weak objects = if_linger (with_referent None) (λ x. x.serial == weak) objects (λ x. record { serial = refl; code = refl; class = refl; finalized = λ e. e }) (λ x m t w. w)

entries_linger : (es : List Entry) (o : ℕ) (objects : List Object) → Linger objects (change (with_entries es) o objects)
entries_linger es o objects = if_linger (with_entries es) (λ x. x.serial == o) objects (λ x. record { serial = refl; code = refl; class = refl; finalized = λ e. e }) (λ x m t w. w)

all_saved_linger : (keeps : List ℕ) (objects : List Object) → Linger objects (all_saved keeps objects)
all_saved_linger = came_all_saved Lingers lingers (λ o x. record { wanted = λ w. w; marks = record { serial = refl; code = refl; class = refl; finalized = λ e. e } })

all_lose_linger : (wanted : Object → Bool) (weaks : List ℕ) (objects after : List Object) → AllLose wanted objects weaks after → Linger objects after
all_lose_linger = came_all_lose Lingers lingers (λ x. record { wanted = λ w. w; marks = record { serial = refl; code = refl; class = refl; finalized = λ e. e } })

merged_wanted : (g : ℕ) (p : Place) → IsWanted (merged_place g p) → IsWanted p
merged_wanted g (Gen i) w = go (nat_le i g) w
  where
    go : (b : Bool) → IsWanted (if b then Gen g else Gen i) → ⊥
    go true k = k
    go false k = k
merged_wanted g p w = w

survivor_out : (g : ℕ) (objects : List Object) (x : Object) → ¬ IsWanted (survivor_place g objects x)
survivor_out g objects x = go (not (is_tracked x) || (g == 2) && is_dict x && has_none_tracked objects x)
  where
    go : (b : Bool) → ¬ IsWanted (if b then Untracked else Gen (older g))
    go true = λ w. w
    go false = λ w. w

-- The start condemns no object with a legacy finalizer.
module _ (script : Script) (g : ℕ) (w : World) (rises : Rises 1 w.next_serial w.objects) (chosen : Object → Bool) (places : Object → Place) (sorts : Sorts script g w chosen places) where
  condemned_legacy : (x : Object) → Includes w.objects x → is_at (Gen g) x ≡ true → IsWanted (places x) → legacy_of script x ≡ None
  condemned_legacy x m t wanted = go (legacy_of script x) refl
    where
      member : Includes (objects_at w.objects (Gen g)) x
      member = Includes-filter (is_at (Gen g)) w.objects x t m

      none_survives : ¬ Survives w (Gen g) x.serial
      none_survives s = survivor_out g (untrack g chosen w.objects) (untracked_if (chosen x) x) (subst IsWanted (sorts.survivors x member s) wanted)

      garbage : IsGarbage w (Gen g) x.serial
      garbage = record { member = Includes-map (λ (z : Object). z.serial) (objects_at w.objects (Gen g)) x member; no_path = none_survives }

      go : (r : Option ℕ) → legacy_of script x ≡ r → r ≡ None
      go None e = refl
      go (Some p) e =
          let has : has_legacy script w x.serial ≡ true = ap (λ r. is_some (option_and_then (legacy_of script) r)) (at_member 1 w.next_serial w.objects x rises m) ∙ ap (λ r. is_some r) e in
          let aside : IsSetAside script w (Gen g) x.serial = first has garbage in
          absurd (subst IsWanted (sorts.set_aside x member aside) wanted)

-- an activity other than a collection is pushed
pub over_primed : (script : Script) (a : Activity) (objects : List Object) (stack : List Activity) → ((c : Collection) → a ≢ Collecting c)
    → Primed script objects stack → Primed script objects (a ∷ stack)
over_primed script a objects stack apart h = record { no_legacy = h.no_legacy; ran = λ c m. either m (λ e. absurd (apart c e)) (h.ran c) }

starts_primed : (script : Script) (spec : FrameSpec) (u : World) → Primed script u.objects u.stack → (let s : Transition = start_frame script spec u in Primed script s.1.objects s.1.stack)
starts_primed script spec u h = starts_either (λ lines w. Primed script w.objects w.stack) script spec u h (λ some. over_primed script (begun_frame script spec) u.objects u.stack (λ c e. cc) h)

module _ (script : Script) (c : Collection) (below : List Activity) (v : World) (rises : Rises 1 v.next_serial v.objects) (alone : NoneCollects below) where
  abbrev at : CollectPhase → World
  at phase = collection_at c phase below v

  abbrev IsPrimed : World → Type 0
  IsPrimed w = Primed script w.objects w.stack

  abbrev PrimedIn : CollectPhase → Type 0
  PrimedIn phase = Primed script v.objects (Collecting (record c { phase = phase }) ∷ below)

  to : (after next : World) → after ≡ next → IsPrimed next → IsPrimed after
  to after next e h = subst IsPrimed (sym e) h

  stands : (d : Collection) (phase : CollectPhase) (objects : List Object) → HaveNoLegacy script objects → RanAt script phase objects
      → Primed script objects (Collecting (record d { phase = phase }) ∷ below)
  stands d phase objects legacy ran = record {
    no_legacy = legacy;
    ran = λ b m. either m (λ e. let same : record d { phase = phase } ≡ b = cc in subst (λ (z : Collection). RanAt script z.phase objects) same ran) (λ k. absurd (alone b k));
  }

  goes : (phase : CollectPhase) (d : Collection) (next : CollectPhase) (objects : List Object) → Linger v.objects objects → RanAt script next objects
      → PrimedIn phase → Primed script objects (Collecting (record d { phase = next }) ∷ below)
  goes phase d next objects l ran h = stands d next objects (linger_legacy script v.objects objects l h.no_legacy) ran

  gives : (refs : List ℕ) (phase next : CollectPhase) (objects : List Object) → Linger v.objects objects → RanAt script next objects → PrimedIn phase
      → Primed script objects (Releasing refs ∷ Collecting (record c { phase = next }) ∷ below)
  gives refs phase next objects l ran h = over_primed script (Releasing refs) objects (Collecting (record c { phase = next }) ∷ below) (λ d e. cc) (goes phase c next objects l ran h)

  same : Linger v.objects v.objects
  same = same_linger v.objects

  gen_out : ¬ IsWanted (Gen (older c.generation))
  gen_out w = w

  weak_calling_primed : (waiting : List ℕ) → ((x : Object) → Includes v.objects x → x.place ≢ Seen) → PrimedIn (WeakCalling waiting)
      → IsPrimed (calls_back script c waiting below (at (WeakCalling waiting))).1
  weak_calling_primed [] unseen h = goes (WeakCalling []) c Finalizing v.objects same (λ x m e. absurd (unseen x m e)) h
  weak_calling_primed (weak ∷ waiting) unseen h =
      let callback = unwrap_or (callback_of v.objects weak) 0 in
      starts_primed script (record { sort = Callback; proc = procedure_of (at (WeakCalling (weak ∷ waiting))) callback; subject = weak; func = Some callback })
      (at (AfterCallback weak waiting)) (goes (WeakCalling (weak ∷ waiting)) c (AfterCallback weak waiting) v.objects same tt h)

  after_release_primed : (weak : ℕ) (waiting : List ℕ) → PrimedIn (AfterRelease weak waiting) → IsPrimed (after_release c weak waiting below (at (AfterRelease weak waiting))).1
  after_release_primed weak waiting h = called_back_either (λ lines. IsPrimed) c weak waiting below (at (AfterRelease weak waiting))
      (λ t. goes (AfterRelease weak waiting) c (WeakCalling waiting) _ (place_linger (Gen (older c.generation)) gen_out weak v.objects) tt h)
      (λ t. goes (AfterRelease weak waiting) (record c { collected = c.collected + 1 }) (WeakCalling waiting) v.objects same tt h)

  -- a visited object was condemned
  looked_at : (f : Object → Object) (o : ℕ) → ((x : Object) → Marks x (f x)) → IsMemberOf (at Finalizing) Cand o → Linger v.objects (change f o v.objects)
  looked_at f o marks member = if_linger f (λ x. x.serial == o) v.objects marks (λ x m t w.
      let z = stands_at v.objects Cand o member in
      let same_one : z.0 ≡ x = same_object 1 v.next_serial v.objects z.0 x rises z.1 m (z.3 ∙ sym (eqb-true x.serial o t)) in
      subst (λ (y : Object). IsWanted y.place) same_one (subst IsWanted (sym (place_is z.0.place Cand z.2)) tt))

  seen_ran : (f : Object → Object) (o : ℕ) → ((x : Object) → Marks x (f x)) → ((x : Object) → Includes v.objects x → x.serial ≡ o → Ran script (f x))
      → RanAt script Finalizing v.objects → RanAt script Finalizing (change f o v.objects)
  seen_ran f o marks ran h = each_changed (λ z. z.place ≡ Seen → Ran script z) f (λ x. x.serial == o) v.objects (λ x k t i. ran x k (eqb-true x.serial o t)) (λ x k t i. h x k i)

  -- what has no finalizer to run
  none_to_run : (o : ℕ) → option_and_then (finalizer_to_run script) (object_at v.objects o) ≡ None → (x : Object) → Includes v.objects x → x.serial ≡ o → Ran script x
  none_to_run o e x m s some = by_mark x.finalized refl (subst (λ r. option_and_then (finalizer_to_run script) r ≡ None)
      (subst (λ n. object_at v.objects n ≡ Some x) s (at_member 1 v.next_serial v.objects x rises m)) e)
    where
      by_mark : (b : Bool) → x.finalized ≡ b → (if x.finalized then None else finalizer_of script x) ≡ None → x.finalized ≡ true
      by_mark true t k = t
      by_mark false t k = absurd (let none : finalizer_of script x ≡ None = subst (λ (b : Bool). (if b then None else finalizer_of script x) ≡ None) t k
          in let no : false ≡ true = ap (λ r. is_some r) (sym none) ∙ some in cc)

  looks_at_primed : (o : ℕ) (r : Option ℕ) → option_and_then (finalizer_to_run script) (object_at v.objects o) ≡ r → IsMemberOf (at Finalizing) Cand o
      → PrimedIn Finalizing → IsPrimed (looks_at script c o below (at Finalizing) r).1
  looks_at_primed o None e member h = goes Finalizing c Finalizing _ (looked_at (with_place Seen) o (placed_marks Seen) member)
      (seen_ran (with_place Seen) o (placed_marks Seen) (λ x m s. ran_later script x (with_place Seen x) (placed_marks Seen x) (none_to_run o e x m s))
      (h.ran (record c { phase = Finalizing }) (inl refl))) h
  looks_at_primed o (Some p) e member h = starts_primed script (record { sort = Del; proc = p; subject = o; func = None }) (collection_at c (AfterFinalizing o)
      below (with_change seen o (at Finalizing)))
      (goes Finalizing c (AfterFinalizing o) _ (looked_at seen o seen_marks member) (seen_ran seen o seen_marks (λ x m s some. refl) (h.ran (record c { phase = Finalizing }) (inl refl))) h)
    where
      seen : Object → Object
      seen x = marked (with_place Seen x)

      seen_marks : (x : Object) → Marks x (seen x)
      seen_marks x = record { serial = refl; code = refl; class = refl; finalized = λ k. refl }

  turn_taken : (x : Object) → PrimedIn Turns → IsPrimed (takes_turn c x below (at Turns)).1
  turn_taken x h = turn_either (λ lines. IsPrimed) c x below (at Turns)
      (λ t. goes Turns c Turns _ (linger_trans v.objects (saved x.serial v.objects) _ (all_saved_linger (x.serial ∷ []) v.objects)
      (place_linger (Gen (older c.generation)) gen_out x.serial (saved x.serial v.objects))) tt h)
      (λ t s. goes Turns c Turns _ (place_linger (Gen (older c.generation)) gen_out x.serial v.objects) tt h)
      (λ t s. goes Turns c (Turn x.serial) v.objects same tt h)

  pub phase_primed : (phase : CollectPhase) (events : List Event) (after : World) → ((x : Object) → Includes v.objects x → StandsRightly phase x)
      → PhaseStep script c phase below (at phase) events after → PrimedIn phase → IsPrimed after
  phase_primed Start events after rightly step h = to after _ step.world (stands c (WeakClearing []) (sorted c.generation step.places now) legacy tt)
    where
      now : List Object
      now = (merged c.generation v).objects

      rises_now : Rises 1 v.next_serial now
      rises_now = Rises-map (λ x. with_place (merged_place c.generation x.place) x) (λ x. refl) 1 v.next_serial v.objects rises

      now_legacy : HaveNoLegacy script now
      now_legacy y m w = let x = Includes-map_cases (λ x. with_place (merged_place c.generation x.place) x) v.objects y m in
          subst (λ z. legacy_of script z ≡ None) x.2 (legacy_later script x.0 (with_place (merged_place c.generation x.0.place) x.0) (placed_marks (merged_place c.generation x.0.place) x.0)
          (h.no_legacy x.0 x.1 (merged_wanted c.generation x.0.place (subst (λ (z : Object). IsWanted z.place) (sym x.2) w))))

      legacy : HaveNoLegacy script (sorted c.generation step.places now)
      legacy = each_changed (λ z. IsWanted z.place → legacy_of script z ≡ None) (λ x. with_place (step.places x) x) (is_at (Gen c.generation)) now
          (λ x m t w. legacy_later script x (with_place (step.places x) x) (placed_marks (step.places x) x) (condemned_legacy script c.generation
          (merged c.generation (at Start)) rises_now step.chosen step.places step.sorts x m t w))
          (λ x m t w. now_legacy x m w)
  phase_primed (WeakClearing waiting) events after rightly (inl step) h = to after _ step.yields.1 (go (waits v.objects step.weak))
    where
      lost : List Object
      lost = loses_referent step.weak v.objects

      go : (t : Bool) → IsPrimed (if t then collection_at c (WeakClearing (waiting ++ step.weak ∷ [])) below
          (with_objects (change (with_place Pend) step.weak lost) (at (WeakClearing waiting))) else collection_at c (WeakClearing waiting) below
          (with_objects lost (at (WeakClearing waiting))))
      go true = goes (WeakClearing waiting) c (WeakClearing (waiting ++ step.weak ∷ [])) _ (linger_trans v.objects lost _ (lost_linger step.weak v.objects)
          (place_linger Pend (λ w. w) step.weak lost)) tt h
      go false = goes (WeakClearing waiting) c (WeakClearing waiting) lost (lost_linger step.weak v.objects) tt h
  phase_primed (WeakClearing waiting) events after rightly (inr step) h = to after _ step.1.1 (goes (WeakClearing waiting) c (WeakCalling waiting) v.objects same tt h)
  phase_primed (WeakCalling waiting) events after rightly step h = to after _ step.1 (weak_calling_primed waiting (λ x m. (rightly x m).seen) h)
  phase_primed (AfterCallback weak waiting) events after rightly step h = to after _ step.1 (gives (weak ∷ []) (AfterCallback weak waiting) (AfterRelease weak waiting) v.objects same tt h)
  phase_primed (AfterRelease weak waiting) events after rightly step h = to after _ step.1 (after_release_primed weak waiting h)
  phase_primed Finalizing events after rightly (inl step) h = to after _ step.yields.1 (looks_at_primed step.object (option_and_then (finalizer_to_run script)
      (object_at v.objects step.object)) refl step.condemned h)
  phase_primed Finalizing events after rightly (inr step) h = to after _ step.1.1 (goes Finalizing c Split _ (if_linger (with_place Cand) (is_at Seen) v.objects
      (placed_marks Cand) (λ x m t w. subst IsWanted (sym (place_is x.place Seen t)) tt)) ran h)
    where
      ran : RanAt script Split (map (λ x. if is_at Seen x then with_place Cand x else x) v.objects)
      ran = each_changed (λ z. z.place ≡ Cand → Ran script z) (with_place Cand) (is_at Seen) v.objects
          (λ x m t e. ran_later script x (with_place Cand x) (placed_marks Cand x) (h.ran (record c { phase = Finalizing }) (inl refl) x m (place_is x.place Seen t)))
          (λ x m t e. absurd (subst (λ os. Includes os x.serial) step.0 (Includes-map (λ (z : Object). z.serial) (objects_at v.objects Cand) x
          (Includes-filter (is_at Cand) v.objects x (ap (λ q. same_place q Cand) e) m))))
  phase_primed (AfterFinalizing o) events after rightly step h = to after _ step.1 (gives (o ∷ []) (AfterFinalizing o) Finalizing v.objects same
      (h.ran (record c { phase = AfterFinalizing o }) (inl refl)) h)
  phase_primed Split events after rightly step h = to after _ step.world (goes Split (record c { collected = c.collected + length (serials_at step.objects Cand) }) Turns step.objects
      (linger_trans v.objects now step.objects (if_linger (with_place (Gen (older c.generation))) (λ x. includes step.alive x.serial) v.objects
      (placed_marks (Gen (older c.generation))) (λ x m t w. absurd w)) (all_lose_linger (loses_at_split now) step.cleared now step.objects step.lose)) tt h)
    where
      now : List Object
      now = get_older c.generation step.alive v.objects
  phase_primed Turns events after rightly (inl step) h = to after _ step.yields.1 (turn_taken step.object h)
  phase_primed Turns events after rightly (inr step) h = to after _ step.1.1 (goes Turns c Ending v.objects same tt h)
  phase_primed (Turn o) events after rightly step h = to after _ step.1 (option_either (λ lines. IsPrimed) (empties c o below (at (Turn o))) (last_entry (entries_of v.objects o))
      (λ e. gives (o ∷ []) (Turn o) (AfterTurn o) v.objects same tt h)
      (λ entry e. gives (entry_references entry) (Turn o) (Turn o) _ (entries_linger (without_last (entries_of v.objects o)) o v.objects) tt h))
  phase_primed (AfterTurn o) events after rightly step h = to after _ step.1 (goes (AfterTurn o) c Turns _ (place_linger (Gen (older c.generation)) gen_out o v.objects) tt h)
  phase_primed Ending events after rightly step h = to after _ step.world (record {
    no_legacy = linger_legacy script v.objects _ (linger_trans v.objects kept _ (all_saved_linger step.keeps v.objects)
        (if_linger (with_place (Gen (older c.generation))) (is_at Legacy) kept (placed_marks (Gen (older c.generation))) (λ x m t w. absurd w))) h.no_legacy;
    ran = λ b m. absurd (alone b m);
  })
    where
      kept : List Object
      kept = all_saved step.keeps v.objects

-- another activity's step leaves condemned objects where they were
module _ (script : Script) (w after : World) (rises : Rises 1 w.next_serial w.objects) (follows : Follows w.objects w.next_serial after.objects)
    (places : (y : Object) → Includes after.objects y → IsOfCollection y.place → HadItsPlace w.objects y) where
  stood : (y : Object) → Includes after.objects y → IsOfCollection y.place → (x : Object) × Includes w.objects x × (x.place ≡ y.place) × Marks x y
  stood y m k = either (follows y m)
      (λ x. let had = places y m k in
      let one : had.0 ≡ x.0 = same_object 1 w.next_serial w.objects had.0 x.0 rises had.1 x.1 (had.2 ∙ x.2.serial) in
      (x.0, x.1, ap (λ (z : Object). z.place) (sym one) ∙ sym had.3, x.2))
      (λ e. let had = places y m k in
      let within = lives_within 1 w.next_serial w.objects had.0.serial rises (Includes-map (λ (z : Object). z.serial) w.objects had.0 had.1) in
      absurd (let s = had.2 in omega (arith, within.1, s, e)))

  wanted_apart : (p : Place) → IsWanted p → IsOfCollection p
  wanted_apart Cand w = tt
  wanted_apart Seen w = tt
  wanted_apart p w = absurd w

  ran_still : (p : Place) → IsOfCollection p → ((x : Object) → Includes w.objects x → x.place ≡ p → Ran script x) → (y : Object) → Includes after.objects y → y.place ≡ p → Ran script y
  ran_still p k h y m e = let x = stood y m (subst IsOfCollection (sym e) k) in ran_later script x.0 y x.3 (h x.0 x.1 (x.2 ∙ e))

  ran_at : (phase : CollectPhase) → RanAt script phase w.objects → RanAt script phase after.objects
  ran_at Finalizing h = ran_still Seen tt h
  ran_at (AfterFinalizing o) h = ran_still Seen tt h
  ran_at Split h = ran_still Cand tt h
  ran_at phase h = tt

  pub other_primed : ((c : Collection) → Includes after.stack (Collecting c) → Includes w.stack (Collecting c) ⊎ (c.phase ≡ Start)) → Primed script w.objects
      w.stack → Primed script after.objects after.stack
  other_primed stack h = record {
    no_legacy = λ y m k. let x = stood y m (wanted_apart y.place k) in legacy_later script x.0 y x.3 (h.no_legacy x.0 x.1 (subst IsWanted (sym x.2) k));
    ran = λ c m. either (stack c m) (λ k. ran_at c.phase (h.ran c k)) (λ e. subst (λ p. RanAt script p after.objects) (sym e) tt);
  }
