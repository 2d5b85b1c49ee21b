-- The start of a collection partitions what it finds. The garbage list names no garbage, since what it names is held from
-- outside.
use Rattle.std.proofs.Common.{◌≡◌, refl, sym, ◌∙◌, ap, subst, ℕ, ◌+◌, Bool, true, false, cond, not, ◌&&◌, ◌||◌, List, [], ◌∷◌, ◌++◌, Option, Some, None, arith}
use Rattle.std.specs.Prelude.{◌==◌, nat_le, if◌then◌else◌, flat_map, filter, option_map, unwrap_or}
use Rattle.cg_value.specs.declared.Place.{Place}
use Rattle.cg_value.specs.declared.Place.TheVariants.{Untracked, Gen, Cand, Legacy}
use Rattle.cg_script.specs.declared.Script.{Script}
use Rattle.cg_graph.specs.Member.{Includes}
use Rattle.cg_graph.specs.Value.{references}
use Rattle.cg_graph.specs.Object.{Object, object_at, entries_of, is_at, is_tracked, same_place, with_place, objects_at}
use Rattle.cg_graph.specs.Holdings.{occurrences, entry_holdings, graph_of, name_holdings}
use Rattle.cg_graph.specs.Reach.{first}
use Rattle.cg_graph.proofs.Members.{Includes-map, Includes-filter}
use Rattle.cg_graph.proofs.Objects.{occurrences-append}
use Rattle.cg_machine.specs.declared.event.Event.{Event}
use Rattle.cg_machine.specs.World.{World, Activity, Collection, Start, WeakClearing}
use Rattle.cg_machine.specs.Holdings.{holds}
use Rattle.cg_laws.specs.Laws.{IsOfCollection}
use Rattle.cg_machine.specs.Operands.{is_dict}
use Rattle.cg_machine.specs.Collect.{collection_at, merged, merged_place, older, survivor_place, has_none_tracked, untrack, untracked_if, start_world, Survives, Sorts, StartStep}
use Rattle.cg_represents.proofs.Lists.{found_at, entry_held, present}
use Rattle.cg_laws.proofs.Garbage.{survives, survives-Survives, garbage-IsGarbage, set_aside, set_aside-IsSetAside, IsSetAside-set_aside}
use Rattle.cg_laws.specs.Apart.{IsInWeakPhase, IsFound, IsApart}
use Rattle.cg_laws.proofs.SetsApart.{NoneCollects, AreApart, collects, found_apart, is_tracked_at, places_kept, moved}

merged_clear : (g : ℕ) (p : Place) → ¬ IsOfCollection p → ¬ IsOfCollection (merged_place g p)
merged_clear g (Gen i) h = go (nat_le i g)
  where
    go : (b : Bool) → ¬ IsOfCollection (if b then Gen g else Gen i)
    go true k = k
    go false k = k
merged_clear g p h = h

-- places to which the start sorts
abbrev IsSorted : Place → Type 0
IsSorted Untracked = Unit {0}
IsSorted (Gen i) = Unit {0}
IsSorted Cand = Unit {0}
IsSorted Legacy = Unit {0}
IsSorted place = ⊥

survivor_sorted : (g : ℕ) (objects : List Object) (x : Object) → IsSorted (survivor_place g objects x) × (¬ IsFound (survivor_place g objects x))
survivor_sorted g objects x = go (not (is_tracked x) || (g == 2) && is_dict x && has_none_tracked objects x)
  where
    go : (b : Bool) → IsSorted (if b then Untracked else Gen (older g)) × (¬ IsFound (if b then Untracked else Gen (older g)))
    go true = (tt, λ k. k)
    go false = (tt, λ k. k)

-- the names in the garbage list are those of the object with its serial
pub names_of : (objects : List Object) (s o : ℕ) → Includes (references (entries_of objects s)) o → (z : Object) × Includes objects z × (z.serial ≡ s) × Includes (references z.entries) o
names_of objects s o = go (object_at objects s) refl
  where
    go : (m : Option Object) → object_at objects s ≡ m → Includes (references (unwrap_or (option_map (λ (x : Object). x.entries) m) [])) o → (z : Object)
        × Includes objects z × (z.serial ≡ s) × Includes (references z.entries) o
    go None e k = absurd k
    go (Some z) e k = let f = found_at objects s z e in (z, f.0, f.1, k)

-- the holdings of some objects, and of the others
parted_holdings : (p : Object → Bool) (objects : List Object) (o : ℕ) → occurrences o (entry_holdings (graph_of objects))
    ≡ occurrences o (entry_holdings (graph_of (filter p objects))) + occurrences o (entry_holdings (graph_of (filter (λ x. not (p x)) objects)))
parted_holdings p [] o = refl
parted_holdings p (x ∷ objects) o = go (p x) (parted_holdings p objects o)
  where
    inside : List Object
    inside = filter p objects

    outside : List Object
    outside = filter (λ y. not (p y)) objects

    go : (b : Bool) → occurrences o (entry_holdings (graph_of objects)) ≡ occurrences o (entry_holdings (graph_of inside)) + occurrences o (entry_holdings (graph_of outside))
        → occurrences o (entry_holdings (graph_of (x ∷ objects))) ≡ occurrences o (entry_holdings (graph_of (cond b (x ∷ inside) inside))) + occurrences o
        (entry_holdings (graph_of (cond (not b) (x ∷ outside) outside)))
    go true k = omega (arith, k, occurrences-append o (references x.entries) (entry_holdings (graph_of inside)), occurrences-append o (references x.entries) (entry_holdings (graph_of objects)))
    go false k = omega (arith, k, occurrences-append o (references x.entries) (entry_holdings (graph_of outside)), occurrences-append o (references x.entries) (entry_holdings (graph_of objects)))

-- an object that one in another place names survives
named_survives : (w : World) (p : Place) (x z : Object) → Includes (objects_at w.objects p) x → Includes w.objects z → is_at p z ≡ false
    → Includes (references z.entries) x.serial → Survives w p x.serial
named_survives w p x z m n apart names =
    let outside = filter (λ y. not (is_at p y)) w.objects in
    let more = present x.serial (entry_holdings (graph_of outside)) (entry_held outside z x.serial (Includes-filter (λ y. not (is_at p y)) w.objects z (ap not apart) n) names) in
    let parted = parted_holdings (is_at p) w.objects x.serial in
    first (omega (
      arith,
      more,
      parted,
      occurrences-append x.serial (name_holdings w.names ++ (1 ∷ []) ++ entry_holdings (graph_of w.objects))
          (flat_map holds w.stack),
      occurrences-append x.serial (name_holdings w.names ++ (1 ∷ [])) (entry_holdings (graph_of w.objects)),
    ))
    (Includes-map (λ (y : Object). y.serial) (objects_at w.objects p) x m)

-- each member of a generation is sorted
places_sorted : (script : Script) (g : ℕ) (w : World) (chosen : Object → Bool) (places : Object → Place) → Sorts script g w chosen places → (x : Object)
    → Includes (objects_at w.objects (Gen g)) x → IsSorted (places x)
places_sorted script g w chosen places sorts x m = go (survives w (Gen g) x.serial) refl (set_aside script w (Gen g) x.serial) refl
  where
    go : (b : Bool) → survives w (Gen g) x.serial ≡ b → (a : Bool) → set_aside script w (Gen g) x.serial ≡ a → IsSorted (places x)
    go true e a i = subst IsSorted (sym (sorts.survivors x m (survives-Survives w (Gen g) x.serial e))) (survivor_sorted g (untrack g chosen w.objects) (untracked_if (chosen x) x)).0
    go false e true i = subst IsSorted (sym (sorts.set_aside x m (set_aside-IsSetAside script w (Gen g) x.serial i))) tt
    go false e false i = subst IsSorted (sym (sorts.condemned x m (garbage-IsGarbage w (Gen g) x.serial (Includes-map (λ (y : Object). y.serial) (objects_at w.objects (Gen g)) x m) e)
        (λ r. let no : true ≡ false = sym (IsSetAside-set_aside script w (Gen g) x.serial r) ∙ i in cc))) tt

weak_of_sorted : (p : Place) (x : Object) → IsSorted p → IsInWeakPhase [] (with_place p x)
weak_of_sorted p x s = record {
  seen = λ e. subst IsSorted e s;
  back = λ e. subst IsSorted e s;
  pending = λ e. subst IsSorted e s;
}

weak_of_clear : (x : Object) → ¬ IsOfCollection x.place → IsInWeakPhase [] x
weak_of_clear x clear = record {
  seen = λ e. clear (subst IsOfCollection (sym e) tt);
  back = λ e. clear (subst IsOfCollection (sym e) tt);
  pending = λ e. clear (subst IsOfCollection (sym e) tt);
}

module _ (script : Script) (c : Collection) (below : List Activity) (v : World) (alone : NoneCollects below) where
  pub start_apart : (events : List Event) (after : World) → StartStep script (collection_at c Start below v) c below events after → AreApart v.objects Start → IsApart after
  start_apart events after step h = subst IsApart (sym step.world) (collects (start_world c step.places below now) (record c { phase = WeakClearing [] }) below refl alone sorted_now)
    where
      g : ℕ
      g = c.generation

      now : World
      now = merged g (collection_at c Start below v)

      merged_now : AreApart now.objects Start
      merged_now = moved (λ x. with_place (merged_place g x.place) x) (λ x. true) v.objects Start Start (places_kept (λ x. merged_place g x.place)) (λ k. k)
          (record {
            untracked = λ x m t one e. ap (merged_place g) e;
            chosen = λ x m t k. merged_clear g x.place k;
            others = λ x m t k. absurd (let no : true ≡ false = t in cc);
            found = λ x m t k n. merged_clear g x.place (h.rightly x m) (found_apart (merged_place g x.place) k);
          }) h

      unnamed : (x : Object) → Includes now.objects x → is_at (Gen g) x ≡ true → IsFound (step.places x) → ¬ Includes (references (entries_of now.objects 1)) x.serial
      unnamed x m t found names =
          let member = Includes-filter (is_at (Gen g)) now.objects x t m in
          let z = names_of now.objects 1 x.serial names in
          let untracked = (merged_now.garbage z.0 z.1 z.2).untracked in
          let survives = named_survives now (Gen g) x z.0 member z.1 (ap (λ p. same_place p (Gen g)) untracked) z.3 in
          (survivor_sorted g (untrack g step.chosen now.objects) (untracked_if (step.chosen x) x)).1 (subst IsFound (step.sorts.survivors x member survives) found)

      sorted_now : AreApart (start_world c step.places below now).objects (WeakClearing [])
      sorted_now = moved (λ x. with_place (step.places x) x) (is_at (Gen g)) now.objects Start (WeakClearing []) (places_kept step.places) (λ k. k)
          (record {
            untracked = λ x m t one e. absurd (is_tracked_at (Gen g) x refl t e);
            chosen = λ x m t k. weak_of_sorted (step.places x) x (places_sorted script g now step.chosen step.places step.sorts x (Includes-filter (is_at (Gen g)) now.objects x t m));
            others = λ x m t k. weak_of_clear x k;
            found = unnamed;
          }) merged_now
