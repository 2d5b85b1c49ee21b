-- The turns and the end: members of the final set move to the older generation or are cleared, and what the garbage
-- list gets moves to a generation in the same step. Afterwards nothing is partitioned.
use Rattle.std.proofs.Common.{◌≡◌, ◌≢◌, refl, sym, ◌∙◌, ap, subst, ℕ, Bool, true, false, cond, inl, inr, ◌⊎◌, List, [], ◌∷◌, ◌++◌, Option, Some, None}
use Rattle.std.specs.Prelude.{◌==◌, if◌then◌else◌, option_map, unwrap_or}
use Rattle.std.proofs.lemmas.Bool.{eqb-true, eq-eqb, ne_eqb}
use Rattle.cg_value.specs.declared.Val.TheVariants.{Ref}
use Rattle.cg_value.specs.declared.Entry.{Entry}
use Rattle.cg_value.specs.declared.Place.{Place}
use Rattle.cg_value.specs.declared.Place.TheVariants.{Gen, Cand, Seen, Back, Legacy, Pend}
use Rattle.cg_script.specs.declared.Script.{Script}
use Rattle.cg_graph.specs.Member.{Includes}
use Rattle.cg_graph.specs.Value.{item, references, entry_references, without_last}
use Rattle.cg_graph.specs.Object.{Object, change, object_at, entries_of, is_at, same_place, with_place, with_entries, objects_at, serials_at}
use Rattle.cg_graph.proofs.Members.{either, Includes-map, Includes-map_cases, Includes-filter}
use Rattle.cg_machine.specs.declared.event.Event.{Event}
use Rattle.cg_machine.specs.World.{World, Activity, Collection, CollectPhase, Turns, Turn, AfterTurn, Ending, with_stack, with_change, with_objects}
use Rattle.cg_laws.specs.Laws.{IsOfCollection}
use Rattle.cg_machine.specs.Collect.{collection_at, older, replaced_place, takes_turn, TurnsStep, saved, all_saved, empties, after_turn, EndStep}
use Rattle.cg_laws.proofs.Lookups.{references-append}
use Rattle.cg_laws.specs.Apart.{StandsRightly, IsInLatePhase, IsFound, IsGarbageList, IsApart}
use Rattle.cg_laws.proofs.SetsApart.{NoneCollects, AreApart, goes_to, restands, gives_up_apart, found_apart, is_tracked_at, changed, places_kept, moved}
use Rattle.cg_laws.proofs.FinalizersApart.{root_not_at, late_at_gen}
use Rattle.cg_laws.proofs.Starting.{turn_either}
use Rattle.cg_represents.proofs.Lists.{each_changed}

-- what a lookup by serial finds after a change of that object or another
changed_at : (f : Object → Object) → ((x : Object) → (f x).serial ≡ x.serial) → (o : ℕ) (objects : List Object) → object_at (change f o objects) o ≡ option_map f (object_at objects o)
changed_at f serial o [] = refl
changed_at f serial o (x ∷ objects) = go (x.serial == o) refl (changed_at f serial o objects)
  where
    go : (b : Bool) → (x.serial == o) ≡ b → object_at (change f o objects) o ≡ option_map f (object_at objects o)
        → cond ((if b then f x else x).serial == o) (Some (if b then f x else x)) (object_at (change f o objects) o) ≡ option_map f (cond b (Some x) (object_at objects o))
    go true t rest = ap (λ b. cond b (Some (f x)) (object_at (change f o objects) o)) (ap (λ n. n == o) (serial x) ∙ t)
    go false t rest = ap (λ b. cond b (Some x) (object_at (change f o objects) o)) t ∙ rest

others_at : (f : Object → Object) → ((x : Object) → (f x).serial ≡ x.serial) → (o s : ℕ) → o ≢ s → (objects : List Object) → object_at (change f o objects) s ≡ object_at objects s
others_at f serial o s apart [] = refl
others_at f serial o s apart (x ∷ objects) = go (x.serial == o) refl (others_at f serial o s apart objects)
  where
    go : (b : Bool) → (x.serial == o) ≡ b → object_at (change f o objects) s ≡ object_at objects s
        → cond ((if b then f x else x).serial == s) (Some (if b then f x else x)) (object_at (change f o objects) s) ≡ cond (x.serial == s) (Some x) (object_at objects s)
    go true t rest =
        let other : (x.serial == s) ≡ false = ne_eqb x.serial s (λ e. apart (sym (eqb-true x.serial o t) ∙ e)) in
        ap (λ b. cond b (Some (f x)) (object_at (change f o objects) s)) (ap (λ n. n == s) (serial x) ∙ other) ∙ rest ∙ sym (ap (λ b. cond b (Some x) (object_at objects s)) other)
    go false t rest = ap (λ m. cond (x.serial == s) (Some x) m) rest

-- an object is appended to the garbage list
abbrev longer : ℕ → Object → Object
longer s x = with_entries (x.entries ++ item (Ref s) ∷ []) x

saved_names : (s : ℕ) (objects : List Object) (o : ℕ) → Includes (references (entries_of (saved s objects) 1)) o → Includes (references (entries_of objects 1)) o ⊎ (s ≡ o)
saved_names s objects o m = go (object_at objects 1) (subst (λ k. Includes (references (unwrap_or (option_map (λ (x : Object). x.entries) k) [])) o) (changed_at (longer s) (λ x. refl) 1 objects) m)
  where
    go : (k : Option Object) → Includes (references (unwrap_or (option_map (λ (x : Object). x.entries) (option_map (longer s) k)) [])) o
        → Includes (references (unwrap_or (option_map (λ (x : Object). x.entries) k) [])) o ⊎ (s ≡ o)
    go None n = absurd n
    go (Some x) n = either (references-append x.entries (item (Ref s) ∷ []) o n) (λ k. inl k) (λ k. either k (λ e. inr e) (λ a. absurd a))

-- Saved objects are as before, except for the entries of the garbage list.
record IsFrom (objects : List Object) (y : Object) : Type 0 where
  pub was : Object
  pub member : Includes objects was
  pub serial : y.serial ≡ was.serial
  pub code : y.code ≡ was.code
  pub place : y.place ≡ was.place

saved_from : (s : ℕ) (objects : List Object) (y : Object) → Includes (saved s objects) y → IsFrom objects y
saved_from s objects y m = let x = Includes-map_cases (λ x. if x.serial == 1 then longer s x else x) objects y m in subst (IsFrom objects) x.2 (one (x.0.serial == 1) x.0 x.1)
  where
    one : (b : Bool) (x : Object) → Includes objects x → IsFrom objects (if b then longer s x else x)
    one true x m = record { was = x; member = m; serial = refl; code = refl; place = refl }
    one false x m = record { was = x; member = m; serial = refl; code = refl; place = refl }

all_saved_from : (keeps : List ℕ) (objects : List Object) (y : Object) → Includes (all_saved keeps objects) y → IsFrom objects y
all_saved_from [] objects y m = record { was = y; member = m; serial = refl; code = refl; place = refl }
all_saved_from (s ∷ keeps) objects y m =
    let now = all_saved_from keeps (saved s objects) y m in
    let x = saved_from s objects now.was now.member in
    record { was = x.was; member = x.member; serial = now.serial ∙ x.serial; code = now.code ∙ x.code; place = now.place ∙ x.place }

garbage_from : (objects : List Object) (y : Object) → ((x : Object) → Includes objects x → x.serial ≡ 1 → IsGarbageList x) → IsFrom objects y → y.serial ≡ 1 → IsGarbageList y
garbage_from objects y garbage from e = let was = garbage from.was from.member (sym from.serial ∙ e) in record { list = from.code ∙ was.list; untracked = from.place ∙ was.untracked }

late_from : (x y : Object) → y.place ≡ x.place → IsInLatePhase x → IsInLatePhase y
late_from x y same k = record { seen = λ e. k.seen (sym same ∙ e); back = λ e. k.back (sym same ∙ e); pending = λ e. k.pending (sym same ∙ e) }

-- a saved object is no longer found
saved_apart : (s : ℕ) (objects : List Object) → ((x : Object) → Includes objects x → IsFound x.place → s ≢ x.serial) → AreApart objects Turns → AreApart (saved s objects) Turns
saved_apart s objects gone h = record {
  garbage = λ y m. garbage_from objects y h.garbage (saved_from s objects y m);
  rightly = λ y m. let x = saved_from s objects y m in late_from x.was y x.place (h.rightly x.was x.member);
  unhandled = h.unhandled;
  unsaved = λ y m found k.
      let x = saved_from s objects y m in
      let was = subst IsFound x.place found in
      either (saved_names s objects y.serial k) (λ n. h.unsaved x.was x.member was (subst (Includes (references (entries_of objects 1))) x.serial n)) (λ e. gone x.was x.member was (e ∙ x.serial));
}

-- moving a saved object first gives the same result
saved_placed : (s : ℕ) (p : Place) (o : ℕ) (objects : List Object) → saved s (change (with_place p) o objects) ≡ change (with_place p) o (saved s objects)
saved_placed s p o [] = refl
saved_placed s p o (x ∷ objects) = λ i. one (x.serial == 1) refl (x.serial == o) refl i ∷ saved_placed s p o objects i
  where
    one : (a : Bool) → (x.serial == 1) ≡ a → (b : Bool) → (x.serial == o) ≡ b
        → ◌≡◌ {A = Object} (if (if b then with_place p x else x).serial == 1 then longer s (if b then with_place p x else x)
        else (if b then with_place p x else x)) (if (if a then longer s x else x).serial == o then with_place p (if a then longer s x else x)
        else (if a then longer s x else x))
    one true t true u = ap (λ k. if k then longer s (with_place p x) else with_place p x) t ∙ sym (ap (λ k. if k then with_place p (longer s x) else longer s x) u)
    one true t false u = ap (λ k. if k then longer s x else x) t ∙ sym (ap (λ k. if k then with_place p (longer s x) else longer s x) u)
    one false t true u = ap (λ k. if k then longer s (with_place p x) else with_place p x) t ∙ sym (ap (λ k. if k then with_place p x else x) u)
    one false t false u = ap (λ k. if k then longer s x else x) t ∙ sym (ap (λ k. if k then with_place p x else x) u)

-- where an object is that has no place of the last phase
clear_at_end : (p : Place) → p ≢ Seen → p ≢ Back → p ≢ Pend → p ≢ Cand → same_place p Legacy ≡ false → ¬ IsOfCollection p
clear_at_end Cand seen back pending cand legacy k = cand refl
clear_at_end Seen seen back pending cand legacy k = seen refl
clear_at_end Back seen back pending cand legacy k = back refl
clear_at_end Legacy seen back pending cand legacy k = let no : true ≡ false = legacy in cc
clear_at_end Pend seen back pending cand legacy k = pending refl
clear_at_end p seen back pending cand legacy k = k

module _ (script : Script) (c : Collection) (below : List Activity) (v : World) (alone : NoneCollects below) where
  abbrev at : CollectPhase → World
  at phase = collection_at c phase below v

  to : (after next : World) → after ≡ next → IsApart next → IsApart after
  to after next e h = subst IsApart (sym e) h

  abbrev place : Place
  place = Gen (older c.generation)

  -- one moves to the older generation
  older_apart : (o : ℕ) (phase : CollectPhase) → o ≢ 1 → ((x : Object) → StandsRightly phase x → IsInLatePhase x) → AreApart v.objects phase → AreApart (change (with_place place) o v.objects) Turns
  older_apart o phase no_root late h = moved (with_place place) (λ x. x.serial == o) v.objects phase Turns (places_kept (λ x. place)) (λ k. k)
      (record {
        untracked = λ x m t one e. absurd (no_root (sym (eqb-true x.serial o t) ∙ one));
        chosen = λ x m t k. late_at_gen (older c.generation) x;
        others = λ x m t k. late x k;
        found = λ x m t k n. k;
      }) h

  -- none that moved is found
  older_gone : (o : ℕ) (y : Object) → Includes (change (with_place place) o v.objects) y → IsFound y.place → o ≢ y.serial
  older_gone o = each_changed (λ z. IsFound z.place → o ≢ z.serial) (with_place place) (λ x. x.serial == o) v.objects (λ x m t found. absurd found)
      (λ x m t found e. let no : true ≡ false = sym (eq-eqb x.serial o (sym e)) ∙ t in cc)

  turn_apart : (x : Object) → Includes (serials_at v.objects Cand) x.serial → AreApart v.objects Turns → IsApart (takes_turn c x below (at Turns)).1
  turn_apart x member h = turn_either (λ lines. IsApart) c x below (at Turns)
      (λ t. goes_to c Turns below kept alone (subst (λ os. AreApart os Turns) (saved_placed x.serial place x.serial v.objects)
      (saved_apart x.serial (change (with_place place) x.serial v.objects) (older_gone x.serial) older_now)))
      (λ t s. goes_to c Turns below (with_change (with_place place) x.serial (at Turns)) alone older_now)
      (λ t s. goes_to c (Turn x.serial) below v alone (restands Turns (Turn x.serial) v.objects (λ k. either k no_root (λ n. n)) (λ y m k. k) h))
    where
      no_root : x.serial ≢ 1
      no_root = root_not_at v.objects Turns Cand x.serial refl h member

      older_now : AreApart (change (with_place place) x.serial v.objects) Turns
      older_now = older_apart x.serial Turns no_root (λ y k. k) h

      kept : World
      kept = with_objects (change (with_place place) x.serial (saved x.serial v.objects)) (at Turns)

  pub turns_apart : (events : List Event) (after : World) → TurnsStep c below (at Turns) events after → AreApart v.objects Turns → IsApart after
  turns_apart events after (inl step) h = to after _ step.yields.1 (turn_apart step.object (Includes-map (λ (z : Object). z.serial) (objects_at v.objects Cand) step.object step.member) h)
  turns_apart events after (inr step) h = to after _ step.1.1 (goes_to c Ending below v alone (restands Turns Ending v.objects (λ k. k)
      (λ x m k. (
        k,
        λ e. subst (λ xs. Includes xs x.serial) step.0 (Includes-map (λ (z : Object). z.serial) (objects_at v.objects Cand) x
            (Includes-filter (is_at Cand) v.objects x (ap (λ p. same_place p Cand) e) m)),
      )) h))

  pub empties_apart : (o : ℕ) (m : Option Entry) → AreApart v.objects (Turn o) → IsApart (empties c o below (at (Turn o)) m).1
  empties_apart o None h = gives_up_apart (o ∷ []) (at (AfterTurn o)) (goes_to c (AfterTurn o) below v alone (restands (Turn o) (AfterTurn o) v.objects h.unhandled (λ x m k. k) h))
  empties_apart o (Some entry) h = gives_up_apart (entry_references entry) (collection_at c (Turn o) below (with_change (with_entries shorter) o (at (Turn o))))
      (goes_to c (Turn o) below (with_change (with_entries shorter) o (at (Turn o))) alone
      (changed (with_entries shorter) (λ x. x.serial == o) v.objects (Turn o) (Turn o) (λ x. refl) (λ x. refl)
      (ap (λ k. unwrap_or (option_map (λ (x : Object). x.entries) k) []) (others_at (with_entries shorter) (λ x. refl) o 1 (λ e. h.unhandled (inl e)) v.objects)) h.unhandled
      (record {
        untracked = λ x m t one e. e;
        chosen = λ x m t k. late_from x (with_entries shorter x) refl k;
        others = λ x m t k. k;
        found = λ x m t k. h.unsaved x m k;
      }) h))
    where
      shorter : List Entry
      shorter = without_last (entries_of v.objects o)

  pub after_turn_apart : (o : ℕ) → AreApart v.objects (AfterTurn o) → IsApart (after_turn c o below (at (AfterTurn o))).1
  after_turn_apart o h = goes_to c Turns below (with_change (with_place place) o (at (AfterTurn o))) alone (older_apart o (AfterTurn o) (λ e. h.unhandled (inl e)) (λ x k. k) h)

  pub end_apart : (events : List Event) (after : World) → EndStep script c below (at Ending) events after → AreApart v.objects Ending → IsApart after
  end_apart events after step h = to after now step.world (record {
    garbage = λ y m. (known y m).0;
    clear = λ e y m. (known y m).1;
    phases = λ d m. absurd (alone d m);
    unhandled = λ d m. absurd (alone d m);
    unsaved = λ y m found. absurd ((known y m).1 (found_apart y.place found));
  })
    where
      kept : List Object
      kept = all_saved step.keeps v.objects

      now : World
      now = with_stack below (replaced_place Legacy place (with_objects kept (at Ending)))

      known : (y : Object) → Includes now.objects y → (y.serial ≡ 1 → IsGarbageList y) × (¬ IsOfCollection y.place)
      known = each_changed (λ z. (z.serial ≡ 1 → IsGarbageList z) × (¬ IsOfCollection z.place)) (with_place place) (is_at Legacy) kept
          (λ x m t. (λ e. absurd (is_tracked_at Legacy x refl t (garbage_from v.objects x h.garbage (all_saved_from step.keeps v.objects x m) e).untracked), λ k. k))
          (λ x m t.
          let from = all_saved_from step.keeps v.objects x m in
          let k = h.rightly from.was from.member in
          let late = late_from from.was x from.place k.0 in
          (λ e. garbage_from v.objects x h.garbage from e, clear_at_end x.place late.seen late.back late.pending (λ e. k.1 (sym from.place ∙ e)) t))
