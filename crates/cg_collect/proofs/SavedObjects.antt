-- The garbage list after uncollectable objects are saved, and the walk that saves them.
use Rattle.std.proofs.Common.{◌≡◌, ◌≢◌, refl, sym, ◌∙◌, ap, subst, ℕ, ◌+◌, ◌<◌, ◌≤◌, Bool, true, false, cond, ◌||◌, inl, inr, List, [], ◌∷◌, ◌++◌, length, map, Option, Some, None, is_some, append_assoc, arith}
use Rattle.std.specs.Prelude.{◌==◌, if◌then◌else◌, filter, option_map, option_and_then, slice_get}
use Rattle.std.specs.FinMap as fin
use Rattle.std.proofs.lemmas.Bool.{cases_eq}
use Rattle.std.proofs.lemmas.List.{map-append}
use Rattle.std.proofs.lemmas.List.Elements.{filter-append}
use Rattle.cg_value.specs.declared.Place.{Place}
use Rattle.cg_value.specs.declared.Place.TheVariants.{Legacy}
use Rattle.cg_value.specs.declared.Val.TheVariants.{Ref}
use Rattle.cg_value.specs.declared.Entry.{Entry}
use Rattle.cg_script.specs.declared.Script.{Script}
use Rattle.cg_graph.specs.Value.{references, item}
use Rattle.cg_graph.specs.Holdings.{occurrences}
use Rattle.cg_graph.specs.Store.{Store, Node, IsLive, list_at, objects_of, object_from, entries_of, entries_in, place_of}
use Rattle.cg_graph.specs.Changes.{rewritten, with_entries}
use Rattle.cg_graph.specs.Maps.{mapped, changed}
use Rattle.cg_graph.proofs.Maps.{get-mapped, get-changed_same, get-changed_other, same_map}
use Rattle.cg_graph.proofs.Objects.{object-at}
use Rattle.cg_arena.specs.Nodes.{following}
use Rattle.cg_heap.specs.Calls.{IsListed}
use Rattle.cg_heap.proofs.CallerLemmas.{lives_on, kinds-rewritten}
use Rattle.cg_heap.proofs.ReferenceLemmas.{references-append}
use Rattle.cg_machine.specs.Program.{legacy_of}
use Rattle.cg_machine.specs.Collect.{has_flag, save_all, all_saved}
use Rattle.cg_trial.proofs.Lists.{IsAt as Walked, ahead, ahead_is, occurrences-cons, once_before, absent}
use Rattle.cg_trial.proofs.PlacesOfObjects.{once_at, where_is}
use Rattle.cg_death.proofs.Worlds.{append_none}
use Rattle.cg_death.proofs.WorkLeft.{entries-rewritten}
use Rattle.cg_collect.specs.Phases.{is_saved_at}
use Rattle.cg_collect.specs.Ready.{IsApartUnseen}
use Rattle.cg_collect.specs.Saving.{with_saved, kept_aside}
use Rattle.cg_collect.proofs.Moving.{standing_at, stands_there, walk_at, walk_over, walk_passes, comes_next}
use Rattle.cg_collect.proofs.Garbage.{not_garbage}
use Rattle.cg_collect.proofs.WorkLeft.{place-rewritten, objects-saved}

abbrev items : List ℕ → List Entry
items keeps = map (λ o. item (Ref o)) keeps

-- what the new entries name
references-items : (q : ℕ) (keeps : List ℕ) → occurrences q (references (items keeps)) ≡ occurrences q keeps
references-items q [] = refl
references-items q (k ∷ keeps) = occurrences-cons q k (references (items keeps)) ∙ ap (λ n. cond (k == q) 1 0 + n) (references-items q keeps) ∙ sym (occurrences-cons q k keeps)

pub occurrences-filter : (q : ℕ) (test : ℕ → Bool) (xs : List ℕ) → occurrences q (filter test xs) ≤ occurrences q xs
occurrences-filter q test [] = omega arith
occurrences-filter q test (x ∷ xs) = go (test x) (occurrences-filter q test xs)
  where
    go : (b : Bool) → occurrences q (filter test xs) ≤ occurrences q xs → occurrences q (cond b (x ∷ filter test xs) (filter test xs)) ≤ occurrences q (x ∷ xs)
    go true h = omega (arith, h, occurrences-cons q x xs, occurrences-cons q x (filter test xs))
    go false h = omega (arith, h, occurrences-cons q x xs)

-- entries that replace entries
rewritten-rewritten : (o : ℕ) (es fs : List Entry) (store : Store) → rewritten o fs (rewritten o es store) ≡ rewritten o fs store
rewritten-rewritten o es fs store = λ i. record store { nodes = same i }
  where
    known : (x : Option Node) → option_map (with_entries fs) (option_map (with_entries es) x) ≡ option_map (with_entries fs) x
    known None = refl
    known (Some n) = refl

    same : changed (with_entries fs) o (changed (with_entries es) o store.nodes) ≡ changed (with_entries fs) o store.nodes
    same = same_map (changed (with_entries fs) o (changed (with_entries es) o store.nodes)) (changed (with_entries fs) o store.nodes)
        (λ q. elim (cases_eq q o) [
          | inl e ↦
              get-changed_same (with_entries fs) o (changed (with_entries es) o store.nodes) q e
              ∙ ap (option_map (with_entries fs)) (get-changed_same (with_entries es) o store.nodes q e)
              ∙ known (fin.get store.nodes q)
              ∙ sym (get-changed_same (with_entries fs) o store.nodes q e)
          | inr n ↦
              get-changed_other (with_entries fs) o (changed (with_entries es) o store.nodes) q n
              ∙ get-changed_other (with_entries es) o store.nodes q n
              ∙ sym (get-changed_other (with_entries fs) o store.nodes q n)
        ])

rewritten-itself : (o : ℕ) (store : Store) → rewritten o (entries_of store o) store ≡ store
rewritten-itself o store = λ i. record store { nodes = same i }
  where
    known : (x : Option Node) → option_map (with_entries (entries_in x)) x ≡ x
    known None = refl
    known (Some n) = refl

    same : changed (with_entries (entries_of store o)) o store.nodes ≡ store.nodes
    same = same_map (changed (with_entries (entries_of store o)) o store.nodes) store.nodes
        (λ q. elim (cases_eq q o) [
          | inl e ↦
              get-changed_same (with_entries (entries_of store o)) o store.nodes q e
              ∙ ap (λ k. option_map (with_entries (entries_of store o)) (fin.get store.nodes k)) e
              ∙ known (fin.get store.nodes o)
              ∙ ap (fin.get store.nodes) (sym e)
          | inr n ↦ get-changed_other (with_entries (entries_of store o)) o store.nodes q n
        ])

pub with_saved-none : (store : Store) → with_saved [] store ≡ store
with_saved-none store = ap (λ es. rewritten 1 es store) (append_none (entries_of store 1)) ∙ rewritten-itself 1 store

pub live_saved : (store : Store) (keeps : List ℕ) (q : ℕ) → IsLive store q → IsLive (with_saved keeps store) q
live_saved store keeps q live = lives_on store (with_saved keeps store) (kinds-rewritten 1 (entries_of store 1 ++ items keeps) store) q live

pub with_saved-append : (store : Store) → IsLive store 1 → (keeps more : List ℕ) → with_saved more (with_saved keeps store) ≡ with_saved (keeps ++ more) store
with_saved-append store root keeps more =
    ap (λ es. rewritten 1 (es ++ items more) (with_saved keeps store)) (entries-rewritten store 1 (entries_of store 1 ++ items keeps) root)
    ∙ rewritten-rewritten 1 (entries_of store 1 ++ items keeps) ((entries_of store 1 ++ items keeps) ++ items more) store
    ∙ ap (λ es. rewritten 1 es store) (append_assoc (entries_of store 1) (items keeps) (items more) ∙ ap (λ l. entries_of store 1 ++ l) (sym (map-append (λ o. item (Ref o)) keeps more)))

pub objects-all_saved : (keeps : List ℕ) (store : Store) → IsLive store 1 → objects_of (with_saved keeps store) ≡ all_saved keeps (objects_of store)
objects-all_saved [] store root = ap objects_of (with_saved-none store)
objects-all_saved (o ∷ keeps) store root =
    ap objects_of (sym (with_saved-append store root (o ∷ []) keeps))
    ∙ objects-all_saved keeps (with_saved (o ∷ []) store) (live_saved store (o ∷ []) 1 root)
    ∙ ap (all_saved keeps) (objects-saved store o)

-- Whether an object is saved depends only on its class.
pub saved-alike : (script : Script) (flags : ℕ) (store new : Store) (f : ℕ → Node → Node) → ((s : ℕ) (n : Node) → (f s n).code ≡ n.code)
    → ((s : ℕ) (n : Node) → (f s n).class ≡ n.class) → new.nodes ≡ mapped f store.nodes
    → (o : ℕ) → is_saved_at script flags new o ≡ is_saved_at script flags store o
saved-alike script flags store new f code class is o =
    ap (λ l. has_flag flags save_all || is_some l)
    (ap (option_and_then (legacy_of script)) (object-at new o ∙ ap (option_map (object_from new.rows o)) (ap (λ m. fin.get m o) is ∙ get-mapped f store.nodes o))
    ∙ known (fin.get store.nodes o)
    ∙ sym (ap (option_and_then (legacy_of script)) (object-at store o)))
  where
    known : (x : Option Node) → option_and_then (legacy_of script) (option_map (object_from new.rows o) (option_map (f o) x))
        ≡ option_and_then (legacy_of script) (option_map (object_from store.rows o) x)
    known None = refl
    known (Some n) = λ i. legacy_of script (record (object_from store.rows o n) { code = code o n i; class = class o n i })

pub saved-rewritten : (script : Script) (flags : ℕ) (store : Store) (es : List Entry) (o : ℕ) → is_saved_at script flags (rewritten 1 es store) o ≡ is_saved_at script flags store o
saved-rewritten script flags store es o =
    saved-alike script flags store (rewritten 1 es store) (λ s x. if s == 1 then with_entries es x else x) (λ s n. code (s == 1) n) (λ s n. class (s == 1) n) refl o
  where
    code : (b : Bool) (n : Node) → (if b then with_entries es n else n).code ≡ n.code
    code true n = refl
    code false n = refl

    class : (b : Bool) (n : Node) → (if b then with_entries es n else n).class ≡ n.class
    class true n = refl
    class false n = refl

-- The walk over the uncollectable objects: those that it passed are saved if they are to be.
pub record Saving (script : Script) (flags : ℕ) (old now : Store) (cursor : Option ℕ) : Type 0 where
  pub front : List ℕ
  pub back : List ℕ
  pub at : Walked (list_at old Legacy) cursor front back
  pub is : now ≡ with_saved (filter (is_saved_at script flags old) front) old

pub saving_first : (script : Script) (flags : ℕ) (store : Store) (cursor : Option ℕ) → cursor ≡ slice_get (list_at store Legacy) 0 → Saving script flags store store cursor
saving_first script flags store cursor is = record { front = []; back = list_at store Legacy; at = record { parts = refl; at = is }; is = sym (with_saved-none store) }

pub saving_done : (script : Script) (flags : ℕ) (old now : Store) (cursor : Option ℕ) → Saving script flags old now cursor → cursor ≡ None → now ≡ with_saved (kept_aside script flags old) old
saving_done script flags old now cursor so none = so.is ∙ ap (λ (xs : List ℕ). with_saved (filter (is_saved_at script flags old) xs) old)
    (sym (walk_over (list_at old Legacy) cursor so.front so.back so.at none))

module _ (script : Script) (flags : ℕ) (old now : Store) (cursor : Option ℕ) (o : ℕ) (listed : IsListed old) (root : IsLive old 1) (apart : IsApartUnseen old)
    (so : Saving script flags old now cursor) (is : cursor ≡ Some o) where
  here : Walked (list_at old Legacy) (Some o) so.front so.back
  here = walk_at (list_at old Legacy) cursor o so.front so.back so.at is

  there : IsLive old o × (place_of old o ≡ Legacy)
  there = where_is old listed Legacy o (stands_there (list_at old Legacy) o so.front so.back here)

  abbrev kept : List ℕ
  kept = filter (is_saved_at script flags old) so.front

  pub saving_live : IsLive now o
  saving_live = subst (λ (s : Store). IsLive s o) (sym so.is) (live_saved old kept o there.0)

  pub saving_other : o ≢ 1
  saving_other e = not_garbage old o Legacy apart.0.garbage there.1 (λ d. cc) (sym e)

  pub saving_new : occurrences o (references (entries_of now 1)) ≡ 0
  saving_new =
      let stands = standing_at (list_at old Legacy) o so.front so.back here in
      let before = once_before (list_at old Legacy) so.front stands.rest o (once_at old listed Legacy o) stands.here in
      let named : occurrences o (references (entries_of now 1)) ≡ occurrences o (references (entries_of old 1 ++ items kept)) =
      ap (λ (s : Store). occurrences o (references (entries_of s 1))) so.is ∙ ap (λ es. occurrences o (references es))
      (entries-rewritten old 1 (entries_of old 1 ++ items kept) root) in
      let none : occurrences o (references (entries_of old 1)) ≡ 0 = absent (references (entries_of old 1)) o (apart.0.legacy o (stands_there (list_at old Legacy) o so.front so.back here)) in
      omega (arith, named, none, references-append o (entries_of old 1) (items kept), references-items o kept, occurrences-filter o (is_saved_at script flags old) so.front, before.0)

  module _ (next : Option ℕ) (comes : next ≡ following o (list_at now (place_of now o))) where
    passed : (rest : List ℕ) × (so.back ≡ o ∷ rest) × Walked (list_at old Legacy) next (so.front ++ o ∷ []) rest
    passed =
        walk_passes (list_at old Legacy) o next so.front so.back here
        (comes_next old listed Legacy o next (comes ∙ ap (λ (s : Store). following o (list_at s (place_of s o))) so.is
        ∙ ap (λ (p : Place). following o (list_at old p)) (place-rewritten old 1 (entries_of old 1 ++ items kept) o)))

    same_list : list_at now Legacy ≡ list_at old Legacy
    same_list = ap (λ (s : Store). list_at s Legacy) so.is

    pub saving_shorter : (after : Store) → list_at after Legacy ≡ list_at now Legacy → length (ahead next (list_at after Legacy)) < length (ahead cursor (list_at now Legacy))
    saving_shorter after same =
        let now_left : length (ahead cursor (list_at now Legacy)) ≡ length so.back = ap length (ap (ahead cursor) same_list ∙ ahead_is (list_at old Legacy)
        cursor so.front so.back (once_at old listed Legacy) so.at) in
        let then_left : length (ahead next (list_at after Legacy)) ≡ length passed.0 = ap length (ap (ahead next) (same ∙ same_list)
        ∙ ahead_is (list_at old Legacy) next (so.front ++ o ∷ []) passed.0 (once_at old listed Legacy) passed.2) in
        let parts : length so.back ≡ length (o ∷ passed.0) = ap length passed.1 in
        omega (arith, now_left, then_left, parts)

    by_test : (b : Bool) → is_saved_at script flags now o ≡ b → filter (is_saved_at script flags old) (so.front ++ o ∷ []) ≡ kept ++ cond b (o ∷ []) []
    by_test b test =
        filter-append (is_saved_at script flags old) so.front (o ∷ [])
        ∙ ap (λ c. kept ++ cond c (o ∷ []) []) (sym (ap (λ (s : Store). is_saved_at script flags s o) so.is ∙ saved-rewritten script flags old (entries_of old 1 ++ items kept) o) ∙ test)

    pub saving_one : is_saved_at script flags now o ≡ true → (after : Store) → after ≡ with_saved (o ∷ []) now → Saving script flags old after next
    saving_one test after saved = record {
      front = so.front ++ o ∷ [];
      back = passed.0;
      at = passed.2;
      is = saved ∙ ap (with_saved (o ∷ [])) so.is ∙ with_saved-append old root kept (o ∷ []) ∙ ap (λ (xs : List ℕ). with_saved xs old) (sym (by_test true test));
    }

    pub saving_none : is_saved_at script flags now o ≡ false → Saving script flags old now next
    saving_none test = record {
      front = so.front ++ o ∷ [];
      back = passed.0;
      at = passed.2;
      is = so.is ∙ ap (λ (xs : List ℕ). with_saved xs old) (sym (by_test false test ∙ append_none kept));
    }
