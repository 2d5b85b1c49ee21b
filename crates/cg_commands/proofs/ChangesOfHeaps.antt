-- Changes of a heap, in the world that it represents.
use Rattle.std.proofs.Common.{◌≡◌, refl, sym, ◌∙◌, ap, subst, ℕ, ◌+◌, ◌<◌, Bool, List, [], ◌∷◌, ◌++◌, Option, Some, None, Result, Ok, option_to_list, set, arith}
use Rattle.std.specs.Prelude.{flat_map, option_map}
use Rattle.std.proofs.lemmas.List.{get_or-set_other}
use Rattle.std.specs.FinMap as fin
use Rattle.cg_value.specs.declared.Val.{Val}
use Rattle.cg_value.specs.declared.Entry.{Entry}
use Rattle.cg_value.specs.declared.Place.TheVariants.{Untracked, Gen, Pend}
use Rattle.cg_graph.specs.Value.{entry_references}
use Rattle.cg_graph.specs.Holdings.{occurrences}
use Rattle.cg_graph.specs.Object.{Object, change, with_entries as object_with_entries, with_place as object_with_place}
use Rattle.cg_graph.specs.Places.{place_number, list_of, move_between, leaves_list}
use Rattle.cg_graph.specs.Store.{Store, Node, IsLive, objects_of, object_from, list_at, place_of}
use Rattle.cg_graph.specs.Changes.{held, more, named, rewritten, with_entries, moved, with_place}
use Rattle.cg_graph.proofs.Maps.{changed-insert, same_map, get-mapped}
use Rattle.cg_graph.proofs.Objects.{objects-same, objects-changed, occurrences-append}
use Rattle.cg_heap.proofs.HoldLemmas.{outside-held, outside-rewritten, outside-moved}
use Rattle.cg_machine.specs.World.{World, Releasing, push, with_change}
use Rattle.cg_machine.specs.Holdings.{holds}
use Rattle.cg_machine.specs.declared.event.Event.{Event}
use Rattle.cg_machine.specs.Effects.{Effect, Changes, bound}
use Rattle.cg_represents.specs.Represents.{Represents, CollectionWaits}
use Rattle.cg_commands.specs.declared.done.Done.TheVariants.{Changed}
use Rattle.cg_commands.specs.Answers.{AnswersOnHeap}
use Rattle.cg_represents.proofs.Representing.{matches, represents, pushed}

-- no references hold nothing
pub held-none : (store : Store) → held [] store ≡ store
held-none store = λ i. record store { nodes = same_map (held [] store).nodes store.nodes (λ q. get-mapped (λ s n. more 0 n) store.nodes q ∙ known (fin.get store.nodes q)) i }
  where
    known : (x : Option Node) → option_map (more 0) x ≡ x
    known None = refl
    known (Some n) = let same : n.outside + 0 ≡ n.outside = omega arith in ap (λ k. Some (record n { outside = k })) same

module _ (store : Store) (w : World) (r : Represents store w) where
  -- references that the heap now holds from outside are a release on top
  pub released : (refs : List ℕ) → ((s : ℕ) → 0 < occurrences s refs → IsLive store s) → Represents (held refs store) (push (Releasing refs) w)
  released refs live =
      represents (held refs store) (push (Releasing refs) w)
      (pushed (held refs store) w refs w.stack (record {
        objects = objects-same store (λ s n. more (occurrences s refs) n) (λ s n. refl) ∙ r.objects;
        next_serial = r.next_serial;
        names = r.names;
        deaths = r.deaths;
        no_others = r.no_others;
        collection = r.collection;
      }))
      (λ s. omega (arith, outside-held refs store s (live s), r.outside s, occurrences-append s refs (flat_map holds w.stack)))

  -- with nothing to give up, an empty release is on top
  pub released-none : Represents store (push (Releasing []) w)
  released-none = represents store (push (Releasing []) w) (pushed store w [] w.stack (matches store w r)) r.outside

  pub renamed : (i : ℕ) (v : Option Val) → Represents (named i v store) (bound w i v)
  renamed i v = record {
    objects = r.objects;
    next_serial = r.next_serial;
    names = ap (λ ns. set ns i v) r.names;
    outside = r.outside;
    deaths = r.deaths;
    no_others = r.no_others;
    collection = r.collection;
  }

  pub refilled : (o : ℕ) (es : List Entry) → Represents (rewritten o es store) (with_change (object_with_entries es) o w)
  refilled o es = record {
    objects = objects-changed store o (with_entries es) (object_with_entries es) (λ s n. refl) ∙ ap (change (object_with_entries es) o) r.objects;
    next_serial = r.next_serial;
    names = r.names;
    outside = λ s. outside-rewritten o es store s ∙ r.outside s;
    deaths = r.deaths;
    no_others = r.no_others;
    collection = r.collection;
  }

  -- an untracked object that becomes tracked
  pub tracked : (o : ℕ) → place_of store o ≡ Untracked → Represents (moved o (Gen 0) store) (with_change (object_with_place (Gen 0)) o w)
  tracked o was = record {
    objects = objects-changed store o (with_place (Gen 0)) (object_with_place (Gen 0)) (λ s n. refl) ∙ ap (change (object_with_place (Gen 0)) o) r.objects;
    next_serial = r.next_serial;
    names = r.names;
    outside = λ s. outside-moved o (Gen 0) store s ∙ r.outside s;
    deaths = r.deaths;
    no_others = r.no_others;
    collection = λ c i. subst (λ l. CollectionWaits c.phase l) (sym pending) (r.collection c i);
  }
    where
      others : (lists : List (List ℕ)) → list_of (move_between lists o 0 7) 6 ≡ list_of lists 6
      others lists =
          get_or-set_other (leaves_list lists o 0) 7 6 (list_of (leaves_list lists o 0) 7 ++ o ∷ []) [] (omega arith)
          ∙ get_or-set_other lists 0 6 _ [] (omega arith)

      pending : list_at (moved o (Gen 0) store) Pend ≡ list_at store Pend
      pending = ap (λ p. list_of (move_between store.lists o (place_number p) 7) 6) was ∙ others store.lists

-- Two changes of an object are equal if they do the same to it.
pub change-alike : (store : Store) (o : ℕ) (n : Node) (g h : Node → Node) (f e : Object → Object) → ((s : ℕ) (x : Node) → object_from store.rows s (g x)
    ≡ f (object_from store.rows s x)) → ((s : ℕ) (x : Node) → object_from store.rows s (h x) ≡ e (object_from store.rows s x))
    → fin.get store.nodes o ≡ Some n → g n ≡ h n → change f o (objects_of store) ≡ change e o (objects_of store)
change-alike store o n g h f e first second found same =
    sym (objects-changed store o g f first)
    ∙ ap (λ m. objects_of (record store { nodes = m })) (changed-insert g o store.nodes n found ∙ ap (λ x. fin.insert store.nodes o x) same ∙ sym (changed-insert h o store.nodes n found))
    ∙ objects-changed store o h e second

-- A change that gives up references: the effect is known, and the references are now held from outside.
pub gives_up : (effect : Result Effect ℕ) (line : Option Event) (e : Entry) (wants : Bool) (refs : List ℕ) (mid : Store) (after : World) (old new : Store)
    → effect ≡ Ok (Changes wants (option_to_list line) refs after) → entry_references e ≡ refs → new ≡ held refs mid → Represents mid after
    → ((s : ℕ) → 0 < occurrences s refs → IsLive mid s)
    → AnswersOnHeap (Ok (Changed line e)) effect old new
gives_up effect line e wants refs mid after old new is entry now stands live = record {
  wants_memory = wants;
  after = after;
  is = is ∙ ap (λ rs. Ok (Changes wants (option_to_list line) rs after)) (sym entry);
  represents = subst (λ st. Represents st (push (Releasing (entry_references e)) after)) (sym now)
      (subst (λ rs. Represents (held refs mid) (push (Releasing rs) after)) (sym entry) (released mid after stands refs live));
}

-- one that gives up nothing
pub gives_nothing : (effect : Result Effect ℕ) (line : Option Event) (e : Entry) (wants : Bool) (after : World) (old new : Store) → effect
    ≡ Ok (Changes wants (option_to_list line) [] after) → entry_references e ≡ [] → Represents new after → AnswersOnHeap (Ok (Changed line e)) effect old new
gives_nothing effect line e wants after old new is entry stands = record {
  wants_memory = wants;
  after = after;
  is = is ∙ ap (λ rs. Ok (Changes wants (option_to_list line) rs after)) (sym entry);
  represents = subst (λ rs. Represents new (push (Releasing rs) after)) (sym entry) (released-none new after stands);
}
