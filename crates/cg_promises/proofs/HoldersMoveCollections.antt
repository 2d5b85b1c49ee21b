-- The steps of a collection: unheld objects are dying.
use Rattle.std.proofs.Common.{◌≡◌, ◌≢◌, refl, sym, ◌∙◌, subst, ℕ, ◌<◌, ◌⊎◌, false, inl, inr, List, [], ◌∷◌, ◌++◌, Option, Some, None}
use Rattle.std.specs.Prelude.{◌==◌}
use Rattle.std.proofs.lemmas.Bool.{eqb-true}
use Rattle.cg_value.specs.declared.Entry.{Entry}
use Rattle.cg_value.specs.declared.Val.TheVariants.{Ref}
use Rattle.cg_value.specs.declared.KindCode.TheVariants.{List as ListKind, Tuple, Weak}
use Rattle.cg_script.specs.declared.Script.{Script}
use Rattle.cg_graph.specs.Member.{Includes}
use Rattle.cg_graph.specs.Value.{entry_references, item, last_entry, references, without_last}
use Rattle.cg_graph.specs.Object.{Object, change, entries_of, serials, with_entries}
use Rattle.cg_graph.proofs.Members.{either, Includes-map, Includes-map_cases}
use Rattle.cg_machine.specs.declared.event.Event.{Event}
use Rattle.cg_machine.specs.World.{World, Activity, Releasing, Collecting, Collection, CollectPhase, Turn, AfterTurn}
use Rattle.cg_machine.specs.Holdings.{collect_holds, is_death_of}
use Rattle.cg_machine.specs.Collect.{collection_at, empties, PhaseStep}
use Rattle.cg_represents.proofs.Serials.{Rises}
use Rattle.cg_represents.proofs.Moves.{AtMostOne, appended_goes}
use Rattle.cg_laws.proofs.Advances.{Advance, Plainly, WithFrame, HasChanged, NothingChanges, ChangesEach, LosesEntries, GetsEntry, LosesObject, Followed, KeepsEntries, Owns, OfTurn, asides, asides_last, changed_origin, Continues, CollectionGoesOn, HoldsNone, HoldsOn, Tops, TopEnds, TopGoesOn, GivesReferences}
use Rattle.cg_laws.proofs.Advancing.{phase_advances}
use Rattle.cg_laws.proofs.Invariants.{on}
use Rattle.cg_promises.proofs.FinalizerOnce.{Marks}
use Rattle.cg_promises.proofs.HoldersMove.{IsMinded, Keeps, Minded, end_minded, give_minded, keeps_same, keeps_trans, starts_minded, test_keeps, turn_minded}
use Rattle.cg_promises.proofs.LastEntryMoves.{shortened_keeps}

-- the garbage list gets entries, and is a list
abbrev IsList : List Object → Type 0
IsList objects = (x : Object) → Includes objects x → x.serial ≡ 1 → x.code ≡ ListKind

marks : (top : Activity) (tops : List Activity) (lines : List Event) (x y : Object) → KeepsEntries top tops lines x y → Marks x y
marks top tops lines x y k = record { serial = k.later.serial; code = k.later.code; class = k.later.class; finalized = k.finalized }

-- the objects change; no entries are taken
changed_keeps : (top : Activity) (tops : List Activity) (lines : List Event) → ((s : ℕ) → ¬ Owns top s) → (before after : List Object)
    → HasChanged top tops lines before after → IsList before → Keeps before after []
changed_keeps top tops lines none before after (NothingChanges objects) list = keeps_same objects
changed_keeps top tops lines none before after (ChangesEach f test objects aside) list = record {
  old = record {
    origin = λ y m. let x = asides top tops lines f test objects aside y m in (x.0, x.1, marks top tops lines x.0 y x.2);
    lasts = λ n m.
        let x = Includes-map_cases (λ (z : Object). z.serial) objects n m in
        let y = asides_last top tops lines f test objects aside x.0 x.1 in
        subst (Includes (serials after)) (y.2.later.serial ∙ x.2) (Includes-map (λ (z : Object). z.serial) after y.0 y.1);
  };
  entries = λ x m n k. let y = asides_last top tops lines f test objects aside x m in inl (y.0, y.1, subst (λ es. Includes (references es) n) (sym y.2.entries) k);
  single = λ s y m. let x = asides top tops lines f test objects aside y m in (
    λ e. subst AtMostOne (sym x.2.entries) ((s x.0 x.1).0 (sym x.2.later.code ∙ e)),
    λ e n k. subst (λ i. n < i) (sym x.2.later.serial) ((s x.0 x.1).1 (sym x.2.later.code ∙ e) n (subst (λ es. Includes (references es) n) x.2.entries k)),
  );
}
changed_keeps top tops lines none before after (LosesEntries es s objects owns fewer) list = absurd (none s owns)
changed_keeps top tops lines none before after (GetsEntry o objects is) list = test_keeps (λ x. with_entries (x.entries ++ item (Ref o) ∷ []) x) (λ x. x.serial == 1) objects []
    (λ x. record { serial = refl; code = refl; class = refl; finalized = λ e. e })
    (λ x m t n k. appended_goes x.entries (item (Ref o)) n k)
    (λ x m t s. (λ c. absurd (let no : ListKind ≡ Weak = sym (list x m (eqb-true x.serial 1 t)) ∙ c in cc), λ c. absurd (let no : ListKind ≡ Tuple = sym (list x m (eqb-true x.serial 1 t)) ∙ c in cc)))
changed_keeps top tops lines none before after (LosesObject o objects owns line) list = absurd (none o owns)
changed_keeps top tops lines none before after (Followed first now last h k) list =
    keeps_trans first now last (changed_keeps top tops lines none first now h list) (changed_keeps top tops lines none now last k
    (λ y m e. let x = changed_origin top tops lines first now h y m in x.2.code ∙ list x.0 x.1 (sym x.2.serial ∙ e)))

-- a collection takes entries only in turns
owns_none : (c : Collection) → ((o : ℕ) → c.phase ≢ Turn o) → (top : Activity) → top ≡ Collecting c → (s : ℕ) → ¬ Owns top s
owns_none c other top is s (OfTurn b o turn) = let same : b ≡ c = cc in other o (subst (λ (z : Collection). z.phase ≡ Turn o) same turn)
owns_none c other top is s one = cc

no_death : (before after : List Object) (c : Collection) (top a : Activity) → Continues before after top a → top ≡ Collecting c → (n : ℕ) → false ≡ is_death_of n a
no_death before after c top a (CollectionGoesOn b d same begun early) is n = refl
no_death before after c top a other is n = absurd (cc)

module _ (script : Script) (k : ℕ) (c : Collection) (below : List Activity) (v : World) (rises : Rises 1 v.next_serial v.objects) (list : IsList v.objects) where
  abbrev at : CollectPhase → World
  at phase = collection_at c phase below v

  abbrev collecting : Collection → CollectPhase → Activity
  collecting d phase = Collecting (record d { phase = phase })

  same : Keeps v.objects v.objects []
  same = keeps_same v.objects

  gives : (references : List ℕ) (phase next : CollectPhase) → ((n : ℕ) → Includes (collect_holds phase) n → Includes references n
      ⊎ Includes (collect_holds next) n) → IsMinded k (at phase) → Minded k v.objects v.names (Releasing references ∷ collecting c next ∷ below)
  gives references phase next held h = give_minded k references (collecting c phase) (collecting c next) below v.objects v.objects v.names [] same held (λ n m. absurd m) (λ n. refl) h

  empties_minded : (o : ℕ) (m : Option Entry) → last_entry (entries_of v.objects o) ≡ m → IsMinded k (at (Turn o)) → IsMinded k (empties c o below (at (Turn o)) m).1
  empties_minded o None e h = gives (o ∷ []) (Turn o) (AfterTurn o) (λ n m. inl m) h
  empties_minded o (Some entry) e h = give_minded k (entry_references entry) (collecting c (Turn o)) (collecting c (Turn o)) below v.objects
      (change (with_entries (without_last (entries_of v.objects o))) o v.objects) v.names (entry_references entry)
      (shortened_keeps 1 v.next_serial v.objects o entry rises e) (λ n m. inr m) (λ n m. inl m) (λ n. refl) h

  tops_minded : (objects : List Object) (d : Collection) (top : Activity) (tops : List Activity) → Tops v.objects objects top tops → top ≡ Collecting d
      → Keeps v.objects objects [] → IsMinded k (on (Collecting d) below v) → Minded k objects v.names (tops ++ below)
  tops_minded objects d top tops (TopEnds a gone) is keeps h = end_minded k (Collecting d) below v.objects objects v.names keeps (subst HoldsNone is gone) (λ n. refl) h
  tops_minded objects d top tops (TopGoesOn t a g held) is keeps h =
      turn_minded k (Collecting d) a below v.objects objects v.names [] keeps (
        λ n m. either (subst (λ z. HoldsOn [] z a) is held n m) (λ none. absurd none)
            (λ i. i),
        λ n m. absurd m,
        no_death v.objects objects d t a g is,
      ) h
  tops_minded objects d top tops (GivesReferences t a references few g held) is keeps h =
      give_minded k references (Collecting d) a below v.objects objects v.names [] keeps (λ n m. subst (λ z. HoldsOn references z a) is held n m)
      (λ n m. absurd m) (no_death v.objects objects d t a g is) h
  tops_minded objects d top tops other is keeps h = absurd (cc)

  advance_minded : (d : Collection) → ((o : ℕ) → d.phase ≢ Turn o) → (lines : List Event) (after : World) → Advance script v (Collecting d) below lines after
      → IsMinded k (on (Collecting d) below v) → IsMinded k after
  advance_minded d other lines after (Plainly tops objects numbers ls t g n shown) h = tops_minded objects d (Collecting d) tops t refl
      (changed_keeps (Collecting d) tops ls (owns_none d other (Collecting d) refl) v.objects objects g list) h
  advance_minded d other lines after (WithFrame spec a objects s g held m) h = starts_minded k script spec (record v { objects = objects; stack = a ∷ below })
      (tops_minded objects d (Collecting d) (a ∷ []) (TopGoesOn (Collecting d) a g held) refl (changed_keeps (Collecting d) [] [] (owns_none d other (Collecting d) refl) v.objects objects m list) h)

  pub phase_minded : (phase : CollectPhase) (events : List Event) (after : World) → PhaseStep script c phase below (at phase) events after → IsMinded k (at phase) → IsMinded k after
  phase_minded (Turn o) events after step h = subst (IsMinded k) (sym step.1) (empties_minded o (last_entry (entries_of v.objects o)) refl h)
  phase_minded phase events after step h = advance_minded (record c { phase = phase }) (λ o e. cc) events after (phase_advances script c below v phase events after step) h
