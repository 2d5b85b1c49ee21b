-- When a waiting weak reference's callback is removed and called, the heap does the machine's step.
use Rattle.std.proofs.Common.{◌≡◌, refl, sym, ◌∙◌, ap, subst, ℕ, ◌<◌, Bool, true, false, inl, List, [], ◌∷◌, ◌++◌, Option, Some, None, IsSome, arith}
use Rattle.std.specs.Prelude.{◌==◌, IfSome, flat_map, if◌then◌else◌, unwrap_or, option_map, option_and_then, slice_get}
use Rattle.std.proofs.lemmas.Bool.{eqb-true}
use Rattle.std.specs.FinMap as fin
use Rattle.cg_value.specs.declared.Entry.{Entry}
use Rattle.cg_value.specs.declared.Val.TheVariants.{Ref}
use Rattle.cg_script.specs.declared.Script.{Script}
use Rattle.cg_graph.specs.Member.{Includes}
use Rattle.cg_graph.specs.Holdings.{occurrences}
use Rattle.cg_graph.specs.Value.{item, references}
use Rattle.cg_graph.specs.Object.{Object, object_at, change, with_entries as object_entries}
use Rattle.cg_graph.specs.Rows.{Row, waits_with, waiting_in, without_row}
use Rattle.cg_graph.specs.Store.{Store, Node, objects_of, object_from, outside_of, inner, IsLive, entries_of, entries_in, waiting_for}
use Rattle.cg_graph.specs.Changes.{held, more, rewritten, with_entries}
use Rattle.cg_graph.proofs.Maps.{get-mapped}
use Rattle.cg_graph.proofs.Members.{true_and}
use Rattle.cg_graph.proofs.Objects.{object-at, objects-same, objects-changed, occurrences-append}
use Rattle.cg_machine.specs.declared.event.FrameSort.TheVariants.{Callback}
use Rattle.cg_machine.specs.declared.event.FrameSpec.{FrameSpec}
use Rattle.cg_machine.specs.World.{World, Activity, Calling, AfterCall, LegacyFinalizer, with_change}
use Rattle.cg_machine.specs.Holdings.{holds}
use Rattle.cg_machine.specs.Frame.{start_frame, procedure_of}
use Rattle.cg_machine.specs.Weak.{callback_of, callback_in}
use Rattle.cg_machine.specs.Dying.{death_at, call_one, call_back}
use Rattle.cg_heap.specs.Weak.{AreRows, forgotten_weak}
use Rattle.cg_heap.proofs.HoldLemmas.{entries_hold, outside-held, outside-rewritten}
use Rattle.cg_heap.proofs.CallerLemmas.{lives_on, kinds-rewritten}
use Rattle.cg_death.specs.declared.phase.Phase.TheVariants as phase_of
use Rattle.cg_death.specs.Activities.{death_of}
use Rattle.cg_death.specs.Answers.{DeathStands, GaveFrame, TurnSteps}
use Rattle.cg_death.proofs.TakingTurns.{going_on, running, turn_at}
use Rattle.cg_death.proofs.Worlds.{gave_frame, matches-alike}
use Rattle.cg_represents.proofs.Representing.{Matches, matches, represents}
use Rattle.cg_represents.proofs.Lists.{occurrences-cons}
use Rattle.cg_death.proofs.Turns.{here, steps_to, only_phase}
use Rattle.cg_death.proofs.RowSplits.{head_in, row_of_one, split_at, referent-forgotten, waiting-other, waiting-first, left-in}
use Rattle.cg_death.proofs.WeakObjects.{objects-alike}
use Rattle.cg_death.proofs.Clearing.{none_first, matches-rows}

-- the callback of a weak reference, by its entries in the heap
pub callback-at : (store : Store) (q : ℕ) → callback_of (objects_of store) q ≡ callback_in (entries_of store q)
callback-at store q = ap (option_and_then (λ (x : Object). callback_in x.entries)) (object-at store q) ∙ known (fin.get store.nodes q)
  where
    known : (x : Option Node) → option_and_then (λ (x : Object). callback_in x.entries) (option_map (object_from store.rows q) x) ≡ callback_in (entries_in x)
    known None = refl
    known (Some n) = refl

-- the procedure of a function, by the number of its node
abbrev pub class_in : Option Node → Option ℕ
class_in None = None
class_in (Some n) = n.class

procedure-at : (store : Store) (f : ℕ) → option_and_then (λ (x : Object). x.class) (object_at (objects_of store) f) ≡ class_in (fin.get store.nodes f)
procedure-at store f = ap (option_and_then (λ (x : Object). x.class)) (object-at store f) ∙ known (fin.get store.nodes f)
  where
    known : (x : Option Node) → option_and_then (λ (x : Object). x.class) (option_map (object_from store.rows f) x) ≡ class_in x
    known None = refl
    known (Some n) = refl

-- the heap reports it
pub procedure-told : (store : Store) (f : ℕ) (class : Option ℕ) → IsLive store f → IfSome (fin.get store.nodes f) (λ n. class ≡ n.class) → class
    ≡ option_and_then (λ (x : Object). x.class) (object_at (objects_of store) f)
procedure-told store f class live is = known (fin.get store.nodes f) live is ∙ sym (procedure-at store f)
  where
    known : (x : Option Node) → IsSome x → IfSome x (λ n. class ≡ n.class) → class ≡ class_in x
    known None h e = cc
    known (Some n) h e = e

-- it is the same after the callback is removed
pub procedure-after : (store : Store) (weak f : ℕ) (entries : List Entry) (refs : List ℕ) → option_and_then (λ (x : Object). x.class)
    (object_at (objects_of (forgotten_weak weak (held refs (rewritten weak entries store)))) f) ≡ class_in (fin.get store.nodes f)
procedure-after store weak f entries refs =
    procedure-at (forgotten_weak weak (held refs (rewritten weak entries store))) f
    ∙ ap class_in (get-mapped (λ s n. more (occurrences s refs) n) (rewritten weak entries store).nodes f)
    ∙ kept (occurrences f refs) (fin.get (rewritten weak entries store).nodes f)
    ∙ ap class_in (get-mapped (λ s n. if s == weak then with_entries entries n else n) store.nodes f)
    ∙ changed (f == weak) (fin.get store.nodes f)
  where
    kept : (k : ℕ) (x : Option Node) → class_in (option_map (more k) x) ≡ class_in x
    kept k None = refl
    kept k (Some n) = refl

    changed : (b : Bool) (x : Option Node) → class_in (option_map (λ n. if b then with_entries entries n else n) x) ≡ class_in x
    changed b None = refl
    changed true (Some n) = refl
    changed false (Some n) = refl

-- none waits any more
pub turn-all_called : (script : Script) (store : Store) (o : ℕ) → slice_get (waiting_in store.rows o) 0 ≡ None → TurnSteps script store o phase_of.Calling store (going_on phase_of.LegacyFinalizer)
turn-all_called script store o none =
    let ws : List ℕ = waiting_for store o in
    let empty : ws ≡ [] = none_first ws none in
    turn_at script store o phase_of.Calling store (going_on phase_of.LegacyFinalizer)
    (λ v below s.
    only_phase store v o (Calling ws) below script s LegacyFinalizer
    (ap (call_one script o below (here store v o (Calling ws) below)) empty)
    (sym empty) (λ q. ap (occurrences q) (sym empty)))

-- the newest waiting one is called, by its row
module _ (script : Script) (store : Store) (r : Row) (ok : AreRows store) (inside : Includes store.rows r) (waits : waits_with r.referent r ≡ true)
    (first : slice_get (waiting_in store.rows r.referent) 0 ≡ Some r.weak)
    (sound : (q : ℕ) → 0 < inner store q → IsLive store q) (f : ℕ) (callback : entries_of store r.weak ≡ item (Ref f) ∷ []) where
  abbrev o : ℕ
  o = r.referent

  abbrev ws : List ℕ
  ws = waiting_for store o

  abbrev rest : List ℕ
  rest = waiting_in (without_row r.weak store.rows) o

  ws-are : ws ≡ r.weak ∷ rest
  ws-are = waiting-first store.rows r (split_at store.rows r ok.rise inside) waits first

  abbrev taken_out : Store
  taken_out = held (f ∷ []) (rewritten r.weak [] store)

  abbrev called : Store
  called = forgotten_weak r.weak taken_out

  lives : (q : ℕ) → 0 < occurrences q (f ∷ []) → IsLive (rewritten r.weak [] store) q
  lives q there =
      let here_it_is : occurrences q (references (entries_of store r.weak)) ≡ occurrences q (f ∷ []) = ap (λ es. occurrences q (references es)) callback in
      lives_on store (rewritten r.weak [] store) (kinds-rewritten r.weak [] store) q (sound q (omega (arith, entries_hold store r.weak q, here_it_is, there)))

  module _ (v : World) (below : List Activity) (s : DeathStands store (here store v o (Calling ws) below) (death_of o (Calling ws) ∷ below)) where
    abbrev w : World
    w = here store v o (Calling ws) below

    abbrev emptied : World
    emptied = record v { objects = change (object_entries []) r.weak v.objects }

    abbrev before : World
    before = death_at o (AfterCall r.weak f rest) below (with_change (object_entries []) r.weak w)

    abbrev spec : FrameSpec
    spec = record { sort = Callback; proc = unwrap_or (class_in (fin.get store.nodes f)) 0; subject = r.weak; func = Some f }

    spec-is : record { sort = Callback; proc = procedure_of w f; subject = r.weak; func = Some f } ≡ spec
    spec-is = ap (λ c. record { sort = Callback; proc = unwrap_or c 0; subject = r.weak; func = Some f })
        (ap (λ os. option_and_then (λ (x : Object). x.class) (object_at os f)) (sym s.represents.objects) ∙ procedure-at store f)

    objects-taken : objects_of taken_out ≡ emptied.objects
    objects-taken =
        objects-same (rewritten r.weak [] store) (λ q n. more (occurrences q (f ∷ [])) n) (λ q n. refl)
        ∙ objects-changed store r.weak (with_entries []) (object_entries []) (λ q n. refl)
        ∙ ap (change (object_entries []) r.weak) s.represents.objects

    matches-taken : Matches taken_out (here taken_out emptied o (Calling ws) below)
    matches-taken = matches-alike store taken_out.nodes w emptied.objects (matches store w s.represents) objects-taken

    matches-called : Matches called before
    matches-called =
        let split = split_at store.rows r ok.rise inside in
        matches-rows taken_out emptied o (Calling ws) (AfterCall r.weak f rest) below (without_row r.weak store.rows) matches-taken (s.once o)
        refl
        (λ p differs. (waiting-other store.rows r split p (λ e. differs (sym e))).0)
        (λ x i waiting. inl (x, left-in r.weak store.rows x i, waiting, refl))
        before
        (objects-alike taken_out (without_row r.weak store.rows) (referent-forgotten store.rows r split (true_and (r.referent == r.referent) r.waits waits).1) ∙ objects-taken)
        refl refl

    outside-called : (q : ℕ) → outside_of called q ≡ occurrences q ((f ∷ r.weak ∷ rest) ++ flat_map holds below)
    outside-called q =
        let was : occurrences q ws ≡ occurrences q (r.weak ∷ rest) = ap (occurrences q) ws-are in
        omega (
          arith,
          was,
          s.represents.outside q,
          outside-held (f ∷ []) (rewritten r.weak [] store) q (lives q),
          outside-rewritten r.weak [] store q,
          occurrences-append q ws (flat_map holds below),
          occurrences-append q (f ∷ r.weak ∷ rest) (flat_map holds below),
          occurrences-cons q f (r.weak ∷ rest),
          occurrences-cons q f [],
        )

    callback-is : callback_of w.objects r.weak ≡ Some f
    callback-is = ap (λ os. callback_of os r.weak) (sym s.represents.objects) ∙ callback-at store r.weak ∙ ap callback_in callback

    calls : GaveFrame script w spec called (death_of o (AfterCall r.weak f rest) ∷ below)
    calls = gave_frame spec before
        (steps_to store v o (Calling ws) below script s (start_frame script spec before).0 (start_frame script spec before).1
        (ap (call_one script o below w) ws-are
        ∙ ap (λ c. call_back script o r.weak (unwrap_or c 0) rest below w) callback-is
        ∙ ap (λ sp. start_frame script sp before) spec-is))
        (represents called before matches-called outside-called) refl (refl, refl, refl)

  row-called : TurnSteps script store o phase_of.Calling called (running (phase_of.AfterCall r.weak f)
      (record { sort = Callback; proc = unwrap_or (class_in (fin.get store.nodes f)) 0; subject = r.weak; func = Some f }))
  row-called =
      turn_at script store o phase_of.Calling called (running (phase_of.AfterCall r.weak f)
      (record { sort = Callback; proc = unwrap_or (class_in (fin.get store.nodes f)) 0; subject = r.weak; func = Some f })) calls

-- the same by its weak reference
pub turn-called : (script : Script) (store : Store) (o weak f : ℕ) → AreRows store → slice_get (waiting_in store.rows o) 0 ≡ Some weak
    → ((q : ℕ) → 0 < inner store q → IsLive store q) → entries_of store weak ≡ item (Ref f) ∷ []
    → TurnSteps script store o phase_of.Calling (forgotten_weak weak (held (f ∷ []) (rewritten weak [] store))) (running (phase_of.AfterCall weak f)
    (record { sort = Callback; proc = unwrap_or (class_in (fin.get store.nodes f)) 0; subject = weak; func = Some f }))
turn-called script store o weak f ok first sound =
    let found = row_of_one (waits_with o) store.rows weak (head_in (waiting_in store.rows o) weak first) in
    let row : Row = found.0 in
    let both : ◌≡◌ {A = ℕ × ℕ} (row.referent, row.weak) (o, weak) = λ i. (eqb-true row.referent o (true_and (row.referent == o) row.waits found.2).0 i, found.3 i) in
    subst (λ (q : ℕ × ℕ). slice_get (waiting_in store.rows q.0) 0 ≡ Some q.1 → waits_with q.0 row ≡ true → entries_of store q.1 ≡ item (Ref f) ∷ []
    → TurnSteps script store q.0 phase_of.Calling (forgotten_weak q.1 (held (f ∷ []) (rewritten q.1 [] store))) (running (phase_of.AfterCall q.1 f)
    (record { sort = Callback; proc = unwrap_or (class_in (fin.get store.nodes f)) 0; subject = q.1; func = Some f }))) both
    (λ newest waits. row-called script store row ok found.1 waits newest sound f)
    first found.2
