-- The phases on weak references, and the last one, leave a steady death.
use Rattle.std.proofs.Common.{◌≡◌, ◌≢◌, refl, sym, ◌∙◌, ap, subst, ℕ, ◌≤◌, Bool, true, false, cond, not, inr, List, [], ◌∷◌, ◌++◌, length, Some, None, arith}
use Rattle.std.specs.Prelude.{◌==◌, ◌&&◌, if◌then◌else◌, is_some, slice_get}
use Rattle.std.specs.List.{All}
use Rattle.std.proofs.lemmas.Bool.{eqb-true, eq-eqb, ne_eqb}
use Rattle.std.proofs.lemmas.List.Elements.{All-head}
use Rattle.std.specs.FinMap as fin
use Rattle.cg_value.specs.declared.Entry.{Entry}
use Rattle.cg_value.specs.declared.Val.{Val}
use Rattle.cg_value.specs.declared.Val.TheVariants as val
use Rattle.cg_value.specs.declared.KindCode.TheVariants.{Weak}
use Rattle.cg_script.specs.declared.Script.{Script}
use Rattle.cg_kind.specs.Calls.{AreItems}
use Rattle.cg_graph.specs.Member.{Includes}
use Rattle.cg_graph.specs.Holdings.{occurrences}
use Rattle.cg_graph.specs.Value.{item, references, entry_references, reference_in, without_last}
use Rattle.cg_graph.specs.Object.{Object}
use Rattle.cg_graph.specs.Rows.{Row, referent_in, refers_to, waits_with, weak_references_in, waiting_in, with_row_waiting, without_row}
use Rattle.cg_graph.specs.Store.{Store, objects_of, outside_of, IsLive, HasCode, entries_of, entries_in}
use Rattle.cg_graph.specs.Changes.{held, more, unheld, rewritten, with_entries, gone}
use Rattle.cg_graph.proofs.Maps.{get-changed_other}
use Rattle.cg_graph.proofs.Members.{either, true_and, Includes-append_cases, Includes-filter_cases}
use Rattle.cg_graph.proofs.Objects.{occurrences-append}
use Rattle.cg_machine.specs.Weak.{has_weak_references, callback_in, callback_of, weak_references, weak_references_if}
use Rattle.cg_machine.specs.Dying.{has_finalizers}
use Rattle.cg_represents.proofs.Lists.{occurrences-cons}
use Rattle.cg_heap.specs.Calls.{IsSound}
use Rattle.cg_heap.specs.Keeps.{IsWellMade, IsWellMadeAt}
use Rattle.cg_heap.specs.Weak.{AreRows, cleared_weak, forgotten_weak}
use Rattle.cg_heap.proofs.ReferenceLemmas.{last-remove}
use Rattle.cg_heap.proofs.HoldLemmas.{entries_hold, outside-held, outside-unheld, outside-rewritten}
use Rattle.cg_heap.proofs.CallerLemmas.{lives_on, kinds-rewritten}
use Rattle.cg_heap.proofs.RowLemmas.{refers_live, no_referent, in_no_row}
use Rattle.cg_death.specs.declared.release.Release.{Release}
use Rattle.cg_death.specs.declared.phase.Phase.TheVariants as phase_of
use Rattle.cg_death.specs.Activities.{references_left, HasCallback, HaveCallbacks, IsUnheld, AreNewer}
use Rattle.cg_death.specs.Steady.{NoneRefers, passes, RefersOnlyIf, IsSteadyAt}
use Rattle.cg_death.proofs.Clearing.{none_first}
use Rattle.cg_death.proofs.Callbacks.{callback-at}
use Rattle.cg_death.proofs.WorkLeft.{entries-held, entries-unheld}
use Rattle.cg_death.proofs.Querying.{newest-waits}
use Rattle.cg_death.proofs.RowSplits.{all_in, row_of_one, one_of_row, head_in, split_at, waiting-without, waiting-more, waiting-first, left-in}
use Rattle.cg_death.proofs.WeakObjects.{referring_row, weak_references-are}
use Rattle.cg_death.proofs.RowsLeft.{fewer_in, none_of_fewer, all_left, others_waiting, newest_is_greatest, refers_before}
use Rattle.cg_death.proofs.UnheldStays.{unheld-unheld, unheld-held, unheld-rewritten, held_by_none}
use Rattle.cg_death.proofs.SteadyPhases.{weak_references_by_kind, passes-mapped, passes-same, no_holds, steady_at, steady-over}

-- No weak reference that may refer to it is left.
none_refers : (test : Object → Bool) (store : Store) (o : ℕ) → AreRows store → slice_get (weak_references_if test (objects_of store) o) 0 ≡ None → RefersOnlyIf test store o → NoneRefers store o
none_refers test store o ok none only = known (passes test store o) refl
  where
    known : (b : Bool) → passes test store o ≡ b → NoneRefers store o
    known true e = sym (weak_references-are store ok o) ∙ none_first (weak_references (objects_of store) o)
        (ap (λ b. slice_get (if b then weak_references (objects_of store) o else []) 0) (sym e) ∙ none)
    known false e = only e

-- The newest of them in the rows.
newest_in_rows : (test : Object → Bool) (store : Store) (o weak : ℕ) → AreRows store → slice_get (weak_references_if test (objects_of store) o) 0 ≡ Some weak
    → slice_get (weak_references_in store.rows o) 0 ≡ Some weak
newest_in_rows test store o weak ok newest = known (passes test store o) refl
  where
    known : (b : Bool) → passes test store o ≡ b → slice_get (weak_references_in store.rows o) 0 ≡ Some weak
    known true e = ap (λ l. slice_get l 0) (sym (weak_references-are store ok o)) ∙ ap (λ b. slice_get (if b then weak_references (objects_of store) o else []) 0) (sym e) ∙ newest
    known false e = let nothing : slice_get [] 0 ≡ Some weak = ap (λ b. slice_get (if b then weak_references (objects_of store) o else []) 0) (sym e) ∙ newest in absurd (cc)

module _ (store : Store) (o weak : ℕ) (ok : AreRows store) (refers : referent_in store.rows weak ≡ Some o) where
  abbrev found : (r : Row) × Includes store.rows r × (r.waits ≡ false) × ◌≡◌ {A = ℕ × ℕ} (r.referent, r.weak) (o, weak)
  found = referring_row store.rows weak o refers

  refers_in : Includes (weak_references_in store.rows o) weak
  refers_in = subst (λ (q : ℕ × ℕ). Includes (weak_references_in store.rows q.0) q.1) found.3 (one_of_row (refers_to found.0.referent) store.rows found.0 found.1
      (λ i. eq-eqb found.0.referent found.0.referent refl i && not (found.2 i)))

  -- it is another object
  is_other : All (λ r. r.weak ≢ o) store.rows → weak ≢ o
  is_other others same = all_in (λ (r : Row). r.weak ≢ o) store.rows found.0 others found.1 (ap (λ (q : ℕ × ℕ). q.1) found.3 ∙ same)

  -- the waiting ones after it waits, and after it is gone
  waits_now : AreNewer store o → waiting_in (with_row_waiting weak store.rows) o ≡ waiting_in store.rows o ++ weak ∷ []
  waits_now = subst (λ (q : ℕ × ℕ). AreNewer store q.0 → waiting_in (with_row_waiting q.1 store.rows) q.0 ≡ waiting_in store.rows q.0 ++ q.1 ∷ []) found.3
      (λ newer. waiting-more store.rows found.0 (split_at store.rows found.0 ok.rise found.1) found.2
      (λ v i. newer v found.0.weak i (subst (λ (q : ℕ × ℕ). Includes (weak_references_in store.rows q.0) q.1) (sym found.3) refers_in)))

  pub waits_still : waiting_in (without_row weak store.rows) o ≡ waiting_in store.rows o
  waits_still = subst (λ (q : ℕ × ℕ). waiting_in (without_row q.1 store.rows) q.0 ≡ waiting_in store.rows q.0) found.3
      (waiting-without store.rows found.0 (split_at store.rows found.0 ok.rise found.1) found.2 found.0.referent)

  -- an object that it refers to may have weak references
  may_have : (test : Object → Bool) (new : Store) → passes test new o ≡ passes test store o → RefersOnlyIf test store o → RefersOnlyIf test new o
  may_have test new same only fails = absurd (subst (λ l. Includes l weak) (only (sym same ∙ fails)) refers_in)

-- the single entry of a weak reference with a callback
callback_there : (entries : List Entry) → AreItems entries → length entries ≤ 1 → is_some (callback_in entries) ≡ true → (f : ℕ) × (entries ≡ item (val.Ref f) ∷ [])
callback_there [] items few has = absurd (let no : false ≡ true = has in cc)
callback_there (e ∷ []) items few has = known e.val refl has
  where
    known : (v : Val) → e.val ≡ v → is_some (reference_in e.val) ≡ true → (f : ℕ) × (e ∷ [] ≡ item (val.Ref f) ∷ [])
    known (val.Ref f) is some = (f, λ i. record { key = All-head (λ (x : Entry). x.key ≡ val.None) e [] items i; val = is i } ∷ [])
    known v is some = absurd (let no : false ≡ true = ap (λ v. is_some (reference_in v)) (sym is) ∙ some in cc)
callback_there (e ∷ x ∷ es) items few has = absurd (omega (arith, few))

has_callback : (store : Store) (weak : ℕ) → ((s : ℕ) → IsWellMadeAt (fin.get store.nodes s)) → HasCode store weak Weak → is_some (callback_of (objects_of store) weak) ≡ true → HasCallback store weak
has_callback store weak well code has =
    let made : IsWellMade code.0 = subst IsWellMadeAt code.1 (well weak) in
    let single = made.single code.2 in
    let entries : entries_of store weak ≡ code.0.entries = ap entries_in code.1 in
    callback_there (entries_of store weak) (subst AreItems (sym entries) single.0) (subst (λ (es : List Entry). length es ≤ 1) (sym entries) single.1) (ap is_some (sym (callback-at store weak)) ∙ has)

-- an object other than the single one of a list
not_in_one : (o weak : ℕ) → weak ≢ o → occurrences o (weak ∷ []) ≡ 0
not_in_one o weak differs = let none : cond {A = ℕ} (weak == o) 1 0 ≡ 0 = ap (λ b. cond {A = ℕ} b 1 0) (ne_eqb weak o differs) in omega (arith, occurrences-cons o weak [], none)

-- None is left to clear.
pub steady-all_cleared : (script : Script) (store : Store) (o : ℕ) → AreRows store → slice_get (weak_references_if has_weak_references (objects_of store) o) 0
    ≡ None → IsSteadyAt script store o phase_of.Clearing None → IsSteadyAt script store o phase_of.Calling None
steady-all_cleared script store o ok none s = steady_at script store o phase_of.Calling (s.ready.0, s.rows.0) s.held (s.rows.0, none_refers has_weak_references store o ok none s.rows.1)
    s.no_own_row

-- The newest is cleared. With a callback it then waits; without one its row is gone.
module _ (script : Script) (store : Store) (o weak : ℕ) (sound : IsSound store) (refers : referent_in store.rows weak ≡ Some o) where
  abbrev waiting_store : Store
  waiting_store = cleared_weak weak true (held (weak ∷ []) store)

  abbrev lost_store : Store
  lost_store = cleared_weak weak false store

  lost_unheld : IsUnheld store o → IsUnheld lost_store o
  lost_unheld u = record { live = u.live; none = u.none }

  steady-waits : slice_get (weak_references_if has_weak_references (objects_of store) o) 0 ≡ Some weak → is_some (callback_of (objects_of store) weak) ≡ true
      → IsSteadyAt script store o phase_of.Clearing None → IsSteadyAt script waiting_store o phase_of.Clearing None
  steady-waits newest has s =
      let now : waiting_in (with_row_waiting weak store.rows) o ≡ waiting_in store.rows o ++ weak ∷ [] = waits_now store o weak sound.rows refers s.ready.1 in
      let once_held = unheld-held store o s.ready.0 (weak ∷ []) (not_in_one o weak (is_other store o weak sound.rows refers s.no_own_row)) in
      let code = refers_live store sound.rows weak o refers in
      steady_at script waiting_store o phase_of.Clearing (
        record { live = once_held.live; none = once_held.none },
        λ v w waits refers_still.
            let before = refers_before o weak store.rows w refers_still in
            either (Includes-append_cases (waiting_in store.rows o) (weak ∷ []) v (subst (λ l. Includes l v) now waits))
            (λ k. s.ready.1 v w k before.0)
            (λ k. either k
            (λ e. let most = newest_is_greatest (refers_to o) store.rows weak w sound.rows.rise (newest_in_rows has_weak_references store o weak sound.rows newest) before.0 in
            let other = before.1 in omega (arith, most, other, e))
            (λ n. absurd n)),
      )
      (λ q.
      let is : occurrences q (waiting_in (with_row_waiting weak store.rows) o ++ []) ≡ occurrences q ((waiting_in store.rows o ++ weak ∷ []) ++ []) = ap (λ l. occurrences q (l ++ [])) now in
      let was = s.held q in
      omega (
        arith,
        is,
        was,
        outside-held (weak ∷ []) store q (λ h. subst (IsLive store) (sym (Rattle.cg_death.proofs.Places.only-one weak q h))
            (Rattle.cg_heap.proofs.CallerLemmas.live_of_kind store weak Weak code.0)),
        occurrences-append q (waiting_in store.rows o ++ weak ∷ []) [],
        occurrences-append q (waiting_in store.rows o) (weak ∷ []),
        occurrences-append q (waiting_in store.rows o) [],
      )) (
        λ w waits. either (Includes-append_cases (waiting_in store.rows o) (weak ∷ []) w (subst (λ l. Includes l w) now waits))
            (λ k. let had = s.rows.0 w k in (had.0, entries-held (weak ∷ []) store w ∙ had.1))
            (λ k. either k
            (λ e. subst (HasCallback waiting_store) e (let had = has_callback store weak sound.well code.0 has in (had.0, entries-held (weak ∷ []) store weak ∙ had.1)))
            (λ n. absurd n)),
        may_have store o weak sound.rows refers has_weak_references waiting_store (passes-mapped has_weak_references weak_references_by_kind
            (λ q n. more (occurrences q (weak ∷ [])) n) (λ q n. refl) (λ q n. refl) store waiting_store refl o) s.rows.1,
      ) (others_waiting o weak store.rows s.no_own_row)

  steady-lost : IsSteadyAt script store o phase_of.Clearing None → IsSteadyAt script lost_store o phase_of.Clearing None
  steady-lost s =
      let still : waiting_in (without_row weak store.rows) o ≡ waiting_in store.rows o = waits_still store o weak sound.rows refers in
      steady_at script lost_store o phase_of.Clearing (
        lost_unheld s.ready.0,
        λ v w waits refers_still. s.ready.1 v w (subst (λ l. Includes l v) still waits) (fewer_in (refers_to o) store.rows (without_row weak store.rows) (left-in weak store.rows) w refers_still),
      ) (λ q. subst (λ l. occurrences q (l ++ []) ≤ outside_of store q) (sym still) (s.held q)) (
        λ w waits. s.rows.0 w (subst (λ l. Includes l w) still waits),
        may_have store o weak sound.rows refers has_weak_references lost_store (passes-same has_weak_references weak_references_by_kind store lost_store refl o) s.rows.1,
      ) (all_left (λ r. r.weak ≢ o) weak store.rows s.no_own_row)

  pub steady-cleared : (b : Bool) → is_some (callback_of (objects_of store) weak) ≡ b → slice_get (weak_references_if has_weak_references (objects_of store) o)
      0 ≡ Some weak → IsSteadyAt script store o phase_of.Clearing None
      → IsSteadyAt script (if b then cleared_weak weak true (held (weak ∷ []) store) else cleared_weak weak false store) o phase_of.Clearing None
  steady-cleared true has newest s = steady-waits newest has s
  steady-cleared false has newest s = steady-lost s

  -- One that its own frames made is cleared.
  pub steady-detached : IsSteadyAt script store o phase_of.Detaching None → IsSteadyAt script lost_store o phase_of.Detaching None
  steady-detached s = steady_at script lost_store o phase_of.Detaching (lost_unheld s.ready) (no_holds lost_store) (
    waits_still store o weak sound.rows refers ∙ s.rows.0,
    may_have store o weak sound.rows refers (has_finalizers script) lost_store (passes-same (has_finalizers script)
        (Rattle.cg_death.proofs.SteadyPhases.finalizers_by_kind script) store lost_store refl o) s.rows.1,
  ) (all_left (λ r. r.weak ≢ o) weak store.rows s.no_own_row)

pub steady-all_detached : (script : Script) (store : Store) (o : ℕ) → AreRows store → slice_get (weak_references_if (has_finalizers script) (objects_of store)
    o) 0 ≡ None → IsSteadyAt script store o phase_of.Detaching None → IsSteadyAt script store o phase_of.Emptying None
steady-all_detached script store o ok none s = steady_at script store o phase_of.Emptying (
  s.ready,
  in_no_row store.rows o s.no_own_row (no_referent store.rows o (ap (λ l. slice_get l 0) (none_refers (has_finalizers script) store o ok none
      s.rows.1)) (ap (λ l. slice_get l 0) s.rows.0)),
) (no_holds store) tt s.no_own_row

-- No callback is left to call.
pub steady-all_called : (script : Script) (store : Store) (o : ℕ) → slice_get (waiting_in store.rows o) 0 ≡ None → IsSteadyAt script store o phase_of.Calling
    None → IsSteadyAt script store o phase_of.LegacyFinalizer None
steady-all_called script store o none s = steady_at script store o phase_of.LegacyFinalizer s.ready.0 (no_holds store) (none_first (waiting_in store.rows o) none, s.rows.1) s.no_own_row

-- The newest waiting one has its callback removed and called.
module _ (script : Script) (store : Store) (o weak f : ℕ) (sound : IsSound store) (newest : slice_get (waiting_in store.rows o) 0 ≡ Some weak)
    (entry : entries_of store weak ≡ item (val.Ref f) ∷ []) where
  abbrev emptied : Store
  emptied = rewritten weak [] store

  abbrev called : Store
  called = forgotten_weak weak (held (f ∷ []) emptied)

  weak_live : IsLive store weak
  weak_live = (newest-waits store o weak sound.rows newest).1

  others_wait : waiting_in store.rows o ≡ weak ∷ waiting_in (without_row weak store.rows) o
  others_wait =
      let found = row_of_one (waits_with o) store.rows weak (head_in (waiting_in store.rows o) weak newest) in
      let r : Row = found.0 in
      let parts = true_and (r.referent == o) r.waits found.2 in
      let both : ◌≡◌ {A = ℕ × ℕ} (r.referent, r.weak) (o, weak) = λ i. (eqb-true r.referent o parts.0 i, found.3 i) in
      subst (λ (q : ℕ × ℕ). slice_get (waiting_in store.rows q.0) 0 ≡ Some q.1 → waiting_in store.rows q.0 ≡ q.1 ∷ waiting_in (without_row q.1 store.rows) q.0) both
      (waiting-first store.rows r (split_at store.rows r sound.rows.rise found.1) (λ i. eq-eqb r.referent r.referent refl i && parts.1 i)) newest

  -- another waiting one keeps its entry
  other_waits : (w : ℕ) → Includes (waiting_in (without_row weak store.rows) o) w → w ≢ weak
  other_waits w m =
      let found = row_of_one (waits_with o) (without_row weak store.rows) w m in
      let kept = Includes-filter_cases (λ (r : Row). not (r.weak == weak)) store.rows found.0 found.1 in
      λ same. let no : not true ≡ true = ap not (sym (eq-eqb found.0.weak weak (found.3 ∙ same))) ∙ kept.1 in let e : false ≡ true = no in absurd (cc)

  entries-called : (w : ℕ) → w ≢ weak → entries_of called w ≡ entries_of store w
  entries-called w differs = entries-held (f ∷ []) emptied w ∙ ap entries_in (get-changed_other (with_entries []) weak store.nodes w differs)

  callback_live : IsLive emptied f
  callback_live =
      let here : occurrences f (references (entries_of store weak)) ≡ occurrences f (f ∷ []) = ap (λ es. occurrences f (references es)) entry in
      lives_on store emptied (kinds-rewritten weak [] store) f (sound.live f (omega (arith, entries_hold store weak f, here, Rattle.cg_represents.proofs.Representing.occurrences-one f)))

  pub steady-called : IsSteadyAt script store o phase_of.Calling None → IsSteadyAt script called o (phase_of.AfterCall weak f) None
  steady-called s =
      let nothing : occurrences o (f ∷ []) ≡ 0 = ap (λ es. occurrences o (references es)) (sym entry) ∙ held_by_none store o s.ready.0 weak in
      let free = unheld-held emptied o (unheld-rewritten store o s.ready.0 weak [] weak_live (omega arith)) (f ∷ []) nothing in
      steady_at script called o (phase_of.AfterCall weak f) (record { live = free.live; none = free.none })
      (λ q.
      let was = s.held q in
      let is : occurrences q (waiting_in store.rows o ++ []) ≡ occurrences q (weak ∷ waiting_in (without_row weak store.rows) o ++ []) = ap (λ l. occurrences q (l ++ [])) others_wait in
      omega (
        arith,
        was,
        is,
        outside-held (f ∷ []) emptied q (λ h. subst (IsLive emptied) (sym (Rattle.cg_death.proofs.Places.only-one f q h)) callback_live),
        outside-rewritten weak [] store q,
        occurrences-cons q f (weak ∷ waiting_in (without_row weak store.rows) o ++ []),
        occurrences-cons q weak (waiting_in (without_row weak store.rows) o ++ []),
        occurrences-cons q f [],
      )) (
        λ w waits. let had = s.ready.1 w (subst (λ l. Includes l w) (sym others_wait) (inr waits)) in (had.0, entries-called w (other_waits w waits) ∙ had.1),
        none_of_fewer (refers_to o) store.rows (without_row weak store.rows) (left-in weak store.rows) s.rows.1,
      ) (all_left (λ r. r.weak ≢ o) weak store.rows s.no_own_row)

-- A call has ended: the callback was given up, and its weak reference comes next.
pub steady-call_ended : (script : Script) (store : Store) (o weak f : ℕ) (release : Release) → references_left release ≡ weak ∷ [] → IsSteadyAt script store o
    (phase_of.AfterCall weak f) None → IsSteadyAt script (unheld (f ∷ []) store) o phase_of.Calling (Some release)
steady-call_ended script store o weak f release left s =
    let callbacks : HaveCallbacks (unheld (f ∷ []) store) o = λ w waits. let had = s.rows.0 w waits in (had.0, entries-unheld (f ∷ []) store w ∙ had.1) in
    record {
      ready = (unheld-unheld store o s.ready (f ∷ []), callbacks);
      during = unheld-unheld store o s.ready (f ∷ []);
      held = λ q.
          let was = s.held q in
          let is : occurrences q (references_left release ++ (waiting_in store.rows o ++ [])) ≡ occurrences q (weak ∷ waiting_in store.rows o ++ []) =
          ap (λ l. occurrences q (l ++ (waiting_in store.rows o ++ []))) left in
          omega (arith, was, is, outside-unheld (f ∷ []) store q, occurrences-cons q f (weak ∷ waiting_in store.rows o ++ []), occurrences-cons q f []);
      rows = (callbacks, s.rows.1);
      no_own_row = s.no_own_row;
    }

-- An entry was removed, and its references are to be given up.
pub steady-taken : (script : Script) (store : Store) (o : ℕ) (e : Entry) (release : Release) → IsSound store → entries_of store o
    ≡ without_last (entries_of store o) ++ e ∷ [] → references_left release ≡ entry_references e → IsSteadyAt script store o phase_of.Emptying None
    → IsSteadyAt script (held (entry_references e) (rewritten o (without_last (entries_of store o)) store)) o phase_of.Emptying (Some release)
steady-taken script store o e release sound last left s =
    let rest : List Entry = without_last (entries_of store o) in
    let fewer : Store = rewritten o rest store in
    let parts = (last-remove (entries_of store o) rest e last).1 in
    let nothing = held_by_none store o s.ready.0 o in
    let parts_here = parts o in
    let free = unheld-held fewer o (unheld-rewritten store o s.ready.0 o rest s.ready.0.live (omega (arith, parts_here))) (entry_references e) (omega (arith, parts_here, nothing)) in
    record {
      ready = (free, s.ready.1);
      during = free;
      held = λ q.
          let is : occurrences q (references_left release ++ []) ≡ occurrences q (entry_references e ++ []) = ap (λ l. occurrences q (l ++ [])) left in
          omega (
            arith,
            is,
            occurrences-append q (entry_references e) [],
            outside-held (entry_references e) fewer q (λ h. lives_on store fewer (kinds-rewritten o rest store) q
                (sound.live q (let part = parts q in omega (arith, h, part, entries_hold store o q)))),
          );
      rows = tt;
      no_own_row = s.no_own_row;
    }

pub steady-gone : (script : Script) (store : Store) (o : ℕ) → IsSteadyAt script store o phase_of.Emptying None → IsSteadyAt script (gone o store) o phase_of.Over None
steady-gone script store o s = steady-over script (gone o store) o s.no_own_row
