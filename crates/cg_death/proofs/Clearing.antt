-- When a weak reference to a dying object is cleared, the heap does the machine's step.
use Rattle.std.proofs.Common.{◌≡◌, ◌≢◌, refl, sym, ◌∙◌, ap, subst, ℕ, ◌+◌, ◌<◌, ◌≤◌, true, false, cond, not, inl, inr, List, [], ◌∷◌, ◌++◌, Some, None, arith}
use Rattle.std.specs.Prelude.{◌⊎◌, ◌==◌, ◌&&◌, count_by, flat_map, slice_get}
use Rattle.std.proofs.lemmas.Bool.{eq-eqb}
use Rattle.std.proofs.lemmas.List.Sums.{sum_by-cons}
use Rattle.cg_script.specs.declared.Script.{Script}
use Rattle.cg_graph.specs.Member.{Includes}
use Rattle.cg_graph.specs.Holdings.{occurrences}
use Rattle.cg_graph.specs.Rows.{Row, refers_to, waiting_in, with_row_waiting, without_row}
use Rattle.cg_graph.specs.Store.{Store, objects_of, outside_of, IsLive, waiting_for}
use Rattle.cg_graph.specs.Changes.{held}
use Rattle.cg_graph.proofs.Members.{either, true_and}
use Rattle.cg_graph.proofs.Objects.{occurrences-append}
use Rattle.cg_machine.specs.World.{World, Activity, Dying, Death, DyingPhase, Clearing, with_stack}
use Rattle.cg_machine.specs.Holdings.{holds, is_death_of, dying_holds}
use Rattle.cg_machine.specs.Weak.{loses_referent}
use Rattle.cg_machine.specs.Dying.{death_at}
use Rattle.cg_represents.specs.Represents.{Represents}
use Rattle.cg_represents.specs.Orderly.{death_waits}
use Rattle.cg_heap.specs.Weak.{AreRows}
use Rattle.cg_heap.proofs.HoldLemmas.{outside-held}
use Rattle.cg_heap.proofs.CallerLemmas.{live_of_kind}
use Rattle.cg_value.specs.declared.KindCode.TheVariants.{Weak}
use Rattle.cg_death.specs.Activities.{death_of, AreNewer}
use Rattle.cg_death.specs.Answers.{DeathStands}
use Rattle.cg_represents.proofs.Representing.{Matches, matches, represents}
use Rattle.cg_death.proofs.Turns.{here, waits_are, own_object, death}
use Rattle.cg_death.proofs.Places.{matches-held, only-one}
use Rattle.cg_death.proofs.RowSplits.{all_in, split_at, one_of_row, referent-without, referent-waiting, waiting-without, waiting-other, waiting-more, left-in, waiting-in}
use Rattle.cg_death.proofs.WeakObjects.{objects-cleared}

-- the first of a list
pub none_first : (xs : List ℕ) → slice_get xs 0 ≡ None → xs ≡ []
none_first [] e = refl
none_first (x ∷ xs) e = absurd (cc)

pub some_first : (xs : List ℕ) (x : ℕ) → slice_get xs 0 ≡ Some x → (rest : List ℕ) × (xs ≡ x ∷ rest)
some_first [] x e = absurd (cc)
some_first (y ∷ xs) x e = let same : y ≡ x = cc in (xs, ap (λ z. z ∷ xs) same)

-- an object that is dying on top is not dying below
deaths_below : (o : ℕ) (d : Death) (stack : List Activity) → Includes stack (Dying d) → d.object ≡ o → 0 < count_by (is_death_of o) stack
deaths_below o d [] m e = absurd m
deaths_below o d (a ∷ stack) m e =
    let split : count_by (is_death_of o) (a ∷ stack) ≡ cond (is_death_of o a) 1 0 + count_by (is_death_of o) stack = sum_by-cons (λ (b : Activity). cond {A = ℕ} (is_death_of o b) 1 0) a stack in
    either m
    (λ same.
    let is : is_death_of o a ≡ true = ap (is_death_of o) same ∙ eq-eqb d.object o e in
    let one : cond {A = ℕ} (is_death_of o a) 1 0 ≡ 1 = ap (λ b. cond {A = ℕ} b 1 0) is in
    omega (arith, split, one))
    (λ k. let rest = deaths_below o d stack k e in omega (arith, split, rest))

pub alone : (o : ℕ) (phase : DyingPhase) (below : List Activity) → count_by (is_death_of o) (death_of o phase ∷ below) ≤ 1 → (d : Death) → Includes below (Dying d) → d.object ≢ o
alone o phase below once d m e =
    let split : count_by (is_death_of o) (death_of o phase ∷ below) ≡ cond (o == o) 1 0 + count_by (is_death_of o) below =
    sum_by-cons (λ (b : Activity). cond {A = ℕ} (is_death_of o b) 1 0) (death_of o phase) below in
    let one : cond {A = ℕ} (o == o) 1 0 ≡ 1 = ap (λ b. cond {A = ℕ} b 1 0) (eq-eqb o o refl) in
    let there = deaths_below o d below m e in
    absurd (omega (arith, once, split, one, there))

-- Other rows for the weak references of a dying object: other deaths see the same, and a row that waits now waits with
-- this object or waited before.
module _ (store : Store) (v : World) (o : ℕ) (phase next : DyingPhase) (below : List Activity) (rows : List Row)
    (m : Matches store (here store v o phase below)) (once : count_by (is_death_of o) (death_of o phase ∷ below) ≤ 1) (waits : death_waits next ≡ waiting_in rows o)
    (others : (p : ℕ) → p ≢ o → waiting_in rows p ≡ waiting_for store p)
    (from : (x : Row) → Includes rows x → x.waits ≡ true → ((y : Row) × Includes store.rows y × (y.waits ≡ true) × (y.referent ≡ x.referent)) ⊎ (x.referent ≡ o)) where
  abbrev pub with_rows : Store
  with_rows = record store { rows = rows }

  waiting_dies : (x : Row) → Includes rows x → x.waits ≡ true → (d : Death) × Includes (death_of o next ∷ below) (Dying d) × (d.object ≡ x.referent)
  waiting_dies x i waiting =
      either (from x i waiting)
      (λ before.
      let found = m.no_others before.0 before.1 before.2 in
      either found.1
      (λ e. (death o next, inl refl, own_object o phase found.0 e ∙ found.2 ∙ before.3))
      (λ k. (found.0, inr k, found.2 ∙ before.3)))
      (λ e. (death o next, inl refl, sym e))

  pub matches-rows : (w : World) → objects_of with_rows ≡ w.objects → w.next_serial ≡ v.next_serial → w.names ≡ v.names → Matches with_rows (with_stack (death_of o next ∷ below) w)
  matches-rows w objects serial names = record {
    objects = objects;
    next_serial = serial ∙ m.next_serial;
    names = m.names ∙ sym names;
    deaths = λ d i. either i
        (λ e. let same : death o next ≡ d = cc in subst (λ (x : Death). death_waits x.phase ≡ waiting_in rows x.object) same waits)
        (λ k. m.deaths d (inr k) ∙ sym (others d.object (alone o phase below once d k)));
    no_others = waiting_dies;
    collection = λ c i. m.collection c (either i (λ e. cc) (λ k. inr k));
  }

-- A weak reference without callback, or in the later phase, is cleared.
module _ (script : Script) (store : Store) (v : World) (r : Row) (below : List Activity) (ok : AreRows store) (inside : Includes store.rows r) (stays : r.waits ≡ false) (phase next : DyingPhase)
    (s : DeathStands store (here store v r.referent phase below) (death_of r.referent phase ∷ below)) (same_waits : death_waits next ≡ death_waits phase)
    (same_holds : dying_holds r.referent next ≡ dying_holds r.referent phase) where
  abbrev w : World
  w = here store v r.referent phase below

  abbrev lost : World
  lost = record w { objects = loses_referent r.weak w.objects }

  abbrev without : Store
  without = record store { rows = without_row r.weak store.rows }

  matches-lost : Matches without (with_stack (death_of r.referent next ∷ below) lost)
  matches-lost =
      let split = split_at store.rows r ok.rise inside in
      let m = matches store w s.represents in
      matches-rows store v r.referent phase next below (without_row r.weak store.rows) m (s.once r.referent)
      (same_waits ∙ waits_are store v r.referent phase below m ∙ sym (waiting-without store.rows r split stays r.referent))
      (λ p differs. waiting-without store.rows r split stays p)
      (λ x i waits. inl (x, left-in r.weak store.rows x i, waits, refl))
      lost
      (objects-cleared store (without_row r.weak store.rows) r.weak (referent-without store.rows r split) ∙ ap (loses_referent r.weak) s.represents.objects)
      refl refl

  pub represents-lost : Represents without (death_at r.referent next below lost)
  represents-lost = represents without (death_at r.referent next below lost) matches-lost (λ q. s.represents.outside q ∙ ap (λ hs. occurrences q (hs ++ flat_map holds below)) (sym same_holds))

-- One with a callback then waits.
module _ (script : Script) (store : Store) (v : World) (r : Row) (below : List Activity) (ok : AreRows store) (inside : Includes store.rows r) (stays : r.waits
    ≡ false) (newer : AreNewer store r.referent)
    (s : DeathStands store (here store v r.referent (Clearing (waiting_for store r.referent)) below) (death_of r.referent (Clearing (waiting_for store r.referent)) ∷ below)) where
  abbrev phase_before : DyingPhase
  phase_before = Clearing (waiting_for store r.referent)

  abbrev phase_after : DyingPhase
  phase_after = Clearing (waiting_for store r.referent ++ r.weak ∷ [])

  abbrev u : World
  u = here store v r.referent phase_before below

  abbrev waits_now : World
  waits_now = record u { objects = loses_referent r.weak u.objects }

  abbrev held_store : Store
  held_store = held (r.weak ∷ []) store

  abbrev waiting_store : Store
  waiting_store = record held_store { rows = with_row_waiting r.weak store.rows }

  refers : refers_to r.referent r ≡ true
  refers = λ i. eq-eqb r.referent r.referent refl i && not (stays i)

  from_rows : (x : Row) → Includes (with_row_waiting r.weak store.rows) x → x.waits ≡ true → ((y : Row) × Includes store.rows y × (y.waits ≡ true)
      × (y.referent ≡ x.referent)) ⊎ (x.referent ≡ r.referent)
  from_rows x i waits =
      either (waiting-in r.weak store.rows x i waits)
      (λ before. inl before)
      (λ own. inr (sym own.3 ∙ ap (λ (y : Row). y.referent) (one_row own.0 own.1 own.2)))
    where
      one_row : (y : Row) → Includes store.rows y → y.weak ≡ r.weak → y ≡ r
      one_row y m e =
          let split = split_at store.rows r ok.rise inside in
          either (Rattle.cg_graph.proofs.Members.Includes-append_cases split.front (r ∷ split.back) y (subst (λ l. Includes l y) split.is m))
          (λ k. let low = split.lower y k in absurd (omega (arith, low, e)))
          (λ k. either k (λ i. sym i) (λ n. let high = split.higher y n in absurd (omega (arith, high, e))))

  lives : (q : ℕ) → 0 < occurrences q (r.weak ∷ []) → IsLive store q
  lives q there = subst (IsLive store) (sym (only-one r.weak q there))
      (live_of_kind store r.weak Weak (all_in (λ (x : Row). Rattle.cg_graph.specs.Store.HasCode store x.weak Weak) store.rows r ok.weak inside))

  matches-waits : Matches waiting_store (with_stack (death_of r.referent phase_after ∷ below) waits_now)
  matches-waits =
      let split = split_at store.rows r ok.rise inside in
      let m = matches-held (r.weak ∷ []) store u (matches store u s.represents) in
      matches-rows held_store v r.referent phase_before phase_after below (with_row_waiting r.weak store.rows) m (s.once r.referent)
      (sym (waiting-more store.rows r split stays (λ x i. newer x r.weak i (one_of_row (refers_to r.referent) store.rows r inside refers))))
      (λ p differs. (waiting-other store.rows r split p (λ e. differs (sym e))).1 stays)
      from_rows
      waits_now
      (objects-cleared held_store (with_row_waiting r.weak store.rows) r.weak (referent-waiting store.rows r split) ∙ ap (loses_referent r.weak) m.objects)
      refl refl

  pub represents-waits : Represents waiting_store (death_at r.referent phase_after below waits_now)
  represents-waits = represents waiting_store (death_at r.referent phase_after below waits_now) matches-waits
      (λ q. omega (
        arith,
        outside-held (r.weak ∷ []) store q (lives q),
        s.represents.outside q,
        occurrences-append q (waiting_for store r.referent)
            (flat_map holds below),
        occurrences-append q (waiting_for store r.referent ++ r.weak ∷ []) (flat_map holds below),
        occurrences-append q (waiting_for store r.referent) (r.weak ∷ []),
      ))
