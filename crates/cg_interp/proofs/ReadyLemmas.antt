-- A death on top may make a step: what it requires of the heap follows from the laws on the world.
use Rattle.std.proofs.Common.{◌≡◌, ◌≢◌, refl, sym, ◌∙◌, ap, subst, ℕ, ◌≤◌, Bool, true, false, not, cond, inl, inr, List, [], ◌∷◌, ◌++◌, Option, None, Some, IsSome, map, length, arith}
use Rattle.std.specs.Prelude.{◌==◌, ◌&&◌, filter, find, reverse, flat_map, option_map, unwrap_or}
use Rattle.std.specs.List.{All}
use Rattle.std.specs.FinMap as fin
use Rattle.std.proofs.lemmas.Bool.{eqb-true, eq-eqb}
use Rattle.std.proofs.lemmas.List.Elements.{All-nil, All-cons, All-head}
use Rattle.cg_value.specs.declared.Val.{Val}
use Rattle.cg_value.specs.declared.Val.TheVariants.{None as Nothing, Int, Str, Ref}
use Rattle.cg_value.specs.declared.Entry.{Entry}
use Rattle.cg_kind.specs.Calls.{AreItems}
use Rattle.cg_script.specs.declared.Script.{Script}
use Rattle.cg_graph.specs.Member.{Includes}
use Rattle.cg_graph.specs.Holdings.{occurrences, graph_of, entry_holdings, name_holdings}
use Rattle.cg_graph.specs.Object.{Object, object_at, serials}
use Rattle.cg_graph.specs.Value.{item, reference_in}
use Rattle.cg_graph.specs.Rows.{Row, referent_in, waits_with}
use Rattle.cg_graph.specs.Store.{Store, Node, object_from, waiting_for, entries_in, IsLive}
use Rattle.cg_graph.proofs.Objects.{object-at}
use Rattle.cg_graph.proofs.Members.{Includes-append_left, Includes-append_right, Includes-filter, Includes-map}
use Rattle.cg_heap.specs.Keeps.{IsWellMadeAt}
use Rattle.cg_heap.specs.Weak.{AreRows, IsInNoRow}
use Rattle.cg_heap.proofs.RowLemmas.{in_no_row}
use Rattle.cg_machine.specs.World as machine
use Rattle.cg_machine.specs.World.{World, Activity, DyingPhase, Dying}
use Rattle.cg_machine.specs.Holdings.{holds, holdings}
use Rattle.cg_represents.specs.Orderly.{waits_of, all_waits, IsWaiting, IsDeathIn}
use Rattle.cg_laws.specs.Lawful.{IsLawful}
use Rattle.cg_represents.specs.Represents.{Represents}
use Rattle.cg_machine.specs.Weak.{weak_references, is_reference_to, callback_in}
use Rattle.cg_represents.proofs.Lists.{found_at, absent}
use Rattle.cg_laws.proofs.Lookups.{Includes-reversed}
use Rattle.cg_laws.proofs.HeldLives.{waits_held}
use Rattle.cg_death.specs.declared.release.Release.{Release}
use Rattle.cg_death.specs.declared.phase.Phase.{Phase}
use Rattle.cg_death.specs.declared.phase.Phase.TheVariants as phase_of
use Rattle.cg_death.specs.declared.death.Death.{Death}
use Rattle.cg_death.specs.Activities.{death_of, death_activities, IsUnheld, IsReadyForDeathAt, HaveCallbacks}
use Rattle.cg_death.specs.Deaths.{IsReadyForDeath, IsUnheldDuring, IsSettledAt, IsSettled}
use Rattle.cg_death.proofs.CallerLemmas.{unheld_in_heap, newer_in_heap, no_referent_in_heap}
use Rattle.cg_interp.proofs.LawsOfEngines.{in_map, is_live}

-- what an activity holds, the stack holds
in_flat : (f : Activity → List ℕ) (stack : List Activity) (a : Activity) (q : ℕ) → Includes stack a → Includes (f a) q → Includes (flat_map f stack) q
in_flat f [] a q m n = absurd m
in_flat f (b ∷ stack) a q (inl same) n = Includes-append_left (f b) (flat_map f stack) q (subst (λ c. Includes (f c) q) (sym same) n)
in_flat f (b ∷ stack) a q (inr m) n = Includes-append_right (f b) (flat_map f stack) q (in_flat f stack a q m n)

-- what the stack holds is held
stack_held : (w : World) (q : ℕ) → Includes (flat_map holds w.stack) q → Includes (holdings w) q
stack_held w q m = Includes-append_right (name_holdings w.names ++ (1 ∷ []) ++ entry_holdings (graph_of w.objects)) (flat_map holds w.stack) q m

-- a search among rows finds nothing only if no row passes
none_found : (p : Row → Bool) (rows : List Row) (r : Row) → Includes rows r → p r ≡ true → option_map (λ (x : Row). x.referent) (find p rows) ≡ None → ⊥
none_found p [] r m is e = m
none_found p (x ∷ rows) r m is e = go (p x) refl m e (λ n f. none_found p rows r n is f)
  where
    go : (b : Bool) → p x ≡ b → Includes (x ∷ rows) r → option_map (λ (y : Row). y.referent) (cond b (Some x) (find p rows)) ≡ None
        → (Includes rows r → option_map (λ (y : Row). y.referent) (find p rows) ≡ None → ⊥) → ⊥
    go true px n found rest = absurd (let clash : Some x.referent ≡ None = found in cc)
    go false px (inl same) found rest = absurd (let clash : false ≡ true = sym px ∙ ap p same ∙ is in cc)
    go false px (inr n) found rest = rest n found

-- if nothing passes, nothing is left
none_left : (o : ℕ) (objects : List Object) → ((x : Object) → Includes objects x → x.referent ≢ Some o) → filter (is_reference_to o) objects ≡ []
none_left o [] none = refl
none_left o (x ∷ objects) none = go (is_reference_to o x) refl (none_left o objects (λ y m. none y (inr m)))
  where
    refers : (referent : Option ℕ) → unwrap_or (option_map (λ r. r == o) referent) false ≡ true → referent ≡ Some o
    refers None e = absurd (let clash : false ≡ true = e in cc)
    refers (Some r) e = ap Some (eqb-true r o e)

    go : (b : Bool) → is_reference_to o x ≡ b → filter (is_reference_to o) objects ≡ [] → cond b (x ∷ filter (is_reference_to o) objects) (filter (is_reference_to o) objects) ≡ []
    go true e rest = absurd (none x (inl refl) (refers x.referent e))
    go false e rest = rest

all_rows : (P : Row → Type 0) (rows : List Row) → ((r : Row) → Includes rows r → P r) → All P rows
all_rows P [] each = All-nil P
all_rows P (r ∷ rows) each = All-cons P r rows (each r (inl refl)) (all_rows P rows (λ q m. each q (inr m)))

-- the single entry of a weak reference with a callback
one_callback : (entries : List Entry) → AreItems entries → length entries ≤ 1 → callback_in entries ≢ None → (f : ℕ) × (entries ≡ item (Ref f) ∷ [])
one_callback [] items few some = absurd (some refl)
one_callback (e ∷ f ∷ entries) items few some = absurd (omega (arith, few))
one_callback (e ∷ []) items few some = by e.val refl some
  where
    by : (v : Val) → e.val ≡ v → reference_in v ≢ None → (f : ℕ) × (e ∷ [] ≡ item (Ref f) ∷ [])
    by Nothing is ref = absurd (ref refl)
    by (Int n) is ref = absurd (ref refl)
    by (Str s) is ref = absurd (ref refl)
    by (Ref f) is ref = (f, ap (λ (x : Entry). x ∷ []) (λ i. record { key = All-head (λ (x : Entry). x.key ≡ Nothing) e [] items i; val = is i }))

module _ (script : Script) (budget : ℕ) (store : Store) (w : World) (represents : Represents store w) (lawful : IsLawful script budget w) (rows : AreRows store)
    (well : (s : ℕ) → IsWellMadeAt (fin.get store.nodes s)) where
  -- an object that lives in the heap is one of the world
  member : (q : ℕ) → IsLive store q → (n : Node) × (fin.get store.nodes q ≡ Some n) × Includes w.objects (object_from store.rows q n)
  member q live = known (fin.get store.nodes q) refl live
    where
      known : (x : Option Node) → fin.get store.nodes q ≡ x → IsSome x → (n : Node) × (fin.get store.nodes q ≡ Some n) × Includes w.objects (object_from store.rows q n)
      known None e some = absurd (cc)
      known (Some n) e some = (
        n,
        e,
        (found_at w.objects q (object_from store.rows q n) (ap (λ os. object_at os q) (sym represents.objects) ∙ object-at store q
            ∙ ap (option_map (object_from store.rows q)) e)).0,
      )

  -- what waits is held
  waits_are_held : (q : ℕ) → Includes (all_waits w.stack) q → Includes (holdings w) q
  waits_are_held q m = stack_held w q (waits_held w.stack q m)

  -- a waiting row is that of a waiting weak reference
  row_waits : (r : Row) → Includes store.rows r → r.waits ≡ true → Includes (all_waits w.stack) r.weak
  row_waits r m waits =
      let found = represents.no_others r m waits in
      let passes : waits_with found.0.object r ≡ true = ap (λ b. (r.referent == found.0.object) && b) waits ∙ ap (λ b. b && true) (eq-eqb r.referent found.0.object (sym found.2)) in
      in_flat waits_of w.stack (Dying found.0) r.weak found.1
      (subst (λ l. Includes l r.weak) (sym (represents.deaths found.0 found.1)) (Includes-reversed (map (λ (x : Row). x.weak) (filter (waits_with found.0.object) store.rows)) r.weak
      (Includes-map (λ (x : Row). x.weak) (filter (waits_with found.0.object) store.rows) r (Includes-filter (waits_with found.0.object) store.rows r passes m))))

  module _ (o : ℕ) where
    lives : (phase : DyingPhase) → Includes w.stack (death_of o phase) → Includes (serials w.objects) o
    lives phase m = (lawful.orderly.deaths (record { object = o; phase = phase }) m).lives

    unheld_now : (phase : DyingPhase) → Includes w.stack (death_of o phase) → occurrences o (holdings w) ≡ 0 → IsUnheld store o
    unheld_now phase m none = unheld_in_heap store w represents o (in_map w.objects o (lives phase m)) none

    -- each waiting one has its callback
    callbacks : Includes w.stack (death_of o (machine.Calling (waiting_for store o))) → HaveCallbacks store o
    callbacks m q waits =
        let on_stack : Includes (all_waits w.stack) q = in_flat waits_of w.stack (death_of o (machine.Calling (waiting_for store o))) q m waits in
        let found = member q (is_live store w q represents (lawful.orderly.held_live q (waits_are_held q on_stack))) in
        let is : IsWaiting (object_from store.rows q found.0) = lawful.orderly.waiting q on_stack (object_from store.rows q found.0) found.2 refl in
        let made = subst IsWellMadeAt found.1 (well q) in
        let single = made.single is.code in
        let one = one_callback found.0.entries single.0 single.1 is.callback in
        (one.0, ap entries_in found.1 ∙ one.1)

    -- no row is that of an emptied object, or refers to it
    no_row : Includes w.stack (death_of o machine.Emptying) → occurrences o (holdings w) ≡ 0 → IsInNoRow o store.rows
    no_row m none = in_no_row store.rows o (all_rows (λ r. r.weak ≢ o) store.rows own) (no_referent_in_heap store w represents rows o none_refers
        (sym (represents.deaths (record { object = o; phase = machine.Emptying }) m)))
      where
        death : IsDeathIn w.objects (record { object = o; phase = machine.Emptying })
        death = lawful.orderly.deaths (record { object = o; phase = machine.Emptying }) m

        none_refers : weak_references w.objects o ≡ []
        none_refers = ap (λ l. reverse (serials l)) (none_left o w.objects (death.unreferred refl))

        no_referent : referent_in store.rows o ≡ None
        no_referent = let found = member o (is_live store w o represents death.lives) in death.refers_to_none (object_from store.rows o found.0) found.2 refl

        own : (r : Row) → Includes store.rows r → r.weak ≢ o
        own r i same = go r.waits refl
          where
            go : (b : Bool) → r.waits ≡ b → ⊥
            go true e = absent o (holdings w) none (subst (Includes (holdings w)) same (waits_are_held r.weak (row_waits r i e)))
            go false e =
                none_found (λ x. (x.weak == o) && not x.waits) store.rows r i (ap (λ b. (r.weak == o) && not b) e ∙ ap (λ b. b && true) (eq-eqb r.weak o same)) no_referent

    -- what a phase requires, with its death on the stack
    ready_at : (phase : Phase) → ((a : Activity) → Includes (death_activities o phase (waiting_for store o)) a → Includes w.stack a) → IsReadyForDeathAt store o phase
    ready_at phase_of.Finalizer on = unheld_now machine.Finalizer (on _ (inl refl)) (lawful.unheld _ (on _ (inl refl)))
    ready_at phase_of.Clearing on = (
      unheld_now (machine.Clearing (waiting_for store o)) (on _ (inl refl)) (lawful.unheld _ (on _ (inl refl))),
      newer_in_heap store w represents rows o (waiting_for store o) refl (lawful.newest (record { object = o; phase = machine.Clearing (waiting_for store o) })
          (on _ (inl refl)) (waiting_for store o) refl),
    )
    ready_at phase_of.Calling on = (unheld_now (machine.Calling (waiting_for store o)) (on _ (inl refl)) (lawful.unheld _ (on _ (inl refl))), callbacks (on _ (inl refl)))
    ready_at (phase_of.AfterCall weak callback) on = unheld_now (machine.AfterCall weak callback (waiting_for store o)) (on _ (inl refl)) (lawful.unheld _ (on _ (inl refl)))
    ready_at phase_of.LegacyFinalizer on = unheld_now machine.LegacyFinalizer (on _ (inl refl)) (lawful.unheld _ (on _ (inl refl)))
    ready_at phase_of.Detaching on = unheld_now machine.Detaching (on _ (inl refl)) (lawful.unheld _ (on _ (inl refl)))
    ready_at phase_of.Emptying on = (unheld_now machine.Emptying (on _ (inl refl)) (lawful.unheld _ (on _ (inl refl))), no_row (on _ (inl refl)) (lawful.unheld _ (on _ (inl refl))))
    ready_at _ on = tt

    -- while references are given up it is unheld
    unheld_during : (phase : Phase) (release : Option Release) → IsSettledAt phase release
        → ((a : Activity) → Includes (death_activities o phase (waiting_for store o)) a → Includes w.stack a) → IsUnheldDuring store o release
    unheld_during phase None settled on = tt
    unheld_during phase_of.Calling (Some release) settled on = unheld_now (machine.Calling (waiting_for store o)) (on _ (inl refl)) (lawful.unheld _ (on _ (inl refl)))
    unheld_during phase_of.Emptying (Some release) settled on = unheld_now machine.Emptying (on _ (inl refl)) (lawful.unheld _ (on _ (inl refl)))
    unheld_during _ (Some release) settled on = absurd settled

  pub death_ready : (death : Death) → IsSettled death → ((a : Activity) → Includes (death_activities death.object death.phase (waiting_for store death.object))
      a → Includes w.stack a) → IsReadyForDeath death store
  death_ready death settled on = (ready_at death.object death.phase on, unheld_during death.object death.phase death.release settled on)
