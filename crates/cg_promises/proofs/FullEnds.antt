-- When a full collection in which no frame began stops, every tracked object is reachable.
use Rattle.std.proofs.Common.{◌≡◌, ◌≢◌, refl, sym, ◌∙◌, ap, subst, ℕ, Bool, true, false, ◌&&◌, inl, inr, List, [], ◌∷◌, ◌++◌, map, arith}
use Rattle.std.specs.Prelude.{◌==◌, filter, if◌then◌else◌, is_some}
use Rattle.cg_value.specs.declared.Val.TheVariants.{Ref}
use Rattle.cg_value.specs.declared.Place.TheVariants.{Untracked, Gen, Legacy}
use Rattle.cg_script.specs.declared.Script.{Script}
use Rattle.cg_graph.specs.Member.{Includes}
use Rattle.cg_graph.specs.Value.{item}
use Rattle.cg_graph.specs.Object.{Object, is_at, same_place, serials, with_entries, with_place}
use Rattle.cg_graph.specs.Holdings.{graph_of}
use Rattle.cg_graph.specs.Reach.{edges, first, next as further}
use Rattle.cg_graph.proofs.Members.{either, or_right, Includes-filter, Includes-map, Includes-map_cases}
use Rattle.cg_machine.specs.declared.event.Event.{Event}
use Rattle.cg_machine.specs.Program.{legacy_of}
use Rattle.cg_machine.specs.World.{World, Activity, Collection}
use Rattle.cg_machine.specs.Collect.{all_saved, has_flag, is_saved, members_at, merged, older, save_all, saved, EndStep}
use Rattle.cg_represents.proofs.Lists.{Includes-of_count, present}
use Rattle.cg_represents.proofs.Serials.{Rises}
use Rattle.cg_promises.specs.Reached.{IsReached}
use Rattle.cg_promises.proofs.FullUncollectable.{AllWait, IsLegacy}
use Rattle.cg_promises.proofs.FullBegins.{legacy_first, looked, looked_edge}
use Rattle.cg_promises.proofs.DecidableReach.{reached_decided}
use Rattle.cg_promises.proofs.FullRuns.{rooted_by}
use Rattle.cg_promises.proofs.FullSaved.{IsNamed, all_saved_named, named_on}
use Rattle.cg_promises.proofs.FullSplit.{WasAside, aside_garbage}
use Rattle.cg_promises.proofs.FullPlaces.{Rests, RestsSo, RestsReached, RestsLoose, RestsAside, IsFinal}
use Rattle.cg_promises.proofs.FullStop.{Grows, all_saved_grow, grows_trans, test_grows}
use Rattle.cg_promises.proofs.FinalSetStart.{edge, edge_of}

-- saved objects stay where they were
abbrev pub InPlace : List Object → Object → Type 0
InPlace before y = (x : Object) × Includes before x × (x.serial ≡ y.serial) × (x.place ≡ y.place)

saved_place : (o : ℕ) (objects : List Object) (y : Object) → Includes (saved o objects) y → InPlace objects y
saved_place o objects y m =
    let x = Includes-map_cases (λ x. if x.serial == 1 then with_entries (x.entries ++ item (Ref o) ∷ []) x else x) objects y m in
    let both = go (x.0.serial == 1) x.0 y x.2 in
    (x.0, x.1, both.0, both.1)
  where
    go : (b : Bool) (x y : Object) → (if b then with_entries (x.entries ++ item (Ref o) ∷ []) x else x) ≡ y → (x.serial ≡ y.serial) × (x.place ≡ y.place)
    go true x y e = (ap (λ (q : Object). q.serial) e, ap (λ (q : Object). q.place) e)
    go false x y e = (ap (λ (q : Object). q.serial) e, ap (λ (q : Object). q.place) e)

all_saved_place : (keeps : List ℕ) (objects : List Object) (y : Object) → Includes (all_saved keeps objects) y → InPlace objects y
all_saved_place [] objects y m = (y, m, refl, refl)
all_saved_place (o ∷ keeps) objects y m =
    let x = all_saved_place keeps (saved o objects) y m in
    let z = saved_place o objects x.0 x.1 in
    (z.0, z.1, z.2 ∙ x.2, z.3 ∙ x.3)

module _ (script : Script) (v : World) (rises : Rises 1 v.next_serial v.objects) (members : List ℕ) (c : Collection) (below : List Activity) (u : World)
    (events : List Event) (z : World) (step : EndStep script c below u events z)
    (kept_on : (o : ℕ) → IsReached v o → IsReached z o) (root : Includes (serials u.objects) 1) (wait : AllWait script (WasAside script v) v.objects u.objects [])
    (rests : (y : Object) → Includes u.objects y → RestsSo (IsReached v) (WasAside script v) members y) (final : (y : Object) → Includes u.objects y
    → Includes members y.serial → IsNamed u.objects y.serial) where
  abbrev told : List Object
  told = all_saved step.keeps u.objects

  abbrev aged : List Object
  aged = map (λ x. if is_at Legacy x then with_place (Gen (older c.generation)) x else x) told

  objects_are : z.objects ≡ aged
  objects_are = ap (λ (w : World). w.objects) step.world

  aged_grow : Grows told aged
  aged_grow = test_grows (with_place (Gen (older c.generation))) (is_at Legacy) told (λ x. refl) (λ x o i. i)

  grown : Grows u.objects z.objects
  grown = subst (Grows u.objects) (sym objects_are) (grows_trans u.objects told aged (all_saved_grow step.keeps u.objects) aged_grow)

  lives : (y : Object) → Includes u.objects y → Includes (serials z.objects) y.serial
  lives y m = let x = grown y m in subst (Includes (serials z.objects)) x.2 (Includes-map (λ (q : Object). q.serial) z.objects x.0 x.1)

  root_lives : Includes (serials z.objects) 1
  root_lives = let x = Includes-map_cases (λ (q : Object). q.serial) u.objects 1 root in subst (Includes (serials z.objects)) x.2 (lives x.0 x.1)

  -- what the garbage list names is reachable
  named_reached : (n : ℕ) → IsNamed z.objects n → Includes (serials z.objects) n → IsReached z n
  named_reached n y there = further (subst (IsReached z) (sym y.2) (first (rooted_by z 1 (inr (inl refl))) root_lives)) (edge_of z.objects y.0 n y.1 y.3) there

  -- an uncollectable object is saved if its class has a legacy finalizer
  is_kept : (y : Object) → Includes u.objects y → y.place ≡ Legacy → is_some (legacy_of script y) ≡ true → Includes step.keeps y.serial
  is_kept y m e l =
      let passes : is_saved script c y ≡ true = both (ap (λ p. same_place p Legacy) e) (or_right (has_flag c.flags save_all) (is_some (legacy_of script y)) l) in
      let there = Includes-map (λ (q : Object). q.serial) (filter (is_saved script c) u.objects) y (Includes-filter (is_saved script c) u.objects y passes m) in
      let more = present y.serial (serials (filter (is_saved script c) u.objects)) there in
      Includes-of_count y.serial step.keeps (let same = step.keeps_order y.serial in omega (arith, more, same))
    where
      both : {a b : Bool} → a ≡ true → b ≡ true → (a && b) ≡ true
      both {a} {b} p q = subst (λ x. (x && b) ≡ true) (sym p) q

  first_reached : (o : ℕ) → WasAside script v o → IsLegacy script (WasAside script v) v.objects o → IsReached z o
  first_reached o a l =
      let y = wait l.0 l.1 (subst (WasAside script v) (sym l.2) a) in
      let kept = is_kept y.0 y.1 (either y.2.place (λ e. e) (λ d. absurd d.1)) (ap (λ m. is_some m) y.2.legacy ∙ l.3) in
      let named = named_on told z.objects y.0.serial (subst (Grows told) (sym objects_are) aged_grow) (all_saved_named step.keeps u.objects y.0.serial kept root) in
      subst (IsReached z) (y.2.serial ∙ l.2) (named_reached y.0.serial named (lives y.0 y.1))

  aside_lives : (o : ℕ) → WasAside script v o → Includes (serials z.objects) o
  aside_lives o a =
      let x = looked v o (aside_garbage script v o a).member in
      let y = wait x.0 x.1 (subst (WasAside script v) (sym x.2) a) in
      subst (Includes (serials z.objects)) (y.2.serial ∙ x.2) (lives y.0 y.1)

  next_reached : (p o : ℕ) → WasAside script v p → WasAside script v o → IsReached z p → Includes (edges (members_at (merged 2 v) (Gen 2))) (edge p o) → IsReached z o
  next_reached p o a b path arrow =
      let x = looked_edge v p o arrow in
      let y = wait x.0 x.1 (subst (WasAside script v) (sym x.2) a) in
      let q = grown y.0 y.1 in
      further path (subst (λ n. Includes (edges (graph_of z.objects)) (edge n o)) (q.2 ∙ y.2.serial ∙ x.2) (edge_of z.objects q.0 o q.1 (q.3 o (y.2.refers o x.3)))) (aside_lives o b)

  aside_reached : (o : ℕ) → WasAside script v o → IsReached z o
  aside_reached o (first held inside) = first_reached o (first held inside) (legacy_first script v rises o held inside.member)
  aside_reached o (further path arrow inside) = next_reached _ o path (further path arrow inside) (aside_reached _ path) arrow

  -- where a tracked object was
  was_tracked : (x : Object) → Includes z.objects x → (y : Object) × Includes u.objects y × (y.serial ≡ x.serial) × (y.place ≡ Untracked → x.place ≡ Untracked)
  was_tracked x m =
      let q = Includes-map_cases (λ y. if is_at Legacy y then with_place (Gen (older c.generation)) y else y) told x (subst (λ os. Includes os x) objects_are m) in
      let y = all_saved_place step.keeps u.objects q.0 q.1 in
      let both = go y.0 q.0 y.2 y.3 (is_at Legacy q.0) refl q.2 in
      (y.0, y.1, both.0, both.1)
    where
      go : (y q : Object) → y.serial ≡ q.serial → y.place ≡ q.place → (b : Bool) → is_at Legacy q ≡ b → (if b then with_place (Gen (older c.generation)) q
          else q) ≡ x → (y.serial ≡ x.serial) × (y.place ≡ Untracked → x.place ≡ Untracked)
      go y q s p true t e = (s ∙ ap (λ (r : Object). r.serial) e, λ i. absurd (let no : false ≡ true = sym (ap (λ k. same_place k Legacy) (sym p ∙ i)) ∙ t in cc))
      go y q s p false t e = (s ∙ ap (λ (r : Object). r.serial) e, λ i. sym (ap (λ (r : Object). r.place) e) ∙ sym p ∙ i)

  pub tracked_reached : (x : Object) → Includes z.objects x → x.place ≢ Untracked → IsReached z x.serial
  tracked_reached x m tracked = let y = was_tracked x m in subst (IsReached z) y.2 (go y.0 y.1 (λ e. tracked (y.3 e)) (rests y.0 y.1).0)
    where
      go : (y : Object) → Includes u.objects y → y.place ≢ Untracked → Rests (IsReached v) (WasAside script v) members y → IsReached z y.serial
      go y i t (RestsReached k) = kept_on y.serial k
      go y i t (RestsLoose e) = absurd (t e)
      go y i t (RestsAside e a) = either (reached_decided z y.serial) (λ r. r) (λ n. absurd (a (λ k. n (aside_reached y.serial k))))
      go y i t (IsFinal k) = named_reached y.serial (named_on u.objects z.objects y.serial grown (final y i k)) (lives y i)
