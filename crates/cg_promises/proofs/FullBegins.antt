-- The start of a full collection: each candidate is kept, uncollectable, or condemned.
use Rattle.std.proofs.Common.{◌≡◌, refl, sym, ◌∙◌, ap, subst, ℕ, Bool, true, false, inl, inr, ◌⊎◌, List, [], ◌∷◌, Some}
use Rattle.std.specs.Prelude.{if◌then◌else◌, is_some, option_and_then}
use Rattle.cg_value.specs.declared.Place.TheVariants.{Untracked, Gen, Cand, Legacy}
use Rattle.cg_script.specs.declared.Script.{Script}
use Rattle.cg_graph.specs.Member.{Includes}
use Rattle.cg_graph.specs.Value.{references}
use Rattle.cg_graph.specs.Object.{Object, is_at, object_at, objects_at, same_place, serials, with_place}
use Rattle.cg_graph.specs.Reach.{edges, first, next as further}
use Rattle.cg_graph.proofs.Members.{either, cases_of, Includes-filter, Includes-filter_cases, Includes-map, Includes-map_cases}
use Rattle.cg_machine.specs.declared.event.Event.{Event}
use Rattle.cg_machine.specs.Program.{legacy_of}
use Rattle.cg_machine.specs.World.{World, Activity, Dying, Death, Collecting, Collection, Start, WeakClearing}
use Rattle.cg_machine.specs.Collect.{has_legacy, merged, members_at, IsMemberOf, StartStep}
use Rattle.cg_represents.specs.Orderly.{runs_own_frame}
use Rattle.cg_laws.proofs.Lookups.{at_member}
use Rattle.cg_represents.proofs.Serials.{Rises, Rises-map}
use Rattle.cg_laws.proofs.SetsApart.{stands_at}
use Rattle.cg_promises.specs.Reached.{IsReached}
use Rattle.cg_represents.proofs.Places.{place_is}
use Rattle.cg_promises.proofs.FullUncollectable.{IsAsideBy, IsLegacy}
use Rattle.cg_promises.proofs.DecidableReach.{reached_decided}
use Rattle.cg_promises.proofs.FullEarly.{Early}
use Rattle.cg_promises.proofs.FullKept.{anew, from_anew, place_anew, sorts}
use Rattle.cg_promises.proofs.FullSplit.{WasAside, WasGarbage, aside_garbage}
use Rattle.cg_promises.proofs.FullPlaces.{Alike, Stands, StandsSo, Reached, Loose, Condemned, SetAside}
use Rattle.cg_promises.proofs.FullStart.{edge_from, in_merge, member_tracked, unreached_garbage}
use Rattle.cg_promises.proofs.FinalizersDone.{IsWanted}
use Rattle.cg_promises.proofs.FinalSetStart.{edge}
use Rattle.cg_promises.proofs.UntrackedStay.{IsSlackWorld}

-- an object among the candidates
pub looked : (v : World) (o : ℕ) → IsMemberOf (merged 2 v) (Gen 2) o → (x : Object) × Includes v.objects x × (x.serial ≡ o) × Includes (objects_at (merged 2 v).objects (Gen 2)) (in_merge 2 x)
looked v o m =
    let z = stands_at (merged 2 v).objects (Gen 2) o m in
    let x = Includes-map_cases (in_merge 2) v.objects z.0 z.1 in
    (x.0, x.1, ap (λ (q : Object). q.serial) x.2 ∙ z.3, subst (λ q. Includes (objects_at (merged 2 v).objects (Gen 2)) q) (sym x.2) (Includes-filter (is_at (Gen 2)) (merged 2 v).objects z.0 z.2 z.1))

-- an uncollectable object has a legacy finalizer, or another uncollectable object refers to it
pub legacy_first : (script : Script) (v : World) → Rises 1 v.next_serial v.objects → (o : ℕ) → has_legacy script (merged 2 v) o ≡ true → IsMemberOf (merged 2 v)
    (Gen 2) o → IsLegacy script (WasAside script v) v.objects o
legacy_first script v rises o held inside =
    let x = looked v o inside in
    let found : object_at (merged 2 v).objects o ≡ Some (in_merge 2 x.0) = subst (λ n. object_at (merged 2 v).objects n ≡ Some (in_merge 2 x.0)) x.2
    (at_member 1 v.next_serial (merged 2 v).objects (in_merge 2 x.0) (Rises-map (in_merge 2) (λ q. refl) 1 v.next_serial v.objects rises)
    (Includes-map (in_merge 2) v.objects x.0 x.1)) in
    (x.0, x.1, x.2, sym (ap (λ m. is_some (option_and_then (legacy_of script) m)) found) ∙ held)

pub looked_edge : (v : World) (p o : ℕ) → Includes (edges (members_at (merged 2 v) (Gen 2))) (edge p o) → (x : Object) × Includes v.objects x × (x.serial ≡ p) × Includes (references x.entries) o
looked_edge v p o arrow =
    let y = edge_from (objects_at (merged 2 v).objects (Gen 2)) p o arrow in
    let x = Includes-map_cases (in_merge 2) v.objects y.0 (Includes-filter_cases (is_at (Gen 2)) (merged 2 v).objects y.0 y.1).0 in
    (x.0, x.1, ap (λ (q : Object). q.serial) x.2 ∙ y.2, subst (λ (q : Object). Includes (references q.entries) o) (sym x.2) y.3)

pub aside_by : (script : Script) (v : World) → Rises 1 v.next_serial v.objects → (o : ℕ) → WasAside script v o → IsAsideBy script (WasAside script v) v.objects o
aside_by script v rises o (first held inside) = inl (legacy_first script v rises o held inside.member)
aside_by script v rises o (further path arrow inside) = inr (by _ path arrow)
  where
    by : (p : ℕ) → WasAside script v p → Includes (edges (members_at (merged 2 v) (Gen 2))) (edge p o) → (x : Object) × Includes v.objects x
        × WasAside script v x.serial × Includes (references x.entries) o
    by p a arrow = let x = looked_edge v p o arrow in (x.0, x.1, subst (WasAside script v) (sym x.2) a, x.3)

module _ (script : Script) (c : Collection) (below : List Activity) (v : World) (events : List Event) (after : World) (top : v.stack ≡ Collecting c ∷ below)
    (phase : c.phase ≡ Start) (complete : c.generation ≡ 2) (rises : Rises 1 v.next_serial v.objects)
    (near : (x : Object) → Includes v.objects x → (x.place ≡ Untracked) ⊎ (is_at (Gen 2) (in_merge 2 x) ≡ true))
    (faded : (d : Death) → Includes v.stack (Dying d) → runs_own_frame d.phase ≡ false → (x : Object) → Includes v.objects x → x.serial ≡ d.object → x.place ≡ Untracked)
    (start : StartStep script v c below events after) (slack : IsSlackWorld v) (root : Includes (serials v.objects) 1) where
  abbrev kept : ℕ → Type 0
  kept o = IsReached v o

  abbrev garbage : ℕ → Type 0
  garbage o = WasGarbage v o

  abbrev aside : ℕ → Type 0
  aside o = WasAside script v o

  abbrev new : Object → Object
  new x = place_anew script c below v events after top phase complete rises near faded start (in_merge 2 x)

  module _ (x : Object) (m : Includes v.objects x) where
    abbrev old : Object
    old = in_merge 2 x

    -- a candidate
    module _ (t : is_at (Gen 2) old ≡ true) where
      abbrev placed : Object
      placed = with_place (start.places old) old

      at : Includes (objects_at (merged 2 v).objects (Gen 2)) old
      at = Includes-filter (is_at (Gen 2)) (merged 2 v).objects old t (Includes-map (in_merge 2) v.objects x m)

      member : IsMemberOf (merged 2 v) (Gen 2) x.serial
      member = Includes-map (λ (z : Object). z.serial) (objects_at (merged 2 v).objects (Gen 2)) old at

      put : aside x.serial → start.places old ≡ Legacy
      put a = (sorts script c below v events after top phase complete rises near faded start).set_aside old at a

      sent : garbage x.serial → ¬ aside x.serial → start.places old ≡ Cand
      sent g n = (sorts script c below v events after top phase complete rises near faded start).condemned old at g n

      garbage_stands : garbage x.serial → Stands kept garbage aside placed
      garbage_stands g = either (cases_of (same_place (start.places old) Legacy))
          (λ e. SetAside (place_is (start.places old) Legacy e) (λ n. let no : Legacy ≡ Cand = sym (place_is (start.places old) Legacy e) ∙ sent g n in cc))
          (λ f. let none : ¬ aside x.serial = (λ a. let no : true ≡ false = sym (ap (λ p. same_place p Legacy) (put a)) ∙ f in cc) in Condemned (subst IsWanted (sym (sent g none)) tt) g none)

      looked_stands : StandsSo kept garbage aside placed
      looked_stands = (either (reached_decided v x.serial) (λ k. Reached k) (λ n. garbage_stands (unreached_garbage v rises near slack root x.serial member n)), λ a. inl (put a))

    -- and one that is none
    untracked_stands : x.place ≡ Untracked → StandsSo kept garbage aside old
    untracked_stands u = (Loose (ap (λ p. (in_merge 2 (with_place p x)).place) u), λ a. absurd (member_tracked v rises near x.serial (aside_garbage script v x.serial a).member x m refl u))

    new_stands : StandsSo kept garbage aside (new x)
    new_stands = go (is_at (Gen 2) old) refl
      where
        go : (b : Bool) → is_at (Gen 2) old ≡ b → StandsSo kept garbage aside (if b then with_place (start.places old) old else old)
        go true t = looked_stands t
        go false f = either (near x m) (λ u. untracked_stands u) (λ t. absurd (let no : true ≡ false = sym t ∙ f in cc))

    new_alike : Alike script x (new x)
    new_alike = go (is_at (Gen 2) old)
      where
        go : (b : Bool) → Alike script x (if b then with_place (start.places old) old else old)
        go true = record { serial = refl; entries = refl; legacy = refl }
        go false = record { serial = refl; entries = refl; legacy = refl }

  pub begins_early : Early script kept garbage aside v.objects v.names below after
  begins_early = record {
    collection = record c { phase = WeakClearing [] };
    is = ap (λ (w : World). w.stack) start.world;
    early = tt;
    same = ap (λ (w : World). w.names) start.world;
    alike = record {
      there = λ x m. (new x, anew script c below v events after top phase complete rises near faded start x m, new_alike x m);
      back = λ y m. let x = from_anew script c below v events after top phase complete rises near faded start y m in (x.0, x.1, subst (Alike script x.0) x.2 (new_alike x.0 x.1));
    };
    stands = λ y m. let x = from_anew script c below v events after top phase complete rises near faded start y m in subst (StandsSo kept garbage aside) x.2 (new_stands x.0 x.1);
  }
