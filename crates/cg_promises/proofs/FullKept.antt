-- From the start of a full collection to its stop, if no frame begins: what was reachable at the start stays reachable.
use Rattle.std.proofs.Common.{◌≡◌, refl, sym, ◌∙◌, ap, subst, ℕ, Bool, true, false, inl, inr, ◌⊎◌, List, [], ◌∷◌, ◌++◌}
use Rattle.std.specs.Prelude.{count_by, if◌then◌else◌}
use Rattle.std.proofs.lemmas.List.{append_assoc}
use Rattle.cg_value.specs.declared.Place.TheVariants.{Untracked, Gen}
use Rattle.cg_script.specs.declared.Script.{Script}
use Rattle.cg_graph.specs.Member.{Includes}
use Rattle.cg_graph.specs.Value.{references}
use Rattle.cg_graph.specs.Object.{Object, is_at, objects_at, serials, with_place}
use Rattle.cg_graph.specs.Holdings.{graph_of}
use Rattle.cg_graph.specs.Reach.{edges, first, next as further}
use Rattle.cg_graph.proofs.Members.{either, Includes-filter, Includes-map, Includes-map_cases}
use Rattle.cg_machine.specs.declared.event.Event.{Event}
use Rattle.cg_machine.specs.World.{World, Activity, Dying, Death, Collecting, Collection, Start, WeakClearing}
use Rattle.cg_machine.specs.Holdings.{collect_holds}
use Rattle.cg_machine.specs.Collect.{is_condemned, merged, sorted, untrack, untracked_if, Sorts, StartStep}
use Rattle.cg_machine.specs.Run.{Run, StepTaken, events_of, last_world}
use Rattle.cg_laws.specs.Laws.{is_enter, is_stop}
use Rattle.cg_represents.specs.Orderly.{runs_own_frame}
use Rattle.cg_laws.proofs.Condemned.{survivor_uncondemned}
use Rattle.cg_represents.proofs.Serials.{Rises}
use Rattle.cg_promises.specs.Reached.{IsReached}
use Rattle.cg_promises.proofs.FullStart.{edge_from, in_merge, reached_survives}
use Rattle.cg_promises.proofs.FullRuns.{IsFullAt, IsRoot, full_after, reached_lasts, root_down, root_of, root_up}
use Rattle.cg_promises.proofs.Kept.{IsKeptBy}
use Rattle.cg_promises.proofs.FinalSetStart.{edge}
use Rattle.cg_promises.proofs.FinalizerOnceRuns.{Fit}

module _ (script : Script) (c : Collection) (below : List Activity) (v : World) (events : List Event) (after : World) (top : v.stack ≡ Collecting c ∷ below)
    (phase : c.phase ≡ Start) (complete : c.generation ≡ 2) (rises : Rises 1 v.next_serial v.objects)
    (near : (x : Object) → Includes v.objects x → (x.place ≡ Untracked) ⊎ (is_at (Gen 2) (in_merge 2 x) ≡ true))
    (faded : (d : Death) → Includes v.stack (Dying d) → runs_own_frame d.phase ≡ false → (x : Object) → Includes v.objects x → x.serial ≡ d.object → x.place ≡ Untracked)
    (start : StartStep script v c below events after) where
  abbrev kept : ℕ → Type 0
  kept o = IsReached v o

  abbrev pub objects_now : List Object
  objects_now = (merged 2 v).objects

  pub sorts : Sorts script 2 (merged 2 v) start.chosen start.places
  sorts = subst (λ g. Sorts script g (merged g v) start.chosen start.places) complete start.sorts

  pub objects_after : after.objects ≡ sorted 2 start.places objects_now
  objects_after = ap (λ (w : World). w.objects) start.world ∙ ap (λ g. sorted g start.places (merged g v).objects) complete

  abbrev pub place_anew : Object → Object
  place_anew x = if is_at (Gen 2) x then with_place (start.places x) x else x

  same_serial : (b : Bool) (x : Object) → (if b then with_place (start.places x) x else x).serial ≡ x.serial
  same_serial true x = refl
  same_serial false x = refl

  same_entries : (b : Bool) (x : Object) (o : ℕ) → Includes (references x.entries) o → Includes (references (if b then with_place (start.places x) x else x).entries) o
  same_entries true x o m = m
  same_entries false x o m = m

  clear_anew : (x : Object) → Includes v.objects x → kept x.serial → is_condemned (place_anew (in_merge 2 x)) ≡ false
  clear_anew x m path = go (is_at (Gen 2) (in_merge 2 x)) refl
    where
      go : (b : Bool) → is_at (Gen 2) (in_merge 2 x) ≡ b → is_condemned (if b then with_place (start.places (in_merge 2 x)) (in_merge 2 x) else in_merge 2 x) ≡ false
      go true t =
          let at = Includes-filter (is_at (Gen 2)) objects_now (in_merge 2 x) t (Includes-map (in_merge 2) v.objects x m) in
          let lives_on = reached_survives v rises near faded x.serial path (Includes-map (λ (z : Object). z.serial) (objects_at objects_now (Gen 2)) (in_merge 2 x) at) in
          ap (λ p. is_condemned (with_place p (in_merge 2 x))) (sorts.survivors (in_merge 2 x) at lives_on)
          ∙ survivor_uncondemned 2 (untrack 2 start.chosen objects_now) (untracked_if (start.chosen (in_merge 2 x)) (in_merge 2 x)) (in_merge 2 x)
      go false f = either (near x m) (λ u. ap (λ p. is_condemned (with_place p x)) (ap (λ p. (in_merge 2 (with_place p x)).place) u)) (λ t. absurd (let no : true ≡ false = sym t ∙ f in cc))

  pub anew : (x : Object) → Includes v.objects x → Includes after.objects (place_anew (in_merge 2 x))
  anew x m = subst (λ os. Includes os (place_anew (in_merge 2 x))) (sym objects_after) (Includes-map place_anew objects_now (in_merge 2 x) (Includes-map (in_merge 2) v.objects x m))

  pub from_anew : (y : Object) → Includes after.objects y → (x : Object) × Includes v.objects x × (place_anew (in_merge 2 x) ≡ y)
  from_anew y m =
      let z = Includes-map_cases place_anew objects_now y (subst (λ os. Includes os y) objects_after m) in
      let x = Includes-map_cases (in_merge 2) v.objects z.0 z.1 in
      (x.0, x.1, ap place_anew x.2 ∙ z.2)

  pub serial_anew : (x : Object) → (place_anew (in_merge 2 x)).serial ≡ x.serial
  serial_anew x = same_serial (is_at (Gen 2) (in_merge 2 x)) (in_merge 2 x)

  pub held : (o : ℕ) → kept o → IsKeptBy kept after.objects v.names below o
  held o (first rooted inside) = by_root (root_down v.names c below o (ap collect_holds phase) (subst (λ st. IsRoot v.names st o) top (root_of v o rooted)))
    where
      by_root : IsRoot v.names below o → IsKeptBy kept after.objects v.names below o
      by_root (inl m) = inl m
      by_root (inr (inl e)) = inr (inl e)
      by_root (inr (inr (inl m))) = inr (inr (inl m))
      by_root (inr (inr (inr e))) = inr (inr (inr (inl e)))
  held o (further path arrow inside) = by_arrow _ path arrow
    where
      by_arrow : (p : ℕ) → kept p → Includes (edges (graph_of v.objects)) (edge p o) → IsKeptBy kept after.objects v.names below o
      by_arrow p was arrow =
          let x = edge_from v.objects p o arrow in
          inr (inr (inr (inr (place_anew (in_merge 2 x.0), anew x.0 x.1, subst kept (sym (serial_anew x.0 ∙ x.2)) was, same_entries (is_at (Gen 2) (in_merge 2 x.0)) (in_merge 2 x.0) o x.3))))

  inside_of : (o : ℕ) → kept o → Includes (serials v.objects) o
  inside_of o (first rooted inside) = inside
  inside_of o (further path arrow inside) = inside

  pub there : (o : ℕ) → kept o → (x : Object) × Includes after.objects x × (x.serial ≡ o)
  there o k = let x = Includes-map_cases (λ (z : Object). z.serial) v.objects o (inside_of o k) in (place_anew (in_merge 2 x.0), anew x.0 x.1, serial_anew x.0 ∙ x.2)

  begins_full : IsFullAt script kept after.objects below v.names held there after
  begins_full = record {
    same = ap (λ (w : World). w.names) start.world;
    full = record {
      tops = [];
      collection = record c { phase = WeakClearing [] };
      is = ap (λ (w : World). w.stack) start.world;
      bare = λ a m. absurd m;
      turn = λ o m. absurd m;
      begun = λ e. cc;
      lives = λ y m k. let x = from_anew y m in (
        y,
        m,
        record {
          serial = refl;
          refers = λ o i. i;
          clear = ap is_condemned (sym x.2)
              ∙ clear_anew x.0 x.1 (subst kept (sym (ap (λ (z : Object). z.serial) x.2) ∙ serial_anew x.0) k);
        },
      );
    };
  }

  -- until the stop
  module _ (steps : List StepTaken) (stop : StepTaken) (run : Run script after (steps ++ stop ∷ [])) (fit : Fit script after)
      (quiet : count_by is_enter (events_of steps) ≡ 0) (on : count_by is_stop (events_of steps) ≡ 0) where
    pub full_then : IsFullAt script kept after.objects below v.names held there (last_world after steps)
    full_then = full_after script kept after.objects below v.names held there after steps stop run fit quiet on begins_full

    pub reached_then : (o : ℕ) → IsReached v o → IsReached (last_world after steps) o
    reached_then = reached_lasts v (last_world after steps)
        (λ o r. subst (λ ns. IsRoot ns (last_world after steps).stack o) (sym full_then.same) (subst (λ st. IsRoot v.names st o)
        (sym (full_then.full.is ∙ sym (append_assoc full_then.full.tops (Collecting full_then.full.collection ∷ []) below)))
        (root_up v.names (full_then.full.tops ++ Collecting full_then.full.collection ∷ []) below o (root_down v.names c below o (ap collect_holds phase) (subst (λ st. IsRoot v.names st o) top r)))))
        (λ x m k. let y = full_then.full.lives (place_anew (in_merge 2 x)) (anew x m) (subst kept (sym (serial_anew x)) k) in
        (y.0, y.1, y.2.serial ∙ serial_anew x, λ o i. y.2.refers o (same_entries (is_at (Gen 2) (in_merge 2 x)) (in_merge 2 x) o i)))
