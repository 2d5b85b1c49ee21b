-- When a collection stops, each member of its final set has been freed. Otherwise the living member with the largest serial would
-- be held by a tuple with a larger one.
use Rattle.std.proofs.Common.{◌≡◌, ◌≢◌, refl, sym, subst, ℕ, zero, suc, ◌+◌, ◌≤◌, true, inl, inr, ◌⊎◌, List, [], ◌∷◌, ◌++◌, length, arith}
use Rattle.std.specs.Prelude.{flat_map}
use Rattle.std.specs.List.{list_any}
use Rattle.cg_value.specs.declared.Place.TheVariants.{Cand}
use Rattle.cg_script.specs.declared.Script.{Script}
use Rattle.cg_graph.specs.Member.{Includes}
use Rattle.cg_graph.specs.Value.{references}
use Rattle.cg_graph.specs.Object.{Object, serials}
use Rattle.cg_graph.proofs.Members.{either, Includes-append_cases, Includes-append_left, Includes-append_right, Includes-map, Includes-map_cases}
use Rattle.cg_machine.specs.declared.event.Event.TheVariants.{Free}
use Rattle.cg_machine.specs.World.{World, Activity, Dying, Collecting, Collection, Ending, opening}
use Rattle.cg_machine.specs.Holdings.{collect_holds, holds, is_death_of}
use Rattle.cg_machine.specs.Run.{Run, StepTaken, events_of, last_world}
use Rattle.cg_laws.specs.Laws.{FinalSetIsFreed, final_set}
use Rattle.cg_laws.proofs.Ending.{last_world-append}
use Rattle.cg_laws.proofs.Unreferred.{lives_within}
use Rattle.cg_laws.proofs.OriginsOfRuns.{opening_origin}
use Rattle.cg_represents.proofs.Serials.{Rises}
use Rattle.cg_represents.proofs.Representing.{death_found}
use Rattle.cg_laws.specs.Apart.{IsApart, StandsRightly}
use Rattle.cg_laws.proofs.RunsApart.{runs_apart}
use Rattle.cg_promises.proofs.HoldersMove.{IsMinded}
use Rattle.cg_promises.proofs.HoldersMoveRuns.{minded_after, opening_minded}
use Rattle.cg_promises.proofs.FinalSet.{Clears, Excused, IsOutOf}
use Rattle.cg_promises.proofs.FinalSetRuns.{IsSealedWorld, sealed_after, step_keeps_on}
use Rattle.cg_promises.proofs.FinalSetKept.{starts_sealed_world}
use Rattle.cg_laws.proofs.LinesNameLive.{filter_lives}
use Rattle.cg_promises.proofs.FinalizerOnceRuns.{Fit, opening_fit, run_back, run_front, run_fit, step_fit, step_goes}

-- what several activities hold, one of them holds
held_in : (n : ℕ) (stack : List Activity) → Includes (flat_map holds stack) n → (a : Activity) × Includes stack a × Includes (holds a) n
held_in n [] m = absurd m
held_in n (a ∷ stack) m = either (Includes-append_cases (holds a) (flat_map holds stack) n m) (λ k. (a, inl refl, k)) (λ k. let b = held_in n stack k in (b.0, inr b.1, b.2))

-- at the end of the collection no member lives
module _ (script : Script) (members : List ℕ) (k : ℕ) (c : Collection) (below : List Activity) (v : World) (ending : c.phase ≡ Ending) (top : v.stack
    ≡ Collecting c ∷ below) (rises : Rises 1 v.next_serial v.objects) (sealed : IsSealedWorld script members v) (minded : IsMinded k v)
    (apart : (x : Object) → Includes v.objects x → x.place ≢ Cand) where
  under : (b : Activity) → Includes below b → IsOutOf members b
  under = subst (Clears members) top sealed.under

  not_dying : (n : ℕ) → Includes members n → ¬ (list_any (is_death_of n) v.stack ≡ true)
  not_dying n m e = let d = death_found n below (subst (λ st. list_any (is_death_of n) st ≡ true) top e) in (under (Dying d.0) d.1).no_death d.0 refl (subst (Includes members) (sym d.2) m)

  not_held : (n : ℕ) → Includes members n → ¬ Includes (flat_map holds v.stack) n
  not_held n m i = either (Includes-append_cases (collect_holds c.phase) (flat_map holds below) n (subst (λ st. Includes (flat_map holds st) n) top i))
      (λ h. subst (λ p. Includes (collect_holds p) n) ending h)
      (λ h. let a = held_in n below h in (under a.0 a.1).holds_none n a.2 m)

  none_from : (fuel : ℕ) (x : Object) → Includes v.objects x → Includes members x.serial → v.next_serial ≤ x.serial + fuel → ⊥
  none_from zero x m k high = let within = lives_within 1 v.next_serial v.objects x.serial rises (Includes-map (λ (z : Object). z.serial) v.objects x m) in omega (arith, within.1, high)
  none_from (suc fuel) x m k high = not_dying x.serial k (minded.minds x.serial (Includes-map (λ (z : Object). z.serial) v.objects x m) (record {
    names_none = sealed.unnamed x.serial k;
    root_not = λ e. let low = sealed.above x.serial k in omega (arith, low, e);
    entries_none = λ y i r. holder (λ z i inside more. none_from fuel z i inside more) y i r (sealed.entries y i x.serial k r) (sealed.excused y i (sealed.entries y i x.serial k r));
    stack_none = not_held x.serial k;
  }))
    where
      holder : ((z : Object) → Includes v.objects z → Includes members z.serial → v.next_serial ≤ z.serial + fuel → ⊥) → (y : Object) → Includes v.objects y
          → Includes (references y.entries) x.serial → Includes members y.serial → Excused v.stack y → ⊥
      holder rest y i r inside (inl tuple) = let low = (minded.single y i).1 tuple x.serial r in rest y i inside (omega (arith, low, high))
      holder rest y i r inside (inr (inl bare)) = bare x.serial r
      holder rest y i r inside (inr (inr (inl dies))) = not_dying y.serial inside dies
      holder rest y i r inside (inr (inr (inr waits))) = apart y i waits.0

  pub none_lives : (o : ℕ) → Includes members o → ¬ Includes (serials v.objects) o
  none_lives o k m = let x = Includes-map_cases (λ (z : Object). z.serial) v.objects o m in none_from v.next_serial x.0 x.1 (subst (Includes members) (sym x.2) k) (omega arith)

-- a living object stays or is freed
run_lasts : (script : Script) (w : World) (steps : List StepTaken) → Run script w steps → Fit script w → (n : ℕ) → Includes (serials w.objects) n
    → Includes (serials (last_world w steps).objects) n ⊎ Includes (events_of steps) (Free n)
run_lasts script w [] run fit n m = inl m
run_lasts script w (step ∷ steps) run fit n m = either ((step_goes script w step.events step.world run.0 fit).lasts n m)
    (λ l. either (run_lasts script step.world steps run.1 (step_fit script w step.events step.world run.0 fit) n l) (λ k. inl k)
    (λ k. inr (Includes-append_right step.events (events_of steps) (Free n) k)))
    (λ f. inr (Includes-append_left step.events (events_of steps) (Free n) f))

pub final_set_freed : FinalSetIsFreed
final_set_freed script budget before split during stop known run splits none more o k =
    let all = run_front script (opening script budget) (before ++ split ∷ during) (stop ∷ []) run in
    let front = run_front script (opening script budget) before (split ∷ during) all in
    let rest = run_back script (opening script budget) before (split ∷ during) all in
    let fit_before = run_fit script (opening script budget) before front (opening_fit script budget) in
    let fit_now = step_fit script (last_world (opening script budget) before) split.events split.world rest.0 fit_before in
    let same = last_world-append (opening script budget) before (split ∷ during) in
    let last = subst (λ v. Run script v (stop ∷ [])) same (run_back script (opening script budget) (before ++ split ∷ during) (stop ∷ []) run) in
    let w = last_world split.world during in
    let fit_last = run_fit script split.world during rest.1 fit_now in
    let sealed = (sealed_after script (final_set split) split.world during rest.1 fit_now none (starts_sealed_world script budget before split front rest.0 splits)).0 in
    let ends = (step_keeps_on script (final_set split) w stop.events stop.world last.0 fit_last sealed).ends more in
    let minded = subst (IsMinded (length script.names)) same (minded_after script known (opening script budget) (before ++ split ∷ during) all
    (opening_fit script budget) (opening_origin script budget) (opening_minded script known budget)) in
    let apart : IsApart w = subst IsApart same (runs_apart script budget (before ++ split ∷ during) all) in
    let late = λ (x : Object) (m : Includes w.objects x). stands_late ends.0 ends.3 x (apart.phases ends.0 (subst (λ st. Includes st (Collecting ends.0)) (sym ends.2) (inl refl)) x m) in
    either (run_lasts script split.world during rest.1 fit_now o (filter_lives _ split.world.objects o k))
    (λ lives. absurd (none_lives script (final_set split) (length script.names) ends.0 ends.1 w ends.3 ends.2 fit_last.sound.rises sealed minded late o k lives))
    (λ freed. freed)
  where
    stands_late : (c : Collection) → c.phase ≡ Ending → (x : Object) → StandsRightly c.phase x → x.place ≢ Cand
    stands_late c e x h = (subst (λ p. StandsRightly p x) e h).1
