-- What is reachable where a full collection is about to start stays reachable until its stop, if no frame begins.
use Rattle.std.proofs.Common.{◌≡◌, sym, ◌∙◌, subst, ℕ, ◌+◌, true, false, inl, inr, ◌⊎◌, List, [], ◌∷◌, ◌++◌, Option, arith}
use Rattle.std.specs.Prelude.{cond, count_by, flat_map}
use Rattle.std.specs.List.{list_any}
use Rattle.std.proofs.lemmas.List.Sums.{sum_by-append}
use Rattle.cg_value.specs.declared.Val.{Val}
use Rattle.cg_script.specs.declared.Script.{Script}
use Rattle.cg_graph.specs.Member.{Includes, includes}
use Rattle.cg_graph.specs.Value.{references}
use Rattle.cg_graph.specs.Object.{Object, serials}
use Rattle.cg_graph.specs.Holdings.{entry_holdings, graph_of, name_holdings, occurrences}
use Rattle.cg_graph.specs.Reach.{edges, first, next as further}
use Rattle.cg_graph.proofs.Objects.{occurrences-append}
use Rattle.cg_graph.proofs.Members.{either, cases_of, Includes-map, Includes-map_cases, Includes-of, includes-of}
use Rattle.cg_machine.specs.declared.event.Event.{Event}
use Rattle.cg_machine.specs.World.{World, Activity, Collecting, Collection, Running, with_stack}
use Rattle.cg_machine.specs.Holdings.{collect_holds, holdings, holds, is_death_of}
use Rattle.cg_machine.specs.Run.{Run, Step, StepOf, StepTaken, events_of, last_world}
use Rattle.cg_laws.specs.Laws.{IsRooted, is_enter, is_stop}
use Rattle.cg_represents.proofs.Lists.{present, no_times}
use Rattle.cg_promises.specs.Reached.{IsReached}
use Rattle.cg_promises.proofs.FullStart.{edge_from}
use Rattle.cg_promises.proofs.Kept.{Full, IsKeptBy, death_in, held_in}
use Rattle.cg_promises.proofs.KeptRuns.{step_full}
use Rattle.cg_promises.proofs.FinalSetRuns.{none_first}
use Rattle.cg_promises.proofs.FinalSetStart.{edge, edge_of}
use Rattle.cg_promises.proofs.FinalizerOnceRuns.{Fit, step_fit}

pub enters_first : (xs ys : List Event) → count_by is_enter (xs ++ ys) ≡ 0 → (count_by is_enter xs ≡ 0) × (count_by is_enter ys ≡ 0)
enters_first xs ys e = let all : count_by is_enter (xs ++ ys) ≡ count_by is_enter xs + count_by is_enter ys = sum_by-append (λ x. cond (is_enter x) 1 0) xs ys
    in (omega (arith, all, e), omega (arith, all, e))

-- a next step
pub running_still : (script : Script) (w : World) (steps : List StepTaken) (stop : StepTaken) → Run script w (steps ++ stop ∷ []) → w.outcome ≡ Running
running_still script w [] stop run = run.0.running
running_still script w (step ∷ steps) stop run = run.0.running

module _ (script : Script) (kept : ℕ → Type 0) (start : List Object) (below : List Activity) (names : List (Option Val)) (held : (o : ℕ) → kept o
    → IsKeptBy kept start names below o) (there : (o : ℕ) → kept o → (x : Object) × Includes start x × (x.serial ≡ o)) where
  pub record IsFullAt (w : World) : Type 0 where
    pub same : w.names ≡ names
    pub full : Full kept start below w.objects w.stack

  one_step : (w : World) (events : List Event) (after : World) → Step script w events after → Fit script w → count_by is_enter events ≡ 0
      → count_by is_stop events ≡ 0 → after.outcome ≡ Running → IsFullAt w → IsFullAt after
  one_step w events after step fit quiet on running h =
      let next = step_full script kept start below w fit.sound.rises (λ o k. subst (λ ns. IsKeptBy kept start ns below o) (sym h.same) (held o k)) there
      h.full.lives events after quiet on running h.full.tops h.full.collection h.full.bare h.full.turn h.full.begun
      (subst (λ st. StepOf script (with_stack st w) st events after) h.full.is step.step) in
      record { same = next.names ∙ h.same; full = next.full }

  pub full_after : (w : World) (steps : List StepTaken) (stop : StepTaken) → Run script w (steps ++ stop ∷ []) → Fit script w
      → count_by is_enter (events_of steps) ≡ 0 → count_by is_stop (events_of steps) ≡ 0 → IsFullAt w → IsFullAt (last_world w steps)
  full_after w [] stop run fit quiet on h = h
  full_after w (step ∷ steps) stop run fit quiet on h =
      let q = enters_first step.events (events_of steps) quiet in
      let n = none_first step.events (events_of steps) on in
      full_after step.world steps stop run.1 (step_fit script w step.events step.world run.0 fit) q.1 n.1
      (one_step w step.events step.world run.0 fit q.0 n.0 (running_still script step.world steps stop run.1) h)

-- the roots of a world with such a stack
abbrev pub IsRoot : List (Option Val) → List Activity → ℕ → Type 0
IsRoot names below o = Includes (name_holdings names) o ⊎ ((o ≡ 1) ⊎ (Includes (flat_map holds below) o ⊎ (list_any (is_death_of o) below ≡ true)))

-- a collection that holds nothing is no death
pub root_down : (names : List (Option Val)) (c : Collection) (below : List Activity) (o : ℕ) → collect_holds c.phase ≡ [] → IsRoot names (Collecting c ∷ below) o → IsRoot names below o
root_down names c below o none (inl m) = inl m
root_down names c below o none (inr (inl e)) = inr (inl e)
root_down names c below o none (inr (inr (inl m))) = inr (inr (inl (subst (λ (ns : List ℕ). Includes (ns ++ flat_map holds below) o) none m)))
root_down names c below o none (inr (inr (inr e))) = inr (inr (inr e))

-- what is below stays a root
pub root_up : (names : List (Option Val)) (tops below : List Activity) (o : ℕ) → IsRoot names below o → IsRoot names (tops ++ below) o
root_up names tops below o (inl m) = inl m
root_up names tops below o (inr (inl e)) = inr (inl e)
root_up names tops below o (inr (inr (inl m))) = inr (inr (inl (held_in o tops below m)))
root_up names tops below o (inr (inr (inr e))) = inr (inr (inr (death_in o tops below e)))

pub parts : (w : World) (o : ℕ) → occurrences o (holdings w) ≡ occurrences o (name_holdings w.names) + occurrences o (1 ∷ []) + occurrences o
    (entry_holdings (graph_of w.objects)) + occurrences o (flat_map holds w.stack)
parts w o = let a = occurrences-append o (name_holdings w.names ++ (1 ∷ []) ++ entry_holdings (graph_of w.objects)) (flat_map holds w.stack) in
    let b = occurrences-append o (name_holdings w.names ++ (1 ∷ [])) (entry_holdings (graph_of w.objects)) in
    let c = occurrences-append o (name_holdings w.names) (1 ∷ []) in omega (arith, a, b, c)

pub root_of : (w : World) (o : ℕ) → IsRooted w o → IsRoot w.names w.stack o
root_of w o (inl e) = inr (inr (inr e))
root_of w o (inr more) = go (cases_of (includes (name_holdings w.names) o)) (cases_of (includes (flat_map holds w.stack) o)) (cases_of (includes (1 ∷ []) o))
  where
    none : (xs : List ℕ) → includes xs o ≡ false → occurrences o xs ≡ 0
    none xs f = no_times o xs (λ m. let no : true ≡ false = sym (includes-of xs o m) ∙ f in cc)

    go : (includes (name_holdings w.names) o ≡ true) ⊎ (includes (name_holdings w.names) o ≡ false) → (includes (flat_map holds w.stack) o ≡ true)
        ⊎ (includes (flat_map holds w.stack) o ≡ false) → (includes (1 ∷ []) o ≡ true) ⊎ (includes (1 ∷ []) o ≡ false) → IsRoot w.names w.stack o
    go (inl t) b c = inl (Includes-of (name_holdings w.names) o t)
    go (inr f) (inl t) c = inr (inr (inl (Includes-of (flat_map holds w.stack) o t)))
    go (inr f) (inr g) (inl t) = inr (inl (either (Includes-of (1 ∷ []) o t) (λ e. sym e) (λ k. absurd k)))
    go (inr f) (inr g) (inr k) = absurd (let x = none (name_holdings w.names) f in let y = none (flat_map holds w.stack) g in let z = none (1 ∷ []) k in omega (arith, more, x, y, z, parts w o))

pub rooted_by : (w : World) (o : ℕ) → IsRoot w.names w.stack o → IsRooted w o
rooted_by w o (inl m) = let more = present o (name_holdings w.names) m in inr (omega (arith, more, parts w o))
rooted_by w o (inr (inl e)) = let more = present o (1 ∷ []) (inl (sym e)) in inr (omega (arith, more, parts w o))
rooted_by w o (inr (inr (inl m))) = let more = present o (flat_map holds w.stack) m in inr (omega (arith, more, parts w o))
rooted_by w o (inr (inr (inr e))) = inl e

-- reachable in one world, and so in another that keeps it
module _ (before after : World) (roots : (o : ℕ) → IsRoot before.names before.stack o → IsRoot after.names after.stack o)
    (lives : (x : Object) → Includes before.objects x → IsReached before x.serial → (y : Object) × Includes after.objects y × (y.serial ≡ x.serial)
    × ((o : ℕ) → Includes (references x.entries) o → Includes (references y.entries) o)) where
  lives_at : (o : ℕ) → Includes (serials before.objects) o → IsReached before o → Includes (serials after.objects) o
  lives_at o m path =
      let x = Includes-map_cases (λ (z : Object). z.serial) before.objects o m in
      let y = lives x.0 x.1 (subst (IsReached before) (sym x.2) path) in
      subst (Includes (serials after.objects)) (y.2 ∙ x.2) (Includes-map (λ (z : Object). z.serial) after.objects y.0 y.1)

  next_lasts : (p q : ℕ) → IsReached before p → IsReached after p → Includes (edges (graph_of before.objects)) (edge p q) → Includes (serials after.objects) q → IsReached after q
  next_lasts p q was path arrow inside =
      let x = edge_from before.objects p q arrow in
      let y = lives x.0 x.1 (subst (IsReached before) (sym x.2) was) in
      further path (subst (λ n. Includes (edges (graph_of after.objects)) (edge n q)) (y.2 ∙ x.2) (edge_of after.objects y.0 q y.1 (y.3 q x.3))) inside

  pub reached_lasts : (o : ℕ) → IsReached before o → IsReached after o
  reached_lasts o (first held inside) = first (rooted_by after o (roots o (root_of before o held))) (lives_at o inside (first held inside))
  reached_lasts o (further path arrow inside) = next_lasts _ o path (reached_lasts _ path) arrow (lives_at o inside (further path arrow inside))
