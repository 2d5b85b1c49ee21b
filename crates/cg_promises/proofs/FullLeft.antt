-- If every tracked object is reachable, every object is: an untracked one is held by a reachable object, or by a tuple with a
-- larger serial.
use Rattle.std.proofs.Common.{◌≡◌, ◌≢◌, refl, sym, ◌∙◌, ap, subst, ℕ, zero, suc, ◌+◌, ◌<◌, ◌≤◌, true, false, inl, inr, ◌⊎◌, List, length, arith}
use Rattle.std.specs.Prelude.{◌==◌}
use Rattle.std.proofs.lemmas.Bool.{eqb-true}
use Rattle.cg_value.specs.declared.Place.TheVariants.{Untracked}
use Rattle.cg_script.specs.declared.Script.{Script}
use Rattle.cg_script.specs.Texts.{TextsAreKnown}
use Rattle.cg_graph.specs.Member.{Includes, includes}
use Rattle.cg_graph.specs.Value.{references}
use Rattle.cg_graph.specs.Object.{Object, same_place, serials}
use Rattle.cg_graph.specs.Holdings.{entry_holdings, graph_of, occurrences}
use Rattle.cg_graph.specs.Reach.{first, next as further}
use Rattle.cg_graph.proofs.Members.{either, cases_of, Includes-map, Includes-map_cases, Includes-of, includes-of}
use Rattle.cg_machine.specs.World.{World, opening}
use Rattle.cg_machine.specs.Holdings.{holdings, in_degree}
use Rattle.cg_machine.specs.Operands.{is_dict}
use Rattle.cg_machine.specs.Run.{IsRun, StepTaken, world_after}
use Rattle.cg_laws.specs.Laws.{NoGarbageIsLeft}
use Rattle.cg_laws.proofs.Unreferred.{lives_within}
use Rattle.cg_laws.proofs.OriginsOfRuns.{opening_origin}
use Rattle.cg_laws.proofs.Releasing.{entry_holder}
use Rattle.cg_represents.proofs.Lists.{no_times}
use Rattle.cg_represents.proofs.Serials.{Rises}
use Rattle.cg_promises.specs.Reached.{IsReached}
use Rattle.cg_represents.proofs.Places.{place_is}
use Rattle.cg_promises.proofs.FullRuns.{rooted_by}
use Rattle.cg_promises.proofs.HoldersMove.{IsMinded, degree_free}
use Rattle.cg_promises.proofs.HoldersMoveRuns.{minded_after, opening_minded}
use Rattle.cg_promises.proofs.FinalSetStart.{edge_of}
use Rattle.cg_promises.proofs.UntrackedStay.{Excused, IsSlackOne, IsSlackWorld}
use Rattle.cg_promises.proofs.UntrackedStayCommands.{dict_no_tuple}
use Rattle.cg_promises.proofs.UntrackedStayDeaths.{tuple_code}
use Rattle.cg_promises.proofs.UntrackedStayRuns.{death_found, opening_slack, slack_after}
use Rattle.cg_promises.proofs.FinalizerOnceRuns.{opening_fit, run_fit}

positive : (n : ℕ) → (n == 0) ≡ false → 0 < n
positive zero e = absurd (let no : true ≡ false = e in cc)
positive (suc n) e = omega arith

module _ (k : ℕ) (w : World) (rises : Rises 1 w.next_serial w.objects) (minded : IsMinded k w) (slack : IsSlackWorld w) (root : Includes (serials w.objects) 1)
    (tracked : (x : Object) → Includes w.objects x → x.place ≢ Untracked → IsReached w x.serial) where
  here : (x : Object) → Includes w.objects x → Includes (serials w.objects) x.serial
  here x m = Includes-map (λ (z : Object). z.serial) w.objects x m

  excused : (x : Object) → Includes w.objects x → Excused w.stack x.serial → IsReached w x.serial
  excused x m (inl one) = subst (IsReached w) (sym one) (first (rooted_by w 1 (inr (inl refl))) root)
  excused x m (inr d) = first (inl (death_found x.serial d.0 w.stack d.1 d.2)) (here x m)

  by_kind : (x : Object) → Includes w.objects x → IsReached w x.serial ⊎ IsSlackOne w.objects x
  by_kind x m = either (cases_of (same_place x.place Untracked)) (λ t. either (slack.slack x m (place_is x.place Untracked t)) (λ e. inl (excused x m e)) (λ s. inr s))
      (λ f. inl (tracked x m (λ u. let no : true ≡ false = sym (ap (λ p. same_place p Untracked) u) ∙ f in cc)))

  -- it is reachable, or an entry holds it
  holder : (x : Object) → Includes w.objects x → IsReached w x.serial ⊎ ((y : Object) × Includes w.objects y × Includes (references y.entries) x.serial)
  holder x m = either (cases_of (in_degree w x.serial == 0)) (λ t. inl (first (inl (minded.minds x.serial (here x m) (degree_free w x.serial (eqb-true (in_degree w x.serial) 0 t)))) (here x m)))
      (λ f. either (cases_of (includes (entry_holdings (graph_of w.objects)) x.serial)) (λ t. inr (entry_holder w.objects x.serial (Includes-of (entry_holdings (graph_of w.objects)) x.serial t)))
      (λ g. inl (first (inr (outside f g)) (here x m))))
    where
      outside : (in_degree w x.serial == 0) ≡ false → includes (entry_holdings (graph_of w.objects)) x.serial ≡ false
          → occurrences x.serial (entry_holdings (graph_of w.objects)) < occurrences x.serial (holdings w)
      outside f g =
          let none = no_times x.serial (entry_holdings (graph_of w.objects)) (λ i. let no : true ≡ false = sym (includes-of (entry_holdings (graph_of w.objects)) x.serial i) ∙ g in cc) in
          let some = positive (in_degree w x.serial) f in omega (arith, none, some)

  along : (y x : Object) → Includes w.objects y → Includes w.objects x → Includes (references y.entries) x.serial → IsReached w y.serial → IsReached w x.serial
  along y x i m r path = further path (edge_of w.objects y x.serial i r) (here x m)

  dict_reached : (x : Object) → Includes w.objects x → is_dict x ≡ true → IsReached w x.serial
  dict_reached x m d = either (holder x m) (λ r. r) (λ y. either (by_kind y.0 y.1) (λ r. along y.0 x y.1 m y.2 r) (λ s. absurd (dict_no_tuple x d (s.1 x.serial y.2 x m refl).0)))

  up : (x y : Object) → Includes w.objects x → Includes w.objects y → Includes (references y.entries) x.serial → (x.serial < y.serial → IsReached w y.serial) → IsReached w x.serial
  up x y m i r above = either (by_kind y i) (λ p. along y x i m r p)
      (λ s. either s.0 (λ t. along y x i m r (above ((minded.single y i).1 (tuple_code y t) x.serial r))) (λ d. along y x i m r (dict_reached y i d)))

  reached_from : (fuel : ℕ) (x : Object) → Includes w.objects x → w.next_serial ≤ x.serial + fuel → IsReached w x.serial
  reached_from zero x m high = absurd (let within = lives_within 1 w.next_serial w.objects x.serial rises (here x m) in omega (arith, within.1, high))
  reached_from (suc fuel) x m high = either (holder x m) (λ r. r) (λ y. up x y.0 m y.1 y.2 (λ low. reached_from fuel y.0 y.1 (omega (arith, low, high))))

  pub all_reached : NoGarbageIsLeft w
  all_reached o m = let x = Includes-map_cases (λ (z : Object). z.serial) w.objects o m in subst (IsReached w) x.2 (reached_from w.next_serial x.0 x.1 (omega arith))

-- in a world of a run
pub none_left : (script : Script) (budget : ℕ) (steps : List StepTaken) → TextsAreKnown script → IsRun script budget steps
    → ((x : Object) → Includes (world_after script budget steps).objects x → x.place ≢ Untracked → IsReached (world_after script budget steps) x.serial)
    → NoGarbageIsLeft (world_after script budget steps)
none_left script budget steps known run tracked =
    let fit = run_fit script (opening script budget) steps run (opening_fit script budget) in
    all_reached (length script.names) (world_after script budget steps) fit.sound.rises
    (minded_after script known (opening script budget) steps run (opening_fit script budget) (opening_origin script budget) (opening_minded script known budget))
    (slack_after script (opening script budget) steps run (opening_fit script budget) (opening_slack script budget)) fit.order.root_lives tracked
