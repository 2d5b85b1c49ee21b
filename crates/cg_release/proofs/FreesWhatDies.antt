-- A release in which no frame begins frees exactly what dies by count.
use Rattle.std.proofs.Common.{◌≡◌, refl, sym, ◌∙◌, ap, subst, ℕ, ◌+◌, ◌<◌, Bool, true, false, not, inl, inr, ◌⊎◌, List, [], ◌∷◌, ◌++◌, length, arith}
use Rattle.std.specs.Prelude.{flat_map}
use Rattle.std.specs.List.{list_any}
use Rattle.std.proofs.lemmas.List.{append-nil}
use Rattle.cg_graph.specs.Member.{Includes}
use Rattle.cg_graph.specs.Object.{Object, serials}
use Rattle.cg_graph.specs.Holdings.{entry_holdings, graph_of, name_holdings, occurrences}
use Rattle.cg_graph.proofs.Members.{either, cases_of, Includes-append_left, Includes-append_right, Includes-map}
use Rattle.cg_graph.proofs.Objects.{occurrences-append}
use Rattle.cg_machine.specs.declared.event.Event.{Event}
use Rattle.cg_machine.specs.World.{World, Activity, Releasing, Dying, Death, DyingPhase, Finalizer, AfterFinalizer, Clearing, Calling, AfterCall, LegacyFinalizer, AfterLegacy, Detaching, Emptying, opening}
use Rattle.cg_machine.specs.Holdings.{dying_holds, holdings, holds, in_degree, is_death_of}
use Rattle.cg_machine.specs.Run.{events_of, last_world}
use Rattle.cg_represents.specs.Orderly.{IsHeldInItsFramesAlone}
use Rattle.cg_laws.proofs.Ending.{last_world-append}
use Rattle.cg_laws.proofs.HeldLivesRuns.{worlds_orderly}
use Rattle.cg_laws.proofs.OriginsOfRuns.{opening_origin}
use Rattle.cg_represents.proofs.Lists.{absent, no_times}
use Rattle.cg_represents.proofs.Representing.{death_found}
use Rattle.cg_laws.proofs.Unheld.{held_by_member}
use Rattle.cg_laws.proofs.UnheldRuns.{dying_unheld}
use Rattle.cg_promises.proofs.FinalizerOnceRuns.{opening_fit, run_back, run_front}
use Rattle.cg_promises.proofs.HoldersMove.{IsMinded, degree_free}
use Rattle.cg_promises.proofs.HoldersMoveRuns.{minded_after, opening_minded}
use Rattle.cg_release.specs.Release.{FreesExactly, IsClosed, ReleasesFreeExactly, references_from}
use Rattle.cg_release.proofs.Counts.{degree_parts, from_holder, holdings_split}
use Rattle.cg_release.proofs.WithinRelease.{Between, IsBare}
use Rattle.cg_release.proofs.Deaths.{ends_between}

-- a dying object is unheld, or its death holds it
unheld_or_own : (o : ℕ) (phase : DyingPhase) (held : List ℕ) → IsHeldInItsFramesAlone o phase held → (occurrences o held ≡ 0) ⊎ Includes (dying_holds o phase) o
unheld_or_own o Finalizer held h = inl h
unheld_or_own o AfterFinalizer held h = inr (inl refl)
unheld_or_own o (Clearing waiting) held h = inl h
unheld_or_own o (Calling waiting) held h = inl h
unheld_or_own o (AfterCall weak callback waiting) held h = inl h
unheld_or_own o LegacyFinalizer held h = inl h
unheld_or_own o AfterLegacy held h = inr (inl refl)
unheld_or_own o Detaching held h = inl h
unheld_or_own o Emptying held h = inl h

-- if the released references and a set make up an in-degree, nothing else holds
none_else : (degree roots entries inside outside stack given under count : ℕ) → degree ≡ roots + entries + stack → entries ≡ inside + outside → stack
    ≡ given + under → count ≡ given + inside → count ≡ degree → (roots ≡ 0) × (outside ≡ 0) × (under ≡ 0)
none_else degree roots entries inside outside stack given under count a b c d e = (omega (arith, a, b, c, d, e), omega (arith, a, b, c, d, e), omega (arith, a, b, c, d, e))

all_none : (degree roots entries inside outside under : ℕ) → degree ≡ roots + entries + under → entries ≡ inside + outside → roots ≡ 0 → inside ≡ 0 → outside ≡ 0 → under ≡ 0 → degree ≡ 0
all_none degree roots entries inside outside under a b c d e f = omega (arith, a, b, c, d, e, f)

pub not_both : (b : Bool) → b ≡ true → b ≡ false → ⊥
not_both b e f = let no : true ≡ false = sym e ∙ f in cc

module _ (w : World) (given : List ℕ) (below : List Activity) (top : w.stack ≡ Releasing given ∷ below)
    (deaths : (d : Death) → Includes w.stack (Dying d) → IsHeldInItsFramesAlone d.object d.phase (holdings w)) (k : ℕ) (u : World) (minded : IsMinded k u)
    (gone : ℕ → Bool) (done : List Event) (b : Between w given below gone [] done u.names u.objects u.stack) where
  -- an object that has begun to die is gone at the end
  over : (o : ℕ) → gone o ≡ true → ¬ Includes (serials u.objects) o
  over o g m = either (b.ends o g) (λ no. not_both true refl (sym no)) (λ e. e.1 m)

  -- an object dying below was unheld at the start, or is held below
  dies_under : (o : ℕ) → list_any (is_death_of o) below ≡ true → (in_degree w o ≡ 0) ⊎ Includes (flat_map holds below) o
  dies_under o dying =
      let death = death_found o below dying in
      let member : Includes w.stack (Dying death.0) = subst (λ (st : List Activity). Includes st (Dying death.0)) (sym top) (inr death.1) in
      either (unheld_or_own death.0.object death.0.phase (holdings w) (deaths death.0 member))
      (λ unheld. inl (subst (λ (n : ℕ). in_degree w n ≡ 0) death.2 unheld))
      (λ own. inr (subst (λ (n : ℕ). Includes (flat_map holds below) n) death.2 (held_by_member below (Dying death.0) death.0.object death.1 own)))

  -- If an object's in-degree is made up by the released references and the dead, it has begun to die. Otherwise
  -- nothing would hold it at the end, and it would be dying below, where it was at the start.
  left : (o : ℕ) → gone o ≡ false → Includes (serials w.objects) o → 0 < in_degree w o → occurrences o (given ++ references_from gone w.objects) ≡ in_degree w o → ⊥
  left o stays lives some count =
      let parts = none_else _ _ _ _ _ _ _ _ _ (degree_parts w (Releasing given ∷ below) o top) (holdings_split o gone w.objects)
      (occurrences-append o given (flat_map holds below)) (occurrences-append o given (references_from gone w.objects)) count in
      let roots : occurrences o (name_holdings u.names ++ (1 ∷ [])) ≡ 0 = subst (λ ns. occurrences o (name_holdings ns ++ (1 ∷ [])) ≡ 0) (sym b.names) parts.0 in
      let inside : occurrences o (references_from gone u.objects) ≡ 0 = no_times o (references_from gone u.objects) (λ m.
      let x = from_holder gone u.objects o m in
      over x.0.serial x.2 (Includes-map (λ (z : Object). z.serial) u.objects x.0 x.1)) in
      let outside : occurrences o (references_from (λ n. not (gone n)) u.objects) ≡ 0 = ap (occurrences o) (b.others (λ n. not (gone n)) (λ n g. ap not g)) ∙ parts.1 in
      let none : in_degree u o ≡ 0 = all_none _ _ _ _ _ _ (degree_parts u below o b.stack) (holdings_split o gone u.objects) roots inside outside parts.2 in
      let there : Includes (serials u.objects) o = either (b.lives o lives) (λ g. absurd (not_both (gone o) g stays)) (λ m. m) in
      let dying : list_any (is_death_of o) below ≡ true = subst (λ (st : List Activity). list_any (is_death_of o) st ≡ true) b.stack (minded.minds o there (degree_free u o none)) in
      either (dies_under o dying) (λ unheld. omega (arith, unheld, some)) (λ own. absent o (flat_map holds below) parts.2 own)

  closed : IsClosed w given gone
  closed x m some count = either (cases_of (gone x.serial)) (λ e. e) (λ e. absurd (left x.serial e (Includes-map (λ (z : Object). z.serial) w.objects x m) some count))

  pub exactly : FreesExactly w given done u
  exactly = record {
    freed = λ o. (λ m. b.dies o (b.freed o m), λ h. either (b.ends o (h gone closed)) (λ no. absurd (not_both true refl (sym no))) (λ e. e.0));
    gone = λ x m. (
      λ lost. either (b.lives x.serial (Includes-map (λ (z : Object). z.serial) w.objects x m)) (λ g. b.dies x.serial g) (λ still. absurd (lost still)),
      λ h. over x.serial (h gone closed),
    );
  }

-- the world in which a release starts
started : (w : World) (given : List ℕ) (below : List Activity) → w.stack ≡ Releasing given ∷ below → Between w given below (λ n. false) (Releasing given ∷ []) [] w.names w.objects w.stack
started w given below top = record {
  names = refl;
  stack = top;
  bare = λ a m. either m (λ e. subst (IsBare (λ n. false)) e tt) (λ no. absurd no);
  others = λ set a. refl;
  lives = λ n m. inr m;
  entries = λ o m. Includes-append_left (name_holdings w.names ++ (1 ∷ []) ++ entry_holdings (graph_of w.objects)) (flat_map holds w.stack) o
      (Includes-append_right (name_holdings w.names ++ (1 ∷ [])) (entry_holdings (graph_of w.objects)) o m);
  given_up = λ o m. Includes-append_right (name_holdings w.names ++ (1 ∷ []) ++ entry_holdings (graph_of w.objects)) (flat_map holds w.stack) o
      (subst (λ (st : List Activity). Includes (flat_map holds st) o) (sym top) (Includes-append_left given (flat_map holds below) o (subst (λ (xs : List ℕ). Includes xs o) (append-nil given) m)));
  dies = λ o g. absurd (not_both false g refl);
  ends = λ o g. absurd (not_both false g refl);
  freed = λ o m. absurd m;
}

pub frees_exactly : ReleasesFreeExactly
frees_exactly script budget before during given below known r =
    let first = opening script budget in
    let w = last_world first before in
    let front = run_front script first before during r.run in
    let end = ends_between script w given below (worlds_orderly script budget before front) r.starts (λ n. false) (Releasing given ∷ []) [] w during
    (started w given below r.starts) (run_back script first before during r.run) r.no_frame r.goes_on r.ends in
    exactly w given below r.starts (dying_unheld script budget before front) (length script.names) (last_world w during)
    (subst (λ (v : World). IsMinded (length script.names) v) (last_world-append first before during)
    (minded_after script known first (before ++ during) r.run (opening_fit script budget) (opening_origin script budget) (opening_minded script known budget)))
    end.0 (events_of during) end.1
