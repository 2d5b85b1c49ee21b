-- The second reachability pass of a full collection in which no frame began finds no survivor: whatever is held by something
-- else was reachable from the start, or is uncollectable together with its holder.
use Rattle.std.proofs.Common.{◌≡◌, refl, sym, ◌∙◌, ap, subst, ℕ, ◌<◌, Bool, true, false, inl, inr, ◌⊎◌, List, [], ◌∷◌, filter, None, arith}
use Rattle.std.specs.Prelude.{◌==◌, flat_map}
use Rattle.cg_value.specs.declared.Place.{Place}
use Rattle.cg_value.specs.declared.Place.TheVariants.{Untracked, Gen, Cand, Seen, Legacy, Pend}
use Rattle.cg_script.specs.declared.Script.{Script}
use Rattle.cg_graph.specs.Member.{Includes, includes}
use Rattle.cg_graph.specs.Value.{references}
use Rattle.cg_graph.specs.Object.{Object, is_at, objects_at, same_place, serials, serials_at, with_place, with_referent}
use Rattle.cg_graph.specs.Holdings.{entry_holdings, graph_of, name_holdings, occurrences}
use Rattle.cg_graph.specs.Reach.{edges, first, next as further}
use Rattle.cg_graph.proofs.Members.{either, cases_of, Includes-filter, Includes-map, Includes-map_cases, Includes-of, includes-of}
use Rattle.cg_machine.specs.declared.event.Event.{Event}
use Rattle.cg_machine.specs.World.{World, Activity, Collecting, Collection, Split}
use Rattle.cg_machine.specs.Holdings.{collect_holds, holdings, holds}
use Rattle.cg_machine.specs.Weak.{AllLose, loses_referent}
use Rattle.cg_machine.specs.Collect.{get_older, is_condemned, loses_at_split, merged, members_at, older, IsGarbage, IsMemberOf, IsSetAside, SplitStep, Survives}
use Rattle.cg_laws.proofs.Lookups.{same_object}
use Rattle.cg_represents.proofs.Lists.{no_times}
use Rattle.cg_represents.proofs.Serials.{Rises}
use Rattle.cg_laws.specs.Apart.{IsInLatePhase}
use Rattle.cg_laws.proofs.SetsApart.{stands_at}
use Rattle.cg_promises.specs.Reached.{IsReached}
use Rattle.cg_represents.proofs.Places.{place_is}
use Rattle.cg_promises.proofs.FullEarly.{Early}
use Rattle.cg_promises.proofs.FullRuns.{IsRoot, parts, root_down, root_up, rooted_by}
use Rattle.cg_promises.proofs.FullPlaces.{Alike, AreAlike, RestsSo, Rests, RestsReached, RestsLoose, RestsAside, IsFinal, Stands, StandsSo, Reached, Loose, Pending, Condemned, SetAside, alike_same, alike_trans, stands_same, test_alike, test_all}
use Rattle.cg_promises.proofs.FullStart.{HasOutside, in_merge, some_outside}
use Rattle.cg_promises.proofs.FinalizersDone.{IsWanted}
use Rattle.cg_promises.proofs.FinalSetStart.{edge, edge_of}
use Rattle.cg_promises.proofs.UntrackedStay.{Excused, IsSlackWorld, IsSlackOne}
use Rattle.cg_promises.proofs.UntrackedStayRuns.{death_found}

abbrev pub WasGarbage : World → ℕ → Type 0
WasGarbage v o = IsGarbage (merged 2 v) (Gen 2) o

abbrev pub WasAside : Script → World → ℕ → Type 0
WasAside script v o = IsSetAside script (merged 2 v) (Gen 2) o

pub aside_garbage : (script : Script) (v : World) (o : ℕ) → WasAside script v o → WasGarbage v o
aside_garbage script v o (first held inside) = inside
aside_garbage script v o (further path step inside) = inside

-- what has more holds than those that pass give it is held by another
held_outside : (w : World) (p : Object → Bool) (o : ℕ) → occurrences o (entry_holdings (graph_of (filter p w.objects))) < occurrences o (holdings w)
    → IsRoot w.names w.stack o ⊎ HasOutside p w.objects o
held_outside w p o less = go (cases_of (includes (name_holdings w.names) o)) (cases_of (includes (1 ∷ []) o)) (cases_of (includes (flat_map holds w.stack) o))
  where
    none : (xs : List ℕ) → includes xs o ≡ false → occurrences o xs ≡ 0
    none xs f = no_times o xs (λ m. let no : true ≡ false = sym (includes-of xs o m) ∙ f in cc)

    go : (includes (name_holdings w.names) o ≡ true) ⊎ (includes (name_holdings w.names) o ≡ false) → (includes (1 ∷ []) o ≡ true)
        ⊎ (includes (1 ∷ []) o ≡ false) → (includes (flat_map holds w.stack) o ≡ true) ⊎ (includes (flat_map holds w.stack) o ≡ false)
        → IsRoot w.names w.stack o ⊎ HasOutside p w.objects o
    go (inl t) b c = inl (inl (Includes-of (name_holdings w.names) o t))
    go (inr f) (inl t) c = inl (inr (inl (either (Includes-of (1 ∷ []) o t) (λ e. sym e) (λ k. absurd k))))
    go (inr f) (inr g) (inl t) = inl (inr (inr (inl (Includes-of (flat_map holds w.stack) o t))))
    go (inr f) (inr g) (inr k) = let x = none (name_holdings w.names) f in let y = none (1 ∷ []) g in let z = none (flat_map holds w.stack) k
        in inr (some_outside p w.objects o (omega (arith, less, x, y, z, parts w o)))

wanted_is : (p : Place) → IsWanted p → (p ≡ Cand) ⊎ (p ≡ Seen)
wanted_is Cand k = inl refl
wanted_is Seen k = inr refl
wanted_is p k = absurd k

all_lose_all : (P : Object → Type 0) → ((x : Object) → P x → P (with_referent None x)) → (wanted : Object → Bool) (weaks : List ℕ) (objects after : List Object)
    → AllLose wanted objects weaks after → ((x : Object) → Includes objects x → P x) → (y : Object) → Includes after y → P y
all_lose_all P keep wanted [] objects after lose all = subst (λ os. (y : Object) → Includes os y → P y) (sym lose.1) all
all_lose_all P keep wanted (weak ∷ weaks) objects after lose all = all_lose_all P keep wanted weaks (loses_referent weak objects) after lose.1
    (test_all P (with_referent None) (λ x. x.serial == weak) objects (λ x m t p. keep x p) all)

all_lose_alike : (script : Script) (wanted : Object → Bool) (weaks : List ℕ) (objects after : List Object) → AllLose wanted objects weaks after → AreAlike script objects after
all_lose_alike script wanted [] objects after lose = subst (AreAlike script objects) (sym lose.1) (alike_same script objects)
all_lose_alike script wanted (weak ∷ weaks) objects after lose = alike_trans script objects (loses_referent weak objects) after
    (test_alike script (with_referent None) (λ x. x.serial == weak) objects (λ x. record { serial = refl; entries = refl; legacy = refl }))
    (all_lose_alike script wanted weaks (loses_referent weak objects) after lose.1)

module _ (script : Script) (v : World) (c : Collection) (below : List Activity) (top : v.stack ≡ Collecting c ∷ below) (rises : Rises 1 v.next_serial v.objects)
    (w : World) (early : Early script (IsReached v) (WasGarbage v) (WasAside script v) v.objects v.names below w) (phase : early.collection.phase ≡ Split)
    (slack : IsSlackWorld w) (rightly : (x : Object) → Includes w.objects x → IsInLatePhase x)
    (clear : (x : Object) → Includes w.objects x → IsReached v x.serial → is_condemned x ≡ false) where
  abbrev kept : ℕ → Type 0
  kept o = IsReached v o

  abbrev garbage : ℕ → Type 0
  garbage o = WasGarbage v o

  abbrev aside : ℕ → Type 0
  aside o = WasAside script v o

  -- a condemned object is not kept
  not_kept : (x : Object) → Includes w.objects x → x.place ≡ Cand → ¬ kept x.serial
  not_kept x m e k = let no : true ≡ false = sym (ap (λ p. is_condemned (record x { place = p })) e) ∙ clear x m k in cc

  lived : (x : Object) → Includes w.objects x → Includes (serials v.objects) x.serial
  lived x m = let y = early.alike.back x m in subst (Includes (serials v.objects)) (sym y.2.serial) (Includes-map (λ (z : Object). z.serial) v.objects y.0 y.1)

  -- the roots were roots
  root_kept : (x : Object) → Includes w.objects x → IsRoot w.names w.stack x.serial → kept x.serial
  root_kept x m r = first (rooted_by v x.serial (subst (λ st. IsRoot v.names st x.serial) (sym top) (root_up v.names (Collecting c ∷ []) below x.serial
      (root_down v.names early.collection below x.serial (ap collect_holds phase) (subst (λ st. IsRoot v.names st x.serial) early.is
      (subst (λ ns. IsRoot ns w.stack x.serial) early.same r)))))) (lived x m)

  along : (y x : Object) → Includes w.objects y → Includes w.objects x → Includes (references y.entries) x.serial → kept y.serial → kept x.serial
  along y x i m r k =
      let z = early.alike.back y i in
      further (subst kept z.2.serial k) (edge_of v.objects z.0 x.serial z.1 (subst (λ es. Includes (references es) x.serial) z.2.entries r)) (lived x m)

  -- an object that may be untracked without being slack was a root
  excused_kept : (y : Object) → Includes w.objects y → Excused w.stack y.serial → kept y.serial
  excused_kept y i (inl one) = root_kept y i (inr (inl one))
  excused_kept y i (inr d) = root_kept y i (inr (inr (inr (death_found y.serial d.0 w.stack d.1 d.2))))

  -- a reference of an uncollectable object is an edge among the candidates
  arrow : (y : Object) (o : ℕ) → Includes w.objects y → Includes (references y.entries) o → IsMemberOf (merged 2 v) (Gen 2) y.serial
      → Includes (edges (members_at (merged 2 v) (Gen 2))) (edge y.serial o)
  arrow y o i r member =
      let z = stands_at (merged 2 v).objects (Gen 2) y.serial member in
      let x = Includes-map_cases (in_merge 2) v.objects z.0 z.1 in
      let u = early.alike.back y i in
      let same : u.0 ≡ x.0 = same_object 1 v.next_serial v.objects u.0 x.0 rises u.1 x.1 (sym u.2.serial ∙ sym z.3 ∙ sym (ap (λ (q : Object). q.serial) x.2)) in
      let held : Includes (references z.0.entries) o = subst (λ (q : Object). Includes (references q.entries) o) x.2
      (subst (λ (q : Object). Includes (references q.entries) o) same (subst (λ es. Includes (references es) o) u.2.entries r)) in
      subst (λ n. Includes (edges (members_at (merged 2 v) (Gen 2))) (edge n o)) z.3
      (edge_of (objects_at (merged 2 v).objects (Gen 2)) z.0 o (Includes-filter (is_at (Gen 2)) (merged 2 v).objects z.0 z.2 z.1) held)

  -- an uncollectable object holds no condemned one
  aside_holds : (y x : Object) → Includes w.objects y → Includes w.objects x → x.place ≡ Cand → Includes (references y.entries) x.serial → aside y.serial → ⊥
  aside_holds y x i m e r a = go (early.stands x m).0
    where
      go : Stands kept garbage aside x → ⊥
      go (Reached k) = not_kept x m e k
      go (Loose u) = let no : Cand ≡ Untracked = sym e ∙ u in cc
      go (Pending u) = let no : Cand ≡ Pend = sym e ∙ u in cc
      go (Condemned k g n) = n (further a (arrow y x.serial i r (aside_garbage script v y.serial a).member) g)
      go (SetAside u k) = let no : Cand ≡ Legacy = sym e ∙ u in cc

  -- nor does any uncondemned object
  none_outside : (y x : Object) → Includes w.objects y → is_at Cand y ≡ false → Includes w.objects x → x.place ≡ Cand → Includes (references y.entries) x.serial → ⊥
  none_outside y x i f m e r = go (early.stands y i).0
    where
      loose : Excused w.stack y.serial ⊎ IsSlackOne w.objects y → ⊥
      loose (inl k) = not_kept x m e (along y x i m r (excused_kept y i k))
      loose (inr s) = let no : Untracked ≡ Cand = sym (s.1 x.serial r x m refl).1 ∙ e in cc

      wanted : (y.place ≡ Cand) ⊎ (y.place ≡ Seen) → ⊥
      wanted (inl u) = let no : true ≡ false = sym (ap (λ p. same_place p Cand) u) ∙ f in cc
      wanted (inr u) = (rightly y i).seen u

      go : Stands kept garbage aside y → ⊥
      go (Reached k) = not_kept x m e (along y x i m r k)
      go (Loose u) = loose (slack.slack y i u)
      go (Pending u) = (rightly y i).pending u
      go (Condemned k g n) = wanted (wanted_is y.place k)
      go (SetAside u a) = a (λ k. aside_holds y x i m e r k)

  no_survivor : (o : ℕ) → ¬ Survives w Cand o
  no_survivor o (first held inside) = go (stands_at w.objects Cand o inside)
    where
      go : ((x : Object) × Includes w.objects x × (is_at Cand x ≡ true) × (x.serial ≡ o)) → ⊥
      go x = either (held_outside w (is_at Cand) x.0.serial (subst (λ n. occurrences n (entry_holdings (graph_of (objects_at w.objects Cand))) < occurrences n (holdings w)) (sym x.3) held))
          (λ r. not_kept x.0 x.1 (place_is x.0.place Cand x.2) (root_kept x.0 x.1 r))
          (λ y. none_outside y.0 x.0 y.1 y.2 x.1 (place_is x.0.place Cand x.2) y.3)
  no_survivor o (further path step inside) = no_survivor _ path

  module _ (d : Collection) (events : List Event) (after : World) (step : SplitStep d below w events after) (rightly_after : (x : Object) → Includes step.objects x → IsInLatePhase x) where
    abbrev now : List Object
    now = get_older d.generation step.alive w.objects

    abbrev members : List ℕ
    members = serials_at step.objects Cand

    none_alive : (x : Object) → includes step.alive x.serial ≡ true → ⊥
    none_alive x t = no_survivor x.serial ((step.survivors x.serial).0 (Includes-of step.alive x.serial t))

    stand_still : (y : Object) → Includes step.objects y → StandsSo kept garbage aside y
    stand_still = all_lose_all (StandsSo kept garbage aside) (λ x p. stands_same kept garbage aside x (with_referent None x) refl refl p) (loses_at_split now) step.cleared now step.objects step.lose
        (test_all (StandsSo kept garbage aside) (with_place (Gen (older d.generation))) (λ x. includes step.alive x.serial) w.objects (λ x m t p. absurd (none_alive x t)) early.stands)

    is_member : (y : Object) → Includes step.objects y → y.place ≡ Cand → Includes members y.serial
    is_member y m e = Includes-map (λ (z : Object). z.serial) (objects_at step.objects Cand) y (Includes-filter (is_at Cand) step.objects y (ap (λ p. same_place p Cand) e) m)

    pub rest_so : (y : Object) → Includes step.objects y → RestsSo kept aside members y
    rest_so y m = (go (stand_still y m).0, is_member y m)
      where
        go : Stands kept garbage aside y → Rests kept aside members y
        go (Reached k) = RestsReached k
        go (Loose u) = RestsLoose u
        go (Pending u) = absurd ((rightly_after y m).pending u)
        go (Condemned k g n) = either (wanted_is y.place k) (λ e. IsFinal (is_member y m e)) (λ e. absurd ((rightly_after y m).seen e))
        go (SetAside u a) = RestsAside u a

    alike_still : AreAlike script v.objects step.objects
    alike_still = alike_trans script v.objects w.objects step.objects early.alike (alike_trans script w.objects now step.objects
        (test_alike script (with_place (Gen (older d.generation))) (λ x. includes step.alive x.serial) w.objects (λ x. record { serial = refl; entries = refl; legacy = refl }))
        (all_lose_alike script (loses_at_split now) step.cleared now step.objects step.lose))

    -- an uncollectable object lives
    pub aside_there : (x : Object) → Includes v.objects x → aside x.serial → (y : Object) × Includes step.objects y × Alike script x y × (y.place ≡ Legacy)
    aside_there x m a =
        let y = alike_still.there x m in
        (y.0, y.1, y.2, either ((stand_still y.0 y.1).1 (subst aside (sym y.2.serial) a)) (λ e. e) (λ e. absurd ((rightly_after y.0 y.1).pending e)))

    pub aside_apart : (n : ℕ) → aside n → ¬ Includes members n
    aside_apart n a m =
        let z = stands_at step.objects Cand n m in
        let at = place_is z.0.place Cand z.2 in
        either ((stand_still z.0 z.1).1 (subst aside (sym z.3) a)) (λ e. let no : Cand ≡ Legacy = sym at ∙ e in cc) (λ e. let no : Cand ≡ Pend = sym at ∙ e in cc)
