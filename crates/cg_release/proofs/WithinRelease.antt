-- A world between the start and the end of a release, while no frame begins: what has begun to die since, and what is
-- left.
use Rattle.std.proofs.Common.{◌≡◌, ◌≢◌, refl, sym, ◌∙◌, ap, subst, ℕ, ◌+◌, ◌<◌, zero, suc, Bool, true, not, ◌||◌, inl, inr, ◌⊎◌, List, [], ◌∷◌, ◌++◌, Option, arith}
use Rattle.std.specs.Prelude.{◌==◌, flat_map}
use Rattle.std.specs.List.{list_any}
use Rattle.std.proofs.lemmas.Bool.{eqb-true, eq-eqb}
use Rattle.cg_value.specs.declared.Val.{Val}
use Rattle.cg_graph.specs.Member.{Includes}
use Rattle.cg_graph.specs.Object.{Object, change, serials, without}
use Rattle.cg_graph.specs.Holdings.{entry_holdings, graph_of, name_holdings, occurrences}
use Rattle.cg_graph.proofs.Members.{either, or_left, or_right, true_or, Includes-append_left, Includes-append_right, Includes-append_cases, Includes-map_cases}
use Rattle.cg_graph.proofs.Objects.{occurrences-append}
use Rattle.cg_machine.specs.declared.event.Event.{Event}
use Rattle.cg_machine.specs.declared.event.Event.TheVariants.{Free}
use Rattle.cg_machine.specs.World.{World, Activity, TopLevel, Framed, Releasing, Dying, Collecting, ShuttingDown, DyingPhase, Finalizer, AfterFinalizer, Clearing, Calling, AfterCall, LegacyFinalizer, AfterLegacy, Detaching, Emptying, with_stack}
use Rattle.cg_machine.specs.Holdings.{holdings, holds, in_degree, is_death_of}
use Rattle.cg_represents.specs.Orderly.{IsOrderly}
use Rattle.cg_laws.proofs.LinesNameLive.{without_gone}
use Rattle.cg_represents.proofs.Lists.{absent, no_times}
use Rattle.cg_laws.proofs.Releasing.{none_holds, HeldByNone}
use Rattle.cg_release.specs.Release.{DiesByCount, references_from}
use Rattle.cg_release.proofs.Counts.{IsApart, Lets, dead, degree_parts, from_holder, holdings_split, lets_die, lets_free}

-- a death that holds nothing and waits for no frame
abbrev pub IsBarePhase : DyingPhase → Type 0
IsBarePhase Finalizer = Unit {0}
IsBarePhase AfterFinalizer = ⊥
IsBarePhase (Clearing []) = Unit {0}
IsBarePhase (Clearing (weak ∷ waiting)) = ⊥
IsBarePhase (Calling []) = Unit {0}
IsBarePhase (Calling (weak ∷ waiting)) = ⊥
IsBarePhase (AfterCall weak callback waiting) = ⊥
IsBarePhase LegacyFinalizer = Unit {0}
IsBarePhase AfterLegacy = ⊥
IsBarePhase Detaching = Unit {0}
IsBarePhase Emptying = Unit {0}

-- the activities above: releases, and such deaths of objects that have begun to die
abbrev pub IsBare : (ℕ → Bool) → Activity → Type 0
IsBare gone (TopLevel commands) = ⊥
IsBare gone (Framed f) = ⊥
IsBare gone (Releasing references) = Unit {0}
IsBare gone (Dying d) = (gone d.object ≡ true) × IsBarePhase d.phase
IsBare gone (Collecting c) = ⊥
IsBare gone (ShuttingDown started) = ⊥

bare_more : (gone more : ℕ → Bool) → ((n : ℕ) → gone n ≡ true → more n ≡ true) → (a : Activity) → IsBare gone a → IsBare more a
bare_more gone more h (TopLevel commands) b = b
bare_more gone more h (Framed f) b = b
bare_more gone more h (Releasing references) b = b
bare_more gone more h (Dying d) b = (h d.object b.0, b.1)
bare_more gone more h (Collecting c) b = b
bare_more gone more h (ShuttingDown started) b = b

is_positive : (n : ℕ) → n ≢ 0 → 0 < n
is_positive zero h = absurd (h refl)
is_positive (suc n) h = omega arith

-- an in-degree made up only by a set and the released references
of_set : (degree roots entries inside outside stack given under : ℕ) → degree ≡ roots + entries + stack → entries ≡ inside + outside → stack ≡ given + under
    → roots ≡ 0 → outside ≡ 0 → under ≡ 0 → given + inside ≡ degree
of_set degree roots entries inside outside stack given under a b c d e f = omega (arith, a, b, c, d, e, f)

-- The release starts in world w.
module _ (w : World) (given : List ℕ) (below : List Activity) where
  pub record Between (gone : ℕ → Bool) (tops : List Activity) (done : List Event) (bindings : List (Option Val)) (objects : List Object) (whole : List Activity) : Type 0 where
    pub names : bindings ≡ w.names
    pub stack : whole ≡ tops ++ below
    pub bare : (a : Activity) → Includes tops a → IsBare gone a
    pub others : (set : ℕ → Bool) → IsApart gone set → references_from set objects ≡ references_from set w.objects
    pub lives : (n : ℕ) → Includes (serials w.objects) n → (gone n ≡ true) ⊎ Includes (serials objects) n
    pub entries : (o : ℕ) → Includes (entry_holdings (graph_of objects)) o → Includes (holdings w) o
    pub given_up : (o : ℕ) → Includes (flat_map holds tops) o → Includes (holdings w) o
    pub dies : (o : ℕ) → gone o ≡ true → DiesByCount w given o
    pub ends : (o : ℕ) → gone o ≡ true → (list_any (is_death_of o) tops ≡ true) ⊎ Includes done (Free o) × ¬ Includes (serials objects) o
    pub freed : (o : ℕ) → Includes done (Free o) → gone o ≡ true

  -- a step that begins and ends no death
  pub goes : (gone : ℕ → Bool) (tops next : List Activity) (done lines : List Event) (names : List (Option Val)) (objects after : List Object) (stack : List Activity) → Lets gone objects after
      → ((a : Activity) → Includes next a → IsBare gone a) → ((o : ℕ) → Includes (flat_map holds next) o → Includes (flat_map holds tops) o ⊎ Includes (entry_holdings (graph_of objects)) o)
      → ((o : ℕ) → list_any (is_death_of o) tops ≡ true → list_any (is_death_of o) next ≡ true) → ((o : ℕ) → ¬ Includes lines (Free o))
      → Between gone tops done names objects stack → Between gone next (done ++ lines) names after (next ++ below)
  goes gone tops next done lines names objects after stack l bare held deaths none b = record {
    names = b.names;
    stack = refl;
    bare = bare;
    others = λ set a. l.others set a ∙ b.others set a;
    lives = λ n m. either (b.lives n m) (λ g. inl g) (λ k. l.lives n k);
    entries = λ o m. b.entries o (l.entries o m);
    given_up = λ o m. either (held o m) (λ k. b.given_up o k) (λ k. b.entries o k);
    dies = b.dies;
    ends = λ o g. either (b.ends o g) (λ k. inl (deaths o k)) (λ k. inr (Includes-append_left done lines (Free o) k.0, λ m. k.1 (l.fewer o m)));
    freed = λ o m. either (Includes-append_cases done lines (Free o) m) (λ k. b.freed o k) (λ k. absurd (none o k));
  }

  -- a death ends
  pub frees : (gone : ℕ → Bool) (o : ℕ) (tops : List Activity) (done : List Event) (names : List (Option Val)) (objects : List Object) (stack : List Activity)
      → Between gone (Dying (record { object = o; phase = Emptying }) ∷ tops) done names objects stack → Between gone tops (done ++ Free o ∷ []) names (without o objects) (tops ++ below)
  frees gone o tops done names objects stack b = record {
    names = b.names;
    stack = refl;
    bare = λ a m. b.bare a (inr m);
    others = λ set a. l.others set a ∙ b.others set a;
    lives = λ n m. either (b.lives n m) (λ g. inl g) (λ k. l.lives n k);
    entries = λ p m. b.entries p (l.entries p m);
    given_up = λ p m. b.given_up p m;
    dies = b.dies;
    ends = λ p g. either (b.ends p g)
        (λ k. either (true_or (o == p) (list_any (is_death_of p) tops) k) (λ t. inr (it p (eqb-true o p t))) (λ t. inl t))
        (λ k. inr (Includes-append_left done (Free o ∷ []) (Free p) k.0, λ m. k.1 (l.fewer p m)));
    freed = λ p m. either (Includes-append_cases done (Free o ∷ []) (Free p) m) (λ k. b.freed p k) (λ k. subst (λ (n : ℕ). gone n ≡ true) (same p k) is_gone);
  }
    where
      is_gone : gone o ≡ true
      is_gone = (b.bare (Dying (record { object = o; phase = Emptying })) (inl refl)).0

      l : Lets gone objects (without o objects)
      l = lets_free gone o objects is_gone

      same : (p : ℕ) → Includes (Free o ∷ []) (Free p) → o ≡ p
      same p (inl e) = cc
      same p (inr m) = absurd m

      it : (p : ℕ) → o ≡ p → Includes (done ++ Free o ∷ []) (Free p) × ¬ Includes (serials (without o objects)) p
      it p e = (
        Includes-append_right done (Free o ∷ []) (Free p) (inl (ap (λ (n : ℕ). Free n) e)),
        λ m. without_gone o objects (subst (Includes (serials (without o objects))) (sym e) m),
      )

  module _ (orderly : IsOrderly w) (top : w.stack ≡ Releasing given ∷ below) (v : World) (gone : ℕ → Bool) (o : ℕ) (refs : List ℕ) (tops : List Activity) (done : List Event)
      (b : Between gone (Releasing (o ∷ refs) ∷ tops) done v.names v.objects v.stack) (none : in_degree (with_stack (Releasing refs ∷ (tops ++ below)) v) o ≡ 0) where
    free : HeldByNone (with_stack (Releasing refs ∷ (tops ++ below)) v) o
    free = none_holds (with_stack (Releasing refs ∷ (tops ++ below)) v) o none

    was_held : Includes (holdings w) o
    was_held = b.given_up o (inl refl)

    -- no root holds it
    no_root : occurrences o (name_holdings w.names ++ (1 ∷ [])) ≡ 0
    no_root = no_times o (name_holdings w.names ++ (1 ∷ [])) (λ m. either (Includes-append_cases (name_holdings w.names) (1 ∷ []) o m)
        (λ k. free.names (subst (λ ns. Includes (name_holdings ns) o) (sym b.names) k)) (λ k. either k (λ e. free.root (sym e)) (λ no. no)))

    -- nor do the activities below
    none_under : occurrences o (flat_map holds below) ≡ 0
    none_under = no_times o (flat_map holds below) (λ m. free.stack (Includes-append_right refs (flat_map holds (tops ++ below)) o (further tops m)))
      where
        further : (ts : List Activity) → Includes (flat_map holds below) o → Includes (flat_map holds (ts ++ below)) o
        further [] m = m
        further (t ∷ ts) m = Includes-append_right (holds t) (flat_map holds (ts ++ below)) o (further ts m)

    -- nor an object outside the set and the dying objects
    none_outside : (set : ℕ → Bool) → ((n : ℕ) → gone n ≡ true → set n ≡ true) → occurrences o (references_from (λ n. not (set n)) w.objects) ≡ 0
    none_outside set has = no_times o (references_from (λ n. not (set n)) w.objects) (λ m.
        let x = from_holder (λ n. not (set n)) v.objects o (subst (λ rs. Includes rs o) (sym (b.others (λ n. not (set n)) (λ n g. ap not (has n g)))) m) in
        free.entries x.0 x.1 x.3)

    -- it dies by count
    pub dies_now : DiesByCount w given o
    dies_now set closed =
        let found = Includes-map_cases (λ (z : Object). z.serial) w.objects o (orderly.held_live o was_held) in
        let has : ((n : ℕ) → gone n ≡ true → set n ≡ true) = λ n g. b.dies n g set closed in
        let all = degree_parts w (Releasing given ∷ below) o top in
        let count : occurrences o given + occurrences o (references_from set w.objects) ≡ in_degree w o =
        of_set _ _ _ _ _ _ _ _ all (holdings_split o set w.objects) (occurrences-append o given (flat_map holds below)) no_root (none_outside set has) none_under in
        let some : 0 < in_degree w o = is_positive (in_degree w o) (λ e. absent o (holdings w) e was_held) in
        subst (λ (n : ℕ). set n ≡ true) found.2 (closed found.0 found.1 (subst (λ (n : ℕ). 0 < in_degree w n) (sym found.2) some)
        (subst (λ (n : ℕ). occurrences n (given ++ references_from set w.objects) ≡ in_degree w n) (sym found.2) (occurrences-append o given (references_from set w.objects) ∙ count)))

    abbrev more : ℕ → Bool
    more n = o == n || gone n

    -- its death begins
    pub begins : Between more (Dying (record { object = o; phase = Finalizer }) ∷ Releasing refs ∷ tops) (done ++ []) v.names (change dead o v.objects)
        (Dying (record { object = o; phase = Finalizer }) ∷ Releasing refs ∷ (tops ++ below))
    begins = record {
      names = b.names;
      stack = refl;
      bare = bare;
      others = λ set a. l.others set (λ n g. a n (grows n g)) ∙ b.others set (λ n g. a n (grows n g));
      lives = λ n m. either (b.lives n m) (λ g. inl (grows n g)) (λ k. either (l.lives n k) (λ g. inl (grows n g)) (λ i. inr i));
      entries = λ p m. b.entries p (l.entries p m);
      given_up = λ p m. b.given_up p (inr m);
      dies = λ p g. either (true_or (o == p) (gone p) g) (λ t. subst (DiesByCount w given) (eqb-true o p t) dies_now) (λ t. b.dies p t);
      ends = λ p g. either (true_or (o == p) (gone p) g) (λ t. inl (or_left (o == p) (list_any (is_death_of p) tops) t))
          (λ t. either (b.ends p t) (λ k. inl (or_right (o == p) (list_any (is_death_of p) tops) k)) (λ k. inr (Includes-append_left done [] (Free p) k.0, λ m. k.1 (l.fewer p m))));
      freed = λ p m. grows p (either (Includes-append_cases done [] (Free p) m) (λ k. b.freed p k) (λ no. absurd no));
    }
      where
        l : Lets gone v.objects (change dead o v.objects)
        l = lets_die gone o v.objects

        grows : (n : ℕ) → gone n ≡ true → more n ≡ true
        grows n g = or_right (o == n) (gone n) g

        bare : (a : Activity) → Includes (Dying (record { object = o; phase = Finalizer }) ∷ Releasing refs ∷ tops) a → IsBare more a
        bare a (inl e) = subst (IsBare more) e (or_left (o == o) (gone o) (eq-eqb o o refl), tt)
        bare a (inr (inl e)) = subst (IsBare more) e tt
        bare a (inr (inr m)) = bare_more gone more grows a (b.bare a (inr m))
