-- A death goes to another phase, or ends, and the heap stays as it is.
use Rattle.std.proofs.Common.{length, ◌≡◌, refl, sym, ◌∙◌, ap, subst, ℕ, true, inl, inr, List, [], ◌∷◌, ◌++◌, map, reverse, arith}
use Rattle.std.specs.Prelude.{flat_map, ◌==◌, ◌&&◌, filter}
use Rattle.std.proofs.lemmas.Bool.{eq-eqb}
use Rattle.std.proofs.lemmas.List.{length-reverse}
use Rattle.cg_script.specs.declared.Script.{Script}
use Rattle.cg_graph.specs.Member.{Includes}
use Rattle.cg_graph.specs.Holdings.{occurrences}
use Rattle.cg_graph.specs.Rows.{Row}
use Rattle.cg_graph.specs.Store.{Store, waiting_for}
use Rattle.cg_graph.proofs.Members.{either, Includes-map, Includes-filter}
use Rattle.cg_graph.proofs.Objects.{occurrences-append}
use Rattle.cg_machine.specs.declared.event.Event.{Event}
use Rattle.cg_machine.specs.World.{World, Activity, Dying, Death, DyingPhase, with_stack}
use Rattle.cg_machine.specs.Holdings.{holds, dying_holds}
use Rattle.cg_machine.specs.Frame.{Transition}
use Rattle.cg_machine.specs.Dying.{dying, death_at}
use Rattle.cg_represents.specs.Represents.{Goes}
use Rattle.cg_represents.specs.Orderly.{death_waits}
use Rattle.cg_death.specs.Activities.{death_of}
use Rattle.cg_death.specs.Answers.{DeathStands, WentOn}
use Rattle.cg_represents.proofs.Representing.{in_one, Matches, matches, represents}
use Rattle.cg_death.proofs.Worlds.{went_to}

-- no row waits with an object for which none waits
pub not_waiting : (Y : Type 0) (store : Store) (o : ℕ) → waiting_for store o ≡ [] → (row : Row) → Includes store.rows row → row.waits ≡ true → row.referent ≡ o → Y
not_waiting Y store o none row m waits e =
    let passes : ((row.referent == o) && row.waits) ≡ true = (λ i. eq-eqb row.referent o e i && waits i) in
    let there : Includes (filter (λ r. (r.referent == o) && r.waits) store.rows) row = Includes-filter (λ r. (r.referent == o) && r.waits) store.rows row passes m in
    none_there (filter (λ r. (r.referent == o) && r.waits) store.rows) there none
  where
    no_reverse : (xs : List ℕ) (x : ℕ) → Includes xs x → reverse xs ≡ [] → Y
    no_reverse [] x m e = absurd m
    no_reverse (y ∷ xs) x m e = let len : length (reverse (y ∷ xs)) ≡ 0 = ap length e in absurd (omega (arith, len, length-reverse (y ∷ xs)))

    none_there : (rs : List Row) → Includes rs row → reverse (map (λ r. r.weak) rs) ≡ [] → Y
    none_there rs m e = no_reverse (map (λ r. r.weak) rs) row.weak (Includes-map (λ (r : Row). r.weak) rs row m) e

abbrev pub death : ℕ → DyingPhase → Death
death o phase = record { object = o; phase = phase }

pub own_object : (o : ℕ) (phase : DyingPhase) (d : Death) → death_of o phase ≡ Dying d → o ≡ d.object
own_object o phase d e = let same : death o phase ≡ d = cc in ap (λ (x : Death). x.object) same

module _ (store : Store) (v : World) (o : ℕ) (phase : DyingPhase) (below : List Activity) where
  abbrev pub here : World
  here = with_stack (death_of o phase ∷ below) v

  pub rephased : (next : DyingPhase) → death_waits next ≡ waiting_for store o → Matches store here → Matches store (with_stack (death_of o next ∷ below) v)
  rephased next waits m = record {
    objects = m.objects;
    next_serial = m.next_serial;
    names = m.names;
    deaths = λ d i. either i (λ e. let same : death o next ≡ d = cc in subst (λ (x : Death). death_waits x.phase ≡ waiting_for store x.object) same waits) (λ k. m.deaths d (inr k));
    no_others = λ r i waits. let found = m.no_others r i waits in either found.1 (λ e. (death o next, inl refl, own_object o phase found.0 e ∙ found.2)) (λ k. (found.0, inr k, found.2));
    collection = λ c i. m.collection c (either i (λ e. cc) (λ k. inr k));
  }

  pub ended : waiting_for store o ≡ [] → Matches store here → Matches store (with_stack below v)
  ended none m = record {
    objects = m.objects;
    next_serial = m.next_serial;
    names = m.names;
    deaths = λ d i. m.deaths d (inr i);
    no_others = λ r i waits. let found = m.no_others r i waits in (
      found.0,
      either found.1 (λ e. not_waiting (Includes below (Dying found.0)) store o none r i
          waits (sym (own_object o phase found.0 e ∙ found.2))) (λ k. k),
      found.2,
    );
    collection = λ c i. m.collection c (inr i);
  }

  pub waits_are : Matches store here → death_waits phase ≡ waiting_for store o
  waits_are m = m.deaths (death o phase) (inl refl)

  module _ (script : Script) (s : DeathStands store here (death_of o phase ∷ below)) where
    pub steps_to : (events : List Event) (after : World) → dying script o phase below here ≡ (events, after) → Goes script here events after
    steps_to events after e = in_one script here events after s.running (sym (ap (λ (t : Transition). t.0) e), sym (ap (λ (t : Transition). t.1) e))

    -- only the phase changes
    pub only_phase : (next : DyingPhase) → dying script o phase below here ≡ ([], death_at o next below here) → death_waits next ≡ waiting_for store o
        → ((q : ℕ) → occurrences q (dying_holds o next) ≡ occurrences q (dying_holds o phase))
        → WentOn script here [] here.numbers store (death_of o next ∷ below)
    only_phase next e waits held = went_to (death_at o next below here)
        (steps_to [] (death_at o next below here) e)
        (represents store (death_at o next below here) (rephased next waits (matches store here s.represents)) (λ q. s.represents.outside q ∙ same q)) refl (refl, refl, refl)
      where
        same : (q : ℕ) → occurrences q (dying_holds o phase ++ flat_map holds below) ≡ occurrences q (dying_holds o next ++ flat_map holds below)
        same q = omega (arith, held q, occurrences-append q (dying_holds o phase) (flat_map holds below), occurrences-append q (dying_holds o next) (flat_map holds below))
