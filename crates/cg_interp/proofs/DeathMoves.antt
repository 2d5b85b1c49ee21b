-- A step of a death changes the world: its part of the stack, or what the heap represents.
use Rattle.std.proofs.Common.{◌≡◌, ◌≢◌, refl, sym, ◌∙◌, ap, ℕ, Bool, true, false, cond, inl, inr, List, [], ◌∷◌, Option, None, Some, map, length, arith}
use Rattle.std.specs.Prelude.{filter, reverse, option_map, unwrap_or, ◌⊎◌, ◌==◌}
use Rattle.std.specs.FinMap as fin
use Rattle.std.proofs.lemmas.Bool.{eqb-true}
use Rattle.cg_graph.specs.Member.{Includes}
use Rattle.cg_graph.specs.Object.{Object, entries_of as object_entries_of}
use Rattle.cg_graph.specs.Rows.{Row, waits_with, weak_references_in}
use Rattle.cg_graph.specs.Store.{Store, Node, objects_of, object_from, waiting_for, entries_of, entries_in}
use Rattle.cg_graph.proofs.Objects.{object-at}
use Rattle.cg_graph.proofs.Members.{true_and}
use Rattle.cg_heap.specs.Weak.{AreRows}
use Rattle.cg_machine.specs.World as machine
use Rattle.cg_machine.specs.World.{World, Activity, Releasing, Dying, Finalizer}
use Rattle.cg_represents.specs.Represents.{Represents}
use Rattle.cg_death.specs.declared.release.Release.{Release}
use Rattle.cg_death.specs.declared.phase.Phase.{Phase}
use Rattle.cg_death.specs.declared.phase.Phase.TheVariants as phase_of
use Rattle.cg_death.specs.declared.death.Death.{Death}
use Rattle.cg_death.specs.Activities.{activities, death_activities, death_of}
use Rattle.cg_death.specs.Deaths.{on_stack, DeathFalls}
use Rattle.cg_death.specs.Falls.{pass_of, own_holds, still_released}
use Rattle.cg_death.proofs.CallerLemmas.{rows_of_world}

-- the entries of an object are the same in both
entries_agree : (store : Store) (o : ℕ) → object_entries_of (objects_of store) o ≡ entries_of store o
entries_agree store o = ap (λ x. unwrap_or (option_map (λ (x : Object). x.entries) x) []) (object-at store o) ∙ known (fin.get store.nodes o)
  where
    known : (x : Option Node) → unwrap_or (option_map (λ (x : Object). x.entries) (option_map (object_from store.rows o) x)) [] ≡ entries_in x
    known None = refl
    known (Some n) = refl

-- if a weak reference waits with an object, it has a row
a_row_waits : (o : ℕ) (rows : List Row) → (filter (waits_with o) rows ≡ []) ⊎ ((r : Row) × Includes rows r × (r.waits ≡ true) × (r.referent ≡ o))
a_row_waits o [] = inl refl
a_row_waits o (r ∷ rows) = go (waits_with o r) refl (a_row_waits o rows)
  where
    go : (b : Bool) → waits_with o r ≡ b → (filter (waits_with o) rows ≡ []) ⊎ ((q : Row) × Includes rows q × (q.waits ≡ true) × (q.referent ≡ o))
        → (filter (waits_with o) (r ∷ rows) ≡ []) ⊎ ((q : Row) × Includes (r ∷ rows) q × (q.waits ≡ true) × (q.referent ≡ o))
    go true e rest = let parts = true_and (r.referent == o) r.waits e in inr (r, inl refl, parts.1, eqb-true r.referent o parts.0)
    go false e (inl none) = inl (ap (λ b. cond b (r ∷ filter (waits_with o) rows) (filter (waits_with o) rows)) e ∙ none)
    go false e (inr q) = inr (q.0, inr q.1, q.2, q.3)

-- Two heaps that represent the same world agree on waiting weak references, on all weak references and on entries.
module _ (a b : Store) (w : World) (in_a : Represents a w) (in_b : Represents b w) (o : ℕ) where
  -- the world knows what waits in one of them
  by_death : (d : machine.Death) → Includes w.stack (Dying d) → d.object ≡ o → waiting_for a o ≡ waiting_for b o
  by_death d m is = ap (waiting_for a) (sym is) ∙ sym (in_a.deaths d m) ∙ in_b.deaths d m ∙ ap (waiting_for b) is

  pub same_waiting : waiting_for a o ≡ waiting_for b o
  same_waiting = by (a_row_waits o a.rows) (a_row_waits o b.rows)
    where
      by : (filter (waits_with o) a.rows ≡ []) ⊎ ((r : Row) × Includes a.rows r × (r.waits ≡ true) × (r.referent ≡ o)) → (filter (waits_with o) b.rows ≡ [])
          ⊎ ((r : Row) × Includes b.rows r × (r.waits ≡ true) × (r.referent ≡ o))
          → waiting_for a o ≡ waiting_for b o
      by (inr x) y = let found = in_a.no_others x.0 x.1 x.2 in by_death found.0 found.1 (found.2 ∙ x.3)
      by (inl x) (inr y) = let found = in_b.no_others y.0 y.1 y.2 in by_death found.0 found.1 (found.2 ∙ y.3)
      by (inl x) (inl y) = ap (λ rs. reverse (map (λ (r : Row). r.weak) rs)) (x ∙ sym y)

  pub same_entries : entries_of a o ≡ entries_of b o
  same_entries = sym (entries_agree a o) ∙ ap (λ os. object_entries_of os o) (in_a.objects ∙ sym in_b.objects) ∙ entries_agree b o

  pub same_weak : AreRows a → AreRows b → weak_references_in a.rows o ≡ weak_references_in b.rows o
  same_weak rows_a rows_b = sym (rows_of_world a w in_a rows_a o) ∙ rows_of_world b w in_b rows_b o

-- How far a death is, according to the stack.
abbrev pass_in : machine.DyingPhase → ℕ
pass_in machine.Finalizer = 0
pass_in machine.AfterFinalizer = 1
pass_in (machine.Clearing waiting) = 2
pass_in (machine.Calling waiting) = 3
pass_in (machine.AfterCall weak callback waiting) = 3
pass_in machine.LegacyFinalizer = 4
pass_in machine.AfterLegacy = 5
pass_in machine.Detaching = 6
pass_in machine.Emptying = 7

pass_shown : List Activity → ℕ
pass_shown [] = 8
pass_shown (Dying d ∷ below) = pass_in d.phase
pass_shown _ = 0

abbrev holds_in : machine.DyingPhase → ℕ
holds_in machine.AfterFinalizer = 1
holds_in (machine.AfterCall weak callback waiting) = 2
holds_in machine.AfterLegacy = 1
holds_in _ = 0

holds_shown : List Activity → ℕ
holds_shown (Dying d ∷ below) = holds_in d.phase
holds_shown _ = 0

released_shown : List Activity → ℕ
released_shown (Releasing references ∷ below) = length references
released_shown _ = 0

under_release : List Activity → List Activity
under_release (Releasing references ∷ below) = below
under_release stack = stack

-- The stack shows how far it is.
record IsShown (o : ℕ) (phase : Phase) (waiting : List ℕ) : Type 0 where
  pass : pass_shown (death_activities o phase waiting) ≡ pass_of phase
  own : holds_shown (death_activities o phase waiting) ≡ own_holds phase
  none : released_shown (death_activities o phase waiting) ≡ 0
  under : under_release (death_activities o phase waiting) ≡ death_activities o phase waiting

is_shown : (o : ℕ) (phase : Phase) (waiting : List ℕ) → IsShown o phase waiting
unfolding pass_shown holds_shown released_shown under_release
is_shown o phase_of.Finalizer waiting = record { pass = refl; own = refl; none = refl; under = refl }
is_shown o _ waiting = record { pass = refl; own = refl; none = refl; under = refl }

-- the same with references to give up above it
record AreShown (o : ℕ) (phase : Phase) (release : Option Release) (store : Store) : Type 0 where
  pass : pass_shown (under_release (activities o phase release store)) ≡ pass_of phase
  own : holds_shown (under_release (activities o phase release store)) ≡ own_holds phase
  released : released_shown (activities o phase release store) ≡ still_released release

are_shown : (o : ℕ) (phase : Phase) (release : Option Release) (store : Store) → AreShown o phase release store
unfolding under_release released_shown
are_shown o phase None store = let s = is_shown o phase (waiting_for store o) in record { pass = ap pass_shown s.under ∙ s.pass; own = ap holds_shown s.under ∙ s.own; released = s.none }
are_shown o phase (Some release) store = let s = is_shown o phase (waiting_for store o) in record { pass = s.pass; own = s.own; released = refl }

-- Nothing falls if the stack is the same, in the same world.
pub no_fall : (death after : Death) (old new : Store) (w : World) → Represents old w → Represents new w → AreRows old → AreRows new → after.object
    ≡ death.object → on_stack death old ≡ on_stack after new → DeathFalls death old after new → ⊥
no_fall death after old new w in_old in_new rows_old rows_new same stacks falls = by falls
  where
    was : AreShown death.object death.phase death.release old
    was = are_shown death.object death.phase death.release old

    now : AreShown after.object after.phase after.release new
    now = are_shown after.object after.phase after.release new

    pass : pass_of death.phase ≡ pass_of after.phase
    pass = sym was.pass ∙ ap (λ l. pass_shown (under_release l)) stacks ∙ now.pass

    own : own_holds death.phase ≡ own_holds after.phase
    own = sym was.own ∙ ap (λ l. holds_shown (under_release l)) stacks ∙ now.own

    released : still_released death.release ≡ still_released after.release
    released = sym was.released ∙ ap released_shown stacks ∙ now.released

    waiting : length (waiting_for old death.object) ≡ length (waiting_for new death.object)
    waiting = ap length (same_waiting old new w in_old in_new death.object)

    weak : length (weak_references_in old.rows death.object) ≡ length (weak_references_in new.rows death.object)
    weak = ap length (same_weak old new w in_old in_new death.object rows_old rows_new)

    entries : length (entries_of old death.object) ≡ length (entries_of new death.object)
    entries = ap length (same_entries old new w in_old in_new death.object)

    by : DeathFalls death old after new → ⊥
    by (inl later) = absurd (omega (arith, later, pass))
    by (inr less) = let fewer = less.1 in absurd (omega (arith, fewer, own, released, waiting, weak, entries))

-- the object of the death on top
object_shown : List Activity → ℕ
object_shown (Dying d ∷ below) = d.object
object_shown stack = 0

-- the death of another object was not on top
pub no_death_on_top : (death : Death) (store : Store) (q : ℕ) (rest : List Activity) → q ≢ death.object → death_of q Finalizer ∷ rest ≡ on_stack death store → ⊥
unfolding object_shown pass_shown
no_death_on_top death store q rest other is = by death.phase death.release is
  where
    bare : (phase : Phase) (waiting : List ℕ) → death_of q Finalizer ∷ rest ≡ death_activities death.object phase waiting → ⊥
    bare phase_of.Finalizer waiting e = other (ap object_shown e)
    bare phase waiting e = let pass : 0 ≡ pass_of phase = ap pass_shown e ∙ (is_shown death.object phase waiting).pass in absurd (omega (arith, pass))

    by : (phase : Phase) (release : Option Release) → death_of q Finalizer ∷ rest ≡ activities death.object phase release store → ⊥
    by phase None e = bare phase (waiting_for store death.object) e
    by phase (Some release) e = absurd (cc)
