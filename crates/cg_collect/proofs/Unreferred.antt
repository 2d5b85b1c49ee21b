-- If no weak reference has a referent, a collection has none to visit.
use Rattle.std.proofs.Common.{◌≡◌, refl, sym, ◌∙◌, ap, subst, ℕ, List, [], ◌∷◌, ◌++◌, map, Option, None}
use Rattle.std.specs.Prelude.{filter, not}
use Rattle.std.proofs.lemmas.Option.{none-some}
use Rattle.cg_value.specs.declared.Place.TheVariants.{Cand}
use Rattle.cg_script.specs.declared.Script.{Script}
use Rattle.cg_graph.specs.Object.{Object}
use Rattle.cg_graph.specs.Rows.{Row, referent_in}
use Rattle.cg_graph.specs.Store.{Store, list_at, objects_of}
use Rattle.cg_machine.specs.declared.event.Event.TheVariants.{Cleared}
use Rattle.cg_represents.specs.Represents.{Represents}
use Rattle.cg_policy.specs.Policy.{Policy}
use Rattle.cg_collect.specs.declared.answer.CollectStep.TheVariants as answer_of
use Rattle.cg_collect.specs.declared.collection.Facts.{Facts}
use Rattle.cg_collect.specs.declared.phase.Phase.TheVariants as phase_of
use Rattle.cg_collect.specs.Phases.{from_on, cleared_lines, members_losing, without_referents, without_rows_of, is_lost_with}
use Rattle.cg_collect.specs.Ready.{IsWalk}
use Rattle.cg_collect.specs.Answers.{CollectSteps}
use Rattle.cg_collect.specs.Turns.{collection_at}
use Rattle.cg_collect.proofs.PlacesOfObjects.{node_there}
use Rattle.cg_collect.proofs.Stopping.{tells_none}
use Rattle.cg_collect.proofs.Walking.{loses_some}

-- The walk of the weak phase is over.
pub unreferred_walk : (profile : ℕ) (store : Store) (member : Option ℕ) → store.rows ≡ [] → IsWalk profile store member None → IsWalk profile store None None
unreferred_walk profile store member none walk = record {
  member_at = tt;
  weak_live = walk.weak_live;
  none_missed = λ x m loses plain.
      let (o, is, condemned) = loses_some profile (objects_of store) x loses in
      let (n, got, made) = node_there store x m in
      absurd (none-some o (sym (ap (λ rows. referent_in rows x.serial) none) ∙ ap (λ (y : Object). y.referent) made ∙ is));
  none_newer = walk.none_newer;
  waiting = walk.waiting;
}

none_cleared : (members : List ℕ) → cleared_lines [] members ≡ []
none_cleared [] = refl
none_cleared (o ∷ members) = none_cleared members

none_losing : (final members : List ℕ) → members_losing final members [] ≡ []
none_losing final [] = refl
none_losing final (o ∷ members) = none_losing final members

-- No line is left to print, and the turns of the members follow.
pub turn-unreferred : (script : Script) (facts : Facts) (store : Store) (policy : Policy) (next : Option ℕ) → store.rows ≡ []
    → CollectSteps script (collection_at facts (phase_of.Detaching next) None) store policy (collection_at facts phase_of.Turns None) store policy answer_of.Continue
turn-unreferred script facts store policy next none =
    tells_none script facts (phase_of.Detaching next) phase_of.Turns store policy
    (λ asked w below s. record { represents = subst (λ (st : Store). Represents st w) unlost s.represents; numbers = s.numbers; running = s.running; top = s.top })
    (λ asked.
    (λ i. cleared_lines (none i) (from_on next candidates) ++ map Cleared (members_losing candidates candidates (without_referents candidates (none i))))
    ∙ (λ i. none_cleared (from_on next candidates) i ++ map Cleared (none_losing candidates candidates i)))
  where
    candidates : List ℕ
    candidates = list_at store Cand

    unlost : without_rows_of (list_at store Cand) store ≡ store
    unlost = ap (λ (rows : List Row). record store { rows = rows }) (ap (filter (λ r. not (is_lost_with (list_at store Cand) r))) none ∙ sym none)
