-- The engine at the start of a run represents the machine's first world.
use Rattle.std.proofs.Common.{◌≡◌, false, refl, sym, ◌∙◌, ap, subst, ℕ, ◌+◌, ◌≤◌, inl, inr, List, [], ◌∷◌, length, map, None, Some, arith}
use Rattle.std.proofs.lemmas.Bool.{cases_eq}
use Rattle.std.proofs.lemmas.List.{length-replicate}
use Rattle.std.specs.Ordering.{nat_cmp}
use Rattle.std.specs.Cmp.{nat_cmp_total}
use Rattle.std.specs.FinMap as fin
use Rattle.cg_script.specs.declared.Script.{Script}
use Rattle.cg_graph.specs.Store.{Store, Node, objects_of, object_from, outside_of, outside_in}
use Rattle.cg_graph.specs.Changes.{opening_store, garbage_node}
use Rattle.cg_graph.proofs.Maps.{get-insert_same, get-insert_other}
use Rattle.cg_graph.proofs.Members.{either}
use Rattle.cg_machine.specs.Program.{commands_of}
use Rattle.cg_machine.specs.World.{opening, garbage_list, first_numbers, TopLevel}
use Rattle.cg_represents.specs.Represents.{Represents}
use Rattle.cg_interp.specs.declared.activity.Activity.TheVariants as activity
use Rattle.cg_policy.specs.Policy.{Policy}
use Rattle.cg_interp.specs.Engines.{State, StandsFor, ShowsAll, any_collecting}
use Rattle.cg_interp.specs.Turns.{IsFit}

-- the first heap has only the garbage list
no_entries : (es : List (ℕ × Node)) → length es ≡ 0 → es ≡ []
no_entries [] e = refl
no_entries (x ∷ es) e = absurd (omega (arith, e))

opening_entries : (n : ℕ) → fin.entries (opening_store n).nodes ≡ (1, garbage_node) ∷ []
opening_entries n =
    let none : fin.entries fin.empty ≡ [] = no_entries (fin.entries fin.empty) (sym (fin.len-entries fin.empty) ∙ fin.len-empty nat_cmp Node) in
    fin.entries-insert nat_cmp_total fin.empty 1 garbage_node ∙ ap (fin.put nat_cmp 1 garbage_node) none

pub opening_objects : (n : ℕ) → objects_of (opening_store n) ≡ garbage_list ∷ []
opening_objects n = ap (map (λ (e : ℕ × Node). object_from [] e.0 e.1)) (opening_entries n)

-- and holds nothing from outside
opening_outside : (n s : ℕ) → outside_of (opening_store n) s ≡ 0
opening_outside n s = elim (cases_eq s 1) [
  | inl same ↦ ap outside_in (get-insert_same fin.empty 1 s garbage_node same)
  | inr differs ↦ ap outside_in (get-insert_other fin.empty 1 s garbage_node differs ∙ fin.get-empty nat_cmp s)
]

opening_represents : (script : Script) (budget : ℕ) → Represents (opening_store (length script.names)) (opening script budget)
opening_represents script budget = record {
  objects = opening_objects (length script.names);
  next_serial = refl;
  names = refl;
  outside = opening_outside (length script.names);
  deaths = λ d i. absurd (either i (λ e. let no : ⊥ = absurd (cc) in no) (λ n. n));
  no_others = λ r i waits. absurd i;
  collection = λ c i. absurd (either i (λ e. let no : ⊥ = absurd (cc) in no) (λ n. n));
}

module _ (script : Script) (e : State) (store : e.store ≡ opening_store (length script.names)) (activities : e.activities ≡ activity.Script (Some 0) ∷ []) where
  pub opening_stands : e.policy ≡ record { numbers = first_numbers; running = false } → StandsFor script e (opening script e.budget)
  opening_stands policy = record {
    represents = subst (λ s. Represents s (opening script e.budget)) (sym store) (opening_represents script e.budget);
    shows = subst (λ l. ShowsAll script l (opening script e.budget).stack) (sym activities)
        (record { tops = TopLevel (commands_of script.items) ∷ []; below = []; shows = refl; some = λ n. absurd (cc); over = refl; is = refl });
    budget = refl;
    running = refl;
    numbers = ap (λ (p : Policy). p.numbers) policy;
    collecting = ap (λ (p : Policy). p.running) policy ∙ ap any_collecting (sym activities);
  }

  pub opening_fit : e.first_budget ≤ 100000 → e.first_budget + 9 ≤ e.room → IsFit script e
  opening_fit few room =
      let objects : length (objects_of e.store) ≡ 1 = ap (λ s. length (objects_of s)) store ∙ ap length (opening_objects (length script.names)) in
      let one : length e.activities ≡ 1 = ap length activities in
      record {
        names = ap (λ (s : Store). length s.names) store ∙ length-replicate (length script.names) None;
        first_budget = few;
        room = omega (arith, objects, one, room);
      }
