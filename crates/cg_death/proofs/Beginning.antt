-- When a death begins, the heap does what the machine does.
use Rattle.std.proofs.Common.{◌≡◌, refl, sym, ◌∙◌, ap, subst, ℕ, Bool, true, false, not, inl, inr, List, [], Option, Some, None, arith}
use Rattle.std.specs.Prelude.{◌==◌, if◌then◌else◌, is_some}
use Rattle.std.proofs.lemmas.Bool.{not-true, cases_eq, eq-eqb, ne_eqb}
use Rattle.cg_value.specs.declared.Place.TheVariants.{Untracked}
use Rattle.cg_graph.specs.Member.{Includes}
use Rattle.cg_graph.specs.Object.{with_place, with_referent, change}
use Rattle.cg_graph.specs.Rows.{Row, referent_in, waiting_in, without_row}
use Rattle.cg_graph.specs.Store.{Store, count_of}
use Rattle.cg_graph.specs.Changes.{moved}
use Rattle.cg_graph.proofs.Members.{either, true_and}
use Rattle.cg_machine.specs.World.{World, Dying, Collecting, Finalizer}
use Rattle.cg_machine.specs.Frame.{begin_death}
use Rattle.cg_represents.specs.Represents.{Represents}
use Rattle.cg_represents.specs.Orderly.{death_waits}
use Rattle.cg_heap.specs.Weak.{AreRows, cleared_weak}
use Rattle.cg_heap.proofs.HoldLemmas.{outside-moved}
use Rattle.cg_represents.proofs.Representing.{Matches, represents}
use Rattle.cg_death.proofs.Turns.{death}
use Rattle.cg_death.proofs.Places.{change-change, matches-moved}
use Rattle.cg_death.proofs.RowSplits.{split_at, referent-without, waiting-without, left-in}
use Rattle.cg_death.proofs.WeakObjects.{row_there, objects-cleared}

-- Rows in which a weak reference has lost its referent, with the same waiting ones.
pub record Forgets (rows after : List Row) (o : ℕ) : Type 0 where
  pub referents : (q : ℕ) → referent_in after q ≡ (if q == o then None else referent_in rows q)
  pub waiting : (p : ℕ) → waiting_in after p ≡ waiting_in rows p
  pub inside : (x : Row) → Includes after x → Includes rows x

forgets_none : (rows : List Row) (o : ℕ) → referent_in rows o ≡ None → Forgets rows rows o
forgets_none rows o none = record {
  referents = λ q. elim (cases_eq q o) [
    | inl same ↦ ap (referent_in rows) same ∙ none ∙ sym (ap (λ b. if b then None else referent_in rows q) (eq-eqb q o same))
    | inr differs ↦ sym (ap (λ b. if b then None else referent_in rows q) (ne_eqb q o differs))
  ];
  waiting = λ p. refl;
  inside = λ x m. m;
}

forgets_one : (store : Store) (o referent : ℕ) → AreRows store → referent_in store.rows o ≡ Some referent → Forgets store.rows (without_row o store.rows) o
forgets_one store o referent ok e =
    let found = row_there store.rows o referent e in
    let split = split_at store.rows found.0 ok.rise found.1 in
    let stays = not-true found.0.waits (true_and (found.0.referent == referent) (not found.0.waits) found.2).1 in
    subst (λ w. Forgets store.rows (without_row w store.rows) w) found.3 (record {
      referents = referent-without store.rows found.0 split;
      waiting = waiting-without store.rows found.0 split stays;
      inside = λ x m. left-in found.0.weak store.rows x m;
    })

pub rows_after : (store : Store) (o : ℕ) → AreRows store → Forgets store.rows (if is_some (referent_in store.rows o) then cleared_weak o false store else store).rows o
rows_after store o ok = known (referent_in store.rows o) refl
  where
    known : (x : Option ℕ) → referent_in store.rows o ≡ x → Forgets store.rows (if is_some x then cleared_weak o false store else store).rows o
    known None e = forgets_none store.rows o e
    known (Some referent) e = forgets_one store o referent ok e

module _ (store : Store) (o : ℕ) (rows : List Row) (forgets : Forgets store.rows rows o) (none : count_of store o ≡ 0) (none_waits : waiting_in store.rows o
    ≡ []) (w : World) (r : Represents store w) where
  abbrev begun : Store
  begun = record (moved o Untracked store) { rows = rows }

  untracked : Matches (moved o Untracked store) (record w { objects = change (with_place Untracked) o w.objects })
  untracked = matches-moved store w o Untracked (λ e. absurd (omega (arith, e))) r none

  pub begins : Represents begun (begin_death o w)
  begins = represents begun (begin_death o w) (record {
    objects = objects-cleared (moved o Untracked store) rows o forgets.referents ∙ ap (change (with_referent None) o) untracked.objects
        ∙ change-change (with_referent None) (with_place Untracked) (λ x. refl) o w.objects;
    next_serial = r.next_serial;
    names = r.names;
    deaths = λ d i. either i
        (λ e. let same : death o Finalizer ≡ d = cc in subst (λ (x : Rattle.cg_machine.specs.World.Death). death_waits x.phase ≡ waiting_in rows x.object) same (sym (forgets.waiting o ∙ none_waits)))
        (λ k. r.deaths d k ∙ sym (forgets.waiting d.object));
    no_others = λ x i waits. let found = r.no_others x (forgets.inside x i) waits in (found.0, inr found.1, found.2);
    collection = λ c i. untracked.collection c (either i (λ e. cc) (λ k. k));
  }) (λ q. outside-moved o Untracked store q ∙ r.outside q)

pub begins-death : (store mid new : Store) (o : ℕ) → AreRows store → count_of store o ≡ 0 → waiting_in store.rows o ≡ [] → mid ≡ moved o Untracked store → new
    ≡ (if is_some (referent_in mid.rows o) then cleared_weak o false mid else mid)
    → (w : World) → Represents store w → Represents new (begin_death o w)
begins-death store mid new o ok none none_waits is_mid is_new w r =
    subst (λ st. Represents st (begin_death o w)) (sym (is_new ∙ ap (λ m. if is_some (referent_in m.rows o) then cleared_weak o false m else m) is_mid ∙ spelled (is_some (referent_in store.rows o))))
    (begins store o (if is_some (referent_in store.rows o) then cleared_weak o false store else store).rows (rows_after store o ok) none none_waits w r)
  where
    spelled : (b : Bool) → (if b then cleared_weak o false (moved o Untracked store) else moved o Untracked store) ≡ record (moved o Untracked store)
        { rows = (if b then cleared_weak o false store else store).rows }
    spelled true = refl
    spelled false = refl
