-- Look-ups in the map of bodies after one body changes.
use Rattle.std.proofs.Common.{◌≡◌, ◌≢◌, ℕ, List, [], ◌∷◌, ◌++◌, Some, cond, refl, sym, ap, ◌∙◌, subst, inl, inr, IsSome}
use Rattle.std.proofs.lemmas.Bool.{cases_eq, eq-eqb, ne_eqb}
use Rattle.std.specs.Cmp.{nat_cmp_total, unsigned_tied}
use Rattle.std.specs.FinMap as fin
use Rattle.cg_value.specs.declared.Entry.{Entry}
use Rattle.cg_value.specs.declared.Val.{Val}
use Rattle.cg_graph.specs.Value.{item}
use Rattle.cg_graph.proofs.Maps.{same_map, get-insert_same, get-insert_other}
use Rattle.cg_kind.specs.Bodies.{Body, Bodies, Holds, entries_of, spare_of, entries_at, spare_at, body_of, with_body}

module _ (bodies : Bodies) (at : ℕ) (entries : List Entry) (spare : ℕ) where
  pub get-with_body : fin.get (with_body bodies at entries spare) at ≡ Some (body_of entries spare)
  get-with_body =
      fin.get-insert nat_cmp_total bodies at (body_of entries spare) at
      ∙ ap (λ b. cond b (Some (body_of entries spare)) (fin.get bodies at)) (unsigned_tied at at ∙ eq-eqb at at refl)

  pub get-other : (other : ℕ) → other ≢ at → fin.get (with_body bodies at entries spare) other ≡ fin.get bodies other
  get-other other differs =
      fin.get-insert nat_cmp_total bodies at (body_of entries spare) other
      ∙ ap (λ b. cond b (Some (body_of entries spare)) (fin.get bodies other)) (unsigned_tied other at ∙ ne_eqb other at differs)

  pub entries_at-with_body : entries_at (with_body bodies at entries spare) at ≡ entries
  entries_at-with_body = ap entries_of get-with_body

  pub spare_at-with_body : spare_at (with_body bodies at entries spare) at ≡ spare
  spare_at-with_body = ap spare_of get-with_body

  pub Holds-with_body : Holds (with_body bodies at entries spare) at
  Holds-with_body = rw get-with_body refl

  -- every place that held a body still holds one
  pub still_holds : (other : ℕ) → Holds bodies other → Holds (with_body bodies at entries spare) other
  still_holds other held = elim (cases_eq other at) [
    | inl same ↦ subst (Holds (with_body bodies at entries spare)) (sym same) Holds-with_body
    | inr differs ↦ subst IsSome (sym (get-other other differs)) held
  ]

-- the same, for a map with one body changed
pub holds_after : (old new : Bodies) (at : ℕ) (entries : List Entry) (spare : ℕ) → new ≡ with_body old at entries spare → (place : ℕ) → Holds old place → Holds new place
holds_after old new at entries spare is place held = subst (λ m. Holds m place) (sym is) (still_holds old at entries spare place held)

pub holds_same : (old new : Bodies) → new ≡ old → (place : ℕ) → Holds old place → Holds new place
holds_same old new is place held = subst (λ m. Holds m place) (sym is) held

pub holds_new : (old new : Bodies) (at : ℕ) (entries : List Entry) (spare : ℕ) → new ≡ with_body old at entries spare → Holds new at
holds_new old new at entries spare is = subst (λ m. Holds m at) (sym is) (Holds-with_body old at entries spare)

-- the second write at a place overwrites the first
insert_twice : (m : Bodies) (k : ℕ) (v w : Body) → fin.insert (fin.insert m k v) k w ≡ fin.insert m k w
insert_twice m k v w =
    same_map _ _
    (λ q. elim (cases_eq q k) [
      | inl same ↦ get-insert_same (fin.insert m k v) k q w same ∙ sym (get-insert_same m k q w same)
      | inr differs ↦ get-insert_other (fin.insert m k v) k q w differs ∙ get-insert_other m k q v differs ∙ sym (get-insert_other m k q w differs)
    ])

-- an item appended after room was reserved
pub appended : (old mid new : Bodies) (at n k : ℕ) (x : Val) → mid ≡ with_body old at (entries_at old at) n → new ≡ with_body mid at (entries_at mid at
    ++ item x ∷ []) k → new ≡ with_body old at (entries_at old at ++ item x ∷ []) (spare_at new at)
appended old mid new at n k x e f =
    let both : new ≡ with_body old at (entries_at old at ++ item x ∷ []) k =
    f ∙ (λ i. with_body (e i) at (entries_at (e i) at ++ item x ∷ []) k)
    ∙ ap (λ es. with_body (with_body old at (entries_at old at) n) at (es ++ item x ∷ []) k) (entries_at-with_body old at (entries_at old at) n)
    ∙ insert_twice old at (body_of (entries_at old at) n) (body_of (entries_at old at ++ item x ∷ []) k) in
    let spare : spare_at new at ≡ k = ap (λ m. spare_at m at) both ∙ spare_at-with_body old at (entries_at old at ++ item x ∷ []) k in
    both ∙ ap (with_body old at (entries_at old at ++ item x ∷ [])) (sym spare)
