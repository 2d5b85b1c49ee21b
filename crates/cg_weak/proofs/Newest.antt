-- The newest of the weak references of some rows, and the next older one.
use Rattle.std.proofs.Common.{◌≡◌, ◌⊎◌, ℕ, ◌<◌, Bool, true, false, not, cond, List, [], ◌∷◌, map, Option, Some, None, refl, sym, ap, ◌∙◌, subst, inl, inr, arith}
use Rattle.std.specs.Prelude.{◌==◌, ◌&&◌, nat_lt, filter, find, reverse, slice_get, option_map, option_and_then, IsSome, if◌then◌else◌}
use Rattle.std.specs.Option.{option_or}
use Rattle.std.proofs.lemmas.Bool.{cases_eq, eq-eqb, eqb-true, lt-ltb, ltb-true, and_parts, not-true}
use Rattle.std.proofs.lemmas.List.{reverse-append}
use Rattle.std.proofs.lemmas.List.Folds.{find-append}
use Rattle.cg_graph.specs.Rows.{Row, IsRising, referent_in, refers_to, waits_with, newest_first, weak_references_in, next_older_in}
use Rattle.cg_weak.specs.declared.nodes.Node.{Node}
use Rattle.cg_weak.specs.declared.chains.Chains.{Chains}
use Rattle.cg_weak.specs.Nodes.{Chain, chain_in, older_in}
use Rattle.cg_weak.specs.Table.{row_at, row_of, rows_of, node_in, ends_at, chain_at, older_at, below, IsLast, IsSound}
use Rattle.cg_weak.proofs.Moves.{last_same}
use Rattle.cg_weak.proofs.RowLists.{AllAbove, found_above, row_at-head, row_at-tail, passes, referent_if, referent_found, rising-rows_of, row_at-rows_of}

-- there is at most one last element
pub one_last : (P : ℕ → Type 0) (a b : Option ℕ) → IsLast below P a → IsLast below P b → a ≡ b
one_last P None None a_last b_last = refl
one_last P None (Some z) a_last b_last = absurd (a_last z b_last.0)
one_last P (Some y) None a_last b_last = absurd (b_last y a_last.0)
one_last P (Some y) (Some z) a_last b_last = elim (cases_eq y z) [
  | inl same ↦ ap Some same
  | inr differs ↦ absurd (omega (arith, a_last.1 z b_last.0 (λ e. differs (sym e)), b_last.1 y a_last.0 differs))
]

passes_above : (test : Row → Bool) (low : ℕ) (rows : List Row) (weak : ℕ) → AllAbove low rows → passes test (row_at rows weak) ≡ true → low < weak
passes_above test low rows weak lower is = go (row_at rows weak) refl is
  where
    go : (o : Option Row) → row_at rows weak ≡ o → passes test o ≡ true → low < weak
    go None found passed = absurd (cc)
    go (Some r) found passed = found_above low rows weak r lower found

-- a weak reference that passes one test and whose row passes another
abbrev pub PassesBoth : (Row → Bool) → (ℕ → Bool) → List Row → ℕ → Type 0
PassesBoth test p rows v = (passes test (row_at rows v) ≡ true) × (p v ≡ true)

module _ (test : Row → Bool) (p : ℕ → Bool) (x : Row) (rows : List Row) (lower : AllAbove x.weak rows) where
  later : (v : ℕ) → PassesBoth test p rows v → PassesBoth test p (x ∷ rows) v
  later v (passed, too) =
      let higher = passes_above test x.weak rows v lower passed in
      (ap (passes test) (row_at-tail x rows v (λ e. absurd (omega (arith, e, higher)))) ∙ passed, too)

  split : (v : ℕ) → PassesBoth test p (x ∷ rows) v → ((v ≡ x.weak) × (test x ≡ true) × (p x.weak ≡ true)) ⊎ PassesBoth test p rows v
  split v (passed, too) = elim (cases_eq x.weak v) [
    | inl same ↦ inl (sym same, sym (ap (passes test) (row_at-head x rows)) ∙ ap (λ w. passes test (row_at (x ∷ rows) w)) same ∙ passed, ap p same ∙ too)
    | inr differs ↦ inr (sym (ap (passes test) (row_at-tail x rows v differs)) ∙ passed, too)
  ]

  -- the head fails a test
  skips : (a : Option ℕ) → (test x ≡ true → p x.weak ≡ true → ⊥) → IsLast below (PassesBoth test p rows) a → IsLast below (PassesBoth test p (x ∷ rows)) a
  skips a fails =
      last_same below (PassesBoth test p rows) (PassesBoth test p (x ∷ rows)) a later
      (λ v in_all. elim (split v in_all) [
        | inl here ↦ absurd (fails here.1 here.2)
        | inr rest ↦ rest
      ])

  -- the head passes both tests
  counts : (a : Option ℕ) → test x ≡ true → p x.weak ≡ true → IsLast below (PassesBoth test p rows) a → IsLast below (PassesBoth test p (x ∷ rows)) (option_or a (Some x.weak))
  counts None passed too none = (
    (ap (passes test) (row_at-head x rows) ∙ passed, too),
    λ v in_all differs. elim (split v in_all) [
      | inl is ↦ absurd (differs is.0)
      | inr rest ↦ absurd (none v rest)
    ],
  )
  counts (Some y) passed too (here, others) =
      let higher = passes_above test x.weak rows y lower here.0 in (
        later y here,
        λ v in_all differs. elim (split v in_all) [
          | inl is ↦ omega (arith, higher, is.0)
          | inr rest ↦ others v rest differs
        ],
      )

or_none : (a : Option ℕ) → option_or a None ≡ a
or_none None = refl
or_none (Some y) = refl

-- among the weak references whose rows pass, the first that passes is the greatest
pub last_found : (test : Row → Bool) (p : ℕ → Bool) (rows : List Row) → IsRising rows → IsLast below (PassesBoth test p rows) (find p (newest_first test rows))
last_found test p [] rise = λ v in_none. absurd (let e : false ≡ true = in_none.0 in cc)
last_found test p (x ∷ rows) rise = go (test x) refl (p x.weak) refl (last_found test p rows rise.1)
  where
    weaks : List ℕ
    weaks = map (λ r. r.weak) (filter test rows)

    go : (b : Bool) → test x ≡ b → (d : Bool) → p x.weak ≡ d → IsLast below (PassesBoth test p rows) (find p (newest_first test rows))
        → IsLast below (PassesBoth test p (x ∷ rows)) (find p (newest_first test (x ∷ rows)))
    go false fails d is rest =
        subst (λ b. IsLast below (PassesBoth test p (x ∷ rows)) (find p (reverse (map (λ r. r.weak) (cond b (x ∷ filter test rows) (filter test rows)))))) (sym fails)
        (skips test p x rows rise.0 (find p (reverse weaks)) (λ yes also. absurd (cc)) rest)
    go true passed true too rest =
        subst (λ b. IsLast below (PassesBoth test p (x ∷ rows)) (find p (reverse (map (λ r. r.weak) (cond b (x ∷ filter test rows) (filter test rows)))))) (sym passed)
        (subst (IsLast below (PassesBoth test p (x ∷ rows)))
        (sym (ap (find p) (reverse-append (x.weak ∷ []) weaks) ∙ find-append p (reverse weaks) (x.weak ∷ []) ∙ ap (λ b. option_or (find p (reverse weaks)) (cond b (Some x.weak) None)) too))
        (counts test p x rows rise.0 (find p (reverse weaks)) passed too rest))
    go true passed false not_too rest =
        subst (λ b. IsLast below (PassesBoth test p (x ∷ rows)) (find p (reverse (map (λ r. r.weak) (cond b (x ∷ filter test rows) (filter test rows)))))) (sym passed)
        (subst (IsLast below (PassesBoth test p (x ∷ rows)))
        (sym (ap (find p) (reverse-append (x.weak ∷ []) weaks) ∙ find-append p (reverse weaks) (x.weak ∷ [])
        ∙ ap (λ b. option_or (find p (reverse weaks)) (cond b (Some x.weak) None)) not_too ∙ or_none (find p (reverse weaks))))
        (skips test p x rows rise.0 (find p (reverse weaks)) (λ yes also. absurd (cc)) rest))

pub find_first : (xs : List ℕ) → find (λ v. true) xs ≡ slice_get xs 0
find_first [] = refl
find_first (x ∷ xs) = refl

-- the rows of a chain
abbrev pub among : Chain → Row → Bool
among k r = if k.1 then waits_with k.0 r else refers_to k.0 r

-- they are those of the chain's nodes
chain_passes : (k : Chain) (v : ℕ) (o : Option Node) → chain_in o ≡ Some k → passes (among k) (option_map (row_of v) o) ≡ true
chain_passes k v None is = absurd (cc)
chain_passes k v (Some n) is =
    let same : (n.referent, n.waits) ≡ k = cc in
    subst (λ (c : Chain). among c (row_of v n) ≡ true) same (go n.waits (n.referent == n.referent) (eq-eqb n.referent n.referent refl))
  where
    go : (b t : Bool) → t ≡ true → (if b then t && b else t && not b) ≡ true
    go true t is_true = ap (λ x. x && true) is_true
    go false t is_true = ap (λ x. x && true) is_true

passes_chain : (o : ℕ) (b : Bool) (v : ℕ) (x : Option Node) → passes (among (o, b)) (option_map (row_of v) x) ≡ true → chain_in x ≡ Some (o, b)
passes_chain o b v None is = absurd (let e : false ≡ true = is in cc)
passes_chain o true v (Some n) is =
    let parts = and_parts (n.referent == o) n.waits is in
    λ i. Some (eqb-true n.referent o parts.0 i, parts.1 i)
passes_chain o false v (Some n) is =
    let parts = and_parts (n.referent == o) (not n.waits) is in
    λ i. Some (eqb-true n.referent o parts.0 i, not-true n.waits parts.1 i)

module _ (nodes : List (ℕ × Node)) (rows : List Row) (rows_are : rows_of nodes ≡ rows) where
  pub rows_rise : IsRising rows
  rows_rise = subst IsRising rows_are (rising-rows_of nodes)

  pub row_of_node : (v : ℕ) → row_at rows v ≡ option_map (row_of v) (node_in nodes v)
  row_of_node v = ap (λ xs. row_at xs v) (sym rows_are) ∙ row_at-rows_of nodes v

  pub referent_of_node : (test : Row → Bool) (v : ℕ) → option_map (λ r. r.referent) (find (λ r. (r.weak == v) && test r) rows) ≡ referent_if test (option_map (row_of v) (node_in nodes v))
  referent_of_node test v = referent_found test rows v rows_rise ∙ ap (referent_if test) (row_of_node v)

  in_chain : (k : Chain) (v : ℕ) → chain_at nodes v ≡ Some k → passes (among k) (row_at rows v) ≡ true
  in_chain k v is = ap (passes (among k)) (row_of_node v) ∙ chain_passes k v (node_in nodes v) is

  of_chain : (k : Chain) (v : ℕ) → passes (among k) (row_at rows v) ≡ true → chain_at nodes v ≡ Some k
  of_chain k v is = passes_chain k.0 k.1 v (node_in nodes v) (sym (ap (passes (among k)) (row_of_node v)) ∙ is)

  -- the newest of a chain
  pub newest_is : (k : Chain) (a : Option ℕ) → IsLast below (λ v. chain_at nodes v ≡ Some k) a → a ≡ slice_get (newest_first (among k) rows) 0
  newest_is k a last =
      one_last (PassesBoth (among k) (λ v. true) rows) a (find (λ v. true) (newest_first (among k) rows))
      (last_same below (λ v. chain_at nodes v ≡ Some k) (PassesBoth (among k) (λ v. true) rows) a (λ v is. (in_chain k v is, refl)) (λ v is. of_chain k v is.0) last)
      (last_found (among k) (λ v. true) rows rows_rise)
      ∙ find_first (newest_first (among k) rows)

  -- the next older one
  pub older_is : (k : Chain) (w : ℕ) (a : Option ℕ) → IsLast below (λ v. (chain_at nodes v ≡ Some k) × below v w) a → a ≡ find (λ v. nat_lt v w) (newest_first (among k) rows)
  older_is k w a last =
      one_last (PassesBoth (among k) (λ v. nat_lt v w) rows) a (find (λ v. nat_lt v w) (newest_first (among k) rows))
      (last_same below (λ v. (chain_at nodes v ≡ Some k) × below v w) (PassesBoth (among k) (λ v. nat_lt v w) rows) a
      (λ v is. (in_chain k v is.0, lt-ltb v w is.1)) (λ v is. (of_chain k v is.0, ltb-true v w is.1)) last)
      (last_found (among k) (λ v. nat_lt v w) rows rows_rise)

  -- the referent of a weak reference, by its node
  pub referent_where : (v : ℕ) → referent_in rows v ≡ referent_if (λ r. not r.waits) (option_map (row_of v) (node_in nodes v))
  referent_where v = referent_of_node (λ r. not r.waits) v

  pub referent_none : (v : ℕ) → node_in nodes v ≡ None → None ≡ referent_in rows v
  referent_none v is = sym (referent_where v ∙ ap (λ o. referent_if (λ r. not r.waits) (option_map (row_of v) o)) is)

  pub referent_waits : (v : ℕ) (n : Node) → node_in nodes v ≡ Some n → n.waits ≡ true → None ≡ referent_in rows v
  referent_waits v n is waits =
      sym (referent_where v ∙ ap (λ o. referent_if (λ r. not r.waits) (option_map (row_of v) o)) is ∙ ap (λ b. if not b then Some n.referent else None) waits)

  pub referent_some : (v : ℕ) (n : Node) → node_in nodes v ≡ Some n → n.waits ≡ false → Some n.referent ≡ referent_in rows v
  referent_some v n is stays =
      sym (referent_where v ∙ ap (λ o. referent_if (λ r. not r.waits) (option_map (row_of v) o)) is ∙ ap (λ b. if not b then Some n.referent else None) stays)

  -- a weak reference with a referent or a row has a node
  pub node_there : (v : ℕ) → IsSome (row_at rows v) → IsSome (node_in nodes v)
  node_there v has = go (node_in nodes v) refl
    where
      go : (o : Option Node) → node_in nodes v ≡ o → IsSome o
      go None is = absurd (let gone : row_at rows v ≡ None = row_of_node v ∙ ap (option_map (row_of v)) is in let e = subst IsSome gone has in cc)
      go (Some n) is = refl

  -- one with a referent is not waiting
  pub not_waiting : (v : ℕ) (n : Node) → node_in nodes v ≡ Some n → IsSome (referent_in rows v) → n.waits ≡ false
  not_waiting v n is has = go n.waits refl
    where
      go : (b : Bool) → n.waits ≡ b → b ≡ false
      go true waits = absurd (let e = subst IsSome (sym (referent_waits v n is waits)) has in cc)
      go false stays = refl

  module _ (chains : List (ℕ × Chains)) (sound : IsSound (node_in nodes) (ends_at chains)) where
    -- the end of a chain
    pub newest_at : (k : Chain) → (ends_at chains k).newest ≡ slice_get (newest_first (among k) rows) 0
    newest_at k = newest_is k (ends_at chains k).newest (sound.newest k)

    -- the neighbour of a row that is not waiting
    pub older_than : (v : ℕ) (n : Node) → node_in nodes v ≡ Some n → IsSome (referent_in rows v) → n.older ≡ next_older_in rows v
    older_than v n is has =
        let stays = not_waiting v n is has in
        let k : Chain = (n.referent, false) in
        let chain_is : chain_at nodes v ≡ Some k = ap chain_in is ∙ ap (λ b. Some (n.referent, b)) stays in
        sym (ap older_in is)
        ∙ older_is k v (older_at nodes v) (sound.older v k chain_is)
        ∙ ap (option_and_then (λ o. find (λ u. nat_lt u v) (weak_references_in rows o))) (referent_some v n is stays)
