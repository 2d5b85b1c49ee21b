-- The effect of a call on the rows and the fields: a row leaves, is appended, or changes chains.
use Rattle.std.proofs.Common.{◌≡◌, ◌≢◌, ◌⊎◌, ℕ, ◌<◌, Bool, true, false, cond, List, [], ◌∷◌, ◌++◌, Option, Some, None, refl, sym, ap, ◌∙◌, subst, inl, inr, arith}
use Rattle.std.specs.Prelude.{◌==◌, nat_eq, option_map, IsSome, if◌then◌else◌}
use Rattle.std.specs.Map.{lookup}
use Rattle.std.proofs.lemmas.Bool.{cases_eq, eq-eqb, ne_eqb}
use Rattle.std.proofs.lemmas.List.Elements.{All-head, All-tail}
use Rattle.cg_graph.specs.Rows.{Row, IsRising, new_row, waiting_row, with_row_waiting, without_row}
use Rattle.cg_weak.specs.declared.nodes.Node.{Node}
use Rattle.cg_weak.specs.declared.chains.Ends.{Ends}
use Rattle.cg_weak.specs.declared.chains.Chains.{Chains}
use Rattle.cg_weak.specs.Nodes.{Chain, older_set, chain_in}
use Rattle.cg_weak.specs.Chains.{ends_without, ends_joined, ends_of, with_ends, chains_in, no_chains}
use Rattle.cg_weak.specs.Table.{row_at, row_of, rows_of, node_in, chains_of, ends_at, chain_at, below, above, IsLast, IsSound}
use Rattle.cg_weak.proofs.RowLists.{AllBelow, row_at-tail, same_rows, rising-rows_of, row_at-rows_of, row_at-append, rising-append, row_at-without, rising-without, row_at-waiting, rising-waiting}
use Rattle.cg_weak.proofs.Newest.{rows_rise, row_of_node}
use Rattle.cg_weak.proofs.Moves.{HasLeft, last_same}
use Rattle.cg_weak.proofs.Fields.{tied, part-older_set, part-newer_set, has_left, left_sound, come_sound, ends_here, ends_elsewhere, the_node}

-- changing neighbours does not change the row
row-tied : (newer now_older older now_newer : Option ℕ) (v : ℕ) (o : Option Node) → option_map (row_of v) (tied newer now_older older now_newer v o) ≡ option_map (row_of v) o
row-tied newer now_older older now_newer v o =
    part-newer_set (option_map (row_of v)) (λ x n. refl) older now_newer v (older_set newer now_older v o)
    ∙ part-older_set (option_map (row_of v)) (λ x n. refl) newer now_older v o

-- an object with a row has chains
pub chains_there : (node : ℕ → Option Node) (chains : List (ℕ × Chains)) → IsSound node (ends_at chains) → (w : ℕ) (n : Node) → node w ≡ Some n → IsSome (lookup (nat_eq n.referent) chains)
chains_there node chains sound w n is = go (lookup (nat_eq n.referent) chains) refl
  where
    empty : (b : Bool) → (ends_of no_chains b).newest ≡ None
    empty true = refl
    empty false = refl

    go : (o : Option Chains) → lookup (nat_eq n.referent) chains ≡ o → IsSome o
    go None none =
        let end_is : (ends_at chains (n.referent, n.waits)).newest ≡ None = ap (λ x. (ends_of (chains_in x) n.waits).newest) none ∙ empty n.waits in
        absurd (subst (IsLast below (λ v. chain_in (node v) ≡ Some (n.referent, n.waits))) end_is (sound.newest (n.referent, n.waits)) w (ap chain_in is))
    go (Some c) found = refl

-- the rows equal a list that has the row of each node
same_as : (new : List (ℕ × Node)) (rows : List Row) → IsRising rows → ((v : ℕ) → option_map (row_of v) (node_in new v) ≡ row_at rows v) → rows_of new ≡ rows
same_as new rows rise each = same_rows (rows_of new) rows (rising-rows_of new) rise (λ v. row_at-rows_of new v ∙ each v)

-- The row of w leaves.
module _ (nodes new : List (ℕ × Node)) (w : ℕ) (n : Node) (is : node_in nodes w ≡ Some n)
    (nodes_are : (v : ℕ) → node_in new v ≡ (if nat_eq w v then None else tied n.newer n.older n.older n.newer v (node_in nodes v))) where
  pub left_rows : (rows : List Row) → rows_of nodes ≡ rows → rows_of new ≡ without_row w rows
  left_rows rows rows_are =
      same_as new (without_row w rows) (rising-without w rows (rows_rise nodes rows rows_are)) (λ v.
      ap (option_map (row_of v)) (nodes_are v)
      ∙ go v (nat_eq w v)
      ∙ ap (cond (nat_eq w v) None) (sym (row_of_node nodes rows rows_are v))
      ∙ sym (row_at-without w rows v))
    where
      go : (v : ℕ) (b : Bool) → option_map (row_of v) (if b then None else tied n.newer n.older n.older n.newer v (node_in nodes v)) ≡ cond b None (option_map (row_of v) (node_in nodes v))
      go v true = refl
      go v false = row-tied n.newer n.older n.older n.newer v (node_in nodes v)

  pub left_fields : (chains now : List (ℕ × Chains)) (with : Chains) → IsSound (node_in nodes) (ends_at chains)
      → with ≡ with_ends n.waits (ends_without n.newer n.older (ends_at chains (n.referent, n.waits))) (chains_of chains n.referent)
      → ((o : ℕ) → chains_of now o ≡ (if nat_eq n.referent o then with else chains_of chains o))
      → IsSound (node_in new) (ends_at now)
  left_fields chains now with sound with_is chains_are =
      left_sound (node_in nodes) (node_in new) (ends_at chains) (ends_at now) w n is sound nodes_are
      (ap (λ x. ends_of x n.waits) (chains_are n.referent) ∙ ends_here (chains_of chains) n.referent n.waits (ends_without n.newer n.older (ends_at chains (n.referent, n.waits))) with with_is)
      (λ j differs. ap (λ x. ends_of x j.1) (chains_are j.0) ∙ ends_elsewhere (chains_of chains) n.referent n.waits
      (ends_without n.newer n.older (ends_at chains (n.referent, n.waits))) with with_is j differs)

-- all rows are below w
none_at : (w : ℕ) (rows : List Row) → AllBelow w rows → row_at rows w ≡ None
none_at w [] lower = refl
none_at w (r ∷ rows) lower =
    let here : r.weak < w = All-head (λ x. x.weak < w) r rows lower in
    row_at-tail r rows w (λ same. absurd (omega (arith, same, here)))
    ∙ none_at w rows (All-tail (λ x. x.weak < w) r rows lower)

some_below : (w : ℕ) (rows : List Row) → AllBelow w rows → (v : ℕ) → IsSome (row_at rows v) → v < w
some_below w [] lower v has = absurd (cc)
some_below w (r ∷ rows) lower v has = elim (cases_eq r.weak v) [
  | inl same ↦ let here : r.weak < w = All-head (λ x. x.weak < w) r rows lower in omega (arith, same, here)
  | inr differs ↦ some_below w rows (All-tail (λ x. x.weak < w) r rows lower) v (subst IsSome (row_at-tail r rows v differs) has)
]

-- A row above all others is added.
module _ (nodes : List (ℕ × Node)) (rows : List Row) (rows_are : rows_of nodes ≡ rows) (w : ℕ) (lower : AllBelow w rows) where
  pub no_node : node_in nodes w ≡ None
  no_node = go (node_in nodes w) refl
    where
      go : (o : Option Node) → node_in nodes w ≡ o → o ≡ None
      go None is = refl
      go (Some n) is = absurd (let e : None ≡ Some (row_of w n) = sym (none_at w rows lower) ∙ row_of_node nodes rows rows_are w ∙ ap (option_map (row_of w)) is in cc)

  all_below : (k : Chain) (v : ℕ) → chain_at nodes v ≡ Some k → v < w
  all_below k v in_k =
      let found = the_node (node_in nodes v) k in_k in
      some_below w rows lower v (subst IsSome (sym (row_of_node nodes rows rows_are v ∙ ap (option_map (row_of v)) found.1)) refl)

  pub nothing_above : (k : Chain) → IsLast above (λ v. (chain_at nodes v ≡ Some k) × above v w) None
  nothing_above k = λ v in_k. absurd (omega (arith, all_below k v in_k.0, in_k.1))

  pub newest_below : (k : Chain) (newest : Option ℕ) → IsLast below (λ v. chain_at nodes v ≡ Some k) newest → IsLast below (λ v. (chain_at nodes v ≡ Some k) × below v w) newest
  newest_below k None none = λ v in_k. none v in_k.0
  newest_below k (Some y) (here, others) = ((here, all_below k y here), λ v in_k differs. others v in_k.0 differs)

  module _ (new : List (ℕ × Node)) (n : Node) (stays : n.waits ≡ false)
      (nodes_are : (v : ℕ) → node_in new v ≡ tied n.newer (Some w) n.older (Some w) v (if nat_eq w v then Some n else node_in nodes v)) where
    pub come_rows : rows_of new ≡ rows ++ new_row w n.referent ∷ []
    come_rows =
        same_as new (rows ++ new_row w n.referent ∷ []) (rising-append rows (new_row w n.referent) (rows_rise nodes rows rows_are) lower) (λ v.
        ap (option_map (row_of v)) (nodes_are v)
        ∙ row-tied n.newer (Some w) n.older (Some w) v (if nat_eq w v then Some n else node_in nodes v)
        ∙ go v (cases_eq w v)
        ∙ sym (row_at-append rows (new_row w n.referent) v lower))
      where
        go : (v : ℕ) → (w ≡ v) ⊎ (w ≢ v) → option_map (row_of v) (if nat_eq w v then Some n else node_in nodes v) ≡ cond (w == v) (Some (new_row w n.referent)) (row_at rows v)
        go v (inl same) =
            ap (λ b. option_map (row_of v) (if b then Some n else node_in nodes v)) (eq-eqb w v same)
            ∙ (λ i. Some (record { weak = sym same i; referent = n.referent; waits = stays i }))
            ∙ sym (ap (λ b. cond b (Some (new_row w n.referent)) (row_at rows v)) (eq-eqb w v same))
        go v (inr differs) =
            ap (λ b. option_map (row_of v) (if b then Some n else node_in nodes v)) (ne_eqb w v differs)
            ∙ sym (row_of_node nodes rows rows_are v)
            ∙ sym (ap (λ b. cond b (Some (new_row w n.referent)) (row_at rows v)) (ne_eqb w v differs))

-- The fields after a row is added.
pub come_fields : (nodes new : List (ℕ × Node)) (w : ℕ) (n : Node) (chains now : List (ℕ × Chains)) (with : Chains) → node_in nodes w ≡ None → IsSound (node_in nodes) (ends_at chains)
    → IsLast above (λ v. (chain_at nodes v ≡ Some (n.referent, n.waits)) × above v w) n.newer
    → IsLast below (λ v. (chain_at nodes v ≡ Some (n.referent, n.waits)) × below v w) n.older
    → ((v : ℕ) → node_in new v ≡ tied n.newer (Some w) n.older (Some w) v (if nat_eq w v then Some n else node_in nodes v))
    → with ≡ with_ends n.waits (ends_joined n.newer w n.older (ends_at chains (n.referent, n.waits))) (chains_of chains n.referent)
    → ((o : ℕ) → chains_of now o ≡ (if nat_eq n.referent o then with else chains_of chains o))
    → IsSound (node_in new) (ends_at now)
come_fields nodes new w n chains now with nowhere sound newer_last older_last nodes_are with_is chains_are =
    come_sound (node_in nodes) (node_in new) (ends_at chains) (ends_at now) w n nowhere sound newer_last older_last nodes_are
    (ap (λ x. ends_of x n.waits) (chains_are n.referent) ∙ ends_here (chains_of chains) n.referent n.waits (ends_joined n.newer w n.older (ends_at chains (n.referent, n.waits))) with with_is)
    (λ j differs. ap (λ x. ends_of x j.1) (chains_are j.0) ∙ ends_elsewhere (chains_of chains) n.referent n.waits
    (ends_joined n.newer w n.older (ends_at chains (n.referent, n.waits))) with with_is j differs)

-- A row moves from the chain of those not waiting to the waiting chain.
module _ (nodes new : List (ℕ × Node)) (w o : ℕ) (was_newer was_older newer older : Option ℕ) where
  abbrev old_node : Node
  old_node = record { referent = o; waits = false; newer = was_newer; older = was_older }

  abbrev now_node : Node
  now_node = record { referent = o; waits = true; newer = newer; older = older }

  abbrev mid : ℕ → Option Node
  mid v = if nat_eq w v then None else tied was_newer was_older was_older was_newer v (node_in nodes v)

  module _ (is : node_in nodes w ≡ Some (record { referent = o; waits = false; newer = was_newer; older = was_older }))
      (nodes_are : (v : ℕ) → node_in new v ≡ tied newer (Some w) older (Some w) v (if nat_eq w v
      then Some (record { referent = o; waits = true; newer = newer; older = older }) else tied was_newer was_older was_older was_newer v
      (node_in nodes v))) where
    pub moved_rows : (rows : List Row) → rows_of nodes ≡ rows → rows_of new ≡ with_row_waiting w rows
    moved_rows rows rows_are =
        same_as new (with_row_waiting w rows) (rising-waiting w rows (rows_rise nodes rows rows_are)) (λ v.
        ap (option_map (row_of v)) (nodes_are v)
        ∙ row-tied newer (Some w) older (Some w) v (if nat_eq w v then Some now_node else tied was_newer was_older was_older was_newer v (node_in nodes v))
        ∙ go v (cases_eq w v)
        ∙ ap (option_map (λ r. if nat_eq w v then waiting_row r else r)) (sym (row_of_node nodes rows rows_are v))
        ∙ sym (row_at-waiting w rows v))
      where
        unmoved : (v : ℕ) (x : Option Node) → option_map (row_of v) x ≡ option_map (λ r. if false then waiting_row r else r) (option_map (row_of v) x)
        unmoved v None = refl
        unmoved v (Some m) = refl

        go : (v : ℕ) → (w ≡ v) ⊎ (w ≢ v)
            → option_map (row_of v) (if nat_eq w v then Some now_node else tied was_newer was_older was_older was_newer v (node_in nodes v))
            ≡ option_map (λ r. if nat_eq w v then waiting_row r else r) (option_map (row_of v) (node_in nodes v))
        go v (inl same) =
            ap (λ b. option_map (row_of v) (if b then Some now_node else tied was_newer was_older was_older was_newer v (node_in nodes v))) (eq-eqb w v same)
            ∙ sym ((λ i. option_map (λ r. if eq-eqb w v same i then waiting_row r else r) (option_map (row_of v) (node_in nodes v)))
            ∙ ap (λ x. option_map (λ r. if true then waiting_row r else r) (option_map (row_of v) x)) (ap (node_in nodes) (sym same) ∙ is))
        go v (inr differs) =
            ap (λ b. option_map (row_of v) (if b then Some now_node else tied was_newer was_older was_older was_newer v (node_in nodes v))) (ne_eqb w v differs)
            ∙ row-tied was_newer was_older was_older was_newer v (node_in nodes v)
            ∙ unmoved v (node_in nodes v)
            ∙ sym (λ i. option_map (λ r. if ne_eqb w v differs i then waiting_row r else r) (option_map (row_of v) (node_in nodes v)))

    module _ (chains now : List (ℕ × Chains)) (with : Chains) (sound : IsSound (node_in nodes) (ends_at chains))
        (newer_last : IsLast above (λ v. (chain_at nodes v ≡ Some (o, true)) × above v w) newer)
        (older_last : IsLast below (λ v. (chain_at nodes v ≡ Some (o, true)) × below v w) older)
        (with_is : with ≡ record { current = ends_without was_newer was_older (chains_of chains o).current; waiting = ends_joined newer w older (chains_of chains o).waiting })
        (chains_are : (p : ℕ) → chains_of now p ≡ (if nat_eq o p then with else chains_of chains p)) where
      abbrev mid_chains : Chains
      mid_chains = record (chains_of chains o) { current = ends_without was_newer was_older (chains_of chains o).current }

      abbrev mid_ends : Chain → Ends
      mid_ends j = ends_of (if nat_eq o j.0 then mid_chains else chains_of chains j.0) j.1

      left : HasLeft (λ v. chain_in (node_in nodes v)) (λ v. chain_in (mid v)) w (o, false)
      left = has_left (node_in nodes) mid (ends_at chains) mid_ends w old_node is sound (λ v. refl)
          (ends_here (chains_of chains) o false (ends_without was_newer was_older (chains_of chains o).current) mid_chains refl)
          (ends_elsewhere (chains_of chains) o false (ends_without was_newer was_older (chains_of chains o).current) mid_chains refl)

      mid_sound : IsSound mid mid_ends
      mid_sound = left_sound (node_in nodes) mid (ends_at chains) mid_ends w old_node is sound (λ v. refl)
          (ends_here (chains_of chains) o false (ends_without was_newer was_older (chains_of chains o).current) mid_chains refl)
          (ends_elsewhere (chains_of chains) o false (ends_without was_newer was_older (chains_of chains o).current) mid_chains refl)

      -- the future neighbours are the same after the row leaves
      mid_last : (before : ℕ → ℕ → Type 0) → ((v : ℕ) → before v w → v ≢ w) → (a : Option ℕ) → IsLast before (λ v. (chain_at nodes v ≡ Some (o, true))
          × before v w) a → IsLast before (λ v. (chain_in (mid v) ≡ Some (o, true)) × before v w) a
      mid_last before apart a last =
          last_same before (λ v. (chain_at nodes v ≡ Some (o, true)) × before v w) (λ v. (chain_in (mid v) ≡ Some (o, true)) × before v w) a
          (λ v in_k. (left.others v (apart v in_k.1) ∙ in_k.0, in_k.1))
          (λ v in_k. (sym (left.others v (apart v in_k.1)) ∙ in_k.0, in_k.1))
          last

      mid_nodes : (v : ℕ) → node_in new v ≡ tied newer (Some w) older (Some w) v (if nat_eq w v then Some now_node else mid v)
      mid_nodes v = nodes_are v ∙ ap (tied newer (Some w) older (Some w) v) (go (nat_eq w v))
        where
          go : (b : Bool) → (if b then Some now_node else tied was_newer was_older was_older was_newer v (node_in nodes v))
              ≡ (if b then Some now_node else (if b then None else tied was_newer was_older was_older was_newer v (node_in nodes v)))
          go true = refl
          go false = refl

      at_o : (c : Bool) → ends_at now (o, c) ≡ ends_of with c
      at_o c = ap (λ x. ends_of x c) (chains_are o ∙ ap (λ b. if b then with else chains_of chains o) (eq-eqb o o refl))

      mid_at_o : (c : Bool) → mid_ends (o, c) ≡ ends_of mid_chains c
      mid_at_o c = ap (λ b. ends_of (if b then mid_chains else chains_of chains o) c) (eq-eqb o o refl)

      elsewhere : (j : Chain) → j ≢ (o, true) → ends_at now j ≡ mid_ends j
      elsewhere (p, c) differs = elim (cases_eq o p) [
        | inl same ↦ subst (λ q. ends_at now (q, c) ≡ mid_ends (q, c)) same (at_o c ∙ go c (λ is_true. differs (λ i. (sym same i, is_true i))) ∙ sym (mid_at_o c))
        | inr apart ↦
            ap (λ x. ends_of x c) (chains_are p ∙ ap (λ b. if b then with else chains_of chains p) (ne_eqb o p apart))
            ∙ sym (ap (λ b. ends_of (if b then mid_chains else chains_of chains p) c) (ne_eqb o p apart))
      ]
        where
          go : (c : Bool) → c ≢ true → ends_of with c ≡ ends_of mid_chains c
          go true apart = absurd (apart refl)
          go false apart = ap (λ (x : Chains). x.current) with_is

      pub moved_fields : IsSound (node_in new) (ends_at now)
      moved_fields =
          come_sound mid (node_in new) mid_ends (ends_at now) w now_node
          (ap (λ b. if b then None else tied was_newer was_older was_older was_newer w (node_in nodes w)) (eq-eqb w w refl))
          mid_sound
          (mid_last above (λ v higher same. absurd (omega (arith, higher, same))) newer newer_last)
          (mid_last below (λ v lower same. absurd (omega (arith, lower, same))) older older_last)
          mid_nodes
          (at_o true ∙ ap (λ (x : Chains). x.waiting) with_is ∙ sym (ap (ends_joined newer w older) (mid_at_o true)))
          elsewhere
