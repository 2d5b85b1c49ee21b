-- The fields of a table after a row leaves or joins a chain.
use Rattle.std.proofs.Common.{◌≡◌, ◌≢◌, ◌⊎◌, ℕ, Bool, true, false, Option, Some, None, refl, sym, ap, ◌∙◌, subst, inl, inr}
use Rattle.std.specs.Prelude.{nat_eq, option_map, if◌then◌else◌}
use Rattle.std.proofs.lemmas.Bool.{cases_eq, eq-eqb, ne_eqb}
use Rattle.cg_weak.specs.declared.nodes.Node.{Node}
use Rattle.cg_weak.specs.declared.chains.Ends.{Ends}
use Rattle.cg_weak.specs.declared.chains.Chains.{Chains}
use Rattle.cg_weak.specs.Nodes.{Chain, is_named, with_older, with_newer, older_set, newer_set, chain_in, older_in, newer_in}
use Rattle.cg_weak.specs.Chains.{at_end, ends_without, ends_joined, ends_of, with_ends}
use Rattle.cg_weak.specs.Table.{below, above, IsLast, IsSound}
use Rattle.cg_weak.proofs.Moves.{down, up, HasLeft, HasCome, left_linked, left_ended, come_linked, come_ended, same_value, some_or_none}

pub same_chain : (j k : Chain) → (j ≡ k) ⊎ (j ≢ k)
same_chain (o, true) (p, true) = elim (cases_eq o p) [ inl same ↦ inl (λ i. (same i, true)) | inr differs ↦ inr (λ e. differs (ap (λ (k : Chain). k.0) e)) ]
same_chain (o, false) (p, false) = elim (cases_eq o p) [ inl same ↦ inl (λ i. (same i, false)) | inr differs ↦ inr (λ e. differs (ap (λ (k : Chain). k.0) e)) ]
same_chain (o, true) (p, false) = inr (λ e. absurd (let t : true ≡ false = ap (λ (k : Chain). k.1) e in cc))
same_chain (o, false) (p, true) = inr (λ e. absurd (let t : false ≡ true = ap (λ (k : Chain). k.1) e in cc))

-- the named neighbour
named_here : (at : Option ℕ) (v : ℕ) → at ≡ Some v → is_named at v ≡ true
named_here None v is = absurd (cc)
named_here (Some w) v is = eq-eqb w v (same_value w v is)

named_elsewhere : (at : Option ℕ) (v : ℕ) → at ≢ Some v → is_named at v ≡ false
named_elsewhere None v differs = refl
named_elsewhere (Some w) v differs = ne_eqb w v (λ same. differs (ap Some same))

-- what writing one neighbour keeps
module _ {X : Type 0} (part : Option Node → X) where
  pub part-older_set : ((x : Option ℕ) (n : Node) → part (Some (with_older x n)) ≡ part (Some n)) → (at x : Option ℕ) (v : ℕ) (o : Option Node) → part (older_set at x v o) ≡ part o
  part-older_set keeps at x v o = go (is_named at v) o
    where
      go : (b : Bool) (o : Option Node) → part (if b then option_map (with_older x) o else o) ≡ part o
      go true (Some n) = keeps x n
      go b o = refl

  pub part-newer_set : ((x : Option ℕ) (n : Node) → part (Some (with_newer x n)) ≡ part (Some n)) → (at x : Option ℕ) (v : ℕ) (o : Option Node) → part (newer_set at x v o) ≡ part o
  part-newer_set keeps at x v o = go (is_named at v) o
    where
      go : (b : Bool) (o : Option Node) → part (if b then option_map (with_newer x) o else o) ≡ part o
      go true (Some n) = keeps x n
      go b o = refl

-- a node with both neighbours written
abbrev pub tied : Option ℕ → Option ℕ → Option ℕ → Option ℕ → ℕ → Option Node → Option Node
tied newer now_older older now_newer v o = newer_set older now_newer v (older_set newer now_older v o)

module _ (newer now_older older now_newer : Option ℕ) (v : ℕ) (o : Option Node) where
  pub chain-tied : chain_in (tied newer now_older older now_newer v o) ≡ chain_in o
  chain-tied =
      part-newer_set chain_in (λ x n. refl) older now_newer v (older_set newer now_older v o)
      ∙ part-older_set chain_in (λ x n. refl) newer now_older v o

  older-tied_here : newer ≡ Some v → (n : Node) → o ≡ Some n → older_in (tied newer now_older older now_newer v o) ≡ now_older
  older-tied_here is n found =
      part-newer_set older_in (λ x m. refl) older now_newer v (older_set newer now_older v o)
      ∙ (λ i. older_in (if named_here newer v is i then option_map (with_older now_older) (found i) else found i))

  older-tied_elsewhere : newer ≢ Some v → older_in (tied newer now_older older now_newer v o) ≡ older_in o
  older-tied_elsewhere differs =
      part-newer_set older_in (λ x m. refl) older now_newer v (older_set newer now_older v o)
      ∙ ap (λ b. older_in (if b then option_map (with_older now_older) o else o)) (named_elsewhere newer v differs)

  newer-tied_here : older ≡ Some v → (n : Node) → o ≡ Some n → newer_in (tied newer now_older older now_newer v o) ≡ now_newer
  newer-tied_here is n found =
      ap (λ b. newer_in (if b then option_map (with_newer now_newer) (older_set newer now_older v o) else older_set newer now_older v o)) (named_here older v is)
      ∙ written (older_set newer now_older v o) (part-older_set there (λ x m. refl) newer now_older v o ∙ ap there found)
    where
      there : Option Node → Bool
      there None = false
      there (Some m) = true

      written : (x : Option Node) → there x ≡ true → newer_in (option_map (with_newer now_newer) x) ≡ now_newer
      written None is = absurd (cc)
      written (Some m) is = refl

  newer-tied_elsewhere : older ≢ Some v → newer_in (tied newer now_older older now_newer v o) ≡ newer_in o
  newer-tied_elsewhere differs =
      ap (λ b. newer_in (if b then option_map (with_newer now_newer) (older_set newer now_older v o) else older_set newer now_older v o)) (named_elsewhere older v differs)
      ∙ part-older_set newer_in (λ x m. refl) newer now_older v o

-- a row in a chain has a node
pub the_node : (o : Option Node) (k : Chain) → chain_in o ≡ Some k → (n : Node) × (o ≡ Some n)
the_node None k is = absurd (cc)
the_node (Some n) k is = (n, refl)

-- a neighbour has a node
neighbour : (node : ℕ → Option Node) (before : ℕ → ℕ → Type 0) (w : ℕ) (k : Chain) (after : Option ℕ) (v : ℕ) → IsLast before (λ u. (chain_in (node u) ≡ Some k)
    × before u w) after → after ≡ Some v → (n : Node) × (node v ≡ Some n)
neighbour node before w k None v last is = absurd (cc)
neighbour node before w k (Some x) v (here, others) is =
    let found = the_node (node x) k here.0 in
    (found.0, ap node (sym (same_value x v is)) ∙ found.1)

-- a row leaves its chain
module _ (node new : ℕ → Option Node) (ends new_ends : Chain → Ends) (w : ℕ) (n : Node) (is : node w ≡ Some n) (sound : IsSound node ends)
    (nodes_are : (v : ℕ) → new v ≡ (if nat_eq w v then None else tied n.newer n.older n.older n.newer v (node v)))
    (here_are : new_ends (n.referent, n.waits) ≡ ends_without n.newer n.older (ends (n.referent, n.waits)))
    (others_are : (j : Chain) → j ≢ (n.referent, n.waits) → new_ends j ≡ ends j) where
  other_node : (v : ℕ) → v ≢ w → new v ≡ tied n.newer n.older n.older n.newer v (node v)
  other_node v differs = nodes_are v ∙ ap (λ b. if b then None else tied n.newer n.older n.older n.newer v (node v)) (ne_eqb w v (λ e. differs (sym e)))

  pub has_left : HasLeft (λ v. chain_in (node v)) (λ v. chain_in (new v)) w (n.referent, n.waits)
  has_left =
      record {
        here = ap chain_in is;
        gone = ap chain_in (nodes_are w ∙ ap (λ b. if b then None else tied n.newer n.older n.older n.newer w (node w)) (eq-eqb w w refl));
        others = λ v differs. ap chain_in (other_node v differs) ∙ chain-tied n.newer n.older n.older n.newer v (node v);
      }

  newer_last : IsLast above (λ v. (chain_in (node v) ≡ Some (n.referent, n.waits)) × above v w) n.newer
  newer_last = subst (IsLast above (λ v. (chain_in (node v) ≡ Some (n.referent, n.waits)) × above v w)) (ap newer_in is) (sound.newer w (n.referent, n.waits) (ap chain_in is))

  older_last : IsLast below (λ v. (chain_in (node v) ≡ Some (n.referent, n.waits)) × below v w) n.older
  older_last = subst (IsLast below (λ v. (chain_in (node v) ≡ Some (n.referent, n.waits)) × below v w)) (ap older_in is) (sound.older w (n.referent, n.waits) (ap chain_in is))

  pub left_sound : IsSound new new_ends
  left_sound =
      record {
        older = left_linked below down (λ v. chain_in (node v)) (λ v. chain_in (new v)) w (n.referent, n.waits) has_left (λ v. older_in (node v)) (λ v. older_in (new v)) n.newer newer_last
            (λ v differs next_to.
            let found = neighbour node above w (n.referent, n.waits) n.newer v newer_last next_to in
            ap older_in (other_node v differs) ∙ older-tied_here n.newer n.older n.older n.newer v (node v) next_to found.0 found.1 ∙ sym (ap older_in is))
            (λ v differs elsewhere. ap older_in (other_node v differs) ∙ older-tied_elsewhere n.newer n.older n.older n.newer v (node v) elsewhere)
            sound.older;
        newer = left_linked above up (λ v. chain_in (node v)) (λ v. chain_in (new v)) w (n.referent, n.waits) has_left (λ v. newer_in (node v)) (λ v. newer_in (new v)) n.older older_last
            (λ v differs next_to.
            let found = neighbour node below w (n.referent, n.waits) n.older v older_last next_to in
            ap newer_in (other_node v differs) ∙ newer-tied_here n.newer n.older n.older n.newer v (node v) next_to found.0 found.1 ∙ sym (ap newer_in is))
            (λ v differs elsewhere. ap newer_in (other_node v differs) ∙ newer-tied_elsewhere n.newer n.older n.older n.newer v (node v) elsewhere)
            sound.newer;
        newest = λ j. left_ended below down (λ v. chain_in (node v)) (λ v. chain_in (new v)) w (n.referent, n.waits) has_left (λ v. older_in (node v))
            (λ i. (ends i).newest) (λ i. (new_ends i).newest) n.newer newer_last
            (ap (λ (e : Ends). e.newest) here_are ∙ ap (λ x. at_end n.newer x (ends (n.referent, n.waits)).newest) (sym (ap older_in is)))
            (λ i differs. ap (λ (e : Ends). e.newest) (others_are i differs))
            sound.older sound.newest j (same_chain j (n.referent, n.waits));
        oldest = λ j. left_ended above up (λ v. chain_in (node v)) (λ v. chain_in (new v)) w (n.referent, n.waits) has_left (λ v. newer_in (node v))
            (λ i. (ends i).oldest) (λ i. (new_ends i).oldest) n.older older_last
            (ap (λ (e : Ends). e.oldest) here_are ∙ ap (λ x. at_end n.older x (ends (n.referent, n.waits)).oldest) (sym (ap newer_in is)))
            (λ i differs. ap (λ (e : Ends). e.oldest) (others_are i differs))
            sound.newer sound.oldest j (same_chain j (n.referent, n.waits));
      }

-- a row joins a chain
module _ (node new : ℕ → Option Node) (ends new_ends : Chain → Ends) (w : ℕ) (n : Node) (nowhere : node w ≡ None) (sound : IsSound node ends)
    (newer_last : IsLast above (λ v. (chain_in (node v) ≡ Some (n.referent, n.waits)) × above v w) n.newer)
    (older_last : IsLast below (λ v. (chain_in (node v) ≡ Some (n.referent, n.waits)) × below v w) n.older)
    (nodes_are : (v : ℕ) → new v ≡ tied n.newer (Some w) n.older (Some w) v (if nat_eq w v then Some n else node v))
    (here_are : new_ends (n.referent, n.waits) ≡ ends_joined n.newer w n.older (ends (n.referent, n.waits)))
    (others_are : (j : Chain) → j ≢ (n.referent, n.waits) → new_ends j ≡ ends j) where
  other_is : (v : ℕ) → v ≢ w → new v ≡ tied n.newer (Some w) n.older (Some w) v (node v)
  other_is v differs = nodes_are v ∙ ap (λ b. tied n.newer (Some w) n.older (Some w) v (if b then Some n else node v)) (ne_eqb w v (λ e. differs (sym e)))

  here_is : new w ≡ tied n.newer (Some w) n.older (Some w) w (Some n)
  here_is = nodes_are w ∙ ap (λ b. tied n.newer (Some w) n.older (Some w) w (if b then Some n else node w)) (eq-eqb w w refl)

  pub has_come : HasCome (λ v. chain_in (node v)) (λ v. chain_in (new v)) w (n.referent, n.waits)
  has_come =
      record {
        nowhere = ap chain_in nowhere;
        here = ap chain_in here_is ∙ chain-tied n.newer (Some w) n.older (Some w) w (Some n);
        others = λ v differs. ap chain_in (other_is v differs) ∙ chain-tied n.newer (Some w) n.older (Some w) v (node v);
      }

  newer_apart : n.newer ≢ Some w
  newer_apart same =
      let found = neighbour node above w (n.referent, n.waits) n.newer w newer_last same in
      some_or_none found.0 (sym nowhere ∙ found.1)

  older_apart : n.older ≢ Some w
  older_apart same =
      let found = neighbour node below w (n.referent, n.waits) n.older w older_last same in
      some_or_none found.0 (sym nowhere ∙ found.1)

  pub come_sound : IsSound new new_ends
  come_sound =
      record {
        older = come_linked below down (λ v. chain_in (node v)) (λ v. chain_in (new v)) w (n.referent, n.waits) has_come (λ v. older_in (node v))
            (λ v. older_in (new v)) n.newer n.older newer_last older_last
            (ap older_in here_is ∙ older-tied_elsewhere n.newer (Some w) n.older (Some w) w (Some n) newer_apart)
            (λ v differs next_to.
            let found = neighbour node above w (n.referent, n.waits) n.newer v newer_last next_to in
            ap older_in (other_is v differs) ∙ older-tied_here n.newer (Some w) n.older (Some w) v (node v) next_to found.0 found.1)
            (λ v differs elsewhere. ap older_in (other_is v differs) ∙ older-tied_elsewhere n.newer (Some w) n.older (Some w) v (node v) elsewhere)
            sound.older;
        newer = come_linked above up (λ v. chain_in (node v)) (λ v. chain_in (new v)) w (n.referent, n.waits) has_come (λ v. newer_in (node v))
            (λ v. newer_in (new v)) n.older n.newer older_last newer_last
            (ap newer_in here_is ∙ newer-tied_elsewhere n.newer (Some w) n.older (Some w) w (Some n) older_apart)
            (λ v differs next_to.
            let found = neighbour node below w (n.referent, n.waits) n.older v older_last next_to in
            ap newer_in (other_is v differs) ∙ newer-tied_here n.newer (Some w) n.older (Some w) v (node v) next_to found.0 found.1)
            (λ v differs elsewhere. ap newer_in (other_is v differs) ∙ newer-tied_elsewhere n.newer (Some w) n.older (Some w) v (node v) elsewhere)
            sound.newer;
        newest = λ j. come_ended below down (λ v. chain_in (node v)) (λ v. chain_in (new v)) w (n.referent, n.waits) has_come (λ i. (ends i).newest) (λ i. (new_ends i).newest) n.newer newer_last
            (ap (λ (e : Ends). e.newest) here_are)
            (λ i differs. ap (λ (e : Ends). e.newest) (others_are i differs))
            sound.newest j (same_chain j (n.referent, n.waits));
        oldest = λ j. come_ended above up (λ v. chain_in (node v)) (λ v. chain_in (new v)) w (n.referent, n.waits) has_come (λ i. (ends i).oldest) (λ i. (new_ends i).oldest) n.older older_last
            (ap (λ (e : Ends). e.oldest) here_are)
            (λ i differs. ap (λ (e : Ends). e.oldest) (others_are i differs))
            sound.oldest j (same_chain j (n.referent, n.waits));
      }

-- new ends for one chain of an object; no other chain changes
module _ (chains : ℕ → Chains) (o : ℕ) (b : Bool) (e : Ends) (with : Chains) (with_is : with ≡ with_ends b e (chains o)) where
  abbrev pub now_chains : ℕ → Chains
  now_chains p = if nat_eq o p then with else chains p

  pub ends_here : ends_of (now_chains o) b ≡ e
  ends_here = ap (λ t. ends_of (if t then with else chains o) b) (eq-eqb o o refl) ∙ ap (λ c. ends_of c b) with_is ∙ go b
    where
      go : (b : Bool) → ends_of (with_ends b e (chains o)) b ≡ e
      go true = refl
      go false = refl

  pub ends_elsewhere : (j : Chain) → j ≢ (o, b) → ends_of (now_chains j.0) j.1 ≡ ends_of (chains j.0) j.1
  ends_elsewhere (p, c) differs = elim (cases_eq o p) [
    | inl same ↦
        ap (λ t. ends_of (if t then with else chains p) c) (eq-eqb o p same)
        ∙ ap (λ x. ends_of x c) (with_is ∙ ap (λ q. with_ends b e (chains q)) same)
        ∙ go b c (λ alike. differs (λ i. (sym same i, sym alike i)))
    | inr apart ↦ ap (λ t. ends_of (if t then with else chains p) c) (ne_eqb o p apart)
  ]
    where
      go : (b c : Bool) → b ≢ c → ends_of (with_ends b e (chains p)) c ≡ ends_of (chains p) c
      go true false apart = refl
      go false true apart = refl
      go b bit apart = absurd (apart refl)
