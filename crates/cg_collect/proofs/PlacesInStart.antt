-- Where each object is during the start.
use Rattle.std.proofs.Common.{◌≡◌, ◌≢◌, refl, sym, ◌∙◌, ap, subst, ℕ, ◌⊎◌, inl, inr, true, false, [], Option, Some, None, IsSome}
use Rattle.std.specs.Prelude.{◌↔◌}
use Rattle.std.specs.FinMap as fin
use Rattle.std.proofs.lemmas.Bool.{cases_eq}
use Rattle.cg_value.specs.declared.KindCode.TheVariants.{Tuple, Dict}
use Rattle.cg_value.specs.declared.Place.{Place}
use Rattle.cg_value.specs.declared.Place.TheVariants.{Untracked, Gen, Cand, Legacy}
use Rattle.cg_script.specs.declared.Script.{Script}
use Rattle.cg_graph.specs.Member.{Includes}
use Rattle.cg_graph.specs.Object.{same_place}
use Rattle.cg_graph.specs.Reachable.{IsReachable, IsUnreachable}
use Rattle.cg_graph.specs.Store.{Store, Node, list_at, place_of, place_in, HasCode, IsLive}
use Rattle.cg_graph.proofs.Members.{either, cases_of}
use Rattle.cg_machine.specs.Collect.{older}
use Rattle.cg_represents.proofs.Lists.{Reach-inside}
use Rattle.cg_heap.specs.Calls.{IsListed}
use Rattle.cg_trial.specs.Split.{IsSameButPlaces}
use Rattle.cg_trial.proofs.PlacesOfObjects.{where_is, is_there}
use Rattle.cg_collect.specs.Starting.{StaysAt, MergesYounger, UntracksSurvivors, WasUntracked, GetOlder, SetsLegacyAside, has_tracked}
use Rattle.cg_represents.proofs.Places.{place_at_is, place_differs, place_is}
use Rattle.cg_collect.proofs.PlacesOfObjects.{same_itself, same_more, live_on, live_back, lives_at, nobody_at, stood_at}
use Rattle.cg_collect.proofs.Untracked.{trackable, trackable_alike, has_tracked_alike}

-- an object is in a place or not
pub at_or_not : (p q : Place) → (p ≡ q) ⊎ (p ≢ q)
at_or_not p q = either (cases_of (same_place p q)) (λ e. inl (place_is p q e)) (λ e. inr (λ same. let t : true ≡ false = sym (place_at_is p q same) ∙ e in cc))

live_or : (store : Store) (o : ℕ) → IsLive store o ⊎ (place_of store o ≡ Untracked)
live_or store o = known (fin.get store.nodes o)
  where
    known : (x : Option Node) → IsSome x ⊎ (place_in x ≡ Untracked)
    known None = inr refl
    known (Some n) = inl refl

-- Trial subtraction: the reachable objects of a generation stay, and the unreachable ones are the candidates.
pub record SplitsOff (g : ℕ) (old new : Store) : Type 0 where
  pub same : IsSameButPlaces old new
  pub kept : (o : ℕ) → IsReachable old (Gen g) o → place_of new o ≡ Gen g
  pub off : (o : ℕ) → IsUnreachable old (Gen g) o → place_of new o ≡ Cand
  pub either_way : (o : ℕ) → place_of old o ≡ Gen g → ((place_of new o ≡ Gen g) × IsReachable old (Gen g) o) ⊎ ((place_of new o ≡ Cand) × IsUnreachable old (Gen g) o)
  pub others : (o : ℕ) → place_of old o ≢ Gen g → StaysAt old new o
  pub none : (o : ℕ) → place_of old o ≢ Cand

module _ (g : ℕ) (old new : Store) (listed : IsListed old) (listed_new : IsListed new) (empty : list_at old Cand ≡ []) (unreachable : (o : ℕ)
    → Includes (list_at new Cand) o ↔ IsUnreachable old (Gen g) o)
    (reachable : (o : ℕ) → Includes (list_at new (Gen g)) o ↔ IsReachable old (Gen g) o) (rest : (p : Place) → p ≢ Cand → p ≢ Gen g → list_at new p
    ≡ list_at old p) (same : IsSameButPlaces old new) where
  none_before : (o : ℕ) → place_of old o ≢ Cand
  none_before o at = nobody_at old listed Cand empty o (lives_at old o Cand at (λ e. cc)) at

  live_stays : (o : ℕ) → place_of old o ≢ Gen g → IsLive old o → StaysAt old new o
  live_stays o differ live =
      (where_is new listed_new (place_of old o) o (subst (λ l. Includes l o) (sym (rest (place_of old o) (none_before o) differ)) (is_there old listed (place_of old o) o live refl))).1

  pub splits_off : SplitsOff g old new
  splits_off = record {
    same = same;
    kept = λ o r. (where_is new listed_new (Gen g) o ((reachable o).1 r)).1;
    off = λ o u. (where_is new listed_new Cand o ((unreachable o).1 u)).1;
    either_way = λ o at.
        let live = live_on old new same o (lives_at old o (Gen g) at (λ e. cc)) in
        either (at_or_not (place_of new o) Cand)
        (λ c. inr (c, (unreachable o).0 (is_there new listed_new Cand o live c)))
        (λ not_c. either (at_or_not (place_of new o) (Gen g))
        (λ k. inl (k, (reachable o).0 (is_there new listed_new (Gen g) o live k)))
        (λ not_k. absurd (not_k (sym (where_is old listed (place_of new o) o (subst (λ l. Includes l o) (rest (place_of new o) not_c not_k)
        (is_there new listed_new (place_of new o) o live refl))).1 ∙ at))));
    others = λ o differ. either (live_or old o) (live_stays o differ)
        (λ dead. either (live_or new o) (λ l. live_stays o differ (live_back old new same o l)) (λ gone. gone ∙ sym dead));
    none = none_before;
  }

-- the heaps of the start
pub record Trace (script : Script) (g : ℕ) (s0 s1 s2 s4 s5 s6 : Store) : Type 0 where
  pub merges : MergesYounger g s0 s1
  pub splits : SplitsOff g s1 s2
  pub untracks : UntracksSurvivors g s2 s4
  pub gets_older : GetOlder g s4 s5
  pub sets_aside : SetsLegacyAside script s5 s6

module _ (script : Script) (g : ℕ) (s0 s1 s2 s4 s5 s6 : Store) (t : Trace script g s0 s1 s2 s4 s5 s6) where
  abbrev pub s3 : Store
  s3 = t.untracks.between

  pub same34 : IsSameButPlaces s3 s4
  same34 = either (cases_eq g 2) (λ two. (t.untracks.dictionaries two).same) (λ differs. subst (IsSameButPlaces s3) (sym (t.untracks.younger differs)) (same_itself s3))

  pub same13 : IsSameButPlaces s1 s3
  same13 = same_more s1 s2 s3 t.splits.same t.untracks.tuples.same

  pub same14 : IsSameButPlaces s1 s4
  same14 = same_more s1 s3 s4 same13 same34

  pub same15 : IsSameButPlaces s1 s5
  same15 = same_more s1 s4 s5 same14 t.gets_older.same

  pub same16 : IsSameButPlaces s1 s6
  same16 = same_more s1 s5 s6 same15 t.sets_aside.same

  dict_pass : (o : ℕ) → StaysAt s3 s4 o ⊎ ((g ≡ 2) × WasUntracked 2 Dict s3 s4 o)
  dict_pass o = either (cases_eq g 2)
      (λ two. either ((t.untracks.dictionaries two).at_most o) (λ s. inl s) (λ went. inr (two, went)))
      (λ differs. inl (ap (λ s. place_of s o) (t.untracks.younger differs)))

  pub tuple_or : (o : ℕ) → (place_of s3 o ≡ place_of s2 o) ⊎ ((place_of s2 o ≡ Gen g) × (place_of s3 o ≡ Untracked))
  tuple_or o = either (t.untracks.tuples.at_most o) (λ s. inl s) (λ went. inr (went.stood, went.stands))

  dict_or : (o : ℕ) → (place_of s4 o ≡ place_of s3 o) ⊎ ((place_of s3 o ≡ Gen g) × (place_of s4 o ≡ Untracked))
  dict_or o = either (dict_pass o) (λ s. inl s) (λ went. inr (went.1.stood ∙ ap Gen (sym went.0), went.1.stands))

  pub both_or : (o : ℕ) → (place_of s4 o ≡ place_of s2 o) ⊎ ((place_of s2 o ≡ Gen g) × (place_of s4 o ≡ Untracked))
  both_or o = go (tuple_or o) (dict_or o)
    where
      go : (place_of s3 o ≡ place_of s2 o) ⊎ ((place_of s2 o ≡ Gen g) × (place_of s3 o ≡ Untracked)) → (place_of s4 o ≡ place_of s3 o) ⊎ ((place_of s3 o ≡ Gen g) × (place_of s4 o ≡ Untracked))
          → (place_of s4 o ≡ place_of s2 o) ⊎ ((place_of s2 o ≡ Gen g) × (place_of s4 o ≡ Untracked))
      go (inl a) (inl b) = inl (b ∙ a)
      go (inl a) (inr b) = inr (sym a ∙ b.0, b.1)
      go (inr a) (inl b) = inr (a.0, b ∙ a.1)
      go (inr a) (inr b) = absurd (let e : Untracked ≡ Gen g = sym a.1 ∙ b.0 in cc)

  -- an object outside the generation stays, and a candidate stays or is set aside
  pub last_step : (o : ℕ) (p : Place) → place_of s4 o ≡ p → p ≢ Gen g → p ≢ Cand → place_of s6 o ≡ p
  last_step o p at not_g not_c =
      let fifth : place_of s5 o ≡ p = t.gets_older.others o (λ e. not_g (sym at ∙ e)) ∙ at in
      either (t.sets_aside.others o) (λ s. s ∙ fifth) (λ led. absurd (not_c (sym fifth ∙ (stood_at s5 Cand o (Reach-inside led)).1)))

  pub last_older : (o : ℕ) → place_of s4 o ≡ Gen g → place_of s6 o ≡ Gen (older g)
  last_older o at =
      let fifth : place_of s5 o ≡ Gen (older g) = t.gets_older.moved o at in
      either (t.sets_aside.others o) (λ s. s ∙ fifth) (λ led. absurd (let e : Gen (older g) ≡ Cand = sym fifth ∙ (stood_at s5 Cand o (Reach-inside led)).1 in cc))

  pub candidate_on : (o : ℕ) → place_of s2 o ≡ Cand → place_of s5 o ≡ Cand
  candidate_on o at =
      let fourth : place_of s4 o ≡ Cand = either (both_or o) (λ s. s ∙ at) (λ went. absurd (let e : Cand ≡ Gen g = sym at ∙ went.0 in cc)) in
      t.gets_older.others o (λ e. let k : Cand ≡ Gen g = sym fourth ∙ e in cc) ∙ fourth

  pub candidate_back : (o : ℕ) → place_of s5 o ≡ Cand → place_of s2 o ≡ Cand
  candidate_back o at =
      let fourth : place_of s4 o ≡ Cand = either (at_or_not (place_of s4 o) (Gen g))
      (λ e. absurd (let k : Gen (older g) ≡ Cand = sym (t.gets_older.moved o e) ∙ at in cc))
      (λ differ. sym (t.gets_older.others o differ) ∙ at) in
      either (both_or o) (λ s. sym s ∙ fourth) (λ went. absurd (let e : Untracked ≡ Cand = sym went.1 ∙ fourth in cc))

  pub candidate_last : (o : ℕ) → place_of s2 o ≡ Cand → (place_of s6 o ≡ Cand) ⊎ (place_of s6 o ≡ Legacy)
  candidate_last o at = either (t.sets_aside.others o) (λ s. inl (s ∙ candidate_on o at)) (λ led. inr (t.sets_aside.aside o led))

  -- an object in another place
  pub unmoved4 : (o : ℕ) → place_of s1 o ≢ Gen g → place_of s4 o ≡ place_of s1 o
  unmoved4 o differ =
      let second : place_of s2 o ≡ place_of s1 o = t.splits.others o differ in
      either (both_or o) (λ s. s ∙ second) (λ went. absurd (differ (sym second ∙ went.0)))

  pub unmoved3 : (o : ℕ) → place_of s1 o ≢ Gen g → place_of s3 o ≡ place_of s1 o
  unmoved3 o differ =
      let second : place_of s2 o ≡ place_of s1 o = t.splits.others o differ in
      either (tuple_or o) (λ s. s ∙ second) (λ went. absurd (differ (sym second ∙ went.0)))

  pub unmoved : (o : ℕ) → place_of s1 o ≢ Gen g → place_of s6 o ≡ place_of s1 o
  unmoved o differ = last_step o (place_of s1 o) (unmoved4 o differ) differ (t.splits.none o)

  -- a final candidate or uncollectable object was unreachable
  pub unreachable_there : (o : ℕ) → (place_of s6 o ≡ Cand) ⊎ (place_of s6 o ≡ Legacy) → (p : (o : ℕ) → place_of s1 o ≢ Legacy) → IsUnreachable s1 (Gen g) o
  unreachable_there o at no_legacy = either (at_or_not (place_of s1 o) (Gen g))
      (λ e. either (t.splits.either_way o e)
      (λ kept. absurd (kept_not kept.0))
      (λ off. off.1))
      (λ differ. absurd (either at (λ c. t.splits.none o (sym (unmoved o differ) ∙ c)) (λ l. no_legacy o (sym (unmoved o differ) ∙ l))))
    where
      neither : (p : Place) → place_of s6 o ≡ p → p ≢ Cand → p ≢ Legacy → ⊥
      neither p is not_c not_l = either at (λ c. not_c (sym is ∙ c)) (λ l. not_l (sym is ∙ l))

      kept_not : place_of s2 o ≡ Gen g → ⊥
      kept_not k = either (both_or o)
          (λ s. neither (Gen (older g)) (last_older o (s ∙ k)) (λ e. cc) (λ e. cc))
          (λ went. neither Untracked (last_step o Untracked went.1 (λ e. cc) (λ e. cc)) (λ e. cc) (λ e. cc))

  -- the heap's survivors
  pub survivor_test : (o : ℕ) → place_of s1 o ≡ Gen g → same_place (place_of s4 o) (Gen g) ≡ same_place (place_of s6 o) (Gen (older g))
  survivor_test o at = either (at_or_not (place_of s4 o) (Gen g))
      (λ e. place_at_is (place_of s4 o) (Gen g) e ∙ sym (place_at_is (place_of s6 o) (Gen (older g)) (last_older o e)))
      (λ differ. place_differs (place_of s4 o) (Gen g) differ ∙ sym (place_differs (place_of s6 o) (Gen (older g)) (not_older differ)))
    where
      not_older : place_of s4 o ≢ Gen g → place_of s6 o ≢ Gen (older g)
      not_older differ e = either (t.splits.either_way o at)
          (λ kept. either (both_or o) (λ s. differ (s ∙ kept.0)) (λ went. let k : Untracked ≡ Gen (older g) = sym (last_step o Untracked went.1 (λ e. cc) (λ e. cc)) ∙ e in cc))
          (λ off. either (candidate_last o off.0) (λ c. let k : Cand ≡ Gen (older g) = sym c ∙ e in cc) (λ l. let k : Legacy ≡ Gen (older g) = sym l ∙ e in cc))

  -- Where a survivor that stayed tracked goes: untracked in the pass over dictionaries, or to the older generation.
  pub dict_untracked : (o : ℕ) → g ≡ 2 → place_of s3 o ≡ Gen g → HasCode s3 o Dict → has_tracked s3 o ≡ false → place_of s6 o ≡ Untracked
  dict_untracked o two at code none = last_step o Untracked ((t.untracks.dictionaries two).at_least o (at ∙ ap Gen two) code none) (λ e. cc) (λ e. cc)

  dict_alike : g ≡ 2 → (p : ℕ) → trackable s4 p ≡ trackable s3 p
  dict_alike two p = trackable_alike s3 s4 same34 p (either ((t.untracks.dictionaries two).at_most p)
      (λ s. inl (ap (λ q. same_place q Untracked) s))
      (λ went. inr (λ n got tuple.
      let kind = went.of_kind in
      let same : Some n ≡ Some kind.0 = sym got ∙ kind.1 in
      let node : n ≡ kind.0 = cc in
      let e : Tuple ≡ Dict = sym tuple ∙ ap (λ (x : Node). x.code) node ∙ kind.2 in
      cc)))

  pub dict_stays : (o : ℕ) → place_of s3 o ≡ Gen g → ¬ ((g ≡ 2) × HasCode s3 o Dict × (has_tracked s3 o ≡ false)) → place_of s6 o ≡ Gen (older g)
  dict_stays o at not_one = either (dict_pass o)
      (λ s. last_older o (s ∙ at))
      (λ went. absurd (not_one (went.0, went.1.of_kind, sym (has_tracked_alike s3 s4 same34 (dict_alike went.0) o) ∙ went.1.none_tracked)))

  pub tuple_untracked : (o : ℕ) → place_of s3 o ≡ Untracked → place_of s6 o ≡ Untracked
  tuple_untracked o at =
      let fourth : place_of s4 o ≡ Untracked = either (dict_or o) (λ s. s ∙ at) (λ went. went.1) in
      last_step o Untracked fourth (λ e. cc) (λ e. cc)

  -- trial subtraction untracks nothing
  pub split_alike : (p : ℕ) → trackable s2 p ≡ trackable s1 p
  split_alike p = trackable_alike s1 s2 t.splits.same p (either (at_or_not (place_of s1 p) (Gen g))
      (λ e. either (t.splits.either_way p e)
      (λ kept. inl (ap (λ q. same_place q Untracked) (kept.0 ∙ sym e)))
      (λ off. inl (ap (λ q. same_place q Untracked) off.0 ∙ sym (ap (λ q. same_place q Untracked) e))))
      (λ differ. inl (ap (λ q. same_place q Untracked) (t.splits.others p differ))))
