-- A pass that untracks objects without a reference that may be tracked.
use Rattle.std.proofs.Common.{◌≡◌, ◌≢◌, refl, sym, ◌∙◌, ap, subst, ℕ, ◌+◌, ◌<◌, ◌≤◌, ◌⊎◌, inl, inr, Bool, true, false, not, ◌||◌, List, [], ◌∷◌, ◌++◌, length, take, drop, Option, Some, None, arith}
use Rattle.std.specs.Prelude.{slice_get, sum_by}
use Rattle.std.specs.List.{list_any}
use Rattle.std.specs.FinMap as fin
use Rattle.std.proofs.lemmas.Bool.{cases_eq}
use Rattle.std.proofs.lemmas.List.{take-append-drop}
use Rattle.std.proofs.lemmas.List.Folds.{list_any-append}
use Rattle.std.proofs.lemmas.List.Sums.{sum_by-cons}
use Rattle.cg_value.specs.declared.Entry.{Entry}
use Rattle.cg_value.specs.declared.Val.{Val}
use Rattle.cg_value.specs.declared.Val.TheVariants.{Ref}
use Rattle.cg_value.specs.declared.KindCode.{KindCode}
use Rattle.cg_value.specs.declared.KindCode.TheVariants.{Tuple}
use Rattle.cg_value.specs.declared.Place.{Place}
use Rattle.cg_value.specs.declared.Place.TheVariants.{Untracked, Gen}
use Rattle.cg_graph.specs.Member.{Includes}
use Rattle.cg_graph.specs.Value.{references}
use Rattle.cg_graph.specs.Object.{same_place}
use Rattle.cg_graph.specs.Store.{Store, Node, list_at, place_of, place_in, entries_of, HasCode, IsLive}
use Rattle.cg_graph.specs.Changes.{moved}
use Rattle.cg_graph.proofs.Members.{either, or_left, or_right, Includes-append_cases}
use Rattle.cg_arena.specs.Nodes.{following}
use Rattle.cg_heap.specs.Calls.{IsListed, node_may_be_tracked, code_may_be_tracked, may_be_tracked}
use Rattle.cg_trial.specs.View.{targets}
use Rattle.cg_trial.specs.Split.{IsSameButPlaces, IsSameNode}
use Rattle.cg_trial.proofs.Lists.{IsAt, ahead, ahead_is}
use Rattle.cg_kind.proofs.References.{references-append, references_in_turn}
use Rattle.cg_trial.proofs.PlacesOfObjects.{is_there}
use Rattle.cg_collect.specs.Starting.{StaysAt, Untracks, WasUntracked, UntracksOne, has_tracked}
use Rattle.cg_collect.specs.Looks.{entries_listed}
use Rattle.cg_collect.proofs.PlacesOfObjects.{same_itself, same_more, code_on, code_back, entries_on, lives_at}
use Rattle.cg_collect.proofs.Moving.{walk_at, walk_over, walk_first, walk_passes, comes_next, live_where, left_is, moved_same, moved_there, moved_not, moved_once, walk_leaves}

-- whether an object may be tracked
abbrev pub trackable : Store → ℕ → Bool
trackable store p = node_may_be_tracked (fin.get store.nodes p)

-- none passes a stricter test
pub none_fewer : (p q : ℕ → Bool) → ((o : ℕ) → q o ≡ true → p o ≡ true) → (xs : List ℕ) → list_any p xs ≡ false → list_any q xs ≡ false
none_fewer p q fewer [] h = refl
none_fewer p q fewer (x ∷ xs) h = go (p x) (q x) (fewer x) (none_fewer p q fewer xs) h
  where
    go : (a b : Bool) → (b ≡ true → a ≡ true) → (list_any p xs ≡ false → list_any q xs ≡ false) → (a || list_any p xs) ≡ false → (b || list_any q xs) ≡ false
    go true b f rec e = absurd (cc)
    go false true f rec e = absurd (let t : false ≡ true = f refl in cc)
    go false false f rec e = rec e

pub any_alike : (p q : ℕ → Bool) → ((o : ℕ) → p o ≡ q o) → (xs : List ℕ) → list_any p xs ≡ list_any q xs
any_alike p q same [] = refl
any_alike p q same (x ∷ xs) = λ i. same x i || any_alike p q same xs i

-- an untracked node may be tracked only if a tracked one may
code_fewer : (code : KindCode) (place : Place) → code_may_be_tracked code Untracked ≡ true → code_may_be_tracked code place ≡ true
code_fewer Tuple place h = absurd (cc)
code_fewer code place h = refl

node_fewer : (a b : Option Node) → IsSameNode a b → (place_in b ≡ place_in a) ⊎ (place_in b ≡ Untracked) → node_may_be_tracked b ≡ true → node_may_be_tracked a ≡ true
node_fewer None None same went h = h
node_fewer (Some n) (Some m) same went h =
    let code : m.code ≡ n.code = ap (λ (x : Node). x.code) same in
    either went
    (λ e. (λ i. code_may_be_tracked (sym code i) (sym e i)) ∙ h)
    (λ e. code_fewer n.code n.place ((λ i. code_may_be_tracked (sym code i) (sym e i)) ∙ h))
node_fewer a b same went h = absurd same

-- If objects were only untracked, what may be tracked afterwards could be before.
pub fewer_tracked : (a b : Store) → IsSameButPlaces a b → ((o : ℕ) → StaysAt a b o ⊎ (place_of b o ≡ Untracked)) → (p : ℕ) → trackable b p ≡ true → trackable a p ≡ true
fewer_tracked a b same went p h = node_fewer (fin.get a.nodes p) (fin.get b.nodes p) (same.nodes p) (went p) h

pub none_tracked_on : (a b : Store) → IsSameButPlaces a b → ((o : ℕ) → StaysAt a b o ⊎ (place_of b o ≡ Untracked)) → (o : ℕ) → has_tracked a o ≡ false → has_tracked b o ≡ false
none_tracked_on a b same went o h =
    ap (λ es. list_any (trackable b) (references es)) (entries_on a b same o) ∙ none_fewer (trackable a) (trackable b) (fewer_tracked a b same went) (references (entries_of a o)) h

-- The same may be tracked, if a tuple is untracked afterwards exactly if it was before.
code_alike : (code : KindCode) (p q : Place) → (same_place q Untracked ≡ same_place p Untracked) ⊎ (code ≢ Tuple) → code_may_be_tracked code q ≡ code_may_be_tracked code p
code_alike Tuple p q (inl e) = ap not e
code_alike Tuple p q (inr other) = absurd (other refl)
code_alike code p q h = refl

node_alike : (a b : Option Node) → IsSameNode a b → (same_place (place_in b) Untracked ≡ same_place (place_in a) Untracked)
    ⊎ ((n : Node) → a ≡ Some n → n.code ≢ Tuple) → node_may_be_tracked b ≡ node_may_be_tracked a
node_alike None None same h = refl
node_alike (Some n) (Some m) same h =
    ap (λ c. code_may_be_tracked c m.place) (ap (λ (x : Node). x.code) same)
    ∙ code_alike n.code n.place m.place (either h (λ e. inl e) (λ other. inr (other n refl)))
node_alike a b same h = absurd same

pub trackable_alike : (a b : Store) → IsSameButPlaces a b → (p : ℕ) → (same_place (place_of b p) Untracked ≡ same_place (place_of a p) Untracked)
    ⊎ ((n : Node) → fin.get a.nodes p ≡ Some n → n.code ≢ Tuple) → trackable b p ≡ trackable a p
trackable_alike a b same p h = node_alike (fin.get a.nodes p) (fin.get b.nodes p) (same.nodes p) h

pub has_tracked_alike : (a b : Store) → IsSameButPlaces a b → ((p : ℕ) → trackable b p ≡ trackable a p) → (o : ℕ) → has_tracked b o ≡ has_tracked a o
has_tracked_alike a b same alike o = ap (λ es. list_any (trackable b) (references es)) (entries_on a b same o) ∙ any_alike (trackable b) (trackable a) alike (references (entries_of a o))

-- None of the first entries of an object may be tracked.
pub record NoneSoFar (store : Store) (o i : ℕ) : Type 0 where
  pub none : list_any (trackable store) (references (take i (entries_of store o))) ≡ false

-- It looked once at each of them.
pub record NoneLooked (store : Store) (o i before looks : ℕ) : Type 0 where
  pub so_far : NoneSoFar store o i
  pub looked : looks ≡ before + i

value_any : (store : Store) (v : Val) → list_any (trackable store) (targets v) ≡ may_be_tracked store v
value_any store (Ref p) = or_none (trackable store p)
  where
    or_none : (b : Bool) → (b || false) ≡ b
    or_none true = refl
    or_none false = refl
value_any store v = refl

some_more : (store : Store) (o i : ℕ) (e : Entry) → slice_get (entries_of store o) i ≡ Some e
    → list_any (trackable store) (references (take (i + 1) (entries_of store o))) ≡ ((list_any (trackable store) (references (take i (entries_of store o)))
    || may_be_tracked store e.val) || may_be_tracked store e.key)
some_more store o i e at =
    let es = entries_of store o in
    ap (list_any (trackable store)) (references_in_turn es i e at)
    ∙ list_any-append (trackable store) (references (take i es) ++ targets e.val) (targets e.key)
    ∙ (λ j. (list_any-append (trackable store) (references (take i es)) (targets e.val) ∙ (λ k. list_any (trackable store) (references (take i es))
    || value_any store e.val k)) j || value_any store e.key j)

pub none_first : (store : Store) (o : ℕ) → NoneSoFar store o 0
none_first store o = record { none = refl }

pub none_more : (store : Store) (o i : ℕ) (e : Entry) → NoneSoFar store o i → slice_get (entries_of store o) i ≡ Some e → may_be_tracked store e.val ≡ false
    → may_be_tracked store e.key ≡ false → NoneSoFar store o (i + 1)
none_more store o i e so at val key = record { none = some_more store o i e at ∙ (λ j. (so.none j || val j) || key j) }

-- one that may be tracked is found
any_of_more : (p : ℕ → Bool) (es : List Entry) (i : ℕ) → list_any p (references (take i es)) ≡ true → list_any p (references es) ≡ true
any_of_more p es i h =
    ap (λ (l : List Entry). list_any p (references l)) (sym (take-append-drop i es))
    ∙ ap (list_any p) (references-append (take i es) (drop i es))
    ∙ list_any-append p (references (take i es)) (references (drop i es))
    ∙ or_left (list_any p (references (take i es))) (list_any p (references (drop i es))) h

pub found_value : (store : Store) (o i : ℕ) (e : Entry) → slice_get (entries_of store o) i ≡ Some e → may_be_tracked store e.val ≡ true → true ≡ has_tracked store o
found_value store o i e at h =
    sym (any_of_more (trackable store) (entries_of store o) (i + 1)
    (some_more store o i e at
    ∙ or_left (list_any (trackable store) (references (take i (entries_of store o))) || may_be_tracked store e.val) (may_be_tracked store e.key)
    (or_right (list_any (trackable store) (references (take i (entries_of store o)))) (may_be_tracked store e.val) h)))

pub found_key : (store : Store) (o i : ℕ) (e : Entry) → slice_get (entries_of store o) i ≡ Some e → may_be_tracked store e.key ≡ true → true ≡ has_tracked store o
found_key store o i e at h =
    sym (any_of_more (trackable store) (entries_of store o) (i + 1)
    (some_more store o i e at
    ∙ or_right (list_any (trackable store) (references (take i (entries_of store o))) || may_be_tracked store e.val) (may_be_tracked store e.key) h))

-- The pass has come to the cursor: those that it passed could not be untracked at once.
pub record Untracking (g : ℕ) (kind : KindCode) (old now : Store) (cursor : Option ℕ) : Type 0 where
  pub front : List ℕ
  pub back : List ℕ
  pub at : IsAt (list_at now (Gen g)) cursor front back
  pub same : IsSameButPlaces old now
  pub passed : (q : ℕ) → Includes front q → ¬ (HasCode old q kind × (has_tracked old q ≡ false))
  pub others : (o : ℕ) → StaysAt old now o ⊎ WasUntracked g kind old now o

pub untracking_first : (g : ℕ) (kind : KindCode) (store : Store) (cursor : Option ℕ) → cursor ≡ slice_get (list_at store (Gen g)) 0 → Untracking g kind store store cursor
untracking_first g kind store cursor is = record {
  front = [];
  back = list_at store (Gen g);
  at = walk_first store (Gen g) cursor is;
  same = same_itself store;
  passed = λ q h. absurd h;
  others = λ o. inl refl;
}

-- It looked at most once at each entry of those that it passed: the looks so far and those still to come are at most this.
pub record UntrackingLooked (g : ℕ) (kind : KindCode) (old now : Store) (cursor : Option ℕ) (most looks : ℕ) : Type 0 where
  pub walk : Untracking g kind old now cursor
  pub looked : looks + sum_by (λ q. length (entries_of old q)) walk.back ≤ most

pub untracking_looked : (g : ℕ) (kind : KindCode) (store : Store) (cursor : Option ℕ) (looks : ℕ) → cursor ≡ slice_get (list_at store (Gen g)) 0
    → UntrackingLooked g kind store store cursor (looks + entries_listed store (Gen g)) looks
unfolding untracking_first
untracking_looked g kind store cursor looks is =
    let walk = untracking_first g kind store cursor is in
    let all : sum_by (λ q. length (entries_of store q)) walk.back ≡ entries_listed store (Gen g) = refl in
    record { walk = walk; looked = omega (arith, all) }

untracked_or_stays : (g : ℕ) (kind : KindCode) (old now : Store) → ((o : ℕ) → StaysAt old now o ⊎ WasUntracked g kind old now o) → (o : ℕ) → StaysAt old now o ⊎ (place_of now o ≡ Untracked)
untracked_or_stays g kind old now others o = either (others o) (λ s. inl s) (λ went. inr went.stands)

module _ (g : ℕ) (kind : KindCode) (old now : Store) (cursor : Option ℕ) (o : ℕ) (listed : IsListed now) (so : Untracking g kind old now cursor) (is : cursor ≡ Some o) where
  abbrev at_object : IsAt (list_at now (Gen g)) (Some o) so.front so.back
  at_object = walk_at (list_at now (Gen g)) cursor o so.front so.back so.at is

  pub untracking_live : IsLive now o
  untracking_live = (live_where now listed (Gen g) o so.front so.back at_object).0

  here : place_of now o ≡ Gen g
  here = (live_where now listed (Gen g) o so.front so.back at_object).1

  was_here : place_of old o ≡ Gen g
  was_here = either (so.others o) (λ s. sym s ∙ here) (λ went. absurd (let e : Untracked ≡ Gen g = sym went.stands ∙ here in cc))

  module _ (then : Option ℕ) (comes : then ≡ following o (list_at now (place_of now o))) where
    -- it is untracked
    module _ (of_kind : HasCode now o kind) (none : has_tracked now o ≡ false) where
      abbrev mid : Store
      mid = moved o Untracked now

      leaves : (rest : List ℕ) × (so.back ≡ o ∷ rest) × IsAt (list_at mid (Gen g)) then so.front rest
      leaves = walk_leaves now listed o untracking_live Untracked (omega arith) (Gen g) then so.front so.back (λ e. cc) at_object comes

      same_mid : IsSameButPlaces now mid
      same_mid = moved_same now listed o untracking_live Untracked (omega arith)

      there : place_of mid o ≡ Untracked
      there = moved_there now listed o untracking_live Untracked (omega arith)

      stays_or : (q : ℕ) → StaysAt now mid q ⊎ (place_of mid q ≡ Untracked)
      stays_or q = elim (cases_eq q o) [
        | inl same ↦ inr (ap (place_of mid) same ∙ there)
        | inr differs ↦ inl (moved_not now listed o untracking_live Untracked (omega arith) q differs)
      ]

      gone : WasUntracked g kind old mid o
      gone = record { stood = was_here; stands = there; of_kind = code_back old now so.same o kind of_kind; none_tracked = none_tracked_on now mid same_mid stays_or o none }

      still : (q : ℕ) → StaysAt now mid q → WasUntracked g kind old now q → WasUntracked g kind old mid q
      still q stays went = record { stood = went.stood; stands = stays ∙ went.stands; of_kind = went.of_kind; none_tracked = none_tracked_on now mid same_mid stays_or q went.none_tracked }

      pub untracking_one : Untracking g kind old mid then
      untracking_one = record {
        front = so.front;
        back = leaves.0;
        at = leaves.2;
        same = same_more old now mid so.same same_mid;
        passed = so.passed;
        others = λ q. elim (cases_eq q o) [
          | inl same ↦ inr (subst (WasUntracked g kind old mid) (sym same) gone)
          | inr differs ↦
              let stays : StaysAt now mid q = moved_not now listed o untracking_live Untracked (omega arith) q differs in
              either (so.others q) (λ s. inl (stays ∙ s)) (λ went. inr (still q stays went))
        ];
      }

      pub one_shorter : length (ahead then (list_at mid (Gen g))) < length (ahead cursor (list_at now (Gen g)))
      unfolding leaves
      one_shorter =
          let before : length (ahead cursor (list_at now (Gen g))) ≡ length so.back = ap length (left_is now listed (Gen g) cursor so.front so.back so.at) in
          let after : length (ahead then (list_at mid (Gen g))) ≡ length leaves.0 =
          ap length (ahead_is (list_at mid (Gen g)) then so.front leaves.0 (moved_once now listed o untracking_live Untracked (omega arith) (Gen g) (λ e. cc)) leaves.2) in
          let parts : length so.back ≡ length (o ∷ leaves.0) = ap length leaves.1 in
          omega (arith, before, after, parts)

    -- or it stays
    module _ (not_one : ¬ (HasCode now o kind × (has_tracked now o ≡ false))) where
      passes : (rest : List ℕ) × (so.back ≡ o ∷ rest) × IsAt (list_at now (Gen g)) then (so.front ++ o ∷ []) rest
      passes = walk_passes (list_at now (Gen g)) o then so.front so.back at_object (comes_next now listed (Gen g) o then comes)

      could_not : ¬ (HasCode old o kind × (has_tracked old o ≡ false))
      could_not h = not_one (code_on old now so.same o kind h.0, none_tracked_on old now so.same (untracked_or_stays g kind old now so.others) o h.1)

      pub untracking_passes : Untracking g kind old now then
      untracking_passes = record {
        front = so.front ++ o ∷ [];
        back = passes.0;
        at = passes.2;
        same = so.same;
        passed = λ q h. either (Includes-append_cases so.front (o ∷ []) q h) (so.passed q)
            (λ k. either k (λ e. subst (λ x. ¬ (HasCode old x kind × (has_tracked old x ≡ false))) e could_not) (λ no. absurd no));
        others = so.others;
      }

      pub pass_shorter : length (ahead then (list_at now (Gen g))) < length (ahead cursor (list_at now (Gen g)))
      unfolding passes
      pass_shorter =
          let before : length (ahead cursor (list_at now (Gen g))) ≡ length so.back = ap length (left_is now listed (Gen g) cursor so.front so.back so.at) in
          let after : length (ahead then (list_at now (Gen g))) ≡ length passes.0 = ap length (left_is now listed (Gen g) then (so.front ++ o ∷ []) passes.0 passes.2) in
          let parts : length so.back ≡ length (o ∷ passes.0) = ap length passes.1 in
          omega (arith, before, after, parts)

    -- for it, the pass looks at its entries
    pub untracking_looks : (new : Store) (most looks looks_now : ℕ) → UntracksOne o kind now new → looks + sum_by (λ q. length (entries_of old q)) so.back ≤
        most → looks_now ≤ looks + length (entries_of now o) → UntrackingLooked g kind old new then most looks_now
    unfolding untracking_one untracking_passes
    untracking_looks new most looks looks_now (inl (e, of_kind, none)) few more =
        let rest = leaves of_kind none in
        let own : length (entries_of now o) ≡ length (entries_of old o) = ap length (entries_on old now so.same o) in
        let parts = ap (sum_by (λ q. length (entries_of old q))) rest.1 ∙ sum_by-cons (λ q. length (entries_of old q)) o rest.0 in
        subst (λ (s : Store). UntrackingLooked g kind old s then most looks_now) (sym e) (record { walk = untracking_one of_kind none; looked = omega (arith, few, more, own, parts) })
    untracking_looks new most looks looks_now (inr (e, not_one)) few more =
        let rest = passes not_one in
        let own : length (entries_of now o) ≡ length (entries_of old o) = ap length (entries_on old now so.same o) in
        let parts = ap (sum_by (λ q. length (entries_of old q))) rest.1 ∙ sum_by-cons (λ q. length (entries_of old q)) o rest.0 in
        subst (λ (s : Store). UntrackingLooked g kind old s then most looks_now) (sym e) (record { walk = untracking_passes not_one; looked = omega (arith, few, more, own, parts) })

    pub untracking_shorter : (new : Store) → UntracksOne o kind now new → length (ahead then (list_at new (Gen g))) < length (ahead cursor (list_at now (Gen g)))
    untracking_shorter new (inl (e, of_kind, none)) = subst (λ (s : Store). length (ahead then (list_at s (Gen g))) < length (ahead cursor (list_at now (Gen g)))) (sym e) (one_shorter of_kind none)
    untracking_shorter new (inr (e, not_one)) = subst (λ (s : Store). length (ahead then (list_at s (Gen g))) < length (ahead cursor (list_at now (Gen g)))) (sym e) (pass_shorter not_one)

-- where no object has the kind, there is nothing to do
pub untracks_none : (g : ℕ) (kind : KindCode) (store : Store) → ((o : ℕ) → ¬ (HasCode store o kind)) → Untracks g kind store store
untracks_none g kind store none = record {
  same = same_itself store;
  at_least = λ o at of_kind untracked. absurd (none o of_kind);
  at_most = λ o. inl refl;
}

pub untracking_done : (g : ℕ) (kind : KindCode) (old now : Store) (cursor : Option ℕ) → IsListed now → Untracking g kind old now cursor → cursor ≡ None → Untracks g kind old now
untracking_done g kind old now cursor listed so is = record {
  same = so.same;
  at_least = λ o at of_kind none. either (so.others o)
      (λ s. absurd (so.passed o (subst (λ l. Includes l o) (walk_over (list_at now (Gen g)) cursor so.front so.back so.at is)
      (is_there now listed (Gen g) o (lives_at now o (Gen g) (s ∙ at) (λ e. cc)) (s ∙ at))) (of_kind, none)))
      (λ went. went.stands);
  at_most = so.others;
}
