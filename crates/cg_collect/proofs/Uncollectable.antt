-- What is uncollectable because of its legacy finalizer, and what is reachable from that.
use Rattle.std.proofs.Common.{◌≡◌, ◌≢◌, refl, sym, ◌∙◌, ap, subst, ℕ, ◌+◌, ◌<◌, ◌≤◌, ◌⊎◌, inl, inr, true, false, List, [], ◌∷◌, ◌++◌, length, length-append, take, Option, Some, None, arith, append_assoc}
use Rattle.std.specs.Prelude.{option_map, option_and_then, is_some, slice_get, sum_by}
use Rattle.std.specs.FinMap as fin
use Rattle.std.proofs.lemmas.Bool.{cases_eq}
use Rattle.std.proofs.lemmas.List.Sums.{sum_by-append, sum_by-cons}
use Rattle.cg_value.specs.declared.Entry.{Entry}
use Rattle.cg_value.specs.declared.Place.TheVariants.{Cand, Legacy}
use Rattle.cg_script.specs.declared.Script.{Script}
use Rattle.cg_graph.specs.Member.{Includes}
use Rattle.cg_graph.specs.Value.{references}
use Rattle.cg_graph.specs.Holdings.{occurrences}
use Rattle.cg_graph.specs.Places.{without_serial}
use Rattle.cg_graph.specs.Reach.{first, next, edges}
use Rattle.cg_graph.specs.Reachable.{StandsAt, graph_at}
use Rattle.cg_graph.specs.Store.{Store, Node, list_at, place_of, entries_of, object_from, IsLive}
use Rattle.cg_graph.specs.Changes.{moved}
use Rattle.cg_graph.proofs.Members.{either, Includes-append_left, Includes-append_right, Includes-append_cases}
use Rattle.cg_graph.proofs.Objects.{object-at}
use Rattle.cg_machine.specs.Program.{legacy_of}
use Rattle.cg_represents.proofs.Lists.{Reach-inside}
use Rattle.cg_arena.specs.Nodes.{following}
use Rattle.cg_heap.specs.Calls.{IsListed}
use Rattle.cg_trial.specs.View.{targets}
use Rattle.cg_trial.specs.Split.{IsSameButPlaces, IsSameNode}
use Rattle.cg_trial.proofs.Lists.{IsAt, ahead, ahead_is, occurs, without-absent}
use Rattle.cg_kind.proofs.References.{references_in_turn}
use Rattle.cg_trial.proofs.Splits.{arrow}
use Rattle.cg_trial.proofs.PlacesOfObjects.{once_at, apart, is_there}
use Rattle.cg_collect.specs.Starting.{StaysAt, SetsLegacyAside, SetsFinalizedAside, SetsReferencesAside, Closes, IsLedByLegacy, FollowsLegacy, has_legacy_in}
use Rattle.cg_collect.specs.Looks.{entries_listed}
use Rattle.cg_collect.proofs.WorkLeft.{sum_alike}
use Rattle.cg_collect.proofs.PlacesOfObjects.{same_itself, same_more, entries_on, lives_at, stands_at, stood_at, edge_at, edge_back, nobody_at}
use Rattle.cg_collect.proofs.Moving.{one-shorter, standing_at, walk_at, walk_over, walk_first, walk_passes, comes_next, live_where, left_is, moved_same, moved_there, moved_not, moved_last, moved_from, moved_once, walk_leaves}

pub aside_none : (store : Store) → SetsReferencesAside [] store store
aside_none store = record { same = same_itself store; more = []; behind = sym (nothing (list_at store Legacy)); fewer = omega arith; aside = λ o h. absurd h; others = λ o. inl refl }
  where
    nothing : (ys : List ℕ) → ys ++ [] ≡ ys
    nothing [] = refl
    nothing (y ∷ ys) = ap (λ l. y ∷ l) (nothing ys)

pub aside_one : (o : ℕ) (store : Store) → IsListed store → IsLive store o → place_of store o ≡ Cand → SetsReferencesAside (o ∷ []) store (moved o Legacy store)
aside_one o store listed live at = record {
  same = moved_same store listed o live Legacy (omega arith);
  more = o ∷ [];
  behind = moved_last store listed o live Legacy (omega arith) ∙ ap (λ (xs : List ℕ). xs ++ o ∷ []) (without_it (apart store listed Cand Legacy o (λ e. cc) here));
  fewer =
      let few = one-shorter o (list_at store Cand) (omega (arith, occurs (list_at store Cand) o here, once_at store listed Cand o)) in
      let is : length (list_at (moved o Legacy store) Cand) ≡ length (without_serial o (list_at store Cand)) = ap length (moved_from store listed o live Legacy (omega arith) Cand (λ e. cc)) in
      omega (arith, few, is);
  aside = λ q h. either h (λ e. subst (λ p. place_of (moved o Legacy store) p ≢ Cand) e (λ k. let x : Legacy
      ≡ Cand = sym (moved_there store listed o live Legacy (omega arith)) ∙ k in cc)) (λ k. absurd k);
  others = λ q. elim (cases_eq q o) [
    | inl same ↦ inr (ap (place_of store) same ∙ at, ap (place_of (moved o Legacy store)) same ∙ moved_there store listed o live Legacy (omega arith), inl (sym same))
    | inr differs ↦ inl (moved_not store listed o live Legacy (omega arith) q differs)
  ];
}
  where
    here : Includes (list_at store Cand) o
    here = is_there store listed Cand o live at

    without_it : occurrences o (list_at store Legacy) ≡ 0 → without_serial o (list_at store Legacy) ≡ list_at store Legacy
    without_it none = without-absent o (list_at store Legacy) none

pub aside_more : (r q : List ℕ) (a b c : Store) → SetsReferencesAside r a b → SetsReferencesAside q b c → SetsReferencesAside (r ++ q) a c
aside_more r q a b c x y = record {
  same = same_more a b c x.same y.same;
  more = x.more ++ y.more;
  behind = y.behind ∙ ap (λ (l : List ℕ). l ++ y.more) x.behind ∙ append_assoc (list_at a Legacy) x.more y.more;
  fewer = omega (arith, x.fewer, y.fewer, length-append x.more y.more);
  aside = λ o h. either (Includes-append_cases r q o h)
      (λ k e. either (y.others o) (λ stays. x.aside o k (sym stays ∙ e)) (λ went. let z : Legacy ≡ Cand = sym went.1 ∙ e in cc))
      (λ k. y.aside o k);
  others = λ o. both o (x.others o) (y.others o);
}
  where
    both : (o : ℕ) → StaysAt a b o ⊎ ((place_of a o ≡ Cand) × (place_of b o ≡ Legacy) × Includes r o) → StaysAt b c o ⊎ ((place_of b o ≡ Cand) × (place_of c o ≡ Legacy) × Includes q o)
        → StaysAt a c o ⊎ ((place_of a o ≡ Cand) × (place_of c o ≡ Legacy) × Includes (r ++ q) o)
    both o (inl s) (inl t) = inl (t ∙ s)
    both o (inl s) (inr went) = inr (sym s ∙ went.0, went.1, Includes-append_right r q o went.2)
    both o (inr went) (inl t) = inr (went.0, t ∙ went.1, Includes-append_left r q o went.2)
    both o (inr went) (inr again) = absurd (let z : Legacy ≡ Cand = sym went.1 ∙ again.0 in cc)

-- The references of the first entries of an object are set aside.
pub record Setting (o : ℕ) (old now : Store) (i : ℕ) : Type 0 where
  pub so_far : SetsReferencesAside (references (take i (entries_of old o))) old now

pub setting_first : (o : ℕ) (store : Store) → Setting o store store 0
setting_first o store = record { so_far = aside_none store }

pub setting_more : (o : ℕ) (old mid half new : Store) (i : ℕ) (e : Entry) → Setting o old mid i → slice_get (entries_of mid o) i ≡ Some e
    → SetsReferencesAside (targets e.val) mid half → SetsReferencesAside (targets e.key) half new → Setting o old new (i + 1)
setting_more o old mid half new i e so is one two = record {
  so_far = subst (λ (r : List ℕ). SetsReferencesAside r old new) (sym (references_in_turn (entries_of old o) i e (ap (λ es. slice_get es i) (sym (entries_on old mid so.so_far.same o)) ∙ is)))
      (aside_more (references (take i (entries_of old o)) ++ targets e.val) (targets e.key) old half new
      (aside_more (references (take i (entries_of old o))) (targets e.val) old mid half so.so_far one) two);
}

-- Each of these was looked at once.
pub record SettingLooked (o : ℕ) (old now : Store) (i before looks : ℕ) : Type 0 where
  pub setting : Setting o old now i
  pub looked : looks ≡ before + i

-- The walk over the uncollectable objects: none that it passed refers to a candidate any more.
pub record Closing (old now : Store) (cursor : Option ℕ) : Type 0 where
  pub front : List ℕ
  pub back : List ℕ
  pub at : IsAt (list_at now Legacy) cursor front back
  pub same : IsSameButPlaces old now
  pub closed : (q p : ℕ) → Includes front q → Includes (references (entries_of old q)) p → place_of now p ≢ Cand
  pub others : (o : ℕ) → StaysAt old now o ⊎ ((place_of now o ≡ Legacy) × FollowsLegacy old o)

pub closing_first : (store : Store) (cursor : Option ℕ) → cursor ≡ slice_get (list_at store Legacy) 0 → Closing store store cursor
closing_first store cursor is = record {
  front = [];
  back = list_at store Legacy;
  at = walk_first store Legacy cursor is;
  same = same_itself store;
  closed = λ q p h. absurd h;
  others = λ o. inl refl;
}

-- It looked once at each entry of those that it passed.
pub record ClosingLooked (old now : Store) (cursor : Option ℕ) (before looks : ℕ) : Type 0 where
  pub walk : Closing old now cursor
  pub looked : looks ≡ before + sum_by (λ q. length (entries_of old q)) walk.front

pub closing_looked : (store : Store) (cursor : Option ℕ) (looks : ℕ) → cursor ≡ slice_get (list_at store Legacy) 0 → ClosingLooked store store cursor looks looks
unfolding closing_first
closing_looked store cursor looks is = record { walk = closing_first store cursor is; looked = omega arith }

module _ (old now : Store) (cursor : Option ℕ) (o : ℕ) (listed : IsListed now) (so : Closing old now cursor) (is : cursor ≡ Some o) where
  abbrev at_object : IsAt (list_at now Legacy) (Some o) so.front so.back
  at_object = walk_at (list_at now Legacy) cursor o so.front so.back so.at is

  pub closing_live : IsLive now o
  closing_live = (live_where now listed Legacy o so.front so.back at_object).0

  stood : place_of now o ≡ Legacy
  stood = (live_where now listed Legacy o so.front so.back at_object).1

  module _ (mid : Store) (then : Option ℕ) (listed_mid : IsListed mid) (set : SetsReferencesAside (references (entries_of now o)) now mid) (comes : then
      ≡ following o (list_at mid (place_of mid o))) where
    refs : references (entries_of now o) ≡ references (entries_of old o)
    refs = ap references (entries_on old now so.same o)

    rest : List ℕ
    rest = (standing_at (list_at now Legacy) o so.front so.back at_object).rest

    was : so.back ≡ o ∷ rest
    unfolding rest
    was = (standing_at (list_at now Legacy) o so.front so.back at_object).ahead

    at_mid : IsAt (list_at mid Legacy) (Some o) so.front (so.back ++ set.more)
    at_mid = record {
      parts = set.behind ∙ ap (λ (l : List ℕ). l ++ set.more) so.at.parts ∙ append_assoc so.front so.back set.more;
      at = ap (λ (l : List ℕ). slice_get (l ++ set.more) 0) (sym was);
    }

    passed : (left : List ℕ) × (so.back ++ set.more ≡ o ∷ left) × IsAt (list_at mid Legacy) then (so.front ++ o ∷ []) left
    passed = walk_passes (list_at mid Legacy) o then so.front (so.back ++ set.more) at_mid (comes_next mid listed_mid Legacy o then comes)

    -- a candidate that the object refers to follows
    follows : (p : ℕ) → place_of old p ≡ Cand → Includes (references (entries_of old o)) p → FollowsLegacy old p
    follows p cand refers =
        either (so.others o)
        (λ stays. first (o, sym stays ∙ stood, refers) here)
        (λ went. next went.1 (edge_at old Cand o p (stood_at old Cand o (Reach-inside went.1)).0 (stood_at old Cand o (Reach-inside went.1)).1 refers) here)
      where
        here : StandsAt old Cand p
        here = stands_at old Cand p (lives_at old p Cand cand (λ e. cc)) cand

    pub closing_more : Closing old mid then
    closing_more = record {
      front = so.front ++ o ∷ [];
      back = passed.0;
      at = passed.2;
      same = same_more old now mid so.same set.same;
      closed = λ q p h refers. either (Includes-append_cases so.front (o ∷ []) q h)
          (λ k e. either (set.others p) (λ stays. so.closed q p k refers (sym stays ∙ e)) (λ went. let z : Legacy ≡ Cand = sym went.1 ∙ e in cc))
          (λ k. either k (λ same. set.aside p (subst (λ l. Includes l p) (sym refs) (subst (λ x. Includes (references (entries_of old x)) p) (sym same) refers))) (λ no. absurd no));
      others = λ p. both p (so.others p) (set.others p);
    }
      where
        both : (p : ℕ) → StaysAt old now p ⊎ ((place_of now p ≡ Legacy) × FollowsLegacy old p) → StaysAt now mid p
            ⊎ ((place_of now p ≡ Cand) × (place_of mid p ≡ Legacy) × Includes (references (entries_of now o)) p)
            → StaysAt old mid p ⊎ ((place_of mid p ≡ Legacy) × FollowsLegacy old p)
        both p (inl s) (inl t) = inl (t ∙ s)
        both p (inl s) (inr went) = inr (went.1, follows p (sym s ∙ went.0) (subst (λ l. Includes l p) refs went.2))
        both p (inr went) (inl t) = inr (t ∙ went.0, went.1)
        both p (inr went) (inr again) = absurd (let z : Legacy ≡ Cand = sym went.0 ∙ again.0 in cc)

    pub closing_looks : (before looks looks_now : ℕ) → looks ≡ before + sum_by (λ q. length (entries_of old q)) so.front → looks_now
        ≡ looks + length (entries_of now o) → ClosingLooked old mid then before looks_now
    unfolding closing_more
    closing_looks before looks looks_now so_far more =
        let own : length (entries_of now o) ≡ length (entries_of old o) = ap length (entries_on old now so.same o) in
        let pushed = sum_by-append (λ q. length (entries_of old q)) so.front (o ∷ []) in
        let one = sum_by-cons (λ q. length (entries_of old q)) o [] in
        record { walk = closing_more; looked = omega (arith, so_far, more, own, pushed, one) }

    pub closing_shorter : length (list_at mid Cand) + length (ahead then (list_at mid Legacy)) < length (list_at now Cand) + length (ahead cursor (list_at now Legacy))
    unfolding passed
    closing_shorter =
        let before : length (ahead cursor (list_at now Legacy)) ≡ length so.back = ap length (left_is now listed Legacy cursor so.front so.back so.at) in
        let after : length (ahead then (list_at mid Legacy)) ≡ length passed.0 = ap length (left_is mid listed_mid Legacy then (so.front ++ o ∷ []) passed.0 passed.2) in
        let parts : length (so.back ++ set.more) ≡ length (o ∷ passed.0) = ap length passed.1 in
        omega (arith, before, after, parts, length-append so.back set.more, set.fewer)

pub closing_done : (old now : Store) (cursor : Option ℕ) → IsListed now → Closing old now cursor → cursor ≡ None → Closes old now
closing_done old now cursor listed so is = record {
  same = so.same;
  closed = λ q p at refers. so.closed q p
      (subst (λ l. Includes l q) (walk_over (list_at now Legacy) cursor so.front so.back so.at is) (is_there now listed Legacy q (lives_at now q Legacy at (λ e. cc)) at)) refers;
  others = so.others;
}

pub closing_over : (old now : Store) (cursor : Option ℕ) (before looks : ℕ) → ClosingLooked old now cursor before looks → cursor ≡ None → looks ≤ before + entries_listed now Legacy
closing_over old now cursor before looks so is =
    let f : ℕ → ℕ = λ q. length (entries_of old q) in
    let all : list_at now Legacy ≡ so.walk.front = walk_over (list_at now Legacy) cursor so.walk.front so.walk.back so.walk.at is in
    let own : entries_listed now Legacy ≡ sum_by f (list_at now Legacy) = sum_alike (λ q. length (entries_of now q)) f (list_at now Legacy) (λ q m. ap length (entries_on old now so.walk.same q)) in
    omega (arith, so.looked, own, ap (sum_by f) all)

-- whether a class has a legacy finalizer does not depend on places
pub legacy_alike : (script : Script) (old new : Store) → IsSameButPlaces old new → (o : ℕ) → has_legacy_in script new o ≡ has_legacy_in script old o
legacy_alike script old new same o =
    ap (λ x. is_some (option_and_then (legacy_of script) x)) (object-at new o)
    ∙ known (fin.get old.nodes o) (fin.get new.nodes o) (same.nodes o)
    ∙ sym (ap (λ x. is_some (option_and_then (legacy_of script) x)) (object-at old o))
  where
    known : (a b : Option Node) → IsSameNode a b → is_some (option_and_then (legacy_of script) (option_map (object_from new.rows o) b))
        ≡ is_some (option_and_then (legacy_of script) (option_map (object_from old.rows o) a))
    known None None h = refl
    known (Some n) (Some m) h = ap (λ (x : Node). is_some (legacy_of script (object_from old.rows o x))) h
    known a b h = absurd h

-- The walk over the candidates: those that it passed have no legacy finalizer.
pub record Finding (script : Script) (old now : Store) (cursor : Option ℕ) : Type 0 where
  pub front : List ℕ
  pub back : List ℕ
  pub at : IsAt (list_at now Cand) cursor front back
  pub same : IsSameButPlaces old now
  pub passed : (q : ℕ) → Includes front q → has_legacy_in script old q ≡ false
  pub others : (o : ℕ) → StaysAt old now o ⊎ ((place_of old o ≡ Cand) × (place_of now o ≡ Legacy) × (has_legacy_in script old o ≡ true))

pub finding_first : (script : Script) (store : Store) (cursor : Option ℕ) → cursor ≡ slice_get (list_at store Cand) 0 → Finding script store store cursor
finding_first script store cursor is = record {
  front = [];
  back = list_at store Cand;
  at = walk_first store Cand cursor is;
  same = same_itself store;
  passed = λ q h. absurd h;
  others = λ o. inl refl;
}

module _ (script : Script) (old now : Store) (cursor : Option ℕ) (o : ℕ) (listed : IsListed now) (so : Finding script old now cursor) (is : cursor ≡ Some o) where
  abbrev found_at : IsAt (list_at now Cand) (Some o) so.front so.back
  found_at = walk_at (list_at now Cand) cursor o so.front so.back so.at is

  pub finding_live : IsLive now o
  finding_live = (live_where now listed Cand o so.front so.back found_at).0

  stood_here : place_of now o ≡ Cand
  stood_here = (live_where now listed Cand o so.front so.back found_at).1

  module _ (then : Option ℕ) (comes : then ≡ following o (list_at now (place_of now o))) where
    -- one with a legacy finalizer
    module _ (legacy : has_legacy_in script now o ≡ true) where
      leaves : (rest : List ℕ) × (so.back ≡ o ∷ rest) × IsAt (list_at (moved o Legacy now) Cand) then so.front rest
      leaves = walk_leaves now listed o finding_live Legacy (omega arith) Cand then so.front so.back (λ e. cc) found_at comes

      finding_aside : Finding script old (moved o Legacy now) then
      finding_aside = record {
        front = so.front;
        back = leaves.0;
        at = leaves.2;
        same = same_more old now (moved o Legacy now) so.same (moved_same now listed o finding_live Legacy (omega arith));
        passed = so.passed;
        others = λ q. elim (cases_eq q o) [
          | inl same ↦ inr (
            either (so.others q)
                (λ s. sym s ∙ ap (place_of now) same ∙ stood_here)
                (λ went. went.0),
            ap (place_of (moved o Legacy now)) same ∙ moved_there now listed o finding_live Legacy (omega arith),
            ap (has_legacy_in script old) same ∙ sym (legacy_alike script old now so.same o) ∙ legacy,
          )
          | inr differs ↦
              let stays = moved_not now listed o finding_live Legacy (omega arith) q differs in
              either (so.others q) (λ s. inl (stays ∙ s)) (λ went. inr (went.0, stays ∙ went.1, went.2))
        ];
      }

      aside_shorter : length (ahead then (list_at (moved o Legacy now) Cand)) < length (ahead cursor (list_at now Cand))
      unfolding leaves
      aside_shorter =
          let before : length (ahead cursor (list_at now Cand)) ≡ length so.back = ap length (left_is now listed Cand cursor so.front so.back so.at) in
          let after : length (ahead then (list_at (moved o Legacy now) Cand)) ≡ length leaves.0 = ap length (ahead_is (list_at (moved o Legacy now) Cand)
          then so.front leaves.0 (moved_once now listed o finding_live Legacy (omega arith) Cand (λ e. cc)) leaves.2) in
          let parts : length so.back ≡ length (o ∷ leaves.0) = ap length leaves.1 in
          omega (arith, before, after, parts)

      -- the same for the heap after the move
      pub finding_moved : (new : Store) → new ≡ moved o Legacy now → Finding script old new then
      finding_moved new is = subst (λ (s : Store). Finding script old s then) (sym is) finding_aside

      pub moved_shorter : (new : Store) → new ≡ moved o Legacy now → length (ahead then (list_at new Cand)) < length (ahead cursor (list_at now Cand))
      moved_shorter new is = subst (λ (s : Store). length (ahead then (list_at s Cand)) < length (ahead cursor (list_at now Cand))) (sym is) aside_shorter

    module _ (none : has_legacy_in script now o ≡ false) where
      passes : (rest : List ℕ) × (so.back ≡ o ∷ rest) × IsAt (list_at now Cand) then (so.front ++ o ∷ []) rest
      passes = walk_passes (list_at now Cand) o then so.front so.back found_at (comes_next now listed Cand o then comes)

      pub finding_passes : Finding script old now then
      finding_passes = record {
        front = so.front ++ o ∷ [];
        back = passes.0;
        at = passes.2;
        same = so.same;
        passed = λ q h. either (Includes-append_cases so.front (o ∷ []) q h) (so.passed q) (λ k. either k (λ e. subst (λ x. has_legacy_in script old x ≡ false)
            e (sym (legacy_alike script old now so.same o) ∙ none)) (λ no. absurd no));
        others = so.others;
      }

      pub passes_shorter : length (ahead then (list_at now Cand)) < length (ahead cursor (list_at now Cand))
      unfolding passes
      passes_shorter =
          let before : length (ahead cursor (list_at now Cand)) ≡ length so.back = ap length (left_is now listed Cand cursor so.front so.back so.at) in
          let after : length (ahead then (list_at now Cand)) ≡ length passes.0 = ap length (left_is now listed Cand then (so.front ++ o ∷ []) passes.0 passes.2) in
          let parts : length so.back ≡ length (o ∷ passes.0) = ap length passes.1 in
          omega (arith, before, after, parts)

pub finding_done : (script : Script) (old now : Store) (cursor : Option ℕ) → IsListed now → Finding script old now cursor → cursor ≡ None → SetsFinalizedAside script old now
finding_done script old now cursor listed so is = record {
  same = so.same;
  aside = λ o at legacy. either (so.others o)
      (λ s. absurd (let here : Includes so.front o = subst (λ l. Includes l o) (walk_over (list_at now Cand) cursor so.front so.back so.at is)
      (is_there now listed Cand o (lives_at now o Cand (s ∙ at) (λ e. cc)) (s ∙ at)) in
      let none = so.passed o here in let e : true ≡ false = sym legacy ∙ none in cc))
      (λ went. went.1);
  others = so.others;
}

-- Both passes: exactly what is reachable from legacy finalizers is set aside.
module _ (script : Script) (old mid new : Store) (listed : IsListed old) (empty : list_at old Legacy ≡ []) (some : SetsFinalizedAside script old mid) (all : Closes mid new) where
  was_candidate : (o : ℕ) → place_of mid o ≡ Cand → place_of old o ≡ Cand
  was_candidate o at = either (some.others o) (λ s. sym s ∙ at) (λ went. went.0)

  -- what is set aside first has a legacy finalizer
  first_led : (q : ℕ) → place_of mid q ≡ Legacy → (place_of old q ≡ Cand) × IsLedByLegacy script old q
  first_led q at = either (some.others q)
      (λ s. absurd (nobody_at old listed Legacy empty q (lives_at old q Legacy (sym s ∙ at) (λ e. cc)) (sym s ∙ at)))
      (λ went. (went.0, first went.2 (stands_at old Cand q (lives_at old q Cand went.0 (λ e. cc)) went.0)))

  led_on : (q o : ℕ) → place_of old q ≡ Cand → IsLedByLegacy script old q → Includes (references (entries_of mid q)) o → StandsAt mid Cand o → IsLedByLegacy script old o
  led_on q o at led refers here =
      let cand = was_candidate o (stood_at mid Cand o here).1 in
      next led (edge_at old Cand q o (lives_at old q Cand at (λ e. cc)) at (subst (λ es. Includes (references es) o) (entries_on old mid some.same q) refers))
      (stands_at old Cand o (lives_at old o Cand cand (λ e. cc)) cand)

  led : (o : ℕ) → FollowsLegacy mid o → IsLedByLegacy script old o
  led o (first (q, at, refers) here) = let f = first_led q at in led_on q o f.0 f.1 refers here
  led o (next {o = q} path edge here) = led_on q o (was_candidate q (stood_at mid Cand q (Reach-inside path)).1) (led q path) (edge_back mid Cand q o edge) here

  led_aside : (q o : ℕ) → place_of new q ≡ Legacy → Includes (edges (graph_at old Cand)) (arrow q o) → place_of old o ≡ Cand
      → StaysAt mid new o ⊎ ((place_of new o ≡ Legacy) × FollowsLegacy mid o) → StaysAt old mid o ⊎ ((place_of old o ≡ Cand) × (place_of mid o ≡ Legacy)
      × (has_legacy_in script old o ≡ true)) → place_of new o ≡ Legacy
  led_aside q o there edge at (inr went) b = went.0
  led_aside q o there edge at (inl s) (inr went) = s ∙ went.1
  led_aside q o there edge at (inl s) (inl t) = absurd (all.closed q o there (subst (λ es. Includes (references es) o) (sym (entries_on old mid some.same q))
      (edge_back old Cand q o edge)) (s ∙ t ∙ at))

  set_aside : (o : ℕ) → IsLedByLegacy script old o → place_of new o ≡ Legacy
  set_aside o (first held here) = either (all.others o) (λ s. s ∙ some.aside o (stood_at old Cand o here).1 held) (λ went. went.0)
  set_aside o (next {o = q} path edge here) = led_aside q o (set_aside q path) edge (stood_at old Cand o here).1 (all.others o) (some.others o)

  pub both_aside : SetsLegacyAside script old new
  both_aside = record {
    same = same_more old mid new some.same all.same;
    aside = set_aside;
    others = λ o. go o (some.others o) (all.others o);
  }
    where
      go : (o : ℕ) → StaysAt old mid o ⊎ ((place_of old o ≡ Cand) × (place_of mid o ≡ Legacy) × (has_legacy_in script old o ≡ true)) → StaysAt mid new o
          ⊎ ((place_of new o ≡ Legacy) × FollowsLegacy mid o) → StaysAt old new o ⊎ IsLedByLegacy script old o
      go o (inl s) (inl t) = inl (t ∙ s)
      go o (inl s) (inr went) = inr (led o went.1)
      go o (inr went) t = inr (first went.2 (stands_at old Cand o (lives_at old o Cand went.0 (λ e. cc)) went.0))
