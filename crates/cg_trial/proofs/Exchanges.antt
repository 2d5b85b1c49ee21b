-- The walk ends: the reached objects and the others go to their final places.
use Rattle.std.proofs.Common.{◌≡◌, ◌≢◌, refl, sym, ◌∙◌, ap, subst, ℕ, ◌<◌, ◌≤◌, ◌⊎◌, inl, inr, List, [], ◌∷◌, ◌++◌, length, Option, Some, None, IsTrue, arith, append_assoc}
use Rattle.std.proofs.lemmas.List.{append-nil}
use Rattle.std.specs.Prelude.{sum_by, cond, ◌==◌}
use Rattle.cg_value.specs.declared.Place.{Place}
use Rattle.cg_value.specs.declared.Place.TheVariants.{Gen, Cand, Back}
use Rattle.cg_graph.specs.Member.{Includes}
use Rattle.cg_graph.specs.Holdings.{occurrences}
use Rattle.cg_graph.specs.Places.{without_serial}
use Rattle.cg_graph.proofs.Members.{Includes-append_cases, Includes-append_right}
use Rattle.cg_graph.proofs.Objects.{occurrences-append}
use Rattle.cg_trial.specs.declared.subtraction.Search.{Search}
use Rattle.cg_trial.specs.View.{View, IsSame, Moved, Merged, IsReadyView, head_of}
use Rattle.cg_trial.specs.Sift.{IsSearch, candidate_search, AreOthersSame, Walk, starts, goes, IsNowhereElse, IsParted, IsTwofold, IsExchanged, IsSifted, IsMember}
use Rattle.cg_trial.proofs.Lists.{head_is, without-absent, once_before}
use Rattle.cg_trial.proofs.Passes.{same_itself, same_more}
use Rattle.cg_trial.proofs.Entries.{live_same}
use Rattle.cg_trial.proofs.Searches.{by_search}
use Rattle.cg_trial.proofs.WalkInvariant.{without_middle}
use Rattle.cg_trial.proofs.TakingBack.{member_within}

-- Those with numbers have left the list of candidates up to a point; the others follow.
pub record Exchanging (old now : View) (cursor : Option ℕ) : Type 0 where
  pub gone : List ℕ
  pub rest : List ℕ
  pub whole : old.listed Cand ≡ gone ++ rest
  pub candidates : now.listed Cand ≡ rest ++ old.listed Back
  pub aside : now.listed Back ≡ gone
  pub at : cursor ≡ head_of (now.listed Cand)
  pub same : IsSame old now
  pub numbers : now.number ≡ old.number
  pub others : AreOthersSame candidate_search old now

pub exchanging_first : (old now : View) (cursor : Option ℕ) → Merged Back Cand old now → cursor ≡ head_of (now.listed Cand) → Exchanging old now cursor
exchanging_first old now cursor merged is = record {
  gone = [];
  rest = old.listed Cand;
  whole = refl;
  candidates = merged.joined;
  aside = merged.emptied;
  at = is;
  same = merged.same;
  numbers = merged.numbers;
  others = λ q h k. merged.others q k h;
}

pub exchanging_at : (old now : View) (cursor : Option ℕ) (o : ℕ) → Exchanging old now cursor → cursor ≡ Some o → Exchanging old now (Some o)
exchanging_at old now cursor o so is = subst (λ (k : Option ℕ). Exchanging old now k) is so

module _ (old now : View) (o : ℕ) (so : Exchanging old now (Some o)) (two : IsTwofold old) where
  first_is : (x : ℕ) (xs : List ℕ) → now.listed Cand ≡ x ∷ xs → o ≡ x
  first_is x xs is = let e : Some o ≡ Some x = so.at ∙ ap head_of is in cc

  stands_first : Includes (now.listed Cand) o
  stands_first = subst (λ (xs : List ℕ). Includes xs o) (sym (head_is (now.listed Cand) o so.at).1) (inl refl)

  -- the first of the remaining ones, or one of those that follow
  rest_is : now.number o ≢ 0 → (xs : List ℕ) → old.listed Cand ≡ so.gone ++ xs → now.listed Cand ≡ xs ++ old.listed Back → (ys : List ℕ) × (xs ≡ o ∷ ys)
  rest_is has [] whole is = absurd (has (ap (λ (n : ℕ → ℕ). n o) so.numbers ∙ two.asleep o (subst (λ (xs : List ℕ). Includes xs o) is stands_first)))
  rest_is has (x ∷ xs) whole is = (xs, ap (λ y. y ∷ xs) (sym (first_is x (xs ++ old.listed Back) is)))

  pub exchanging_live : IsTrue (now.live o)
  exchanging_live = live_same old now o so.same (two.alive o (within stands_first))
    where
      within : Includes (now.listed Cand) o → IsMember candidate_search old o
      within h = go (Includes-append_cases so.rest (old.listed Back) o (subst (λ (xs : List ℕ). Includes xs o) so.candidates h))
        where
          go : Includes so.rest o ⊎ Includes (old.listed Back) o → IsMember candidate_search old o
          go (inl k) = inl (subst (λ (xs : List ℕ). Includes xs o) (sym so.whole) (Includes-append_right so.gone so.rest o k))
          go (inr k) = inr k

  -- an object with a number joins the others that have one
  module _ (has : now.number o ≢ 0) (new : View) (moved : Moved o Back now new) where
    abbrev later : List ℕ
    later = (rest_is has so.rest so.whole so.candidates).0

    left : so.rest ≡ o ∷ later
    left = (rest_is has so.rest so.whole so.candidates).1

    whole : old.listed Cand ≡ so.gone ++ o ∷ later
    whole = so.whole ∙ ap (λ (xs : List ℕ). so.gone ++ xs) left

    before : now.listed Cand ≡ o ∷ (later ++ old.listed Back)
    before = so.candidates ∙ ap (λ (xs : List ℕ). xs ++ old.listed Back) left

    in_old : Includes (old.listed Cand) o
    in_old = subst (λ (xs : List ℕ). Includes xs o) (sym whole) (Includes-append_right so.gone (o ∷ later) o (inl refl))

    once_now : occurrences o (now.listed Cand) ≤ 1
    once_now = omega (arith, ap (occurrences o) so.candidates, occurrences-append o so.rest (old.listed Back), ap (occurrences o) so.whole, occurrences-append o so.gone so.rest, two.once o)

    not_gone : occurrences o so.gone ≡ 0
    not_gone = (once_before (old.listed Cand) so.gone later o (omega (arith, two.once o)) whole).0

    candidates_new : new.listed Cand ≡ later ++ old.listed Back
    candidates_new = moved.others Cand (λ e. absurd (cc)) ∙ without_middle (now.listed Cand) [] (later ++ old.listed Back) o once_now before

    pub exchanging_more : (cursor : Option ℕ) → cursor ≡ head_of (new.listed Cand) → Exchanging old new cursor
    exchanging_more cursor is = record {
      gone = so.gone ++ o ∷ [];
      rest = later;
      whole = whole ∙ sym (append_assoc so.gone (o ∷ []) later);
      candidates = candidates_new;
      aside = moved.last ∙ ap (λ (xs : List ℕ). xs ++ o ∷ []) (ap (without_serial o) so.aside ∙ without-absent o so.gone not_gone);
      at = is;
      same = same_more so.same moved.same;
      numbers = moved.numbers ∙ so.numbers;
      others = λ q h k. moved.others q k ∙ ap (without_serial o) (so.others q h k) ∙ without-absent o (old.listed q) (two.alone q o h k (inl in_old));
    }

    pub exchanging_shorter : length (new.listed Cand) < length (now.listed Cand)
    exchanging_shorter = omega (arith, ap length candidates_new, ap length before)

exchanged : (old now : View) (cursor : Option ℕ) (so : Exchanging old now cursor) → so.rest ≡ [] → IsExchanged old now
exchanged old now cursor so none = record {
  same = so.same;
  others = so.others;
  candidates = so.candidates ∙ ap (λ (xs : List ℕ). xs ++ old.listed Back) none;
  aside = so.aside ∙ sym (append-nil so.gone) ∙ ap (λ (xs : List ℕ). so.gone ++ xs) (sym none) ∙ sym so.whole;
}

-- The next one has no number, so all with a number are gone.
pub exchanged_stop : (old now : View) (o : ℕ) → Exchanging old now (Some o) → IsTwofold old → now.number o ≡ 0 → IsExchanged old now
exchanged_stop old now o so two is = exchanged old now (Some o) so (known so.rest so.whole so.candidates)
  where
    known : (xs : List ℕ) → old.listed Cand ≡ so.gone ++ xs → now.listed Cand ≡ xs ++ old.listed Back → xs ≡ []
    known [] whole then = refl
    known (x ∷ xs) whole then =
        let e : Some o ≡ Some x = so.at ∙ ap head_of then in
        let same : o ≡ x = cc in
        absurd (two.numbered x (subst (λ (ys : List ℕ). Includes ys x) (sym whole) (Includes-append_right so.gone (x ∷ xs) x (inl refl)))
        (sym (ap (λ (n : ℕ → ℕ). n x) so.numbers) ∙ ap now.number (sym same) ∙ is))

-- There is no next one.
pub exchanged_all : (old now : View) (cursor : Option ℕ) → Exchanging old now cursor → cursor ≡ None → IsExchanged old now
exchanged_all old now cursor so is = exchanged old now cursor so (known so.rest so.candidates)
  where
    known : (xs : List ℕ) → now.listed Cand ≡ xs ++ old.listed Back → xs ≡ []
    known [] then = refl
    known (x ∷ xs) then = absurd (let e : None ≡ Some x = sym is ∙ so.at ∙ ap head_of then in cc)

-- No member has a number: nothing is reached.
nowhere : (members : Place) (v : View) → ((o : ℕ) → Includes (v.listed members) o → v.number o ≡ 0) → (o : ℕ) → Walk v (v.listed members) o → ⊥
nowhere members v zero o (starts n h) = n (zero o h)
nowhere members v zero o (goes {o = p} w r h) = nowhere members v zero p w

pub none_reached : (s : Search) → IsSearch s → s.members ≡ Cand → (v : View) → v.listed s.aside ≡ [] → ((o : ℕ) → Includes (v.listed s.members) o → v.number o ≡ 0) → IsSifted s.members v v
none_reached s is =
    by_search (λ (t : Search). t.members ≡ Cand → (v : View) → v.listed t.aside ≡ [] → ((o : ℕ) → Includes (v.listed t.members) o → v.number o ≡ 0) → IsSifted t.members v v)
    (λ e v empty zero. record {
      same = same_itself v;
      others = λ q h k. refl;
      sums = λ f. omega (arith, ap (sum_by f) empty);
      reached = λ o h. absurd (subst (λ (xs : List ℕ). Includes xs o) empty h);
      all_reached = λ o w. absurd (nowhere Cand v zero o w);
    }) (λ i few e. absurd (cc)) s is

-- all members of a generation become the candidates
pub none_kept : (s : Search) → IsSearch s → s.members ≢ Cand → (v new : View) → v.listed s.aside ≡ [] → ((o : ℕ) → Includes (v.listed s.members) o → v.number o ≡ 0)
    → Merged s.members s.aside v new → IsSifted s.members v new
none_kept s is =
    by_search (λ (t : Search). t.members ≢ Cand → (v new : View) → v.listed t.aside ≡ [] → ((o : ℕ) → Includes (v.listed t.members) o → v.number o ≡ 0) → Merged t.members t.aside v new → IsSifted t.members v new)
    (λ differ. absurd (differ refl))
    (λ i few differ v new empty zero merged. record {
      same = merged.same;
      others = λ q h k. merged.others q k h;
      sums = λ f. omega (arith, ap (sum_by f) (merged.joined ∙ ap (λ (xs : List ℕ). xs ++ v.listed (Gen i)) empty), ap (sum_by f) merged.emptied);
      reached = λ o h. absurd (subst (λ (xs : List ℕ). Includes xs o) merged.emptied h);
      all_reached = λ o w. absurd (nowhere (Gen i) v zero o w);
    }) s is

-- a search among the candidates parts `Cand` and `Back`
pub parted_candidates : (s : Search) → IsSearch s → s.members ≡ Cand → (old mid : View) → IsParted s old mid → IsParted candidate_search old mid
parted_candidates s is =
    by_search (λ (t : Search). t.members ≡ Cand → (old mid : View) → IsParted t old mid → IsParted candidate_search old mid) (λ e old mid parted. parted) (λ i few e. absurd (cc)) s is

module _ (old mid : View) (parted : IsParted candidate_search old mid) where
  pub parted_twofold : IsReadyView Cand old → IsNowhereElse Cand old → IsTwofold mid
  parted_twofold ready alone = record {
    alive = λ o h. live_same old mid o parted.same (ready.alive o (member_within candidate_search old mid parted.sums o h));
    once = λ o. omega (arith, parted.sums (λ x. cond (x == o) 1 0), ready.once o);
    alone = λ q o h k m. ap (occurrences o) (parted.others q h k) ∙ alone q o h (member_within candidate_search old mid parted.sums o m);
    numbered = parted.numbered;
    asleep = parted.asleep;
  }

  pub sifted_exchanged : (new : View) → IsExchanged mid new → IsSifted Cand old new
  sifted_exchanged new then = record {
    same = same_more parted.same then.same;
    others = λ q h k. then.others q h k ∙ parted.others q h k;
    sums = λ f. omega (arith, ap (sum_by f) then.candidates, ap (sum_by f) then.aside, parted.sums f);
    reached = λ o h. parted.reached o (subst (λ (xs : List ℕ). Includes xs o) then.aside h);
    all_reached = λ o w. subst (λ (xs : List ℕ). Includes xs o) (sym then.aside) (parted.all_reached o w);
  }
