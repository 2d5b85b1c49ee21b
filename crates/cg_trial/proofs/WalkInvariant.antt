-- The walk: each object passed has a number, each set aside has none, and whatever a passed object leads to has a
-- number.
use Rattle.std.proofs.Common.{◌≡◌, ◌≢◌, refl, sym, ◌∙◌, ap, subst, ℕ, ◌+◌, ◌<◌, ◌≤◌, Bool, cond, ◌⊎◌, inl, inr, List, [], ◌∷◌, ◌++◌, length, Option, Some, None, IsTrue, arith, append_assoc, length-append}
use Rattle.std.proofs.lemmas.Bool.{eq-eqb}
use Rattle.std.proofs.lemmas.List.Sums.{sum_by_push, sum_by-append, sum_by-cons}
use Rattle.std.specs.Prelude.{◌==◌, sum_by}
use Rattle.cg_value.specs.declared.Place.{Place}
use Rattle.cg_value.specs.declared.Entry.{Entry}
use Rattle.cg_graph.specs.Member.{Includes}
use Rattle.cg_graph.specs.Holdings.{occurrences}
use Rattle.cg_graph.specs.Places.{without_serial}
use Rattle.cg_trial.specs.declared.subtraction.Search.{Search}
use Rattle.cg_trial.specs.View.{IsNext, head_of, View, IsSame, Moved, IsReadyView}
use Rattle.cg_graph.specs.Value.{references}
use Rattle.cg_trial.specs.Paths.{entries_in}
use Rattle.cg_trial.specs.Sift.{Woken, IsMember, both, is_zero, zeros, AreOthersSame, Walk, starts, goes, IsParted}
use Rattle.cg_graph.proofs.Members.{either, Includes-append_cases}
use Rattle.cg_trial.proofs.Lists.{occurs, occurs_in, none_or_some, without-absent, without-append, without-cons_yes, once_before, IsAt, head_is, ahead, ahead_is}
use Rattle.cg_trial.proofs.Passes.{same_itself, same_more, turn_of, stands, at_end}
use Rattle.cg_trial.proofs.Entries.{refs_same, length_same, live_same}
use Rattle.cg_trial.proofs.TakingBack.{member_of, member_within, all_awake}

pub in_lists : (xs ys zs : List ℕ) (q : ℕ) → occurrences q xs + occurrences q ys ≡ occurrences q zs → Includes zs q → Includes ys q ⊎ Includes xs q
in_lists xs ys zs q sum h = either (none_or_some (occurrences q ys)) (λ e. inr (occurs_in xs q (let k = occurs zs q h in omega arith))) (λ e. inl (occurs_in ys q e))

pub from_first : (xs ys zs : List ℕ) (q : ℕ) → occurrences q xs + occurrences q ys ≡ occurrences q zs → Includes xs q → Includes zs q
from_first xs ys zs q sum h = occurs_in zs q (let k = occurs xs q h in omega arith)

-- a list without the element between two parts of it
pub without_middle : (xs front rest : List ℕ) (o : ℕ) → occurrences o xs ≤ 1 → xs ≡ front ++ o ∷ rest → without_serial o xs ≡ front ++ rest
without_middle xs front rest o once parts =
    let none = once_before xs front rest o once parts in
    ap (without_serial o) parts
    ∙ without-append o front (o ∷ rest)
    ∙ ap (λ (ys : List ℕ). ys ++ without_serial o (o ∷ rest)) (without-absent o front none.0)
    ∙ ap (λ (ys : List ℕ). front ++ ys) (without-cons_yes o o rest (eq-eqb o o refl) ∙ without-absent o rest none.1)

-- The walk has reached the cursor. Each member is passed, ahead, or set aside.
pub record Sifting (s : Search) (old now : View) (cursor : Option ℕ) (before steps : ℕ) : Type 0 where
  pub front : List ℕ
  pub back : List ℕ
  pub at : IsAt (now.listed s.members) cursor front back
  pub numbered : (q : ℕ) → Includes front q → now.number q ≢ 0
  pub asleep : (q : ℕ) → Includes (now.listed s.aside) q → now.number q ≡ 0
  pub same : IsSame old now
  pub others : AreOthersSame s old now
  -- each member is in one of the two lists, as often as before
  pub sums : (f : ℕ → ℕ) → both s f now ≡ sum_by f (old.listed s.members)
  pub marked : (q : ℕ) → Includes (old.listed s.members) q → now.number q ≢ 0 → Walk old (old.listed s.members) q
  pub stays : (q : ℕ) → old.number q ≢ 0 → now.number q ≢ 0
  -- what a passed object leads to has a number
  pub closed : (q p : ℕ) → Includes front q → Includes (references (old.entries q)) p → Includes (old.listed s.members) p → now.number p ≢ 0
  pub later : before ≤ steps
  pub looks : steps ≤ before + entries_in old front

-- the number of those with number 0 and of those ahead
abbrev pub weight : Search → View → Option ℕ → ℕ
weight s v cursor = zeros s v + length (ahead cursor (v.listed s.members))

module _ (s : Search) where
  pub sifting_at : (old now : View) (cursor : Option ℕ) (o before steps : ℕ) → Sifting s old now cursor before steps → cursor ≡ Some o → Sifting s old now (Some o) before steps
  sifting_at old now cursor o before steps so is = subst (λ (k : Option ℕ). Sifting s old now k before steps) is so

  pub sifting_first : (v : View) (cursor : Option ℕ) (steps : ℕ) → v.listed s.aside ≡ [] → cursor ≡ head_of (v.listed s.members) → Sifting s v v cursor steps steps
  sifting_first v cursor steps empty is = record {
    front = [];
    back = v.listed s.members;
    at = record { parts = refl; at = is };
    numbered = λ q h. absurd h;
    asleep = λ q h. absurd (subst (λ (xs : List ℕ). Includes xs q) empty h);
    same = same_itself v;
    others = λ q h k. refl;
    sums = λ f. let e : sum_by f (v.listed s.aside) ≡ 0 = ap (sum_by f) empty in omega arith;
    marked = λ q h k. starts k h;
    stays = λ q h. h;
    closed = λ q p h. absurd h;
    later = omega arith;
    looks = omega arith;
  }

  module _ (old now : View) (cursor : Option ℕ) (before steps : ℕ) (so : Sifting s old now cursor before steps) where
    -- how often an object is in the two lists
    pub where_now : (q : ℕ) → occurrences q (now.listed s.members) + occurrences q (now.listed s.aside) ≡ occurrences q (old.listed s.members)
    where_now q = so.sums (λ x. cond (x == q) 1 0)

    pub member_now : (q : ℕ) → Includes (old.listed s.members) q → IsMember s now q
    member_now q h = member_of s now q (omega (arith, where_now q, occurs (old.listed s.members) q h))

    pub member_old : (q : ℕ) → IsMember s now q → Includes (old.listed s.members) q
    member_old q h = member_within s old now so.sums q h

    pub sifting_ready : IsReadyView s.members old → IsReadyView s.members now
    sifting_ready ready = record {
      once = λ q. omega (arith, where_now q, ready.once q);
      alive = λ q h. live_same old now q so.same (ready.alive q (member_old q (inl h)));
      closed = λ q p live h.
          live_same old now p so.same
          (ready.closed q p (subst (λ (l : ℕ → Bool). IsTrue (l q)) so.same.lives live) (subst (λ (es : ℕ → List Entry). Includes (references (es q)) p) so.same.hold h));
    }

  pub sifting_live : (old now : View) (o before steps : ℕ) → IsReadyView s.members old → Sifting s old now (Some o) before steps → IsTrue (now.live o)
  sifting_live old now o before steps ready so = (sifting_ready old now (Some o) before steps so ready).alive o (stands (now.listed s.members) o so.front so.back so.at)

  -- An object with number 0 is set aside.
  module _ (differ : s.members ≢ s.aside) (old now new : View) (o : ℕ) (cursor : Option ℕ) (before steps : ℕ) (ready : IsReadyView s.members old) (so : Sifting s old now (Some o) before steps)
      (is : now.number o ≡ 0) (next : IsNext now o cursor) (moved : Moved o s.aside now new) where
    abbrev turn : (rest : List ℕ) × (so.back ≡ o ∷ rest) × (now.listed s.members ≡ so.front ++ o ∷ rest) × IsAt (now.listed s.members) cursor (so.front ++ o ∷ []) rest
    turn = turn_of s.members now (now.listed s.members) o cursor so.front so.back refl so.at next

    once_now : (q : ℕ) → occurrences q (now.listed s.members) ≤ 1
    once_now = (sifting_ready old now (Some o) before steps so ready).once

    stands_now : Includes (now.listed s.members) o
    stands_now = stands (now.listed s.members) o so.front so.back so.at

    cand_left : new.listed s.members ≡ so.front ++ turn.0
    cand_left = moved.others s.members differ ∙ without_middle (now.listed s.members) so.front turn.0 o (once_now o) turn.2

    not_aside : occurrences o (now.listed s.aside) ≡ 0
    not_aside = omega (arith, where_now old now (Some o) before steps so o, ready.once o, occurs (now.listed s.members) o stands_now)

    aside_more : new.listed s.aside ≡ now.listed s.aside ++ o ∷ []
    aside_more = moved.last ∙ ap (λ (xs : List ℕ). xs ++ o ∷ []) (without-absent o (now.listed s.aside) not_aside)

    number_new : (q : ℕ) → new.number q ≡ now.number q
    number_new q = ap (λ (n : ℕ → ℕ). n q) moved.numbers

    same_both : (f : ℕ → ℕ) → both s f new ≡ both s f now
    same_both f = omega (
      arith,
      ap (sum_by f) cand_left,
      sum_by-append f so.front turn.0,
      ap (sum_by f) turn.2,
      sum_by-append f so.front (o ∷ turn.0),
      sum_by-cons f o turn.0,
      ap (sum_by f) aside_more,
      sum_by_push f (now.listed s.aside) o,
    )

    absent_elsewhere : (q : Place) → q ≢ s.members → q ≢ s.aside → occurrences o (old.listed q) ≡ 0 → new.listed q ≡ old.listed q
    absent_elsewhere q h k none = moved.others q k ∙ ap (without_serial o) (so.others q h k) ∙ without-absent o (old.listed q) none

    pub sifting_aside : ((q : Place) → q ≢ s.members → occurrences o (old.listed q) ≡ 0) → Sifting s old new cursor before steps
    sifting_aside alone = record {
      front = so.front;
      back = turn.0;
      at = record { parts = cand_left; at = turn.3.at };
      numbered = λ q h k. so.numbered q h (sym (number_new q) ∙ k);
      asleep = λ q h. number_new q ∙ either (Includes-append_cases (now.listed s.aside) (o ∷ []) q (subst (λ (xs : List ℕ). Includes xs q) aside_more h))
          (so.asleep q) (λ k. either k (λ i. subst (λ p. now.number p ≡ 0) i is) (λ k. absurd k));
      same = same_more so.same moved.same;
      others = λ q h k. absent_elsewhere q h k (alone q h);
      sums = λ f. same_both f ∙ so.sums f;
      marked = λ q h k. so.marked q h (λ z. k (number_new q ∙ z));
      stays = λ q h k. so.stays q h (sym (number_new q) ∙ k);
      closed = λ q p h r k z. so.closed q p h r k (sym (number_new p) ∙ z);
      later = so.later;
      looks = so.looks;
    }

    pub aside_zeros : zeros s new ≡ zeros s now
    aside_zeros = ap (λ (n : ℕ → ℕ). both s (λ q. cond (n q == 0) 1 0) new) moved.numbers ∙ same_both (is_zero now)

    pub aside_lighter : ((q : Place) → q ≢ s.members → occurrences o (old.listed q) ≡ 0) → (was : Option ℕ) → was ≡ Some o → weight s new cursor < weight s now was
    aside_lighter alone was start =
        let once_new = (sifting_ready old new cursor before steps (sifting_aside alone) ready).once in
        let a : length (ahead was (now.listed s.members)) ≡ length (o ∷ turn.0) = ap (λ (k : Option ℕ). length (ahead k (now.listed s.members))) start
        ∙ ap length (ahead_is (now.listed s.members) (Some o) so.front so.back once_now so.at ∙ turn.1) in
        let b : length (ahead cursor (new.listed s.members)) ≡ length turn.0 = ap length (ahead_is (new.listed s.members) cursor so.front turn.0 once_new (record { parts = cand_left; at = turn.3.at })) in
        omega (arith, aside_zeros, a, b)

  -- An object with a number is passed, after what it refers to is taken back.
  module _ (old now mid : View) (o : ℕ) (cursor : Option ℕ) (before steps later : ℕ) (ready : IsReadyView s.members old) (so : Sifting s old now (Some o) before steps) (has : now.number o ≢ 0)
      (woken : Woken s (references (now.entries o)) now mid) (next : IsNext mid o cursor) (gone_on : steps ≤ later) (looked : later ≤ steps + length (now.entries o)) where
    abbrev rest : List ℕ
    rest = (head_is so.back o so.at.at).0

    was : so.back ≡ o ∷ rest
    was = (head_is so.back o so.at.at).1

    here : now.listed s.members ≡ so.front ++ o ∷ rest
    here = so.at.parts ∙ ap (λ (b : List ℕ). so.front ++ b) was

    parts : mid.listed s.members ≡ so.front ++ o ∷ (rest ++ woken.more)
    parts = woken.longer ∙ ap (λ (xs : List ℕ). xs ++ woken.more) here ∙ append_assoc so.front (o ∷ rest) woken.more

    at_next : IsAt (mid.listed s.members) cursor (so.front ++ o ∷ []) (rest ++ woken.more)
    at_next = record { parts = parts ∙ sym (append_assoc so.front (o ∷ []) (rest ++ woken.more)); at = next s.members so.front (rest ++ woken.more) parts }

    in_old : Includes (old.listed s.members) o
    in_old = member_old old now (Some o) before steps so o (inl (stands (now.listed s.members) o so.front so.back so.at))

    refs_old : (p : ℕ) → Includes (references (now.entries o)) p → Includes (references (old.entries o)) p
    refs_old p h = subst (λ (r : List ℕ). Includes r p) (refs_same old now o so.same) h

    refs_now : (p : ℕ) → Includes (references (old.entries o)) p → Includes (references (now.entries o)) p
    refs_now p h = subst (λ (r : List ℕ). Includes r p) (sym (refs_same old now o so.same)) h

    passed_cases : {C : Type 0} (q : ℕ) → Includes (so.front ++ o ∷ []) q → (Includes so.front q → C) → (o ≡ q → C) → C
    passed_cases q h f g = either (Includes-append_cases so.front (o ∷ []) q h) f (λ k. either k g (λ k. absurd k))

    pub sifting_pass : Sifting s old mid cursor before later
    sifting_pass = record {
      front = so.front ++ o ∷ [];
      back = rest ++ woken.more;
      at = at_next;
      numbered = λ q h. woken.stays q (passed_cases q h (so.numbered q) (λ i. subst (λ p. now.number p ≢ 0) i has));
      asleep = woken.asleep so.asleep;
      same = same_more so.same woken.same;
      others = λ q h k. woken.others q h k ∙ so.others q h k;
      sums = λ f. woken.sums f ∙ so.sums f;
      marked = λ q h k. either (woken.only q k) (so.marked q h) (λ r. goes (so.marked o in_old has) (refs_old q r) h);
      stays = λ q h. woken.stays q (so.stays q h);
      closed = λ q p h r k. passed_cases q h (λ i. woken.stays p (so.closed q p i r k))
          (λ i. woken.woken p (refs_now p (subst (λ s. Includes (references (old.entries s)) p) (sym i) r)) (member_now old now (Some o) before steps so p k));
      later = omega (arith, so.later, gone_on);
      looks = omega (arith, so.looks, looked, length_same old now o so.same, sum_by_push (λ q. length (old.entries q)) so.front o);
    }

    pub pass_lighter : (start : Option ℕ) → start ≡ Some o → weight s mid cursor < weight s now start
    pass_lighter start is =
        let once_now = (sifting_ready old now (Some o) before steps so ready).once in
        let once_mid = (sifting_ready old mid cursor before later sifting_pass ready).once in
        let a : length (ahead start (now.listed s.members)) ≡ length (o ∷ rest) = ap (λ (k : Option ℕ). length (ahead k (now.listed s.members))) is
        ∙ ap length (ahead_is (now.listed s.members) (Some o) so.front so.back once_now so.at ∙ was) in
        let b : length (ahead cursor (mid.listed s.members)) ≡ length (rest ++ woken.more) = ap length (ahead_is (mid.listed s.members) cursor (so.front ++ o ∷ []) (rest ++ woken.more) once_mid at_next) in
        omega (arith, a, b, woken.lighter, length-append rest woken.more)

  pub sifting_alive : (old now mid : View) (o before steps : ℕ) (r : List ℕ) → IsReadyView s.members old → Sifting s old now (Some o) before steps → Woken s r now mid → IsTrue (mid.live o)
  sifting_alive old now mid o before steps r ready so woken = live_same now mid o woken.same (sifting_live old now o before steps ready so)

  -- At the end every remaining member was passed, so it and all it leads to have numbers.
  module _ (old now : View) (before steps : ℕ) (so : Sifting s old now None before steps) where
    all_passed : now.listed s.members ≡ so.front
    all_passed = at_end (now.listed s.members) so.front so.back so.at

    passed : (q : ℕ) → Includes (now.listed s.members) q → Includes so.front q
    passed q h = subst (λ (xs : List ℕ). Includes xs q) all_passed h

    left : (q : ℕ) → Includes (old.listed s.members) q → now.number q ≢ 0 → Includes (now.listed s.members) q
    left q h n = either (member_now old now None before steps so q h) (λ i. i) (λ i. absurd (n (so.asleep q i)))

    all_left : (q : ℕ) → Walk old (old.listed s.members) q → Includes (now.listed s.members) q
    all_left q (starts n h) = left q h (so.stays q n)
    all_left q (goes {o = p} w r h) = left q h (so.closed p q (passed p (all_left p w)) r h)

    pub sifting_end : IsParted s old now
    sifting_end = record {
      same = so.same;
      others = so.others;
      sums = so.sums;
      numbered = λ q h. so.numbered q (passed q h);
      asleep = so.asleep;
      reached = λ q h. so.marked q (member_old old now None before steps so q (inl h)) (so.numbered q (passed q h));
      all_reached = all_left;
    }

  pub sifting_done : (old now : View) (cursor : Option ℕ) (before steps : ℕ) → Sifting s old now cursor before steps → cursor ≡ None → Sifting s old now None before steps
  sifting_done old now cursor before steps so is = subst (λ (k : Option ℕ). Sifting s old now k before steps) is so

  -- If none has number 0 any more, all reached objects stay, whatever is still ahead.
  module _ (old now : View) (cursor : Option ℕ) (before steps : ℕ) (so : Sifting s old now cursor before steps) (none : zeros s now ≡ 0) where
    numbered_now : (q : ℕ) → Includes (now.listed s.members) q → now.number q ≢ 0
    numbered_now q h = all_awake s now none q (inl h)

    none_aside : (q : ℕ) → Includes (now.listed s.aside) q → ⊥
    none_aside q h = all_awake s now none q (inr h) (so.asleep q h)

    stays_there : (q : ℕ) → Includes (old.listed s.members) q → Includes (now.listed s.members) q
    stays_there q h = either (member_now old now cursor before steps so q h) (λ i. i) (λ i. absurd (none_aside q i))

    all_stay : (q : ℕ) → Walk old (old.listed s.members) q → Includes (now.listed s.members) q
    all_stay q (starts n h) = stays_there q h
    all_stay q (goes w r h) = stays_there q h

    pub sifting_over : IsParted s old now
    sifting_over = record {
      same = so.same;
      others = so.others;
      sums = so.sums;
      numbered = numbered_now;
      asleep = so.asleep;
      reached = λ q h. so.marked q (member_old old now cursor before steps so q (inl h)) (numbered_now q h);
      all_reached = all_stay;
    }

  -- the passed objects are some of the members
  pub looks_within : (old now : View) (cursor : Option ℕ) (before steps : ℕ) → Sifting s old now cursor before steps → steps ≤ before + entries_in old (old.listed s.members)
  looks_within old now cursor before steps so =
      let f : ℕ → ℕ = λ q. length (old.entries q) in
      omega (arith, so.looks, so.sums f, ap (sum_by f) so.at.parts, sum_by-append f so.front so.back)
