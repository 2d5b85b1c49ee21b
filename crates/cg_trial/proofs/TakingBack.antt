-- Taking back: a target with number 0 gets one and, if it was set aside, moves to the end of the list.
use Rattle.std.proofs.Common.{◌≡◌, ◌≢◌, refl, sym, ◌∙◌, ap, subst, replicate, ℕ, ◌+◌, ◌*◌, ◌≤◌, true, false, cond, ◌⊎◌, inl, inr, List, [], ◌∷◌, ◌++◌, length, take, drop, get_or, arith, append_assoc, length-append, ◌<◌}
use Rattle.std.proofs.lemmas.Bool.{eqb-true, eq-eqb, ne_eqb}
use Rattle.std.proofs.Math.Seq.{take-length, take-add}
use Rattle.std.proofs.lemmas.List.{append-nil, take-append-drop, take_more, get_or-drop}
use Rattle.std.proofs.lemmas.List.Sums.{sum_by_push, sum_by-cons, count_by-le-length}
use Rattle.std.specs.Prelude.{◌==◌, ◌^◌, sum_by}
use Rattle.cg_value.specs.declared.Place.{Place}
use Rattle.cg_value.specs.declared.Entry.{Entry}
use Rattle.cg_graph.specs.Member.{Includes}
use Rattle.cg_graph.specs.Holdings.{occurrences}
use Rattle.cg_graph.specs.Places.{without_serial}
use Rattle.cg_trial.specs.declared.subtraction.Search.{Search}
use Rattle.cg_trial.specs.View.{View, Numbered, Moved, IsSameButNumbers}
use Rattle.cg_graph.specs.Value.{references}
use Rattle.cg_trial.specs.Sift.{Woken, HasFewMembers, IsFirstZero, IsMember, both, is_zero, zeros, zeros_at}
use Rattle.cg_graph.proofs.Members.{either, cases_of, Includes-append_cases, Includes-append_left, Includes-append_right}
use Rattle.cg_trial.proofs.Lists.{occurs, occurs_in, always_that, none_or_some, sum_by-without, sum_by-parts, without-absent, Includes-without}
use Rattle.cg_trial.proofs.CountBounds.{sum_by-same}
use Rattle.cg_trial.proofs.Passes.{list_same, same_itself, same_more, numbered_here, numbered_there, bit, zero_or}
use Rattle.cg_kind.specs.Calls.{next_entries}
use Rattle.cg_kind.proofs.References.{next_within, references_next, references-append}
use Rattle.cg_trial.proofs.Entries.{next_same}

-- a member with number 0 makes the count at least 1
pub zero_counts : (v : View) (xs : List ℕ) (q : ℕ) → Includes xs q → v.number q ≡ 0 → 1 ≤ sum_by (is_zero v) xs
zero_counts v xs q here is =
    let one : occurrences q xs * is_zero v q ≡ occurrences q xs * 1 = ap (λ n. occurrences q xs * cond (n == 0) 1 0) is in
    omega (arith, sum_by-without (is_zero v) q xs, occurs xs q here, one)

pub few_zeros : (v : View) (xs : List ℕ) → sum_by (is_zero v) xs ≤ length xs
few_zeros v xs = count_by-le-length (λ q. v.number q == 0) xs

-- if the count of number 0 is the length, all have it
pub all_zero : (v : View) (xs : List ℕ) → length xs ≤ sum_by (is_zero v) xs → (q : ℕ) → Includes xs q → v.number q ≡ 0
all_zero v [] full q h = absurd h
all_zero v (x ∷ xs) full q h = go (cases_of (v.number x == 0)) h (λ more k. all_zero v xs more q k)
  where
    go : (v.number x == 0 ≡ true) ⊎ (v.number x == 0 ≡ false) → (x ≡ q) ⊎ Includes xs q → (length xs ≤ sum_by (is_zero v) xs → Includes xs q → v.number q ≡ 0) → v.number q ≡ 0
    go (inl e) (inl i) rec = ap v.number (sym i) ∙ eqb-true (v.number x) 0 e
    go (inl e) (inr k) rec = let one : is_zero v x ≡ 1 = ap (λ b. cond b 1 0) e in rec (omega (arith, full, one, sum_by-cons (is_zero v) x xs)) k
    go (inr e) h rec = let none : is_zero v x ≡ 0 = ap (λ b. cond b 1 0) e in absurd (omega (arith, full, none, sum_by-cons (is_zero v) x xs, few_zeros v xs))

-- those with numbers, and one more
pub awake_next : (v : View) (xs : List ℕ) (at : ℕ) → at < length xs → v.number (get_or xs at 0) ≢ 0 → ((p : ℕ) → Includes (take at xs) p → v.number p ≢ 0)
    → (p : ℕ) → Includes (take (at + 1) xs) p → v.number p ≢ 0
awake_next v xs at within awake before p h =
    either (Includes-append_cases (take at xs) (replicate 1 (get_or xs at 0)) p (subst (λ (l : List ℕ). Includes l p) (take_more xs at 0 within) h))
    (λ i. before p i)
    (λ i. subst (λ q. v.number q ≢ 0) (always_that 1 (get_or xs at 0) p i) awake)

-- A member's number changes from above 0.
pub zeros_changed : (members : Place) (p n : ℕ) (a c : View) → Numbered p n a c → occurrences p (a.listed members) ≡ 1 → a.number p ≢ 0 → zeros_at members c ≡ zeros_at members a + cond (n == 0) 1 0
zeros_changed members p n a c numbered once above =
    let xs = a.listed members in
    let rest = sum_by-same (is_zero c) (is_zero a) (without_serial p xs) (λ q h. ap zero_or (numbered_there numbered q (ne_eqb q p (Includes-without p xs q h).1))) in
    let was = ap (λ k. k * is_zero a p) once in
    let now = ap (λ k. k * is_zero c p) once in
    let places = ap (sum_by (is_zero c)) (list_same members numbered.rest) in
    omega (arith, places, rest, was, now, sum_by-without (is_zero a) p xs, sum_by-without (is_zero c) p xs, ap zero_or (numbered_here numbered), ap bit (ne_eqb (a.number p) 0 above))

-- Few members stay few, and so their zeros fit a word.
pub few_same : (members : Place) (a b : View) → IsSameButNumbers a b → HasFewMembers members a → HasFewMembers members b
few_same members a b same few = subst (λ (xs : List ℕ). length xs < 2 ^ 64) (sym (list_same members same)) few

pub zeros_few : (members : Place) (a b : View) → IsSameButNumbers a b → HasFewMembers members a → zeros_at members b < 2 ^ 64
zeros_few members a b same few = omega (arith, few_same members a b same few, few_zeros b (b.listed members))

-- Taking back has reached entry `from`.
pub record Waking (s : Search) (o : ℕ) (old now : View) (from : ℕ) : Type 0 where
  pub within : from ≤ length (old.entries o)
  pub woken : Woken s (references (take from (old.entries o))) old now

module _ (s : Search) where
  -- A list whose sums are those of two others together has their members.
  pub member_of : (v : View) (q : ℕ) → 1 ≤ both s (λ x. cond (x == q) 1 0) v → IsMember s v q
  member_of v q some = either (none_or_some (occurrences q (v.listed s.members)))
      (λ none. inr (occurs_in (v.listed s.aside) q (omega (arith, some, none))))
      (λ here. inl (occurs_in (v.listed s.members) q here))

  pub member_counts : (v : View) (q : ℕ) → IsMember s v q → 1 ≤ both s (λ x. cond (x == q) 1 0) v
  member_counts v q (inl h) = omega (arith, occurs (v.listed s.members) q h)
  member_counts v q (inr h) = omega (arith, occurs (v.listed s.aside) q h)

  -- if the two lists have the sums of one, each object of theirs was in that one
  pub member_within : (a b : View) → ((f : ℕ → ℕ) → both s f b ≡ sum_by f (a.listed s.members)) → (q : ℕ) → IsMember s b q → Includes (a.listed s.members) q
  member_within a b sums q h = occurs_in (a.listed s.members) q (omega (arith, sums (λ x. cond (x == q) 1 0), member_counts b q h))

  pub member_kept : (a b : View) → ((f : ℕ → ℕ) → both s f b ≡ both s f a) → (q : ℕ) → IsMember s a q → IsMember s b q
  member_kept a b sums q h = member_of b q (omega (arith, sums (λ x. cond (x == q) 1 0), member_counts a q h))

  -- if none has number 0, every member has a number above 0
  pub all_awake : (v : View) → zeros s v ≡ 0 → (q : ℕ) → IsMember s v q → v.number q ≢ 0
  all_awake v none q (inl h) is = absurd (omega (arith, none, zero_counts v (v.listed s.members) q h is))
  all_awake v none q (inr h) is = absurd (omega (arith, none, zero_counts v (v.listed s.aside) q h is))

  -- objects that have numbers
  pub woken_awake : (r : List ℕ) (v : View) → ((p : ℕ) → Includes r p → v.number p ≢ 0) → Woken s r v v
  woken_awake r v awake = record {
    same = same_itself v;
    others = λ q h k. refl;
    sums = λ f. refl;
    stays = λ p h. h;
    woken = λ p h k. awake p h;
    only = λ p h. inl h;
    asleep = λ h. h;
    more = [];
    longer = sym (append-nil (v.listed s.members));
    lighter = omega arith;
  }

  pub woken_none : (v : View) → Woken s [] v v
  woken_none v = woken_awake [] v (λ p h. absurd h)

  pub woken_more : (r t : List ℕ) (a b c : View) → Woken s r a b → Woken s t b c → Woken s (r ++ t) a c
  woken_more r t a b c first then = record {
    same = same_more first.same then.same;
    others = λ q h k. then.others q h k ∙ first.others q h k;
    sums = λ f. then.sums f ∙ first.sums f;
    stays = λ p h. then.stays p (first.stays p h);
    woken = λ p h k. either (Includes-append_cases r t p h) (λ i. then.stays p (first.woken p i k)) (λ i. then.woken p i (member_kept a b first.sums p k));
    only = λ p h. either (then.only p h) (λ k. either (first.only p k) (λ i. inl i) (λ i. inr (Includes-append_left r t p i))) (λ k. inr (Includes-append_right r t p k));
    asleep = λ h. then.asleep (first.asleep h);
    more = first.more ++ then.more;
    longer = then.longer ∙ ap (λ (xs : List ℕ). xs ++ then.more) first.longer ∙ append_assoc (a.listed s.members) first.more then.more;
    lighter = omega (arith, first.lighter, then.lighter, length-append first.more then.more);
  }

  -- those with numbers, and the next one
  pub woken_next : (xs : List ℕ) (from at : ℕ) (a b c : View) → Woken s (take from xs) a b → IsFirstZero b (drop from xs) at → Woken s (get_or xs (from + at) 0 ∷ [])
      b c → Woken s (take (from + (at + 1)) xs) a c
  woken_next xs from at a b c so first more =
      let rest = drop from xs in
      let parts : take (from + (at + 1)) xs ≡ take from xs ++ (take at rest ++ get_or xs (from + at) 0 ∷ []) =
      take-add from (at + 1) xs ∙ ap (λ (l : List ℕ). take from xs ++ l) (take_more rest at 0 first.within ∙ ap (λ o. take at rest ++ o ∷ []) (get_or-drop from xs at 0)) in
      subst (λ (l : List ℕ). Woken s l a c) (sym parts) (woken_more _ _ a b c so (woken_more _ _ b b c (woken_awake (take at rest) b first.before) more))

  -- the rest have numbers
  pub woken_rest : (xs : List ℕ) (from : ℕ) (a b : View) → Woken s (take from xs) a b → ((p : ℕ) → Includes (drop from xs) p → b.number p ≢ 0) → Woken s xs a b
  woken_rest xs from a b so awake = subst (λ (l : List ℕ). Woken s l a b) (take-append-drop from xs) (woken_more _ _ a b b so (woken_awake (drop from xs) b awake))

  -- if none has number 0 any more, the others count as taken back too
  pub woken_over : (r t : List ℕ) (a b : View) → Woken s r a b → zeros s b ≡ 0 → ((p : ℕ) → Includes r p → Includes t p) → Woken s t a b
  woken_over r t a b so none within = record {
    same = so.same;
    others = so.others;
    sums = so.sums;
    stays = so.stays;
    woken = λ p h k. all_awake b none p (member_kept a b so.sums p k);
    only = λ p h. either (so.only p h) (λ i. inl i) (λ i. inr (within p i));
    asleep = so.asleep;
    more = so.more;
    longer = so.longer;
    lighter = so.lighter;
  }

  -- One target: its number was 0 and becomes 1.
  module _ (p : ℕ) (a c : View) (zero_was : a.number p ≡ 0) (numbers : (q : ℕ) → c.number q ≡ cond (q == p) 1 (a.number q)) where
    number_here : c.number p ≡ 1
    number_here = numbers p ∙ ap (λ b. cond b 1 (a.number p)) (eq-eqb p p refl)

    number_there : (q : ℕ) → q == p ≡ false → c.number q ≡ a.number q
    number_there q e = numbers q ∙ ap (λ b. cond b 1 (a.number q)) e

    apart : (q : ℕ) → q ≢ p → q == p ≡ false
    apart q h = either (cases_of (q == p)) (λ e. absurd (h (eqb-true q p e))) (λ e. e)

    stay_marked : (q : ℕ) → a.number q ≢ 0 → c.number q ≢ 0
    stay_marked q h = either (cases_of (q == p)) (λ e k. let i : q ≡ p = eqb-true q p e in let one : c.number q ≡ 1 = ap c.number i ∙ number_here
        in absurd (omega (arith, one, k))) (λ e k. h (sym (number_there q e) ∙ k))

    is_woken : (q : ℕ) → Includes (p ∷ []) q → c.number q ≢ 0
    is_woken q (inl i) k = let one : c.number q ≡ 1 = ap c.number (sym i) ∙ number_here in absurd (omega (arith, one, k))
    is_woken q (inr h) k = absurd h

    only_woken : (q : ℕ) → c.number q ≢ 0 → (a.number q ≢ 0) ⊎ Includes (p ∷ []) q
    only_woken q h = either (cases_of (q == p)) (λ e. inr (inl (sym (eqb-true q p e)))) (λ e. inl (λ k. h (number_there q e ∙ k)))

    -- an object with number 0 no longer has it
    term : (q : ℕ) → is_zero c q + cond (q == p) 1 0 ≡ is_zero a q
    term q = go (cases_of (q == p))
      where
        go : (q == p ≡ true) ⊎ (q == p ≡ false) → is_zero c q + cond (q == p) 1 0 ≡ is_zero a q
        go (inl e) =
            let i : q ≡ p = eqb-true q p e in
            let one : c.number q ≡ 1 = ap c.number i ∙ number_here in
            let none : a.number q ≡ 0 = ap a.number i ∙ zero_was in
            rw (one, none, e) refl
        go (inr e) = rw (number_there q e, e) (omega arith)

    fewer : both s (is_zero c) a + both s (λ q. cond (q == p) 1 0) a ≡ zeros s a
    fewer = omega (arith, sum_by-parts (is_zero c) (λ q. cond (q == p) 1 0) (is_zero a) term (a.listed s.members), sum_by-parts (is_zero c) (λ q. cond (q == p) 1 0) (is_zero a) term (a.listed s.aside))

    pub one_fewer : IsMember s a p → ((f : ℕ → ℕ) → both s f c ≡ both s f a) → zeros s c + 1 ≤ zeros s a
    one_fewer member sums = omega (arith, sums (is_zero c), fewer, member_counts a p member)

  sums_there : (p : ℕ) (a c : View) → Numbered p 1 a c → (f : ℕ → ℕ) → both s f c ≡ both s f a
  sums_there p a c numbered f = ap (λ (l : Place → List ℕ). sum_by f (l s.members) + sum_by f (l s.aside)) numbered.rest.places

  -- A target that is not set aside.
  pub woken_there : (p : ℕ) (a c : View) → a.number p ≡ 0 → occurrences p (a.listed s.aside) ≡ 0 → Numbered p 1 a c → Woken s (p ∷ []) a c
  woken_there p a c zero_was only_there numbered = record {
    same = numbered.rest.same;
    others = λ q h k. places q;
    sums = sums_there p a c numbered;
    stays = stay_marked p a c zero_was numbered.numbers;
    woken = λ q h k. is_woken p a c zero_was numbered.numbers q h;
    only = only_woken p a c zero_was numbered.numbers;
    asleep = λ h q k.
        let was = subst (λ (xs : List ℕ). Includes xs q) (places s.aside) k in
        number_there p a c zero_was numbered.numbers q (apart p a c zero_was numbered.numbers q (λ e.
        let some = occurs (a.listed s.aside) q was in let same : occurrences q (a.listed s.aside) ≡ occurrences p (a.listed s.aside) =
        ap (λ i. occurrences i (a.listed s.aside)) e in absurd (omega (arith, some, same, only_there)))) ∙ h q was;
    more = [];
    longer = places s.members ∙ sym (append-nil (a.listed s.members));
    lighter = omega (arith, sums_there p a c numbered (is_zero c), fewer p a c zero_was numbered.numbers);
  }
    where
      places : (q : Place) → c.listed q ≡ a.listed q
      places q = ap (λ (l : Place → List ℕ). l q) numbered.rest.places

  -- A target that was set aside: it moves to the end before its number becomes 1.
  module _ (differ : s.members ≢ s.aside) (p : ℕ) (a m c : View) (zero_was : a.number p ≡ 0) (once : occurrences p (a.listed s.aside) ≡ 1) (alone : (q : Place) → q ≢ s.aside
      → occurrences p (a.listed q) ≡ 0) (moved : Moved p s.members a m) (numbered : Numbered p 1 m c) where
    numbers_then : (q : ℕ) → c.number q ≡ cond (q == p) 1 (a.number q)
    numbers_then q = numbered.numbers q ∙ ap (λ (n : ℕ → ℕ). cond (q == p) 1 (n q)) moved.numbers

    places : (q : Place) → c.listed q ≡ m.listed q
    places q = ap (λ (l : Place → List ℕ). l q) numbered.rest.places

    last : c.listed s.members ≡ a.listed s.members ++ p ∷ []
    last = places s.members ∙ moved.last ∙ ap (λ (xs : List ℕ). xs ++ p ∷ []) (without-absent p (a.listed s.members) (alone s.members differ))

    left : c.listed s.aside ≡ without_serial p (a.listed s.aside)
    left = places s.aside ∙ moved.others s.aside (λ e. differ (sym e))

    same_sums : (f : ℕ → ℕ) → both s f c ≡ both s f a
    same_sums f =
        let here : occurrences p (a.listed s.aside) * f p ≡ 1 * f p = ap (λ n. n * f p) once in
        omega (arith, ap (sum_by f) last, ap (sum_by f) left, sum_by_push f (a.listed s.members) p, sum_by-without f p (a.listed s.aside), here)

    pub woken_back : Woken s (p ∷ []) a c
    woken_back = record {
      same = same_more moved.same numbered.rest.same;
      others = λ q h k. places q ∙ moved.others q h ∙ without-absent p (a.listed q) (alone q k);
      sums = same_sums;
      stays = stay_marked p a c zero_was numbers_then;
      woken = λ q h k. is_woken p a c zero_was numbers_then q h;
      only = only_woken p a c zero_was numbers_then;
      asleep = λ h q k. let found = Includes-without p (a.listed s.aside) q (subst (λ (xs : List ℕ). Includes xs q) left k) in
          number_there p a c zero_was numbers_then q (apart p a c zero_was numbers_then q found.1) ∙ h q found.0;
      more = p ∷ [];
      longer = last;
      lighter = omega (arith, same_sums (is_zero c), fewer p a c zero_was numbers_then, once, alone s.members differ);
    }

    pub back_fewer : zeros s c + 1 ≤ zeros s a
    back_fewer = one_fewer p a c zero_was numbers_then (inr (occurs_in (a.listed s.aside) p (omega (arith, once)))) same_sums

  pub there_fewer : (p : ℕ) (a c : View) → a.number p ≡ 0 → Includes (a.listed s.members) p → Numbered p 1 a c → zeros s c + 1 ≤ zeros s a
  there_fewer p a c zero_was here numbered = one_fewer p a c zero_was numbered.numbers (inl here) (sums_there p a c numbered)

  pub waking_first : (o : ℕ) (v : View) → Waking s o v v 0
  waking_first o v = record { within = omega arith; woken = woken_none v }

  pub waking_more : (o : ℕ) (old mid new : View) (from next : ℕ) → Waking s o old mid from → next ≡ from + length (next_entries (mid.entries o) from)
      → Woken s (references (next_entries (mid.entries o) from)) mid new → Waking s o old new next
  waking_more o old mid new from next so is more =
      let es = old.entries o in
      let same = next_same old mid o from so.woken.same in
      let there : next ≡ from + length (next_entries es from) = is ∙ ap (λ (ns : List Entry). from + length ns) same in
      record {
        within = omega (arith, there, next_within es from so.within);
        woken = subst (λ (r : List ℕ). Woken s r old new) (sym (ap (λ n. references (take n es)) there ∙ references_next es from))
            (woken_more _ _ old mid new so.woken (subst (λ (ns : List Entry). Woken s (references ns) mid new) same more));
      }

  pub waking_all : (o : ℕ) (old now : View) (i : ℕ) → i ≡ length (old.entries o) → Waking s o old now i → Woken s (references (old.entries o)) old now
  waking_all o old now i is so = subst (λ (es : List Entry). Woken s (references es) old now) (ap (λ n. take n (old.entries o)) is ∙ take-length (old.entries o)) so.woken

  -- if none is left to take back, all are
  pub waking_over : (o : ℕ) (old now : View) (i : ℕ) → zeros s now ≡ 0 → Waking s o old now i → Woken s (references (old.entries o)) old now
  waking_over o old now i none so = woken_over (references (take i (old.entries o))) (references (old.entries o)) old now so.woken none
      (λ p h. subst (λ (xs : List ℕ). Includes xs p) (sym (references-append (take i (old.entries o)) (drop i (old.entries o))) ∙ ap references (take-append-drop i (old.entries o)))
      (Includes-append_left (references (take i (old.entries o))) (references (drop i (old.entries o))) p h))
