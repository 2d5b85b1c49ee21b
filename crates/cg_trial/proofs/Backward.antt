-- Taking back from the last object to the first, and from the last entries to the first.
use Rattle.std.proofs.Common.{◌≡◌, ◌≢◌, sym, ◌∙◌, ap, subst, ℕ, ◌+◌, ◌-◌, ◌*◌, ◌/◌, ◌<◌, ◌≤◌, ◌⊎◌, inl, inr, List, [], ◌∷◌, ◌++◌, length, take, drop, get_or, arith}
use Rattle.std.proofs.lemmas.List.{take-append-drop, drop_more, drop_all, drop-append-le, drop-drop, length-take, length-drop, take_all}
use Rattle.cg_kind.specs.Calls.{next_entries}
use Rattle.cg_kind.specs.declared.notes.TheConstants.{AT_ONCE}
use Rattle.cg_kind.proofs.References.{references-append}
use Rattle.cg_value.specs.declared.Entry.{Entry}
use Rattle.cg_graph.specs.Member.{Includes}
use Rattle.cg_graph.specs.Value.{references}
use Rattle.cg_graph.proofs.Members.{either, Includes-append_cases, Includes-append_left, Includes-append_right}
use Rattle.cg_trial.specs.declared.subtraction.Search.{Search}
use Rattle.cg_trial.specs.View.{View}
use Rattle.cg_trial.specs.Sift.{Woken, IsLastZero, zeros}
use Rattle.cg_trial.proofs.Entries.{next_same, rest_of}
use Rattle.cg_trial.proofs.TakingBack.{woken_more, woken_none, woken_over}

-- those from a place on, where there is one
pub drop_here : (xs : List ℕ) (end : ℕ) → 0 < end → end ≤ length xs → drop (end - 1) xs ≡ get_or xs (end - 1) 0 ∷ drop end xs
drop_here xs end some within =
    let after : end - 1 + 1 ≡ end = omega (arith, some) in
    let before : end - 1 < length xs = omega (arith, some, within) in
    drop_more xs (end - 1) 0 before ∙ ap (λ i. get_or xs (end - 1) 0 ∷ drop i xs) after

-- those that have numbers, and one more in front of them that has one
pub awake_before : (v : View) (xs : List ℕ) (end : ℕ) → 0 < end → end ≤ length xs → v.number (get_or xs (end - 1) 0) ≢ 0 → ((p : ℕ) → Includes (drop end xs) p → v.number p ≢ 0)
    → (p : ℕ) → Includes (drop (end - 1) xs) p → v.number p ≢ 0
awake_before v xs end some within awake behind p h = go (subst (λ (l : List ℕ). Includes l p) (drop_here xs end some within) h)
  where
    go : Includes (get_or xs (end - 1) 0 ∷ drop end xs) p → v.number p ≢ 0
    go (inl i) = subst (λ q. v.number q ≢ 0) i awake
    go (inr k) = behind p k

-- none stands behind the last
pub none_behind : (v : View) (xs : List ℕ) (p : ℕ) → Includes (drop (length xs) xs) p → v.number p ≢ 0
none_behind v xs p h = absurd (subst (λ (l : List ℕ). Includes l p) (drop_all (length xs) xs (omega arith)) h)

-- those from a place on are those up to an end, and those from there on
pub drop_parts : (xs : List ℕ) (at end : ℕ) → at ≤ end → end ≤ length xs → drop at xs ≡ drop at (take end xs) ++ drop end xs
drop_parts xs at end before within =
    ap (λ (l : List ℕ). drop at l) (sym (take-append-drop end xs))
    ∙ drop-append-le at (take end xs) (drop end xs) (omega (arith, before, within, length-take end xs))

pub front_of : (xs : List ℕ) (i p : ℕ) → Includes (take i xs) p → Includes xs p
front_of xs i p h = subst (λ (l : List ℕ). Includes l p) (take-append-drop i xs) (Includes-append_left (take i xs) (drop i xs) p h)

-- Taking back has come from the last entry down to a block, and looked at all of them.
pub record WakingBack (s : Search) (o : ℕ) (old now : View) (blocks before steps : ℕ) : Type 0 where
  pub within : blocks * AT_ONCE ≤ length (old.entries o) + AT_ONCE
  pub woken : Woken s (references (drop (blocks * AT_ONCE) (old.entries o))) old now
  pub looks : steps ≡ before + (length (old.entries o) - blocks * AT_ONCE)

-- one block more than go into a number
pub blocks_within : (n length : ℕ) → n ≡ length → (n / AT_ONCE + 1) * AT_ONCE ≤ length + AT_ONCE
blocks_within n length is = omega (arith, is)

pub blocks_enough : (n length : ℕ) → n ≡ length → length ≤ (n / AT_ONCE + 1) * AT_ONCE
blocks_enough n length is = omega (arith, is)

-- a place and the block behind it
drop_block : (es : List Entry) (from : ℕ) → drop from es ≡ next_entries es from ++ drop (from + AT_ONCE) es
drop_block es from = sym (take-append-drop AT_ONCE (drop from es)) ∙ ap (λ (l : List Entry). next_entries es from ++ l) (drop-drop AT_ONCE from es)

module _ (s : Search) where
  -- Objects are taken back together with others that have numbers already.
  pub woken_as : (r t : List ℕ) (a b : View) → Woken s r a b → ((p : ℕ) → Includes r p → Includes t p) → ((p : ℕ) → Includes t p → Includes r p ⊎ (b.number p ≢ 0)) → Woken s t a b
  woken_as r t a b so within awake = record {
    same = so.same;
    others = so.others;
    sums = so.sums;
    stays = so.stays;
    woken = λ p h k. either (awake p h) (λ i. so.woken p i k) (λ n. n);
    only = λ p h. either (so.only p h) (λ i. inl i) (λ i. inr (within p i));
    asleep = so.asleep;
    more = so.more;
    longer = so.longer;
    lighter = so.lighter;
  }

  -- those that are taken back, and the last one in front of them that is still to be
  pub woken_before : (xs : List ℕ) (end at : ℕ) (a b c : View) → end ≤ length xs → Woken s (drop end xs) a b → IsLastZero b (take end xs) at → Woken s (get_or xs at 0 ∷ []) b c → Woken s (drop at xs) a c
  woken_before xs end at a b c within so last more =
      woken_as (drop end xs ++ get_or xs at 0 ∷ []) (drop at xs) a c (woken_more s (drop end xs) (get_or xs at 0 ∷ []) a b c so more) inside outside
    where
      here : drop at xs ≡ get_or xs at 0 ∷ drop (at + 1) xs
      here = drop_more xs at 0 (omega (arith, last.within, length-take end xs))

      rest : drop (at + 1) xs ≡ drop (at + 1) (take end xs) ++ drop end xs
      rest = drop_parts xs (at + 1) end (omega (arith, last.within, length-take end xs)) within

      inside : (p : ℕ) → Includes (drop end xs ++ get_or xs at 0 ∷ []) p → Includes (drop at xs) p
      inside p h = subst (λ (l : List ℕ). Includes l p) (sym here) (either (Includes-append_cases (drop end xs) (get_or xs at 0 ∷ []) p h)
          (λ i. inr (subst (λ (l : List ℕ). Includes l p) (sym rest) (Includes-append_right (drop (at + 1) (take end xs)) (drop end xs) p i)))
          (λ i. either i (λ e. inl e) (λ none. absurd none)))

      outside : (p : ℕ) → Includes (drop at xs) p → Includes (drop end xs ++ get_or xs at 0 ∷ []) p ⊎ (c.number p ≢ 0)
      outside p h = either (subst (λ (l : List ℕ). Includes l p) here h)
          (λ e. inl (Includes-append_right (drop end xs) (get_or xs at 0 ∷ []) p (inl e)))
          (λ i. either (Includes-append_cases (drop (at + 1) (take end xs)) (drop end xs) p (subst (λ (l : List ℕ). Includes l p) rest i))
          (λ k. inr (more.stays p (last.behind p k)))
          (λ k. inl (Includes-append_left (drop end xs) (get_or xs at 0 ∷ []) p k)))

  -- none of those in front is to be taken back any more
  pub woken_front : (xs : List ℕ) (end : ℕ) (a b : View) → Woken s (drop end xs) a b → ((p : ℕ) → Includes (take end xs) p → b.number p ≢ 0) → Woken s xs a b
  woken_front xs end a b so awake =
      woken_as (drop end xs) xs a b so (λ p h. rest_of xs end p h)
      (λ p h. either (Includes-append_cases (take end xs) (drop end xs) p (subst (λ (l : List ℕ). Includes l p) (sym (take-append-drop end xs)) h))
      (λ i. inr (awake p i))
      (λ i. inl i))

  -- it begins behind the last entry
  pub waking_back-first : (o : ℕ) (v : View) (blocks steps : ℕ) → blocks * AT_ONCE ≤ length (v.entries o) + AT_ONCE → length (v.entries o) ≤ blocks * AT_ONCE → WakingBack s o v v blocks steps steps
  waking_back-first o v blocks steps within behind = record {
    within = within;
    woken = subst (λ (l : List Entry). Woken s (references l) v v) (sym (drop_all (blocks * AT_ONCE) (v.entries o) behind)) (woken_none s v);
    looks = omega (arith, behind);
  }

  pub waking_back-more : (o : ℕ) (old mid new : View) (blocks before steps later : ℕ) → WakingBack s o old mid (blocks + 1) before steps
      → later ≡ steps + length (next_entries (mid.entries o) (blocks * AT_ONCE)) → Woken s (references (next_entries (mid.entries o) (blocks * AT_ONCE))) mid new → WakingBack s o old new blocks before later
  waking_back-more o old mid new blocks before steps later so looks more = record {
    within = omega (arith, so.within, next_place);
    woken = woken_as (behind ++ block) (references (drop from es)) old new
        (woken_more s behind block old mid new (subst (λ i. Woken s (references (drop i es)) old mid) next_place so.woken) (subst (λ (l : List Entry). Woken s (references l) mid new) same more))
        (λ p h. subst (λ (l : List ℕ). Includes l p) (sym parts) (either (Includes-append_cases behind block p h) (λ i. Includes-append_right block behind p i)
        (λ i. Includes-append_left block behind p i)))
        (λ p h. inl (either (Includes-append_cases block behind p (subst (λ (l : List ℕ). Includes l p) parts h)) (λ i. Includes-append_right behind block p i)
        (λ i. Includes-append_left behind block p i)));
    looks =
        let e : length (next_entries (mid.entries o) from) ≡ length (next_entries es from) = ap (λ (l : List Entry). length l) same in
        omega (arith, so.looks, so.within, looks, next_place, e, length-take AT_ONCE (drop from es), length-drop from es);
  }
    where
      es : List Entry
      es = old.entries o

      from : ℕ
      from = blocks * AT_ONCE

      block : List ℕ
      block = references (next_entries es from)

      behind : List ℕ
      behind = references (drop (from + AT_ONCE) es)

      next_place : (blocks + 1) * AT_ONCE ≡ from + AT_ONCE
      next_place = omega arith

      same : next_entries (mid.entries o) from ≡ next_entries es from
      same = next_same old mid o from so.woken.same

      parts : references (drop from es) ≡ block ++ behind
      parts = ap references (drop_block es from) ∙ references-append (next_entries es from) (drop (from + AT_ONCE) es)

  -- it has come to the second block
  pub waking_back-behind : (o : ℕ) (old now : View) (blocks before steps : ℕ) → blocks ≡ 1 → WakingBack s o old now blocks before steps → Woken s (references (drop AT_ONCE (old.entries o))) old now
  waking_back-behind o old now blocks before steps is so = subst (λ n. Woken s (references (drop (n * AT_ONCE) (old.entries o))) old now) is so.woken

  -- with none left to be taken back, all are
  pub waking_back-over : (o : ℕ) (old now : View) (blocks before steps : ℕ) → zeros s now ≡ 0 → 1 ≤ blocks → WakingBack s o old now blocks before steps → Woken s (references (drop AT_ONCE (old.entries o))) old now
  waking_back-over o old now blocks before steps none some so = woken_over s (references (drop (blocks * AT_ONCE) (old.entries o))) (references rest) old now so.woken none
      (λ p h. subst (λ (xs : List ℕ). Includes xs p) (sym (references-append (take k rest) (drop k rest)) ∙ ap references (take-append-drop k rest))
      (Includes-append_right (references (take k rest)) (references (drop k rest)) p (subst (λ (es : List Entry). Includes (references es) p) (sym there) h)))
    where
      rest : List Entry
      rest = drop AT_ONCE (old.entries o)

      k : ℕ
      k = blocks * AT_ONCE - AT_ONCE

      place : AT_ONCE + k ≡ blocks * AT_ONCE
      place = omega (arith, some)

      there : drop k rest ≡ drop (blocks * AT_ONCE) (old.entries o)
      there = drop-drop k AT_ONCE (old.entries o) ∙ ap (λ n. drop n (old.entries o)) place

  -- the first block is taken back behind all others
  pub waking_back-first_block : (o : ℕ) (old mid new : View) → Woken s (references (drop AT_ONCE (old.entries o))) old mid → Woken s (references (next_entries (old.entries o) 0)) mid new → Woken s (references (old.entries o)) old new
  waking_back-first_block o old mid new so more =
      woken_as (behind ++ block) (references es) old new (woken_more s behind block old mid new so more)
      (λ p h. subst (λ (l : List ℕ). Includes l p) (sym parts) (either (Includes-append_cases behind block p h) (λ i. Includes-append_right block behind p i) (λ i. Includes-append_left block behind p i)))
      (λ p h. inl (either (Includes-append_cases block behind p (subst (λ (l : List ℕ). Includes l p) parts h)) (λ i. Includes-append_right behind block p i) (λ i. Includes-append_left behind block p i)))
    where
      es : List Entry
      es = old.entries o

      block : List ℕ
      block = references (next_entries es 0)

      behind : List ℕ
      behind = references (drop AT_ONCE es)

      parts : references es ≡ block ++ behind
      parts = ap references (drop_block es 0) ∙ references-append (next_entries es 0) (drop AT_ONCE es)

  -- one block alone
  pub waking_back-alone : (o : ℕ) (old new : View) → length (next_entries (old.entries o) 0) < AT_ONCE → Woken s (references (next_entries (old.entries o) 0)) old new → Woken s (references (old.entries o)) old new
  waking_back-alone o old new few so =
      subst (λ (es : List Entry). Woken s (references es) old new) (take_all AT_ONCE (old.entries o) (omega (arith, few, length-take AT_ONCE (old.entries o)))) so
