-- The passes over the members of a place: copying the counts, and subtracting.
use Rattle.std.proofs.Common.{◌≡◌, refl, sym, ◌∙◌, ap, subst, ℕ, ◌+◌, ◌<◌, ◌≤◌, Bool, true, false, cond, ◌⊎◌, inl, inr, List, [], ◌∷◌, ◌++◌, length, Option, Some, None, IsTrue, arith, append_assoc, length-append}
use Rattle.std.proofs.lemmas.List.{append-nil}
use Rattle.std.proofs.lemmas.List.Sums.{sum_by_push, count_by-le-length}
use Rattle.std.proofs.lemmas.Bool.{eqb-true, eq-eqb}
use Rattle.std.specs.Prelude.{◌==◌, sum_by}
use Rattle.cg_value.specs.declared.Place.{Place}
use Rattle.cg_value.specs.declared.Entry.{Entry}
use Rattle.cg_graph.specs.Member.{Includes}
use Rattle.cg_graph.specs.Holdings.{occurrences}
use Rattle.cg_trial.specs.View.{IsNext, head_of, View, IsSame, IsSameButNumbers, Numbered, IsReadyView}
use Rattle.cg_trial.specs.Sift.{is_zero, zeros_at}
use Rattle.cg_graph.specs.Value.{references}
use Rattle.cg_graph.proofs.Members.{cases_of, Includes-append_right, Includes-append_cases}
use Rattle.cg_trial.proofs.CountBounds.{sum_by-same}
use Rattle.cg_trial.proofs.Lists.{occurs, occurs_in, IsAt, head_is, ahead, ahead_is}

pub list_same : {old new : View} (p : Place) → IsSameButNumbers old new → new.listed p ≡ old.listed p
list_same p same = ap (λ (l : Place → List ℕ). l p) same.places

pub same_more : {old mid new : View} → IsSame old mid → IsSame mid new → IsSame old new
same_more a b = record {
  lives = b.lives ∙ a.lives;
  hold = b.hold ∙ a.hold;
  degrees = b.degrees ∙ a.degrees;
  bares = b.bares ∙ a.bares;
  besides = b.besides ∙ a.besides;
}

pub same_itself : (v : View) → IsSame v v
same_itself v = record { lives = refl; hold = refl; degrees = refl; bares = refl; besides = refl }

pub but_numbers_more : {old mid new : View} → IsSameButNumbers old mid → IsSameButNumbers mid new → IsSameButNumbers old new
but_numbers_more a b = record { same = same_more a.same b.same; places = b.places ∙ a.places }

pub but_numbers_itself : (v : View) → IsSameButNumbers v v
but_numbers_itself v = record { same = same_itself v; places = refl }

pub turn_shorter : (xs : List ℕ) (o : ℕ) (cursor : Option ℕ) (front back rest : List ℕ) → ((p : ℕ) → occurrences p xs ≤ 1) → IsAt xs (Some o) front back → back
    ≡ o ∷ rest → IsAt xs cursor (front ++ o ∷ []) rest
    → length (ahead cursor xs) < length (ahead (Some o) xs)
turn_shorter xs o cursor front back rest once at is then =
    rw (ahead_is xs (Some o) front back once at, ahead_is xs cursor (front ++ o ∷ []) rest once then, is) (omega arith)

-- 1 for true, and 1 for 0
abbrev pub bit : Bool → ℕ
bit b = cond b 1 0

abbrev pub zero_or : ℕ → ℕ
zero_or n = bit (n == 0)

-- 1 for an object that nothing holds, else 0
abbrev pub is_unheld : View → ℕ → ℕ
is_unheld v o = cond (v.degree o == 0) 1 0

-- Copying has reached the cursor: the numbers before it are the counts, and so many are 0.
pub record Copying (members : Place) (old now : View) (cursor : Option ℕ) (count : ℕ) : Type 0 where
  pub front : List ℕ
  pub back : List ℕ
  pub at : IsAt (old.listed members) cursor front back
  pub rest : IsSameButNumbers old now
  pub copied : (p : ℕ) → Includes front p → now.number p ≡ old.degree p
  pub counted : count ≡ sum_by (is_unheld old) front

-- the number of the object itself, and of another
pub numbered_here : {object n : ℕ} {old new : View} → Numbered object n old new → new.number object ≡ n
numbered_here {object} {n} {old} d = d.numbers object ∙ ap (λ b. cond b n (old.number object)) (eq-eqb object object refl)

pub numbered_there : {object n : ℕ} {old new : View} → Numbered object n old new → (p : ℕ) → p == object ≡ false → new.number p ≡ old.number p
numbered_there {object} {n} {old} d p e = d.numbers p ∙ ap (λ b. cond b n (old.number p)) e

-- at the end nothing remains
pub at_end : (xs : List ℕ) (front back : List ℕ) → IsAt xs None front back → xs ≡ front
at_end xs front [] at = at.parts ∙ append-nil front
at_end xs front (x ∷ back) at = absurd (let e : None ≡ Some x = at.at in cc)

-- the object at the cursor is in the list
pub stands : (xs : List ℕ) (o : ℕ) (front back : List ℕ) → IsAt xs (Some o) front back → Includes xs o
stands xs o front back at =
    let head = head_is back o at.at in
    let here : xs ≡ front ++ o ∷ head.0 = at.parts ∙ ap (λ (b : List ℕ). front ++ b) head.1 in
    subst (λ (ys : List ℕ). Includes ys o) (sym here) (Includes-append_right front (o ∷ head.0) o (inl refl))

module _ (members : Place) where
  -- One step of a walk: the object's position, and the cursor after it.
  pub turn_of : (v : View) (xs : List ℕ) (o : ℕ) (cursor : Option ℕ) (front back : List ℕ) → v.listed members ≡ xs → IsAt xs (Some o) front back → IsNext v o cursor
      → (rest : List ℕ) × (back ≡ o ∷ rest) × (xs ≡ front ++ o ∷ rest) × IsAt xs cursor (front ++ o ∷ []) rest
  turn_of v xs o cursor front back same at next =
      let head = head_is back o at.at in
      let here : xs ≡ front ++ o ∷ head.0 = at.parts ∙ ap (λ (b : List ℕ). front ++ b) head.1 in
      (head.0, head.1, here, record { parts = here ∙ sym (append_assoc front (o ∷ []) head.0); at = next members front head.0 (same ∙ here) })

  pub copying_first : (v : View) (cursor : Option ℕ) → cursor ≡ head_of (v.listed members) → Copying members v v cursor 0
  copying_first v cursor is = record { front = []; back = v.listed members; at = record { parts = refl; at = is }; rest = but_numbers_itself v; copied = λ p h. absurd h; counted = refl }

  pub copying_more : (old mid new : View) (o n count then : ℕ) (cursor : Option ℕ) → Copying members old mid (Some o) count → n ≡ mid.degree o → Numbered o n mid new → IsNext new o cursor
      → then ≡ count + cond (n == 0) 1 0 → Copying members old new cursor then
  copying_more old mid new o n count then cursor so is numbered next counts =
      let rest = but_numbers_more so.rest numbered.rest in
      let turn = turn_of new (old.listed members) o cursor so.front so.back (list_same members rest) so.at next in
      record {
        front = so.front ++ o ∷ [];
        back = turn.0;
        at = turn.3;
        rest = rest;
        copied = λ p h. go p (cases_of (p == o)) (Includes-append_cases so.front (o ∷ []) p h);
        counted = omega (arith, counts, so.counted, sum_by_push (is_unheld old) so.front o, ap zero_or (is ∙ ap (λ (d : ℕ → ℕ). d o) so.rest.same.degrees));
      }
    where
      at_object : (p : ℕ) → p ≡ o → new.number p ≡ old.degree p
      at_object p e = subst (λ q. new.number q ≡ old.degree q) (sym e) (numbered_here numbered ∙ is ∙ ap (λ (d : ℕ → ℕ). d o) so.rest.same.degrees)

      go : (p : ℕ) → (p == o ≡ true) ⊎ (p == o ≡ false) → Includes so.front p ⊎ Includes (o ∷ []) p → new.number p ≡ old.degree p
      go p (inl e) h = at_object p (eqb-true p o e)
      go p (inr e) (inl h) = numbered_there numbered p e ∙ so.copied p h
      go p (inr e) (inr (inl i)) = at_object p (sym i)
      go p (inr e) (inr (inr k)) = absurd k

  -- A step moves the cursor on by one.
  pub cursor_shorter : (old mid new : View) (o : ℕ) (was cursor : Option ℕ) (front back : List ℕ) → IsReadyView members old → IsAt (old.listed members) (Some o) front back → was ≡ Some o
      → IsSameButNumbers old mid → IsSameButNumbers old new → IsNext new o cursor → length (ahead cursor (new.listed members)) < length (ahead was (mid.listed members))
  cursor_shorter old mid new o was cursor front back ready at is before after next =
      let turn = turn_of new (old.listed members) o cursor front back (list_same members after) at next in
      rw (list_same members after, list_same members before, is) (turn_shorter (old.listed members) o cursor front back turn.0 ready.once at turn.1 turn.3)

  pub stands_at : (old mid : View) (o : ℕ) (front back : List ℕ) → IsAt (old.listed members) (Some o) front back → IsSameButNumbers old mid → Includes (mid.listed members) o
  stands_at old mid o front back at rest = subst (λ (xs : List ℕ). Includes xs o) (sym (list_same members rest)) (stands _ o front back at)

  pub alive_at : (old mid : View) (o : ℕ) (front back : List ℕ) → IsReadyView members old → IsAt (old.listed members) (Some o) front back → IsSame old mid → IsTrue (mid.live o)
  alive_at old mid o front back ready at same = subst (λ (l : ℕ → Bool). IsTrue (l o)) (sym same.lives) (ready.alive o (stands _ o front back at))

  pub copied_all : (old now : View) (count : ℕ) → Copying members old now None count → (o : ℕ) → Includes (old.listed members) o → now.number o ≡ old.degree o
  copied_all old now count so o h = so.copied o (subst (λ (xs : List ℕ). Includes xs o) (at_end _ _ _ so.at) h)

  pub copying_at : (old mid : View) (cursor : Option ℕ) (k : Option ℕ) (count : ℕ) → Copying members old mid cursor count → cursor ≡ k → Copying members old mid k count
  copying_at old mid cursor k count so is = subst (λ (k : Option ℕ). Copying members old mid k count) is so

  -- one more is at most the number of members
  pub copying_few : (old mid : View) (o count : ℕ) → Copying members old mid (Some o) count → count + 1 ≤ length (old.listed members)
  copying_few old mid o count so =
      let head = head_is so.back o so.at.at in
      omega (arith, so.counted, count_by-le-length (λ q. old.degree q == 0) so.front, ap length so.at.parts, length-append so.front so.back, ap length head.1)

  -- so many members have the number 0
  pub copied_zeros : (old now : View) (count : ℕ) → Copying members old now None count → count ≡ zeros_at members now
  copied_zeros old now count so =
      let all = at_end _ _ _ so.at in
      let same = sum_by-same (is_zero now) (is_unheld old) so.front (λ q h. ap zero_or (so.copied q h)) in
      omega (arith, so.counted, same, ap (sum_by (is_zero now)) (list_same members so.rest ∙ all))

  pub ready_kept : (old mid : View) → IsReadyView members old → IsSame old mid → ((o : ℕ) → occurrences o (mid.listed members) ≡ occurrences o (old.listed members)) → IsReadyView members mid
  ready_kept old mid ready same sums = record {
    once = λ o. let e = sums o in let k = ready.once o in omega arith;
    alive = λ o h. subst (λ (l : ℕ → Bool). IsTrue (l o)) (sym same.lives) (ready.alive o (occurs_in (old.listed members) o (let e = sums o in let k = occurs (mid.listed members) o h in omega arith)));
    closed = λ o p live h.
        subst (λ (l : ℕ → Bool). IsTrue (l p)) (sym same.lives)
        (ready.closed o p (subst (λ (l : ℕ → Bool). IsTrue (l o)) same.lives live) (subst (λ (es : ℕ → List Entry). Includes (references (es o)) p) same.hold h));
  }

  pub ready_same : (old mid : View) → IsReadyView members old → IsSameButNumbers old mid → IsReadyView members mid
  ready_same old mid ready rest = ready_kept old mid ready rest.same (λ o. ap (occurrences o) (list_same members rest))
