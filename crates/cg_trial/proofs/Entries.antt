-- The walk over one object's entries: what the first of them refer to, and the next one.
use Rattle.std.proofs.Common.{◌≡◌, replicate, refl, sym, ◌∙◌, ap, subst, ℕ, ◌+◌, ◌-◌, ◌<◌, ◌≤◌, List, [], ◌∷◌, ◌++◌, length, take, drop, get_or, inl, Option, Some, None, Bool, IsTrue, arith, append_assoc}
use Rattle.std.proofs.lemmas.List.{append-nil, take-append-drop, drop_more, take_more, replicate_more}
use Rattle.cg_kind.specs.Calls.{next_entries}
use Rattle.cg_kind.specs.declared.notes.TheConstants.{AT_ONCE}
use Rattle.cg_kind.proofs.References.{next_within, next_last, references_next, references_parts}
use Rattle.std.proofs.Math.Seq.{take-length}
use Rattle.std.proofs.lemmas.Grind.{flat_map-append}
use Rattle.cg_value.specs.declared.Place.{Place}
use Rattle.cg_value.specs.declared.Entry.{Entry}
use Rattle.cg_graph.specs.Member.{Includes}
use Rattle.cg_graph.specs.Holdings.{occurrences}
use Rattle.cg_trial.specs.View.{IsNext, View, IsSame, Lowered, IsReadyView, held_by, head_of}
use Rattle.cg_graph.specs.Value.{references}
use Rattle.cg_trial.specs.Paths.{entries_in}
use Rattle.std.proofs.lemmas.List.Sums.{sum_by_push}
use Rattle.cg_graph.proofs.Members.{Includes-append_left, Includes-append_right}
use Rattle.cg_graph.proofs.Objects.{occurrences-append}
use Rattle.cg_trial.proofs.Lists.{occurs_often, IsAt, head_is}
use Rattle.cg_trial.proofs.Passes.{list_same, but_numbers_itself, but_numbers_more, turn_of, at_end}

pub live_same : (old mid : View) (o : ℕ) → IsSame old mid → IsTrue (old.live o) → IsTrue (mid.live o)
live_same old mid o same h = subst (λ (l : ℕ → Bool). IsTrue (l o)) (sym same.lives) h

-- Some objects: those before one of them, this one, and the rest.
pub taken_parts : (xs : List ℕ) (i : ℕ) → i < length xs → xs ≡ take i xs ++ (get_or xs i 0 ∷ [] ++ drop (i + 1) xs)
taken_parts xs i within = sym (take-append-drop i xs) ∙ ap (λ (l : List ℕ). take i xs ++ l) (drop_more xs i 0 within)

pub one_of : (xs : List ℕ) (i : ℕ) → i < length xs → Includes xs (get_or xs i 0)
one_of xs i within =
    subst (λ (l : List ℕ). Includes l (get_or xs i 0)) (sym (taken_parts xs i within))
    (Includes-append_right (take i xs) (get_or xs i 0 ∷ drop (i + 1) xs) (get_or xs i 0) (inl refl))

pub rest_of : (xs : List ℕ) (i o : ℕ) → Includes (drop i xs) o → Includes xs o
rest_of xs i o h = subst (λ (l : List ℕ). Includes l o) (take-append-drop i xs) (Includes-append_right (take i xs) (drop i xs) o h)

-- One more object in a run from a position on.
pub run_more : (xs : List ℕ) (from end o : ℕ) → take end xs ≡ take from xs ++ replicate (end - from) o → from < end → end < length xs → get_or xs end 0 ≡ o
    → take (end + 1) xs ≡ take from xs ++ replicate (end + 1 - from) o
run_more xs from end o so behind within same =
    let more : end - from + 1 ≡ end + 1 - from = omega (arith, behind) in
    take_more xs end 0 within
    ∙ ap (λ (l : List ℕ). l ++ get_or xs end 0 ∷ []) so
    ∙ ap (λ p. (take from xs ++ replicate (end - from) o) ++ p ∷ []) same
    ∙ append_assoc (take from xs) (replicate (end - from) o) (o ∷ [])
    ∙ ap (λ (l : List ℕ). take from xs ++ l) (replicate_more (end - from) o)
    ∙ ap (λ n. take from xs ++ replicate n o) more

-- Lowering has reached entry `from`.
pub record Lowering (members : Place) (o : ℕ) (old now : View) (from : ℕ) : Type 0 where
  pub within : from ≤ length (old.entries o)
  pub lowered : Lowered members (references (take from (old.entries o))) old now

-- the next entries are unchanged
pub next_same : (old mid : View) (o from : ℕ) → IsSame old mid → next_entries (mid.entries o) from ≡ next_entries (old.entries o) from
next_same old mid o from same = ap (λ (es : ℕ → List Entry). next_entries (es o) from) same.hold

-- a short batch is the last
pub few_last : (o : ℕ) (old mid : View) (from next : ℕ) → from ≤ length (old.entries o) → IsSame old mid → next
    ≡ from + length (next_entries (mid.entries o) from) → next < from + AT_ONCE → next ≡ length (old.entries o)
few_last o old mid from next within same is few =
    let e = ap (λ (ns : List Entry). length ns) (next_same old mid o from same) in
    omega (arith, is, few, e, next_last (old.entries o) from within (omega (arith, is, few, e)))

pub length_same : (old mid : View) (o : ℕ) → IsSame old mid → length (mid.entries o) ≡ length (old.entries o)
length_same old mid o same = ap (λ (es : ℕ → List Entry). length (es o)) same.hold

-- Subtracting has reached the cursor.
pub record Subtracting (members : Place) (old now : View) (cursor : Option ℕ) (before steps : ℕ) : Type 0 where
  pub front : List ℕ
  pub back : List ℕ
  pub at : IsAt (old.listed members) cursor front back
  pub lowered : Lowered members (held_by old front) old now
  pub looks : steps ≡ before + entries_in old front

pub held_by-push : (v : View) (front : List ℕ) (o : ℕ) → held_by v (front ++ o ∷ []) ≡ held_by v front ++ references (v.entries o)
held_by-push v front o = flat_map-append (λ p. references (v.entries p)) front (o ∷ []) ∙ ap (λ (r : List ℕ). held_by v front ++ r) (append-nil (references (v.entries o)))

pub held_by-split : (v : View) (front : List ℕ) (o : ℕ) (rest : List ℕ) → held_by v (front ++ o ∷ rest) ≡ held_by v front ++ (references (v.entries o) ++ held_by v rest)
held_by-split v front o rest = flat_map-append (λ p. references (v.entries p)) front (o ∷ rest)

pub entries_of-push : (v : View) (front : List ℕ) (o : ℕ) → entries_in v (front ++ o ∷ []) ≡ entries_in v front + length (v.entries o)
entries_of-push v front o = sum_by_push (λ p. length (v.entries p)) front o

-- the object's references are unchanged
pub refs_same : (old mid : View) (o : ℕ) → IsSame old mid → references (mid.entries o) ≡ references (old.entries o)
refs_same old mid o same = ap (λ (es : ℕ → List Entry). references (es o)) same.hold

module _ (members : Place) where
  pub refs_live : (old mid : View) (o p : ℕ) → IsReadyView members old → IsTrue (old.live o) → IsSame old mid → Includes (references (old.entries o)) p → IsTrue (mid.live p)
  refs_live old mid o p ready live same h = live_same old mid p same (ready.closed o p live h)

  pub lowered_none : (v : View) → Lowered members [] v v
  lowered_none v = record { rest = but_numbers_itself v; lower = λ o h. omega arith }

  pub lowered_more : (a b c : View) (r s : List ℕ) → Lowered members r a b → Lowered members s b c → Lowered members (r ++ s) a c
  lowered_more a b c r s first then = record {
    rest = but_numbers_more first.rest then.rest;
    lower = λ o h.
        let e = first.lower o h in
        let f = then.lower o (subst (λ (xs : List ℕ). Includes xs o) (sym (list_same members first.rest)) h) in
        let g = occurrences-append o r s in
        omega arith;
  }

  -- Room for all is room for the next ones after the first ones.
  pub room_next : (old mid : View) (r s t all : List ℕ) → Lowered members r old mid → ((o : ℕ) → Includes (old.listed members) o → occurrences o all ≤ old.number o) → all ≡ r ++ (s ++ t)
      → (o : ℕ) → Includes (mid.listed members) o → occurrences o s ≤ mid.number o
  room_next old mid r s t all so room parts o h =
      let k = subst (λ (xs : List ℕ). Includes xs o) (list_same members so.rest) h in
      let e = so.lower o k in
      let f = room o k in
      let g : occurrences o all ≡ occurrences o (r ++ (s ++ t)) = ap (occurrences o) parts in
      omega (arith, occurrences-append o r (s ++ t), occurrences-append o s t)

  pub run_room : (old mid : View) (xs : List ℕ) (from end o : ℕ) → take end xs ≡ take from xs ++ replicate (end - from) o → Lowered members (take from xs) old mid
      → ((p : ℕ) → Includes (old.listed members) p → occurrences p xs ≤ old.number p)
      → Includes (mid.listed members) o → end - from ≤ mid.number o
  run_room old mid xs from end o run so room here =
      let parts : xs ≡ take from xs ++ (replicate (end - from) o ++ drop end xs) =
      sym (take-append-drop end xs) ∙ ap (λ (l : List ℕ). l ++ drop end xs) run ∙ append_assoc (take from xs) (replicate (end - from) o) (drop end xs) in
      omega (arith, occurs_often (end - from) o, room_next old mid (take from xs) (replicate (end - from) o) (drop end xs) xs so room parts o here)

  -- The same for one object.
  pub one_room : (old mid : View) (xs : List ℕ) (from : ℕ) → from < length xs → Lowered members (take from xs) old mid → ((p : ℕ) → Includes (old.listed members) p → occurrences p xs ≤ old.number p)
      → Includes (mid.listed members) (get_or xs from 0) → 0 < mid.number (get_or xs from 0)
  one_room old mid xs from within so room here =
      let o = get_or xs from 0 in
      omega (arith, occurs_often 1 o, room_next old mid (take from xs) (o ∷ []) (drop (from + 1) xs) xs so room (taken_parts xs from within) o here)

  pub lowered_run : (old mid new : View) (xs : List ℕ) (from end next times o : ℕ) → take end xs ≡ take from xs ++ replicate (end - from) o → next ≡ end → times
      ≡ end - from → Lowered members (take from xs) old mid → Lowered members (replicate times o) mid new
      → Lowered members (take next xs) old new
  lowered_run old mid new xs from end next times o run is often so more =
      subst (λ (r : List ℕ). Lowered members r old new) (sym (ap (λ n. take n xs) is ∙ run ∙ ap (λ n. take from xs ++ replicate n o) (sym often))) (lowered_more old mid new (take from xs) _ so more)

  pub lowered_next : (old mid new : View) (xs : List ℕ) (from next : ℕ) → from < length xs → next ≡ from + 1 → Lowered members (take from xs) old mid
      → Lowered members (get_or xs from 0 ∷ []) mid new → Lowered members (take next xs) old new
  lowered_next old mid new xs from next within is so more =
      subst (λ (r : List ℕ). Lowered members r old new) (sym (ap (λ n. take n xs) is ∙ take_more xs from 0 within)) (lowered_more old mid new (take from xs) _ so more)

  pub next_live : (old mid : View) (o from : ℕ) → IsReadyView members old → IsTrue (old.live o) → IsSame old mid → (p : ℕ) → Includes (references (next_entries (mid.entries o) from)) p → IsTrue (mid.live p)
  next_live old mid o from ready live same p h =
      let es = old.entries o in
      let here = subst (λ (ns : List Entry). Includes (references ns) p) (next_same old mid o from same) h in
      refs_live old mid o p ready live same
      (subst (λ (r : List ℕ). Includes r p) (sym (references_parts es from))
      (Includes-append_left (references (take from es) ++ references (next_entries es from)) _ p (Includes-append_right (references (take from es)) (references (next_entries es from)) p here)))

  pub lowering_room : (o : ℕ) (old mid : View) (from : ℕ) → Lowering members o old mid from → ((p : ℕ) → Includes (old.listed members) p → occurrences p (references (old.entries o)) ≤ old.number p)
      → (p : ℕ) → Includes (mid.listed members) p → occurrences p (references (next_entries (mid.entries o) from)) ≤ mid.number p
  lowering_room o old mid from so room p h =
      let es = old.entries o in
      subst (λ (ns : List Entry). occurrences p (references ns) ≤ mid.number p) (sym (next_same old mid o from so.lowered.rest.same))
      (room_next old mid (references (take from es)) (references (next_entries es from)) (references (drop (from + length (next_entries es from)) es)) (references es) so.lowered room
      (references_parts es from ∙ append_assoc (references (take from es)) (references (next_entries es from)) _) p h)

  pub lowering_more : (o : ℕ) (old mid new : View) (from next : ℕ) → Lowering members o old mid from → next ≡ from + length (next_entries (mid.entries o) from)
      → Lowered members (references (next_entries (mid.entries o) from)) mid new → Lowering members o old new next
  lowering_more o old mid new from next so is more =
      let es = old.entries o in
      let same = next_same old mid o from so.lowered.rest.same in
      let there : next ≡ from + length (next_entries es from) = is ∙ ap (λ (ns : List Entry). from + length ns) same in
      record {
        within = omega (arith, there, next_within es from so.within);
        lowered = subst (λ (r : List ℕ). Lowered members r old new) (sym (ap (λ n. references (take n es)) there ∙ references_next es from))
            (lowered_more old mid new _ _ so.lowered (subst (λ (ns : List Entry). Lowered members (references ns) mid new) same more));
      }

  pub lowering_all : (o : ℕ) (old now : View) (i : ℕ) → i ≡ length (old.entries o) → Lowering members o old now i → Lowered members (references (old.entries o)) old now
  lowering_all o old now i is so = subst (λ (es : List Entry). Lowered members (references es) old now) (ap (λ n. take n (old.entries o)) is ∙ take-length (old.entries o)) so.lowered

  pub subtracting_at : (old mid : View) (cursor : Option ℕ) (o : ℕ) (before steps : ℕ) → Subtracting members old mid cursor before steps → cursor ≡ Some o → Subtracting members old mid (Some o) before steps
  subtracting_at old mid cursor o before steps so is = subst (λ (k : Option ℕ). Subtracting members old mid k before steps) is so

  pub subtracting_first : (v : View) (cursor : Option ℕ) (steps : ℕ) → cursor ≡ head_of (v.listed members) → Subtracting members v v cursor steps steps
  subtracting_first v cursor steps is = record { front = []; back = v.listed members; at = record { parts = refl; at = is }; lowered = lowered_none v; looks = omega arith }

  pub subtracting_room : (old mid : View) (o : ℕ) (before steps : ℕ) → Subtracting members old mid (Some o) before steps → ((p : ℕ) → Includes (old.listed members) p
      → occurrences p (held_by old (old.listed members)) ≤ old.number p)
      → (p : ℕ) → Includes (mid.listed members) p → occurrences p (references (mid.entries o)) ≤ mid.number p
  subtracting_room old mid o before steps so room =
      let head = head_is so.back o so.at.at in
      let here : old.listed members ≡ so.front ++ o ∷ head.0 = so.at.parts ∙ ap (λ (b : List ℕ). so.front ++ b) head.1 in
      rw (refs_same old mid o so.lowered.rest.same)
      (room_next old mid (held_by old so.front) (references (old.entries o)) (held_by old head.0) (held_by old (old.listed members)) so.lowered room
      (ap (held_by old) here ∙ held_by-split old so.front o head.0))

  pub subtracting_more : (old mid new : View) (o : ℕ) (cursor : Option ℕ) (before steps later : ℕ) → Subtracting members old mid (Some o) before steps
      → Lowered members (references (mid.entries o)) mid new → later ≡ steps + length (mid.entries o)
      → IsNext new o cursor → Subtracting members old new cursor before later
  subtracting_more old mid new o cursor before steps later so more looked next =
      let lowered = lowered_more old mid new _ _ so.lowered (subst (λ (r : List ℕ). Lowered members r mid new) (refs_same old mid o so.lowered.rest.same) more) in
      let turn = turn_of members new (old.listed members) o cursor so.front so.back (list_same members lowered.rest) so.at next in
      record {
        front = so.front ++ o ∷ [];
        back = turn.0;
        at = turn.3;
        lowered = subst (λ (r : List ℕ). Lowered members r old new) (sym (held_by-push old so.front o)) lowered;
        looks = let e = so.looks in let f = length_same old mid o so.lowered.rest.same in let g = entries_of-push old so.front o in omega arith;
      }

  pub subtracting_end : (old now : View) (cursor : Option ℕ) (before steps : ℕ) → Subtracting members old now cursor before steps → cursor ≡ None
      → Lowered members (held_by old (old.listed members)) old now × (steps ≡ before + entries_in old (old.listed members))
  subtracting_end old now cursor before steps so is =
      let all : old.listed members ≡ so.front = at_end _ _ _ (subst (λ (k : Option ℕ). IsAt (old.listed members) k so.front so.back) is so.at) in
      (subst (λ (xs : List ℕ). Lowered members (held_by old xs) old now) (sym all) so.lowered, subst (λ (xs : List ℕ). steps ≡ before + entries_in old xs) (sym all) so.looks)
