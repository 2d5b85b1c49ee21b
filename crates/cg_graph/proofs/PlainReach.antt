-- The plain search: it finds only reachable members, and all of them once no edge leads further.
use Rattle.std.proofs.Common.{◌≡◌, refl, sym, ◌∙◌, ap, subst, ℕ, suc, ◌+◌, ◌<◌, ◌≤◌, Bool, true, false, cond, not, ◌⊎◌, inl, inr, List, [], ◌∷◌, ◌++◌, length, take, drop, remove, Option, Some, None, arith, get_or, take_all}
use Rattle.std.specs.Prelude.{◌↔◌, filter, position, slice_get}
use Rattle.std.specs.List.{position_from}
use Rattle.std.specs.Ordering.{nat_cmp}
use Rattle.std.specs.declared.cmp.Ordering.{Ordering}
use Rattle.std.specs.declared.cmp.Ordering.TheVariants.{Less, Equal, Greater}
use Rattle.std.specs.BTreeSet.{insert_key}
use Rattle.std.proofs.lemmas.Bool.{cases_Bool}
use Rattle.std.proofs.lemmas.List.{drop_more, take_more, take-append-drop}
use Rattle.std.proofs.lemmas.Map.Lookups.{exact_unsigned}
use Rattle.std.proofs.lemmas.Iterator.Adapters.{position_from-zero}
use Rattle.std.proofs.lemmas.Option.{slice_get_within, get_or_from_slice_get}
use Rattle.cg_graph.specs.declared.Edge.{Edge}
use Rattle.cg_graph.specs.Member.{Includes, includes}
use Rattle.cg_graph.specs.Reach.{Reach, first, next}
use Rattle.cg_graph.proofs.Members.{either, Includes-of, includes-of, Includes-append_left, Includes-append_right, Includes-append_cases, Includes-filter, Includes-filter_cases}
use Rattle.cg_graph.proofs.Search.{touched, touching, touched_by}

-- inserting a key keeps the members and adds the key
pub Includes-insert_key : (k : ℕ) (ks : List ℕ) (o : ℕ) → Includes (insert_key nat_cmp ks k) o ↔ (Includes ks o ⊎ (k ≡ o))
Includes-insert_key k [] o = (λ h. either h (λ e. inr e) (λ f. absurd f), λ h. either h (λ f. absurd f) (λ e. inl e))
Includes-insert_key k (x ∷ ks) o = go (nat_cmp k x) refl (Includes-insert_key k ks o)
  where
    go : (r : Ordering) → nat_cmp k x ≡ r → Includes (insert_key nat_cmp ks k) o ↔ (Includes ks o ⊎ (k ≡ o)) → Includes (insert_key nat_cmp (x ∷ ks) k) o ↔ (Includes (x ∷ ks) o ⊎ (k ≡ o))
    go Less e rec = rw e (λ h. either h (λ i. inr i) (λ m. inl m), λ h. either h (λ m. inr m) (λ i. inl i))
    go Equal e rec = rw e (λ h. inl h, λ h. either h (λ m. m) (λ i. inl (sym (exact_unsigned k x e) ∙ i)))
    go Greater e rec = rw e (
      λ h. either h (λ i. inl (inl i)) (λ m. either (rec.0 m) (λ n. inl (inr n)) (λ i. inr i)),
      λ h. either h (λ m. either m (λ i. inl i) (λ n. inr (rec.1 (inl n)))) (λ i. inr (rec.1 (inr i))),
    )

-- the next member inserted is the next in the list
pub one_more : (objects keys : List ℕ) (i o : ℕ) → ((p : ℕ) → Includes keys p ↔ Includes (take i objects) p) → i < length objects → o ≡ get_or objects i 0
    → (p : ℕ) → Includes (insert_key nat_cmp keys o) p ↔ Includes (take (i + 1) objects) p
one_more objects keys i o so within value p =
    let now : take (i + 1) objects ≡ take i objects ++ o ∷ [] = take_more objects i 0 within ∙ ap (λ x. take i objects ++ x ∷ []) (sym value) in
    let step = Includes-insert_key o keys p in (
      λ h. subst (λ (xs : List ℕ). Includes xs p) (sym now)
          (either (step.0 h) (λ m. Includes-append_left (take i objects) (o ∷ []) p ((so p).0 m)) (λ e. Includes-append_right (take i objects) (o ∷ []) p (inl e))),
      λ h. step.1 (either (Includes-append_cases (take i objects) (o ∷ []) p (subst (λ (xs : List ℕ). Includes xs p) now h)) (λ m. inl ((so p).1 m)) (λ m. either m (λ e. inr e) (λ f. absurd f))),
    )

pub all_in : (objects keys list : List ℕ) (i : ℕ) → ((p : ℕ) → Includes keys p ↔ Includes (take i objects) p) → length objects ≤ i → list ≡ keys → (p : ℕ) → Includes list p ↔ Includes objects p
all_in objects keys list i so end same p =
    subst (λ (xs : List ℕ). Includes xs p ↔ Includes objects p) (sym same) (subst (λ (xs : List ℕ). Includes keys p ↔ Includes xs p) (take_all i objects end) (so p))

-- the first element that passes a test
finds : (test : ℕ → Bool) (k : ℕ) (xs : List ℕ) (j : ℕ) → position_from test k xs ≡ Some j → (i : ℕ) × (x : ℕ) × (j ≡ k + i) × (slice_get xs i ≡ Some x) × (test x ≡ true)
finds test k [] j h = absurd (cc)
finds test k (x ∷ xs) j h = go (test x) refl h (finds test (k + 1) xs j)
  where
    go : (b : Bool) → test x ≡ b → cond b (Some k) (position_from test (k + 1) xs) ≡ Some j → (position_from test (k + 1) xs ≡ Some j → (i : ℕ) × (y : ℕ)
        × (j ≡ (k + 1) + i) × (slice_get xs i ≡ Some y) × (test y ≡ true))
        → (i : ℕ) × (y : ℕ) × (j ≡ k + i) × (slice_get (x ∷ xs) i ≡ Some y) × (test y ≡ true)
    go true e s rec = (0, x, (let same : k ≡ j = cc in omega (arith, same)), refl, e)
    go false e s rec = let (i, y, is, at, passes) = rec s in (suc i, y, omega (arith, is), at, passes)

none_finds : (test : ℕ → Bool) (k : ℕ) (xs : List ℕ) → position_from test k xs ≡ None → (x : ℕ) → Includes xs x → test x ≡ false
none_finds test k [] h x m = absurd m
none_finds test k (y ∷ ys) h x m = go (test y) refl h m (none_finds test (k + 1) ys)
  where
    go : (b : Bool) → test y ≡ b → cond b (Some k) (position_from test (k + 1) ys) ≡ None → (y ≡ x) ⊎ Includes ys x → (position_from test (k + 1) ys ≡ None
        → (z : ℕ) → Includes ys z → test z ≡ false) → test x ≡ false
    go true e s n rec = absurd (cc)
    go false e s (inl i) rec = ap test (sym i) ∙ e
    go false e s (inr i) rec = rec s x i

-- a list with one element removed
module _ (xs : List ℕ) (i x : ℕ) (at : slice_get xs i ≡ Some x) where
  one : i + 1 ≡ suc i
  one = omega arith

  parts : xs ≡ take i xs ++ x ∷ drop (suc i) xs
  parts =
      sym (take-append-drop i xs)
      ∙ ap (λ (ys : List ℕ). take i xs ++ ys)
      (drop_more xs i x (slice_get_within xs i x at) ∙ ap (λ y. y ∷ drop (i + 1) xs) (get_or_from_slice_get xs i x x at) ∙ ap (λ k. x ∷ drop k xs) one)

  kept_or_taken : (o : ℕ) → Includes xs o → (x ≡ o) ⊎ Includes (remove xs i) o
  kept_or_taken o m =
      either (Includes-append_cases (take i xs) (x ∷ drop (suc i) xs) o (subst (λ (ys : List ℕ). Includes ys o) parts m))
      (λ h. inr (Includes-append_left (take i xs) (drop (suc i) xs) o h))
      (λ h. either h (λ e. inl e) (λ k. inr (Includes-append_right (take i xs) (drop (suc i) xs) o k)))

  was_there : (o : ℕ) → Includes (remove xs i) o → Includes xs o
  was_there o m =
      subst (λ (ys : List ℕ). Includes ys o) (sym parts)
      (either (Includes-append_cases (take i xs) (drop (suc i) xs) o m)
      (λ h. Includes-append_left (take i xs) (x ∷ drop (suc i) xs) o h)
      (λ h. Includes-append_right (take i xs) (x ∷ drop (suc i) xs) o (inr h)))

  is_there : Includes xs x
  is_there = subst (λ (ys : List ℕ). Includes ys x) (sym parts) (Includes-append_right (take i xs) (x ∷ drop (suc i) xs) x (inl refl))

-- The search so far: every member found is reached, and the rest are still to do.
pub record Spreads (held inside : List ℕ) (arrows : List Edge) (found rest : List ℕ) : Type 0 where
  pub reached : (o : ℕ) → Includes found o → Reach (Includes held) (Includes inside) arrows o
  pub left : (o : ℕ) → Includes rest o → Includes inside o
  pub all : (o : ℕ) → Includes inside o → Includes found o ⊎ Includes rest o
  pub starts : (o : ℕ) → Includes held o → Includes inside o → Includes found o

module _ (held inside : List ℕ) (arrows : List Edge) where
  from_filters : Spreads held inside arrows (filter (includes held) inside) (filter (λ o. not (includes held o)) inside)
  from_filters = record {
    reached = λ o m. let is = Includes-filter_cases (includes held) inside o m in first (Includes-of held o is.1) is.0;
    left = λ o m. (Includes-filter_cases (λ p. not (includes held p)) inside o m).0;
    all = λ o m. either (cases_Bool (includes held o)) (λ e. inl (Includes-filter (includes held) inside o e m)) (λ e. inr (Includes-filter (λ p. not (includes held p)) inside o (ap not e) m));
    starts = λ o h m. Includes-filter (includes held) inside o (includes-of held o h) m;
  }

  pub spreads_first : (found rest : List ℕ) → found ≡ filter (includes held) inside → rest ≡ filter (λ o. not (includes held o)) inside → Spreads held inside arrows found rest
  spreads_first found rest e f =
      subst (λ (xs : List ℕ). Spreads held inside arrows xs rest) (sym e)
      (subst (λ (ys : List ℕ). Spreads held inside arrows (filter (includes held) inside) ys) (sym f) from_filters)

  with_one : (found rest : List ℕ) (at : ℕ) (o : ℕ) → Spreads held inside arrows found rest → position (touched arrows found) rest ≡ Some at → o ≡ get_or rest at o
      → Spreads held inside arrows (found ++ o ∷ []) (remove rest at)
  with_one found rest at o so is value =
      let (i, x, sum, there, passes) = finds (touched arrows found) 0 rest at (sym (position_from-zero (touched arrows found) rest) ∙ is) in
      let same : at ≡ i = omega (arith, sum) in
      let found_there : slice_get rest at ≡ Some x = ap (slice_get rest) same ∙ there in
      let here : o ≡ x = value ∙ get_or_from_slice_get rest at x o found_there in
      go x found_there passes here
    where
      go : (x : ℕ) → slice_get rest at ≡ Some x → touched arrows found x ≡ true → o ≡ x → Spreads held inside arrows (found ++ o ∷ []) (remove rest at)
      go x there passes here = record {
        reached = λ p m. either (Includes-append_cases found (o ∷ []) p m) (λ h. so.reached p h)
            (λ h. either h (λ e. subst (λ q. Reach (Includes held) (Includes inside) arrows q) (sym here ∙ e) along) (λ f. absurd f));
        left = λ p m. so.left p (was_there rest at x there p m);
        all = λ p m. either (so.all p m) (λ h. inl (Includes-append_left found (o ∷ []) p h))
            (λ h. either (kept_or_taken rest at x there p h) (λ e. inl (Includes-append_right found (o ∷ []) p (inl (here ∙ e)))) (λ k. inr k));
        starts = λ p h m. Includes-append_left found (o ∷ []) p (so.starts p h m);
      }
        where
          along : Reach (Includes held) (Includes inside) arrows x
          along =
              let (e, arrow, to, from) = touching arrows found x passes in
              next (so.reached e.from from) (subst (λ q. Includes arrows (record { from = e.from; to = q })) to arrow) (so.left x (is_there rest at x there))

  pub spreads_more : (found rest found' rest' seen left : List ℕ) (answer : Option ℕ) (at o : ℕ) → Spreads held inside arrows found rest → seen ≡ found → left ≡ rest
      → answer ≡ position (touched arrows seen) left → answer ≡ Some at → o ≡ get_or rest at o → found' ≡ found ++ o ∷ [] → rest' ≡ remove rest at → Spreads held inside arrows found' rest'
  spreads_more found rest found' rest' seen left answer at o so e f is some value e' f' =
      subst (λ (xs : List ℕ). Spreads held inside arrows xs rest') (sym e')
      (subst (λ (ys : List ℕ). Spreads held inside arrows (found ++ o ∷ []) ys) (sym f')
      (with_one found rest at o so (sym (ap (λ (xs : List ℕ). position (touched arrows xs) left) e ∙ ap (position (touched arrows found)) f) ∙ sym is ∙ some) value))

  all_found : (found rest : List ℕ) → Spreads held inside arrows found rest → position (touched arrows found) rest ≡ None → (o : ℕ) → Includes found o ↔ Reach
      (Includes held) (Includes inside) arrows o
  all_found found rest so is o = (so.reached o, all o)
    where
      all : (p : ℕ) → Reach (Includes held) (Includes inside) arrows p → Includes found p
      all p (first h m) = so.starts p h m
      all p (next {o = q} r arrow m) =
          either (so.all p m) (λ k. k)
          (λ k.
          let no : touched arrows found p ≡ false = none_finds (touched arrows found) 0 rest (sym (position_from-zero (touched arrows found) rest) ∙ is) p k in
          let yes : touched arrows found p ≡ true = touched_by arrows found (record { from = q; to = p }) arrow (all q r) in
          absurd (cc))

  -- at the end: the same objects in another list
  pub spreads_all : (found rest seen left same : List ℕ) (answer : Option ℕ) → Spreads held inside arrows found rest → seen ≡ found → left ≡ rest → answer
      ≡ position (touched arrows seen) left → answer ≡ None
      → ((o : ℕ) → Includes same o ↔ Includes found o) → (o : ℕ) → Includes same o ↔ Reach (Includes held) (Includes inside) arrows o
  spreads_all found rest seen left same answer so e f is none among o =
      let parts = all_found found rest so (sym (ap (λ (xs : List ℕ). position (touched arrows xs) left) e ∙ ap (position (touched arrows found)) f) ∙ sym is ∙ none) o in
      (λ h. parts.0 ((among o).0 h), λ r. (among o).1 (parts.1 r))
