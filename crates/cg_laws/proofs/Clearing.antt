-- Weak references can always be cleared, starting with the newest.
use Rattle.std.proofs.Common.{◌≡◌, refl, sym, ◌∙◌, ap, subst, ℕ, zero, suc, ◌+◌, ◌<◌, ◌≤◌, Bool, true, false, cond, inl, inr, List, [], ◌∷◌, map, Option, Some, None, arith}
use Rattle.std.specs.Prelude.{◌==◌, nat_lt, count_by, if◌then◌else◌, ◌||◌, option_map, unwrap_or, not, ◌&&◌, is_some}
use Rattle.std.proofs.lemmas.Bool.{ltb-true, ltb-false, eq-eqb}
use Rattle.std.proofs.lemmas.List.Sums.{sum_by-cons}
use Rattle.cg_graph.specs.Member.{Includes}
use Rattle.cg_graph.specs.Object.{Object, with_referent}
use Rattle.cg_graph.proofs.Members.{either, true_and}
use Rattle.cg_machine.specs.Weak.{MayLoseNext, NoneLeft, AllLose, loses_referent, callback_in}
use Rattle.cg_machine.specs.Collect.{is_lost_early, loses_in_weak_phase, is_condemned, is_condemned_in}

-- the referents of the weak references that the weak phase may clear, in both profiles
pub refers_early : (profile : ℕ) (objects : List Object) (x : Object) → loses_in_weak_phase profile objects x ≡ true
    → unwrap_or (option_map (λ o. is_condemned_in objects o || is_condemned x) x.referent) false ≡ true
refers_early profile objects x e = (true_and (is_lost_early profile x) _ e).1

-- a weak reference that keeps its referent past the weak phase has no callback
pub kept_late : (profile : ℕ) (objects : List Object) (x : Object) → unwrap_or (option_map (λ o. is_condemned_in objects o || is_condemned x) x.referent) false
    ≡ true → loses_in_weak_phase profile objects x ≡ false → callback_in x.entries ≡ None
kept_late profile objects x refers kept = none_of (callback_in x.entries) (not (profile == 2)) _ refers kept
  where
    none_of : (m : Option ℕ) (first refers : Bool) → refers ≡ true → ((first || is_some m) && refers) ≡ false → m ≡ None
    none_of None first refers e k = refl
    none_of (Some f) true true e k = absurd (let no : true ≡ false = k in cc)
    none_of (Some f) false true e k = absurd (let no : true ≡ false = k in cc)
    none_of (Some f) first false e k = absurd (let no : false ≡ true = e in cc)

abbrev pub newest_at : Bool → Object → Option Object → Option Object
newest_at true x None = Some x
newest_at true x (Some y) = if nat_lt x.serial y.serial then Some y else Some x
newest_at false x r = r

-- the passing object with the greatest serial
abbrev pub newest : (Object → Bool) → List Object → Option Object
newest wanted [] = None
newest wanted (x ∷ xs) = newest_at (wanted x) x (newest wanted xs)

pub record Greatest (wanted : Object → Bool) (objects : List Object) (y : Object) : Type 0 where
  pub member : Includes objects y
  pub passes : wanted y ≡ true
  pub greatest : (z : Object) → Includes objects z → wanted z ≡ true → z.serial ≤ y.serial

abbrev pub IsGreatest : (Object → Bool) → List Object → Option Object → Type 0
IsGreatest wanted objects None = NoneLeft wanted objects
IsGreatest wanted objects (Some y) = Greatest wanted objects y

greater_at : (wanted : Object → Bool) (x y : Object) (xs : List Object) → wanted x ≡ true → Greatest wanted xs y → (t : Bool) → nat_lt x.serial y.serial ≡ t
    → IsGreatest wanted (x ∷ xs) (if t then Some y else Some x)
greater_at wanted x y xs e h true lt = record {
  member = inr h.member;
  passes = h.passes;
  greatest = λ z m k. either m (λ i. let less = ltb-true _ _ lt in let same = ap (λ (q : Object). q.serial) i in omega (arith, less, same)) (λ j. h.greatest z j k);
}
greater_at wanted x y xs e h false ge = record {
  member = inl refl;
  passes = e;
  greatest = λ z m k. either m (λ i. let same = ap (λ (q : Object). q.serial) i in omega (arith, same)) (λ j. let more = ltb-false _ _ ge
      in let below = h.greatest z j k in omega (arith, more, below));
}

newest_spec_at : (wanted : Object → Bool) (x : Object) (xs : List Object) (b : Bool) → wanted x ≡ b → (r : Option Object) → IsGreatest wanted xs r → IsGreatest wanted (x ∷ xs) (newest_at b x r)
newest_spec_at wanted x xs true e None h = record {
  member = inl refl;
  passes = e;
  greatest = λ z m k. either m (λ i. let same = ap (λ (q : Object). q.serial) i
      in omega (arith, same)) (λ j. let no = h z j in absurd (let same : true ≡ false = sym k ∙ no in cc));
}
newest_spec_at wanted x xs true e (Some y) h = greater_at wanted x y xs e h (nat_lt x.serial y.serial) refl
newest_spec_at wanted x xs false e None h = λ z m. either m (λ i. subst (λ q. wanted q ≡ false) i e) (h z)
newest_spec_at wanted x xs false e (Some y) h = record {
  member = inr h.member;
  passes = h.passes;
  greatest = λ z m k. either m (λ i. absurd (let same : true ≡ false = sym k ∙ ap wanted (sym i) ∙ e in cc)) (λ j. h.greatest z j k);
}

pub newest_spec : (wanted : Object → Bool) (objects : List Object) → IsGreatest wanted objects (newest wanted objects)
newest_spec wanted [] = λ z m. absurd m
newest_spec wanted (x ∷ xs) = newest_spec_at wanted x xs (wanted x) refl (newest wanted xs) (newest_spec wanted xs)

pub greatest_is_newest : (wanted : Object → Bool) (objects : List Object) (y : Object) → Greatest wanted objects y → MayLoseNext wanted objects y.serial
greatest_is_newest wanted objects y h = record { object = y; is = refl; member = h.member; to_lose = h.passes; newest = λ z m k r. h.greatest z m k }

count_cons : (p : Object → Bool) (x : Object) (xs : List Object) → count_by p (x ∷ xs) ≡ cond (p x) 1 0 + count_by p xs
count_cons p x xs = sum_by-cons (λ y. cond (p y) 1 0) x xs

one_le : (a b : Bool) → (a ≡ true → b ≡ true) → cond a 1 0 ≤ cond b 1 0
one_le true false f = absurd (let e = f refl in cc)
one_le b bit f = omega arith

count_map_le : (p : Object → Bool) (f : Object → Object) → ((x : Object) → p (f x) ≡ true → p x ≡ true) → (xs : List Object) → count_by p (map f xs) ≤ count_by p xs
count_map_le p f h [] = omega arith
count_map_le p f h (x ∷ xs) = rw (count_cons p (f x) (map f xs), count_cons p x xs) (omega (arith, one_le (p (f x)) (p x) (h x), count_map_le p f h xs))

count_map_lt : (p : Object → Bool) (f : Object → Object) → ((x : Object) → p (f x) ≡ true → p x ≡ true) → (xs : List Object) (y : Object) → Includes xs y → p y
    ≡ true → p (f y) ≡ false → count_by p (map f xs) < count_by p xs
count_map_lt p f h [] y m passes fails = absurd m
count_map_lt p f h (x ∷ xs) y (inl i) passes fails =
    let here : p x ≡ true = ap p i ∙ passes in
    let gone : p (f x) ≡ false = ap (λ z. p (f z)) i ∙ fails in
    rw (count_cons p (f x) (map f xs), count_cons p x xs, here, gone) (omega (arith, count_map_le p f h xs))
count_map_lt p f h (x ∷ xs) y (inr m) passes fails =
    rw (count_cons p (f x) (map f xs), count_cons p x xs) (omega (arith, one_le (p (f x)) (p x) (h x), count_map_lt p f h xs y m passes fails))

count_none : (p : Object → Bool) (xs : List Object) → count_by p xs ≤ 0 → NoneLeft p xs
count_none p [] h x m = absurd m
count_none p (y ∷ xs) h x m =
    let whole : cond (p y) 1 0 + count_by p xs ≤ 0 = subst (λ n. n ≤ 0) (count_cons p y xs) h in
    either m (λ i. subst (λ z. p z ≡ false) i (no (p y) (omega (arith, whole)))) (λ k. count_none p xs (omega (arith, whole)) x k)
  where
    no : (b : Bool) → cond b 1 0 ≤ 0 → b ≡ false
    no true l = absurd (omega (arith, l))
    no false l = refl

abbrev pub clear_at : Option Object → List Object → (Object → List ℕ × List Object) → List ℕ × List Object
clear_at None objects go = ([], objects)
clear_at (Some y) objects go = (y.serial ∷ (go y).0, (go y).1)

abbrev pub clears : (Object → Bool) → ℕ → List Object → List ℕ × List Object
clears wanted zero objects = ([], objects)
clears wanted (suc n) objects = clear_at (newest wanted objects) objects (λ y. clears wanted n (loses_referent y.serial objects))

lost : ℕ → Object → Object
lost s x = if x.serial == s then with_referent None x else x

module _ (wanted : Object → Bool) (needs_referent : (x : Object) → wanted (with_referent None x) ≡ false) where
  fewer : (s : ℕ) (x : Object) → wanted (if x.serial == s then with_referent None x else x) ≡ true → wanted x ≡ true
  fewer s x = go (x.serial == s)
    where
      go : (b : Bool) → wanted (if b then with_referent None x else x) ≡ true → wanted x ≡ true
      go true e = absurd (let same : true ≡ false = sym e ∙ needs_referent x in cc)
      go false e = e

  clears_lose : (n : ℕ) (objects : List Object) → count_by wanted objects ≤ n → AllLose wanted objects (clears wanted n objects).0 (clears wanted n objects).1
  clears_lose zero objects h = (count_none wanted objects h, refl)
  clears_lose (suc n) objects h = go (newest wanted objects) (newest_spec wanted objects) (λ y l. clears_lose n (loses_referent y.serial objects) l)
    where
      less : (y : Object) → Greatest wanted objects y → count_by wanted (loses_referent y.serial objects) < count_by wanted objects
      less y g = count_map_lt wanted (λ x. if x.serial == y.serial then with_referent None x else x) (fewer y.serial) objects y g.member g.passes
          (ap (λ b. wanted (if b then with_referent None y else y)) (eq-eqb y.serial y.serial refl) ∙ needs_referent y)

      go : (o : Option Object) → IsGreatest wanted objects o
          → ((y : Object) → count_by wanted (loses_referent y.serial objects) ≤ n → AllLose wanted (loses_referent y.serial objects)
          (clears wanted n (loses_referent y.serial objects)).0 (clears wanted n (loses_referent y.serial objects)).1)
          → AllLose wanted objects (clear_at o objects (λ y. clears wanted n (loses_referent y.serial objects))).0 (clear_at o objects (λ y. clears wanted n (loses_referent y.serial objects))).1
      go None none ih = (none, refl)
      go (Some y) some ih = (greatest_is_newest wanted objects y some, ih y (omega (arith, less y some, h)))

  pub plain_lose : (objects : List Object) → AllLose wanted objects (clears wanted (count_by wanted objects) objects).0 (clears wanted (count_by wanted objects) objects).1
  plain_lose objects = clears_lose (count_by wanted objects) objects (omega arith)
