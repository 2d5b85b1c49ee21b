-- Values in two columns of words: the value at a place, and the effect of changing both columns.
use Rattle.std.proofs.Common.{◌≡◌, ℕ, zero, suc, ◌+◌, ◌-◌, ◌<◌, ◌≤◌, ◌^◌, List, [], ◌∷◌, ◌++◌, length, get_or, map, set, remove, take, drop, Some, refl, sym, ap, subst, ◌∙◌, arith, length-append, length-drop}
use Rattle.std.specs.Prelude.{vec_len, vec_capacity, slice_get}
use Rattle.std.specs.List.{All, AllZip}
use Rattle.std.proofs.lemmas.List.{length-set, drop-append-le}
use Rattle.std.proofs.lemmas.List.Edits.{length-remove}
use Rattle.std.proofs.lemmas.List.Elements.{All-head, All-tail}
use Rattle.cg_value.specs.declared.Val.{Val}
use Rattle.cg_value.specs.declared.Val.TheVariants.{Ref}
use Rattle.cg_graph.specs.Value.{item, references}
use Rattle.cg_kinds.specs.Values.{value_in, values_in, AreWords, AreColumns, Kept}
use Rattle.cg_kinds.specs.declared.values.Values.TheInside.{Inside}

-- the columns have a sort and a number for each value
pub length-sorts : (sorts numbers : List ℕ) → AllZip AreWords sorts numbers → length sorts ≡ length (values_in sorts numbers)
length-sorts [] [] words = refl
length-sorts (x ∷ xs) (y ∷ ys) words = ap suc (length-sorts xs ys words.1)
length-sorts xs ys words = absurd words

pub length-numbers : (sorts numbers : List ℕ) → AllZip AreWords sorts numbers → length numbers ≡ length (values_in sorts numbers)
length-numbers [] [] words = refl
length-numbers (x ∷ xs) (y ∷ ys) words = ap suc (length-numbers xs ys words.1)
length-numbers xs ys words = absurd words

-- the value at a place of both columns
pub value-at : (sorts numbers : List ℕ) (i s n : ℕ) → i < length (values_in sorts numbers) → s ≡ get_or sorts i s → n ≡ get_or numbers i n → slice_get (values_in sorts numbers) i ≡ Some (value_in s n)
value-at (x ∷ xs) (y ∷ ys) zero s n within sort number = λ j. Some (value_in (sym sort j) (sym number j))
value-at (x ∷ xs) (y ∷ ys) (suc i) s n within sort number = value-at xs ys i s n (omega (arith, within)) sort number
value-at xs ys i s n within sort number = absurd (omega (arith, within))

pub words-at : (sorts numbers : List ℕ) (i s n : ℕ) → AllZip AreWords sorts numbers → i < length (values_in sorts numbers) → s ≡ get_or sorts i s → n ≡ get_or numbers i n → AreWords s n
words-at [] numbers i s n words within sort number = absurd (omega (arith, within))
words-at (x ∷ xs) [] i s n words within sort number = absurd words
words-at (x ∷ xs) (y ∷ ys) zero s n words within sort number = λ text. subst (λ m. m < 2 ^ 32) (sym number) (words.0 (sym sort ∙ text))
words-at (x ∷ xs) (y ∷ ys) (suc i) s n words within sort number = words-at xs ys i s n words.1 (omega (arith, within)) sort number

-- both columns with other words at one place
pub values-set : (sorts numbers : List ℕ) (i s n : ℕ) → values_in (set sorts i s) (set numbers i n) ≡ set (values_in sorts numbers) i (value_in s n)
values-set [] numbers i s n = refl
values-set (x ∷ xs) [] zero s n = refl
values-set (x ∷ xs) [] (suc i) s n = refl
values-set (x ∷ xs) (y ∷ ys) zero s n = refl
values-set (x ∷ xs) (y ∷ ys) (suc i) s n = ap (λ l. value_in x y ∷ l) (values-set xs ys i s n)

words-set : (sorts numbers : List ℕ) (i s n : ℕ) → AllZip AreWords sorts numbers → AreWords s n → AllZip AreWords (set sorts i s) (set numbers i n)
words-set [] [] i s n words here = tt
words-set (x ∷ xs) (y ∷ ys) zero s n words here = (here, words.1)
words-set (x ∷ xs) (y ∷ ys) (suc i) s n words here = (words.0, words-set xs ys i s n words.1 here)
words-set xs ys i s n words here = absurd words

-- both columns with a place removed
pub values-remove : (sorts numbers : List ℕ) (i : ℕ) → AllZip AreWords sorts numbers → values_in (remove sorts i) (remove numbers i) ≡ remove (values_in sorts numbers) i
values-remove [] [] zero words = refl
values-remove [] [] (suc i) words = refl
values-remove (x ∷ xs) (y ∷ ys) zero words = refl
values-remove (x ∷ xs) (y ∷ ys) (suc i) words = ap (λ l. value_in x y ∷ l) (values-remove xs ys i words.1)
values-remove xs ys i words = absurd words

words-remove : (sorts numbers : List ℕ) (i : ℕ) → AllZip AreWords sorts numbers → AllZip AreWords (remove sorts i) (remove numbers i)
words-remove [] [] zero words = tt
words-remove [] [] (suc i) words = tt
words-remove (x ∷ xs) (y ∷ ys) zero words = words.1
words-remove (x ∷ xs) (y ∷ ys) (suc i) words = (words.0, words-remove xs ys i words.1)
words-remove xs ys i words = absurd words

-- both columns with a place appended
pub values-push : (sorts numbers : List ℕ) (s n : ℕ) → AllZip AreWords sorts numbers → values_in (sorts ++ s ∷ []) (numbers ++ n ∷ []) ≡ values_in sorts numbers ++ value_in s n ∷ []
values-push [] [] s n words = refl
values-push (x ∷ xs) (y ∷ ys) s n words = ap (λ l. value_in x y ∷ l) (values-push xs ys s n words.1)
values-push xs ys s n words = absurd words

words-push : (sorts numbers : List ℕ) (s n : ℕ) → AllZip AreWords sorts numbers → AreWords s n → AllZip AreWords (sorts ++ s ∷ []) (numbers ++ n ∷ [])
words-push [] [] s n words here = (here, tt)
words-push (x ∷ xs) (y ∷ ys) s n words here = (words.0, words-push xs ys s n words.1 here)
words-push xs ys s n words here = absurd words

words-pop : (sorts numbers : List ℕ) (s n : ℕ) → AllZip AreWords (sorts ++ s ∷ []) (numbers ++ n ∷ []) → AllZip AreWords sorts numbers × AreWords s n
words-pop [] [] s n words = (tt, words.0)
words-pop [] (y ∷ []) s n words = absurd words.1
words-pop [] (y ∷ z ∷ ys) s n words = absurd words.1
words-pop (x ∷ []) [] s n words = absurd words.1
words-pop (x ∷ z ∷ xs) [] s n words = absurd words.1
words-pop (x ∷ xs) (y ∷ ys) s n words = let front = words-pop xs ys s n words.1 in ((words.0, front.0), front.1)

-- both columns without their first places
pub values-drop : (n : ℕ) (sorts numbers : List ℕ) → AllZip AreWords sorts numbers → values_in (drop n sorts) (drop n numbers) ≡ drop n (values_in sorts numbers)
values-drop zero sorts numbers words = refl
values-drop (suc n) [] [] words = refl
values-drop (suc n) (x ∷ xs) (y ∷ ys) words = values-drop n xs ys words.1
values-drop (suc n) xs ys words = absurd words

words-drop : (n : ℕ) (sorts numbers : List ℕ) → AllZip AreWords sorts numbers → AllZip AreWords (drop n sorts) (drop n numbers)
words-drop (suc n) (x ∷ xs) (y ∷ ys) words = words-drop n xs ys words.1
words-drop zero sorts numbers words = words
words-drop (suc n) [] [] words = words
words-drop (suc n) xs ys words = absurd words

-- searching and taking after a prefix is dropped
slice_get-drop : {X : Type 0} (n : ℕ) (xs : List X) (i k : ℕ) → k ≡ n + i → slice_get (drop n xs) i ≡ slice_get xs k
slice_get-drop zero xs i k there = ap (slice_get xs) (omega (arith, there))
slice_get-drop (suc n) [] zero k there = refl
slice_get-drop (suc n) [] (suc i) k there = refl
slice_get-drop (suc n) (x ∷ xs) i zero there = absurd (omega (arith, there))
slice_get-drop (suc n) (x ∷ xs) i (suc k) there = slice_get-drop n xs i k (omega (arith, there))

pub drop-remove : {X : Type 0} (n : ℕ) (xs : List X) (i k : ℕ) → k ≡ n + i → drop n (remove xs k) ≡ remove (drop n xs) i
drop-remove zero xs i k there = ap (remove xs) (omega (arith, there))
drop-remove (suc n) xs i zero there = absurd (omega (arith, there))
drop-remove (suc n) [] zero (suc k) there = refl
drop-remove (suc n) [] (suc i) (suc k) there = refl
drop-remove (suc n) (x ∷ xs) i (suc k) there = drop-remove n xs i k (omega (arith, there))

pub drop-one_more : {X : Type 0} (n : ℕ) (xs : List X) (k : ℕ) → k ≡ n + 1 → drop k xs ≡ remove (drop n xs) 0
drop-one_more n xs zero there = absurd (omega (arith, there))
drop-one_more zero [] (suc k) there = refl
drop-one_more zero (x ∷ xs) (suc k) there = let none : k ≡ 0 = omega (arith, there) in ap (λ n. drop n xs) none
drop-one_more (suc n) [] (suc k) there = refl
drop-one_more (suc n) (x ∷ xs) (suc k) there = drop-one_more n xs k (omega (arith, there))

-- facts about the columns of a list
module _ (v : Inside) (now : Kept) (view : record { items = drop v.first (values_in v.sorts.items v.numbers.items); room = v.room } ≡ now)
    (columns : AreColumns v.sorts.items v.numbers.items v.first v.room (vec_capacity v.sorts) (vec_capacity v.numbers)) where
  abbrev values : List Val
  values = values_in v.sorts.items v.numbers.items

  pub items-are : drop v.first values ≡ now.items
  items-are = ap (λ (kept : Kept). kept.items) view

  all-len : length values ≡ v.first + length now.items
  all-len = omega (arith, ap length items-are, length-drop v.first values, length-sorts v.sorts.items v.numbers.items columns.words, columns.within)

  pub sorts-len : vec_len v.sorts ≡ v.first + length now.items
  sorts-len = v.sorts.ok.0 ∙ length-sorts v.sorts.items v.numbers.items columns.words ∙ all-len

  pub numbers-len : vec_len v.numbers ≡ v.first + length now.items
  numbers-len = v.numbers.ok.0 ∙ length-numbers v.sorts.items v.numbers.items columns.words ∙ all-len

  module _ (i s n : ℕ) (within : i < length now.items) (sort : s ≡ get_or v.sorts.items (v.first + i) s) (number : n ≡ get_or v.numbers.items (v.first + i) n) where
    inside : v.first + i < length values
    inside = omega (arith, all-len, within)

    pub words-here : AreWords s n
    words-here = words-at v.sorts.items v.numbers.items (v.first + i) s n columns.words inside sort number

    pub value-here : slice_get now.items i ≡ Some (value_in s n)
    value-here =
        ap (λ xs. slice_get xs i) (sym items-are)
        ∙ slice_get-drop v.first values i (v.first + i) refl
        ∙ value-at v.sorts.items v.numbers.items (v.first + i) s n inside sort number

-- the columns keep their invariant
module _ (sorts numbers sorts' numbers' : List ℕ) (first room a b a' b' : ℕ) (columns : AreColumns sorts numbers first room a b) (as_sorts : a' ≡ a) (as_numbers : b' ≡ b) where
  words_now : (xs ys : List ℕ) → sorts' ≡ xs → numbers' ≡ ys → AllZip AreWords xs ys → AllZip AreWords sorts' numbers'
  words_now xs ys is_sorts is_numbers words = subst (λ l. AllZip AreWords l numbers') (sym is_sorts) (subst (AllZip AreWords xs) (sym is_numbers) words)

  pub columns-set : (i s n : ℕ) → AreWords s n → sorts' ≡ set sorts i s → numbers' ≡ set numbers i n → AreColumns sorts' numbers' first room a' b'
  columns-set i s n here is_sorts is_numbers = record {
    words = words_now _ _ is_sorts is_numbers (words-set sorts numbers i s n columns.words here);
    within = omega (arith, ap length is_sorts, length-set sorts i s, columns.within);
    room_for_sorts = omega (arith, ap length is_sorts, length-set sorts i s, columns.room_for_sorts, as_sorts);
    room_for_numbers = omega (arith, ap length is_numbers, length-set numbers i n, columns.room_for_numbers, as_numbers);
  }

  pub columns-remove : (i : ℕ) → first ≤ i → i < length sorts → i < length numbers → sorts' ≡ remove sorts i → numbers' ≡ remove numbers i → AreColumns sorts' numbers' first (room + 1) a' b'
  columns-remove i behind in_sorts in_numbers is_sorts is_numbers = record {
    words = words_now _ _ is_sorts is_numbers (words-remove sorts numbers i columns.words);
    within = omega (arith, ap length is_sorts, length-remove sorts i in_sorts, behind, in_sorts);
    room_for_sorts = omega (arith, ap length is_sorts, length-remove sorts i in_sorts, columns.room_for_sorts, as_sorts);
    room_for_numbers = omega (arith, ap length is_numbers, length-remove numbers i in_numbers, columns.room_for_numbers, as_numbers);
  }

  pub columns-push : (s n : ℕ) → 0 < room → AreWords s n → sorts' ≡ sorts ++ s ∷ [] → numbers' ≡ numbers ++ n ∷ [] → AreColumns sorts' numbers' first (room - 1) a' b'
  columns-push s n some here is_sorts is_numbers = record {
    words = words_now _ _ is_sorts is_numbers (words-push sorts numbers s n columns.words here);
    within = omega (arith, ap length is_sorts, length-append sorts (s ∷ []), columns.within);
    room_for_sorts = omega (arith, ap length is_sorts, length-append sorts (s ∷ []), columns.room_for_sorts, as_sorts, some);
    room_for_numbers = omega (arith, ap length is_numbers, length-append numbers (n ∷ []), columns.room_for_numbers, as_numbers, some);
  }

  pub columns-skip : first < length sorts → sorts' ≡ sorts → numbers' ≡ numbers → AreColumns sorts' numbers' (first + 1) (room + 1) a' b'
  columns-skip some is_sorts is_numbers = record {
    words = words_now _ _ is_sorts is_numbers columns.words;
    within = omega (arith, ap length is_sorts, some);
    room_for_sorts = omega (arith, ap length is_sorts, columns.room_for_sorts, as_sorts);
    room_for_numbers = omega (arith, ap length is_numbers, columns.room_for_numbers, as_numbers);
  }

  module _ (first' : ℕ) (closed : first' ≡ 0) (is_sorts : sorts' ≡ drop first sorts) (is_numbers : numbers' ≡ drop first numbers) where
    begins : first ≤ length numbers
    begins = omega (arith, columns.within, length-sorts sorts numbers columns.words, length-numbers sorts numbers columns.words)

    pub columns-close : AreColumns sorts' numbers' first' room a' b'
    columns-close = record {
      words = words_now _ _ is_sorts is_numbers (words-drop first sorts numbers columns.words);
      within = omega (arith, closed);
      room_for_sorts = omega (arith, ap length is_sorts, length-drop first sorts, columns.within, columns.room_for_sorts, as_sorts, closed);
      room_for_numbers = omega (arith, ap length is_numbers, length-drop first numbers, begins, columns.room_for_numbers, as_numbers, closed);
    }

    pub values-close : drop first' (values_in sorts' numbers') ≡ drop first (values_in sorts numbers)
    values-close = (λ j. drop (closed j) (values_in (is_sorts j) (is_numbers j))) ∙ values-drop first sorts numbers columns.words

  module _ (s n : ℕ) (some : first < length sorts) (is_sorts : sorts ≡ sorts' ++ s ∷ []) (is_numbers : numbers ≡ numbers' ++ n ∷ []) where
    popped : AllZip AreWords sorts' numbers' × AreWords s n
    popped = words-pop sorts' numbers' s n (subst (λ xs. AllZip AreWords xs (numbers' ++ n ∷ [])) is_sorts (subst (AllZip AreWords sorts) is_numbers columns.words))

    begins' : first ≤ length sorts'
    begins' = omega (arith, ap length is_sorts, length-append sorts' (s ∷ []), some)

    pub columns-pop : AreColumns sorts' numbers' first (room + 1) a' b'
    columns-pop = record {
      words = popped.0;
      within = begins';
      room_for_sorts = omega (arith, ap length is_sorts, length-append sorts' (s ∷ []), columns.room_for_sorts, as_sorts);
      room_for_numbers = omega (arith, ap length is_numbers, length-append numbers' (n ∷ []), columns.room_for_numbers, as_numbers);
    }

    pub words-last : AreWords s n
    words-last = popped.1

    pub values-pop : drop first (values_in sorts numbers) ≡ drop first (values_in sorts' numbers') ++ value_in s n ∷ []
    values-pop =
        ap (drop first) ((λ i. values_in (is_sorts i) (is_numbers i)) ∙ values-push sorts' numbers' s n popped.0)
        ∙ drop-append-le first (values_in sorts' numbers') (value_in s n ∷ []) (omega (arith, begins', length-sorts sorts' numbers' popped.0))

-- if all sorts in a range are those of references, the references there are the numbers
pub all-references : (sorts numbers : List ℕ) → length sorts ≡ length numbers → (from n : ℕ) → All (λ sort. 2 < sort) (take n (drop from sorts))
    → references (take n (drop from (map item (values_in sorts numbers)))) ≡ take n (drop from numbers)
all-references [] [] same zero zero all = refl
all-references [] [] same zero (suc n) all = refl
all-references [] [] same (suc from) zero all = refl
all-references [] [] same (suc from) (suc n) all = refl
all-references [] (m ∷ numbers) same from n all = absurd (omega (arith, same))
all-references (s ∷ sorts) [] same from n all = absurd (omega (arith, same))
all-references (s ∷ sorts) (m ∷ numbers) same (suc from) n all = all-references sorts numbers (omega (arith, same)) from n all
all-references (s ∷ sorts) (m ∷ numbers) same zero zero all = refl
all-references (s ∷ sorts) (m ∷ numbers) same zero (suc n) all = ap (λ v. references (item v ∷ take n (map item (values_in sorts numbers))))
    (value_is s m (All-head (λ sort. 2 < sort) s (take n sorts) all)) ∙ ap (λ rest. m ∷ rest) (all-references sorts numbers (omega (arith, same)) zero n
    (All-tail (λ sort. 2 < sort) s (take n sorts) all))
  where
    value_is : (s m : ℕ) → 2 < s → value_in s m ≡ Ref m
    value_is zero m above = absurd (omega (arith, above))
    value_is (suc zero) m above = absurd (omega (arith, above))
    value_is (suc (suc zero)) m above = absurd (omega (arith, above))
    value_is (suc (suc (suc s))) m above = refl
