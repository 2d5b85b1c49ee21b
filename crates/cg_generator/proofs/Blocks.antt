-- The blocks of a generated script; it is well formed and uses only its own texts.
use Rattle.std.proofs.Common.{◌≡◌, ℕ, ◌+◌, ◌*◌, ◌<◌, ◌≤◌, ◌%◌, ◌==◌, ◌&&◌, Bool, true, false, if◌then◌else◌, List, [], ◌∷◌, ◌++◌, length, map, append_assoc, append-nil, length-append, refl, sym, ap, subst, ◌∙◌, arith, nat_lt, pos}
use Rattle.std.specs.List.{All, list_all, flat_map, range_with_len, sum_by}
use Rattle.std.proofs.lemmas.Bool.Decides.{nat_tests}
use Rattle.std.proofs.lemmas.List.Elements.{All-nil, All-cons, All-append, All-drop, All-head, All-tail, All-from_recursion}
use Rattle.std.proofs.lemmas.List.FromFn.{map-range_with_len_more, length-range_with_len}
use Rattle.std.proofs.lemmas.List.Concat.{flat_map-cons}
use Rattle.std.proofs.lemmas.Grind.{flat_map-append}
use Rattle.cg_script.proofs.Ascii.{both}
use Rattle.cg_script.specs.declared.command.Operand.{Operand}
use Rattle.cg_script.specs.declared.command.Operand.TheVariants.{Int, Name}
use Rattle.cg_script.specs.declared.command.Command.{Command}
use Rattle.cg_script.specs.declared.command.Command.TheVariants.{MakeList, Append, Del, Collect}
use Rattle.cg_script.specs.declared.item.Item.{Item}
use Rattle.cg_script.specs.declared.item.Item.TheVariants.{Run}
use Rattle.cg_script.specs.Spelled.{IsSpelled, IsSpelledItem, IsSpelledCommand, IsNoProfile, HasFewWords}
use Rattle.cg_script.specs.Texts.{TextsAreKnown, item_texts, command_texts}
use Rattle.cg_generator.specs.Generated.{variables, ring, tree, link, block, beginning, blocks_to, ending, generated}

map_same : {X : Type 0} (xs : List X) → map (λ x. x) xs ≡ xs
map_same [] = refl
map_same (x ∷ xs) = ap (λ l. x ∷ l) (map_same xs)

range_more : (a n : ℕ) → range_with_len a (n + 1) ≡ range_with_len a n ++ (a + n) ∷ []
range_more a n = sym (map_same _) ∙ map-range_with_len_more (λ k. k) a n (a + n) refl ∙ ap (λ l. l ++ (a + n) ∷ []) (map_same _)

pub blocks_more : (n : ℕ) → blocks_to (n + 1) ≡ blocks_to n ++ block (n + 1)
blocks_more n =
    let number : 1 + n ≡ n + 1 = omega arith in
    ap (flat_map block) (range_more 1 n) ∙ flat_map-append block (range_with_len 1 n) ((1 + n) ∷ []) ∙ ap (λ l. blocks_to n ++ l) (ap (λ k. block k ++ []) number ∙ append-nil (block (n + 1)))

pub pushed_more : (old now after : List Item) (n : ℕ) → now ≡ old ++ blocks_to n → after ≡ now ++ block (n + 1) → after ≡ old ++ blocks_to (n + 1)
pushed_more old now after n so_far more = more ∙ ap (λ l. l ++ block (n + 1)) so_far ∙ append_assoc old (blocks_to n) (block (n + 1)) ∙ ap (λ l. old ++ l) (sym (blocks_more n))

-- a block is one of three
by_turns : (P : List Item → Type 0) (n : ℕ) → P ring → P (tree n) → P link → P (block n)
by_turns P n r t l = by (n % 3 == 1) (n % 3 == 2)
  where
    by : (first second : Bool) → P (if first then ring else if second then tree n else link)
    by true second = r
    by false true = t
    by false false = l

all_in_blocks : (P : Item → Type 0) → ((n : ℕ) → All P (block n)) → (numbers : List ℕ) → All P (flat_map block numbers)
all_in_blocks P each [] = All-nil P
all_in_blocks P each (n ∷ ns) = subst (All P) (sym (flat_map-cons block n ns)) (All-append P (block n) (flat_map block ns) (each n) (all_in_blocks P each ns))

-- a property of the items of each block and of the first and the last two holds of all
all_items : (P : Item → Type 0) (n : ℕ) → All P beginning → All P ring → ((i : ℕ) → All P (tree i)) → All P link → All P ending → All P (generated n).items
all_items P n b r t l e =
    All-append P (beginning ++ blocks_to n) ending (All-append P beginning (blocks_to n) b (all_in_blocks P (λ i. by_turns (All P) i r (t i) l) (range_with_len 1 n))) e

-- numbers below 3
all_below : (numbers : List ℕ) → list_all (λ n. nat_lt n 3) numbers ≡ true → All (λ n. n < 3) numbers
all_below [] e = All-nil (λ n. n < 3)
all_below (n ∷ ns) e = let two = both (nat_lt n 3) (list_all (λ k. nat_lt k 3) ns) e in All-cons (λ k. k < 3) n ns (grind (arith, nat_tests, two.0)) (all_below ns two.1)

abbrev KnownItem : Item → Type 0
KnownItem item = All (λ n. n < 3) (item_texts item)

known_items : (n : ℕ) → All KnownItem (generated n).items
known_items n =
    all_items KnownItem n (All-from_recursion KnownItem beginning (all_below (0 ∷ []) refl, tt))
    (All-from_recursion KnownItem ring (all_below (1 ∷ []) refl, (all_below (2 ∷ 1 ∷ []) refl, (all_below (1 ∷ 2 ∷ []) refl, (all_below (1 ∷ []) refl, (all_below (2 ∷ []) refl, tt))))))
    (λ i. All-from_recursion KnownItem (tree i) (all_below (1 ∷ []) refl, (all_below (1 ∷ 1 ∷ 1 ∷ []) refl, (all_below (1 ∷ 1 ∷ 1 ∷ []) refl, (all_below (1 ∷ []) refl, tt)))))
    (All-from_recursion KnownItem link (all_below (0 ∷ 0 ∷ []) refl, tt))
    (All-from_recursion KnownItem ending (all_below (0 ∷ []) refl, (all_below [] refl, tt)))

all_texts : (items : List Item) → All KnownItem items → All (λ n. n < 3) (flat_map item_texts items)
all_texts [] all = All-nil (λ n. n < 3)
all_texts (x ∷ xs) all =
    subst (All (λ n. n < 3)) (sym (flat_map-cons item_texts x xs)) (All-append (λ n. n < 3) (item_texts x) (flat_map item_texts xs)
    (All-head KnownItem x xs all) (all_texts xs (All-tail KnownItem x xs all)))

-- it uses only its own texts
pub generated_known : (n : ℕ) → TextsAreKnown (generated n)
generated_known n = all_texts (generated n).items (known_items n)

abbrev SpelledItem : Item → Type 0
SpelledItem = IsSpelledItem 3

-- `x = list v*` with few values, and a command without a list of values
list_spelled : (name : ℕ) (values : List Operand) → All (λ n. n < 3) (command_texts (MakeList name values)) → length values ≤ 64 → SpelledItem (Run (MakeList name values))
list_spelled name values known few = record { known = known; few_words = few }

spelled : (command : Command) → All (λ n. n < 3) (command_texts command) → HasFewWords command → SpelledItem (Run command)
spelled command known few = record { known = known; few_words = few }

spelled_items : (n : ℕ) → All SpelledItem (generated n).items
spelled_items n =
    let both_first = list_spelled 1 (Name 1 ∷ Name 1 ∷ []) (all_below (1 ∷ 1 ∷ 1 ∷ []) refl) (omega arith) in
    all_items SpelledItem n (All-from_recursion SpelledItem beginning (list_spelled 0 [] (all_below (0 ∷ []) refl) (omega arith), tt))
    (All-from_recursion SpelledItem ring (
      list_spelled 1 [] (all_below (1 ∷ []) refl) (omega arith),
      (
        list_spelled 2 (Name 1 ∷ []) (all_below (2 ∷ 1 ∷ []) refl) (omega arith),
        (
          spelled (Append (Name 1) (Name 2)) (all_below (1 ∷ 2 ∷ []) refl) tt,
          (spelled (Del 1) (all_below (1 ∷ []) refl) tt, (spelled (Del 2) (all_below (2 ∷ []) refl) tt, tt)),
        ),
      ),
    ))
    (λ i. All-from_recursion SpelledItem (tree i) (
      list_spelled 1 (Int (pos i) ∷ []) (all_below (1 ∷ []) refl) (omega arith),
      (both_first, (both_first, (spelled (Del 1) (all_below (1 ∷ []) refl) tt, tt))),
    ))
    (All-from_recursion SpelledItem link (list_spelled 0 (Name 0 ∷ []) (all_below (0 ∷ 0 ∷ []) refl) (omega arith), tt))
    (All-from_recursion SpelledItem ending (spelled (Del 0) (all_below (0 ∷ []) refl) tt, (spelled (Collect (pos 2)) (all_below [] refl) tt, tt)))

no_profiles : (n : ℕ) → All IsNoProfile (generated n).items
no_profiles n =
    all_items IsNoProfile n (All-from_recursion IsNoProfile beginning (tt, tt)) (All-from_recursion IsNoProfile ring (tt, (tt, (tt, (tt, (tt, tt))))))
    (λ i. All-from_recursion IsNoProfile (tree i) (tt, (tt, (tt, (tt, tt)))))
    (All-from_recursion IsNoProfile link (tt, tt))
    (All-from_recursion IsNoProfile ending (tt, (tt, tt)))

-- at most five items for each block
few_in_blocks : (numbers : List ℕ) → length (flat_map block numbers) ≤ 5 * length numbers
few_in_blocks [] = omega arith
few_in_blocks (n ∷ ns) =
    let here : length (block n) ≤ 5 = by_turns (λ l. length l ≤ 5) n (omega arith) (omega arith) (omega arith) in
    omega (arith, here, few_in_blocks ns, ap length (flat_map-cons block n ns), length-append (block n) (flat_map block ns))

few_items : (n : ℕ) → length (generated n).items ≤ 5 * n + 3
few_items n =
    omega (arith, few_in_blocks (range_with_len 1 n), length-range_with_len 1 n, length-append beginning (blocks_to n), length-append (beginning ++ blocks_to n) ending)

-- it is well formed
pub generated_spelled : (n : ℕ) → n ≤ 10000 → IsSpelled (generated n)
generated_spelled n few = record {
  lines = spelled_items n;
  profile_first = All-drop IsNoProfile 1 (generated n).items (no_profiles n);
  few_lines = omega (arith, few, few_items n);
  short = All-from_recursion (λ text. length text ≤ 1024) variables (omega arith, (omega arith, (omega arith, tt)));
  few_texts = omega arith;
}

same_script : (names : List (List ℕ)) (items : List Item) (n : ℕ) → names ≡ variables → items ≡ (generated n).items → generated n ≡ record { names = names; items = items }
same_script names items n same_names same_items = rw (same_names, same_items) refl

pub spelled_script : (names : List (List ℕ)) (items : List Item) (n : ℕ) → n ≤ 10000 → names ≡ variables → items ≡ (generated n).items → IsSpelled (record { names = names; items = items })
spelled_script names items n few same_names same_items = subst IsSpelled (same_script names items n same_names same_items) (generated_spelled n few)

pub known_script : (names : List (List ℕ)) (items : List Item) (n : ℕ) → names ≡ variables → items ≡ (generated n).items → TextsAreKnown (record { names = names; items = items })
known_script names items n same_names same_items = subst TextsAreKnown (same_script names items n same_names same_items) (generated_known n)
