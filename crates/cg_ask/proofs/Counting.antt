-- Numbers of members, and how often they occur in lists.
use Rattle.std.proofs.Common.{◌≡◌, refl, sym, ◌∙◌, ap, ℕ, zero, suc, ◌+◌, ◌-◌, ◌<◌, ◌≤◌, ◌^◌, Bool, true, false, ◌⊎◌, inl, inr, List, [], ◌∷◌, ◌++◌, length, take, drop, Some, arith, get_or, set, replicate, take_all, append-nil, length-append}
use Rattle.std.specs.Prelude.{if◌then◌else◌, slice_get}
use Rattle.std.specs.List.{concat}
use Rattle.std.proofs.lemmas.Bool.{cases_eq, cases_lt}
use Rattle.std.proofs.lemmas.List.{take_more, take-append-drop, length-map, length-replicate, get_or-map, get_or_read_under}
use Rattle.std.proofs.lemmas.List.Folds.{concat-append}
use Rattle.cg_graph.specs.Member.{Includes}
use Rattle.cg_graph.specs.Holdings.{occurrences}
use Rattle.cg_graph.proofs.Members.{either, Includes-append_cases}
use Rattle.cg_graph.proofs.Objects.{occurrences-append}
use Rattle.cg_search.specs.Places.{Marks, is_marked}
use Rattle.cg_search.specs.Counts.{Adds, targets_from}
use Rattle.cg_search.proofs.Counting.{few_occurrences, targets_all, past_end, zeros}
use Rattle.cg_snapshot.specs.declared.heap.Member.{Member}
use Rattle.cg_ask.specs.Asked.{rows_of, words_of, references_of, all_words_of, degrees_of, degree_at, outside_at, all_told}
use Rattle.cg_ask.specs.Counted.{CountEach, IsCounts, AreOutside}
use Rattle.cg_ask.specs.declared.counts.Counts.{Counts}

-- a subset of the nodes has at most as many targets
pub targets_few : (x : ℕ) (marks : List Bool) (rows : List (List ℕ)) → occurrences x (targets_from marks rows) ≤ occurrences x (concat rows)
targets_few x (true ∷ marks) (r ∷ rows) = omega (arith, occurrences-append x r (targets_from marks rows), occurrences-append x r (concat rows), targets_few x marks rows)
targets_few x (false ∷ marks) (r ∷ rows) = omega (arith, occurrences-append x r (concat rows), targets_few x marks rows)
targets_few x xs rows = omega arith

bits : (a b : Bool) → (a ≡ true → b ≡ true) → (x : ℕ) (r s t : List ℕ) → occurrences x s ≤ occurrences x t → occurrences x ((if a then r else []) ++ s) ≤ occurrences x ((if b then r else []) ++ t)
bits true true h x r s t le = omega (arith, occurrences-append x r s, occurrences-append x r t, le)
bits true false h x r s t le = let clash : false ≡ true = h refl in absurd (cc)
bits false true h x r s t le = omega (arith, occurrences-append x r t, le)
bits false false h x r s t le = le

-- more nodes have more targets
pub targets_mono : (x : ℕ) (marks others : List Bool) (rows : List (List ℕ)) → length others ≡ length rows → ((i : ℕ) → Marks marks i → Marks others i)
    → occurrences x (targets_from marks rows) ≤ occurrences x (targets_from others rows)
targets_mono x (a ∷ marks) [] (r ∷ rows) long h = absurd (omega (arith, long))
targets_mono x (a ∷ marks) (b ∷ others) (r ∷ rows) long h =
    bits a b (λ e. some_is b (h 0 (ap Some e))) x r (targets_from marks rows) (targets_from others rows) (targets_mono x marks others rows (omega (arith, long)) (λ i m. h (suc i) m))
  where
    some_is : (c : Bool) → Some c ≡ Some true → c ≡ true
    some_is c e = cc
targets_mono x xs others rows long h = omega arith

pub targets_none : (n : ℕ) (rows : List (List ℕ)) → targets_from (replicate n false) rows ≡ []
targets_none (suc n) (r ∷ rows) = targets_none n rows
targets_none n rows = refl

-- one more node is marked
pub targets_set : (x : ℕ) (marks : List Bool) (rows : List (List ℕ)) (at : ℕ) → at < length rows → length marks ≡ length rows → is_marked marks at ≡ false
    → occurrences x (targets_from (set marks at true) rows) ≡ occurrences x (targets_from marks rows) + occurrences x (get_or rows at [])
targets_set x [] rows at within long off = absurd (omega (arith, within, long))
targets_set x (m ∷ marks) [] at within long off = absurd (omega (arith, within))
targets_set x (m ∷ marks) (r ∷ rows) zero within long off =
    let now : occurrences x ((if m then r else []) ++ targets_from marks rows) ≡ occurrences x (targets_from marks rows) =
    ap (λ b. occurrences x ((if b then r else []) ++ targets_from marks rows)) off in
    omega (arith, now, occurrences-append x r (targets_from marks rows))
targets_set x (m ∷ marks) (r ∷ rows) (suc at) within long off =
    omega (
      arith,
      targets_set x marks rows at (omega (arith, within)) (omega (arith, long)) off,
      occurrences-append x (if m then r else [])
          (targets_from (set marks at true) rows),
      occurrences-append x (if m then r else []) (targets_from marks rows),
    )

-- a target of a node is a target of all
pub concat_row : (rows : List (List ℕ)) (x : ℕ) → Includes (concat rows) x → (k : ℕ) × (row : List ℕ) × (slice_get rows k ≡ Some row) × Includes row x
concat_row [] x m = absurd m
concat_row (r ∷ rows) x m = either (Includes-append_cases r (concat rows) x m) (λ h. (0, r, refl, h)) (λ h. let found = concat_row rows x h in (suc found.0, found.1, found.2, found.3))

-- all rows have what one row has
pub row_few : (x : ℕ) (rows : List (List ℕ)) (k : ℕ) (row : List ℕ) → slice_get rows k ≡ Some row → occurrences x row ≤ occurrences x (concat rows)
row_few x [] k row e = absurd (cc)
row_few x (r ∷ rows) zero row e = let same : r ≡ row = cc in omega (arith, ap (occurrences x) same, occurrences-append x r (concat rows))
row_few x (r ∷ rows) (suc k) row e = omega (arith, row_few x rows k row e, occurrences-append x r (concat rows))

-- counts of words, row by row
pub record CountsSo (count : ℕ) (rows : List (List ℕ)) (at : ℕ) (counts : List ℕ) : Type 0 where
  pub len : length counts ≡ count
  pub each : (i : ℕ) → i < count → get_or counts i 0 ≡ occurrences i (concat (take at rows))

pub so_first : (count : ℕ) (rows : List (List ℕ)) (counts : List ℕ) → counts ≡ replicate count 0 → CountsSo count rows 0 counts
so_first count rows counts is = record { len = ap (λ (xs : List ℕ). length xs) is ∙ length-replicate count 0; each = λ i within. ap (λ (xs : List ℕ). get_or xs i 0) is ∙ zeros count i }

concat_next : (rows : List (List ℕ)) (k : ℕ) (row : List ℕ) → k < length rows → row ≡ get_or rows k row → concat (take (k + 1) rows) ≡ concat (take k rows) ++ row
concat_next rows k row within is =
    ap concat (take_more rows k row within ∙ ap (λ (r : List ℕ). take k rows ++ r ∷ []) (sym is)) ∙ concat-append (take k rows) (row ∷ []) ∙ ap (λ t. concat (take k rows) ++ t) (append-nil row)

concat_room : (rows : List (List ℕ)) (k : ℕ) (row : List ℕ) → k < length rows → row ≡ get_or rows k row → length (concat (take k rows)) + length row ≤ length (concat rows)
concat_room rows k row within is =
    let parts : length (concat rows) ≡ length (concat (take (k + 1) rows)) + length (concat (drop (k + 1) rows)) =
    ap (λ (rs : List (List ℕ)). length (concat rs)) (sym (take-append-drop (k + 1) rows)) ∙ ap (λ (xs : List ℕ). length xs) (concat-append (take (k + 1) rows)
    (drop (k + 1) rows)) ∙ length-append (concat (take (k + 1) rows)) (concat (drop (k + 1) rows)) in
    omega (arith, parts, ap (λ (xs : List ℕ). length xs) (concat_next rows k row within is), length-append (concat (take k rows)) row)

pub so_room : (count : ℕ) (rows : List (List ℕ)) (at : ℕ) (counts row : List ℕ) → at < length rows → row ≡ get_or rows at row → length (concat rows) < 2 ^ 64
    → CountsSo count rows at counts → (i : ℕ) → get_or counts i 0 + length row < 2 ^ 64
so_room count rows at counts row within is few so i = either (le_or i count)
    (λ below. omega (arith, so.each i below, few_occurrences i (concat (take at rows)), concat_room rows at row within is, few))
    (λ past. omega (arith, past_end counts i (omega (arith, past, so.len)), concat_room rows at row within is, few))
  where
    le_or : (i n : ℕ) → (i < n) ⊎ (n ≤ i)
    le_or i n = either (cases_lt i n) (λ l. inl l) (λ g. inr g)

pub so_more : (count : ℕ) (rows : List (List ℕ)) (at : ℕ) (counts now row : List ℕ) → at < length rows → row ≡ get_or rows at row
    → CountsSo count rows at counts → Adds counts row now → CountsSo count rows (at + 1) now
so_more count rows at counts now row within is so h = record {
  len = h.len ∙ so.len;
  each = λ i below.
      let parts : occurrences i (concat (take (at + 1) rows)) ≡ occurrences i (concat (take at rows)) + occurrences i row =
      ap (occurrences i) (concat_next rows at row within is) ∙ occurrences-append i (concat (take at rows)) row in
      omega (arith, parts, so.each i below, h.adds i (omega (arith, below, so.len)));
}

pub so_all : (count : ℕ) (rows : List (List ℕ)) (at : ℕ) (counts : List ℕ) → length rows ≤ at → CountsSo count rows at counts → CountEach count (concat rows) counts
so_all count rows at counts end so = record { len = so.len; each = λ i within. so.each i within ∙ ap (λ (rs : List (List ℕ)). occurrences i (concat rs)) (take_all at rows end) }

-- the in-degree of a member
pub degree_read : (ms : List Member) (at : ℕ) (m : Member) → at < length ms → m ≡ get_or ms at m → degree_at ms at ≡ m.degree
degree_read ms at m within is = get_or-map (λ (k : Member). k.degree) ms at m 0 within ∙ ap (λ (k : Member). k.degree) (sym is)

pub no_degree : (ms : List Member) (at : ℕ) → length ms ≤ at → degree_at ms at ≡ 0
no_degree ms at past = past_end (degrees_of ms) at (omega (arith, past, length-map ms (λ (k : Member). k.degree)))

pub row_read : (ms : List Member) (at : ℕ) (m : Member) → at < length ms → m ≡ get_or ms at m → get_or (rows_of ms) at [] ≡ m.refs
row_read ms at m within is = get_or-map (λ (k : Member). k.refs) ms at m [] within ∙ ap (λ (k : Member). k.refs) (sym is)

pub words_read : (ms : List Member) (at : ℕ) (m : Member) → at < length ms → m ≡ get_or ms at m → get_or (words_of ms) at [] ≡ m.untold
words_read ms at m within is = get_or-map (λ (k : Member). k.untold) ms at m [] within ∙ ap (λ (k : Member). k.untold) (sym is)

pub degrees-all_told : (ms : List Member) → degrees_of (all_told ms) ≡ degrees_of ms
degrees-all_told [] = refl
degrees-all_told (m ∷ ms) = ap (λ t. m.degree ∷ t) (degrees-all_told ms)

pub occurrences-all_told : (x : ℕ) (ms : List Member) → occurrences x (references_of (all_told ms)) ≡ occurrences x (references_of ms) + occurrences x (all_words_of ms)
occurrences-all_told x [] = refl
occurrences-all_told x (m ∷ ms) =
    omega (
      arith,
      occurrences-all_told x ms,
      occurrences-append x (m.refs ++ m.untold) (references_of (all_told ms)),
      occurrences-append x m.refs m.untold,
      occurrences-append x m.refs (references_of ms),
      occurrences-append x m.untold (all_words_of ms),
    )

pub told_each : (ms : List Member) (all : List Bool) (counts : List ℕ) → all ≡ replicate (length ms) true → length counts ≡ length ms
    → ((i : ℕ) → i < length ms → get_or counts i 0 ≡ occurrences i (targets_from all (rows_of ms))) → CountEach (length ms) (references_of ms) counts
told_each ms all counts is long each = record {
  len = long;
  each = λ i within. each i within ∙ ap (λ (bs : List Bool). occurrences i (targets_from bs (rows_of ms))) is
      ∙ ap (occurrences i) (targets_all (rows_of ms) (length ms) (sym (length-map ms (λ (m : Member). m.refs))));
}

-- a count that is read
pub count_read : (count : ℕ) (targets counts : List ℕ) (at read : ℕ) → CountEach count targets counts → at < count → read ≡ get_or counts at read → read ≡ occurrences at targets
count_read count targets counts at read h within is = get_or_read_under counts at (length counts) read 0 is (omega (arith, within, h.len)) refl ∙ h.each at within

-- outside holds, one by one
pub record OutsideSo (ms : List Member) (at : ℕ) (outside : List ℕ) : Type 0 where
  pub len : length outside ≡ at
  pub each : (i : ℕ) → i < at → get_or outside i 0 ≡ outside_at ms i

pub outside_first : (ms : List Member) (outside : List ℕ) → outside ≡ [] → OutsideSo ms 0 outside
outside_first ms outside is = record { len = ap (λ (ns : List ℕ). length ns) is; each = λ i low. absurd (omega (arith, low)) }

pub outside_next : (ms : List Member) (c : Counts) (at : ℕ) (outside new : List ℕ) (m : Member) (told holds : ℕ) → IsCounts ms c → at < length ms → m
    ≡ get_or ms at m → told ≡ get_or c.told.items at told → holds ≡ m.degree - told → new ≡ outside ++ holds ∷ [] → OutsideSo ms at outside
    → OutsideSo ms (at + 1) new
outside_next ms c at outside new m told holds counts within is read less pushed h = record {
  len = omega (arith, ap (λ (ns : List ℕ). length ns) pushed, length-append outside (holds ∷ []), h.len);
  each = λ i low. either (cases_eq i at)
      (λ e. ap (λ (ns : List ℕ). get_or ns i 0) pushed ∙ last outside holds i (e ∙ sym h.len) ∙ value ∙ ap (outside_at ms) (sym e))
      (λ n. ap (λ (ns : List ℕ). get_or ns i 0) pushed ∙ front outside holds i (omega (arith, low, n, h.len)) ∙ h.each i (omega (arith, low, n)));
}
  where
    value : holds ≡ outside_at ms at
    value =
        let told_is = count_read (length ms) (references_of ms) c.told.items at told counts.told within read in
        less ∙ ap (λ n. m.degree - n) told_is ∙ ap (λ n. n - occurrences at (references_of ms)) (sym (degree_read ms at m within is))

    last : (xs : List ℕ) (y i : ℕ) → i ≡ length xs → get_or (xs ++ y ∷ []) i 0 ≡ y
    last [] y zero e = refl
    last (x ∷ xs) y (suc i) e = last xs y i (omega (arith, e))
    last xs y n e = absurd (omega (arith, e))

    front : (xs : List ℕ) (y i : ℕ) → i < length xs → get_or (xs ++ y ∷ []) i 0 ≡ get_or xs i 0
    front [] y i low = absurd (omega (arith, low))
    front (x ∷ xs) y zero low = refl
    front (x ∷ xs) y (suc i) low = front xs y i (omega (arith, low))

pub outside_all : (ms : List Member) (at : ℕ) (outside : List ℕ) → length ms ≤ at → at ≤ length ms → OutsideSo ms at outside → AreOutside ms outside
outside_all ms at outside end low h =
    let same : at ≡ length ms = omega (arith, end, low) in
    record { len = h.len ∙ same; each = λ i within. h.each i (omega (arith, within, same)) }

pub words_row : (ms : List Member) (at : ℕ) (m : Member) (row : List ℕ) → at < length ms → m ≡ get_or ms at m → row ≡ m.untold → row ≡ get_or (words_of ms) at row
words_row ms at m row within is read = read ∙ sym (get_or-map (λ (k : Member). k.untold) ms at m row within ∙ ap (λ (k : Member). k.untold) (sym is))
