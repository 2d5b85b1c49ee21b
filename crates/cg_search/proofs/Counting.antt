-- Counting: how often places are targets of the nodes so far.
use Rattle.std.proofs.Common.{◌≡◌, refl, sym, ◌∙◌, ap, ℕ, zero, suc, ◌+◌, ◌<◌, ◌≤◌, ◌^◌, Bool, true, false, ◌⊎◌, inl, inr, List, [], ◌∷◌, ◌++◌, length, take, map, get_or, replicate, arith, length-append, append-nil, append_assoc}
use Rattle.std.specs.Prelude.{if◌then◌else◌}
use Rattle.std.specs.List.{concat}
use Rattle.std.proofs.lemmas.Bool.{cases_lt}
use Rattle.std.proofs.lemmas.List.{length-replicate, get_or-map}
use Rattle.std.proofs.lemmas.List.Sums.{count_by-le-length}
use Rattle.std.specs.Prelude.{◌==◌}
use Rattle.cg_graph.specs.Holdings.{occurrences}
use Rattle.cg_graph.proofs.Members.{either}
use Rattle.cg_graph.proofs.Objects.{occurrences-append}
use Rattle.cg_search.specs.Counts.{Adds, targets_from}

pub few_occurrences : (o : ℕ) (xs : List ℕ) → occurrences o xs ≤ length xs
few_occurrences o xs = count_by-le-length (λ r. r == o) xs

-- the nodes so far, and the next
targets_suc : (marks : List Bool) (rows : List (List ℕ)) (k : ℕ) (row : List ℕ) → k < length rows → length marks ≡ length rows → row ≡ get_or rows k row
    → targets_from (take (suc k) marks) (take (suc k) rows) ≡ targets_from (take k marks) (take k rows) ++ (if get_or marks k false then row else [])
targets_suc [] rows k row within long is = absurd (omega (arith, long, within))
targets_suc (m ∷ marks) [] k row within long is = absurd (omega (arith, within))
targets_suc (m ∷ marks) (r ∷ rows) zero row within long is = append-nil (if m then r else []) ∙ ap (λ (x : List ℕ). if m then x else []) (sym is)
targets_suc (m ∷ marks) (r ∷ rows) (suc k) row within long is =
    ap (λ (ts : List ℕ). (if m then r else []) ++ ts) (targets_suc marks rows k row (omega (arith, within)) (omega (arith, long)) is)
    ∙ sym (append_assoc (if m then r else []) (targets_from (take k marks) (take k rows)) (if get_or marks k false then row else []))

pub targets_next : (marks : List Bool) (rows : List (List ℕ)) (k : ℕ) (row : List ℕ) → k < length rows → length marks ≡ length rows → row ≡ get_or rows k row
    → targets_from (take (k + 1) marks) (take (k + 1) rows) ≡ targets_from (take k marks) (take k rows) ++ (if get_or marks k false then row else [])
targets_next marks rows k row within long is =
    let one : k + 1 ≡ suc k = omega arith in
    ap (λ n. targets_from (take n marks) (take n rows)) one ∙ targets_suc marks rows k row within long is

-- the targets of all nodes
pub targets_all : (rows : List (List ℕ)) (n : ℕ) → n ≡ length rows → targets_from (replicate n true) rows ≡ concat rows
targets_all [] zero long = refl
targets_all (r ∷ rows) (suc n) long = ap (λ t. r ++ t) (targets_all rows n (omega (arith, long)))
targets_all xs n long = absurd (omega (arith, long))

chosen : (m : Bool) (r : List ℕ) → length (if m then r else []) ≤ length r
chosen true r = omega arith
chosen false r = omega arith

-- there is room for the next row
pub room_next : (marks : List Bool) (rows : List (List ℕ)) (k : ℕ) (row : List ℕ) → k < length rows → row ≡ get_or rows k row
    → length (targets_from (take k marks) (take k rows)) + length row ≤ length (concat rows)
room_next marks [] k row within is = absurd (omega (arith, within))
room_next [] (r ∷ rows) zero row within is = omega (arith, length-append r (concat rows), ap (λ (x : List ℕ). length x) is)
room_next (m ∷ marks) (r ∷ rows) zero row within is = omega (arith, length-append r (concat rows), ap (λ (x : List ℕ). length x) is)
room_next [] (r ∷ rows) (suc k) row within is = omega (arith, room_next [] rows k row (omega (arith, within)) is, length-append r (concat rows))
room_next (m ∷ marks) (r ∷ rows) (suc k) row within is =
    omega (arith, room_next marks rows k row (omega (arith, within)) is, length-append r (concat rows), chosen m r, length-append (if m then r else []) (targets_from (take k marks) (take k rows)))

-- The counts so far.
pub record CountsTo (marks : List Bool) (rows : List (List ℕ)) (at : ℕ) (counts : List ℕ) : Type 0 where
  pub len : length counts ≡ length rows
  pub each : (i : ℕ) → i < length rows → get_or counts i 0 ≡ occurrences i (targets_from (take at marks) (take at rows))

pub zeros : (n i : ℕ) → ◌≡◌ {A = ℕ} (get_or (replicate n 0) i 0) 0
zeros zero i = refl
zeros (suc n) zero = refl
zeros (suc n) (suc i) = zeros n i

pub counts_first : (marks : List Bool) (rows : List (List ℕ)) (n : ℕ) (counts : List ℕ) → counts ≡ replicate n 0 → n ≡ length rows → CountsTo marks rows 0 counts
counts_first marks rows n counts is long = record {
  len = ap (λ (xs : List ℕ). length xs) is ∙ length-replicate n 0 ∙ long;
  each = λ i within. ap (λ (xs : List ℕ). get_or xs i 0) is ∙ zeros n i;
}

pub past_end : (xs : List ℕ) (i : ℕ) → length xs ≤ i → get_or xs i 0 ≡ 0
past_end [] i h = refl
past_end (x ∷ xs) zero h = absurd (omega (arith, h))
past_end (x ∷ xs) (suc i) h = past_end xs i (omega (arith, h))

pub counts_room : (marks : List Bool) (rows : List (List ℕ)) (at : ℕ) (counts row : List ℕ) → at < length rows → row ≡ get_or rows at row
    → length (concat rows) < 2 ^ 64 → CountsTo marks rows at counts → (i : ℕ) → get_or counts i 0 + length row < 2 ^ 64
counts_room marks rows at counts row within is few so i = either (le_or i (length rows))
    (λ below. omega (arith, so.each i below, few_occurrences i (targets_from (take at marks) (take at rows)), room_next marks rows at row within is, few))
    (λ past. omega (arith, past_end counts i (omega (arith, past, so.len)), room_next marks rows at row within is, few))
  where
    le_or : (i n : ℕ) → (i < n) ⊎ (n ≤ i)
    le_or i n = either (cases_lt i n) (λ l. inl l) (λ g. inr g)

pub counts_more : (marks : List Bool) (rows : List (List ℕ)) (at : ℕ) (counts now row : List ℕ) → at < length rows → length marks ≡ length rows → row
    ≡ get_or rows at row → get_or marks at false ≡ true → CountsTo marks rows at counts → Adds counts row now → CountsTo marks rows (at + 1) now
counts_more marks rows at counts now row within long is mark so h = record {
  len = h.len ∙ so.len;
  each = λ i below.
      let parts : occurrences i (targets_from (take (at + 1) marks) (take (at + 1) rows)) ≡ occurrences i (targets_from (take at marks) (take at rows)) + occurrences i row =
      ap (occurrences i) (targets_next marks rows at row within long is ∙ ap (λ b. targets_from (take at marks) (take at rows) ++ (if b then row else [])) mark)
      ∙ occurrences-append i (targets_from (take at marks) (take at rows)) row in
      omega (arith, parts, so.each i below, h.adds i (omega (arith, below, so.len)));
}

pub counts_skip : (marks : List Bool) (rows : List (List ℕ)) (at : ℕ) (counts : List ℕ) → at < length rows → length marks ≡ length rows → get_or marks at false
    ≡ false → CountsTo marks rows at counts → CountsTo marks rows (at + 1) counts
counts_skip marks rows at counts within long mark so = record {
  len = so.len;
  each = λ i below.
      so.each i below
      ∙ ap (occurrences i) (sym (targets_next marks rows at (get_or rows at []) within long (get_or-twice rows at)
      ∙ ap (λ b. targets_from (take at marks) (take at rows) ++ (if b then get_or rows at [] else [])) mark
      ∙ append-nil (targets_from (take at marks) (take at rows))));
}
  where
    get_or-twice : (rs : List (List ℕ)) (k : ℕ) → get_or rs k [] ≡ get_or rs k (get_or rs k [])
    get_or-twice (r ∷ rs) (suc k) = get_or-twice rs k
    get_or-twice xs k = refl

-- the row of a node
pub row_of_node : {N : Type 0} (f : N → List ℕ) (nodes : List N) (at : ℕ) (n : N) (row : List ℕ) → at < length nodes → n ≡ get_or nodes at n → row ≡ f n → row ≡ get_or (map f nodes) at row
row_of_node f nodes at n row within read is = is ∙ ap f read ∙ sym (get_or-map f nodes at n row within)
