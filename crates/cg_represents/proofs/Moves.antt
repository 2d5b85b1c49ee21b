-- Which references a change of entries moves: those of the removed or replaced entry.
use Rattle.std.proofs.Common.{◌≡◌, ℕ, zero, suc, Bool, true, false, inl, inr, ◌⊎◌, List, [], ◌∷◌, ◌++◌, Some, subst}
use Rattle.std.specs.Prelude.{if◌then◌else◌, option_to_list, remove, slice_get, slice_set}
use Rattle.cg_value.specs.declared.Val.{Val}
use Rattle.cg_value.specs.declared.Entry.{Entry}
use Rattle.cg_graph.specs.Member.{Includes}
use Rattle.cg_graph.specs.Value.{entry_at, entry_references, item, put, reference_in, references, references_of_value, same_value, value_at, without_key}
use Rattle.cg_graph.proofs.Members.{either, Includes-append_left, Includes-append_right, Includes-append_cases}

-- one item, or none
abbrev pub AtMostOne : List Entry → Type 0
AtMostOne entries = (entries ≡ []) ⊎ ((v : Val) × (entries ≡ item v ∷ []))

-- a reference of old entries is in the new entries or among those given up
abbrev pub StaysOrMoves : List Entry → List Entry → List ℕ → ℕ → Type 0
StaysOrMoves before after moved n = Includes (references before) n → Includes (references after) n ⊎ Includes moved n

pub past : (x : Entry) (before after : List Entry) (moved : List ℕ) (n : ℕ) → StaysOrMoves before after moved n → StaysOrMoves (x ∷ before) (x ∷ after) moved n
past x before after moved n h m = either (Includes-append_cases (entry_references x) (references before) n m) (λ k. inl (Includes-append_left (entry_references x) (references after) n k))
    (λ k. either (h k) (λ i. inl (Includes-append_right (entry_references x) (references after) n i)) (λ i. inr i))

pub goes_first : (x : Entry) (before after : List Entry) (n : ℕ) → ((Includes (references before) n) → Includes (references after) n) → StaysOrMoves (x ∷ before) after (entry_references x) n
goes_first x before after n h m = either (Includes-append_cases (entry_references x) (references before) n m) (λ k. inr k) (λ k. inl (h k))

pub appended_goes : (entries : List Entry) (e : Entry) (n : ℕ) → StaysOrMoves entries (entries ++ e ∷ []) [] n
appended_goes [] e n m = absurd m
appended_goes (x ∷ entries) e n m = past x entries (entries ++ e ∷ []) [] n (appended_goes entries e n) m

pub set_goes : (entries : List Entry) (i : ℕ) (old new : Entry) (n : ℕ) → slice_get entries i ≡ Some old → StaysOrMoves entries (slice_set entries i new) (entry_references old) n
set_goes [] i old new n e = λ m. absurd m
set_goes (x ∷ entries) zero old new n e = let same : x ≡ old = cc in subst (λ o. StaysOrMoves (x ∷ entries) (new ∷ entries) (entry_references o) n) same
    (goes_first x entries (new ∷ entries) n (λ k. Includes-append_right (entry_references new) (references entries) n k))
set_goes (x ∷ entries) (suc i) old new n e = past x entries (slice_set entries i new) (entry_references old) n (set_goes entries i old new n e)

pub removed_goes : (entries : List Entry) (i : ℕ) (old : Entry) (n : ℕ) → slice_get entries i ≡ Some old → StaysOrMoves entries (remove entries i) (entry_references old) n
removed_goes [] i old n e = λ m. absurd m
removed_goes (x ∷ entries) zero old n e = let same : x ≡ old = cc in subst (λ o. StaysOrMoves (x ∷ entries) entries (entry_references o) n) same (goes_first x entries entries n (λ k. k))
removed_goes (x ∷ entries) (suc i) old n e = past x entries (remove entries i) (entry_references old) n (removed_goes entries i old n e)

pub without_key_goes : (entries : List Entry) (key : Val) (old : Entry) (n : ℕ) → entry_at entries key ≡ Some old → StaysOrMoves entries (without_key entries key) (entry_references old) n
without_key_goes [] key old n e = λ m. absurd m
without_key_goes (x ∷ entries) key old n e = go (same_value x.key key) e (λ k. without_key_goes entries key old n k)
  where
    go : (b : Bool) → (if b then Some x else entry_at entries key) ≡ Some old → (entry_at entries key ≡ Some old → StaysOrMoves entries (without_key entries key)
        (entry_references old) n) → StaysOrMoves (x ∷ entries) (if b then entries else x ∷ without_key entries key) (entry_references old) n
    go true k ih = let same : x ≡ old = cc in subst (λ o. StaysOrMoves (x ∷ entries) entries (entry_references o) n) same (goes_first x entries entries n (λ i. i))
    go false k ih = past x entries (without_key entries key) (entry_references old) n (ih k)

pub put_goes : (entries : List Entry) (key v : Val) (n : ℕ) → StaysOrMoves entries (put entries key v) (references_of_value (value_at entries key)) n
put_goes [] key v n = λ m. absurd m
put_goes (x ∷ entries) key v n = go (same_value x.key key) (put_goes entries key v n)
  where
    new : Entry
    new = record { key = x.key; val = v }

    go : (b : Bool) → StaysOrMoves entries (put entries key v) (references_of_value (value_at entries key)) n → StaysOrMoves (x ∷ entries) (if b then new ∷ entries else x
        ∷ put entries key v) (references_of_value (if b then Some x.val else value_at entries key)) n
    go true ih = λ m. either (Includes-append_cases (entry_references x) (references entries) n m)
        (λ k. either (Includes-append_cases (option_to_list (reference_in x.val)) (option_to_list (reference_in x.key)) n k) (λ i. inr i)
        (λ i. inl (Includes-append_left (entry_references new) (references entries) n (Includes-append_right (option_to_list (reference_in v)) (option_to_list (reference_in x.key)) n i))))
        (λ k. inl (Includes-append_right (entry_references new) (references entries) n k))
    go false ih = past x entries (put entries key v) (references_of_value (value_at entries key)) n ih
