-- Counts against in-degrees, member by member.
use Rattle.std.proofs.Common.{◌≡◌, refl, sym, ◌∙◌, ap, subst, ℕ, ◌+◌, ◌<◌, ◌≤◌, Bool, true, List, [], ◌∷◌, ◌++◌, length, take, Some, arith, get_or, replicate, append-nil, length-append}
use Rattle.std.specs.Prelude.{◌↔◌, slice_get}
use Rattle.std.specs.List.{concat}
use Rattle.std.specs.Global.{Vec}
use Rattle.std.proofs.lemmas.Bool.{cases_eq}
use Rattle.std.proofs.lemmas.List.{take_more, map-append, length-map}
use Rattle.std.proofs.lemmas.List.Folds.{concat-append}
use Rattle.std.proofs.lemmas.Option.{same_Some, slice_get_within, slice_get_read}
use Rattle.cg_graph.specs.Holdings.{occurrences}
use Rattle.cg_graph.proofs.Members.{either}
use Rattle.cg_search.specs.Places.{Marks}
use Rattle.cg_search.specs.Counts.{targets_from}
use Rattle.cg_search.proofs.Places.{includes_at, place_in}
use Rattle.cg_search.proofs.Counting.{targets_all}
use Rattle.cg_records.specs.declared.graph.Member.{Member}
use Rattle.cg_cert.specs.Judged.{references_of, CoversReferences}
use Rattle.cg_cert.specs.Positions.{rows_in, CountTargets, CountReferences}

-- the rows so far, and the next
pub rows_next : (rows : List (Vec ℕ)) (k : ℕ) (v : Vec ℕ) → k < length rows → v ≡ get_or rows k v → length (concat (rows_in (take (k + 1) rows)))
    ≡ length (concat (rows_in (take k rows))) + length v.items
rows_next rows k v within read =
    ap (λ (rs : List (Vec ℕ)). length (concat (rows_in rs))) (take_more rows k v within ∙ ap (λ (w : Vec ℕ). take k rows ++ w ∷ []) (sym read))
    ∙ ap (λ (rs : List (List ℕ)). length (concat rs)) (map-append (λ (w : Vec ℕ). w.items) (take k rows) (v ∷ []))
    ∙ ap (λ (xs : List ℕ). length xs) (concat-append (rows_in (take k rows)) (v.items ∷ []))
    ∙ length-append (concat (rows_in (take k rows))) (concat (v.items ∷ []))
    ∙ ap (λ (xs : List ℕ). length (concat (rows_in (take k rows))) + length xs) (append-nil v.items)

-- the counts of targets of all nodes
pub count_all : (vecs : List (Vec ℕ)) (marks : List Bool) (counts : List ℕ) → marks ≡ replicate (length vecs) true → length counts ≡ length vecs
    → ((i : ℕ) → i < length vecs → get_or counts i 0 ≡ occurrences i (targets_from marks (rows_in vecs))) → CountTargets (rows_in vecs) counts
count_all vecs marks counts all long each =
    let same = length-map vecs (λ (v : Vec ℕ). v.items) in
    record {
      len = long ∙ sym same;
      each = λ i within. each i (omega (arith, within, same)) ∙ ap (occurrences i) (ap (λ (bs : List Bool). targets_from bs (rows_in vecs)) all ∙ targets_all (rows_in vecs) (length vecs) (sym same));
    }

-- the in-degrees of the first members are high enough
abbrev pub CoverFirst : List Member → ℕ → Type 0
CoverFirst members k = (i : ℕ) (m : Member) → i < k → slice_get members i ≡ Some m → occurrences m.serial (references_of members) ≤ m.degree

-- the first members are marked where their in-degrees exceed their occurrences
pub record ExceedFirst (members : List Member) (k : ℕ) (marks : List Bool) : Type 0 where
  pub len : length marks ≡ k
  pub each : (i : ℕ) (m : Member) → i < k → slice_get members i ≡ Some m → (Marks marks i ↔ occurrences m.serial (references_of members) < m.degree)

module _ (members : List Member) (counts : List ℕ) (is : CountReferences members counts) (k : ℕ) (m : Member) (within : k < length members) (read : m ≡ get_or members k m) where
  -- the member at a position
  here : slice_get members k ≡ Some m
  here = slice_get_read members (length members) k m refl within read

  pub cover_more : get_or counts k 0 ≤ m.degree → CoverFirst members k → CoverFirst members (k + 1)
  cover_more high so i x below at = either (cases_eq i k) same (λ other. so i x (omega (arith, below, other)) at)
    where
      same : i ≡ k → occurrences x.serial (references_of members) ≤ x.degree
      same e =
          let one : m ≡ x = same_Some m x (sym here ∙ ap (slice_get members) (sym e) ∙ at) in
          subst (λ (y : Member). occurrences y.serial (references_of members) ≤ y.degree) one (omega (arith, high, is.each k m here))

  pub cover_not : m.degree < get_or counts k 0 → CoversReferences members → ⊥
  cover_not low all = absurd (omega (arith, low, is.each k m here, all m (includes_at members k m here)))

pub cover_all : (members : List Member) (k : ℕ) → length members ≤ k → CoverFirst members k → CoversReferences members
cover_all members k end so m among = let found = place_in members m among in so found.0 m (omega (arith, end, slice_get_within members found.0 m found.1)) found.1
