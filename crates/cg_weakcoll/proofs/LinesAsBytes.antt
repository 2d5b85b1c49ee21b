-- Concatenated lines, as bytes.
use Rattle.std.proofs.Common.{◌≡◌, ℕ, List, [], ◌∷◌, ◌++◌, map, refl, sym, ap, ◌∙◌, append_assoc}
use Rattle.std.proofs.lemmas.List.{map-append}
use Rattle.cg_script.specs.Pieces.{lines_of}
use Rattle.cg_script.specs.Canonical.{joined}
use Rattle.cg_weakcoll.specs.Expansion.{with_feed, with_feeds, written_from, finalize_numbers_from, call_lines, expansion}

pub with_feeds-append : (xs ys : List (List ℕ)) → with_feeds (xs ++ ys) ≡ with_feeds xs ++ with_feeds ys
with_feeds-append [] ys = refl
with_feeds-append (x ∷ xs) ys = ap (λ t. with_feed x ++ t) (with_feeds-append xs ys) ∙ sym (append_assoc (with_feed x) (with_feeds xs) (with_feeds ys))

-- some lines, then others
pub both_written : (old mid now : List ℕ) (xs ys : List (List (List ℕ))) → mid ≡ old ++ with_feeds (map joined xs) → now ≡ mid ++ with_feeds (map joined ys)
    → now ≡ old ++ with_feeds (map joined (xs ++ ys))
both_written old mid now xs ys first second =
    second
    ∙ ap (λ t. t ++ with_feeds (map joined ys)) first
    ∙ append_assoc old (with_feeds (map joined xs)) (with_feeds (map joined ys))
    ∙ ap (λ t. old ++ t) (sym (with_feeds-append (map joined xs) (map joined ys)) ∙ ap with_feeds (sym (map-append joined xs ys)))

-- what is written for all lines, and the final calls
pub all_written : (bytes none text now no_number numbers : List ℕ) → none ≡ [] → no_number ≡ [] → text ≡ none ++ with_feeds (written_from 1 (lines_of bytes))
    → numbers ≡ no_number ++ finalize_numbers_from 1 (lines_of bytes)
    → now ≡ text ++ with_feeds (call_lines numbers) → now ≡ expansion bytes
unfolding expansion
all_written bytes none text now no_number numbers empty no_numbers lines finals whole =
    let first : text ≡ with_feeds (written_from 1 (lines_of bytes)) = lines ∙ ap (λ t. t ++ with_feeds (written_from 1 (lines_of bytes))) empty in
    let last : numbers ≡ finalize_numbers_from 1 (lines_of bytes) = finals ∙ ap (λ t. t ++ finalize_numbers_from 1 (lines_of bytes)) no_numbers in
    whole
    ∙ ap (λ t. t ++ with_feeds (call_lines numbers)) first
    ∙ ap (λ t. with_feeds (written_from 1 (lines_of bytes)) ++ with_feeds (call_lines t)) last
    ∙ sym (with_feeds-append (written_from 1 (lines_of bytes)) (call_lines (finalize_numbers_from 1 (lines_of bytes))))
