-- The members kept by untold words.
use Rattle.std.proofs.Common.{◌≡◌, refl, sym, ◌∙◌, ap, subst, ℕ, zero, suc, ◌+◌, ◌<◌, ◌≤◌, Bool, true, false, ◌⊎◌, inl, inr, List, [], ◌∷◌, ◌++◌, length, map, take, arith, get_or, take_all}
use Rattle.std.specs.Prelude.{◌↔◌}
use Rattle.std.specs.List.{concat}
use Rattle.std.proofs.lemmas.Bool.{cases_lt}
use Rattle.std.proofs.lemmas.List.{take_more, length-map, map-append}
use Rattle.std.proofs.lemmas.Option.{slice_get_within}
use Rattle.cg_graph.specs.Member.{Includes}
use Rattle.cg_graph.specs.Holdings.{occurrences}
use Rattle.cg_graph.specs.Reach.{Reach}
use Rattle.cg_graph.proofs.Members.{either}
use Rattle.cg_search.specs.Places.{Marks, edges_of, Leads}
use Rattle.cg_search.proofs.Places.{occurs, occurs_in}
use Rattle.cg_snapshot.specs.declared.heap.Member.{Member}
use Rattle.cg_ask.specs.Asked.{rows_of, references_of, all_words_of, degree_at, IsMember, IsHeld, edges, IsReached, all_told, with_words, IsKeptByWords}
use Rattle.cg_ask.specs.Counted.{IsCounts, AreOutside}
use Rattle.cg_ask.specs.declared.counts.Counts.{Counts}
use Rattle.cg_ask.specs.Faults.{AreRight}
use Rattle.cg_ask.specs.Marked.{MarkJust}
use Rattle.cg_ask.proofs.Counting.{no_degree, degrees-all_told, occurrences-all_told}
use Rattle.cg_ask.proofs.FaultsOfHeaps.{refs_within, words_within}
use Rattle.cg_ask.proofs.Marking.{is_or_not}
use Rattle.cg_ask.proofs.Reaching.{found_just}

pub length-all_told : (ms : List Member) → length (all_told ms) ≡ length ms
length-all_told ms = length-map ms with_words

degree_with : (ms : List Member) (i : ℕ) → degree_at (all_told ms) i ≡ degree_at ms i
degree_with ms i = ap (λ (ns : List ℕ). get_or ns i 0) (degrees-all_told ms)

pub held_with_just : (ms : List Member) (c : Counts) (outside : List ℕ) (held : List Bool) → IsCounts ms c → AreOutside ms outside
    → MarkJust (length c.words.items) (λ i. get_or c.words.items i 0 < get_or outside i 0) held → MarkJust (length ms) (IsHeld (all_told ms)) held
held_with_just ms c outside held counts out h = record {
  len = h.len ∙ counts.words.len;
  just = λ i. (
    λ m.
        let below : i < length ms = omega (arith, slice_get_within held i true m, h.len, counts.words.len) in
        let less = (h.just i).0 m in
        omega (arith, less, counts.words.each i below, out.each i below, occurrences-all_told i ms, degree_with ms i),
    λ p.
        let below = within i p in
        (h.just i).1 (omega (arith, p, counts.words.each i below, out.each i below, occurrences-all_told i ms, degree_with ms i)),
  );
}
  where
    within : (i : ℕ) → IsHeld (all_told ms) i → i < length ms
    within i p = either (cases_lt i (length ms)) (λ l. l) (λ g. absurd (omega (arith, p, degree_with ms i, no_degree ms i g)))

-- each reference and each untold word names a member
pub all_within : (ms : List Member) (rows : List (List ℕ)) → AreRight ms false → rows ≡ rows_of (all_told ms) → (i : ℕ) → Includes (concat rows) i → i < length ms
all_within ms rows right is i m =
    let here : Includes (references_of (all_told ms)) i = subst (λ (rs : List (List ℕ)). Includes (concat rs) i) is m in
    let some = occurs (references_of (all_told ms)) i here in
    either (either_some (occurrences i (references_of ms)) (occurrences i (all_words_of ms)) (omega (arith, some, occurrences-all_told i ms)))
    (λ k. refs_within ms false right i (occurs_in (references_of ms) i k))
    (λ k. words_within ms false right i (occurs_in (all_words_of ms) i k))
  where
    either_some : (a b : ℕ) → 0 < a + b → (0 < a) ⊎ (0 < b)
    either_some zero b h = inr (omega (arith, h))
    either_some (suc a) b h = inl (omega arith)

pub kept_just : (ms : List Member) (rows : List (List ℕ)) (held all found before kept : List Bool) → rows ≡ rows_of (all_told ms)
    → MarkJust (length ms) (IsHeld (all_told ms)) held → MarkJust (length ms) (λ i. i < length ms) all → length found ≡ length all
    → ((i : ℕ) → Marks found i ↔ Leads held all rows i)
    → MarkJust (length ms) (IsReached ms) before → MarkJust (length before) (λ i. Marks before i × ¬ Marks found i) kept → MarkJust (length ms) (IsKeptByWords ms) kept
kept_just ms rows held all found before kept is h a len led b k =
    let f = found_just ms rows held all found (IsHeld (all_told ms)) (IsMember ms) h.just a.just (len ∙ a.len) led (edges (all_told ms)) (ap edges_of (sym is)) in
    record {
      len = k.len ∙ b.len;
      just = λ i. (
        λ m.
            let p = (k.just i).0 m in
            let below : i < length ms = omega (arith, slice_get_within before i true p.0, b.len) in
            record {
              lost_with = record { member = omega (arith, below, length-all_told ms); no_path = λ r. p.1 ((f.just i).1 (to_members i r)) };
              reached = λ u. u.no_path ((b.just i).0 p.0);
            },
        λ q.
            let below : i < length ms = omega (arith, q.lost_with.member, length-all_told ms) in
            (k.just i).1 (
              either (is_or_not before i) (λ m. m) (λ n. absurd (q.reached (record { member = below; no_path = λ r. n ((b.just i).1 r) }))),
              λ m. q.lost_with.no_path (from_members i ((f.just i).0 m)),
            ),
      );
    }
  where
    to_members : (i : ℕ) → Reach (IsHeld (all_told ms)) (IsMember (all_told ms)) (edges (all_told ms)) i → Reach (IsHeld (all_told ms)) (IsMember ms) (edges (all_told ms)) i
    to_members i r = subst (λ n. Reach (IsHeld (all_told ms)) (λ o. o < n) (edges (all_told ms)) i) (length-all_told ms) r

    from_members : (i : ℕ) → Reach (IsHeld (all_told ms)) (IsMember ms) (edges (all_told ms)) i → Reach (IsHeld (all_told ms)) (IsMember (all_told ms)) (edges (all_told ms)) i
    from_members i r = subst (λ n. Reach (IsHeld (all_told ms)) (λ o. o < n) (edges (all_told ms)) i) (sym (length-all_told ms)) r

pub same_rows : (rows : List (List ℕ)) → map (λ (p : List ℕ). p) rows ≡ rows
same_rows [] = refl
same_rows (r ∷ rows) = ap (λ t. r ∷ t) (same_rows rows)

pub plain_rows : (rows : List (List ℕ)) (i : ℕ) → Includes (concat (map (λ (p : List ℕ). p) rows)) i → Includes (concat rows) i
plain_rows rows i m = subst (λ (rs : List (List ℕ)). Includes (concat rs) i) (same_rows rows) m

pub rows_long : (ms : List Member) (rows : List (List ℕ)) → rows ≡ rows_of (all_told ms) → length rows ≡ length ms
rows_long ms rows is = ap (λ (rs : List (List ℕ)). length rs) is ∙ length-map (all_told ms) (λ (m : Member). m.refs) ∙ length-all_told ms

pub told_next : (ms : List Member) (rows new : List (List ℕ)) (k : ℕ) (m : Member) (words : List ℕ) → k < length ms → m ≡ get_or ms k m → words ≡ m.refs
    ++ m.untold → rows ≡ rows_of (all_told (take k ms)) → new ≡ rows ++ words ∷ [] → new ≡ rows_of (all_told (take (k + 1) ms))
told_next ms rows new k m words within is read so pushed =
    pushed ∙ ap (λ (t : List (List ℕ)). t ++ words ∷ []) so ∙ ap (λ (r : List ℕ). rows_of (all_told (take k ms)) ++ r ∷ []) read
    ∙ sym (ap (λ (ks : List Member). rows_of (all_told ks)) (take_more ms k m within ∙ ap (λ (n : Member). take k ms ++ n ∷ []) (sym is))
    ∙ ap (λ (ks : List Member). rows_of ks) (map-append with_words (take k ms) (m ∷ [])) ∙ map-append (λ (n : Member). n.refs) (all_told (take k ms))
    (with_words m ∷ []))

pub told_all : (ms : List Member) (rows : List (List ℕ)) (k : ℕ) → length ms ≤ k → rows ≡ rows_of (all_told (take k ms)) → rows ≡ rows_of (all_told ms)
told_all ms rows k end so = so ∙ ap (λ (ks : List Member). rows_of (all_told ks)) (take_all k ms end)
