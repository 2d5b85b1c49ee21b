-- Each worked heap has its answer: its rows compute, and so does the text.
use Rattle.std.proofs.Common.{◌≡◌, refl, ℕ, List, [], ◌∷◌, ◌++◌, length, true, arith}
use Rattle.std.specs.Prelude.{codes}
use Rattle.std.specs.Fmt.{digits}
use Rattle.cg_snapshot.specs.declared.heap.Member.{Member}
use Rattle.cg_snapshot.specs.declared.question.Question.{Question}
use Rattle.cg_snapshot.specs.declared.question.Question.TheVariants.{Why, Referrers, Hidden, Lost, Dropped, Untold}
use Rattle.cg_snapshot.specs.Text.{AreMembers, question_text}
use Rattle.cg_ask.specs.Asked.{outside_at}
use Rattle.cg_ask.specs.Answers.{IsAnswer, line, rows_text, totals_of, way_text, by_path, by_none}
use Rattle.cg_heap_rows.specs.Worked.{IsAnswered, EachIsAnswered, worked_heaps, a_chain_with_a_shortcut, a_ring_that_was_dropped, held_twice_by_one, a_reference_that_is_not_told, a_ring_by_an_untracked_member, a_ring_with_a_legacy_finalizer, a_ring_that_one_holds, two_that_share, a_ring_by_an_untold_word, why_by_two, why_by_one, why_by_none_without, why_a_lost_one, referrers_with_a_double_reference, referrers_of_what_is_held_from_outside, hidden_by_untold_words, lost_and_taken, lost_and_kept_by_an_untracked_member, lost_and_set_aside, dropped_with_a_ring, dropped_out_of_a_ring, dropped_alone, dropped_together, kept_by_an_untold_word}
use Rattle.cg_heap_rows.proofs.Sets.{CollectsAll, DropsAll, are_right, is_right}
use Rattle.cg_heap_rows.proofs.Tables.{all_to}
use Rattle.cg_heap_rows.proofs.Told.{referrer_rows, tells_referrers, hidden_rows, tells_hidden, lost_rows, tells_lost, gone_rows, tells_gone, kept_rows, tells_kept}
use Rattle.cg_heap_rows.proofs.Ways.{by_one, by_two, by_no_path}

module _ (ms : List Member) (fits : all_to (length ms) (is_right ms) ≡ true) where
  answered : (q : Question) (lines text : List ℕ) → IsAnswer ms q lines → text ≡ question_text q ++ lines ++ codes "done\n" → IsAnswered (record { members = ms; question = q; text = text })
  answered q lines text told whole = record { right = are_right ms fits; answers = record { lines = lines; is_answer = told; whole = whole } }

  refers : (o : ℕ) (text : List ℕ) → (let lines : List ℕ = rows_text (codes "referrer") (referrer_rows ms o) ++ line (codes "outside") (outside_at ms o ∷ [])
      in text ≡ question_text (Referrers o) ++ lines ++ codes "done\n") → IsAnswered (record { members = ms; question = Referrers o; text = text })
  refers o text whole = answered (Referrers o) (rows_text (codes "referrer") (referrer_rows ms o) ++ line (codes "outside") (outside_at ms o ∷ [])) text
      (referrer_rows ms o, tells_referrers ms o, refl) whole

  collects : (text : List ℕ) → CollectsAll ms → text ≡ question_text Lost ++ (rows_text (codes "lost") (lost_rows ms) ++ []) ++ codes "done\n"
      → IsAnswered (record { members = ms; question = Lost; text = text })
  collects text c whole = answered Lost (rows_text (codes "lost") (lost_rows ms) ++ []) text (lost_rows ms, tells_lost ms (are_right ms fits) c, refl) whole

  drops : (places text : List ℕ) → AreMembers (length ms) places → DropsAll ms places
      → (let lines : List ℕ = rows_text (codes "gone") (gone_rows ms places) ++ line (codes "total") (totals_of ms (gone_rows ms places))
      in text ≡ question_text (Dropped places) ++ lines ++ codes "done\n") → IsAnswered (record { members = ms; question = Dropped places; text = text })
  drops places text members d whole =
      answered (Dropped places) (rows_text (codes "gone") (gone_rows ms places) ++ line (codes "total") (totals_of ms (gone_rows ms places))) text
      (gone_rows ms places, tells_gone ms places (are_right ms fits) members d, refl) whole

why_by_two_is_answered : IsAnswered why_by_two
unfolding digits
why_by_two_is_answered = answered a_chain_with_a_shortcut refl (Why 2 []) (way_text a_chain_with_a_shortcut (0 ∷ 2 ∷ [])) _
    (by_path (0 ∷ 2 ∷ []) (by_two a_chain_with_a_shortcut [] 0 2 (1 ∷ 2 ∷ []) refl refl refl refl refl refl) refl) refl

why_by_one_is_answered : IsAnswered why_by_one
unfolding digits
why_by_one_is_answered = answered a_chain_with_a_shortcut refl (Why 0 (1 ∷ [])) (way_text a_chain_with_a_shortcut (0 ∷ [])) _
    (by_path (0 ∷ []) (by_one a_chain_with_a_shortcut (1 ∷ []) 0 refl refl) refl) refl

why_by_none_without_is_answered : IsAnswered why_by_none_without
unfolding digits
why_by_none_without_is_answered = answered a_chain_with_a_shortcut refl (Why 2 (0 ∷ [])) (line (codes "none") []) _
    (by_none (by_no_path a_chain_with_a_shortcut (0 ∷ []) 2 refl refl) refl) refl

why_a_lost_one_is_answered : IsAnswered why_a_lost_one
unfolding digits
why_a_lost_one_is_answered = answered a_ring_that_was_dropped refl (Why 1 []) (line (codes "none") []) _ (by_none (by_no_path a_ring_that_was_dropped [] 1 refl refl) refl) refl

referrers_with_a_double_reference_is_answered : IsAnswered referrers_with_a_double_reference
unfolding digits
referrers_with_a_double_reference_is_answered = refers held_twice_by_one refl 1 _ refl

referrers_of_what_is_held_from_outside_is_answered : IsAnswered referrers_of_what_is_held_from_outside
unfolding digits
referrers_of_what_is_held_from_outside_is_answered = refers held_twice_by_one refl 0 _ refl

hidden_by_untold_words_is_answered : IsAnswered hidden_by_untold_words
unfolding digits
hidden_by_untold_words_is_answered = answered a_reference_that_is_not_told refl Hidden (rows_text (codes "hidden") (hidden_rows a_reference_that_is_not_told) ++ []) _
    (hidden_rows a_reference_that_is_not_told, tells_hidden a_reference_that_is_not_told, refl) refl

lost_and_taken_is_answered : IsAnswered lost_and_taken
unfolding digits
lost_and_taken_is_answered = collects a_ring_that_was_dropped refl _ (record { reaches = refl; finds = refl; sets_aside = refl; dies = refl }) refl

lost_and_kept_by_an_untracked_member_is_answered : IsAnswered lost_and_kept_by_an_untracked_member
unfolding digits
lost_and_kept_by_an_untracked_member_is_answered = collects a_ring_by_an_untracked_member refl _ (record { reaches = refl; finds = refl; sets_aside = refl; dies = refl }) refl

lost_and_set_aside_is_answered : IsAnswered lost_and_set_aside
unfolding digits
lost_and_set_aside_is_answered = collects a_ring_with_a_legacy_finalizer refl _ (record { reaches = refl; finds = refl; sets_aside = refl; dies = refl }) refl

dropped_with_a_ring_is_answered : IsAnswered dropped_with_a_ring
unfolding digits
dropped_with_a_ring_is_answered = drops a_ring_that_one_holds refl (0 ∷ []) _ (omega arith, tt) (record { reaches = refl; without = refl; dies = refl }) refl

dropped_out_of_a_ring_is_answered : IsAnswered dropped_out_of_a_ring
unfolding digits
dropped_out_of_a_ring_is_answered = drops a_ring_that_one_holds refl (1 ∷ []) _ (omega arith, tt) (record { reaches = refl; without = refl; dies = refl }) refl

dropped_alone_is_answered : IsAnswered dropped_alone
unfolding digits
dropped_alone_is_answered = drops two_that_share refl (0 ∷ []) _ (omega arith, tt) (record { reaches = refl; without = refl; dies = refl }) refl

dropped_together_is_answered : IsAnswered dropped_together
unfolding digits
dropped_together_is_answered = drops two_that_share refl (1 ∷ 0 ∷ []) _ (omega arith, (omega arith, tt)) (record { reaches = refl; without = refl; dies = refl }) refl

kept_by_an_untold_word_is_answered : IsAnswered kept_by_an_untold_word
unfolding digits
kept_by_an_untold_word_is_answered = answered a_ring_by_an_untold_word refl Untold (rows_text (codes "kept") (kept_rows a_ring_by_an_untold_word) ++ []) _
    (kept_rows a_ring_by_an_untold_word, tells_kept a_ring_by_an_untold_word (record { reaches = refl; with_words = refl }), refl) refl

pub all_answered : EachIsAnswered worked_heaps
all_answered = (
  why_by_two_is_answered,
  (
    why_by_one_is_answered,
    (
      why_by_none_without_is_answered,
      (
        why_a_lost_one_is_answered,
        (
          referrers_with_a_double_reference_is_answered,
          (
            referrers_of_what_is_held_from_outside_is_answered,
            (
              hidden_by_untold_words_is_answered,
              (
                lost_and_taken_is_answered,
                (
                  lost_and_kept_by_an_untracked_member_is_answered,
                  (
                    lost_and_set_aside_is_answered,
                    (
                      dropped_with_a_ring_is_answered,
                      (
                        dropped_out_of_a_ring_is_answered,
                        (dropped_alone_is_answered, (dropped_together_is_answered, (kept_by_an_untold_word_is_answered, tt))),
                      ),
                    ),
                  ),
                ),
              ),
            ),
          ),
        ),
      ),
    ),
  ),
)
