-- Worked heaps, each with a question and its answer: what the questions mean, by example. An arrow is a reference,
-- `out` is anything outside the members, and `..>` is an untold word. (Ours, written from docs/HEAPS.md.)
use Rattle.std.specs.Prelude.{ℕ, true, false, List, [], ◌∷◌, codes}
use Rattle.cg_snapshot.specs.declared.heap.Member.{Member}
use Rattle.cg_snapshot.specs.declared.question.Question.{Question}
use Rattle.cg_snapshot.specs.declared.question.Question.TheVariants.{Why, Referrers, Hidden, Lost, Dropped, Untold}
use Rattle.cg_ask.specs.Faults.{AreRight}
use Rattle.cg_ask.specs.Answers.{Answers}

-- the members of a heap, a question, and its answer
pub record WorkedHeap : Type 0 where
  pub members : List Member
  pub question : Question
  pub text : List ℕ

-- The heap is consistent, and the text answers the question.
pub record IsAnswered (worked : WorkedHeap) : Type 0 where
  pub right : AreRight worked.members true
  pub answers : Answers worked.members worked.question worked.text

abbrev pub EachIsAnswered : List WorkedHeap → Type 0
EachIsAnswered [] = Unit {0}
EachIsAnswered (worked ∷ others) = IsAnswered worked × EachIsAnswered others

-- A member by its in-degree, its bytes and its references. It is tracked, its class has no legacy finalizer, and all
-- its references are told.
abbrev pub member : ℕ → ℕ → List ℕ → Member
member degree size refs = record { degree = degree; size = size; tracked = true; legacy = false; refs = refs; untold = [] }

-- the same, untracked
abbrev pub untracked : ℕ → ℕ → List ℕ → Member
untracked degree size refs = record { degree = degree; size = size; tracked = false; legacy = false; refs = refs; untold = [] }

-- with a legacy finalizer
abbrev pub with_legacy : ℕ → ℕ → List ℕ → Member
with_legacy degree size refs = record { degree = degree; size = size; tracked = true; legacy = true; refs = refs; untold = [] }

-- with untold words
abbrev pub with_untold : ℕ → ℕ → List ℕ → List ℕ → Member
with_untold degree size refs untold = record { degree = degree; size = size; tracked = true; legacy = false; refs = refs; untold = untold }

-- out -> 0 -> 1 -> 2, and 0 -> 2
abbrev pub a_chain_with_a_shortcut : List Member
a_chain_with_a_shortcut = member 1 64 (1 ∷ 2 ∷ []) ∷ member 1 72 (2 ∷ []) ∷ member 2 56 ([]) ∷ []

-- The shortcut is the shortest path.
abbrev pub why_by_two : WorkedHeap
why_by_two = record {
  members = a_chain_with_a_shortcut;
  question = Why 2 ([]);
  text = codes "why 2\nheld 0 1\nvia 2\ndone\n";
}

-- A member that is held from outside is a path by itself.
abbrev pub why_by_one : WorkedHeap
why_by_one = record {
  members = a_chain_with_a_shortcut;
  question = Why 0 (1 ∷ []);
  text = codes "why 0 but 1\nheld 0 1\ndone\n";
}

-- All paths pass through 0.
abbrev pub why_by_none_without : WorkedHeap
why_by_none_without = record {
  members = a_chain_with_a_shortcut;
  question = Why 2 (0 ∷ []);
  text = codes "why 2 but 0\nnone\ndone\n";
}

-- out -> 0, and 1 <-> 2
abbrev pub a_ring_that_was_dropped : List Member
a_ring_that_was_dropped = member 1 64 ([]) ∷ member 1 80 (2 ∷ []) ∷ member 1 48 (1 ∷ []) ∷ []

-- Only the ring leads to it.
abbrev pub why_a_lost_one : WorkedHeap
why_a_lost_one = record {
  members = a_ring_that_was_dropped;
  question = Why 1 ([]);
  text = codes "why 1\nnone\ndone\n";
}

-- The next full collection frees the ring.
abbrev pub lost_and_taken : WorkedHeap
lost_and_taken = record {
  members = a_ring_that_was_dropped;
  question = Lost;
  text = codes "lost\nlost 1 0\nlost 2 0\ndone\n";
}

-- out -> 0, 0 -> 1 twice, out -> 2 -> 1, and out -> 1
abbrev pub held_twice_by_one : List Member
held_twice_by_one = member 1 64 (1 ∷ 1 ∷ []) ∷ member 4 72 ([]) ∷ member 1 56 (1 ∷ []) ∷ []

-- A member that refers to it twice is listed once.
abbrev pub referrers_with_a_double_reference : WorkedHeap
referrers_with_a_double_reference = record {
  members = held_twice_by_one;
  question = Referrers 1;
  text = codes "referrers 1\nreferrer 0 2\nreferrer 2 1\noutside 1\ndone\n";
}

-- Only outside references lead to 0.
abbrev pub referrers_of_what_is_held_from_outside : WorkedHeap
referrers_of_what_is_held_from_outside = record {
  members = held_twice_by_one;
  question = Referrers 0;
  text = codes "referrers 0\noutside 1\ndone\n";
}

-- out -> 0 ..> 1, out -> 1, out -> 2 twice, 2 ..> 1, and 2 -> 3
abbrev pub a_reference_that_is_not_told : List Member
a_reference_that_is_not_told = with_untold 1 64 ([]) (1 ∷ []) ∷ member 3 72 ([]) ∷ with_untold 2 56 (3 ∷ []) (1 ∷ []) ∷ member 1 40 ([]) ∷ []

-- Untold words may explain two of the three holds of 1. Nothing outside holds 3.
abbrev pub hidden_by_untold_words : WorkedHeap
hidden_by_untold_words = record {
  members = a_reference_that_is_not_told;
  question = Hidden;
  text = codes "hidden\nhidden 0 1 1\nhidden 1 3 1\nhidden 2 2 2\ndone\n";
}

-- 0 <-> 1, and 1 is untracked
abbrev pub a_ring_by_an_untracked_member : List Member
a_ring_by_an_untracked_member = member 1 64 (1 ∷ []) ∷ untracked 1 72 (0 ∷ []) ∷ []

-- The collection counts the reference from 1 as one from outside.
abbrev pub lost_and_kept_by_an_untracked_member : WorkedHeap
lost_and_kept_by_an_untracked_member = record {
  members = a_ring_by_an_untracked_member;
  question = Lost;
  text = codes "lost\nlost 0 1\nlost 1 1\ndone\n";
}

-- 0 -> 0 -> 1, where 0 has a legacy finalizer, and 2 -> 2 -> 0
abbrev pub a_ring_with_a_legacy_finalizer : List Member
a_ring_with_a_legacy_finalizer = with_legacy 2 64 (0 ∷ 1 ∷ []) ∷ member 1 72 ([]) ∷ member 1 56 (2 ∷ 0 ∷ []) ∷ []

-- 0 is set aside, with 1, to which it leads; 2, which leads to it, is cleared.
abbrev pub lost_and_set_aside : WorkedHeap
lost_and_set_aside = record {
  members = a_ring_with_a_legacy_finalizer;
  question = Lost;
  text = codes "lost\nlost 0 1\nlost 1 1\nlost 2 0\ndone\n";
}

-- out -> 0 -> 1 <-> 2, 0 -> 3, 0 -> 4, and out -> 4
abbrev pub a_ring_that_one_holds : List Member
a_ring_that_one_holds = member 1 64 (1 ∷ 3 ∷ 4 ∷ []) ∷ member 2 72 (2 ∷ []) ∷ member 1 56 (1 ∷ []) ∷ member 1 48 ([]) ∷ member 2 40 ([]) ∷ []

-- 3 dies by count with 0, the ring only by a collection; 4 survives.
abbrev pub dropped_with_a_ring : WorkedHeap
dropped_with_a_ring = record {
  members = a_ring_that_one_holds;
  question = Dropped (0 ∷ []);
  text = codes "drop 0\ngone 0 1\ngone 1 0\ngone 2 0\ngone 3 1\ntotal 4 240 2 112\ndone\n";
}

-- Dropping all references to 1 takes the only reference to 2.
abbrev pub dropped_out_of_a_ring : WorkedHeap
dropped_out_of_a_ring = record {
  members = a_ring_that_one_holds;
  question = Dropped (1 ∷ []);
  text = codes "drop 1\ngone 1 1\ngone 2 1\ntotal 2 128 2 128\ndone\n";
}

-- out -> 0 -> 2, and out -> 1 -> 2
abbrev pub two_that_share : List Member
two_that_share = member 1 64 (2 ∷ []) ∷ member 1 72 (2 ∷ []) ∷ member 2 56 ([]) ∷ []

-- 1 still holds 2.
abbrev pub dropped_alone : WorkedHeap
dropped_alone = record {
  members = two_that_share;
  question = Dropped (0 ∷ []);
  text = codes "drop 0\ngone 0 1\ntotal 1 64 1 64\ndone\n";
}

-- The question is printed as asked; the members are in ascending order.
abbrev pub dropped_together : WorkedHeap
dropped_together = record {
  members = two_that_share;
  question = Dropped (1 ∷ 0 ∷ []);
  text = codes "drop 1 0\ngone 0 1\ngone 1 1\ngone 2 1\ntotal 3 192 3 192\ndone\n";
}

-- 0 -> 1 ..> 0, and out -> 2
abbrev pub a_ring_by_an_untold_word : List Member
a_ring_by_an_untold_word = member 1 64 (1 ∷ []) ∷ with_untold 1 72 ([]) (0 ∷ []) ∷ member 1 56 ([]) ∷ []

-- If the word were a reference, the ring would be lost.
abbrev pub kept_by_an_untold_word : WorkedHeap
kept_by_an_untold_word = record {
  members = a_ring_by_an_untold_word;
  question = Untold;
  text = codes "untold\nkept 0\nkept 1\ndone\n";
}

abbrev pub worked_heaps : List WorkedHeap
worked_heaps = why_by_two ∷ why_by_one ∷ why_by_none_without ∷ why_a_lost_one ∷ referrers_with_a_double_reference ∷ referrers_of_what_is_held_from_outside
    ∷ hidden_by_untold_words ∷ lost_and_taken ∷ lost_and_kept_by_an_untracked_member ∷ lost_and_set_aside ∷ dropped_with_a_ring ∷ dropped_out_of_a_ring
    ∷ dropped_alone ∷ dropped_together ∷ kept_by_an_untold_word ∷ []
