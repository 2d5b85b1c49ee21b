-- The sets of members in the questions, as marks that compute.
use Rattle.std.proofs.Common.{◌≡◌, refl, sym, ◌∙◌, subst, ℕ, ◌+◌, nat_lt, Bool, true, false, not, ◌&&◌, List, [], length, replicate, arith, get_or}
use Rattle.std.proofs.lemmas.Bool.{cases_lt, ltb-true, lt-ltb}
use Rattle.cg_graph.specs.Member.{Includes, includes}
use Rattle.cg_graph.specs.Holdings.{occurrences}
use Rattle.cg_graph.specs.Reach.{Reach}
use Rattle.cg_graph.proofs.Members.{either, true_and, Includes-of, includes-of}
use Rattle.cg_search.specs.Counts.{targets_from}
use Rattle.cg_snapshot.specs.declared.heap.Member.{Member}
use Rattle.cg_snapshot.specs.Text.{AreMembers}
use Rattle.cg_snapshot.specs.Reading.{are_below}
use Rattle.cg_snapshot.proofs.Machine.{of_below}
use Rattle.cg_ask.specs.Asked.{rows_of, words_of, references_of, all_words_of, degree_at, edges, tracked_of, legacy_of, all_told, IsMember, IsHeld, IsOther, IsReached, IsLost, IsHeldElsewhere, IsStuck, IsGone, IsKeptByWords}
use Rattle.cg_ask.specs.Dying.{Dies}
use Rattle.cg_ask.specs.Faults.{AreRight}
use Rattle.cg_ask.specs.Marked.{MarkJust}
use Rattle.cg_ask.proofs.Counting.{no_degree}
use Rattle.cg_ask.proofs.Marking.{only, any, zipped, just_only, just_any, just_all, member_of}
use Rattle.cg_ask.proofs.Reaching.{found_just, lost_just}
use Rattle.cg_ask.proofs.Clearing.{unreachable_just, cleared_just, stuck_just}
use Rattle.cg_ask.proofs.DiesByCount.{dead_just as dead_same}
use Rattle.cg_ask.proofs.WouldGo.{gone_just}
use Rattle.cg_ask.proofs.KeptByUntoldWords.{kept_just, length-all_told}
use Rattle.cg_heap_rows.proofs.Tables.{marks_to, all_to, all_pass, just_to}
use Rattle.cg_heap_rows.proofs.Found.{step, found_in, led, found_long}
use Rattle.cg_heap_rows.proofs.Dying.{step as dying_step, dead_in, dead_just}

-- whether a member's references and words name members, and its in-degree is consistent
abbrev pub is_right : List Member → ℕ → Bool
is_right ms i = are_below (length ms) (get_or (rows_of ms) i []) && (are_below (length ms) (get_or (words_of ms) i [])
    && nat_lt (occurrences i (references_of ms) + occurrences i (all_words_of ms)) (degree_at ms i + 1))

pub are_right : (ms : List Member) → all_to (length ms) (is_right ms) ≡ true → AreRight ms true
are_right ms all i below =
    let parts = true_and (are_below (length ms) (get_or (rows_of ms) i [])) (are_below (length ms) (get_or (words_of ms) i [])
    && nat_lt (occurrences i (references_of ms) + occurrences i (all_words_of ms)) (degree_at ms i + 1)) (all_pass (length ms) (is_right ms) i all below) in
    let rest = true_and (are_below (length ms) (get_or (words_of ms) i [])) (nat_lt (occurrences i (references_of ms) + occurrences i (all_words_of ms)) (degree_at ms i + 1)) parts.1 in
    let less = ltb-true (occurrences i (references_of ms) + occurrences i (all_words_of ms)) (degree_at ms i + 1) rest.1 in
    record {
      names = (of_below (length ms) (get_or (rows_of ms) i []) parts.0, of_below (length ms) (get_or (words_of ms) i []) rest.0);
      covered = omega (arith, less);
      covered_with = λ e. omega (arith, less);
    }

-- the members held from outside, and those other than the given ones
abbrev pub held : List Member → List Bool
held ms = marks_to (length ms) (λ i. nat_lt (occurrences i (references_of ms)) (degree_at ms i))

pub held_just : (ms : List Member) → MarkJust (length ms) (IsHeld ms) (held ms)
held_just ms = just_to (length ms) (λ i. nat_lt (occurrences i (references_of ms)) (degree_at ms i)) (IsHeld ms)
    (λ i below. (λ e. ltb-true (occurrences i (references_of ms)) (degree_at ms i) e, λ h. lt-ltb (occurrences i (references_of ms)) (degree_at ms i) h))
    (λ i h. either (cases_lt i (length ms)) (λ l. l) (λ g. absurd (omega (arith, h, no_degree ms i g))))

abbrev pub others : List Member → List ℕ → List Bool
others ms without = marks_to (length ms) (λ i. not (includes without i))

not_true : (b : Bool) → not b ≡ true → b ≡ true → ⊥
not_true true e f = absurd (cc)
not_true false e f = absurd (cc)

true_not : (b : Bool) → (b ≡ true → ⊥) → not b ≡ true
true_not true h = absurd (h refl)
true_not false h = refl

pub others_just : (ms : List Member) (without : List ℕ) → MarkJust (length ms) (IsOther ms without) (others ms without)
others_just ms without = just_to (length ms) (λ i. not (includes without i)) (IsOther ms without)
    (λ i below. (λ e. (below, λ m. not_true (includes without i) e (includes-of without i m)), λ o. true_not (includes without i) (λ e. o.1 (Includes-of without i e))))
    (λ i o. o.0)

-- a search that has ended
abbrev pub IsSettled : List Bool → List Bool → List (List ℕ) → ℕ → Type 0
IsSettled starts allowed rows k = step starts allowed rows (found_in starts allowed rows k) ≡ found_in starts allowed rows k

pub reach_just : (ms : List Member) (starts allowed : List Bool) (Held Inside : ℕ → Type 0) (k : ℕ) → MarkJust (length ms) Held starts
    → MarkJust (length ms) Inside allowed → IsSettled starts allowed (rows_of ms) k
    → MarkJust (length ms) (Reach Held Inside (edges ms)) (found_in starts allowed (rows_of ms) k)
reach_just ms starts allowed Held Inside k s a settled =
    found_just ms (rows_of ms) starts allowed (found_in starts allowed (rows_of ms) k) Held Inside s.just a.just
    (found_long starts allowed (rows_of ms) (found_in starts allowed (rows_of ms) k) settled ∙ a.len) (led starts allowed (rows_of ms) k settled) (edges ms) refl

-- all members
abbrev pub all : List Member → List Bool
all ms = replicate (length ms) true

pub all_just : (ms : List Member) → MarkJust (length ms) (IsMember ms) (all ms)
all_just ms = just_all (length ms) (all ms) refl

-- the reached members, and the lost ones
abbrev pub reached : List Member → List Bool
reached ms = found_in (held ms) (all ms) (rows_of ms) (length ms)

abbrev pub lost : List Member → List Bool
lost ms = zipped only (all ms) (reached ms)

-- the members reached without passing the given ones
abbrev pub reached_without : List Member → List ℕ → List Bool
reached_without ms without = found_in (held ms) (others ms without) (rows_of ms) (length ms)

-- the search for what is reached has ended
abbrev pub ReachesAll : List Member → Type 0
ReachesAll ms = IsSettled (held ms) (all ms) (rows_of ms) (length ms)

abbrev pub ReachesAllWithout : List Member → List ℕ → Type 0
ReachesAllWithout ms without = IsSettled (held ms) (others ms without) (rows_of ms) (length ms)

pub reached_just : (ms : List Member) → ReachesAll ms → MarkJust (length ms) (IsReached ms) (reached ms)
reached_just ms settled = reach_just ms (held ms) (all ms) (IsHeld ms) (IsMember ms) (length ms) (held_just ms) (all_just ms) settled

pub reached_without_just : (ms : List Member) (without : List ℕ) → ReachesAllWithout ms without → MarkJust (length ms) (Reach (IsHeld ms) (IsOther ms without) (edges ms)) (reached_without ms without)
reached_without_just ms without settled = reach_just ms (held ms) (others ms without) (IsHeld ms) (IsOther ms without) (length ms) (held_just ms) (others_just ms without) settled

pub all_lost_just : (ms : List Member) → ReachesAll ms → MarkJust (length ms) (IsLost ms) (lost ms)
all_lost_just ms settled =
    let r = reached_just ms settled in
    lost_just ms (all ms) (reached ms) (lost ms) (all_just ms) r (just_only (all ms) (reached ms) (lost ms) ((all_just ms).len ∙ sym r.len) refl)

-- what the next full collection finds unreachable, sets aside and clears
abbrev pub held_elsewhere : List Member → List Bool
held_elsewhere ms = marks_to (length ms) (λ i. nat_lt (occurrences i (targets_from (tracked_of ms) (rows_of ms))) (degree_at ms i))

abbrev pub reached_in_collection : List Member → List Bool
reached_in_collection ms = found_in (held_elsewhere ms) (tracked_of ms) (rows_of ms) (length ms)

abbrev pub unreachable : List Member → List Bool
unreachable ms = zipped only (tracked_of ms) (reached_in_collection ms)

abbrev pub aside : List Member → List Bool
aside ms = found_in (legacy_of ms) (unreachable ms) (rows_of ms) (length ms)

abbrev pub cleared : List Member → List Bool
cleared ms = zipped only (unreachable ms) (aside ms)

-- what dies of that, and what is stuck
abbrev pub dead_by_collection : List Member → List Bool
dead_by_collection ms = dead_in ms (cleared ms) (length ms)

abbrev pub stuck : List Member → List Bool
stuck ms = zipped only (lost ms) (dead_by_collection ms)

-- all these searches have ended
pub record CollectsAll (ms : List Member) : Type 0 where
  pub reaches : ReachesAll ms
  pub finds : IsSettled (held_elsewhere ms) (tracked_of ms) (rows_of ms) (length ms)
  pub sets_aside : IsSettled (legacy_of ms) (unreachable ms) (rows_of ms) (length ms)
  pub dies : dying_step ms (cleared ms) (dead_in ms (cleared ms) (length ms)) ≡ dead_in ms (cleared ms) (length ms)

pub stuck_is : (ms : List Member) → AreRight ms true → CollectsAll ms → MarkJust (length ms) (IsStuck ms) (stuck ms)
stuck_is ms right c =
    let h : MarkJust (length ms) (IsHeldElsewhere ms) (held_elsewhere ms) =
    just_to (length ms) (λ i. nat_lt (occurrences i (targets_from (tracked_of ms) (rows_of ms))) (degree_at ms i)) (IsHeldElsewhere ms)
    (λ i below. (
      λ e. ltb-true (occurrences i (targets_from (tracked_of ms) (rows_of ms))) (degree_at ms i) e,
      λ h. lt-ltb (occurrences i (targets_from (tracked_of ms) (rows_of ms))) (degree_at ms i) h,
    ))
    (λ i h. either (cases_lt i (length ms)) (λ l. l) (λ g. absurd (omega (arith, h, no_degree ms i g)))) in
    let found_len = found_long (held_elsewhere ms) (tracked_of ms) (rows_of ms) (reached_in_collection ms) c.finds in
    let u = unreachable_just ms (tracked_of ms) (held_elsewhere ms) (reached_in_collection ms) (unreachable ms) refl h found_len
    (led (held_elsewhere ms) (tracked_of ms) (rows_of ms) (length ms) c.finds)
    (just_only (tracked_of ms) (reached_in_collection ms) (unreachable ms) (sym found_len) refl) in
    let aside_len = found_long (legacy_of ms) (unreachable ms) (rows_of ms) (aside ms) c.sets_aside in
    let k = cleared_just ms (unreachable ms) (legacy_of ms) (aside ms) (cleared ms) u refl aside_len (led (legacy_of ms) (unreachable ms) (rows_of ms) (length ms) c.sets_aside)
    (just_only (unreachable ms) (aside ms) (cleared ms) (sym aside_len) refl) in
    let d = dead_just ms (cleared ms) right k.len (length ms) c.dies in
    let l = all_lost_just ms c.reaches in
    stuck_just ms (lost ms) (cleared ms) (dead_by_collection ms) (stuck ms) l k d (just_only (lost ms) (dead_by_collection ms) (stuck ms) (l.len ∙ sym d.len) refl)

-- what would go
abbrev pub these : List Member → List ℕ → List Bool
these ms places = marks_to (length ms) (λ i. includes places i)

abbrev pub dead : List Member → List ℕ → List Bool
dead ms places = dead_in ms (these ms places) (length ms)

abbrev pub let_go : List Member → List ℕ → List Bool
let_go ms places = zipped only (reached ms) (reached_without ms places)

abbrev pub gone : List Member → List ℕ → List Bool
gone ms places = zipped any (dead ms places) (let_go ms places)

pub record DropsAll (ms : List Member) (places : List ℕ) : Type 0 where
  pub reaches : ReachesAll ms
  pub without : ReachesAllWithout ms places
  pub dies : dying_step ms (these ms places) (dead_in ms (these ms places) (length ms)) ≡ dead_in ms (these ms places) (length ms)

pub dead_is : (ms : List Member) (places : List ℕ) → AreRight ms true → AreMembers (length ms) places → DropsAll ms places → MarkJust (length ms) (Dies ms (Includes places)) (dead ms places)
dead_is ms places right members d =
    let g : MarkJust (length ms) (Includes places) (these ms places) = just_to (length ms) (λ i. includes places i) (Includes places)
    (λ i below. (λ e. Includes-of places i e, λ m. includes-of places i m)) (λ i m. member_of (length ms) places i members m) in
    dead_same ms (these ms places) (dead ms places) (Includes places) g (dead_just ms (these ms places) right g.len (length ms) d.dies)

pub gone_is : (ms : List Member) (places : List ℕ) → AreRight ms true → AreMembers (length ms) places → DropsAll ms places → MarkJust (length ms) (IsGone ms places) (gone ms places)
gone_is ms places right members d =
    let k = dead_is ms places right members d in
    let b = reached_just ms d.reaches in
    let a = reached_without_just ms places d.without in
    let l = just_only (reached ms) (reached_without ms places) (let_go ms places) (b.len ∙ sym a.len) refl in
    gone_just ms places (dead ms places) (reached ms) (reached_without ms places) (let_go ms places) (gone ms places) k b a l
    (just_any (dead ms places) (let_go ms places) (gone ms places) (k.len ∙ sym (l.len ∙ b.len)) refl)

-- the members kept by untold words
abbrev pub reached_with_words : List Member → List Bool
reached_with_words ms = found_in (held (all_told ms)) (all ms) (rows_of (all_told ms)) (length ms)

abbrev pub kept : List Member → List Bool
kept ms = zipped only (reached ms) (reached_with_words ms)

pub record KeepsAll (ms : List Member) : Type 0 where
  pub reaches : ReachesAll ms
  pub with_words : IsSettled (held (all_told ms)) (all ms) (rows_of (all_told ms)) (length ms)

pub kept_is : (ms : List Member) → KeepsAll ms → MarkJust (length ms) (IsKeptByWords ms) (kept ms)
kept_is ms k =
    let h = subst (λ n. MarkJust n (IsHeld (all_told ms)) (held (all_told ms))) (length-all_told ms) (held_just (all_told ms)) in
    let b = reached_just ms k.reaches in
    let len = found_long (held (all_told ms)) (all ms) (rows_of (all_told ms)) (reached_with_words ms) k.with_words in
    kept_just ms (rows_of (all_told ms)) (held (all_told ms)) (all ms) (reached_with_words ms) (reached ms) (kept ms) refl h (all_just ms) len
    (led (held (all_told ms)) (all ms) (rows_of (all_told ms)) (length ms) k.with_words)
    b (just_only (reached ms) (reached_with_words ms) (kept ms) (b.len ∙ sym (len ∙ (all_just ms).len)) refl)
