-- Rows of referrers, and of members with outside holds.
use Rattle.std.proofs.Common.{◌≡◌, refl, sym, ◌∙◌, ap, ℕ, zero, suc, ◌+◌, ◌-◌, ◌<◌, ◌≤◌, List, [], ◌∷◌, ◌++◌, length, arith, get_or}
use Rattle.std.specs.Prelude.{codes}
use Rattle.std.proofs.lemmas.Bool.{cases_lt}
use Rattle.std.proofs.lemmas.List.{length-map}
use Rattle.cg_graph.specs.Holdings.{occurrences}
use Rattle.cg_graph.proofs.Members.{either}
use Rattle.cg_snapshot.specs.declared.heap.Member.{Member}
use Rattle.cg_ask.specs.Asked.{rows_of, all_words_of, outside_at, times_at}
use Rattle.cg_ask.specs.Answers.{line, TellsReferrer, TellsHidden}
use Rattle.cg_ask.specs.Counted.{IsCounts, AreOutside}
use Rattle.cg_ask.specs.declared.counts.Counts.{Counts}
use Rattle.cg_ask.specs.Marked.{AppendsRows}
use Rattle.cg_ask.proofs.Counting.{row_read, no_degree, count_read}
use Rattle.cg_ask.proofs.Rows.{RowsBelow, rows_push, rows_skip, rows_all}

past_rows : (rows : List (List ℕ)) (i : ℕ) → length rows ≤ i → get_or rows i [] ≡ []
past_rows [] i h = refl
past_rows (r ∷ rows) zero h = absurd (omega (arith, h))
past_rows (r ∷ rows) (suc i) h = past_rows rows i (omega (arith, h))

module _ (ms : List Member) (object : ℕ) where
  module _ (at : ℕ) (old mid : List ℕ) where
    times_read : (m : Member) (row : List ℕ) (times : ℕ) → at < length ms → m ≡ get_or ms at m → row ≡ m.refs → times ≡ occurrences object row → times_at ms at object ≡ times
    times_read m row times within is read count = ap (occurrences object) (row_read ms at m within is ∙ sym read) ∙ sym count

    pub referrer_push : (new : List ℕ) (m : Member) (row : List ℕ) (times : ℕ) → at < length ms → m ≡ get_or ms at m → row ≡ m.refs → times
        ≡ occurrences object row → 0 < times → new ≡ mid ++ line (codes "referrer") (at ∷ times ∷ []) → RowsBelow (TellsReferrer ms object) (codes "referrer")
        at old mid
        → RowsBelow (TellsReferrer ms object) (codes "referrer") (at + 1) old new
    referrer_push new m row times within is read count some put h =
        let value = times_read m row times within is read count in
        rows_push (TellsReferrer ms object) (codes "referrer") at old mid new (times ∷ []) (record {
          some = omega (arith, some, value);
          numbers = ap (λ n. n ∷ []) (sym value);
        }) (λ ns t. t.numbers ∙ ap (λ n. n ∷ []) value) put h

    pub referrer_skip : (m : Member) (row : List ℕ) (times : ℕ) → at < length ms → m ≡ get_or ms at m → row ≡ m.refs → times ≡ occurrences object row
        → times ≤ 0 → RowsBelow (TellsReferrer ms object) (codes "referrer") at old mid → RowsBelow (TellsReferrer ms object) (codes "referrer") (at + 1) old
        mid
    referrer_skip m row times within is read count none h =
        let value = times_read m row times within is read count in
        rows_skip (TellsReferrer ms object) (codes "referrer") at old mid (λ ns t. omega (arith, t.some, value, none)) h

  pub referrer_all : (at : ℕ) (old new : List ℕ) → length ms ≤ at → RowsBelow (TellsReferrer ms object) (codes "referrer") at old new → AppendsRows (TellsReferrer ms object) (codes "referrer") old new
  referrer_all at old new end h = rows_all (TellsReferrer ms object) (codes "referrer") at old new (λ m ns t. either (cases_lt m (length ms))
      (λ l. omega (arith, l, end)) (λ g. absurd (none m g t.some))) h
    where
      none : (m : ℕ) → length ms ≤ m → 0 < times_at ms m object → ⊥
      none m past some =
          let nothing : times_at ms m object ≡ 0 = ap (occurrences object) (past_rows (rows_of ms) m (omega (arith, past, length-map ms (λ (k : Member). k.refs)))) in
          omega (arith, some, nothing)

module _ (ms : List Member) (c : Counts) (outside : List ℕ) (counts : IsCounts ms c) (out : AreOutside ms outside) (at : ℕ) (old mid : List ℕ) (within : at < length ms) where
  pub hidden_push : (new : List ℕ) (holds words left : ℕ) → holds ≡ get_or outside at 0 → words ≡ get_or c.words.items at words → left ≡ holds - words
      → 0 < holds → new ≡ mid ++ line (codes "hidden") (at ∷ holds ∷ left ∷ []) → RowsBelow (TellsHidden ms) (codes "hidden") at old mid
      → RowsBelow (TellsHidden ms) (codes "hidden") (at + 1) old new
  hidden_push new holds words left read_holds read_words less some put h =
      let value : holds ≡ outside_at ms at = read_holds ∙ out.each at within in
      let word : words ≡ occurrences at (all_words_of ms) = count_read (length ms) (all_words_of ms) c.words.items at words counts.words within read_words in
      let numbers : holds ∷ left ∷ [] ≡ outside_at ms at ∷ (outside_at ms at - occurrences at (all_words_of ms)) ∷ [] =
      ap (λ n. holds ∷ n ∷ []) (less ∙ ap (λ n. holds - n) word) ∙ ap (λ n. n ∷ (n - occurrences at (all_words_of ms)) ∷ []) value in
      rows_push (TellsHidden ms) (codes "hidden") at old mid new (holds ∷ left ∷ []) (record { some = omega (arith, some, value); numbers = numbers }) (λ ns t. t.numbers ∙ sym numbers) put h

  pub hidden_skip : (holds : ℕ) → holds ≡ get_or outside at 0 → holds ≤ 0 → RowsBelow (TellsHidden ms) (codes "hidden") at old mid → RowsBelow (TellsHidden ms) (codes "hidden") (at + 1) old mid
  hidden_skip holds read none h = rows_skip (TellsHidden ms) (codes "hidden") at old mid (λ ns t. omega (arith, t.some, read, out.each at within, none)) h

pub hidden_all : (ms : List Member) (at : ℕ) (old new : List ℕ) → length ms ≤ at → RowsBelow (TellsHidden ms) (codes "hidden") at old new → AppendsRows (TellsHidden ms) (codes "hidden") old new
hidden_all ms at old new end h = rows_all (TellsHidden ms) (codes "hidden") at old new (λ m ns t. either (cases_lt m (length ms)) (λ l. omega (arith, l, end))
    (λ g. absurd (let no = no_degree ms m g in omega (arith, t.some, no)))) h
