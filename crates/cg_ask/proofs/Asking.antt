-- Facts of the top call, for a source that reveals its bytes.
use Rattle.std.proofs.Common.{◌≡◌, ◌⊎◌, inl, inr, refl, sym, ◌∙◌, ap, subst, ◌<◌, ◌≤◌, ◌+◌, ℕ, List, [], ◌∷◌, ◌++◌, length, take, drop, get_or, Option, None, Some, IfSome, arith, length-append, append-nil, append_assoc, take-append-drop, take_all}
use Rattle.std.specs.Prelude.{codes}
use Rattle.std.proofs.lemmas.Bool.{cases_lt}
use Rattle.std.proofs.lemmas.List.{take_more}
use Rattle.std.specs.Io.KnownBytes.{Appends, Keeps, Consumes, IsAtEnd}
use Rattle.std.proofs.KnownBytes.{Appends-trans, Appends-nil}
use Rattle.cg_io.specs.Causes.{AppendsFront, Rose}
use Rattle.cg_graph.proofs.Members.{either}
use Rattle.cg_snapshot.specs.declared.heap.Member.{Member}
use Rattle.cg_snapshot.specs.declared.question.Question.{Question}
use Rattle.cg_snapshot.specs.declared.reading.Snapshot.{Snapshot}
use Rattle.cg_snapshot.specs.Text.{Spells, IsBadLine}
use Rattle.cg_ask.specs.Answers.{line, Answers, AnswersAll}
use Rattle.cg_ask.specs.Faults.{IsFirstFault, AreRight}
use Rattle.cg_ask.specs.Told.{AppendsWhole}
use Rattle.cg_ask.specs.Statuses.{asks_untold, fault, answers, IsOutcome, bad_line, of_snapshot, large, WritesOutcome, WritesSnapshot, nothing, whole, some, IsBegun, nothing_yet, whole_bytes, begun_snapshot, WritesFront, WritesFrontOf, HasOutcome, AnswersSo, IsCutShort}
use Rattle.cg_ask.specs.declared.run.TheConstants.{LIMIT}
use Rattle.cg_ask.specs.declared.status.AskStatus.{AskStatus}
use Rattle.cg_ask.specs.declared.status.AskStatus.TheVariants as status

-- one more answer
pub answers_push : (ms : List Member) (qs : List Question) (q : Question) (text more : List ℕ) → AnswersAll ms qs text → Answers ms q more → AnswersAll ms (qs ++ q ∷ []) (text ++ more)
answers_push ms [] q text more h a = (more, [], a, refl, ap (λ t. t ++ more) h ∙ sym (append-nil more))
answers_push ms (p ∷ qs) q text more h a = (h.0, h.1 ++ more, h.2, answers_push ms qs q h.1 more h.3 a, ap (λ t. t ++ more) h.4 ∙ append_assoc h.0 h.1 more)

-- The answers so far were written.
pub record WroteAnswers (ms : List Member) (qs : List Question) (before now : Option (List ℕ)) : Type 0 where
  pub text : List ℕ
  pub answers_are : AnswersAll ms qs text
  pub wrote : Appends before now text

pub wrote_none : (ms : List Member) (before : Option (List ℕ)) → WroteAnswers ms [] before before
wrote_none ms before = record { text = []; answers_are = refl; wrote = Appends-nil before }

-- The answers so far were written, and the fault count did not fall.
pub record HasWritten (ms : List Member) (qs : List Question) (before now : Option (List ℕ)) (faults later : ℕ) : Type 0 where
  pub answers : WroteAnswers ms qs before now
  pub not_less : faults ≤ later

pub written_first : (ms : List Member) (qs : List Question) (before : Option (List ℕ)) (faults : ℕ) → HasWritten ms (take 0 qs) before before faults faults
written_first ms qs before faults = record { answers = wrote_none ms before; not_less = omega arith }

-- a count that rose later has risen
pub rose_later : (a b c : ℕ) → a ≤ b → Rose b c → Rose a c
rose_later a b c le rose = grind (arith, le, rose)

pub wrote_next : (ms : List Member) (qs : List Question) (k : ℕ) (q : Question) (before mid now : Option (List ℕ)) (text : List ℕ) → k < length qs → q
    ≡ get_or qs k q → WroteAnswers ms (take k qs) before mid → Answers ms q text → Appends mid now text → WroteAnswers ms (take (k + 1) qs) before now
wrote_next ms qs k q before mid now text within is so a more = record {
  text = so.text ++ text;
  answers_are = subst (λ (rs : List Question). AnswersAll ms rs (so.text ++ text)) (sym (take_more qs k q within ∙ ap (λ (r : Question). take k qs ++ r ∷ [])
      (sym is))) (answers_push ms (take k qs) q so.text text so.answers_are a);
  wrote = Appends-trans before mid now so.text text so.wrote more;
}

pub wrote_all : (ms : List Member) (qs : List Question) (k : ℕ) (before now : Option (List ℕ)) → length qs ≤ k → WroteAnswers ms (take k qs) before now → WroteAnswers ms qs before now
wrote_all ms qs k before now end so = subst (λ (rs : List Question). WroteAnswers ms rs before now) (take_all k qs end) so

-- an answer appended to nothing
pub whole_text : (ms : List Member) (q : Question) (old new : List ℕ) → old ≡ [] → AppendsWhole ms q old new → Answers ms q new
whole_text ms q old new none h = subst (λ (t : List ℕ). Answers ms q t) (sym (h.appended ∙ ap (λ (o : List ℕ). o ++ h.text) none)) h.answers

-- a prefix of the text written before and of more
front_after : (a b c : Option (List ℕ)) (xs ys : List ℕ) → Appends a b xs → AppendsFront b c ys → AppendsFront a c (xs ++ ys)
front_after a b c xs ys wrote part = record {
  front = xs ++ part.front;
  rest = part.rest;
  whole = ap (λ t. xs ++ t) part.whole ∙ sym (append_assoc xs part.front part.rest);
  appended = Appends-trans a b c xs part.front wrote part.appended;
}

all_front : (a b : Option (List ℕ)) (xs : List ℕ) → Appends a b xs → AppendsFront a b xs
all_front a b xs wrote = record { front = xs; rest = []; whole = sym (append-nil xs); appended = wrote }

module _ (ms : List Member) (qs : List Question) (before : Option (List ℕ)) (faults : ℕ) where
  -- memory ran out
  pub so_memory : (k : ℕ) (now : Option (List ℕ)) (later : ℕ) → WroteAnswers ms (take k qs) before now → AnswersSo ms qs status.OutOfMemory before now faults later
  so_memory k now later so = record {
    answered = λ e. absurd (cc);
    cut = λ e. (take k qs, drop k qs, so.text, sym (take-append-drop k qs), so.answers_are, all_front before now so.text so.wrote);
    cause = λ e. absurd (cc);
    only = inr (inr refl);
  }

  -- the sink failed
  pub so_write : (k : ℕ) (q : Question) (mid now : Option (List ℕ)) (later : ℕ) (text : List ℕ) → k < length qs → q ≡ get_or qs k q
      → WroteAnswers ms (take k qs) before mid → Answers ms q text → AppendsFront mid now text → Rose faults later → AnswersSo ms qs status.WriteFault before
      now faults later
  so_write k q mid now later text within is so a part rose = record {
    answered = λ e. absurd (cc);
    cut = λ e. (
      take (k + 1) qs,
      drop (k + 1) qs,
      so.text ++ text,
      sym (take-append-drop (k + 1) qs),
      subst (λ (rs : List Question). AnswersAll ms rs (so.text ++ text)) (sym (take_more qs k q within ∙ ap (λ (r : Question). take k qs ++ r ∷ []) (sym is)))
          (answers_push ms (take k qs) q so.text text so.answers_are a),
      front_after before mid now so.text text so.wrote part,
    );
    cause = λ e. rose;
    only = inr (inl refl);
  }

  pub so_answered : (now : Option (List ℕ)) (later : ℕ) → WroteAnswers ms qs before now → AnswersSo ms qs status.Answered before now faults later
  so_answered now later so = record {
    answered = λ e. (so.text, so.answers_are, so.wrote);
    cut = λ e. either e (λ f. absurd (cc)) (λ f. absurd (cc));
    cause = λ e. absurd (cc);
    only = inl refl;
  }

-- The outcome of a snapshot.
module _ (s : Snapshot) (before now : Option (List ℕ)) (faults later : ℕ) where
  pub snapshot_told : (ended : AskStatus) → AreRight s.members (asks_untold s.questions) → AnswersSo s.members s.questions ended before now faults later
      → (ended ≡ status.Answered) ⊎ (ended ≡ status.Faulty) → WritesSnapshot s ended before now
  snapshot_told ended right so (inl e) = let a = so.answered e in subst (λ (t : AskStatus). WritesSnapshot s t before now) (sym e) (record { text = a.0; outcome = answers right a.0 a.1; wrote = a.2 })
  snapshot_told ended right so (inr e) = absurd (clash so.only)
    where
      clash : (ended ≡ status.Answered) ⊎ (ended ≡ status.WriteFault) ⊎ (ended ≡ status.OutOfMemory) → ⊥
      clash (inl f) = cc
      clash (inr (inl f)) = cc
      clash (inr (inr f)) = cc

  pub snapshot_cut : (ended : AskStatus) → AreRight s.members (asks_untold s.questions) → AnswersSo s.members s.questions ended before now faults later
      → (ended ≡ status.WriteFault) ⊎ (ended ≡ status.OutOfMemory) → WritesFrontOf s before now
  snapshot_cut ended right so e = let c = so.cut e in record { text = c.2; begun = some right c.0 c.1 c.3 c.2 c.4; wrote = c.5 }

appends_none : (a b : Option (List ℕ)) → Keeps a b → Appends a b []
appends_none None b h = tt
appends_none (Some xs) None h = absurd h
appends_none (Some xs) (Some ys) h = h ∙ sym (append-nil xs)

-- nothing was written
pub kept : (s : Snapshot) (before now : Option (List ℕ)) → Keeps before now → WritesFrontOf s before now
kept s before now keeps = record { text = []; begun = nothing; wrote = all_front before now [] (appends_none before now keeps) }

-- a reported fault
module _ (s : Snapshot) (before now : Option (List ℕ)) (told_status : AskStatus) (code at : ℕ) where
  pub fault_told : IsFirstFault s.members (asks_untold s.questions) code at
      → (told_status ≡ status.Faulty → Appends before now (line (codes "fault") (code ∷ at ∷ []))) → (told_status ≡ status.Faulty)
      ⊎ (told_status ≡ status.WriteFault) ⊎ (told_status ≡ status.OutOfMemory)
      → (told_status ≡ status.Answered) ⊎ (told_status ≡ status.Faulty) → WritesSnapshot s told_status before now
  fault_told first wrote only e = let is = faulty only e in subst (λ (t : AskStatus). WritesSnapshot s t before now) (sym is)
      (record { text = line (codes "fault") (code ∷ at ∷ []); outcome = fault code at first; wrote = wrote is })
    where
      faulty : (told_status ≡ status.Faulty) ⊎ (told_status ≡ status.WriteFault) ⊎ (told_status ≡ status.OutOfMemory) → (told_status ≡ status.Answered)
          ⊎ (told_status ≡ status.Faulty) → told_status ≡ status.Faulty
      faulty only (inr f) = f
      faulty (inl f) (inl g) = f
      faulty (inr (inl f)) (inl g) = absurd (cc)
      faulty (inr (inr f)) (inl g) = absurd (cc)

  pub fault_cut : IsFirstFault s.members (asks_untold s.questions) code at → (told_status ≡ status.WriteFault → AppendsFront before now
      (line (codes "fault") (code ∷ at ∷ []))) → (told_status ≡ status.OutOfMemory → Keeps before now) → (told_status ≡ status.WriteFault) ⊎ (told_status
      ≡ status.OutOfMemory) → WritesFrontOf s before now
  fault_cut first wrote keeps (inl e) = record {
    text = line (codes "fault") (code ∷ at ∷ []);
    begun = whole status.Faulty
        (line (codes "fault") (code ∷ at ∷ [])) (fault code at first);
    wrote = wrote e;
  }
  fault_cut first wrote keeps (inr e) = kept s before now (keeps e)

keeps_same : (a : Option (List ℕ)) → Keeps a a
keeps_same None = tt
keeps_same (Some xs) = refl

pub kept_here : (s : Snapshot) (before : Option (List ℕ)) → WritesFrontOf s before before
kept_here s before = kept s before before (keeps_same before)

pub kept_bytes : (bytes : List ℕ) (before now : Option (List ℕ)) → Keeps before now → WritesFront bytes before now
kept_bytes bytes before now keeps = record { text = []; begun = nothing_yet; wrote = all_front before now [] (appends_none before now keeps) }

pub kept_bytes_here : (bytes : List ℕ) (before : Option (List ℕ)) → WritesFront bytes before before
kept_bytes_here bytes before = kept_bytes bytes before before (keeps_same before)

-- The outcome of a snapshot is that of its bytes.
module _ (bytes : List ℕ) (s : Snapshot) (few : length bytes < LIMIT) (spells : Spells bytes s) (before now : Option (List ℕ)) where
  pub bytes_told : (ended : AskStatus) → WritesSnapshot s ended before now → WritesOutcome bytes ended before now
  bytes_told ended w = record { text = w.text; outcome = of_snapshot s few spells ended w.text w.outcome; wrote = w.wrote }

  pub bytes_cut : WritesFrontOf s before now → WritesFront bytes before now
  bytes_cut w = record { text = w.text; begun = begun_snapshot s few spells w.text w.begun; wrote = w.wrote }

-- a reported bad line, and too many bytes
module _ (bytes : List ℕ) (before now : Option (List ℕ)) (told_status : AskStatus) where
  pub line_told : (number : ℕ) → length bytes < LIMIT → IsBadLine bytes number
      → (told_status ≡ status.Faulty → Appends before now (line (codes "bad line") (number ∷ []))) → (told_status ≡ status.Faulty)
      ⊎ (told_status ≡ status.WriteFault) ⊎ (told_status ≡ status.OutOfMemory)
      → (told_status ≡ status.Answered) ⊎ (told_status ≡ status.Faulty) ⊎ (told_status ≡ status.TooLarge) → WritesOutcome bytes told_status before now
  line_told number short bad wrote only e = let is = faulty only e in subst (λ (t : AskStatus). WritesOutcome bytes t before now) (sym is)
      (record { text = line (codes "bad line") (number ∷ []); outcome = bad_line number short bad; wrote = wrote is })
    where
      faulty : (told_status ≡ status.Faulty) ⊎ (told_status ≡ status.WriteFault) ⊎ (told_status ≡ status.OutOfMemory) → (told_status ≡ status.Answered)
          ⊎ (told_status ≡ status.Faulty) ⊎ (told_status ≡ status.TooLarge) → told_status ≡ status.Faulty
      faulty (inl f) g = f
      faulty (inr (inl f)) (inl g) = absurd (cc)
      faulty (inr (inl f)) (inr (inl g)) = g
      faulty (inr (inl f)) (inr (inr g)) = absurd (cc)
      faulty (inr (inr f)) (inl g) = absurd (cc)
      faulty (inr (inr f)) (inr (inl g)) = g
      faulty (inr (inr f)) (inr (inr g)) = absurd (cc)

  pub line_cut : (number : ℕ) → length bytes < LIMIT → IsBadLine bytes number → (told_status ≡ status.WriteFault → AppendsFront before now
      (line (codes "bad line") (number ∷ []))) → (told_status ≡ status.OutOfMemory → Keeps before now) → (told_status ≡ status.WriteFault) ⊎ (told_status
      ≡ status.OutOfMemory) → WritesFront bytes before now
  line_cut number short bad wrote keeps (inl e) = record {
    text = line (codes "bad line") (number ∷ []);
    begun = whole_bytes status.Faulty
        (line (codes "bad line") (number ∷ [])) (bad_line number short bad);
    wrote = wrote e;
  }
  line_cut number short bad wrote keeps (inr e) = kept_bytes bytes before now (keeps e)

  pub large_told : LIMIT ≤ length bytes → (told_status ≡ status.TooLarge → Appends before now (codes "too large\n")) → (told_status ≡ status.TooLarge)
      ⊎ (told_status ≡ status.WriteFault) → (told_status ≡ status.Answered) ⊎ (told_status ≡ status.Faulty) ⊎ (told_status ≡ status.TooLarge)
      → WritesOutcome bytes told_status before now
  large_told many wrote only e = let is = too_large only e in subst (λ (t : AskStatus). WritesOutcome bytes t before now) (sym is)
      (record { text = codes "too large\n"; outcome = large many; wrote = wrote is })
    where
      too_large : (told_status ≡ status.TooLarge) ⊎ (told_status ≡ status.WriteFault) → (told_status ≡ status.Answered) ⊎ (told_status ≡ status.Faulty)
          ⊎ (told_status ≡ status.TooLarge) → told_status ≡ status.TooLarge
      too_large (inl f) g = f
      too_large (inr f) (inl g) = absurd (cc)
      too_large (inr f) (inr (inl g)) = absurd (cc)
      too_large (inr f) (inr (inr g)) = g

  pub large_cut : LIMIT ≤ length bytes → (told_status ≡ status.WriteFault → AppendsFront before now (codes "too large\n")) → (told_status ≡ status.TooLarge)
      ⊎ (told_status ≡ status.WriteFault) → (told_status ≡ status.WriteFault) ⊎ (told_status ≡ status.OutOfMemory) → WritesFront bytes before now
  large_cut many wrote only e = record { text = codes "too large\n"; begun = whole_bytes status.TooLarge (codes "too large\n") (large many); wrote = wrote (write_fault only e) }
    where
      write_fault : (told_status ≡ status.TooLarge) ⊎ (told_status ≡ status.WriteFault) → (told_status ≡ status.WriteFault) ⊎ (told_status ≡ status.OutOfMemory) → told_status ≡ status.WriteFault
      write_fault only (inl f) = f
      write_fault (inr f) (inr g) = f
      write_fault (inl f) (inr g) = absurd (cc)

  -- a snapshot's statuses differ from that of too many bytes
  pub not_large : (told_status ≡ status.Answered) ⊎ (told_status ≡ status.Faulty) ⊎ (told_status ≡ status.WriteFault) ⊎ (told_status ≡ status.OutOfMemory)
      → (told_status ≡ status.Answered) ⊎ (told_status ≡ status.Faulty) ⊎ (told_status ≡ status.TooLarge) → (told_status ≡ status.Answered)
      ⊎ (told_status ≡ status.Faulty)
  not_large only (inl f) = inl f
  not_large only (inr (inl f)) = inr f
  not_large (inl f) (inr (inr g)) = inl f
  not_large (inr (inl f)) (inr (inr g)) = inr f
  not_large (inr (inr (inl f))) (inr (inr g)) = absurd (cc)
  not_large (inr (inr (inr f))) (inr (inr g)) = absurd (cc)

-- What holds of the bytes read holds of the source's bytes: either these are all of them, or there are too many.
module _ (left after : Option (List ℕ)) (bytes : List ℕ) (took : Consumes left after bytes) (ends : length bytes < LIMIT → IsAtEnd after) where
  told : (P : List ℕ → Type 0) → P bytes → ((more : List ℕ) → LIMIT ≤ length bytes → P bytes → P (bytes ++ more)) → IfSome left P
  told P here longer = by left after took ends
    where
      by : (l a : Option (List ℕ)) → Consumes l a bytes → (length bytes < LIMIT → IsAtEnd a) → IfSome l P
      by None a t e = tt
      by (Some xs) None t e = absurd t
      by (Some xs) (Some ys) t e = elim (cases_lt (length bytes) LIMIT) [
        | inl short ↦ subst P (sym (t ∙ ap (λ l. bytes ++ l) (e short) ∙ append-nil bytes)) here
        | inr many ↦ subst P (sym t) (longer ys many here)
      ]

  longer_outcome : (more text : List ℕ) (ended : AskStatus) → LIMIT ≤ length bytes → IsOutcome bytes ended text → IsOutcome (bytes ++ more) ended text
  longer_outcome more _ _ many (bad_line number short bad) = absurd (omega (arith, many, short))
  longer_outcome more _ _ many (of_snapshot s short spells ended text of) = absurd (omega (arith, many, short))
  longer_outcome more _ _ many (large large_is) = large (omega (arith, many, length-append bytes more))

  longer_begun : (more text : List ℕ) → LIMIT ≤ length bytes → IsBegun bytes text → IsBegun (bytes ++ more) text
  longer_begun more _ many nothing_yet = nothing_yet
  longer_begun more _ many (whole_bytes ended text outcome) = whole_bytes ended text (longer_outcome more text ended many outcome)
  longer_begun more _ many (begun_snapshot s short spells text begun) = absurd (omega (arith, many, short))

  pub told_outcome : (ended : AskStatus) (before now : Option (List ℕ)) → WritesOutcome bytes ended before now → IfSome left (λ bs. WritesOutcome bs ended before now)
  told_outcome ended before now w = told (λ bs. WritesOutcome bs ended before now) w (λ more many k. record {
    text = k.text;
    outcome = longer_outcome more
        k.text ended many k.outcome;
    wrote = k.wrote;
  })

  pub told_front : (before now : Option (List ℕ)) → WritesFront bytes before now → IfSome left (λ bs. WritesFront bs before now)
  told_front before now w = told (λ bs. WritesFront bs before now) w (λ more many k. record { text = k.text; begun = longer_begun more k.text many k.begun; wrote = k.wrote })

  pub told_answer : (ended : AskStatus) (before now : Option (List ℕ)) → WritesOutcome bytes ended before now → IfSome left (λ bs. HasOutcome bs ended)
  told_answer ended before now w = told (λ bs. HasOutcome bs ended) (record { text = w.text; outcome = w.outcome })
      (λ more many k. record { text = k.text; outcome = longer_outcome more k.text ended many k.outcome })

-- which status comes
module _ (left after : Option (List ℕ)) (bytes : List ℕ) (took : Consumes left after bytes) (ends : length bytes < LIMIT → IsAtEnd after) (before now : Option (List ℕ)) (told_status : AskStatus) where
  pub answer_comes : ((told_status ≡ status.Answered) ⊎ (told_status ≡ status.Faulty) ⊎ (told_status ≡ status.TooLarge) → WritesOutcome bytes told_status before now)
      → (told_status ≡ status.Answered) ⊎ (told_status ≡ status.Faulty) ⊎ (told_status ≡ status.TooLarge) ⊎ (told_status ≡ status.WriteFault)
      ⊎ (told_status ≡ status.OutOfMemory) → IsCutShort told_status ⊎ IfSome left (λ bs. HasOutcome bs told_status)
  answer_comes wrote (inl e) = inr (told_answer left after bytes took ends told_status before now (wrote (inl e)))
  answer_comes wrote (inr (inl e)) = inr (told_answer left after bytes took ends told_status before now (wrote (inr (inl e))))
  answer_comes wrote (inr (inr (inl e))) = inr (told_answer left after bytes took ends told_status before now (wrote (inr (inr e))))
  answer_comes wrote (inr (inr (inr (inl e)))) = inl (inr (inl e))
  answer_comes wrote (inr (inr (inr (inr e)))) = inl (inr (inr e))

-- something or nothing was read when memory ran out while reading
pub front_anyway : (left before : Option (List ℕ)) → IfSome left (λ bs. WritesFront bs before before)
front_anyway None before = tt
front_anyway (Some bytes) before = kept_bytes_here bytes before

-- if neither source nor sink failed, only lack of memory cuts the answers short
pub complete : (ended : AskStatus) (SourceRose SinkRose Told : Type 0) → (ended ≡ status.ReadFault → SourceRose) → (ended ≡ status.WriteFault → SinkRose) → IsCutShort ended ⊎ Told
    → ¬ SourceRose → ¬ SinkRose → (ended ≡ status.OutOfMemory) ⊎ Told
complete ended SourceRose SinkRose Told read write (inr told_is) no_source no_sink = inr told_is
complete ended SourceRose SinkRose Told read write (inl (inl e)) no_source no_sink = absurd (no_source (read e))
complete ended SourceRose SinkRose Told read write (inl (inr (inl e))) no_source no_sink = absurd (no_sink (write e))
complete ended SourceRose SinkRose Told read write (inl (inr (inr e))) no_source no_sink = inl e
