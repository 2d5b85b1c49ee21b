-- What words say is what a line says, and conversely.
use Rattle.std.proofs.Common.{◌≡◌, ◌≢◌, refl, sym, ◌∙◌, ap, subst, ℕ, zero, suc, ◌<◌, ◌^◌, Bool, true, false, cond, nat_lt, List, [], ◌∷◌, length, Option, Some, None, arith}
use Rattle.std.specs.Prelude.{option_map, option_and_then, IfSome, IfNone}
use Rattle.std.proofs.lemmas.Bool.{ltb-true, lt-ltb}
use Rattle.std.proofs.lemmas.Option.{same_Some}
use Rattle.cg_records.specs.Lists.{none_in}
use Rattle.cg_snapshot.specs.declared.question.Question.{Question}
use Rattle.cg_snapshot.specs.declared.question.Question.TheVariants.{Why, Referrers, Hidden, Lost, Dropped, Untold}
use Rattle.cg_snapshot.specs.declared.row.Kind.{Kind}
use Rattle.cg_snapshot.specs.declared.row.Kind.TheVariants as kinds
use Rattle.cg_snapshot.specs.declared.row.Row.{Row}
use Rattle.cg_snapshot.specs.declared.line.Line.{Line}
use Rattle.cg_snapshot.specs.declared.line.Line.TheVariants as lines
use Rattle.cg_snapshot.specs.Rows.{raw_of, AreSmall, IsRow}
use Rattle.cg_snapshot.specs.Text.{flag}
use Rattle.cg_snapshot.specs.Lines.{row, row_of, raw_line, IsLine, IsSmallQuestion}
use Rattle.cg_snapshot.specs.Meant.{mark_in, only, bare_line, told, meant_member, meant_plain, meant}
use Rattle.cg_snapshot.proofs.DistinctRows.{one_row}

flag_back : (b : Bool) → mark_in (flag b) ≡ Some b
flag_back true = refl
flag_back false = refl

told_back : (d s : ℕ) (t l : Bool) (refs : List ℕ) → s < 2 ^ 36 → told d s (flag t) (flag l) refs ≡ Some (lines.Tells d s t l refs)
told_back d s t l refs small =
    ap (λ b. cond b (option_and_then (λ u. option_map (λ v. lines.Tells d s u v refs) (mark_in (flag l))) (mark_in (flag t))) None) (lt-ltb s (2 ^ 36) small)
    ∙ ap (λ o. option_and_then (λ u. option_map (λ v. lines.Tells d s u v refs) (mark_in (flag l))) o) (flag_back t)
    ∙ ap (λ o. option_map (λ v. lines.Tells d s t v refs) o) (flag_back l)

some_numbers : (f : List ℕ → Line) (ns : List ℕ) → 0 < length ns → cond (none_in ns) None (Some (f ns)) ≡ Some (f ns)
some_numbers f [] h = absurd (omega (arith, h))
some_numbers f (n ∷ ns) h = refl

question_back : (q : Question) → IsSmallQuestion q → meant (row_of (lines.Asks q)) ≡ Some (lines.Asks q)
question_back (Why n []) h = refl
question_back (Why n (m ∷ but)) h = refl
question_back (Dropped ns) h = some_numbers (λ ms. lines.Asks (Dropped ms)) ns h.0
question_back other h = refl

-- reading the words of a line gives the line
pub meant_back : (l : Line) → IsLine l → meant (row_of l) ≡ Some l
meant_back (lines.Tells d s t l refs) h = told_back d s t l refs h.1
meant_back (lines.Adds ns) h = some_numbers lines.Adds ns h.0
meant_back (lines.Asks q) h = question_back q h
meant_back line h = refl

flag_small : (b : Bool) → flag b < 2 ^ 64
flag_small true = omega arith
flag_small false = omega arith

question_row : (q : Question) → IsSmallQuestion q → IsRow (row_of (lines.Asks q))
question_row (Why n but) h = record { numbers = (h.0, tt); but = h.1 }
question_row (Referrers n) h = record { numbers = (h, tt); but = tt }
question_row (Dropped ns) h = record { numbers = h.1; but = tt }
question_row other h = record { numbers = tt; but = tt }

-- the words of a line have small numbers
pub line_row : (l : Line) → IsLine l → IsRow (row_of l)
line_row (lines.Tells d s t l refs) h = record { numbers = (h.0, (omega (arith, h.1), (flag_small t, (flag_small l, h.2)))); but = tt }
line_row (lines.Adds ns) h = record { numbers = h.1; but = tt }
line_row (lines.Asks q) h = question_row q h
line_row line h = record { numbers = tt; but = tt }

-- The line read has these words.
pub record Reads (k : Kind) (ns but : List ℕ) (l : Line) : Type 0 where
  pub row : row_of l ≡ row k ns but
  pub fits : IsLine l

moved : (k : Kind) (ns but : List ℕ) (a b : Line) → Some a ≡ Some b → Reads k ns but a → Reads k ns but b
moved k ns but a b e h = subst (λ (l : Line). Reads k ns but l) (same_Some a b e) h

mark_says : (n : ℕ) (b : Bool) → mark_in n ≡ Some b → n ≡ flag b
mark_says zero b e = ap flag (same_Some false b e)
mark_says (suc zero) b e = ap flag (same_Some true b e)
mark_says (suc (suc n)) b e = absurd (cc)

member_says : (ns : List ℕ) (line : Line) → AreSmall ns → meant_member ns ≡ Some line → Reads kinds.Member ns [] line
member_says (d ∷ s ∷ t ∷ l ∷ refs) line small e = by (nat_lt s (2 ^ 36)) refl (mark_in t) refl (mark_in l) refl e
  where
    by : (b : Bool) → nat_lt s (2 ^ 36) ≡ b → (o : Option Bool) → mark_in t ≡ o → (p : Option Bool) → mark_in l ≡ p
        → cond b (option_and_then (λ u. option_map (λ v. lines.Tells d s u v refs) p) o) None ≡ Some line → Reads kinds.Member (d ∷ s ∷ t ∷ l ∷ refs) [] line
    by true is (Some u) x (Some v) y f = moved kinds.Member (d ∷ s ∷ t ∷ l ∷ refs) [] (lines.Tells d s u v refs) line f (record {
      row = ap (λ n. row kinds.Member (d ∷ s ∷ n ∷ flag v ∷ refs) []) (sym (mark_says t u x)) ∙ ap (λ n. row kinds.Member (d ∷ s ∷ t ∷ n ∷ refs) []) (sym (mark_says l v y));
      fits = (small.0, ltb-true s (2 ^ 36) is, small.1.1.1.1);
    })
    by b is o x p y f = absurd (cc)
member_says xs line small e = absurd (cc)

bare_says : (k : Kind) (a : Line) → Reads k [] [] a → (ns : List ℕ) (line : Line) → bare_line a ns ≡ Some line → Reads k ns [] line
bare_says k a h [] line e = moved k [] [] a line e h
bare_says k a h (n ∷ ns) line e = absurd (cc)

some_says : (k : Kind) (f : List ℕ → Line) → ((ns : List ℕ) → 0 < length ns → AreSmall ns → Reads k ns [] (f ns)) → (ns : List ℕ) (line : Line) → AreSmall ns
    → cond (none_in ns) None (Some (f ns)) ≡ Some line → Reads k ns [] line
some_says k f h [] line small e = absurd (cc)
some_says k f h (n ∷ ns) line small e = moved k (n ∷ ns) [] (f (n ∷ ns)) line e (h (n ∷ ns) (omega arith) small)

one_says : (k : Kind) (but : List ℕ) (f : ℕ → Line) → ((n : ℕ) → n < 2 ^ 64 → Reads k (n ∷ []) but (f n)) → (ns : List ℕ) (line : Line) → AreSmall ns
    → option_map f (only ns) ≡ Some line → Reads k ns but line
one_says k but f h (n ∷ []) line small e = moved k (n ∷ []) but (f n) line e (h n small.0)
one_says k but f h xs line small e = absurd (cc)

plain_says : (k : Kind) (ns : List ℕ) (line : Line) → AreSmall ns → meant_plain k ns ≡ Some line → Reads k ns [] line
plain_says kinds.Heap ns line small e = bare_says kinds.Heap lines.Opens (record { row = refl; fits = tt }) ns line e
plain_says kinds.Member ns line small e = member_says ns line small e
plain_says kinds.Words ns line small e = some_says kinds.Words lines.Adds (λ ms some are. record { row = refl; fits = (some, are) }) ns line small e
plain_says kinds.End ns line small e = bare_says kinds.End lines.Closes (record { row = refl; fits = tt }) ns line e
plain_says kinds.Why ns line small e = one_says kinds.Why [] (λ n. lines.Asks (Why n [])) (λ n is. record { row = refl; fits = (is, tt) }) ns line small e
plain_says kinds.Referrers ns line small e = one_says kinds.Referrers [] (λ n. lines.Asks (Referrers n)) (λ n is. record { row = refl; fits = is }) ns line small e
plain_says kinds.Hidden ns line small e = bare_says kinds.Hidden (lines.Asks Hidden) (record { row = refl; fits = tt }) ns line e
plain_says kinds.Lost ns line small e = bare_says kinds.Lost (lines.Asks Lost) (record { row = refl; fits = tt }) ns line e
plain_says kinds.Dropped ns line small e = some_says kinds.Dropped (λ ms. lines.Asks (Dropped ms)) (λ ms some are. record { row = refl; fits = (some, are) }) ns line small e
plain_says kinds.Untold ns line small e = bare_says kinds.Untold (lines.Asks Untold) (record { row = refl; fits = tt }) ns line e

words_say : (k : Kind) (ns but : List ℕ) (line : Line) → AreSmall ns → AreSmall but → meant (row k ns but) ≡ Some line → Reads k ns but line
words_say k ns [] line small are e = plain_says k ns line small e
words_say kinds.Why ns (m ∷ but) line small are e = one_says kinds.Why (m ∷ but) (λ n. lines.Asks (Why n (m ∷ but))) (λ n is. record { row = refl; fits = (is, are) }) ns line small e
words_say k ns (m ∷ but) line small are e = absurd (cc)

-- no two lines share a text
pub one_line : (a b : Line) → IsLine a → IsLine b → raw_line a ≡ raw_line b → a ≡ b
one_line a b p q e = same_Some a b (sym (meant_back a p) ∙ ap meant (one_row (row_of a) (row_of b) (line_row a p) (line_row b q) e) ∙ meant_back b q)

-- a line that was read
module _ (raw : List ℕ) (r : Row) (is : raw ≡ raw_of r) (fits : IsRow r) where
  pub read_found : (o : Option Line) → o ≡ meant r → IfSome o (λ l. raw ≡ raw_line l)
  read_found None e = tt
  read_found (Some l) e = is ∙ ap raw_of (sym (words_say r.kind r.numbers r.but l fits.numbers fits.but (sym e)).row)

  pub read_fits : (o : Option Line) → o ≡ meant r → IfSome o (λ l. IsLine l)
  read_fits None e = tt
  read_fits (Some l) e = (words_say r.kind r.numbers r.but l fits.numbers fits.but (sym e)).fits

  pub read_none : (o : Option Line) → o ≡ meant r → IfNone o ((l : Line) → IsLine l → raw ≢ raw_line l)
  read_none None e = λ l line same. absurd (clash l (e ∙ ap meant (one_row r (row_of l) fits (line_row l line) (sym is ∙ same)) ∙ meant_back l line))
    where
      clash : (l : Line) → None ≡ Some l → ⊥
      clash l f = absurd (cc)
  read_none (Some l) e = tt

pub no_row : (raw : List ℕ) → ((r : Row) → IsRow r → raw ≢ raw_of r) → (l : Line) → IsLine l → raw ≢ raw_line l
no_row raw none l line same = none (row_of l) (line_row l line) same
