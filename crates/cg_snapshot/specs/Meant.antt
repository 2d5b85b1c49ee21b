-- What the words of a line say, if anything. (Ours.)
use Rattle.std.specs.Prelude.{ℕ, zero, suc, ◌^◌, Bool, true, false, cond, nat_lt, List, [], ◌∷◌, Option, Some, None, option_map, option_and_then}
use Rattle.cg_records.specs.Lists.{none_in}
use Rattle.cg_snapshot.specs.declared.question.Question.TheVariants.{Why, Referrers, Hidden, Lost, Dropped, Untold}
use Rattle.cg_snapshot.specs.declared.row.Kind.{Kind}
use Rattle.cg_snapshot.specs.declared.row.Kind.TheVariants as kinds
use Rattle.cg_snapshot.specs.declared.row.Row.{Row}
use Rattle.cg_snapshot.specs.declared.line.Line.{Line}
use Rattle.cg_snapshot.specs.declared.line.Line.TheVariants as lines

-- the mark that a number denotes
abbrev pub mark_in : ℕ → Option Bool
mark_in zero = Some false
mark_in (suc zero) = Some true
mark_in (suc (suc n)) = None

-- the single element of a list
abbrev pub only : List ℕ → Option ℕ
only [] = None
only (n ∷ []) = Some n
only (n ∷ m ∷ ns) = None

-- a line without numbers
abbrev pub bare_line : Line → List ℕ → Option Line
bare_line line ns = cond (none_in ns) (Some line) None

-- in-degree, bytes, two marks and references
abbrev pub told : ℕ → ℕ → ℕ → ℕ → List ℕ → Option Line
told degree size tracked legacy refs = cond (nat_lt size (2 ^ 36)) (option_and_then (λ t. option_map (λ l. lines.Tells degree size t l refs) (mark_in legacy)) (mark_in tracked)) None

abbrev pub meant_member : List ℕ → Option Line
meant_member [] = None
meant_member (a ∷ []) = None
meant_member (a ∷ b ∷ []) = None
meant_member (a ∷ b ∷ c ∷ []) = None
meant_member (degree ∷ size ∷ tracked ∷ legacy ∷ refs) = told degree size tracked legacy refs

-- a word and numbers
abbrev pub meant_plain : Kind → List ℕ → Option Line
meant_plain kinds.Heap ns = bare_line lines.Opens ns
meant_plain kinds.Member ns = meant_member ns
meant_plain kinds.Words ns = cond (none_in ns) None (Some (lines.Adds ns))
meant_plain kinds.End ns = bare_line lines.Closes ns
meant_plain kinds.Why ns = option_map (λ n. lines.Asks (Why n [])) (only ns)
meant_plain kinds.Referrers ns = option_map (λ n. lines.Asks (Referrers n)) (only ns)
meant_plain kinds.Hidden ns = bare_line (lines.Asks Hidden) ns
meant_plain kinds.Lost ns = bare_line (lines.Asks Lost) ns
meant_plain kinds.Dropped ns = cond (none_in ns) None (Some (lines.Asks (Dropped ns)))
meant_plain kinds.Untold ns = bare_line (lines.Asks Untold) ns

-- a word, numbers, and numbers after a word `but`
abbrev pub meant_but : Kind → List ℕ → List ℕ → Option Line
meant_but kinds.Heap ns but = None
meant_but kinds.Member ns but = None
meant_but kinds.Words ns but = None
meant_but kinds.End ns but = None
meant_but kinds.Why ns but = option_map (λ n. lines.Asks (Why n but)) (only ns)
meant_but kinds.Referrers ns but = None
meant_but kinds.Hidden ns but = None
meant_but kinds.Lost ns but = None
meant_but kinds.Dropped ns but = None
meant_but kinds.Untold ns but = None

abbrev pub meant : Row → Option Line
meant r = cond (none_in r.but) (meant_plain r.kind r.numbers) (meant_but r.kind r.numbers r.but)
