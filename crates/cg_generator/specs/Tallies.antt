-- The tally of a text, its summary line, and what contracts see of a sink that tallies. (Ours.)
use Rattle.std.specs.Prelude.{ℕ, ◌+◌, ◌-◌, ◌^◌, ◌==◌, min, List, [], ◌∷◌, ◌++◌, Bool, length, take, drop, codes, decimal, nat_lt, if◌then◌else◌, Option, Some, None, is_some, unwrap_or, option_and_then}
use Rattle.std.specs.List.{count_by, sum_by, prefix_len, list_any}
use Rattle.cg_script.specs.Pieces.{lines_of}
use Rattle.cg_script.specs.Words.{after_prefix, is_digit, decimal_value}
use Rattle.cg_generator.specs.declared.counts.Tally.{Tally}

-- the largest number of 64 bits
abbrev pub largest : ℕ
largest = 2 ^ 64 - 1

-- a line has this prefix
abbrev pub begins : List ℕ → List ℕ → Bool
begins front line = is_some (after_prefix front line)

-- the digits at the front of some bytes and what follows them, if there is a digit
abbrev pub number_then : List ℕ → Option (List ℕ × List ℕ)
number_then bytes = if nat_lt 0 (prefix_len is_digit bytes) then Some (take (prefix_len is_digit bytes) bytes, drop (prefix_len is_digit bytes) bytes) else None

-- the same after a space
abbrev pub number_behind_space : List ℕ → Option (List ℕ × List ℕ)
number_behind_space bytes = option_and_then number_then (after_prefix (codes " ") bytes)

-- the second of three numbers with one space between them and nothing after them
abbrev pub second_of_three : List ℕ → Option (List ℕ)
second_of_three bytes =
    option_and_then (λ first. option_and_then (λ second. option_and_then (λ third. if length third.1 == 0 then Some second.0 else None)
    (number_behind_space second.1)) (number_behind_space first.1)) (number_then bytes)

-- M of a line `gc stop g M N`
abbrev pub collected_digits : List ℕ → Option (List ℕ)
collected_digits line = option_and_then second_of_three (after_prefix (codes "gc stop ") line)

-- its value, and 0 for a line of another form
abbrev pub value_or_none : Option (List ℕ) → ℕ
value_or_none None = 0
value_or_none (Some digits) = decimal_value digits

abbrev pub collected_in : List ℕ → ℕ
collected_in line = value_or_none (collected_digits line)

-- The tally of some lines: those that begin with `made `, with `free ` and with `gc stop `, the sum of M over the lines
-- `gc stop g M N`, capped at 2^64 - 1, and all lines.
abbrev pub tally_of_lines : List (List ℕ) → Tally
tally_of_lines lines = record {
  made = count_by (begins (codes "made ")) lines;
  freed = count_by (begins (codes "free ")) lines;
  stops = count_by (begins (codes "gc stop ")) lines;
  collected = min (sum_by collected_in lines) largest;
  lines = length lines;
}

-- the tally of a text
abbrev pub tally_of : List ℕ → Tally
tally_of text = tally_of_lines (lines_of text)

-- a line reports a refused command
abbrev pub is_refusal : List ℕ → Bool
is_refusal line = begins (codes "refused ") line

-- some line of a text does
abbrev pub has_refusal : List ℕ → Bool
has_refusal text = list_any is_refusal (lines_of text)

-- the summary line of a tally
abbrev pub summary_of : Tally → List ℕ
summary_of t = codes "summary " ++ decimal t.made ++ codes " " ++ decimal t.freed ++ codes " " ++ decimal t.stops ++ codes " " ++ decimal t.collected ++ codes " " ++ decimal t.lines ++ codes "\n"

-- what contracts see of a tallying sink: the text that was written, which it does not store, and the faults so far
pub record Tallied : Type 0 where
  pub text : List ℕ
  pub faults : ℕ
