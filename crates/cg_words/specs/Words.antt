-- What the arguments ask for: what `clap` makes of them by the command line below, and the form of the number. (The command
-- line is ours; `fault_of`, `subcommand_of` and `first_of` are clap's own definitions for a simple command.)
use Rattle.std.specs.Prelude.{◌≡◌, ◌≤◌, ℕ, List, [], ◌∷◌, Bool, true, ◌&&◌, nat_le, if◌then◌else◌, codes, Option, None, Some, option_map, option_and_then}
use Rattle.std.specs.Str.{bytes_eq}
use Rattle.clap.specs.declared.builder.action.ArgAction.TheVariants.{Set}
use Rattle.clap.specs.Walk.{Text, Row, Rule, first_of, is_empty}
use Rattle.clap.specs.Simple.{App, Shape, new_app, new_rule, on_top, with_rule, with_subcommand, subcommand_of}
use Rattle.clap.specs.Faults.{fault_of}
use Rattle.cg_script.specs.declared.limits.TheConstants.{MOST_BUDGET}
use Rattle.cg_script.specs.Words.{are_digits, decimal_value}
use Rattle.cg_words.specs.declared.words.Job.{Job}
use Rattle.cg_words.specs.declared.words.Job.TheVariants.{Run, Generate, Expand, Record}

-- an option `--budget` that takes one text
abbrev pub budget_rule : Rule
budget_rule = record (new_rule (codes "budget")) { long = Some (codes "budget"); action = Some Set }

-- one required text
abbrev pub blocks_rule : Rule
blocks_rule = record (new_rule (codes "blocks")) { action = Some Set; required = true }

-- `run`, with one option
abbrev pub run_line : App
run_line = with_rule (new_app (codes "run")) budget_rule

-- `generate`, with one text
abbrev pub generate_line : App
generate_line = with_rule (new_app (codes "generate")) blocks_rule

-- `expand` and `record`, without arguments
abbrev pub expand_line : App
expand_line = new_app (codes "expand")

abbrev pub record_line : App
record_line = new_app (codes "record")

-- no program name before the arguments, no help or version flags of clap's, and a required subcommand
abbrev pub settings : Shape → Shape
settings s = record s { no_binary_name = true; disable_help_flag = true; disable_help_subcommand = true; disable_version_flag = true; subcommand_required = true }

-- the subcommands that take a number
abbrev pub line_with_numbers : App
line_with_numbers = with_subcommand (with_subcommand (on_top settings (new_app (codes "gcrun"))) run_line.top) generate_line.top

-- the command line: one of the four subcommands
abbrev pub command_line : App
command_line = with_subcommand (with_subcommand line_with_numbers expand_line.top) record_line.top

-- the number that one to six digits write, if it is in a range
abbrev pub number_between : ℕ → ℕ → Text → Option ℕ
number_between least most word = if are_digits 6 word && (nat_le least (decimal_value word) && nat_le (decimal_value word) most) then Some (decimal_value word) else None

-- the budget or the blocks that a text writes
abbrev pub budget_in : Text → Option ℕ
budget_in word = number_between 0 MOST_BUDGET word

abbrev pub blocks_in : Text → Option ℕ
blocks_in word = number_between 1 10000 word

-- the job of `run`, given the text of its option
abbrev pub run_by : Option Text → Option Job
run_by None = Some (Run None)
run_by (Some word) = option_map (λ n. Run (Some n)) (budget_in word)

-- the job of `generate`, given its text
abbrev pub generate_by : Option Text → Option Job
generate_by text = option_map (λ n. Generate n) (option_and_then blocks_in text)

-- the job of a subcommand, given what was found for its argument
abbrev pub job_of : Text → List Row → Option Job
job_of name rows =
    if bytes_eq name (codes "run") then run_by (first_of (codes "budget") rows)
    else if bytes_eq name (codes "generate") then generate_by (first_of (codes "blocks") rows)
    else if bytes_eq name (codes "expand") then Some Expand
    else if bytes_eq name (codes "record") then Some Record
    else None

abbrev pub job_in : Option (Text × List Row) → Option Job
job_in sub = option_and_then (λ s. job_of s.0 s.1) sub

-- the job that the arguments ask for; None if clap refuses them, or if a number has another form or range
unfoldable pub asked : List Text → Option Job
asked words = if is_empty (fault_of command_line words) then job_in (subcommand_of command_line words) else None

-- the arguments ask for this job
abbrev pub AsksFor : List Text → Job → Type 0
AsksFor words job = asked words ≡ Some job

-- the arguments ask for some job
abbrev pub Ask : List Text → Type 0
Ask words = (job : Job) × AsksFor words job

-- the range of a job's number
abbrev pub IsInRange : Job → Type 0
IsInRange (Run None) = Unit {0}
IsInRange (Run (Some budget)) = budget ≤ MOST_BUDGET
IsInRange (Generate blocks) = (1 ≤ blocks) × (blocks ≤ 10000)
IsInRange Expand = Unit {0}
IsInRange Record = Unit {0}
