-- The job that the arguments ask for, from clap's contract for a parse.
use Rattle.std.proofs.Common.{◌≡◌, ℕ, ◌==◌, Bool, true, false, if◌then◌else◌, List, [], ◌∷◌, length, codes, Option, None, Some, option_map, inl, inr, refl, sym, ap, subst, ◌∙◌, arith}
use Rattle.std.specs.Prelude.{Box}
use Rattle.std.specs.Box.{box_value}
use Rattle.std.proofs.lemmas.Bool.Decides.{nat_tests}
use Rattle.clap.specs.Walk.{Text, Row, first_of, is_empty, rows_of}
use Rattle.clap.specs.Matches.{found_of, first_value}
use Rattle.clap.specs.Simple.{App, is_simple, subcommand_of, subcommand_rows}
use Rattle.clap.specs.Values.{kind_of}
use Rattle.clap.specs.Kinds.{Kinds, IsAmong, HasKind}
use Rattle.clap.specs.Faults.{fault_of, is_simple_and_free}
use Rattle.clap.specs.declared.error.Error.{Error}
use Rattle.clap.specs.declared.error.kind.ErrorKind.{ErrorKind}
use Rattle.clap.specs.declared.error.kind.ErrorKind.TheVariants as kind
use Rattle.clap.specs.declared.parser.matches.Found.{Found}
use Rattle.clap.specs.declared.parser.matches.SubCommand.{SubCommand}
use Rattle.clap.specs.declared.parser.matches.ArgMatches.TheViews.{out-SubCommand}
use Rattle.clap.proofs.WalkLemmas.{first_value-rows}
use Rattle.clap.proofs.OnLiterals.{clap_on_literals}
use Rattle.cg_words.specs.declared.words.Job.{Job}
use Rattle.cg_words.specs.Words.{command_line, run_by, generate_by, job_of, job_in, asked}

-- the command line is simple, and no argument depends on another
pub line_is_simple : is_simple command_line ≡ true
unfolding clap_on_literals
line_is_simple = refl

pub line_is_free : is_simple_and_free command_line ≡ true
unfolding clap_on_literals
line_is_free = refl

-- the chosen subcommand, by its name and its rows
pub entered : {Z : Type 0} (o : Option (Box SubCommand Z)) (name : Text) (rows : List Row) → Some name
    ≡ option_map (λ b. (out-SubCommand (box_value b)).name.now) o → Some rows ≡ option_map (λ p. p.1) (subcommand_rows o)
    → subcommand_rows o ≡ Some (name, rows)
entered None name rows n r = absurd (cc)
entered (Some b) name rows n r =
    let one : name ≡ (out-SubCommand (box_value b)).name.now = cc in
    let two : rows ≡ rows_of (found_of (out-SubCommand (box_value b)).matches) = cc in
    rw (one, two) refl

module _ (f : Found) (sub : Option (Text × List Row)) (name : Text) (is : sub ≡ Some (name, rows_of f)) where
  -- `run`
  pub run_is_read : (value : Option Text) (job : Option Job) → name ≡ codes "run" → value ≡ first_value f (codes "budget") → job ≡ run_by value → job ≡ job_in sub
  run_is_read value job run found by_it =
      by_it ∙ ap run_by (found ∙ first_value-rows f (codes "budget")) ∙ sym (ap job_in is ∙ ap (λ n. job_of n (rows_of f)) run)

  -- `generate`
  pub generate_is_read : (value : Option Text) (job : Option Job) → name ≡ codes "generate" → value ≡ first_value f (codes "blocks") → job ≡ generate_by value → job ≡ job_in sub
  generate_is_read value job generate found by_it =
      by_it ∙ ap generate_by (found ∙ first_value-rows f (codes "blocks")) ∙ sym (ap job_in is ∙ ap (λ n. job_of n (rows_of f)) generate)

-- clap accepts the arguments
pub taken : (words : List Text) (sub : Option (Text × List Row)) → fault_of command_line words ≡ [] → sub ≡ subcommand_of command_line words → job_in sub ≡ asked words
unfolding asked
taken words sub none is = ap job_in is ∙ by (fault_of command_line words) none
  where
    by : (k : Kinds) → k ≡ [] → job_in (subcommand_of command_line words) ≡ (if is_empty k then job_in (subcommand_of command_line words) else None)
    by [] e = refl
    by (x ∷ xs) e = absurd (cc)

not_empty : {X : Type 0} (x : X) (xs : List X) → is_empty (x ∷ xs) ≡ false
not_empty x xs = grind (arith, nat_tests)

-- clap refuses the arguments
pub refused : (words : List Text) (k : ErrorKind) → IsAmong k (fault_of command_line words) → None ≡ asked words
unfolding asked
refused words k among = by (fault_of command_line words) among
  where
    by : (ks : Kinds) → IsAmong k ks → None ≡ (if is_empty ks then job_in (subcommand_of command_line words) else None)
    by [] a = absurd a
    by (x ∷ xs) a = rw (not_empty x xs) refl

-- an error other than out of memory
pub error_refuses : (words : List Text) (app : App) (e : Error) → app ≡ command_line → (kind_of e ≡ kind.OutOfMemory → ⊥) → HasKind (fault_of app words) e → None ≡ asked words
error_refuses words app e is other (inl memory) = absurd (other memory)
error_refuses words app e is other (inr among) = refused words (kind_of e) (subst (λ (a : App). IsAmong (kind_of e) (fault_of a words)) is among)
