use Rattle.std.proofs.Common.{◌≡◌, ◌∙◌, ap, sym, map, string_bytes, false, true}
use Rattle.clap.specs.Simple.{is_simple, subcommand_of}
use Rattle.clap.specs.Faults.{fault_of, is_simple_and_free}
use Rattle.clap.specs.contracts.error.kind.ErrorKind as error_kind
use Rattle.clap.specs.declared.error.kind.ErrorKind.TheVariants as kind
use denote.Enum.Bare.{sameb}
use Rattle.cg_words.proofs.Jobs.{line_is_simple, line_is_free, taken, error_refuses}
use Rattle.cg_words.proofs.words.read_words.Goals as goal

pub returns-in-Ok-clause-job : goal.returns-in-Ok-clause-job
returns-in-Ok-clause-job c =
    let line = c.in_ok-command_line.ensures in
    let words = map string_bytes c.args.words.now in
    let found = (c.in-Ok.ensures.matches (ap is_simple line ∙ line_is_simple)).1 in
    let fault = c.in-Ok.ensures.kinds (ap is_simple_and_free line ∙ line_is_free) in
    c.job_in_matches.ensures.job ∙ taken words _ (sym (ap (λ a. fault_of a words) line) ∙ fault) (found ∙ ap (λ a. subcommand_of a words) line)

pub returns-clause-job : goal.returns-clause-job
returns-clause-job c =
    let line = c.in_ok-command_line.ensures in
    error_refuses (map string_bytes c.args.words.now) _ c.in-Err.error line
    (λ memory. let bad : false ≡ true = sym c.if-eq.false ∙ c.eq.ensures ∙ ap (λ k. sameb error_kind.the_type k kind.OutOfMemory) (c.kind.ensures ∙ memory) in absurd (cc))
    (c.in-Err.ensures.kinds (ap is_simple_and_free line ∙ line_is_free))
