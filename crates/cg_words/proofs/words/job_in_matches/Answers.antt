use Rattle.clap.specs.Matches.{found_of}
use Rattle.cg_words.proofs.Jobs.{entered, run_is_read, generate_is_read}
use Rattle.cg_words.proofs.words.job_in_matches.Goals as goal

pub returns-in-run-clause-job : goal.returns-in-run-clause-job
returns-in-run-clause-job c =
    run_is_read (found_of c.in_ok-name.found.now) _ c.in_ok-name.name.now (entered _ _ _ c.in_ok-name.ensures.name c.in_ok-name.ensures.rows) _
    c.run_job_by.result c.in-run.is c.get_str.ensures c.run_job_by.ensures.job

pub returns-in-generate-clause-job : goal.returns-in-generate-clause-job
returns-in-generate-clause-job c =
    generate_is_read (found_of c.in_ok-name.found.now) _ c.in_ok-name.name.now (entered _ _ _ c.in_ok-name.ensures.name c.in_ok-name.ensures.rows) _
    c.generate_job_by.result c.in-generate.is c.get_str-in-generate.ensures c.generate_job_by.ensures.job
