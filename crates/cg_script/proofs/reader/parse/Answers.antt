use Rattle.std.proofs.Common.{◌≡◌, sym, subst, ◌∙◌, []}
use Rattle.std.proofs.lemmas.Result.{IfOk-weaker, IfErr-weaker}
use Rattle.cg_script.specs.Pieces.{lines_of}
use Rattle.cg_script.specs.Faults.{IsFault}
use Rattle.cg_script.specs.Reading.{Reading, reading}
use Rattle.cg_script.specs.Views.{reading_after}
use Rattle.cg_script.proofs.Lines.{reads_all}
use Rattle.cg_script.proofs.EachLine.{known_texts}
use Rattle.cg_script.proofs.SpelledScripts.{spelled_if}
use Rattle.cg_script.proofs.reader.parse.Goals as goal

-- what is read after all lines is what the bytes are read as
whole : (c : goal.After-finish) → reading_after c.take_lines.new.draft c.in-Ok.number [] ≡ reading c.args.bytes.now
whole c = c.in-Ok.ensures.ok ∙ reads_all c.empty-draft.result (lines_of c.args.bytes.now) c.empty-draft.ensures.known c.empty-draft.ensures.items c.empty-draft.ensures.begun

pub returns-in-Ok-clause-ok : goal.returns-in-Ok-clause-ok
returns-in-Ok-clause-ok c = IfOk-weaker c.finish.result _ _ (λ s p. sym (whole c) ∙ p) c.finish.ensures.ok

pub returns-in-Ok-clause-fault : goal.returns-in-Ok-clause-fault
returns-in-Ok-clause-fault c = IfErr-weaker c.finish.result _ _ (λ f p. subst (λ (w : Reading). IsFault f w) (whole c) p) c.finish.ensures.fault

pub returns-in-Ok-clause-known : goal.returns-in-Ok-clause-known
returns-in-Ok-clause-known c = IfOk-weaker c.finish.result _ _ (λ s p. known_texts c.args.bytes.now s.names s.items (sym (whole c) ∙ p)) c.finish.ensures.ok

pub returns-in-Ok-clause-spelled : goal.returns-in-Ok-clause-spelled
returns-in-Ok-clause-spelled c = spelled_if c.args.bytes.now c.finish.result (IfOk-weaker c.finish.result _ _ (λ s p. sym (whole c) ∙ p) c.finish.ensures.ok) c.finish.ensures.few_texts
