use Rattle.std.proofs.Common.{rules}
use Rattle.std.proofs.lemmas.List.Sorted.{answers_always}
use Rattle.cg_records.specs.declared.graph.Member.{Member}
use Rattle.cg_cert.proofs.Ascending.{searched_found, searched_none}
use Rattle.cg_cert.proofs.table.position_by_halves.Goals as goal

pub returns-in-Ok : goal.returns-in-Ok
returns-in-Ok c =
    let facts = c.in-Ok.ensures in
    searched_found c.args.members.now c.requires c.args.serial c.in-Ok.at facts.bound (facts.position (λ (m : Member). m.serial) (answers_always _ _ _ (λ f a r g called. search rules)))

pub returns-in-Err : goal.returns-in-Err
returns-in-Err c =
    let facts = c.in-Err.ensures in
    searched_none c.args.members.now c.requires c.args.serial c.in-Err.field-0 facts.bound (facts.position (λ (m : Member). m.serial) (answers_always _ _ _ (λ f a r g called. search rules)))
