use Rattle.std.proofs.Common.{◌∙◌, sym}
use Rattle.cg_kind.proofs.KeyLemmas.{Stands, Lacks, key_found, key_missing}
use Rattle.cg_kinds.proofs.table.Table.take_own.Goals as goal

there : (c : goal.After-take) → Stands c.args.self.now c.args.key c.in-Some.i c.take.result
there c = key_found c.args.self.now c.args.key c.in-Some.i c.take.result (sym c.find.ensures ∙ c.in-Some.is) c.take.ensures.entry

lacks : (c : goal.In-None) → Lacks c.args.self.now c.args.key
lacks c = key_missing c.args.self.now c.args.key (sym c.find.ensures ∙ c.in-None.is)

pub returns-in-Some-clause-entry : goal.returns-in-Some-clause-entry
returns-in-Some-clause-entry c = sym (there c).entry

pub returns-in-Some-clause-rest : goal.returns-in-Some-clause-rest
returns-in-Some-clause-rest c = c.take.ensures.rest ∙ sym (there c).rest

pub returns-in-None-clause-entry : goal.returns-in-None-clause-entry
returns-in-None-clause-entry c = sym (lacks c).entry

pub returns-in-None-clause-rest : goal.returns-in-None-clause-rest
returns-in-None-clause-rest c = sym (lacks c).rest
