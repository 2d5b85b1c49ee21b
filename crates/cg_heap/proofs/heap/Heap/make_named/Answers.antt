use Rattle.std.proofs.Common.{◌<◌, length, sym, ap, subst, ◌∙◌}
use Rattle.std.specs.Prelude.{slice_get}
use Rattle.cg_heap.proofs.MakeCalls.{new_held, few_with_new, named_new}
use Rattle.cg_heap.proofs.heap.Heap.make_named.Goals as goal

pub hand_over-old-requires-clause-name : goal.hand_over-old-requires-clause-name
hand_over-old-requires-clause-name g c = subst (λ st. c.args.name < length st.names) (sym c.in_ok-serial.ensures.ok) c.requires.name

pub hand_over-old-requires-clause-held : goal.hand_over-old-requires-clause-held
hand_over-old-requires-clause-held g c = new_held c.args.code c.args.class c.args.parts.now c.args.referent c.args.self.now c.make_located.new.self
    c.in_ok-serial.ensures.ok c.in_ok-serial.serial c.in_ok-serial.ensures.serial

pub hand_over-old-requires-clause-few : goal.hand_over-old-requires-clause-few
hand_over-old-requires-clause-few g c = few_with_new c.args.code c.args.class c.args.parts.now c.args.referent c.args.self.now c.make_located.new.self
    c.in_ok-serial.ensures.ok c.requires.few

pub returns-clause-old : goal.returns-clause-old
returns-clause-old g c = sym (ap (λ st. slice_get st.names c.args.name) c.in_ok-serial.ensures.ok) ∙ c.hand_over-old.ensures.old

pub returns-clause-ok : goal.returns-clause-ok
returns-clause-ok g c = named_new c.args.code c.args.class c.args.parts.now c.args.referent c.args.self.now c.make_located.new.self c.in_ok-serial.ensures.ok
    c.in_ok-serial.serial c.in_ok-serial.ensures.serial c.args.name c.hand_over-old.result c.hand_over-old.new.self c.hand_over-old.ensures.rest
