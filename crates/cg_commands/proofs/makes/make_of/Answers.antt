use Rattle.std.proofs.Common.{arith, ◌≡◌, ◌∙◌, ap, sym, subst, ◌<◌, length, None}
use Rattle.std.proofs.lemmas.List.{length-map}
use Rattle.cg_graph.specs.Value.{item}
use Rattle.cg_kind.specs.Calls.{IsParts}
use Rattle.std.proofs.lemmas.List.Elements.{All-head}
use Rattle.std.proofs.lemmas.Result.{err_from_is_err_and}
use Rattle.cg_machine.specs.Operands.{values}
use Rattle.cg_commands.proofs.FirstRefusal.{stops, goes_on}
use Rattle.std.proofs.lemmas.List.Elements.{All-tail}
use Rattle.cg_commands.specs.Answers.{PerformsOnHeap}
use Rattle.cg_machine.specs.Effects.{makes}
use Rattle.cg_script.specs.Texts.{operands_texts}
use Rattle.cg_commands.proofs.makes.make_of.Goals as goal

pub returns-in_err-gather : goal.returns-in_err-gather
returns-in_err-gather g c =
    let p = err_from_is_err_and c.from_residual.result c.from_residual.ensures.1 in record {
      performs = rw (p.1, p.2)
          (stops c.args.heap.now c.args.locals.now (λ w. values w c.args.items.now) _ c.in_err-gather.field-0.0 c.in_err-gather.ensures.err);
      room = rw p.1 tt;
    }

pub gather-requires : goal.gather-requires
gather-requires g c = (
  omega (arith, c.requires.most),
  (
    All-tail (λ n. n < length c.args.heap.now.names) c.args.name (operands_texts c.args.items.now)
        c.requires.known,
    (c.requires.locals, (c.requires.count, c.new-parts.ensures)),
  ),
)

pub make_bound-requires-clause-name : goal.make_bound-requires-clause-name
make_bound-requires-clause-name g c =
    All-head (λ n. n < length c.args.heap.now.names) c.args.name (operands_texts c.args.items.now) c.requires.known

pub make_bound-requires-clause-parts : goal.make_bound-requires-clause-parts
make_bound-requires-clause-parts g c =
    let found = c.in_ok-gather.ensures.ok in
    let items = c.as_slice.ensures ∙ found.items in
    let as_many : length found.vals ≡ length c.args.items.now = sym (ap length found.items ∙ length-map found.vals item) ∙ found.counted in
    subst (λ ps. IsParts c.args.code ps) (sym items) (c.requires.parts found.vals (omega (arith, as_many, c.requires.count)))

pub returns : goal.returns
returns g c = record {
  performs =
      (goes_on c.args.heap.now c.make_bound.new.heap c.args.locals.now (λ w. values w c.args.items.now) c.in_ok-gather.ensures.ok.vals _ c.make_bound.result c.in_ok-gather.ensures.ok.reads
      (subst (λ ps. PerformsOnHeap c.args.heap.now c.args.locals.now (λ w. makes w c.args.name c.args.code c.args.class ps None) c.make_bound.new.heap
      c.make_bound.result) (c.as_slice.ensures ∙ c.in_ok-gather.ensures.ok.items) (c.make_bound.ensures.performs c.args.locals.now)));
  room = c.make_bound.ensures.room;
}

pub as_slice-requires : goal.as_slice-requires
as_slice-requires g c = omega (arith, c.requires.most)
