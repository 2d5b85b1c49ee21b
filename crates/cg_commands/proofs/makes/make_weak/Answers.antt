use Rattle.std.proofs.Common.{◌≡◌, refl, ◌∙◌, ap, subst, ℕ, ◌<◌, ◌≤◌, List, ◌++◌, length, Some, None, Err, arith}
use Rattle.std.proofs.lemmas.List.Elements.{All-head, All-tail}
use Rattle.cg_script.specs.Texts.{operand_texts}
use Rattle.std.proofs.lemmas.Result.{err_from_is_err_and}
use Rattle.cg_graph.specs.Store.{object_from}
use Rattle.cg_machine.specs.Operands.{value, object}
use Rattle.cg_commands.specs.declared.operands.Wanted.TheVariants as wanted
use Rattle.cg_commands.specs.Refusals.{number_of}
use Rattle.cg_commands.specs.Objects.{test_of, refusal_of}
use Rattle.cg_commands.proofs.FirstRefusal.{stops, goes_on}
use Rattle.cg_commands.proofs.Steps.{reads-object}
use Rattle.cg_commands.proofs.PartLemmas.{items-are}
use Rattle.cg_commands.specs.Answers.{PerformsOnHeap}
use Rattle.cg_machine.specs.Effects.{makes, callback_entries}
use Rattle.cg_value.specs.declared.KindCode.TheVariants as kind
use Rattle.cg_commands.proofs.TextLemmas.{all_left}
use Rattle.cg_commands.proofs.makes.make_weak.Goals as goal

pub value-requires-clause-known : goal.value-requires-clause-known
value-requires-clause-known g c =
    all_left (λ n. n < length c.args.heap.now.names) (operand_texts c.args.target.now) (operand_texts c.args.callback.now)
    (All-tail (λ n. n < length c.args.heap.now.names) c.args.name (operand_texts c.args.target.now ++ operand_texts c.args.callback.now) c.requires.known)

few_cells : {X : Type 0} (xs ys : List X) → xs ≡ ys → {n k : ℕ} → length ys ≡ n → n ≤ k → length xs ≤ k
few_cells xs ys same {n} {k} counted few = let is : length xs ≡ length ys = ap length same in omega (arith, is, counted, few)

pub returns-in_err-val : goal.returns-in_err-val
returns-in_err-val g c =
    let p = err_from_is_err_and c.from_residual.result c.from_residual.ensures.1 in record {
      performs = rw (p.1, p.2)
          (stops c.args.heap.now c.args.locals.now (λ w. value w c.args.target.now) _ c.in_err-val.field-0.0 c.in_err-val.ensures.err);
      room = rw p.1 tt;
    }

pub returns-in_err-callback : goal.returns-in_err-callback
returns-in_err-callback g c =
    let p = err_from_is_err_and c.from_residual-in_err-callback.result c.from_residual-in_err-callback.ensures.1 in record {
      performs = rw (p.1, p.2)
          (goes_on c.args.heap.now c.args.heap.now c.args.locals.now (λ w. value w c.args.target.now) c.in_ok-val.val _ (Err c.in_err-callback.field-0.0) c.in_ok-val.ensures.ok
          (stops c.args.heap.now c.args.locals.now (λ w. value w c.args.callback.now) _ c.in_err-callback.field-0.0 c.in_err-callback.ensures.err));
      room = rw p.1 tt;
    }

pub returns-in_err-referent : goal.returns-in_err-referent
returns-in_err-referent g c =
    let p = err_from_is_err_and c.from_residual-in_err-referent.result c.from_residual-in_err-referent.ensures.1 in record {
      performs = rw (p.1, p.2)
          (goes_on c.args.heap.now c.args.heap.now c.args.locals.now (λ w. value w c.args.target.now) c.in_ok-val.val _ (Err c.in_err-referent.field-0.0) c.in_ok-val.ensures.ok
          (goes_on c.args.heap.now c.args.heap.now c.args.locals.now (λ w. value w c.args.callback.now) c.in_ok-callback.callback _ (Err c.in_err-referent.field-0.0) c.in_ok-callback.ensures.ok
          (stops c.args.heap.now c.args.locals.now (λ w. object w (test_of wanted.Referable) (number_of (refusal_of wanted.Referable)) c.in_ok-val.val) _
          c.in_err-referent.field-0.0 (λ w s. c.in_err-referent.ensures.err w s.represents))));
      room = rw p.1 tt;
    }

pub returns-in_err-parts : goal.returns-in_err-parts
returns-in_err-parts g c =
    let p = err_from_is_err_and c.from_residual-in_err-parts.result c.from_residual-in_err-parts.ensures.1 in record {
      performs = rw (p.1, p.2)
          (goes_on c.args.heap.now c.args.heap.now c.args.locals.now (λ w. value w c.args.target.now) c.in_ok-val.val _ (Err c.in_err-parts.field-0.0) c.in_ok-val.ensures.ok
          (goes_on c.args.heap.now c.args.heap.now c.args.locals.now (λ w. value w c.args.callback.now) c.in_ok-callback.callback _ (Err c.in_err-parts.field-0.0) c.in_ok-callback.ensures.ok
          (goes_on c.args.heap.now c.args.heap.now c.args.locals.now (λ w. object w (test_of wanted.Referable) (number_of (refusal_of wanted.Referable))
          c.in_ok-val.val) (object_from c.args.heap.now.rows c.in_ok-referent.referent c.in_ok-referent.ensures.ok.node) _ (Err c.in_err-parts.field-0.0)
          (reads-object c.args.heap.now c.args.locals.now (test_of wanted.Referable) c.in_ok-val.val c.in_ok-referent.referent c.in_ok-referent.ensures.ok
          (number_of (refusal_of wanted.Referable)))
          (stops c.args.heap.now c.args.locals.now (λ w. callback_entries w c.in_ok-callback.callback) _ c.in_err-parts.field-0.0 c.in_err-parts.ensures.err))));
      room = rw p.1 tt;
    }

pub make_bound-requires-clause-name : goal.make_bound-requires-clause-name
make_bound-requires-clause-name g c =
    All-head (λ n. n < length c.args.heap.now.names) c.args.name (operand_texts c.args.target.now ++ operand_texts c.args.callback.now) c.requires.known

pub make_bound-requires-clause-parts : goal.make_bound-requires-clause-parts
make_bound-requires-clause-parts g c = (
  items-are c.in_ok-parts.ensures.ok.vals c.as_slice.result.now (c.as_slice.ensures ∙ c.in_ok-parts.ensures.ok.items),
  few_cells c.as_slice.result.now
      c.in_ok-parts.parts c.as_slice.ensures refl c.in_ok-parts.ensures.ok.single,
)

pub returns : goal.returns
returns g c = record {
  performs =
      (goes_on c.args.heap.now c.make_bound.new.heap c.args.locals.now (λ w. value w c.args.target.now) c.in_ok-val.val _ c.make_bound.result c.in_ok-val.ensures.ok
      (goes_on c.args.heap.now c.make_bound.new.heap c.args.locals.now (λ w. value w c.args.callback.now) c.in_ok-callback.callback _ c.make_bound.result c.in_ok-callback.ensures.ok
      (goes_on c.args.heap.now c.make_bound.new.heap c.args.locals.now (λ w. object w (test_of wanted.Referable) (number_of (refusal_of wanted.Referable))
      c.in_ok-val.val) (object_from c.args.heap.now.rows c.in_ok-referent.referent c.in_ok-referent.ensures.ok.node) _ c.make_bound.result (reads-object
      c.args.heap.now c.args.locals.now (test_of wanted.Referable) c.in_ok-val.val c.in_ok-referent.referent c.in_ok-referent.ensures.ok
      (number_of (refusal_of wanted.Referable)))
      (goes_on c.args.heap.now c.make_bound.new.heap c.args.locals.now (λ w. callback_entries w c.in_ok-callback.callback) c.in_ok-parts.parts _ c.make_bound.result c.in_ok-parts.ensures.ok.reads
      (subst (λ ps. PerformsOnHeap c.args.heap.now c.args.locals.now (λ w. makes w c.args.name kind.Weak None ps (Some c.in_ok-referent.referent))
      c.make_bound.new.heap c.make_bound.result) c.as_slice.ensures (c.make_bound.ensures.performs c.args.locals.now))))));
  room = c.make_bound.ensures.room;
}
