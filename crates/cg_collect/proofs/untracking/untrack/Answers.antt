use Rattle.std.proofs.Common.{subst, ℕ, refl, arith}
use Rattle.cg_value.specs.declared.KindCode.TheVariants.{Tuple, Dict}
use Rattle.cg_collect.specs.Starting.{Untracks}
use Rattle.cg_collect.proofs.StartLooks.{untracked_fewer}
use Rattle.cg_collect.proofs.untracking.untrack.Goals as goal

pub returns-then-generation-eq2 : goal.returns-then-generation-eq2
returns-then-generation-eq2 g c = record {
  untracks = record {
    between = c.untrack_kind.new.heap;
    tuples = c.untrack_kind.ensures.untracks;
    dictionaries = λ e. subst (λ (n : ℕ). Untracks n Dict c.untrack_kind.new.heap c.untrack_kind-then-generation-eq2.new.heap) e c.untrack_kind-then-generation-eq2.ensures.untracks;
    younger = λ differs. absurd (differs c.if-generation-eq2.true);
  };
  looks = omega (
    arith,
    c.untrack_kind.ensures.looks,
    c.untrack_kind-then-generation-eq2.ensures.looks,
    untracked_fewer c.args.generation Tuple c.args.heap.now
        c.untrack_kind.new.heap c.sound.ensures.listed c.sound-2.ensures.listed c.untrack_kind.ensures.untracks,
  );
}

pub returns-else-generation-eq2 : goal.returns-else-generation-eq2
returns-else-generation-eq2 g c = record {
  untracks = record {
    between = c.untrack_kind.new.heap;
    tuples = c.untrack_kind.ensures.untracks;
    dictionaries = λ e. absurd (c.if-generation-eq2.false e);
    younger = λ differs. refl;
  };
  looks = omega (arith, c.untrack_kind.ensures.looks);
}
