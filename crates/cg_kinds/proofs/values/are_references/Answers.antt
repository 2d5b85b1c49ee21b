use Rattle.std.proofs.Common.{◌≡◌, ℕ, suc, ◌+◌, ◌<◌, ◌∷◌, [], take, get_or, sym, subst, arith}
use Rattle.std.specs.List.{All}
use Rattle.std.proofs.Math.Seq.{take-suc}
use Rattle.std.proofs.lemmas.Bool.{eqb-true}
use Rattle.std.proofs.lemmas.List.{take_all}
use Rattle.std.proofs.lemmas.List.Elements.{All-append, All-cons, All-nil}
use Rattle.cg_kinds.proofs.values.are_references.Goals as goal

suc_is : (n : ℕ) → suc n ≡ n + 1
suc_is n = omega arith

pub sorts-preserved : goal.sorts-preserved
sorts-preserved c =
    let sorts = c.args.sorts.now in
    let at = c.sorts.sort-index in
    let m = c.min-least.ensures in
    let above : ℕ → Type 0 = λ sort. 2 < sort in
    record {
      least = omega (arith, m, c.sorts.invariant.least);
      all = λ e. subst (λ k. All above (take k sorts)) (suc_is at) (subst (All above) (sym (take-suc sorts at 0 (omega (arith, c.sorts-test.true))))
          (All-append above (take at sorts) (get_or sorts at 0 ∷ [])
          (c.sorts.invariant.all (omega (arith, m, e, c.sorts.invariant.least)))
          (All-cons above (get_or sorts at 0) [] (omega (arith, m, e)) (All-nil above))));
    }

pub returns : goal.returns
returns c = λ e. subst (All (λ sort. 2 < sort)) (take_all _ _ c.sorts-test.false) (c.sorts.invariant.all (eqb-true _ _ e))
