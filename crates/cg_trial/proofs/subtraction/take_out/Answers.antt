use Rattle.std.proofs.Common.{sym, subst, arith}
use Rattle.cg_value.specs.declared.Place.{Place}
use Rattle.cg_trial.specs.View.{view_of, IsReadyView}
use Rattle.cg_trial.specs.Sift.{IsNowhereElse, IsSifted}
use Rattle.cg_trial.proofs.TakingBack.{all_zero}
use Rattle.cg_trial.proofs.Exchanges.{parted_candidates, parted_twofold, sifted_exchanged, none_reached, none_kept}
use Rattle.cg_trial.proofs.subtraction.take_out.Goals as goal

pub exchange-requires : goal.exchange-requires
exchange-requires g c =
    let old = view_of c.args.heap.now in
    let mid = view_of c.set_aside.new.heap in
    let is = c.in-Cand.is in
    parted_twofold old mid (parted_candidates c.args.search c.requires.search is old mid c.set_aside.ensures.parted)
    (subst (λ (p : Place). IsReadyView p old) is c.requires.ready) (subst (λ (p : Place). IsNowhereElse p old) is c.requires.alone)

pub returns-in-Cand-clause-sifted : goal.returns-in-Cand-clause-sifted
returns-in-Cand-clause-sifted g c =
    let old = view_of c.args.heap.now in
    let mid = view_of c.set_aside.new.heap in
    let new = view_of c.exchange.new.heap in
    let parted = parted_candidates c.args.search c.requires.search c.in-Cand.is old mid c.set_aside.ensures.parted in
    subst (λ (p : Place). IsSifted p old new) (sym c.in-Cand.is) (sifted_exchanged old mid parted new c.exchange.ensures)

pub returns-in-Cand-members-clause-sifted : goal.returns-in-Cand-members-clause-sifted
returns-in-Cand-members-clause-sifted g c =
    let v = view_of c.args.heap.now in
    none_reached c.args.search c.requires.search c.in-Cand-members.is v c.requires.none
    (all_zero v (v.listed c.args.search.members) (omega (arith, c.if-unheld-size.false, c.size.ensures, c.requires.unheld)))

pub returns-in_default-members : goal.returns-in_default-members
returns-in_default-members g c =
    let v = view_of c.args.heap.now in
    record {
      sifted = none_kept c.args.search c.requires.search c.in_default-members.not-Cand v (view_of c.move_all.new.heap) c.requires.none
          (all_zero v (v.listed c.args.search.members) (omega (arith, c.if-unheld-size.false, c.size.ensures, c.requires.unheld))) c.move_all.ensures;
      later = omega arith;
      looks = omega arith;
    }
