use Rattle.std.proofs.Common.{arith}
use Rattle.cg_trial.proofs.Ends.{is_unreachable, is_reachable, same_but_places}
use Rattle.cg_trial.proofs.Objects.{entries_there}
use Rattle.cg_trial.proofs.subtraction.split.Goals as goal

pub returns-in-Cand : goal.returns-in-Cand
returns-in-Cand g c =
    let old = c.args.heap.now in
    let new = c.sift.new.heap in
    let is = c.requires.from in
    let listed = c.sound.ensures.listed in
    let sieved = c.sift.ensures.sifted in
    record {
      unreachable = is_unreachable c.args.from old new listed is sieved;
      reachable = is_reachable c.args.from old new listed is sieved;
      others = sieved.others;
      same = same_but_places old new sieved.same;
      listed = c.sift.ensures.listed;
      least = omega (arith, entries_there old listed c.args.from is, c.sift.ensures.least);
      most = omega (arith, entries_there old listed c.args.from is, c.sift.ensures.most);
    }

pub returns-in_default : goal.returns-in_default
returns-in_default g c =
    let old = c.args.heap.now in
    let new = c.sift-in_default.new.heap in
    let is = c.requires.from in
    let listed = c.sound.ensures.listed in
    let sieved = c.sift-in_default.ensures.sifted in
    record {
      unreachable = is_unreachable c.args.from old new listed is sieved;
      reachable = is_reachable c.args.from old new listed is sieved;
      others = sieved.others;
      same = same_but_places old new sieved.same;
      listed = c.sift-in_default.ensures.listed;
      least = omega (arith, entries_there old listed c.args.from is, c.sift-in_default.ensures.least);
      most = omega (arith, entries_there old listed c.args.from is, c.sift-in_default.ensures.most);
    }
