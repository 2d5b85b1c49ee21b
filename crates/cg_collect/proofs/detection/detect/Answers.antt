use Rattle.std.proofs.Common.{◌≡◌, refl, ap, subst, inl, ◌∙◌, length, arith}
use Rattle.cg_value.specs.declared.KindCode.TheVariants.{List as ListKind}
use Rattle.cg_value.specs.declared.Place.TheVariants.{Gen, Cand, Back}
use Rattle.cg_graph.specs.Store.{Store, list_at}
use Rattle.cg_heap.specs.Calls.{IsListed, IsSound, merged}
use Rattle.cg_heap.proofs.CallerLemmas.{live_of_kind}
use Rattle.cg_machine.specs.Collect.{older}
use Rattle.cg_collect.proofs.NothingIsMade.{keeps_then, keeps-same, keeps-merged}
use Rattle.cg_collect.proofs.Detecting.{turn-split, apart_parted, living_at, list-le}
use Rattle.cg_collect.proofs.TakingTurns.{in_heap}
use Rattle.cg_collect.proofs.detection.detect.Goals as goal

pub returns-clause-takes : goal.returns-clause-takes
returns-clause-takes r c = λ script policy.
    let store = c.args.heap.now in
    let half = c.split.new.heap in
    let g = c.args.facts.generation in
    let is : c.merge.new.self ≡ merged Back (Gen (older g)) half = c.merge.ensures ∙ ap (λ k. merged Back (Gen k) half) c.older.ensures in
    in_heap is (record {
      steps = turn-split g store half c.sound.ensures.listed (live_of_kind store 1 ListKind c.sound.ensures.root) c.requires.ready c.split.ensures.listed
          c.split.ensures.same c.split.ensures.unreachable c.split.ensures.reachable c.split.ensures.others (subst IsListed is c.sound-2.ensures.listed)
          c.first-living.result c.first-living.ensures (subst IsSound is c.sound-2.ensures) script c.args.facts refl policy c.size.result (c.size.ensures
          ∙ ap (λ (now : Store). length (list_at now Cand)) is);
      ready = (
        apart_parted g store half c.sound.ensures.listed (live_of_kind store 1 ListKind c.sound.ensures.root) c.requires.ready c.split.ensures.listed
            c.split.ensures.same c.split.ensures.unreachable c.split.ensures.reachable c.split.ensures.others (subst IsListed is c.sound-2.ensures.listed),
        living_at g store half c.sound.ensures.listed (live_of_kind store 1 ListKind c.sound.ensures.root) c.requires.ready c.split.ensures.listed
            c.split.ensures.same c.split.ensures.unreachable c.split.ensures.reachable c.split.ensures.others (subst IsListed is c.sound-2.ensures.listed)
            c.first-living.result c.first-living.ensures,
      );
      walk = tt;
      falls = λ went. inl (omega arith);
      few = λ n h. omega (arith, h, c.size.ensures, list-le c.merge.new.self c.sound-2.ensures.listed Cand, c.sound-2.ensures.objects);
      gives_up = tt;
      hands_out = tt;
      onward = (omega arith, refl);
      keeps = keeps_then store half (merged Back (Gen (older g)) half) (keeps-same store half c.split.ensures.same) (keeps-merged Back (Gen (older g)) half);
    })
