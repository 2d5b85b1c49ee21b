use Rattle.cg_graph.specs.Store.{entries_of}
use Rattle.std.specs.Prelude.{slice_get, Some}
use Rattle.std.proofs.Common.{◌≡◌, sym, ◌∙◌, ap, arith}
use Rattle.cg_collect.proofs.PlacesOfObjects.{live_on, entries_on}
use Rattle.cg_collect.proofs.Moving.{value_lives, key_lives}
use Rattle.cg_collect.proofs.Uncollectable.{setting_first, setting_more}
use Rattle.cg_collect.proofs.legacy.set_aside_from_first.Goals as goal

pub set_aside-requires : goal.set_aside-requires
set_aside-requires g c =
    let old = c.args.heap.now in
    let so = c.entries.invariant.setting.so_far.same in
    let at : slice_get (entries_of old c.args.object) c.entries.i ≡ Some c.look-entry.result = ap (λ es. slice_get es c.entries.i)
    (sym (entries_on old c.entries.heap so c.args.object)) ∙ c.look-entry.ensures.entry in
    λ s is. live_on old c.entries.heap so s (value_lives old c.sound.ensures.live c.args.object c.entries.i c.look-entry.result at s is)

pub set_aside-requires-in-entries : goal.set_aside-requires-in-entries
set_aside-requires-in-entries g c =
    let old = c.args.heap.now in
    let so = c.entries.invariant.setting.so_far.same in
    let at : slice_get (entries_of old c.args.object) c.entries.i ≡ Some c.look-entry.result = ap (λ es. slice_get es c.entries.i)
    (sym (entries_on old c.entries.heap so c.args.object)) ∙ c.look-entry.ensures.entry in
    λ s is. live_on c.entries.heap c.set_aside.new.heap c.set_aside.ensures.same s (live_on old c.entries.heap so s (key_lives old c.sound.ensures.live
    c.args.object c.entries.i c.look-entry.result at s is))

pub entries-preserved : goal.entries-preserved
entries-preserved g c = record {
  setting = setting_more c.args.object c.args.heap.now c.entries.heap c.set_aside.new.heap c.set_aside-in-entries.new.heap c.entries.i c.look-entry.result
      c.entries.invariant.setting c.look-entry.ensures.entry c.set_aside.ensures c.set_aside-in-entries.ensures;
  looked = omega (arith, c.entries.invariant.looked, c.look-entry.ensures.steps);
}

pub entries-init : goal.entries-init
entries-init g c = record { setting = setting_first c.args.object c.args.heap.now; looked = omega arith }
