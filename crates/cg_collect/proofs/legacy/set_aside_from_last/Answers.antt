use Rattle.cg_graph.specs.Store.{entries_of}
use Rattle.std.specs.Prelude.{slice_get, Some}
use Rattle.std.proofs.Common.{◌≡◌, ◌+◌, ◌-◌, sym, ◌∙◌, ap, subst, arith}
use Rattle.cg_collect.proofs.PlacesOfObjects.{live_on, entries_on}
use Rattle.cg_collect.proofs.Moving.{value_lives, key_lives}
use Rattle.cg_collect.proofs.AsideBackward.{SettingBack, setting_back-first, setting_back-more, setting_back-all}
use Rattle.cg_collect.proofs.legacy.set_aside_from_last.Goals as goal

pub entries-init : goal.entries-init
entries-init g c = setting_back-first c.args.object c.args.heap.now _ _ c.len-end.ensures

pub set_aside-requires : goal.set_aside-requires
set_aside-requires g c =
    let old = c.args.heap.now in
    let so = c.entries.invariant.so_far.same in
    let at : slice_get (entries_of old c.args.object) (c.entries.end - 1) ≡ Some c.look-entry.result = ap (λ es. slice_get es (c.entries.end - 1))
    (sym (entries_on old c.entries.heap so c.args.object)) ∙ c.look-entry.ensures.entry in
    λ s is. live_on old c.entries.heap so s (value_lives old c.sound.ensures.live c.args.object (c.entries.end - 1) c.look-entry.result at s is)

pub set_aside-requires-in-entries : goal.set_aside-requires-in-entries
set_aside-requires-in-entries g c =
    let old = c.args.heap.now in
    let so = c.entries.invariant.so_far.same in
    let at : slice_get (entries_of old c.args.object) (c.entries.end - 1) ≡ Some c.look-entry.result = ap (λ es. slice_get es (c.entries.end - 1))
    (sym (entries_on old c.entries.heap so c.args.object)) ∙ c.look-entry.ensures.entry in
    λ s is. live_on c.entries.heap c.set_aside.new.heap c.set_aside.ensures.same s (live_on old c.entries.heap so s (key_lives old c.sound.ensures.live
    c.args.object (c.entries.end - 1) c.look-entry.result at s is))

pub entries-preserved : goal.entries-preserved
entries-preserved g c =
    let one_more : c.entries.end ≡ c.entries.end - 1 + 1 = omega (arith, c.entries-test.true) in
    setting_back-more c.args.object c.args.heap.now c.entries.heap c.set_aside.new.heap c.set_aside-in-entries.new.heap (c.entries.end - 1) _ _ _ c.look-entry.result
    (subst (λ n. SettingBack c.args.object c.args.heap.now c.entries.heap n c.args.steps.now c.entries.steps) one_more c.entries.invariant)
    c.look-entry.ensures.entry c.set_aside.ensures c.set_aside-in-entries.ensures c.look-entry.ensures.steps

pub returns-clause-sets : goal.returns-clause-sets
returns-clause-sets g c = setting_back-all c.args.object c.args.heap.now c.entries.heap c.entries.end _ _ (omega (arith, c.entries-test.false)) c.entries.invariant
