use Rattle.std.proofs.Common.{refl, ◌≡◌, ℕ, ◌++◌, map, inl, subst, sym, ap, ◌∙◌, arith}
use Rattle.cg_graph.specs.Store.{IsLive}
use Rattle.cg_value.specs.declared.KindCode.TheVariants.{List as ListKind}
use Rattle.cg_value.specs.declared.Place.TheVariants.{Gen, Legacy}
use Rattle.cg_value.specs.declared.Place.{Place}
use Rattle.cg_value.specs.declared.Val.TheVariants.{Ref}
use Rattle.cg_script.specs.declared.Script.{Script}
use Rattle.cg_graph.specs.Value.{item}
use Rattle.cg_graph.specs.Store.{Store, entries_of}
use Rattle.cg_heap.specs.Calls.{IsListed, merged}
use Rattle.cg_heap.proofs.CallerLemmas.{live_of_kind}
use Rattle.cg_machine.specs.Collect.{older}
use Rattle.cg_policy.specs.Flagset.{bits_of}
use Rattle.cg_collect.specs.Saving.{with_saved, kept_aside}
use Rattle.cg_collect.specs.Turns.{KeepsObjects}
use Rattle.cg_collect.proofs.NothingIsMade.{keeps_then, keeps-rewritten, keeps-merged}
use Rattle.cg_collect.proofs.UnreachablePlaces.{list_few}
use Rattle.cg_collect.proofs.TakingTurns.{in_heap, in_policy, goes_on}
use Rattle.cg_collect.proofs.Stopping.{turn-ended, turn-ended_told, first_at}
use Rattle.cg_collect.proofs.ending.end.Goals as goal

-- It makes no object.
saves : (script : Script) (flags : ℕ) (p : Place) (store : Store) → KeepsObjects store (merged Legacy p (with_saved (kept_aside script flags store) store))
saves script flags p store =
    let kept : Store = with_saved (kept_aside script flags store) store in
    keeps_then store kept (merged Legacy p kept) (keeps-rewritten 1 (entries_of store 1 ++ map (λ o. item (Ref o)) (kept_aside script flags store)) store) (keeps-merged Legacy p kept)

-- With UNCOLLECTABLE the uncollectable objects are printed.
pub returns-then-intersects : goal.returns-then-intersects
returns-then-intersects g c =
    let script = c.args.script.now in
    let facts = c.args.facts in
    let store = c.args.heap.now in
    let kept : Store = with_saved (kept_aside script (bits_of facts.flags) store) store in
    let is : c.merge.new.self ≡ merged Legacy (Gen (older facts.generation)) kept = c.merge.ensures ∙ ap (λ k. merged Legacy (Gen k) c.save_legacy.new.heap)
    c.older.ensures ∙ ap (merged Legacy (Gen (older facts.generation))) c.save_legacy.ensures in
    let root : IsLive store 1 = live_of_kind store 1 ListKind c.sound.ensures.root in
    let there = first_at script facts store root c.sound.ensures.listed (subst IsListed c.save_legacy.ensures c.sound-2.ensures.listed)
    (subst IsListed is c.sound-3.ensures.listed) c.first-first.result c.first-first.ensures in
    in_heap is (in_policy c.ended.ensures (goes_on c.to.ensures
    (turn-ended_told script facts store root c.sound.ensures.listed (subst IsListed c.save_legacy.ensures c.sound-2.ensures.listed) (subst IsListed is c.sound-3.ensures.listed) c.args.policy.now
    c.first-first.result c.first-first.ensures c.size-number.result c.size-number.ensures (sym (c.intersects.ensures tt) ∙ c.if-intersects.true))
    (there, there) tt (inl (omega arith)) (λ n few. (few, omega (arith, c.size-number.ensures, list_few store c.sound.ensures.listed c.sound.ensures.objects Legacy))) (omega arith, refl)
    (saves script (bits_of facts.flags) (Gen (older facts.generation)) store)))

-- Without it only the saved ones are.
pub returns-else-intersects : goal.returns-else-intersects
returns-else-intersects g c =
    let script = c.args.script.now in
    let facts = c.args.facts in
    let store = c.args.heap.now in
    let kept : Store = with_saved (kept_aside script (bits_of facts.flags) store) store in
    let is : c.merge.new.self ≡ merged Legacy (Gen (older facts.generation)) kept = c.merge.ensures ∙ ap (λ k. merged Legacy (Gen k) c.save_legacy.new.heap)
    c.older.ensures ∙ ap (merged Legacy (Gen (older facts.generation))) c.save_legacy.ensures in
    let root : IsLive store 1 = live_of_kind store 1 ListKind c.sound.ensures.root in
    let there = first_at script facts store root c.sound.ensures.listed (subst IsListed c.save_legacy.ensures c.sound-2.ensures.listed)
    (subst IsListed is c.sound-3.ensures.listed) c.first-first.result c.first-first.ensures in
    in_heap is (in_policy c.ended.ensures (goes_on c.to-else-intersects.ensures
    (turn-ended script facts store root c.sound.ensures.listed (subst IsListed c.save_legacy.ensures c.sound-2.ensures.listed) (subst IsListed is c.sound-3.ensures.listed) c.args.policy.now
    c.first-first.result c.first-first.ensures c.size-number.result c.size-number.ensures (sym (c.intersects.ensures tt) ∙ c.if-intersects.false))
    there tt (inl (omega arith)) (λ n few. (few, omega (arith, c.size-number.ensures, list_few store c.sound.ensures.listed c.sound.ensures.objects Legacy))) (omega arith, refl)
    (saves script (bits_of facts.flags) (Gen (older facts.generation)) store)))
