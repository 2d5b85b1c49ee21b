use Rattle.std.proofs.Common.{◌≡◌, sym, subst, ℕ, ◌≤◌, [], None, arith}
use Rattle.std.specs.Prelude.{unwrap_or}
use Rattle.cg_value.specs.declared.Place.TheVariants.{Gen, Cand, Back}
use Rattle.cg_graph.specs.Store.{list_at}
use Rattle.cg_collect.proofs.PlacesInStart.{Trace, splits_off}
use Rattle.cg_collect.proofs.UnreachablePlaces.{empty_merged, none_aside_yet, list_few}
use Rattle.cg_collect.proofs.Looks.{entries-merged}
use Rattle.cg_collect.proofs.StartLooks.{start_entries}
use Rattle.cg_machine.specs.Collect.{has_flag, stats, collectable}
use Rattle.cg_policy.specs.Flagset.{bits_of}
use Rattle.cg_collect.specs.declared.phase.Turn.{Turn}
use Rattle.cg_collect.specs.Stages.{detection_at}
use Rattle.cg_collect.specs.Starting.{told_after_sizes}
use Rattle.cg_collect.proofs.CollectionStarts.{apart_start, still_bounded, takes_start}
use Rattle.cg_collect.proofs.start.start.Goals as goal

pub split-requires-clause-back : goal.split-requires-clause-back
split-requires-clause-back g c =
    empty_merged c.args.facts.generation c.args.heap.now c.merge_younger.new.heap c.merge_younger.ensures c.sound.ensures.listed c.sound-2.ensures.listed Back
    (λ e. cc) (λ i e. cc) c.requires.ready.back

pub split-requires-clause-candidates : goal.split-requires-clause-candidates
split-requires-clause-candidates g c = λ differ.
    empty_merged c.args.facts.generation c.args.heap.now c.merge_younger.new.heap c.merge_younger.ensures c.sound.ensures.listed c.sound-2.ensures.listed Cand
    (λ e. cc) (λ i e. cc) c.requires.ready.candidates

pub survived-requires : goal.survived-requires
survived-requires g c =
    still_bounded c.args.facts.generation c.size-survivors.result c.args.policy.now.numbers c.requires.bounded
    (subst (λ (n : ℕ). n ≤ 1000001) (sym c.size-survivors.ensures) (list_few c.untrack.new.heap c.sound-3.ensures.listed c.sound-3.ensures.objects (Gen c.args.facts.generation)))

pub set_legacy_aside-requires : goal.set_legacy_aside-requires
set_legacy_aside-requires g c =
    let empty : list_at c.merge_younger.new.heap Cand ≡ [] =
    empty_merged c.args.facts.generation c.args.heap.now c.merge_younger.new.heap c.merge_younger.ensures c.sound.ensures.listed c.sound-2.ensures.listed Cand
    (λ e. cc) (λ i e. cc) c.requires.ready.candidates in
    none_aside_yet c.args.facts.generation c.args.heap.now c.merge_younger.new.heap c.split.new.heap c.untrack.new.heap c.get_older.new.heap c.merge_younger.ensures
    (splits_off c.args.facts.generation c.merge_younger.new.heap c.split.new.heap c.sound-2.ensures.listed c.split.ensures.listed empty
    c.split.ensures.unreachable c.split.ensures.reachable c.split.ensures.others c.split.ensures.same)
    c.untrack.ensures.untracks c.get_older.ensures c.sound.ensures.listed c.sound-4.ensures.listed c.requires.ready.legacy

pub returns-clause-takes : goal.returns-clause-takes
returns-clause-takes g c =
    let empty : list_at c.merge_younger.new.heap Cand ≡ [] =
    empty_merged c.args.facts.generation c.args.heap.now c.merge_younger.new.heap c.merge_younger.ensures c.sound.ensures.listed c.sound-2.ensures.listed Cand
    (λ e. cc) (λ i e. cc) c.requires.ready.candidates in
    let trace : Trace c.args.script.now c.args.facts.generation c.args.heap.now c.merge_younger.new.heap c.split.new.heap c.untrack.new.heap c.get_older.new.heap c.set_legacy_aside.new.heap = record {
      merges = c.merge_younger.ensures;
      splits = splits_off c.args.facts.generation c.merge_younger.new.heap c.split.new.heap c.sound-2.ensures.listed c.split.ensures.listed empty
          c.split.ensures.unreachable c.split.ensures.reachable c.split.ensures.others c.split.ensures.same;
      untracks = c.untrack.ensures.untracks;
      gets_older = c.get_older.ensures;
      sets_aside = c.set_legacy_aside.ensures.sets;
    } in
    takes_start c.args.script.now c.args.facts c.args.heap.now c.merge_younger.new.heap c.split.new.heap c.untrack.new.heap c.get_older.new.heap
    c.set_legacy_aside.new.heap trace c.sound.ensures.listed c.sound-3.ensures.listed c.sound-5.ensures.listed c.requires.ready
    c.first_phase-next.result c.first_phase-next.ensures c.told_first.result c.told_first.ensures c.tells.result c.tells.ensures
    c.args.policy.now c.survived.new.self c.size-survivors.result c.size-survivors.ensures c.survived.ensures

pub returns-clause-looks : goal.returns-clause-looks
returns-clause-looks g c =
    let empty : list_at c.merge_younger.new.heap Cand ≡ [] =
    empty_merged c.args.facts.generation c.args.heap.now c.merge_younger.new.heap c.merge_younger.ensures c.sound.ensures.listed c.sound-2.ensures.listed Cand
    (λ e. cc) (λ i e. cc) c.requires.ready.candidates in
    let trace : Trace c.args.script.now c.args.facts.generation c.args.heap.now c.merge_younger.new.heap c.split.new.heap c.untrack.new.heap c.get_older.new.heap c.set_legacy_aside.new.heap = record {
      merges = c.merge_younger.ensures;
      splits = splits_off c.args.facts.generation c.merge_younger.new.heap c.split.new.heap c.sound-2.ensures.listed c.split.ensures.listed empty
          c.split.ensures.unreachable c.split.ensures.reachable c.split.ensures.others c.split.ensures.same;
      untracks = c.untrack.ensures.untracks;
      gets_older = c.get_older.ensures;
      sets_aside = c.set_legacy_aside.ensures.sets;
    } in
    let none_yet =
    none_aside_yet c.args.facts.generation c.args.heap.now c.merge_younger.new.heap c.split.new.heap c.untrack.new.heap c.get_older.new.heap c.merge_younger.ensures trace.splits
    c.untrack.ensures.untracks c.get_older.ensures c.sound.ensures.listed c.sound-4.ensures.listed c.requires.ready.legacy in
    omega (
      arith,
      c.split.ensures.most,
      c.untrack.ensures.looks,
      c.set_legacy_aside.ensures.looks,
      entries-merged c.args.facts.generation c.args.heap.now c.merge_younger.new.heap c.merge_younger.ensures,
      start_entries c.args.script.now c.args.facts.generation c.args.heap.now c.merge_younger.new.heap c.split.new.heap c.untrack.new.heap c.get_older.new.heap
          c.set_legacy_aside.new.heap trace c.requires.generation
          c.sound-2.ensures.listed c.split.ensures.listed c.sound-4.ensures.listed c.sound-5.ensures.listed none_yet,
    )

pub returns-clause-apart : goal.returns-clause-apart
returns-clause-apart g c =
    let flags = bits_of c.args.facts.flags in
    subst (λ (t : Turn). detection_at t.phase ≡ None) (sym c.tells.ensures)
    (subst (λ p. detection_at p ≡ None) (sym c.told_first.ensures)
    (subst (λ first. detection_at (unwrap_or first (told_after_sizes flags c.set_legacy_aside.new.heap)) ≡ None) (sym c.first_phase-next.ensures)
    (apart_start (has_flag flags stats) (has_flag flags collectable) c.args.heap.now c.set_legacy_aside.new.heap)))
