use Rattle.std.proofs.Common.{◌≡◌, refl, sym, ◌∙◌, ap, ◌+◌, arith}
use Rattle.std.proofs.lemmas.Bool.{ne_eqb}
use Rattle.cg_trial.proofs.EffectsOfCalls.{number_told}
use Rattle.cg_trial.specs.View.{view_of}
use Rattle.cg_trial.proofs.Passes.{copied_all, copied_zeros, copying_few, copying_first, copying_more, cursor_shorter, copying_at, alive_at, stands_at, but_numbers_more, numbered_here, bit, zero_or}
use Rattle.cg_trial.proofs.subtraction.copy.Goals as goal
use Rattle.cg_trial.proofs.subtraction.copy.Goals.{then-head_near-eq0, else-head_near-eq0}

pub objects-init : goal.objects-init
objects-init g c = copying_first c.args.members _ _ c.first_near-cursor.ensures

pub number_by_degree-requires-clause-live : goal.number_by_degree-requires-clause-live
number_by_degree-requires-clause-live g c = let so = copying_at c.args.members (view_of c.args.heap.now) (view_of c.objects.heap) _ _ _ c.objects.invariant c.in-Some.is
    in alive_at c.args.members _ _ _ _ _ c.requires.ready so.at so.rest.same

pub number_by_degree-requires-clause-place : goal.number_by_degree-requires-clause-place
number_by_degree-requires-clause-place g c = let so = copying_at c.args.members (view_of c.args.heap.now) (view_of c.objects.heap) _ _ _ c.objects.invariant c.in-Some.is
    in (c.args.members, c.requires.members, stands_at c.args.members (view_of c.args.heap.now) (view_of c.objects.heap) _ _ _ so.at so.rest)

pub following-cursor-requires : goal.following-cursor-requires
following-cursor-requires g c = let so = copying_at c.args.members (view_of c.args.heap.now) (view_of c.objects.heap) _ _ _ c.objects.invariant c.in-Some.is
    in alive_at c.args.members _ _ _ _ _ c.requires.ready so.at (but_numbers_more so.rest c.number_by_degree.ensures.rest).same

pub objects-smaller : goal.objects-smaller
objects-smaller g c = let so = copying_at c.args.members (view_of c.args.heap.now) (view_of c.objects.heap) _ _ _ c.objects.invariant c.in-Some.is in cursor_shorter c.args.members _ _ _ _ _ _
    _ _ c.requires.ready so.at c.in-Some.is so.rest (but_numbers_more so.rest c.number_by_degree.ensures.rest) c.following-cursor.ensures

pub head_near-requires : goal.head_near-requires
head_near-requires g c = let so = copying_at c.args.members (view_of c.args.heap.now) (view_of c.objects.heap) _ _ _ c.objects.invariant c.in-Some.is
    in alive_at c.args.members _ _ _ _ _ c.requires.ready so.at (but_numbers_more so.rest c.number_by_degree.ensures.rest).same

pub objects-preserved : goal.objects-preserved
objects-preserved g c =
    let so = copying_at c.args.members (view_of c.args.heap.now) (view_of c.objects.heap) _ _ _ c.objects.invariant c.in-Some.is in
    let live = alive_at c.args.members _ _ _ _ _ c.requires.ready so.at (but_numbers_more so.rest c.number_by_degree.ensures.rest).same in
    let told = number_told c.number_by_degree.new.heap _ _ live c.head_near.ensures.number ∙ numbered_here c.number_by_degree.ensures in
    let counted : c.if-head_near-eq0.unheld ≡ c.objects.unheld + zero_or ((view_of c.objects.heap).degree c.in-Some.object) = elim c.if-head_near-eq0.branch [
      | then-head_near-eq0 w ↦ omega (arith, w.unheld-is, ap zero_or (sym told ∙ w.if-head_near-eq0.true))
      | else-head_near-eq0 w ↦ omega (arith, w.unheld-is, ap bit (ne_eqb _ 0 (λ z. w.if-head_near-eq0.false (told ∙ z))))
    ] in
    copying_more c.args.members _ _ _ _ _ _ _ _ so refl c.number_by_degree.ensures c.following-cursor.ensures counted

pub returns-clause-copied : goal.returns-clause-copied
returns-clause-copied g c = copied_all c.args.members (view_of c.args.heap.now) (view_of c.objects.heap) _ (copying_at c.args.members _ _ _ _ _ c.objects.invariant c.in_default.is)

pub returns-clause-unheld : goal.returns-clause-unheld
returns-clause-unheld g c = copied_zeros c.args.members (view_of c.args.heap.now) (view_of c.objects.heap) _ (copying_at c.args.members _ _ _ _ _ c.objects.invariant c.in_default.is)

pub overflow_add-unheld : goal.overflow_add-unheld
overflow_add-unheld g c = omega (arith, c.size-all.ensures, copying_few c.args.members (view_of c.args.heap.now) (view_of c.objects.heap) _ _ (copying_at c.args.members _ _ _ _ _ c.objects.invariant c.in-Some.is))
