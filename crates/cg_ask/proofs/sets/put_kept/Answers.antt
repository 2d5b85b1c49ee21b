use Rattle.std.specs.Prelude.{codes}
use Rattle.std.proofs.Common.{◌≡◌, []}
use Rattle.cg_search.specs.Places.{Marks}
use Rattle.cg_ask.specs.Answers.{TellsKept}
use Rattle.cg_ask.proofs.Rows.{appends_same}
use Rattle.cg_ask.proofs.sets.put_kept.Goals as goal

pub returns : goal.returns
returns c =
    let rows = rw (c.deref.ensures.value) at c.in_ok-put_marked.ensures in
    appends_same (λ m ns. Marks c.in_ok-kept.kept.items m × (ns ≡ [])) (TellsKept c.args.members.now) (codes "kept") c.args.out.now.items c.put_marked.new.out.items rows
    (λ m ns p. record { kept = (c.in_ok-kept.ensures.just m).0 p.0; numbers = p.1 }) (λ m ns t. ((c.in_ok-kept.ensures.just m).1 t.kept, t.numbers))
