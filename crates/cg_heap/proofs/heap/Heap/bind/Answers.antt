use Rattle.std.proofs.Common.{Some}
use Rattle.cg_heap.proofs.ReferenceLemmas.{refs-are}
use Rattle.cg_heap.proofs.Calls.{stands, count_fits, live_value, after_name}
use Rattle.cg_heap.proofs.heap.Heap.bind.Goals as goal

pub count_in_located-near-requires-clause-live : goal.count_in_located-near-requires-clause-live
count_in_located-near-requires-clause-live g c = live_value (stands c.self.inside.arena c.self.invariant c.self.view_is) c.args.val c.requires.live

pub count_in_located-near-requires-clause-room : goal.count_in_located-near-requires-clause-room
count_in_located-near-requires-clause-room g c = λ s e. count_fits (stands c.self.inside.arena c.self.invariant c.self.view_is) s

pub invariant_of-self : goal.invariant_of-self
invariant_of-self g c = (after_name (stands c.self.inside.arena c.self.invariant c.self.view_is) c.args.name _ (Some c.args.val) c.replace.ensures.old (λ s there. c.requires.live s (refs-are
    c.args.val s there)) c.requires.few _ c.count_in_located-near.ensures _ c.replace.ensures.set).keeps

pub returns-clause-rest : goal.returns-clause-rest
returns-clause-rest g c = (after_name (stands c.self.inside.arena c.self.invariant c.self.view_is) c.args.name _ (Some c.args.val) c.replace.ensures.old (λ s there. c.requires.live s (refs-are
    c.args.val s there)) c.requires.few _ c.count_in_located-near.ensures _ c.replace.ensures.set).is
