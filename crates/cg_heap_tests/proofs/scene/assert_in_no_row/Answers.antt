use Rattle.cg_heap_tests.proofs.Scenes.{unnamed}
use Rattle.cg_heap_tests.proofs.scene.assert_in_no_row.Goals as goal

pub returns : goal.returns
returns g c =
    let no = c.if-is_weak.false in
    unnamed c.args.heap.now c.sound.ensures c.args.object c.kind_of-code.result c.kind_of-code.ensures (λ is. let yes = c.is_weak.ensures.1 is in absurd (cc))
    c.in-None.ensures c.in-None-newest_waiting.ensures
