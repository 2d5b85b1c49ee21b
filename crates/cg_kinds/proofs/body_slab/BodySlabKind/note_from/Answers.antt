use Rattle.std.proofs.Common.{◌≡◌, ◌≤◌, ◌+◌, length, take}
use Rattle.cg_graph.specs.Value.{references}
use Rattle.cg_kind.specs.Calls.{next_entries}
use Rattle.cg_kinds.proofs.PlaceLemmas.{holds-key, of_value, of_place}
use Rattle.cg_kinds.proofs.body_slab.BodySlabKind.note_from.Goals as goal

pub index-requires : goal.index-requires
index-requires g c = holds-key g.C.Contents.body _ _ c.requires.held

pub note_from-requires-clause-within : goal.note_from-requires-clause-within
note_from-requires-clause-within g c = of_value g.C.Contents.body _ _ _ c.index.ensures (λ b. c.args.from ≤ length b.entries) c.requires.within

pub returns-clause-next : goal.returns-clause-next
returns-clause-next g c = of_place g.C.Contents.body _ _ _ c.index.ensures (λ b. c.note_from.result.next ≡ c.args.from + length (next_entries b.entries c.args.from)) c.note_from.ensures.next

pub returns-clause-references : goal.returns-clause-references
returns-clause-references g c = of_place g.C.Contents.body _ _ _ c.index.ensures (λ b. take c.note_from.result.references c.note_from.new.found
    ≡ references (next_entries b.entries c.args.from)) c.note_from.ensures.references
