use Rattle.std.proofs.Common.{◌≡◌, take}
use Rattle.std.specs.Prelude.{flat_map}
use Rattle.cg_records.specs.Text.{record_text}
use Rattle.cg_records.proofs.writing.write_records.Given as goal

abbrev pub invariant-records : goal.invariant-records
invariant-records l = l.out.items ≡ flat_map record_text (take l.rec-index l.records)
