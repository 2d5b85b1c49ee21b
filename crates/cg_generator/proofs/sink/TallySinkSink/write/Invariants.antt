use Rattle.std.proofs.Common.{◌≡◌, ◌++◌, take}
use Rattle.cg_generator.proofs.sink.TallySinkSink.write.Given as goal

-- the bytes so far were counted
abbrev pub invariant-bytes : goal.invariant-bytes
invariant-bytes l = record {
  text : l.self.text ≡ l.fn.self.text ++ take l.byte-index l.bytes;
  faults : l.self.faults ≡ l.fn.self.faults;
}
