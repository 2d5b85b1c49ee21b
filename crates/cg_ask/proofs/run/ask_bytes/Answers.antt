use Rattle.std.proofs.Common.{◌<◌, ◌≤◌, length, arith}
use Rattle.cg_ask.proofs.Asking.{large_told, large_cut, bytes_told, bytes_cut, line_told, line_cut, not_large, kept_bytes_here}
use Rattle.cg_ask.proofs.Sizes.{few_references, few_words, few_members}
use Rattle.cg_ask.proofs.run.ask_bytes.Goals as goal

pub returns-then-len-ge-LIMIT-clause-told : goal.returns-then-len-ge-LIMIT-clause-told
returns-then-len-ge-LIMIT-clause-told g c =
    let many : 268435457 ≤ length c.args.bytes.items = grind (arith, c.if-len-ge-LIMIT.true, c.len.ensures, c.args.bytes.ok) in
    large_told c.args.bytes.items (g.K.Sink.written c.args.sink.now) (g.K.Sink.written c.tell_large.new.sink) c.tell_large.result many c.tell_large.ensures.large c.tell_large.ensures.only

pub returns-then-len-ge-LIMIT-clause-cut : goal.returns-then-len-ge-LIMIT-clause-cut
returns-then-len-ge-LIMIT-clause-cut g c =
    let many : 268435457 ≤ length c.args.bytes.items = grind (arith, c.if-len-ge-LIMIT.true, c.len.ensures, c.args.bytes.ok) in
    large_cut c.args.bytes.items (g.K.Sink.written c.args.sink.now) (g.K.Sink.written c.tell_large.new.sink) c.tell_large.result many c.tell_large.ensures.write c.tell_large.ensures.only

pub ask_snapshot-requires-clause-references : goal.ask_snapshot-requires-clause-references
ask_snapshot-requires-clause-references g c =
    let short : length c.args.bytes.items < 268435457 = grind (arith, c.if-len-ge-LIMIT.false, c.len.ensures, c.args.bytes.ok) in
    let spells = rw (c.as_slice.ensures.value, c.in-Ok-Read.field-0-is) at c.in-Ok-Read.ensures in
    few_references c.args.bytes.items c.in-Ok-Read.snapshot short spells

pub ask_snapshot-requires-clause-words : goal.ask_snapshot-requires-clause-words
ask_snapshot-requires-clause-words g c =
    let short : length c.args.bytes.items < 268435457 = grind (arith, c.if-len-ge-LIMIT.false, c.len.ensures, c.args.bytes.ok) in
    let spells = rw (c.as_slice.ensures.value, c.in-Ok-Read.field-0-is) at c.in-Ok-Read.ensures in
    few_words c.args.bytes.items c.in-Ok-Read.snapshot short spells

pub ask_snapshot-requires-clause-few : goal.ask_snapshot-requires-clause-few
ask_snapshot-requires-clause-few g c =
    let short : length c.args.bytes.items < 268435457 = grind (arith, c.if-len-ge-LIMIT.false, c.len.ensures, c.args.bytes.ok) in
    let spells = rw (c.as_slice.ensures.value, c.in-Ok-Read.field-0-is) at c.in-Ok-Read.ensures in
    few_members c.args.bytes.items c.in-Ok-Read.snapshot short spells

pub returns-in-Ok-Read-clause-told : goal.returns-in-Ok-Read-clause-told
returns-in-Ok-Read-clause-told g c =
    let short : length c.args.bytes.items < 268435457 = grind (arith, c.if-len-ge-LIMIT.false, c.len.ensures, c.args.bytes.ok) in
    let spells = rw (c.as_slice.ensures.value, c.in-Ok-Read.field-0-is) at c.in-Ok-Read.ensures in
    λ e. bytes_told c.args.bytes.items c.in-Ok-Read.snapshot short spells (g.K.Sink.written c.args.sink.now) (g.K.Sink.written c.ask_snapshot.new.sink)
    c.ask_snapshot.result (c.ask_snapshot.ensures.told (not_large c.args.bytes.items (g.K.Sink.written c.args.sink.now)
    (g.K.Sink.written c.ask_snapshot.new.sink) c.ask_snapshot.result c.ask_snapshot.ensures.only e))

pub returns-in-Ok-Read-clause-cut : goal.returns-in-Ok-Read-clause-cut
returns-in-Ok-Read-clause-cut g c =
    let short : length c.args.bytes.items < 268435457 = grind (arith, c.if-len-ge-LIMIT.false, c.len.ensures, c.args.bytes.ok) in
    let spells = rw (c.as_slice.ensures.value, c.in-Ok-Read.field-0-is) at c.in-Ok-Read.ensures in
    λ e. bytes_cut c.args.bytes.items c.in-Ok-Read.snapshot short spells (g.K.Sink.written c.args.sink.now) (g.K.Sink.written c.ask_snapshot.new.sink) (c.ask_snapshot.ensures.cut e)

pub returns-in-Ok-BadLine-clause-told : goal.returns-in-Ok-BadLine-clause-told
returns-in-Ok-BadLine-clause-told g c =
    let short : length c.args.bytes.items < 268435457 = grind (arith, c.if-len-ge-LIMIT.false, c.len.ensures, c.args.bytes.ok) in
    let bad = rw (c.as_slice.ensures.value, c.in-Ok-BadLine.field-0-is) at c.in-Ok-BadLine.ensures in
    line_told c.args.bytes.items (g.K.Sink.written c.args.sink.now) (g.K.Sink.written c.tell_bad_line.new.sink) c.tell_bad_line.result c.in-Ok-BadLine.number
    short bad c.tell_bad_line.ensures.told c.tell_bad_line.ensures.only

pub returns-in-Ok-BadLine-clause-cut : goal.returns-in-Ok-BadLine-clause-cut
returns-in-Ok-BadLine-clause-cut g c =
    let short : length c.args.bytes.items < 268435457 = grind (arith, c.if-len-ge-LIMIT.false, c.len.ensures, c.args.bytes.ok) in
    let bad = rw (c.as_slice.ensures.value, c.in-Ok-BadLine.field-0-is) at c.in-Ok-BadLine.ensures in
    line_cut c.args.bytes.items (g.K.Sink.written c.args.sink.now) (g.K.Sink.written c.tell_bad_line.new.sink) c.tell_bad_line.result c.in-Ok-BadLine.number
    short bad c.tell_bad_line.ensures.write c.tell_bad_line.ensures.memory

pub returns-in-Err-clause-cut : goal.returns-in-Err-clause-cut
returns-in-Err-clause-cut g c =
    λ e. kept_bytes_here c.args.bytes.items (g.K.Sink.written c.args.sink.now)
