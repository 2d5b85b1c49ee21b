-- What contracts see of a source and of a sink in memory. (Ours.)
use Rattle.std.specs.Prelude.{ℕ, ◌+◌, List, [], ◌++◌, take, drop, Bool, ◌==◌, if◌then◌else◌}
use Rattle.std.specs.List.{list_any}
use Rattle.cg_io.specs.Causes.{counted}

-- the call with this number is in the list of failing calls
abbrev pub is_listed : List ℕ → ℕ → Bool
is_listed fails call = list_any (λ n. n == call) fails

-- a source in memory: the remaining bytes, the calls so far, the numbers of the failing calls, and the faults so far
pub record MemoryInput : Type 0 where
  pub left : List ℕ
  pub calls : ℕ
  pub fails : List ℕ
  pub faults : ℕ

-- the next call of this source fails
abbrev pub next_read_fails : MemoryInput → Bool
next_read_fails source = is_listed source.fails (source.calls + 1)

-- a source after a call that consumed this many bytes
abbrev pub after_read : MemoryInput → ℕ → MemoryInput
after_read source n = record source { left = drop n source.left; calls = counted source.calls }

-- a source after a failed call
abbrev pub after_failed_read : MemoryInput → MemoryInput
after_failed_read source = record source { calls = counted source.calls; faults = counted source.faults }

-- a sink in memory: the bytes written, the calls so far, the numbers of the failing calls, how many bytes a failing
-- call keeps, and the faults so far
pub record MemoryOutput : Type 0 where
  pub bytes : List ℕ
  pub calls : ℕ
  pub fails : List ℕ
  pub keep : ℕ
  pub faults : ℕ

-- the next call of this sink fails, even with enough memory
abbrev pub next_write_fails : MemoryOutput → Bool
next_write_fails sink = is_listed sink.fails (sink.calls + 1)

-- a sink after a call that wrote these bytes
abbrev pub after_write : MemoryOutput → List ℕ → MemoryOutput
after_write sink given = record sink { bytes = sink.bytes ++ given; calls = counted sink.calls }

-- what a failing call keeps of these bytes if its allocation succeeds
abbrev pub kept_at_fault : MemoryOutput → List ℕ → List ℕ
kept_at_fault sink given = if next_write_fails sink then take sink.keep given else []

-- a sink after a failed call that kept these bytes
abbrev pub after_failed_write : MemoryOutput → List ℕ → MemoryOutput
after_failed_write sink kept = record sink { bytes = sink.bytes ++ kept; calls = counted sink.calls; faults = counted sink.faults }
