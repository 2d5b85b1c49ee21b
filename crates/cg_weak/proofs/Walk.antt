-- A walk up a chain to the first row above a weak reference.
use Rattle.std.proofs.Common.{ℕ, ◌+◌, ◌-◌, ◌<◌, ◌≤◌, Option, Some, None}

-- An upward walk has come to this number of P: all before it are at most `weak`.
abbrev pub IsFront : (ℕ → Type 0) → ℕ → Option ℕ → Type 0
IsFront P weak None = (z : ℕ) → P z → z ≤ weak
IsFront P weak (Some y) = P y × ((z : ℕ) → P z → z < y → z ≤ weak)

-- an upper bound on the rest of the walk
abbrev pub rows_ahead : ℕ → Option ℕ → ℕ
rows_ahead weak None = 0
rows_ahead weak (Some y) = weak + 1 - y
