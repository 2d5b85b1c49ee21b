-- The hash of a key's number. (Ours.)
use Rattle.std.specs.Prelude.{ℕ, ◌*◌, ◌/◌, ◌%◌, ◌^◌, ◌==◌, List, length, if◌then◌else◌, bit_xor}
use Rattle.std.specs.Int.{w64, from_le_bytes}
use Rattle.cg_kinds.specs.declared.hasher.KeyHasher.{KeyHasher}

-- the hasher before a key
abbrev pub initial : KeyHasher
initial = record { hash = 0 }

-- bits 32 to 63 of the product with the factor, and bits 96 to 127
abbrev pub spread : ℕ → ℕ
spread number = bit_xor (number * 0xda7e1043acb046c7 / 2 ^ 32 % 2 ^ 32) (number * 0xda7e1043acb046c7 / 2 ^ 96)

-- the hasher after a write: eight bytes are a number, other bytes are ignored
abbrev pub key_write : KeyHasher → List ℕ → KeyHasher
key_write h bytes = if length bytes == 8 then record { hash = spread (from_le_bytes w64 bytes) } else h
