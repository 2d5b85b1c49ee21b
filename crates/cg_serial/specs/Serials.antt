-- The hash of a serial.
use Rattle.std.specs.Prelude.{ℕ, ◌+◌, ◌*◌, ◌/◌, ◌%◌, ◌^◌, ◌==◌, List, length, if◌then◌else◌}
use Rattle.std.specs.Int.{w64, from_le_bytes}
use Rattle.cg_serial.specs.declared.hasher.SerialHasher.{SerialHasher}

-- the hasher before a serial
abbrev pub initial : SerialHasher
initial = record { hash = 0 }

-- bits 29 to 31: the position within the group of eight; below: the top 29 bits of the group number times a factor
abbrev pub spread : ℕ → ℕ
spread serial = serial % 8 * 2 ^ 29 + (serial / 8 * 0xfb1f_f91a_c50e_2b99) % 2 ^ 64 / 2 ^ 35

-- the hasher after a write: eight bytes are a serial, other bytes are ignored
abbrev pub serial_write : SerialHasher → List ℕ → SerialHasher
serial_write h bytes = if length bytes == 8 then record { hash = spread (from_le_bytes w64 bytes) } else h
