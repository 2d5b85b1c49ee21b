-- What a read from memory does to the remaining bytes.
use Rattle.std.proofs.Common.{◌≡◌, ℕ, ◌<◌, min, List, [], ◌++◌, length, take, drop, arith, take-append-drop}
use Rattle.std.proofs.lemmas.Grind.{common_steps}

-- a copy consumes the bytes it returns, and returns none only if none remain
pub copied_front : (bytes rest buf out : List ℕ) (n : ℕ) → n ≡ min (length bytes) (length buf) → rest ≡ drop n bytes → out ≡ take n bytes ++ drop n buf
    → (bytes ≡ take n out ++ rest) × (n ≡ 0 → 0 < length out → rest ≡ [])
copied_front bytes rest buf out n count left copied = (grind (arith, common_steps, take-append-drop n bytes), λ none some. grind (arith, common_steps))
