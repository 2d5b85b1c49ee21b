-- Printable bytes without a space are valid text.
use Rattle.std.proofs.Common.{◌≡◌, ℕ, zero, suc, ◌<◌, List, [], ◌∷◌, Bool, true, false, ◌&&◌, ◌||◌, get_or, slice_index, drop, arith, refl, sym, ap}
use Rattle.std.specs.List.{list_all}
use Rattle.std.specs.Str.{IsUtf8}
use Rattle.std.proofs.lemmas.Str.{IsUtf8-from_ascii}
use Rattle.std.proofs.lemmas.Bool.Decides.{nat_tests}
use Rattle.cg_script.specs.Words.{is_graphic, is_digit, begins_name, is_name_byte, is_identifier}

pub both : (a b : Bool) → (a && b) ≡ true → (a ≡ true) × (b ≡ true)
both true b e = (refl, e)
both false b e = absurd (cc)

small : (b : ℕ) → is_graphic b ≡ true → b < 128
small b e = grind (arith, nat_tests)

all_small : (bs : List ℕ) → list_all is_graphic bs ≡ true → (i : ℕ) → get_or bs i 0 < 128
all_small [] e i = omega arith
all_small (b ∷ bs) e zero = small b (both (is_graphic b) _ e).0
all_small (b ∷ bs) e (suc i) = all_small bs (both (is_graphic b) _ e).1 i

pub graphic_is_text : (word : List ℕ) → list_all is_graphic word ≡ true → IsUtf8 word
graphic_is_text word e = IsUtf8-from_ascii word (all_small word e)

name_byte_is_graphic : (b : ℕ) → is_name_byte b ≡ true → is_graphic b ≡ true
name_byte_is_graphic b e = grind (arith, nat_tests)

joined : (a b : Bool) → a ≡ true → b ≡ true → (a && b) ≡ true
joined true b e f = f
joined false b e f = absurd (cc)

names_are_graphic : (bs : List ℕ) → list_all is_name_byte bs ≡ true → list_all is_graphic bs ≡ true
names_are_graphic [] e = refl
names_are_graphic (b ∷ bs) e = let h = both (is_name_byte b) _ e in joined (is_graphic b) _ (name_byte_is_graphic b h.0) (names_are_graphic bs h.1)

pub identifier_is_graphic : (word : List ℕ) → is_identifier word ≡ true → list_all is_graphic word ≡ true
identifier_is_graphic word e = names_are_graphic word (both _ (list_all is_name_byte word) e).1

-- the first byte of a name may also occur later in it
pub name_behind : (word : List ℕ) → begins_name (slice_index word 0) ≡ true → list_all is_name_byte (drop 1 word) ≡ list_all is_name_byte word
name_behind [] e = refl
name_behind (b ∷ bs) e = sym (ap (λ t. (t || is_digit b) && list_all is_name_byte bs) e)
