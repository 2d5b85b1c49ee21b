-- The words of a line: the first word, numbers after spaces, and numbers after a word `but`. (Ours.)
use Rattle.std.specs.Prelude.{◌≡◌, ◌≢◌, ℕ, ◌^◌, ◌<◌, List, [], ◌∷◌, ◌++◌, flat_map, codes, decimal}
use Rattle.std.specs.List.{AllByRecursion}
use Rattle.cg_snapshot.specs.declared.row.Kind.{Kind}
use Rattle.cg_snapshot.specs.declared.row.Kind.TheVariants as kinds
use Rattle.cg_snapshot.specs.declared.row.Row.{Row}

-- a number after a space
abbrev pub spaced : ℕ → List ℕ
spaced n = 32 ∷ decimal n

-- numbers, each after a space
abbrev pub all_spaced : List ℕ → List ℕ
all_spaced ns = flat_map spaced ns

abbrev pub kind_text : Kind → List ℕ
kind_text kinds.Heap = codes "heap"
kind_text kinds.Member = codes "m"
kind_text kinds.Words = codes "u"
kind_text kinds.End = codes "end"
kind_text kinds.Why = codes "why"
kind_text kinds.Referrers = codes "referrers"
kind_text kinds.Hidden = codes "hidden"
kind_text kinds.Lost = codes "lost"
kind_text kinds.Dropped = codes "drop"
kind_text kinds.Untold = codes "untold"

-- numbers after a word `but`, if there are any
abbrev pub but_text : List ℕ → List ℕ
but_text [] = []
but_text (n ∷ ns) = codes " but" ++ all_spaced (n ∷ ns)

-- a line without its line feed
abbrev pub raw_of : Row → List ℕ
raw_of r = kind_text r.kind ++ (all_spaced r.numbers ++ but_text r.but)

-- numbers below 2 ^ 64
abbrev pub AreSmall : List ℕ → Type 0
AreSmall ns = AllByRecursion (λ n. n < 2 ^ 64) ns

pub record IsRow (r : Row) : Type 0 where
  pub numbers : AreSmall r.numbers
  pub but : AreSmall r.but

-- the byte does not occur in these
abbrev pub Lacks : ℕ → List ℕ → Type 0
Lacks byte bytes = AllByRecursion (λ b. b ≢ byte) bytes

-- nothing, or a space and the bytes after it
abbrev pub IsTail : List ℕ → Type 0
IsTail [] = Unit {0}
IsTail (b ∷ bytes) = b ≡ 32
