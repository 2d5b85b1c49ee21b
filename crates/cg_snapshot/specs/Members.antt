-- Members with untold words at the last one. (Ours.)
use Rattle.std.specs.Prelude.{ℕ, Bool, List, [], ◌∷◌, Option, Some, None, option_map}
use Rattle.cg_snapshot.specs.declared.heap.Member.{Member}

abbrev pub member : ℕ → ℕ → Bool → Bool → List ℕ → List ℕ → Member
member degree size tracked legacy refs untold = record { degree = degree; size = size; tracked = tracked; legacy = legacy; refs = refs; untold = untold }

-- adds untold words to a member without any
abbrev pub told_more : Member → List ℕ → List ℕ → Option Member
told_more m [] words = Some (member m.degree m.size m.tracked m.legacy m.refs words)
told_more m (n ∷ ns) words = None

-- the members with these untold words at the last one, if it has none yet
abbrev pub with_untold : List Member → List ℕ → Option (List Member)
with_untold [] words = None
with_untold (m ∷ []) words = option_map (λ k. k ∷ []) (told_more m m.untold words)
with_untold (m ∷ k ∷ ms) words = option_map (λ rest. m ∷ rest) (with_untold (k ∷ ms) words)
