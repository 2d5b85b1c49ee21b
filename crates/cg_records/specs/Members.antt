-- A member, and members with one more reference at the last one. (Ours.)
use Rattle.std.specs.Prelude.{ℕ, Bool, List, [], ◌∷◌, ◌++◌, Option, Some, None, option_map}
use Rattle.cg_records.specs.declared.graph.Member.{Member}

abbrev pub member : ℕ → ℕ → Bool → List ℕ → Member
member serial degree legacy refs = record { serial = serial; degree = degree; legacy = legacy; refs = refs }

-- the members with one more reference at the last one, if there is one
abbrev pub with_reference : List Member → ℕ → Option (List Member)
with_reference [] n = None
with_reference (m ∷ []) n = Some (member m.serial m.degree m.legacy (m.refs ++ n ∷ []) ∷ [])
with_reference (m ∷ k ∷ ms) n = option_map (λ rest. m ∷ rest) (with_reference (k ∷ ms) n)
