-- The pairs of a map as the entries of a dictionary or an instance.
use Rattle.std.proofs.Common.{◌≡◌, ℕ, ◌+◌, Bool, true, false, List, [], ◌∷◌, Option, Some, None, cond, refl, sym, ap, ◌∙◌, map}
use Rattle.std.specs.Prelude.{position, IfNone}
use Rattle.std.specs.List.{position_from}
use Rattle.std.specs.Map.{lookup, keys_of}
use Rattle.std.proofs.lemmas.Iterator.Adapters.{position_from-zero}
use Rattle.indexmap.specs.IndexMap.{insert_entry}
use Rattle.cg_value.specs.declared.Val.{Val}
use Rattle.cg_graph.specs.Value.{same_value, value_at, put, entry_at, without_key}
use Rattle.cg_value.specs.declared.Entry.{Entry}
use Rattle.cg_kind.specs.Bodies.{body_of}
use Rattle.cg_kind.specs.Calls.{has_key}
use Rattle.cg_kind.proofs.KeyLemmas.{lacks_key}
use Rattle.cg_kinds.specs.Pairs.{pair_entry}
use Rattle.cg_kinds.proofs.KeyLemmas.{equal, equal-same_value}

map-choice : {X Y : Type 0} (f : X → Y) (b : Bool) (xs ys : List X) → map f (cond b xs ys) ≡ cond b (map f xs) (map f ys)
map-choice f true xs ys = refl
map-choice f false xs ys = refl

module _ (key : Val) where
  -- a key has the position that the map gives it
  find_from : (i : ℕ) (ps : List (Val × Val)) → position_from (equal key) i (keys_of ps) ≡ position_from (has_key key) i (map pair_entry ps)
  find_from i [] = refl
  find_from i (p ∷ ps) =
      ap (λ b. cond b (Some i) (position_from (equal key) (i + 1) (keys_of ps))) (equal-same_value key p.0)
      ∙ ap (cond (same_value p.0 key) (Some i)) (find_from (i + 1) ps)

  find-pairs : (ps : List (Val × Val)) → position (equal key) (keys_of ps) ≡ position (has_key key) (map pair_entry ps)
  find-pairs ps =
      position_from-zero (equal key) (keys_of ps)
      ∙ find_from 0 ps
      ∙ sym (position_from-zero (has_key key) (map pair_entry ps))

  -- the value of a key in the map
  lookup-pairs : (ps : List (Val × Val)) → lookup (equal key) ps ≡ value_at (map pair_entry ps) key
  lookup-pairs [] = refl
  lookup-pairs (p ∷ ps) =
      ap (λ b. cond b (Some p.1) (lookup (equal key) ps)) (equal-same_value key p.0)
      ∙ ap (cond (same_value p.0 key) (Some p.1)) (lookup-pairs ps)

  -- the entries after an insert
  insert-pairs : (val : Val) (ps : List (Val × Val)) → map pair_entry (insert_entry equal ps key val) ≡ put (map pair_entry ps) key val
  insert-pairs val [] = refl
  insert-pairs val (p ∷ ps) =
      map-choice pair_entry (equal key p.0) ((p.0, val) ∷ ps) (p ∷ insert_entry equal ps key val)
      ∙ ap (λ b. cond b (pair_entry (p.0, val) ∷ map pair_entry ps) (pair_entry p ∷ map pair_entry (insert_entry equal ps key val))) (equal-same_value key p.0)
      ∙ ap (λ es. cond (same_value p.0 key) (pair_entry (p.0, val) ∷ map pair_entry ps) (pair_entry p ∷ es)) (insert-pairs val ps)

-- the same for a packed key, which equals the key
pub find-packed : (key packed : Val) → packed ≡ key → (ps : List (Val × Val)) → position (equal packed) (keys_of ps) ≡ position (has_key key) (map pair_entry ps)
find-packed key packed is ps = ap (λ k. position (equal k) (keys_of ps)) is ∙ find-pairs key ps

pub lookup-packed : (key packed : Val) → packed ≡ key → (ps : List (Val × Val)) → lookup (equal packed) ps ≡ value_at (map pair_entry ps) key
lookup-packed key packed is ps = ap (λ k. lookup (equal k) ps) is ∙ lookup-pairs key ps

pub insert-packed : (key packed_key val packed_val : Val) → packed_key ≡ key → packed_val ≡ val → (ps : List (Val × Val))
    → map pair_entry (insert_entry equal ps packed_key packed_val) ≡ put (map pair_entry ps) key val
insert-packed key packed_key val packed_val key_is val_is ps =
    ap (λ k. map pair_entry (insert_entry equal ps k packed_val)) key_is
    ∙ ap (λ v. map pair_entry (insert_entry equal ps key v)) val_is
    ∙ insert-pairs key val ps

-- if no entry is removed, all remain
pub none_taken : (key : Val) (taken : Option Entry) (es now : List Entry) → taken ≡ entry_at es key → now ≡ without_key es key → IfNone taken (body_of now 0 ≡ body_of es 0)
none_taken key None es now is rest = ap (λ l. body_of l 0) (rest ∙ (lacks_key key es (sym is)).rest)
none_taken key (Some e) es now is rest = tt
