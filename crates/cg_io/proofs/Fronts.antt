-- What a call that wrote a prefix of some bytes left.
use Rattle.std.proofs.Common.{◌≡◌, ℕ, List, [], ◌++◌, take, drop, Some, Bool, true, false, if◌then◌else◌, refl, sym, ap, ◌∙◌, take-append-drop, append-nil, append_assoc}
use Rattle.std.specs.declared.option.Option.{Option}
use Rattle.std.specs.Io.KnownBytes.{Appends}
use Rattle.std.proofs.KnownBytes.{Appends-trans}
use Rattle.cg_io.specs.Causes.{AppendsFront}

-- a prefix of the bytes was written, and this is the rest
pub record WroteSoFar (old now : Option (List ℕ)) (bytes rest : List ℕ) : Type 0 where
  pub front : List ℕ
  pub whole : bytes ≡ front ++ rest
  pub appended : Appends old now front

-- one more prefix
pub wrote_more : (a b c : Option (List ℕ)) (bytes rest left : List ℕ) (n : ℕ) → WroteSoFar a b bytes rest → Appends b c (take n rest) → left ≡ drop n rest
    → WroteSoFar a c bytes left
wrote_more a b c bytes rest left n so_far more is_left = record {
  front = so_far.front ++ take n rest;
  whole = rw is_left (so_far.whole ∙ ap (λ l. so_far.front ++ l) (sym (take-append-drop n rest)) ∙ sym (append_assoc so_far.front (take n rest) (drop n rest)));
  appended = Appends-trans a b c so_far.front (take n rest) so_far.appended more;
}

-- an append of a prefix, which may have failed
pub grown_or_not : (old new bytes front rest : List ℕ) (ok : Bool) → bytes ≡ front ++ rest → new ≡ (if ok then old ++ front else old) → AppendsFront (Some old) (Some new) bytes
grown_or_not old new bytes front rest true whole grown = record { front = front; rest = rest; whole = whole; appended = grown }
grown_or_not old new bytes front rest false whole grown = record { front = []; rest = bytes; whole = refl; appended = grown ∙ sym (append-nil old) }
