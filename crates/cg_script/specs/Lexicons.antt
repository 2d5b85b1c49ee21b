-- Texts known to be variables. (Ours.)
use Rattle.std.specs.Prelude.{◌≡◌, ℕ, List, true, Option, Some, slice_get, IfSome}
use Rattle.cg_value.specs.Texts.{has_text, text_number}
use Rattle.cg_script.specs.Words.{is_variable}

-- the text with this number is a variable
pub record IsVariableAt (texts : List (List ℕ)) (number : ℕ) : Type 0 where
  pub text : List ℕ
  pub stands : slice_get texts number ≡ Some text
  pub variable : is_variable text ≡ true
  pub there : has_text texts text ≡ true
  pub numbered : text_number texts text ≡ number

-- what is remembered, if anything
abbrev pub IsRemembered : List (List ℕ) → Option ℕ → Type 0
IsRemembered texts known = IfSome known (IsVariableAt texts)
