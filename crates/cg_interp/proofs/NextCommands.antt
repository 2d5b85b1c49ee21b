-- The commands from a number on: the first of them comes next, and after the last there is none.
use Rattle.std.proofs.Common.{◌≡◌, ◌∙◌, sym, ap, ℕ, ◌+◌, ◌<◌, ◌≤◌, inl, inr, List, [], ◌∷◌, length, drop, get_or, Option, Some, None, ◌⊎◌}
use Rattle.std.specs.Prelude.{slice_get}
use Rattle.std.proofs.lemmas.Option.{slice_get_cases, slice_get_within, get_or_from_slice_get}
use Rattle.std.proofs.lemmas.List.{drop_more}
use Rattle.std.proofs.Math.ListN.{drop_of_length-le}
use Rattle.cg_interp.specs.Engines.{commands_from}
use Rattle.cg_script.specs.declared.command.Command.{Command}

-- the commands from an existing one on, and from past the end on
pub next_there : (commands : List Command) (n : ℕ) (c : Command) → n < length commands → c ≡ get_or commands n c → commands_from (Some n) commands ≡ c ∷ drop (n + 1) commands
next_there commands n c within is = drop_more commands n c within ∙ ap (λ x. x ∷ drop (n + 1) commands) (sym is)

pub next_found : (commands : List Command) (next : Option ℕ) (n : ℕ) (c : Command) → next ≡ Some n → slice_get commands n ≡ Some c → commands_from next commands ≡ c ∷ drop (n + 1) commands
next_found commands next n c is there =
    ap (λ k. commands_from k commands) is
    ∙ next_there commands n c (slice_get_within commands n c there) (sym (get_or_from_slice_get commands n c c there))

pub next_past : (commands : List Command) (next : Option ℕ) (n : ℕ) → next ≡ Some n → slice_get commands n ≡ None → commands_from next commands ≡ []
next_past commands next n is there = ap (λ k. commands_from k commands) is ∙ by (slice_get_cases commands n).1
  where
    by : ((x : Command) × (n < length commands) × (slice_get commands n ≡ Some x) × (get_or commands n x ≡ x)) ⊎ ((length commands ≤ n) × (slice_get commands n ≡ None)) → drop n commands ≡ []
    by (inl found) = absurd (let clash : None ≡ Some found.0 = sym there ∙ found.2 in cc)
    by (inr past) = drop_of_length-le commands past.0
