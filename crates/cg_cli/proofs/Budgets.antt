-- Budgets: in the lines of a script, and in an argument.
use Rattle.std.proofs.Common.{◌≡◌, ℕ, ◌≤◌, List, [], ◌∷◌, length, Option, None, Some, IfSome, sym, subst, arith}
use Rattle.std.specs.Prelude.{unwrap_or}
use Rattle.std.specs.List.{All}
use Rattle.std.proofs.lemmas.List.Elements.{All-head, All-tail}
use Rattle.cg_script.specs.declared.Script.{Script}
use Rattle.cg_script.specs.declared.Item.{Item}
use Rattle.cg_script.specs.declared.Item.TheVariants.{Budget, Profile, Shutdown, Class, Def, Run}
use Rattle.cg_script.specs.Spelled.{IsSpelled, IsSpelledItem}
use Rattle.cg_script.specs.Items.{declared_budget}
use Rattle.cg_cli.specs.Statuses.{budget_of}

-- the declared budget of a script is small
set_at_most : (names : ℕ) (lines : List Item) → All (IsSpelledItem names) lines → IfSome (declared_budget lines) (λ n. n ≤ 100000)
set_at_most names [] all = tt
set_at_most names (Budget n ∷ later) all = All-head (IsSpelledItem names) (Budget n) later all
set_at_most names (Profile n ∷ later) all = set_at_most names later (All-tail (IsSpelledItem names) (Profile n) later all)
set_at_most names (Shutdown ∷ later) all = set_at_most names later (All-tail (IsSpelledItem names) Shutdown later all)
set_at_most names (Class c ∷ later) all = set_at_most names later (All-tail (IsSpelledItem names) (Class c) later all)
set_at_most names (Def p ∷ later) all = set_at_most names later (All-tail (IsSpelledItem names) (Def p) later all)
set_at_most names (Run c ∷ later) all = set_at_most names later (All-tail (IsSpelledItem names) (Run c) later all)

-- the budget of a run is small
pub few_frames : (given : Option ℕ) (script : Script) (budget : ℕ) → IfSome given (λ n. n ≤ 100000) → IsSpelled script → budget ≡ budget_of given script → budget ≤ 100000
few_frames given script budget small spelled is = subst (λ n. n ≤ 100000) (sym is) (few given small)
  where
    else_few : (o : Option ℕ) → IfSome o (λ n. n ≤ 100000) → unwrap_or o 10000 ≤ 100000
    else_few None s = omega arith
    else_few (Some n) s = s

    few : (o : Option ℕ) → IfSome o (λ n. n ≤ 100000) → budget_of o script ≤ 100000
    few None s = else_few (declared_budget script.items) (set_at_most (length script.names) script.items spelled.lines)
    few (Some n) s = s
