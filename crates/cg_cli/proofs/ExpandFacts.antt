-- Facts of an expand job whose source reports its bytes.
use Rattle.std.proofs.Common.{◌≡◌, ◌<◌, ◌≤◌, ℕ, List, length, Option, IfSome, arith, codes}
use Rattle.cg_io.specs.Causes.{AppendsFront}
use Rattle.cg_weakcoll.specs.Expansion.{first_bad}
use Rattle.cg_cli.specs.declared.input.TheConstants.{LIMIT}
use Rattle.cg_cli.specs.Expansions.{WroteExpansion, WroteFirstBad, too_large_text, WroteExpandFront, AnswersFirstBad, AnswersExpand}
use Rattle.cg_cli.specs.declared.status.Status.{Status}
use Rattle.cg_cli.specs.declared.status.Status.TheVariants as status
use Rattle.cg_cli.proofs.RunFacts.{told, told_many}

module _ (left : Option (List ℕ)) (bytes : List ℕ) (all : IfSome left (λ t. t ≡ bytes)) where
  pub told_expansion : (before now : Option (List ℕ)) → WroteExpansion bytes before now → IfSome left (λ bs. WroteExpansion bs before now)
  told_expansion before now wrote = told left bytes all (λ bs. WroteExpansion bs before now) wrote

  pub told_first_bad : (before now : Option (List ℕ)) → WroteFirstBad bytes before now → IfSome left (λ bs. WroteFirstBad bs before now)
  told_first_bad before now wrote = told left bytes all (λ bs. WroteFirstBad bs before now) wrote

  pub told_expand_front : (before now : Option (List ℕ)) → WroteExpandFront bytes before now → IfSome left (λ bs. WroteExpandFront bs before now)
  told_expand_front before now wrote = told left bytes all (λ bs. WroteExpandFront bs before now) wrote

  pub told_expand_answers : (answer : Status) → length bytes < LIMIT → AnswersFirstBad (first_bad bytes) answer → IfSome left (λ bs. AnswersExpand bs answer)
  told_expand_answers answer few says = told left bytes all (λ bs. AnswersExpand bs answer) (λ fits. says, λ many. absurd (omega (arith, few, many)))

module _ (left : Option (List ℕ)) (many : IfSome left (λ t. LIMIT ≤ length t)) where
  pub many_expand_front : (before now : Option (List ℕ)) → AppendsFront before now (codes "too large\n") → IfSome left (λ bs. WroteExpandFront bs before now)
  many_expand_front before now wrote = told_many left many (λ bs. WroteExpandFront bs before now) (λ t large. record { text = codes "too large\n"; row = too_large_text large; wrote = wrote })

  pub many_expand_answers : (answer : Status) → answer ≡ status.TooLarge → IfSome left (λ bs. AnswersExpand bs answer)
  many_expand_answers answer is = told_many left many (λ bs. AnswersExpand bs answer) (λ t large. (λ few. absurd (omega (arith, few, large)), λ many. is))
