-- A property of all texts of a command holds of those of each operand.
use Rattle.std.proofs.Common.{◌≡◌, subst, ℕ, zero, suc, ◌<◌, List, [], ◌∷◌, ◌++◌, length, get_or, arith}
use Rattle.std.specs.Prelude.{flat_map}
use Rattle.std.specs.List.{All}
use Rattle.cg_script.specs.declared.command.Command.{Command}
use Rattle.cg_script.specs.Texts.{command_texts}
use Rattle.cg_script.specs.Spelled.{IsSpelledCommand}
use Rattle.std.proofs.lemmas.List.Elements.{All-nil, All-cons, All-head, All-tail}

pub all_left : {X : Type 0} (P : X → Type 0) (xs ys : List X) → All P (xs ++ ys) → All P xs
all_left P [] ys h = All-nil P
all_left P (x ∷ xs) ys h = All-cons P x xs (All-head P x (xs ++ ys) h) (all_left P xs ys (All-tail P x (xs ++ ys) h))

pub all_right : {X : Type 0} (P : X → Type 0) (xs ys : List X) → All P (xs ++ ys) → All P ys
all_right P [] ys h = h
all_right P (x ∷ xs) ys h = all_right P xs ys (All-tail P x (xs ++ ys) h)

pub all_at : {X Y : Type 0} (P : X → Type 0) (f : Y → List X) (ys : List Y) (i : ℕ) (d : Y) → i < length ys → All P (flat_map f ys) → All P (f (get_or ys i d))
all_at P f [] i d within h = absurd (omega arith)
all_at P f (y ∷ ys) zero d within h = all_left P (f y) (flat_map f ys) h
all_at P f (y ∷ ys) (suc i) d within h = all_at P f ys i d (omega arith) (all_right P (f y) (flat_map f ys) h)

-- what a command's spelling says of one of its sort
pub known_in : (names : ℕ) (given command : Command) → given ≡ command → IsSpelledCommand names given → All (λ n. n < names) (command_texts command)
known_in names given command is spelled = subst (λ cmd. All (λ n. n < names) (command_texts cmd)) is spelled.known
