-- A command checks one thing after the other: the first refusal decides.
use Rattle.std.proofs.Common.{◌≡◌, refl, sym, ap, subst, ℕ, Option, Result, Ok, Err}
use Rattle.cg_graph.specs.Store.{Store}
use Rattle.cg_machine.specs.World.{World}
use Rattle.cg_machine.specs.Effects.{Effect}
use Rattle.cg_machine.specs.Refusals.{◌>>=◌}
use Rattle.cg_commands.specs.declared.done.Done.{Done}
use Rattle.cg_commands.specs.declared.done.Refusal.{Refusal}
use Rattle.cg_commands.specs.declared.done.Refusal.TheVariants.{NoName, WrongKind, NoIndex, NoKey, NoAttribute, NotWeak, NotCallable, BadGeneration, Unhashable, OutOfMemory, ObjectLimit, EntryLimit, InCollection}
use Rattle.cg_commands.specs.Refusals.{Declines}
use Rattle.cg_commands.specs.declared.locals.Locals.{Locals}
use Rattle.cg_commands.specs.Stands.{Reads, IsRefused}
use Rattle.cg_commands.specs.Answers.{AnswersOnHeap, Refuses, PerformsOnHeap}

-- it goes on if the first thing is there
pub next : {A : Type 0} (r : Result A ℕ) (x : A) (f : A → Result Effect ℕ) (old new : Store) (answer : Result Done Refusal) → r ≡ Ok x
    → AnswersOnHeap answer (f x) old new → AnswersOnHeap answer (r >>= f) old new
unfolding ◌>>=◌
next r x f old new answer is rest = subst (λ q. AnswersOnHeap answer (q >>= f) old new) (sym is) rest

-- what is refused first is refused whatever follows
pub declines_then : {A B : Type 0} (refusal : Refusal) (r : Result A ℕ) (f : A → Result B ℕ) → Declines refusal r → Declines refusal (r >>= f)
unfolding ◌>>=◌
declines_then NoName r f is = ap (λ q. q >>= f) is
declines_then WrongKind r f is = ap (λ q. q >>= f) is
declines_then NoIndex r f is = ap (λ q. q >>= f) is
declines_then NoKey r f is = ap (λ q. q >>= f) is
declines_then NoAttribute r f is = ap (λ q. q >>= f) is
declines_then NotWeak r f is = ap (λ q. q >>= f) is
declines_then NotCallable r f is = ap (λ q. q >>= f) is
declines_then BadGeneration r f is = ap (λ q. q >>= f) is
declines_then Unhashable r f is = ap (λ q. q >>= f) is
declines_then OutOfMemory r f is = absurd is
declines_then ObjectLimit r f is = ap (λ q. q >>= f) is
declines_then EntryLimit r f is = ap (λ q. q >>= f) is
declines_then InCollection r f is = ap (λ q. q >>= f) is

-- whatever follows a second thing that is read with it
pub declines_second : {A B C : Type 0} (refusal : Refusal) (r : Result A ℕ) (f : A → Result B ℕ) (g : A → B → Result C ℕ) → Declines refusal (r >>= f)
    → Declines refusal (r >>= (λ x. f x >>= g x))
unfolding ◌>>=◌
declines_second refusal (Ok x) f g is = declines_then refusal (f x) (g x) is
declines_second {A} {B} refusal (Err e) f g is = declines_then refusal (Err e) (λ (y : B). Err e) is

-- and a thing that is there
pub declines_after : {A B : Type 0} (refusal : Refusal) (r : Result A ℕ) (x : A) (f : A → Result B ℕ) → r ≡ Ok x → Declines refusal (f x) → Declines refusal (r >>= f)
unfolding ◌>>=◌
declines_after refusal r x f is declines = subst (λ q. Declines refusal (q >>= f)) (sym is) declines

refuses : (refusal : Refusal) (effect : Result Effect ℕ) → Declines refusal effect → Refuses refusal effect
refuses NoName effect is = is
refuses WrongKind effect is = is
refuses NoIndex effect is = is
refuses NoKey effect is = is
refuses NoAttribute effect is = is
refuses NotWeak effect is = is
refuses NotCallable effect is = is
refuses BadGeneration effect is = is
refuses Unhashable effect is = is
refuses OutOfMemory effect is = absurd is
refuses ObjectLimit effect is = is
refuses EntryLimit effect is = is
refuses InCollection effect is = is

-- and is refused if it is not
pub refused : {A : Type 0} (refusal : Refusal) (r : Result A ℕ) (f : A → Result Effect ℕ) (old : Store) → Declines refusal r → AnswersOnHeap (Err refusal) (r >>= f) old old
refused refusal r f old is = (refuses refusal (r >>= f) (declines_then refusal r f is), refl)

-- In every world at once: what was read decides if it is refused,
pub stops : {A : Type 0} (store : Store) (locals : Option Locals) (read : World → Result A ℕ) (k : World → A → Result Effect ℕ) (refusal : Refusal)
    → IsRefused store locals read refusal → PerformsOnHeap store locals (λ w. read w >>= k w) store (Err refusal)
stops store locals read k refusal is w s = refused refusal (read w) (k w) store (is w s)

-- and the rest decides if it is there.
pub goes_on : {A : Type 0} (store new : Store) (locals : Option Locals) (read : World → Result A ℕ) (x : A) (k : World → A → Result Effect ℕ)
    (answer : Result Done Refusal) → Reads store locals read x → PerformsOnHeap store locals (λ w. k w x) new answer → PerformsOnHeap store locals
    (λ w. read w >>= k w) new answer
goes_on store new locals read x k answer is rest w s = next (read w) x (k w) store new answer (is w s) (rest w s)

-- The same of a second thing that is read with it.
pub stops_second : {A B : Type 0} (store : Store) (locals : Option Locals) (first : World → Result A ℕ) (second : World → A → Result B ℕ) (k : World → A → B
    → Result Effect ℕ) (refusal : Refusal) → IsRefused store locals (λ w. first w >>= second w) refusal
    → PerformsOnHeap store locals (λ w. first w >>= (λ x. second w x >>= k w x)) store (Err refusal)
stops_second store locals first second k refusal is w s =
    (refuses refusal (first w >>= (λ x. second w x >>= k w x)) (declines_second refusal (first w) (second w) (k w) (is w s)), refl)

-- two things are there
pub goes_on_two : {A B : Type 0} (store new : Store) (locals : Option Locals) (first : World → Result A ℕ) (second : World → A → Result B ℕ) (x : A) (y : B)
    (k : World → A → B → Result Effect ℕ) (answer : Result Done Refusal) → Reads store locals first x → Reads store locals (λ w. second w x) y
    → PerformsOnHeap store locals (λ w. k w x y) new answer → PerformsOnHeap store locals (λ w. first w >>= (λ x. second w x >>= k w x)) new answer
goes_on_two store new locals first second x y k answer is also rest =
    goes_on store new locals first x (λ w x. second w x >>= k w x) answer is (goes_on store new locals (λ w. second w x) y (λ w. k w x) answer also rest)
