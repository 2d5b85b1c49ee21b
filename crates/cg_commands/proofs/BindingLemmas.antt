-- What binding and unbinding a name does.
use Rattle.std.proofs.Common.{◌≡◌, sym, ◌∙◌, ap, ℕ, zero, suc, ◌<◌, false, List, [], ◌∷◌, set, refl, Option, Some, None, Ok, Err, arith}
use Rattle.std.specs.Prelude.{slice_get, option_and_then, ok_or}
use Rattle.cg_value.specs.declared.Val.{Val}
use Rattle.cg_value.specs.declared.Entry.{Entry}
use Rattle.cg_graph.specs.Holdings.{occurrences}
use Rattle.cg_graph.specs.Value.{references_of_value, entry_references}
use Rattle.cg_graph.specs.Store.{Store, IsLive}
use Rattle.cg_graph.specs.Changes.{held, named}
use Rattle.cg_heap.specs.Calls.{IsSound}
use Rattle.cg_heap.proofs.HoldLemmas.{name_holds}
use Rattle.cg_script.specs.declared.command.Operand.TheVariants as operand
use Rattle.cg_script.specs.declared.command.Command.TheVariants as command
use Rattle.cg_machine.specs.World.{World}
use Rattle.cg_machine.specs.Commands.{effect}
use Rattle.cg_machine.specs.Effects.{Changes, binds, bound, given_up_by}
use Rattle.cg_machine.specs.Operands.{value}
use Rattle.cg_machine.specs.Refusals.{no_name}
use Rattle.cg_represents.specs.Represents.{Represents}
use Rattle.cg_commands.specs.declared.done.Done.TheVariants.{Changed}
use Rattle.cg_commands.specs.declared.done.Refusal.TheVariants.{NoName}
use Rattle.cg_commands.specs.declared.locals.Locals.{Locals}
use Rattle.cg_commands.specs.Answers.{PerformsOnHeap}
use Rattle.cg_commands.proofs.ChangesOfHeaps.{gives_up, renamed, held-none}
use Rattle.cg_commands.proofs.Reading.{reads-name}
use Rattle.cg_commands.proofs.FirstRefusal.{next, refused}

module _ (store : Store) (sound : IsSound store) (locals : Option Locals) (name : ℕ) (was : Option Val) (at : slice_get store.names name ≡ Some was) where
  -- a name gives up its old value
  pub given-up_by : (w : World) → Represents store w → given_up_by w name ≡ references_of_value was
  given-up_by w r = ap (λ x. references_of_value (option_and_then (λ v. v) x)) (ap (λ ns. slice_get ns name) (sym r.names) ∙ at)

  pub was_live : (s : ℕ) → 0 < occurrences s (references_of_value was) → IsLive store s
  was_live s there = sound.live s (omega (arith, there, name_holds store name was at s))

  pub binds-performs : (v : Val) (e : Entry) (new : Store) → new ≡ held (references_of_value was) (named name (Some v) store) → entry_references e
      ≡ references_of_value was → PerformsOnHeap store locals (λ w. binds w name v) new (Ok (Changed None e))
  binds-performs v e new is entry w s =
      gives_up _ None e false (references_of_value was) (named name (Some v) store) (bound w name (Some v)) store new
      (ap (λ rs. Ok (Changes false [] rs (bound w name (Some v)))) (given-up_by w s.represents)) entry is (renamed store w s.represents name (Some v)) was_live

-- a bound name is unbound
pub unbinds-performs : (store : Store) → IsSound store → (locals : Option Locals) (name : ℕ) (v : Val) → slice_get store.names name ≡ Some (Some v)
    → (e : Entry) (new : Store) → new ≡ held (references_of_value (Some v)) (named name None store) → entry_references e ≡ references_of_value (Some v)
    → PerformsOnHeap store locals (λ w. effect w (command.Del name)) new (Ok (Changed None e))
unbinds-performs store sound locals name v at e new is entry w s =
    next (value w (operand.Name name)) v _ store new (Ok (Changed None e)) (ap (λ x. ok_or x no_name) (reads-name store locals name (Some v) at w s))
    (gives_up _ None e false (references_of_value (Some v)) (named name None store) (bound w name None) store new
    (ap (λ rs. Ok (Changes false [] rs (bound w name None))) (given-up_by store sound locals name (Some v) at w s.represents)) entry is
    (renamed store w s.represents name None) (was_live store sound locals name (Some v) at))

-- an unbound one is not
pub unbinds-refused : (store : Store) (locals : Option Locals) (name : ℕ) → slice_get store.names name ≡ Some None → (new : Store) → new
    ≡ held (references_of_value None) (named name None store) → PerformsOnHeap store locals (λ w. effect w (command.Del name)) new (Err NoName)
unbinds-refused store locals name at new is w s =
    let rest = refused NoName (value w (operand.Name name)) _ store (ap (λ x. ok_or x no_name) (reads-name store locals name None at w s)) in
    (rest.0, is ∙ unchanged)
  where
    same_names : (names : List (Option Val)) (i : ℕ) → slice_get names i ≡ Some None → set names i None ≡ names
    same_names [] i at = refl
    same_names (n ∷ names) zero at = let same : n ≡ None = cc in ap (λ m. m ∷ names) (sym same)
    same_names (n ∷ names) (suc i) at = ap (λ l. n ∷ l) (same_names names i at)

    unchanged : held [] (named name None store) ≡ store
    unchanged = held-none (named name None store) ∙ ap (λ ns. record store { names = ns }) (same_names store.names name at)
