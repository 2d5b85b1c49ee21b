-- Dereferencing a weak reference.
use Rattle.std.proofs.Common.{◌≡◌, sym, subst, ℕ, Option, Some, None, Result}
use Rattle.cg_value.specs.declared.Val.TheVariants as val
use Rattle.cg_graph.specs.Rows.{referent_in}
use Rattle.cg_graph.specs.Store.{Store, IsLive}
use Rattle.cg_heap.specs.Calls.{IsSound, IsLiveValue}
use Rattle.cg_heap.proofs.RowLemmas.{refers_live}
use Rattle.cg_machine.specs.Effects.{binds}
use Rattle.cg_commands.specs.declared.done.Done.{Done}
use Rattle.cg_commands.specs.declared.done.Refusal.{Refusal}
use Rattle.cg_commands.specs.declared.locals.Locals.{Locals}
use Rattle.cg_commands.specs.Answers.{PerformsOnHeap}

-- it lives
pub deref-live : (store : Store) → IsSound store → (weak o : ℕ) → Some o ≡ referent_in store.rows weak → IsLiveValue store (val.Ref o)
deref-live store sound weak o is s e = let same : o ≡ s = cc in subst (λ q. IsLive store q) same (refers_live store sound.rows weak o (sym is)).1

-- the value that a name gets
pub bound-referent : (store new : Store) (locals : Option Locals) (name : ℕ) (referent found : Option ℕ) (answer : Result Done Refusal) → found ≡ referent
    → PerformsOnHeap store locals (λ w. binds w name (elim found [ None ↦ val.None | Some o ↦ val.Ref o ])) new answer → PerformsOnHeap store locals
    (λ w. binds w name (elim referent [ None ↦ val.None | Some o ↦ val.Ref o ])) new answer
bound-referent store new locals name referent found answer is done = subst (λ r. PerformsOnHeap store locals (λ w. binds w name (elim r [ None ↦ val.None | Some o ↦ val.Ref o ])) new answer) is done
