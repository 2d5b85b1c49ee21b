-- Commands that change nothing: they print a line, call, or end a frame.
use Rattle.std.proofs.Common.{◌≡◌, refl, sym, ◌∙◌, ap, subst, ℕ, Bool, false, [], Option, Some, None, Ok}
use Rattle.cg_value.specs.declared.Val.{Val}
use Rattle.cg_value.specs.declared.Val.TheVariants as val
use Rattle.cg_graph.specs.Value.{item}
use Rattle.cg_graph.specs.Object.{Object}
use Rattle.cg_graph.specs.Store.{Store, count_of}
use Rattle.cg_machine.specs.declared.event.Event.{Event}
use Rattle.cg_machine.specs.declared.event.Event.TheVariants.{RefCount}
use Rattle.cg_machine.specs.World.{World}
use Rattle.cg_machine.specs.Holdings.{in_degree}
use Rattle.cg_machine.specs.Operands.{object_of}
use Rattle.cg_machine.specs.Effects.{Changes, Calls as CallsEffect, Quits as QuitsEffect, prints}
use Rattle.cg_represents.proofs.Representing.{count-in_degree}
use Rattle.cg_commands.specs.declared.done.Done.{Done}
use Rattle.cg_commands.specs.declared.done.Done.TheVariants.{Changed, Calls, Quits}
use Rattle.cg_commands.specs.declared.locals.Locals.{Locals}
use Rattle.cg_commands.specs.Stands.{HeapAndLocalsStandFor}
use Rattle.cg_commands.specs.Objects.{Tells}
use Rattle.cg_commands.specs.Answers.{PerformsOnHeap}
use Rattle.cg_commands.proofs.ChangesOfHeaps.{gives_nothing}

module _ (store : Store) (locals : Option Locals) where
  -- a line known from the world
  pub prints-known : (line : World → Event) (here : Event) → ((w : World) → HeapAndLocalsStandFor store locals w → line w ≡ here) → (done : Done) → done
      ≡ Changed (Some here) (item val.None) → PerformsOnHeap store locals (λ w. prints w (line w)) store (Ok done)
  prints-known line here told done is = subst (λ d. PerformsOnHeap store locals (λ w. prints w (line w)) store (Ok d)) (sym is)
      (λ w s. gives_nothing (prints w (line w)) (Some here) (item val.None) false w store store (ap (prints w) (told w s)) refl s.represents)

  pub prints-performs : (line : Event) (done : Done) → done ≡ Changed (Some line) (item val.None) → PerformsOnHeap store locals (λ w. prints w line) store (Ok done)
  prints-performs line = prints-known (λ w. line) line (λ w s. refl)

  pub prints-count : (o n : ℕ) → n ≡ count_of store o → (done : Done) → done ≡ Changed (Some (RefCount n)) (item val.None) → PerformsOnHeap store locals
      (λ w. prints w (RefCount (in_degree w o))) store (Ok done)
  prints-count o n is = prints-known (λ w. RefCount (in_degree w o)) (RefCount n) (λ w s. ap RefCount (sym (is ∙ count-in_degree store w s.represents o)))

  pub prints-told : (line : Bool → Event) (question : Object → Bool) (v : Val) (b : Bool) → Tells store question v b → (done : Done) → done
      ≡ Changed (Some (line b)) (item val.None) → PerformsOnHeap store locals
      (λ w. prints w (line (elim (object_of w v) [ None ↦ false | Some x ↦ question x ]))) store (Ok done)
  prints-told line question v b told = prints-known (λ w. line (elim (object_of w v) [ None ↦ false | Some x ↦ question x ])) (line b) (λ w s. ap line (told w s.represents))

  pub calls-performs : (f : ℕ) → PerformsOnHeap store locals (λ w. Ok (CallsEffect f)) store (Ok (Calls f))
  calls-performs f w s = (refl, refl)

  -- the end of a frame, if the value is none
  pub quits-performs : (v : Val) → v ≡ val.None → PerformsOnHeap store locals (λ w. Ok (elim v [ val.None ↦ QuitsEffect | _ ↦ Changes false [] [] w ])) store (Ok Quits)
  quits-performs v is w s = (ap (λ x. Ok (elim x [ val.None ↦ QuitsEffect | _ ↦ Changes false [] [] w ])) is, refl)

  pub stays-performs : (v : Val) → (v ≡ val.None → ⊥) → (done : Done) → done ≡ Changed None (item val.None) → PerformsOnHeap store locals
      (λ w. Ok (elim v [ val.None ↦ QuitsEffect | _ ↦ Changes false [] [] w ])) store (Ok done)
  stays-performs v other done is = subst (λ d. PerformsOnHeap store locals (λ w. Ok (elim v [ val.None ↦ QuitsEffect | _ ↦ Changes false [] [] w ])) store (Ok d)) (sym is) (stays v other)
    where
      stays : (v : Val) → (v ≡ val.None → ⊥) → PerformsOnHeap store locals (λ w. Ok (elim v [ val.None ↦ QuitsEffect | _ ↦ Changes false [] [] w ])) store (Ok (Changed None (item val.None)))
      stays val.None other = absurd (other refl)
      stays (val.Int n) other = λ w s. gives_nothing _ None (item val.None) false w store store refl refl s.represents
      stays (val.Str n) other = λ w s. gives_nothing _ None (item val.None) false w store store refl refl s.represents
      stays (val.Ref n) other = λ w s. gives_nothing _ None (item val.None) false w store store refl refl s.represents
