-- Other commands leave the names of an exit finalizer alone.
use Rattle.std.proofs.Common.{◌≡◌, ◌≢◌, refl, sym, ◌∙◌, ap, subst, ℕ, zero, suc, Bool, inl, List, [], ◌∷◌, Option, Some}
use Rattle.std.specs.Prelude.{slice_get, slice_set}
use Rattle.cg_value.specs.declared.Val.{Val}
use Rattle.cg_value.specs.declared.Val.TheVariants.{Ref}
use Rattle.cg_script.specs.declared.Script.{Script}
use Rattle.cg_script.specs.declared.Command.{Command}
use Rattle.cg_script.specs.declared.Operand.TheVariants.{Name}
use Rattle.cg_script.specs.Texts.{command_names, operand_names}
use Rattle.cg_graph.specs.Member.{Includes}
use Rattle.cg_machine.specs.declared.event.Event.{Event}
use Rattle.cg_machine.specs.World.{World, Activity}
use Rattle.cg_machine.specs.Effects.{Changes, Effect}
use Rattle.cg_laws.proofs.Invariants.{on}
use Rattle.cg_laws.proofs.Starting.{called_either}
use Rattle.cg_represents.proofs.Shapes.{AsksWhy, Binds, Ends, IsWordOf, Makes, Shape, StartsCollection, StartsFrame}
use Rattle.cg_weakcoll.proofs.KnownOfRuns.{Asked, Began, Changed, Done, Stood, Stopped}

pub set_away : (names : List (Option Val)) (name x : ℕ) (v : Option Val) → x ≢ name → slice_get (slice_set names name v) x ≡ slice_get names x
set_away (u ∷ names) zero zero v apart = absurd (apart refl)
set_away (u ∷ names) (suc name) (suc x) v apart = set_away names name x v (λ e. apart (ap suc e))
set_away xs name x v apart = refl

-- a bound name has that value
pub set_got : (names : List (Option Val)) (x : ℕ) (v u : Option Val) → slice_get (slice_set names x v) x ≡ Some u → u ≡ v
set_got [] x v u e = absurd (cc)
set_got (n ∷ names) zero v u e = let same : v ≡ u = cc in sym same
set_got (n ∷ names) (suc x) v u e = set_got names x v u e

module _ (u : World) (command : Command) (n : ℕ) (spoken : ¬ Includes (command_names command) n) where
  own_apart : (name : ℕ) → IsWordOf command (Name name) → n ≢ name
  own_apart name own e = spoken (subst (Includes (command_names command)) (sym e) (own operand_names name (inl refl)))

  to_next : (told lines : List Event) (given_up given : List ℕ) (wanted wants : Bool) (after next : World) → slice_get after.names n ≡ slice_get u.names n
      → Changes wanted told given_up after ≡ Changes wants lines given next → slice_get next.names n ≡ slice_get u.names n
  to_next told lines given_up given wanted wants after next h e = let same : after ≡ next = cc in subst (λ (z : World). slice_get z.names n ≡ slice_get u.names n) same h

  shape_names : (e : Effect) → Shape u command e → (wants : Bool) (lines : List Event) (given : List ℕ) (next : World) → e ≡ Changes wants lines given next
      → slice_get next.names n ≡ slice_get u.names n
  shape_names e (Binds name v own hand) wants lines given next is = to_next _ lines _ given _ wants _ next (set_away u.names name n v (own_apart name own)) is
  shape_names e (Makes name kind class entries referent own parts) wants lines given next is = to_next _ lines _ given _ wants _ next
      (set_away u.names name n (Some (Ref u.next_serial)) (own_apart name own)) is
  shape_names e (StartsFrame f has) wants lines given next is = absurd (cc)
  shape_names e (StartsCollection g low) wants lines given next is = absurd (cc)
  shape_names e Ends wants lines given next is = absurd (cc)
  shape_names e (AsksWhy x has calm) wants lines given next is = absurd (cc)
  shape_names e shape wants lines given next is = to_next _ lines _ given _ wants _ next refl is

-- a command that does not use a name leaves it alone
pub done_names : (script : Script) (n : ℕ) (command : Command) (b : Activity) (below : List Activity) (v : World) (events : List Event) (after : World)
    → ¬ Includes (command_names command) n → Done script command (on b below v) b below events after → slice_get after.names n ≡ slice_get v.names n
done_names script n command b below v events after spoken (Stood answers is) = ap (λ (z : World). slice_get z.names n) is
done_names script n command b below v events after spoken (Stopped answers is) = ap (λ (z : World). slice_get z.names n) is
done_names script n command b below v events after spoken (Changed wants given next is shape) = ap (λ (z : World). slice_get z.names n) is
    ∙ shape_names (on b below v) command n spoken (Changes wants events given next) shape wants events given next refl
done_names script n command b below v events after spoken (Began f has step) =
    called_either (λ lines w. slice_get w.names n ≡ slice_get v.names n) script (on b below v) f.serial events after step refl refl
done_names script n command b below v events after spoken (Asked g none is) = ap (λ (z : World). slice_get z.names n) is
