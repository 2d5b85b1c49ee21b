-- The items of what some lines and the ones after them say.
use Rattle.std.proofs.Common.{◌≡◌, ◌≢◌, ℕ, zero, suc, List, [], ◌∷◌, ◌++◌, length, map, Bool, true, false, Some, refl, sym, ap, subst, ◌∙◌, inl, inr, ◌⊎◌}
use Rattle.std.specs.Prelude.{slice_get}
use Rattle.cg_script.specs.declared.item.Item.TheVariants as items
use Rattle.cg_script.specs.declared.item.Proc.{Proc}
use Rattle.cg_script.specs.declared.item.ClassDef.{ClassDef}
use Rattle.cg_script.specs.declared.command.Command.{Command}
use Rattle.cg_script.specs.declared.part.Said.{Said}
use Rattle.cg_script.specs.declared.part.Said.TheVariants.{Declares, Begins, Ends, Does}
use Rattle.cg_script.specs.Items.{commands_of, procedures, classes}
use Rattle.cg_script.specs.Reading.{body_of, items_of}
use Rattle.cg_script.specs.Views.{inside_behind}
use Rattle.cg_graph.specs.Member.{Includes}
use Rattle.cg_represents.proofs.Lists.{slice_get_member}
use Rattle.cg_weakcoll.proofs.ReadLines.{does_all}

-- whether a procedure is open after some lines
abbrev pub through : Bool → List Said → Bool
through inside [] = inside
through inside (s ∷ saids) = through (inside_behind s inside) saids

pub commands_split : (xs ys : List Said) (inside : Bool) → commands_of (items_of inside (xs ++ ys)) ≡ commands_of (items_of inside xs) ++ commands_of (items_of (through inside xs) ys)
commands_split [] ys inside = refl
commands_split (Declares (items.Run c) ∷ xs) ys inside = ap (λ l. c ∷ l) (commands_split xs ys inside)
commands_split (Declares item ∷ xs) ys inside = commands_split xs ys inside
commands_split (Begins name ∷ xs) ys inside = commands_split xs ys true
commands_split (Ends ∷ xs) ys inside = commands_split xs ys false
commands_split (Does c ∷ xs) ys true = commands_split xs ys true
commands_split (Does c ∷ xs) ys false = ap (λ l. c ∷ l) (commands_split xs ys false)

pub classes_split : (xs ys : List Said) (inside : Bool) → classes (items_of inside (xs ++ ys)) ≡ classes (items_of inside xs) ++ classes (items_of (through inside xs) ys)
classes_split [] ys inside = refl
classes_split (Declares (items.Class c) ∷ xs) ys inside = ap (λ l. c ∷ l) (classes_split xs ys inside)
classes_split (Declares item ∷ xs) ys inside = classes_split xs ys inside
classes_split (Begins name ∷ xs) ys inside = classes_split xs ys true
classes_split (Ends ∷ xs) ys inside = classes_split xs ys false
classes_split (Does c ∷ xs) ys true = classes_split xs ys true
classes_split (Does c ∷ xs) ys false = classes_split xs ys false

-- only commands
pub run_each : (commands : List Command) → commands_of (items_of false (does_all commands)) ≡ commands
run_each [] = refl
run_each (c ∷ commands) = ap (λ l. c ∷ l) (run_each commands)

pub no_procedures : (commands : List Command) → procedures (items_of false (does_all commands)) ≡ []
no_procedures [] = refl
no_procedures (c ∷ commands) = no_procedures commands

pub no_classes : (commands : List Command) → classes (items_of false (does_all commands)) ≡ []
no_classes [] = refl
no_classes (c ∷ commands) = no_classes commands

-- a procedure that has ended has its body
body_split : (xs ys : List Said) → through true xs ≡ false → body_of (xs ++ ys) ≡ body_of xs
body_split [] ys e = absurd (cc)
body_split (Does c ∷ xs) ys e = ap (λ l. c ∷ l) (body_split xs ys e)
body_split xs ys e = refl

-- the procedures of lines that leave none open, and of those after them
pub procedures_split : (xs ys : List Said) (inside : Bool) → through inside xs ≡ false → procedures (items_of inside (xs ++ ys)) ≡ procedures (items_of inside xs) ++ procedures (items_of false ys)
procedures_split [] ys inside e = ap (λ b. procedures (items_of b ys)) e
procedures_split (Declares (items.Def p) ∷ xs) ys inside e = ap (λ l. p ∷ l) (procedures_split xs ys inside e)
procedures_split (Declares item ∷ xs) ys inside e = procedures_split xs ys inside e
procedures_split (Begins name ∷ xs) ys inside e =
    ap (λ b. record { name = name; body = b } ∷ procedures (items_of true (xs ++ ys))) (body_split xs ys e)
    ∙ ap (λ l. record { name = name; body = body_of xs } ∷ l) (procedures_split xs ys true e)
procedures_split (Ends ∷ xs) ys inside e = procedures_split xs ys false e
procedures_split (Does c ∷ xs) ys true e = procedures_split xs ys true e
procedures_split (Does c ∷ xs) ys false e = procedures_split xs ys false e

-- lines without commands and whole procedures
pub record IsPlain (s : Said) : Type 0 where
  pub no_run : (c : Command) → s ≢ Declares (items.Run c)
  pub no_def : (p : Proc) → s ≢ Declares (items.Def p)

abbrev pub ArePlain : List Said → Type 0
ArePlain saids = (s : Said) → Includes saids s → IsPlain s

behind : (s : Said) (xs : List Said) → ArePlain (s ∷ xs) → ArePlain xs
behind s xs plain t m = plain t (inr m)

-- each item was said
pub command_said : (xs : List Said) (inside : Bool) (c : Command) → ArePlain xs → Includes (commands_of (items_of inside xs)) c → Includes xs (Does c)
command_said [] inside c plain m = absurd m
command_said (Declares (items.Run d) ∷ xs) inside c plain m = absurd ((plain (Declares (items.Run d)) (inl refl)).no_run d refl)
command_said (Declares item ∷ xs) inside c plain m = inr (command_said xs inside c (behind _ xs plain) m)
command_said (Begins name ∷ xs) inside c plain m = inr (command_said xs true c (behind _ xs plain) m)
command_said (Ends ∷ xs) inside c plain m = inr (command_said xs false c (behind _ xs plain) m)
command_said (Does d ∷ xs) true c plain m = inr (command_said xs true c (behind _ xs plain) m)
command_said (Does d ∷ xs) false c plain (inl e) = inl (ap Does e)
command_said (Does d ∷ xs) false c plain (inr m) = inr (command_said xs false c (behind _ xs plain) m)

body_said : (xs : List Said) (c : Command) → Includes (body_of xs) c → Includes xs (Does c)
body_said (Does d ∷ xs) c (inl e) = inl (ap Does e)
body_said (Does d ∷ xs) c (inr m) = inr (body_said xs c m)
body_said xs c m = absurd m

pub procedure_said : (xs : List Said) (inside : Bool) (p : Proc) (c : Command) → ArePlain xs → Includes (procedures (items_of inside xs)) p → Includes p.body c → Includes xs (Does c)
procedure_said [] inside p c plain m b = absurd m
procedure_said (Declares (items.Def q) ∷ xs) inside p c plain m b = absurd ((plain (Declares (items.Def q)) (inl refl)).no_def q refl)
procedure_said (Declares item ∷ xs) inside p c plain m b = inr (procedure_said xs inside p c (behind _ xs plain) m b)
procedure_said (Begins name ∷ xs) inside p c plain (inl e) b = inr (body_said xs c (subst (λ (q : Proc). Includes q.body c) (sym e) b))
procedure_said (Begins name ∷ xs) inside p c plain (inr m) b = inr (procedure_said xs true p c (behind _ xs plain) m b)
procedure_said (Ends ∷ xs) inside p c plain m b = inr (procedure_said xs false p c (behind _ xs plain) m b)
procedure_said (Does d ∷ xs) true p c plain m b = inr (procedure_said xs true p c (behind _ xs plain) m b)
procedure_said (Does d ∷ xs) false p c plain m b = inr (procedure_said xs false p c (behind _ xs plain) m b)

pub class_said : (xs : List Said) (inside : Bool) (k : ClassDef) → Includes (classes (items_of inside xs)) k → Includes xs (Declares (items.Class k))
class_said [] inside k m = absurd m
class_said (Declares (items.Class c) ∷ xs) inside k (inl e) = inl (ap (λ (d : ClassDef). Declares (items.Class d)) e)
class_said (Declares (items.Class c) ∷ xs) inside k (inr m) = inr (class_said xs inside k m)
class_said (Declares item ∷ xs) inside k m = inr (class_said xs inside k m)
class_said (Begins name ∷ xs) inside k m = inr (class_said xs true k m)
class_said (Ends ∷ xs) inside k m = inr (class_said xs false k m)
class_said (Does c ∷ xs) true k m = inr (class_said xs true k m)
class_said (Does c ∷ xs) false k m = inr (class_said xs false k m)

-- the procedures that lines begin, by the numbers of their names
abbrev pub begun_by : Said → List ℕ
begun_by (Begins name) = name ∷ []
begun_by s = []

abbrev pub begun : List Said → List ℕ
begun [] = []
begun (s ∷ saids) = begun_by s ++ begun saids

pub begun_names : (xs : List Said) (inside : Bool) → ArePlain xs → map (λ (p : Proc). p.name) (procedures (items_of inside xs)) ≡ begun xs
begun_names [] inside plain = refl
begun_names (Declares (items.Def p) ∷ xs) inside plain = absurd ((plain (Declares (items.Def p)) (inl refl)).no_def p refl)
begun_names (Declares item ∷ xs) inside plain = begun_names xs inside (behind _ xs plain)
begun_names (Begins name ∷ xs) inside plain = ap (λ l. name ∷ l) (begun_names xs true (behind _ xs plain))
begun_names (Ends ∷ xs) inside plain = begun_names xs false (behind _ xs plain)
begun_names (Does c ∷ xs) true plain = begun_names xs true (behind _ xs plain)
begun_names (Does c ∷ xs) false plain = begun_names xs false (behind _ xs plain)

pub at_place : {X : Type 0} (xs ys : List X) (y : X) → slice_get (xs ++ y ∷ ys) (length xs) ≡ Some y
at_place [] ys y = refl
at_place (x ∷ xs) ys y = at_place xs ys y

pub elsewhere : {X : Type 0} (xs ys : List X) (y : X) (i : ℕ) (x : X) → i ≢ length xs → slice_get (xs ++ y ∷ ys) i ≡ Some x → Includes xs x ⊎ Includes ys x
elsewhere [] ys y zero x apart e = absurd (apart refl)
elsewhere [] ys y (suc i) x apart e = inr (slice_get_member ys i x e)
elsewhere (w ∷ xs) ys y zero x apart e = let same : w ≡ x = cc in inl (inl same)
elsewhere (w ∷ xs) ys y (suc i) x apart e = go (elsewhere xs ys y i x (λ k. apart (ap suc k)) e)
  where
    go : Includes xs x ⊎ Includes ys x → Includes (w ∷ xs) x ⊎ Includes ys x
    go (inl m) = inl (inr m)
    go (inr m) = inr m
