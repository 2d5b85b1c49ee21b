-- A property of the number of each word of a line holds of the numbers in what the line says.
use Rattle.std.proofs.Common.{ℕ, zero, suc, ◌<◌, List, [], ◌∷◌, ◌++◌, map, drop, Bool, true, false, Some, arith, refl, ◌≡◌}
use Rattle.std.specs.Prelude.{flat_map}
use Rattle.cg_script.specs.declared.command.Operand.{Operand}
use Rattle.cg_script.specs.declared.command.Operand.TheVariants as operands
use Rattle.cg_script.specs.declared.item.Item.{Item}
use Rattle.cg_script.specs.declared.item.Item.TheVariants as items
use Rattle.cg_script.specs.declared.form.Form.{Form}
use Rattle.cg_script.specs.declared.form.Form.TheVariants as forms
use Rattle.cg_script.specs.declared.form.Sort.{Sort}
use Rattle.cg_script.specs.declared.form.Sort.TheVariants.{Variable, Name}
use Rattle.cg_script.specs.declared.part.Part.{Part}
use Rattle.cg_script.specs.declared.part.Part.TheVariants as parts
use Rattle.cg_script.specs.declared.part.Said.{Said}
use Rattle.cg_script.specs.declared.part.Said.TheVariants.{Declares, Begins, Ends, Does}
use Rattle.cg_script.specs.Texts.{words_by}
use Rattle.cg_script.specs.Forms.{row, sort_at}
use Rattle.cg_script.specs.Commands.{value_or, text_at, value_at, values_from, said}

-- each of some numbers has a property
abbrev pub AllHold : (ℕ → Type 0) → List ℕ → Type 0
AllHold Holds [] = Unit {0}
AllHold Holds (n ∷ ns) = Holds n × AllHold Holds ns

pub hold_both : (Holds : ℕ → Type 0) (xs ys : List ℕ) → AllHold Holds xs → AllHold Holds ys → AllHold Holds (xs ++ ys)
hold_both Holds [] ys a b = b
hold_both Holds (x ∷ xs) ys a b = (a.0, hold_both Holds xs ys a.1 b)

-- the places for a text
abbrev pub is_text : Sort → Bool
is_text Variable = true
is_text Name = true
is_text sort = false

-- the words of a declaration, or of a line, as operands: its name counts as a variable
abbrev pub item_by : (Operand → List ℕ) → Item → List ℕ
item_by of (items.Class c) = of (operands.Name c.name)
item_by of (items.Def p) = of (operands.Name p.name) ++ flat_map (words_by of) p.body
item_by of (items.Run command) = words_by of command
item_by of item = []

abbrev pub said_by : (Operand → List ℕ) → Said → List ℕ
said_by of (Declares item) = item_by of item
said_by of (Begins name) = of (operands.Name name)
said_by of Ends = []
said_by of (Does command) = words_by of command

-- A word as operand has a property if its text has it.
pub record WordsHold (of : Operand → List ℕ) (Holds : ℕ → Type 0) : Type 0 where
  pub nothing : AllHold Holds (of operands.None)
  pub name : (k : ℕ) → Holds k → AllHold Holds (of (operands.Name k))
  pub string : (k : ℕ) → Holds k → AllHold Holds (of (operands.Str k))

module _ (of : Operand → List ℕ) (Holds : ℕ → Type 0) where
  abbrev pub PartHolds : Part → Type 0
  PartHolds (parts.Text k) = Holds k
  PartHolds (parts.Value operand) = AllHold Holds (of operand)
  PartHolds part = Unit {0}

  abbrev pub EachPart : List Part → Type 0
  EachPart [] = Unit {0}
  EachPart (p ∷ ps) = PartHolds p × EachPart ps

  drop_each : (ps : List Part) (i : ℕ) → EachPart ps → EachPart (drop i ps)
  drop_each ps zero e = e
  drop_each [] (suc i) e = tt
  drop_each (p ∷ ps) (suc i) e = drop_each ps i e.1

  module _ (w : WordsHold of Holds) where
    value_of : (p : Part) → PartHolds p → AllHold Holds (of (value_or (Some p)))
    value_of (parts.Value operand) b = b
    value_of p b = w.nothing

    value_there : (ps : List Part) (i : ℕ) → EachPart ps → AllHold Holds (of (value_at ps i))
    value_there [] i e = w.nothing
    value_there (p ∷ ps) zero e = value_of p e.0
    value_there (p ∷ ps) (suc i) e = value_there ps i e.1

    all_values : (ps : List Part) → EachPart ps → AllHold Holds (flat_map of (map (λ part. value_or (Some part)) ps))
    all_values [] e = tt
    all_values (p ∷ ps) e = hold_both Holds (of (value_or (Some p))) (flat_map of (map (λ part. value_or (Some part)) ps)) (value_of p e.0) (all_values ps e.1)

    -- what a line of a form says
    module _ (ps : List Part) (each : EachPart ps) where
      v : (i : ℕ) → AllHold Holds (of (value_at ps i))
      v i = value_there ps i each

      vv : (i j : ℕ) → AllHold Holds (of (value_at ps i) ++ of (value_at ps j))
      vv i j = hold_both Holds (of (value_at ps i)) (of (value_at ps j)) (v i) (v j)

      values : (i : ℕ) → AllHold Holds (flat_map of (values_from ps i))
      values i = all_values (drop i ps) (drop_each ps i each)

      binds : (rest : List ℕ) → Holds (text_at ps 0) → AllHold Holds rest → AllHold Holds (of (operands.Name (text_at ps 0)) ++ rest)
      binds rest h others = hold_both Holds (of (operands.Name (text_at ps 0))) rest (w.name (text_at ps 0) h) others

      attribute : (i j : ℕ) → Holds (text_at ps j) → AllHold Holds (of (value_at ps i) ++ of (operands.Str (text_at ps j)))
      attribute i j h = hold_both Holds (of (value_at ps i)) (of (operands.Str (text_at ps j))) (v i) (w.string (text_at ps j) h)

      pub said_holds : (form : Form) → ((i : ℕ) → i < (row form).fewest → is_text (sort_at form i) ≡ true → Holds (text_at ps i)) → AllHold Holds (said_by of (said form ps))
      said_holds forms.MakeList t = binds (flat_map of (values_from ps 3)) (t 0 (omega arith) refl) (values 3)
      said_holds forms.MakeTuple t = binds (flat_map of (values_from ps 3)) (t 0 (omega arith) refl) (values 3)
      said_holds forms.MakeDict t = w.name _ (t 0 (omega arith) refl)
      said_holds forms.MakeInst t = w.name _ (t 0 (omega arith) refl)
      said_holds forms.MakeFunc t = binds (flat_map of (values_from ps 4)) (t 0 (omega arith) refl) (values 4)
      said_holds forms.MakeRef t = binds (of (value_at ps 3) ++ of (value_at ps 4)) (t 0 (omega arith) refl) (vv 3 4)
      said_holds forms.Bind t = binds (of (value_at ps 2)) (t 0 (omega arith) refl) (v 2)
      said_holds forms.Del t = w.name _ (t 1 (omega arith) refl)
      said_holds forms.Append t = vv 1 2
      said_holds forms.SetItem t = vv 1 3
      said_holds forms.DelItem t = v 1
      said_holds forms.Put t = hold_both Holds (of (value_at ps 1) ++ of (value_at ps 2)) (of (value_at ps 3)) (vv 1 2) (v 3)
      said_holds forms.Remove t = vv 1 2
      said_holds forms.SetAttr t =
          hold_both Holds (of (value_at ps 1)) (of (operands.Str (text_at ps 2)) ++ of (value_at ps 3)) (v 1)
          (hold_both Holds (of (operands.Str (text_at ps 2))) (of (value_at ps 3)) (w.string _ (t 2 (omega arith) refl)) (v 3))
      said_holds forms.DelAttr t = attribute 1 2 (t 2 (omega arith) refl)
      said_holds forms.Item t = binds (of (value_at ps 3)) (t 0 (omega arith) refl) (v 3)
      said_holds forms.Get t = binds (of (value_at ps 3) ++ of (value_at ps 4)) (t 0 (omega arith) refl) (vv 3 4)
      said_holds forms.Attr t = binds (of (value_at ps 3) ++ of (operands.Str (text_at ps 4))) (t 0 (omega arith) refl) (attribute 3 4 (t 4 (omega arith) refl))
      said_holds forms.Deref t = binds (of (value_at ps 3)) (t 0 (omega arith) refl) (v 3)
      said_holds forms.Collect t = tt
      said_holds forms.Enable t = tt
      said_holds forms.Disable t = tt
      said_holds forms.Threshold t = tt
      said_holds forms.Flags t = tt
      said_holds forms.Freeze t = tt
      said_holds forms.Unfreeze t = tt
      said_holds forms.Why t = w.name _ (t 1 (omega arith) refl)
      said_holds forms.Count t = tt
      said_holds forms.Gens t = tt
      said_holds forms.Profile t = tt
      said_holds forms.Shutdown t = tt
      said_holds forms.Budget t = tt
      said_holds forms.Class t = w.name _ (t 1 (omega arith) refl)
      said_holds forms.Def t = w.name _ (t 1 (omega arith) refl)
      said_holds forms.End t = tt
      said_holds form t = v 1
