-- What a line adds to the items of a draft.
use Rattle.std.proofs.Common.{◌≡◌, ℕ, List, [], ◌∷◌, ◌++◌, Bool, true, false, not, ◌||◌, refl, sym, ap, ◌∙◌, append_assoc, append-nil}
use Rattle.cg_script.specs.declared.command.Command.{Command}
use Rattle.cg_script.specs.declared.item.Item.{Item}
use Rattle.cg_script.specs.declared.item.Item.TheVariants as variants
use Rattle.cg_script.specs.declared.form.Form.{Form}
use Rattle.cg_script.specs.declared.form.Form.TheVariants as forms
use Rattle.cg_script.specs.declared.part.Part.{Part}
use Rattle.cg_script.specs.declared.part.Said.{Said}
use Rattle.cg_script.specs.declared.part.Said.TheVariants.{Ends, Does}
use Rattle.cg_script.specs.Parts.{Known, texts_from}
use Rattle.cg_script.specs.Commands.{said}
use Rattle.cg_script.specs.Reading.{items_of, body_of, is_misplaced, procs_after, classes_after, budget_after, shutdown_after, inside_after, known_after}
use Rattle.cg_script.specs.Views.{is_placed, inside_behind}

pub item_more : (items : List Item) (item : Item) (rest : List Item) → (items ++ item ∷ []) ++ rest ≡ items ++ item ∷ rest
item_more items item rest = append_assoc items (item ∷ []) rest

pub body_more : (items : List Item) (name : ℕ) (body : List Command) (command : Command) (later : List Said)
    → items ++ variants.Def (record { name = name; body = (body ++ command ∷ []) ++ body_of later }) ∷ items_of true later
    ≡ items ++ variants.Def (record { name = name; body = body ++ body_of (Does command ∷ later) }) ∷ items_of true (Does command ∷ later)
body_more items name body command later = ap (λ b. items ++ variants.Def (record { name = name; body = b }) ∷ items_of true later) (append_assoc body (command ∷ []) (body_of later))

-- the procedure ends
pub body_ends : (items : List Item) (name : ℕ) (body : List Command) (later : List Said)
    → (items ++ variants.Def (record { name = name; body = body }) ∷ []) ++ items_of false later
    ≡ items ++ variants.Def (record { name = name; body = body ++ body_of (Ends ∷ later) }) ∷ items_of true (Ends ∷ later)
body_ends items name body later =
    append_assoc items (variants.Def (record { name = name; body = body }) ∷ []) (items_of false later)
    ∙ ap (λ b. items ++ variants.Def (record { name = name; body = b }) ∷ items_of false later) (sym (append-nil body))

pub ends_inside : (inside : Bool) → not inside ≡ false → inside ≡ true
ends_inside true e = refl
ends_inside false e = absurd (cc)

-- a well placed profile is outside procedures, and is the first line
pub first_outside : (inside started : Bool) → (inside || started) ≡ false → (inside ≡ false) × (started ≡ false)
first_outside true started e = absurd (cc)
first_outside false started e = (refl, e)

-- what a line of a form says is where the form may be
pub placed : (known : Known) (form : Form) (parts : List Part) → is_misplaced known form ≡ false → is_placed (said form parts) known.inside ≡ true
placed known forms.Profile parts e = ap not (first_outside known.inside known.started e).0
placed known forms.Shutdown parts e = ap not e
placed known forms.Budget parts e = ap not e
placed known forms.Class parts e = ap not e
placed known forms.Def parts e = ap not e
placed known forms.End parts e = ends_inside known.inside e
placed known form parts e = refl

-- a procedure is open after what a line says exactly if it is after its form
pub inside_said : (form : Form) (parts : List Part) (inside : Bool) → inside_behind (said form parts) inside ≡ inside_after inside form
inside_said forms.Def parts inside = refl
inside_said forms.End parts inside = refl
inside_said form parts inside = refl

-- what is known after a line, given its parts
module _ (known : Known) (form : Form) (words texts procs classes : List (List ℕ)) (budget shutdown started inside : Bool) where
  pub known_so : texts ≡ texts_from known.texts form 0 words → procs ≡ procs_after known.procs form words → classes ≡ classes_after known.classes form words → budget ≡ budget_after known.budget form
      → shutdown ≡ shutdown_after known.shutdown form → started ≡ true → inside ≡ inside_after known.inside form
      → record { texts = texts; procs = procs; classes = classes; budget = budget; shutdown = shutdown; started = started; inside = inside } ≡ known_after known form words
  known_so t p c b s n i = λ j. record { texts = t j; procs = p j; classes = c j; budget = b j; shutdown = s j; started = n j; inside = i j }
