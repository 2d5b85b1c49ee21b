-- The classes of lines, the positions of their procedures and commands, and their declarations: with one more line, and how a
-- lookup by number finds each.
use Rattle.std.proofs.Common.{◌≡◌, ◌||◌, refl, sym, ◌∙◌, ap, ℕ, zero, suc, List, [], ◌∷◌, ◌++◌, length, map, Option, Some, None}
use Rattle.std.specs.Prelude.{slice_get, option_map}
use Rattle.std.proofs.lemmas.Option.{slice_get-map}
use Rattle.std.proofs.lemmas.List.{map-append}
use Rattle.cg_script.specs.declared.index.Index.{Index}
use Rattle.cg_script.specs.declared.index.Declared.{Declared}
use Rattle.cg_script.specs.declared.item.Item.{Item}
use Rattle.cg_script.specs.declared.item.Item.TheVariants.{Profile, Shutdown, Budget, Class, Def, Run}
use Rattle.cg_script.specs.Items.{commands_of, procedures, classes, declared_profile, declared_budget, declares_shutdown, StandAt, IsIndexOf, AreDeclared}
use Rattle.std.specs.Option.{option_or}

-- What is computed line by line.
record IsByLines {A : Type 0} (read : List Item → List A) : Type 0 where
  append : (xs ys : List Item) → read (xs ++ ys) ≡ read xs ++ read ys

commands_by_lines : IsByLines commands_of
commands_by_lines = record { append = by }
  where
    by : (xs ys : List Item) → commands_of (xs ++ ys) ≡ commands_of xs ++ commands_of ys
    by [] ys = refl
    by (Profile n ∷ xs) ys = by xs ys
    by (Shutdown ∷ xs) ys = by xs ys
    by (Budget n ∷ xs) ys = by xs ys
    by (Class c ∷ xs) ys = by xs ys
    by (Def p ∷ xs) ys = by xs ys
    by (Run c ∷ xs) ys = ap (λ l. c ∷ l) (by xs ys)

procedures_by_lines : IsByLines procedures
procedures_by_lines = record { append = by }
  where
    by : (xs ys : List Item) → procedures (xs ++ ys) ≡ procedures xs ++ procedures ys
    by [] ys = refl
    by (Profile n ∷ xs) ys = by xs ys
    by (Shutdown ∷ xs) ys = by xs ys
    by (Budget n ∷ xs) ys = by xs ys
    by (Class c ∷ xs) ys = by xs ys
    by (Def p ∷ xs) ys = ap (λ l. p ∷ l) (by xs ys)
    by (Run c ∷ xs) ys = by xs ys

classes_by_lines : IsByLines classes
classes_by_lines = record { append = by }
  where
    by : (xs ys : List Item) → classes (xs ++ ys) ≡ classes xs ++ classes ys
    by [] ys = refl
    by (Profile n ∷ xs) ys = by xs ys
    by (Shutdown ∷ xs) ys = by xs ys
    by (Budget n ∷ xs) ys = by xs ys
    by (Class c ∷ xs) ys = ap (λ l. c ∷ l) (by xs ys)
    by (Def p ∷ xs) ys = by xs ys
    by (Run c ∷ xs) ys = by xs ys

-- what lines declare, then the ones after them
profile_append : (xs ys : List Item) → declared_profile (xs ++ ys) ≡ option_or (declared_profile xs) (declared_profile ys)
profile_append [] ys = refl
profile_append (Profile n ∷ xs) ys = refl
profile_append (Shutdown ∷ xs) ys = profile_append xs ys
profile_append (Budget n ∷ xs) ys = profile_append xs ys
profile_append (Class c ∷ xs) ys = profile_append xs ys
profile_append (Def p ∷ xs) ys = profile_append xs ys
profile_append (Run c ∷ xs) ys = profile_append xs ys

budget_append : (xs ys : List Item) → declared_budget (xs ++ ys) ≡ option_or (declared_budget xs) (declared_budget ys)
budget_append [] ys = refl
budget_append (Profile n ∷ xs) ys = budget_append xs ys
budget_append (Shutdown ∷ xs) ys = budget_append xs ys
budget_append (Budget n ∷ xs) ys = refl
budget_append (Class c ∷ xs) ys = budget_append xs ys
budget_append (Def p ∷ xs) ys = budget_append xs ys
budget_append (Run c ∷ xs) ys = budget_append xs ys

shutdown_append : (xs ys : List Item) → declares_shutdown (xs ++ ys) ≡ (declares_shutdown xs || declares_shutdown ys)
shutdown_append [] ys = refl
shutdown_append (Profile n ∷ xs) ys = shutdown_append xs ys
shutdown_append (Shutdown ∷ xs) ys = refl
shutdown_append (Budget n ∷ xs) ys = shutdown_append xs ys
shutdown_append (Class c ∷ xs) ys = shutdown_append xs ys
shutdown_append (Def p ∷ xs) ys = shutdown_append xs ys
shutdown_append (Run c ∷ xs) ys = shutdown_append xs ys

-- the position of a line, for each computed list
own_procedure : (items : List Item) (at : ℕ) (item : Item) → slice_get items at ≡ Some item
    → map (slice_get items) (map (λ p. at) (procedures (item ∷ []))) ≡ map (λ p. Some (Def p)) (procedures (item ∷ []))
own_procedure items at (Profile n) e = refl
own_procedure items at Shutdown e = refl
own_procedure items at (Budget n) e = refl
own_procedure items at (Class c) e = refl
own_procedure items at (Def p) e = ap (λ o. o ∷ []) e
own_procedure items at (Run c) e = refl

own_command : (items : List Item) (at : ℕ) (item : Item) → slice_get items at ≡ Some item
    → map (slice_get items) (map (λ p. at) (commands_of (item ∷ []))) ≡ map (λ c. Some (Run c)) (commands_of (item ∷ []))
own_command items at (Profile n) e = refl
own_command items at Shutdown e = refl
own_command items at (Budget n) e = refl
own_command items at (Class c) e = refl
own_command items at (Def p) e = refl
own_command items at (Run c) e = ap (λ o. o ∷ []) e

-- a list with one more member at its end
module _ {X : Type 0} where
  snoc_old : (xs : List X) (x : X) (i : ℕ) (y : X) → slice_get xs i ≡ Some y → slice_get (xs ++ x ∷ []) i ≡ Some y
  snoc_old [] x i y e = absurd (cc)
  snoc_old (z ∷ xs) x zero y e = e
  snoc_old (z ∷ xs) x (suc i) y e = snoc_old xs x i y e

  snoc_new : (xs : List X) (x : X) → slice_get (xs ++ x ∷ []) (length xs) ≡ Some x
  snoc_new [] x = refl
  snoc_new (z ∷ xs) x = snoc_new xs x

-- What has a position keeps it with one more line.
stand_longer : {A : Type 0} (line : A → Item) (items : List Item) (item : Item) (positions : List ℕ) (those : List A)
    → StandAt line items positions those → StandAt line (items ++ item ∷ []) positions those
stand_longer line items item [] [] stand = refl
stand_longer line items item [] (x ∷ xs) stand = absurd (cc)
stand_longer line items item (p ∷ ps) [] stand = absurd (cc)
stand_longer line items item (p ∷ ps) (x ∷ xs) stand =
    let first : slice_get items p ≡ Some (line x) = cc in
    let rest : map (slice_get items) ps ≡ map (λ y. Some (line y)) xs = cc in
    (λ j. snoc_old items item p (line x) first j ∷ stand_longer line items item ps xs rest j)

module _ (items : List Item) (item : Item) where
  -- one more line, with this result
  stand_more : {A : Type 0} (line : A → Item) (read : List Item → List A) → IsByLines read → (positions : List ℕ)
      → map (slice_get (items ++ item ∷ [])) (map (λ x. length items) (read (item ∷ []))) ≡ map (λ x. Some (line x)) (read (item ∷ []))
      → StandAt line items positions (read items) → StandAt line (items ++ item ∷ []) (positions ++ map (λ x. length items) (read (item ∷ []))) (read (items ++ item ∷ []))
  stand_more line read by positions own before =
      map-append (slice_get (items ++ item ∷ [])) positions (map (λ x. length items) (read (item ∷ [])))
      ∙ (λ j. stand_longer line items item positions (read items) before j ++ own j)
      ∙ sym (map-append (λ x. Some (line x)) (read items) (read (item ∷ [])))
      ∙ ap (map (λ x. Some (line x))) (sym (by.append items (item ∷ [])))

  -- the index with one more line
  pub index_more : (at : ℕ) (old new : Index) → at ≡ length items
      → new.classes.items ≡ old.classes.items ++ classes (item ∷ [])
      → new.procedures.items ≡ old.procedures.items ++ map (λ p. at) (procedures (item ∷ []))
      → new.commands.items ≡ old.commands.items ++ map (λ c. at) (commands_of (item ∷ []))
      → IsIndexOf items old → IsIndexOf (items ++ item ∷ []) new
  index_more at old new last ds ps cs before = record {
    classes = ds ∙ ap (λ l. l ++ classes (item ∷ [])) before.classes ∙ sym (classes_by_lines.append items (item ∷ []));
    procedures =
        ap (map (slice_get (items ++ item ∷ []))) (ps ∙ ap (λ n. old.procedures.items ++ map (λ p. n) (procedures (item ∷ []))) last)
        ∙ stand_more Def procedures procedures_by_lines old.procedures.items (own_procedure (items ++ item ∷ []) (length items) item (snoc_new items item)) before.procedures;
    commands =
        ap (map (slice_get (items ++ item ∷ []))) (cs ∙ ap (λ n. old.commands.items ++ map (λ c. n) (commands_of (item ∷ []))) last)
        ∙ stand_more Run commands_of commands_by_lines old.commands.items (own_command (items ++ item ∷ []) (length items) item (snoc_new items item)) before.commands;
  }

  -- the declarations, with one more line
  pub declared_more : (old new : Declared)
      → new.profile ≡ option_or old.profile (declared_profile (item ∷ []))
      → new.budget ≡ option_or old.budget (declared_budget (item ∷ []))
      → new.shutdown ≡ (old.shutdown || declares_shutdown (item ∷ []))
      → AreDeclared items old → AreDeclared (items ++ item ∷ []) new
  declared_more old new profile budget shutdown before = record {
    profile = profile ∙ ap (λ p. option_or p (declared_profile (item ∷ []))) before.profile ∙ sym (profile_append items (item ∷ []));
    budget = budget ∙ ap (λ b. option_or b (declared_budget (item ∷ []))) before.budget ∙ sym (budget_append items (item ∷ []));
    shutdown = shutdown ∙ ap (λ b. b || declares_shutdown (item ∷ [])) before.shutdown ∙ sym (shutdown_append items (item ∷ []));
  }

-- What one list has at a number, the other has too.
some_of : {A B C : Type 0} (f : A → C) (g : B → C) (x : Option A) (y : Option B) (a : A) → x ≡ Some a → option_map f x ≡ option_map g y → (b : B) × (y ≡ Some b) × (f a ≡ g b)
some_of f g None y a is e = absurd (cc)
some_of f g (Some x) None a is e = absurd (cc)
some_of f g (Some x) (Some y) a is e = (y, refl, (let s : x ≡ a = cc in let t : f x ≡ g y = cc in ap f (sym s) ∙ t))

none_of : {A B C : Type 0} (f : A → C) (g : B → C) (x : Option A) (y : Option B) → x ≡ None → option_map f x ≡ option_map g y → y ≡ None
none_of f g None None is e = refl
none_of f g None (Some y) is e = absurd (cc)
none_of f g (Some x) y is e = absurd (cc)

pub at_number : {A : Type 0} (line : A → Item) (items : List Item) (positions : List ℕ) (those : List A) (n at : ℕ) → StandAt line items positions those → slice_get positions n ≡ Some at
    → (x : A) × (slice_get those n ≡ Some x) × (slice_get items at ≡ Some (line x))
at_number line items positions those n at stand is =
    some_of (slice_get items) (λ x. Some (line x)) (slice_get positions n) (slice_get those n) at is
    (sym (slice_get-map (slice_get items) positions n) ∙ ap (λ l. slice_get l n) stand ∙ slice_get-map (λ x. Some (line x)) those n)

pub past_numbers : {A : Type 0} (line : A → Item) (items : List Item) (positions : List ℕ) (those : List A) (n : ℕ) → StandAt line items positions those
    → slice_get positions n ≡ None → slice_get those n ≡ None
past_numbers line items positions those n stand is =
    none_of (slice_get items) (λ x. Some (line x)) (slice_get positions n) (slice_get those n) is
    (sym (slice_get-map (slice_get items) positions n) ∙ ap (λ l. slice_get l n) stand ∙ slice_get-map (λ x. Some (line x)) those n)
