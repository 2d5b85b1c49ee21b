-- The lines of a `wget` and of a `wset`, read by tables.
use Rattle.std.proofs.Common.{◌≡◌, ℕ, List, [], ◌∷◌, Bool, false, refl, ap, cond, not, length, ◌==◌, codes}
use Rattle.std.specs.Prelude.{slice_index, Option}
use Rattle.std.specs.Str.{bytes_eq}
use Rattle.cg_value.specs.Texts.{text_number}
use Rattle.cg_script.specs.declared.command.Operand.TheVariants as operands
use Rattle.cg_script.specs.declared.command.Command.TheVariants as commands
use Rattle.cg_script.specs.declared.form.Form.{Form}
use Rattle.cg_script.specs.declared.form.Form.TheVariants as forms
use Rattle.cg_script.specs.declared.form.Sort.TheVariants.{Value, Variable}
use Rattle.cg_script.specs.declared.part.Said.TheVariants.{Does}
use Rattle.cg_script.specs.Words.{atoms}
use Rattle.cg_script.specs.Tables.{named}
use Rattle.cg_script.specs.Forms.{bindings, openers}
use Rattle.cg_script.specs.Meanings.{Meaning, is_passed, bad, binding_form, fits, formed, formed_if, worded}
use Rattle.cg_script.specs.Parts.{operand_or}
use Rattle.cg_script.proofs.GoodLines.{never_sign}
use Rattle.cg_script.proofs.PrintedParts.{text_found}
use Rattle.cg_weakcoll.specs.Maps.{wget_commands, wset_commands}
use Rattle.cg_weakcoll.specs.MapLines.{HasLines, LookLinesAreCommands, StoreLinesAreCommands}
use Rattle.cg_weakcoll.proofs.LookLines.{name_of_variable, name_stands, no_comment, stands_for}
use Rattle.cg_weakcoll.proofs.ReadTables.{Row, middle}

-- `=` is neither a value nor a variable
no_value : fits Value (codes "=") ≡ false
unfolding atoms
no_value = refl

no_variable : fits Variable (codes "=") ≡ false
no_variable = refl

-- the meaning of a line, by whether its second word is `=`
abbrev by_sign : List (List ℕ) → Option Form → Bool → Meaning
by_sign words found b = cond (not b) (formed_if found words) (cond (length words == 2) (bad 3) (formed (binding_form words) words))

put_worded : (map key t : List ℕ) → bytes_eq map (codes "=") ≡ false → worded (codes "put" ∷ map ∷ key ∷ t ∷ []) ≡ formed forms.Put (codes "put" ∷ map ∷ key ∷ t ∷ [])
unfolding openers
put_worded map key t e = ap (by_sign (codes "put" ∷ map ∷ key ∷ t ∷ []) (named openers (codes "put"))) e

del_worded : (t : List ℕ) → bytes_eq t (codes "=") ≡ false → worded (codes "del" ∷ t ∷ []) ≡ formed forms.Del (codes "del" ∷ t ∷ [])
unfolding openers
del_worded t e = ap (by_sign (codes "del" ∷ t ∷ []) (named openers (codes "del"))) e

-- three lines as rows
abbrev rows_of : {bytes : List ℕ} {first second third : List (List ℕ)} → HasLines bytes first second third → Form → Form → Form → List Row
rows_of {bytes} {first} {second} {third} h f g k = record { line = h.one; form = f; words = first } ∷ record { line = h.two; form = g; words = second }
    ∷ record { line = h.three; form = k; words = third } ∷ []

pub look_lines : LookLinesAreCommands
unfolding atoms bindings
look_lines bytes texts items e x map key variable h =
    let name = name_of_variable x variable in
    let other : is_passed (x ∷ []) ≡ false = no_comment (slice_index x 0) name.letter in
    let m = middle bytes texts items e h.front (rows_of h forms.Bind forms.Get forms.Deref) h.back h.all (
      (h.first_is, (other, refl)),
      ((h.second_is, (other, refl)), ((h.third_is, (other, refl)), tt)),
    ) in
    let number = text_number texts x in
    let dict = operand_or (named atoms map) texts map in
    let at = operand_or (named atoms key) texts key in
    record {
      name = number;
      dict = dict;
      at = at;
      name_is = text_found texts texts x m.found.0.0;
      dict_is = stands_for texts texts map (named atoms map) refl m.fit.1.0.1.1.1.0 m.found.1.0.1.1.1.0;
      at_is = stands_for texts texts key (named atoms key) refl m.fit.1.0.1.1.1.1.0 m.found.1.0.1.1.1.1.0;
      together = m.together (wget_commands number dict at) (ap (λ v. Does (commands.Bind number operands.None) ∷ Does (commands.Get number dict at)
          ∷ Does (commands.Deref number v) ∷ []) (name_stands texts x name));
    }

pub store_lines : StoreLinesAreCommands
unfolding bindings
store_lines bytes texts items e t map key v variable map_value h =
    let name = name_of_variable t variable in
    let other : is_passed (t ∷ []) ≡ false = no_comment (slice_index t 0) name.letter in
    let put = put_worded map key t (never_sign Value map no_value map_value) in
    let del = del_worded t (never_sign Variable t no_variable variable) in
    let m = middle bytes texts items e h.front (rows_of h forms.MakeRef forms.Put forms.Del) h.back h.all (
      (h.first_is, (other, refl)),
      ((h.second_is, (refl, put)), ((h.third_is, (refl, del)), tt)),
    ) in
    let number = text_number texts t in
    let dict = operand_or (named atoms map) texts map in
    let at = operand_or (named atoms key) texts key in
    let value = operand_or (named atoms v) texts v in
    record {
      name = number;
      dict = dict;
      at = at;
      value = value;
      name_is = text_found texts texts t m.found.0.0;
      dict_is = stands_for texts texts map (named atoms map) refl m.fit.1.0.1.0 m.found.1.0.1.0;
      at_is = stands_for texts texts key (named atoms key) refl m.fit.1.0.1.1.0 m.found.1.0.1.1.0;
      value_is = stands_for texts texts v (named atoms v) refl m.fit.0.1.1.1.0 m.found.0.1.1.1.0;
      together = m.together (wset_commands number dict at value) (ap (λ o. Does (commands.MakeRef number value operands.None) ∷ Does (commands.Put dict at o)
          ∷ Does (commands.Del number) ∷ []) (name_stands texts t name));
    }
