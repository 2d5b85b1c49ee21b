use Rattle.std.proofs.Common.{◌≡◌, true, sym, ap, subst, ◌∙◌}
use Rattle.std.proofs.lemmas.Option.{slice_get_within}
use Rattle.std.proofs.lemmas.Slice.Eq.{bytes_eq-Decides}
use Rattle.cg_value.specs.Texts.{text_number, with_text}
use Rattle.cg_script.specs.Words.{is_variable}
use Rattle.cg_script.specs.Lexicons.{IsVariableAt}
use Rattle.cg_script.proofs.Lexicons.{remembered_at, same_text}
use Rattle.cg_script.proofs.lexicon.Lexicon.remembered.Goals as goal

at : (c : goal.In_ok-number) → IsVariableAt c.self.inside.names c.in_ok-number.number
at c = remembered_at c.self.inside.names c.self.inside.variables c.place_of.result c.in_ok-number.number c.self.invariant c.in_ok-number.was

pub text-requires : goal.text-requires
text-requires c = let a = at c in slice_get_within c.self.inside.names c.in_ok-number.number a.text a.stands

-- the word is the text with that number
facts : (c : goal.Then-eq) → (is_variable c.args.word.now ≡ true) × (c.in_ok-number.number ≡ text_number c.self.inside.names c.args.word.now)
    × (c.self.inside.names ≡ with_text c.self.inside.names c.args.word.now)
facts c =
    let known = remembered_at c.self.inside.names c.self.inside.variables c.place_of.result c.in_ok-number.number c.self.invariant c.in_ok-number.was in
    let same = sym c.as_bytes.ensures.value ∙ (bytes_eq-Decides c.as_bytes.result.now c.args.word.now).0 (sym c.eq.ensures ∙ c.if-eq.true) in
    same_text c.self.inside.names c.in_ok-number.number c.args.word.now c.text.result.now known c.text.ensures same

pub returns-then-eq-clause-variable : goal.returns-then-eq-clause-variable
returns-then-eq-clause-variable c = (facts c).0

pub returns-then-eq-clause-number : goal.returns-then-eq-clause-number
returns-then-eq-clause-number c = (facts c).1 ∙ ap (λ ts. text_number ts c.args.word.now) c.self.view_is

pub returns-then-eq-clause-texts : goal.returns-then-eq-clause-texts
returns-then-eq-clause-texts c = subst (λ ts. ts ≡ with_text ts c.args.word.now) c.self.view_is (facts c).2
