use Rattle.std.proofs.Common.{◌≡◌, subst, sym, ap, refl, map, ◌∙◌, ◌++◌, ◌∷◌, [], cond, length}
use Rattle.std.specs.String.{string_bytes, string_eq}
use Rattle.std.specs.Str.{bytes_eq}
use Rattle.std.proofs.lemmas.List.{length-map}
use Rattle.cg_value.specs.Texts.{has_text, text_number, with_text}
use Rattle.cg_value.proofs.Interned.{found_place, any_map, fresh}
use Rattle.cg_value.proofs.names.Names.intern_by_hash.Goals as goal

pub returns-in-Some-clause-number : goal.returns-in-Some-clause-number
returns-in-Some-clause-number c = found_place _ _ c.in-Some.number c.in-Some.ensures.index

pub returns-in-Some-clause-ok : goal.returns-in-Some-clause-ok
returns-in-Some-clause-ok c = ap (λ b. cond b c.args.self.now (c.args.self.now ++ c.args.text.now ∷ [])) c.in-Some.ensures.found

-- what inserting a new text does
inserted : (c : goal.In_ok-insert) → (length c.self.inside.texts.keys ≡ text_number (map string_bytes c.self.inside.texts.keys) c.args.text.now)
    × (map string_bytes c.insert.new.self.keys ≡ with_text (map string_bytes c.self.inside.texts.keys) c.args.text.now)
inserted c =
    let absent =
    c.in_default.ensures.found ∙ ap (λ ts. has_text ts c.args.text.now) (sym c.self.view_is)
    ∙ any_map (bytes_eq c.args.text.now) string_bytes c.self.inside.texts.keys in
    fresh string_bytes c.self.inside.texts.keys c.args.text.now string_eq c.in_ok-from_str.field-0 c.insert.new.self.keys
    c.in_ok-from_str.ensures.ok (λ k. refl) absent c.in_ok-insert.ensures.keys

pub returns-clause-number : goal.returns-clause-number
returns-clause-number c =
    c.len-number.ensures ∙ ap length (sym c.self.view_is) ∙ length-map c.self.inside.texts.keys string_bytes
    ∙ (inserted c).0 ∙ ap (λ ts. text_number ts c.args.text.now) c.self.view_is

pub returns-clause-ok : goal.returns-clause-ok
returns-clause-ok c = subst (λ ts. map string_bytes c.insert.new.self.keys ≡ with_text ts c.args.text.now) c.self.view_is (inserted c).1
