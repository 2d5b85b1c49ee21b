use Rattle.std.proofs.Common.{◌≡◌, true, false, subst, sym, ◌∙◌, Some, None, position}
use Rattle.std.specs.String.{string_bytes}
use Rattle.std.specs.Str.{bytes_eq}
use Rattle.cg_value.specs.Texts.{has_text}
use Rattle.cg_value.proofs.Interned.{any_map, position_map}
use Rattle.cg_value.proofs.names.Names.find_by_hash.Goals as goal

pub returns-in-Some-clause-index : goal.returns-in-Some-clause-index
returns-in-Some-clause-index c = subst (λ ts. Some c.in-Some.number ≡ position (bytes_eq c.args.text.now) ts) c.self.view_is
    (c.in-Some.ensures.index ∙ sym (position_map (bytes_eq c.args.text.now) string_bytes c.self.inside.texts.keys))

pub returns-in-None-clause-index : goal.returns-in-None-clause-index
returns-in-None-clause-index c = subst (λ ts. None ≡ position (bytes_eq c.args.text.now) ts) c.self.view_is
    (c.in-None.ensures.index ∙ sym (position_map (bytes_eq c.args.text.now) string_bytes c.self.inside.texts.keys))

pub returns-in-Some-clause-found : goal.returns-in-Some-clause-found
returns-in-Some-clause-found c = subst (λ ts. true ≡ has_text ts c.args.text.now) c.self.view_is
    (c.in-Some.ensures.found ∙ sym (any_map (bytes_eq c.args.text.now) string_bytes c.self.inside.texts.keys))

pub returns-in-None-clause-found : goal.returns-in-None-clause-found
returns-in-None-clause-found c = subst (λ ts. false ≡ has_text ts c.args.text.now) c.self.view_is
    (c.in-None.ensures.found ∙ sym (any_map (bytes_eq c.args.text.now) string_bytes c.self.inside.texts.keys))
