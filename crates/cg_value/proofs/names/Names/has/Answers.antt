use Rattle.std.proofs.Common.{◌≡◌, subst, sym, ◌∙◌}
use Rattle.std.specs.String.{string_bytes}
use Rattle.std.specs.Str.{bytes_eq}
use Rattle.cg_value.specs.Texts.{has_text}
use Rattle.cg_value.proofs.Interned.{any_map}
use Rattle.cg_value.proofs.names.Names.has.Goals as goal

pub returns : goal.returns
returns c = subst (λ ts. c.contains.result ≡ has_text ts c.args.text.now) c.self.view_is
    (c.contains.ensures ∙ sym (any_map (bytes_eq c.args.text.now) string_bytes c.self.inside.texts.keys))
