use Rattle.std.proofs.Common.{◌≡◌, Some, position, slice_get, get_or, subst, sym, ap, refl, ◌∙◌, true, String, Global}
use Rattle.std.specs.String.{string_bytes, string_eq_equiv}
use Rattle.std.specs.Str.{bytes_eq}
use Rattle.std.proofs.lemmas.List.Quantifiers.{position-Some}
use Rattle.std.proofs.lemmas.Option.{slice_get_read}
use Rattle.std.proofs.lemmas.Slice.Eq.{bytes_eq-Decides}
use Rattle.cg_value.proofs.Interned.{own_position, position_map}
use Rattle.cg_value.proofs.names.Names.is_number_of.Goals as goal

pub returns-in-Some : goal.returns-in-Some
returns-in-Some c =
    let keys = c.self.inside.texts.keys in
    let key = c.in-Some.there.now in
    let text = c.args.text.now in
    let test = λ (x : String Global). bytes_eq text (string_bytes x) in
    let look = c.in-Some.ensures.lookup in
    let places : position (bytes_eq text) c.args.self.now ≡ position test keys =
    sym (ap (position (bytes_eq text)) c.self.view_is) ∙ position_map (bytes_eq text) string_bytes keys in
    let at : slice_get keys c.args.number ≡ Some key =
    subst (λ ks. slice_get ks c.args.number ≡ Some key) c.as_slice.ensures.keys (slice_get_read c.as_slice.result.now _ c.args.number key refl look.3.0 look.1) in (
      λ equal.
          let is : string_bytes key ≡ text = sym c.as_str.ensures.value ∙ (bytes_eq-Decides c.as_str.result.now text).0 (sym c.eq.ensures ∙ equal) in
          let same = λ (x : String Global). ap (λ t. bytes_eq t (string_bytes x)) (sym is) in
          let passes : test key ≡ true = ap (λ t. bytes_eq t (string_bytes key)) (sym is) ∙ string_eq_equiv.refl key in
          places ∙ own_position string_eq_equiv test key passes same keys c.args.number c.as_slice.ensures.unique at,
      λ found.
          let stands : get_or keys c.args.number key ≡ key = sym (look.1 ∙ ap (λ ks. get_or ks c.args.number key) c.as_slice.ensures.keys) in
          let passes : test key ≡ true = sym (ap test stands) ∙ (position-Some test keys c.args.number key (sym places ∙ found)).1 in
          let is : text ≡ c.as_str.result.now = (bytes_eq-Decides text (string_bytes key)).0 passes ∙ sym c.as_str.ensures.value in
          c.eq.ensures ∙ ap (λ t. bytes_eq t text) (sym is) ∙ (bytes_eq-Decides text text).1 refl,
    )
