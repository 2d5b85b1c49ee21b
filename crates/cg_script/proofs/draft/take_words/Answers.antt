use Rattle.std.proofs.Common.{ap, sym, subst, ◌∙◌, ◌∷◌, ◌≤◌, ◌&&◌, map, List, ℕ, is_some, false, Ok}
use Rattle.cg_script.specs.Parts.{has_unknown, names_defined}
use Rattle.cg_script.specs.Commands.{count_at, said}
use Rattle.cg_script.specs.Views.{known_of, grouped, inside_behind}
use Rattle.cg_script.proofs.LinesAdded.{inside_said, known_so}
use Rattle.cg_script.proofs.Profiles.{few_profiles}
use Rattle.cg_script.proofs.GoodWords.{formed_fits}
use Rattle.cg_script.proofs.ReadWords.{formed_says, fault_so}
use Rattle.cg_script.proofs.Unknowns.{unknown_where_asked}
use Rattle.cg_script.proofs.draft.take_words.Goals as goal

pub said_of-requires : goal.said_of-requires
said_of-requires c = λ is.
    let words : List (List ℕ) = map (λ w. w.now) c.args.words.now in
    let fits = formed_fits c.args.form words c.args.form words (sym (formed_says c.args.form words (sym c.in_default.is ∙ c.in_ok-code.ensures.fault))) in
    subst (λ parts. count_at parts 1 ≤ 2) (sym (c.as_slice-2.ensures.value ∙ c.in_ok-code.ensures.parts (ap Ok c.in_default.is)))
    (few_profiles _ _ _ c.args.form words fits.fit fits.enough is)

pub returns-clause-fault : goal.returns-clause-fault
returns-clause-fault c =
    let words : List (List ℕ) = map (λ w. w.now) c.args.words.now in
    fault_so (known_of c.args.draft.now) c.read_parts.new.names c.args.form words (sym c.in_default.is ∙ c.in_ok-code.ensures.fault) false false false
    (sym c.if-stands_wrong.false ∙ c.stands_wrong.ensures) (sym c.if-defines_again.false ∙ c.defines_again.ensures)
    (sym c.if-names_unknown.false ∙ c.names_unknown.ensures ∙ ap (λ parts. names_defined c.args.form && has_unknown parts) (c.as_slice.ensures.value
    ∙ c.in_ok-code.ensures.parts (ap Ok c.in_default.is))
    ∙ unknown_where_asked c.args.draft.now.procs c.args.draft.now.classes c.args.draft.now.names c.args.form words)

pub returns-clause-takes : goal.returns-clause-takes
returns-clause-takes c = λ e.
    let d = c.in_ok-define.ensures in
    let read = ap Ok c.in_default.is in
    let what = c.in-Ok.ensures ∙ ap (said c.args.form) (c.as_slice-2.ensures.value ∙ c.in_ok-code.ensures.parts read) in
    let inside = c.in_ok-push-in-Ok.ensures.inside ∙ (λ j. inside_behind (what j) (is_some (d.begun j))) ∙ inside_said c.args.form _ (is_some c.args.draft.now.begun) in
    record {
      known = known_so (known_of c.args.draft.now) c.args.form (map (λ w. w.now) c.args.words.now) _ _ _ _ _ _ _ (d.names ∙ c.in_ok-code.ensures.texts read)
          d.procs d.classes d.budget d.shutdown d.started inside;
      items = λ later. c.in_ok-push-in-Ok.ensures.grouped later ∙ (λ j. grouped (d.items j) (d.begun j) (what j ∷ later));
    }
