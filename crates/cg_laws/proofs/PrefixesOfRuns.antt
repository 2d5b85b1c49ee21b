-- The text of a run, even of an unfinished step, is a prefix of the text of a whole run.
use Rattle.std.proofs.Common.{◌≡◌, sym, ◌∙◌, ap, ℕ, inl, inr, List, [], ◌∷◌, ◌++◌, append_assoc, refl}
use Rattle.std.specs.Prelude.{flat_map}
use Rattle.std.proofs.lemmas.Grind.{flat_map-append}
use Rattle.cg_script.specs.declared.Script.{Script}
use Rattle.cg_machine.specs.declared.event.Event.{Event}
use Rattle.cg_machine.specs.World.{opening}
use Rattle.cg_machine.specs.Run.{StepTaken, IsRun, events_of}
use Rattle.cg_machine.specs.Lines.{line}
use Rattle.cg_laws.specs.Laws.{BeginsWholeText, FrontsBeginWholeTexts}
use Rattle.cg_laws.proofs.Ending.{Run-append, not_stuck}

pub events_of-append : (steps more : List StepTaken) → events_of (steps ++ more) ≡ events_of steps ++ events_of more
events_of-append [] more = refl
events_of-append (step ∷ steps) more = ap (λ es. step.events ++ es) (events_of-append steps more) ∙ sym (append_assoc step.events (events_of steps) (events_of more))

-- a whole run goes on from a run
whole_from : (script : Script) (budget : ℕ) (steps : List StepTaken) (printed others : List Event) → IsRun script budget steps → events_of steps ≡ printed
    ++ others → BeginsWholeText script budget printed
whole_from script budget steps printed others run e =
    let whole = not_stuck script budget steps run in record {
      steps = steps ++ whole.0;
      outcome = whole.1;
      run = whole.2;
      rest = flat_map (line script.names) (others ++ events_of whole.0);
      text = ap (flat_map (line script.names)) (events_of-append steps whole.0 ∙ ap (λ es. es ++ events_of whole.0) e ∙ append_assoc printed others
          (events_of whole.0)) ∙ flat_map-append (line script.names) printed (others ++ events_of whole.0);
    }

append_none : (es : List Event) → es ≡ es ++ []
append_none [] = refl
append_none (e ∷ es) = ap (λ k. e ∷ k) (append_none es)

pub fronts : FrontsBeginWholeTexts
fronts script budget steps run printed (inl e) = whole_from script budget steps (events_of steps ++ printed) [] run (append_none (events_of steps)
    ∙ ap (λ k. events_of steps ++ k) (sym e) ∙ append_none (events_of steps ++ printed))
fronts script budget steps run printed (inr u) =
    let step : StepTaken = record { events = printed ++ u.rest; world = u.after } in
    whole_from script budget (steps ++ step ∷ []) (events_of steps ++ printed) u.rest (Run-append script (opening script budget) steps (step ∷ []) run (u.step, tt))
    (events_of-append steps (step ∷ []) ∙ ap (λ k. events_of steps ++ k) (sym (append_none (printed ++ u.rest))) ∙ sym (append_assoc (events_of steps) printed u.rest))
