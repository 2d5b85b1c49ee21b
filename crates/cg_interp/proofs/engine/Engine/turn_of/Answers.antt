use Rattle.std.proofs.Common.{◌≡◌, refl, sym, ◌∙◌, ap, subst, [], Some, None}
use Rattle.cg_interp.specs.declared.activity.Activity.TheVariants as activity_of
use Rattle.cg_interp.specs.Engines.{under}
use Rattle.cg_interp.specs.Stacks.{death_in, asked_in}
use Rattle.cg_interp.specs.Telling.{TurnsAny, TurnsAnyBy}
use Rattle.cg_interp.proofs.TurnLemmas.{turns_any}
use Rattle.cg_interp.proofs.engine.Engine.turn_of.Goals as goal

pub returns-in-Script-clause-turns : goal.returns-in-Script-clause-turns
returns-in-Script-clause-turns g c =
    subst (λ top. TurnsAnyBy c.args.script.now c.go_on.new.waiting.items (under top c.args.self.now) c.go_on.new.self c.go_on.result) (sym c.in-Script.is)
    (turns_any c.go_on.new.waiting.items c.args.script.now (activity_of.Script c.in-Script.next) c.args.self.now c.go_on.new.self c.go_on.result refl c.go_on.ensures.turns)

pub returns-in-Frame-clause-turns : goal.returns-in-Frame-clause-turns
returns-in-Frame-clause-turns g c =
    subst (λ top. TurnsAnyBy c.args.script.now c.go_on_in.new.waiting.items (under top c.args.self.now) c.go_on_in.new.self c.go_on_in.result) (sym c.in-Frame.is)
    (turns_any c.go_on_in.new.waiting.items c.args.script.now (activity_of.Frame c.in-Frame.locals c.in-Frame.procedure c.in-Frame.next) c.args.self.now c.go_on_in.new.self c.go_on_in.result refl c.go_on_in.ensures.turns)

pub returns-in-Releasing-clause-turns : goal.returns-in-Releasing-clause-turns
returns-in-Releasing-clause-turns g c =
    subst (λ es. TurnsAnyBy c.args.script.now es (under c.args.top c.args.self.now) c.turn_of_release.new.self c.turn_of_release.result) (sym c.requires.empty)
    (subst (λ top. TurnsAny c.args.script.now (under top c.args.self.now) c.turn_of_release.new.self c.turn_of_release.result) (sym c.in-Releasing.is)
    (turns_any [] c.args.script.now (activity_of.Releasing c.in-Releasing.release) c.args.self.now c.turn_of_release.new.self c.turn_of_release.result refl
    (c.turn_of_release.ensures.turns c.args.script.now)))

pub returns-in-Shutdown-clause-turns : goal.returns-in-Shutdown-clause-turns
returns-in-Shutdown-clause-turns g c =
    subst (λ es. TurnsAnyBy c.args.script.now es (under c.args.top c.args.self.now) c.turn_of_shutdown.new.self c.turn_of_shutdown.result) (sym c.requires.empty)
    (subst (λ top. TurnsAny c.args.script.now (under top c.args.self.now) c.turn_of_shutdown.new.self c.turn_of_shutdown.result) (sym c.in-Shutdown.is)
    (turns_any [] c.args.script.now (activity_of.Shutdown c.in-Shutdown.started) c.args.self.now c.turn_of_shutdown.new.self c.turn_of_shutdown.result refl
    (c.turn_of_shutdown.ensures.turns c.args.script.now)))

pub unreachable-requires : goal.unreachable-requires
unreachable-requires g c = let clash : Some c.in-Dying.field-0 ≡ None = sym (ap death_in c.in-Dying.is) ∙ c.requires.no_death in cc

pub unreachable-requires-in-Collecting : goal.unreachable-requires-in-Collecting
unreachable-requires-in-Collecting g c = let clash : Some c.in-Collecting.asked ≡ None = sym (ap asked_in c.in-Collecting.is) ∙ c.requires.no_collection in cc
