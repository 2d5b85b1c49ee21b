use Rattle.std.proofs.Common.{refl, sym, ◌∙◌, ap, subst, []}
use Rattle.cg_laws.specs.Kept.{StaysKept}
use Rattle.cg_interp.specs.Engines.{State, under}
use Rattle.cg_interp.specs.Stacks.{death_on, asked_on}
use Rattle.cg_interp.specs.Collecting.{StandsWith}
use Rattle.cg_interp.specs.Telling.{Advances, TurnsAfter}
use Rattle.cg_interp.proofs.CollectMoves.{engine_of}
use Rattle.cg_interp.proofs.RoomStays.{fit_then, popped_fit, under_fit}
use Rattle.cg_interp.proofs.TurnLemmas.{stands_alike, something_on_top}
use Rattle.cg_interp.proofs.engine.Engine.turn_of_another.Goals as goal

pub turn_of-requires-clause-no_death : goal.turn_of-requires-clause-no_death
turn_of-requires-clause-no_death g c =
    sym (ap death_on (ap (λ (e : State). e.activities) (sym c.self.view_is) ∙ c.in-Some.ensures.top)) ∙ c.requires.no_death

pub turn_of-requires-clause-no_collection : goal.turn_of-requires-clause-no_collection
turn_of-requires-clause-no_collection g c =
    sym (ap asked_on (ap (λ (e : State). e.activities) (sym c.self.view_is) ∙ c.in-Some.ensures.top)) ∙ c.requires.no_collection

pub turn_of-requires-clause-fit : goal.turn_of-requires-clause-fit
turn_of-requires-clause-fit g c =
    let inside : State = engine_of c.self.inside.heap c.self.inside.policy c.self.inside.stack c.self.inside.budget c.self.inside.first_budget in
    let popped : State = engine_of c.self.inside.heap c.self.inside.policy c.pop.new.self c.self.inside.budget c.self.inside.first_budget in
    (popped_fit inside c.args.self.now popped c.in-Some.top c.self.view_is refl c.in-Some.ensures.top c.in-Some.ensures.room refl).fit c.args.script.now c.requires.stands.fit

pub turn_of-requires-clause-stands : goal.turn_of-requires-clause-stands
turn_of-requires-clause-stands g c =
    let at = c.requires.stands in
    let popped : State = record c.args.self.now { activities = c.pop.new.self.activities; room = c.pop.new.self.room } in
    let top_is = ap (λ (e : State). e.activities) (sym c.self.view_is) ∙ c.in-Some.ensures.top in
    record {
      spelled = at.spelled;
      fit = under_fit c.args.script.now c.in-Some.top _ (turn_of-requires-clause-fit g c);
      world = at.world;
      left = at.left;
      stands = subst (λ (e : State). StandsWith c.args.script.now
          (under c.in-Some.top (record e { activities = c.pop.new.self.activities; room = c.pop.new.self.room })) at.left at.world) (sym c.self.view_is)
          (stands_alike c.args.script.now c.args.self.now (under c.in-Some.top popped) at.left at.world refl refl (sym top_is) refl at.stands);
      kept = subst (λ (e : State). StaysKept c.args.script.now e.first_budget at.world) (sym c.self.view_is) at.kept;
    }

pub unreachable-requires : goal.unreachable-requires
unreachable-requires g c =
    let at = c.requires.stands in
    something_on_top c.args.script.now c.args.self.now at.left at.world c.args.self.now.first_budget at.stands (at.kept [] tt).lawful
    (ap (λ (e : State). e.activities) (sym c.self.view_is) ∙ c.in-None.ensures.none)

pub returns-clause-turns : goal.returns-clause-turns
returns-clause-turns g c = λ w left stands kept.
    let popped : State = record c.args.self.now { activities = c.pop.new.self.activities; room = c.pop.new.self.room } in
    let top_is = ap (λ (e : State). e.activities) (sym c.self.view_is) ∙ c.in-Some.ensures.top in
    subst (λ activities. TurnsAfter c.args.script.now (Advances (record c.args.self.now { activities = activities }) left c.turn_of.new.self) w left c.turn_of.new.self c.turn_of.new.waiting.items c.turn_of.result) (sym top_is)
    (subst (λ (e : State). TurnsAfter c.args.script.now
    (Advances (under c.in-Some.top (record e { activities = c.pop.new.self.activities; room = c.pop.new.self.room })) left c.turn_of.new.self) w left
    c.turn_of.new.self c.turn_of.new.waiting.items c.turn_of.result) c.self.view_is
    (c.turn_of.ensures.turns w left
    (subst (λ (e : State). StandsWith c.args.script.now (under c.in-Some.top (record e { activities = c.pop.new.self.activities; room = c.pop.new.self.room })) left w) (sym c.self.view_is)
    (stands_alike c.args.script.now c.args.self.now (under c.in-Some.top popped) left w refl refl (sym top_is) refl stands))
    (subst (λ (e : State). StaysKept c.args.script.now e.first_budget w) (sym c.self.view_is) kept)))

pub returns-clause-fit : goal.returns-clause-fit
returns-clause-fit g c =
    let inside : State = engine_of c.self.inside.heap c.self.inside.policy c.self.inside.stack c.self.inside.budget c.self.inside.first_budget in
    let popped : State = engine_of c.self.inside.heap c.self.inside.policy c.pop.new.self c.self.inside.budget c.self.inside.first_budget in
    fit_then c.args.self.now popped c.turn_of.new.self (popped_fit inside c.args.self.now popped c.in-Some.top c.self.view_is refl c.in-Some.ensures.top
    c.in-Some.ensures.room refl) c.turn_of.ensures.fit
