use Rattle.std.proofs.Common.{sym, ap, subst, ◌∷◌}
use Rattle.cg_interp.specs.Engines.{under}
use Rattle.cg_interp.specs.Callers.{caller_activity, StaysKeptAfter}
use Rattle.cg_interp.proofs.CallerLemmas.{same_engine}
use Rattle.cg_interp.proofs.RoomStays.{fit_then, roomier_fit}
use Rattle.cg_interp.proofs.engine.Engine.run.Goals as goal

pub carry_out-requires-clause-stands : goal.carry_out-requires-clause-stands
carry_out-requires-clause-stands g c =
    let (script, spelled, fit, w, at) = c.requires.stands in
    let room = c.make_room-room.ensures.alone in (
      script,
      spelled,
      (roomier_fit c.args.self.now c.make_room-room.new.self room).fit script fit,
      w,
      record {
        stands = same_engine script (under (caller_activity c.args.caller.now) c.args.self.now) (under (caller_activity c.args.caller.now)
            c.make_room-room.new.self) w at.stands room.store room.policy (ap (λ l. caller_activity c.args.caller.now ∷ l) room.activities) room.budget;
        locals = at.locals;
        kept = subst (λ n. StaysKeptAfter script n w c.args.command.now) (sym room.first_budget) at.kept;
      },
    )

pub returns-clause-does : goal.returns-clause-does
returns-clause-does g c = λ script w at.
    let room = c.make_room-room.ensures.alone in
    c.carry_out.ensures.does script w (record {
      stands = same_engine script (under (caller_activity c.args.caller.now) c.args.self.now) (under (caller_activity c.args.caller.now)
          c.make_room-room.new.self) w at.stands room.store room.policy (ap (λ l. caller_activity c.args.caller.now ∷ l) room.activities) room.budget;
      locals = at.locals;
      kept = subst (λ n. StaysKeptAfter script n w c.args.command.now) (sym room.first_budget) at.kept;
    })

pub returns-clause-fit : goal.returns-clause-fit
returns-clause-fit g c = fit_then c.args.self.now c.make_room-room.new.self c.carry_out.new.self (roomier_fit c.args.self.now c.make_room-room.new.self
    c.make_room-room.ensures.alone) c.carry_out.ensures.fit
