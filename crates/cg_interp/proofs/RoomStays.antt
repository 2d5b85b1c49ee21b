-- A turn keeps the engine within its room.
use Rattle.std.proofs.Common.{◌≡◌, refl, ◌∙◌, ap, subst, ◌+◌, ◌≤◌, ◌∷◌, length, arith}
use Rattle.cg_graph.specs.Store.{Store, objects_of}
use Rattle.cg_script.specs.declared.Script.{Script}
use Rattle.cg_death.specs.Answers.{MakesNone}
use Rattle.cg_interp.specs.declared.activity.Activity.{Activity}
use Rattle.cg_interp.specs.Engines.{State, over, under}
use Rattle.cg_interp.specs.Turns.{TurnKeeps, IsFit, StaysFit, HasMoreRoom}

pub keeps_then : (old mid new : State) → TurnKeeps old mid → TurnKeeps mid new → TurnKeeps old new
keeps_then old mid new first next = record {
  objects = omega (arith, first.objects, next.objects);
  room = omega (arith, first.room, next.room);
  names = next.names ∙ first.names;
  first_budget = next.first_budget ∙ first.first_budget;
}

-- another heap without a new object
pub keeps_over : (old : State) (store : Store) → MakesNone old.store store → TurnKeeps old (over store old)
keeps_over old store none = record { objects = none.objects; room = omega arith; names = ap length none.names; first_budget = refl }

-- so the engine stays fit
pub still_fit : (old new : State) → TurnKeeps old new → StaysFit old new
still_fit old new keeps = record {
  fit = λ script fit. record {
    names = keeps.names ∙ fit.names;
    first_budget = omega (arith, keeps.first_budget, fit.first_budget);
    room = omega (arith, keeps.first_budget, keeps.objects, keeps.room, fit.room);
  };
  first_budget = keeps.first_budget;
}

-- as if nothing was done yet
pub fit_here : (e : State) → StaysFit e e
fit_here e = record { fit = λ script fit. fit; first_budget = refl }

pub fit_then : (old mid new : State) → StaysFit old mid → StaysFit mid new → StaysFit old new
fit_then old mid new first next = record { fit = λ script fit. next.fit script (first.fit script fit); first_budget = next.first_budget ∙ first.first_budget }

-- with more room
pub roomier_fit : (old new : State) → HasMoreRoom old new → StaysFit old new
roomier_fit old new more = record {
  fit = λ script fit. record {
    names = ap (λ st. length st.names) more.store ∙ fit.names;
    first_budget = omega (arith, more.first_budget, fit.first_budget);
    room = omega (arith, fit.room, more.first_budget, more.more, ap (λ st. length (objects_of st)) more.store, ap length more.activities);
  };
  first_budget = more.first_budget;
}

-- without its top, whose room is free again
pub popped_fit : (inside old new : State) (top : Activity) → inside ≡ old → new.store ≡ inside.store → inside.activities ≡ top ∷ new.activities → new.room
    ≡ inside.room + 1 → new.first_budget ≡ inside.first_budget → StaysFit old new
popped_fit inside old new top same store is room first_budget = subst (λ e. StaysFit e new) same (still_fit inside new (record {
  objects = omega (arith, ap (λ st. length (objects_of st)) store);
  room = let longer : length inside.activities ≡ length (top ∷ new.activities) = ap length is in omega (arith, longer, room);
  names = ap (λ st. length st.names) store;
  first_budget = first_budget;
}))

-- counting its top too
pub under_fit : (script : Script) (top : Activity) (e : State) → IsFit script e → IsFit script (under top e)
under_fit script top e fit = record { names = fit.names; first_budget = fit.first_budget; room = omega (arith, fit.room) }

-- another heap without a new object, and one activity on top, if there is room
pub keeps_pushed : (inside old new : State) (top : Activity) → inside ≡ old → MakesNone inside.store new.store → new.activities ≡ top ∷ inside.activities
    → inside.room ≤ new.room + 1 → new.first_budget ≡ inside.first_budget → TurnKeeps old new
keeps_pushed inside old new top same none is room first_budget = subst (λ e. TurnKeeps e new) same (record {
  objects = none.objects;
  room = let longer : length new.activities ≡ length (top ∷ inside.activities) = ap length is in omega (arith, longer, room);
  names = ap length none.names;
  first_budget = first_budget;
})
