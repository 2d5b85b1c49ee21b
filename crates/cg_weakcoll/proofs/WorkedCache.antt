-- The worked script with a weak value map, by computation: the plain executor takes its steps.
use Rattle.std.proofs.Common.{◌≡◌, ℕ, zero, suc, List, [], ◌∷◌, refl, inl, inr}
use Rattle.cg_value.specs.declared.Val.TheVariants.{None as Nothing, Int, Ref}
use Rattle.std.specs.Prelude.{pos}
use Rattle.std.specs.Fmt.{digits}
use Rattle.cg_script.specs.declared.Operand.TheVariants.{Int as IntWord, Name}
use Rattle.cg_script.specs.Words.{atoms}
use Rattle.cg_script.specs.Forms.{bindings, openers}
use Rattle.cg_script.specs.Meanings.{meaning}
use Rattle.cg_script.specs.Reading.{meant, reading, spells}
use Rattle.cg_value.specs.declared.KindCode.TheVariants.{Weak}
use Rattle.cg_graph.specs.Member.{Includes}
use Rattle.cg_machine.specs.declared.event.Event.TheVariants.{Made, Refused}
use Rattle.cg_machine.specs.World.{World, opening}
use Rattle.cg_machine.specs.Run.{StepTaken, world_after}
use Rattle.cg_machine.specs.Refusals.{◌>>=◌}
use Rattle.cg_laws.proofs.Deterministic.{first_steps_run, next}
use Rattle.cg_weakcoll.specs.Expansion.{expansion}
use Rattle.cg_weakcoll.specs.Maps.{Look, MapStore, Stores}
use Rattle.cg_weakcoll.specs.Worked.{HasLookWith, a_cache, its_script}

-- the steps from a position on, and one of them
abbrev start : World
start = opening its_script 100

abbrev world_at : ℕ → World → World
world_at zero w = w
world_at (suc n) w = world_at n (next its_script w).world

abbrev some_steps : ℕ → World → List StepTaken
some_steps zero w = []
some_steps (suc n) w = next its_script w ∷ some_steps n (next its_script w).world

abbrev step_at : ℕ → StepTaken
step_at n = next its_script (world_at n start)

abbrev steps_at : ℕ → ℕ → List StepTaken
steps_at n count = some_steps count (world_at n start)

pub spelled : reading (expansion a_cache) ≡ spells its_script.names its_script.items
unfolding digits expansion atoms openers bindings meaning meant
spelled = refl

abbrev the_store : MapStore
the_store = record { first = step_at 4; early = steps_at 5 1; second = step_at 6 }

abbrev first_look : Look
first_look = record { first = step_at 11; early = steps_at 12 1; second = step_at 13; late = steps_at 14 1; third = step_at 15 }

accepted_made : (n : ℕ) → Includes (Made Weak 4 ∷ []) (Refused n) → ⊥
accepted_made n (inl e) = cc
accepted_made n (inr m) = m

stored : Stores (world_after its_script 100 (steps_at 0 4)) 3 (Name 1) (IntWord (pos 1)) (Name 2) the_store 4 3
unfolding ◌>>=◌
stored = record {
  rest = _;
  below = [];
  makes = record { top = _; stack = refl; commands = refl; not_due = refl; accepted = λ n m. accepted_made n m };
  target_is = refl;
  line = refl;
  puts = record { top = _; stack = refl; commands = refl; not_due = refl; accepted = λ n m. m };
  put_is = refl;
}

pub alive : HasLookWith (Ref 3)
unfolding ◌>>=◌
alive = record {
  before = steps_at 0 4;
  store = the_store;
  between = steps_at 7 4;
  look = first_look;
  run = first_steps_run its_script 16 start tt;
  stores = stored;
  looks = record {
    rest = _;
    below = [];
    binds = record { top = _; stack = refl; commands = refl; not_due = refl; accepted = λ n m. m };
    gets = record { top = _; stack = refl; commands = refl; not_due = refl; accepted = λ n m. m };
    derefs = record { top = _; stack = refl; commands = refl; not_due = refl; accepted = λ n m. m };
    no_frame = refl;
  };
  under = record { dict = 2; at = Int (pos 1); map_is = refl; key_is = refl; entry = refl };
  answers = refl;
}

abbrev second_look : Look
second_look = record { first = step_at 33; early = steps_at 34 1; second = step_at 35; late = steps_at 36 1; third = step_at 37 }

pub gone : HasLookWith Nothing
unfolding ◌>>=◌
gone = record {
  before = steps_at 0 4;
  store = the_store;
  between = steps_at 7 26;
  look = second_look;
  run = first_steps_run its_script 38 start tt;
  stores = stored;
  looks = record {
    rest = _;
    below = [];
    binds = record { top = _; stack = refl; commands = refl; not_due = refl; accepted = λ n m. m };
    gets = record { top = _; stack = refl; commands = refl; not_due = refl; accepted = λ n m. m };
    derefs = record { top = _; stack = refl; commands = refl; not_due = refl; accepted = λ n m. m };
    no_frame = refl;
  };
  under = record { dict = 2; at = Int (pos 1); map_is = refl; key_is = refl; entry = refl };
  answers = refl;
}
