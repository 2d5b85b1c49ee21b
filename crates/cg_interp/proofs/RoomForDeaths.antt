-- Room for the death of the object that a command makes, and what is left of it afterwards.
use Rattle.std.proofs.Common.{◌≡◌, refl, sym, ◌∙◌, ap, subst, ℕ, ◌+◌, ◌*◌, ◌≤◌, Bool, true, false, length, arith}
use Rattle.std.specs.Prelude.{if◌then◌else◌, is_ok, OnOk, Result, Ok, Err}
use Rattle.cg_graph.specs.Store.{Store, objects_of}
use Rattle.cg_heap.specs.Calls.{object_number}
use Rattle.cg_policy.specs.Policy.{Policy}
use Rattle.cg_commands.specs.Growth.{GrowsBy}
use Rattle.cg_interp.specs.Engines.{State}
use Rattle.cg_interp.specs.Turns.{IsFit, StaysFit, HasRoom, HasRoomForOneMore}
use Rattle.cg_interp.proofs.LawsOfEngines.{objects-number}

pub when_ok : {T E P : Type 0} (r : Result T E) → is_ok r ≡ true → OnOk r P → P
when_ok (Ok x) is holds = holds
when_ok (Err e) is holds = absurd (cc)

-- room for everything requested is room for one more
pub room_for_one_more : (store : Store) (first_budget count high : ℕ) → count ≡ object_number store → first_budget + 2 * (count + 1 + 1) + 8 ≤ high
    → first_budget + 2 * (length (objects_of store) + 1) + 8 ≤ high
room_for_one_more store first_budget count high counted room = omega (arith, objects-number store, counted, room)

-- a command whose growth the heap reports
pub fit_after : (room : Bool) (old inside : State) → inside ≡ old → (store : Store) (policy : Policy) → GrowsBy room inside.store store
    → (room ≡ true → HasRoomForOneMore old) → StaysFit old (record inside { store = store; policy = policy })
fit_after room old inside same store policy grows one_more = record {
  fit = λ script fit.
      let here : IsFit script inside = subst (IsFit script) (sym same) fit in
      record {
        names = grows.names ∙ here.names;
        first_budget = here.first_budget;
        room = known room grows.objects (λ is. subst HasRoomForOneMore (sym same) (one_more is)) here.room;
      };
  first_budget = ap (λ (e : State). e.first_budget) same;
}
  where
    known : (room : Bool) → length (objects_of store) ≤ length (objects_of inside.store) + (if room then 1 else 0) → (room ≡ true → HasRoomForOneMore inside) → HasRoom inside
        → inside.first_budget + 2 * length (objects_of store) + 8 ≤ length inside.activities + inside.room
    known true less one_more had = let more : HasRoomForOneMore inside = one_more refl in omega (arith, less, more)
    known false less one_more had = omega (arith, less, had)
