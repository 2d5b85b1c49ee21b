-- Inspection commands: what they check first, and the lines that they print.
use Rattle.std.proofs.Common.{◌≡◌, refl, sym, ◌∙◌, ap, subst, ℕ, Bool, true, false, not, List, [], ◌∷◌, ◌++◌, length, map, Option, Result, Ok, Err, inl, inr}
use Rattle.cg_value.specs.declared.Val.{Val}
use Rattle.cg_graph.specs.Object.{Object}
use Rattle.cg_graph.specs.Store.{Store, object_from}
use Rattle.cg_script.specs.declared.command.Operand.{Operand}
use Rattle.cg_inspect.specs.declared.reason.Why.{Why}
use Rattle.cg_inspect.specs.Inspection.{IsReason}
use Rattle.cg_machine.specs.declared.event.Event.{Event}
use Rattle.cg_machine.specs.declared.event.Event.TheVariants.{Listed}
use Rattle.cg_machine.specs.World.{World}
use Rattle.cg_machine.specs.Holdings.{is_collecting}
use Rattle.cg_machine.specs.Effects.{Effect, Changes, Explains, lists}
use Rattle.cg_machine.specs.Operands.{value, object, any_object}
use Rattle.cg_machine.specs.Refusals.{in_collection, unless, wrong_kind, ◌>>=◌}
use Rattle.cg_commands.specs.declared.done.Done.TheVariants.{Tells}
use Rattle.cg_commands.specs.declared.done.Refusal.{Refusal}
use Rattle.cg_commands.specs.declared.done.Refusal.TheVariants.{OutOfMemory, InCollection}
use Rattle.cg_commands.specs.declared.locals.Locals.{Locals}
use Rattle.cg_commands.specs.Stands.{HeapAndLocalsStandFor, Reads, IsRefused}
use Rattle.cg_commands.specs.Objects.{RefersTo}
use Rattle.cg_commands.specs.Answers.{AnswersOnHeap, WantsMemory}
use Rattle.cg_commands.specs.Reasons.{reason_lines}
use Rattle.cg_commands.specs.Inspections.{Inspects, IsInspected, IsNotInspected, inspected}
use Rattle.cg_commands.proofs.FirstRefusal.{declines_second, refused}
use Rattle.cg_commands.proofs.ChangesOfHeaps.{released-none}
use Rattle.cg_commands.proofs.Reading.{object-found}

-- checks in order, in two parts
then-then : {A B C : Type 0} (r : Result A ℕ) (f : A → Result B ℕ) (g : B → Result C ℕ) → ((r >>= f) >>= g) ≡ (r >>= (λ a. f a >>= g))
unfolding ◌>>=◌
then-then (Ok a) f g = refl
then-then (Err e) f g = refl

then-known : {A B C : Type 0} (r : Result A ℕ) (x : B) (f : B → Result C ℕ) → ((r >>= (λ _. Ok x)) >>= f) ≡ (r >>= (λ _. f x))
unfolding ◌>>=◌
then-known (Ok a) x f = refl
then-known (Err e) x f = refl

module _ (store : Store) (running : Bool) (locals : Option Locals) (operand : Operand) where
  -- the operand refers to no object
  pub not_found : (refusal : Refusal) → IsRefused store locals (λ w. value w operand >>= object w any_object wrong_kind) refusal → IsNotInspected store running locals operand refusal
  not_found refusal is w s same = declines_second refusal (value w operand) (object w any_object wrong_kind) _ (is w s)

  module _ (v : Val) (reads : Reads store locals (λ w. value w operand) v) where
    after_value : (w : World) → HeapAndLocalsStandFor store locals w → inspected w operand ≡ (object w any_object wrong_kind v >>= (λ x. unless (not (is_collecting w)) in_collection >>= (λ _. Ok x)))
    unfolding ◌>>=◌
    after_value w s = ap (λ q. q >>= (λ v. object w any_object wrong_kind v >>= (λ x. unless (not (is_collecting w)) in_collection >>= (λ _. Ok x)))) (reads w s)

    module _ (o : ℕ) (there : RefersTo store any_object v o) where
      after_object : (w : World) → HeapAndLocalsStandFor store locals w → (same : is_collecting w ≡ running) → inspected w operand
          ≡ (unless (not running) in_collection >>= (λ _. Ok (object_from store.rows o there.node)))
      unfolding ◌>>=◌
      after_object w s same =
          after_value w s
          ∙ ap (λ q. q >>= (λ x. unless (not (is_collecting w)) in_collection >>= (λ _. Ok x))) (object-found store w s.represents any_object wrong_kind v o there)
          ∙ ap (λ b. unless (not b) in_collection >>= (λ _. Ok (object_from store.rows o there.node))) same

      -- a collection is under way
      pub in_collection_now : running ≡ true → IsNotInspected store running locals operand InCollection
      unfolding ◌>>=◌
      in_collection_now on w s same = after_object w s same ∙ ap (λ b. unless (not b) in_collection >>= (λ _. Ok (object_from store.rows o there.node))) on

      -- none is
      pub is_inspected : running ≡ false → IsInspected store running locals operand o
      unfolding ◌>>=◌
      is_inspected off = record {
        node = there.node;
        found = there.found;
        calm = off;
        is = λ w s same. after_object w s same ∙ ap (λ b. unless (not b) in_collection >>= (λ _. Ok (object_from store.rows o there.node))) off;
      }

  -- what follows
  module _ (k : World → Object → Result Effect ℕ) where
    abbrev whole : World → Result Effect ℕ
    whole w = do
      v ← value w operand
      x ← object w any_object wrong_kind v
      _ ← unless (not (is_collecting w)) in_collection
      k w x

    in_parts : (w : World) → (inspected w operand >>= k w) ≡ whole w
    in_parts w =
        then-then (value w operand) _ (k w)
        ∙ (λ i. value w operand >>= (λ v. (then-then (object w any_object wrong_kind v) (λ x. unless (not (is_collecting w)) in_collection >>= (λ _. Ok x)) (k w)
        ∙ (λ j. object w any_object wrong_kind v >>= (λ x. then-known (unless (not (is_collecting w)) in_collection) x (k w) j))) i))

    -- it is refused where that is refused
    pub not_inspected : (refusal : Refusal) → IsNotInspected store running locals operand refusal → Inspects store running locals whole (Err refusal)
    not_inspected refusal is w s same = subst (λ e. AnswersOnHeap (Err refusal) e store store) (in_parts w) (refused refusal (inspected w operand) (k w) store (is w s same))

    module _ (o : ℕ) (there : IsInspected store running locals operand o) where
      after_inspected : (w : World) → HeapAndLocalsStandFor store locals w → is_collecting w ≡ running → whole w ≡ k w (object_from store.rows o there.node)
      unfolding ◌>>=◌
      after_inspected w s same = sym (in_parts w) ∙ ap (λ q. q >>= k w) (there.is w s same)

      -- a list
      pub lists_lines : (lines : List Event) → ((w : World) → HeapAndLocalsStandFor store locals w → k w (object_from store.rows o there.node)
          ≡ Ok (Changes true lines [] w)) → Inspects store running locals whole (Ok (Tells lines))
      lists_lines lines does w s same = (inl (record { wants_memory = true; after = w; is = after_inspected w s same ∙ does w s; represents = released-none store w s.represents }), refl)

      -- a reason
      pub tells_reason : ((w : World) → k w (object_from store.rows o there.node) ≡ Ok (Explains o)) → (reason : Why) → IsReason store o reason
          → (lines : List Event) → lines ≡ reason_lines reason → Inspects store running locals whole (Ok (Tells lines))
      tells_reason does reason is_reason lines tells w s same = (inr (record { object = o; is = after_inspected w s same ∙ does w; reason = reason; is_reason = is_reason; tells = tells }), refl)

      -- memory was refused
      pub no_memory_for : ((w : World) → HeapAndLocalsStandFor store locals w → WantsMemory (k w (object_from store.rows o there.node))) → Inspects store running locals whole (Err OutOfMemory)
      no_memory_for wants w s same = (subst WantsMemory (sym (after_inspected w s same)) (wants w s), refl)

-- A list may allocate,
pub lists_memory : (w : World) (line : ℕ → Event) (objects : List ℕ) → WantsMemory (lists w line objects)
lists_memory w line objects = inl (record { lines = map line objects ++ Listed (length objects) ∷ []; given_up = []; after = w; is = refl })

-- whose lines are these.
pub lists_these : (w : World) (line : ℕ → Event) (objects told : List ℕ) → told ≡ objects → (lines : List Event) → lines ≡ map line told ++ Listed (length told)
    ∷ [] → lists w line objects ≡ Ok (Changes true lines [] w)
lists_these w line objects told same lines is = ap (λ os. lists w line os) (sym same) ∙ ap (λ ls. Ok (Changes true ls [] w)) (sym is)
