-- What a command for objects leaves of the policy: it stays, except that a new object is counted.
use Rattle.std.proofs.Common.{◌≡◌, refl, sym, ◌∙◌, ap, subst, ℕ, Bool, true, false, List, [], Option, Some, None, Result, Ok, Err, OnOk, inl, inr}
use Rattle.cg_value.specs.declared.Entry.{Entry}
use Rattle.cg_value.specs.declared.KindCode.{KindCode}
use Rattle.cg_value.specs.declared.KindCode.TheVariants.{List as ListKind, Tuple, Dict, Inst, Func, Weak}
use Rattle.cg_script.specs.declared.Command.{Command}
use Rattle.cg_script.specs.declared.Command.TheVariants.{MakeList, MakeTuple, MakeDict, MakeInst, MakeFunc, MakeRef, Enable, Disable, Threshold, Flags}
use Rattle.cg_script.specs.Spelled.{IsForObjects}
use Rattle.cg_graph.specs.Store.{Store}
use Rattle.cg_machine.specs.World.{World}
use Rattle.cg_machine.specs.Effects.{Effect, Changes, Calls, Collects, Quits, Explains, makes}
use Rattle.cg_machine.specs.Commands.{effect}
use Rattle.cg_represents.proofs.CommandLaws.{Each, checked}
use Rattle.cg_represents.proofs.Shapes.{SetsNumbers, Shape, Makes, Sets, Freezes, Unfreezes, StartsFrame, StartsCollection, Ends, AsksWhy, by_shape}
use Rattle.cg_policy.specs.Policy.{Policy, with_numbers, with_one_made}
use Rattle.cg_policy.specs.Laws.{policy_of}
use Rattle.cg_commands.specs.declared.done.Done.{Done}
use Rattle.cg_commands.specs.declared.done.Done.TheVariants as done
use Rattle.cg_commands.specs.declared.done.Refusal.{Refusal}
use Rattle.cg_commands.specs.declared.locals.Locals.{Locals}
use Rattle.cg_commands.specs.Answers.{AnswersOnHeap, PerformsOnHeap, policy_after}
use Rattle.cg_commands.specs.Attempts.{Attempts, counted}
use Rattle.cg_commands.specs.Growth.{makes_object}
use Rattle.cg_commands.specs.Inspections.{Inspects}
use Rattle.cg_commands.specs.Stands.{HeapAndLocalsStandFor}
use Rattle.cg_commands.proofs.GrowthOfHeaps.{of_effect, made_makes, nothing_made, made_in_room, grows_within}

abbrev StaysCounted : World → Effect → Type 0
StaysCounted w (Changes wants_memory lines given_up after) = policy_of after ≡ policy_of w
StaysCounted w (Calls f) = Unit {0}
StaysCounted w (Collects g) = Unit {0}
StaysCounted w Quits = Unit {0}
StaysCounted w (Explains o) = Unit {0}

-- commands for objects set no numbers
sets_none : (command : Command) → IsForObjects command → SetsNumbers command → ⊥
sets_none Enable own k = own
sets_none Disable own k = own
sets_none (Threshold first second third) own k = own
sets_none (Flags bits) own k = own
sets_none command own k = k

shape_stays : (w : World) (command : Command) → IsForObjects command → makes_object command ≡ false → (e : Effect) → Shape w command e → StaysCounted w e
shape_stays w command own none e (Makes name kind class entries referent texts parts) = absurd (let no : true ≡ false = sym (made_makes command kind class parts.by) ∙ none in cc)
shape_stays w command own none e (Sets numbers sets keeps) = absurd (sets_none command own sets)
shape_stays w command own none e (Freezes is) = absurd (subst IsForObjects is own)
shape_stays w command own none e (Unfreezes is) = absurd (subst IsForObjects is own)
shape_stays w command own none e (StartsFrame f h) = tt
shape_stays w command own none e (StartsCollection g low) = tt
shape_stays w command own none e Ends = tt
shape_stays w command own none e (AsksWhy x h calm) = tt
shape_stays w command own none e s = refl

effect_stays : (w : World) (command : Command) → IsForObjects command → makes_object command ≡ false → Each (StaysCounted w) (effect w command)
effect_stays w command own none = by_shape (StaysCounted w) w command (shape_stays w command own none)

abbrev CountsOne : World → Effect → Type 0
CountsOne w (Changes wants_memory lines given_up after) = policy_of after ≡ with_numbers (with_one_made w.numbers) (policy_of w)
CountsOne w (Calls f) = ⊥
CountsOne w (Collects g) = ⊥
CountsOne w Quits = ⊥
CountsOne w (Explains o) = ⊥

makes_counts : (w : World) (name : ℕ) (kind : KindCode) (class : Option ℕ) (entries : List Entry) (referent : Option ℕ) → Each (CountsOne w) (makes w name kind class entries referent)
makes_counts w name kind class entries referent = checked (CountsOne w) _ _ (λ u. checked (CountsOne w) _ _ (λ v. refl))

effect_counts : (w : World) (command : Command) → makes_object command ≡ true → Each (CountsOne w) (effect w command)
effect_counts w (MakeList name items) made = checked (CountsOne w) _ _ (λ vs. makes_counts w name ListKind None _ None)
effect_counts w (MakeTuple name items) made = checked (CountsOne w) _ _ (λ vs. makes_counts w name Tuple None _ None)
effect_counts w (MakeDict name) made = makes_counts w name Dict None [] None
effect_counts w (MakeInst name class) made = makes_counts w name Inst (Some class) [] None
effect_counts w (MakeFunc name proc cells) made = checked (CountsOne w) _ _ (λ vs. makes_counts w name Func (Some proc) _ None)
effect_counts w (MakeRef name target callback) made =
    checked (CountsOne w) _ _ (λ v. checked (CountsOne w) _ _ (λ f. checked (CountsOne w) _ _ (λ x. checked (CountsOne w) _ _ (λ entries. makes_counts w name Weak None entries (Some x.serial)))))
effect_counts w command made = absurd (let no : false ≡ true = made in cc)

-- so a change of the heap alone is the effect
module _ (w : World) (command : Command) (old new : Store) where
  stays_after : IsForObjects command → makes_object command ≡ false → (answer : Result Done Refusal) → AnswersOnHeap answer (effect w command) old new
      → policy_of w ≡ policy_after answer (effect w command) (policy_of w)
  stays_after own none (Ok (done.Changed line e)) h =
      let stays = of_effect (StaysCounted w) (effect w command) _ h.is (effect_stays w command own none) in
      sym stays ∙ ap (λ r. policy_after (Ok (done.Changed line e)) r (policy_of w)) (sym h.is)
  stays_after own none (Ok (done.Calls f)) h = refl
  stays_after own none (Ok (done.Collects g)) h = refl
  stays_after own none (Ok done.Quits) h = refl
  stays_after own none (Ok (done.Tells lines)) (inl h, same) =
      let stays = of_effect (StaysCounted w) (effect w command) _ h.is (effect_stays w command own none) in
      sym stays ∙ ap (λ r. policy_after (Ok (done.Tells lines)) r (policy_of w)) (sym h.is)
  stays_after own none (Ok (done.Tells lines)) (inr h, same) = ap (λ r. policy_after (Ok (done.Tells lines)) r (policy_of w)) (sym h.is)
  stays_after own none (Err refusal) h = refl

  counted_after : makes_object command ≡ true → (answer : Result Done Refusal) → AnswersOnHeap answer (effect w command) old new → counted answer (policy_of w)
      ≡ policy_after answer (effect w command) (policy_of w)
  counted_after made (Ok (done.Changed line e)) h =
      let counts = of_effect (CountsOne w) (effect w command) _ h.is (effect_counts w command made) in
      sym counts ∙ ap (λ r. policy_after (Ok (done.Changed line e)) r (policy_of w)) (sym h.is)
  counted_after made (Ok (done.Calls f)) h = absurd (of_effect (CountsOne w) (effect w command) _ h.0 (effect_counts w command made))
  counted_after made (Ok (done.Collects g)) h = absurd (of_effect (CountsOne w) (effect w command) _ h.0 (effect_counts w command made))
  counted_after made (Ok done.Quits) h = absurd (of_effect (CountsOne w) (effect w command) _ h.0 (effect_counts w command made))
  counted_after made (Ok (done.Tells lines)) (inl h, same) =
      let counts = of_effect (CountsOne w) (effect w command) _ h.is (effect_counts w command made) in
      sym counts ∙ ap (λ r. policy_after (Ok (done.Tells lines)) r (policy_of w)) (sym h.is)
  counted_after made (Ok (done.Tells lines)) (inr h, same) = absurd (of_effect (CountsOne w) (effect w command) _ h.is (effect_counts w command made))
  counted_after made (Err refusal) h = refl

-- A command that makes no object leaves the policy, even if its answer depends on the policy.
plain : (old : Store) (was : Policy) (locals : Option Locals) (room : Bool) (given command : Command) → given ≡ command → IsForObjects command
    → makes_object command ≡ false → (new : Store) (answer : Result Done Refusal)
    → ((w : World) → HeapAndLocalsStandFor old locals w → was ≡ policy_of w → AnswersOnHeap answer (effect w command) old new) → Attempts old was locals room given new was answer
plain old was locals room given command is own none new answer does = subst (λ c. Attempts old was locals room c new was answer) (sym is) (record {
  performs = λ w stands policy. record {
    heap = does w stands policy;
    policy = policy ∙ stays_after w command old new own none answer (does w stands policy) ∙ ap (policy_after answer (effect w command)) (sym policy);
  };
  leaves = λ control. absurd (control own);
  grows = λ w stands policy. grows_within command w room old new answer stands.represents (does w stands policy) (nothing_made answer (makes_object command) room none);
})

-- an inspection, which depends on whether a collection is under way
pub inspects : (store : Store) (was : Policy) (locals : Option Locals) (room : Bool) (given command : Command) → given ≡ command → IsForObjects command
    → makes_object command ≡ false → (answer : Result Done Refusal) (running : Bool) → running ≡ was.running
    → Inspects store running locals (λ w. effect w command) answer → Attempts store was locals room given store was answer
inspects store was locals room given command is own none answer running same does =
    plain store was locals room given command is own none store answer (λ w stands policy. does w stands (ap (λ (p : Policy). p.running) (sym policy) ∙ sym same))

module _ (old : Store) (was : Policy) (locals : Option Locals) (room : Bool) (given command : Command) (is : given ≡ command) (own : IsForObjects command)
    (new : Store) (answer : Result Done Refusal) (does : PerformsOnHeap old locals (λ w. effect w command) new answer) where
  -- a command that makes no object and leaves the policy
  pub plainly : makes_object command ≡ false → Attempts old was locals room given new was answer
  plainly none = plain old was locals room given command is own none new answer (λ w stands policy. does w stands)

  -- a command that makes an object, after it is counted
  pub made_and_counted : makes_object command ≡ true → OnOk answer (room ≡ true) → (now : Policy) → now ≡ counted answer was → (told : Result Done Refusal) → told ≡ answer
      → Attempts old was locals room given new now told
  made_and_counted made in_room now counts told same = subst (λ c. Attempts old was locals room c new now told) (sym is) (subst (Attempts old was locals room command new now) (sym same) (record {
    performs = λ w stands policy. record {
      heap = does w stands;
      policy = counts ∙ ap (counted answer) policy ∙ counted_after w command old new made answer (does w stands) ∙ ap (policy_after answer (effect w command)) (sym policy);
    };
    leaves = λ control. absurd (control own);
    grows = λ w stands policy. grows_within command w room old new answer stands.represents (does w stands) (made_in_room answer (makes_object command) room in_room);
  }))
