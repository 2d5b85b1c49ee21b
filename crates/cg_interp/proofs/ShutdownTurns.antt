-- A turn of the shutdown: it gives up the greatest bound name, starts the last collection, or reports what is left.
use Rattle.std.proofs.Common.{◌≡◌, refl, sym, ◌∙◌, ap, subst, ℕ, zero, suc, ◌+◌, ◌<◌, ◌≤◌, Bool, true, false, cond, List, [], ◌∷◌, ◌++◌, length, Option, None, Some, arith}
use Rattle.std.specs.Prelude.{slice_get, option_and_then, count_by}
use Rattle.std.proofs.lemmas.List.{length-set}
use Rattle.std.proofs.lemmas.List.Sums.{sum_by-cons}
use Rattle.cg_value.specs.declared.Val.{Val}
use Rattle.cg_script.specs.declared.Script.{Script}
use Rattle.cg_graph.specs.Value.{references_of_value}
use Rattle.cg_graph.specs.Holdings.{occurrences}
use Rattle.cg_graph.specs.Store.{IsLive, objects_of}
use Rattle.cg_graph.specs.Changes.{held, named}
use Rattle.cg_heap.specs.Calls.{IsSound, object_number, IsBound, IsGreatestBound}
use Rattle.cg_heap.proofs.HoldLemmas.{name_holds}
use Rattle.cg_machine.specs.declared.event.Event.TheVariants.{Left, End}
use Rattle.cg_machine.specs.World.{World, Activity, Releasing, ShuttingDown, Ended, push, with_stack}
use Rattle.cg_laws.specs.Bounds.{is_top_level, IsOverTopLevel}
use Rattle.cg_laws.specs.Lawful.{IsLawful}
use Rattle.cg_machine.specs.Frame.{Yields, Transition}
use Rattle.cg_machine.specs.Effects.{live, bound, given_up_by}
use Rattle.cg_machine.specs.Commands.{new_collection}
use Rattle.cg_machine.specs.Run.{StepOf}
use Rattle.cg_machine.specs.Shutdown.{greatest_of, greatest_from, greatest_bound, shut_down}
use Rattle.cg_represents.specs.Represents.{Represents}
use Rattle.cg_policy.specs.Policy.{Policy}
use Rattle.cg_death.specs.declared.release.Release.{Release}
use Rattle.cg_death.specs.Activities.{references_left}
use Rattle.cg_commands.proofs.ChangesOfHeaps.{renamed, released}
use Rattle.cg_commands.proofs.Limits.{live-number}
use Rattle.cg_interp.specs.declared.activity.Activity.{Activity as Own}
use Rattle.cg_interp.specs.declared.activity.Activity.TheVariants as activity
use Rattle.cg_interp.specs.declared.turned.Turned.TheVariants as turned
use Rattle.cg_interp.specs.Engines.{State, StandsFor, ShowsAll, under, any_collecting}
use Rattle.cg_interp.specs.Turns.{Turns, TurnKeeps}
use Rattle.cg_interp.proofs.LawsOfEngines.{at_least}
use Rattle.cg_interp.proofs.StackChanges.{plain_shutdown, replaced, spelled}
use Rattle.cg_interp.proofs.StepLemmas.{turns}
use Rattle.cg_death.proofs.ObjectNumbers.{none-held}

-- What the machine finds is bound, and no bound name is above it.
abbrev FoundFrom : ℕ → List (Option Val) → Option ℕ → Type 0
FoundFrom n names None = (k : ℕ) → ¬ IsBound names k
FoundFrom n names (Some m) = (k : ℕ) × (m ≡ n + k) × IsBound names k × ((j : ℕ) → IsBound names j → j ≤ k)

found_from : (n : ℕ) (names : List (Option Val)) → FoundFrom n names (greatest_from n names)
found_from n [] = λ k b. let no : None ≡ Some (Some b.0) = b.1 in cc
found_from n (x ∷ names) = go (greatest_from (n + 1) names) x (found_from (n + 1) names)
  where
    above : (k : ℕ) (u : Option Val) → ((j : ℕ) → IsBound names j → j ≤ k) → (j : ℕ) → IsBound (u ∷ names) j → j ≤ suc k
    above k u h zero b = omega arith
    above k u h (suc j) b = let low = h j b in omega (arith, low)

    first : (v : Val) → ((j : ℕ) → ¬ IsBound names j) → (j : ℕ) → IsBound (Some v ∷ names) j → j ≤ zero
    first v h zero b = omega arith
    first v h (suc j) b = absurd (h j b)

    unbound : ((j : ℕ) → ¬ IsBound names j) → (j : ℕ) → ¬ IsBound (None ∷ names) j
    unbound h zero b = let no : ◌≡◌ {A = Option (Option Val)} (Some None) (Some (Some b.0)) = b.1 in cc
    unbound h (suc j) b = h j b

    go : (m : Option ℕ) (u : Option Val) → FoundFrom (n + 1) names m → FoundFrom n (u ∷ names) (greatest_of m n u)
    go (Some m) u f = (suc f.0, omega (arith, f.1), f.2, above f.0 u f.3)
    go None (Some v) f = (zero, omega arith, (v, refl), first v f)
    go None None f = unbound f

-- So the heap answers what the machine finds.
pub greatest_is : (names : List (Option Val)) (result : Option ℕ) → IsGreatestBound names result → result ≡ greatest_from 0 names
greatest_is names None none = go (greatest_from 0 names) (found_from 0 names)
  where
    go : (m : Option ℕ) → FoundFrom 0 names m → None ≡ m
    go None f = refl
    go (Some m) f = absurd (none f.0 f.2)
greatest_is names (Some greatest) is = go (greatest_from 0 names) (found_from 0 names)
  where
    go : (m : Option ℕ) → FoundFrom 0 names m → Some greatest ≡ m
    go None f = absurd (f greatest is.0)
    go (Some m) f =
        let most = is.1 f.0 f.2 in
        let least = f.3 greatest is.0 in
        let same : greatest ≡ m = omega (arith, f.1, most, least) in
        ap Some same

-- the greatest is one of the names
greatest_from-below : (n : ℕ) (names : List (Option Val)) (name : ℕ) → greatest_from n names ≡ Some name → name < n + length names
greatest_from-below n [] name is = absurd (cc)
greatest_from-below n (x ∷ names) name is = go (greatest_from (n + 1) names) refl x is (greatest_from-below (n + 1) names name)
  where
    go : (m : Option ℕ) → greatest_from (n + 1) names ≡ m → (u : Option Val) → greatest_of m n u ≡ Some name → (greatest_from (n + 1) names ≡ Some name
        → name < n + 1 + length names) → name < n + suc (length names)
    go (Some k) found u is rest = let same : k ≡ name = cc in let below = rest (found ∙ ap Some same) in omega (arith, below)
    go None found (Some v) is rest = let same : n ≡ name = cc in omega (arith, same)
    go None found None is rest = absurd (cc)

pub greatest_below : (names : List (Option Val)) (name : ℕ) → greatest_from 0 names ≡ Some name → name < length names
greatest_below names name is = let below = greatest_from-below 0 names name is in omega (arith, below)

-- Nothing is below the shutdown.
alone : (started : Bool) (below : List Activity) → IsOverTopLevel (ShuttingDown started ∷ below) → below ≡ []
alone started below over = by over.others over.bottom over.nowhere_else
  where
    by : (others : List Activity) → ShuttingDown started ∷ below ≡ others ++ over.lowest ∷ [] → count_by is_top_level others ≡ 0 → below ≡ []
    by [] bottom none = cc
    by (a ∷ others) bottom none =
        let same : ShuttingDown started ≡ a = cc in
        let own : cond {A = ℕ} (is_top_level a) 1 0 ≡ 1 = ap (λ b. cond {A = ℕ} (is_top_level b) 1 0) (sym same) in
        absurd (omega (arith, none, own, sum_by-cons (λ x. cond {A = ℕ} (is_top_level x) 1 0) a others))

module _ (script : Script) (e : State) (started : Bool) (w : World) (stands : StandsFor script (under (activity.Shutdown started) e) w) where
  pub shutdown_at : w.stack ≡ ShuttingDown started ∷ stands.shows.below
  shutdown_at = stands.shows.is ∙ ap (λ l. l ++ stands.shows.below) stands.shows.shows

  -- so no collection is under way
  pub none_runs : (budget : ℕ) → IsLawful script budget w → e.policy.running ≡ false
  none_runs budget lawful =
      let none : stands.shows.below ≡ [] = alone started stands.shows.below (subst IsOverTopLevel shutdown_at lawful.bounded.top_level) in
      stands.collecting ∙ nothing e.activities (subst (ShowsAll script e.activities) none stands.shows.over)
    where
      nothing : (activities : List Own) → ShowsAll script activities [] → any_collecting activities ≡ false
      nothing [] shows = refl
      nothing (a ∷ activities) shows = absurd (let least = at_least script (a ∷ activities) [] shows in omega (arith, least))

  module _ (name : Option ℕ) (found : greatest_from 0 e.store.names ≡ name) where
    abbrev next_world : Transition
    next_world = shut_down started name stands.shows.below w

    pub shuts : StepOf script w w.stack next_world.0 next_world.1
    shuts =
        let here : greatest_bound w ≡ name = ap (greatest_from 0) (sym stands.represents.names) ∙ found in
        subst (λ st. StepOf script w st next_world.0 next_world.1) (sym shutdown_at)
        (subst (λ n. Yields (shut_down started n stands.shows.below w) next_world.0 next_world.1) (sym here) (refl, refl))

module _ (script : Script) (e new : State) (name : ℕ) (was : Option Val) (release : Release) (w : World) (stands : StandsFor script (under (activity.Shutdown false) e) w) where
  abbrev gave_up : World
  gave_up = push (Releasing (given_up_by w name)) (bound w name None)

  pub gives_up : IsSound e.store → slice_get e.store.names name ≡ Some was → greatest_from 0 e.store.names ≡ Some name → new.store
      ≡ held (references_of_value was) (named name None e.store) → references_left release ≡ references_of_value was → new.policy ≡ e.policy
      → new.activities ≡ activity.Releasing release ∷ activity.Shutdown false ∷ e.activities → new.budget ≡ e.budget → Turns script w new turned.Quiet
  gives_up sound at found store left policy activities budget =
      turns script w new ([], gave_up) turned.Quiet stands.running (shuts script e false w stands (Some name) found) (
        refl,
        record {
          represents = subst (λ st. Represents st gave_up) (sym store)
              (subst (λ rs. Represents (held (references_of_value was) (named name None e.store)) (push (Releasing rs) (bound w name None))) (sym given)
              (released (named name None e.store) (bound w name None) (renamed e.store w stands.represents name None) (references_of_value was) was_live));
          shows = subst (λ l. ShowsAll script l (Releasing (given_up_by w name) ∷ w.stack)) (sym activities) (record {
            tops = Releasing (given_up_by w name) ∷ [];
            below = w.stack;
            shows = ap (λ rs. Releasing rs ∷ []) (given ∙ sym left);
            some = λ e. absurd (cc);
            over = stands.shows;
            is = refl;
          });
          budget = stands.budget ∙ sym budget;
          running = stands.running;
          numbers = ap (λ (p : Policy). p.numbers) policy ∙ stands.numbers;
          collecting = ap (λ (p : Policy). p.running) policy ∙ stands.collecting ∙ sym (ap any_collecting activities);
        },
      )
    where
      given : given_up_by w name ≡ references_of_value was
      given = ap (λ x. references_of_value (option_and_then (λ v. v) x)) (ap (λ ns. slice_get ns name) (sym stands.represents.names) ∙ at)

      was_live : (s : ℕ) → 0 < occurrences s (references_of_value was) → IsLive e.store s
      was_live s there = sound.live s (omega (arith, there, name_holds e.store name was at s))

-- No name is bound: the last collection starts above the shutdown, which records it.
module _ (script : Script) (e : State) (w : World) (stands : StandsFor script (under (activity.Shutdown false) e) w) where
  pub starts_last : World
  starts_last = with_stack (ShuttingDown true ∷ stands.shows.below) w

  pub last_stands : StandsFor script (under (activity.Shutdown true) e) starts_last
  unfolding starts_last
  last_stands = record {
    represents = replaced e.store w (ShuttingDown false) (ShuttingDown true) stands.shows.below (plain_shutdown false) (plain_shutdown true) refl
        (spelled (Represents e.store) w (ShuttingDown false ∷ stands.shows.below) (shutdown_at script e false w stands) stands.represents);
    shows = record { tops = ShuttingDown true ∷ []; below = stands.shows.below; shows = refl; some = λ e. absurd (cc); over = stands.shows.over; is = refl };
    budget = stands.budget;
    running = stands.running;
    numbers = stands.numbers;
    collecting = stands.collecting;
  }

  pub last_steps : greatest_from 0 e.store.names ≡ None → StepOf script w w.stack [] (push (new_collection 2 false starts_last) starts_last)
  unfolding starts_last
  last_steps none = shuts script e false w stands None none

-- What is left is printed.
pub tells_left : (script : Script) (e : State) (w : World) (number : ℕ) → StandsFor script (under (activity.Shutdown true) e) w → IsSound e.store → number
    ≡ object_number e.store → Turns script w e (turned.Left number)
tells_left script e w number stands sound is =
    let same : live w ≡ number = live-number e.store w stands.represents sound ∙ sym is in
    turns script w e (Left (live w) ∷ End ∷ [], record w { outcome = Ended }) (turned.Left number) stands.running (shuts script e true w stands (greatest_from 0 e.store.names) refl)
    (ap (λ n. Left n ∷ End ∷ []) same, refl)

-- A turn that gives up a name keeps the engine within its room.
pub keeps_unbound : (inside old new : State) → inside ≡ old → (refs : List ℕ) (name : ℕ) → new.store ≡ held refs (named name None inside.store)
    → length new.activities ≡ length inside.activities + 2 → inside.room ≤ new.room + 2 → new.first_budget ≡ inside.first_budget → TurnKeeps old new
keeps_unbound inside old new same refs name store two room first_budget = subst (λ e. TurnKeeps e new) same (record {
  objects = omega (arith, ap (λ st. length (objects_of st)) store, (none-held refs (named name None inside.store)).objects);
  room = omega (arith, two, room);
  names = ap (λ st. length st.names) store ∙ length-set inside.store.names name None;
  first_budget = first_budget;
})
