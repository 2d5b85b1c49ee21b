-- What any step does for an existing weak reference: it comes from its past, and its callback begins if it waits for it.
use Rattle.std.proofs.Common.{◌≡◌, ◌≢◌, refl, sym, ◌∙◌, ap, subst, ℕ, ◌-◌, ◌<◌, ◌≤◌, Bool, true, false, not, ◌&&◌, ◌||◌, inl, inr, ◌⊎◌, List, [], ◌∷◌, ◌++◌, map, Some, arith}
use Rattle.std.specs.Prelude.{◌==◌, if◌then◌else◌}
use Rattle.cg_value.specs.declared.Val.{Val}
use Rattle.cg_value.specs.declared.Val.TheVariants.{Ref}
use Rattle.cg_value.specs.declared.Place.{Place}
use Rattle.cg_value.specs.declared.Place.TheVariants.{Gen}
use Rattle.cg_script.specs.declared.Script.{Script}
use Rattle.cg_script.specs.declared.Command.{Command}
use Rattle.cg_graph.specs.Member.{Includes}
use Rattle.cg_graph.specs.Object.{Object, is_tracked, with_entries, with_place}
use Rattle.cg_graph.specs.Value.{put}
use Rattle.cg_graph.proofs.Members.{either, Includes-append_cases, Includes-map_cases}
use Rattle.cg_machine.specs.declared.event.Event.{Event}
use Rattle.cg_machine.specs.declared.event.Event.TheVariants.{Collected, Enter, Made, Refused, Value}
use Rattle.cg_machine.specs.declared.event.FrameSort.TheVariants.{Callback}
use Rattle.cg_machine.specs.World.{World, Numbers, Activity, TopLevel, Framed, ShuttingDown, with_change}
use Rattle.cg_machine.specs.Effects.{Changes, Effect, bound, frozen, may_track, replaced, tracked_by, unfrozen, with_new}
use Rattle.cg_laws.proofs.Unreferred.{IsLater, later_refl, place_later}
use Rattle.cg_represents.proofs.Inspecting.{AllTellThere}
use Rattle.cg_laws.proofs.Invariants.{AreAnswers, AreLast, FromFrame, FromTop, HasCommands, Takes, emptied, on}
use Rattle.cg_laws.proofs.ShapeLaws.{changes_leave, put_later}
use Rattle.cg_represents.proofs.Shapes.{Binds, Edits, Freezes, Inspects, Makes, Puts, Sets, Shape, Shows, Stays, Tells as TellsOne, TellsNumbers, Unfreezes}
use Rattle.cg_machine.specs.Operands.{is_dict}
use Rattle.cg_laws.specs.Apart.{IsFound}
use Rattle.cg_laws.proofs.Starting.{called_either}
use Rattle.cg_weakcoll.proofs.ActivitySteps.{all_to_call, to_call}
use Rattle.cg_weakcoll.proofs.HiddenObjectSteps.{frozen_found, unfrozen_found}
use Rattle.cg_weakcoll.proofs.CallbacksOnce.{Tells, acted_tells}
use Rattle.cg_weakcoll.proofs.KnownOfRuns.{Acted, Asked, Began, Bottomed, Changed, Commanded, Done, Due, GaveUp, Known, Lasted, Over, Stood, Stopped, Went}

-- where the objects and lines of a changed world come from
pub record Follows (u : World) (lines : List Event) (next : World) : Type 0 where
  pub serial : u.next_serial ≤ next.next_serial
  pub comes : (y : Object) → Includes next.objects y → ((x : Object) × Includes u.objects x × IsLater x y × (IsFound y.place → IsFound x.place)) ⊎ (y.serial ≡ u.next_serial)
  pub quiet : (n : ℕ) → ¬ Includes lines (Enter Callback n)

follows_same : (u next : World) (lines : List Event) → next.objects ≡ u.objects → next.next_serial ≡ u.next_serial → ((n : ℕ) → ¬ Includes lines (Enter Callback n)) → Follows u lines next
follows_same u next lines objects serial quiet = record { serial = omega (arith, serial); comes = λ y m. inl (y, subst (λ os. Includes os y) objects m, later_refl y, λ f. f); quiet = quiet }

one_quiet : (line : Event) → ((n : ℕ) → line ≢ Enter Callback n) → (n : ℕ) → ¬ Includes (line ∷ []) (Enter Callback n)
one_quiet line h n m = either m (h n) (λ k. k)

numbers_quiet : (line : Event) → TellsNumbers line → (n : ℕ) → line ≢ Enter Callback n
numbers_quiet line tells n e = subst TellsNumbers e tells

there_quiet : (w : World) (lines : List Event) → AllTellThere w lines → (n : ℕ) → ¬ Includes lines (Enter Callback n)
there_quiet w lines there n m = there (Enter Callback n) m

module _ (u : World) (command : Command) where
  -- the objects and lines of a changed world
  next_follows : {lines told : List Event} {given_up given : List ℕ} {wanted wants : Bool} {after next : World} → Changes wanted told given_up after
      ≡ Changes wants lines given next → Follows u told after → Follows u lines next
  next_follows {lines} {told} {given_up} {given} {wanted} {wants} {after} {next} e h =
      let same : after ≡ next = cc in
      let line : told ≡ lines = cc in
      subst (λ (ls : List Event). Follows u ls next) line (subst (Follows u told) same h)

  nothing : (n : ℕ) → ¬ Includes [] (Enter Callback n)
  nothing n m = m

  mapped_comes : (f : Object → Object) → ((x : Object) → IsLater x (f x)) → ((x : Object) → IsFound (f x).place → IsFound x.place) → (y : Object)
      → Includes (map f u.objects) y → (x : Object) × Includes u.objects x × IsLater x y × (IsFound y.place → IsFound x.place)
  mapped_comes f later place y m = let x = Includes-map_cases f u.objects y m in (
    x.0,
    x.1,
    subst (IsLater x.0) x.2 (later x.0),
    subst (λ (z : Object). IsFound z.place → IsFound x.0.place) x.2 (place x.0),
  )

  changed_follows : (f : Object → Object) (s : ℕ) → ((x : Object) → IsLater x (f x)) → ((x : Object) → IsFound (f x).place → IsFound x.place) → Follows u [] (with_change f s u)
  changed_follows f s later place = record {
    serial = omega arith;
    comes = λ y m. inl (mapped_comes (λ x. if x.serial == s then f x else x)
        (λ x. one (x.serial == s) x) (λ x. stood (x.serial == s) x) y m);
    quiet = nothing;
  }
    where
      one : (b : Bool) (x : Object) → IsLater x (if b then f x else x)
      one true x = later x
      one false x = later_refl x

      stood : (b : Bool) (x : Object) → IsFound (if b then f x else x).place → IsFound x.place
      stood true x = place x
      stood false x = λ g. g

  placed_follows : (f : Place → Place) (numbers : Numbers) → ((p : Place) → IsFound (f p) → IsFound p)
      → Follows u [] (record u { objects = replaced f u; numbers = numbers })
  placed_follows f numbers found = record {
    serial = omega arith;
    comes = λ y m. inl (mapped_comes (λ x. with_place (f x.place) x) (λ x. place_later (f x.place) x) (λ x. found x.place) y m);
    quiet = nothing;
  }

  put_place : (x : Object) (key v : Val) (y : Object) → IsFound (tracked_by u key v (with_entries (put x.entries key v) y)).place → IsFound y.place
  put_place x key v y = go (is_dict y && not (is_tracked y) && (may_track u key || may_track u v))
    where
      go : (b : Bool) → IsFound (if b then with_place (Gen 0) (with_entries (put x.entries key v) y) else with_entries (put x.entries key v) y).place → IsFound y.place
      go true f = absurd f
      go false f = f

  pub shape_follows : (e : Effect) → Shape u command e → (wants : Bool) (lines : List Event) (given : List ℕ) (next : World) → e ≡ Changes wants lines given next → Follows u lines next
  shape_follows e (Binds name v own hand) wants lines given next is = next_follows is (follows_same u (bound u name v) [] refl refl nothing)
  shape_follows e (Makes name kind class entries referent own parts) wants lines given next is = next_follows is (record {
    serial = omega arith;
    comes = λ y m. either (Includes-append_cases u.objects (_ ∷ []) y m) (λ k. inl (y, k, later_refl y, λ f. f))
        (λ k. either k (λ i. inr (ap (λ (z : Object). z.serial) (sym i))) (λ none. absurd none));
    quiet = one_quiet (Made kind u.next_serial) (λ n k. cc);
  })
  shape_follows e (Edits wants_memory x entries given_up has mutable edit) wants lines given next is = next_follows is
      (changed_follows (with_entries entries) x.serial (λ z. record { serial = refl; code = refl; class = refl; referent = inl refl }) (λ z f. f))
  shape_follows e (Puts x key v has mutable hand_key hand room) wants lines given next is = next_follows is
      (changed_follows (λ y. tracked_by u key v (with_entries (put x.entries key v) y)) x.serial (put_later u x key v) (put_place x key v))
  shape_follows e (Shows v hand) wants lines given next is = next_follows is (follows_same u u (Value v ∷ []) refl refl (one_quiet (Value v) (λ n k. cc)))
  shape_follows e (TellsOne line tells) wants lines given next is = next_follows is (follows_same u u (line ∷ []) refl refl (one_quiet line (numbers_quiet line tells)))
  shape_follows e Stays wants lines given next is = next_follows is (follows_same u u [] refl refl nothing)
  shape_follows e (Sets numbers own keeps) wants lines given next is = next_follows is (follows_same u (record u { numbers = numbers }) [] refl refl nothing)
  shape_follows e (Freezes own) wants lines given next is = next_follows is (placed_follows frozen _ frozen_found)
  shape_follows e (Unfreezes own) wants lines given next is = next_follows is (placed_follows unfrozen u.numbers unfrozen_found)
  shape_follows e (Inspects told calm there) wants lines given next is = next_follows is (follows_same u u told refl refl (there_quiet u told there))
  shape_follows e shape wants lines given next is = absurd (cc)

answers_quiet : (lines : List Event) → AreAnswers lines → (n : ℕ) → ¬ Includes lines (Enter Callback n)
answers_quiet [] k n m = m
answers_quiet (Refused i ∷ []) k n m = either m (λ e. cc) (λ none. none)
answers_quiet (Collected i ∷ []) k n m = either m (λ e. cc) (λ none. none)
answers_quiet lines k n m = absurd k

last_quiet : (w : World) (a : Activity) (lines : List Event) → AreLast w a lines → (n : ℕ) → ¬ Includes lines (Enter Callback n)
last_quiet w (TopLevel []) lines e n m = either (subst (λ (ls : List Event). Includes ls (Enter Callback n)) e m) (λ i. cc) (λ none. none)
last_quiet w (ShuttingDown true) lines e n m = either (subst (λ (ls : List Event). Includes ls (Enter Callback n)) e m) (λ i. cc) (λ k. either k (λ i. cc) (λ none. none))
last_quiet w a lines e n m = absurd e

-- an activity with commands has nothing to call
pub none_to_call : (a : Activity) → HasCommands a → to_call a ≡ []
none_to_call (TopLevel commands) h = refl
none_to_call (Framed f) h = refl
none_to_call (ShuttingDown started) h = refl
none_to_call a h = absurd h

emptied_to_call : (a : Activity) → HasCommands a → to_call (emptied a) ≡ []
emptied_to_call (TopLevel commands) h = refl
emptied_to_call (Framed f) h = refl
emptied_to_call (ShuttingDown started) h = refl
emptied_to_call a h = absurd h

taken_to_call : (command : Command) (a b : Activity) → Takes command a b → to_call a ≡ []
taken_to_call command a b (FromTop commands) = refl
taken_to_call command a b (FromFrame f commands left) = refl

-- the same objects, and no new callbacks
module _ (s : ℕ) (w : World) (events : List Event) (after : World) where
  plainly : w.next_serial ≤ after.next_serial → ((o : ℕ) (y : Object) → Includes after.objects y → y.serial ≡ o → o < w.next_serial → (x : Object)
      × Includes w.objects x × IsLater x y × (IsFound y.place → IsFound x.place)) → s < w.next_serial → all_to_call after.stack ≡ all_to_call w.stack → ((n : ℕ)
      → ¬ Includes events (Enter Callback n)) → Tells s w events after
  plainly serial comes low waits quiet = record {
    serial = serial;
    comes = λ y m e. let x = comes s y m e low in (x.0, x.1, x.2);
    places = λ o y m e k f. let x = comes o y m e k in inl (x.0, x.1, sym x.2.serial ∙ e, x.3 f);
    waits = λ m. inl (subst (λ xs. Includes xs s) waits m);
    begins = λ m. absurd (quiet s m);
  }

  same_tells : s < w.next_serial → after.next_serial ≡ w.next_serial → after.objects ≡ w.objects → all_to_call after.stack ≡ all_to_call w.stack
      → ((n : ℕ) → ¬ Includes events (Enter Callback n)) → Tells s w events after
  same_tells low serial objects waits quiet = plainly (omega (arith, serial)) (λ o y m e k. (y, subst (λ os. Includes os y) objects m, later_refl y, λ f. f)) low waits quiet

  -- of a world like this one
  like_tells : {u : World} → s < w.next_serial → after ≡ u → u.next_serial ≡ w.next_serial → u.objects ≡ w.objects → all_to_call u.stack ≡ all_to_call w.stack
      → ((n : ℕ) → ¬ Includes events (Enter Callback n)) → Tells s w events after
  like_tells low is serial objects waits quiet = same_tells low (ap (λ (z : World). z.next_serial) is ∙ serial) (ap (λ (z : World). z.objects) is ∙ objects)
      (ap (λ (z : World). all_to_call z.stack) is ∙ waits) quiet

none_events : (events : List Event) → events ≡ [] → (n : ℕ) → ¬ Includes events (Enter Callback n)
none_events events e n m = subst (λ (ls : List Event). Includes ls (Enter Callback n)) e m

done_tells : (script : Script) (s : ℕ) (command : Command) (a b : Activity) (below : List Activity) (v : World) (events : List Event) (after : World)
    → s < v.next_serial → to_call a ≡ [] → HasCommands b
    → Done script command (on b below v) b below events after → Tells s (on a below v) events after
done_tells script s command a b below v events after low none hb (Stood answers is) = like_tells s (on a below v) events after low is refl refl
    (ap (λ xs. xs ++ all_to_call below) (none_to_call b hb ∙ sym none)) (answers_quiet events answers)
done_tells script s command a b below v events after low none hb (Stopped answers is) = like_tells s (on a below v) events after low is refl refl
    (ap (λ xs. xs ++ all_to_call below) (emptied_to_call b hb ∙ sym none)) (answers_quiet events answers)
done_tells script s command a b below v events after low none hb (Changed wants given next is shape) =
    let f = shape_follows (on b below v) command (Changes wants events given next) shape wants events given next refl in
    let stack = (changes_leave (on b below v) command wants events given next shape).stack in
    plainly s (on a below v) events after (let e = ap (λ (z : World). z.next_serial) is in let l = f.serial in omega (arith, e, l))
    (λ o y m e under. either (f.comes y (subst (λ (z : World). Includes z.objects y) is m)) (λ x. x) (λ new. absurd (omega (arith, under, e, new)))) low
    (ap (λ (z : World). all_to_call z.stack) is ∙ ap all_to_call stack ∙ ap (λ xs. xs ++ all_to_call below) (none_to_call b hb ∙ sym none)) f.quiet
done_tells script s command a b below v events after low none hb (Began f has step) =
    let waits = ap (λ xs. xs ++ all_to_call below) (none_to_call b hb ∙ sym none) in
    called_either (Tells s (on a below v)) script (on b below v) f.serial events after step (same_tells s (on a below v) _ _ low refl refl waits (λ n m. either m (λ i. cc) (λ no. no)))
    (same_tells s (on a below v) _ _ low refl refl waits (λ n m. either m (λ i. cc) (λ no. no)))
done_tells script s command a b below v events after low none hb (Asked g no_line is) = like_tells s (on a below v) events after low is refl refl
    (ap (λ xs. xs ++ all_to_call below) (none_to_call b hb ∙ sym none)) (none_events events no_line)

pub went_tells : (script : Script) (budget s : ℕ) (w : World) (events : List Event) (after : World) → Known script budget w → s < w.next_serial → Went script w events after → Tells s w events after
went_tells script budget s w events after k low (Acted a below top acts) = acted_tells script budget s w a below events after k top acts
went_tells script budget s w events after k low (Due g set none is) = like_tells s w events after low is refl refl refl (none_events events none)
went_tells script budget s w events after k low (Over a under place last is) = like_tells s w events after low is refl refl refl (last_quiet w a events last)
went_tells script budget s w events after k low (Bottomed below top none is) = like_tells s w events after low is refl refl (sym (ap all_to_call top)) (none_events events none)
went_tells script budget s w events after k low (GaveUp name below top none is) = like_tells s w events after low is refl refl refl (none_events events none)
went_tells script budget s w events after k low (Lasted below top none is) = like_tells s w events after low is refl refl (sym (ap all_to_call top)) (none_events events none)
went_tells script budget s w events after k low (Commanded command a b below v is takes hb done) =
    subst (λ (z : World). Tells s z events after) (sym is) (done_tells script s command a b below v events after (subst (λ (z : World). s < z.next_serial) is
    low) (taken_to_call command a b takes) hb done)
