-- The commands of the procedure: what is known before each.
use Rattle.std.proofs.Common.{◌≡◌, ◌≢◌, refl, sym, ◌∙◌, ap, subst, ℕ, zero, suc, ◌+◌, Bool, true, false, inl, inr, ◌⊎◌, List, [], ◌∷◌, ◌++◌, length, Option, Some, None, arith}
use Rattle.std.specs.Prelude.{◌==◌, flat_map, option_and_then, slice_get, slice_set}
use Rattle.std.specs.List.{list_any}
use Rattle.std.proofs.lemmas.Bool.{eq-eqb, eqb-true}
use Rattle.std.proofs.lemmas.Option.{same_Some}
use Rattle.cg_value.specs.declared.KindCode.TheVariants.{Func, Weak}
use Rattle.cg_value.specs.declared.Val.{Val}
use Rattle.cg_value.specs.declared.Val.TheVariants.{None as Nothing, Int, Str, Ref}
use Rattle.cg_script.specs.declared.Script.{Script}
use Rattle.cg_script.specs.declared.Command.{Command}
use Rattle.cg_script.specs.declared.Command.TheVariants.{Call, Del, Deref, Quit}
use Rattle.cg_script.specs.declared.Operand.TheVariants.{Name}
use Rattle.cg_graph.specs.Member.{Includes}
use Rattle.cg_graph.specs.Holdings.{name_holdings}
use Rattle.cg_graph.specs.Object.{Object, serials}
use Rattle.cg_graph.specs.Value.{references_of_value}
use Rattle.cg_graph.proofs.Members.{either, Includes-append_cases, Includes-map}
use Rattle.cg_machine.specs.declared.event.Event.{Event}
use Rattle.cg_machine.specs.declared.event.FrameSort.{FrameSort}
use Rattle.cg_machine.specs.declared.event.FrameSort.TheVariants.{Call as CallFrame}
use Rattle.cg_machine.specs.World.{World, Activity, TopLevel, Framed, Frame, push, with_stack}
use Rattle.cg_machine.specs.Holdings.{call_holds, holds, is_collection, is_death_of}
use Rattle.cg_machine.specs.Commands.{CommandStep, new_collection}
use Rattle.cg_machine.specs.Operands.{object_of, value_of}
use Rattle.cg_machine.specs.Run.{Step}
use Rattle.cg_laws.proofs.Invariants.{FromFrame, on}
use Rattle.cg_represents.proofs.Lists.{found_at}
use Rattle.cg_laws.proofs.Lookups.{same_object}
use Rattle.cg_laws.specs.Apart.{IsFound}
use Rattle.cg_laws.proofs.SetsApart.{found_apart}
use Rattle.cg_promises.proofs.HoldersMove.{IsFree}
use Rattle.cg_weakcoll.specs.Exits.{Exit, IsExit}
use Rattle.cg_weakcoll.proofs.ActivitySteps.{all_to_call}
use Rattle.cg_weakcoll.proofs.ExitNamesKept.{set_away, set_got}
use Rattle.cg_weakcoll.proofs.CallbacksOnce.{Spent, Tells, spent_stays}
use Rattle.cg_weakcoll.proofs.OwnCommands.{IsDeref, IsRefused, Quitted, del_step, deref_step, quit_step, referent_value}
use Rattle.cg_weakcoll.proofs.HiddenObjects.{held_by}
use Rattle.cg_weakcoll.proofs.ExitStages.{AtDeref, IsTail, heads}
use Rattle.cg_weakcoll.proofs.ExitStageSteps.{Advances}
use Rattle.cg_weakcoll.proofs.OtherCommands.{function_code}
use Rattle.cg_weakcoll.proofs.WatchedReference.{Held, Standing, StandsCall, StandsDeref, StandsObject, StandsQuit, StandsWatch, Watching, callbacks, none_counted}
use Rattle.cg_weakcoll.proofs.KnownOfRuns.{Known, exactly}

-- names hold an object if one of them does
named_by : (names : List (Option Val)) (o : ℕ) → Includes (name_holdings names) o → (x : ℕ) × Includes (held_by names x) o
named_by [] o m = absurd m
named_by (v ∷ names) o m = either (Includes-append_cases (references_of_value v) (name_holdings names) o m) (λ i. (zero, i)) (λ i. let x = named_by names o i in (suc x.0, x.1))

pub name_value : (names : List (Option Val)) (x : ℕ) (v : Val) → option_and_then (λ u. u) (slice_get names x) ≡ Some v → slice_get names x ≡ Some (Some v)
name_value names x v e = go (slice_get names x) refl e
  where
    go : (m : Option (Option Val)) → slice_get names x ≡ m → option_and_then (λ u. u) m ≡ Some v → slice_get names x ≡ Some (Some v)
    go None at k = absurd (cc)
    go (Some u) at k = at ∙ ap (λ q. Some q) k

two_last : (tops : List Activity) (a t b u : Activity) → tops ++ a ∷ t ∷ [] ≡ b ∷ u ∷ [] → a ≡ b
two_last [] a t b u is = cc
two_last (x ∷ []) a t b u is = absurd (cc)
two_last (x ∷ y ∷ []) a t b u is = absurd (cc)
two_last (x ∷ y ∷ z ∷ tops) a t b u is = absurd (cc)

three_last : (tops : List Activity) (a t c b u : Activity) → tops ++ a ∷ t ∷ [] ≡ c ∷ b ∷ u ∷ [] → a ≡ b
three_last [] a t c b u is = absurd (cc)
three_last (x ∷ []) a t c b u is = cc
three_last (x ∷ y ∷ []) a t c b u is = absurd (cc)
three_last (x ∷ y ∷ z ∷ []) a t c b u is = absurd (cc)
three_last (x ∷ y ∷ z ∷ q ∷ tops) a t c b u is = absurd (cc)

module _ (script : Script) (budget : ℕ) (e : Exit) (ex : IsExit script e) (s n calls : ℕ) (w : World) (events : List Event) (after : World)
    (k : Known script budget w) (step : Step script w events after) (t : Tells s w events after) (h : Watching e s n calls w) where
  -- a frame with its script below
  module _ (f : Frame) (below : List Command) (top : w.stack ≡ Framed f ∷ TopLevel below ∷ []) where
    nothing_to_call : ¬ Includes (all_to_call w.stack) s
    nothing_to_call m = subst (λ st. Includes (all_to_call st) s) top m

    none_begun : callbacks s events ≡ 0
    none_begun = none_counted s events (λ m. nothing_to_call (t.begins m).0)

    still_none : n ≡ 0 → n + callbacks s events ≡ 0
    still_none z = let c = none_begun in omega (arith, z, c)

    -- no collection is under way
    apart_now : (z : Object) → Includes w.objects z → ¬ IsFound z.place
    apart_now z m found = k.apart.clear (ap (λ st. list_any is_collection st) top) z m (found_apart z.place found)

    -- the weak reference has lost its name, so it is cleared
    unnamed_spent : ¬ Includes (held_by w.names e.watch) s → Spent s w
    unnamed_spent unnamed = record { made = h.made; unreferred = λ x m i. go x m i x.referent refl; uncalled = nothing_to_call }
      where
        not_function : (x : Object) → Includes w.objects x → x.serial ≡ s → (r : ℕ) → x.referent ≡ Some r → (g : Option ℕ) → f.function ≡ g → (sort : FrameSort) → ¬ Includes (call_holds sort g) s
        not_function x m i r some (Some g) is CallFrame j = either j
            (λ same.
            let z = k.lawful.locals.functions f (subst (λ st. Includes st (Framed f)) (sym top) (inl refl)) g is in
            let both = same_object 1 w.next_serial w.objects z.0 x k.fit.sound.rises z.1 m (z.2 ∙ same ∙ sym i) in
            let func = function_code z.0 z.3 in
            let weak = (k.lawful.orderly.referents x m r some).0 in
            let no : Func ≡ Weak = sym func ∙ ap (λ (q : Object). q.code) both ∙ weak in cc)
            (λ none. none)
        not_function x m i r some None is CallFrame j = j
        not_function x m i r some found is sort j = j

        go : (x : Object) → Includes w.objects x → x.serial ≡ s → (r : Option ℕ) → x.referent ≡ r → x.referent ≡ None
        go x m i None none = none
        go x m i (Some r) some =
            let hid = h.live x m i r some in
            let free : IsFree w.objects w.names w.stack s = record {
              names_none = λ j. let y = named_by w.names s j in by_name y.0 (y.0 == e.watch) refl y.1;
              root_not = hid.root;
              entries_none = hid.entries;
              stack_none = λ j. let q = subst (λ st. Includes (flat_map holds st) s) top j in either (Includes-append_cases (call_holds f.sort f.function) [] s
                  q) (not_function x m i r some f.function refl f.sort) (λ none. none);
            } in
            let dying = k.minded.minds s (subst (Includes (serials w.objects)) i (Includes-map (λ (z : Object). z.serial) w.objects x m)) free in
            absurd (let no : false ≡ true = sym (ap (λ st. list_any (is_death_of s) st) top) ∙ dying in cc)
          where
            by_name : (y : ℕ) (b : Bool) → (y == e.watch) ≡ b → Includes (held_by w.names y) s → ⊥
            by_name y true is j = unnamed (subst (λ z. Includes (held_by w.names z) s) (eqb-true y e.watch is) j)
            by_name y false is j = (h.live x m i r some).names y (λ same. let no : true ≡ false = sym (eq-eqb y e.watch same) ∙ is in cc) j

    -- the object that the procedure gets
    held_now : (r : ℕ) (x : Object) → Includes w.objects x → x.serial ≡ s → x.referent ≡ Some r → (u : World) → u.objects ≡ w.objects
        → ¬ Includes (all_to_call u.stack) s → slice_get u.names e.object ≡ Some (Some (Ref r)) → Held e s (n + callbacks s events) u r
    held_now r x m i some u objects uncalled named = record {
      quiet = either h.calm still_none (λ spent. let no : None ≡ Some r = sym (spent.1.unreferred x m i) ∙ some in cc);
      uncalled = uncalled;
      named = named;
      refers = λ y j q. let both = same_object 1 w.next_serial w.objects x y k.fit.sound.rises m (subst (λ os. Includes os y) objects j) (i ∙ sym q)
          in inr (ap (λ (z : Object). z.referent) (sym both) ∙ some);
      apart = λ z j q. apart_now z (subst (λ os. Includes os z) objects j);
    }

    held_again : (r : ℕ) → Held e s n w r → (u : World) → u.objects ≡ w.objects → ¬ Includes (all_to_call u.stack) s → slice_get u.names e.object
        ≡ slice_get w.names e.object → Held e s (n + callbacks s events) u r
    held_again r old u objects uncalled named = record {
      quiet = still_none old.quiet;
      uncalled = uncalled;
      named = named ∙ old.named;
      refers = λ y j. old.refers y (subst (λ os. Includes os y) objects j);
      apart = λ z j. old.apart z (subst (λ os. Includes os z) objects j);
    }

  -- the commands, in order
  module _ (cs : List Command) (tail : IsTail e cs) (a : Advances w after cs) where
    abbrev f : Frame
    f = a.frame

    abbrev rest : Frame
    rest = record f { commands = cs }

    abbrev under : List Activity
    under = TopLevel a.below ∷ []

    abbrev u : World
    u = on (Framed rest) under w

    is_on : w ≡ on (Framed f) under w
    is_on = ap (λ st. with_stack st w) a.stack

    frame_same : (g q : Frame) → Framed g ≡ Framed q → g.commands ≡ q.commands
    frame_same g q is = cc

    not_empty : cs ≢ []
    not_empty is = go cs tail is
      where
        go : (xs : List Command) → IsTail e xs → xs ≡ [] → ⊥
        go xs AtDeref j = cc
        go xs other j = cc

    -- otherwise the frame would have stopped
    stopped : after.stack ≡ Framed (record f { commands = [] }) ∷ under → ⊥
    stopped is = not_empty (frame_same rest (record f { commands = [] }) (two_last a.tops (Framed rest) (TopLevel a.below) (Framed (record f { commands = [] })) (TopLevel a.below) (sym a.now ∙ is)))

    refuses : IsRefused script u events after → ⊥
    refuses r = stopped (ap (λ (z : World). z.stack) r.1.1)

    -- otherwise a collection would have started
    starts : (g : ℕ) → after ≡ push (new_collection g false (on (Framed f) under w)) (on (Framed f) under w) → ⊥
    starts g is =
        let same = frame_same rest f (three_last a.tops (Framed rest) (TopLevel a.below) (new_collection g false (on (Framed f) under w)) (Framed f)
        (TopLevel a.below) (sym a.now ∙ ap (λ (z : World). z.stack) is)) in
        let longer : length cs ≡ length (a.command ∷ cs) = ap length (same ∙ a.left) in
        absurd (omega (arith, longer))

    does : CommandStep script u a.command events after
    does = either (exactly script (Framed f) (Framed rest) under w a.command events after (FromFrame f cs a.left)
        (subst (λ (z : World). Step script z events after) is_on step)) (λ d. absurd (starts d.0 d.2)) (λ c. c)

    does_as : (c : Command) → a.command ≡ c → CommandStep script u c events after
    does_as c is = subst (λ (x : Command). CommandStep script u x events after) is does

    value_cases : (m : Option ℕ) → (referent_value script u events after m ≡ Nothing) ⊎ ((r : ℕ) × (m ≡ Some r) × (referent_value script u events after m ≡ Ref r))
    value_cases None = inl refl
    value_cases (Some r) = inr (r, refl, refl)

    -- `o = deref w`
    at_deref : a.command ≡ Deref e.object (Name e.watch) → cs ≡ Quit (Name e.object) ∷ Del e.watch ∷ Del e.object ∷ Call (Name e.function) ∷ [] → Standing e s (n + callbacks s events) after cs
    at_deref is left = subst (Standing e s (n + callbacks s events) after) (sym left)
        (StandsQuit (λ v got. either (deref_step script u events after e.object (Name e.watch) (does_as _ is)) (λ r. absurd (refuses r)) (λ d. found d v got)))
      where
        found : IsDeref script u events after e.object (Name e.watch) → (v : Val) → slice_get after.names e.object ≡ Some (Some v) → (v ≡ Nothing)
            ⊎ ((r : ℕ) × (v ≡ Ref r) × Held e s (n + callbacks s events) after r)
        found d v got = either (value_cases d.object.referent) (λ none. inl (is_value ∙ none)) (λ r. inr (r.0, is_value ∙ r.2, held r.0 r.1 (is_value ∙ r.2)))
          where
            is_value : v ≡ referent_value script u events after d.object.referent
            is_value = same_Some v (referent_value script u events after d.object.referent)
                (set_got w.names e.object (Some (referent_value script u events after d.object.referent)) (Some v)
                (subst (λ (z : World). slice_get z.names e.object ≡ Some (Some v)) d.yields.1 got))

            watch_is : (q : Val) → value_of u (Name e.watch) ≡ Some q → object_of u q ≡ Some d.object → Includes w.objects d.object × (d.object.serial ≡ s)
            watch_is (Ref q) at there = let z = found_at w.objects q d.object there in (z.0, z.1 ∙ h.named q (subst (λ m. Includes (references_of_value m) q) (sym at) (inl refl)))
            watch_is v at there = absurd (cc)

            held : (r : ℕ) → d.object.referent ≡ Some r → v ≡ Ref r → Held e s (n + callbacks s events) after r
            held r some is_ref =
                let x = watch_is d.value d.is d.found in
                held_now f a.below a.stack r d.object x.0 x.1 some after (ap (λ (z : World). z.objects) d.yields.1)
                (λ m. subst (λ (z : World). Includes (all_to_call z.stack) s) d.yields.1 m) (got ∙ ap (λ q. Some (Some q)) is_ref)

    -- `quit o`
    at_quit : a.command ≡ Quit (Name e.object) → cs ≡ Del e.watch ∷ Del e.object ∷ Call (Name e.function) ∷ []
        → ((v : Val) → slice_get w.names e.object ≡ Some (Some v) → (v ≡ Nothing) ⊎ ((r : ℕ) × (v ≡ Ref r) × Held e s n w r)) → Standing e s (n + callbacks s events) after cs
    at_quit is left h_quit = subst (Standing e s (n + callbacks s events) after) (sym left)
        (either (quit_step script u events after (Name e.object) (does_as _ is)) (λ r. absurd (refuses r)) (λ v. go v.0 (name_value w.names e.object v.0 v.1)
        v.2))
      where
        go : (v : Val) → slice_get w.names e.object ≡ Some (Some v) → Quitted script u events after v → Standing e s (n + callbacks s events) after (Del e.watch
            ∷ Del e.object ∷ Call (Name e.function) ∷ [])
        go Nothing got q = absurd (stopped (ap (λ (z : World). z.stack) q.1))
        go (Int i) got q = absurd (either (h_quit (Int i) got) (λ no_value. cc) (λ r. let bad : Int i ≡ Ref r.0 = r.1 in cc))
        go (Str i) got q = absurd (either (h_quit (Str i) got) (λ no_value. cc) (λ r. let bad : Str i ≡ Ref r.0 = r.1 in cc))
        go (Ref i) got q = either (h_quit (Ref i) got) (λ no_value. absurd (cc))
            (λ r. StandsWatch r.0 (held_again f a.below a.stack r.0 r.2 after (ap (λ (z : World). z.objects) q.1)
            (λ m. subst (λ (z : World). Includes (all_to_call z.stack) s) q.1 m) (ap (λ (z : World). slice_get z.names e.object) q.1)))

    -- `del w`
    at_watch : a.command ≡ Del e.watch → cs ≡ Del e.object ∷ Call (Name e.function) ∷ [] → (r : ℕ) → Held e s n w r → Standing e s (n + callbacks s events) after cs
    at_watch is left r held = subst (Standing e s (n + callbacks s events) after) (sym left) (either (del_step script u events after e.watch (does_as _ is)) (λ q. absurd (refuses q))
        (λ y. StandsObject r (held_again f a.below a.stack r held after (ap (λ (z : World). z.objects) y.1) (λ m. subst (λ (z : World). Includes (all_to_call z.stack) s) y.1 m)
        (ap (λ (z : World). slice_get z.names e.object) y.1 ∙ set_away w.names e.watch e.object None (λ i. ex.watch_object (sym i))))
        (λ m. gone (slice_get (slice_set w.names e.watch None) e.watch) refl (subst (λ (z : World). Includes (held_by z.names e.watch) s) y.1 m))))
      where
        gone : (m : Option (Option Val)) → slice_get (slice_set w.names e.watch None) e.watch ≡ m → Includes (references_of_value (option_and_then (λ v. v) m)) s → ⊥
        gone None at i = i
        gone (Some v) at i = subst (λ q. Includes (references_of_value q) s) (set_got w.names e.watch None v at) i

    -- `del o`
    at_object : cs ≡ Call (Name e.function) ∷ [] → (r : ℕ) → Held e s n w r → ¬ Includes (held_by w.names e.watch) s → Standing e s (n + callbacks s events) after cs
    at_object left r held unnamed = subst (Standing e s (n + callbacks s events) after) (sym left) (StandsCall (still_none f a.below a.stack held.quiet)
        (spent_stays s w events after t (unnamed_spent f a.below a.stack unnamed)).0)

    pub standing_advances : Standing e s n w f.commands → Standing e s (n + callbacks s events) after cs
    standing_advances st = go f.commands a.left st
      where
        go : (fs : List Command) → fs ≡ a.command ∷ cs → Standing e s n w fs → Standing e s (n + callbacks s events) after cs
        go fs is StandsDeref = let p = heads _ a.command _ cs is in at_deref (sym p.0) (sym p.1)
        go fs is (StandsQuit q) = let p = heads _ a.command _ cs is in at_quit (sym p.0) (sym p.1) q
        go fs is (StandsWatch r held) = let p = heads _ a.command _ cs is in at_watch (sym p.0) (sym p.1) r held
        go fs is (StandsObject r held unnamed) = let p = heads _ a.command _ cs is in at_object (sym p.1) r held unnamed
        go fs is (StandsCall quiet spent) = let p = heads _ a.command _ cs is in absurd (not_empty (sym p.1))
