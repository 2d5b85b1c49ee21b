-- Each step preserves what is known of the weak reference of an exit finalizer.
use Rattle.std.proofs.Common.{◌≡◌, refl, sym, ◌∙◌, ap, subst, ℕ, zero, suc, ◌+◌, true, false, inl, inr, ◌⊎◌, List, [], ◌∷◌, ◌++◌, Option, Some, None, arith}
use Rattle.std.specs.Prelude.{count_by, option_and_then, slice_get, slice_set}
use Rattle.cg_value.specs.declared.Val.{Val}
use Rattle.cg_value.specs.declared.Val.TheVariants.{Ref}
use Rattle.cg_script.specs.declared.Script.{Script}
use Rattle.cg_script.specs.declared.Command.{Command}
use Rattle.cg_script.specs.declared.Command.TheVariants.{Call, Del, Deref}
use Rattle.cg_script.specs.declared.Operand.TheVariants.{Name}
use Rattle.cg_script.specs.Texts.{command_names}
use Rattle.cg_graph.specs.Member.{Includes}
use Rattle.cg_graph.specs.Object.{Object}
use Rattle.cg_graph.specs.Value.{references_of_value}
use Rattle.cg_graph.proofs.Members.{either, Includes-append_cases}
use Rattle.cg_machine.specs.declared.event.Event.{Event}
use Rattle.cg_machine.specs.declared.event.Event.TheVariants.{Enter}
use Rattle.cg_machine.specs.declared.event.FrameSort.TheVariants.{Callback}
use Rattle.cg_machine.specs.World.{World, Activity, TopLevel, Framed, Releasing, ShuttingDown, Frame, Ended, push, with_stack}
use Rattle.cg_machine.specs.Effects.{bound, given_up_by}
use Rattle.cg_machine.specs.Commands.{CommandStep, new_collection}
use Rattle.cg_laws.specs.Laws.{is_enter}
use Rattle.cg_machine.specs.Operands.{object_of}
use Rattle.cg_laws.specs.Origins.{commands_on}
use Rattle.cg_machine.specs.Run.{Step}
use Rattle.cg_laws.proofs.Unreferred.{some_later}
use Rattle.cg_laws.proofs.Invariants.{FromFrame, FromTop, HasCommands, Takes, emptied, on}
use Rattle.cg_represents.proofs.Lists.{found_at}
use Rattle.cg_laws.proofs.ShapeLaws.{changes_leave}
use Rattle.cg_weakcoll.specs.Exits.{AllOther, Exit, IsExit, IsOther, first_of, is_call, next_command}
use Rattle.cg_weakcoll.proofs.ActivitySteps.{IsRaised, all_to_call}
use Rattle.cg_weakcoll.proofs.HiddenKept.{bottom_hidden, dropped_hidden, refused_hidden}
use Rattle.cg_weakcoll.proofs.ExitNamesKept.{done_names, set_away}
use Rattle.cg_weakcoll.proofs.CallbacksOnce.{Spent, Tells, begun_spent, lost_referent, spent_stays}
use Rattle.cg_weakcoll.proofs.OwnCommands.{IsDeref, del_step, deref_step, referent_value}
use Rattle.cg_weakcoll.proofs.HiddenObjects.{Hidden, held_by}
use Rattle.cg_weakcoll.proofs.HiddenObjectSteps.{acted_hidden, done_hidden, pushed, restacked, set_free, taken_hidden}
use Rattle.cg_weakcoll.proofs.ExitStages.{After, AtCall, AtDeref, AtWatch, Before, During, IsTail, Stage, counted, frame_is, heads, high_tame, top_is}
use Rattle.cg_weakcoll.proofs.ExitStageSteps.{step_calls, tame_call, top_call}
use Rattle.cg_weakcoll.proofs.OtherCommands.{call_stack, high_call, same_top}
use Rattle.cg_weakcoll.proofs.WeakReferenceSteps.{went_tells}
use Rattle.cg_weakcoll.proofs.WatchedReference.{Standing, StandsCall, Watching, callbacks, count_cases, none_counted, one_counted}
use Rattle.cg_weakcoll.proofs.KnownOfRuns.{Acted, Asked, Began, Bottomed, Changed, Commanded, Done, Due, GaveUp, Known, Lasted, Over, Stood, Stopped, Went, exactly}

-- what a taken command may do to the weak reference's name
pub data Minds (e : Exit) (command : Command) : Type 0 where
  Quiet : ¬ Includes (command_names command) e.watch → Minds e command
  DerefIt : command ≡ Deref e.object (Name e.watch) → Minds e command
  DelIt : command ≡ Del e.watch → Minds e command

-- a dropped name stands for nothing new
dropped : (names : List (Option Val)) (name x q : ℕ) → Includes (held_by (slice_set names name None) x) q → Includes (held_by names x) q
dropped (u ∷ names) zero zero q m = absurd m
dropped (u ∷ names) (suc name) (suc x) q m = dropped names name x q m
dropped xs name x q m = m

pub object_there : (u : World) (v : Val) (x : Object) → object_of u v ≡ Some x → Includes u.objects x
object_there u (Ref q) x at = (found_at u.objects q x at).0
object_there u v x at = absurd (cc)

module _ (script : Script) (budget : ℕ) (e : Exit) (ex : IsExit script e) where
  other_minds : (c : Command) → IsOther e c → Minds e c
  other_minds c h = Quiet (λ m. h.names e.watch m (inr (inr (inr (inl refl)))))

  tame_minds : (c : Command) (a b : Activity) → Takes c a b → AllOther e (commands_on a) → Minds e c
  tame_minds c a b (FromTop commands) h = other_minds c (h c (inl refl))
  tame_minds c a b (FromFrame f commands left) h = other_minds c (h c (subst (λ cs. Includes cs c) (sym left) (inl refl)))

  own_minds : (c : Command) → IsOther e c ⊎ (c ≡ Call (Name e.exit)) → Minds e c
  own_minds c (inl h) = other_minds c h
  own_minds c (inr is) = subst (Minds e) (sym is) (Quiet (λ m. either m (λ i. ex.watch_exit (sym i)) (λ none. none)))

  top_minds : (cs : List Command) (c : Command) (a b : Activity) → Takes c a b → TopLevel cs ≡ a → ((d : Command) → Includes cs d → IsOther e d ⊎ (d ≡ Call (Name e.exit))) → Minds e c
  top_minds cs c a b (FromTop commands) is own = own_minds c (own c (subst (λ xs. Includes xs c) (sym (top_is cs (c ∷ commands) is)) (inl refl)))
  top_minds cs c a b (FromFrame g commands left) is own = absurd (cc)

  frame_minds : (f : Frame) (c : Command) (a b : Activity) → Takes c a b → Framed f ≡ a → IsTail e f.commands → Minds e c
  frame_minds f c a b (FromTop commands) is t = absurd (cc)
  frame_minds f c a b (FromFrame g commands left) is AtDeref = DerefIt (sym (heads _ c _ commands (ap (λ (q : Frame). q.commands) (frame_is f g is) ∙ left)).0)
  frame_minds f c a b (FromFrame g commands left) is AtWatch = DelIt (sym (heads _ c _ commands (ap (λ (q : Frame). q.commands) (frame_is f g is) ∙ left)).0)
  frame_minds f c a b (FromFrame g commands left) is AtCall = subst (Minds e) (heads _ c _ commands (ap (λ (q : Frame). q.commands) (frame_is f g is) ∙ left)).0 (Quiet (λ m. either m (λ i. ex.watch_function (sym i)) (λ none. none)))
  frame_minds f c a b (FromFrame g commands left) is t = subst (Minds e) (heads _ c _ commands (ap (λ (q : Frame). q.commands) (frame_is f g is) ∙ left)).0 (Quiet (λ m. either m (λ i. ex.watch_object (sym i)) (λ none. none)))

  minded : (Q : List Command → Type 0) (calls : ℕ) (stack : List Activity) (c : Command) (a b : Activity) (below : List Activity) → Stage script e Q calls stack
      → ((cs : List Command) → Includes stack (TopLevel cs) → (d : Command) → Includes cs d → IsOther e d ⊎ (d ≡ Call (Name e.exit))) → stack ≡ a ∷ below
      → Takes c a b → Minds e c
  minded Q calls stack c a b below (Before [] done commands is high at none) own top takes = top_minds commands c a b takes
      (same_top script budget e ex (TopLevel commands) a [] below stack is top).0 (own commands (subst (λ st. Includes st (TopLevel commands)) (sym is)
      (inl refl)))
  minded Q calls stack c a b below (Before (t ∷ tops) done commands is high at none) own top takes =
      tame_minds c a b takes (subst (λ (x : Activity). AllOther e (commands_on x)) (same_top script budget e ex t a (tops ++ TopLevel commands ∷ []) below stack
      is top).0 (high_tame e t (high t (inl refl))))
  minded Q calls stack c a b below (During [] f commands is high tail other q none) own top takes = frame_minds f c a b takes
      (same_top script budget e ex (Framed f) a (TopLevel commands ∷ []) below stack is top).0 tail
  minded Q calls stack c a b below (During (t ∷ tops) f commands is high tail other q none) own top takes =
      tame_minds c a b takes (subst (λ (x : Activity). AllOther e (commands_on x)) (same_top script budget e ex t a (tops ++ Framed f ∷ TopLevel commands ∷ [])
      below stack is top).0 (high_tame e t (high t (inl refl))))
  minded Q calls stack c a b below (After tame few) own top takes = tame_minds c a b takes (tame a (subst (λ st. Includes st a) (sym top) (inl refl)))

  -- it is spent before the last command
  at_call : (s n : ℕ) (w : World) (fs : List Command) → fs ≡ Call (Name e.function) ∷ [] → Standing e s n w fs → (n ≡ 0) × Spent s w
  at_call s n w fs is (StandsCall quiet spent) = (quiet, spent)
  at_call s n w fs is other = absurd (cc)

  -- where a call counts
  counts : (s n calls : ℕ) (w : World) → Stage script e (Standing e s n w) calls w.stack → (is_call e.function (next_command w.stack) ≡ false) ⊎ ((n ≡ 0) × Spent s w)
  counts s n calls w (Before [] done commands is high at none) = inl (ap (λ st. is_call e.function (next_command st)) is ∙ top_call script budget e ex (λ cs. Unit {0}) tt done commands at)
  counts s n calls w (Before (t ∷ tops) done commands is high at none) = inl (ap (λ st. is_call e.function (next_command st)) is ∙ high_call script budget e ex
      t (tops ++ TopLevel commands ∷ []) (high t (inl refl)))
  counts s n calls w (During [] f commands is high tail other q none) = go f.commands refl tail q
    where
      first : (fs : List Command) → f.commands ≡ fs → is_call e.function (first_of fs) ≡ false → is_call e.function (next_command w.stack) ≡ false
      first fs i no_call = ap (λ st. is_call e.function (next_command st)) is ∙ ap (λ xs. is_call e.function (first_of xs)) i ∙ no_call

      go : (fs : List Command) → f.commands ≡ fs → IsTail e fs → Standing e s n w fs → (is_call e.function (next_command w.stack) ≡ false) ⊎ ((n ≡ 0) × Spent s w)
      go fs i AtCall st = inr (at_call s n w _ refl st)
      go fs i other st = inl (first fs i refl)
  counts s n calls w (During (t ∷ tops) f commands is high tail other q none) = inl (ap (λ st. is_call e.function (next_command st)) is
      ∙ high_call script budget e ex t (tops ++ Framed f ∷ TopLevel commands ∷ []) (high t (inl refl)))
  counts s n calls w (After tame few) = inl (tame_call script budget e ex (λ cs. Unit {0}) tt w.stack tame)

  module _ (s n calls : ℕ) (w : World) (events : List Event) (after : World) (k : Known script budget w) (step : Step script w events after)
      (x : Went script w events after) (h : Watching e s n calls w) (stage : Stage script e (Standing e s n w) calls w.stack) where
    tells : Tells s w events after
    tells = went_tells script budget s w events after k h.made x

    calm_after : (n + callbacks s events ≡ 0) ⊎ ((n + callbacks s events ≡ 1) × Spent s after)
    calm_after = either h.calm quiet (λ one. let p = spent_stays s w events after tells one.1 in inr (let z = none_counted s events p.1 in let o = one.0 in omega (arith, z, o), p.0))
      where
        quiet : n ≡ 0 → (n + callbacks s events ≡ 0) ⊎ ((n + callbacks s events ≡ 1) × Spent s after)
        quiet z = either (count_cases s events) (λ c. inl (omega (arith, z, c)))
            (λ m. inr (
              let alone : callbacks s events ≡ callbacks s (Enter Callback s ∷ []) = ap (callbacks s) (tells.begins m).2 in let o = one_counted s
                  in omega (arith, z, alone, o),
              begun_spent script budget s w events after k tells h.made m,
            ))

    spent_after : (n ≡ 0) × Spent s w → (n + callbacks s events ≡ 0) × Spent s after
    spent_after p = let q = spent_stays s w events after tells p.1 in (let z = none_counted s events q.1 in let o = p.0 in omega (arith, z, o), q.0)

    called_after : (calls + step_calls script budget e ex (λ cs. Unit {0}) tt w events ≡ 0) ⊎ ((n + callbacks s events ≡ 0) × Spent s after)
    called_after = either h.called (λ z. either (counts s n calls w stage)
        (λ f. inl (counted calls (count_by is_enter events) (is_call e.function (next_command w.stack)) f ∙ z)) (λ p. inr (spent_after p))) (λ p. inr
        (spent_after p))

    hidden_after : ¬ Includes (all_to_call w.stack) s → Hidden e.watch s w → Hidden e.watch s after
    hidden_after uncalled hid = go x
      where
        due : (g : ℕ) → after ≡ push (new_collection g false w) w → Hidden e.watch s after
        due g is = subst (Hidden e.watch s) (sym is) (pushed e.watch s (new_collection g false w) w (λ f i. cc) hid)

        commanded : (command : Command) (a b : Activity) (below : List Activity) (v : World) → w ≡ on a below v → Takes command a b
            → Done script command (on b below v) b below events after → Minds e command → Hidden e.watch s after
        commanded command a b below v is takes d (Quiet spoken) = done_hidden script e.watch s command b below v events after spoken d
            (taken_hidden e.watch s command a b below v takes (subst (Hidden e.watch s) is hid))
        commanded command a b below v is takes d (DerefIt same) = either (exactly script a b below v command events after takes
            (subst (λ (z : World). Step script z events after) is step)) (λ q. due q.0 (q.2 ∙ ap (λ z. push (new_collection q.0 false z) z) (sym is)))
            (λ c. either (deref_step script (on b below v) events after e.object (Name e.watch)
            (subst (λ (y : Command). CommandStep script (on b below v) y events after) same c)) (λ r. refused_hidden e.watch s r.0 (on b below v) events
            after r.1 turned) got)
          where
            turned : Hidden e.watch s (on b below v)
            turned = taken_hidden e.watch s command a b below v takes (subst (Hidden e.watch s) is hid)

            got : IsDeref script (on b below v) events after e.object (Name e.watch) → Hidden e.watch s after
            got d = subst (Hidden e.watch s) (sym d.yields.1) (pushed e.watch s (Releasing (given_up_by (on b below v) e.object))
                (bound (on b below v) e.object (Some (referent_value script (on b below v) events after d.object.referent))) (λ f i. cc) (record {
                  names = λ y apart. set_free v.names e.object y s (Some (referent_value script (on b below v) events after d.object.referent)) (free d.object.referent refl) (turned.names y apart);
                  root = turned.root;
                  made = turned.made;
                  entries = turned.entries;
                  referents = turned.referents;
                  locals = turned.locals;
                  apart = turned.apart;
                  kind = turned.kind;
                }))
              where
                free : (m : Option ℕ) → d.object.referent ≡ m → ¬ Includes (references_of_value (Some (referent_value script (on b below v) events after m))) s
                free None at i = i
                free (Some q) at i = either i (λ j. turned.referents d.object (object_there (on b below v) d.value d.object d.found) (at ∙ ap (λ z. Some z) j)) (λ none. none)
        commanded command a b below v is takes d (DelIt same) = either (exactly script a b below v command events after takes
            (subst (λ (z : World). Step script z events after) is step)) (λ q. due q.0 (q.2 ∙ ap (λ z. push (new_collection q.0 false z) z) (sym is)))
            (λ c. either (del_step script (on b below v) events after e.watch (subst (λ (y : Command). CommandStep script (on b below v) y events after) same
            c)) (λ r. refused_hidden e.watch s r.0 (on b below v) events after r.1 turned)
            (λ y. subst (Hidden e.watch s) (sym y.1) (dropped_hidden script budget e e.watch s e.watch (on b below v) (given_up_by (on b below v) e.watch) turned)))
          where
            turned : Hidden e.watch s (on b below v)
            turned = taken_hidden e.watch s command a b below v takes (subst (Hidden e.watch s) is hid)

        go : Went script w events after → Hidden e.watch s after
        go (Acted a below top acts) = acted_hidden script budget e.watch s w a below events after k top acts uncalled hid
        go (Due g set none is) = due g is
        go (Over a under place last is) = subst (Hidden e.watch s) (sym is) (restacked e.watch s w (record w { outcome = Ended }) refl refl refl hid.locals hid)
        go (Bottomed below top none is) = subst (Hidden e.watch s) (sym is) (bottom_hidden script budget e e.watch s w (TopLevel []) (ShuttingDown false) below top (λ f i. cc) hid)
        go (GaveUp name below top none is) = subst (Hidden e.watch s) (sym is) (dropped_hidden script budget e e.watch s name w (given_up_by w name) hid)
        go (Lasted below top none is) = subst (Hidden e.watch s) (sym is) (pushed e.watch s (new_collection 2 false w) (with_stack (ShuttingDown true ∷ below)
            w) (λ f i. cc) (bottom_hidden script budget e e.watch s w (ShuttingDown false) (ShuttingDown true) below top (λ f i. cc) hid))
        go (Commanded command a b below v is takes hb d) = commanded command a b below v is takes d (minded (Standing e s n w) calls w.stack command a b below
            stage h.own (ap (λ (z : World). z.stack) is) takes)

    named_after : (q : ℕ) → Includes (held_by after.names e.watch) q → q ≡ s
    named_after q m = h.named q (go x)
      where
        same : after.names ≡ w.names → Includes (held_by w.names e.watch) q
        same is = subst (λ ns. Includes (held_by ns e.watch) q) is m

        kept : slice_get after.names e.watch ≡ slice_get w.names e.watch → Includes (held_by w.names e.watch) q
        kept is = subst (λ o. Includes (references_of_value (option_and_then (λ v. v) o)) q) is m

        commanded : (command : Command) (a b : Activity) (below : List Activity) (v : World) → w ≡ on a below v → Takes command a b
            → Done script command (on b below v) b below events after → Minds e command → Includes (held_by w.names e.watch) q
        commanded command a b below v is takes d (Quiet spoken) = kept (done_names script e.watch command b below v events after spoken d ∙ ap (λ (z : World). slice_get z.names e.watch) (sym is))
        commanded command a b below v is takes d (DerefIt i) = either (exactly script a b below v command events after takes
            (subst (λ (z : World). Step script z events after) is step)) (λ y. same (ap (λ (z : World). z.names) y.2 ∙ ap (λ (z : World). z.names) (sym is)))
            (λ c. either (deref_step script (on b below v) events after e.object (Name e.watch)
            (subst (λ (y : Command). CommandStep script (on b below v) y events after) i c)) (λ r. same (ap (λ (z : World). z.names) r.1.1
            ∙ ap (λ (z : World). z.names) (sym is)))
            (λ y. kept (ap (λ (z : World). slice_get z.names e.watch) y.yields.1 ∙ set_away v.names e.object e.watch _ ex.watch_object ∙ ap (λ (z : World). slice_get z.names e.watch) (sym is))))
        commanded command a b below v is takes d (DelIt i) = either (exactly script a b below v command events after takes
            (subst (λ (z : World). Step script z events after) is step)) (λ y. same (ap (λ (z : World). z.names) y.2 ∙ ap (λ (z : World). z.names) (sym is)))
            (λ c. either (del_step script (on b below v) events after e.watch (subst (λ (y : Command). CommandStep script (on b below v) y events after) i c))
            (λ r. same (ap (λ (z : World). z.names) r.1.1 ∙ ap (λ (z : World). z.names) (sym is)))
            (λ y. subst (λ (z : World). Includes (held_by z.names e.watch) q) (sym is) (dropped v.names e.watch e.watch q (subst (λ (z : World). Includes (held_by z.names e.watch) q) y.1 m))))

        go : Went script w events after → Includes (held_by w.names e.watch) q
        go (Acted a below top acts) = same acts.names
        go (Due g set none is) = same (ap (λ (z : World). z.names) is)
        go (Over a under place last is) = same (ap (λ (z : World). z.names) is)
        go (Bottomed below top none is) = same (ap (λ (z : World). z.names) is)
        go (GaveUp name below top none is) = dropped w.names name e.watch q (subst (λ (z : World). Includes (held_by z.names e.watch) q) is m)
        go (Lasted below top none is) = same (ap (λ (z : World). z.names) is)
        go (Commanded command a b below v is takes hb d) = commanded command a b below v is takes d (minded (Standing e s n w) calls w.stack command a b below
            stage h.own (ap (λ (z : World). z.stack) is) takes)

    -- the script's own commands that are left
    own_after : (cs : List Command) → Includes after.stack (TopLevel cs) → (c : Command) → Includes cs c → IsOther e c ⊎ (c ≡ Call (Name e.exit))
    own_after cs m c i = go x
      where
        in_w : Includes w.stack (TopLevel cs) → IsOther e c ⊎ (c ≡ Call (Name e.exit))
        in_w j = h.own cs j c i

        below_w : (a : Activity) (below : List Activity) → w.stack ≡ a ∷ below → Includes below (TopLevel cs) → IsOther e c ⊎ (c ≡ Call (Name e.exit))
        below_w a below top j = in_w (subst (λ st. Includes st (TopLevel cs)) (sym top) (inr j))

        turned : (command : Command) (a b : Activity) (below : List Activity) → w.stack ≡ a ∷ below → Takes command a b → Includes (b ∷ below) (TopLevel cs) → IsOther e c ⊎ (c ≡ Call (Name e.exit))
        turned command a b below top (FromTop commands) (inl is) = h.own (command ∷ commands) (subst (λ st. Includes st (TopLevel (command ∷ commands)))
            (sym top) (inl refl)) c (inr (subst (λ xs. Includes xs c) (sym (top_is commands cs is)) i))
        turned command a b below top (FromFrame f commands left) (inl is) = absurd (cc)
        turned command a b below top takes (inr j) = below_w a below top j

        stopped : (b : Activity) → HasCommands b → emptied b ≡ TopLevel cs → ⊥
        stopped (TopLevel commands) hb is = subst (λ xs. Includes xs c) (sym (top_is [] cs is)) i
        stopped (Framed f) hb is = cc
        stopped (ShuttingDown started) hb is = cc
        stopped b hb is = absurd hb

        done : (command : Command) (a b : Activity) (below : List Activity) (v : World) → w.stack ≡ a ∷ below → Takes command a b → HasCommands b
            → Done script command (on b below v) b below events after → IsOther e c ⊎ (c ≡ Call (Name e.exit))
        done command a b below v top takes hb (Stood answers is) = turned command a b below top takes (subst (λ (z : World). Includes z.stack (TopLevel cs)) is m)
        done command a b below v top takes hb (Stopped answers is) = either (subst (λ (z : World). Includes z.stack (TopLevel cs)) is m) (λ j. absurd (stopped b hb j)) (λ j. below_w a below top j)
        done command a b below v top takes hb (Changed wants given next is shape) = either (subst (λ (z : World). Includes z.stack (TopLevel cs)) is m)
            (λ j. cc) (λ j. turned command a b below top takes (subst (λ st. Includes st (TopLevel cs)) (changes_leave (on b below v) command wants events given
            next shape).stack j))
        done command a b below v top takes hb (Began f has y) = either (call_stack script budget e ex f.serial (on b below v) events after y) (λ st. turned command a b below top takes (subst (λ z. Includes z (TopLevel cs)) st m))
            (λ st. either (subst (λ z. Includes z (TopLevel cs)) st m) (λ j. cc) (λ j. turned command a b below top takes j))
        done command a b below v top takes hb (Asked g none is) = either (subst (λ (z : World). Includes z.stack (TopLevel cs)) is m) (λ j. cc) (λ j. turned command a b below top takes j)

        raised : (a : Activity) → IsRaised script w a → a ≡ TopLevel cs → ⊥
        raised a r is = subst (IsRaised script w) is r

        go : Went script w events after → IsOther e c ⊎ (c ≡ Call (Name e.exit))
        go (Acted a below top acts) = either (Includes-append_cases acts.tops below (TopLevel cs) (subst (λ st. Includes st (TopLevel cs)) acts.stack m))
            (λ j. absurd (raised (TopLevel cs) (acts.raised (TopLevel cs) j) refl)) (λ j. below_w a below top j)
        go (Due g set none is) = either (subst (λ (z : World). Includes z.stack (TopLevel cs)) is m) (λ j. cc) in_w
        go (Over a under place last is) = in_w (subst (λ (z : World). Includes z.stack (TopLevel cs)) is m)
        go (Bottomed below top none is) = either (subst (λ (z : World). Includes z.stack (TopLevel cs)) is m) (λ j. cc) (λ j. below_w (TopLevel []) below top j)
        go (GaveUp name below top none is) = either (subst (λ (z : World). Includes z.stack (TopLevel cs)) is m) (λ j. cc) in_w
        go (Lasted below top none is) = either (subst (λ (z : World). Includes z.stack (TopLevel cs)) is m) (λ j. cc) (λ j. either j (λ q. cc) (λ q. below_w (ShuttingDown false) below top q))
        go (Commanded command a b below v is takes hb d) = done command a b below v (ap (λ (z : World). z.stack) is) takes hb d

    pub watching_step : Watching e s (n + callbacks s events) (calls + step_calls script budget e ex (λ cs. Unit {0}) tt w events) after
    watching_step = record {
      made = let m = h.made in let l = tells.serial in omega (arith, m, l);
      live = λ y m i r some. let z = tells.comes y m i in let was = some_later z.0 y z.2 r some in let same = sym z.2.serial ∙ i in
          hidden_after (λ waits. let none = (lost_referent script budget w s k waits z.0 z.1 same).referent in let no : None ≡ Some r = sym none ∙ was in cc) (h.live z.0 z.1 same r was);
      calm = calm_after;
      named = named_after;
      own = own_after;
      called = called_after;
    }
