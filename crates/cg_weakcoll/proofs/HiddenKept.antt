-- The functions of an exit finalizer's procedure stay hidden.
use Rattle.std.proofs.Common.{◌≡◌, ◌≢◌, refl, sym, ◌∙◌, ap, subst, ℕ, ◌-◌, Bool, true, false, inl, inr, ◌⊎◌, List, [], ◌∷◌, Option, Some, None}
use Rattle.cg_value.specs.declared.KindCode.{KindCode}
use Rattle.cg_value.specs.declared.KindCode.TheVariants.{Func, Weak}
use Rattle.cg_value.specs.declared.Val.TheVariants.{Ref}
use Rattle.cg_script.specs.declared.Script.{Script}
use Rattle.cg_script.specs.declared.Command.{Command}
use Rattle.cg_script.specs.declared.Command.TheVariants.{MakeFunc}
use Rattle.cg_script.specs.declared.Operand.{Operand}
use Rattle.cg_script.specs.declared.Operand.TheVariants.{Name}
use Rattle.cg_script.specs.Texts.{command_names}
use Rattle.cg_graph.specs.Member.{Includes}
use Rattle.cg_graph.specs.Object.{Object}
use Rattle.cg_graph.proofs.Members.{either, Includes-append_cases}
use Rattle.cg_machine.specs.declared.event.Event.{Event}
use Rattle.cg_machine.specs.declared.event.Event.TheVariants.{Made}
use Rattle.cg_machine.specs.World.{World, Activity, TopLevel, Framed, Releasing, ShuttingDown, Frame, Ended, push, with_stack}
use Rattle.cg_machine.specs.Frame.{Yields, start_frame}
use Rattle.cg_machine.specs.Effects.{Changes, bound, given_up_by, with_new}
use Rattle.cg_machine.specs.Commands.{CommandStep, new_collection, refused, stopped_frame}
use Rattle.cg_machine.specs.Operands.{self_in, weak_in}
use Rattle.cg_machine.specs.Run.{Step}
use Rattle.cg_laws.proofs.Unreferred.{IsLater, later_refl}
use Rattle.cg_laws.proofs.Invariants.{Takes, on}
use Rattle.cg_laws.proofs.ShapeLaws.{shape_comes}
use Rattle.cg_laws.proofs.Starting.{call_frame, called_either}
use Rattle.cg_represents.proofs.Shapes.{ByFunc, IsMadeBy}
use Rattle.cg_weakcoll.specs.Exits.{Exit}
use Rattle.cg_weakcoll.proofs.ActivitySteps.{Acts, all_to_call}
use Rattle.cg_weakcoll.proofs.NewObjects.{new_hidden, old_hidden, unborn, unborn_taken}
use Rattle.cg_weakcoll.proofs.CallbacksOnce.{lost_referent}
use Rattle.cg_weakcoll.proofs.OwnCommands.{call_step, func_step}
use Rattle.cg_weakcoll.proofs.HiddenObjects.{Hidden, IsNoLocal}
use Rattle.cg_weakcoll.proofs.HiddenObjectSteps.{acted_hidden, called_hidden, done_hidden, pushed, restacked, set_free, taken_hidden}
use Rattle.cg_weakcoll.proofs.ExitStages.{CallsIt, IsTold, MakesIt, Quiet}
use Rattle.cg_weakcoll.proofs.OtherCommands.{AreHidden}
use Rattle.cg_weakcoll.proofs.KnownOfRuns.{Acted, Asked, Began, Bottomed, Changed, Commanded, Done, Due, GaveUp, Known, Lasted, Over, Stood, Stopped, Went, exactly}

-- no frame of a stack has the object as a local
abbrev pub HasLocals : ℕ → List Activity → Type 0
HasLocals o stack = (f : Frame) → Includes stack (Framed f) → IsNoLocal o f.sort f.subject

stopped_locals : (o : ℕ) (stack : List Activity) → HasLocals o stack → HasLocals o (stopped_frame stack)
stopped_locals o (Framed g ∷ below) h = λ f m. either m (λ e. let same : record g { commands = [] } ≡ f = cc
    in subst (λ (q : Frame). IsNoLocal o q.sort q.subject) same (h g (inl refl))) (λ i. h f (inr i))
stopped_locals o xs h = h

pub refused_hidden : (n o r : ℕ) (u : World) (events : List Event) (after : World) → Yields (refused r u) events after → Hidden n o u → Hidden n o after
refused_hidden n o r u events after step h = subst (Hidden n o) (sym step.1) (restacked n o u (with_stack (stopped_frame u.stack) u) refl refl refl (stopped_locals o u.stack h.locals) h)

-- a call leaves the objects
pub called_objects : (script : Script) (f : ℕ) (u : World) (events : List Event) (after : World) → Yields (start_frame script (call_frame u f) u) events after → after.objects ≡ u.objects
called_objects script f u events after step = called_either (λ lines w. w.objects ≡ u.objects) script u f events after step refl refl

-- what makes a function of a procedure
made_func : (command : Command) (code : KindCode) (class : Option ℕ) (p : ℕ) → IsMadeBy command code class → code ≡ Func → class ≡ Some p → (name : ℕ)
    × (cells : List Operand) × (command ≡ MakeFunc name p cells)
made_func command code class p (ByFunc name proc cells) c is = (name, cells, let same : proc ≡ p = cc in ap (λ q. MakeFunc name q cells) same)
made_func command code class p other c is = absurd (cc)

done_comes : (script : Script) (command : Command) (b : Activity) (below : List Activity) (v : World) (events : List Event) (after : World) → Done script command (on b below v) b below events after
    → (y : Object) → Includes after.objects y → ((x : Object) × Includes v.objects x × IsLater x y) ⊎ IsMadeBy command y.code y.class
done_comes script command b below v events after (Stood answers is) y m = inl (y, subst (λ (z : World). Includes z.objects y) is m, later_refl y)
done_comes script command b below v events after (Stopped answers is) y m = inl (y, subst (λ (z : World). Includes z.objects y) is m, later_refl y)
done_comes script command b below v events after (Changed wants given next is shape) y m = shape_comes (on b below v) command (Changes wants events given next)
    shape y (subst (λ (z : World). Includes z.objects y) is m)
done_comes script command b below v events after (Began f has step) y m =
    inl (
      y,
      subst (λ os. Includes os y) (called_objects script f.serial (on b below v) events after step) m,
      later_refl y,
    )
done_comes script command b below v events after (Asked g none is) y m = inl (y, subst (λ (z : World). Includes z.objects y) is m, later_refl y)

module _ (script : Script) (budget : ℕ) (e : Exit) where
  uncalled : (w : World) (x : Object) → Known script budget w → Includes w.objects x → x.code ≡ Func → ¬ Includes (all_to_call w.stack) x.serial
  uncalled w x k m code waits = let weak = (lost_referent script budget w x.serial k waits x m refl).code in let no : Func ≡ Weak = sym code ∙ weak in cc

  -- an object that was a function of the procedure
  later_kept : (w after : World) → AreHidden e w → ((x : Object) → Includes w.objects x → x.code ≡ Func → Hidden e.exit x.serial w → Hidden e.exit x.serial after)
      → (x y : Object) → Includes w.objects x → IsLater x y → y.code ≡ Func → y.class ≡ Some e.proc → Hidden e.exit y.serial after
  later_kept w after h step x y m later code class =
      let c = sym later.code ∙ code in subst (λ s. Hidden e.exit s after) (sym later.serial) (step x m c (h x m c (sym later.class ∙ class)))

  same_kept : (w after : World) → after.objects ≡ w.objects → AreHidden e w → ((o : ℕ) → Hidden e.exit o w → Hidden e.exit o after) → AreHidden e after
  same_kept w after objects h step y m code class = step y.serial (h y (subst (λ os. Includes os y) objects m) code class)

  acted_kept : (w : World) (a : Activity) (below : List Activity) (events : List Event) (after : World) → Known script budget w → w.stack ≡ a ∷ below
      → Acts script w below events after → AreHidden e w → AreHidden e after
  acted_kept w a below events after k top acts h y m = let x = acts.grows y m in later_kept w after h (λ z i code hid. acted_hidden script budget e.exit
      z.serial w a below events after k top acts (uncalled w z k i code) hid) x.0 y x.1 x.2.later

  due_kept : (g : ℕ) (asked : Bool) (w u after : World) → u.objects ≡ w.objects → ((o : ℕ) → Hidden e.exit o w → Hidden e.exit o u) → after
      ≡ push (new_collection g asked w) u → AreHidden e w → AreHidden e after
  due_kept g asked w u after objects on_u is h = same_kept w after (ap (λ (z : World). z.objects) is ∙ objects) h (λ o hid. subst (Hidden e.exit o) (sym is)
      (pushed e.exit o (new_collection g asked w) u (λ f i. cc) (on_u o hid)))

  module _ (command : Command) (a b : Activity) (below : List Activity) (v : World) (events : List Event) (after : World) (takes : Takes command a b)
      (k : Known script budget (on a below v)) (h : AreHidden e (on a below v)) where
    turned : (o : ℕ) → Hidden e.exit o (on a below v) → Hidden e.exit o (on b below v)
    turned o hid = taken_hidden e.exit o command a b below v takes hid

    quiet_kept : ¬ Includes (command_names command) e.exit → ((name : ℕ) (cells : List Operand) → command ≢ MakeFunc name e.proc cells)
        → Done script command (on b below v) b below events after → AreHidden e after
    quiet_kept spoken makes done y m code class = either (done_comes script command b below v events after done y m)
        (λ x. later_kept (on a below v) after h (λ z i c hid. done_hidden script e.exit z.serial command b below v events after spoken done (turned z.serial hid)) x.0 y x.1 x.2 code class)
        (λ made. let c = made_func command y.code y.class e.proc made code class in absurd (makes c.0 c.1 c.2))

    told_kept : IsTold e command → Step script (on a below v) events after → Done script command (on b below v) b below events after → AreHidden e after
    told_kept (Quiet spoken makes) step done = quiet_kept spoken makes done
    told_kept (MakesIt is) step done = either (exactly script a b below v command events after takes step) (λ d. due_kept d.0 false (on a below v) (on a below v) after refl (λ o hid. hid) d.2 h)
        (λ s. either (func_step script (on b below v) events after e.exit e.proc (subst (λ (c : Command). CommandStep script (on b below v) c events after) is s))
        (λ r. same_kept (on a below v) after (ap (λ (z : World). z.objects) r.1.1) h (λ o hid. refused_hidden e.exit o r.0 (on b below v) events after r.1 (turned o hid))) made)
      where
        u : World
        u = on b below v

        next : World
        next = push (Releasing (given_up_by u e.exit)) (bound (with_new u Func (Some e.proc) [] None) e.exit (Some (Ref u.next_serial)))

        in_next : AreHidden e next
        in_next y m code class = either (Includes-append_cases v.objects (_ ∷ []) y m)
            (λ i. old_hidden e.exit y.serial e.exit u Func (Some e.proc) [] None (given_up_by u e.exit) (λ n. n) (λ i. cc) (turned y.serial (h y i code class)))
            (λ i. either i (λ is. subst (λ (z : Object). Hidden e.exit z.serial next) is (new_hidden e.exit u Func (Some e.proc) [] None (given_up_by u e.exit)
            (λ c. cc) (λ n. n) (λ c. cc) (unborn_taken u.next_serial command a b below v takes (unborn script budget (on a below v) k)))) (λ none. absurd
            none))

        made : Yields (Made Func u.next_serial ∷ [], next) events after → AreHidden e after
        made y = subst (AreHidden e) (sym y.1) in_next
    told_kept (CallsIt is) step done = either (exactly script a b below v command events after takes step) (λ d. due_kept d.0 false (on a below v) (on a below v) after refl (λ o hid. hid) d.2 h)
        (λ s. either (call_step script (on b below v) events after (Name e.exit) (subst (λ (c : Command). CommandStep script (on b below v) c events after) is s))
        (λ r. same_kept (on a below v) after (ap (λ (z : World). z.objects) r.1.1) h (λ o hid. refused_hidden e.exit o r.0 (on b below v) events after r.1 (turned o hid)))
        (λ c. same_kept (on a below v) after (called_objects script c.object.serial (on b below v) events after c.begins) h
        (λ o hid. called_hidden script e.exit o c.object.serial (on b below v) events after c.begins (turned o hid))))

  pub dropped_hidden : (n o name : ℕ) (w : World) (given : List ℕ) → Hidden n o w → Hidden n o (push (Releasing given) (bound w name None))
  dropped_hidden n o name w given h = pushed n o (Releasing given) (bound w name None) (λ f i. cc) (record {
    names = λ x apart. set_free w.names name x o None (λ m. m) (h.names x apart);
    root = h.root;
    made = h.made;
    entries = h.entries;
    referents = h.referents;
    locals = h.locals;
    apart = h.apart;
    kind = h.kind;
  })

  -- the script's own commands end
  pub bottom_hidden : (n o : ℕ) (w : World) (a b : Activity) (below : List Activity) → w.stack ≡ a ∷ below → ((f : Frame) → b ≢ Framed f) → Hidden n o w → Hidden n o (with_stack (b ∷ below) w)
  bottom_hidden n o w a b below top apart h = restacked n o w (with_stack (b ∷ below) w) refl refl refl (λ f m. either m (λ i. absurd (apart f i))
      (λ i. h.locals f (subst (λ st. Includes st (Framed f)) (sym top) (inr i)))) h

  pub hidden_kept : (w : World) (events : List Event) (after : World) → Known script budget w → AreHidden e w
      → ((command : Command) (a b : Activity) (below : List Activity) → w.stack ≡ a ∷ below → Takes command a b → IsTold e command) → Step script w events after
      → Went script w events after → AreHidden e after
  hidden_kept w events after k h told step (Acted a below top acts) = acted_kept w a below events after k top acts h
  hidden_kept w events after k h told step (Due g set none is) = due_kept g false w w after refl (λ o hid. hid) is h
  hidden_kept w events after k h told step (Over a under place last is) = same_kept w after (ap (λ (z : World). z.objects) is) h
      (λ o hid. subst (Hidden e.exit o) (sym is) (restacked e.exit o w (record w { outcome = Ended }) refl refl refl hid.locals hid))
  hidden_kept w events after k h told step (Bottomed below top none is) = same_kept w after (ap (λ (z : World). z.objects) is) h
      (λ o hid. subst (Hidden e.exit o) (sym is) (bottom_hidden e.exit o w (TopLevel []) (ShuttingDown false) below top (λ f i. cc) hid))
  hidden_kept w events after k h told step (GaveUp name below top none is) = same_kept w after (ap (λ (z : World). z.objects) is) h
      (λ o hid. subst (Hidden e.exit o) (sym is) (dropped_hidden e.exit o name w (given_up_by w name) hid))
  hidden_kept w events after k h told step (Lasted below top none is) = due_kept 2 false w (with_stack (ShuttingDown true ∷ below) w) after refl
      (λ o hid. bottom_hidden e.exit o w (ShuttingDown false) (ShuttingDown true) below top (λ f i. cc) hid) is h
  hidden_kept w events after k h told step (Commanded command a b below v is takes hb done) =
      told_kept command a b below v events after takes (subst (Known script budget) is k) (subst (AreHidden e) is h)
      (told command a b below (ap (λ (z : World). z.stack) is) takes) (subst (λ (z : World). Step script z events after) is step) done
