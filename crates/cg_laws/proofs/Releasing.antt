-- Releases, and frames that start and end, keep the invariant of dying objects.
use Rattle.std.proofs.Common.{◌≡◌, ◌≢◌, refl, sym, ◌∙◌, subst, ℕ, ◌-◌, Bool, true, false, not, inl, inr, List, [], ◌∷◌, ◌++◌, Option, None}
use Rattle.std.specs.Prelude.{◌==◌, if◌then◌else◌, flat_map, option_to_list}
use Rattle.std.proofs.lemmas.Bool.{eqb-true, eq-eqb, and_parts, not-true}
use Rattle.cg_value.specs.declared.Place.TheVariants.{Untracked}
use Rattle.cg_script.specs.declared.Script.{Script}
use Rattle.cg_graph.specs.Member.{Includes}
use Rattle.cg_graph.specs.Value.{references}
use Rattle.cg_graph.specs.Object.{Object, change, with_place, with_referent}
use Rattle.cg_graph.specs.Holdings.{name_holdings, entry_holdings, graph_of}
use Rattle.cg_graph.proofs.Members.{either, Includes-append_left, Includes-append_right, Includes-append_cases, Includes-map_cases}
use Rattle.cg_machine.specs.declared.event.FrameSort.{FrameSort}
use Rattle.cg_machine.specs.declared.event.FrameSort.TheVariants.{Call}
use Rattle.cg_machine.specs.declared.event.FrameSpec.{FrameSpec}
use Rattle.cg_machine.specs.Program.{body_of}
use Rattle.cg_machine.specs.World.{World, Activity, Framed, Releasing, Dying, Death, Frame, Finalizer, BudgetIsSpent, with_stack}
use Rattle.cg_machine.specs.Holdings.{holds, holdings, call_holds, in_degree, is_dying}
use Rattle.cg_machine.specs.Frame.{start_frame, frame_end, gives_up_function, begin_death, released}
use Rattle.cg_represents.proofs.Lists.{absent, no_times, entry_held}
use Rattle.cg_laws.proofs.Unreferred.{IsQuiet, Unheld, Forgotten, Mortal, AreReferred, IsLater, Alters, alters_refl, change_alters, map_quiet, still_forgotten, referred_after, lost_later}
use Rattle.cg_laws.proofs.Unheld.{IsLocalHeld, AreOver, AreResting, Calm, Keeps, resting_stack, resting_after, altered_keeps, same_objects, popped_free, pushed_free, turned_free}
use Rattle.cg_laws.proofs.Starting.{release_either, starts_either}

pub entry_holder : (objects : List Object) (o : ℕ) → Includes (entry_holdings (graph_of objects)) o → (x : Object) × Includes objects x × Includes (references x.entries) o
entry_holder [] o m = absurd m
entry_holder (y ∷ objects) o m =
    either (Includes-append_cases (references y.entries) (entry_holdings (graph_of objects)) o m) (λ k. (y, inl refl, k)) (λ k. let f = entry_holder objects o k in (f.0, inr f.1, f.2))

-- what holds an object, by the parts of a world
pub record HeldByNone (w : World) (o : ℕ) : Type 0 where
  pub names : ¬ Includes (name_holdings w.names) o
  pub root : o ≢ 1
  pub entries : (x : Object) → Includes w.objects x → ¬ Includes (references x.entries) o
  pub stack : ¬ Includes (flat_map holds w.stack) o

pub none_holds : (w : World) (o : ℕ) → in_degree w o ≡ 0 → HeldByNone w o
none_holds w o none = record {
  names = λ m. front (Includes-append_left (names ++ (1 ∷ [])) entries o (Includes-append_left names (1 ∷ []) o m));
  root = λ e. front (Includes-append_left (names ++ (1 ∷ [])) entries o (Includes-append_right names (1 ∷ []) o (inl (sym e))));
  entries = λ x m h. front (Includes-append_right (names ++ (1 ∷ [])) entries o (entry_held w.objects x o m h));
  stack = λ m. absent o (holdings w) none (Includes-append_right (names ++ (1 ∷ []) ++ entries) (flat_map holds w.stack) o m);
}
  where
    names : List ℕ
    names = name_holdings w.names

    entries : List ℕ
    entries = entry_holdings (graph_of w.objects)

    front : ¬ Includes (names ++ (1 ∷ []) ++ entries) o
    front m = absent o (holdings w) none (Includes-append_left (names ++ (1 ∷ []) ++ entries) (flat_map holds w.stack) o m)

pub unheld_degree : (w : World) (o : ℕ) → Unheld w o → in_degree w o ≡ 0
unheld_degree w o h = no_times o (holdings w) (λ m. either (Includes-append_cases (names ++ (1 ∷ []) ++ entries) (flat_map holds w.stack) o m) front h.stack)
  where
    names : List ℕ
    names = name_holdings w.names

    entries : List ℕ
    entries = entry_holdings (graph_of w.objects)

    named : Includes (names ++ (1 ∷ [])) o → ⊥
    named m = either (Includes-append_cases names (1 ∷ []) o m) h.names (λ k. either k (λ e. h.root (sym e)) (λ n. n))

    front : Includes (names ++ (1 ∷ []) ++ entries) o → ⊥
    front m = either (Includes-append_cases (names ++ (1 ∷ [])) entries o m) named (λ k. let x = entry_holder w.objects o k in (h.quiet x.0 x.1).entries x.2)

-- the change of an object that begins to die
abbrev dead : Object → Object
dead x = with_referent None (with_place Untracked x)

dead_later : (x : Object) → IsLater x (dead x)
dead_later x = lost_later

dead_quiet : (o s : ℕ) (x : Object) → IsQuiet o x → IsQuiet o (if x.serial == s then dead x else x)
dead_quiet o s x q = go (x.serial == s)
  where
    go : (b : Bool) → IsQuiet o (if b then dead x else x)
    go true = record { entries = q.entries; untracked = λ e. refl; refers_to_none = λ e. refl }
    go false = q

dies_quiet : (o : ℕ) (x : Object) → ¬ Includes (references x.entries) o → IsQuiet o (if x.serial == o then dead x else x)
dies_quiet o x free = go (x.serial == o) refl
  where
    go : (b : Bool) → (x.serial == o) ≡ b → IsQuiet o (if b then dead x else x)
    go true e = record { entries = free; untracked = λ i. refl; refers_to_none = λ i. refl }
    go false e = record {
      entries = free;
      untracked = λ i. absurd (let no : true ≡ false = sym (eq-eqb x.serial o i) ∙ e in cc);
      refers_to_none = λ i. absurd
          (let no : true ≡ false = sym (eq-eqb x.serial o i) ∙ e in cc);
    }

module _ (script : Script) (below : List Activity) (v : World) where
  ends_calm : Calm script (with_stack (Releasing [] ∷ below) v) → Calm script (with_stack below v)
  ends_calm c = record {
    referred = c.referred;
    over = c.over.1;
    stack = resting_stack script (with_stack below v) below (resting_after script (with_stack (Releasing [] ∷ below) v) (with_stack below v) below
        (λ d m. same_objects script (with_stack (Releasing [] ∷ below) v) (with_stack below v) d.object refl refl (popped_free (Releasing []) below d.object))
        c.stack.1);
  }

  goes_on_calm : (o : ℕ) (references : List ℕ) → Calm script (with_stack (Releasing (o ∷ references) ∷ below) v) → Calm script (with_stack (Releasing references ∷ below) v)
  goes_on_calm o references c = record {
    referred = c.referred;
    over = (tt, c.over.1);
    stack = (
      tt,
      resting_after script (with_stack (Releasing (o ∷ references) ∷ below) v) (with_stack (Releasing references ∷ below) v) below
          (λ d m. same_objects script (with_stack (Releasing (o ∷ references) ∷ below) v) (with_stack (Releasing references ∷ below) v) d.object refl refl
          (turned_free (Releasing (o ∷ references)) (Releasing references) below d.object (λ h k. h (inr k)))) c.stack.1,
    );
  }

  dies_calm : (o : ℕ) (references : List ℕ) → is_dying (with_stack (Releasing references ∷ below) v) o ≡ false → in_degree (with_stack (Releasing references ∷ below) v) o ≡ 0
      → Calm script (with_stack (Releasing references ∷ below) v) → Calm script (begin_death o (with_stack (Releasing references ∷ below) v))
  dies_calm o references fresh none c = record {
    referred = referred_after v.objects (change dead o v.objects) alters c.referred;
    over = (fresh, c.over);
    stack = (unheld, resting_after script now after (Releasing references ∷ below) keeps (λ d m. either m (λ e. cc) (λ k. c.stack.1 d k)));
  }
    where
      now : World
      now = with_stack (Releasing references ∷ below) v

      after : World
      after = begin_death o now

      alters : Alters v.objects (change dead o v.objects)
      alters = change_alters dead dead_later o v.objects

      free : HeldByNone now o
      free = none_holds now o none

      unheld : Unheld after o
      unheld = record {
        quiet = λ y m. let x = Includes-map_cases (λ x. if x.serial == o then dead x else x) v.objects y m in subst (IsQuiet o) x.2 (dies_quiet o x.0 (free.entries x.0 x.1));
        names = free.names;
        root = free.root;
        stack = pushed_free (Dying (record { object = o; phase = Finalizer })) (Releasing references ∷ below) o (λ m. m) free.stack;
      }

      keeps : (d : Death) → Includes (Releasing references ∷ below) (Dying d) → Keeps script now after d.object
      keeps d m = altered_keeps script now after d.object alters (λ l. still_forgotten now after d.object refl alters (map_quiet d.object (λ x. if x.serial == o
          then dead x else x) (dead_quiet d.object o) v.objects) (pushed_free (Dying (record { object = o; phase = Finalizer })) (Releasing references
          ∷ below) d.object (λ k. k)))

pub released_calm : (script : Script) (references : List ℕ) (below : List Activity) (v : World) → Calm script (with_stack (Releasing references ∷ below) v)
    → Calm script (released references below (with_stack (Releasing references ∷ below) v)).1
released_calm script [] below v c = ends_calm script below v c
released_calm script (o ∷ references) below v c = release_either (λ lines. Calm script) o references below v
    (λ e. let parts = and_parts (not (is_dying now o)) (in_degree now o == 0) e in
    dies_calm script below v o references (not-true (is_dying now o) parts.0) (eqb-true (in_degree now o) 0 parts.1) (goes_on_calm script below v o references c))
    (λ e. goes_on_calm script below v o references c)
  where
    now : World
    now = with_stack (Releasing references ∷ below) v

-- A frame starts over activities that rest.
pub starts_calm : (script : Script) (spec : FrameSpec) (u : World) → AreReferred u.objects → AreOver u.stack → AreResting script u u.stack → IsLocalHeld spec.sort spec.subject u.stack
    → ((o : ℕ) → Mortal u.objects o → Forgotten u o → ¬ Includes (call_holds spec.sort spec.func) o) → Calm script (start_frame script spec u).1
starts_calm script spec u referred over resting local held = starts_either (λ lines. Calm script) script spec u
    (record {
      referred = referred;
      over = over;
      stack = resting_stack script spent u.stack (resting_after script u spent u.stack
          (λ d m. same_objects script u spent d.object refl refl (λ k. k)) resting);
    })
    (λ some. record {
      referred = referred;
      over = (local, over);
      stack = (
        tt,
        resting_after script u entered u.stack (λ d m. altered_keeps script u entered d.object (alters_refl u.objects)
            (λ l f. still_forgotten u entered d.object refl (alters_refl u.objects) (λ q. q) (pushed_free frame u.stack d.object (held d.object l f)) f))
            resting,
      );
    })
  where
    frame : Activity
    frame = Framed (record { sort = spec.sort; subject = spec.subject; function = spec.func; commands = body_of script spec.proc })

    spent : World
    spent = record u { outcome = BudgetIsSpent }

    entered : World
    entered = record u { budget = u.budget - 1; stack = frame ∷ u.stack }

pub frame_end_calm : (script : Script) (f : Frame) (below : List Activity) (v : World) → Calm script (with_stack (Framed f ∷ below) v) → Calm script (frame_end f (with_stack below v)).1
frame_end_calm script f below v c = by_sort f.sort f.function (λ o k. k)
  where
    by_sort : (sort : FrameSort) (function : Option ℕ) → ((o : ℕ) → ¬ Includes (call_holds f.sort f.function) o → ¬ Includes (call_holds sort function) o)
        → Calm script (gives_up_function sort function (with_stack below v))
    by_sort Call function free = record {
      referred = c.referred;
      over = (tt, c.over.1);
      stack = (
        tt,
        resting_after script (with_stack (Framed f ∷ below) v) (with_stack (Releasing (option_to_list function) ∷ below) v) below
            (λ d m. same_objects script (with_stack (Framed f ∷ below) v) (with_stack (Releasing (option_to_list function) ∷ below) v) d.object refl refl
            (turned_free (Framed f) (Releasing (option_to_list function)) below d.object (free d.object))) c.stack.1,
      );
    }
    by_sort sort function free = record {
      referred = c.referred;
      over = c.over.1;
      stack = resting_stack script (with_stack below v) below (resting_after script (with_stack (Framed f ∷ below) v) (with_stack below v) below
          (λ d m. same_objects script (with_stack (Framed f ∷ below) v) (with_stack below v) d.object refl refl (popped_free (Framed f) below d.object))
          c.stack.1);
    }
