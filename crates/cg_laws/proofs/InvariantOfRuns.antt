-- The invariant of runs, and what each step does to it and to the measure.
use Rattle.std.proofs.Common.{◌≡◌, refl, ap, ℕ, zero, suc, ◌+◌, ◌-◌, ◌*◌, ◌<◌, ◌≤◌, Bool, true, false, List, [], ◌∷◌, ◌++◌, length, arith}
use Rattle.std.specs.Prelude.{slice_get, unwrap_or, option_map}
use Rattle.std.specs.List.{list_any}
use Rattle.cg_script.specs.declared.Script.{Script}
use Rattle.cg_script.specs.declared.Proc.{Proc}
use Rattle.cg_graph.specs.Object.{Object}
use Rattle.cg_machine.specs.declared.event.FrameSpec.{FrameSpec}
use Rattle.cg_machine.specs.Program.{body_of, procedures}
use Rattle.cg_machine.specs.World.{World, Activity, TopLevel, Releasing, Dying, Collecting, ShuttingDown, Running, BudgetIsSpent, opening}
use Rattle.cg_machine.specs.Frame.{start_frame}
use Rattle.cg_laws.proofs.Sums.{tally}
use Rattle.cg_represents.proofs.Serials.{Rises}
use Rattle.cg_laws.proofs.Measure.{alive, commands_in, all_bodies, commands_left, is_starting, due_rank, rank_in, left_in, summary, Lower, by_commands, size_of, entries_in, referents_in, weight_in, bound_names}
use Rattle.cg_laws.proofs.Starting.{starts_either}

-- the commands outside procedures, or the shutdown, are at the bottom and nowhere else
abbrev pub HasBottom : List Activity → Type 0
HasBottom [] = ⊥
HasBottom (TopLevel commands ∷ below) = below ≡ []
HasBottom (ShuttingDown started ∷ below) = below ≡ []
HasBottom (_ ∷ below) = HasBottom below

abbrev pub collections_in : Activity → ℕ
collections_in (Collecting c) = 1
collections_in _ = 0

-- Serials rise and are below the next one, and at most one collection is under way.
pub record Sound (w : World) : Type 0 where
  pub rises : Rises 1 w.next_serial w.objects
  pub bottom : HasBottom w.stack
  pub single : tally collections_in w.stack ≤ 1

pub opening_sound : (script : Script) (budget : ℕ) → Sound (opening script budget)
opening_sound script budget = record { rises = (omega arith, omega arith); bottom = refl; single = omega arith }

-- a step from w to after
pub record Moves (script : Script) (w after : World) : Type 0 where
  pub sound : Sound after
  pub lower : Lower (summary script after) (summary script w)

-- The start of a frame costs more than its commands.
body_below : (procs : List Proc) (p : ℕ) → length (unwrap_or (option_map (λ x. x.body) (slice_get procs p)) []) ≤ tally (λ x. length x.body) procs
body_below (x ∷ procs) (suc p) = omega (arith, body_below procs p)
body_below xs p = omega arith

pays : (budget bodies body : ℕ) → body ≤ bodies → (budget ≡ 0 → ⊥) → (budget - 1) * suc bodies + body < budget * suc bodies
pays zero bodies body h k = absurd (k refl)
pays (suc b) bodies body h k = let e : suc b - 1 ≡ b = omega arith in rw e (omega arith)

-- Nothing rises from w to u.
pub record NoMore (script : Script) (w u : World) : Type 0 where
  pub commands : commands_left script u ≤ commands_left script w
  pub size : size_of u.objects ≤ size_of w.objects
  pub entries : entries_in u.objects ≤ entries_in w.objects
  pub referents : referents_in u.objects ≤ referents_in w.objects
  pub weight : tally weight_in u.stack ≤ tally weight_in w.stack + 16

-- A frame starts in u, which the step from w leads to.
pub starts : (script : Script) (spec : FrameSpec) (w u : World) → Sound u → u.outcome ≡ Running → NoMore script w u → Moves script w (start_frame script spec u).1
starts script spec w u sound running less = starts_either (λ lines. Moves script w) script spec u
    (let lives : alive u.outcome ≡ 1 = ap alive running in
    let fewer : commands_left script (record u { outcome = BudgetIsSpent }) < commands_left script w = omega (arith, lives, less.commands) in record {
      sound = record { rises = sound.rises; bottom = sound.bottom; single = sound.single };
      lower = by_commands fewer (omega (arith, fewer, less.size)) (omega (arith, less.entries)) (omega (arith, less.referents)) (omega (arith, less.weight));
    })
    (λ some.
    let paid = pays u.budget (all_bodies script) (length (body_of script spec.proc)) (body_below (procedures script.items) spec.proc) some in
    let fewer : alive u.outcome + 2 * ((u.budget - 1) * suc (all_bodies script)) + (2 * length (body_of script spec.proc) + tally commands_in u.stack) +
    bound_names u.names < commands_left script w = omega (arith, less.commands, paid) in record {
      sound = record { rises = sound.rises; bottom = sound.bottom; single = omega (arith, sound.single) };
      lower = by_commands fewer (omega (arith, fewer, less.size)) (omega (arith, less.entries)) (omega (arith, less.referents)) (omega (arith, less.weight));
    })

-- Releases and deaths, which a step may put on top.
abbrev pub IsPlain : List Activity → Type 0
IsPlain [] = Unit {0}
IsPlain (Releasing references ∷ tops) = IsPlain tops
IsPlain (Dying d ∷ tops) = IsPlain tops
IsPlain (_ ∷ tops) = ⊥

-- they add nothing but their weight
pub record CountsNothing (tops below : List Activity) : Type 0 where
  pub commands : tally commands_in (tops ++ below) ≡ tally commands_in below
  pub collections : tally collections_in (tops ++ below) ≡ tally collections_in below
  pub starting : list_any is_starting (tops ++ below) ≡ list_any is_starting below
  pub rank : tally rank_in (tops ++ below) ≡ tally rank_in below
  pub left : (objects : List Object) → tally (left_in objects) (tops ++ below) ≡ tally (left_in objects) below
  pub bottom : HasBottom below → HasBottom (tops ++ below)

pub plain_counts : (tops below : List Activity) → IsPlain tops → CountsNothing tops below
plain_counts [] below h = record { commands = refl; collections = refl; starting = refl; rank = refl; left = λ objects. refl; bottom = λ b. b }
plain_counts (Releasing references ∷ tops) below h = let k = plain_counts tops below h in record {
  commands = omega (arith, k.commands);
  collections = omega (arith, k.collections);
  starting = k.starting;
  rank = omega (arith, k.rank);
  left = λ objects. omega (arith, k.left objects);
  bottom =
      k.bottom;
}
plain_counts (Dying d ∷ tops) below h = let k = plain_counts tops below h in record {
  commands = omega (arith, k.commands);
  collections = omega (arith, k.collections);
  starting = k.starting;
  rank = omega (arith, k.rank);
  left = λ objects. omega (arith, k.left objects);
  bottom =
      k.bottom;
}
plain_counts (_ ∷ tops) below h = absurd h

pub due_less : (b c s : Bool) → (b ≡ true → c ≡ true) → due_rank b s ≤ due_rank c s
due_less b c true h = omega arith
due_less true false false h = absurd (let no : false ≡ true = h refl in cc)
due_less b c s h = omega arith
