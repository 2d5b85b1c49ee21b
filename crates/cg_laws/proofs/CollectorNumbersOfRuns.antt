-- In every world of a run the collector's numbers are bounded.
use Rattle.std.proofs.Common.{◌≡◌, refl, sym, ◌∙◌, ap, subst, ℕ, suc, ◌+◌, ◌*◌, ◌≤◌, Bool, true, false, not, ◌&&◌, List, [], ◌∷◌, length, Some, None, arith}
use Rattle.std.specs.Prelude.{◌||◌, if◌then◌else◌}
use Rattle.std.specs.List.{list_any}
use Rattle.std.proofs.lemmas.Bool.{or_parts}
use Rattle.std.proofs.lemmas.Nat.{mul-le}
use Rattle.cg_script.specs.declared.Script.{Script}
use Rattle.cg_script.specs.declared.Command.{Command}
use Rattle.cg_graph.specs.Object.{Object}
use Rattle.cg_machine.specs.declared.event.Event.{Event}
use Rattle.cg_machine.specs.declared.event.FrameSort.TheVariants.{Call as CallFrame}
use Rattle.cg_machine.specs.World.{World, Numbers, Activity, TopLevel, Framed, Releasing, Dying, Collecting, Collection, Start, opening, push, with_stack, ShuttingDown}
use Rattle.cg_machine.specs.Program.{body_of, commands_of}
use Rattle.cg_machine.specs.Holdings.{is_collecting}
use Rattle.cg_machine.specs.Frame.{procedure_of, start_frame}
use Rattle.cg_machine.specs.Effects.{Changes}
use Rattle.cg_machine.specs.Commands.{new_collection}
use Rattle.cg_machine.specs.Due.{due, due_generation, is_due}
use Rattle.cg_machine.specs.Run.{last_world}
use Rattle.cg_laws.proofs.ShapeLaws.{changes_leave}
use Rattle.cg_laws.proofs.Invariants.{HasCommands, Takes, FromTop, FromFrame, emptied, on, CommandSteps, Steps, InEachWorld, by_runs, last_has}
use Rattle.cg_laws.proofs.SerialsOfSteps.{left_on}
use Rattle.cg_laws.proofs.SerialsOfRuns.{few_serials}
use Rattle.cg_laws.proofs.Measure.{is_first, is_starting}
use Rattle.cg_represents.proofs.Serials.{Rises}
use Rattle.cg_laws.proofs.Ending.{sound_after}
use Rattle.cg_laws.proofs.InvariantOfRuns.{opening_sound}
use Rattle.cg_laws.specs.Few.{AreFew, NumbersAreFew}
use Rattle.cg_laws.proofs.CollectorNumbers.{CountsOne, Limits, Settled, StartsSettled, asked_settles, due_settles, shape_counts, off_top, raised, full_settles}
use Rattle.cg_laws.proofs.Advances.{Advance}
use Rattle.cg_laws.proofs.Advancing.{frame_end_advances, released_advances, dying_advances, phase_advances}
use Rattle.cg_laws.proofs.CountsOfSteps.{IsSettled, advance_counts, starts_counts}

-- What holds between steps. A collection that is about to start leaves the numbers settled too.
pub record CountedAt (limits : Limits) (n : Numbers) (budget : ℕ) (c : Collection) (below : List Activity) : Type 0 where
  pub now : Settled limits n budget below
  pub soon : c.phase ≡ Start → StartsSettled limits n budget below c.generation

-- by what is on top
abbrev pub Counted : Limits → Numbers → ℕ → List Activity → Type 0
Counted limits n budget (Collecting c ∷ below) = CountedAt limits n budget c below
Counted limits n budget stack = Settled limits n budget stack

abbrev pub IsCounted : Limits → World → Type 0
IsCounted limits w = Counted limits w.numbers w.budget w.stack

-- with no collection about to start, settled is enough
settled_counted : (limits : Limits) (n : Numbers) (budget : ℕ) (stack : List Activity) → Settled limits n budget stack → Counted limits n budget stack
settled_counted limits n budget (Collecting c ∷ below) h = record {
  now = off_top limits n budget (Collecting c) below h;
  soon = λ first. let no : true ≡ false = sym (ap is_first first) ∙ (or_parts (is_first c.phase) (list_any is_starting below) h.still).0 in absurd (cc);
}
settled_counted limits n budget stack h = h

-- the numbers as they are now are within the limits
counted_now : (limits : Limits) (n : Numbers) (budget : ℕ) (stack : List Activity) → Counted limits n budget stack → (below : List Activity) × Settled limits n budget below
counted_now limits n budget (Collecting c ∷ below) h = (below, h.now)
counted_now limits n budget stack h = (stack, h)

counted : (limits : Limits) (after : World) → IsSettled limits after → IsCounted limits after
counted limits after s = settled_counted limits after.numbers after.budget after.stack s

-- A command counts at most one object, or asks for a collection.
module _ (limits : Limits) (script : Script) (short : (p : ℕ) → length (body_of script p) ≤ limits.longest) (a : Activity) (below : List Activity) (v : World)
    (ha : HasCommands a) (h : Settled limits (raised v.numbers) v.budget (a ∷ below)) where
  abbrev now : World
  now = with_stack (a ∷ below) v

  stays : IsSettled limits now
  stays = record { spent = h.spent; within = omega (arith, h.within); pending = h.pending; total = h.total; still = h.still }

  -- fewer commands are left
  fewer : (b : Activity) → left_on (b ∷ []) ≤ left_on (a ∷ []) → is_starting b ≡ is_starting a → Settled limits v.numbers v.budget (b ∷ below)
  fewer b less quiet = record { spent = h.spent; within = omega (arith, h.within, less); pending = h.pending; total = h.total; still = ap (λ t. t || list_any is_starting below) quiet ∙ h.still }

  gives_up : (given_up : List ℕ) (after : World) → after.stack ≡ a ∷ below → after.budget ≡ v.budget → CountsOne v.numbers after.numbers → IsSettled limits (push (Releasing given_up) after)
  gives_up given_up after s k one = subst (λ st. Settled limits after.numbers after.budget (Releasing given_up ∷ st)) (sym s)
      (subst (λ b. Settled limits after.numbers b (Releasing given_up ∷ a ∷ below)) (sym k) (record {
        spent = h.spent;
        within = omega (arith, h.within, one.counts_one);
        pending = omega (arith, h.pending, one.pending);
        total = omega (arith, h.total, one.total);
        still = h.still;
      }))

  emptied_counts : (top : Activity) → top ≡ a → HasCommands top → Settled limits v.numbers v.budget (emptied top ∷ below)
  emptied_counts (TopLevel commands) same k = fewer (TopLevel []) (omega arith) (ap is_starting same)
  emptied_counts (Framed f) same k = fewer (Framed (record f { commands = [] })) (omega arith) (ap is_starting same)
  emptied_counts (ShuttingDown started) same k = fewer (ShuttingDown started) (omega arith) (ap is_starting same)
  emptied_counts top same k = absurd k

  command_counts : (w : World) (command : Command) → CommandSteps script (λ w events. IsCounted limits) w command now a below
  command_counts w command = record {
    stays = λ lines answers. counted limits now stays;
    stops = λ lines answers. counted limits (on (emptied a) below v) (emptied_counts a refl ha);
    changes = λ wants_memory lines given_up after shape.
        let l = changes_leave now command wants_memory lines given_up after shape in
        counted limits (push (Releasing given_up) after) (gives_up given_up after l.stack l.budget (shape_counts now command (Changes wants_memory lines given_up after) shape));
    calls = λ f k. counted limits (start_frame script (record { sort = CallFrame; proc = procedure_of now f.serial; subject = f.serial; func = Some f.serial })
        now).1 (starts_counts limits script (record { sort = CallFrame; proc = procedure_of now f.serial; subject = f.serial; func = Some f.serial }) now
        (short (procedure_of now f.serial)) stays);
    asks = λ g low e. record { now = stays; soon = λ first. asked_settles limits v.numbers v.budget (a ∷ below) g h };
  }

-- a collection that is due is pushed
due_pushed : (limits : Limits) (w : World) → IsSettled limits w → (is t : Bool) → is_due w.numbers ≡ is → (g : ℕ)
    → (if is && not t then Some (due_generation w.numbers) else None) ≡ Some g → StartsSettled limits w.numbers w.budget w.stack g
due_pushed limits w h true false e g d = let same : due_generation w.numbers ≡ g = cc in subst (StartsSettled limits w.numbers w.budget w.stack) same
    (due_settles limits w.numbers w.budget w.stack e h)
due_pushed limits w h b t e g d = absurd (let no : None ≡ Some g = d in cc)

due_counts : (limits : Limits) (w : World) → IsSettled limits w → (g : ℕ) → due w ≡ Some g → IsCounted limits (push (new_collection g false w) w)
due_counts limits w h g d = record { now = h; soon = λ first. due_pushed limits w h (is_due w.numbers) (is_collecting w) refl g d }

-- what has commands on top is settled, also after one is taken, which may make an object
on_commands : (limits : Limits) (a : Activity) (below : List Activity) (v : World) → HasCommands a → IsCounted limits (on a below v) → IsSettled limits (on a below v)
on_commands limits (TopLevel commands) below v ha h = h
on_commands limits (Framed f) below v ha h = h
on_commands limits (ShuttingDown started) below v ha h = h
on_commands limits a below v ha h = absurd ha

taken : (limits : Limits) (command : Command) (a b : Activity) (below : List Activity) (v : World) → Takes command a b → IsCounted limits (on a below v)
    → Settled limits (raised v.numbers) v.budget (b ∷ below)
taken limits command a b below v (FromTop commands) h = record { spent = h.spent; within = omega (arith, h.within); pending = h.pending; total = h.total; still = h.still }
taken limits command a b below v (FromFrame f commands left) h =
    let one : length f.commands ≡ length (command ∷ commands) = ap length left in
    record { spent = h.spent; within = omega (arith, h.within, one); pending = h.pending; total = h.total; still = h.still }

module _ (limits : Limits) (script : Script) (short : (p : ℕ) → length (body_of script p) ≤ limits.longest) where
  advances : (top : Activity) (below : List Activity) (v : World) → length v.objects ≤ limits.objects → Settled limits v.numbers v.budget below
      → ((c : Collection) → top ≡ Collecting c → c.phase ≡ Start → StartsSettled limits v.numbers v.budget below c.generation)
      → (lines : List Event) (after : World) → Advance script v top below lines after → IsCounted limits after
  advances top below v fit rest soon lines after step = counted limits after (advance_counts limits script top below v short fit rest soon lines after step)

  keeps_counted : Steps script (λ w. (length w.objects ≤ limits.objects) × IsCounted limits w) (λ w events. IsCounted limits)
  keeps_counted = record {
    starts_due = λ a below v ha g e k. due_counts limits (on a below v) (on_commands limits a below v ha k.1) g e;
    ends = λ a lines below v last k. settled_counted limits v.numbers v.budget (a ∷ below) (on_commands limits a below v (last_has (on a below v) a lines last) k.1);
    shuts_down = λ below v k. record { spent = k.1.spent; within = omega (arith, k.1.within); pending = k.1.pending; total = k.1.total; still = k.1.still };
    gives_up = λ name below v e k. record { spent = k.1.spent; within = omega (arith, k.1.within); pending = k.1.pending; total = k.1.total; still = k.1.still };
    collects_last = λ below v k.
        let now : Settled limits v.numbers v.budget (ShuttingDown true ∷ below) = record {
          spent = k.1.spent;
          within = omega (arith, k.1.within);
          pending = k.1.pending;
          total = k.1.total;
          still = k.1.still;
        } in
        record { now = now; soon = λ first. full_settles limits v.numbers v.budget (ShuttingDown true ∷ below) now };
    commands = λ command a b below v takes hb k. command_counts limits script short b below v hb (taken limits command a b below v takes k.1) (on a below v) command;
    frame_ends = λ f below v left k. advances (Framed f) below v k.0 (off_top limits v.numbers v.budget (Framed f) below k.1) (λ c e. cc) _ _ (frame_end_advances script f below v);
    releases = λ references below v k. advances (Releasing references) below v k.0 (off_top limits v.numbers v.budget (Releasing references) below k.1)
        (λ c e. cc) _ _ (released_advances script references below v);
    dies = λ d below v k. advances (Dying d) below v k.0 (off_top limits v.numbers v.budget (Dying d) below k.1) (λ c e. cc) _ _ (dying_advances script d.object below v d.phase);
    collects = λ c below v events after step k. advances (Collecting c) below v k.0 k.1.now (λ d e. subst (λ (z : Collection). z.phase ≡ Start
        → StartsSettled limits v.numbers v.budget below z.generation) (let same : c ≡ d = cc in same) k.1.soon) events after (phase_advances script c below v
        c.phase events after step);
  }

-- serials rise, so there are fewer objects than serials
risen_length : (low high : ℕ) (objects : List Object) → Rises low high objects → low + length objects ≤ high
risen_length low high [] h = omega (arith, h)
risen_length low high (x ∷ objects) h = omega (arith, h.0, risen_length (suc x.serial) high objects h.1)

-- one object for each command that a run can do, and the garbage list
abbrev limits_of : Script → ℕ → ℕ → Limits
limits_of script budget most = record { longest = most; commands = length (commands_of script.items) + budget * most; objects = length (commands_of script.items) + budget * most + 1 }

worlds_stay_few : (script : Script) (budget most : ℕ) → ((p : ℕ) → length (body_of script p) ≤ most) → InEachWorld script budget (λ w. length w.objects ≤ (limits_of script budget most).objects)
worlds_stay_few script budget most short steps run =
    let w = last_world (opening script budget) steps in
    let sound = sound_after script (opening script budget) steps (opening_sound script budget) run in
    omega (arith, few_serials script budget steps run most short, risen_length 1 w.next_serial w.objects sound.rises)

opening_counted : (script : Script) (budget most : ℕ) → IsCounted (limits_of script budget most) (opening script budget)
opening_counted script budget most = record { spent = 0; within = omega arith; pending = omega arith; total = omega arith; still = refl }

-- settled numbers are few
settled_few : (commands longest budget : ℕ) (n : Numbers) (stack : List Activity)
    → Settled (record { longest = longest; commands = commands; objects = commands + 1 }) n budget stack → AreFew commands n
settled_few commands longest budget n stack h = record {
  zero = omega (arith, h.within);
  one = omega (arith, h.within);
  two = omega (arith, h.within);
  total = omega (arith, h.total);
  pending = omega (arith, h.pending, mul-le h.spent (commands + 1) (2 * (commands + 1)) (commands + 1) (omega (arith, h.within)) (omega arith));
}

pub numbers_few : NumbersAreFew
numbers_few script budget steps run most short =
    let limits = limits_of script budget most in
    let w = last_world (opening script budget) steps in
    let now = counted_now limits w.numbers w.budget w.stack (by_runs script budget (λ w. length w.objects ≤ limits.objects) (IsCounted limits)
    (record { opens = opening_counted script budget most; keeps = keeps_counted limits script short }) (worlds_stay_few script budget most short) steps run)
    in
    settled_few limits.commands most w.budget w.numbers now.0 now.1
