-- Only commands make objects. A frame costs one of the budget and adds the commands of one procedure.
use Rattle.std.proofs.Common.{◌≡◌, refl, ap, ℕ, zero, suc, ◌+◌, ◌*◌, ◌-◌, ◌≤◌, List, ◌∷◌, ◌++◌, length, arith}
use Rattle.std.proofs.Math.Nat.{suc-mul}
use Rattle.cg_script.specs.declared.Script.{Script}
use Rattle.cg_graph.specs.Object.{Object}
use Rattle.cg_machine.specs.declared.event.Event.{Event}
use Rattle.cg_machine.specs.declared.event.FrameSpec.{FrameSpec}
use Rattle.cg_machine.specs.World.{World, Activity}
use Rattle.cg_machine.specs.Program.{body_of}
use Rattle.cg_machine.specs.Frame.{start_frame}
use Rattle.cg_laws.specs.Origins.{commands_on}
use Rattle.cg_laws.proofs.Sums.{tally}
use Rattle.cg_laws.proofs.Advances.{Advance, Plainly, WithFrame, Continues, continues_idle, Tops, TopGoesOn, GivesReferences}
use Rattle.cg_laws.proofs.Starting.{starts_either}
use Rattle.cg_laws.proofs.Invariants.{on}

abbrev pub left_on : List Activity → ℕ
left_on stack = tally (λ a. length (commands_on a)) stack

-- The next serial, plus one for each command that is left or may still come, is within a bound.
pub record Few (most bound serial budget : ℕ) (stack : List Activity) : Type 0 where
  pub within : serial + left_on stack + budget * most ≤ bound

abbrev pub IsFew : ℕ → ℕ → World → Type 0
IsFew most bound w = Few most bound w.next_serial w.budget w.stack

the_less : (n : ℕ) → suc n - 1 ≡ n
the_less n = omega arith

taken : (budget most : ℕ) → (budget ≡ 0 → ⊥) → budget * most ≡ (budget - 1) * most + most
taken zero most some = absurd (some refl)
taken (suc n) most some = let less : (suc n - 1) * most ≡ n * most = ap (λ k. k * most) (the_less n) in omega (arith, less, suc-mul n most)

pub starts_makes : (most b : ℕ) (script : Script) (spec : FrameSpec) (u : World) → length (body_of script spec.proc) ≤ most → IsFew most b u → IsFew most b (start_frame script spec u).1
starts_makes most b script spec u short h = starts_either (λ lines. IsFew most b) script spec u (record { within = h.within })
    (λ some. record { within = omega (arith, h.within, short, taken u.budget most some) })

-- a step of another activity adds no commands
idle : (before after : List Object) (a b : Activity) → Continues before after a b → length (commands_on b) ≡ 0
idle before after a b c = ap length (continues_idle before after a b c)

pub tops_bring_none : (before after : List Object) (top : Activity) (tops below : List Activity) → Tops before after top tops → left_on (tops ++ below) ≡ left_on below
tops_bring_none before after top tops below (TopGoesOn a b c held) = omega (arith, idle before after a b c)
tops_bring_none before after top tops below (GivesReferences a b references few c held) = omega (arith, idle before after a b c)
tops_bring_none before after top tops below other = omega arith

pub advance_makes : (most b : ℕ) (script : Script) (top : Activity) (below : List Activity) (v : World) → ((p : ℕ) → length (body_of script p) ≤ most)
    → (lines : List Event) (after : World) → Advance script v top below lines after → IsFew most b (on top below v) → IsFew most b after
advance_makes most b script top below v short lines after (Plainly tops objects numbers ls t c n none) h =
    record { within = omega (arith, h.within, tops_bring_none v.objects objects top tops below t) }
advance_makes most b script top below v short lines after (WithFrame spec a objects s c held m) h = starts_makes most b script spec
    (record v { objects = objects; stack = a ∷ below }) (short spec.proc) (record { within = omega (arith, h.within, idle v.objects objects top a c) })
