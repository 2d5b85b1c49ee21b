-- Only commands and the start of a collection change the counts. A frame costs one of the budget and adds the commands of
-- one procedure.
use Rattle.std.proofs.Common.{◌≡◌, refl, ℕ, ◌+◌, ◌*◌, ◌≤◌, List, ◌∷◌, ◌++◌, length, arith}
use Rattle.cg_script.specs.declared.Script.{Script}
use Rattle.cg_graph.specs.Object.{Object}
use Rattle.cg_machine.specs.declared.event.Event.{Event}
use Rattle.cg_machine.specs.declared.event.FrameSpec.{FrameSpec}
use Rattle.cg_machine.specs.World.{World, Activity, Releasing, Dying, Collecting, Collection, Numbers, Start, Finalizer}
use Rattle.cg_machine.specs.Program.{body_of}
use Rattle.cg_machine.specs.Frame.{start_frame}
use Rattle.cg_laws.proofs.Advances.{Advance, Plainly, WithFrame, Renumbers, SameCounts, OneLess, BegunCounts, Continues, DeathGoesOn, DeathClears, CollectionGoesOn, Tops, TopEnds, GivesFunction, GivesReference, BeginsDeath, TopGoesOn, GivesReferences}
use Rattle.cg_laws.proofs.Starting.{starts_either}
use Rattle.cg_laws.proofs.SerialsOfSteps.{IsFew, left_on, starts_makes}
use Rattle.cg_laws.proofs.CollectorNumbers.{Limits, Settled, StartsSettled, on_top}

-- no collection is about to start, and the numbers are within the limits
abbrev pub IsSettled : Limits → World → Type 0
IsSettled limits w = Settled limits w.numbers w.budget w.stack

pub starts_counts : (limits : Limits) (script : Script) (spec : FrameSpec) (u : World) → length (body_of script spec.proc) ≤ limits.longest → IsSettled limits u
    → IsSettled limits (start_frame script spec u).1
starts_counts limits script spec u short h =
    let now : ℕ = u.next_serial + left_on u.stack + u.budget * limits.longest in
    starts_either (λ lines w. IsFew limits.longest now w → IsSettled limits w) script spec u (λ few. h)
    (λ some few. record { spent = h.spent; within = omega (arith, h.within, few.within); pending = h.pending; total = h.total; still = h.still })
    (starts_makes limits.longest now script spec u short (record { within = omega arith }))

-- what replaces the top activity
module _ (limits : Limits) (n : Numbers) (budget : ℕ) (before after : List Object) (below : List Activity) (rest : Settled limits n budget below) where
  continues_counts : (top a : Activity) → Continues before after top a → Settled limits n budget (a ∷ below)
  continues_counts top a (DeathGoesOn o phase next waits none) = on_top limits n budget (Dying (record { object = o; phase = next })) below refl refl rest
  continues_counts top a (DeathClears o weak waiting weaks t first lost) = on_top limits n budget a below refl refl rest
  continues_counts top a (CollectionGoesOn c d same begun early) = on_top limits n budget (Collecting d) below refl begun rest

  tops_count : (top : Activity) (tops : List Activity) → Tops before after top tops → Settled limits n budget (tops ++ below)
  tops_count top tops (TopEnds a gone) = rest
  tops_count top tops (GivesFunction f references few) = on_top limits n budget (Releasing references) below refl refl rest
  tops_count top tops (GivesReference o references) = on_top limits n budget (Releasing references) below refl refl rest
  tops_count top tops (BeginsDeath o references) = on_top limits n budget (Dying (record { object = o; phase = Finalizer })) (Releasing references ∷ below) refl
      refl (on_top limits n budget (Releasing references) below refl refl rest)
  tops_count top tops (TopGoesOn b a c held) = continues_counts b a c
  tops_count top tops (GivesReferences b a references few c held) = on_top limits n budget (Releasing references) (a ∷ below) refl refl (continues_counts b a c)

numbers_count : (limits : Limits) (top : Activity) (objects : List Object) (n now : Numbers) (budget : ℕ) (below : List Activity) → Renumbers top objects n now
    → length objects ≤ limits.objects → Settled limits n budget below
    → ((c : Collection) → top ≡ Collecting c → c.phase ≡ Start → StartsSettled limits n budget below c.generation) → Settled limits now budget below
numbers_count limits top objects n now budget below SameCounts fit rest soon = rest
numbers_count limits top objects n now budget below OneLess fit rest soon = record {
  spent = rest.spent;
  within = omega (arith, rest.within);
  pending = rest.pending;
  total = rest.total;
  still = rest.still;
}
numbers_count limits top objects n now budget below (BegunCounts c survivors is first few) fit rest soon = soon c is first survivors (omega (arith, few, fit))

pub advance_counts : (limits : Limits) (script : Script) (top : Activity) (below : List Activity) (v : World)
    → ((p : ℕ) → length (body_of script p) ≤ limits.longest) → length v.objects ≤ limits.objects → Settled limits v.numbers v.budget below
    → ((c : Collection) → top ≡ Collecting c → c.phase ≡ Start → StartsSettled limits v.numbers v.budget below c.generation)
    → (lines : List Event) (after : World) → Advance script v top below lines after → IsSettled limits after
advance_counts limits script top below v short fit rest soon lines after (Plainly tops objects numbers ls t c n none) = tops_count limits numbers v.budget
    v.objects objects below (numbers_count limits top v.objects v.numbers numbers v.budget below n fit rest soon) top tops t
advance_counts limits script top below v short fit rest soon lines after (WithFrame spec a objects s c held m) = starts_counts limits script spec
    (record v { objects = objects; stack = a ∷ below }) (short spec.proc) (continues_counts limits v.numbers v.budget v.objects objects below rest top a c)
