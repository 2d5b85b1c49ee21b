-- A step keeps within bounds: the budget pays for frames, and only deaths lie on releases.
use Rattle.std.proofs.Common.{◌≡◌, refl, ℕ, zero, suc, ◌+◌, ◌-◌, ◌≤◌, Bool, List, ◌∷◌, ◌++◌, arith}
use Rattle.cg_script.specs.declared.Script.{Script}
use Rattle.cg_graph.specs.Object.{Object}
use Rattle.cg_machine.specs.declared.event.Event.{Event}
use Rattle.cg_machine.specs.declared.event.FrameSpec.{FrameSpec}
use Rattle.cg_machine.specs.World.{World, Activity, Releasing, Dying}
use Rattle.cg_machine.specs.Frame.{start_frame}
use Rattle.cg_laws.specs.Bounds.{is_frame, HasNoRelease, AreReleasesApart}
use Rattle.cg_laws.proofs.Sums.{tally, bit}
use Rattle.cg_laws.proofs.Advances.{Advance, Plainly, WithFrame, Continues, DeathGoesOn, Tops, TopEnds, GivesFunction, TopGoesOn, GivesReferences}
use Rattle.cg_laws.proofs.Starting.{starts_either}
use Rattle.cg_laws.proofs.Invariants.{on}

-- how many activities are of a sort
abbrev pub how_many : (Activity → Bool) → List Activity → ℕ
how_many sort stack = tally (λ a. bit (sort a)) stack

-- the frames and the remaining budget are within the run's budget, and releases are apart
pub record Room (b budget : ℕ) (stack : List Activity) : Type 0 where
  pub frames : how_many is_frame stack + budget ≤ b
  pub apart : AreReleasesApart stack

abbrev pub HasRoom : ℕ → World → Type 0
HasRoom b w = Room b w.budget w.stack

taken : (budget : ℕ) → (budget ≡ 0 → ⊥) → budget ≡ budget - 1 + 1
taken zero some = absurd (some refl)
taken (suc n) some = omega arith

pub starts_room : (b : ℕ) (script : Script) (spec : FrameSpec) (u : World) → HasNoRelease u.stack → HasRoom b u → HasRoom b (start_frame script spec u).1
starts_room b script spec u none h = starts_either (λ lines. HasRoom b) script spec u (record { frames = h.frames; apart = h.apart })
    (λ some. record { frames = omega (arith, h.frames, taken u.budget some); apart = (none, h.apart) })

continues_room : (b budget : ℕ) (before after : List Object) (top a : Activity) (below : List Activity) → Continues before after top a
    → Room b budget (top ∷ below) → Room b budget (a ∷ below) × HasNoRelease (a ∷ below)
continues_room b budget before after top a below (DeathGoesOn o phase next waits none) h = (record { frames = omega (arith, h.frames); apart = h.apart }, tt)
continues_room b budget before after top a below other h = (record { frames = omega (arith, h.frames); apart = h.apart }, tt)

popped : (top : Activity) (below : List Activity) → AreReleasesApart (top ∷ below) → AreReleasesApart below
popped (Releasing references) below h = h.2
popped (Dying d) below h = h
popped a below h = h.1

tops_room : (b budget : ℕ) (before after : List Object) (top : Activity) (tops below : List Activity) → Tops before after top tops → Room b budget (top ∷ below) → Room b budget (tops ++ below)
tops_room b budget before after top tops below (TopEnds a gone) h = record { frames = omega (arith, h.frames); apart = popped a below h.apart }
tops_room b budget before after top tops below (GivesFunction f references few) h = record { frames = omega (arith, h.frames); apart = (omega (arith, few), h.apart.0, h.apart.1) }
tops_room b budget before after top tops below (TopGoesOn t a c held) h = (continues_room b budget before after t a below c h).0
tops_room b budget before after top tops below (GivesReferences t a references few c held) h = let k = continues_room b budget before after t a below c h
    in record { frames = omega (arith, k.0.frames); apart = (few, k.1, k.0.apart) }
tops_room b budget before after top tops below other h = record { frames = omega (arith, h.frames); apart = (omega (arith, h.apart.0), h.apart.1, h.apart.2) }

pub advance_room : (b : ℕ) (script : Script) (top : Activity) (below : List Activity) (v : World) (lines : List Event) (after : World)
    → Advance script v top below lines after → HasRoom b (on top below v) → HasRoom b after
advance_room b script top below v lines after (Plainly tops objects numbers ls t c n none) h = tops_room b v.budget v.objects objects top tops below t h
advance_room b script top below v lines after (WithFrame spec a objects s c held m) h = let k = continues_room b v.budget v.objects objects top a below c h
    in starts_room b script spec (record v { objects = objects; stack = a ∷ below }) k.1 k.0
