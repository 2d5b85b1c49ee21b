-- In which order a search finds objects. (Ours.)
use Rattle.std.specs.Prelude.{◌≡◌, ℕ, ◌<◌, ◌≤◌, ◌⊎◌, List, Option, Some, None, slice_get}
use Rattle.cg_graph.specs.Member.{Includes}
use Rattle.cg_search.specs.Walks.{Findings, objects_in, Finds}
use Rattle.cg_inspect.specs.Order.{position_among}

-- What was found stands by rising number.
abbrev pub RiseBy : (ℕ → ℕ) → Findings → Type 0
RiseBy number found = (i k : ℕ) (e f : ℕ × Option ℕ) → i < k → slice_get found i ≡ Some e → slice_get found k ≡ Some f → number e.0 < number f.0

-- Those of the references that were not found before are added, in the order of the references.
pub record FindsInOrder (old : Findings) (refs : List ℕ) (holder : Option ℕ) (new : Findings) : Type 0 where
  pub finds : Finds old refs holder new
  pub fresh : (e : ℕ × Option ℕ) → Includes finds.more e → ¬ Includes (objects_in old) e.0
  pub order : RiseBy (position_among refs) finds.more

-- the holder at this place refers to the one before it refers to the other
abbrev pub IsFollowedFirst : (ℕ → List ℕ) → Findings → ℕ → ℕ → ℕ → Type 0
IsFollowedFirst refs found holder o p =
    (e : ℕ × Option ℕ) × (slice_get found holder ≡ Some e) × (position_among (refs e.0) o < position_among (refs e.0) p)

-- Those that roots hold stand first, by rising serial; the others by the place of their holder, and then by its references.
abbrev pub StandsFirst : (ℕ → List ℕ) → Findings → Option ℕ → ℕ → Option ℕ → ℕ → Type 0
StandsFirst refs found None o None p = o < p
StandsFirst refs found None o (Some k) p = Unit {0}
StandsFirst refs found (Some j) o None p = ⊥
StandsFirst refs found (Some j) o (Some k) p = (j < k) ⊎ ((j ≡ k) × IsFollowedFirst refs found j o p)

-- no holder, or one at no later place
abbrev pub IsNoLater : Option ℕ → ℕ → Type 0
IsNoLater None place = Unit {0}
IsNoLater (Some holder) place = holder ≤ place

-- The search has come to a place: what was found stands in order, and no holder before that place was forgotten.
pub record AreInOrder (refs : ℕ → List ℕ) (found : Findings) (place : ℕ) : Type 0 where
  pub in_turn : (i k o p : ℕ) (h g : Option ℕ) → i < k → slice_get found i ≡ Some (o, h) → slice_get found k ≡ Some (p, g)
      → StandsFirst refs found h o g p
  pub behind : (i o j : ℕ) → slice_get found i ≡ Some (o, Some j) → j < place
  pub first : (j o p : ℕ) (h : Option ℕ) → j < place → slice_get found j ≡ Some (o, h) → Includes (refs o) p
      → (i : ℕ) × (g : Option ℕ) × (slice_get found i ≡ Some (p, g)) × IsNoLater g j
