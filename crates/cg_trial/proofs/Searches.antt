-- A search is one of the candidates or of a generation.
use Rattle.std.proofs.Common.{◌≡◌, ◌≢◌, sym, subst, ℕ, ◌≤◌, arith}
use Rattle.cg_value.specs.declared.Place.{Place}
use Rattle.cg_value.specs.declared.Place.TheVariants.{Gen, Cand}
use Rattle.cg_arena.specs.Nodes.{IsPlace}
use Rattle.cg_trial.specs.declared.subtraction.Search.{Search}
use Rattle.cg_trial.specs.Split.{IsSplitPlace}
use Rattle.cg_trial.specs.Sift.{IsSearch, aside_place, candidate_search}

abbrev pub generation_search : ℕ → Search
generation_search i = record { members = Gen i; aside = Cand }

-- a fact on any search, by the two cases
pub by_search : (P : Search → Type 0) → P candidate_search → ((i : ℕ) → i ≤ 2 → P (generation_search i)) → (s : Search) → IsSearch s → P s
by_search P candidates generation s is = known s.members s.aside is.0 is.1
  where
    known : (members aside : Place) → IsSplitPlace members → aside ≡ aside_place members → P (record { members = members; aside = aside })
    known Cand aside place e = subst (λ (a : Place). P (record { members = Cand; aside = a })) (sym e) candidates
    known (Gen i) aside place e = subst (λ (a : Place). P (record { members = Gen i; aside = a })) (sym e) (generation i place)
    known members aside place e = absurd place

pub search_apart : (s : Search) → IsSearch s → s.members ≢ s.aside
search_apart s is = by_search (λ (t : Search). t.members ≢ t.aside) (λ e. absurd (cc)) (λ i few e. absurd (cc)) s is

pub search_places : (s : Search) → IsSearch s → IsPlace s.members × IsPlace s.aside
search_places s is = by_search (λ (t : Search). IsPlace t.members × IsPlace t.aside) (omega arith, omega arith) (λ i few. (omega (arith, few), omega arith)) s is
