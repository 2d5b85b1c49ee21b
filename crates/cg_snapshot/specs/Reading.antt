-- What a line adds to what was read so far, if it is allowed there. (Ours.)
use Rattle.std.specs.Prelude.{ℕ, Bool, true, List, [], ◌∷◌, ◌++◌, length, Option, Some, None, option_map, nat_lt, not, ◌&&◌, cond}
use Rattle.std.specs.List.{list_all}
use Rattle.cg_graph.specs.Member.{includes}
use Rattle.cg_snapshot.specs.declared.heap.Member.{Member}
use Rattle.cg_snapshot.specs.declared.question.Question.{Question}
use Rattle.cg_snapshot.specs.declared.question.Question.TheVariants.{Why, Referrers, Hidden, Lost, Dropped, Untold}
use Rattle.cg_snapshot.specs.declared.line.Line.{Line}
use Rattle.cg_snapshot.specs.declared.line.Line.TheVariants as lines
use Rattle.cg_snapshot.specs.declared.draft.Stage.{Stage}
use Rattle.cg_snapshot.specs.declared.draft.Stage.TheVariants.{Before, Inside, Behind}
use Rattle.cg_snapshot.specs.declared.draft.Draft.{Draft}
use Rattle.cg_snapshot.specs.Members.{member, with_untold}

abbrev pub draft : List Member → List Question → Stage → Draft
draft members questions stage = record { members = members; questions = questions; stage = stage }

abbrev pub are_below : ℕ → List ℕ → Bool
are_below count ns = list_all (λ n. nat_lt n count) ns

-- whether a question is about members, given their number
abbrev pub is_asked : ℕ → Question → Bool
is_asked count (Why n but) = nat_lt n count && (are_below count but && not (includes but n))
is_asked count (Referrers n) = nat_lt n count
is_asked count Hidden = true
is_asked count Lost = true
is_asked count (Dropped ns) = are_below count ns
is_asked count Untold = true

-- the draft after the line, if the line is allowed there
abbrev pub inside : List Member → List Question → Line → Option Draft
inside members questions (lines.Tells degree size tracked legacy refs) = Some (draft (members ++ member degree size tracked legacy refs [] ∷ []) questions Inside)
inside members questions (lines.Adds words) = option_map (λ ms. draft ms questions Inside) (with_untold members words)
inside members questions lines.Closes = Some (draft members questions Behind)
inside members questions line = None

abbrev pub behind : List Member → List Question → Line → Option Draft
behind members questions (lines.Asks question) = cond (is_asked (length members) question) (Some (draft members (questions ++ question ∷ []) Behind)) None
behind members questions line = None

abbrev pub before : List Member → List Question → Line → Option Draft
before members questions lines.Opens = Some (draft members questions Inside)
before members questions line = None

abbrev pub step_at : Stage → List Member → List Question → Line → Option Draft
step_at Before members questions line = before members questions line
step_at Inside members questions line = inside members questions line
step_at Behind members questions line = behind members questions line

abbrev pub step : Draft → Line → Option Draft
step d line = step_at d.stage d.members d.questions line
