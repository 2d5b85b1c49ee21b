-- How many entries the parts of the start look at: survivors and what is set aside are among its candidates, and no object is both.
use Rattle.std.proofs.Common.{◌≡◌, sym, ◌∙◌, ap, ℕ, ◌+◌, ◌≤◌, ◌++◌, length, arith}
use Rattle.std.specs.Prelude.{sum_by}
use Rattle.std.proofs.lemmas.List.Sums.{sum_by-append}
use Rattle.cg_value.specs.declared.KindCode.{KindCode}
use Rattle.cg_value.specs.declared.Place.TheVariants.{Untracked, Gen, Cand, Legacy}
use Rattle.cg_script.specs.declared.Script.{Script}
use Rattle.cg_graph.specs.Member.{Includes}
use Rattle.cg_graph.specs.Holdings.{occurrences}
use Rattle.cg_graph.specs.Store.{Store, list_at, place_of, entries_of, IsLive}
use Rattle.cg_graph.proofs.Members.{either, Includes-append_cases}
use Rattle.cg_graph.proofs.Objects.{occurrences-append}
use Rattle.cg_represents.proofs.Lists.{Reach-inside}
use Rattle.cg_heap.specs.Calls.{IsListed}
use Rattle.cg_trial.specs.Split.{entry_number_at}
use Rattle.cg_trial.proofs.Lists.{occurs_in, none_or_some}
use Rattle.cg_trial.proofs.Objects.{entries_there}
use Rattle.cg_trial.proofs.PlacesOfObjects.{once_at, where_is, is_there}
use Rattle.cg_collect.specs.Ready.{IsEmptyAt}
use Rattle.cg_collect.specs.Starting.{Untracks}
use Rattle.cg_collect.specs.Looks.{entries_listed}
use Rattle.cg_collect.proofs.PlacesOfObjects.{entries_on, live_back, nobody_at, stood_at}
use Rattle.cg_collect.proofs.WorkLeft.{sum_alike, sum-inside}
use Rattle.cg_collect.proofs.PlacesInStart.{Trace, at_or_not, same16, candidate_back}

-- A pass that untracks adds no entries to its generation.
pub untracked_fewer : (g : ℕ) (kind : KindCode) (old new : Store) → IsListed old → IsListed new → Untracks g kind old new → entries_listed new (Gen g) ≤ entries_listed old (Gen g)
untracked_fewer g kind old new listed listed_new untracks =
    let f : ℕ → ℕ = λ q. length (entries_of old q) in
    let own : entries_listed new (Gen g) ≡ sum_by f (list_at new (Gen g)) = sum_alike (λ q. length (entries_of new q)) f (list_at new (Gen g))
    (λ q m. ap length (entries_on old new untracks.same q)) in
    omega (arith, own, sum-inside f (list_at new (Gen g)) (list_at old (Gen g)) (once_at new listed_new (Gen g)) (once_at old listed (Gen g)) was_there)
  where
    was_there : (o : ℕ) → Includes (list_at new (Gen g)) o → Includes (list_at old (Gen g)) o
    was_there o m =
        let at = where_is new listed_new (Gen g) o m in
        is_there old listed (Gen g) o (live_back old new untracks.same o at.0)
        (either (untracks.at_most o) (λ stays. sym stays ∙ at.1) (λ went. absurd (let e : Untracked ≡ Gen g = sym went.stands ∙ at.1 in cc)))

module _ (script : Script) (g : ℕ) (s0 s1 s2 s4 s5 s6 : Store) (t : Trace script g s0 s1 s2 s4 s5 s6) (few : g ≤ 2) (listed1 : IsListed s1)
    (listed2 : IsListed s2) (listed5 : IsListed s5) (listed6 : IsListed s6) (empty : IsEmptyAt s5 Legacy) where
  survived : (o : ℕ) → Includes (list_at s2 (Gen g)) o → Includes (list_at s1 (Gen g)) o
  survived o m =
      let at = where_is s2 listed2 (Gen g) o m in
      is_there s1 listed1 (Gen g) o (live_back s1 s2 t.splits.same o at.0)
      (either (at_or_not (place_of s1 o) (Gen g)) (λ e. e) (λ differ. sym (t.splits.others o differ) ∙ at.1))

  -- an uncollectable object was condemned before
  was_candidate : (o : ℕ) → IsLive s6 o → place_of s6 o ≡ Legacy → place_of s2 o ≡ Cand
  was_candidate o live at =
      candidate_back script g s0 s1 s2 s4 s5 s6 t o
      (either (t.sets_aside.others o)
      (λ stays. absurd (nobody_at s5 listed5 Legacy empty o (live_back s5 s6 t.sets_aside.same o live) (sym stays ∙ at)))
      (λ led. (stood_at s5 Cand o (Reach-inside led)).1))

  set_aside : (o : ℕ) → Includes (list_at s6 Legacy) o → Includes (list_at s1 (Gen g)) o
  set_aside o m =
      let at = where_is s6 listed6 Legacy o m in
      let second = was_candidate o at.0 at.1 in
      is_there s1 listed1 (Gen g) o (live_back s1 s6 (same16 script g s0 s1 s2 s4 s5 s6 t) o at.0)
      (either (at_or_not (place_of s1 o) (Gen g)) (λ e. e) (λ differ. absurd (t.splits.none o (sym (t.splits.others o differ) ∙ second))))

  -- none is both
  apart_once : (o : ℕ) → occurrences o (list_at s2 (Gen g) ++ list_at s6 Legacy) ≤ 1
  apart_once o =
      let both = occurrences-append o (list_at s2 (Gen g)) (list_at s6 Legacy) in
      either (none_or_some (occurrences o (list_at s2 (Gen g))))
      (λ none. omega (arith, both, none, once_at s6 listed6 Legacy o))
      (λ some. either (none_or_some (occurrences o (list_at s6 Legacy)))
      (λ none. omega (arith, both, none, once_at s2 listed2 (Gen g) o))
      (λ more.
      let at = where_is s6 listed6 Legacy o (occurs_in (list_at s6 Legacy) o more) in
      let second : Gen g ≡ Cand = sym (where_is s2 listed2 (Gen g) o (occurs_in (list_at s2 (Gen g)) o some)).1 ∙ was_candidate o at.0 at.1 in
      absurd (cc)))

  pub start_entries : entries_listed s2 (Gen g) + entries_listed s6 Legacy ≤ entry_number_at s1 (Gen g)
  start_entries =
      let f : ℕ → ℕ = λ q. length (entries_of s1 q) in
      let second : entries_listed s2 (Gen g) ≡ sum_by f (list_at s2 (Gen g)) = sum_alike (λ q. length (entries_of s2 q)) f (list_at s2 (Gen g)) (λ q m. ap length (entries_on s1 s2 t.splits.same q)) in
      let last : entries_listed s6 Legacy ≡ sum_by f (list_at s6 Legacy) = sum_alike (λ q. length (entries_of s6 q)) f (list_at s6 Legacy)
      (λ q m. ap length (entries_on s1 s6 (same16 script g s0 s1 s2 s4 s5 s6 t) q)) in
      let all : sum_by f (list_at s1 (Gen g)) ≡ entry_number_at s1 (Gen g) = entries_there s1 listed1 (Gen g) few in
      omega (
        arith,
        second,
        last,
        all,
        sum_by-append f (list_at s2 (Gen g)) (list_at s6 Legacy),
        sum-inside f (list_at s2 (Gen g) ++ list_at s6 Legacy) (list_at s1 (Gen g)) apart_once (once_at s1 listed1 (Gen g))
            (λ o m. either (Includes-append_cases (list_at s2 (Gen g)) (list_at s6 Legacy) o m) (survived o) (set_aside o)),
      )
