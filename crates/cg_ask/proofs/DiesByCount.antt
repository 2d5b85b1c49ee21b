-- What dies by count: the members found are the least closed set.
use Rattle.std.proofs.Common.{◌≡◌, refl, sym, ◌∙◌, ap, subst, ℕ, zero, suc, ◌+◌, ◌<◌, ◌≤◌, Bool, true, false, cond, ◌⊎◌, inl, inr, List, [], ◌∷◌, ◌++◌, length, arith, get_or, set, replicate}
use Rattle.std.proofs.lemmas.List.{length-set, length-map, length-replicate}
use Rattle.std.proofs.lemmas.Option.{slice_get_within, slice_get-get_or}
use Rattle.cg_graph.specs.Member.{Includes}
use Rattle.cg_graph.specs.Holdings.{occurrences}
use Rattle.cg_graph.proofs.Members.{either, cases_of}
use Rattle.cg_graph.proofs.Objects.{occurrences-append}
use Rattle.cg_search.specs.Places.{Marks, is_marked}
use Rattle.cg_search.specs.Counts.{targets_from}
use Rattle.cg_search.proofs.Places.{occurrences-same, occurs, occurs_in, unmarked}
use Rattle.cg_snapshot.specs.declared.heap.Member.{Member}
use Rattle.cg_ask.specs.Asked.{rows_of, references_of, degrees_of, degree_at}
use Rattle.cg_ask.specs.Dying.{IsClosed, Dies}
use Rattle.cg_ask.specs.Faults.{AreRight}
use Rattle.cg_ask.specs.Marked.{MarkJust}
use Rattle.cg_ask.specs.Released.{Releases, WaitOnce, mark_at}
use Rattle.cg_ask.proofs.Counting.{targets_few, targets_mono, targets_none, targets_set, row_few}
use Rattle.cg_ask.proofs.FaultsOfHeaps.{covered_all, refs_within}
use Rattle.cg_ask.proofs.Released.{mark_on, mark_off, on_mark, mark_few, mark_set}

-- How far dying has come: which members' references were released, the rest of the in-degrees, and which members wait.
pub record HasDied (ms : List Member) (given : List Bool) (left : List ℕ) (dead : List Bool) (waits : List ℕ) : Type 0 where
  pub done : List Bool
  pub long_done : length done ≡ length ms
  pub long : length dead ≡ length ms
  pub len : length left ≡ length ms
  pub leaves : (i : ℕ) → get_or left i 0 + occurrences i (targets_from done (rows_of ms)) ≡ degree_at ms i
  pub waiting : (i : ℕ) → occurrences i waits + mark_at done i ≡ mark_at dead i
  pub given_dead : (i : ℕ) → Marks given i → Marks dead i
  pub fallen : (i : ℕ) → 0 < degree_at ms i → get_or left i 0 ≡ 0 → Marks dead i
  pub least : (closed : List Bool) → IsClosed ms (Marks given) closed → (i : ℕ) → Marks dead i → Marks closed i

module _ (ms : List Member) (given : List Bool) (right : AreRight ms false) (same_long : length given ≡ length ms) where
  rows_long : length (rows_of ms) ≡ length ms
  rows_long = length-map ms (λ (m : Member). m.refs)

  pub died_first : (left : List ℕ) (dead : List Bool) (waits : List ℕ) → left ≡ degrees_of ms → dead ≡ given → WaitOnce given waits → HasDied ms given left dead waits
  died_first left dead waits is same once =
      subst (λ (ns : List ℕ). HasDied ms given ns dead waits) (sym is)
      (subst (λ (bs : List Bool). HasDied ms given (degrees_of ms) bs waits) (sym same) (record {
        done = replicate (length ms) false;
        long_done = length-replicate (length ms) false;
        long = same_long;
        len = length-map ms (λ (m : Member). m.degree);
        leaves = λ i. omega (arith, ap (occurrences i) (targets_none (length ms) (rows_of ms)));
        waiting = λ i. omega (arith, once i, mark_off (replicate (length ms) false) i (λ m. unmarked (length ms) i m));
        given_dead = λ i m. m;
        fallen = λ i some none. absurd (omega (arith, some, none));
        least = λ closed c i m. c.given i m;
      }))

  -- the one taken from the work list is dead, and its references were not released before
  module _ (left : List ℕ) (dead : List Bool) (waits rest : List ℕ) (at : ℕ) (h : HasDied ms given left dead waits) (popped : waits ≡ rest ++ at ∷ []) where
    occurs_at : (i : ℕ) → occurrences i waits ≡ occurrences i rest + occurrences i (at ∷ [])
    occurs_at i = ap (occurrences i) popped ∙ occurrences-append i rest (at ∷ [])

    not_done : mark_at h.done at ≡ 0
    not_done = omega (arith, h.waiting at, occurs_at at, occurrences-same at at [] refl, mark_few dead at)

    pub at_within : at < length ms
    at_within =
        let on : Marks dead at = on_mark dead at (omega (arith, h.waiting at, occurs_at at, occurrences-same at at [] refl)) in
        omega (arith, slice_get_within dead at true on, h.long)

    off : is_marked h.done at ≡ false
    off = either (cases_of (is_marked h.done at))
        (λ e. absurd (let one : mark_at h.done at ≡ 1 = ap (λ b. cond {A = ℕ} b 1 0) e in omega (arith, one, not_done)))
        (λ e. e)

    abbrev now_done : List Bool
    now_done = set h.done at true

    done_more : (i : ℕ) → occurrences i (targets_from now_done (rows_of ms)) ≡ occurrences i (targets_from h.done (rows_of ms)) + occurrences i (get_or (rows_of ms) at [])
    done_more i = targets_set i h.done (rows_of ms) at (omega (arith, at_within, rows_long)) (h.long_done ∙ sym rows_long) off

    pub row_at_within : (i : ℕ) → Includes (get_or (rows_of ms) at []) i → i < length ms
    row_at_within i m =
        refs_within ms false right i (occurs_in (references_of ms) i (omega (
          arith,
          occurs (get_or (rows_of ms) at []) i m,
          row_few i (rows_of ms) at
              (get_or (rows_of ms) at []) (slice_get-get_or (rows_of ms) at [] (omega (arith, at_within, rows_long))),
        )))

    -- each in-degree has enough left
    pub row_some : (i : ℕ) → occurrences i (get_or (rows_of ms) at []) ≤ get_or left i 0
    row_some i = omega (arith, h.leaves i, done_more i, targets_few i now_done (rows_of ms), covered_all ms false right i)

    done_mark : (i : ℕ) → mark_at now_done i ≡ mark_at h.done i + occurrences i (at ∷ [])
    done_mark i = mark_set h.done at i (omega (arith, at_within, h.long_done)) not_done

    pub died_more : (now : List ℕ) (then : List Bool) (wait : List ℕ) → Releases (get_or (rows_of ms) at []) left dead rest now then wait → HasDied ms given now then wait
    died_more now then wait r = record {
      done = now_done;
      long_done = length-set h.done at true ∙ h.long_done;
      long = r.long ∙ h.long;
      len = r.len ∙ h.len;
      leaves = λ i. omega (arith, r.leaves i, h.leaves i, done_more i);
      waiting = λ i. omega (arith, r.waiting i, h.waiting i, occurs_at i, done_mark i);
      given_dead = λ i m. r.stay i (h.given_dead i m);
      fallen = λ i some none. either (stands (get_or (rows_of ms) at []) i) (λ k. r.falls i k none) (λ k. r.stay i (h.fallen i some (omega (arith, none, r.leaves i, k))));
      least = λ closed c i m. either (r.only i m) (λ d. h.least closed c i d)
          (λ d. c.dies i (omega (arith, occurs (get_or (rows_of ms) at []) i d.0, row_some i, h.leaves i)) (reaches closed c i d.1));
    }
      where
        stands : (xs : List ℕ) (i : ℕ) → Includes xs i ⊎ (occurrences i xs ≡ 0)
        stands xs i = by (occurrences i xs) refl
          where
            by : (n : ℕ) → occurrences i xs ≡ n → Includes xs i ⊎ (occurrences i xs ≡ 0)
            by zero e = inr e
            by (suc n) e = inl (occurs_in xs i (omega (arith, e)))

        done_dead : (i : ℕ) → Marks now_done i → Marks dead i
        done_dead i m = on_mark dead i (omega (arith, mark_on now_done i m, done_mark i, h.waiting i, occurs_at i))

        reaches : (closed : List Bool) → IsClosed ms (Marks given) closed → (i : ℕ) → get_or now i 0 ≡ 0 → occurrences i (targets_from closed (rows_of ms)) ≡ degree_at ms i
        reaches closed c i none =
            let more = targets_mono i now_done closed (rows_of ms) (c.len ∙ sym rows_long) (λ j m. h.least closed c j (done_dead j m)) in
            let few = targets_few i closed (rows_of ms) in
            omega (arith, more, few, covered_all ms false right i, r.leaves i, h.leaves i, done_more i, none)

  -- nothing waits any more
  pub died_all : (left : List ℕ) (dead : List Bool) (waits : List ℕ) → HasDied ms given left dead waits → waits ≡ [] → MarkJust (length ms) (Dies ms (Marks given)) dead
  died_all left dead waits h none = record {
    len = h.long;
    just = λ i. (λ m closed c. h.least closed c i m, λ d. d dead is_closed);
  }
    where
      same : (i : ℕ) → mark_at h.done i ≡ mark_at dead i
      same i = omega (arith, h.waiting i, ap (occurrences i) none)

      is_closed : IsClosed ms (Marks given) dead
      is_closed = record {
        len = h.long;
        given = h.given_dead;
        dies = λ i some all.
            let le = targets_mono i dead h.done (rows_of ms) (h.long_done ∙ sym rows_long) (λ j m. on_mark h.done j (omega (arith, mark_on dead j m, same j))) in
            h.fallen i some (omega (arith, le, all, h.leaves i));
      }

-- the same initial set
pub dies_same : (ms : List Member) (Given Other : ℕ → Type 0) → ((i : ℕ) → Other i → Given i) → (o : ℕ) → Dies ms Other o → Dies ms Given o
dies_same ms Given Other f o d closed c = d closed (record { len = c.len; given = λ i g. c.given i (f i g); dies = c.dies })

pub dead_just : (ms : List Member) (given dead : List Bool) (Given : ℕ → Type 0) → MarkJust (length ms) Given given
    → MarkJust (length ms) (Dies ms (Marks given)) dead → MarkJust (length ms) (Dies ms Given) dead
dead_just ms given dead Given g d = record {
  len = d.len;
  just = λ i. (λ m. dies_same ms Given (Marks given) (λ j k. (g.just j).0 k) i ((d.just i).0 m), λ k. (d.just i).1 (dies_same ms (Marks given) Given (λ j p. (g.just j).1 p) i k));
}
