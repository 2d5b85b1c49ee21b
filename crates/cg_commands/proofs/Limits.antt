-- The numbers of objects and entries that the heap keeps are those of the world, so the limits agree.
use Rattle.std.proofs.Common.{◌≡◌, ◌≢◌, refl, sym, ◌∙◌, ap, ℕ, ◌+◌, ◌<◌, ◌≤◌, Bool, true, false, not, cond, List, [], ◌∷◌, length, map, filter, Option, Some, None, Result, Ok, Err, inl, inr, arith, sum_by}
use Rattle.std.specs.Prelude.{◌⊎◌, ◌==◌, if◌then◌else◌, nat_le, ◌↔◌}
use Rattle.std.proofs.lemmas.Bool.{le-leb, lt-leb}
use Rattle.std.proofs.lemmas.Bool.Decides.{leb_tells}
use Rattle.std.proofs.lemmas.List.Sums.{sum_by-cons}
use Rattle.std.specs.FinMap as fin
use Rattle.cg_graph.specs.Maps.{total, part}
use Rattle.cg_graph.specs.Object.{Object}
use Rattle.cg_graph.specs.Rows.{Row}
use Rattle.cg_graph.specs.Store.{Store, Node, object_from, entries_of, entries_in}
use Rattle.cg_graph.proofs.Maps.{total-remove}
use Rattle.cg_graph.proofs.Objects.{entries-remove}
use Rattle.cg_heap.specs.declared.fault.HeapFault.{HeapFault}
use Rattle.cg_heap.specs.declared.fault.HeapFault.TheVariants as fault
use Rattle.cg_heap.specs.Keeps.{size, one}
use Rattle.cg_heap.specs.Calls.{IsSound, object_number, entry_number}
use Rattle.cg_machine.specs.declared.event.Event.{Event}
use Rattle.cg_machine.specs.World.{World}
use Rattle.cg_machine.specs.Effects.{Changes, live, entry_count, has_room}
use Rattle.cg_graph.specs.declared.limits.TheConstants.{MOST_ENTRIES}
use Rattle.cg_machine.specs.Refusals.{◌>>=◌, unless, entry_limit}
use Rattle.cg_represents.specs.Represents.{Represents}
use Rattle.cg_commands.specs.declared.locals.Locals.{Locals}
use Rattle.cg_commands.specs.Refusals.{refusal_by}
use Rattle.cg_commands.specs.Answers.{PerformsOnHeap}

-- a sum over all objects but the garbage list
module _ (rows : List Row) (F : Object → ℕ) (f : Node → ℕ) (same : (s : ℕ) (n : Node) → F (object_from rows s n) ≡ (if s == 1 then 0 else f n)) where
  sum-others : (es : List (ℕ × Node)) → sum_by F (map (λ (e : ℕ × Node). object_from rows e.0 e.1) es) ≡ sum_by (λ (e : ℕ × Node). f e.1) (filter (λ e. not (e.0 == 1)) es)
  sum-others [] = refl
  sum-others (e ∷ es) =
      sum_by-cons F (object_from rows e.0 e.1) (map (λ (e : ℕ × Node). object_from rows e.0 e.1) es)
      ∙ (λ i. same e.0 e.1 i + sum-others es i)
      ∙ go (e.0 == 1)
    where
      go : (b : Bool) → (if b then 0 else f e.1) + sum_by (λ (e : ℕ × Node). f e.1) (filter (λ e. not (e.0 == 1)) es) ≡ sum_by (λ (e : ℕ × Node). f e.1)
          (cond (not b) (e ∷ filter (λ e. not (e.0 == 1)) es) (filter (λ e. not (e.0 == 1)) es))
      go true = omega arith
      go false = sym (sum_by-cons {X = ℕ × Node} (λ e. f e.1) e (filter (λ e. not (e.0 == 1)) es))

others-total : (store : Store) (w : World) → Represents store w → (F : Object → ℕ) (f : Node → ℕ) → ((s : ℕ) (n : Node) → F (object_from store.rows s n)
    ≡ (if s == 1 then 0 else f n)) → sum_by F w.objects ≡ total f (fin.remove store.nodes 1)
others-total store w r F f same =
    ap (λ os. sum_by F os) (sym r.objects)
    ∙ sum-others store.rows F f same (fin.entries store.nodes)
    ∙ ap (λ es. sum_by (λ (e : ℕ × Node). f e.1) es) (sym (entries-remove store.nodes 1))

one_or_none : (b : Bool) → ◌≡◌ {A = ℕ} (cond (not b) 1 0) (if b then 0 else 1)
one_or_none true = refl
one_or_none false = refl

pub live-number : (store : Store) (w : World) → Represents store w → IsSound store → live w ≡ object_number store
live-number store w r sound =
    let here : part one (fin.get store.nodes 1) ≡ 1 = ap (part one) sound.root.1 in
    let all : sum_by (λ (x : Object). cond (not (x.serial == 1)) 1 0) w.objects ≡ total one (fin.remove store.nodes 1) =
    others-total store w r (λ x. cond (not (x.serial == 1)) 1 0) one (λ s n. one_or_none (s == 1)) in
    let rest = total-remove one store.nodes 1 in
    all ∙ omega (arith, here, rest)

pub entries-number : (store : Store) (w : World) → Represents store w → entry_count w ≡ entry_number store
entries-number store w r =
    let here : part size (fin.get store.nodes 1) ≡ length (entries_of store 1) = known (fin.get store.nodes 1) in
    let all : entry_count w ≡ total size (fin.remove store.nodes 1) = others-total store w r (λ x. if x.serial == 1 then 0 else length x.entries) size (λ s n. refl) in
    let rest = total-remove size store.nodes 1 in
    all ∙ omega (arith, here, rest)
  where
    known : (x : Option Node) → part size x ≡ length (entries_in x)
    known None = refl
    known (Some n) = refl

-- there is room for this many more entries, or there is not
pub room : (store : Store) (w : World) → Represents store w → (n : ℕ) → entry_number store + n ≤ 4000000 → has_room w n ≡ Ok tt
room store w r n fits = ap (λ k. unless (nat_le (k + n) MOST_ENTRIES) entry_limit) (entries-number store w r) ∙ ap (λ b. unless b entry_limit) (le-leb (entry_number store + n) 4000000 fits)

pub no_room : (store : Store) (w : World) → Represents store w → (n : ℕ) → 4000000 < entry_number store + n → has_room w n ≡ Err entry_limit
no_room store w r n full = ap (λ k. unless (nat_le (k + n) MOST_ENTRIES) entry_limit) (entries-number store w r) ∙ ap (λ b. unless b entry_limit) (lt-leb (entry_number store + n) 4000000 full)

-- The heap did not refuse one more entry for the limit: there was room for it.
pub one_fits : {X : Type 0} (store : Store) (r : Result X HeapFault) → r ≢ Err fault.EntryLimit → (4000000 ≤ entry_number store → r ≡ Err fault.EntryLimit) → entry_number store + 1 ≤ 4000000
one_fits store r other limit = known (leb_tells 4000000 (entry_number store))
  where
    known : {b : Bool} → ((b ≡ true) × (4000000 ≤ entry_number store)) ⊎ ((b ≡ false) × (entry_number store < 4000000)) → entry_number store + 1 ≤ 4000000
    known (inl h) = absurd (other (limit h.1))
    known (inr h) = omega (arith, h.1)

-- It refused it.
pub fault-refused : {X : Type 0} (store : Store) (locals : Option Locals) (f : HeapFault) (lines : List Event) (given : List ℕ) (after : World → World)
    (refused_here : Result X HeapFault) → refused_here ≡ Err f → ((refused_here ≡ Err fault.EntryLimit) ↔ (4000000 ≤ entry_number store))
    → refused_here ≢ Err fault.ObjectLimit
    → (new : Store) → new ≡ store → PerformsOnHeap store locals (λ w. has_room w 1 >>= (λ _. Ok (Changes true lines given (after w)))) new (Err (refusal_by f))
unfolding ◌>>=◌
fault-refused store locals fault.ObjectLimit lines given after r is limit objects new same = absurd (objects is)
fault-refused store locals fault.EntryLimit lines given after r is limit objects new same = λ w s.
    let full : 4000000 ≤ entry_number store = limit.0 is in
    (ap (λ q. q >>= (λ _. Ok (Changes true lines given (after w)))) (no_room store w s.represents 1 (omega (arith, full))), same)
fault-refused store locals fault.OutOfMemory lines given after r is limit objects new same = λ w s.
    let fits = one_fits store r (λ e. let no : Err fault.OutOfMemory ≡ Err fault.EntryLimit = sym is ∙ e in cc) limit.1 in
    (inl (record { lines = lines; given_up = given; after = after w; is = ap (λ q. q >>= (λ _. Ok (Changes true lines given (after w)))) (room store w s.represents 1 fits) }), same)
