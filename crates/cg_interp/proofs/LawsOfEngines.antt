-- What the laws of the machine say of a world that an engine represents.
use Rattle.std.proofs.Common.{◌≡◌, ◌≢◌, refl, sym, ◌∙◌, ap, ℕ, ◌+◌, ◌<◌, ◌≤◌, Bool, true, false, cond, inl, inr, List, [], ◌∷◌, Option, None, Some, length, length-append, arith, sum_by}
use Rattle.std.specs.Prelude.{◌==◌, count_by, flat_map, option_map, is_some}
use Rattle.std.specs.FinMap as fin
use Rattle.std.proofs.lemmas.Bool.{eqb-true, eq-eqb, ne_eqb}
use Rattle.std.proofs.lemmas.List.{length-map}
use Rattle.std.proofs.lemmas.List.Sums.{sum_by-cons}
use Rattle.cg_script.specs.declared.Script.{Script}
use Rattle.cg_graph.specs.Maps.{mapped, total}
use Rattle.cg_graph.specs.Member.{Includes}
use Rattle.cg_graph.specs.Holdings.{occurrences}
use Rattle.cg_graph.specs.Object.{Object, is_in_map, serials, object_at}
use Rattle.cg_graph.specs.Store.{Store, Node, outside_of, outside_in, objects_of, object_from, IsLive}
use Rattle.cg_graph.specs.Changes.{unheld}
use Rattle.cg_graph.proofs.Maps.{same_map, get-mapped, total-mapped}
use Rattle.cg_heap.specs.Keeps.{outside_total, one}
use Rattle.cg_heap.specs.Calls.{HasFewHolds, object_number}
use Rattle.cg_heap.proofs.HoldLemmas.{outside-unheld}
use Rattle.cg_heap.proofs.CallerLemmas.{total-unheld_one}
use Rattle.cg_machine.specs.World.{World, Activity, Dying, Death}
use Rattle.cg_machine.specs.Holdings.{holds, is_death_of}
use Rattle.cg_represents.specs.Orderly.{AreDeathsOfOthers}
use Rattle.cg_laws.specs.Lawful.{IsLawful}
use Rattle.cg_laws.specs.Kept.{StaysKept}
use Rattle.cg_represents.specs.Represents.{Represents}
use Rattle.cg_machine.specs.Run.{last_world}
use Rattle.cg_death.proofs.CallerLemmas.{lives_in_heap}
use Rattle.cg_interp.specs.declared.activity.Activity.{Activity as Own}
use Rattle.cg_interp.specs.Engines.{State, StandsFor, ShowsAll, under}
use Rattle.cg_interp.specs.Turns.{DyingIsSound, StaysSound, IsFit}

count_more : (o : ℕ) (a : Activity) (below : List Activity) → count_by (is_death_of o) (a ∷ below) ≡ cond (is_death_of o a) 1 0 + count_by (is_death_of o) below
count_more o a below = sum_by-cons (λ (b : Activity). cond {A = ℕ} (is_death_of o b) 1 0) a below

-- no death of an object
no_deaths : (o : ℕ) (stack : List Activity) → ((e : Death) → Includes stack (Dying e) → e.object ≢ o) → count_by (is_death_of o) stack ≡ 0
no_deaths o [] none = refl
no_deaths o (Dying d ∷ below) none =
    let zero : cond {A = ℕ} (d.object == o) 1 0 ≡ 0 = ap (λ b. cond {A = ℕ} b 1 0) (ne_eqb d.object o (none d (inl refl))) in
    omega (arith, count_more o (Dying d) below, zero, no_deaths o below (λ e m. none e (inr m)))
no_deaths o (a ∷ below) none = omega (arith, count_more o a below, no_deaths o below (λ e m. none e (inr m)))

-- no object dies twice
dying_once : (o : ℕ) (stack : List Activity) → AreDeathsOfOthers stack → count_by (is_death_of o) stack ≤ 1
dying_once o [] others = omega arith
dying_once o (Dying d ∷ below) others = go (d.object == o) refl (dying_once o below others.1)
  where
    go : (b : Bool) → (d.object == o) ≡ b → count_by (is_death_of o) below ≤ 1 → count_by (is_death_of o) (Dying d ∷ below) ≤ 1
    go true e rest =
        let none : count_by (is_death_of o) below ≡ 0 = no_deaths o below (λ f m same. others.0 d refl f m (same ∙ sym (eqb-true d.object o e))) in
        let one : cond {A = ℕ} (d.object == o) 1 0 ≡ 1 = ap (λ b. cond {A = ℕ} b 1 0) e in
        omega (arith, count_more o (Dying d) below, none, one)
    go false e rest =
        let zero : cond {A = ℕ} (d.object == o) 1 0 ≡ 0 = ap (λ b. cond {A = ℕ} b 1 0) e in
        omega (arith, count_more o (Dying d) below, rest, zero)
dying_once o (a ∷ below) others = omega (arith, count_more o a below, dying_once o below others.1)

-- what holds of the deaths in a lawful world
pub dying_sound : (script : Script) (budget : ℕ) (w : World) → IsLawful script budget w → DyingIsSound w
dying_sound script budget w lawful = record { unheld = lawful.unheld; once = λ o. dying_once o w.stack lawful.orderly.others }

pub stays_sound : (script : Script) (budget : ℕ) (w : World) → StaysKept script budget w → StaysSound script w
stays_sound script budget w stays steps run = dying_sound script budget (last_world w steps) (stays steps run).lawful

-- each activity represents at least one of the machine
pub at_least : (script : Script) (activities : List Own) (stack : List Activity) → ShowsAll script activities stack → length activities ≤ length stack
at_least script [] stack is = omega arith
at_least script (top ∷ activities) stack shows = by shows.tops shows.some (ap length shows.is ∙ length-append shows.tops shows.below) (at_least script activities shows.below shows.over)
  where
    by : (tops : List Activity) → tops ≢ [] → length stack ≡ length tops + length shows.below → length activities ≤ length shows.below → length (top ∷ activities) ≤ length stack
    by [] some sum rest = absurd (some refl)
    by (a ∷ tops) some sum rest = omega (arith, sum, rest)

-- so there is room on the stack
pub room_left : (script : Script) (e : State) (w : World) → StandsFor script e w → IsLawful script e.first_budget w → IsFit script e → 3 < e.room
room_left script e w stands lawful fit =
    let same : length (objects_of e.store) ≡ length w.objects = ap length stands.represents.objects in
    omega (arith, at_least script e.activities w.stack stands.shows, same, lawful.bounded.height, fit.room)

-- and without its top
pub has_room : (script : Script) (top : Own) (e : State) (w : World) → StandsFor script (under top e) w → IsLawful script e.first_budget w → IsFit script e → 4 < e.room
has_room script top e w stands lawful fit =
    let shown : length (top ∷ e.activities) ≤ length w.stack = at_least script (top ∷ e.activities) w.stack stands.shows in
    let same : length (objects_of e.store) ≡ length w.objects = ap length stands.represents.objects in
    omega (arith, shown, same, lawful.bounded.height, fit.room)

-- An object of the world is found in the heap, and lives there.
pub in_map : (objects : List Object) (o : ℕ) → Includes (serials objects) o → is_in_map objects o ≡ true
in_map [] o m = absurd m
in_map (x ∷ objects) o m = go (x.serial == o) refl m (in_map objects o)
  where
    go : (b : Bool) → (x.serial == o) ≡ b → Includes (serials (x ∷ objects)) o → (Includes (serials objects) o → is_in_map objects o ≡ true) → is_some (cond b (Some x) (object_at objects o)) ≡ true
    go true e n rest = refl
    go false e (inl same) rest = absurd (let clash : false ≡ true = sym e ∙ eq-eqb x.serial o same in cc)
    go false e (inr later) rest = rest later

pub is_live : (store : Store) (w : World) (o : ℕ) → Represents store w → Includes (serials w.objects) o → IsLive store o
is_live store w o represents m = lives_in_heap store w represents o (in_map w.objects o m)

-- If nothing has an outside hold, there is none.
zeroed : Node → Node
zeroed n = record n { outside = 0 }

none_outside : (store : Store) → ((s : ℕ) → outside_of store s ≡ 0) → outside_total store ≡ 0
unfolding zeroed
none_outside store none =
    ap (λ m. total (λ (n : Node). n.outside) m) (same_map store.nodes (mapped (λ s n. zeroed n) store.nodes) (λ q. known (fin.get store.nodes q) (none q)
    ∙ sym (get-mapped (λ s n. zeroed n) store.nodes q)))
    ∙ total-mapped (λ s n. zeroed n) (λ (n : Node). n.outside) (λ n. 0) store.nodes (λ s n. refl)
    ∙ nothing (fin.entries store.nodes)
  where
    known : (x : Option Node) → outside_in x ≡ 0 → x ≡ option_map zeroed x
    known None e = refl
    known (Some n) e = ap Some (λ i. record n { outside = e i })

    nothing : (es : List (ℕ × Node)) → sum_by (λ (e : ℕ × Node). 0) es ≡ 0
    nothing [] = refl
    nothing (e ∷ es) = omega (arith, sum_by-cons (λ (e : ℕ × Node). 0) e es, nothing es)

-- If each outside hold is in a list, there are at most that many.
pub total_fits : (held : List ℕ) (store : Store) → ((s : ℕ) → outside_of store s ≡ occurrences s held) → outside_total store ≤ length held
total_fits [] store is = let none : outside_total store ≡ 0 = none_outside store is in omega (arith, none)
total_fits (o ∷ held) store is =
    let own : occurrences o (o ∷ held) ≡ 1 + occurrences o held = sum_by-cons (λ r. cond {A = ℕ} (r == o) 1 0) o held ∙ ap (λ b. cond {A = ℕ} b 1 0 + occurrences o held) (eq-eqb o o refl) in
    let some : 0 < outside_of store o = omega (arith, is o, own) in
    let rest : outside_total (unheld (o ∷ []) store) ≤ length held = total_fits held (unheld (o ∷ []) store)
    (λ s. omega (
      arith,
      outside-unheld (o ∷ []) store s,
      is s,
      sum_by-cons (λ r. cond {A = ℕ} (r == s) 1 0) o held,
      sum_by-cons {X = ℕ} (λ r. cond {A = ℕ} (r == s) 1 0) o [],
    )) in
    omega (arith, total-unheld_one o store some, rest)

-- so a heap that represents a lawful world has few
pub few_holds : (script : Script) (budget : ℕ) (store : Store) (w : World) → Represents store w → IsLawful script budget w → budget ≤ 100000 → length (objects_of store) ≤ 1000001 → HasFewHolds store
few_holds script budget store w represents lawful low few =
    let held : outside_total store ≤ length (flat_map holds w.stack) = total_fits (flat_map holds w.stack) store represents.outside in
    let same : length (objects_of store) ≡ length w.objects = ap length represents.objects in
    omega (arith, held, same, lawful.bounded.holds, low, few)

-- as many objects as the heap counts, and the garbage list
ones : (es : List (ℕ × Node)) → length es ≡ sum_by (λ (e : ℕ × Node). one e.1) es
ones [] = refl
ones (e ∷ es) = let rest = ones es in omega (arith, rest, sum_by-cons (λ (e : ℕ × Node). one e.1) e es)

pub objects-number : (store : Store) → length (objects_of store) ≤ object_number store + 1
objects-number store = omega (arith, length-map (fin.entries store.nodes) (λ (e : ℕ × Node). object_from store.rows e.0 e.1), ones (fin.entries store.nodes))

pub few_objects : (store : Store) → object_number store ≤ 1000000 → length (objects_of store) ≤ 1000001
few_objects store low = omega (arith, low, objects-number store)
