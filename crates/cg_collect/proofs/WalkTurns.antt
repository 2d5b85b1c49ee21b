-- The walk of the weak phase goes on with the next condemned object, and ends.
use Rattle.std.proofs.Common.{◌≡◌, ◌≢◌, refl, sym, ◌∙◌, ap, subst, ℕ, ◌+◌, ◌*◌, ◌<◌, ◌≤◌, Bool, true, false, List, [], ◌∷◌, ◌++◌, length, append_assoc, Option, Some, None, inl, inr, sum_by, arith}
use Rattle.std.specs.Prelude.{◌⊎◌, ◌&&◌, not, if◌then◌else◌, option_map, unwrap_or, slice_get}
use Rattle.std.specs.FinMap as fin
use Rattle.std.proofs.lemmas.List.{length-map}
use Rattle.std.proofs.lemmas.List.Sums.{length-filter, count_by-le-length, sum_by-cons}
use Rattle.cg_value.specs.declared.KindCode.TheVariants.{Weak}
use Rattle.cg_value.specs.declared.Place.{Place}
use Rattle.cg_value.specs.declared.Place.TheVariants.{Cand, Pend}
use Rattle.cg_script.specs.declared.Script.{Script}
use Rattle.cg_graph.specs.Member.{Includes}
use Rattle.cg_graph.specs.Object.{Object, object_at, is_at, objects_at, serials_at}
use Rattle.cg_graph.specs.Holdings.{occurrences}
use Rattle.cg_graph.specs.Rows.{IsRising, referent_in, refers_to, weak_references_in}
use Rattle.cg_graph.specs.Store.{Store, Node, HasCode, list_at, objects_of, object_from, place_of}
use Rattle.cg_graph.proofs.Members.{either, cases_of, Includes-append_right}
use Rattle.cg_arena.specs.Nodes.{following}
use Rattle.cg_heap.specs.Keeps.{one}
use Rattle.cg_heap.specs.Calls.{IsListed, IsSound}
use Rattle.cg_heap.specs.Weak.{AreRows}
use Rattle.cg_heap.proofs.RowLemmas.{refers_live}
use Rattle.cg_machine.specs.World as machine
use Rattle.cg_machine.specs.World.{World, Collecting, with_stack}
use Rattle.cg_machine.specs.Weak.{NoneLeft, has_weak_references}
use Rattle.cg_machine.specs.Program.{profile_of}
use Rattle.cg_machine.specs.Collect.{is_condemned_in, loses_in_weak_phase}
use Rattle.cg_represents.specs.Orderly.{IsOrderly}
use Rattle.cg_policy.specs.Policy.{Policy}
use Rattle.cg_trial.specs.View.{head_of}
use Rattle.cg_trial.proofs.Lists.{occurs, once_before}
use Rattle.cg_trial.proofs.PlacesOfObjects.{once_at}
use Rattle.cg_death.proofs.Clearing.{none_first}
use Rattle.cg_death.proofs.RowSplits.{head_in}
use Rattle.cg_collect.specs.declared.answer.CollectStep.TheVariants as answer_of
use Rattle.cg_collect.specs.declared.collection.Facts.{Facts}
use Rattle.cg_collect.specs.declared.phase.Phase.TheVariants as phase_of
use Rattle.cg_collect.specs.Phases.{collection_of, from_on, references_in, to_look_at}
use Rattle.cg_collect.specs.Ready.{IsAt, IsWalk, RefersPlainly, loses_alone, loses_at, looked_at_for}
use Rattle.cg_collect.specs.Answers.{CollectSteps}
use Rattle.cg_collect.specs.Turns.{collection_at}
use Rattle.cg_collect.proofs.PlacesOfObjects.{node_there, code_there, list_length}
use Rattle.cg_collect.proofs.Moving.{comes_next}
use Rattle.cg_collect.proofs.Worlds.{steps_at, only_tells, represents_same, went}
use Rattle.cg_collect.proofs.RowWalks.{from_on-past, from_on-first, head_highest, referent-listed, listed-referent, references-le}
use Rattle.cg_collect.proofs.Walking.{loses_some, object_found}

pub less : (a b r l : ℕ) → b ≡ a + 1 → l ≤ r → (a * (r + 1) + l) + 0 < (b * (r + 1) + 0) + 0
less a b r l is few = let whole : b * (r + 1) ≡ (a + 1) * (r + 1) = ap (λ n. n * (r + 1)) is in omega (arith, whole, few)

-- a list split at a member
pub record Around (xs : List ℕ) (o : ℕ) : Type 0 where
  pub front : List ℕ
  pub back : List ℕ
  pub is : xs ≡ front ++ o ∷ back

pub around : (xs : List ℕ) (o : ℕ) → Includes xs o → Around xs o
around [] o m = absurd m
around (x ∷ xs) o (inl e) = record { front = []; back = xs; is = ap (λ y. y ∷ xs) e }
around (x ∷ xs) o (inr m) = let rest = around xs o m in record { front = x ∷ rest.front; back = rest.back; is = ap (λ l. x ∷ l) rest.is }

-- the tail of a list without repetition from a member, and from the next one
module _ (xs : List ℕ) (once : (o : ℕ) → occurrences o xs ≤ 1) (o : ℕ) (front back : List ℕ) (is : xs ≡ front ++ o ∷ back) where
  not_in : (ys : List ℕ) (q : ℕ) → occurrences q ys ≡ 0 → (x : ℕ) → Includes ys x → x ≢ q
  not_in ys q none x m e = let there = occurs ys q (subst (Includes ys) e m) in absurd (omega (arith, there, none))

  pub from_it : from_on (Some o) xs ≡ o ∷ back
  from_it = ap (from_on (Some o)) is ∙ from_on-past front back o (not_in front o (once_before xs front back o (once o) is).0)

  pub from_next : from_on (head_of back) xs ≡ back
  from_next = known back refl
    where
      known : (ys : List ℕ) → back ≡ ys → from_on (head_of ys) xs ≡ ys
      known [] e = refl
      known (y ∷ ys) e =
          let parts : xs ≡ (front ++ o ∷ []) ++ y ∷ ys = is ∙ ap (λ l. front ++ o ∷ l) e ∙ sym (append_assoc front (o ∷ []) (y ∷ ys)) in
          ap (from_on (Some y)) parts ∙ from_on-past (front ++ o ∷ []) ys y (not_in (front ++ o ∷ []) y (once_before xs (front ++ o ∷ []) ys y (once y) parts).0)

  pub next_at : IsAt (head_of back) xs
  next_at = known back refl
    where
      known : (ys : List ℕ) → back ≡ ys → IsAt (head_of ys) xs
      known [] e = tt
      known (y ∷ ys) e = subst (λ l. Includes l y) (sym is) (Includes-append_right front (o ∷ back) y (inr (subst (λ l. Includes l y) (sym e) (inl refl))))

-- all weak references to an object are to be visited, newest first
pub looks_all : (store : Store) → IsRising store.rows → (t : ℕ) (c : Option ℕ) → c ≡ slice_get (weak_references_in store.rows t) 0 → to_look_at store c ≡ weak_references_in store.rows t
looks_all store rise t None e = sym (none_first (weak_references_in store.rows t) (sym e))
looks_all store rise t (Some w) e =
    ap (λ k. from_on (Some w) (references_in store.rows k)) (referent-listed store.rows rise t w (head_in (weak_references_in store.rows t) w (sym e)))
    ∙ from_on-first (weak_references_in store.rows t) (Some w) e

-- The next condemned object is visited.
module _ (profile : ℕ) (store : Store) (listed : IsListed store) (ok : AreRows store) (object : ℕ) (walk : IsWalk profile store (Some object) None) (next weak : Option ℕ)
    (next_is : next ≡ following object (list_at store (place_of store object))) (weak_is : weak ≡ slice_get (weak_references_in store.rows (looked_at_for profile store object)) 0) where
  abbrev t : ℕ
  t = looked_at_for profile store object

  candidates : List ℕ
  candidates = list_at store Cand

  here : Around (list_at store Cand) object
  here = around (list_at store Cand) object walk.member_at

  next_head : next ≡ head_of here.back
  next_head = comes_next store listed Cand object next next_is here.front here.back here.is

  from_object : from_on (Some object) (list_at store Cand) ≡ object ∷ here.back
  from_object = from_it (list_at store Cand) (once_at store listed Cand) object here.front here.back here.is

  from_later : from_on next (list_at store Cand) ≡ here.back
  from_later = ap (λ k. from_on k (list_at store Cand)) next_head ∙ from_next (list_at store Cand) (once_at store listed Cand) object here.front here.back here.is

  pub looks : to_look_at store weak ≡ weak_references_in store.rows t
  looks = looks_all store ok.rise t weak weak_is

  pub ahead : from_on (Some object) (list_at store Cand) ≡ object ∷ from_on next (list_at store Cand)
  ahead = from_object ∙ ap (λ l. object ∷ l) (sym from_later)

  -- it, or one after it
  one_of : (q : ℕ) → Includes (from_on (Some object) (list_at store Cand)) q → (object ≡ q) ⊎ Includes (from_on next (list_at store Cand)) q
  one_of q m = either (subst (λ l. Includes l q) from_object m) (λ e. inl e) (λ k. inr (subst (λ l. Includes l q) (sym from_later) k))

  -- a weak reference to the object in question
  looked : (x : Object) → Includes (objects_of store) x → x.referent ≡ Some t → Includes (to_look_at store weak) x.serial
  looked x m refers =
      let (n, got, made) = node_there store x m in
      subst (λ l. Includes l x.serial) (sym looks) (listed-referent store.rows t x.serial (ap (λ (y : Object). y.referent) made ∙ refers))

  pub walk_next : IsWalk profile store next weak
  walk_next = record {
    member_at = subst (λ k. IsAt k (list_at store Cand)) (sym next_head) (next_at (list_at store Cand) (once_at store listed Cand) object here.front here.back here.is);
    weak_live = λ v e. (t, referent-listed store.rows ok.rise t v (head_in (weak_references_in store.rows t) v (sym weak_is ∙ e)));
    none_missed = λ x m loses plain. either (walk.none_missed x m loses plain)
        (λ k. absurd k)
        (λ k. either k
        (λ a. either (one_of x.serial a.ahead) (λ e. inl (looked x m (itself x m loses a.apart e))) (λ l. inr (inl (record { ahead = l; apart = a.apart }))))
        (λ b. either (one_of b.0 b.2) (λ e. inl (looked x m (b.1 ∙ ap Some (sym (plain_one x plain b.0 b.1 e))))) (λ l. inr (inr (b.0, b.1, l)))));
    none_newer = λ v e x m loses same.
        let first : slice_get (weak_references_in store.rows t) 0 ≡ Some v = sym weak_is ∙ e in
        let refers : x.referent ≡ Some t = same ∙ referent-listed store.rows ok.rise t v (head_in (weak_references_in store.rows t) v first) in
        let (n, got, made) = node_there store x m in
        head_highest (refers_to t) store.rows ok.rise v first x.serial (listed-referent store.rows t x.serial (ap (λ (y : Object). y.referent) made ∙ refers));
    waiting = walk.waiting;
  }
    where
      -- the condemned object itself is to lose its referent, which is not condemned
      itself : (x : Object) → Includes (objects_of store) x → loses_in_weak_phase profile (objects_of store) x ≡ true → ((o : ℕ) → x.referent ≡ Some o → is_condemned_in (objects_of store) o ≡ false)
          → object ≡ x.serial → x.referent ≡ Some t
      itself x m loses apart e =
          let (n, got, made) = node_there store x m in
          let (o, is, condemned) = loses_some profile (objects_of store) x loses in
          let refers : referent_in store.rows object ≡ Some o = ap (referent_in store.rows) e ∙ ap (λ (y : Object). y.referent) made ∙ is in
          let to_lose : loses_at profile store object ≡ true =
          ap (λ k. unwrap_or (option_map (loses_in_weak_phase profile (objects_of store)) k) false) (ap (object_at (objects_of store)) e ∙ object_found store x m) ∙ loses in
          let wanted : loses_alone profile store object ≡ true =
          ap (λ k. not (unwrap_or (option_map (is_condemned_in (objects_of store)) k) false) && loses_at profile store object) refers
          ∙ ap (λ b. not b && loses_at profile store object) (apart o is)
          ∙ to_lose in
          is ∙ ap Some (sym (ap (λ b. if b then unwrap_or (referent_in store.rows object) object else object) wanted ∙ ap (λ k. unwrap_or k object) refers))

      -- the condemned object is a referent, and has none itself
      plain_one : (x : Object) → RefersPlainly store x → (o : ℕ) → x.referent ≡ Some o → object ≡ o → t ≡ o
      plain_one x plain o is e = either_way (loses_alone profile store object) ∙ e
        where
          known : (k : Option ℕ) → referent_in store.rows object ≡ k → unwrap_or k object ≡ object
          known None none = refl
          known (Some p) refers = absurd (plain o is (subst (λ q. HasCode store q Weak) e (refers_live store ok object p refers).0))

          either_way : (b : Bool) → (if b then unwrap_or (referent_in store.rows object) object else object) ≡ object
          either_way true = known (referent_in store.rows object) refl
          either_way false = refl

  pub next_falls : (length (from_on next (list_at store Cand)) * (length store.rows + 1) + length (to_look_at store weak)) + 0 <
      (length (from_on (Some object) (list_at store Cand)) * (length store.rows + 1) + 0) + 0
  next_falls =
      let longer : length (from_on (Some object) (list_at store Cand)) ≡ length (object ∷ here.back) = ap length from_object in
      let shorter : length (from_on next (list_at store Cand)) ≡ length here.back = ap length from_later in
      let same : length (to_look_at store weak) ≡ length (weak_references_in store.rows t) = ap length looks in
      less (length (from_on next (list_at store Cand))) (length (from_on (Some object) (list_at store Cand))) (length store.rows) (length (to_look_at store weak))
      (omega (arith, longer, shorter)) (omega (arith, references-le store.rows t, same))

-- A walk that passes one prints no line, and represents the same world.
pub steps_passing : (script : Script) (facts : Facts) (store : Store) (policy : Policy) (member later weak older : Option ℕ)
    → CollectSteps script (collection_at facts (phase_of.WeakClearing member weak) None) store policy (collection_at facts (phase_of.WeakClearing later older) None) store policy answer_of.Continue
steps_passing script facts store policy member later weak older asked w below s =
    only_tells script asked w below [] [] (collection_at facts (phase_of.WeakClearing later older) None) store policy refl
    (record { represents = s.shows.represents; numbers = s.shows.numbers; running = s.shows.running; top = s.shows.top })

-- After all were visited, none is left to clear.
module _ (profile : ℕ) (store : Store) (walk : IsWalk profile store None None) where
  none_left : (w : World) → IsOrderly w → objects_of store ≡ w.objects → NoneLeft (loses_in_weak_phase profile w.objects) w.objects
  none_left w orderly same x m = either (cases_of (loses_in_weak_phase profile w.objects x)) (λ loses. absurd (missed loses)) (λ e. e)
    where
      there : Includes (objects_of store) x
      there = subst (λ (os : List Object). Includes os x) (sym same) m

      plain : RefersPlainly store x
      plain o refers (n, got, coded) =
          let (code, (z, member, serial, supports)) = orderly.referents x m o refers in
          let (k, found, is) = code_there store z (subst (λ (os : List Object). Includes os z) (sym same) member) in
          let both : Some n ≡ Some k = sym got ∙ ap (fin.get store.nodes) (sym serial) ∙ found in
          let node : n ≡ k = cc in
          let weak : z.code ≡ Weak = sym is ∙ sym (ap (λ (y : Node). y.code) node) ∙ coded in
          let f : true ≡ false = sym supports ∙ ap (λ c. has_weak_references (record z { code = c })) weak in
          cc

      missed : loses_in_weak_phase profile w.objects x ≡ true → ⊥
      missed loses = either (walk.none_missed x there (ap (λ (os : List Object). loses_in_weak_phase profile os x) same ∙ loses) plain) (λ k. k) (λ k. either k (λ a. a.ahead) (λ b. b.2))

  pub turn-all_cleared : (script : Script) → profile_of script.items ≡ profile → (facts : Facts) (policy : Policy) (member : Option ℕ)
      → CollectSteps script (collection_at facts (phase_of.WeakClearing member None) None) store policy (collection_at facts phase_of.WeakCalling None) store
      policy answer_of.Continue
  turn-all_cleared script in_profile facts policy member =
      steps_at script (collection_at facts (phase_of.WeakClearing member None) None) store policy (collection_at facts phase_of.WeakCalling None) store policy answer_of.Continue
      (λ asked v below s.
      let pending : List ℕ = list_at store Pend in
      let c : machine.CollectPhase → machine.Collection = collection_of asked (collection_at facts phase_of.WeakCalling None) in
      let w : World = with_stack (Collecting (c (machine.WeakClearing pending)) ∷ below) v in
      let after : World = with_stack (Collecting (c (machine.WeakCalling pending)) ∷ below) v in
      went script w [] after s.running (inr (
        subst (λ p. NoneLeft (loses_in_weak_phase p w.objects) w.objects) (sym in_profile)
            (none_left w s.orderly s.shows.represents.objects),
        (refl, refl),
      )) refl
      (represents_same store v below (c (machine.WeakClearing pending)) (c (machine.WeakCalling pending)) s.shows.represents s.alone refl (λ q. refl))
      s.shows.numbers s.shows.running refl refl refl)

-- the lists of a heap are short
pub list_few : (store : Store) → IsSound store → (p : Place) → length (list_at store p) ≤ 1000001
list_few store sound p =
    let objects : length (objects_of store) ≡ length (fin.entries store.nodes) = length-map (fin.entries store.nodes) (λ (e : ℕ × Node). object_from store.rows e.0 e.1) in
    let here : length (serials_at (objects_of store) p) ≡ length (objects_at (objects_of store) p) = length-map (objects_at (objects_of store) p) (λ (x : Object). x.serial) in
    omega (
      arith,
      sound.objects,
      list_length store sound.listed p,
      here,
      objects,
      length-filter (is_at p) (objects_of store),
      count_by-le-length (is_at p) (objects_of store),
      ones (fin.entries store.nodes),
    )
  where
    ones : (es : List (ℕ × Node)) → sum_by {X = ℕ × Node} (λ e. one e.1) es ≡ length es
    ones [] = refl
    ones (e ∷ es) = omega (arith, sum_by-cons {X = ℕ × Node} (λ f. one f.1) e es, ones es)
