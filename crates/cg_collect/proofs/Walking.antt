-- The walk of the weak phase: which weak references are cleared, and which are still to be visited.
use Rattle.std.proofs.Common.{◌≡◌, ◌≢◌, refl, sym, ◌∙◌, ap, subst, ℕ, ◌<◌, ◌≤◌, Bool, true, false, List, [], ◌∷◌, Option, Some, None, inl, inr, arith}
use Rattle.std.specs.Prelude.{◌==◌, ◌⊎◌, ◌||◌, ◌&&◌, not, is_some, if◌then◌else◌, option_map, option_and_then, unwrap_or, slice_get}
use Rattle.std.specs.FinMap as fin
use Rattle.std.proofs.lemmas.Bool.{cases_eq, eq-eqb, eqb-true}
use Rattle.cg_value.specs.declared.KindCode.TheVariants.{Weak}
use Rattle.cg_value.specs.declared.Place.{Place}
use Rattle.cg_value.specs.declared.Place.TheVariants.{Cand, Seen, Pend}
use Rattle.cg_graph.specs.Member.{Includes}
use Rattle.cg_graph.specs.Object.{Object, object_at, change, same_place}
use Rattle.cg_graph.specs.Rows.{Row, IsRising, referent_in, next_older_in, without_row}
use Rattle.cg_graph.specs.Store.{Store, Node, IsLive, HasCode, list_at, objects_of, object_from, place_of, place_in}
use Rattle.cg_graph.proofs.Members.{either, cases_of, true_or, true_and, Includes-map_cases}
use Rattle.cg_graph.proofs.Objects.{object-at}
use Rattle.cg_heap.specs.Calls.{IsListed}
use Rattle.cg_heap.specs.Weak.{AreRows}
use Rattle.cg_machine.specs.Weak.{MayLoseNext, callback_in, callback_of}
use Rattle.cg_machine.specs.Collect.{is_condemned, is_condemned_in, is_lost_early, loses_in_weak_phase}
use Rattle.cg_trial.proofs.PlacesOfObjects.{is_there}
use Rattle.cg_death.proofs.RowSplits.{split_at, referent-without}
use Rattle.cg_collect.specs.Phases.{from_on}
use Rattle.cg_collect.specs.Ready.{ComesByItself, IsAt, IsEmptyAt, IsWalk, loses_at, to_look_at}
use Rattle.cg_represents.proofs.Places.{place_is}
use Rattle.cg_collect.proofs.PlacesOfObjects.{lives_at, node_of_live, node_there, place_there, object_there}
use Rattle.cg_collect.proofs.RowWalks.{from_on-first, refers, older_ones, older_below, looks_here, looks_on, looks_on_without, next_older, next_highest, older_refers, older_all}

-- whether an object is condemned, by its place in the heap
pub condemned-at : (store : Store) (o : ℕ) → is_condemned_in (objects_of store) o ≡ (same_place (place_of store o) Cand || same_place (place_of store o) Seen)
condemned-at store o = ap (λ x. unwrap_or (option_map is_condemned x) false) (object-at store o) ∙ known (fin.get store.nodes o)
  where
    known : (x : Option Node) → unwrap_or (option_map is_condemned (option_map (object_from store.rows o) x)) false ≡ (same_place (place_in x) Cand || same_place (place_in x) Seen)
    known None = refl
    known (Some n) = refl

-- an object is found by its serial
pub object_found : (store : Store) (x : Object) → Includes (objects_of store) x → object_at (objects_of store) x.serial ≡ Some x
object_found store x m = let (n, got, made) = node_there store x m in object-at store x.serial ∙ ap (option_map (object_from store.rows x.serial)) got ∙ ap Some made

pub object_of_live : (store : Store) (o : ℕ) → IsLive store o → (n : Node) × (fin.get store.nodes o ≡ Some n) × (object_at (objects_of store) o ≡ Some (object_from store.rows o n))
object_of_live store o live = let (n, got) = node_of_live store o live in (n, got, object-at store o ∙ ap (option_map (object_from store.rows o)) got)

-- whether a weak reference is to be cleared, by its serial
abbrev pub is_lost_early_at : ℕ → Store → ℕ → Bool
is_lost_early_at profile store weak = not (profile == 2) || is_some (callback_of (objects_of store) weak)

pub loses-at : (profile : ℕ) (store : Store) (weak : ℕ) → IsLive store weak
    → loses_at profile store weak ≡ (is_lost_early_at profile store weak
    && unwrap_or (option_map (λ o. is_condemned_in (objects_of store) o || is_condemned_in (objects_of store) weak) (referent_in store.rows weak)) false)
loses-at profile store weak live =
    let (n, got, at) = object_of_live store weak live in
    ap (λ x. unwrap_or (option_map (loses_in_weak_phase profile (objects_of store)) x) false) at
    ∙ (λ i. (not (profile == 2) || is_some (option_and_then (λ (x : Object). callback_in x.entries) (sym at i)))
    && unwrap_or (option_map (λ o. is_condemned_in (objects_of store) o || unwrap_or (option_map is_condemned (sym at i)) false) (referent_in store.rows weak)) false)

-- by its referent, and whether it is cleared early
module _ (profile : ℕ) (store : Store) (weak : ℕ) (live : IsLive store weak) where
  abbrev early : Bool
  early = is_lost_early_at profile store weak

  abbrev pub touches : ℕ → Bool
  touches o = is_condemned_in (objects_of store) o || is_condemned_in (objects_of store) weak

  pub loses-some : (o : ℕ) → referent_in store.rows weak ≡ Some o → is_lost_early_at profile store weak ≡ true → loses_at profile store weak ≡ touches o
  loses-some o refers soon = loses-at profile store weak live ∙ (λ i. soon i && unwrap_or (option_map touches (refers i)) false)

  pub loses-none : referent_in store.rows weak ≡ None → loses_at profile store weak ≡ false
  loses-none none = loses-at profile store weak live ∙ ap (λ k. early && unwrap_or (option_map touches k) false) none ∙ nothing early
    where
      nothing : (b : Bool) → (b && false) ≡ false
      nothing true = refl
      nothing false = refl

-- one without a referent is not cleared
loses_none : (profile : ℕ) (objects : List Object) (x : Object) → x.referent ≡ None → loses_in_weak_phase profile objects x ≡ false
loses_none profile objects x e = ap (λ r. is_lost_early profile x && unwrap_or (option_map (λ o. is_condemned_in objects o || is_condemned x) r) false) e ∙ nothing (is_lost_early profile x)
  where
    nothing : (b : Bool) → (b && false) ≡ false
    nothing true = refl
    nothing false = refl

-- the referent of one that is cleared
pub loses_some : (profile : ℕ) (objects : List Object) (x : Object) → loses_in_weak_phase profile objects x ≡ true → (o : ℕ) × (x.referent ≡ Some o)
    × ((is_condemned_in objects o || is_condemned x) ≡ true)
loses_some profile objects x e = known x.referent refl (true_and (is_lost_early profile x) (unwrap_or (option_map (λ o. is_condemned_in objects o || is_condemned x) x.referent) false) e).1
  where
    known : (r : Option ℕ) → x.referent ≡ r → unwrap_or (option_map (λ o. is_condemned_in objects o || is_condemned x) r) false ≡ true → (o : ℕ)
        × (x.referent ≡ Some o) × ((is_condemned_in objects o || is_condemned x) ≡ true)
    known None is h = absurd (let f : false ≡ true = h in cc)
    known (Some o) is h = (o, is, h)

-- the same objects are condemned
loses-same : (profile : ℕ) (old new : List Object) (x : Object) → ((o : ℕ) → is_condemned_in new o ≡ is_condemned_in old o) → loses_in_weak_phase profile new x ≡ loses_in_weak_phase profile old x
loses-same profile old new x same = ap (λ b. is_lost_early profile x && b) (known x.referent)
  where
    known : (r : Option ℕ) → unwrap_or (option_map (λ o. is_condemned_in new o || is_condemned x) r) false ≡ unwrap_or (option_map (λ o. is_condemned_in old o || is_condemned x) r) false
    known None = refl
    known (Some o) = ap (λ b. b || is_condemned x) (same o)

condemned_place : (p : Place) → (same_place p Cand || same_place p Seen) ≡ true → (p ≡ Cand) ⊎ (p ≡ Seen)
condemned_place p h = either (true_or (same_place p Cand) (same_place p Seen) h) (λ e. inl (place_is p Cand e)) (λ e. inr (place_is p Seen e))

-- The walk begins at the first candidate.
pub walk_begins : (profile : ℕ) (store : Store) → IsListed store → IsEmptyAt store Seen → IsEmptyAt store Pend → IsWalk profile store (slice_get (list_at store Cand) 0) None
walk_begins profile store listed unseen none_pending = record {
  member_at = at_first (list_at store Cand);
  weak_live = λ v e. absurd (cc);
  none_missed = λ x m loses plain. inr (missed x m (loses_some profile (objects_of store) x loses));
  none_newer = λ v e. absurd (cc);
  waiting = λ v m. absurd (subst (λ l. Includes l v) none_pending m);
}
  where
    at_first : (xs : List ℕ) → IsAt (slice_get xs 0) xs
    at_first [] = tt
    at_first (x ∷ xs) = inl refl

    all : from_on (slice_get (list_at store Cand) 0) (list_at store Cand) ≡ list_at store Cand
    all = from_on-first (list_at store Cand) (slice_get (list_at store Cand) 0) refl

    stands : (o : ℕ) → (place_of store o ≡ Cand) ⊎ (place_of store o ≡ Seen) → Includes (from_on (slice_get (list_at store Cand) 0) (list_at store Cand)) o
    stands o (inl at) = subst (λ l. Includes l o) (sym all) (is_there store listed Cand o (lives_at store o Cand at (λ e. cc)) at)
    stands o (inr at) = absurd (subst (λ l. Includes l o) unseen (is_there store listed Seen o (lives_at store o Seen at (λ e. cc)) at))

    missed : (x : Object) → Includes (objects_of store) x → ((o : ℕ) × (x.referent ≡ Some o) × ((is_condemned_in (objects_of store) o || is_condemned x) ≡ true))
        → ComesByItself store (slice_get (list_at store Cand) 0) x ⊎ ((o : ℕ) × (x.referent ≡ Some o) × Includes (from_on (slice_get (list_at store Cand) 0) (list_at store Cand)) o)
    missed x m (o, is, either_one) =
        either (true_or (is_condemned_in (objects_of store) o) (is_condemned x) either_one)
        (λ e. inr (o, is, stands o (condemned_place (place_of store o) (sym (condemned-at store o) ∙ e))))
        (λ e. either (cases_of (is_condemned_in (objects_of store) o))
        (λ c. inr (o, is, stands o (condemned_place (place_of store o) (sym (condemned-at store o) ∙ c))))
        (λ c. inl (record {
          ahead = stands x.serial (condemned_place (place_of store x.serial) (ap (λ p. same_place p Cand || same_place p Seen) (place_there store x m) ∙ e));
          apart = λ q refers. let both : Some o ≡ Some q = sym is ∙ refers in let same : o ≡ q = cc in subst (λ p. is_condemned_in (objects_of store) p ≡ false) same c;
        })))

-- the one that may be cleared next
pub may_lose : (profile : ℕ) (store : Store) (weak : ℕ) (member : Option ℕ) → IsWalk profile store member (Some weak) → IsLive store weak
    → loses_at profile store weak ≡ true → MayLoseNext (loses_in_weak_phase profile (objects_of store)) (objects_of store) weak
may_lose profile store weak member walk live loses =
    let (n, got, at) = object_of_live store weak live in
    record {
      object = object_from store.rows weak n;
      is = refl;
      member = object_there store weak n got;
      to_lose = sym (ap (λ x. unwrap_or (option_map (loses_in_weak_phase profile (objects_of store)) x) false) at) ∙ loses;
      newest = λ y m wanted same. walk.none_newer weak refl y m wanted same;
    }

-- a weak reference was cleared, and perhaps waits since
pub record IsLost (store new : Store) (v : ℕ) : Type 0 where
  pub rows : new.rows ≡ without_row v store.rows
  pub candidates : list_at new Cand ≡ list_at store Cand
  pub objects : (x : Object) → Includes (objects_of new) x → (x.referent ≡ None) ⊎ (Includes (objects_of store) x × (x.serial ≢ v))
  pub condemned : (o : ℕ) → is_condemned_in (objects_of new) o ≡ is_condemned_in (objects_of store) o
  pub codes : (o : ℕ) → HasCode store o Weak → HasCode new o Weak
  pub pending : (u : ℕ) → Includes (list_at new Pend) u → Includes (list_at store Pend) u ⊎ (v ≡ u)

pub changed_objects : (f : Object → Object) → ((x : Object) → (f x).referent ≡ None) → (v : ℕ) (objects : List Object) (x : Object)
    → Includes (change f v objects) x → (x.referent ≡ None) ⊎ (Includes objects x × (x.serial ≢ v))
changed_objects f none v objects x m = let (y, member, is) = Includes-map_cases (λ y. if y.serial == v then f y else y) objects x m in go y member is (cases_of (y.serial == v))
  where
    go : (y : Object) → Includes objects y → (if y.serial == v then f y else y) ≡ x → (y.serial == v ≡ true) ⊎ (y.serial == v ≡ false) → (x.referent ≡ None) ⊎ (Includes objects x × (x.serial ≢ v))
    go y member is (inl e) = inl (ap (λ (z : Object). z.referent) (sym (ap (λ b. if b then f y else y) (sym e) ∙ is)) ∙ none y)
    go y member is (inr e) =
        let same : y ≡ x = ap (λ b. if b then f y else y) (sym e) ∙ is in
        inr (subst (Includes objects) same member, λ k. let t : y.serial == v ≡ true = eq-eqb y.serial v (ap (λ (z : Object). z.serial) same ∙ k) in let f : true ≡ false = sym t ∙ e in absurd (cc))

-- The walk at the weak reference of a row goes on to the next older one.
module _ (profile : ℕ) (store : Store) (ok : AreRows store) (r : Row) (inside : Includes store.rows r) (stays : r.waits ≡ false) (member : Option ℕ)
    (walk : IsWalk profile store member (Some r.weak)) where
  abbrev next : Option ℕ
  next = next_older_in store.rows r.weak

  older : List ℕ
  older = older_ones store ok r inside stays

  -- the others are still to be visited
  still_looked : (x : ℕ) → x ≢ r.weak → Includes (to_look_at store (Some r.weak)) x → Includes (older_ones store ok r inside stays) x
  still_looked x other m = either (subst (λ l. Includes l x) (looks_here store ok r inside stays) m) (λ e. absurd (other (sym e))) (λ k. k)

  -- one that is not cleared
  pub walk_passes : loses_at profile store r.weak ≡ false → IsWalk profile store member next
  walk_passes keeps = record {
    member_at = walk.member_at;
    weak_live = λ w e. (r.referent, older_refers store ok r inside stays w (next_older store ok r inside stays w e));
    none_missed = λ x m loses plain.
        either (walk.none_missed x m loses plain)
        (λ k. inl (subst (λ l. Includes l x.serial) (sym (looks_on store ok r inside stays)) (still_looked x.serial (other x m loses) k)))
        (λ k. inr k);
    none_newer = λ w e x m loses same.
        let refers_same : x.referent ≡ Some r.referent = same ∙ older_refers store ok r inside stays w (next_older store ok r inside stays w e) in
        let no_later = walk.none_newer r.weak refl x m loses (refers_same ∙ sym (refers store ok r inside stays)) in
        next_highest store ok r inside stays w e x.serial (older_all store ok r inside stays x.serial (of_row x m ∙ refers_same) (below x.serial no_later (other x m loses)));
    waiting = walk.waiting;
  }
    where
      other : (x : Object) → Includes (objects_of store) x → loses_in_weak_phase profile (objects_of store) x ≡ true → x.serial ≢ r.weak
      other x m loses e =
          let at : object_at (objects_of store) r.weak ≡ Some x = ap (object_at (objects_of store)) (sym e) ∙ object_found store x m in
          let f : true ≡ false = sym loses ∙ sym (ap (λ k. unwrap_or (option_map (loses_in_weak_phase profile (objects_of store)) k) false) at) ∙ keeps in
          absurd (cc)

      of_row : (x : Object) → Includes (objects_of store) x → referent_in store.rows x.serial ≡ x.referent
      of_row x m = let (n, got, made) = node_there store x m in ap (λ (y : Object). y.referent) made

      below : (a : ℕ) → a ≤ r.weak → a ≢ r.weak → a < r.weak
      below a le ne = omega (arith, le, ne)

  -- one that is cleared
  pub walk_loses : (new : Store) → IsLost store new r.weak → IsRising new.rows → IsWalk profile new member next
  walk_loses new lost rise = record {
    member_at = subst (IsAt member) (sym lost.candidates) walk.member_at;
    weak_live = λ w e. let in_older = next_older store ok r inside stays w e in (r.referent, kept w (differs w in_older) ∙ older_refers store ok r inside stays w in_older);
    none_missed = λ x m loses plain. either (lost.objects x m)
        (λ none. let f : false ≡ true = sym (loses_none profile (objects_of new) x none) ∙ loses in absurd (cc))
        (λ was. either (walk.none_missed x was.0 (sym (loses-same profile (objects_of store) (objects_of new) x lost.condemned) ∙ loses) (λ o e has. plain o e (lost.codes o has)))
        (λ k. inl (subst (λ l. Includes l x.serial) (sym (looks_on_without store ok r inside stays new lost.rows rise)) (still_looked x.serial was.1 k)))
        (λ k. inr (either k (λ a. inl (record {
          ahead = subst (λ l. Includes (from_on member l) x.serial) (sym lost.candidates) a.ahead;
          apart = λ q is. lost.condemned q ∙ a.apart q is;
        })) (λ b. inr (
          b.0,
          b.1,
          subst (λ l. Includes (from_on member l) b.0) (sym lost.candidates)
              b.2,
        )))));
    none_newer = λ w e x m loses same. either (lost.objects x m)
        (λ none. let f : false ≡ true = sym (loses_none profile (objects_of new) x none) ∙ loses in absurd (cc))
        (λ was.
        let in_older = next_older store ok r inside stays w e in
        let refers_same : x.referent ≡ Some r.referent = same ∙ kept w (differs w in_older) ∙ older_refers store ok r inside stays w in_older in
        let no_later = walk.none_newer r.weak refl x was.0 (sym (loses-same profile (objects_of store) (objects_of new) x lost.condemned) ∙ loses) (refers_same
        ∙ sym (refers store ok r inside stays)) in
        next_highest store ok r inside stays w e x.serial (older_all store ok r inside stays x.serial (of_row x was.0 ∙ refers_same) (below x.serial no_later was.1)));
    waiting = λ u m. either (lost.pending u m) (λ k. without u ∙ by_test (u == r.weak) u (walk.waiting u k)) (λ e. without u
        ∙ ap (λ b. if b then None else referent_in store.rows u) (eq-eqb u r.weak (sym e)));
  }
    where
      without : (u : ℕ) → referent_in new.rows u ≡ (if u == r.weak then None else referent_in store.rows u)
      without u = ap (λ l. referent_in l u) lost.rows ∙ referent-without store.rows r (split_at store.rows r ok.rise inside) u

      by_test : (b : Bool) (u : ℕ) → referent_in store.rows u ≡ None → (if b then None else referent_in store.rows u) ≡ None
      by_test true u e = refl
      by_test false u e = e

      kept : (w : ℕ) → w ≢ r.weak → referent_in new.rows w ≡ referent_in store.rows w
      kept w other = without w ∙ ap (λ b. if b then None else referent_in store.rows w) (Rattle.std.proofs.lemmas.Bool.ne_eqb w r.weak other)

      differs : (w : ℕ) → Includes (older_ones store ok r inside stays) w → w ≢ r.weak
      differs w m e = let low = older_below store ok r inside stays w m in absurd (omega (arith, low, e))

      of_row : (x : Object) → Includes (objects_of store) x → referent_in store.rows x.serial ≡ x.referent
      of_row x m = let (n, got, made) = node_there store x m in ap (λ (y : Object). y.referent) made

      below : (a : ℕ) → a ≤ r.weak → a ≢ r.weak → a < r.weak
      below a le ne = omega (arith, le, ne)
