-- What each step of a collection keeps: each object is in a place that the phase allows, and the garbage list is
-- untracked.
use Rattle.std.proofs.Common.{◌≡◌, ◌≢◌, refl, sym, ◌∙◌, ap, subst, ℕ, ◌≤◌, Bool, true, false, cond, inl, inr, List, [], ◌∷◌, map, Some, None, arith}
use Rattle.std.specs.Prelude.{◌==◌, if◌then◌else◌, count_by, option_map, unwrap_or}
use Rattle.std.specs.List.{list_any}
use Rattle.std.proofs.lemmas.List.Sums.{sum_by-cons}
use Rattle.cg_value.specs.declared.Place.{Place}
use Rattle.cg_value.specs.declared.Place.TheVariants.{Untracked, Gen, Frozen}
use Rattle.cg_script.specs.declared.Script.{Script}
use Rattle.cg_graph.specs.Member.{Includes}
use Rattle.cg_graph.specs.Value.{references}
use Rattle.cg_graph.specs.Object.{Object, object_at, entries_of, is_at, same_place, with_place, with_referent, objects_at, serials_at}
use Rattle.cg_graph.proofs.Members.{either, Includes-map_cases, Includes-filter_cases}
use Rattle.cg_machine.specs.declared.event.FrameSpec.{FrameSpec}
use Rattle.cg_machine.specs.World.{World, Activity, Releasing, Collecting, Collection, CollectPhase, push}
use Rattle.cg_machine.specs.Holdings.{is_collection}
use Rattle.cg_machine.specs.Frame.{start_frame}
use Rattle.cg_machine.specs.Weak.{loses_referent}
use Rattle.cg_laws.specs.Laws.{IsOfCollection}
use Rattle.cg_machine.specs.Collect.{collection_at}
use Rattle.cg_laws.specs.Apart.{StandsRightly, IsFound, IsGarbageList, handles, IsApart}
use Rattle.cg_laws.proofs.Starting.{begun_frame, starts_either}
use Rattle.cg_represents.proofs.Lists.{each_changed}

-- the objects while a collection is at a phase
pub record AreApart (objects : List Object) (phase : CollectPhase) : Type 0 where
  pub garbage : (x : Object) → Includes objects x → x.serial ≡ 1 → IsGarbageList x
  pub rightly : (x : Object) → Includes objects x → StandsRightly phase x
  pub unhandled : ¬ Includes (handles phase) 1
  pub unsaved : (x : Object) → Includes objects x → IsFound x.place → ¬ Includes (references (entries_of objects 1)) x.serial

-- no activity is a collection
abbrev pub NoneCollects : List Activity → Type 0
NoneCollects stack = (d : Collection) → ¬ Includes stack (Collecting d)

none_counted : (stack : List Activity) → count_by is_collection stack ≡ 0 → NoneCollects stack
none_counted [] e d m = m
none_counted (a ∷ stack) e d (inl i) =
    let here = sum_by-cons (λ b. cond (is_collection b) 1 0) a stack in
    let one : ◌≡◌ {A = ℕ} (cond (is_collection a) 1 0) 1 = ap (λ b. cond (is_collection b) 1 0) i in
    absurd (omega (arith, e, here, one))
none_counted (a ∷ stack) e d (inr m) = let here = sum_by-cons (λ b. cond (is_collection b) 1 0) a stack in none_counted stack (omega (arith, e, here)) d m

-- the collection is the only one
pub alone_of : (c : Collection) (below : List Activity) → count_by is_collection (Collecting c ∷ below) ≤ 1 → NoneCollects below
alone_of c below h = let here = sum_by-cons (λ b. cond (is_collection b) 1 0) (Collecting c) below in none_counted below (omega (arith, h, here))

-- from a world to its parts, and back
pub apart_of : (w : World) (c : Collection) → Includes w.stack (Collecting c) → IsApart w → AreApart w.objects c.phase
apart_of w c m h = record { garbage = h.garbage; rightly = h.phases c m; unhandled = h.unhandled c m; unsaved = h.unsaved }

pub collects : (w : World) (d : Collection) (below : List Activity) → w.stack ≡ Collecting d ∷ below → NoneCollects below → AreApart w.objects d.phase → IsApart w
collects w d below s alone h = record {
  garbage = h.garbage;
  clear = λ e. absurd (let no : true ≡ false = sym (ap (λ st. list_any is_collection st) s) ∙ e in cc);
  phases = λ e m. subst (λ (z : Collection). (x : Object) → Includes w.objects x → StandsRightly z.phase x) (same e m) h.rightly;
  unhandled = λ e m. subst (λ (z : Collection). ¬ Includes (handles z.phase) 1) (same e m) h.unhandled;
  unsaved = h.unsaved;
}
  where
    same : (e : Collection) → Includes w.stack (Collecting e) → d ≡ e
    same e m = either (subst (λ st. Includes st (Collecting e)) s m) (λ i. let is : d ≡ e = cc in is) (λ k. absurd (alone e k))

-- a collection goes to a phase that allows the places of all objects
pub goes_to : (d : Collection) (next : CollectPhase) (below : List Activity) (v : World) → NoneCollects below → AreApart v.objects next → IsApart (collection_at d next below v)
goes_to d next below v alone h = collects (collection_at d next below v) (record d { phase = next }) below refl alone h

-- only the phase changes
pub restands : (phase next : CollectPhase) (objects : List Object) → ¬ Includes (handles next) 1 → ((x : Object) → Includes objects x → StandsRightly phase x
    → StandsRightly next x) → AreApart objects phase → AreApart objects next
restands phase next objects unhandled right h = record { garbage = h.garbage; rightly = λ x m. right x m (h.rightly x m); unhandled = unhandled; unsaved = h.unsaved }

pub starts_apart : (script : Script) (spec : FrameSpec) (u : World) → IsApart u → IsApart (start_frame script spec u).1
starts_apart script spec u h = starts_either (λ lines. IsApart) script spec u (record { garbage = h.garbage; clear = h.clear; phases = h.phases; unhandled = h.unhandled; unsaved = h.unsaved })
    (λ some. record { garbage = h.garbage; clear = h.clear; phases = λ c m. h.phases c (below c m); unhandled = λ c m. h.unhandled c (below c m); unsaved = h.unsaved })
  where
    below : (c : Collection) → Includes (begun_frame script spec ∷ u.stack) (Collecting c) → Includes u.stack (Collecting c)
    below c m = either m (λ e. absurd (cc)) (λ k. k)

pub gives_up_apart : (given_up : List ℕ) (u : World) → IsApart u → IsApart (push (Releasing given_up) u)
gives_up_apart given_up u h = record { garbage = h.garbage; clear = h.clear; phases = λ c m. h.phases c (below c m); unhandled = λ c m. h.unhandled c (below c m); unsaved = h.unsaved }
  where
    below : (c : Collection) → Includes (Releasing given_up ∷ u.stack) (Collecting c) → Includes u.stack (Collecting c)
    below c m = either m (λ e. absurd (let no : Releasing given_up ≡ Collecting c = e in cc)) (λ k. k)

-- a change of an object that keeps its serial, kind and entries
pub record Keeps (f : Object → Object) : Type 0 where
  pub serial : (x : Object) → (f x).serial ≡ x.serial
  pub code : (x : Object) → (f x).code ≡ x.code
  pub entries : (x : Object) → (f x).entries ≡ x.entries

pub places_kept : (places : Object → Place) → Keeps (λ x. with_place (places x) x)
places_kept places = record { serial = λ x. refl; code = λ x. refl; entries = λ x. refl }

pub kept_if : (f : Object → Object) → Keeps f → (test : Object → Bool) → Keeps (λ x. if test x then f x else x)
kept_if f k test = record { serial = λ x. serial (test x) x; code = λ x. code (test x) x; entries = λ x. entries (test x) x }
  where
    serial : (b : Bool) (x : Object) → (if b then f x else x).serial ≡ x.serial
    serial true x = k.serial x
    serial false x = refl

    code : (b : Bool) (x : Object) → (if b then f x else x).code ≡ x.code
    code true x = k.code x
    code false x = refl

    entries : (b : Bool) (x : Object) → (if b then f x else x).entries ≡ x.entries
    entries true x = k.entries x
    entries false x = refl

pub entries_kept : (f : Object → Object) → Keeps f → (objects : List Object) (o : ℕ) → entries_of (map f objects) o ≡ entries_of objects o
entries_kept f k [] o = refl
entries_kept f k (x ∷ objects) o =
    ap (λ n. unwrap_or (option_map (λ (y : Object). y.entries) (cond (n == o) (Some (f x)) (object_at (map f objects) o))) []) (k.serial x) ∙ go (x.serial == o) (entries_kept f k objects o)
  where
    go : (b : Bool) → entries_of (map f objects) o ≡ entries_of objects o
        → unwrap_or (option_map (λ (y : Object). y.entries) (cond b (Some (f x)) (object_at (map f objects) o))) []
        ≡ unwrap_or (option_map (λ (y : Object). y.entries) (cond b (Some x) (object_at objects o))) []
    go true e = k.entries x
    go false e = e

-- How objects move from one phase to the next.
pub record Moves (f : Object → Object) (test : Object → Bool) (objects : List Object) (phase next : CollectPhase) : Type 0 where
  pub untracked : (x : Object) → Includes objects x → test x ≡ true → x.serial ≡ 1 → x.place ≡ Untracked → (f x).place ≡ Untracked
  pub chosen : (x : Object) → Includes objects x → test x ≡ true → StandsRightly phase x → StandsRightly next (f x)
  pub others : (x : Object) → Includes objects x → test x ≡ false → StandsRightly phase x → StandsRightly next x
  pub found : (x : Object) → Includes objects x → test x ≡ true → IsFound (f x).place → ¬ Includes (references (entries_of objects 1)) x.serial

-- condemned and uncollectable objects are in the collection's places
pub found_apart : (p : Place) → IsFound p → IsOfCollection p
found_apart Untracked k = k
found_apart (Gen i) k = k
found_apart Frozen k = k
found_apart p k = tt

-- what is in a tracked place has an object
pub is_tracked_at : (p : Place) (x : Object) → same_place Untracked p ≡ false → is_at p x ≡ true → x.place ≢ Untracked
is_tracked_at p x tracked t e = let no : true ≡ false = sym t ∙ ap (λ q. same_place q p) e ∙ tracked in cc

pub stands_at : (objects : List Object) (p : Place) (o : ℕ) → Includes (serials_at objects p) o → (x : Object) × Includes objects x × (is_at p x ≡ true) × (x.serial ≡ o)
stands_at objects p o m =
    let x = Includes-map_cases (λ (z : Object). z.serial) (objects_at objects p) o m in
    let kept = Includes-filter_cases (is_at p) objects x.0 x.1 in
    (x.0, kept.0, kept.1, x.2)

-- the objects change, and the garbage list keeps its entries
pub changed : (f : Object → Object) (test : Object → Bool) (objects : List Object) (phase next : CollectPhase) → ((x : Object) → (f x).serial ≡ x.serial) → ((x : Object) → (f x).code ≡ x.code)
    → entries_of (map (λ x. if test x then f x else x) objects) 1 ≡ entries_of objects 1 → ¬ Includes (handles next) 1 → Moves f test objects phase next
    → AreApart objects phase → AreApart (map (λ x. if test x then f x else x) objects) next
changed f test objects phase next serial code same unhandled moves h = record {
  garbage = each_changed (λ z. z.serial ≡ 1 → IsGarbageList z) f test objects (λ x m t e.
      let one : x.serial ≡ 1 = sym (serial x) ∙ e in
      let was = h.garbage x m one in
      record { list = code x ∙ was.list; untracked = moves.untracked x m t one was.untracked }) (λ x m t e. h.garbage x m e);
  rightly = each_changed (StandsRightly next) f test objects (λ x m t. moves.chosen x m t (h.rightly x m)) (λ x m t. moves.others x m t (h.rightly x m));
  unhandled = unhandled;
  unsaved = each_changed (λ z. IsFound z.place → ¬ Includes (references (entries_of (map (λ x. if test x then f x else x) objects) 1)) z.serial) f test objects
      (λ x m t found k. moves.found x m t found (subst (Includes (references (entries_of objects 1))) (serial x) (subst (λ es. Includes (references es) (f x).serial) same k)))
      (λ x m t found k. h.unsaved x m found (subst (λ es. Includes (references es) x.serial) same k));
}

-- they change places, marks or referents
pub moved : (f : Object → Object) (test : Object → Bool) (objects : List Object) (phase next : CollectPhase) → Keeps f → ¬ Includes (handles next) 1
    → Moves f test objects phase next → AreApart objects phase
    → AreApart (map (λ x. if test x then f x else x) objects) next
moved f test objects phase next keeps unhandled moves h =
    changed f test objects phase next keeps.serial keeps.code (entries_kept (λ x. if test x then f x else x) (kept_if f keeps test) objects 1) unhandled moves h

-- a weak reference is cleared
pub lost_apart : (weak : ℕ) (objects : List Object) (phase : CollectPhase) → ((x : Object) → StandsRightly phase x → StandsRightly phase (with_referent None x))
    → AreApart objects phase → AreApart (loses_referent weak objects) phase
lost_apart weak objects phase still h = moved (with_referent None) (λ x. x.serial == weak) objects phase phase (record { serial = λ x. refl; code = λ x. refl; entries = λ x. refl }) h.unhandled
    (record {
      untracked = λ x m t one e. e;
      chosen = λ x m t k. still x k;
      others = λ x m t k. k;
      found = λ x m t k. h.unsaved x m k;
    }) h
