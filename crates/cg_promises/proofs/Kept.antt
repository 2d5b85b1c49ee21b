-- During a full collection in which no frame begins, what is held by names, the activities below and kept objects is kept: it
-- is not condemned, does not die, and keeps its references.
use Rattle.std.proofs.Common.{◌≡◌, ◌≢◌, refl, sym, ◌∙◌, ap, subst, ℕ, Bool, true, false, not, inl, inr, ◌⊎◌, List, [], ◌∷◌, ◌++◌, map, Option, None}
use Rattle.std.specs.Prelude.{◌==◌, ◌||◌, flat_map, if◌then◌else◌}
use Rattle.std.specs.List.{list_any}
use Rattle.std.proofs.lemmas.Bool.{eqb-true}
use Rattle.cg_value.specs.declared.Val.{Val}
use Rattle.cg_value.specs.declared.Val.TheVariants.{Ref}
use Rattle.cg_value.specs.declared.Entry.{Entry}
use Rattle.cg_value.specs.declared.Place.{Place}
use Rattle.cg_graph.specs.Member.{Includes}
use Rattle.cg_graph.specs.Value.{entry_references, item, references}
use Rattle.cg_graph.specs.Object.{Object, change, with_entries, with_place, with_referent, without}
use Rattle.cg_graph.specs.Holdings.{name_holdings}
use Rattle.cg_graph.proofs.Members.{either, cases_of, Includes-append_left, Includes-append_right, Includes-append_cases, Includes-filter, Includes-map}
use Rattle.cg_machine.specs.World.{World, Activity, Releasing, Dying, Collecting, Collection, CollectPhase, Turn, AfterTurn, Start}
use Rattle.cg_machine.specs.Holdings.{holds, in_degree, is_death_of, is_dying}
use Rattle.cg_machine.specs.Weak.{AllLose, loses_referent}
use Rattle.cg_machine.specs.Collect.{is_condemned, saved}
use Rattle.cg_laws.proofs.Releasing.{none_holds}

-- an object later: not condemned, with its references
pub record Fares (x y : Object) : Type 0 where
  pub serial : y.serial ≡ x.serial
  pub refers : (o : ℕ) → Includes (references x.entries) o → Includes (references y.entries) o
  pub clear : is_condemned y ≡ false

-- what a change does to the kept objects
abbrev pub Leaves : (ℕ → Type 0) → List Object → List Object → Type 0
Leaves kept before after = (x : Object) → Includes before x → kept x.serial → is_condemned x ≡ false → (y : Object) × Includes after y × Fares x y

pub leaves_same : (kept : ℕ → Type 0) (objects : List Object) → Leaves kept objects objects
leaves_same kept objects x m k e = (x, m, record { serial = refl; refers = λ o i. i; clear = e })

pub leaves_trans : (kept : ℕ → Type 0) (before now after : List Object) → Leaves kept before now → Leaves kept now after → Leaves kept before after
leaves_trans kept before now after h i x m k e =
    let a = h x m k e in
    let b = i a.0 a.1 (subst kept (sym a.2.serial) k) a.2.clear in
    (b.0, b.1, record { serial = b.2.serial ∙ a.2.serial; refers = λ o r. b.2.refers o (a.2.refers o r); clear = b.2.clear })

pub test_leaves : (kept : ℕ → Type 0) (f : Object → Object) (test : Object → Bool) (objects : List Object) → ((x : Object) → Includes objects x → test x ≡ true
    → kept x.serial → is_condemned x ≡ false → Fares x (f x)) → Leaves kept objects (map (λ x. if test x then f x else x) objects)
test_leaves kept f test objects h x m k e = (if test x then f x else x, Includes-map (λ x. if test x then f x else x) objects x m, one (test x) refl)
  where
    one : (b : Bool) → test x ≡ b → Fares x (if b then f x else x)
    one true t = h x m t k e
    one false t = record { serial = refl; refers = λ o i. i; clear = e }

-- to a place of uncondemned objects
pub placed_leaves : (kept : ℕ → Type 0) (p : Place) (test : Object → Bool) (objects : List Object) → ((x : Object) → is_condemned (with_place p x) ≡ false)
    → Leaves kept objects (map (λ x. if test x then with_place p x else x) objects)
placed_leaves kept p test objects clear = test_leaves kept (with_place p) test objects (λ x m t k e. record { serial = refl; refers = λ o i. i; clear = clear x })

pub lost_leaves : (kept : ℕ → Type 0) (weak : ℕ) (objects : List Object) → Leaves kept objects (loses_referent weak objects)
lost_leaves kept weak objects = test_leaves kept (with_referent None) (λ x. x.serial == weak) objects (λ x m t k e. record { serial = refl; refers = λ o i. i; clear = e })

pub all_lose_leaves : (kept : ℕ → Type 0) (wanted : Object → Bool) (weaks : List ℕ) (objects after : List Object) → AllLose wanted objects weaks after → Leaves kept objects after
all_lose_leaves kept wanted [] objects after lose = subst (Leaves kept objects) (sym lose.1) (leaves_same kept objects)
all_lose_leaves kept wanted (weak ∷ weaks) objects after lose = leaves_trans kept objects (loses_referent weak objects) after (lost_leaves kept weak objects)
    (all_lose_leaves kept wanted weaks (loses_referent weak objects) after lose.1)

pub appended : (xs ys : List Entry) (o : ℕ) → Includes (references xs) o → Includes (references (xs ++ ys)) o
appended [] ys o m = absurd m
appended (x ∷ xs) ys o m = either (Includes-append_cases (entry_references x) (references xs) o m) (λ k. Includes-append_left (entry_references x)
    (references (xs ++ ys)) o k) (λ k. Includes-append_right (entry_references x) (references (xs ++ ys)) o (appended xs ys o k))

pub saved_leaves : (kept : ℕ → Type 0) (o : ℕ) (objects : List Object) → Leaves kept objects (saved o objects)
saved_leaves kept o objects = test_leaves kept (λ x. with_entries (x.entries ++ item (Ref o) ∷ []) x) (λ x. x.serial == 1) objects
    (λ x m t k e. record { serial = refl; refers = λ r i. appended x.entries (item (Ref o) ∷ []) r i; clear = e })

-- other entries, for an object that is not kept
pub entries_leave : (kept : ℕ → Type 0) (es : List Entry) (o : ℕ) (objects : List Object) → ¬ kept o → Leaves kept objects (change (with_entries es) o objects)
entries_leave kept es o objects apart = test_leaves kept (with_entries es) (λ x. x.serial == o) objects (λ x m t k e. absurd (apart (subst kept (eqb-true x.serial o t) k)))

pub without_leaves : (kept : ℕ → Type 0) (o : ℕ) (objects : List Object) → ¬ kept o → Leaves kept objects (without o objects)
without_leaves kept o objects apart x m k e = (
  x,
  Includes-filter (λ (z : Object). not (z.serial == o)) objects x
      (ap not (either (cases_of (x.serial == o)) (λ t. absurd (apart (subst kept (eqb-true x.serial o t) k))) (λ f. f))) m,
  record { serial = refl; refers = λ r i. i; clear = e },
)

-- each kept object is held in this way
abbrev pub IsKeptBy : (ℕ → Type 0) → List Object → List (Option Val) → List Activity → ℕ → Type 0
IsKeptBy kept start names below o = Includes (name_holdings names) o
    ⊎ ((o ≡ 1) ⊎ (Includes (flat_map holds below) o ⊎ ((list_any (is_death_of o) below ≡ true) ⊎ ((x : Object) × Includes start x × kept x.serial
    × Includes (references x.entries) o))))

-- the object that has its turn
abbrev pub turns_of : CollectPhase → List ℕ
turns_of (Turn o) = o ∷ []
turns_of (AfterTurn o) = o ∷ []
turns_of phase = []

-- on top of the collection: releases, and deaths of objects that are not kept
abbrev pub IsBare : (ℕ → Type 0) → Activity → Type 0
IsBare kept (Releasing references) = Unit {0}
IsBare kept (Dying d) = ¬ kept d.object
IsBare kept a = ⊥

pub record Full (kept : ℕ → Type 0) (start : List Object) (below : List Activity) (objects : List Object) (stack : List Activity) : Type 0 where
  pub tops : List Activity
  pub collection : Collection
  pub is : stack ≡ tops ++ Collecting collection ∷ below
  pub bare : (a : Activity) → Includes tops a → IsBare kept a
  pub turn : (o : ℕ) → Includes (turns_of collection.phase) o → ¬ kept o
  pub begun : collection.phase ≢ Start
  pub lives : (x : Object) → Includes start x → kept x.serial → (y : Object) × Includes objects y × Fares x y

pub lives_on : (kept : ℕ → Type 0) (start before after : List Object) → Leaves kept before after → ((x : Object) → Includes start x → kept x.serial
    → (y : Object) × Includes before y × Fares x y) → (x : Object) → Includes start x → kept x.serial → (y : Object) × Includes after y × Fares x y
lives_on kept start before after leaves h x m k =
    let a = h x m k in
    let b = leaves a.0 a.1 (subst kept (sym a.2.serial) k) a.2.clear in
    (b.0, b.1, record { serial = b.2.serial ∙ a.2.serial; refers = λ o r. b.2.refers o (a.2.refers o r); clear = b.2.clear })

-- a release never brings a kept object to 0
pub death_in : (o : ℕ) (tops below : List Activity) → list_any (is_death_of o) below ≡ true → list_any (is_death_of o) (tops ++ below) ≡ true
death_in o [] below e = e
death_in o (a ∷ tops) below e = or_true (is_death_of o a) (death_in o tops below e)
  where
    or_true : (b : Bool) {c : Bool} → c ≡ true → (b || c) ≡ true
    or_true true e = refl
    or_true false e = e

pub held_in : (o : ℕ) (tops below : List Activity) → Includes (flat_map holds below) o → Includes (flat_map holds (tops ++ below)) o
held_in o [] below m = m
held_in o (a ∷ tops) below m = Includes-append_right (holds a) (flat_map holds (tops ++ below)) o (held_in o tops below m)

pub never_released : (kept : ℕ → Type 0) (start : List Object) (tops below : List Activity) (v : World) (o : ℕ) → IsKeptBy kept start v.names below o
    → ((x : Object) → Includes start x → kept x.serial → (y : Object) × Includes v.objects y × Fares x y) → v.stack ≡ tops ++ below → is_dying v o ≡ false
    → in_degree v o ≡ 0 → ⊥
never_released kept start tops below v o held lives is live none = go held
  where
    go : IsKeptBy kept start v.names below o → ⊥
    go (inl m) = (none_holds v o none).names m
    go (inr (inl e)) = (none_holds v o none).root e
    go (inr (inr (inl m))) = (none_holds v o none).stack (subst (λ st. Includes (flat_map holds st) o) (sym is) (held_in o tops below m))
    go (inr (inr (inr (inl e)))) = let dies = subst (λ st. list_any (is_death_of o) st ≡ true) (sym is) (death_in o tops below e) in let no : true ≡ false = sym dies ∙ live in cc
    go (inr (inr (inr (inr x)))) = let y = lives x.0 x.1 x.2 in (none_holds v o none).entries y.0 y.1 (y.2.refers o x.3)
