-- The lines of a step name live objects, and a cleared weak reference has no referent afterwards.
use Rattle.std.proofs.Common.{◌≡◌, refl, sym, ◌∙◌, ap, subst, ℕ, ◌<◌, Bool, true, false, not, inl, inr, ◌⊎◌, List, [], ◌∷◌, Option, Some, None}
use Rattle.std.specs.Prelude.{◌==◌, if◌then◌else◌, filter, option_and_then, option_map, unwrap_or}
use Rattle.std.proofs.lemmas.Bool.{eqb-true, eq-eqb}
use Rattle.cg_graph.specs.Member.{Includes}
use Rattle.cg_graph.specs.Object.{Object, change, object_at, serials, with_referent, without}
use Rattle.cg_graph.proofs.Members.{Includes-filter, Includes-filter_cases, Includes-map, Includes-map_cases}
use Rattle.cg_machine.specs.Collect.{SameMembers}
use Rattle.cg_machine.specs.Weak.{AllLose, is_reference_to, loses_referent, weak_references, weak_references_if}
use Rattle.cg_represents.proofs.Lists.{present, Includes-of_count, found_at}
use Rattle.cg_laws.proofs.UnheldCollections.{all_lose_alters}
use Rattle.cg_laws.proofs.Unreferred.{IsLater, lost_alters, none_later}
use Rattle.cg_machine.specs.Dying.{finalizer_to_run}
use Rattle.cg_machine.specs.Program.{finalizer_of}
use Rattle.cg_script.specs.declared.Script.{Script}
use Rattle.cg_laws.proofs.Pointwise.{Came, came_lives}
use Rattle.cg_laws.proofs.MeasureInDeaths.{Includes-reverse}

-- no object of this serial refers to anything
abbrev pub HasNoReferent : ℕ → List Object → Type 0
HasNoReferent n objects = (y : Object) → Includes objects y → y.serial ≡ n → y.referent ≡ None

pub came_back : (before after : List Object) → Came IsLater before after → (n : ℕ) → Includes (serials after) n → Includes (serials before) n
came_back before after h n m = came_lives IsLater (λ x y k. k.serial) before after h n m

-- a list with the same members
pub same_lives : (xs ys : List ℕ) → SameMembers xs ys → (n : ℕ) → Includes xs n → Includes ys n
same_lives xs ys same n m = Includes-of_count n ys (subst (λ k. 0 < k) (same n) (present n xs m))

-- an object found by its serial
pub found_with : (f : Object → Option ℕ) (objects : List Object) (o p : ℕ) → option_and_then f (object_at objects o) ≡ Some p → (x : Object) × Includes objects x × (x.serial ≡ o) × (f x ≡ Some p)
found_with f objects o p e = go (object_at objects o) refl e
  where
    go : (m : Option Object) → object_at objects o ≡ m → option_and_then f m ≡ Some p → (x : Object) × Includes objects x × (x.serial ≡ o) × (f x ≡ Some p)
    go None at k = absurd (let no : None ≡ Some p = k in cc)
    go (Some x) at k = let found = found_at objects o x at in (x, found.0, found.1, k)

-- a finalizer that is to run has not run
pub to_run : (script : Script) (x : Object) (p : ℕ) → finalizer_to_run script x ≡ Some p → (x.finalized ≡ false) × (finalizer_of script x ≡ Some p)
to_run script x p e = go x.finalized refl e
  where
    go : (b : Bool) → x.finalized ≡ b → (if b then None else finalizer_of script x) ≡ Some p → (x.finalized ≡ false) × (finalizer_of script x ≡ Some p)
    go true t k = absurd (let no : None ≡ Some p = k in cc)
    go false t k = (t, k)

pub filter_lives : (test : Object → Bool) (objects : List Object) (n : ℕ) → Includes (serials (filter test objects)) n → Includes (serials objects) n
filter_lives test objects n m =
    let x = Includes-map_cases (λ (z : Object). z.serial) (filter test objects) n m in
    subst (Includes (serials objects)) x.2 (Includes-map (λ (z : Object). z.serial) objects x.0 (Includes-filter_cases test objects x.0 x.1).0)

pub weak_lives : (test : Object → Bool) (objects : List Object) (o weak : ℕ) (weaks : List ℕ) → weak_references_if test objects o ≡ weak ∷ weaks → Includes (serials objects) weak
weak_lives test objects o weak weaks e = go (unwrap_or (option_map test (object_at objects o)) false) e
  where
    go : (b : Bool) → (if b then weak_references objects o else []) ≡ weak ∷ weaks → Includes (serials objects) weak
    go true k = filter_lives (is_reference_to o) objects weak (Includes-reverse (serials (filter (is_reference_to o) objects)) weak (subst (λ ys. Includes ys weak) (sym k) (inl refl)))
    go false k = absurd (let no : [] ≡ weak ∷ weaks = k in cc)

pub without_gone : (o : ℕ) (objects : List Object) → ¬ Includes (serials (without o objects)) o
without_gone o objects m =
    let y = Includes-map_cases (λ (z : Object). z.serial) (without o objects) o m in
    let k = Includes-filter_cases (λ x. not (x.serial == o)) objects y.0 y.1 in
    let no : not true ≡ true = ap not (sym (eq-eqb y.0.serial o y.2)) ∙ k.1 in cc

pub without_lasts : (o : ℕ) (objects : List Object) (n : ℕ) → Includes (serials objects) n → Includes (serials (without o objects)) n ⊎ (o ≡ n)
without_lasts o objects n m = let x = Includes-map_cases (λ (z : Object). z.serial) objects n m in go x.0 (x.0.serial == o) refl x.1 x.2
  where
    go : (x : Object) (b : Bool) → (x.serial == o) ≡ b → Includes objects x → x.serial ≡ n → Includes (serials (without o objects)) n ⊎ (o ≡ n)
    go x true t k e = inr (sym (eqb-true x.serial o t) ∙ e)
    go x false t k e = inl (subst (Includes (serials (without o objects))) e (Includes-map (λ (z : Object). z.serial) (without o objects) x
        (Includes-filter (λ x. not (x.serial == o)) objects x (ap not t) k)))

-- a field of all objects of a serial that changes
pub changed_all : (Q : Object → Type 0) (f : Object → Object) (o : ℕ) (objects : List Object) → ((x : Object) → Q (f x)) → (y : Object) → Includes (change f o objects) y → y.serial ≡ o → Q y
changed_all Q f o objects h y m e = let x = Includes-map_cases (λ x. if x.serial == o then f x else x) objects y m in go x.0 (x.0.serial == o) refl x.2
  where
    go : (x : Object) (b : Bool) → (x.serial == o) ≡ b → (if b then f x else x) ≡ y → Q y
    go x true t i = subst Q i (h x)
    go x false t i = absurd (let no : true ≡ false = sym (eq-eqb x.serial o (ap (λ (z : Object). z.serial) i ∙ e)) ∙ t in cc)

pub lost_none : (weak : ℕ) (objects : List Object) → HasNoReferent weak (loses_referent weak objects)
lost_none weak objects = changed_all (λ z. z.referent ≡ None) (with_referent None) weak objects (λ x. refl)

pub none_stays : (n : ℕ) (before after : List Object) → Came IsLater before after → HasNoReferent n before → HasNoReferent n after
none_stays n before after h none y m e = let x = h y m in none_later x.0 y x.2 (none x.0 x.1 (sym x.2.serial ∙ e))

pub all_lose_live : (wanted : Object → Bool) (weaks : List ℕ) (objects after : List Object) → AllLose wanted objects weaks after → (n : ℕ) → Includes weaks n → Includes (serials objects) n
all_lose_live wanted [] objects after lose n m = absurd m
all_lose_live wanted (weak ∷ weaks) objects after lose n (inl e) = subst (Includes (serials objects)) (lose.0.is ∙ e) (Includes-map (λ (z : Object). z.serial) objects lose.0.object lose.0.member)
all_lose_live wanted (weak ∷ weaks) objects after lose n (inr m) = came_back objects (loses_referent weak objects) (lost_alters weak objects).origin n
    (all_lose_live wanted weaks (loses_referent weak objects) after lose.1 n m)

pub all_lose_none : (wanted : Object → Bool) (weaks : List ℕ) (objects after : List Object) → AllLose wanted objects weaks after → (n : ℕ) → Includes weaks n → HasNoReferent n after
all_lose_none wanted [] objects after lose n m = absurd m
all_lose_none wanted (weak ∷ weaks) objects after lose n (inl e) = none_stays n (loses_referent weak objects) after
    (all_lose_alters wanted weaks (loses_referent weak objects) after lose.1).origin (subst (λ k. HasNoReferent k (loses_referent weak objects)) e
    (lost_none weak objects))
all_lose_none wanted (weak ∷ weaks) objects after lose n (inr m) = all_lose_none wanted weaks (loses_referent weak objects) after lose.1 n m
