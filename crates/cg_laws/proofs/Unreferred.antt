-- Objects that nothing holds and no weak reference refers to, and the changes that keep them so.
use Rattle.std.proofs.Common.{◌≡◌, ◌≢◌, refl, sym, ◌∙◌, subst, ℕ, ◌<◌, ◌≤◌, suc, Bool, true, false, inl, inr, ◌⊎◌, List, [], ◌∷◌, map, Some, None, arith}
use Rattle.std.specs.Prelude.{◌==◌, if◌then◌else◌, flat_map}
use Rattle.std.proofs.lemmas.Bool.{eqb-true}
use Rattle.cg_value.specs.declared.Place.{Place}
use Rattle.cg_value.specs.declared.Place.TheVariants.{Untracked}
use Rattle.cg_value.specs.declared.Entry.{Entry}
use Rattle.cg_script.specs.declared.Script.{Script}
use Rattle.cg_graph.specs.Member.{Includes}
use Rattle.cg_graph.specs.Value.{references}
use Rattle.cg_graph.specs.Object.{Object, change, serials, with_place, with_entries, with_referent}
use Rattle.cg_graph.specs.Holdings.{name_holdings}
use Rattle.cg_graph.proofs.Members.{either, Includes-map_cases}
use Rattle.cg_machine.specs.World.{World}
use Rattle.cg_machine.specs.Holdings.{holds}
use Rattle.cg_machine.specs.Weak.{has_weak_references, loses_referent}
use Rattle.cg_machine.specs.Dying.{has_finalizers}
use Rattle.cg_represents.proofs.Serials.{Rises}
use Rattle.cg_laws.proofs.Pointwise.{IsOrder, Came, Lasts, came, came_if, came_map, lasts, lasts_if, lasts_lives, lasts_map}

-- an object does not hold o; o itself is untracked and has no referent
pub record IsQuiet (o : ℕ) (x : Object) : Type 0 where
  pub entries : ¬ Includes (references x.entries) o
  pub untracked : x.serial ≡ o → x.place ≡ Untracked
  pub refers_to_none : x.serial ≡ o → x.referent ≡ None

abbrev pub AreQuiet : ℕ → List Object → Type 0
AreQuiet o objects = (x : Object) → Includes objects x → IsQuiet o x

-- nothing holds it
pub record Unheld (w : World) (o : ℕ) : Type 0 where
  pub quiet : AreQuiet o w.objects
  pub names : ¬ Includes (name_holdings w.names) o
  pub root : o ≢ 1
  pub stack : ¬ Includes (flat_map holds w.stack) o

-- no weak reference refers to it
abbrev pub NoneRefers : ℕ → List Object → Type 0
NoneRefers o objects = (x : Object) → Includes objects x → x.referent ≢ Some o

-- neither
pub record Forgotten (w : World) (o : ℕ) : Type 0 where
  pub unheld : Unheld w o
  pub unreferred : NoneRefers o w.objects

-- an object lives and has no referent, as a dying object does
pub record Mortal (objects : List Object) (o : ℕ) : Type 0 where
  pub lives : Includes (serials objects) o
  pub refers_to_none : (x : Object) → Includes objects x → x.serial ≡ o → x.referent ≡ None

-- its class has a finalizer or a legacy finalizer
abbrev pub HasFinalizers : Script → List Object → ℕ → Type 0
HasFinalizers script objects o = (x : Object) → Includes objects x → x.serial ≡ o → has_finalizers script x ≡ true

-- a referent lives, and is an instance or a function
abbrev pub AreReferred : List Object → Type 0
AreReferred objects = (x : Object) → Includes objects x → (r : ℕ) → x.referent ≡ Some r → (z : Object) × Includes objects z × (z.serial ≡ r) × (has_weak_references z ≡ true)

-- the same object later
pub record IsLater (x y : Object) : Type 0 where
  pub serial : y.serial ≡ x.serial
  pub code : y.code ≡ x.code
  pub class : y.class ≡ x.class
  pub referent : (y.referent ≡ x.referent) ⊎ (y.referent ≡ None)

-- no object is added or removed
pub record Alters (before after : List Object) : Type 0 where
  pub origin : Came IsLater before after
  pub lasts : Lasts IsLater before after

-- another place, mark or entries
pub still_later : {p : Place} {b : Bool} {es : List Entry} {x : Object} → IsLater x (record x { place = p; finalized = b; entries = es })
still_later = record { serial = refl; code = refl; class = refl; referent = inl refl }

pub lost_later : {p : Place} {b : Bool} {es : List Entry} {x : Object} → IsLater x (record x { place = p; finalized = b; entries = es; referent = None })
lost_later = record { serial = refl; code = refl; class = refl; referent = inr refl }

pub later_refl : (x : Object) → IsLater x x
later_refl x = still_later

pub later_trans : (x y z : Object) → IsLater x y → IsLater y z → IsLater x z
later_trans x y z h k = record {
  serial = k.serial ∙ h.serial;
  code = k.code ∙ h.code;
  class = k.class ∙ h.class;
  referent = either k.referent (λ e. either h.referent (λ f. inl (e ∙ f)) (λ f. inr (e ∙ f))) (λ e. inr e);
}

pub later : IsOrder IsLater
later = record { same = later_refl; trans = later_trans }

pub alters_refl : (objects : List Object) → Alters objects objects
alters_refl objects = record { origin = (came IsLater later).same objects; lasts = (lasts IsLater later).same objects }

pub alters_trans : (before now after : List Object) → Alters before now → Alters now after → Alters before after
alters_trans before now after h k = record { origin = (came IsLater later).trans before now after h.origin k.origin; lasts = (lasts IsLater later).trans before now after h.lasts k.lasts }

pub map_alters : (f : Object → Object) → ((x : Object) → IsLater x (f x)) → (objects : List Object) → Alters objects (map f objects)
map_alters f h objects = record { origin = came_map IsLater later_refl f objects (λ x m. h x); lasts = lasts_map IsLater later_refl f objects (λ x m. h x) }

pub if_alters : (f : Object → Object) → ((x : Object) → IsLater x (f x)) → (test : Object → Bool) (objects : List Object) → Alters objects (map (λ x. if test x then f x else x) objects)
if_alters f h test objects = record { origin = came_if IsLater later_refl f test objects (λ x m t. h x); lasts = lasts_if IsLater later_refl f test objects (λ x m t. h x) }

pub change_alters : (f : Object → Object) → ((x : Object) → IsLater x (f x)) → (s : ℕ) (objects : List Object) → Alters objects (change f s objects)
change_alters f h s objects = if_alters f h (λ x. x.serial == s) objects

pub place_later : (p : Place) (x : Object) → IsLater x (with_place p x)
place_later p x = still_later

pub lives_after : (before after : List Object) → Alters before after → (o : ℕ) → Includes (serials before) o → Includes (serials after) o
lives_after before after a = lasts_lives IsLater (λ x y k. k.serial) before after a.lasts

pub none_later : (x y : Object) → IsLater x y → x.referent ≡ None → y.referent ≡ None
none_later x y h e = either h.referent (λ k. k ∙ e) (λ k. k)

pub some_later : (x y : Object) → IsLater x y → (r : ℕ) → y.referent ≡ Some r → x.referent ≡ Some r
some_later x y h r e = either h.referent (λ k. sym k ∙ e) (λ k. absurd (let no : None ≡ Some r = sym k ∙ e in cc))

pub mortal_after : (before after : List Object) → Alters before after → (o : ℕ) → Mortal before o → Mortal after o
mortal_after before after a o h = record {
  lives = lives_after before after a o h.lives;
  refers_to_none = λ y m e. let x = a.origin y m in none_later x.0 y x.2 (h.refers_to_none x.0 x.1 (sym x.2.serial ∙ e));
}

pub finalizers_later : (script : Script) (x y : Object) → IsLater x y → has_finalizers script y ≡ has_finalizers script x
finalizers_later script x y h = let c : y.code ≡ x.code = h.code in let k : y.class ≡ x.class = h.class in cc

pub finalizers_after : (script : Script) (before after : List Object) → Alters before after → (o : ℕ) → HasFinalizers script before o → HasFinalizers script after o
finalizers_after script before after a o h y m e = let x = a.origin y m in finalizers_later script x.0 y x.2 ∙ h x.0 x.1 (sym x.2.serial ∙ e)

pub unreferred_after : (before after : List Object) → Alters before after → (o : ℕ) → NoneRefers o before → NoneRefers o after
unreferred_after before after a o h y m e = let x = a.origin y m in h x.0 x.1 (some_later x.0 y x.2 o e)

weak_later : (x y : Object) → IsLater x y → has_weak_references y ≡ has_weak_references x
weak_later x y h = let c : y.code ≡ x.code = h.code in cc

pub referred_after : (before after : List Object) → Alters before after → AreReferred before → AreReferred after
referred_after before after a h y m r e =
    let x = a.origin y m in
    let z = h x.0 x.1 r (some_later x.0 y x.2 r e) in
    let now = a.lasts z.0 z.1 in
    (now.0, now.1, now.2.serial ∙ z.2, weak_later z.0 now.0 now.2 ∙ z.3)

pub map_quiet : (o : ℕ) (f : Object → Object) → ((x : Object) → IsQuiet o x → IsQuiet o (f x)) → (objects : List Object) → AreQuiet o objects → AreQuiet o (map f objects)
map_quiet o f h objects q y m = let x = Includes-map_cases f objects y m in subst (IsQuiet o) x.2 (h x.0 (q x.0 x.1))

if_quiet : (o : ℕ) (f : Object → Object) (b : Bool) (x : Object) → (b ≡ true → IsQuiet o (f x)) → IsQuiet o x → IsQuiet o (if b then f x else x)
if_quiet o f true x h q = h refl
if_quiet o f false x h q = q

pub test_quiet : (o : ℕ) (f : Object → Object) (test : Object → Bool) → ((x : Object) → test x ≡ true → IsQuiet o x → IsQuiet o (f x)) → (objects : List Object)
    → AreQuiet o objects → AreQuiet o (map (λ x. if test x then f x else x) objects)
test_quiet o f test h objects q = map_quiet o (λ x. if test x then f x else x) (λ x k. if_quiet o f (test x) x (λ e. h x e k) k) objects q

pub place_quiet : (o s : ℕ) (p : Place) → s ≢ o → (objects : List Object) → AreQuiet o objects → AreQuiet o (change (with_place p) s objects)
place_quiet o s p apart objects q = test_quiet o (with_place p) (λ x. x.serial == s) (λ x e k. record {
  entries = k.entries;
  untracked = λ i. absurd (apart (sym (eqb-true x.serial s e) ∙ i));
  refers_to_none = k.refers_to_none;
}) objects q

pub untracked_quiet : (o s : ℕ) (objects : List Object) → AreQuiet o objects → AreQuiet o (change (with_place Untracked) s objects)
untracked_quiet o s objects q = test_quiet o (with_place Untracked) (λ x. x.serial == s) (λ x e k. record { entries = k.entries; untracked = λ i. refl; refers_to_none = k.refers_to_none }) objects q

pub entries_quiet : (o s : ℕ) (es : List Entry) → ¬ Includes (references es) o → (objects : List Object) → AreQuiet o objects → AreQuiet o (change (with_entries es) s objects)
entries_quiet o s es free objects q = test_quiet o (with_entries es) (λ x. x.serial == s) (λ x e k. record { entries = free; untracked = k.untracked; refers_to_none = k.refers_to_none }) objects q

pub lost_quiet : (o s : ℕ) (objects : List Object) → AreQuiet o objects → AreQuiet o (loses_referent s objects)
lost_quiet o s objects q = test_quiet o (with_referent None) (λ x. x.serial == s) (λ x e k. record { entries = k.entries; untracked = k.untracked; refers_to_none = λ i. refl }) objects q

pub lost_alters : (s : ℕ) (objects : List Object) → Alters objects (loses_referent s objects)
lost_alters s objects = change_alters (with_referent None) (λ x. lost_later) s objects

pub entries_alter : (es : List Entry) (s : ℕ) (objects : List Object) → Alters objects (change (with_entries es) s objects)
entries_alter es s objects = change_alters (with_entries es) (λ x. still_later) s objects

pub place_alters : (p : Place) (s : ℕ) (objects : List Object) → Alters objects (change (with_place p) s objects)
place_alters p s objects = change_alters (with_place p) (place_later p) s objects

pub still_unheld : (w after : World) (o : ℕ) → after.names ≡ w.names → (AreQuiet o w.objects → AreQuiet o after.objects)
    → (¬ Includes (flat_map holds w.stack) o → ¬ Includes (flat_map holds after.stack) o) → Unheld w o → Unheld after o
still_unheld w after o names quiet stack h = record {
  quiet = quiet h.quiet;
  names = subst (λ ns. ¬ Includes (name_holdings ns) o) (sym names) h.names;
  root = h.root;
  stack = stack h.stack;
}

-- A change that leaves the names keeps an object forgotten if no activity comes to hold it.
pub still_forgotten : (w after : World) (o : ℕ) → after.names ≡ w.names → Alters w.objects after.objects → (AreQuiet o w.objects → AreQuiet o after.objects)
    → (¬ Includes (flat_map holds w.stack) o → ¬ Includes (flat_map holds after.stack) o) → Forgotten w o → Forgotten after o
still_forgotten w after o names alters quiet stack h = record {
  unheld = still_unheld w after o names quiet stack h.unheld;
  unreferred = unreferred_after
      w.objects after.objects alters o h.unreferred;
}

-- a serial that lives is between 1 and the next one
pub lives_within : (low high : ℕ) (objects : List Object) (o : ℕ) → Rises low high objects → Includes (serials objects) o → (low ≤ o) × (o < high)
lives_within low high [] o r m = absurd m
lives_within low high (x ∷ objects) o r (inl e) = let below = last_below (suc x.serial) high objects r.1 in (omega (arith, r.0, e), omega (arith, e, below))
  where
    last_below : (from to : ℕ) (xs : List Object) → Rises from to xs → from ≤ to
    last_below from to [] h = h
    last_below from to (y ∷ xs) h = omega (arith, h.0, last_below (suc y.serial) to xs h.1)
lives_within low high (x ∷ objects) o r (inr m) = let k = lives_within (suc x.serial) high objects o r.1 m in (omega (arith, r.0, k.0), k.1)
