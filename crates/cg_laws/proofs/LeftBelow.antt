-- What a step leaves below it: the activities, and the entries of objects that are dying or waiting there.
use Rattle.std.proofs.Common.{◌≡◌, ◌≢◌, refl, sym, ◌∙◌, subst, ℕ, Bool, true, not, inl, inr, ◌⊎◌, List, [], ◌∷◌, ◌++◌, map}
use Rattle.std.specs.Prelude.{◌==◌, if◌then◌else◌, flat_map}
use Rattle.std.proofs.lemmas.Bool.{eqb-true}
use Rattle.cg_value.specs.declared.Entry.{Entry}
use Rattle.cg_value.specs.declared.Val.TheVariants.{Ref}
use Rattle.cg_graph.specs.Value.{item}
use Rattle.cg_value.specs.declared.KindCode.TheVariants.{List as ListKind, Weak}
use Rattle.cg_graph.specs.Member.{Includes}
use Rattle.cg_graph.specs.Object.{Object, change, without, with_entries}
use Rattle.cg_graph.proofs.Members.{either, Includes-append_left, Includes-append_right, Includes-map_cases, Includes-filter_cases}
use Rattle.cg_machine.specs.World.{World, Activity, Dying, Collecting, Death}
use Rattle.cg_machine.specs.Holdings.{holds}
use Rattle.cg_machine.specs.Collect.{saved}
use Rattle.cg_represents.specs.Orderly.{waits_of, all_waits}
use Rattle.cg_represents.proofs.Lists.{each_changed}
use Rattle.cg_laws.specs.Laws.{IsOfCollection}
use Rattle.cg_laws.proofs.Unreferred.{Forgotten, IsLater, later_refl, later_trans, still_later}
use Rattle.cg_laws.proofs.HeldLives.{Orderly}

-- an object whose entries a step may change: not one that is dying below and forgotten, and not one that waits below
pub record MayChange (w : World) (below : List Activity) (s : ℕ) : Type 0 where
  pub dying : (d : Death) → Includes below (Dying d) → Forgotten w d.object → s ≢ d.object
  pub waiting : ¬ Includes (all_waits below) s

-- a collection is on top
abbrev pub IsCollectionOnTop : List Activity → Type 0
IsCollectionOnTop (Collecting c ∷ below) = Unit {0}
IsCollectionOnTop stack = ⊥

-- where an object comes from, and whether it has the same entries and place
pub record ComesFrom (w : World) (below : List Activity) (before : List Object) (y : Object) : Type 0 where
  pub was : Object
  pub member : Includes before was
  pub later : IsLater was y
  pub entries : (y.entries ≡ was.entries) ⊎ MayChange w below was.serial
  pub place : IsOfCollection y.place → (was.place ≡ y.place) ⊎ IsCollectionOnTop w.stack

abbrev pub AreFrom : World → List Activity → List Object → List Object → Type 0
AreFrom w below before after = (y : Object) → Includes after y → ComesFrom w below before y

pub from_refl : (w : World) (below : List Activity) (objects : List Object) → AreFrom w below objects objects
from_refl w below objects y m = record { was = y; member = m; later = later_refl y; entries = inl refl; place = λ k. inl refl }

pub from_trans : (w : World) (below : List Activity) (before now after : List Object) → AreFrom w below before now → AreFrom w below now after → AreFrom w below before after
from_trans w below before now after h k z m =
    let y = k z m in
    let x = h y.was y.member in
    record {
      was = x.was;
      member = x.member;
      later = later_trans x.was y.was z x.later y.later;
      entries = either y.entries (λ e. either x.entries (λ f. inl (e ∙ f)) (λ t. inr t)) (λ t. inr (subst (MayChange w below) x.later.serial t));
      place = λ c. either (y.place c) (λ e. either (x.place (subst IsOfCollection (sym e) c)) (λ f. inl (f ∙ e)) (λ t. inr t)) (λ t. inr t);
    }

pub from_if : (w : World) (below : List Activity) (f : Object → Object) (test : Object → Bool) → ((x : Object) → IsLater x (f x))
    → ((x : Object) → test x ≡ true → ((f x).entries ≡ x.entries) ⊎ MayChange w below x.serial)
    → ((x : Object) → IsOfCollection (f x).place → (x.place ≡ (f x).place) ⊎ IsCollectionOnTop w.stack) → (objects : List Object) → AreFrom w below objects
    (map (λ x. if test x then f x else x) objects)
from_if w below f test later entries places objects = each_changed (ComesFrom w below objects) f test objects
    (λ x k e. record { was = x; member = k; later = later x; entries = entries x e; place = places x })
    (λ x k e. record { was = x; member = k; later = later_refl x; entries = inl refl; place = λ c. inl refl })

pub from_entries : (w : World) (below : List Activity) (es : List Entry) (s : ℕ) → MayChange w below s → (objects : List Object) → AreFrom w below objects (change (with_entries es) s objects)
from_entries w below es s t objects = from_if w below (with_entries es) (λ x. x.serial == s) (λ x. still_later) (λ x e. inr (subst (MayChange w below) (sym (eqb-true x.serial s e)) t)) (λ x c. inl refl) objects

pub from_without : (w : World) (below : List Activity) (o : ℕ) (objects : List Object) → AreFrom w below objects (without o objects)
from_without w below o objects y m = from_refl w below objects y (Includes-filter_cases (λ x. not (x.serial == o)) objects y m).0

pub from_saved : (w : World) (below : List Activity) (s : ℕ) → MayChange w below 1 → (objects : List Object) → AreFrom w below objects (saved s objects)
from_saved w below s t objects = from_if w below (λ x. with_entries (x.entries ++ item (Ref s) ∷ []) x) (λ x. x.serial == 1)
    (λ x. still_later) (λ x e. inr (subst (MayChange w below) (sym (eqb-true x.serial 1 e)) t))
    (λ x c. inl refl) objects

-- What a step leaves below it. It makes at most one object.
pub record LeavesIt (w : World) (below : List Activity) (after : World) : Type 0 where
  pub tops : List Activity
  pub stack : after.stack ≡ tops ++ below
  pub from : (y : Object) → Includes after.objects y → ComesFrom w below w.objects y ⊎ (y.serial ≡ w.next_serial) × (¬ IsOfCollection y.place)

pub leaves_from : (w : World) (below : List Activity) (after : World) (tops : List Activity) → after.stack ≡ tops ++ below → AreFrom w below w.objects after.objects → LeavesIt w below after
leaves_from w below after tops stack from = record { tops = tops; stack = stack; from = λ y m. inl (from y m) }

pub held_may_change : (w : World) (a : Activity) (below : List Activity) (s : ℕ) → w.stack ≡ a ∷ below → Includes (holds a) s → (¬ Includes (all_waits below) s) → MayChange w below s
held_may_change w a below s top held free = record {
  dying = λ d m f e. f.unheld.stack (subst (λ st. Includes (flat_map holds st) d.object) (sym top) (Includes-append_left (holds a) (flat_map holds below)
      d.object (subst (Includes (holds a)) e held)));
  waiting = free;
}

-- the garbage list neither dies nor waits
pub garbage_may_change : (w : World) (a : Activity) (below : List Activity) → w.stack ≡ a ∷ below → Orderly w.objects w.names w.stack → MayChange w below 1
garbage_may_change w a below top h = record {
  dying = λ d m f e. f.unheld.root (sym e);
  waiting = λ k.
      let x = Includes-map_cases (λ (z : Object). z.serial) w.objects 1 h.root_lives in
      let waits = h.waiting 1 (subst (λ st. Includes (all_waits st) 1) (sym top) (Includes-append_right (waits_of a) (all_waits below) 1 k)) x.0 x.1 x.2 in
      let no : ListKind ≡ Weak = sym (h.garbage x.0 x.1 x.2) ∙ waits.code in
      cc;
}
