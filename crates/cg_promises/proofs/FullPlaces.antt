-- Where an object may be during a full collection in which no frame begins: before the second reachability pass, and after it.
use Rattle.std.proofs.Common.{◌≡◌, refl, sym, ◌∙◌, subst, ℕ, Bool, true, inl, inr, ◌⊎◌, List, map}
use Rattle.std.specs.Prelude.{if◌then◌else◌}
use Rattle.cg_value.specs.declared.Place.{Place}
use Rattle.cg_value.specs.declared.Place.TheVariants.{Untracked, Cand, Seen, Legacy, Pend}
use Rattle.cg_script.specs.declared.Script.{Script}
use Rattle.cg_graph.specs.Member.{Includes}
use Rattle.cg_graph.specs.Object.{Object}
use Rattle.cg_machine.specs.Program.{legacy_of}
use Rattle.cg_promises.proofs.FinalizersDone.{IsWanted}
use Rattle.cg_laws.proofs.Pointwise.{IsOrder, Came, Lasts, came, came_if, lasts, lasts_if}
use Rattle.cg_represents.proofs.Lists.{each_changed}

-- Before the second reachability pass. `kept` is what was reachable at the start, `aside` what was uncollectable
-- then.
pub data Stands (kept garbage aside : ℕ → Type 0) (y : Object) : Type 0 where
  Reached : kept y.serial → Stands kept garbage aside y
  Loose : y.place ≡ Untracked → Stands kept garbage aside y
  Pending : y.place ≡ Pend → Stands kept garbage aside y
  Condemned : IsWanted y.place → garbage y.serial → ¬ aside y.serial → Stands kept garbage aside y
  SetAside : y.place ≡ Legacy → ¬ ¬ aside y.serial → Stands kept garbage aside y

-- an uncollectable object is in its place, or waits for its callback
abbrev pub IsPut : (ℕ → Type 0) → Object → Type 0
IsPut aside y = aside y.serial → (y.place ≡ Legacy) ⊎ (y.place ≡ Pend)

abbrev pub StandsSo : (kept garbage aside : ℕ → Type 0) → Object → Type 0
StandsSo kept garbage aside y = Stands kept garbage aside y × IsPut aside y

-- After it, with the members of the final set.
pub data Rests (kept aside : ℕ → Type 0) (members : List ℕ) (y : Object) : Type 0 where
  RestsReached : kept y.serial → Rests kept aside members y
  RestsLoose : y.place ≡ Untracked → Rests kept aside members y
  RestsAside : y.place ≡ Legacy → ¬ ¬ aside y.serial → Rests kept aside members y
  IsFinal : Includes members y.serial → Rests kept aside members y

-- a condemned object is a member
abbrev pub RestsSo : (kept aside : ℕ → Type 0) (members : List ℕ) → Object → Type 0
RestsSo kept aside members y = Rests kept aside members y × (y.place ≡ Cand → Includes members y.serial)

pub test_all : (P : Object → Type 0) (f : Object → Object) (test : Object → Bool) (objects : List Object) → ((x : Object) → Includes objects x → test x ≡ true
    → P x → P (f x)) → ((x : Object) → Includes objects x → P x) → (y : Object) → Includes (map (λ x. if test x then f x else x) objects) y → P y
test_all P f test objects h all = each_changed P f test objects (λ x m t. h x m t (all x m)) (λ x m t. all x m)

module _ (kept garbage aside : ℕ → Type 0) where
  pub stands_same : (x y : Object) → y.serial ≡ x.serial → y.place ≡ x.place → StandsSo kept garbage aside x → StandsSo kept garbage aside y
  stands_same x y s p h = (go h.0, λ a. subst (λ q. (q ≡ Legacy) ⊎ (q ≡ Pend)) (sym p) (h.1 (subst aside s a)))
    where
      go : Stands kept garbage aside x → Stands kept garbage aside y
      go (Reached k) = Reached (subst kept (sym s) k)
      go (Loose u) = Loose (p ∙ u)
      go (Pending u) = Pending (p ∙ u)
      go (Condemned w g n) = Condemned (subst IsWanted (sym p) w) (subst garbage (sym s) g) (λ a. n (subst aside s a))
      go (SetAside u a) = SetAside (p ∙ u) (λ n. a (λ k. n (subst aside (sym s) k)))

  pub stands_wanted : (x y : Object) → y.serial ≡ x.serial → IsWanted x.place → IsWanted y.place → StandsSo kept garbage aside x → StandsSo kept garbage aside y
  stands_wanted x y s before after h = (go h.0, λ a. absurd (put (h.1 (subst aside s a))))
    where
      put : (x.place ≡ Legacy) ⊎ (x.place ≡ Pend) → ⊥
      put (inl e) = subst IsWanted e before
      put (inr e) = subst IsWanted e before

      go : Stands kept garbage aside x → Stands kept garbage aside y
      go (Reached k) = Reached (subst kept (sym s) k)
      go (Loose u) = absurd (subst IsWanted u before)
      go (Pending u) = absurd (subst IsWanted u before)
      go (Condemned w g n) = Condemned after (subst garbage (sym s) g) (λ a. n (subst aside s a))
      go (SetAside u a) = absurd (subst IsWanted u before)

module _ (kept aside : ℕ → Type 0) (members : List ℕ) where
  pub rests_same : (x y : Object) → y.serial ≡ x.serial → y.place ≡ x.place → RestsSo kept aside members x → RestsSo kept aside members y
  rests_same x y s p h = (go h.0, λ e. subst (Includes members) (sym s) (h.1 (sym p ∙ e)))
    where
      go : Rests kept aside members x → Rests kept aside members y
      go (RestsReached k) = RestsReached (subst kept (sym s) k)
      go (RestsLoose u) = RestsLoose (p ∙ u)
      go (RestsAside u a) = RestsAside (p ∙ u) (λ n. a (λ k. n (subst aside (sym s) k)))
      go (IsFinal m) = IsFinal (subst (Includes members) (sym s) m)

  pub rests_loose : (y : Object) → y.place ≡ Untracked → RestsSo kept aside members y
  rests_loose y u = (RestsLoose u, λ e. absurd (let no : Untracked ≡ Cand = sym u ∙ e in cc))

  pub rests_final : (y : Object) → Includes members y.serial → RestsSo kept aside members y
  rests_final y m = (IsFinal m, λ e. m)

-- the same object with the same entries
pub record Alike (script : Script) (x y : Object) : Type 0 where
  pub serial : y.serial ≡ x.serial
  pub entries : y.entries ≡ x.entries
  pub legacy : legacy_of script y ≡ legacy_of script x

-- each object is still there, and none is new
pub record AreAlike (script : Script) (before after : List Object) : Type 0 where
  pub there : Lasts (Alike script) before after
  pub back : Came (Alike script) before after

alike : (script : Script) → IsOrder (Alike script)
alike script = record {
  same = λ x. record { serial = refl; entries = refl; legacy = refl };
  trans = λ x y z h k. record { serial = k.serial ∙ h.serial; entries = k.entries ∙ h.entries; legacy = k.legacy ∙ h.legacy };
}

pub alike_trans : (script : Script) (before now after : List Object) → AreAlike script before now → AreAlike script now after → AreAlike script before after
alike_trans script before now after h k = record {
  there = (lasts (Alike script) (alike script)).trans before now after h.there k.there;
  back = (came (Alike script) (alike script)).trans before now after h.back k.back;
}

pub alike_same : (script : Script) (objects : List Object) → AreAlike script objects objects
alike_same script objects = record { there = (lasts (Alike script) (alike script)).same objects; back = (came (Alike script) (alike script)).same objects }

pub test_alike : (script : Script) (f : Object → Object) (test : Object → Bool) (objects : List Object) → ((x : Object) → Alike script x (f x))
    → AreAlike script objects (map (λ x. if test x then f x else x) objects)
test_alike script f test objects h = record {
  there = lasts_if (Alike script) (alike script).same f test objects (λ x m t. h x);
  back = came_if (Alike script)
      (alike script).same f test objects (λ x m t. h x);
}

-- those in a place of condemned objects
pub wanted_cand : (p : Place) → p ≡ Cand → IsWanted p
wanted_cand p e = subst IsWanted (sym e) tt

pub wanted_seen : (p : Place) → p ≡ Seen → IsWanted p
wanted_seen p e = subst IsWanted (sym e) tt
