-- A collection can always start: a plain search gives the places.
use Rattle.std.proofs.Common.{◌≡◌, refl, ◌∙◌, ap, subst, ℕ, Bool, true, false, cond, not, ◌&&◌, List, [], ◌∷◌, Some}
use Rattle.std.specs.Prelude.{◌==◌, if◌then◌else◌, unwrap_or, option_map}
use Rattle.std.specs.List.{list_any}
use Rattle.std.proofs.lemmas.Bool.{cases_Bool, and_from}
use Rattle.cg_value.specs.declared.Place.{Place}
use Rattle.cg_value.specs.declared.Place.TheVariants.{Gen, Cand, Legacy}
use Rattle.cg_script.specs.declared.Script.{Script}
use Rattle.cg_graph.specs.Value.{references}
use Rattle.cg_graph.specs.Object.{Object, object_at, is_at, is_tuple, is_tracked, may_be_tracked}
use Rattle.cg_graph.proofs.Members.{either, true_or, true_and, or_left, or_right}
use Rattle.cg_machine.specs.World.{World}
use Rattle.cg_machine.specs.Collect.{has_none_tracked, untracked_if, untrack, Sorts, survivor_place}
use Rattle.cg_laws.proofs.Garbage.{survives, survives-Survives, Survives-survives, IsGarbage-garbage, set_aside, set_aside-IsSetAside, IsSetAside-set_aside}
use Rattle.cg_represents.proofs.Lists.{Reach-inside}

abbrev may : List Object → ℕ → Bool
may objects o = unwrap_or (option_map may_be_tracked (object_at objects o)) false

may_fewer : (x : Object) (b : Bool) → may_be_tracked (untracked_if b x) ≡ true → may_be_tracked x ≡ true
may_fewer x true h = go (is_tuple x) h
  where
    go : (t : Bool) → (if t then false else true) ≡ true → (if t then is_tracked x else true) ≡ true
    go true e = cc
    go false e = refl
may_fewer x false h = h

pub serial_same : (b : Bool) (x : Object) → (untracked_if b x).serial ≡ x.serial
serial_same true x = refl
serial_same false x = refl

-- what may be tracked after a pass could be before it
may_untrack : (g : ℕ) (chosen : Object → Bool) (objects : List Object) (o : ℕ) → may (untrack g chosen objects) o ≡ true → may objects o ≡ true
may_untrack g chosen [] o h = h
may_untrack g chosen (x ∷ objects) o h =
    go (x.serial == o) (subst (λ s. unwrap_or (option_map may_be_tracked (cond (s == o) (Some (untracked_if b x)) (object_at (untrack g chosen objects) o)))
    false ≡ true) (serial_same b x) h) (may_untrack g chosen objects o)
  where
    b : Bool
    b = is_at (Gen g) x && chosen x

    go : (t : Bool) → unwrap_or (option_map may_be_tracked (cond t (Some (untracked_if b x)) (object_at (untrack g chosen objects) o))) false ≡ true
        → (may (untrack g chosen objects) o ≡ true → may objects o ≡ true) → unwrap_or (option_map may_be_tracked (cond t (Some x) (object_at objects o))) false ≡ true
    go true e ih = may_fewer x b e
    go false e ih = ih e

any_fewer : (p q : ℕ → Bool) (xs : List ℕ) → ((o : ℕ) → p o ≡ true → q o ≡ true) → list_any p xs ≡ true → list_any q xs ≡ true
any_fewer p q [] f h = h
any_fewer p q (x ∷ xs) f h = either (true_or (p x) (list_any p xs) h) (λ e. or_left (q x) _ (f x e)) (λ e. or_right (q x) _ (any_fewer p q xs f e))

contrary : (a b : Bool) → (a ≡ true → b ≡ true) → not b ≡ true → not a ≡ true
contrary true true f h = h
contrary true false f h = let e = f refl in cc
contrary false b f h = refl

none_untrack : (g : ℕ) (chosen : Object → Bool) (objects : List Object) (x : Object) → has_none_tracked objects x ≡ true → has_none_tracked (untrack g chosen objects) x ≡ true
none_untrack g chosen objects x h =
    contrary (list_any (may (untrack g chosen objects)) (references x.entries)) (list_any (may objects) (references x.entries))
    (any_fewer (may (untrack g chosen objects)) (may objects) (references x.entries) (may_untrack g chosen objects)) h

-- the tuples that could be untracked at once are, and no others
abbrev pub plain_chosen : ℕ → World → Object → Bool
plain_chosen g w x = survives w (Gen g) x.serial && (is_tuple x && has_none_tracked w.objects x)

abbrev pub plain_places : Script → ℕ → World → Object → Place
plain_places script g w x =
    if survives w (Gen g) x.serial
    then survivor_place g (untrack g (plain_chosen g w) w.objects) (untracked_if (plain_chosen g w x) x)
    else if set_aside script w (Gen g) x.serial then Legacy else Cand

pub plain_sorts : (script : Script) (g : ℕ) (w : World) → Sorts script g w (plain_chosen g w) (plain_places script g w)
plain_sorts script g w = record {
  tuples = record {
    at_least = λ x m r e. and_from _ _ (Survives-survives w (Gen g) x.serial r) e;
    at_most = λ x m e. let parts = true_and _ _ e in let tests = true_and _ _ parts.1 in
        (survives-Survives w (Gen g) x.serial parts.0, and_from _ _ tests.0 (none_untrack g (plain_chosen g w) w.objects x tests.1));
  };
  survivors = λ x m r. ap (λ b. if b then survivor_place g (untrack g (plain_chosen g w) w.objects) (untracked_if (plain_chosen g w x) x)
      else if set_aside script w (Gen g) x.serial then Legacy else Cand) (Survives-survives w (Gen g) x.serial r);
  set_aside = λ x m r.
      ap (λ b. if b then survivor_place g (untrack g (plain_chosen g w) w.objects) (untracked_if (plain_chosen g w x) x) else if set_aside script w (Gen g)
      x.serial then Legacy else Cand) (IsGarbage-garbage w (Gen g) x.serial (Reach-inside r))
      ∙ ap (λ b. if b then Legacy else Cand) (IsSetAside-set_aside script w (Gen g) x.serial r);
  condemned = λ x m k n.
      ap (λ b. if b then survivor_place g (untrack g (plain_chosen g w) w.objects) (untracked_if (plain_chosen g w x) x) else if set_aside script w (Gen g)
      x.serial then Legacy else Cand) (IsGarbage-garbage w (Gen g) x.serial k)
      ∙ ap (λ b. if b then Legacy else Cand) (either (cases_Bool (set_aside script w (Gen g) x.serial)) (λ e. absurd (n (set_aside-IsSetAside script w (Gen g) x.serial e))) (λ e. e));
}
