-- Objects before and after a change. Each object and its past are related by a reflexive and transitive relation. States once,
-- for every such relation, what changes of one, some or all objects keep.
use Rattle.std.proofs.Common.{◌≡◌, refl, sym, ◌∙◌, subst, ℕ, Bool, true, false, not, inl, inr, List, [], ◌∷◌, ◌++◌, map, None}
use Rattle.std.specs.Prelude.{◌==◌, if◌then◌else◌}
use Rattle.cg_value.specs.declared.Val.TheVariants.{Ref}
use Rattle.cg_graph.specs.Member.{Includes}
use Rattle.cg_graph.specs.Value.{item}
use Rattle.cg_graph.specs.Object.{Object, serials, with_entries, with_referent, without}
use Rattle.cg_graph.proofs.Members.{Includes-map, Includes-map_cases, Includes-filter_cases}
use Rattle.cg_machine.specs.Weak.{AllLose, loses_referent}
use Rattle.cg_machine.specs.Collect.{all_saved, saved}

-- a preorder on objects
pub record IsOrder (R : Object → Object → Type 0) : Type 0 where
  pub same : (x : Object) → R x x
  pub trans : (x y z : Object) → R x y → R y z → R x z

-- the same for all objects
pub record GoesOn (P : List Object → List Object → Type 0) : Type 0 where
  pub same : (objects : List Object) → P objects objects
  pub trans : (before now after : List Object) → P before now → P now after → P before after

abbrev pub Came : (Object → Object → Type 0) → List Object → List Object → Type 0
Came R before after = (y : Object) → Includes after y → (x : Object) × Includes before x × R x y

abbrev pub Lasts : (Object → Object → Type 0) → List Object → List Object → Type 0
Lasts R before after = (x : Object) → Includes before x → (y : Object) × Includes after y × R x y

-- several objects one after the other
module _ (P : List Object → List Object → Type 0) (order : GoesOn P) where
  pub all_lose_by : (wanted : Object → Bool) (weaks : List ℕ) → ((weak : ℕ) → Includes weaks weak → (objects : List Object)
      → P objects (loses_referent weak objects)) → (objects after : List Object) → AllLose wanted objects weaks after → P objects after
  all_lose_by wanted [] h objects after lose = subst (P objects) (sym lose.1) (order.same objects)
  all_lose_by wanted (weak ∷ weaks) h objects after lose = order.trans objects (loses_referent weak objects) after (h weak (inl refl) objects)
      (all_lose_by wanted weaks (λ k m. h k (inr m)) (loses_referent weak objects) after lose.1)

  pub all_saved_by : (keeps : List ℕ) → ((o : ℕ) → Includes keeps o → (objects : List Object) → P objects (saved o objects)) → (objects : List Object) → P objects (all_saved keeps objects)
  all_saved_by [] h objects = order.same objects
  all_saved_by (o ∷ keeps) h objects = order.trans objects (saved o objects) (all_saved keeps (saved o objects)) (h o (inl refl) objects) (all_saved_by keeps (λ k m. h k (inr m)) (saved o objects))

-- changes of objects that the relation allows
module _ (R : Object → Object → Type 0) (same : (x : Object) → R x x) where
  one_if : (f : Object → Object) (b : Bool) (x : Object) → (b ≡ true → R x (f x)) → R x (if b then f x else x)
  one_if f true x h = h refl
  one_if f false x h = same x

  pub came_map : (f : Object → Object) (objects : List Object) → ((x : Object) → Includes objects x → R x (f x)) → Came R objects (map f objects)
  came_map f objects h y m = let x = Includes-map_cases f objects y m in (x.0, x.1, subst (R x.0) x.2 (h x.0 x.1))

  pub lasts_map : (f : Object → Object) (objects : List Object) → ((x : Object) → Includes objects x → R x (f x)) → Lasts R objects (map f objects)
  lasts_map f objects h x m = (f x, Includes-map f objects x m, h x m)

  pub came_if : (f : Object → Object) (test : Object → Bool) (objects : List Object) → ((x : Object) → Includes objects x → test x ≡ true → R x (f x))
      → Came R objects (map (λ x. if test x then f x else x) objects)
  came_if f test objects h = came_map (λ x. if test x then f x else x) objects (λ x m. one_if f (test x) x (h x m))

  pub lasts_if : (f : Object → Object) (test : Object → Bool) (objects : List Object) → ((x : Object) → Includes objects x → test x ≡ true → R x (f x))
      → Lasts R objects (map (λ x. if test x then f x else x) objects)
  lasts_if f test objects h = lasts_map (λ x. if test x then f x else x) objects (λ x m. one_if f (test x) x (h x m))

  pub came_without : (o : ℕ) (objects : List Object) → Came R objects (without o objects)
  came_without o objects y m = (y, (Includes-filter_cases (λ x. not (x.serial == o)) objects y m).0, same y)

-- several changes, for one that goes on
module _ (R : Object → Object → Type 0) (order : IsOrder R) where
  pub came : GoesOn (Came R)
  came = record {
    same = λ objects y m. (y, m, order.same y);
    trans = λ before now after h k z m. let y = k z m in let x = h y.0 y.1 in (x.0, x.1, order.trans x.0 y.0 z x.2 y.2);
  }

  pub lasts : GoesOn (Lasts R)
  lasts = record {
    same = λ objects x m. (x, m, order.same x);
    trans = λ before now after h k x m. let y = h x m in let z = k y.0 y.1 in (z.0, z.1, order.trans x y.0 z.0 y.2 z.2);
  }

  pub came_all_lose : ((x : Object) → R x (with_referent None x)) → (wanted : Object → Bool) (weaks : List ℕ) (objects after : List Object) → AllLose wanted objects weaks after → Came R objects after
  came_all_lose h wanted weaks = all_lose_by (Came R) came wanted weaks (λ weak k objects. came_if R order.same (with_referent None) (λ x. x.serial == weak) objects (λ x m t. h x))

  pub came_all_saved : ((o : ℕ) (x : Object) → R x (with_entries (x.entries ++ item (Ref o) ∷ []) x)) → (keeps : List ℕ) (objects : List Object) → Came R objects (all_saved keeps objects)
  came_all_saved h keeps = all_saved_by (Came R) came keeps (λ o k objects. came_if R order.same (λ x. with_entries (x.entries ++ item (Ref o) ∷ []) x) (λ x. x.serial == 1) objects (λ x m t. h o x))

-- a serial that lives now lived before, if the relation keeps serials
pub came_lives : (R : Object → Object → Type 0) → ((x y : Object) → R x y → y.serial ≡ x.serial) → (before after : List Object) → Came R before after → (n : ℕ)
    → Includes (serials after) n → Includes (serials before) n
came_lives R same before after h n m =
    let y = Includes-map_cases (λ (z : Object). z.serial) after n m in
    let x = h y.0 y.1 in
    subst (Includes (serials before)) (sym (same x.0 y.0 x.2) ∙ y.2) (Includes-map (λ (z : Object). z.serial) before x.0 x.1)

pub lasts_lives : (R : Object → Object → Type 0) → ((x y : Object) → R x y → y.serial ≡ x.serial) → (before after : List Object) → Lasts R before after
    → (n : ℕ) → Includes (serials before) n → Includes (serials after) n
lasts_lives R same before after h n m =
    let x = Includes-map_cases (λ (z : Object). z.serial) before n m in
    let y = h x.0 x.1 in
    subst (Includes (serials after)) (same x.0 y.0 y.2 ∙ x.2) (Includes-map (λ (z : Object). z.serial) after y.0 y.1)
