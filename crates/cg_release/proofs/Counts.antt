-- The references of the objects in a set: which objects have them, how often they hold an object, and which changes
-- keep them.
use Rattle.std.proofs.Common.{◌≡◌, refl, sym, ◌∙◌, ap, subst, ℕ, ◌+◌, Bool, true, false, cond, not, inl, inr, ◌⊎◌, List, [], ◌∷◌, ◌++◌, Option, Some, None, arith}
use Rattle.std.specs.Prelude.{◌==◌, if◌then◌else◌, flat_map, option_map, unwrap_or}
use Rattle.std.proofs.lemmas.Bool.{eqb-true}
use Rattle.cg_value.specs.declared.Entry.{Entry}
use Rattle.cg_value.specs.declared.Place.TheVariants.{Untracked}
use Rattle.cg_graph.specs.Member.{Includes}
use Rattle.cg_graph.specs.Value.{entry_references, last_entry, references, without_last}
use Rattle.cg_graph.specs.Object.{Object, change, entries_of, object_at, serials, with_entries, with_place, with_referent, without}
use Rattle.cg_graph.specs.Holdings.{entry_holdings, graph_of, name_holdings, occurrences}
use Rattle.cg_graph.proofs.Members.{either, Includes-append_cases, Includes-filter_cases, Includes-map_cases}
use Rattle.cg_graph.proofs.Objects.{occurrences-append}
use Rattle.cg_machine.specs.World.{World, Activity}
use Rattle.cg_machine.specs.Holdings.{holds, in_degree}
use Rattle.cg_machine.specs.Weak.{loses_referent}
use Rattle.cg_laws.proofs.Unreferred.{Alters, IsLater, change_alters, entries_alter, lives_after, lost_alters}
use Rattle.cg_laws.proofs.LinesNameLive.{came_back, filter_lives, without_lasts}
use Rattle.cg_represents.proofs.Lists.{found_at, slice_get_member, entry_held}
use Rattle.cg_laws.proofs.Lookups.{references_of_member, references_take}
use Rattle.cg_laws.proofs.Releasing.{entry_holder}
use Rattle.cg_release.specs.Release.{references_from}

-- those of one object
abbrev pub part : (ℕ → Bool) → Object → List ℕ
part set x = if set x.serial then references x.entries else []

pub from_holder : (set : ℕ → Bool) (objects : List Object) (o : ℕ) → Includes (references_from set objects) o → (x : Object) × Includes objects x
    × (set x.serial ≡ true) × Includes (references x.entries) o
from_holder set [] o m = absurd m
from_holder set (x ∷ objects) o m = either (Includes-append_cases (part set x) (references_from set objects) o m)
    (λ k. let f = of_part (set x.serial) refl k in (x, inl refl, f.0, f.1))
    (λ k. let f = from_holder set objects o k in (f.0, inr f.1, f.2, f.3))
  where
    of_part : (b : Bool) → set x.serial ≡ b → Includes (if b then references x.entries else []) o → (set x.serial ≡ true) × Includes (references x.entries) o
    of_part true e k = (e, k)
    of_part false e k = absurd k

-- entries are in a set or in its complement
of_both : (whole here rest p r q s left right : ℕ) → whole ≡ here + rest → left ≡ p + r → right ≡ q + s → here ≡ p + q → rest ≡ r + s → whole ≡ left + right
of_both whole here rest p r q s left right a b c d e = omega (arith, a, b, c, d, e)

none_right : (n : ℕ) → n ≡ n + 0
none_right n = omega arith

none_left : (n : ℕ) → n ≡ 0 + n
none_left n = omega arith

pub holdings_split : (o : ℕ) (set : ℕ → Bool) (objects : List Object)
    → occurrences o (entry_holdings (graph_of objects)) ≡ occurrences o (references_from set objects) + occurrences o (references_from (λ n. not (set n)) objects)
holdings_split o set [] = refl
holdings_split o set (x ∷ objects) = of_both _ _ _ _ _ _ _ _ _ (occurrences-append o (references x.entries) (entry_holdings (graph_of objects)))
    (occurrences-append o (part set x) (references_from set objects)) (occurrences-append o (part (λ n. not (set n)) x) (references_from (λ n. not (set n)) objects))
    (of_one (set x.serial)) (holdings_split o set objects)
  where
    of_one : (b : Bool) → occurrences o (references x.entries) ≡ occurrences o (if b then references x.entries else []) + occurrences o (if not b then references x.entries else [])
    of_one true = none_right (occurrences o (references x.entries))
    of_one false = none_left (occurrences o (references x.entries))

-- an in-degree by its parts
pub degree_parts : (w : World) (stack : List Activity) (o : ℕ) → w.stack ≡ stack
    → in_degree w o ≡ occurrences o (name_holdings w.names ++ (1 ∷ [])) + occurrences o (entry_holdings (graph_of w.objects)) + occurrences o (flat_map holds stack)
degree_parts w stack o e =
    occurrences-append o (name_holdings w.names ++ (1 ∷ []) ++ entry_holdings (graph_of w.objects)) (flat_map holds w.stack)
    ∙ ap (λ (n : ℕ). n + occurrences o (flat_map holds w.stack)) (occurrences-append o (name_holdings w.names ++ (1 ∷ [])) (entry_holdings (graph_of w.objects)))
    ∙ ap (λ (st : List Activity). occurrences o (name_holdings w.names ++ (1 ∷ [])) + occurrences o (entry_holdings (graph_of w.objects)) + occurrences o (flat_map holds st)) e

-- one object changes or goes
pub change_from : (set : ℕ → Bool) (f : Object → Object) (o : ℕ) → ((x : Object) → x.serial ≡ o → part set (f x) ≡ part set x) → (objects : List Object)
    → references_from set (change f o objects) ≡ references_from set objects
change_from set f o h [] = refl
change_from set f o h (x ∷ objects) =
    ap (λ (ys : List ℕ). ys ++ references_from set (change f o objects)) (one (x.serial == o) refl) ∙ ap (λ (ys : List ℕ). part set x ++ ys) (change_from set f o h objects)
  where
    one : (b : Bool) → (x.serial == o) ≡ b → part set (if b then f x else x) ≡ part set x
    one true e = h x (eqb-true x.serial o e)
    one false e = refl

pub without_from : (set : ℕ → Bool) (o : ℕ) → set o ≡ false → (objects : List Object) → references_from set (without o objects) ≡ references_from set objects
without_from set o none [] = refl
without_from set o none (x ∷ objects) = go (x.serial == o) refl (without_from set o none objects)
  where
    go : (b : Bool) → (x.serial == o) ≡ b → references_from set (without o objects) ≡ references_from set objects
        → references_from set (cond (not b) (x ∷ without o objects) (without o objects)) ≡ references_from set (x ∷ objects)
    go true e rest = rest ∙ sym (ap (λ (b : Bool). (if b then references x.entries else []) ++ references_from set objects) (ap set (eqb-true x.serial o e) ∙ none))
    go false e rest = ap (λ (ys : List ℕ). part set x ++ ys) rest

-- the sets are disjoint
abbrev pub IsApart : (ℕ → Bool) → (ℕ → Bool) → Type 0
IsApart gone set = (n : ℕ) → gone n ≡ true → set n ≡ false

-- What a step may do to the objects: those of a set lose entries and go, and no new holds appear.
pub record Lets (gone : ℕ → Bool) (before after : List Object) : Type 0 where
  pub others : (set : ℕ → Bool) → IsApart gone set → references_from set after ≡ references_from set before
  pub lives : (n : ℕ) → Includes (serials before) n → (gone n ≡ true) ⊎ Includes (serials after) n
  pub fewer : (n : ℕ) → Includes (serials after) n → Includes (serials before) n
  pub entries : (o : ℕ) → Includes (entry_holdings (graph_of after)) o → Includes (entry_holdings (graph_of before)) o

pub lets_same : (gone : ℕ → Bool) (objects : List Object) → Lets gone objects objects
lets_same gone objects = record { others = λ set a. refl; lives = λ n m. inr m; fewer = λ n m. m; entries = λ o m. m }

lets_change : (gone : ℕ → Bool) (f : Object → Object) (o : ℕ) (objects : List Object) → Alters objects (change f o objects)
    → ((set : ℕ → Bool) → IsApart gone set → (x : Object) → x.serial ≡ o → part set (f x) ≡ part set x)
    → ((p : ℕ) (x : Object) → Includes objects x → x.serial ≡ o → Includes (references (f x).entries) p → Includes (entry_holdings (graph_of objects)) p) → Lets gone objects (change f o objects)
lets_change gone f o objects alters parts held = record {
  others = λ set a. change_from set f o (parts set a) objects;
  lives = λ n m. inr (lives_after objects (change f o objects) alters n m);
  fewer = λ n m. came_back objects (change f o objects) alters.origin n m;
  entries = λ p m.
      let y = entry_holder (change f o objects) p m in
      let x = Includes-map_cases (λ z. if z.serial == o then f z else z) objects y.0 y.1 in
      go p y.0 x.0 (x.0.serial == o) refl x.1 x.2 y.2;
}
  where
    go : (p : ℕ) (y x : Object) (b : Bool) → (x.serial == o) ≡ b → Includes objects x → (if b then f x else x) ≡ y → Includes (references y.entries) p → Includes (entry_holdings (graph_of objects)) p
    go p y x true t m e k = held p x m (eqb-true x.serial o t) (subst (λ (z : Object). Includes (references z.entries) p) (sym e) k)
    go p y x false t m e k = entry_held objects x p m (subst (λ (z : Object). Includes (references z.entries) p) (sym e) k)

-- the change of an object that begins to die
abbrev pub dead : Object → Object
dead x = with_referent None (with_place Untracked x)

dead_later : (x : Object) → IsLater x (dead x)
dead_later x = record { serial = refl; code = refl; class = refl; referent = inr refl }

pub lets_die : (gone : ℕ → Bool) (o : ℕ) (objects : List Object) → Lets gone objects (change dead o objects)
lets_die gone o objects = lets_change gone dead o objects (change_alters dead dead_later o objects) (λ set a x e. refl) (λ p x m e k. entry_held objects x p m k)

pub lets_lose : (gone : ℕ → Bool) (weak : ℕ) (objects : List Object) → Lets gone objects (loses_referent weak objects)
lets_lose gone weak objects = lets_change gone (with_referent None) weak objects (lost_alters weak objects) (λ set a x e. refl) (λ p x m e k. entry_held objects x p m k)

-- an object's entries are held
pub entries_held : (objects : List Object) (o p : ℕ) → Includes (references (entries_of objects o)) p → Includes (entry_holdings (graph_of objects)) p
entries_held objects o p m = go (object_at objects o) refl m
  where
    go : (found : Option Object) → object_at objects o ≡ found → Includes (references (unwrap_or (option_map (λ (x : Object). x.entries) found) [])) p → Includes (entry_holdings (graph_of objects)) p
    go None e k = absurd k
    go (Some x) e k = entry_held objects x p (found_at objects o x e).0 k

pub last_held : (objects : List Object) (o p : ℕ) (e : Entry) → last_entry (entries_of objects o) ≡ Some e → Includes (entry_references e) p → Includes (entry_holdings (graph_of objects)) p
last_held objects o p e last k = entries_held objects o p (references_of_member (entries_of objects o) e p (slice_get_member (entries_of objects o) _ e last) k)

-- an object that dies loses its last entry
pub lets_shorten : (gone : ℕ → Bool) (o : ℕ) (objects : List Object) → gone o ≡ true → Lets gone objects (change (with_entries (without_last (entries_of objects o))) o objects)
lets_shorten gone o objects g = lets_change gone (with_entries less) o objects (entries_alter less o objects)
    (λ set a x e. let none : set x.serial ≡ false = ap set e ∙ a o g in
    ap (λ (b : Bool). if b then references less else []) none ∙ sym (ap (λ (b : Bool). if b then references x.entries else []) none))
    (λ p x m e k. entries_held objects o p (references_take _ (entries_of objects o) p k))
  where
    less : List Entry
    less = without_last (entries_of objects o)

pub lets_free : (gone : ℕ → Bool) (o : ℕ) (objects : List Object) → gone o ≡ true → Lets gone objects (without o objects)
lets_free gone o objects g = record {
  others = λ set a. without_from set o (a o g) objects;
  lives = λ n m. either (without_lasts o objects n m) (λ k. inr k) (λ e. inl (subst (λ (k : ℕ). gone k ≡ true) e g));
  fewer = λ n m. filter_lives (λ x. not (x.serial == o)) objects n m;
  entries = λ p m. let y = entry_holder (without o objects) p m in entry_held objects y.0 p (Includes-filter_cases (λ x. not (x.serial == o)) objects y.0 y.1).0 y.2;
}
