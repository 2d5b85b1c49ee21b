-- Only a collection's steps change the garbage list: any other step keeps it an untracked list, and adds no name to it.
use Rattle.std.proofs.Common.{◌≡◌, ◌≢◌, refl, sym, ◌∙◌, ap, subst, ℕ, not, List, [], ◌∷◌, ◌++◌, map, Option, Some, None}
use Rattle.std.specs.Prelude.{◌==◌, option_map, unwrap_or}
use Rattle.std.proofs.lemmas.Bool.{eqb-true}
use Rattle.cg_value.specs.declared.Place.{Place}
use Rattle.cg_value.specs.declared.Place.TheVariants.{Untracked}
use Rattle.cg_graph.specs.Member.{Includes}
use Rattle.cg_graph.specs.Value.{references}
use Rattle.cg_graph.specs.Object.{Object, change, entries_of, object_at, without, with_place}
use Rattle.cg_graph.proofs.Members.{either, Includes-append_cases, Includes-map_cases, Includes-filter_cases}
use Rattle.cg_represents.proofs.Lists.{found_at, each_changed}
use Rattle.cg_laws.specs.Apart.{IsGarbageList}

abbrev pub HasGarbageList : List Object → Type 0
HasGarbageList objects = (x : Object) → Includes objects x → x.serial ≡ 1 → IsGarbageList x

abbrev pub NamesNot : List Object → ℕ → Type 0
NamesNot objects o = (x : Object) → Includes objects x → x.serial ≡ 1 → ¬ Includes (references x.entries) o

-- what the garbage list names, by its entries and by its objects
pub entries_name_not : (objects : List Object) (o : ℕ) → NamesNot objects o → ¬ Includes (references (entries_of objects 1)) o
entries_name_not objects o h = go (object_at objects 1) refl
  where
    go : (m : Option Object) → object_at objects 1 ≡ m → ¬ Includes (references (unwrap_or (option_map (λ (x : Object). x.entries) m) [])) o
    go None e k = k
    go (Some x) e k = let found = found_at objects 1 x e in h x found.0 found.1 k

-- the garbage list after a step: same kind, still untracked, no new names
pub record IsOfList (before : List Object) (y : Object) : Type 0 where
  pub was : Object
  pub member : Includes before was
  pub serial : was.serial ≡ 1
  pub code : y.code ≡ was.code
  pub place : was.place ≡ Untracked → y.place ≡ Untracked
  pub names : (o : ℕ) → NamesNot before o → ¬ Includes (references y.entries) o

-- each object with the list's serial is kept
abbrev pub KeepsList : List Object → List Object → Type 0
KeepsList before after = (y : Object) → Includes after y → y.serial ≡ 1 → IsOfList before y

pub list_stays : (before after : List Object) → KeepsList before after → HasGarbageList before → HasGarbageList after
list_stays before after k h y m e = let x = k y m e in let g = h x.was x.member x.serial in record { list = x.code ∙ g.list; untracked = x.place g.untracked }

pub names_no_more : (before after : List Object) → KeepsList before after → (o : ℕ) → NamesNot before o → NamesNot after o
names_no_more before after k o h y m e = (k y m e).names o h

pub same_list : (objects : List Object) → KeepsList objects objects
same_list objects y m e = record { was = y; member = m; serial = e; code = refl; place = λ p. p; names = λ o h. h y m e }

-- the changed object is not the garbage list, or keeps what it names
pub list_kept : (f : Object → Object) (s : ℕ) (objects : List Object) → ((x : Object) → (f x).serial ≡ x.serial) → ((x : Object) → Includes objects x → x.serial
    ≡ s → x.serial ≡ 1 → IsOfList objects (f x)) → KeepsList objects (change f s objects)
list_kept f s objects same keeps = each_changed (λ z. z.serial ≡ 1 → IsOfList objects z) f (λ x. x.serial == s) objects
    (λ x k t i. keeps x k (eqb-true x.serial s t) (sym (same x) ∙ i)) (λ x k t i. same_list objects x k i)

pub other_kept : (f : Object → Object) (s : ℕ) (objects : List Object) → ((x : Object) → (f x).serial ≡ x.serial) → s ≢ 1 → KeepsList objects (change f s objects)
other_kept f s objects same apart = list_kept f s objects same (λ x m i e. absurd (apart (sym i ∙ e)))

pub without_kept : (s : ℕ) (objects : List Object) → KeepsList objects (without s objects)
without_kept s objects y m e = same_list objects y (Includes-filter_cases (λ x. not (x.serial == s)) objects y m).0 e

-- places change, and untracked objects stay untracked
pub places_kept : (f : Place → Place) (objects : List Object) → f Untracked ≡ Untracked → KeepsList objects (map (λ x. with_place (f x.place) x) objects)
places_kept f objects still y m e =
    let x = Includes-map_cases (λ x. with_place (f x.place) x) objects y m in
    subst (IsOfList objects) x.2 (one x.0 x.1 (ap (λ (z : Object). z.serial) x.2 ∙ e))
  where
    one : (x : Object) → Includes objects x → x.serial ≡ 1 → IsOfList objects (with_place (f x.place) x)
    one x k i = record { was = x; member = k; serial = i; code = refl; place = λ p. ap f p ∙ still; names = λ o h. h x k i }

pub new_kept : (objects : List Object) (new : Object) → new.serial ≢ 1 → KeepsList objects (objects ++ new ∷ [])
new_kept objects new apart y m e = either (Includes-append_cases objects (new ∷ []) y m) (λ k. same_list objects y k e)
    (λ k. either k (λ i. absurd (apart (ap (λ (z : Object). z.serial) i ∙ e))) (λ n. absurd n))

pub list_trans : (before now after : List Object) → KeepsList before now → KeepsList now after → KeepsList before after
list_trans before now after h k z m e =
    let y = k z m e in
    let x = h y.was y.member y.serial in
    record { was = x.was; member = x.member; serial = x.serial; code = y.code ∙ x.code; place = λ p. y.place (x.place p); names = λ o n. y.names o (names_no_more before now h o n) }
