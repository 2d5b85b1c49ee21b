-- The effect on the bodies of a call on one value of a slab, for all kinds at once.
use Rattle.std.proofs.Common.{◌≡◌, ◌≢◌, ℕ, zero, suc, ◌+◌, ◌<◌, true, false, List, [], ◌∷◌, get_or, Option, Some, None, cond, refl, sym, ap, ◌∙◌, subst, inl, inr, arith, map, length, IsSome}
use Rattle.std.specs.Prelude.{option_map, Result, Ok, Err, OnErr, OnSome, IfNone}
use Rattle.std.proofs.lemmas.Bool.{cases_eq, eq-eqb, ne_eqb}
use Rattle.std.specs.Ordering.{nat_cmp, eq_by_cmp}
use Rattle.std.specs.Cmp.{nat_cmp_total, unsigned_tied}
use Rattle.std.specs.FinMap as fin
use Rattle.slab.specs.Slab.{Slab, get, ContainsKey, slab_len, entries, entries_from, Updates, with_value}
use Rattle.slab.proofs.SlabLemmas.{Updates-with_value, length-entries}
use Rattle.cg_value.specs.declared.Entry.{Entry}
use Rattle.cg_kind.specs.Bodies.{Body, Bodies, Holds, entries_of, spare_of, entries_at, spare_at, body_of, with_body}
use Rattle.cg_kinds.specs.Places.{bodies_of}

tied : (a b : ℕ) → a ≡ b → eq_by_cmp nat_cmp a b ≡ true
tied a b e = unsigned_tied a b ∙ eq-eqb a b e

apart : (a b : ℕ) → a ≢ b → eq_by_cmp nat_cmp a b ≡ false
apart a b n = unsigned_tied a b ∙ ne_eqb a b n

-- a fact that holds after an error
pub on_err_any : {T E P : Type 0} (r : Result T E) → P → OnErr r P
on_err_any (Ok x) p = tt
on_err_any (Err e) p = p

-- a weaker fact
pub on_some_weaker : {T P Q : Type 0} (o : Option T) → (P → Q) → OnSome o P → OnSome o Q
on_some_weaker None f p = tt
on_some_weaker (Some x) f p = f p

pub if_none_weaker : {T P Q : Type 0} (o : Option T) → (P → Q) → IfNone o P → IfNone o Q
if_none_weaker None f p = f p
if_none_weaker (Some x) f p = tt

some_key : {T : Type 0} (o : Option T) (v : T) → o ≡ Some v → IsSome o
some_key o v e = rw e refl

-- the body at a place, empty if there is none
abbrev body_at : Bodies → ℕ → Body
body_at bodies at = body_of (entries_at bodies at) (spare_at bodies at)

module _ {T : Type 0} (f : T → Body) where
  abbrev listed : ℕ → List (Option T) → List (ℕ × Body)
  listed key slots = map (λ e. (e.0, f e.1)) (entries_from key slots)

  -- no key is below the first
  find_below : (q key : ℕ) (slots : List (Option T)) → q < key → fin.find nat_cmp q (listed key slots) ≡ None
  find_below q key [] h = refl
  find_below q key (None ∷ rest) h = find_below q (key + 1) rest (omega arith)
  find_below q key (Some v ∷ rest) h =
      ap (λ b. cond b (Some (f v)) (fin.find nat_cmp q (listed (key + 1) rest))) (apart q key (omega arith))
      ∙ find_below q (key + 1) rest (omega arith)

  find_at : (q i key : ℕ) (slots : List (Option T)) → q ≡ key + i → fin.find nat_cmp q (listed key slots) ≡ option_map f (get_or slots i None)
  find_at q i key [] e = refl
  find_at q zero key (None ∷ rest) e = find_below q (key + 1) rest (omega arith)
  find_at q zero key (Some v ∷ rest) e =
      ap (λ b. cond b (Some (f v)) (fin.find nat_cmp q (listed (key + 1) rest))) (tied q key (omega arith))
  find_at q (suc i) key (None ∷ rest) e = find_at q i (key + 1) rest (omega arith)
  find_at q (suc i) key (Some v ∷ rest) e =
      ap (λ b. cond b (Some (f v)) (fin.find nat_cmp q (listed (key + 1) rest))) (apart q key (omega arith))
      ∙ find_at q i (key + 1) rest (omega arith)

  -- the body at a key is that of its value
  get-bodies_of : (s : Slab T) (k : ℕ) → fin.get (bodies_of f s) k ≡ option_map f (get s k)
  unfolding bodies_of
  get-bodies_of s k = fin.get-from_entries nat_cmp_total _ k ∙ find_at k k 0 s.slots (omega arith)

  -- the value at one place changed
  updated : (old new : Slab T) (k : ℕ) (o : Option T) → Updates old new k o → (now : Bodies)
      → ((q : ℕ) → fin.get now q ≡ cond (eq_by_cmp nat_cmp q k) (option_map f o) (fin.get (bodies_of f old) q)) → bodies_of f new ≡ now
  updated old new k o u now is =
      fin.same_map nat_cmp_total fin.nat_cmp-IsAntisymmetric _ _
      (λ q.
      get-bodies_of new q
      ∙ elim (cases_eq q k) [
        | inl same ↦
            ap (λ q. option_map f (get new q)) same ∙ ap (option_map f) u.changed
            ∙ sym (ap (λ b. cond b (option_map f o) (fin.get (bodies_of f old) q)) (tied q k same))
        | inr differs ↦
            ap (option_map f) (u.others q differs) ∙ sym (get-bodies_of old q)
            ∙ sym (ap (λ b. cond b (option_map f o) (fin.get (bodies_of f old) q)) (apart q k differs))
      ]
      ∙ sym (is q))

  -- one value replaced or added
  pub bodies-set : (old new : Slab T) (k : ℕ) (v : T) → Updates old new k (Some v) → bodies_of f new ≡ fin.insert (bodies_of f old) k (f v)
  bodies-set old new k v u = updated old new k (Some v) u (fin.insert (bodies_of f old) k (f v)) (λ q. fin.get-insert nat_cmp_total (bodies_of f old) k (f v) q)

  -- one value removed
  pub bodies-gone : (old new : Slab T) (k : ℕ) → Updates old new k None → bodies_of f new ≡ fin.remove (bodies_of f old) k
  bodies-gone old new k u = updated old new k None u (fin.remove (bodies_of f old) k) (λ q. fin.get-remove nat_cmp_total (bodies_of f old) k q)

  pub bodies-slots : (old new : Slab T) → new.slots ≡ old.slots → bodies_of f new ≡ bodies_of f old
  unfolding bodies_of
  bodies-slots old new e = ap (λ slots. fin.from_entries (listed 0 slots)) e

  pub bodies-empty : (s : Slab T) → s.slots ≡ [] → bodies_of f s ≡ fin.empty
  unfolding bodies_of
  bodies-empty s e = ap (λ slots. fin.from_entries (listed 0 slots)) e

  -- a slab without values
  no_entries : (es : List (ℕ × T)) → length es ≡ 0 → es ≡ []
  no_entries [] e = refl
  no_entries (x ∷ es) e = absurd (omega (arith, e))

  pub bodies-none : (s : Slab T) → slab_len s ≡ 0 → bodies_of f s ≡ fin.empty
  unfolding bodies_of
  bodies-none s none = ap (λ (es : List (ℕ × T)). fin.from_entries (map (λ e. (e.0, f e.1)) es)) (no_entries (entries s) (length-entries s ∙ none))

  pub vacant-at : (s : Slab T) (k : ℕ) → get s k ≡ None → fin.get (bodies_of f s) k ≡ None
  vacant-at s k e = get-bodies_of s k ∙ ap (option_map f) e

  is_some_map : (o : Option T) → IsSome (option_map f o) → IsSome o
  is_some_map None h = h
  is_some_map (Some v) h = refl

  -- a place that holds a body is a key of the slab
  pub holds-key : (s : Slab T) (k : ℕ) → Holds (bodies_of f s) k → ContainsKey s k
  holds-key s k h = is_some_map (get s k) (rw get-bodies_of at h)

  -- the body at a place is that of the value there
  pub body_at-value : (s : Slab T) (k : ℕ) (v : T) → get s k ≡ Some v → body_at (bodies_of f s) k ≡ f v
  body_at-value s k v e = ap (λ o. body_of (entries_of o) (spare_of o)) (get-bodies_of s k ∙ ap (option_map f) e)

  -- a new value
  pub made : (old new : Slab T) (k : ℕ) (v : T) (parts : List Entry) → Updates old new k (Some v) → (f v).entries ≡ parts → bodies_of f new
      ≡ with_body (bodies_of f old) k parts (spare_at (bodies_of f new) k)
  made old new k v parts u is =
      bodies-set old new k v u
      ∙ ap (fin.insert (bodies_of f old) k)
      (λ i. body_of (is i) (ap (λ b. b.spare) (sym (body_at-value new k v u.changed)) i))

  module _ (s : Slab T) (k : ℕ) (v : T) (e : get s k ≡ Some v) where
    at_place : body_at (bodies_of f s) k ≡ f v
    at_place = body_at-value s k v e

    -- a property of the body at the place is a property of the value's body, and conversely
    pub of_value : (P : Body → Type 0) → P (body_at (bodies_of f s) k) → P (f v)
    of_value P h = subst P at_place h

    pub of_place : (P : Body → Type 0) → P (f v) → P (body_at (bodies_of f s) k)
    of_place P h = subst P (sym at_place) h

    updates : (w : T) → Updates s (with_value s k w) k (Some w)
    updates w = Updates-with_value s k w (some_key (get s k) v e)

    written : (w : T) → bodies_of f (with_value s k w) ≡ fin.insert (bodies_of f s) k (f w)
    written w = bodies-set s (with_value s k w) k w (updates w)

    -- the value is replaced; its body is computed from the old one
    pub rewritten : (change : Body → Body) (w : T) → f w ≡ change (f v) → bodies_of f (with_value s k w) ≡ fin.insert (bodies_of f s) k (change (body_at (bodies_of f s) k))
    rewritten change w h = written w ∙ ap (fin.insert (bodies_of f s) k) (h ∙ ap change (sym at_place))

    -- the value is replaced by one with the same body
    pub kept : (w : T) → f w ≡ f v → bodies_of f (with_value s k w) ≡ bodies_of f s
    kept w same =
        let u = updates w in
        fin.same_map nat_cmp_total fin.nat_cmp-IsAntisymmetric _ _
        (λ q.
        get-bodies_of (with_value s k w) q
        ∙ elim (cases_eq q k) [
          | inl at ↦ ap (λ q. option_map f (get (with_value s k w) q)) at ∙ ap (option_map f) u.changed ∙ ap Some same ∙ sym (ap (option_map f) e) ∙ sym (ap (λ q. option_map f (get s q)) at)
          | inr differs ↦ ap (option_map f) (u.others q differs)
        ]
        ∙ sym (get-bodies_of s q))

    -- the new body has its own spare capacity, and entries computed from the old ones or equal to them
    pub with_entries : (change : List Entry → List Entry) (w : T) → f w ≡ body_of (change (f v).entries) (f w).spare → bodies_of f (with_value s k w)
        ≡ with_body (bodies_of f s) k (change (entries_at (bodies_of f s) k)) (spare_at (bodies_of f (with_value s k w)) k)
    with_entries change w same =
        made s (with_value s k w) k w (change (entries_at (bodies_of f s) k)) (updates w)
        (ap (λ b. b.entries) same ∙ ap (λ b. change b.entries) (sym at_place))

    pub with_spare : (w : T) → f w ≡ body_of (f v).entries (f w).spare → bodies_of f (with_value s k w) ≡ with_body (bodies_of f s) k
        (entries_at (bodies_of f s) k) (spare_at (bodies_of f (with_value s k w)) k)
    with_spare = with_entries (λ es. es)

    -- a relation of the two values' bodies is one of the place before and after
    pub of_places : (P : Body → Body → Type 0) (w : T) → P (f v) (f w) → P (body_at (bodies_of f s) k) (body_at (bodies_of f (with_value s k w)) k)
    of_places P w h = subst (λ b. P b (body_at (bodies_of f (with_value s k w)) k)) (sym at_place)
        (subst (P (f v)) (sym (body_at-value (with_value s k w) k w ((updates w).changed))) h)
