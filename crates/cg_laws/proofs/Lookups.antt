-- What a lookup by serial finds among the objects, and what its entries hold.
use Rattle.std.proofs.Common.{◌≡◌, ◌≢◌, refl, sym, ◌∙◌, ap, subst, ℕ, suc, ◌-◌, ◌≤◌, Bool, true, false, cond, inl, inr, ◌⊎◌, List, [], ◌∷◌, ◌++◌, Option, Some, None, take, length, reverse, arith}
use Rattle.std.specs.Prelude.{◌==◌, if◌then◌else◌, filter, option_to_list, option_map, option_and_then, unwrap_or}
use Rattle.std.proofs.lemmas.Bool.{eq-eqb, ne_eqb}
use Rattle.std.proofs.lemmas.List.{reverse-append}
use Rattle.cg_value.specs.declared.Entry.{Entry}
use Rattle.cg_graph.specs.Member.{Includes}
use Rattle.cg_graph.specs.Value.{references, entry_references, reference_in, last_entry, without_last}
use Rattle.cg_graph.specs.Object.{Object, object_at, entries_of, serials}
use Rattle.cg_graph.proofs.Members.{either, Includes-append_left, Includes-append_right, Includes-append_cases, Includes-map, Includes-filter}
use Rattle.cg_machine.specs.Weak.{callback_in, callback_of, is_reference_to, weak_references, weak_references_if}
use Rattle.cg_represents.proofs.Serials.{Rises}
use Rattle.cg_laws.proofs.Unreferred.{AreQuiet, lives_within}
use Rattle.cg_represents.proofs.Lists.{found_at, slice_get_member}

pub serial_from : (low high : ℕ) (objects : List Object) (x : Object) → Rises low high objects → Includes objects x → low ≤ x.serial
serial_from low high objects x r m = (lives_within low high objects x.serial r (Includes-map (λ (z : Object). z.serial) objects x m)).0

pub at_member : (low high : ℕ) (objects : List Object) (x : Object) → Rises low high objects → Includes objects x → object_at objects x.serial ≡ Some x
at_member low high [] x r m = absurd m
at_member low high (y ∷ objects) x r (inl e) =
    ap (λ b. cond b (Some y) (object_at objects x.serial)) (eq-eqb y.serial x.serial (ap (λ (z : Object). z.serial) e)) ∙ ap (λ z. Some z) e
at_member low high (y ∷ objects) x r (inr m) =
    let later = serial_from (suc y.serial) high objects x r.1 m in
    ap (λ b. cond b (Some y) (object_at objects x.serial)) (ne_eqb y.serial x.serial (λ e. omega (arith, later, e))) ∙ at_member (suc y.serial) high objects x r.1 m

pub found_lives : (objects : List Object) (o : ℕ) (x : Object) → object_at objects o ≡ Some x → Includes (serials objects) o
found_lives objects o x e = let f = found_at objects o x e in subst (Includes (serials objects)) f.1 (Includes-map (λ (z : Object). z.serial) objects x f.0)

pub references_of_member : (entries : List Entry) (e : Entry) (o : ℕ) → Includes entries e → Includes (entry_references e) o → Includes (references entries) o
references_of_member [] e o m h = absurd m
references_of_member (f ∷ entries) e o (inl i) h = Includes-append_left (entry_references f) (references entries) o (subst (λ (z : Entry). Includes (entry_references z) o) (sym i) h)
references_of_member (f ∷ entries) e o (inr m) h = Includes-append_right (entry_references f) (references entries) o (references_of_member entries e o m h)

pub references-append : (xs ys : List Entry) (o : ℕ) → Includes (references (xs ++ ys)) o → Includes (references xs) o ⊎ Includes (references ys) o
references-append [] ys o m = inr m
references-append (x ∷ xs) ys o m =
    either (Includes-append_cases (entry_references x) (references (xs ++ ys)) o m) (λ k. inl (Includes-append_left (entry_references x) (references xs) o k))
    (λ k. either (references-append xs ys o k) (λ a. inl (Includes-append_right (entry_references x) (references xs) o a)) (λ b. inr b))

pub references_take : (n : ℕ) (entries : List Entry) (o : ℕ) → Includes (references (take n entries)) o → Includes (references entries) o
references_take (suc n) (e ∷ entries) o m =
    either (Includes-append_cases (entry_references e) (references (take n entries)) o m) (λ k. Includes-append_left (entry_references e) (references entries) o
    k) (λ k. Includes-append_right (entry_references e) (references entries) o (references_take n entries o k))
references_take n entries o m = absurd m

-- what the entries of quiet objects do not hold
pub entries_free : (objects : List Object) (s o : ℕ) → AreQuiet o objects → ¬ Includes (references (entries_of objects s)) o
entries_free objects s o q = go (object_at objects s) refl
  where
    go : (m : Option Object) → object_at objects s ≡ m → ¬ Includes (references (unwrap_or (option_map (λ (x : Object). x.entries) m) [])) o
    go None e = λ k. k
    go (Some x) e = (q x (found_at objects s x e).0).entries

pub last_free : (objects : List Object) (s o : ℕ) (e : Entry) → AreQuiet o objects → last_entry (entries_of objects s) ≡ Some e → ¬ Includes (entry_references e) o
last_free objects s o e q h m = entries_free objects s o q (references_of_member (entries_of objects s) e o (slice_get_member (entries_of objects s) (length (entries_of objects s) - 1) e h) m)

pub shorter_free : (objects : List Object) (s o : ℕ) → AreQuiet o objects → ¬ Includes (references (without_last (entries_of objects s))) o
shorter_free objects s o q m = entries_free objects s o q (references_take (length (entries_of objects s) - 1) (entries_of objects s) o m)

pub last_lives : (objects : List Object) (o : ℕ) (e : Entry) → last_entry (entries_of objects o) ≡ Some e → Includes (serials objects) o
last_lives objects o e h = go (object_at objects o) refl h
  where
    go : (m : Option Object) → object_at objects o ≡ m → last_entry (unwrap_or (option_map (λ (x : Object). x.entries) m) []) ≡ Some e → Includes (serials objects) o
    go None f k = absurd (let no : None ≡ Some e = k in cc)
    go (Some x) f k = found_lives objects o x f

-- The callback of a weak reference is the object in its entry. Without one, no object has that number.
pub callback_first : (entries : List Entry) (f : ℕ) → callback_in entries ≡ Some f → Includes (references entries) f
callback_first [] f e = let no : None ≡ Some f = e in cc
callback_first (x ∷ entries) f e = Includes-append_left (entry_references x) (references entries) f (Includes-append_left (option_to_list (reference_in x.val))
    (option_to_list (reference_in x.key)) f (subst (λ m. Includes (option_to_list m) f) (sym e) (inl refl)))

pub callback_free : (low high : ℕ) (objects : List Object) (weak o : ℕ) → Rises (suc low) high objects → Includes (serials objects) o → AreQuiet o objects → unwrap_or (callback_of objects weak) 0 ≢ o
callback_free low high objects weak o r lives q = go (object_at objects weak) refl
  where
    inner : (x : Object) → Includes objects x → (m : Option ℕ) → callback_in x.entries ≡ m → unwrap_or m 0 ≢ o
    inner x m None e i = let within = lives_within (suc low) high objects o r lives in omega (arith, within.0, i)
    inner x m (Some f) e i = (q x m).entries (subst (Includes (references x.entries)) i (callback_first x.entries f e))

    go : (m : Option Object) → object_at objects weak ≡ m → unwrap_or (option_and_then (λ (x : Object). callback_in x.entries) m) 0 ≢ o
    go None e i = let within = lives_within (suc low) high objects o r lives in omega (arith, within.0, i)
    go (Some x) e i = inner x (found_at objects weak x e).0 (callback_in x.entries) refl i

-- If no weak reference is found, none refers to an object that passes the test.
pub Includes-reversed : (xs : List ℕ) (x : ℕ) → Includes xs x → Includes (reverse xs) x
Includes-reversed [] x m = m
Includes-reversed (y ∷ xs) x m = subst (λ ys. Includes ys x) (sym (reverse-append (y ∷ []) xs))
    (either m (λ e. Includes-append_right (reverse xs) (y ∷ []) x (inl e)) (λ k. Includes-append_left (reverse xs) (y ∷ []) x (Includes-reversed xs x k)))

pub none_found : (test : Object → Bool) (low high : ℕ) (objects : List Object) (o : ℕ) (z x : Object) → Rises low high objects → weak_references_if test objects
    o ≡ [] → Includes objects z → z.serial ≡ o → test z ≡ true → Includes objects x → x.referent ≢ Some o
none_found test low high objects o z x r none mz same passes mx refers =
    let at : object_at objects o ≡ Some z = subst (λ s. object_at objects s ≡ Some z) same (at_member low high objects z r mz) in
    let tested : unwrap_or (option_map test (object_at objects o)) false ≡ true = ap (λ m. unwrap_or (option_map test m) false) at ∙ passes in
    let all : weak_references objects o ≡ [] = ap (λ b. if b then weak_references objects o else []) (sym tested) ∙ none in
    let is : is_reference_to o x ≡ true = ap (λ m. unwrap_or (option_map (λ s. s == o) m) false) refers ∙ eq-eqb o o refl in
    let member : Includes (weak_references objects o) x.serial = Includes-reversed (serials (filter (is_reference_to o) objects)) x.serial
    (Includes-map (λ (y : Object). y.serial) (filter (is_reference_to o) objects) x (Includes-filter (is_reference_to o) objects x is mx)) in
    subst (λ ys. Includes ys x.serial) all member

pub found_referent : (test : Object → Bool) (objects : List Object) (o weak : ℕ) (weaks : List ℕ) → weak_references_if test objects o ≡ weak ∷ weaks → Includes (serials objects) o
found_referent test objects o weak weaks e = go (object_at objects o) refl e
  where
    go : (m : Option Object) → object_at objects o ≡ m → (if unwrap_or (option_map test m) false then weak_references objects o else []) ≡ weak ∷ weaks → Includes (serials objects) o
    go None f k = absurd (let no : [] ≡ weak ∷ weaks = k in cc)
    go (Some x) f k = found_lives objects o x f

pub same_object : (low high : ℕ) (objects : List Object) (x y : Object) → Rises low high objects → Includes objects x → Includes objects y → x.serial ≡ y.serial → x ≡ y
same_object low high objects x y r m n e =
    let both : Some x ≡ Some y = sym (at_member low high objects x r m) ∙ ap (object_at objects) e ∙ at_member low high objects y r n in cc

pub callback_at : (low high : ℕ) (objects : List Object) (x : Object) → Rises low high objects → Includes objects x → callback_of objects x.serial ≡ callback_in x.entries
callback_at low high objects x r m = ap (λ k. option_and_then (λ (z : Object). callback_in z.entries) k) (at_member low high objects x r m)
