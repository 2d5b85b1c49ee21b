-- What moves when the last entry of an object, or the callback of a weak reference, is removed.
use Rattle.std.proofs.Common.{◌≡◌, refl, sym, ◌∙◌, ap, subst, ℕ, zero, suc, ◌-◌, inl, inr, ◌⊎◌, List, [], ◌∷◌, length, Option, Some, None, arith}
use Rattle.std.proofs.lemmas.Bool.{eqb-true}
use Rattle.std.specs.Prelude.{◌==◌, get_or, option_map, option_to_list, slice_get, take, unwrap_or}
use Rattle.std.proofs.lemmas.Option.{slice_get-get_or, slice_get_within}
use Rattle.cg_value.specs.declared.Entry.{Entry}
use Rattle.cg_graph.specs.Member.{Includes}
use Rattle.cg_graph.specs.Value.{entry_references, item, last_entry, reference_in, references, without_last}
use Rattle.cg_value.specs.declared.KindCode.TheVariants.{Weak}
use Rattle.cg_graph.specs.Object.{Object, change, entries_of, object_at, with_entries}
use Rattle.cg_machine.specs.Weak.{callback_in, callback_of}
use Rattle.cg_graph.proofs.Members.{either, Includes-append_cases}
use Rattle.cg_represents.proofs.Serials.{Rises}
use Rattle.cg_laws.proofs.Lookups.{at_member, callback_at, references_take}
use Rattle.cg_represents.proofs.Moves.{AtMostOne, StaysOrMoves, past, goes_first}
use Rattle.cg_promises.proofs.HoldersMove.{AreSingle, Keeps, test_keeps}

cut_goes : (entries : List Entry) (i : ℕ) (old : Entry) (n : ℕ) → slice_get entries i ≡ Some old → length entries ≡ suc i → StaysOrMoves entries (take i entries) (entry_references old) n
cut_goes [] i old n e l = λ m. absurd m
cut_goes (x ∷ []) zero old n e l = let same : x ≡ old = cc in subst (λ o. StaysOrMoves (x ∷ []) [] (entry_references o) n) same (goes_first x [] [] n (λ k. k))
cut_goes (x ∷ y ∷ entries) zero old n e l = absurd (omega (arith, l))
cut_goes (x ∷ entries) (suc i) old n e l = past x entries (take i entries) (entry_references old) n (cut_goes entries i old n e (omega (arith, l)))

pub last_goes : (entries : List Entry) (old : Entry) (n : ℕ) → last_entry entries ≡ Some old → StaysOrMoves entries (without_last entries) (entry_references old) n
last_goes entries old n e = cut_goes entries (length entries - 1) old n e (let within = slice_get_within entries (length entries - 1) old e in omega (arith, within))

pub last_none : (entries : List Entry) → last_entry entries ≡ None → entries ≡ []
last_none [] e = refl
last_none (x ∷ entries) e =
    let some : slice_get (x ∷ entries) (suc (length entries) - 1) ≡ Some (get_or (x ∷ entries) (suc (length entries) - 1) x) = slice_get-get_or (x ∷ entries)
    (suc (length entries) - 1) x (omega arith) in
    absurd (let no : None ≡ Some (get_or (x ∷ entries) (suc (length entries) - 1) x) = sym e ∙ some in cc)

-- the entries by a serial are those of the object
pub entries_of_member : (low high : ℕ) (objects : List Object) (x : Object) (o : ℕ) → Rises low high objects → Includes objects x → x.serial ≡ o → entries_of objects o ≡ x.entries
entries_of_member low high objects x o r m e = ap (λ k. unwrap_or (option_map (λ (z : Object). z.entries) k) []) (subst (λ s. object_at objects s ≡ Some x) e (at_member low high objects x r m))

-- the last entry of an object is removed
pub shortened_single : (entries : List Entry) → AtMostOne entries → AtMostOne (without_last entries)
shortened_single entries (inl e) = inl (ap without_last e)
shortened_single entries (inr s) = inl (ap without_last s.1)

pub shortened_keeps : (low high : ℕ) (objects : List Object) (o : ℕ) (e : Entry) → Rises low high objects → last_entry (entries_of objects o) ≡ Some e
    → Keeps objects (change (with_entries (without_last (entries_of objects o))) o objects) (entry_references e)
shortened_keeps low high objects o e r last = test_keeps (with_entries (without_last (entries_of objects o))) (λ x. x.serial == o) objects (entry_references e)
    (λ x. record { serial = refl; code = refl; class = refl; finalized = λ k. k })
    (λ x m t n k. let same = entries_of_member low high objects x o r m (eqb-true x.serial o t) in
    subst (λ es. Includes (references (without_last es)) n ⊎ Includes (entry_references e) n) (sym same) (last_goes x.entries e n (subst (λ es. last_entry es ≡ Some e) same last) k))
    (λ x m t s. let same = entries_of_member low high objects x o r m (eqb-true x.serial o t) in (
      λ c. subst (λ es. AtMostOne (without_last es)) (sym same) (shortened_single x.entries (s.0 c)),
      λ c n k. s.1 c n (subst (λ es. Includes (references es) n) same (references_take _ (entries_of objects o) n k)),
    ))

-- the callback of a weak reference is removed
single_callback : (entries : List Entry) (n : ℕ) → AtMostOne entries → Includes (references entries) n → callback_in entries ≡ Some n
single_callback entries n (inl e) m = absurd (subst (λ es. Includes (references es) n) e m)
single_callback entries n (inr s) m = subst (λ es. callback_in es ≡ Some n) (sym s.1)
    (either (Includes-append_cases (entry_references (item s.0)) [] n (subst (λ es. Includes (references es) n) s.1 m))
    (λ k. either (Includes-append_cases (option_to_list (reference_in s.0)) [] n k) (go (reference_in s.0)) (λ no. absurd no)) (λ no. absurd no))
  where
    go : (r : Option ℕ) → Includes (option_to_list r) n → r ≡ Some n
    go None k = absurd k
    go (Some f) k = either k (λ e. ap (λ q. Some q) e) (λ no. absurd no)

pub called_keeps : (low high : ℕ) (objects : List Object) (weak : ℕ) → Rises low high objects → AreSingle objects → ((x : Object) → Includes objects x
    → x.serial ≡ weak → x.code ≡ Weak) → Keeps objects (change (with_entries []) weak objects) (unwrap_or (callback_of objects weak) 0 ∷ [])
called_keeps low high objects weak r single code = test_keeps (with_entries []) (λ x. x.serial == weak) objects (unwrap_or (callback_of objects weak) 0 ∷ [])
    (λ x. record { serial = refl; code = refl; class = refl; finalized = λ k. k })
    (λ x m t n k. let e = eqb-true x.serial weak t in
    inr (inl (ap (λ c. unwrap_or c 0) (subst (λ s. callback_of objects s ≡ callback_in x.entries) e (callback_at low high objects x r m)
    ∙ single_callback x.entries n ((single x m).0 (code x m e)) k))))
    (λ x m t s. (λ c. inl refl, λ c n k. absurd k))
