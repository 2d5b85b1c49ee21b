-- The words of a form stand in their places in each line of it.
use Rattle.std.proofs.Common.{◌≡◌, ℕ, zero, suc, ◌+◌, ◌≤◌, List, [], ◌∷◌, drop, length, Bool, true, false, cond, not, ◌&&◌, ◌==◌, Option, None, Some, refl, sym, ap, subst, ◌∙◌, arith, codes, inl, inr}
use Rattle.std.specs.Prelude.{slice_index_or, unwrap_or}
use Rattle.std.specs.List.{list_all}
use Rattle.std.proofs.lemmas.Slice.Eq.{bytes_eq-Decides}
use Rattle.cg_script.specs.declared.form.Form.{Form}
use Rattle.cg_script.specs.declared.form.Form.TheVariants as forms
use Rattle.cg_script.specs.declared.form.Sort.{Sort}
use Rattle.cg_script.specs.declared.form.Sort.TheVariants.{Value}
use Rattle.cg_script.specs.Pieces.{word_at, word_is}
use Rattle.cg_script.specs.Tables.{named}
use Rattle.cg_script.specs.Forms.{row, sort_at, opening_forms, binding_forms, openers, bindings}
use Rattle.cg_script.specs.Canonical.{key_word}
use Rattle.cg_script.proofs.Ascii.{both}
use Rattle.cg_script.proofs.Found.{by_words-is, found_all}
use Rattle.cg_script.proofs.GoodLines.{Picks}
use Rattle.cg_script.proofs.PrintedParts.{is_key, KeysStand}

abbrev asks : Sort → Bool
asks s = not (is_key s)

no_key : (b : Bool) → not b ≡ true → b ≡ false
no_key true e = absurd (cc)
no_key false e = refl

-- a place past those of the words of the form
asks_past : (ss : List Sort) (k j : ℕ) → k ≤ j → list_all asks (drop k ss) ≡ true → is_key (slice_index_or ss j Value) ≡ false
asks_past [] k j h e = refl
asks_past (s ∷ ss) zero zero h e = no_key (is_key s) (both (asks s) (list_all asks ss) e).0
asks_past (s ∷ ss) zero (suc j) h e = asks_past ss zero j (omega arith) (both (asks s) (list_all asks ss) e).1
asks_past (s ∷ ss) (suc k) zero h e = absurd (omega arith)
asks_past (s ∷ ss) (suc k) (suc j) h e = asks_past ss k j (omega arith) e

never_key : (form : Form) (place : ℕ) (w : List ℕ) → is_key (sort_at form place) ≡ false → is_key (sort_at form place) ≡ true → key_word form place ≡ w
never_key form place w none key = let both_ways : false ≡ true = sym none ∙ key in absurd (cc)

none_stand : (form : Form) (ws : List (List ℕ)) (place : ℕ) → ((j : ℕ) → place ≤ j → is_key (sort_at form j) ≡ false) → KeysStand form place ws
none_stand form [] place none = tt
none_stand form (w ∷ ws) place none = (never_key form place w (none place (omega arith)), none_stand form ws (place + 1) (λ j h. none j (omega arith)))

three_stand : (form : Form) (ws : List (List ℕ)) → (is_key (sort_at form 0) ≡ true → key_word form 0 ≡ word_at ws 0) → (is_key (sort_at form 1) ≡ true → key_word form 1 ≡ word_at ws 1)
    → (is_key (sort_at form 2) ≡ true → key_word form 2 ≡ word_at ws 2) → list_all asks (drop 3 (row form).places) ≡ true → KeysStand form 0 ws
three_stand form [] k0 k1 k2 later = tt
three_stand form (a ∷ []) k0 k1 k2 later = (k0, tt)
three_stand form (a ∷ b ∷ []) k0 k1 k2 later = (k0, (k1, tt))
three_stand form (a ∷ b ∷ c ∷ ws) k0 k1 k2 later = (k0, (k1, (k2, none_stand form ws 3 (λ j h. asks_past (row form).places 3 j h later))))

-- of a form that its first word picks, only this one
abbrev opens : Form → Bool
opens form = list_all asks (drop 1 (row form).places) && list_all asks (drop 3 (row form).places)

-- of a form that its third word picks, this one and `=`
abbrev binds_first : Form → Bool
binds_first form = asks (sort_at form 0) && list_all asks (drop 3 (row form).places)

opened_stand : (form : Form) (ws : List (List ℕ)) → named openers (word_at ws 0) ≡ Some form → KeysStand form 0 ws
unfolding openers
opened_stand form ws e =
    let tests = both (list_all asks (drop 1 (row form).places)) (list_all asks (drop 3 (row form).places)) (found_all opens opening_forms (word_at ws 0) form refl e) in
    three_stand form ws (λ key. sym (by_words-is opening_forms (word_at ws 0) form e))
    (never_key form 1 (word_at ws 1) (asks_past (row form).places 1 1 (omega arith) tests.0))
    (never_key form 2 (word_at ws 2) (asks_past (row form).places 1 2 (omega arith) tests.0)) tests.1

bound_stand : (form : Form) (ws : List (List ℕ)) → codes "=" ≡ word_at ws 1 → named bindings (word_at ws 2) ≡ Some form → KeysStand form 0 ws
unfolding bindings
bound_stand form ws sign e =
    let tests = both (asks (sort_at form 0)) (list_all asks (drop 3 (row form).places)) (found_all binds_first binding_forms (word_at ws 2) form refl e) in
    three_stand form ws (never_key form 0 (word_at ws 0) (no_key (is_key (sort_at form 0)) tests.0)) (λ key. sign) (λ key. sym (by_words-is binding_forms (word_at ws 2) form e)) tests.1

bind_stand : (ws : List (List ℕ)) → codes "=" ≡ word_at ws 1 → KeysStand forms.Bind 0 ws
bind_stand ws sign = three_stand forms.Bind ws (never_key forms.Bind 0 (word_at ws 0) refl) (λ key. sign) (never_key forms.Bind 2 (word_at ws 2) refl) refl

third_stand : (form : Form) (ws : List (List ℕ)) → codes "=" ≡ word_at ws 1 → (lone : Bool) (found : Option Form) → named bindings (word_at ws 2) ≡ found
    → cond lone forms.Bind (unwrap_or found forms.Bind) ≡ form → KeysStand form 0 ws
third_stand form ws sign true found e is = subst (λ (f : Form). KeysStand f 0 ws) is (bind_stand ws sign)
third_stand form ws sign false None e is = subst (λ (f : Form). KeysStand f 0 ws) is (bind_stand ws sign)
third_stand form ws sign false (Some other) e is = bound_stand form ws sign (e ∙ ap (λ (f : Form). Some f) is)

pub keys_stand : (form : Form) (ws : List (List ℕ)) → Picks form ws → KeysStand form 0 ws
keys_stand form ws (inl p) = opened_stand form ws p.1
keys_stand form ws (inr p) =
    third_stand form ws (sym ((bytes_eq-Decides (word_at ws 1) (codes "=")).0 p.0)) (word_is ws 2 (codes "ref") && (length ws == 3)) (named bindings (word_at ws 2)) refl p.2
