-- The lines of an expansion, and where those of one line are in them.
use Rattle.std.proofs.Common.{◌≡◌, ℕ, suc, ◌+◌, ◌≤◌, List, [], ◌∷◌, ◌++◌, length, map, Bool, true, false, not, cond, ◌&&◌, ◌||◌, ◌==◌, Option, Some, None, refl, sym, ap, subst, ◌∙◌, arith, nat_le, nat_lt, inl, inr, append_assoc}
use Rattle.std.specs.Prelude.{reverse}
use Rattle.std.specs.Option.{option_or}
use Rattle.std.specs.List.{list_all}
use Rattle.std.proofs.lemmas.Bool.Decides.{nat_tests}
use Rattle.std.proofs.lemmas.Bool.{eqb-true}
use Rattle.cg_script.specs.Pieces.{pieces, onto, lines_of, words_of}
use Rattle.cg_script.specs.Words.{is_printable}
use Rattle.cg_script.specs.Canonical.{joined}
use Rattle.cg_script.proofs.Ascii.{both}
use Rattle.cg_script.proofs.JoinedWords.{all_printable, sound_words}
use Rattle.cg_graph.specs.Member.{Includes}
use Rattle.cg_graph.proofs.Members.{either, Includes-append_cases, Includes-map_cases}
use Rattle.cg_weakcoll.specs.declared.form.Form.{Form}
use Rattle.cg_weakcoll.specs.declared.form.Form.TheVariants.{Finalize}
use Rattle.cg_weakcoll.specs.Expansion.{bad_or, call_line, call_lines, expanded_lines, expansion, fault_by, fault_of, final_lines, finalize_number, finalize_numbers_from, first_bad, first_bad_from, form_fault, form_lines, form_of, inside_after, is_finalize, name_fault, with_feeds, word_count, words_fit, written, written_by, written_from}
use Rattle.cg_weakcoll.proofs.SoundWords.{EachLine, EachWord, IsSound, each_sound, sound_at, sound_call, sound_lines}
use Rattle.cg_laws.proofs.MeasureInDeaths.{Includes-reverse}

-- bytes without a line feed
abbrev pub has_no_feed : List ℕ → Bool
has_no_feed bytes = list_all (λ b. not (b == 10)) bytes

abbrev pub AreUnfed : List (List ℕ) → Type 0
AreUnfed lines = (line : List ℕ) → Includes lines line → has_no_feed line ≡ true

unfed_first : (b : ℕ) (bs : List ℕ) → (b == 10) ≡ false → has_no_feed bs ≡ true → has_no_feed (b ∷ bs) ≡ true
unfed_first b bs e h = ap (λ t. not t && has_no_feed bs) e ∙ h

one_more : (line : List ℕ) (lines : List (List ℕ)) → has_no_feed line ≡ true → AreUnfed lines → AreUnfed (line ∷ lines)
one_more line lines h k other m = either m (λ e. subst (λ (l : List ℕ). has_no_feed l ≡ true) e h) (k other)

none_unfed : AreUnfed []
none_unfed line m = absurd m

-- lines written with line feeds are read back
fed_piece : (line rest : List ℕ) → has_no_feed line ≡ true → pieces 10 (line ++ 10 ∷ rest) ≡ line ∷ pieces 10 rest
fed_piece [] rest h = refl
fed_piece (b ∷ bs) rest h = go (b == 10) h (λ k. fed_piece bs rest k)
  where
    go : (t : Bool) → (not t && has_no_feed bs) ≡ true → (has_no_feed bs ≡ true → pieces 10 (bs ++ 10 ∷ rest) ≡ bs ∷ pieces 10 rest)
        → cond t ([] ∷ pieces 10 (bs ++ 10 ∷ rest)) (onto b (pieces 10 (bs ++ 10 ∷ rest))) ≡ (b ∷ bs) ∷ pieces 10 rest
    go true k ih = absurd (cc)
    go false k ih = ap (onto b) (ih k)

pub lines_again : (lines : List (List ℕ)) → AreUnfed lines → lines_of (with_feeds lines) ≡ lines
lines_again [] h = refl
lines_again (line ∷ lines) h =
    ap (pieces 10) (append_assoc line (10 ∷ []) (with_feeds lines))
    ∙ fed_piece line (with_feeds lines) (h line (inl refl))
    ∙ ap (λ ls. line ∷ ls) (lines_again lines (λ other m. h other (inr m)))

-- printable bytes contain none
printable_unfed : (bytes : List ℕ) → list_all is_printable bytes ≡ true → has_no_feed bytes ≡ true
printable_unfed [] e = refl
printable_unfed (b ∷ bs) e =
    let p = both (is_printable b) (list_all is_printable bs) e in
    let range = both (nat_le 32 b) (nat_le b 126) p.0 in
    let low : nat_le 32 b ≡ true = range.0 in
    let other : (b == 10) ≡ false = grind (arith, nat_tests) in
    unfed_first b bs other (printable_unfed bs p.1)

sound_unfed : (words : List (List ℕ)) → EachWord IsSound words → has_no_feed (joined words) ≡ true
sound_unfed words sound = printable_unfed (joined words) (all_printable words (each_sound words sound))

all_joined : (lines : List (List (List ℕ))) → EachLine IsSound lines → AreUnfed (map joined lines)
all_joined [] sound = none_unfed
all_joined (words ∷ lines) sound = one_more (joined words) (map joined lines) (sound_unfed words sound.0) (all_joined lines sound.1)

-- lines and words contain none
onto_unfed : (b : ℕ) (ps : List (List ℕ)) → (b == 10) ≡ false → AreUnfed ps → AreUnfed (onto b ps)
onto_unfed b [] e h = one_more (b ∷ []) [] (unfed_first b [] e refl) none_unfed
onto_unfed b (p ∷ ps) e h = one_more (b ∷ p) ps (unfed_first b p e (h p (inl refl))) (λ other m. h other (inr m))

pub lines_unfed : (bytes : List ℕ) → AreUnfed (lines_of bytes)
lines_unfed [] = none_unfed
lines_unfed (b ∷ bs) = go (b == 10) refl (lines_unfed bs)
  where
    go : (t : Bool) → (b == 10) ≡ t → AreUnfed (pieces 10 bs) → AreUnfed (cond t ([] ∷ pieces 10 bs) (onto b (pieces 10 bs)))
    go true e h = one_more [] (pieces 10 bs) refl h
    go false e h = onto_unfed b (pieces 10 bs) e h

-- a good line of a form
pub record Fits (form : Form) (l : ℕ) (line : List ℕ) (words : List (List ℕ)) : Type 0 where
  pub printable : list_all is_printable line ≡ true
  pub low : l ≤ 400000
  pub count : length words ≡ word_count form
  pub fit : words_fit form words ≡ true

no_fault : (form : Form) (inside : Bool) (l : ℕ) (line : List ℕ) (words : List (List ℕ)) → form_fault form inside l line words ≡ None → Fits form l line words
no_fault form inside l line words e = go (list_all is_printable line) (nat_lt 1000 (length line)) (nat_lt 400000 l) (length words == word_count form) (words_fit form words) refl refl refl refl e
  where
    go : (a b c d f : Bool) → list_all is_printable line ≡ a → nat_lt 400000 l ≡ c → (length words == word_count form) ≡ d → words_fit form words ≡ f
        → cond {A = Option ℕ} (not a) (Some 1)
        (cond (b || c) (Some 5) (cond (not d) (Some 3) (cond (not f) (Some 4) (cond (is_finalize (Some form) && inside) (Some 7) None)))) ≡ None
        → Fits form l line words
    go true false false true true ea ec ed ef k = record { printable = ea; low = grind (arith, nat_tests); count = eqb-true (length words) (word_count form) ed; fit = ef }
    go bit b c d f ea ec ed ef k = absurd (cc)

first_none : (m n : Option ℕ) → option_or m n ≡ None → m ≡ None
first_none None n e = refl
first_none (Some k) n e = absurd (cc)

pub fits_of : (form : Form) (inside : Bool) (l : ℕ) (line : List ℕ) → form_of (words_of line) ≡ Some form → fault_of inside l line ≡ None → Fits form l line (words_of line)
fits_of form inside l line is e = no_fault form inside l line (words_of line) (first_none (form_fault form inside l line (words_of line))
    (name_fault (words_of line)) (ap (λ m. fault_by m inside l line (words_of line)) (sym is) ∙ e))

-- the first of some good lines
pub split_bad : (l : ℕ) (m : Option ℕ) (later : Option (ℕ × ℕ)) → bad_or l m later ≡ None → (m ≡ None) × (later ≡ None)
split_bad l None later e = (refl, e)
split_bad l (Some code) later e = absurd (cc)

form_sound : (form : Form) (l : ℕ) (line : List ℕ) → Fits form l line (words_of line) → EachLine IsSound (form_lines form l (words_of line))
form_sound form l line fits =
    let count = fits.count in
    sound_lines l fits.low (words_of line) form (λ place low. sound_at (words_of line) place (sound_words line fits.printable) (omega (arith, low, count)))

written_unfed : (inside : Bool) (l : ℕ) (line : List ℕ) → has_no_feed line ≡ true → fault_of inside l line ≡ None → AreUnfed (written l line)
written_unfed inside l line h e = go (form_of (words_of line)) refl
  where
    go : (m : Option Form) → form_of (words_of line) ≡ m → AreUnfed (written_by m l line (words_of line))
    go None is = one_more line [] h none_unfed
    go (Some form) is = all_joined (form_lines form l (words_of line)) (form_sound form l line (fits_of form inside l line is e))

both_unfed : (xs ys : List (List ℕ)) → AreUnfed xs → AreUnfed ys → AreUnfed (xs ++ ys)
both_unfed xs ys h k line m = either (Includes-append_cases xs ys line m) (h line) (k line)

all_written : (lines : List (List ℕ)) (inside : Bool) (l : ℕ) → AreUnfed lines → first_bad_from inside l lines ≡ None → AreUnfed (written_from l lines)
all_written [] inside l h e = none_unfed
all_written (line ∷ lines) inside l h e =
    let k = split_bad l (fault_of inside l line) (first_bad_from (inside_after inside (words_of line)) (l + 1) lines) e in
    both_unfed (written l line) (written_from (l + 1) lines) (written_unfed inside l line (h line (inl refl)) k.0)
    (all_written lines (inside_after inside (words_of line)) (l + 1) (λ other m. h other (inr m)) k.1)

number_low : (inside : Bool) (l : ℕ) (line : List ℕ) → fault_of inside l line ≡ None → (n : ℕ) → Includes (finalize_number l line) n → n ≤ 400000
number_low inside l line e n m = go (form_of (words_of line)) refl m
  where
    go : (f : Option Form) → form_of (words_of line) ≡ f → Includes (cond (is_finalize f) (l ∷ []) []) n → n ≤ 400000
    go (Some Finalize) is k = either k (λ same. subst (λ i. i ≤ 400000) same (fits_of Finalize inside l line is e).low) (λ no. absurd no)
    go m is k = absurd k

pub numbers_low : (lines : List (List ℕ)) (inside : Bool) (l : ℕ) → first_bad_from inside l lines ≡ None → (n : ℕ) → Includes (finalize_numbers_from l lines) n → n ≤ 400000
numbers_low [] inside l e n m = absurd m
numbers_low (line ∷ lines) inside l e n m =
    let k = split_bad l (fault_of inside l line) (first_bad_from (inside_after inside (words_of line)) (l + 1) lines) e in
    either (Includes-append_cases (finalize_number l line) (finalize_numbers_from (l + 1) lines) n m) (number_low inside l line k.0 n)
    (numbers_low lines (inside_after inside (words_of line)) (l + 1) k.1 n)

calls_unfed : (numbers : List ℕ) → ((n : ℕ) → Includes numbers n → n ≤ 400000) → AreUnfed (call_lines numbers)
calls_unfed numbers low line m =
    let n = Includes-map_cases (λ (l : ℕ). joined (call_line l)) (reverse numbers) line m in
    let k : n.0 ≤ 400000 = low n.0 (Includes-reverse numbers n.0 n.1) in
    subst (λ (b : List ℕ). has_no_feed b ≡ true) n.2 (sound_unfed (call_line n.0) (sound_call n.0 k))

pub expansion_lines : (bytes : List ℕ) → first_bad bytes ≡ None → lines_of (expansion bytes) ≡ expanded_lines (lines_of bytes)
unfolding expansion first_bad
expansion_lines bytes e = lines_again (expanded_lines (lines_of bytes)) (both_unfed (written_from 1 (lines_of bytes)) (final_lines (lines_of bytes))
    (all_written (lines_of bytes) false 1 (lines_unfed bytes) e) (calls_unfed (finalize_numbers_from 1 (lines_of bytes)) (numbers_low (lines_of bytes) false 1 e)))

-- where a line is
pub written-append : (front lines : List (List ℕ)) (l : ℕ) → written_from l (front ++ lines) ≡ written_from l front ++ written_from (l + length front) lines
written-append [] lines l = let same : l ≡ l + 0 = omega arith in ap (λ n. written_from n lines) same
written-append (line ∷ front) lines l =
    let same : l + 1 + length front ≡ l + suc (length front) = omega arith in
    ap (λ ls. written l line ++ ls) (written-append front lines (l + 1) ∙ ap (λ n. written_from (l + 1) front ++ written_from n lines) same)
    ∙ sym (append_assoc (written l line) (written_from (l + 1) front) (written_from (l + suc (length front)) lines))

-- the lines before and after one
pub record Parted (front : List (List ℕ)) (line : List ℕ) (back : List (List ℕ)) (l : ℕ) : Type 0 where
  pub inside : Bool
  pub inside_behind : Bool
  pub here : fault_of inside (l + length front) line ≡ None
  pub behind : first_bad_from inside_behind (l + length front + 1) back ≡ None

none_first : (l : ℕ) (m : Option ℕ) (later : Option (ℕ × ℕ)) → m ≡ None → later ≡ None → bad_or l m later ≡ None
none_first l None later e k = k
none_first l (Some code) later e k = absurd (cc)

pub parted : (front : List (List ℕ)) (line : List ℕ) (back : List (List ℕ)) (inside : Bool) (l : ℕ) → first_bad_from inside l (front ++ line ∷ back) ≡ None
    → (first_bad_from inside l front ≡ None) × Parted front line back l
parted [] line back inside l e =
    let f = split_bad l (fault_of inside l line) (first_bad_from (inside_after inside (words_of line)) (l + 1) back) e in
    let same : l ≡ l + 0 = omega arith in (
      refl,
      record {
        inside = inside;
        inside_behind = inside_after inside (words_of line);
        here = subst (λ n. fault_of inside n line ≡ None) same f.0;
        behind = subst (λ n. first_bad_from (inside_after inside (words_of line)) (n + 1) back ≡ None) same f.1;
      },
    )
parted (other ∷ front) line back inside l e =
    let f = split_bad l (fault_of inside l other) (first_bad_from (inside_after inside (words_of other)) (l + 1) (front ++ line ∷ back)) e in
    let later = parted front line back (inside_after inside (words_of other)) (l + 1) f.1 in
    let same : l + 1 + length front ≡ l + suc (length front) = omega arith in (
      none_first l (fault_of inside l other) (first_bad_from (inside_after inside (words_of other)) (l + 1) front) f.0 later.0,
      record {
        inside = later.1.inside;
        inside_behind = later.1.inside_behind;
        here = subst (λ n. fault_of later.1.inside n line ≡ None) same later.1.here;
        behind = subst (λ n. first_bad_from later.1.inside_behind (n + 1) back ≡ None) same later.1.behind;
      },
    )

pub first_of_three : (a b c : Bool) → (a && b && c) ≡ true → a ≡ true
first_of_three true b c e = refl
first_of_three false b c e = absurd (cc)

-- what is written for one line of a form, and where
pub record FormLines (bytes : List ℕ) (front : List (List ℕ)) (line : List ℕ) (back : List (List ℕ)) (form : Form) : Type 0 where
  pub parts : (first_bad_from false 1 front ≡ None) × Parted front line back 1
  pub fits : Fits form (1 + length front) line (words_of line)
  pub sound : EachLine IsSound (form_lines form (1 + length front) (words_of line))
  pub lines_are : lines_of (expansion bytes) ≡ written_from 1 front ++ (map joined (form_lines form (1 + length front) (words_of line))
      ++ (written_from (1 + length front + 1) back ++ final_lines (lines_of bytes)))

pub form_written : (bytes : List ℕ) → first_bad bytes ≡ None → (front : List (List ℕ)) (line : List ℕ) (back : List (List ℕ)) → lines_of bytes ≡ front ++ line
    ∷ back → (form : Form) → form_of (words_of line) ≡ Some form → FormLines bytes front line back form
unfolding first_bad
form_written bytes fine front line back all form is =
    let parts = parted front line back false 1 (ap (first_bad_from false 1) (sym all) ∙ fine) in
    let l = 1 + length front in
    let fits = fits_of form parts.1.inside l line is parts.1.here in
    let last = final_lines (lines_of bytes) in
    record {
      parts = parts;
      fits = fits;
      sound = form_sound form l line fits;
      lines_are =
          expansion_lines bytes fine
          ∙ ap (λ ls. written_from 1 ls ++ last) all
          ∙ ap (λ ls. ls ++ last) (written-append front (line ∷ back) 1 ∙ ap (λ m. written_from 1 front ++ (written_by m l line (words_of line) ++ written_from (l + 1) back)) is)
          ∙ append_assoc (written_from 1 front) (map joined (form_lines form l (words_of line)) ++ written_from (l + 1) back) last
          ∙ ap (λ ls. written_from 1 front ++ ls) (append_assoc (map joined (form_lines form l (words_of line))) (written_from (l + 1) back) last);
    }
