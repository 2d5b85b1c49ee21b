-- Words of a form that are read as written, and still are after printing.
use Rattle.std.proofs.Common.{◌≡◌, ℕ, ◌+◌, ◌≤◌, List, [], ◌∷◌, length, Bool, true, false, cond, not, ◌||◌, ◌&&◌, ◌==◌, nat_lt, Option, None, Some, refl, sym, ap, subst, ◌∙◌, arith, codes, ◌⊎◌, inl, inr}
use Rattle.std.specs.Prelude.{slice_index, unwrap_or}
use Rattle.std.specs.List.{list_all}
use Rattle.std.specs.Str.{bytes_eq}
use Rattle.std.proofs.lemmas.Bool.Decides.{nat_tests}
use Rattle.std.proofs.lemmas.Slice.Eq.{bytes_eq-Decides}
use Rattle.cg_script.specs.declared.form.Form.{Form}
use Rattle.cg_script.specs.declared.form.Form.TheVariants as forms
use Rattle.cg_script.specs.declared.form.Sort.{Sort}
use Rattle.cg_script.specs.declared.form.Sort.TheVariants.{Value, Number, Profile, Budget, Count}
use Rattle.cg_script.specs.declared.part.Part.{Part}
use Rattle.cg_script.specs.Pieces.{words_of, word_at, word_is}
use Rattle.cg_script.specs.Tables.{named}
use Rattle.cg_script.specs.Words.{is_printable, begins_name, atoms, flags}
use Rattle.cg_script.specs.Forms.{row, sort_at, openers, bindings}
use Rattle.cg_script.specs.Meanings.{Meaning, passed, says, bad, fits, all_fit, repeats_finalizer, formed, formed_if, binding_form, worded, is_passed, meaning}
use Rattle.cg_script.specs.Parts.{Known, part_of, parts_from, parts_of, texts_from, text_in, with_text_if, has_unknown}
use Rattle.cg_script.specs.Commands.{said}
use Rattle.cg_script.specs.Reading.{is_misplaced, is_repeated, procs_after, classes_after, known_after, fault_in}
use Rattle.cg_script.specs.Canonical.{joined}
use Rattle.cg_script.proofs.Ascii.{both}
use Rattle.cg_script.proofs.GoodWords.{not_bad, not_passed, says_fits, says_of_line}
use Rattle.cg_script.proofs.JoinedWords.{and_both, EachSound, weight, words_of-joined, all_printable, length-joined, words_weight, sound_words}
use Rattle.cg_script.proofs.NormalWords.{word_again, normal, alike, Alike, AllNames, names_by_test, named_nowhere}
use Rattle.cg_script.proofs.PrintedParts.{normal_from}

-- the first words of a line select the form
abbrev pub Picks : Form → List (List ℕ) → Type 0
Picks form words =
    ((word_is words 1 (codes "=") ≡ false) × (named openers (word_at words 0) ≡ Some form)) ⊎ ((word_is words 1 (codes "=") ≡ true) × ((length words == 2) ≡ false) × (binding_form words ≡ form))

-- words that, separated by one space, are read as a line of the form
pub record Good (form : Form) (words : List (List ℕ)) : Type 0 where
  pub fit : all_fit form 0 words ≡ true
  pub single : repeats_finalizer form words ≡ false
  pub enough : (row form).fewest ≤ length words
  pub most : length words ≤ (row form).most
  pub light : weight words ≤ 1025
  pub few_words : length words ≤ 64
  pub sound : EachSound words
  pub picks : Picks form words
  pub unpassed : is_passed words ≡ false

some_words : (words : List (List ℕ)) → is_passed words ≡ false → 1 ≤ length words
some_words [] e = absurd (cc)
some_words (w ∷ ws) e = omega arith

chosen3 : (a b c : Bool) (x y z r : Meaning) → a ≡ true → b ≡ false → c ≡ false → cond (not a) x (cond b y (cond c z r)) ≡ r
chosen3 true false false x y z r p q s = refl
chosen3 false b c x y z r p q s = absurd (cc)
chosen3 true true c x y z r p q s = absurd (cc)
chosen3 true false true x y z r p q s = absurd (cc)

chosen2 : (a b : Bool) (x y r : Meaning) → a ≡ false → b ≡ false → cond a x (cond b y r) ≡ r
chosen2 false false x y r p q = refl
chosen2 true b x y r p q = absurd (cc)
chosen2 false true x y r p q = absurd (cc)

or_none : (a b : Bool) → a ≡ false → b ≡ false → (a || b) ≡ false
or_none false b p q = q
or_none true b p q = absurd (cc)

not_less : (a b : ℕ) → b ≤ a → nat_lt a b ≡ false
not_less a b h = grind (arith, nat_tests)

not_true : (b : Bool) → b ≡ true → not b ≡ false
not_true true e = refl
not_true false e = absurd (cc)

formed_says : (form : Form) (words : List (List ℕ)) → Good form words → formed form words ≡ says form words
formed_says form words good =
    chosen2 (nat_lt (length words) (row form).fewest || nat_lt (row form).most (length words)) (not (all_fit form 0 words) || repeats_finalizer form words) (bad 3) (bad 4) (says form words)
    (or_none (nat_lt (length words) (row form).fewest) (nat_lt (row form).most (length words)) (not_less (length words) (row form).fewest good.enough)
    (not_less (row form).most (length words) good.most))
    (or_none (not (all_fit form 0 words)) (repeats_finalizer form words) (not_true (all_fit form 0 words) good.fit) good.single)

worded_formed : (form : Form) (words : List (List ℕ)) → Picks form words → worded words ≡ formed form words
worded_formed form words (inl p) =
    ap (λ b. cond (not b) (formed_if (named openers (word_at words 0)) words) (cond (length words == 2) (bad 3) (formed (binding_form words) words))) p.0
    ∙ ap (λ (o : Option Form). formed_if o words) p.1
worded_formed form words (inr p) =
    ap (λ b. cond (not b) (formed_if (named openers (word_at words 0)) words) (cond (length words == 2) (bad 3) (formed (binding_form words) words))) p.0
    ∙ ap (λ b. cond b (bad 3) (formed (binding_form words) words)) p.1
    ∙ ap (λ (k : Form). formed k words) p.2

pub good_says : (number : ℕ) (form : Form) (words : List (List ℕ)) → Good form words → (number == 400001) ≡ false → meaning number (joined words) ≡ says form words
unfolding meaning
good_says number form words good before =
    let line = joined words in
    let same : words_of line ≡ words = words_of-joined words good.sound in
    let light = good.light in
    let short : length line ≤ 1024 = omega (arith, length-joined words (some_words words good.unpassed)) in
    let few : length (words_of line) ≤ 64 = subst (λ (ws : List (List ℕ)). length ws ≤ 64) (sym same) good.few_words in
    chosen3 (list_all is_printable line) (nat_lt 1024 (length line) || nat_lt 64 (length (words_of line)) || (number == 400001)) (is_passed (words_of line))
    (bad 1) (bad 5) passed (worded (words_of line))
    (all_printable words good.sound)
    (or_none (nat_lt 1024 (length line) || nat_lt 64 (length (words_of line))) (number == 400001)
    (or_none (nat_lt 1024 (length line)) (nat_lt 64 (length (words_of line))) (not_less 1024 (length line) short) (not_less 64 (length (words_of line)) few)) before)
    (ap is_passed same ∙ good.unpassed)
    ∙ ap (worded) same
    ∙ worded_formed form words good.picks
    ∙ formed_says form words good

-- the words of each parsed line are such words
formed_form : (other : Form) (others : List (List ℕ)) (form : Form) (words : List (List ℕ)) → says form words ≡ formed other others → other ≡ form
formed_form other others form words e =
    let b = not_bad (nat_lt (length others) (row other).fewest || nat_lt (row other).most (length others)) 3 _ form words e in
    let d = not_bad (not (all_fit other 0 others) || repeats_finalizer other others) 4 _ form words b.1 in
    let s : says form words ≡ says other others = d.1 in cc

opened_form : (found : Option Form) (others : List (List ℕ)) (form : Form) (words : List (List ℕ)) → says form words ≡ formed_if found others → found ≡ Some form
opened_form None others form words e = absurd (cc)
opened_form (Some other) others form words e = ap Some (formed_form other others form words e)

worded_picks : (others : List (List ℕ)) (form : Form) (words : List (List ℕ)) → says form words ≡ worded others → Picks form others
worded_picks others form words e = by (word_is others 1 (codes "=")) refl e
  where
    by : (b : Bool) → word_is others 1 (codes "=") ≡ b
        → says form words ≡ cond (not b) (formed_if (named openers (word_at others 0)) others) (cond (length others == 2) (bad 3) (formed (binding_form others) others)) → Picks form others
    by false eb e = inl (eb, opened_form (named openers (word_at others 0)) others form words e)
    by true eb e =
        let three = not_bad (length others == 2) 3 (formed (binding_form others) others) form words e in inr (eb, three.0, formed_form (binding_form others) others form words three.1)

picked : (number : ℕ) (line : List ℕ) (form : Form) (words : List (List ℕ)) → says form words ≡ meaning number line → Picks form (words_of line) × (is_passed (words_of line) ≡ false)
unfolding meaning
picked number line form words e =
    let a = not_bad (not (list_all is_printable line)) 1 _ form words e in
    let b = not_bad (nat_lt 1024 (length line) || nat_lt 64 (length (words_of line)) || (number == 400001)) 5 _ form words a.1 in
    let c = not_passed (is_passed (words_of line)) (worded (words_of line)) form words b.1 in
    (worded_picks (words_of line) form words c.1, c.0)

pub good_line : (number : ℕ) (line : List ℕ) (form : Form) (words : List (List ℕ)) → says form words ≡ meaning number line → Good form words
good_line number line form words m =
    let fitting = says_fits number line form words m in
    let of = says_of_line number line form words m in
    let short = of.short in
    let same = sym of.words_are in
    let p = picked number line form words m in
    let heavy : weight (words_of line) ≤ 1025 = omega (arith, words_weight line) in
    record {
      fit = fitting.fit;
      single = fitting.single;
      enough = fitting.enough;
      most = fitting.most;
      light = subst (λ (ws : List (List ℕ)). weight ws ≤ 1025) same heavy;
      few_words = of.few_words;
      sound = subst (λ ws. EachSound ws) same (sound_words line of.printable);
      picks = subst (λ ws. Picks form ws) same p.0;
      unpassed = ap is_passed of.words_are ∙ p.1;
    }

-- what printed words keep of those that were read
pub record WordsAgain (form : Form) (place : ℕ) (ws vs : List (List ℕ)) : Type 0 where
  pub fit : all_fit form place vs ≡ true
  pub parts : (procs classes texts : List (List ℕ)) → parts_from procs classes texts form place vs ≡ parts_from procs classes texts form place ws
  pub texts : (texts : List (List ℕ)) → texts_from texts form place vs ≡ texts_from texts form place ws
  pub count : length vs ≡ length ws
  pub light : weight vs ≤ weight ws
  pub sound : EachSound vs

words_again : (form : Form) (ws : List (List ℕ)) (place : ℕ) → all_fit form place ws ≡ true → EachSound ws → WordsAgain form place ws (normal_from form place ws)
words_again form [] place fit sound = record { fit = refl; parts = λ procs classes texts. refl; texts = λ texts. refl; count = refl; light = omega arith; sound = tt }
words_again form (w ∷ ws) place fit sound =
    let s = sort_at form place in
    let p = both (fits s w) (all_fit form (place + 1) ws) fit in
    let v = normal s w in
    let vs = normal_from form (place + 1) ws in
    let here = word_again s w p.0 sound.0.0 sound.0.1 in
    let later = words_again form ws (place + 1) p.1 sound.1 in
    let light = later.light in
    let light_here = here.light in
    let count = later.count in
    record {
      fit = and_both (fits s v) (all_fit form (place + 1) vs) here.fit later.fit;
      parts = λ procs classes texts. ap (λ (q : Part). q ∷ parts_from procs classes (with_text_if texts (text_in s v)) form (place + 1) vs) (here.part procs classes texts)
          ∙ ap (λ (t : Option (List ℕ)). part_of procs classes texts s w ∷ parts_from procs classes (with_text_if texts t) form (place + 1) vs) here.text
          ∙ ap (λ (l : List Part). part_of procs classes texts s w ∷ l) (later.parts procs classes (with_text_if texts (text_in s w)));
      texts = λ texts. ap (λ (t : Option (List ℕ)). texts_from (with_text_if texts t) form (place + 1) vs) here.text ∙ later.texts (with_text_if texts (text_in s w));
      count = omega arith;
      light = omega arith;
      sound = ((here.some, here.graphic), later.sound);
    }

-- the printed words select the form too
to_false : (b : Bool) → (b ≡ true → ⊥) → b ≡ false
to_false true never = absurd (never refl)
to_false false never = refl

pub never_sign : (s : Sort) (v : List ℕ) → fits s (codes "=") ≡ false → fits s v ≡ true → bytes_eq v (codes "=") ≡ false
never_sign s v rejects fit =
    to_false (bytes_eq v (codes "="))
    (λ (e : bytes_eq v (codes "=") ≡ true). let both_ways : false ≡ true = sym rejects ∙ ap (λ (t : List ℕ). fits s t) (sym ((bytes_eq-Decides v (codes "=")).0 e)) ∙ fit in absurd (cc))

both_false : (s : Sort) (w v : List ℕ) → fits s (codes "=") ≡ false → fits s w ≡ true → fits s v ≡ true → bytes_eq v (codes "=") ≡ bytes_eq w (codes "=")
both_false s w v rejects fw fv = never_sign s v rejects fv ∙ sym (never_sign s w rejects fw)

sign_again : (s : Sort) (w : List ℕ) → fits s w ≡ true → fits s (normal s w) ≡ true → bytes_eq (normal s w) (codes "=") ≡ bytes_eq w (codes "=")
unfolding atoms flags
sign_again Value w fw fv = both_false Value w (normal Value w) refl fw fv
sign_again Number w fw fv = both_false Number w (normal Number w) refl fw fv
sign_again Profile w fw fv = both_false Profile w (normal Profile w) refl fw fv
sign_again Budget w fw fv = both_false Budget w (normal Budget w) refl fw fv
sign_again Count w fw fv = both_false Count w (normal Count w) refl fw fv
sign_again s w fw fv = refl

second_again : (form : Form) (ws : List (List ℕ)) → all_fit form 0 ws ≡ true → EachSound ws → word_is (normal_from form 0 ws) 1 (codes "=") ≡ word_is ws 1 (codes "=")
second_again form [] fit sound = refl
second_again form (a ∷ []) fit sound = refl
second_again form (a ∷ b ∷ ws) fit sound =
    let p = both (fits (sort_at form 1) b) (all_fit form 2 ws) (both (fits (sort_at form 0) a) (all_fit form 1 (b ∷ ws)) fit).1 in
    sign_again (sort_at form 1) b p.0 (word_again (sort_at form 1) b p.0 sound.1.0.0 sound.1.0.1).fit

first_again : (form : Form) (w : List ℕ) → normal (sort_at form 0) w ≡ w
first_again forms.End w = refl
first_again form w = refl

opener_again : (form : Form) (ws : List (List ℕ)) → word_at (normal_from form 0 ws) 0 ≡ word_at ws 0
opener_again form [] = refl
opener_again form (w ∷ ws) = first_again form w

passed_again : (form : Form) (ws : List (List ℕ)) → is_passed (normal_from form 0 ws) ≡ is_passed ws
passed_again form [] = refl
passed_again form (w ∷ ws) = ap (λ (v : List ℕ). slice_index v 0 == 35) (first_again form w)

bindings_named : AllNames bindings
unfolding bindings
bindings_named = names_by_test bindings refl

and_false : (a b : Bool) → a ≡ false → (a && b) ≡ false
and_false false b e = refl
and_false true b e = absurd (cc)

letterless_binds : (c : List ℕ) (b : Bool) → begins_name (slice_index c 0) ≡ false → cond (bytes_eq c (codes "ref") && b) forms.Bind (unwrap_or (named bindings c) forms.Bind) ≡ forms.Bind
letterless_binds c b e =
    let other : bytes_eq c (codes "ref") ≡ false =
    to_false (bytes_eq c (codes "ref"))
    (λ (t : bytes_eq c (codes "ref") ≡ true). let both_ways : false ≡ true = sym e ∙ ap (λ (u : List ℕ). begins_name (slice_index u 0)) ((bytes_eq-Decides c (codes "ref")).0 t) in absurd (cc)) in
    ap (λ t. cond t forms.Bind (unwrap_or (named bindings c) forms.Bind)) (and_false (bytes_eq c (codes "ref")) b other)
    ∙ ap (λ (o : Option Form). unwrap_or o forms.Bind) (named_nowhere bindings c bindings_named e)

binding_again : (c v : List ℕ) (n m : ℕ) → Alike c v → m ≡ n
    → cond (bytes_eq v (codes "ref") && (m == 3)) forms.Bind (unwrap_or (named bindings v) forms.Bind) ≡ cond (bytes_eq c (codes "ref") && (n == 3)) forms.Bind
    (unwrap_or (named bindings c) forms.Bind)
binding_again c v n m (inl same) count =
    ap (λ (t : List ℕ). cond (bytes_eq t (codes "ref") && (m == 3)) forms.Bind (unwrap_or (named bindings t) forms.Bind)) same
    ∙ ap (λ (k : ℕ). cond (bytes_eq c (codes "ref") && (k == 3)) forms.Bind (unwrap_or (named bindings c) forms.Bind)) count
binding_again c v n m (inr p) count = letterless_binds v (m == 3) p.1 ∙ sym (letterless_binds c (n == 3) p.0)

third_again : (form : Form) (ws : List (List ℕ)) → all_fit form 0 ws ≡ true → length (normal_from form 0 ws) ≡ length ws → binding_form (normal_from form 0 ws) ≡ binding_form ws
third_again form [] fit count = refl
third_again form (a ∷ []) fit count = refl
third_again form (a ∷ b ∷ []) fit count = refl
third_again form (a ∷ b ∷ c ∷ ws) fit count =
    let p = both (fits (sort_at form 1) b) (all_fit form 2 (c ∷ ws)) (both (fits (sort_at form 0) a) (all_fit form 1 (b ∷ c ∷ ws)) fit).1 in
    let q = both (fits (sort_at form 2) c) (all_fit form 3 ws) p.1 in
    binding_again c (normal (sort_at form 2) c) (length (a ∷ b ∷ c ∷ ws)) (length (normal_from form 0 (a ∷ b ∷ c ∷ ws))) (alike (sort_at form 2) c q.0) count

picks_again : (form : Form) (ws : List (List ℕ)) → all_fit form 0 ws ≡ true → EachSound ws → length (normal_from form 0 ws) ≡ length ws → Picks form ws → Picks form (normal_from form 0 ws)
picks_again form ws fit sound count (inl p) = inl (second_again form ws fit sound ∙ p.0, ap (λ (w : List ℕ). named openers w) (opener_again form ws) ∙ p.1)
picks_again form ws fit sound count (inr p) = inr (second_again form ws fit sound ∙ p.0, ap (λ (n : ℕ). n == 2) count ∙ p.1, third_again form ws fit count ∙ p.2)

single_again : (form : Form) (ws : List (List ℕ)) → length ws ≤ (row form).most → repeats_finalizer form ws ≡ false → repeats_finalizer form (normal_from form 0 ws) ≡ false
single_again forms.Class [] most e = e
single_again forms.Class (a ∷ []) most e = e
single_again forms.Class (a ∷ b ∷ []) most e = e
single_again forms.Class (a ∷ b ∷ c ∷ []) most e = e
single_again forms.Class (a ∷ b ∷ c ∷ d ∷ []) most e = e
single_again forms.Class (a ∷ b ∷ c ∷ d ∷ f ∷ ws) most e = absurd (omega arith)
single_again form ws most e = refl

pub good_again : (form : Form) (ws : List (List ℕ)) → Good form ws → Good form (normal_from form 0 ws)
good_again form ws good =
    let again = words_again form ws 0 good.fit good.sound in
    let count = again.count in
    let light = again.light in
    let old_light = good.light in
    let enough = good.enough in
    let most = good.most in
    let few_words = good.few_words in
    record {
      fit = again.fit;
      single = single_again form ws good.most good.single;
      enough = omega arith;
      most = omega arith;
      light = omega arith;
      few_words = omega arith;
      sound = again.sound;
      picks = picks_again form ws good.fit good.sound again.count good.picks;
      unpassed = passed_again form ws ∙ good.unpassed;
    }

-- words that say the same as others, and lead to the same knowledge
pub record Same (known : Known) (form : Form) (ws vs : List (List ℕ)) : Type 0 where
  pub said_same : said form (parts_of known form vs) ≡ said form (parts_of known form ws)
  pub texts_same : texts_from known.texts form 0 vs ≡ texts_from known.texts form 0 ws
  pub procs_same : procs_after known.procs form vs ≡ procs_after known.procs form ws
  pub classes_same : classes_after known.classes form vs ≡ classes_after known.classes form ws
  pub repeated_same : is_repeated known form vs ≡ is_repeated known form ws
  pub none_unknown : has_unknown (parts_of known form vs) ≡ false

procs_again : (procs : List (List ℕ)) (form : Form) (ws : List (List ℕ)) → procs_after procs form (normal_from form 0 ws) ≡ procs_after procs form ws
procs_again procs forms.Def [] = refl
procs_again procs forms.Def (a ∷ []) = refl
procs_again procs forms.Def (a ∷ b ∷ ws) = refl
procs_again procs form ws = refl

classes_again : (classes : List (List ℕ)) (form : Form) (ws : List (List ℕ)) → classes_after classes form (normal_from form 0 ws) ≡ classes_after classes form ws
classes_again classes forms.Class [] = refl
classes_again classes forms.Class (a ∷ []) = refl
classes_again classes forms.Class (a ∷ b ∷ ws) = refl
classes_again classes form ws = refl

repeated_again : (known : Known) (form : Form) (ws : List (List ℕ)) → is_repeated known form (normal_from form 0 ws) ≡ is_repeated known form ws
repeated_again known forms.Def [] = refl
repeated_again known forms.Def (a ∷ []) = refl
repeated_again known forms.Def (a ∷ b ∷ ws) = refl
repeated_again known forms.Class [] = refl
repeated_again known forms.Class (a ∷ []) = refl
repeated_again known forms.Class (a ∷ b ∷ ws) = refl
repeated_again known form ws = refl

pub same_again : (known : Known) (form : Form) (ws : List (List ℕ)) → Good form ws → has_unknown (parts_of known form ws) ≡ false → Same known form ws (normal_from form 0 ws)
same_again known form ws good defined =
    let again = words_again form ws 0 good.fit good.sound in
    let parts = again.parts known.procs known.classes known.texts in
    record {
      said_same = ap (said form) parts;
      texts_same = again.texts known.texts;
      procs_same = procs_again known.procs form ws;
      classes_same = classes_again known.classes form ws;
      repeated_same = repeated_again known form ws;
      none_unknown = ap has_unknown parts ∙ defined;
    }

pub same_self : (known : Known) (form : Form) (ws : List (List ℕ)) → has_unknown (parts_of known form ws) ≡ false → Same known form ws ws
same_self known form ws defined = record { said_same = refl; texts_same = refl; procs_same = refl; classes_same = refl; repeated_same = refl; none_unknown = defined }

pub same_along : (known : Known) (form : Form) (us ws vs : List (List ℕ)) → Same known form us ws → Same known form ws vs → Same known form us vs
same_along known form us ws vs a b = record {
  said_same = b.said_same ∙ a.said_same;
  texts_same = b.texts_same ∙ a.texts_same;
  procs_same = b.procs_same ∙ a.procs_same;
  classes_same = b.classes_same ∙ a.classes_same;
  repeated_same = b.repeated_same ∙ a.repeated_same;
  none_unknown = b.none_unknown;
}

pub same_known : (known : Known) (form : Form) (ws vs : List (List ℕ)) → Same known form ws vs → known_after known form vs ≡ known_after known form ws
same_known known form ws vs same =
    λ i. record {
      texts = same.texts_same i;
      procs = same.procs_same i;
      classes = same.classes_same i;
      budget = (known_after known form ws).budget;
      shutdown = (known_after known form ws).shutdown;
      started = true;
      inside = (known_after known form ws).inside;
    }

-- nothing is wrong with a line
pub record Faultless (known : Known) (form : Form) (words : List (List ℕ)) : Type 0 where
  pub placed : is_misplaced known form ≡ false
  pub fresh : is_repeated known form words ≡ false
  pub defined : has_unknown (parts_of known form words) ≡ false

pub faultless : (known : Known) (form : Form) (words : List (List ℕ)) → fault_in known form words ≡ None → Faultless known form words
faultless known form words e = by (is_misplaced known form) (is_repeated known form words) (has_unknown (parts_of known form words)) refl refl refl e
  where
    by : (a b c : Bool) → is_misplaced known form ≡ a → is_repeated known form words ≡ b → has_unknown (parts_of known form words) ≡ c
        → cond {A = Option ℕ} a (Some 7) (cond b (Some 8) (cond c (Some 6) None)) ≡ None
        → Faultless known form words
    by true b c ea eb ec e = absurd (cc)
    by false true c ea eb ec e = absurd (cc)
    by false false true ea eb ec e = absurd (cc)
    by false false false ea eb ec e = record { placed = ea; fresh = eb; defined = ec }

pub no_fault : (known : Known) (form : Form) (ws vs : List (List ℕ)) → Faultless known form ws → Same known form ws vs → fault_in known form vs ≡ None
no_fault known form ws vs clean same = none (is_misplaced known form) (is_repeated known form vs) (has_unknown (parts_of known form vs)) clean.placed
    (same.repeated_same ∙ clean.fresh) same.none_unknown
  where
    none : (a b c : Bool) → a ≡ false → b ≡ false → c ≡ false → cond {A = Option ℕ} a (Some 7) (cond b (Some 8) (cond c (Some 6) None)) ≡ None
    none false false false p q r = refl
    none true b c p q r = absurd (cc)
    none false true c p q r = absurd (cc)
    none false false true p q r = absurd (cc)
