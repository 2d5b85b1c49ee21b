-- Lines with words free of some names do not refer to these names, nor to a procedure with such a name.
use Rattle.std.proofs.Common.{◌≡◌, ℕ, ◌+◌, ◌≤◌, List, [], ◌∷◌, ◌++◌, length, map, Bool, true, false, cond, Option, None, Some, refl, sym, ap, subst, ◌∙◌, inl, inr, ◌⊎◌, arith, codes, append_assoc, append-nil}
use Rattle.std.specs.Prelude.{slice_index_or}
use Rattle.std.proofs.lemmas.List.{map-append}
use Rattle.cg_value.specs.Texts.{with_text}
use Rattle.cg_graph.specs.Member.{Includes}
use Rattle.cg_graph.proofs.Members.{either}
use Rattle.cg_script.specs.declared.item.ClassDef.{ClassDef}
use Rattle.cg_script.specs.declared.item.Item.TheVariants as items
use Rattle.cg_script.specs.declared.command.Command.TheVariants as commands
use Rattle.cg_script.specs.declared.command.Operand.{Operand}
use Rattle.cg_script.specs.declared.form.Form.{Form}
use Rattle.cg_script.specs.declared.form.Form.TheVariants as forms
use Rattle.cg_script.specs.declared.part.Part.{Part}
use Rattle.cg_script.specs.declared.part.Said.{Said}
use Rattle.cg_script.specs.declared.part.Said.TheVariants.{Declares, Does}
use Rattle.cg_script.specs.Pieces.{words_of}
use Rattle.cg_script.specs.Words.{after_prefix}
use Rattle.cg_script.specs.Forms.{row}
use Rattle.cg_script.specs.Meanings.{is_passed}
use Rattle.cg_script.specs.Parts.{Known, parts_of, parts_from, texts_from, numbered, defined_number, finalizer, legacy, legacy_of, finalizer_of, is_unknown, has_unknown}
use Rattle.std.specs.Option.{option_or}
use Rattle.cg_script.specs.Commands.{count_or, del_if, legacy_if, said}
use Rattle.cg_script.specs.Reading.{nothing_known, is_repeated, procs_after, known_after, good, lines_from}
use Rattle.cg_script.specs.Canonical.{text_of}
use Rattle.cg_script.proofs.LinesAdded.{inside_said}
use Rattle.cg_script.proofs.GoodLines.{faultless, good_line}
use Rattle.cg_script.proofs.GoodWords.{says_of_line}
use Rattle.cg_script.proofs.PrintedParts.{Begins, begins_along, begins_texts, name_found, neither, text_found}
use Rattle.cg_weakcoll.proofs.ReadLines.{First, Passes, Says, first_line}
use Rattle.cg_weakcoll.proofs.LookLines.{all_begin}
use Rattle.cg_weakcoll.proofs.ItemsOfLines.{IsPlain, begun, begun_by, through}
use Rattle.cg_weakcoll.proofs.FreeNames.{AreClear, AreFree, IsClear, names_free, said_names}

abbrev is_whole : Said → Bool
is_whole (Declares (items.Run c)) = true
is_whole (Declares (items.Def p)) = true
is_whole s = false

not_whole : (form : Form) (ps : List Part) → is_whole (said form ps) ≡ false
not_whole forms.Def ps = refl
not_whole form ps = refl

no_whole : (form : Form) (ps : List Part) → IsPlain (said form ps)
no_whole form ps = record {
  no_run = λ c e. let no : true ≡ false = ap is_whole (sym e) ∙ not_whole form ps in cc;
  no_def = λ p e. let no : true ≡ false = ap is_whole (sym e) ∙ not_whole form ps in cc;
}

-- what a line begins goes to the procedures
procs_begun : (all : List (List ℕ)) (known : Known) (form : Form) (words : List (List ℕ)) → (row form).fewest ≤ length words → is_repeated known form words
    ≡ false → Begins (texts_from known.texts form 0 words) all
    → procs_after known.procs form words ≡ known.procs ++ map (text_of all) (begun_by (said form (parts_of known form words)))
procs_begun all known forms.Def (w ∷ c ∷ ws) enough fresh begins =
    ap (λ b. cond b known.procs (known.procs ++ c ∷ [])) fresh
    ∙ ap (λ (t : List ℕ). known.procs ++ t ∷ [])
    (sym (text_found all known.texts c (begins_along (with_text known.texts c) (texts_from (with_text known.texts c) forms.Def 2 ws) all
    (begins_texts forms.Def ws (with_text known.texts c) 2) begins)))
procs_begun all known forms.Def xs enough fresh begins = absurd (omega arith)
procs_begun all known form words enough fresh begins = sym (append-nil known.procs)

module _ (all names : List (List ℕ)) (Free : List ℕ → Type 0) where
  -- the name of the procedure with this number is free
  abbrev pub NameFree : ℕ → Type 0
  NameFree k = Free (slice_index_or names k [])

  -- A line does not refer to these names or to these procedures.
  pub record IsFine (s : Said) : Type 0 where
    pub plain : IsPlain s
    pub names_are : AreFree all Free (said_names s)
    pub makes : (name k : ℕ) (cells : List Operand) → s ≡ Does (commands.MakeFunc name k cells) → NameFree k
    pub finalizer : (c : ClassDef) (k : ℕ) → s ≡ Declares (items.Class c) → c.del ≡ Some k → NameFree k
    pub legacy : (c : ClassDef) (k : ℕ) → s ≡ Declares (items.Class c) → c.legacy ≡ Some k → NameFree k

  found_free : (procs : List (List ℕ)) (word : List ℕ) (k : ℕ) → Begins procs names → Free word → defined_number procs word ≡ Some k → NameFree k
  found_free procs word k begins free e = subst Free (sym (name_found names procs word k begins e)) free

  counted_free : (procs : List (List ℕ)) (word : List ℕ) (k : ℕ) → Begins procs names → Free word → is_unknown (numbered (defined_number procs word)) ≡ false
      → count_or (Some (numbered (defined_number procs word))) ≡ k → NameFree k
  counted_free procs word k begins free there e = go (defined_number procs word) refl there e
    where
      go : (m : Option ℕ) → defined_number procs word ≡ m → is_unknown (numbered m) ≡ false → count_or (Some (numbered m)) ≡ k → NameFree k
      go None is u h = absurd (cc)
      go (Some j) is u h = found_free procs word k begins free (is ∙ ap Some h)

  makes_free : (procs classes : List (List ℕ)) (form : Form) (words texts : List (List ℕ)) → Begins procs names → AreClear Free words
      → (row form).fewest ≤ length words → has_unknown (parts_from procs classes texts form 0 words) ≡ false
      → (name k : ℕ) (cells : List Operand) → said form (parts_from procs classes texts form 0 words) ≡ Does (commands.MakeFunc name k cells) → NameFree k
  makes_free procs classes forms.MakeFunc (a ∷ b ∷ c ∷ d ∷ rest) texts begins clear enough there name k cells e =
      let same : count_or (Some (numbered (defined_number procs d))) ≡ k = cc in
      counted_free procs d k begins clear.1.1.1.0.itself (neither (is_unknown (numbered (defined_number procs d))) _ there).0 same
  makes_free procs classes forms.MakeFunc xs texts begins clear enough there name k cells e = absurd (omega arith)
  makes_free procs classes form words texts begins clear enough there name k cells e = absurd (cc)

  legacy_of_none : (procs : List (List ℕ)) (m : Option (List ℕ)) (k : ℕ) → del_if (Some (legacy_of procs m)) ≡ Some k → ⊥
  legacy_of_none procs None k e = cc
  legacy_of_none procs (Some name) k e = go (defined_number procs name) e
    where
      go : (f : Option ℕ) → del_if (Some (legacy f)) ≡ Some k → ⊥
      go None h = cc
      go (Some j) h = cc

  del_free : (procs : List (List ℕ)) (word : List ℕ) (k : ℕ) → Begins procs names → IsClear Free word → del_if (Some (finalizer_of procs (after_prefix (codes "del=") word) word)) ≡ Some k → NameFree k
  del_free procs word k begins clear e = go (after_prefix (codes "del=") word) refl e
    where
      found : (name : List ℕ) → Free name → (f : Option ℕ) → defined_number procs name ≡ f → del_if (Some (finalizer f)) ≡ Some k → NameFree k
      found name free None is h = absurd (cc)
      found name free (Some j) is h = found_free procs name k begins free (is ∙ h)

      go : (m : Option (List ℕ)) → after_prefix (codes "del=") word ≡ m → del_if (Some (finalizer_of procs m word)) ≡ Some k → NameFree k
      go None is h = absurd (legacy_of_none procs (after_prefix (codes "legacy=") word) k h)
      go (Some name) is h = found name (clear.finalizer name is) (defined_number procs name) refl h

  legacy_free : (procs : List (List ℕ)) (word : List ℕ) (k : ℕ) → Begins procs names → IsClear Free word
      → legacy_if (Some (finalizer_of procs (after_prefix (codes "del=") word) word)) ≡ Some k → NameFree k
  legacy_free procs word k begins clear e = go (after_prefix (codes "del=") word) e
    where
      found : (name : List ℕ) → Free name → (f : Option ℕ) → defined_number procs name ≡ f → legacy_if (Some (legacy f)) ≡ Some k → NameFree k
      found name free None is h = absurd (cc)
      found name free (Some j) is h = found_free procs name k begins free (is ∙ h)

      none_found : (f : Option ℕ) → legacy_if (Some (finalizer f)) ≡ Some k → NameFree k
      none_found None h = absurd (cc)
      none_found (Some j) h = absurd (cc)

      behind : (m : Option (List ℕ)) → after_prefix (codes "legacy=") word ≡ m → legacy_if (Some (legacy_of procs m)) ≡ Some k → NameFree k
      behind None is h = absurd (cc)
      behind (Some name) is h = found name (clear.legacy name is) (defined_number procs name) refl h

      go : (m : Option (List ℕ)) → legacy_if (Some (finalizer_of procs m word)) ≡ Some k → NameFree k
      go None h = behind (after_prefix (codes "legacy=") word) refl h
      go (Some name) h = none_found (defined_number procs name) h

  one_some : (a b : Option ℕ) (k : ℕ) → option_or a b ≡ Some k → (a ≡ Some k) ⊎ (b ≡ Some k)
  one_some None b k e = inr e
  one_some (Some j) b k e = inl e

  class_del : (procs classes : List (List ℕ)) (form : Form) (words texts : List (List ℕ)) → Begins procs names → AreClear Free words
      → (c : ClassDef) (k : ℕ) → said form (parts_from procs classes texts form 0 words) ≡ Declares (items.Class c) → c.del ≡ Some k → NameFree k
  class_del procs classes forms.Class words texts begins clear c k e is = go words clear (ap (λ (s : Said). del_of s) e ∙ is)
    where
      del_of : Said → Option ℕ
      del_of (Declares (items.Class d)) = d.del
      del_of s = None

      go : (ws : List (List ℕ)) → AreClear Free ws → del_of (said forms.Class (parts_from procs classes texts forms.Class 0 ws)) ≡ Some k → NameFree k
      go (a ∷ b ∷ d ∷ []) clear h = either (one_some _ None k h) (del_free procs d k begins clear.1.1.0) (λ none. absurd (cc))
      go (a ∷ b ∷ d ∷ f ∷ rest) clear h = either (one_some _ _ k h) (del_free procs d k begins clear.1.1.0) (del_free procs f k begins clear.1.1.1.0)
      go xs clear h = absurd (cc)
  class_del procs classes form words texts begins clear c k e is = absurd (cc)

  class_legacy : (procs classes : List (List ℕ)) (form : Form) (words texts : List (List ℕ)) → Begins procs names → AreClear Free words
      → (c : ClassDef) (k : ℕ) → said form (parts_from procs classes texts form 0 words) ≡ Declares (items.Class c) → c.legacy ≡ Some k → NameFree k
  class_legacy procs classes forms.Class words texts begins clear c k e is = go words clear (ap (λ (s : Said). legacy_in s) e ∙ is)
    where
      legacy_in : Said → Option ℕ
      legacy_in (Declares (items.Class d)) = d.legacy
      legacy_in s = None

      go : (ws : List (List ℕ)) → AreClear Free ws → legacy_in (said forms.Class (parts_from procs classes texts forms.Class 0 ws)) ≡ Some k → NameFree k
      go (a ∷ b ∷ d ∷ []) clear h = either (one_some _ None k h) (legacy_free procs d k begins clear.1.1.0) (λ none. absurd (cc))
      go (a ∷ b ∷ d ∷ f ∷ rest) clear h = either (one_some _ _ k h) (legacy_free procs d k begins clear.1.1.0) (legacy_free procs f k begins clear.1.1.1.0)
      go xs clear h = absurd (cc)
  class_legacy procs classes form words texts begins clear c k e is = absurd (cc)

  pub line_fine : (known : Known) (form : Form) (words : List (List ℕ)) → Begins known.procs names → AreClear Free words → (row form).fewest ≤ length words
      → has_unknown (parts_of known form words) ≡ false → Begins (texts_from known.texts form 0 words) all
      → IsFine (said form (parts_of known form words))
  line_fine known form words procs clear enough there begins = record {
    plain = no_whole form (parts_of known form words);
    names_are = names_free all Free known.procs known.classes form words known.texts clear enough begins;
    makes = makes_free known.procs known.classes form words known.texts procs clear enough there;
    finalizer = class_del known.procs known.classes form words known.texts procs clear;
    legacy = class_legacy known.procs known.classes form words known.texts procs clear;
  }

  -- lines that are ignored or have such words
  abbrev pub AreClearLines : List (List ℕ) → Type 0
  AreClearLines lines = (line : List ℕ) → Includes lines line → is_passed (words_of line) ≡ false → AreClear Free (words_of line)

  -- Such lines before others: all that they say is fine; what is known after them; and how the others go on.
  pub record Passage (known0 : Known) (rest : List (List ℕ)) (saids : List Said) : Type 0 where
    pub before : List Said
    pub later : List Said
    pub is : before ++ later ≡ saids
    pub known : Known
    pub number : ℕ
    pub goes : lines_from known number rest ≡ good all later
    pub fine : (s : Said) → Includes before s → IsFine s
    pub procs : known.procs ≡ known0.procs ++ map (text_of all) (begun before)
    pub whole : known.procs ++ map (text_of all) (begun later) ≡ names
    pub inside : known.inside ≡ through known0.inside before

  pub passage : (front rest : List (List ℕ)) (known : Known) (number : ℕ) (saids : List Said) → AreClearLines front → lines_from known number (front ++ rest)
      ≡ good all saids → known.procs ++ map (text_of all) (begun saids) ≡ names → Passage known rest saids
  passage [] rest known number saids clear e whole = record {
    before = [];
    later = saids;
    is = refl;
    known = known;
    number = number;
    goes = e;
    fine = λ s m. absurd m;
    procs = sym (append-nil known.procs);
    whole = whole;
    inside = refl;
  }
  passage (line ∷ front) rest known number saids clear e whole = go (λ k n ss h w. passage front rest k n ss (λ other m. clear other (inr m)) h w)
      (first_line known number (front ++ rest) all saids line e)
    where
      go : ((k : Known) (n : ℕ) (ss : List Said) → lines_from k n (front ++ rest) ≡ good all ss → k.procs ++ map (text_of all) (begun ss) ≡ names
          → Passage k rest ss) → First known number line (front ++ rest) all saids → Passage known rest saids
      go ih (Passes m more) =
          let o = ih known (number + 1) saids more whole in
          record { before = o.before; later = o.later; is = o.is; known = o.known; number = o.number; goes = o.goes; fine = o.fine; procs = o.procs; whole = o.whole; inside = o.inside }
      go ih (Says form words m told) =
          let later = told.later in
          let is = told.is in
          let more = told.goes in
          let fault = faultless known form words told.clean in
          let words_good = good_line number line form words m in
          let same = (says_of_line number line form words m).words_are in
          let begins = all_begin (front ++ rest) (known_after known form words) (number + 1) all later more in
          let s = said form (parts_of known form words) in
          let step = procs_begun all known form words words_good.enough fault.fresh begins in
          let named : known.procs ++ map (text_of all) (begun_by s ++ begun later) ≡ names = ap (λ (l : List Said). known.procs ++ map (text_of all) (begun l)) is ∙ whole in
          let whole_later : procs_after known.procs form words ++ map (text_of all) (begun later) ≡ names =
          ap (λ l. l ++ map (text_of all) (begun later)) step
          ∙ append_assoc known.procs (map (text_of all) (begun_by s)) (map (text_of all) (begun later))
          ∙ ap (λ l. known.procs ++ l) (sym (map-append (text_of all) (begun_by s) (begun later)))
          ∙ named in
          let o = ih (known_after known form words) (number + 1) later more whole_later in
          let words_clear : AreClear Free words = subst (AreClear Free) (sym same) (clear line (inl refl) (ap is_passed (sym same) ∙ words_good.unpassed)) in
          let procs_begin : Begins known.procs names = record { more = map (text_of all) (begun_by s ++ begun later); is = sym named } in
          let here : IsFine s = line_fine known form words procs_begin words_clear words_good.enough fault.defined begins in
          record {
            before = s ∷ o.before;
            later = o.later;
            is = ap (λ l. s ∷ l) o.is ∙ is;
            known = o.known;
            number = o.number;
            goes = o.goes;
            fine = λ t k. either k (λ e. subst IsFine e here) (o.fine t);
            procs = o.procs ∙ ap (λ l. l ++ map (text_of all) (begun o.before)) step ∙ append_assoc known.procs (map (text_of all) (begun_by s))
                (map (text_of all) (begun o.before)) ∙ ap (λ l. known.procs ++ l) (sym (map-append (text_of all) (begun_by s) (begun o.before)));
            whole = o.whole;
            inside = o.inside ∙ ap (λ b. through b o.before) (sym (inside_said form (parts_of known form words) known.inside));
          }

-- so after any lines
abbrev pub Any : List ℕ → Type 0
Any text = Unit {0}

clear_any : (words : List (List ℕ)) → AreClear Any words
clear_any [] = tt
clear_any (word ∷ words) = (record { itself = tt; finalizer = λ name i. tt; legacy = λ name i. tt }, clear_any words)

pub behind : (all : List (List ℕ)) (front rest : List (List ℕ)) (saids : List Said) → lines_from nothing_known 1 (front ++ rest) ≡ good all saids
    → Passage all (map (text_of all) (begun saids)) Any nothing_known rest saids
behind all front rest saids e = passage all (map (text_of all) (begun saids)) Any front rest nothing_known 1 saids (λ line m unpassed. clear_any (words_of line)) e refl
