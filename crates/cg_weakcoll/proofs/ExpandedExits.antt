-- The exit finalizers of an expansion: the lines before those of a `finalize` line, those lines, the ones after them, and the
-- calls.
use Rattle.std.proofs.Common.{◌≡◌, ◌≢◌, ℕ, suc, ◌+◌, ◌<◌, ◌≤◌, List, [], ◌∷◌, ◌++◌, length, map, Bool, true, false, cond, Option, None, Some, refl, sym, ap, subst, ◌∙◌, inl, inr, arith, append_assoc, append-nil, length-append}
use Rattle.std.specs.Prelude.{option_map, reverse, slice_get, slice_index_or, unwrap_or}
use Rattle.std.proofs.lemmas.List.{append_cancel_right, length-map, map-append, reverse-append}
use Rattle.cg_graph.specs.Member.{Includes}
use Rattle.cg_graph.proofs.Members.{either, Includes-append_cases, Includes-append_left, Includes-append_right, Includes-map_cases}
use Rattle.cg_script.specs.declared.Script.{Script}
use Rattle.cg_script.specs.declared.item.ClassDef.{ClassDef}
use Rattle.cg_script.specs.declared.item.Item.{Item}
use Rattle.cg_script.specs.declared.item.Item.TheVariants as items
use Rattle.cg_script.specs.declared.item.Proc.{Proc}
use Rattle.cg_script.specs.declared.command.Command.{Command}
use Rattle.cg_script.specs.declared.command.Command.TheVariants as commands
use Rattle.cg_script.specs.declared.command.Operand.TheVariants as operands
use Rattle.cg_script.specs.declared.part.Said.{Said}
use Rattle.cg_script.specs.declared.part.Said.TheVariants.{Declares, Does}
use Rattle.cg_script.specs.Canonical.{joined, text_of}
use Rattle.cg_script.specs.Items.{classes, commands_of, procedures}
use Rattle.cg_script.specs.Pieces.{lines_of, words_of, word_at}
use Rattle.cg_script.specs.Reading.{good, items_of, lines_from, nothing_known}
use Rattle.cg_script.specs.Texts.{command_names, operand_names}
use Rattle.cg_script.specs.Words.{is_value}
use Rattle.cg_script.proofs.Ascii.{both}
use Rattle.cg_value.specs.Texts.{text_number}
use Rattle.cg_machine.specs.Program.{body_of}
use Rattle.cg_weakcoll.specs.declared.form.Form.{Form}
use Rattle.cg_weakcoll.specs.declared.form.Form.TheVariants.{Finalize}
use Rattle.cg_weakcoll.specs.Expansion.{call_line, exit_name, expanded_lines, expansion, final_lines, finalize_lines, finalize_number, finalize_numbers_from, finalizes, first_bad, first_bad_from, form_of, is_finalize, proc_name, written_from}
use Rattle.cg_weakcoll.specs.Exits.{AllOther, AreOthers, Exit, IsExit, IsOther, exit_body, exit_commands, final_calls, names_of}
use Rattle.cg_weakcoll.specs.ExpandedExits.{AreExitsOf, ExpandedExitsAreThere, Finalizes, HasExitsOf, IsExitOf, NoLine, Other}
use Rattle.cg_weakcoll.proofs.ClearLines.{clear_from, line_words, unpassed_form, word_there}
use Rattle.cg_weakcoll.proofs.ExitNames.{IsElse, other_text, own_apart, own_names}
use Rattle.cg_weakcoll.proofs.SoundWords.{sound_call}
use Rattle.cg_weakcoll.proofs.ExpandedLines.{FormLines, expansion_lines, form_written, numbers_low}
use Rattle.cg_weakcoll.proofs.FinalizerLines.{Calls, Finalizer, calls, calls_of, exit_of, finalizer, finalizer_says}
use Rattle.cg_weakcoll.proofs.FreeNames.{AreFree, IsClear}
use Rattle.cg_weakcoll.proofs.LookLines.{ReadAs, read_as}
use Rattle.cg_weakcoll.proofs.ReadLines.{does_all}
use Rattle.cg_weakcoll.proofs.LinesWithoutNames.{Any, IsFine, Passage, behind, passage}
use Rattle.cg_weakcoll.proofs.ItemsOfLines.{ArePlain, at_place, begun, begun_names, class_said, classes_split, command_said, commands_split, elsewhere, no_classes, no_procedures, procedure_said, procedures_split, run_each, through}
use Rattle.cg_laws.proofs.MeasureInDeaths.{Includes-reverse}
use Rattle.cg_laws.proofs.Lookups.{Includes-reversed}

numbers-append : (front lines : List (List ℕ)) (l : ℕ) → finalize_numbers_from l (front ++ lines) ≡ finalize_numbers_from l front ++ finalize_numbers_from (l + length front) lines
numbers-append [] lines l = let same : l ≡ l + 0 = omega arith in ap (λ n. finalize_numbers_from n lines) same
numbers-append (line ∷ front) lines l =
    let same : l + 1 + length front ≡ l + suc (length front) = omega arith in
    ap (λ ns. finalize_number l line ++ ns) (numbers-append front lines (l + 1) ∙ ap (λ n. finalize_numbers_from (l + 1) front ++ finalize_numbers_from n lines) same)
    ∙ sym (append_assoc (finalize_number l line) (finalize_numbers_from (l + 1) front) (finalize_numbers_from (l + suc (length front)) lines))

number_range : (lines : List (List ℕ)) (l m : ℕ) → Includes (finalize_numbers_from l lines) m → (l ≤ m) × (m < l + length lines)
number_range [] l m k = absurd k
number_range (line ∷ lines) l m k = either (Includes-append_cases (finalize_number l line) (finalize_numbers_from (l + 1) lines) m k) (here (finalizes line))
    (λ h. let r = number_range lines (l + 1) m h in let from = r.0 in let to = r.1 in (omega (arith, from), omega (arith, to)))
  where
    here : (b : Bool) → Includes (cond b (l ∷ []) []) m → (l ≤ m) × (m < l + suc (length lines))
    here false h = absurd h
    here true (inl same) = (omega (arith, same), omega (arith, same))
    here true (inr none) = absurd none

is_finalize_form : (m : Option Form) → is_finalize m ≡ true → m ≡ Some Finalize
is_finalize_form (Some Finalize) e = refl
is_finalize_form m e = absurd (cc)

reversed_from : (xs : List Exit) (x : Exit) → Includes (reverse xs) x → Includes xs x
reversed_from [] x m = m
reversed_from (y ∷ xs) x m = either (Includes-append_cases (reverse xs) (y ∷ []) x (subst (λ ys. Includes ys x) (reverse-append (y ∷ []) xs) m))
    (λ k. inr (reversed_from xs x k)) (λ k. either k (λ e. inl e) (λ e. absurd e))

map-reversed : {X : Type 0} (f : X → Command) (xs : List X) → map f (reverse xs) ≡ reverse (map f xs)
map-reversed f [] = refl
map-reversed f (x ∷ xs) =
    ap (map f) (reverse-append (x ∷ []) xs)
    ∙ map-append f (reverse xs) (x ∷ [])
    ∙ ap (λ ys. ys ++ f x ∷ []) (map-reversed f xs)
    ∙ sym (reverse-append (f x ∷ []) (map f xs))

seam : (xs ys : List (List ℕ)) (y : List ℕ) → slice_index_or (xs ++ y ∷ ys) (length xs) [] ≡ y
seam [] ys y = refl
seam (x ∷ xs) ys y = seam xs ys y

seam_map : {X : Type 0} (f : X → ℕ) (all : List (List ℕ)) (xs ys : List X) (y : X) → slice_index_or (map (text_of all) (map f (xs ++ y ∷ ys))) (length xs) [] ≡ text_of all (f y)
seam_map f all [] ys y = refl
seam_map f all (x ∷ xs) ys y = seam_map f all xs ys y

module _ (bytes : List ℕ) (fine : first_bad bytes ≡ None) (all : List (List ℕ)) (its : List Item) (r : ReadAs (expansion bytes) all its) where
  abbrev lines : List (List ℕ)
  lines = lines_of bytes

  abbrev names : List (List ℕ)
  names = map (text_of all) (begun r.saids)

  abbrev script : Script
  script = record { names = all; items = its }

  fine_lines : first_bad_from false 1 lines ≡ None
  unfolding first_bad
  fine_lines = fine

  start : lines_from nothing_known 1 (expanded_lines lines) ≡ good all r.saids
  start = ap (λ ls. lines_from nothing_known 1 ls) (sym (expansion_lines bytes fine)) ∙ r.lines_are

  abbrev numbers : List ℕ
  numbers = finalize_numbers_from 1 lines

  low_number : (m : ℕ) → Includes numbers m → m ≤ 400000
  low_number m k = numbers_low lines false 1 fine_lines m k

  module _ (front : List (List ℕ)) (line : List ℕ) (back : List (List ℕ)) (parts : lines ≡ front ++ line ∷ back) (is : finalizes line ≡ true) where
    abbrev l : ℕ
    l = 1 + length front

    abbrev words : List (List ℕ)
    words = words_of line

    abbrev y : List ℕ
    y = word_at words 1

    abbrev f : List ℕ
    f = word_at words 2

    form : form_of words ≡ Some Finalize
    form = is_finalize_form (form_of words) is

    w : FormLines bytes front line back Finalize
    w = form_written bytes fine front line back parts Finalize form

    abbrev Free : List ℕ → Type 0
    Free = IsElse l

    clear_word_at : (place : ℕ) → place < 3 → IsClear Free (word_at words place)
    clear_word_at place low =
        let count = w.fits.count in
        word_there (IsClear Free) words place (line_words l w.parts.1.inside l line w.parts.1.here (unpassed_form words Finalize form)) (omega (arith, low, count))

    value : is_value f ≡ true
    value = (both (is_value y) (is_value f) w.fits.fit).1

    abbrev lines_front : List (List ℕ)
    lines_front = written_from 1 front

    abbrev lines_back : List (List ℕ)
    lines_back = written_from (l + 1) back

    abbrev lines_last : List (List ℕ)
    lines_last = map (λ m. joined (call_line m)) (reverse numbers)

    pA : Passage all names Free nothing_known (map joined (finalize_lines l y f) ++ (lines_back ++ lines_last)) r.saids
    pA = passage all names Free lines_front (map joined (finalize_lines l y f) ++ (lines_back ++ lines_last)) nothing_known 1 r.saids
        (clear_from all names l w.fits.low front false 1 w.parts.0 (λ m from to same. omega (arith, from, to, same)))
        (ap (λ ls. lines_from nothing_known 1 ls) (sym w.lines_are) ∙ r.lines_are) refl

    its_lines : Finalizer all Free pA.known (lines_back ++ lines_last) pA.later l y f
    its_lines = finalizer all Free pA.known pA.number (lines_back ++ lines_last) pA.later l y f value (clear_word_at 1 (omega arith)) (clear_word_at 2 (omega arith)) w.sound pA.goes

    abbrev proc : ℕ
    proc = length pA.known.procs

    abbrev e : Exit
    e = exit_of all proc l its_lines.source its_lines.target

    begun_behind : pA.known.procs ++ (proc_name l ∷ map (text_of all) (begun its_lines.later)) ≡ names
    begun_behind =
        ap (λ (t : List ℕ). pA.known.procs ++ (t ∷ map (text_of all) (begun its_lines.later))) (sym its_lines.proc_is)
        ∙ ap (λ (ss : List Said). pA.known.procs ++ map (text_of all) (begun ss)) its_lines.is
        ∙ pA.whole

    pB : Passage all names Free its_lines.known lines_last its_lines.later
    pB = passage all names Free lines_back lines_last its_lines.known its_lines.number its_lines.later
        (clear_from all names l w.fits.low back w.parts.1.inside_behind (l + 1) w.parts.1.behind (λ m from to same. omega (arith, from, to, same)))
        its_lines.goes
        (ap (λ ps. ps ++ map (text_of all) (begun its_lines.later)) its_lines.procs ∙ append_assoc pA.known.procs (proc_name l ∷ []) (map (text_of all) (begun its_lines.later)) ∙ begun_behind)

    last : Calls all pB.known pB.later (reverse numbers)
    last = calls all pB.known pB.number pB.later (reverse numbers) (λ m k. sound_call m (low_number m (Includes-reverse numbers m k))) pB.goes

    abbrev X : List Said
    X = pA.before

    abbrev Y : List Said
    Y = pB.before

    abbrev Z : List Said
    Z = does_all (calls_of all (reverse numbers))

    abbrev F : List Said
    F = finalizer_says all l e (Y ++ Z)

    split : X ++ F ≡ r.saids
    split = ap (λ ss. X ++ ss) (ap (finalizer_says all l e) (ap (λ ss. Y ++ ss) (sym last.is) ∙ pB.is) ∙ its_lines.is) ∙ pA.is

    X_ends : through false X ≡ false
    X_ends = sym pA.inside ∙ its_lines.outside

    Y_ends : through false Y ≡ false
    Y_ends = ap (λ b. through b Y) (sym its_lines.outside_again) ∙ sym pB.inside ∙ last.outside

    X_plain : ArePlain X
    X_plain s m = (pA.fine s m).plain

    Y_plain : ArePlain Y
    Y_plain s m = (pB.fine s m).plain

    -- a fine line does not refer to the finalizer
    own_text : (n : ℕ) → Includes (names_of e) n → Includes (own_names l) (text_of all n)
    own_text n (inl same) = inr (inl (sym its_lines.object_is ∙ ap (text_of all) same))
    own_text n (inr (inl same)) = inr (inr (inl (sym its_lines.exit_is ∙ ap (text_of all) same)))
    own_text n (inr (inr (inl same))) = inr (inr (inr (inl (sym its_lines.function_is ∙ ap (text_of all) same))))
    own_text n (inr (inr (inr (inl same)))) = inr (inr (inr (inr (inl (sym its_lines.watch_is ∙ ap (text_of all) same)))))
    own_text n (inr (inr (inr (inr none)))) = absurd none

    others : (spoken : List ℕ) → AreFree all Free spoken → AreOthers e spoken
    others spoken free n m own = free n m (own_text n own)

    own_proc : Includes (own_names l) (slice_index_or names proc [])
    own_proc = inl (sym (ap (λ ns. slice_index_or ns proc []) (sym begun_behind) ∙ seam pA.known.procs (map (text_of all) (begun its_lines.later)) (proc_name l)))

    other_command : (c : Command) → IsFine all names Free (Does c) → IsOther e c
    other_command c h = record {
      names = others (command_names c) h.names_are;
      makes = λ name cells same. h.makes name proc cells (ap Does same) own_proc;
    }

    other_call : (m : ℕ) → Includes numbers m → m ≢ l → IsOther e (commands.Call (operands.Name (text_number all (exit_name m))))
    other_call m k apart = record {
      names = λ n there own. either there
          (λ same. other_text 103 m l (low_number m k) w.fits.low apart (subst (Includes (own_names l)) (ap (text_of all) (sym same) ∙ last.texts m (Includes-reversed numbers m k)) (own_text n own)))
          (λ none. absurd none);
      makes = λ name cells same. cc;
    }

    items_are : items_of false (X ++ F) ≡ its
    items_are = ap (items_of false) split ∙ r.items_are

    abbrev commands_X : List Command
    commands_X = commands_of (items_of false X)

    abbrev commands_Y : List Command
    commands_Y = commands_of (items_of false Y)

    commands_are : commands_of its ≡ commands_X ++ (exit_commands e ++ (commands_Y ++ calls_of all (reverse numbers)))
    commands_are =
        ap commands_of (sym items_are)
        ∙ commands_split X F false
        ∙ ap (λ b. commands_X ++ commands_of (items_of b F)) X_ends
        ∙ ap (λ cs. commands_X ++ (exit_commands e ++ cs)) (commands_split Y Z false ∙ ap (λ b. commands_Y ++ commands_of (items_of b Z)) Y_ends
        ∙ ap (λ cs. commands_Y ++ cs) (run_each (calls_of all (reverse numbers))))

    abbrev procs_X : List Proc
    procs_X = procedures (items_of false X)

    abbrev procs_Y : List Proc
    procs_Y = procedures (items_of false Y)

    abbrev its_proc : Proc
    its_proc = record { name = text_number all (proc_name l); body = exit_body e }

    procs_are : procedures its ≡ procs_X ++ its_proc ∷ procs_Y
    procs_are =
        ap procedures (sym items_are)
        ∙ procedures_split X F false X_ends
        ∙ ap (λ ps. procs_X ++ its_proc ∷ ps) (procedures_split Y Z false Y_ends ∙ ap (λ ps. procs_Y ++ ps) (no_procedures (calls_of all (reverse numbers))) ∙ append-nil procs_Y)

    classes_are : classes its ≡ classes (items_of false X) ++ classes (items_of false Y)
    classes_are =
        ap classes (sym items_are)
        ∙ classes_split X F false
        ∙ ap (λ b. classes (items_of false X) ++ classes (items_of b F)) X_ends
        ∙ ap (λ cs. classes (items_of false X) ++ cs) (classes_split Y Z false ∙ ap (λ b. classes (items_of false Y) ++ classes (items_of b Z)) Y_ends
        ∙ ap (λ cs. classes (items_of false Y) ++ cs) (no_classes (calls_of all (reverse numbers))) ∙ append-nil (classes (items_of false Y)))

    place : length procs_X ≡ proc
    place = sym (length-map procs_X (λ (p : Proc). p.name)) ∙ ap length (begun_names X false X_plain) ∙ sym (length-map (begun X) (text_of all)) ∙ ap length (sym pA.procs)

    abbrev body_in : List Proc → ℕ → List Command
    body_in ps n = unwrap_or (option_map (λ (p : Proc). p.body) (slice_get ps n)) []

    body : body_of script proc ≡ exit_body e
    body =
        ap (λ ps. body_in ps proc) procs_are
        ∙ ap (λ n. body_in (procs_X ++ its_proc ∷ procs_Y) n) (sym place)
        ∙ ap (λ (o : Option Proc). unwrap_or (option_map (λ (p : Proc). p.body) o) []) (at_place procs_X procs_Y its_proc)

    bodies_other : (n : ℕ) → n ≢ proc → AllOther e (body_of script n)
    bodies_other n apart c m = go (slice_get (procs_X ++ its_proc ∷ procs_Y) n) refl (subst (λ cs. Includes cs c) (ap (λ ps. body_in ps n) procs_are) m)
      where
        go : (o : Option Proc) → slice_get (procs_X ++ its_proc ∷ procs_Y) n ≡ o → Includes (unwrap_or (option_map (λ (p : Proc). p.body) o) []) c → IsOther e c
        go None is m = absurd m
        go (Some q) is m = either (elsewhere procs_X procs_Y its_proc n q (λ same. apart (same ∙ place)) is)
            (λ k. other_command c (pA.fine (Does c) (procedure_said X false q c X_plain k m)))
            (λ k. other_command c (pB.fine (Does c) (procedure_said Y false q c Y_plain k m)))

    classes_other : (k : ClassDef) → Includes (classes its) k → (k.del ≢ Some proc) × (k.legacy ≢ Some proc)
    classes_other k m = either (Includes-append_cases (classes (items_of false X)) (classes (items_of false Y)) k (subst (λ cs. Includes cs k) classes_are m))
        (λ h. by (pA.fine (Declares (items.Class k)) (class_said X false k h)))
        (λ h. by (pB.fine (Declares (items.Class k)) (class_said Y false k h)))
      where
        by : IsFine all names Free (Declares (items.Class k)) → (k.del ≢ Some proc) × (k.legacy ≢ Some proc)
        by h = (λ i. h.finalizer k proc refl i own_proc, λ i. h.legacy k proc refl i own_proc)

    -- the calls before and after its own
    abbrev before : List ℕ
    before = finalize_numbers_from 1 front

    abbrev after : List ℕ
    after = finalize_numbers_from (l + 1) back

    numbers_are : numbers ≡ before ++ l ∷ after
    numbers_are = ap (finalize_numbers_from 1) parts ∙ numbers-append front (line ∷ back) 1 ∙ ap (λ b. before ++ (cond b (l ∷ []) [] ++ after)) is

    reversed_are : reverse numbers ≡ reverse after ++ l ∷ reverse before
    reversed_are = ap reverse numbers_are ∙ reverse-append before (l ∷ after) ∙ ap (λ ns. ns ++ reverse before) (reverse-append (l ∷ []) after) ∙ append_assoc (reverse after) (l ∷ []) (reverse before)

    calls_are : calls_of all (reverse numbers) ≡ calls_of all (reverse after) ++ commands.Call (operands.Name (text_number all (exit_name l))) ∷ calls_of all (reverse before)
    calls_are = ap (calls_of all) reversed_are ∙ map-append (λ m. commands.Call (operands.Name (text_number all (exit_name m)))) (reverse after) (l ∷ reverse before)

    calls_other : (ns : List ℕ) → ((m : ℕ) → Includes ns m → Includes numbers m × (m ≢ l)) → AllOther e (calls_of all ns)
    calls_other ns apart c m =
        let found = Includes-map_cases (λ k. commands.Call (operands.Name (text_number all (exit_name k)))) ns c m in
        let there = apart found.0 found.1 in
        subst (IsOther e) found.2 (other_call found.0 there.0 there.1)

    before_apart : (m : ℕ) → Includes (reverse before) m → Includes numbers m × (m ≢ l)
    before_apart m k =
        let there = Includes-reverse before m k in
        let range = number_range front 1 m there in
        let low = range.1 in
        (subst (λ ns. Includes ns m) (sym numbers_are) (Includes-append_left before (l ∷ after) m there), λ same. omega (arith, low, same))

    after_apart : (m : ℕ) → Includes (reverse after) m → Includes numbers m × (m ≢ l)
    after_apart m k =
        let there = Includes-reverse after m k in
        let range = number_range back (l + 1) m there in
        let high = range.0 in
        (subst (λ ns. Includes ns m) (sym numbers_are) (Includes-append_right before (l ∷ after) m (inr there)), λ same. omega (arith, high, same))

    X_other : AllOther e commands_X
    X_other c m = other_command c (pA.fine (Does c) (command_said X false c X_plain m))

    Y_other : AllOther e commands_Y
    Y_other c m = other_command c (pB.fine (Does c) (command_said Y false c Y_plain m))

    its_exit : IsExit script e
    its_exit = record {
      body = body;
      front = commands_X;
      middle = commands_Y ++ calls_of all (reverse after);
      back = calls_of all (reverse before);
      commands = commands_are ∙ ap (λ cs. commands_X ++ (exit_commands e ++ (commands_Y ++ cs))) calls_are
          ∙ ap (λ cs. commands_X ++ (exit_commands e ++ cs))
          (sym (append_assoc commands_Y (calls_of all (reverse after)) (commands.Call (operands.Name (text_number all (exit_name l)))
          ∷ calls_of all (reverse before))));
      front_other = X_other;
      middle_other = λ c m. either (Includes-append_cases commands_Y (calls_of all (reverse after)) c m) (Y_other c) (calls_other (reverse after) after_apart c);
      back_other = calls_other (reverse before) before_apart;
      bodies_other = bodies_other;
      source_other = others (operand_names its_lines.source) its_lines.source_free;
      target_other = others (operand_names its_lines.target) its_lines.target_free;
      classes_other = classes_other;
      watch_exit = λ same. own_apart 119 103 l (λ i. omega (arith, i)) (sym its_lines.watch_is ∙ ap (text_of all) same ∙ its_lines.exit_is);
      watch_function = λ same. own_apart 119 102 l (λ i. omega (arith, i)) (sym its_lines.watch_is ∙ ap (text_of all) same ∙ its_lines.function_is);
      watch_object = λ same. own_apart 119 111 l (λ i. omega (arith, i)) (sym its_lines.watch_is ∙ ap (text_of all) same ∙ its_lines.object_is);
      exit_function = λ same. own_apart 103 102 l (λ i. omega (arith, i)) (sym its_lines.exit_is ∙ ap (text_of all) same ∙ its_lines.function_is);
      exit_object = λ same. own_apart 103 111 l (λ i. omega (arith, i)) (sym its_lines.exit_is ∙ ap (text_of all) same ∙ its_lines.object_is);
      function_object = λ same. own_apart 102 111 l (λ i. omega (arith, i)) (sym its_lines.function_is ∙ ap (text_of all) same ∙ its_lines.object_is);
    }

    is_of : IsExitOf all its l line e
    is_of = record {
      proc_is =
          ap (λ (ps : List Proc). slice_index_or (map (text_of all) (map (λ (p : Proc). p.name) ps)) proc []) procs_are
          ∙ ap (λ n. slice_index_or (map (text_of all) (map (λ (p : Proc). p.name) (procs_X ++ its_proc ∷ procs_Y))) n []) (sym place)
          ∙ seam_map (λ (p : Proc). p.name) all procs_X procs_Y its_proc
          ∙ its_lines.proc_is;
      object_is = its_lines.object_is;
      exit_is = its_lines.exit_is;
      function_is = its_lines.function_is;
      watch_is = its_lines.watch_is;
      target_is = its_lines.target_is;
      source_is = its_lines.source_is;
    }

    -- its call is not among the commands before the calls
    its_call_away : (ls : List Command) → commands_of its ≡ ls ++ calls_of all (reverse numbers) → ¬ Includes ls (commands.Call (operands.Name e.exit))
    its_call_away ls whole m =
        let same : ls ≡ commands_X ++ (exit_commands e ++ commands_Y) = append_cancel_right ls (commands_X ++ (exit_commands e ++ commands_Y)) (calls_of all (reverse numbers))
        (sym whole ∙ commands_are ∙ ap (λ cs. commands_X ++ cs) (sym (append_assoc (exit_commands e) commands_Y (calls_of all (reverse numbers))))
        ∙ sym (append_assoc commands_X (exit_commands e ++ commands_Y) (calls_of all (reverse numbers)))) in
        either (Includes-append_cases commands_X (exit_commands e ++ commands_Y) (commands.Call (operands.Name e.exit)) (subst (λ cs. Includes cs (commands.Call (operands.Name e.exit))) same m))
        (λ k. (X_other (commands.Call (operands.Name e.exit)) k).names e.exit (inl refl) (inr (inl refl)))
        behind
      where
        behind : Includes (exit_commands e ++ commands_Y) (commands.Call (operands.Name e.exit)) → ⊥
        behind (inl i) = cc
        behind (inr (inl i)) = cc
        behind (inr (inr (inl i))) = cc
        behind (inr (inr (inr k))) = (Y_other (commands.Call (operands.Name e.exit)) k).names e.exit (inl refl) (inr (inl refl))

  record Built (ls : List Command) (k : ℕ) (rest : List (List ℕ)) : Type 0 where
    exits : List Exit
    of_lines : AreExitsOf all its k rest exits
    each : (e : Exit) → Includes exits e → IsExit script e × ¬ Includes ls (commands.Call (operands.Name e.exit))
    calls_are : map (λ (e : Exit). commands.Call (operands.Name e.exit)) exits ≡ calls_of all (finalize_numbers_from k rest)

  module _ (ls : List Command) (whole : commands_of its ≡ ls ++ calls_of all (reverse numbers)) where
    build : (rest front : List (List ℕ)) (k : ℕ) → k ≡ 1 + length front → lines ≡ front ++ rest → Built ls k rest
    build [] front k same parts = record { exits = []; of_lines = NoLine k; each = λ e m. absurd m; calls_are = refl }
    build (line ∷ back) front k same parts =
        let longer : length (front ++ line ∷ []) ≡ length front + 1 = length-append front (line ∷ []) in
        go (finalizes line) refl (build back (front ++ line ∷ []) (k + 1) (omega (arith, same, longer)) (parts ∙ sym (append_assoc front (line ∷ []) back)))
      where
        go : (b : Bool) → finalizes line ≡ b → Built ls (k + 1) back → Built ls k (line ∷ back)
        go false is later = record {
          exits = later.exits;
          of_lines = Other k line back later.exits is later.of_lines;
          each = later.each;
          calls_are = later.calls_are ∙ ap (λ b. calls_of all (cond b (k ∷ []) [] ++ finalize_numbers_from (k + 1) back)) (sym is);
        }
        go true is later = record {
          exits = e front line back parts is ∷ later.exits;
          of_lines = Finalizes k line back (e front line back parts is) later.exits is (subst (λ n. IsExitOf all its n line (e front line back parts is))
              (sym same) (is_of front line back parts is)) later.of_lines;
          each = λ x m. either m (λ i. subst (λ (x : Exit). IsExit script x × ¬ Includes ls (commands.Call (operands.Name x.exit))) i
              (its_exit front line back parts is, its_call_away front line back parts is ls whole)) (later.each x);
          calls_are =
              ap (λ cs. commands.Call (operands.Name (text_number all (exit_name (1 + length front)))) ∷ cs) later.calls_are
              ∙ ap (λ n. commands.Call (operands.Name (text_number all (exit_name n))) ∷ calls_of all (finalize_numbers_from (k + 1) back)) (sym same)
              ∙ ap (λ b. calls_of all (cond b (k ∷ []) [] ++ finalize_numbers_from (k + 1) back)) (sym is);
        }

  whole_front : Passage all names Any nothing_known (final_lines lines) r.saids
  whole_front = behind all (written_from 1 lines) (final_lines lines) r.saids start

  whole_last : Calls all whole_front.known whole_front.later (reverse numbers)
  whole_last = calls all whole_front.known whole_front.number whole_front.later (reverse numbers) (λ m k. sound_call m (low_number m (Includes-reverse numbers m k))) whole_front.goes

  abbrev first_commands : List Command
  first_commands = commands_of (items_of false whole_front.before)

  whole_commands : commands_of its ≡ first_commands ++ calls_of all (reverse numbers)
  whole_commands =
      ap commands_of (sym (ap (items_of false) (ap (λ ss. whole_front.before ++ ss) (sym whole_last.is) ∙ whole_front.is) ∙ r.items_are))
      ∙ commands_split whole_front.before (does_all (calls_of all (reverse numbers))) false
      ∙ ap (λ b. first_commands ++ commands_of (items_of b (does_all (calls_of all (reverse numbers))))) (sym whole_front.inside ∙ whole_last.outside)
      ∙ ap (λ cs. first_commands ++ cs) (run_each (calls_of all (reverse numbers)))

  built : Built first_commands 1 lines
  built = build first_commands whole_commands lines [] 1 refl refl

  final_are : final_calls built.exits ≡ calls_of all (reverse numbers)
  final_are =
      map-reversed (λ (e : Exit). commands.Call (operands.Name e.exit)) built.exits
      ∙ ap reverse built.calls_are
      ∙ sym (map-reversed (λ m. commands.Call (operands.Name (text_number all (exit_name m)))) numbers)

  exits_there : HasExitsOf all its lines
  exits_there = record {
    exits = built.exits;
    of_lines = built.of_lines;
    are = record {
      each = λ e m. (built.each e m).0;
      lines = first_commands;
      commands = whole_commands ∙ ap (λ cs. first_commands ++ cs) (sym final_are);
      others = λ c m k.
          let found = Includes-map_cases (λ (e : Exit). commands.Call (operands.Name e.exit)) (reverse built.exits) c k in
          (built.each found.0 (reversed_from built.exits found.0 found.1)).1 (subst (Includes first_commands) (sym found.2) m);
    };
  }

pub expanded_exits : ExpandedExitsAreThere
expanded_exits bytes fine texts its e = exits_there bytes fine texts its (read_as (expansion bytes) texts its e)
