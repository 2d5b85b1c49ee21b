-- The ten lines of a `finalize` line, read in order, and the calls at the end.
use Rattle.std.proofs.Common.{◌≡◌, ℕ, suc, ◌+◌, List, [], ◌∷◌, ◌++◌, length, map, Bool, true, false, not, cond, ◌&&◌, ◌||◌, nat_lt, Option, None, Some, refl, sym, ap, subst, ◌∙◌, inl, inr, arith, codes, length-append}
use Rattle.std.specs.Prelude.{is_some, unwrap_or}
use Rattle.std.specs.List.{position_or_len}
use Rattle.std.specs.Str.{bytes_eq}
use Rattle.std.proofs.lemmas.Bool.Decides.{nat_tests}
use Rattle.cg_value.specs.Texts.{has_text, text_number, with_text}
use Rattle.cg_script.specs.declared.command.Command.{Command}
use Rattle.cg_script.specs.declared.command.Command.TheVariants as commands
use Rattle.cg_script.specs.declared.command.Operand.{Operand}
use Rattle.cg_script.specs.declared.command.Operand.TheVariants as operands
use Rattle.cg_script.specs.declared.form.Form.{Form}
use Rattle.cg_script.specs.declared.form.Form.TheVariants as forms
use Rattle.cg_script.specs.declared.part.Said.{Said}
use Rattle.cg_script.specs.declared.part.Said.TheVariants.{Begins as BeginsProc, Ends, Does}
use Rattle.cg_script.specs.Tables.{named}
use Rattle.cg_script.specs.Words.{atoms, is_value}
use Rattle.cg_script.specs.Forms.{bindings, openers, word_of}
use Rattle.cg_script.specs.Meanings.{formed, worded}
use Rattle.cg_script.specs.Parts.{Known, numbered, operand_or, defined_number, value_text, with_text_if}
use Rattle.cg_script.specs.Commands.{count_or}
use Rattle.cg_script.specs.Reading.{good, known_after, lines_from, spoilt}
use Rattle.cg_script.specs.Texts.{operand_names}
use Rattle.cg_script.specs.Canonical.{joined, text_of}
use Rattle.cg_script.proofs.GoodLines.{Faultless, faultless}
use Rattle.cg_script.proofs.Rows.{binding_is}
use Rattle.cg_script.proofs.PrintedParts.{Begins, text_found}
use Rattle.cg_weakcoll.specs.Exits.{Exit, exit_body, exit_commands}
use Rattle.cg_weakcoll.specs.Expansion.{call_line, exit_name, finalize_lines, function_name, object_name, proc_name, watch_name}
use Rattle.cg_weakcoll.specs.MapLines.{WordStandsFor}
use Rattle.cg_weakcoll.proofs.SoundWords.{EachLine, EachWord, IsSound}
use Rattle.cg_graph.specs.Member.{Includes}
use Rattle.cg_graph.proofs.Members.{either}
use Rattle.cg_weakcoll.proofs.FreeNames.{AreFree, IsClear, value_free}
use Rattle.cg_weakcoll.proofs.ReadLines.{does_all}
use Rattle.cg_weakcoll.proofs.LookLines.{same_text, stands_for}
use Rattle.cg_weakcoll.proofs.ReadTables.{AreMeant, Table, are_read, known_behind, table, written_row}

-- a new procedure comes last
last_place : (xs : List (List ℕ)) (text : List ℕ) → has_text xs text ≡ false → position_or_len (bytes_eq text) (xs ++ text ∷ []) ≡ length xs
last_place [] text e = ap (λ b. cond (not b) 1 0) (same_text text)
last_place (x ∷ xs) text e = go (bytes_eq text x) e (last_place xs text)
  where
    go : (b : Bool) → (b || has_text xs text) ≡ false → (has_text xs text ≡ false → position_or_len (bytes_eq text) (xs ++ text ∷ []) ≡ length xs)
        → cond (not b) (1 + position_or_len (bytes_eq text) (xs ++ text ∷ [])) 0 ≡ suc (length xs)
    go true k ih = absurd (cc)
    go false k ih = let n = ih k in omega (arith, n)

new_proc : (xs : List (List ℕ)) (text : List ℕ) → has_text xs text ≡ false → count_or (Some (numbered (defined_number (with_text xs text) text))) ≡ length xs
new_proc xs text e =
    ap (λ b. count_or (Some (numbered (defined_number (cond b xs (xs ++ text ∷ [])) text)))) e
    ∙ ap (λ n. count_or (Some (numbered (cond (nat_lt n (length (xs ++ text ∷ []))) (Some n) None)))) (last_place xs text e)
    ∙ ap (λ b. count_or (Some (numbered (cond b (Some (length xs)) None)))) below
  where
    below : nat_lt (length xs) (length (xs ++ text ∷ [])) ≡ true
    below = let more : length (xs ++ text ∷ []) ≡ length xs + 1 = length-append xs (text ∷ []) in grind (arith, nat_tests, more)

-- only `ref` among the words for values has the form of a binding
no_binding_form : (form : Form) → (not (is_value (word_of form)) || not (is_some (named bindings (word_of form))) || bytes_eq (word_of form) (codes "ref")) ≡ true
unfolding atoms openers bindings
no_binding_form forms.Def = refl
no_binding_form form = refl

bind_worded : (x f : List ℕ) → is_value f ≡ true → worded (x ∷ codes "=" ∷ f ∷ []) ≡ formed forms.Bind (x ∷ codes "=" ∷ f ∷ [])
bind_worded x f value = ap (λ (k : Form). formed k (x ∷ codes "=" ∷ f ∷ [])) (go (bytes_eq f (codes "ref")) (named bindings f) refl refl)
  where
    go : (b : Bool) (m : Option Form) → bytes_eq f (codes "ref") ≡ b → named bindings f ≡ m → cond (b && true) forms.Bind (unwrap_or m forms.Bind) ≡ forms.Bind
    go false (Some form) ref is =
        let told = ap (λ w. not (is_value w) || not (is_some (named bindings w)) || bytes_eq w (codes "ref")) (binding_is f form is).word ∙ no_binding_form form in
        let no : false ≡ true = sym (ap (λ t. not t || not (is_some (named bindings f)) || bytes_eq f (codes "ref")) value
        ∙ ap (λ (m : Option Form). not (is_some m) || bytes_eq f (codes "ref")) is ∙ ref) ∙ told in
        absurd (cc)
    go b m ref is = refl

-- its exit finalizer
abbrev pub exit_of : List (List ℕ) → ℕ → ℕ → Operand → Operand → Exit
exit_of all proc l source target = record {
  proc = proc;
  object = text_number all (object_name l);
  exit = text_number all (exit_name l);
  function = text_number all (function_name l);
  watch = text_number all (watch_name l);
  source = source;
  target = target;
}

-- what the lines say in the procedure and after it
abbrev pub finalizer_says : List (List ℕ) → ℕ → Exit → List Said → List Said
finalizer_says all l e later = BeginsProc (text_number all (proc_name l)) ∷ (does_all (exit_body e) ++ Ends ∷ (does_all (exit_commands e) ++ later))

-- what the lines of a `finalize` line say, and from where the others go on
pub record Finalizer (all : List (List ℕ)) (Free : List ℕ → Type 0) (known0 : Known) (rest : List (List ℕ)) (saids : List Said) (l : ℕ) (y f : List ℕ) : Type 0 where
  pub source : Operand
  pub target : Operand
  pub source_is : WordStandsFor all f source
  pub target_is : WordStandsFor all y target
  pub source_free : AreFree all Free (operand_names source)
  pub target_free : AreFree all Free (operand_names target)
  pub later : List Said
  pub known : Known
  pub number : ℕ
  pub goes : lines_from known number rest ≡ good all later
  pub outside : known0.inside ≡ false
  pub outside_again : known.inside ≡ false
  pub procs : known.procs ≡ known0.procs ++ proc_name l ∷ []
  pub object_is : text_of all (text_number all (object_name l)) ≡ object_name l
  pub exit_is : text_of all (text_number all (exit_name l)) ≡ exit_name l
  pub function_is : text_of all (text_number all (function_name l)) ≡ function_name l
  pub watch_is : text_of all (text_number all (watch_name l)) ≡ watch_name l
  pub proc_is : text_of all (text_number all (proc_name l)) ≡ proc_name l
  pub is : finalizer_says all l (exit_of all (length known0.procs) l source target) later ≡ saids

abbrev rows_of : ℕ → List ℕ → List ℕ → List (Form × List (List ℕ))
rows_of l y f =
    (forms.Def, codes "def" ∷ proc_name l ∷ [])
    ∷ (forms.Deref, object_name l ∷ codes "=" ∷ codes "deref" ∷ watch_name l ∷ [])
    ∷ (forms.Quit, codes "quit" ∷ object_name l ∷ [])
    ∷ (forms.Del, codes "del" ∷ watch_name l ∷ [])
    ∷ (forms.Del, codes "del" ∷ object_name l ∷ [])
    ∷ (forms.Call, codes "call" ∷ function_name l ∷ [])
    ∷ (forms.End, codes "end" ∷ [])
    ∷ (forms.MakeFunc, exit_name l ∷ codes "=" ∷ codes "func" ∷ proc_name l ∷ [])
    ∷ (forms.Bind, function_name l ∷ codes "=" ∷ f ∷ [])
    ∷ (forms.MakeRef, watch_name l ∷ codes "=" ∷ codes "ref" ∷ y ∷ function_name l ∷ [])
    ∷ []

meant : (l : ℕ) (y f : List ℕ) → is_value f ≡ true → AreMeant (rows_of l y f)
unfolding openers bindings
meant l y f value = (
  (refl, refl),
  ((refl, refl), ((refl, refl), ((refl, refl), ((refl, refl), ((refl, refl), ((refl, refl), ((refl, refl), ((refl, bind_worded (function_name l) f value), ((refl, refl), tt))))))))),
)

module _ (all : List (List ℕ)) (Free : List ℕ → Type 0) (known0 : Known) (number : ℕ) (rest : List (List ℕ)) (saids : List Said) (l : ℕ) (y f : List ℕ)
    (value : is_value f ≡ true) (clear_y : IsClear Free y) (clear_f : IsClear Free f) (sound : EachLine IsSound (finalize_lines l y f))
    (start : lines_from known0 number (map joined (finalize_lines l y f) ++ rest) ≡ good all saids) where
  t : Table all known0 (map written_row (rows_of l y f)) rest saids
  t = table all (map written_row (rows_of l y f)) known0 number rest saids (are_read (rows_of l y f) sound (meant l y f value)) start

  first : Faultless known0 forms.Def (codes "def" ∷ proc_name l ∷ [])
  first = faultless known0 forms.Def (codes "def" ∷ proc_name l ∷ []) t.clean.0

  abbrev source : Operand
  source = operand_or (named atoms f) all f

  abbrev target : Operand
  target = operand_or (named atoms y) all y

  source_there : Begins (with_text_if all (value_text (named atoms f) f)) all
  source_there = t.found.1.1.1.1.1.1.1.1.0.1.1.0

  target_there : Begins (with_text_if all (value_text (named atoms y) y)) all
  target_there = t.found.1.1.1.1.1.1.1.1.1.0.1.1.1.0

  all_said : finalizer_says all l (exit_of all (length known0.procs) l source target) t.later ≡ saids
  unfolding atoms
  all_said = ap (λ n. finalizer_says all l (exit_of all n l source target) t.later) (sym (new_proc known0.procs (proc_name l) first.fresh)) ∙ t.is

  pub finalizer : Finalizer all Free known0 rest saids l y f
  finalizer = record {
    source = source;
    target = target;
    source_is = stands_for all all f (named atoms f) refl value source_there;
    target_is = stands_for all all y (named atoms y) refl t.fit.1.1.1.1.1.1.1.1.1.0.1.1.1.0 target_there;
    source_free = value_free all Free all f (named atoms f) refl clear_f source_there;
    target_free = value_free all Free all y (named atoms y) refl clear_y target_there;
    later = t.later;
    known = known_behind known0 (map written_row (rows_of l y f));
    number = t.number;
    goes = t.goes;
    outside = first.placed;
    outside_again = refl;
    procs = ap (λ b. cond b known0.procs (known0.procs ++ proc_name l ∷ [])) first.fresh;
    object_is = text_found all all (object_name l) t.found.1.0.0;
    exit_is = text_found all all (exit_name l) t.found.1.1.1.1.1.1.1.0.0;
    function_is = text_found all all (function_name l) t.found.1.1.1.1.1.1.1.1.0.0;
    watch_is = text_found all all (watch_name l) t.found.1.1.1.1.1.1.1.1.1.0.0;
    proc_is = text_found all all (proc_name l) t.found.0.1.0;
    is = all_said;
  }

abbrev pub calls_of : List (List ℕ) → List ℕ → List Command
calls_of all numbers = map (λ l. commands.Call (operands.Name (text_number all (exit_name l)))) numbers

pub record Calls (all : List (List ℕ)) (known : Known) (saids : List Said) (numbers : List ℕ) : Type 0 where
  pub is : saids ≡ does_all (calls_of all numbers)
  pub outside : known.inside ≡ false
  pub texts : (l : ℕ) → Includes numbers l → text_of all (text_number all (exit_name l)) ≡ exit_name l

pub calls : (all : List (List ℕ)) (known : Known) (number : ℕ) (saids : List Said) (numbers : List ℕ)
    → ((l : ℕ) → Includes numbers l → EachWord IsSound (call_line l)) → lines_from known number (map (λ l. joined (call_line l)) numbers) ≡ good all saids
    → Calls all known saids numbers
unfolding atoms openers
calls all known number saids [] sound e = go known.inside refl e
  where
    go : (b : Bool) → known.inside ≡ b → cond b (spoilt number 7) (good known.texts []) ≡ good all saids → Calls all known saids []
    go true i k = absurd (cc)
    go false i k = let none : [] ≡ saids = cc in record { is = sym none; outside = i; texts = λ l m. absurd m }
calls all known number saids (l ∷ numbers) sound e =
    let t = table all (written_row (forms.Call, call_line l) ∷ []) known number (map (λ k. joined (call_line k)) numbers) saids
    (are_read ((forms.Call, call_line l) ∷ []) (sound l (inl refl), tt) ((refl, refl), tt)) e in
    let more = calls all (known_after known forms.Call (call_line l)) t.number t.later numbers (λ k m. sound k (inr m)) t.goes in
    record {
      is = sym t.is ∙ ap (λ (ss : List Said). Does (commands.Call (operands.Name (text_number all (exit_name l)))) ∷ ss) more.is;
      outside = more.outside;
      texts = λ k m. either m (λ same. subst (λ i. text_of all (text_number all (exit_name i)) ≡ exit_name i) same (text_found all all (exit_name l) t.found.0.1.0)) (more.texts k);
    }
