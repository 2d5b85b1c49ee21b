-- If no line of a text begins with `refused `, no command was refused.
use Rattle.std.proofs.Common.{◌≡◌, ℕ, ◌==◌, ◌||◌, Bool, true, false, if◌then◌else◌, List, [], ◌∷◌, ◌++◌, append_assoc, codes, refl, sym, ap, ◌∙◌}
use Rattle.std.specs.Prelude.{decimal}
use Rattle.std.specs.List.{list_any, flat_map}
use Rattle.std.proofs.lemmas.List.Concat.{flat_map-cons}
use Rattle.std.proofs.lemmas.List.Folds.{list_any-append}
use Rattle.cg_script.specs.Pieces.{lines_of, onto}
use Rattle.cg_machine.specs.declared.event.Event.{Event}
use Rattle.cg_machine.specs.declared.event.Event.TheVariants.{Made, Enter, Leave, Cleared, Free, Alive, GcStart, GcCollectable, GcUncollectable, GcSaved, GcStop, Collected, Value, RefCount, Tracked, Finalized, Referent, Referrer, Listed, Held, Via, Unreachable, Count, Gens, Refused, BudgetSpent, Left, End}
use Rattle.cg_machine.specs.Lines.{words_of, line}
use Rattle.cg_generator.specs.Tallies.{is_refusal, has_refusal}
use Rattle.cg_cli.specs.Summaries.{is_refused}

-- some line comes before a line feed
first_line : (front back : List ℕ) → (first : List ℕ) × (others : List (List ℕ)) × (lines_of (front ++ 10 ∷ back) ≡ first ∷ others)
first_line [] back = ([], lines_of back, refl)
first_line (b ∷ bs) back = by (b == 10) (lines_of (bs ++ 10 ∷ back)) (first_line bs back)
  where
    by : (t : Bool) (lines : List (List ℕ)) → (first : List ℕ) × (others : List (List ℕ)) × (lines ≡ first ∷ others)
        → (first : List ℕ) × (others : List (List ℕ)) × ((if t then [] ∷ lines else onto b lines) ≡ first ∷ others)
    by true lines some = ([], lines, refl)
    by false lines (first, others, e) = (b ∷ first, others, ap (onto b) e)

onto_first : (b : ℕ) (lines more : List (List ℕ)) (first : List ℕ) (others : List (List ℕ)) → lines ≡ first ∷ others → onto b (lines ++ more) ≡ onto b lines ++ more
onto_first b lines more first others e = rw e refl

-- what follows a line feed are separate lines
behind_line_feed : (front back : List ℕ) → lines_of (front ++ 10 ∷ back) ≡ lines_of (front ++ 10 ∷ []) ++ lines_of back
behind_line_feed [] back = refl
behind_line_feed (b ∷ bs) back = by (b == 10) (behind_line_feed bs back) (first_line bs [])
  where
    by : (t : Bool) → lines_of (bs ++ 10 ∷ back) ≡ lines_of (bs ++ 10 ∷ []) ++ lines_of back → (first : List ℕ) × (others : List (List ℕ)) × (lines_of (bs ++ 10 ∷ []) ≡ first ∷ others)
        → (if t then [] ∷ lines_of (bs ++ 10 ∷ back) else onto b (lines_of (bs ++ 10 ∷ back))) ≡ (if t then [] ∷ lines_of (bs ++ 10 ∷ []) else onto b (lines_of (bs ++ 10 ∷ []))) ++ lines_of back
    by true same some = ap (λ l. [] ∷ l) same
    by false same (first, others, e) = ap (onto b) same ∙ onto_first b (lines_of (bs ++ 10 ∷ [])) (lines_of back) first others e

second_false : (a b : Bool) → (a || b) ≡ false → b ≡ false
second_false true b e = absurd (cc)
second_false false b e = e

both_false : (a b : Bool) → a ≡ false → b ≡ false → (a || b) ≡ false
both_false a b e f = rw (e, f) refl

-- the lines after another one
later_lines : (words later : List ℕ) → has_refusal ((words ++ 10 ∷ []) ++ later) ≡ false → has_refusal later ≡ false
later_lines words later e =
    second_false (list_any is_refusal (lines_of (words ++ 10 ∷ []))) (has_refusal later)
    (sym (list_any-append is_refusal (lines_of (words ++ 10 ∷ [])) (lines_of later))
    ∙ ap (list_any is_refusal) (sym (behind_line_feed words later))
    ∙ ap has_refusal (sym (append_assoc words (10 ∷ []) later))
    ∙ e)

-- the line of a refusal
refusal_told : (number later : List ℕ) → has_refusal (codes "refused " ++ ((number ++ 10 ∷ []) ++ later)) ≡ true
refusal_told number later =
    let front : List (List ℕ) → Bool = λ ls. list_any is_refusal (onto 114 (onto 101 (onto 102 (onto 117 (onto 115 (onto 101 (onto 100 (onto 32 ls)))))))) in
    let (first, others, e) = first_line number later in
    ap (λ l. has_refusal (codes "refused " ++ l)) (append_assoc number (10 ∷ []) later) ∙ ap front e

-- an event whose line is no refusal
told : (names : List (List ℕ)) (event : Event) (later : List ℕ) → has_refusal (line names event ++ later) ≡ false → is_refused event ≡ false
told names (Refused reason) later h = let t = refusal_told (decimal reason) later in absurd (cc)
told names (Made code serial) later h = refl
told names (Enter sort serial) later h = refl
told names Leave later h = refl
told names (Cleared w) later h = refl
told names (Free n) later h = refl
told names (Alive n) later h = refl
told names (GcStart g) later h = refl
told names (GcCollectable n) later h = refl
told names (GcUncollectable n) later h = refl
told names (GcSaved n) later h = refl
told names (GcStop g m n) later h = refl
told names (Collected n) later h = refl
told names (Value v) later h = refl
told names (RefCount n) later h = refl
told names (Tracked b) later h = refl
told names (Finalized b) later h = refl
told names (Referent n) later h = refl
told names (Referrer n) later h = refl
told names (Listed n) later h = refl
told names (Held n) later h = refl
told names (Via n) later h = refl
told names Unreachable later h = refl
told names (Count a b c) later h = refl
told names (Gens a b c p) later h = refl
told names BudgetSpent later h = refl
told names (Left n) later h = refl
told names End later h = refl

pub none_refused : (names : List (List ℕ)) (events : List Event) → has_refusal (flat_map (line names) events) ≡ false → list_any is_refused events ≡ false
none_refused names [] h = refl
none_refused names (e ∷ es) h =
    let whole : has_refusal (line names e ++ flat_map (line names) es) ≡ false = ap has_refusal (sym (flat_map-cons (line names) e es)) ∙ h in
    both_false (is_refused e) (list_any is_refused es) (told names e (flat_map (line names) es) whole) (none_refused names es (later_lines (words_of names e) (flat_map (line names) es) whole))
