-- The references of some entries of an object: of a front, of the next entry, and from a position on.
use Rattle.std.proofs.Common.{◌≡◌, ◌∙◌, refl, ap, sym, ℕ, ◌+◌, ◌-◌, ◌<◌, ◌≤◌, List, [], ◌∷◌, ◌++◌, Some, length, take, drop, get_or, arith, inl, inr, append_assoc}
use Rattle.std.proofs.lemmas.List.{append-nil, get_or-drop, length-drop, length-take, take_all, take_more, take-append-drop}
use Rattle.std.proofs.lemmas.Option.{slice_get_within, slice_get_read, get_or_from_slice_get}
use Rattle.std.specs.Prelude.{slice_get, option_to_list}
use Rattle.std.proofs.lemmas.Bool.{cases_lt}
use Rattle.std.proofs.lemmas.Grind.{flat_map-append}
use Rattle.std.proofs.Math.Seq.{take-add}
use Rattle.cg_value.specs.declared.Entry.{Entry}
use Rattle.cg_graph.specs.Value.{reference_in, entry_references, references}
use Rattle.cg_kind.specs.declared.notes.TheConstants.{AT_ONCE}
use Rattle.cg_kind.specs.Calls.{next_entries}

pub references-append : (xs ys : List Entry) → references (xs ++ ys) ≡ references xs ++ references ys
references-append xs ys = flat_map-append entry_references xs ys

-- appending the references of the next entry
pub references_more : (es : List Entry) (i : ℕ) (e : Entry) → slice_get es i ≡ Some e → references (take (i + 1) es) ≡ references (take i es) ++ entry_references e
references_more es i e here =
    ap references (take_more es i e (slice_get_within es i e here))
    ∙ references-append (take i es) (get_or es i e ∷ [])
    ∙ ap (λ x. references (take i es) ++ (entry_references x ++ [])) (get_or_from_slice_get es i e e here)
    ∙ ap (λ (l : List ℕ). references (take i es) ++ l) (append-nil (entry_references e))

-- the element at an offset from a position
slice_get_behind : (es : List Entry) (from i : ℕ) (e : Entry) → slice_get es (from + i) ≡ Some e → slice_get (drop from es) i ≡ Some e
slice_get_behind es from i e here =
    slice_get_read (drop from es) (length es - from) i e (sym (length-drop from es)) (omega (arith, slice_get_within es (from + i) e here))
    (sym (get_or-drop from es i e ∙ get_or_from_slice_get es (from + i) e e here))

-- the references of the next entry, from a position on
pub note_more : (es : List Entry) (from i : ℕ) (e : Entry) → from ≤ i → slice_get es i ≡ Some e → references (take (i + 1 - from) (drop from es))
    ≡ references (take (i - from) (drop from es)) ++ entry_references e
note_more es from i e behind here =
    let n : i + 1 - from ≡ i - from + 1 = omega (arith, behind) in
    let m : i ≡ from + (i - from) = omega (arith, behind) in
    ap (λ k. references (take k (drop from es))) n
    ∙ references_more (drop from es) (i - from) e (slice_get_behind es from (i - from) e (ap (slice_get es) (sym m) ∙ here))

-- they are the value's, then the key's
pub references_in_turn : (es : List Entry) (i : ℕ) (e : Entry) → slice_get es i ≡ Some e
    → references (take (i + 1) es) ≡ (references (take i es) ++ option_to_list (reference_in e.val)) ++ option_to_list (reference_in e.key)
references_in_turn es i e here = references_more es i e here ∙ sym (append_assoc (references (take i es)) (option_to_list (reference_in e.val)) (option_to_list (reference_in e.key)))

-- those before an entry, its own, and those after it
pub references_split : (es : List Entry) (i : ℕ) (e : Entry) → slice_get es i ≡ Some e → references es ≡ references (take i es) ++ (entry_references e ++ references (drop (i + 1) es))
references_split es i e here =
    ap references (sym (take-append-drop (i + 1) es))
    ∙ references-append (take (i + 1) es) (drop (i + 1) es)
    ∙ ap (λ (l : List ℕ). l ++ references (drop (i + 1) es)) (references_more es i e here)
    ∙ append_assoc (references (take i es)) (entry_references e) (references (drop (i + 1) es))

pub take_again : (es : List Entry) (n k : ℕ) → n ≡ length (take k es) → take n es ≡ take k es
take_again es n k is = elim (cases_lt k (length es)) [
  | inl within ↦ (let m : n ≡ k = omega (arith, is, within, length-take k es) in ap (λ j. take j es) m)
  | inr all ↦ take_all n es (omega (arith, is, all, length-take k es)) ∙ sym (take_all k es all)
]

-- the batch ends at the last entry or after `AT_ONCE`
pub next_within : (es : List Entry) (from : ℕ) → from ≤ length es → from + length (next_entries es from) ≤ length es
next_within es from h = omega (arith, h, length-take AT_ONCE (drop from es), length-drop from es)

pub next_last : (es : List Entry) (from : ℕ) → from ≤ length es → length (next_entries es from) < AT_ONCE → from + length (next_entries es from) ≡ length es
next_last es from h few = omega (arith, h, few, length-take AT_ONCE (drop from es), length-drop from es)

pub taken_next : (es : List Entry) (from : ℕ) → take (from + length (next_entries es from)) es ≡ take from es ++ next_entries es from
taken_next es from =
    take-add from (length (next_entries es from)) es
    ∙ ap (λ (l : List Entry). take from es ++ l) (take_again (drop from es) (length (next_entries es from)) AT_ONCE refl)

pub references_next : (es : List Entry) (from : ℕ) → references (take (from + length (next_entries es from)) es) ≡ references (take from es) ++ references (next_entries es from)
references_next es from = ap references (taken_next es from) ∙ references-append (take from es) (next_entries es from)

-- those before, the batch, and those after
pub references_parts : (es : List Entry) (from : ℕ) → references es ≡ (references (take from es) ++ references (next_entries es from)) ++ references (drop (from + length (next_entries es from)) es)
references_parts es from =
    let to = from + length (next_entries es from) in
    ap references (sym (take-append-drop to es))
    ∙ references-append (take to es) (drop to es)
    ∙ ap (λ (l : List ℕ). l ++ references (drop to es)) (references_next es from)
