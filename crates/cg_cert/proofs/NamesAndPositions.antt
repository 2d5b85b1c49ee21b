-- Names and their positions: the table, rows and marks.
use Rattle.std.proofs.Common.{◌≡◌, refl, sym, ◌∙◌, ap, subst, ℕ, zero, suc, ◌+◌, ◌<◌, Bool, true, false, cond, ◌⊎◌, inl, inr, List, [], ◌∷◌, ◌++◌, length, take, drop, Option, Some, None, is_some, arith, get_or, map, set}
use Rattle.std.specs.Prelude.{slice_get, IfSome, IfNone}
use Rattle.std.specs.Ordering.{nat_cmp}
use Rattle.std.specs.Cmp.{unsigned_tied}
use Rattle.std.specs.BTreeMap.{BTreeMap, get, Updates}
use Rattle.std.proofs.lemmas.Bool.{cases_eq, eq-eqb, ne_eqb}
use Rattle.std.proofs.lemmas.List.{take-append-drop, take_more, drop_more, map-append, get_or-map, take-map, length-map, length-take, length-set}
use Rattle.std.proofs.lemmas.Option.{same_Some, slice_get_within, slice_get_read, none-some}
use Rattle.cg_graph.specs.Member.{Includes}
use Rattle.cg_graph.specs.Holdings.{occurrences}
use Rattle.cg_graph.proofs.Members.{either, Includes-append_left, Includes-append_right}
use Rattle.cg_graph.proofs.Objects.{occurrences-append}
use Rattle.cg_search.proofs.Places.{snoc_cases, snoc_old, snoc_new, includes_at, place_in, includes_more, includes_first, includes_last, slice_get-set_same, slice_get-set_other, occurs, occurs_in, occurrences-same, occurrences-other}
use Rattle.cg_records.specs.declared.graph.Member.{Member}
use Rattle.cg_cert.specs.Judged.{IsOnceEach, serials_of, references_of}
use Rattle.cg_cert.specs.Positions.{Locates, IsPositionOf, AreNames, IsSetOf, IsRowOf, MarksAll}

-- a repeated element
twice : (xs : List ℕ) (k d : ℕ) → k < length xs → Includes (take k xs) (get_or xs k d) → IsOnceEach xs → ⊥
twice xs k d within before once =
    let s = get_or xs k d in
    let parts : occurrences s xs ≡ occurrences s (take k xs) + occurrences s (drop k xs) = ap (occurrences s) (sym (take-append-drop k xs)) ∙ occurrences-append s (take k xs) (drop k xs) in
    let front = occurs (take k xs) s before in
    let rest = occurs (drop k xs) s (subst (λ (ys : List ℕ). Includes ys s) (sym (drop_more xs k d within)) (inl refl)) in
    let all = once s in
    absurd (omega (arith, parts, front, rest, all))

-- one more name
locates_one : (names : List ℕ) (s : ℕ) (table now : BTreeMap ℕ ℕ) → Locates names table → get nat_cmp table s ≡ None → Updates nat_cmp table now s (Some (length names)) → Locates (names ++ s ∷ []) now
locates_one names s table now locates new updates o i = (there, back)
  where
    at_s : s ≡ o → get nat_cmp now o ≡ Some (length names)
    at_s e = updates.0 o ∙ ap (λ b. cond b (Some (length names)) (get nat_cmp table o)) (unsigned_tied s o ∙ eq-eqb s o e)

    elsewhere : ¬ (s ≡ o) → get nat_cmp now o ≡ get nat_cmp table o
    elsewhere n = updates.0 o ∙ ap (λ b. cond b (Some (length names)) (get nat_cmp table o)) (unsigned_tied s o ∙ ne_eqb s o n)

    there : get nat_cmp now o ≡ Some i → slice_get (names ++ s ∷ []) i ≡ Some o
    there e = either (cases_eq s o)
        (λ same. let at : length names ≡ i = same_Some (length names) i (sym (at_s same) ∙ e) in ap (slice_get (names ++ s ∷ [])) (sym at) ∙ snoc_new names s ∙ ap Some same)
        (λ differs. snoc_old names s i o ((locates o i).0 (sym (elsewhere differs) ∙ e)))

    back : slice_get (names ++ s ∷ []) i ≡ Some o → get nat_cmp now o ≡ Some i
    back e = either (snoc_cases names s i o e)
        (λ old. let was = (locates o i).1 old in elsewhere (λ same. none-some i (sym new ∙ ap (get nat_cmp table) same ∙ was)) ∙ was)
        (λ h. at_s h.1 ∙ ap Some (sym h.0))

-- one more member
pub locates_more : (members : List Member) (at : ℕ) (d : Member) (table now : BTreeMap ℕ ℕ) → at < length members → Locates (serials_of (take at members)) table
    → get nat_cmp table (get_or members at d).serial ≡ None → Updates nat_cmp table now (get_or members at d).serial (Some at) → Locates (serials_of (take (at + 1) members)) now
locates_more members at d table now within locates new updates =
    let s = (get_or members at d).serial in
    let names = serials_of (take at members) in
    let long : length names ≡ at = omega (arith, length-map (take at members) (λ (m : Member). m.serial), length-take at members, within) in
    let more : serials_of (take (at + 1) members) ≡ names ++ s ∷ [] = ap serials_of (take_more members at d within) ∙ map-append (λ m. m.serial) (take at members) (get_or members at d ∷ []) in
    subst (λ (ns : List ℕ). Locates ns now) (sym more) (locates_one names s table now locates new (subst (λ n. Updates nat_cmp table now s (Some n)) (sym long) updates))

-- a serial that already has a position
pub located_before : (members : List Member) (at : ℕ) (d : Member) (table : BTreeMap ℕ ℕ) (j : ℕ) → at < length members → Locates (serials_of (take at members)) table
    → get nat_cmp table (get_or members at d).serial ≡ Some j → IsOnceEach (serials_of members) → ⊥
located_before members at d table j within locates found once =
    let s = (get_or members at d).serial in
    let here : get_or (serials_of members) at s ≡ s = get_or-map (λ m. m.serial) members at d s within in
    twice (serials_of members) at s (omega (arith, within, length-map members (λ (m : Member). m.serial)))
    (subst (λ o. Includes (take at (serials_of members)) o) (sym here) (subst (λ (ns : List ℕ). Includes ns s) (sym (take-map (λ m. m.serial) at members))
    (includes_at (serials_of (take at members)) j s ((locates s j).0 found)))) once

-- a known position
pub position_some : (names : List ℕ) (o : ℕ) (told : Option ℕ) (i : ℕ) → told ≡ Some i → IsPositionOf names o told → IsPositionOf names o (Some i)
position_some names o told i e is = subst (λ at. IsPositionOf names o at) e is

-- a serial without a position is not a name
pub no_name : (names : List ℕ) (o : ℕ) (told : Option ℕ) → IsPositionOf names o told → told ≡ None → Includes names o → ⊥
no_name names o told is none h = let found = place_in names o h in none-some found.0 (sym none ∙ (is found.0).1 found.1)

-- one more position in a row
pub row_more : (names serials row : List ℕ) (k at d : ℕ) → k < length serials → slice_get names at ≡ Some (get_or serials k d) → IsRowOf names (take k serials)
    row → IsRowOf names (take (k + 1) serials) (row ++ at ∷ [])
row_more names serials row k at d within found so =
    map-append (slice_get names) row (at ∷ [])
    ∙ ap (λ (os : List (Option ℕ)). os ++ slice_get names at ∷ []) so
    ∙ ap (λ o. map Some (take k serials) ++ o ∷ []) found
    ∙ sym (map-append Some (take k serials) (get_or serials k d ∷ []))
    ∙ sym (ap (map Some) (take_more serials k d within))

-- the references of one member are among those of all
pub references_among : (members : List Member) (m : Member) (o : ℕ) → Includes members m → Includes m.refs o → Includes (references_of members) o
references_among [] m o h r = absurd h
references_among (k ∷ members) m o (inl e) r = Includes-append_left k.refs (references_of members) o (subst (λ (n : Member). Includes n.refs o) (sym e) r)
references_among (k ∷ members) m o (inr h) r = Includes-append_right k.refs (references_of members) o (references_among members m o h r)

-- How far marking has come: the marks of the first serials are set.
pub record MarksFirst (names done : List ℕ) (marks : List Bool) : Type 0 where
  pub marked : MarksAll names done marks
  pub set : IsSetOf names done

-- a serial whose mark is set has occurred before
pub marked_before : (names serials : List ℕ) (k d at : ℕ) (marks : List Bool) → k < length serials → MarksFirst names (take k serials) marks
    → IsPositionOf names (get_or serials k d) (Some at) → slice_get marks at ≡ Some true → IsSetOf names serials → ⊥
marked_before names serials k d at marks within so is mark set = twice serials k d within (((so.marked.marked at (get_or serials k d) ((is at).0 refl)).0 mark)) set.once

-- the position of a name has a mark
pub mark_there : (names done : List ℕ) (s at : ℕ) (marks : List Bool) → MarksFirst names done marks → IsPositionOf names s (Some at) → at < length marks
mark_there names done s at marks so is = omega (arith, slice_get_within names at s ((is at).0 refl), so.marked.len)

-- the mark at a place
pub at_place : (marks : List Bool) (at : ℕ) (b x : Bool) → at < length marks → x ≡ get_or marks at x → x ≡ b → slice_get marks at ≡ Some b
at_place marks at b x within read is = slice_get_read marks (length marks) at x refl within read ∙ ap Some is

-- one more mark is set
pub marks_more : (names serials : List ℕ) (k d at : ℕ) (marks : List Bool) → k < length serials → MarksFirst names (take k serials) marks
    → IsPositionOf names (get_or serials k d) (Some at) → slice_get marks at ≡ Some false
    → MarksFirst names (take (k + 1) serials) (set marks at true)
marks_more names serials k d at marks within so is mark = record {
  marked = record { len = omega (arith, so.marked.len, length-set marks at true); marked = λ i o at_i. (there i o at_i, back i o at_i) };
  set = record { once = once; named = λ o h. named o (includes_more serials k d o within h) };
}
  where
    s : ℕ
    s = get_or serials k d

    named_s : slice_get names at ≡ Some s
    named_s = (is at).0 refl

    here : at < length marks
    here = slice_get_within marks at false mark

    there : (i o : ℕ) → slice_get names i ≡ Some o → slice_get (set marks at true) i ≡ Some true → Includes (take (k + 1) serials) o
    there i o at_i h = either (cases_eq i at)
        (λ same. let e : s ≡ o = same_Some s o (sym named_s ∙ ap (slice_get names) (sym same) ∙ at_i) in
        subst (λ p. Includes (take (k + 1) serials) p) e (includes_last serials k d within))
        (λ differs. includes_first serials k d o within ((so.marked.marked i o at_i).0 (sym (slice_get-set_other marks at i true differs) ∙ h)))

    back : (i o : ℕ) → slice_get names i ≡ Some o → Includes (take (k + 1) serials) o → slice_get (set marks at true) i ≡ Some true
    back i o at_i h = either (cases_eq i at)
        (λ same. ap (slice_get (set marks at true)) same ∙ slice_get-set_same marks at true here)
        (λ differs. slice_get-set_other marks at i true differs ∙ either (includes_more serials k d o within h)
        (λ before. (so.marked.marked i o at_i).1 before)
        (λ e. absurd (differs (sym (same_Some at i ((is i).1 (at_i ∙ ap Some (sym e))))))))

    fresh : Includes (take k serials) s → ⊥
    fresh h =
        let yes = (so.marked.marked at s named_s).1 h in
        absurd (cc)

    once : IsOnceEach (take (k + 1) serials)
    once o =
        let sum : occurrences o (take (k + 1) serials) ≡ occurrences o (take k serials) + occurrences o (s ∷ []) =
        ap (occurrences o) (take_more serials k d within) ∙ occurrences-append o (take k serials) (s ∷ []) in
        either (cases_eq s o)
        (λ same. go (occurrences o (take k serials)) refl same sum)
        (λ differs. omega (arith, sum, so.set.once o, occurrences-other o s [] differs))
      where
        go : (n : ℕ) → occurrences o (take k serials) ≡ n → s ≡ o → occurrences o (take (k + 1) serials) ≡ occurrences o (take k serials) + occurrences o
            (s ∷ []) → occurrences o (take (k + 1) serials) < 2
        go zero none same sum = omega (arith, none, sum, occurrences-same o s [] same)
        go (suc n) some same sum = absurd (fresh (subst (λ p. Includes (take k serials) p) (sym same) (occurs_in (take k serials) o (omega (arith, some)))))

    named : (o : ℕ) → Includes (take k serials) o ⊎ (s ≡ o) → Includes names o
    named o (inl h) = so.set.named o h
    named o (inr e) = subst (λ p. Includes names p) e (includes_at names at s named_s)

-- more distinct serials than members cannot all name members
pub named_by_more : (names xs : List ℕ) (members : List Member) (m : Member) → Includes members m → xs ≡ m.refs → AreNames names (references_of members) → AreNames names xs
named_by_more names xs members m h e all o r = all o (references_among members m o h (subst (λ (ys : List ℕ). Includes ys o) e r))

pub some_of : (o : Option ℕ) → is_some o ≡ true → (x : ℕ) × (o ≡ Some x)
some_of None h = absurd (cc)
some_of (Some x) h = (x, refl)

pub none_of : (o : Option ℕ) → is_some o ≡ false → o ≡ None
none_of None h = refl
none_of (Some x) h = absurd (cc)

-- what a clause says of an option whose variant is known
pub if_none : {A : Type 0} (o : Option A) (P : Type 0) → o ≡ None → IfNone o P → P
if_none None P e h = h
if_none (Some x) P e h = absurd (cc)

pub if_some : {A : Type 0} (o : Option A) (P : A → Type 0) (x : A) → o ≡ Some x → IfSome o P → P x
if_some None P x e h = absurd (cc)
if_some (Some y) P x e h = subst P (same_Some y x e) h
