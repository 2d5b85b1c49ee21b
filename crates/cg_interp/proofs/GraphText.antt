-- The members of a graph, written one by one.
use Rattle.std.proofs.Common.{◌≡◌, refl, sym, ◌∙◌, ap, subst, ℕ, zero, suc, ◌+◌, ◌<◌, ◌⊎◌, inl, inr, true, false, Bool, List, [], ◌∷◌, ◌++◌, Option, None, Some, take, drop, length, append_assoc, append-nil, codes, arith}
use Rattle.std.specs.Prelude.{flat_map, slice_get, decimal, Result, Ok, Err, OnErr}
use Rattle.std.proofs.lemmas.Grind.{flat_map-append}
use Rattle.std.proofs.lemmas.List.Elements.{filter-append}
use Rattle.std.proofs.lemmas.Bool.{eqb-true}
use Rattle.std.proofs.lemmas.Bool.Decides.{nat_tests}
use Rattle.std.specs.Prelude.{◌==◌}
use Rattle.cg_value.specs.declared.Place.TheVariants.{Gen}
use Rattle.cg_graph.proofs.Members.{cases_of}
use Rattle.std.proofs.KnownBytes.{Appends-trans}
use Rattle.std.specs.Io.KnownBytes.{Appends}
use Rattle.cg_io.specs.Causes.{AppendsFront}
use Rattle.cg_value.specs.declared.Entry.{Entry}
use Rattle.cg_value.specs.declared.Place.{Place}
use Rattle.cg_script.specs.declared.Script.{Script}
use Rattle.cg_graph.specs.Value.{references, references_of_value}
use Rattle.cg_graph.specs.Store.{Store, list_at, place_of, entries_of, count_of}
use Rattle.cg_heap.specs.Calls.{IsListed}
use Rattle.cg_arena.specs.Nodes.{following}
use Rattle.cg_kind.proofs.References.{references_in_turn, references_split}
use Rattle.cg_trial.proofs.Lists.{IsAt, ahead, head_is}
use Rattle.cg_trial.proofs.WalksOverLists.{Along, along_more, along_end}
use Rattle.cg_records.specs.Members.{member}
use Rattle.cg_records.specs.Text.{numbered, flag, member_text}
use Rattle.cg_interp.specs.declared.graphs.Detection.{Detection}
use Rattle.cg_collect.specs.Starting.{has_legacy_in}
use Rattle.cg_interp.specs.Graphs.{among, member_in, member_line, generations_below}
use Rattle.cg_interp.proofs.LineByLine.{after_front, longer_front}

-- a property of any error, and what follows from one
pub given_err : {T E : Type 0} (r : Result T E) (Q : Type 0) → Q → OnErr r Q
given_err (Ok x) Q q = tt
given_err (Err x) Q q = q

pub on_err : {T E : Type 0} (r : Result T E) (P Q : Type 0) → (P → Q) → OnErr r P → OnErr r Q
on_err (Ok x) P Q f p = tt
on_err (Err x) P Q f p = f p

-- bytes that were written, a prefix of some more, and what would follow
pub cut_between : (a b c : Option (List ℕ)) (xs ys zs whole : List ℕ) → whole ≡ xs ++ (ys ++ zs) → Appends a b xs → AppendsFront b c ys → AppendsFront a c whole
cut_between a b c xs ys zs whole is wrote part = subst (AppendsFront a c) (sym is) (after_front a b c xs (ys ++ zs) wrote (longer_front b c ys zs part))

-- the references of a member to members
abbrev pub references_text : Store → Detection → List ℕ → List ℕ
references_text store d refs = flat_map (numbered (codes "r")) (among store d refs)

module _ (store : Store) (d : Detection) where
  abbrev r : List ℕ → List ℕ
  r refs = references_text store d refs

  r-append : (xs ys : List ℕ) → r (xs ++ ys) ≡ r xs ++ r ys
  r-append xs ys = ap (flat_map (numbered (codes "r"))) (filter-append _ xs ys) ∙ flat_map-append (numbered (codes "r")) (among store d xs) (among store d ys)

  module _ (es : List Entry) (i : ℕ) (e : Entry) (at : slice_get es i ≡ Some e) where
    abbrev value : List ℕ
    value = references_of_value (Some e.val)

    abbrev key : List ℕ
    key = references_of_value (Some e.key)

    pub entry_more : (a b c k : Option (List ℕ)) → Appends a b (r (references (take i es))) → Appends b c (r value) → Appends c k (r key) → Appends a k (r (references (take (i + 1) es)))
    entry_more a b c k so first second =
        subst (Appends a k)
        (sym (ap r (references_in_turn es i e at) ∙ r-append (references (take i es) ++ value) key ∙ ap (λ t. t ++ r key) (r-append (references (take i es)) value)))
        (Appends-trans a c k _ _ (Appends-trans a b c _ _ so first) second)

    whole : r (references es) ≡ r (references (take i es)) ++ (r value ++ (r key ++ r (references (drop (i + 1) es))))
    whole =
        ap r (references_split es i e at ∙ ap (λ (l : List ℕ). references (take i es) ++ l) (append_assoc value key (references (drop (i + 1) es))))
        ∙ r-append (references (take i es)) (value ++ (key ++ references (drop (i + 1) es)))
        ∙ ap (λ t. r (references (take i es)) ++ t) (r-append value (key ++ references (drop (i + 1) es)) ∙ ap (λ t. r value ++ t) (r-append key (references (drop (i + 1) es))))

    -- where the one of its value was cut off, and where that of its key was
    pub value_cut : (a b c : Option (List ℕ)) → Appends a b (r (references (take i es))) → AppendsFront b c (r value) → AppendsFront a c (r (references es))
    value_cut a b c so part = cut_between a b c (r (references (take i es))) (r value) (r key ++ r (references (drop (i + 1) es))) (r (references es)) whole so part

    pub key_cut : (a b c k : Option (List ℕ)) → Appends a b (r (references (take i es))) → Appends b c (r value) → AppendsFront c k (r key) → AppendsFront a k (r (references es))
    key_cut a b c k so first part =
        cut_between a c k (r (references (take i es)) ++ r value) (r key) (r (references (drop (i + 1) es))) (r (references es))
        (whole ∙ sym (append_assoc (r (references (take i es))) (r value) (r key ++ r (references (drop (i + 1) es)))))
        (Appends-trans a b c _ _ so first) part

-- Each object of a place is written: how far this is.
pub record WritesAlong (store : Store) (place : Place) (f : ℕ → List ℕ) (cursor : Option ℕ) (before now : Option (List ℕ)) : Type 0 where
  pub done : List ℕ
  pub along : Along store place cursor done
  pub wrote : Appends before now (flat_map f done)

module _ (store : Store) (place : Place) (f : ℕ → List ℕ) where
  one_more : (done : List ℕ) (o : ℕ) → flat_map f (done ++ o ∷ []) ≡ flat_map f done ++ f o
  one_more done o = flat_map-append f done (o ∷ []) ∙ ap (λ t. flat_map f done ++ t) (append-nil (f o))

  module _ (listed : IsListed store) (was : Option ℕ) (o : ℕ) (is : was ≡ Some o) (before mid : Option (List ℕ)) (so : WritesAlong store place f was before mid) where
    pub along_on : (cursor : Option ℕ) (now : Option (List ℕ)) → cursor ≡ following o (list_at store (place_of store o)) → Appends mid now (f o) → WritesAlong store place f cursor before now
    along_on cursor now next more = record {
      done = so.done ++ o ∷ [];
      along = (along_more store listed place was cursor so.done (so.done ++ o ∷ []) o so.along is next refl).0;
      wrote = subst (Appends before now) (sym (one_more so.done o)) (Appends-trans before mid now _ _ so.wrote more);
    }

    pub along_shorter : (cursor : Option ℕ) → cursor ≡ following o (list_at store (place_of store o)) → length (ahead cursor (list_at store place)) < length (ahead was (list_at store place))
    along_shorter cursor next = (along_more store listed place was cursor so.done (so.done ++ o ∷ []) o so.along is next refl).1

    pub along_cut : (now : Option (List ℕ)) → AppendsFront mid now (f o) → AppendsFront before now (flat_map f (list_at store place))
    along_cut now part =
        let at : IsAt (list_at store place) (Some o) so.done so.along.0 = subst (λ (k : Option ℕ). IsAt (list_at store place) k so.done so.along.0) is so.along.1 in
        let head = head_is so.along.0 o at.at in
        cut_between before mid now (flat_map f so.done) (f o) (flat_map f head.0) (flat_map f (list_at store place))
        (ap (flat_map f) (at.parts ∙ ap (λ (b : List ℕ). so.done ++ b) head.1) ∙ flat_map-append f so.done (o ∷ head.0))
        so.wrote part

  pub along_all : (cursor : Option ℕ) (before now : Option (List ℕ)) → WritesAlong store place f cursor before now → cursor ≡ None → Appends before now (flat_map f (list_at store place))
  along_all cursor before now so none = subst (λ xs. Appends before now (flat_map f xs)) (along_end store place cursor so.done so.along none) so.wrote

-- a member is written as its line, and then its references
module _ (script : Script) (store : Store) (d : Detection) (o degree : ℕ) (legacy : Bool) (counts : degree ≡ count_of store o) (has : legacy ≡ has_legacy_in script store o) where
  abbrev refs : List ℕ
  refs = references_text store d (references (entries_of store o))

  member_split : member_text (member_in script store d o) ≡ member_line o degree legacy ++ refs
  member_split =
      (λ i. member_text (member o (sym counts i) (sym has i) (among store d (references (entries_of store o)))))
      ∙ sym (append_assoc (codes "m " ++ decimal o ++ 32 ∷ decimal degree ++ 32 ∷ flag legacy) (10 ∷ []) refs)

  pub member_cut : (a b : Option (List ℕ)) → AppendsFront a b (member_line o degree legacy) → AppendsFront a b (member_text (member_in script store d o))
  member_cut a b part = subst (AppendsFront a b) (sym member_split) (longer_front a b (member_line o degree legacy) refs part)

  pub references_cut : (a b c : Option (List ℕ)) → Appends a b (member_line o degree legacy) → AppendsFront b c refs → AppendsFront a c (member_text (member_in script store d o))
  references_cut a b c wrote part = subst (AppendsFront a c) (sym member_split) (after_front a b c (member_line o degree legacy) refs wrote part)

-- the generations below one: those below another, that one, and the others
below_split : (store : Store) (n i : ℕ) → i < n → (rest : List ℕ) × (generations_below store n ≡ generations_below store i ++ (list_at store (Gen i) ++ rest))
below_split store zero i less = absurd (omega (arith, less))
below_split store (suc n) i less = go (cases_of (i == n)) (below_split store n i)
  where
    lower : i == n ≡ false → i < n
    lower e = grind (arith, nat_tests, less, e)

    go : (i == n ≡ true) ⊎ (i == n ≡ false) → (i < n → (rest : List ℕ) × (generations_below store n ≡ generations_below store i ++ (list_at store (Gen i) ++ rest)))
        → (rest : List ℕ) × (generations_below store (suc n) ≡ generations_below store i ++ (list_at store (Gen i) ++ rest))
    go (inl same) rec =
        let e : i ≡ n = eqb-true i n same in (
          [],
          subst (λ k. generations_below store (suc n) ≡ generations_below store k ++ (list_at store (Gen k) ++ [])) (sym e)
              (ap (λ l. generations_below store n ++ l) (sym (append-nil (list_at store (Gen n))))),
        )
    go (inr other) rec =
        let deeper = rec (lower other) in (
          deeper.0 ++ list_at store (Gen n),
          ap (λ l. l ++ list_at store (Gen n)) deeper.1
              ∙ append_assoc (generations_below store i) (list_at store (Gen i) ++ deeper.0) (list_at store (Gen n))
              ∙ ap (λ l. generations_below store i ++ l) (append_assoc (list_at store (Gen i)) deeper.0 (list_at store (Gen n))),
        )

pub generations_cut : (f : ℕ → List ℕ) (store : Store) (n i : ℕ) → i < n → (a b c : Option (List ℕ)) → Appends a b (flat_map f (generations_below store i))
    → AppendsFront b c (flat_map f (list_at store (Gen i))) → AppendsFront a c (flat_map f (generations_below store n))
generations_cut f store n i less a b c wrote part =
    let (rest, is) = below_split store n i less in
    cut_between a b c (flat_map f (generations_below store i)) (flat_map f (list_at store (Gen i))) (flat_map f rest) (flat_map f (generations_below store n))
    (ap (flat_map f) is ∙ flat_map-append f (generations_below store i) (list_at store (Gen i) ++ rest) ∙ ap (λ l. flat_map f (generations_below store i) ++ l)
    (flat_map-append f (list_at store (Gen i)) rest))
    wrote part
