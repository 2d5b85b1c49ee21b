-- No two lists of words share a line.
use Rattle.std.proofs.Common.{◌≡◌, refl, sym, ◌∙◌, ap, subst, ℕ, cond, List, [], ◌∷◌, ◌++◌, length, Option, Some, None}
use Rattle.std.specs.Prelude.{◌==◌, IfSome, IfNone}
use Rattle.std.proofs.lemmas.Option.{same_Some}
use Rattle.cg_snapshot.specs.declared.row.Kind.{Kind}
use Rattle.cg_snapshot.specs.declared.row.Kind.TheVariants as kinds
use Rattle.cg_snapshot.specs.declared.row.Row.{Row}
use Rattle.cg_snapshot.specs.Rows.{kind_text, all_spaced, but_text, raw_of, AreSmall, IsRow, Lacks, IsTail}
use Rattle.cg_snapshot.specs.Lines.{row}
use Rattle.cg_snapshot.proofs.CutBytes.{IsAt, cut_once, tail_is_at, lacks_of, lacks_append}
use Rattle.cg_snapshot.proofs.Numbers.{Stops, one_numbers, one_but, but_stops, but_tail, tail_all, numbers_lack, but_lacks}

-- the kind of word that a text is
abbrev kind_in : List ℕ → Option Kind
kind_in [] = None
kind_in (b ∷ bs) =
    cond (b == 109) (Some kinds.Member)
    (cond (b == 101) (Some kinds.End)
    (cond (b == 119) (Some kinds.Why)
    (cond (b == 114) (Some kinds.Referrers)
    (cond (b == 108) (Some kinds.Lost)
    (cond (b == 100) (Some kinds.Dropped)
    (cond (b == 104) (cond (length bs == 3) (Some kinds.Heap) (Some kinds.Hidden)) (cond (length bs == 0) (Some kinds.Words) (Some kinds.Untold))))))))

kind_back : (k : Kind) → kind_in (kind_text k) ≡ Some k
kind_back kinds.Heap = refl
kind_back word = refl

same_some : (a b : Kind) → Some a ≡ Some b → a ≡ b
same_some a b e = cc

one_kind : (a b : Kind) → kind_text a ≡ kind_text b → a ≡ b
one_kind a b e = same_some a b (sym (kind_back a) ∙ ap kind_in e ∙ kind_back b)

pub kind_lacks : (k : Kind) → Lacks 32 (kind_text k)
kind_lacks kinds.Heap = lacks_of 32 (kind_text kinds.Heap) refl
kind_lacks word = lacks_of 32 (kind_text word) refl

kind_no_feed : (k : Kind) → Lacks 10 (kind_text k)
kind_no_feed kinds.Heap = lacks_of 10 (kind_text kinds.Heap) refl
kind_no_feed word = lacks_of 10 (kind_text word) refl

-- a line contains no line feed
pub row_lacks : (r : Row) → IsRow r → Lacks 10 (raw_of r)
row_lacks r h = lacks_append 10 (kind_text r.kind) (all_spaced r.numbers ++ but_text r.but) (kind_no_feed r.kind) (lacks_append 10 (all_spaced r.numbers)
    (but_text r.but) (numbers_lack r.numbers h.numbers) (but_lacks r.but h.but))

rest_tail : (r : Row) → IsAt 32 (all_spaced r.numbers ++ but_text r.but)
rest_tail r = tail_is_at (all_spaced r.numbers ++ but_text r.but) (tail_all r.numbers (but_text r.but) (but_tail r.but))

-- a line cut at its first space: the word and the rest
module _ (raw word tail : List ℕ) (whole : raw ≡ word ++ tail) (lacks : Lacks 32 word) (is_tail : IsTail tail) (r : Row) (is : raw ≡ raw_of r) where
  parts : (word ≡ kind_text r.kind) × (tail ≡ all_spaced r.numbers ++ but_text r.but)
  parts = cut_once 32 word (kind_text r.kind) tail (all_spaced r.numbers ++ but_text r.but) lacks (kind_lacks r.kind) (tail_is_at tail is_tail) (rest_tail r) (sym whole ∙ is)

  pub word_is : word ≡ kind_text r.kind
  word_is = parts.0

  pub behind_is : (ns rest : List ℕ) → IsRow r → tail ≡ all_spaced ns ++ rest → AreSmall ns → IsTail rest → Stops rest → rest ≡ but_text r.but
  behind_is ns rest fits e small rest_is stops = (one_numbers ns r.numbers rest (but_text r.but) small fits.numbers rest_is (but_tail r.but) stops (but_stops r.but) (sym e ∙ parts.1)).1

same_row : (k l : Kind) (ns ms b c : List ℕ) → k ≡ l → ns ≡ ms → b ≡ c → row k ns b ≡ row l ms c
same_row k l ns ms b c p q r = cc

pub one_row : (a b : Row) → IsRow a → IsRow b → raw_of a ≡ raw_of b → a ≡ b
one_row a b p q e =
    let cut = cut_once 32 (kind_text a.kind) (kind_text b.kind) (all_spaced a.numbers ++ but_text a.but) (all_spaced b.numbers ++ but_text b.but)
    (kind_lacks a.kind) (kind_lacks b.kind) (rest_tail a) (rest_tail b) e in
    let ns = one_numbers a.numbers b.numbers (but_text a.but) (but_text b.but) p.numbers q.numbers (but_tail a.but) (but_tail b.but) (but_stops a.but) (but_stops b.but) cut.1 in
    same_row a.kind b.kind a.numbers b.numbers a.but b.but (one_kind a.kind b.kind cut.0) ns.0 (one_but a.but b.but p.but q.but ns.1)

-- facts about present and missing options
pub if_some : {A : Type 0} (o : Option A) (x : A) (P : A → Type 0) → o ≡ Some x → IfSome o P → P x
if_some None x P e h = absurd (cc)
if_some (Some y) x P e h = subst P (same_Some y x e) h

pub if_none : {A : Type 0} (o : Option A) (P : Type 0) → o ≡ None → IfNone o P → P
if_none None P e h = h
if_none (Some y) P e h = absurd (cc)
