-- A property of each line of a script holds of its items.
use Rattle.std.proofs.Common.{◌≡◌, ℕ, ◌+◌, ◌<◌, ◌≤◌, List, [], ◌∷◌, drop, length, Bool, true, false, refl, ap, subst, ◌∙◌, arith}
use Rattle.std.specs.Prelude.{flat_map}
use Rattle.std.specs.List.{All}
use Rattle.cg_script.specs.declared.item.Item.{Item}
use Rattle.cg_script.specs.declared.form.Form.{Form}
use Rattle.cg_script.specs.declared.part.Said.{Said}
use Rattle.cg_script.specs.declared.part.Said.TheVariants.{Declares, Begins, Ends, Does}
use Rattle.cg_script.specs.Texts.{command_texts, item_texts}
use Rattle.cg_script.specs.Pieces.{lines_of}
use Rattle.cg_script.specs.Meanings.{says, meaning}
use Rattle.cg_script.specs.Parts.{Known, parts_of, texts_from}
use Rattle.cg_script.specs.Commands.{said}
use Rattle.cg_script.specs.Reading.{nothing_known, Lines, good, spoilt, lines_from, body_of, items_of, spells, script_of, reading}
use Rattle.cg_script.proofs.TextNumbers.{Below, below-append, below_all}
use Rattle.cg_script.proofs.GoodWords.{says_fits}
use Rattle.cg_script.proofs.LinesInOrder.{each_line}
use Rattle.cg_script.proofs.Profiles.{NoProfiles, no_later_profiles}
use Rattle.cg_script.proofs.Counts.{IsShort, few_saids, short_texts}
use Rattle.std.proofs.lemmas.List.Elements.{All-nil}
use Rattle.cg_script.proofs.NumbersOfWords.{is_text}
use Rattle.cg_script.proofs.KnownTexts.{said_texts, said_below, parts_below, each_more, text_below, texts_grow}
use Rattle.cg_script.specs.Forms.{sort_at}

abbrev pub EachSaid : (Said → Type 0) → List Said → Type 0
EachSaid P [] = Unit {0}
EachSaid P (s ∷ ss) = P s × EachSaid P ss

-- a property of each line that is good in itself, given the number of all texts
abbrev pub Holds : (ℕ → Said → Type 0) → Type 0
Holds P = (n number : ℕ) (known : Known) (line : List ℕ) (form : Form) (words : List (List ℕ)) → says form words ≡ meaning number line → length (texts_from known.texts form 0 words) ≤ n
    → P n (said form (parts_of known form words))

module _ (P : ℕ → Said → Type 0) (holds : Holds P) where
  abbrev Good : Known → List (List ℕ) → List Said → Type 0
  Good known texts saids = (length known.texts ≤ length texts) × EachSaid (P (length texts)) saids

  each_good : (lines : List (List ℕ)) (known : Known) (number : ℕ) (texts : List (List ℕ)) (saids : List Said) → lines_from known number lines ≡ good texts saids → Good known texts saids
  each_good = each_line (λ number known texts saids. Good known texts saids)
      (λ number known inside. (omega arith, tt))
      (λ number known line texts saids m behind. behind)
      (λ number known line form words texts saids m clean behind.
      let below : length (texts_from known.texts form 0 words) ≤ length texts = behind.0 in
      let grown = texts_grow form words known.texts 0 in
      (omega arith, (holds (length texts) number known line form words m below, behind.1)))

  -- what the lines of a script say: they are few, a profile comes first, and the texts are short
  pub record SaidSo (texts : List (List ℕ)) (items : List Item) : Type 0 where
    pub saids : List Said
    pub items_so : items_of false saids ≡ items
    pub each : EachSaid (P (length texts)) saids
    pub few : length saids ≤ 400000
    pub profile_first : NoProfiles (drop 1 saids)
    pub short : All (IsShort 1024) texts

  script_so : (lines : List (List ℕ)) (all : Lines) → lines_from nothing_known 1 lines ≡ all → (texts : List (List ℕ)) (items : List Item) → script_of all ≡ spells texts items → SaidSo texts items
  script_so lines (spoilt n c) is texts items e = absurd (cc)
  script_so lines (good texts2 saids) is texts items e =
      let same_texts : texts2 ≡ texts = cc in
      let same_items : items_of false saids ≡ items = cc in
      record {
        saids = saids;
        items_so = same_items;
        each = subst (λ ts. EachSaid (P (length ts)) saids) same_texts (each_good lines nothing_known 1 texts2 saids is).1;
        few = few_saids lines nothing_known texts2 saids is;
        profile_first = no_later_profiles lines nothing_known 1 texts2 saids is;
        short = subst (λ ts. All (IsShort 1024) ts) same_texts (short_texts lines nothing_known 1 texts2 saids is (All-nil (IsShort 1024)));
      }

  pub said_so : (bytes : List ℕ) (texts : List (List ℕ)) (items : List Item) → reading bytes ≡ spells texts items → SaidSo texts items
  said_so bytes texts items e = script_so (lines_of bytes) (lines_from nothing_known 1 (lines_of bytes)) refl texts items e

-- a good line names texts below the number of all
pub texts_hold : Holds (λ n s. Below n (said_texts s))
texts_hold n number known line form words m below =
    let ps = parts_of known form words in
    let fitting = says_fits number line form words m in
    said_below n ps (each_more _ n ps below (parts_below known.procs known.classes form words known.texts 0)) form
    (λ i h t.
    let w : 0 + i ≡ i = omega arith in
    let e = fitting.enough in
    let k = text_below known.procs known.classes form words known.texts 0 i (omega arith) (ap (λ j. is_text (sort_at form j)) w ∙ t) in
    omega arith)

body_below : (n : ℕ) (saids : List Said) → EachSaid (λ s. Below n (said_texts s)) saids → Below n (flat_map command_texts (body_of saids))
body_below n [] each = tt
body_below n (Does command ∷ later) each = below-append n (command_texts command) (flat_map command_texts (body_of later)) each.0 (body_below n later each.1)
body_below n (Declares item ∷ later) each = tt
body_below n (Begins name ∷ later) each = tt
body_below n (Ends ∷ later) each = tt

items_below : (n : ℕ) (inside : Bool) (saids : List Said) → EachSaid (λ s. Below n (said_texts s)) saids → Below n (flat_map item_texts (items_of inside saids))
items_below n inside [] each = tt
items_below n inside (Declares item ∷ later) each = below-append n (item_texts item) (flat_map item_texts (items_of inside later)) each.0 (items_below n inside later each.1)
items_below n inside (Begins name ∷ later) each = (
  each.0.0,
  below-append n (flat_map command_texts (body_of later)) (flat_map item_texts (items_of true later))
      (body_below n later each.1) (items_below n true later each.1),
)
items_below n inside (Ends ∷ later) each = items_below n false later each.1
items_below n true (Does command ∷ later) each = items_below n true later each.1
items_below n false (Does command ∷ later) each = below-append n (command_texts command) (flat_map item_texts (items_of false later)) each.0 (items_below n false later each.1)

-- each script that some bytes spell uses its own texts
pub known_texts : (bytes : List ℕ) (texts : List (List ℕ)) (items : List Item) → reading bytes ≡ spells texts items → All (λ k. k < length texts) (flat_map item_texts items)
known_texts bytes texts items e =
    let so = said_so (λ n s. Below n (said_texts s)) texts_hold bytes texts items e in
    subst (λ is. All (λ k. k < length texts) (flat_map item_texts is)) so.items_so (below_all (length texts) _ (items_below (length texts) false so.saids so.each))
