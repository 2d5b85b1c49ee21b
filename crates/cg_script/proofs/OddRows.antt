-- The lines that are printed differently: `ref` without a callback, `collect` without a generation, flags, and a class.
use Rattle.std.proofs.Common.{◌≡◌, ℕ, ◌+◌, ◌≤◌, List, [], ◌∷◌, ◌++◌, length, Bool, true, false, cond, ◌&&◌, nat_le, Option, None, Some, refl, sym, ap, subst, ◌∙◌, arith, codes, inl, inr, ◌⊎◌}
use Rattle.std.specs.Prelude.{slice_index, unwrap_or, bit_or}
use Rattle.std.specs.Str.{bytes_eq}
use Rattle.cg_script.specs.declared.command.Operand.{Operand}
use Rattle.cg_script.specs.declared.command.Operand.TheVariants as operands
use Rattle.cg_script.specs.declared.command.Command.TheVariants as commands
use Rattle.cg_script.specs.declared.form.Form.TheVariants as forms
use Rattle.cg_script.specs.declared.form.Sort.TheVariants.{Variable, Value}
use Rattle.cg_script.specs.declared.part.Part.{Part}
use Rattle.cg_script.specs.declared.part.Part.TheVariants as parts
use Rattle.cg_script.specs.declared.part.Said.TheVariants.{Does}
use Rattle.cg_value.specs.Texts.{text_number, with_text}
use Rattle.cg_script.specs.Tables.{named}
use Rattle.cg_script.specs.Words.{atoms, flags, is_quoted, string_text, begins_name, number_of}
use Rattle.cg_script.specs.Forms.{openers, bindings}
use Rattle.cg_script.specs.Meanings.{fits, all_fit}
use Rattle.cg_script.specs.Parts.{Known, parts_of, texts_from, with_text_if, value_text, operand_or, has_unknown}
use Rattle.cg_script.specs.Commands.{flags_in, filled, binding, callback_filling, said_filled}
use Rattle.cg_script.specs.Pieces.{word_is}
use Rattle.cg_script.proofs.Ascii.{both}
use Rattle.cg_script.proofs.JoinedWords.{Graphic, EachSound, weight, and_both}
use Rattle.cg_script.proofs.GoodLines.{Good}
use Rattle.cg_script.proofs.NormalWords.{le_test}
use Rattle.cg_script.proofs.Rows.{Given, Row, plain_row}

-- whether words are graphic
abbrev graphic_test : List ℕ → Bool
graphic_test [] = true
graphic_test (b ∷ bs) = (nat_le 33 b && nat_le b 126) && graphic_test bs

abbrev sound_test : List (List ℕ) → Bool
sound_test [] = true
sound_test (w ∷ ws) = (nat_le 1 (length w) && graphic_test w) && sound_test ws

graphic_from : (w : List ℕ) → graphic_test w ≡ true → Graphic w
graphic_from [] e = tt
graphic_from (b ∷ bs) e =
    let p = both (nat_le 33 b && nat_le b 126) (graphic_test bs) e in
    let q = both (nat_le 33 b) (nat_le b 126) p.0 in
    ((le_test 33 b q.0, le_test b 126 q.1), graphic_from bs p.1)

sound_from : (ws : List (List ℕ)) → sound_test ws ≡ true → EachSound ws
sound_from [] e = tt
sound_from (w ∷ ws) e =
    let p = both (nat_le 1 (length w) && graphic_test w) (sound_test ws) e in
    let q = both (nat_le 1 (length w)) (graphic_test w) p.0 in
    ((le_test 1 (length w) q.0, graphic_from w q.1), sound_from ws p.1)

-- `collect` without a generation is `collect 2`
abbrev collect_two : List (List ℕ)
collect_two = codes "collect" ∷ codes "2" ∷ []

collect_good : Good forms.Collect collect_two
unfolding openers
collect_good = record {
  fit = refl;
  single = refl;
  enough = omega arith;
  most = omega arith;
  light = omega arith;
  few_words = omega arith;
  sound = sound_from collect_two refl;
  picks = inl (refl, refl);
  unpassed = refl;
}

pub collect_row : (known : Known) (ws : List (List ℕ)) → Given known forms.Collect ws → Row known forms.Collect ws
collect_row known [] given = absurd (omega (arith, given.good.enough))
collect_row known (w ∷ []) given = record {
  standing = collect_two;
  good = collect_good;
  same = record { said_same = refl; texts_same = refl; procs_same = refl; classes_same = refl; repeated_same = refl; none_unknown = refl };
  tidy = refl;
}
collect_row known (w ∷ g ∷ []) given = plain_row known forms.Collect (w ∷ g ∷ []) given refl
collect_row known (w ∷ g ∷ h ∷ rest) given = absurd (omega (arith, given.good.most))

-- a callback that is none is left out
callback_cases : (operand : Operand) → (operand ≡ operands.None) ⊎ (callback_filling operand ≡ parts.Value operand ∷ [])
callback_cases operands.None = inl refl
callback_cases operand = inr refl

none_no_text : (found : Option Operand) (texts : List (List ℕ)) (f : List ℕ) → operand_or found texts f ≡ operands.None → value_text found f ≡ None
none_no_text (Some operand) texts f e = refl
none_no_text None texts f e = by (is_quoted f) (begins_name (slice_index f 0)) e
  where
    by : (q b : Bool) → cond q (operands.Str (text_number texts (string_text f))) (cond b (operands.Name (text_number texts f)) (operands.Int (number_of f))) ≡ operands.None
        → cond q (Some (string_text f)) (cond b (Some f) None) ≡ None
    by true b e = absurd (cc)
    by false true e = absurd (cc)
    by false false e = refl

ref_four : (a y f : List ℕ) → Good forms.MakeRef (a ∷ codes "=" ∷ codes "ref" ∷ y ∷ f ∷ []) → Good forms.MakeRef (a ∷ codes "=" ∷ codes "ref" ∷ y ∷ [])
unfolding bindings
ref_four a y f good =
    let p = both (fits Variable a) (fits Value y && (fits Value f && true)) good.fit in
    let q = both (fits Value y) (fits Value f && true) p.1 in
    let light = good.light in
    record {
      fit = and_both (fits Variable a) (fits Value y && true) p.0 (and_both (fits Value y) true q.0 refl);
      single = refl;
      enough = omega arith;
      most = omega arith;
      light = omega arith;
      few_words = omega arith;
      sound = (good.sound.0, (good.sound.1.0, (good.sound.1.1.0, (good.sound.1.1.1.0, tt))));
      picks = inr (refl, refl, refl);
      unpassed = good.unpassed;
    }

module _ (known : Known) where
  ref_five : (a y f : List ℕ) → Given known forms.MakeRef (a ∷ codes "=" ∷ codes "ref" ∷ y ∷ f ∷ [])
      → (let t = with_text_if (with_text known.texts a) (value_text (named atoms y) y) in (operand_or (named atoms f) t f ≡ operands.None)
      ⊎ (callback_filling (operand_or (named atoms f) t f) ≡ parts.Value (operand_or (named atoms f) t f) ∷ []))
      → Row known forms.MakeRef (a ∷ codes "=" ∷ codes "ref" ∷ y ∷ f ∷ [])
  ref_five a y f given (inr other) =
      plain_row known forms.MakeRef (a ∷ codes "=" ∷ codes "ref" ∷ y ∷ f ∷ []) given
      (ap (λ (l : List Part). binding forms.MakeRef (text_number known.texts a) (parts.Value (operand_or (named atoms y) (with_text known.texts a) y) ∷ l)) other)
  ref_five a y f given (inl none) =
      let t1 = with_text known.texts a in
      let t2 = with_text_if t1 (value_text (named atoms y) y) in
      record {
        standing = a ∷ codes "=" ∷ codes "ref" ∷ y ∷ [];
        good = ref_four a y f given.good;
        same = record {
          said_same = ap (λ (o : Operand). Does (commands.MakeRef (text_number known.texts a) (operand_or (named atoms y) t1 y) o)) (sym none);
          texts_same = sym (ap (λ (o : Option (List ℕ)). with_text_if t2 o) (none_no_text (named atoms f) t2 f none));
          procs_same = refl;
          classes_same = refl;
          repeated_same = refl;
          none_unknown = refl;
        };
        tidy = refl;
      }

  pub ref_row : (a : List ℕ) (rest : List (List ℕ)) → Given known forms.MakeRef (a ∷ codes "=" ∷ codes "ref" ∷ rest) → Row known forms.MakeRef (a ∷ codes "=" ∷ codes "ref" ∷ rest)
  ref_row a [] given = absurd (omega (arith, given.good.enough))
  ref_row a (y ∷ []) given = plain_row known forms.MakeRef (a ∷ codes "=" ∷ codes "ref" ∷ y ∷ []) given refl
  ref_row a (y ∷ f ∷ []) given = ref_five a y f given (callback_cases (operand_or (named atoms f) (with_text_if (with_text known.texts a) (value_text (named atoms y) y)) f))
  ref_row a (y ∷ f ∷ g ∷ rest) given = absurd (omega (arith, given.good.most))

-- the flags by their bits
all16 : (P : Bool → Bool → Bool → Bool → Type 0) → P true true true true → P true true true false → P true true false true → P true true false false
    → P true false true true → P true false true false → P true false false true → P true false false false → P false true true true → P false true true false
    → P false true false true → P false true false false → P false false true true → P false false true false → P false false false true
    → P false false false false → (a b c d : Bool) → P a b c d
all16 P p0 p1 p2 p3 p4 p5 p6 p7 p8 p9 p10 p11 p12 p13 p14 p15 true true true true = p0
all16 P p0 p1 p2 p3 p4 p5 p6 p7 p8 p9 p10 p11 p12 p13 p14 p15 true true true false = p1
all16 P p0 p1 p2 p3 p4 p5 p6 p7 p8 p9 p10 p11 p12 p13 p14 p15 true true false true = p2
all16 P p0 p1 p2 p3 p4 p5 p6 p7 p8 p9 p10 p11 p12 p13 p14 p15 true true false false = p3
all16 P p0 p1 p2 p3 p4 p5 p6 p7 p8 p9 p10 p11 p12 p13 p14 p15 true false true true = p4
all16 P p0 p1 p2 p3 p4 p5 p6 p7 p8 p9 p10 p11 p12 p13 p14 p15 true false true false = p5
all16 P p0 p1 p2 p3 p4 p5 p6 p7 p8 p9 p10 p11 p12 p13 p14 p15 true false false true = p6
all16 P p0 p1 p2 p3 p4 p5 p6 p7 p8 p9 p10 p11 p12 p13 p14 p15 true false false false = p7
all16 P p0 p1 p2 p3 p4 p5 p6 p7 p8 p9 p10 p11 p12 p13 p14 p15 false true true true = p8
all16 P p0 p1 p2 p3 p4 p5 p6 p7 p8 p9 p10 p11 p12 p13 p14 p15 false true true false = p9
all16 P p0 p1 p2 p3 p4 p5 p6 p7 p8 p9 p10 p11 p12 p13 p14 p15 false true false true = p10
all16 P p0 p1 p2 p3 p4 p5 p6 p7 p8 p9 p10 p11 p12 p13 p14 p15 false true false false = p11
all16 P p0 p1 p2 p3 p4 p5 p6 p7 p8 p9 p10 p11 p12 p13 p14 p15 false false true true = p12
all16 P p0 p1 p2 p3 p4 p5 p6 p7 p8 p9 p10 p11 p12 p13 p14 p15 false false true false = p13
all16 P p0 p1 p2 p3 p4 p5 p6 p7 p8 p9 p10 p11 p12 p13 p14 p15 false false false true = p14
all16 P p0 p1 p2 p3 p4 p5 p6 p7 p8 p9 p10 p11 p12 p13 p14 p15 false false false false = p15

abbrev value : Bool → Bool → Bool → Bool → ℕ
value a b c d = cond a 1 0 + cond b 2 0 + cond c 4 0 + cond d 32 0

record Bits (k : ℕ) : Type 0 where
  stats : Bool
  collectable : Bool
  uncollectable : Bool
  saveall : Bool
  is : k ≡ value stats collectable uncollectable saveall

-- a flag and others
record Joins (m : ℕ) : Type 0 where
  bits : Bits m
  joins : (a b c d : Bool) → Bits (bit_or (value a b c d) m)

no_flag : Joins 0
no_flag = record {
  bits = record { stats = false; collectable = false; uncollectable = false; saveall = false; is = refl };
  joins = λ a b c d. record {
    stats = a;
    collectable = b;
    uncollectable = c;
    saveall = d;
    is = all16 (λ a b c d. bit_or (value a b c d) 0 ≡ value a b c d) refl
        refl refl refl refl refl refl refl refl refl refl refl refl refl refl refl a b c d;
  };
}

stats_flag : Joins 1
stats_flag = record {
  bits = record { stats = true; collectable = false; uncollectable = false; saveall = false; is = refl };
  joins = λ a b c d. record {
    stats = true;
    collectable = b;
    uncollectable = c;
    saveall = d;
    is = all16 (λ a b c d. bit_or (value a b c d) 1 ≡ value true b c d)
        refl refl refl refl refl refl refl refl refl refl refl refl refl refl refl refl a b c d;
  };
}

collectable_flag : Joins 2
collectable_flag = record {
  bits = record { stats = false; collectable = true; uncollectable = false; saveall = false; is = refl };
  joins = λ a b c d. record {
    stats = a;
    collectable = true;
    uncollectable = c;
    saveall = d;
    is = all16 (λ a b c d. bit_or (value a b c d) 2 ≡ value a true c d)
        refl refl refl refl refl refl refl refl refl refl refl refl refl refl refl refl a b c d;
  };
}

uncollectable_flag : Joins 4
uncollectable_flag = record {
  bits = record { stats = false; collectable = false; uncollectable = true; saveall = false; is = refl };
  joins = λ a b c d. record {
    stats = a;
    collectable = b;
    uncollectable = true;
    saveall = d;
    is = all16 (λ a b c d. bit_or (value a b c d) 4 ≡ value a b true d)
        refl refl refl refl refl refl refl refl refl refl refl refl refl refl refl refl a b c d;
  };
}

saveall_flag : Joins 32
saveall_flag = record {
  bits = record { stats = false; collectable = false; uncollectable = false; saveall = true; is = refl };
  joins = λ a b c d. record {
    stats = a;
    collectable = b;
    uncollectable = c;
    saveall = true;
    is = all16 (λ a b c d. bit_or (value a b c d) 32
        ≡ value a b c true) refl refl refl refl refl refl refl refl refl refl refl refl refl refl refl refl a b c d;
  };
}

leak_flag : Joins 38
leak_flag = record {
  bits = record { stats = false; collectable = true; uncollectable = true; saveall = true; is = refl };
  joins = λ a b c d. record {
    stats = a;
    collectable = true;
    uncollectable = true;
    saveall = true;
    is = all16 (λ a b c d. bit_or (value a b c d) 38
        ≡ value a true true true) refl refl refl refl refl refl refl refl refl refl refl refl refl refl refl refl a b c d;
  };
}

JoinAll : List (List ℕ × ℕ) → Type 0
JoinAll [] = Unit {0}
JoinAll (row ∷ rows) = Joins row.1 × JoinAll rows

all_join : JoinAll flags
unfolding JoinAll flags
all_join = (stats_flag, (collectable_flag, (uncollectable_flag, (saveall_flag, (leak_flag, tt)))))

found_joins : (rows : List (List ℕ × ℕ)) (w : List ℕ) → JoinAll rows → Joins (unwrap_or (named rows w) 0)
unfolding JoinAll
found_joins [] w all = no_flag
found_joins (row ∷ rows) w all = by (bytes_eq w row.0) (found_joins rows w all.1)
  where
    by : (b : Bool) → Joins (unwrap_or (named rows w) 0) → Joins (unwrap_or (cond b (Some row.1) (named rows w)) 0)
    by true later = all.0
    by false later = later

flag_joins : (w : List ℕ) → Joins (unwrap_or (named flags w) 0)
flag_joins w = found_joins flags w all_join

join : (k m : ℕ) → Bits k → Joins m → Bits (bit_or k m)
join k m bits joins = subst (λ (l : ℕ). Bits (bit_or l m)) (sym bits.is) (joins.joins bits.stats bits.collectable bits.uncollectable bits.saveall)

five : (i j k l m : ℕ) → Joins i → Joins j → Joins k → Joins l → Joins m → Bits (bit_or (bit_or (bit_or (bit_or i j) k) l) m)
five i j k l m a b c d e = join (bit_or (bit_or (bit_or i j) k) l) m (join (bit_or (bit_or i j) k) l (join (bit_or i j) k (join i j a.bits b) c) d) e

flags_bits : (known : Known) (w : List ℕ) (rest : List (List ℕ)) → length rest ≤ 5 → Bits (flags_in (parts_of known forms.Flags (w ∷ rest)))
flags_bits known first [] h = five 0 0 0 0 0 no_flag no_flag no_flag no_flag no_flag
flags_bits known first (v ∷ []) h = five _ 0 0 0 0 (flag_joins v) no_flag no_flag no_flag no_flag
flags_bits known first (v ∷ w ∷ []) h = five _ _ 0 0 0 (flag_joins v) (flag_joins w) no_flag no_flag no_flag
flags_bits known first (v ∷ w ∷ x ∷ []) h = five _ _ _ 0 0 (flag_joins v) (flag_joins w) (flag_joins x) no_flag no_flag
flags_bits known first (v ∷ w ∷ x ∷ y ∷ []) h = five _ _ _ _ 0 (flag_joins v) (flag_joins w) (flag_joins x) (flag_joins y) no_flag
flags_bits known first (v ∷ w ∷ x ∷ y ∷ z ∷ []) h = five _ _ _ _ _ (flag_joins v) (flag_joins w) (flag_joins x) (flag_joins y) (flag_joins z)
flags_bits known first (v ∷ w ∷ x ∷ y ∷ z ∷ t ∷ rest) h = absurd (omega arith)

abbrev given : Bool → List ℕ → List (List ℕ)
given true w = w ∷ []
given false w = []

abbrev flag_line : Bool → Bool → Bool → Bool → List (List ℕ)
flag_line a b c d = codes "debug" ∷ (given a (codes "stats") ++ given b (codes "collectable") ++ given c (codes "uncollectable") ++ given d (codes "saveall"))

flags_good : (a b c d : Bool) → Good forms.Flags (flag_line a b c d)
unfolding flags openers
flags_good a b c d =
    let count : length (flag_line a b c d) ≤ 5 = le_test (length (flag_line a b c d)) 5 (all16 (λ a b c d. nat_le (length (flag_line a b c d)) 5 ≡ true) refl
    refl refl refl refl refl refl refl refl refl refl refl refl refl refl refl a b c d) in
    record {
      fit = all16 (λ a b c d. all_fit forms.Flags 0 (flag_line a b c d) ≡ true) refl refl refl refl refl refl refl refl refl refl refl refl refl refl refl refl a b c d;
      single = refl;
      enough = omega arith;
      most = omega arith;
      light = le_test (weight (flag_line a b c d)) 1025 (all16 (λ a b c d. nat_le (weight (flag_line a b c d)) 1025 ≡ true) refl refl refl refl refl refl refl
          refl refl refl refl refl refl refl refl refl a b c d);
      few_words = omega arith;
      sound = sound_from (flag_line a b c d) (all16 (λ a b c d. sound_test (flag_line a b c d) ≡ true) refl refl refl refl refl refl refl refl refl refl refl refl refl refl refl refl a b c d);
      picks = inl (all16 (λ a b c d. word_is (flag_line a b c d) 1 (codes "=") ≡ false) refl refl refl refl refl refl refl refl refl refl refl refl refl refl refl refl a b c d, refl);
      unpassed = refl;
    }

flags_read : (known : Known) (a b c d : Bool) → flags_in (parts_of known forms.Flags (flag_line a b c d)) ≡ value a b c d
unfolding flags
flags_read known a b c d = all16 (λ a b c d. flags_in (parts_of known forms.Flags (flag_line a b c d)) ≡ value a b c d) refl refl refl refl refl refl refl refl
    refl refl refl refl refl refl refl refl a b c d

flags_texts : (known : Known) (a b c d : Bool) → texts_from known.texts forms.Flags 0 (flag_line a b c d) ≡ known.texts
flags_texts known a b c d = all16 (λ a b c d. texts_from known.texts forms.Flags 0 (flag_line a b c d) ≡ known.texts) refl refl refl refl refl refl refl refl
    refl refl refl refl refl refl refl refl a b c d

no_flag_texts : (known : Known) (w : List ℕ) (rest : List (List ℕ)) → length rest ≤ 5 → texts_from known.texts forms.Flags 0 (w ∷ rest) ≡ known.texts
no_flag_texts known first [] h = refl
no_flag_texts known first (v ∷ []) h = refl
no_flag_texts known first (v ∷ w ∷ []) h = refl
no_flag_texts known first (v ∷ w ∷ x ∷ []) h = refl
no_flag_texts known first (v ∷ w ∷ x ∷ y ∷ []) h = refl
no_flag_texts known first (v ∷ w ∷ x ∷ y ∷ z ∷ []) h = refl
no_flag_texts known first (v ∷ w ∷ x ∷ y ∷ z ∷ t ∷ rest) h = absurd (omega arith)

flags_known : (known : Known) (a b c d : Bool) → has_unknown (parts_of known forms.Flags (flag_line a b c d)) ≡ false
flags_known known a b c d = all16 (λ a b c d. has_unknown (parts_of known forms.Flags (flag_line a b c d)) ≡ false) refl refl refl refl refl refl refl refl refl
    refl refl refl refl refl refl refl a b c d

flags_tidy : (known : Known) (a b c d : Bool) → said_filled (Does (commands.Flags (value a b c d))) ≡ filled forms.Flags (parts_of known forms.Flags (flag_line a b c d))
unfolding flags
flags_tidy known a b c d = all16 (λ a b c d. said_filled (Does (commands.Flags (value a b c d)))
    ≡ filled forms.Flags (parts_of known forms.Flags (flag_line a b c d))) refl refl refl refl refl refl refl refl refl refl refl refl refl refl refl refl a b c
    d

pub flags_row : (known : Known) (ws : List (List ℕ)) → Given known forms.Flags ws → Row known forms.Flags ws
flags_row known [] given = absurd (omega (arith, given.good.enough))
flags_row known (w ∷ rest) given =
    let most = given.good.most in
    let bits = flags_bits known w rest (omega arith) in
    let a = bits.stats in
    let b = bits.collectable in
    let c = bits.uncollectable in
    let d = bits.saveall in
    record {
      standing = flag_line a b c d;
      good = flags_good a b c d;
      same = record {
        said_same = ap (λ (k : ℕ). Does (commands.Flags k)) (flags_read known a b c d ∙ sym bits.is);
        texts_same = flags_texts known a b c d ∙ sym (no_flag_texts known w rest (omega arith));
        procs_same = refl;
        classes_same = refl;
        repeated_same = refl;
        none_unknown = flags_known known a b c d;
      };
      tidy = ap (λ (k : ℕ). said_filled (Does (commands.Flags k))) (flags_read known a b c d) ∙ flags_tidy known a b c d;
    }
