-- No two lines share a text, whatever follows them.
use Rattle.std.proofs.Common.{◌≡◌, ◌≢◌, ℕ, ◌^◌, ◌<◌, ◌≤◌, List, [], ◌∷◌, ◌++◌, length, get_or, Bool, true, false, cond, ◌==◌, refl, sym, ap, ◌∙◌, arith, append_assoc}
use Rattle.std.specs.Prelude.{decimal}
use Rattle.std.proofs.lemmas.List.{append_cancel_left}
use Rattle.cg_records.specs.declared.line.Word.{Word}
use Rattle.cg_records.specs.declared.line.Word.TheVariants as words
use Rattle.cg_records.specs.declared.line.Line.{Line}
use Rattle.cg_records.specs.declared.line.Line.TheVariants as lines
use Rattle.cg_records.specs.Lines.{word_text, word_of, numbers_text, line_text, mark_of, IsLine}
use Rattle.cg_records.proofs.Numbers.{one_number}

-- the word at the front of some bytes, by its first two bytes, or its seventh
word_at : List ℕ → Word
word_at bytes =
    cond (get_or bytes 0 0 == 114) (cond (get_or bytes 1 0 == 32) words.Reference words.Record)
    (cond (get_or bytes 0 0 == 109) words.Member
    (cond (get_or bytes 0 0 == 108) (cond (get_or bytes 1 0 == 111) words.Lost words.Legacy)
    (cond (get_or bytes 0 0 == 103) (cond (get_or bytes 6 0 == 49) words.First words.Second)
    (cond (get_or bytes 0 0 == 99) words.Cut (cond (get_or bytes 0 0 == 115) words.Stop words.End)))))

word_at-word_text : (w : Word) (rest : List ℕ) → word_at (word_text w ++ rest) ≡ w
unfolding word_at
word_at-word_text words.Record rest = refl
word_at-word_text word rest = refl

-- no word's text is a prefix of another's
pub one_word : (v w : Word) (x y : List ℕ) → word_text v ++ x ≡ word_text w ++ y → (v ≡ w) × (x ≡ y)
one_word v w x y e =
    let same : v ≡ w = sym (word_at-word_text v x) ∙ ap word_at e ∙ word_at-word_text w y in
    (same, append_cancel_left (word_text v) x y (e ∙ ap (λ u. word_text u ++ y) (sym same)))

numbers_of : Line → List ℕ
numbers_of (lines.Record g) = g ∷ []
numbers_of (lines.Member serial degree legacy) = serial ∷ degree ∷ mark_of legacy ∷ []
numbers_of (lines.Reference n) = n ∷ []
numbers_of (lines.Lost n) = n ∷ []
numbers_of (lines.Legacy n) = n ∷ []
numbers_of line = []

-- numbers separated by spaces, up to the end of the line
abbrev ended : List ℕ → List ℕ
ended [] = []
ended (n ∷ []) = decimal n ++ 10 ∷ []
ended (n ∷ m ∷ ns) = decimal n ++ 32 ∷ ended (m ∷ ns)

numbers_text-is : (l : Line) → numbers_text l ≡ ended (numbers_of l)
unfolding numbers_of
numbers_text-is (lines.Record g) = refl
numbers_text-is line = refl

line_of : Word → List ℕ → Line
line_of words.Record ns = lines.Record (get_or ns 0 0)
line_of words.First ns = lines.First
line_of words.Second ns = lines.Second
line_of words.Member ns = lines.Member (get_or ns 0 0) (get_or ns 1 0) (get_or ns 2 0 == 1)
line_of words.Reference ns = lines.Reference (get_or ns 0 0)
line_of words.Lost ns = lines.Lost (get_or ns 0 0)
line_of words.Legacy ns = lines.Legacy (get_or ns 0 0)
line_of words.Cut ns = lines.Cut
line_of words.Stop ns = lines.Stop
line_of words.End ns = lines.End

line_of-parts : (l : Line) → line_of (word_of l) (numbers_of l) ≡ l
unfolding line_of numbers_of
line_of-parts (lines.Member serial degree true) = refl
line_of-parts (lines.Member serial degree false) = refl
line_of-parts line = refl

-- the number of numbers after a word
arity : Word → ℕ
arity words.Record = 1
arity words.Member = 3
arity words.Reference = 1
arity words.Lost = 1
arity words.Legacy = 1
arity word = 0

length-numbers_of : (l : Line) → length (numbers_of l) ≡ arity (word_of l)
unfolding arity numbers_of
length-numbers_of (lines.Record g) = refl
length-numbers_of line = refl

abbrev AreSmall : List ℕ → Type 0
AreSmall [] = Unit {0}
AreSmall (n ∷ ns) = (n < 2 ^ 64) × AreSmall ns

mark_small : (b : Bool) → mark_of b < 2 ^ 64
mark_small true = omega arith
mark_small false = omega arith

are_small : (l : Line) → IsLine l → AreSmall (numbers_of l)
unfolding numbers_of
are_small (lines.Record g) h = (omega arith, tt)
are_small (lines.Member serial degree legacy) h = (h.0, (h.1, (mark_small legacy, tt)))
are_small (lines.Reference n) h = (h, tt)
are_small (lines.Lost n) h = (h, tt)
are_small (lines.Legacy n) h = (h, tt)
are_small line h = tt

-- lists of numbers of the same length have different texts
one_ended : (ms ns : List ℕ) (x y : List ℕ) → AreSmall ms → AreSmall ns → length ms ≡ length ns → ended ms ++ x ≡ ended ns ++ y → (ms ≡ ns) × (x ≡ y)
one_ended [] [] x y p q l e = (refl, e)
one_ended (m ∷ []) (n ∷ []) x y p q l e =
    let one = one_number m n 10 10 x y p.0 q.0 (omega arith) (omega arith) (sym (append_assoc (decimal m) (10 ∷ []) x) ∙ e ∙ append_assoc (decimal n) (10 ∷ []) y) in (ap (λ k. k ∷ []) one.0, one.2)
one_ended (m ∷ j ∷ ms) (n ∷ k ∷ ns) x y p q l e =
    let one = one_number m n 32 32 (ended (j ∷ ms) ++ x) (ended (k ∷ ns) ++ y) p.0 q.0 (omega arith) (omega arith)
    (sym (append_assoc (decimal m) (32 ∷ ended (j ∷ ms)) x) ∙ e ∙ append_assoc (decimal n) (32 ∷ ended (k ∷ ns)) y) in
    let more = one_ended (j ∷ ms) (k ∷ ns) x y p.1 q.1 (omega arith) one.2 in
    (ap (λ i. i ∷ j ∷ ms) one.0 ∙ ap (λ is. n ∷ is) more.0, more.1)
one_ended xs list x y p q l e = absurd (omega arith)

-- no line's text is a prefix of another's
pub one_line : (a b : Line) (x y : List ℕ) → IsLine a → IsLine b → line_text a ++ x ≡ line_text b ++ y → (a ≡ b) × (x ≡ y)
one_line a b x y p q e =
    let word = one_word (word_of a) (word_of b) (numbers_text a ++ x) (numbers_text b ++ y) (sym (append_assoc (word_text (word_of a)) (numbers_text a) x) ∙ e
    ∙ append_assoc (word_text (word_of b)) (numbers_text b) y) in
    let same : length (numbers_of a) ≡ length (numbers_of b) = length-numbers_of a ∙ ap arity word.0 ∙ sym (length-numbers_of b) in
    let behind = one_ended (numbers_of a) (numbers_of b) x y (are_small a p) (are_small b q) same (ap (λ t. t ++ x) (sym (numbers_text-is a)) ∙ word.1 ∙ ap (λ t. t ++ y) (numbers_text-is b)) in
    (sym (line_of-parts a) ∙ ap (λ w. line_of w (numbers_of a)) word.0 ∙ ap (line_of (word_of b)) behind.0 ∙ line_of-parts b, behind.1)

line_parts : (w : Word) (l : Line) (bytes rest x : List ℕ) → bytes ≡ word_text w ++ rest → bytes ≡ line_text l ++ x → (w ≡ word_of l) × (rest ≡ numbers_text l ++ x)
line_parts w l bytes rest x is e = one_word w (word_of l) rest (numbers_text l ++ x) (sym is ∙ e ∙ append_assoc (word_text (word_of l)) (numbers_text l) x)

abbrev member_numbers : ℕ → ℕ → ℕ → List ℕ → List ℕ
member_numbers serial degree mark x = decimal serial ++ 32 ∷ (decimal degree ++ 32 ∷ (decimal mark ++ 10 ∷ x))

-- the numbers of a member, grouped to the right
pub regroup : (serial degree mark : ℕ) (x : List ℕ) → decimal serial ++ 32 ∷ decimal degree ++ 32 ∷ decimal mark ++ 10 ∷ x ≡ member_numbers serial degree mark x
regroup serial degree mark x = simp append_assoc

pub regroup_line : (serial degree mark : ℕ) (x : List ℕ) → (decimal serial ++ 32 ∷ (decimal degree ++ 32 ∷ (decimal mark ++ 10 ∷ []))) ++ x ≡ member_numbers serial degree mark x
regroup_line serial degree mark x = simp append_assoc

mark_at_most : (b : Bool) → mark_of b ≤ 1
mark_at_most true = omega arith
mark_at_most false = omega arith

pub not_member : (bytes rest : List ℕ) → ((serial degree mark : ℕ) (x : List ℕ) → serial < 2 ^ 64 → degree < 2 ^ 64 → mark ≤ 1 → rest ≢ decimal serial ++ 32
    ∷ decimal degree ++ 32 ∷ decimal mark ++ 10 ∷ x)
    → bytes ≡ word_text words.Member ++ rest → (l : Line) (x : List ℕ) → IsLine l → bytes ≢ line_text l ++ x
not_member bytes rest none is l x h e = let parts = line_parts words.Member l bytes rest x is e in by l h parts.0 parts.1
  where
    by : (l : Line) → IsLine l → words.Member ≡ word_of l → rest ≡ numbers_text l ++ x → ⊥
    by (lines.Member serial degree legacy) h w t = none serial degree (mark_of legacy) x h.0 h.1 (mark_at_most legacy)
        (t ∙ regroup_line serial degree (mark_of legacy) x ∙ sym (regroup serial degree (mark_of legacy) x))
    by line h w t = absurd (cc)

-- bytes that start like a member's line but lack a second or third number
module _ (bytes rest : List ℕ) (s : ℕ) (fits : s < 2 ^ 64) (is : bytes ≡ decimal s ++ 32 ∷ rest) where
  pub no_degree : ((n : ℕ) (x : List ℕ) → n < 2 ^ 64 → rest ≢ decimal n ++ 32 ∷ x)
      → (serial degree mark : ℕ) (x : List ℕ) → serial < 2 ^ 64 → degree < 2 ^ 64 → mark ≤ 1 → bytes ≢ decimal serial ++ 32 ∷ decimal degree ++ 32 ∷ decimal mark ++ 10 ∷ x
  no_degree none serial degree mark x p q r e =
      let one = one_number s serial 32 32 rest (decimal degree ++ 32 ∷ (decimal mark ++ 10 ∷ x)) fits p (omega arith) (omega arith) (sym is ∙ e ∙ regroup serial degree mark x) in
      none degree (decimal mark ++ 10 ∷ x) q one.2

  pub no_mark : (more : List ℕ) (d : ℕ) → d < 2 ^ 64 → rest ≡ decimal d ++ 32 ∷ more → ((n : ℕ) (x : List ℕ) → n ≤ 1 → more ≢ decimal n ++ 10 ∷ x)
      → (serial degree mark : ℕ) (x : List ℕ) → serial < 2 ^ 64 → degree < 2 ^ 64 → mark ≤ 1 → bytes ≢ decimal serial ++ 32 ∷ decimal degree ++ 32 ∷ decimal mark ++ 10 ∷ x
  no_mark more d small goes_on none serial degree mark x p q r e =
      let one = one_number s serial 32 32 rest (decimal degree ++ 32 ∷ (decimal mark ++ 10 ∷ x)) fits p (omega arith) (omega arith) (sym is ∙ e ∙ regroup serial degree mark x) in
      let two = one_number d degree 32 32 more (decimal mark ++ 10 ∷ x) small q (omega arith) (omega arith) (sym goes_on ∙ one.2) in
      none mark x r two.2

-- a number at the end of a line that is too large
pub too_large : (bytes rest : List ℕ) (m most : ℕ) → m < 2 ^ 64 → bytes ≡ decimal m ++ 10 ∷ rest → most < m → (n : ℕ) (x : List ℕ) → n ≤ most → bytes ≢ decimal n ++ 10 ∷ x
too_large bytes rest m most fits is large n x h e = let one = one_number m n 10 10 rest x fits (omega arith) (omega arith) (omega arith) (sym is ∙ e) in omega (arith, one.0)
