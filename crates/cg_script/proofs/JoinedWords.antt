-- The words of a line written with one space between them, and the lines of a text written with line feeds.
use Rattle.std.proofs.Common.{◌≡◌, ℕ, suc, ◌+◌, ◌≤◌, List, [], ◌∷◌, ◌++◌, length, length-append, map, filter, Bool, true, false, cond, ◌&&◌, ◌==◌, nat_le, refl, ap, ◌∙◌, arith, append_assoc, append-nil}
use Rattle.std.specs.Prelude.{flat_map}
use Rattle.std.specs.List.{list_all}
use Rattle.std.proofs.lemmas.Bool.Decides.{nat_tests}
use Rattle.cg_script.specs.Pieces.{pieces, onto, has_bytes, words_of, lines_of}
use Rattle.cg_script.specs.Words.{is_printable}
use Rattle.cg_script.specs.Canonical.{behind_space, joined, line_of_words}
use Rattle.cg_script.proofs.Ascii.{both}

-- printable bytes other than the space
abbrev pub Graphic : List ℕ → Type 0
Graphic [] = Unit {0}
Graphic (b ∷ bs) = ((33 ≤ b) × (b ≤ 126)) × Graphic bs

abbrev pub EachGraphic : List (List ℕ) → Type 0
EachGraphic [] = Unit {0}
EachGraphic (w ∷ ws) = Graphic w × EachGraphic ws

-- nonempty words of such bytes
abbrev pub EachSound : List (List ℕ) → Type 0
EachSound [] = Unit {0}
EachSound (w ∷ ws) = ((1 ≤ length w) × Graphic w) × EachSound ws

-- bytes without a separator
abbrev None : ℕ → List ℕ → Type 0
None separator [] = Unit {0}
None separator (b ∷ bs) = ((b == separator) ≡ false) × None separator bs

none-append : (separator : ℕ) (xs ys : List ℕ) → None separator xs → None separator ys → None separator (xs ++ ys)
none-append separator [] ys a b = b
none-append separator (x ∷ xs) ys a b = (a.0, none-append separator xs ys a.1 b)

graphic_none : (separator : ℕ) (w : List ℕ) → separator ≤ 32 → Graphic w → None separator w
graphic_none separator [] h g = tt
graphic_none separator (b ∷ bs) h g = let low = g.0.0 in (grind (arith, nat_tests), graphic_none separator bs h g.1)

other_byte : (separator b : ℕ) (bs : List ℕ) → (b == separator) ≡ false → pieces separator (b ∷ bs) ≡ onto b (pieces separator bs)
other_byte separator b bs e = ap (λ t. cond t ([] ∷ pieces separator bs) (onto b (pieces separator bs))) e

piece_first : (separator : ℕ) (w rest : List ℕ) → (separator == separator) ≡ true → None separator w → pieces separator (w ++ separator ∷ rest) ≡ w ∷ pieces separator rest
piece_first separator [] rest e none = ap (λ t. cond t ([] ∷ pieces separator rest) (onto separator (pieces separator rest))) e
piece_first separator (b ∷ bs) rest e none = other_byte separator b (bs ++ separator ∷ rest) none.0 ∙ ap (onto b) (piece_first separator bs rest e none.1)

piece_last : (separator b : ℕ) (bs : List ℕ) → None separator (b ∷ bs) → pieces separator (b ∷ bs) ≡ (b ∷ bs) ∷ []
piece_last separator b [] none = other_byte separator b [] none.0
piece_last separator b (c ∷ cs) none = other_byte separator b (c ∷ cs) none.0 ∙ ap (onto b) (piece_last separator c cs none.1)

last_word : (w : List ℕ) → 1 ≤ length w → Graphic w → pieces 32 w ≡ w ∷ []
last_word [] some g = absurd (omega arith)
last_word (b ∷ bs) some g = piece_last 32 b bs (graphic_none 32 (b ∷ bs) (omega arith) g)

pieces_joined : (w : List ℕ) (ws : List (List ℕ)) → EachSound (w ∷ ws) → pieces 32 (w ++ flat_map behind_space ws) ≡ w ∷ ws
pieces_joined w [] sound = ap (pieces 32) (append-nil w) ∙ last_word w sound.0.0 sound.0.1
pieces_joined w (v ∷ vs) sound =
    piece_first 32 w (v ++ flat_map behind_space vs) refl (graphic_none 32 w (omega arith) sound.0.1) ∙ ap (λ l. w ∷ l) (pieces_joined v vs sound.1)

has_some : (w : List ℕ) → 1 ≤ length w → has_bytes w ≡ true
has_some [] some = absurd (omega arith)
has_some (b ∷ bs) some = refl

all_kept : (ws : List (List ℕ)) → EachSound ws → filter has_bytes ws ≡ ws
all_kept [] sound = refl
all_kept (w ∷ ws) sound = ap (λ t. cond t (w ∷ filter has_bytes ws) (filter has_bytes ws)) (has_some w sound.0.0) ∙ ap (λ l. w ∷ l) (all_kept ws sound.1)

pub words_of-joined : (ws : List (List ℕ)) → EachSound ws → words_of (joined ws) ≡ ws
words_of-joined [] sound = refl
words_of-joined (w ∷ ws) sound = ap (filter has_bytes) (pieces_joined w ws sound) ∙ all_kept (w ∷ ws) sound

-- bytes that are printable
abbrev Printable : List ℕ → Type 0
Printable [] = Unit {0}
Printable (b ∷ bs) = ((32 ≤ b) × (b ≤ 126)) × Printable bs

printable-append : (xs ys : List ℕ) → Printable xs → Printable ys → Printable (xs ++ ys)
printable-append [] ys a b = b
printable-append (x ∷ xs) ys a b = (a.0, printable-append xs ys a.1 b)

graphic_printable : (w : List ℕ) → Graphic w → Printable w
graphic_printable [] g = tt
graphic_printable (b ∷ bs) g = let low = g.0.0 in let high = g.0.1 in ((omega arith, omega arith), graphic_printable bs g.1)

printable_behind : (ws : List (List ℕ)) → EachSound ws → Printable (flat_map behind_space ws)
printable_behind [] sound = tt
printable_behind (w ∷ ws) sound = ((omega arith, omega arith), printable-append w (flat_map behind_space ws) (graphic_printable w sound.0.1) (printable_behind ws sound.1))

printable_joined : (ws : List (List ℕ)) → EachSound ws → Printable (joined ws)
printable_joined [] sound = tt
printable_joined (w ∷ ws) sound = printable-append w (flat_map behind_space ws) (graphic_printable w sound.0.1) (printable_behind ws sound.1)

pub and_both : (a b : Bool) → a ≡ true → b ≡ true → (a && b) ≡ true
and_both true true p q = refl
and_both true false p q = q
and_both false b p q = p

test_printable : (b : ℕ) → 32 ≤ b → b ≤ 126 → is_printable b ≡ true
test_printable b low high = let l : nat_le 32 b ≡ true = grind (arith, nat_tests) in let h : nat_le b 126 ≡ true = grind (arith, nat_tests) in and_both (nat_le 32 b) (nat_le b 126) l h

tested_printable : (bs : List ℕ) → Printable bs → list_all is_printable bs ≡ true
tested_printable [] p = refl
tested_printable (b ∷ bs) p = and_both (is_printable b) (list_all is_printable bs) (test_printable b p.0.0 p.0.1) (tested_printable bs p.1)

pub all_printable : (ws : List (List ℕ)) → EachSound ws → list_all is_printable (joined ws) ≡ true
all_printable ws sound = tested_printable (joined ws) (printable_joined ws sound)

printable_none : (bs : List ℕ) → Printable bs → None 10 bs
printable_none [] p = tt
printable_none (b ∷ bs) p = let low = p.0.0 in (grind (arith, nat_tests), printable_none bs p.1)

abbrev pub EachLineSound : List (List (List ℕ)) → Type 0
EachLineSound [] = Unit {0}
EachLineSound (ws ∷ lines) = EachSound ws × EachLineSound lines

pub lines_of-written : (lines : List (List (List ℕ))) → EachLineSound lines → lines_of (flat_map line_of_words lines) ≡ map joined lines
lines_of-written [] sound = refl
lines_of-written (ws ∷ lines) sound =
    ap (pieces 10) (append_assoc (joined ws) (10 ∷ []) (flat_map line_of_words lines))
    ∙ piece_first 10 (joined ws) (flat_map line_of_words lines) refl (printable_none (joined ws) (printable_joined ws sound.0))
    ∙ ap (λ l. joined ws ∷ l) (lines_of-written lines sound.1)

-- the bytes of words, plus one for each
abbrev pub weight : List (List ℕ) → ℕ
weight [] = 0
weight (w ∷ ws) = (length w + 1) + weight ws

length-behind : (ws : List (List ℕ)) → length (flat_map behind_space ws) ≡ weight ws
length-behind [] = refl
length-behind (w ∷ ws) = let more = length-behind ws in let parts = length-append w (flat_map behind_space ws) in omega arith

pub length-joined : (ws : List (List ℕ)) → 1 ≤ length ws → length (joined ws) + 1 ≤ weight ws
length-joined [] some = absurd (omega arith)
length-joined (w ∷ ws) some = let more = length-behind ws in let parts = length-append w (flat_map behind_space ws) in omega arith

-- the words of a line weigh at most its length plus one
onto_weight : (b n : ℕ) (ps : List (List ℕ)) → weight ps ≤ n + 1 → weight (onto b ps) ≤ suc n + 1
onto_weight b n [] h = omega arith
onto_weight b n (p ∷ ps) h = omega arith

step_weight : (b n : ℕ) (ps : List (List ℕ)) (here : Bool) → weight ps ≤ n + 1 → weight (cond here ([] ∷ ps) (onto b ps)) ≤ suc n + 1
step_weight b n ps true h = omega arith
step_weight b n ps false h = onto_weight b n ps h

pieces_weight : (separator : ℕ) (bytes : List ℕ) → weight (pieces separator bytes) ≤ length bytes + 1
pieces_weight separator [] = omega arith
pieces_weight separator (b ∷ bytes) = step_weight b (length bytes) (pieces separator bytes) (b == separator) (pieces_weight separator bytes)

kept_weight : (w : List ℕ) (ws : List (List ℕ)) (b : Bool) (n : ℕ) → weight ws ≤ n → weight (cond b (w ∷ ws) ws) ≤ (length w + 1) + n
kept_weight w ws true n h = omega arith
kept_weight w ws false n h = omega arith

filter_weight : (ps : List (List ℕ)) → weight (filter has_bytes ps) ≤ weight ps
filter_weight [] = omega arith
filter_weight (p ∷ ps) = kept_weight p (filter has_bytes ps) (has_bytes p) (weight ps) (filter_weight ps)

pub words_weight : (line : List ℕ) → weight (words_of line) ≤ length line + 1
words_weight line = let a = filter_weight (pieces 32 line) in let b = pieces_weight 32 line in omega arith

-- the words of a printable line are graphic
graphic_onto : (b : ℕ) (ps : List (List ℕ)) → 33 ≤ b → b ≤ 126 → EachGraphic ps → EachGraphic (onto b ps)
graphic_onto b [] low high each = (((low, high), tt), tt)
graphic_onto b (p ∷ ps) low high each = (((low, high), each.0), each.1)

graphic_step : (b : ℕ) (ps : List (List ℕ)) (here : Bool) → (b == 32) ≡ here → is_printable b ≡ true → EachGraphic ps → EachGraphic (cond here ([] ∷ ps) (onto b ps))
graphic_step b ps true e printable each = (tt, each)
graphic_step b ps false e printable each =
    let parts = both (nat_le 32 b) (nat_le b 126) printable in
    let l : nat_le 32 b ≡ true = parts.0 in
    let h : nat_le b 126 ≡ true = parts.1 in
    graphic_onto b ps (grind (arith, nat_tests)) (grind (arith, nat_tests)) each

graphic_pieces : (line : List ℕ) → list_all is_printable line ≡ true → EachGraphic (pieces 32 line)
graphic_pieces [] printable = tt
graphic_pieces (b ∷ bs) printable =
    let parts = both (is_printable b) (list_all is_printable bs) printable in graphic_step b (pieces 32 bs) (b == 32) refl parts.0 (graphic_pieces bs parts.1)

sound_step : (w : List ℕ) (ws : List (List ℕ)) → Graphic w → EachSound ws → EachSound (cond (has_bytes w) (w ∷ ws) ws)
sound_step [] ws g each = each
sound_step (b ∷ bs) ws g each = ((omega arith, g), each)

sound_filter : (ps : List (List ℕ)) → EachGraphic ps → EachSound (filter has_bytes ps)
sound_filter [] each = tt
sound_filter (p ∷ ps) each = sound_step p (filter has_bytes ps) each.0 (sound_filter ps each.1)

pub sound_words : (line : List ℕ) → list_all is_printable line ≡ true → EachSound (words_of line)
sound_words line printable = sound_filter (pieces 32 line) (graphic_pieces line printable)
