-- Lines written, or gathered, one by one.
use Rattle.std.proofs.Common.{◌≡◌, refl, sym, ◌∙◌, ap, subst, ℕ, zero, suc, ◌+◌, ◌<◌, List, [], ◌∷◌, ◌++◌, length, take, drop, get_or, Option, None, inl, append-nil, append_assoc, arith}
use Rattle.std.specs.Prelude.{flat_map}
use Rattle.std.proofs.lemmas.Grind.{flat_map-append}
use Rattle.std.proofs.lemmas.List.{take_more}
use Rattle.std.proofs.KnownBytes.{Appends-trans, Appends-nil}
use Rattle.std.specs.Io.KnownBytes.{Appends}
use Rattle.cg_io.specs.Causes.{AppendsFront}
use Rattle.cg_graph.specs.Member.{Includes}
use Rattle.cg_graph.proofs.Members.{Includes-append_right}
use Rattle.cg_machine.specs.declared.event.Event.{Event}
use Rattle.cg_machine.specs.Lines.{line}
use Rattle.cg_interp.specs.Running.{Gathers}

-- bytes that were written, and then a prefix of some more
pub after_front : (a b c : Option (List ℕ)) (bs cs : List ℕ) → Appends a b bs → AppendsFront b c cs → AppendsFront a c (bs ++ cs)
after_front a b c bs cs p q = record {
  front = bs ++ q.front;
  rest = q.rest;
  whole = ap (λ l. bs ++ l) q.whole ∙ sym (append_assoc bs q.front q.rest);
  appended = Appends-trans a b c bs q.front p q.appended;
}

-- a prefix of some bytes is a prefix of these and more
pub longer_front : (a b : Option (List ℕ)) (bs cs : List ℕ) → AppendsFront a b bs → AppendsFront a b (bs ++ cs)
longer_front a b bs cs p = record {
  front = p.front;
  rest = p.rest ++ cs;
  whole = ap (λ l. l ++ cs) p.whole ∙ append_assoc p.front p.rest cs;
  appended = p.appended;
}

-- bytes were put behind those that were held
pub put_behind : (a : Option (List ℕ)) (held holds bs : List ℕ) → holds ≡ held ++ bs → Gathers a a held holds bs
put_behind a held holds bs behind = record { front = []; whole = sym behind; written = Appends-nil a }

-- bytes that a sink does not tell
pub dropped : (bs : List ℕ) → Gathers None None [] [] bs
dropped bs = record { front = bs; whole = sym (append-nil bs); written = tt }

-- Bytes were gathered.
module _ (a b : Option (List ℕ)) (held holds bs : List ℕ) (p : Gathers a b held holds bs) where
  whole_with : (more : List ℕ) → held ++ (bs ++ more) ≡ p.front ++ (holds ++ more)
  whole_with more = sym (append_assoc held bs more) ∙ ap (λ l. l ++ more) p.whole ∙ append_assoc p.front holds more

  -- and then some more
  pub gathers_then : (c : Option (List ℕ)) (still cs : List ℕ) → Gathers b c holds still cs → Gathers a c held still (bs ++ cs)
  gathers_then c still cs q = record {
    front = p.front ++ q.front;
    whole = whole_with cs ∙ ap (λ l. p.front ++ l) q.whole ∙ sym (append_assoc p.front q.front still);
    written = Appends-trans a b c p.front q.front p.written q.written;
  }

  -- and then a prefix of what was held and some more was written
  pub cut_then : (c : Option (List ℕ)) (cs : List ℕ) → AppendsFront b c (holds ++ cs) → AppendsFront a c (held ++ (bs ++ cs))
  cut_then c cs q = subst (AppendsFront a c) (sym (whole_with cs)) (after_front a b c p.front (holds ++ cs) p.written q)

  -- and then what was held was written, or a prefix of it
  pub gathers_all : (c : Option (List ℕ)) (still : List ℕ) → still ≡ [] → Appends b c holds → Gathers a c held still bs
  gathers_all c still none q = record {
    front = p.front ++ holds;
    whole = p.whole ∙ sym (append-nil (p.front ++ holds)) ∙ ap (λ l. (p.front ++ holds) ++ l) (sym none);
    written = Appends-trans a b c p.front holds p.written q;
  }

  pub cut_all : (c : Option (List ℕ)) → AppendsFront b c holds → AppendsFront a c (held ++ bs)
  cut_all c q = subst (AppendsFront a c) (sym p.whole) (after_front a b c p.front holds p.written q)

  -- all was written
  pub wrote_all : held ≡ [] → holds ≡ [] → Appends a b bs
  wrote_all nothing none = subst (Appends a b) (sym (ap (λ l. l ++ bs) (sym nothing) ∙ p.whole ∙ ap (λ l. p.front ++ l) none ∙ append-nil p.front)) p.written

-- The lines of some events, and those of others.
module _ (names : List (List ℕ)) (a b : Option (List ℕ)) (held : List ℕ) (xs ys : List Event) where
  abbrev text : List Event → List ℕ
  text es = flat_map (line names) es

  in_two : text (xs ++ ys) ≡ text xs ++ text ys
  in_two = flat_map-append (line names) xs ys

  -- a prefix of the first is a prefix of both
  pub cut_early : AppendsFront a b (held ++ text xs) → AppendsFront a b (held ++ text (xs ++ ys))
  cut_early p = subst (AppendsFront a b) (append_assoc held (text xs) (text ys) ∙ ap (λ l. held ++ l) (sym in_two)) (longer_front a b (held ++ text xs) (text ys) p)

  pub gathers_more : (holds : List ℕ) → Gathers a b held holds (text xs) → (c : Option (List ℕ)) (still : List ℕ) → Gathers b c holds still (text ys) → Gathers a c held still (text (xs ++ ys))
  gathers_more holds p c still q = subst (Gathers a c held still) (sym in_two) (gathers_then a b held holds (text xs) p c still (text ys) q)

  pub cut_more : (holds : List ℕ) → Gathers a b held holds (text xs) → (c : Option (List ℕ)) → AppendsFront b c (holds ++ text ys) → AppendsFront a c (held ++ text (xs ++ ys))
  cut_more holds p c q = subst (λ l. AppendsFront a c (held ++ l)) (sym in_two) (cut_then a b held holds (text xs) p c (text ys) q)

-- one of them, and then the others
up_to_next : (xs : List Event) (i : ℕ) (d : Event) → i < length xs → xs ≡ take i xs ++ (get_or xs i d ∷ [] ++ drop (suc i) xs)
up_to_next [] i d within = absurd (omega (arith, within))
up_to_next (y ∷ xs) zero d within = refl
up_to_next (y ∷ xs) (suc i) d within = ap (λ l. y ∷ l) (up_to_next xs i d (omega (arith, within)))

module _ (events : List Event) (i : ℕ) (d : Event) (within : i < length events) where
  abbrev next : Event
  next = get_or events i d

  pub is_one : Includes events next
  is_one = subst (λ l. Includes l next) (sym (up_to_next events i d within)) (Includes-append_right (take i events) (next ∷ drop (suc i) events) next (inl refl))

  module _ (names : List (List ℕ)) (before mid now : Option (List ℕ)) (held holds : List ℕ) (gathered : Gathers before mid held holds (flat_map (line names) (take i events))) where
    pub gathers_next : (still : List ℕ) → Gathers mid now holds still (flat_map (line names) (next ∷ [])) → Gathers before now held still (flat_map (line names) (take (i + 1) events))
    gathers_next still q = subst (λ es. Gathers before now held still (flat_map (line names) es)) (sym (take_more events i d within))
        (gathers_more names before mid held (take i events) (next ∷ []) holds gathered now still q)

    -- after a cut, a prefix of what was held and of all lines was written
    pub wrote_part : AppendsFront mid now (holds ++ flat_map (line names) (next ∷ [])) → AppendsFront before now (held ++ flat_map (line names) events)
    wrote_part part = subst (λ es. AppendsFront before now (held ++ flat_map (line names) es)) (sym (up_to_next events i d within))
        (cut_more names before mid held (take i events) (next ∷ [] ++ drop (suc i) events) holds gathered now (cut_early names mid now holds (next ∷ []) (drop (suc i) events) part))
