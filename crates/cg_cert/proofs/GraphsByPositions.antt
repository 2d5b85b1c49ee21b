-- A well-named graph by positions, and the faults of a graph.
use Rattle.std.proofs.Common.{◌≡◌, refl, sym, ◌∙◌, ap, subst, ℕ, zero, suc, ◌<◌, Bool, true, false, List, [], ◌∷◌, Some, arith}
use Rattle.std.specs.Prelude.{◌↔◌}
use Rattle.std.specs.List.{concat}
use Rattle.std.specs.Global.{Vec}
use Rattle.std.proofs.lemmas.Bool.{cases_eq}
use Rattle.cg_graph.specs.Holdings.{occurrences}
use Rattle.cg_graph.proofs.Members.{either}
use Rattle.cg_search.proofs.Places.{includes_at, place_in, occurrences-same, occurrences-other, occurs_in}
use Rattle.cg_records.specs.declared.graph.Graph.{Graph}
use Rattle.cg_cert.specs.declared.graph.Located.{Located}
use Rattle.cg_cert.specs.declared.table.Places.{Places}
use Rattle.cg_cert.specs.Judged.{serials_of, references_of, IsOnceEach, IsWellNamed, CoversReferences, FindsLost, FindsSetAside, IsRight, HasFault, too_low, loses, sets_aside, part}
use Rattle.cg_cert.specs.Positions.{Tells, ArePlacedOnce, AreNames, IsSetOf, AreRowsOf, MarksAll, IsLocated, CountTargets, CountReferences, rows_in}
use Rattle.cg_cert.proofs.Ascending.{told_once}
use Rattle.cg_cert.proofs.Judging.{counts_there, named_row, rows_joined}

pub differs : ◌≡◌ {A = Bool} false true → ⊥
differs e = absurd (cc)

-- if each name is at one place, each occurs once
once_from_placed : (xs : List ℕ) → ArePlacedOnce xs → IsOnceEach xs
once_from_placed [] placed o = omega arith
once_from_placed (x ∷ xs) placed o = either (cases_eq x o) same
    (λ n. omega (arith, occurrences-other o x xs n, once_from_placed xs (λ p i j a b. let e = placed p (suc i) (suc j) a b in omega (arith, e)) o))
  where
    none : (n : ℕ) → occurrences o xs ≡ n → x ≡ o → n ≡ 0
    none zero is e = refl
    none (suc n) is e =
        let found = place_in xs o (occurs_in xs o (omega (arith, is))) in
        let clash : 0 ≡ suc found.0 = placed o 0 (suc found.0) (ap Some e) found.1 in
        absurd (omega (arith, clash))

    same : x ≡ o → occurrences o (x ∷ xs) < 2
    same e = omega (arith, occurrences-same o x xs e, none (occurrences o xs) refl e)

-- the sets of a well-named graph
pub lost_set : (g : Graph) → IsWellNamed g → IsSetOf (serials_of g.members) g.lost
lost_set g well = record { once = well.lost_once; named = well.lost }

pub legacy_set : (g : Graph) → IsWellNamed g → IsSetOf (serials_of g.members) g.legacy
legacy_set g well = record { once = well.legacy_once; named = well.legacy }

-- each reference is in a row
names_of_rows : (g : Graph) (rows : List (List ℕ)) → AreRowsOf (serials_of g.members) g.members rows → AreNames (serials_of g.members) (references_of g.members)
names_of_rows g rows are o h =
    let (j, in_row, at) = named_row (serials_of g.members) (references_of g.members) (concat rows) (rows_joined (serials_of g.members) g.members rows are) o h in
    includes_at (serials_of g.members) j o at

-- the graph by positions
pub located_all : (g : Graph) (places : Places) (l : Located) → Tells (serials_of g.members) places → AreRowsOf (serials_of g.members) g.members
    (rows_in l.rows.items) → MarksAll (serials_of g.members) g.lost l.lost.items
    → IsSetOf (serials_of g.members) g.lost → MarksAll (serials_of g.members) g.legacy l.legacy.items → IsSetOf (serials_of g.members) g.legacy → IsLocated g l
located_all g places l tells rows lost lost_is legacy legacy_is =
    let once = told_once (serials_of g.members) places tells in
    record {
      names = record {
        members = once_from_placed (serials_of g.members) once;
        references = names_of_rows g (rows_in l.rows.items) rows;
        lost_once = lost_is.once;
        lost = lost_is.named;
        legacy_once = legacy_is.once;
        legacy = legacy_is.named;
      };
      once = once;
      rows = rows;
      lost = lost;
      legacy = legacy;
    }

module _ (g : Graph) (l : Located) (located : IsLocated g l) where
  -- the counts of these rows
  pub counts_of : (vecs : List (Vec ℕ)) (counts : List ℕ) → vecs ≡ l.rows.items → CountTargets (rows_in vecs) counts → CountReferences g.members counts
  counts_of vecs counts e h = counts_there g.members (rows_in l.rows.items) located.once located.rows counts (subst (λ (vs : List (Vec ℕ)). CountTargets (rows_in vs) counts) e h)

  pub fault_of_degrees : (is_first : Bool) (right : Bool) → (right ≡ true) ↔ CoversReferences g.members → right ≡ false → HasFault (part is_first g) 3
  fault_of_degrees is_first right answer off = too_low located.names (λ covers. differs (sym off ∙ answer.1 covers))

  pub fault_of_lost : (is_first : Bool) (right : Bool) → CoversReferences g.members → (right ≡ true) ↔ FindsLost g → right ≡ false → HasFault (part is_first g) 4
  fault_of_lost is_first right covers answer off = loses located.names covers (λ finds. differs (sym off ∙ answer.1 finds))

  pub fault_of_legacy : (is_first : Bool) (right : Bool) → is_first ≡ true → CoversReferences g.members → FindsLost g → (right ≡ true) ↔ FindsSetAside g → right ≡ false → HasFault (part is_first g) 5
  fault_of_legacy is_first right is covers finds answer off = sets_aside located.names covers finds is (λ found. differs (sym off ∙ answer.1 found))

  pub right_of : (is_first : Bool) → CoversReferences g.members → FindsLost g → (is_first ≡ true → FindsSetAside g) → IsRight (part is_first g)
  right_of is_first covers finds aside = record { names = located.names; degrees = covers; lost = finds; set_aside = aside }
