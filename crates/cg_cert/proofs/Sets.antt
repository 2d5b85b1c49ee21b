-- The sets found are right exactly if their marks are those of the searches.
use Rattle.std.proofs.Common.{◌≡◌, sym, ◌∙◌, ap, subst, ℕ, ◌<◌, Bool, true, false, not, List, length, Some, arith, map, replicate}
use Rattle.std.specs.Prelude.{◌↔◌, slice_get}
use Rattle.std.specs.List.{concat}
use Rattle.std.specs.Global.{Vec}
use Rattle.std.proofs.lemmas.List.{length-map, length-replicate, get_or-replicate}
use Rattle.std.proofs.lemmas.Option.{slice_get-get_or, slice_get_within}
use Rattle.cg_graph.specs.declared.Edge.{Edge}
use Rattle.cg_graph.specs.Member.{Includes}
use Rattle.cg_graph.specs.Reach.{Reach, first, next}
use Rattle.cg_search.specs.Places.{Marks, Leads}
use Rattle.cg_search.proofs.Places.{includes_at}
use Rattle.cg_search.proofs.Trails.{get_below}
use Rattle.cg_records.specs.declared.graph.Member.{Member}
use Rattle.cg_records.specs.declared.graph.Graph.{Graph}
use Rattle.cg_cert.specs.declared.graph.Located.{Located}
use Rattle.cg_cert.specs.Judged.{serials_of, edges_of, IsMember, IsHeld, IsMarked, IsLost, IsSetAside, FindsLost, FindsSetAside}
use Rattle.cg_cert.specs.Positions.{IsLocated, ExceedEach, rows_in}
use Rattle.cg_cert.proofs.Judging.{mapped_at, from_mapped, held_there, held_back, marked_there, marked_back, led_there, reach_back, finds_same, targets_within}

all_marked : (n i : ℕ) → i < n → Marks (replicate n true) i
all_marked n i within = slice_get-get_or (replicate n true) i false (omega (arith, within, length-replicate n true)) ∙ ap Some (get_or-replicate n i true false within)

reach_inside : {Held Inside : ℕ → Type 0} {arrows : List Edge} {o : ℕ} → Reach Held Inside arrows o → Inside o
reach_inside (first h m) = m
reach_inside (next r a m) = m

module _ (g : Graph) (l : Located) (located : IsLocated g l) where
  -- the set found is what is reached from outside, and the other members are lost
  module _ (held : List Bool) (exceed : ExceedEach g.members held) (found : List Bool) (long : length found ≡ length g.members)
      (led : (i : ℕ) → Marks found i ↔ Leads held (replicate (length g.members) true) (rows_in l.rows.items) i) where
    reaches : (i o : ℕ) → slice_get (serials_of g.members) i ≡ Some o → Marks found i ↔ Reach (IsHeld g.members) (IsMember g.members) (edges_of g.members) o
    reaches i o at = (
      λ m. led_there g.members (rows_in l.rows.items) located.once located.rows held (replicate (length g.members) true) (IsHeld g.members) (IsMember g.members)
          (held_there g.members (rows_in l.rows.items) located.once located.rows held exceed) (λ j p there m. includes_at (serials_of g.members) j p there) i ((led i).0 m) o at,
      λ r. (led i).1 (reach_back g.members (rows_in l.rows.items) located.once located.rows held (replicate (length g.members) true) (IsHeld g.members) (IsMember g.members)
          (held_back g.members (rows_in l.rows.items) located.once located.rows held exceed)
          (λ j p there m. all_marked (length g.members) j (omega (arith, slice_get_within (serials_of g.members) j p there, length-map g.members (λ (m : Member). m.serial)))) o r i at),
    )

    unreached : (i o : ℕ) → slice_get (serials_of g.members) i ≡ Some o → Marks (map not found) i ↔ IsLost g.members o
    unreached i o at = (there, back)
      where
        there : Marks (map not found) i → IsLost g.members o
        there m =
            let (b, here, is) = from_mapped not found i true m in
            record { member = includes_at (serials_of g.members) i o at; no_path = λ r. clash b here is ((reaches i o at).1 r) }
          where
            clash : (b : Bool) → slice_get found i ≡ Some b → not b ≡ true → Marks found i → ⊥
            clash true here is m = absurd (cc)
            clash false here is m = absurd (cc)

        back : IsLost g.members o → Marks (map not found) i
        back lost = let (b, here) = get_below found i (omega (arith, long, slice_get_within (serials_of g.members) i o at, length-map g.members (λ (m : Member). m.serial))) in go b here
          where
            go : (b : Bool) → slice_get found i ≡ Some b → Marks (map not found) i
            go true here = absurd (lost.no_path ((reaches i o at).0 here))
            go false here = mapped_at not found i false here

    pub lost_same : (map not found ≡ l.lost.items) ↔ FindsLost g
    lost_same =
        finds_same (serials_of g.members) g.lost (IsLost g.members) l.lost.items (map not found) located.lost (omega (
          arith,
          long,
          length-map found not,
          length-map g.members (λ (m : Member). m.serial),
        )) unreached located.names.lost (λ o p. p.member)

  -- the set found is what paths of lost members lead to from a marked one
  module _ (right : FindsLost g) (found : List Bool) (long : length found ≡ length g.members) (led : (i : ℕ)
      → Marks found i ↔ Leads (map (λ (m : Member). m.legacy) g.members) l.lost.items (rows_in l.rows.items) i) where
    sets_aside : (i o : ℕ) → slice_get (serials_of g.members) i ≡ Some o → Marks found i ↔ IsSetAside g.members o
    sets_aside i o at = (
      λ m. led_there g.members (rows_in l.rows.items) located.once located.rows (map (λ (m : Member). m.legacy) g.members) l.lost.items (IsMarked g.members) (IsLost g.members)
          (marked_there g.members (rows_in l.rows.items) located.once located.rows) (λ j p there m. (right p).0 ((located.lost.marked j p there).0 m)) i ((led i).0 m) o at,
      λ r. (led i).1 (reach_back g.members (rows_in l.rows.items) located.once located.rows (map (λ (m : Member). m.legacy) g.members) l.lost.items (IsMarked g.members) (IsLost g.members)
          (marked_back g.members (rows_in l.rows.items) located.once located.rows) (λ j p there m. (located.lost.marked j p there).1 ((right p).1 m)) o r i at),
    )

    pub legacy_same : (found ≡ l.legacy.items) ↔ FindsSetAside g
    legacy_same =
        finds_same (serials_of g.members) g.legacy (IsSetAside g.members) l.legacy.items found located.legacy
        (omega (arith, long, length-map g.members (λ (m : Member). m.serial))) sets_aside located.names.legacy (λ o p. (reach_inside p).member)

-- equivalences compose
through : {A B C : Type 0} → A ↔ B → B ↔ C → A ↔ C
through f g = (λ a. g.0 (f.0 a), λ c. f.1 (g.1 c))

-- the result of a search with these arguments
led_by : (found starts allowed starts' allowed' : List Bool) (vecs vecs' : List (Vec ℕ)) → starts ≡ starts' → allowed ≡ allowed' → vecs ≡ vecs'
    → ((i : ℕ) → Marks found i ↔ Leads starts allowed (rows_in vecs) i) → (i : ℕ)
    → Marks found i ↔ Leads starts' allowed' (rows_in vecs') i
led_by found starts allowed starts' allowed' vecs vecs' a b c led i =
    subst (λ (xs : List Bool). Marks found i ↔ Leads xs allowed' (rows_in vecs') i) a
    (subst (λ (xs : List Bool). Marks found i ↔ Leads starts xs (rows_in vecs') i) b (subst (λ (vs : List (Vec ℕ)). Marks found i ↔ Leads starts allowed (rows_in vs) i) c (led i)))

-- the answer of `finds_lost`
pub lost_answer : (g : Graph) (l : Located) → IsLocated g l → (held : List Bool) → ExceedEach g.members held → (found starts allowed unreachable lost : List Bool) (vecs : List (Vec ℕ)) (right : Bool)
    → starts ≡ held → allowed ≡ replicate (length g.members) true → vecs ≡ l.rows.items → length found ≡ length allowed → ((i : ℕ) → Marks found i ↔ Leads starts allowed (rows_in vecs) i)
    → unreachable ≡ map not found → lost ≡ l.lost.items → (right ≡ true) ↔ (unreachable ≡ lost) → (right ≡ true) ↔ FindsLost g
lost_answer g l located held exceed found starts allowed unreachable lost vecs right a b c long led e f answer =
    through answer
    (through (λ same. sym e ∙ same ∙ f, λ same. e ∙ same ∙ sym f)
    (lost_same g l located held exceed found (long ∙ ap length b ∙ length-replicate (length g.members) true)
    (led_by found starts allowed held (replicate (length g.members) true) vecs l.rows.items a b c led)))

-- the answer of `finds_set_aside`
pub legacy_answer : (g : Graph) (l : Located) → IsLocated g l → FindsLost g → (found starts allowed same legacy : List Bool) (vecs : List (Vec ℕ)) (right : Bool)
    → starts ≡ map (λ (m : Member). m.legacy) g.members → allowed ≡ l.lost.items → vecs ≡ l.rows.items → length found ≡ length allowed
    → ((i : ℕ) → Marks found i ↔ Leads starts allowed (rows_in vecs) i)
    → same ≡ found → legacy ≡ l.legacy.items → (right ≡ true) ↔ (same ≡ legacy) → (right ≡ true) ↔ FindsSetAside g
legacy_answer g l located finds found starts allowed same legacy vecs right a b c long led e f answer =
    through answer
    (through (λ is. sym e ∙ is ∙ f, λ is. e ∙ is ∙ sym f)
    (legacy_same g l located finds found (omega (arith, long, ap length b, located.lost.len, length-map g.members (λ (m : Member). m.serial)))
    (led_by found starts allowed (map (λ (m : Member). m.legacy) g.members) l.lost.items vecs l.rows.items a b c led)))

-- each target is a position of the marks
pub search_within : (g : Graph) (l : Located) → IsLocated g l → (allowed : List Bool) (vecs : List (Vec ℕ)) → vecs ≡ l.rows.items → length allowed
    ≡ length g.members → (i : ℕ) → Includes (concat (rows_in vecs)) i → i < length allowed
search_within g l located allowed vecs c long i h =
    let below = targets_within g.members (rows_in l.rows.items) located.once located.rows i (subst (λ (vs : List (Vec ℕ)). Includes (concat (rows_in vs)) i) c h) in
    omega (arith, below, long)
