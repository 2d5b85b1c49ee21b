-- The search finds objects in order, so that the path by which one is found is the first of the shortest ones.
use Rattle.std.proofs.Common.{◌≡◌, refl, sym, ◌∙◌, ap, subst, ℕ, ◌+◌, ◌<◌, ◌≤◌, ◌⊎◌, inl, inr, List, [], ◌∷◌, ◌++◌, length, reverse, Option, Some, None, arith, length-append, append_assoc}
use Rattle.std.specs.Prelude.{slice_get}
use Rattle.std.proofs.lemmas.Bool.{cases_eq, cases_lt}
use Rattle.std.proofs.lemmas.List.{append-nil, length-reverse}
use Rattle.std.proofs.lemmas.Option.{slice_get_within, same_Some}
use Rattle.std.proofs.lemmas.Grind.{reverse_onto}
use Rattle.cg_graph.specs.declared.Edge.{Edge}
use Rattle.cg_graph.specs.Member.{Includes}
use Rattle.cg_graph.specs.Path.{IsPath, LeadsTo, IsShortestPath}
use Rattle.cg_graph.proofs.Members.{either, Includes-map_cases}
use Rattle.cg_search.specs.Walks.{Findings, objects_in, IsStart, TrailBy, IsTrailOf, IsOver, IsPathBack}
use Rattle.cg_search.proofs.Trails.{get_left, get_cases, get_in, in_get, get_below, one_place, lengthen_get, trail_at, found_of, shortest_path}
use Rattle.cg_graph.specs.Store.{Store}
use Rattle.cg_inspect.specs.Inspection.{HeldElse, arrows_of}
use Rattle.cg_inspect.specs.Order.{references_by, position_among, PartsBefore, ComesBefore, ComesFirst}
use Rattle.cg_inspect.specs.Findings.{RiseBy, FindsInOrder, IsFollowedFirst, StandsFirst, IsNoLater, AreInOrder}

-- At first there are only those that roots hold.
pub order_first : (refs : ℕ → List ℕ) (Held : ℕ → Type 0) (found : Findings) → IsStart Held found → RiseBy (λ o. o) found → AreInOrder refs found 0
order_first refs Held found start rise = record {
  in_turn = λ i k o p h g less a b. go o p h g (root i o h a) (root k p g b) (rise i k (o, h) (p, g) less a b);
  behind = λ i o j a. let e : Some j ≡ None = root i o (Some j) a in absurd (cc);
  first = λ j o p h low a m. absurd (omega (arith, low));
}
  where
    root : (i o : ℕ) (h : Option ℕ) → slice_get found i ≡ Some (o, h) → h ≡ None
    root i o h a = (start.only (o, h) (get_in found i (o, h) a)).1

    go : (o p : ℕ) (h g : Option ℕ) → h ≡ None → g ≡ None → o < p → StandsFirst refs found h o g p
    go o p None None d e less = less
    go o p None (Some k) d e less = tt
    go o p (Some j) g d e less = absurd (cc)

-- One turn: the references of the object at the place are found.
module _ (refs : ℕ → List ℕ) (found new : Findings) (place o : ℕ) (holder : Option ℕ) (h : AreInOrder refs found place)
    (at : slice_get found place ≡ Some (o, holder)) (f : FindsInOrder found (refs o) (Some place) new) where
  abbrev more : Findings
  more = f.finds.more

  abbrev all : Findings
  all = found ++ more

  by_place : (i p : ℕ) (g : Option ℕ) → slice_get more i ≡ Some (p, g) → g ≡ Some place
  by_place i p g a = (f.finds.only (p, g) (get_in more i (p, g) a)).1

  stays : (d g : Option ℕ) (p q : ℕ) → StandsFirst refs found d p g q → StandsFirst refs all d p g q
  stays None None p q s = s
  stays None (Some k) p q s = tt
  stays (Some j) None p q s = absurd s
  stays (Some j) (Some k) p q s = either s (λ l. inl l) (λ r. inr (r.0, (r.1.0, get_left found more j r.1.0 r.1.1, r.1.2)))

  before_more : (i p q : ℕ) (d g : Option ℕ) → slice_get found i ≡ Some (p, d) → g ≡ Some place → StandsFirst refs all d p g q
  before_more i p q None (Some k) a e = tt
  before_more i p q (Some j) (Some k) a e = let same = same_Some k place e in inl (omega (arith, same, h.behind i p j a))
  before_more i p q m None a e = absurd (cc)

  among_more : (p q : ℕ) (d g : Option ℕ) → d ≡ Some place → g ≡ Some place → position_among (refs o) p < position_among (refs o) q
      → StandsFirst refs all d p g q
  among_more p q (Some j) (Some k) d e less =
      let one = same_Some j place d in
      let two = same_Some k place e in
      inr (one ∙ sym two, ((o, holder), ap (slice_get all) one ∙ get_left found more place (o, holder) at, less))
  among_more p q m g d e less = absurd (cc)

  in_turn : (i k p q : ℕ) (d g : Option ℕ) → i < k → slice_get all i ≡ Some (p, d) → slice_get all k ≡ Some (q, g) → StandsFirst refs all d p g q
  in_turn i k p q d g less a b = elim (get_cases found more i (p, d) a) [
    | inl x ↦ elim (get_cases found more k (q, g) b) [
      | inl y ↦ stays d g p q (h.in_turn i k p q d g less x y)
      | inr y ↦ before_more i p q d g x (by_place y.0 q g y.2)
    ]
    | inr x ↦ elim (get_cases found more k (q, g) b) [
      | inl y ↦ let low = slice_get_within found k (q, g) y in absurd (omega (arith, less, x.1, low))
      | inr y ↦
          among_more p q d g (by_place x.0 p d x.2) (by_place y.0 q g y.2)
          (f.order x.0 y.0 (p, d) (q, g) (omega (arith, less, x.1, y.1)) x.2 y.2)
    ]
  ]

  behind : (i p j : ℕ) → slice_get all i ≡ Some (p, Some j) → j < place + 1
  behind i p j a = elim (get_cases found more i (p, Some j) a) [
    | inl x ↦ omega (arith, h.behind i p j x)
    | inr x ↦ omega (arith, same_Some j place (by_place x.0 p (Some j) x.2))
  ]

  no_later : (i p : ℕ) (g : Option ℕ) (j : ℕ) → slice_get all i ≡ Some (p, g) → place ≤ j → IsNoLater g j
  no_later i p None j a low = tt
  no_later i p (Some k) j a low = omega (arith, behind i p k a, low)

  first : (j q p : ℕ) (d : Option ℕ) → j < place + 1 → slice_get all j ≡ Some (q, d) → Includes (refs q) p
      → (i : ℕ) × (g : Option ℕ) × (slice_get all i ≡ Some (p, g)) × IsNoLater g j
  first j q p d low a m = elim (cases_lt j place) [
    | inl less ↦ let r = h.first j q p d less before m in (r.0, r.1, get_left found more r.0 (p, r.1) r.2, r.3)
    | inr high ↦
        let same : j ≡ place = omega (arith, low, high) in
        let one : (q, d) ≡ (o, holder) = same_Some (q, d) (o, holder) (sym before ∙ ap (slice_get found) same ∙ at) in
        let here : Includes (refs o) p = subst (λ x. Includes (refs x) p) (ap (λ (e : ℕ × Option ℕ). e.0) one) m in
        let in_all = subst (λ (es : Findings). Includes (objects_in es) p) f.finds.is (f.finds.all p here) in
        let named = Includes-map_cases (λ (e : ℕ × Option ℕ). e.0) all p in_all in
        let place_of = in_get all named.0 named.1 in
        (place_of.0, named.0.1, place_of.1 ∙ ap (λ x. Some (x, named.0.1)) named.2, no_later place_of.0 named.0.0 named.0.1 j place_of.1 high)
  ]
    where
      before : slice_get found j ≡ Some (q, d)
      before = elim (get_cases found more j (q, d) a) [
        | inl x ↦ x
        | inr x ↦ let within = slice_get_within found place (o, holder) at in absurd (omega (arith, low, within, x.1))
      ]

  pub order_more : AreInOrder refs new (place + 1)
  order_more =
      subst (λ (es : Findings). AreInOrder refs es (place + 1)) (sym f.finds.is)
      (record { in_turn = in_turn; behind = behind; first = first })

-- A trail is up to a path: it is shorter, or the path itself from its end, or its path comes before.
data IsUpTo (refs : ℕ → List ℕ) (t w : List ℕ) : Type 0 where
  Shorter : length t < length w → IsUpTo refs t w
  Same : reverse t ≡ w → IsUpTo refs t w
  Earlier : length t ≡ length w → ComesBefore refs (reverse t) w → IsUpTo refs t w

-- Paths in order.
module _ (refs : ℕ → List ℕ) where
  parts_longer : (number : ℕ → ℕ) (xs ys : List ℕ) (a b : ℕ) → PartsBefore number refs xs ys → PartsBefore number refs (xs ++ a ∷ []) (ys ++ b ∷ [])
  parts_longer number (x ∷ xs) (y ∷ ys) a b (inl less) = inl less
  parts_longer number (x ∷ xs) (y ∷ ys) a b (inr h) = inr (h.0, parts_longer (position_among (refs x)) xs ys a b h.1)
  parts_longer number xs ys a b h = absurd h

  parts_last : (number : ℕ → ℕ) (front : List ℕ) (q a b : ℕ) → position_among (refs q) a < position_among (refs q) b
      → PartsBefore number refs ((front ++ q ∷ []) ++ a ∷ []) ((front ++ q ∷ []) ++ b ∷ [])
  parts_last number [] q a b less = inr (refl, inl less)
  parts_last number (x ∷ front) q a b less = inr (refl, parts_last (position_among (refs x)) front q a b less)

  parts_trans : (number : ℕ → ℕ) (xs ys zs : List ℕ) → PartsBefore number refs xs ys → PartsBefore number refs ys zs → PartsBefore number refs xs zs
  parts_trans number (x ∷ xs) (y ∷ ys) [] g h = absurd h
  parts_trans number (x ∷ xs) (y ∷ ys) (z ∷ zs) (inl g) (inl h) = inl (omega (arith, g, h))
  parts_trans number (x ∷ xs) (y ∷ ys) (z ∷ zs) (inl g) (inr h) = inl (subst (λ w. number x < number w) h.0 g)
  parts_trans number (x ∷ xs) (y ∷ ys) (z ∷ zs) (inr g) (inl h) = inl (subst (λ w. number w < number z) (sym g.0) h)
  parts_trans number (x ∷ xs) (y ∷ ys) (z ∷ zs) (inr g) (inr h) =
      inr (
        g.0 ∙ h.0,
        parts_trans (position_among (refs x)) xs ys zs g.1
            (subst (λ w. PartsBefore (position_among (refs w)) refs ys zs) (sym g.0) h.1),
      )
  parts_trans number xs ys zs g h = absurd g

  parts_strict : (number : ℕ → ℕ) (xs : List ℕ) → ¬ PartsBefore number refs xs xs
  parts_strict number [] h = absurd h
  parts_strict number (x ∷ xs) (inl less) = absurd (omega (arith, less))
  parts_strict number (x ∷ xs) (inr h) = parts_strict (position_among (refs x)) xs h.1

  no_longer : (t w : List ℕ) → IsUpTo refs t w → length t ≤ length w
  no_longer t w (Shorter less) = omega (arith, less)
  no_longer t w (Same is) = let e = ap length is in omega (arith, e, length-reverse t)
  no_longer t w (Earlier len b) = omega (arith, len)

  up_longer : (t w : List ℕ) (p : ℕ) → IsUpTo refs t w → IsUpTo refs (p ∷ t) (w ++ p ∷ [])
  up_longer t w p (Shorter less) = Shorter (omega (arith, less, length-append w (p ∷ [])))
  up_longer t w p (Same is) = Same (reverse_onto t p [] ∙ ap (λ (l : List ℕ). l ++ p ∷ []) is)
  up_longer t w p (Earlier len b) =
      Earlier (omega (arith, len, length-append w (p ∷ [])))
      (subst (λ (l : List ℕ). ComesBefore refs l (w ++ p ∷ [])) (sym (reverse_onto t p [])) (parts_longer (λ o. o) (reverse t) w p p b))

  up_earlier : (s t w : List ℕ) → length s ≡ length t → ComesBefore refs (reverse s) (reverse t) → IsUpTo refs t w → IsUpTo refs s w
  up_earlier s t w len b (Shorter less) = Shorter (omega (arith, len, less))
  up_earlier s t w len b (Same is) =
      Earlier (let e = ap length is in omega (arith, len, e, length-reverse t))
      (subst (ComesBefore refs (reverse s)) is b)
  up_earlier s t w len b (Earlier l c) = Earlier (omega (arith, len, l)) (parts_trans (λ o. o) (reverse s) (reverse t) w b c)

  -- At the end no path comes before the trail of an object.
  module _ (Held : ℕ → Type 0) (arrows : List Edge) (out : (o p : ℕ) → Includes arrows (record { from = o; to = p }) → Includes (refs o) p)
      (found : Findings) (h : IsOver Held arrows found) (ord : AreInOrder refs found (length found)) where
    entry_at : (i : ℕ) (t : List ℕ) → slice_get h.trails i ≡ Some t → (e : ℕ × Option ℕ) × (slice_get found i ≡ Some e) × TrailBy h.trails i e.0 e.1 t
    entry_at i t at =
        let low = slice_get_within h.trails i t at in
        let e = get_below found i (omega (arith, low, h.have.many)) in
        let r = h.have.each i e.0 e.1 in
        let same : r.0 ≡ t = same_Some r.0 t (sym r.1 ∙ at) in
        (e.0, e.1, subst (λ (u : List ℕ). TrailBy h.trails i e.0.0 e.0.1 u) same r.2)

    begins_with : (i o : ℕ) (g : Option ℕ) (t : List ℕ) → slice_get found i ≡ Some (o, g) → slice_get h.trails i ≡ Some t
        → (rest : List ℕ) × (t ≡ o ∷ rest)
    begins_with i o g t at is = let r = trail_at found h.trails h.have i o g at in (r.0, same_Some t (o ∷ r.0) (sym is ∙ r.1))

    not_empty : (i : ℕ) (t : List ℕ) → slice_get h.trails i ≡ Some t → 0 < length t
    not_empty i t at =
        let e = entry_at i t at in
        let r = begins_with i e.0.0 e.0.1 t e.1 at in
        let len = ap length r.1 in
        omega (arith, len)

    by_holders : (a b : ℕ) (s r : List ℕ) (i k o p : ℕ) (d g : Option ℕ) → length s ≡ length r → TrailBy h.trails i o d (a ∷ s)
        → TrailBy h.trails k p g (b ∷ r) → StandsFirst refs found d o g p
        → ((j l : ℕ) → slice_get h.trails j ≡ Some s → slice_get h.trails l ≡ Some r → j < l → length s ≡ length r
        → ComesBefore refs (reverse s) (reverse r))
        → ComesBefore refs (reverse (a ∷ s)) (reverse (b ∷ r))
    by_holders a b s r i k o p None None len x y stands rec =
        subst (λ (l : List ℕ). ComesBefore refs (reverse l) (reverse (b ∷ r))) (sym x)
        (subst (λ (l : List ℕ). ComesBefore refs (reverse (o ∷ [])) (reverse l)) (sym y) (inl stands))
    by_holders a b s r i k o p None (Some l) len x y stands rec =
        let one = ap length x in
        let two = ap length y.1.2 in
        let some = not_empty l y.1.0 y.1.1 in
        absurd (omega (arith, len, one, two, some))
    by_holders a b s r i k o p (Some j) None len x y stands rec = absurd stands
    by_holders a b s r i k o p (Some j) (Some l) len x y stands rec =
        let rest : x.1.0 ≡ s = tails x.1.2 in
        let other : y.1.0 ≡ r = tails y.1.2 in
        let first : slice_get h.trails j ≡ Some s = x.1.1 ∙ ap Some rest in
        let last : slice_get h.trails l ≡ Some r = y.1.1 ∙ ap Some other in
        subst (λ (q : List ℕ). ComesBefore refs q (reverse (b ∷ r))) (sym (reverse_onto s a []))
        (subst (λ (q : List ℕ). ComesBefore refs (reverse s ++ a ∷ []) q) (sym (reverse_onto r b []))
        (either stands (λ less. parts_longer (λ o. o) (reverse s) (reverse r) a b (rec j l first last less len))
        (λ one. siblings o p (heads x.1.2) (heads y.1.2) first last one.0 one.1)))
      where
        heads : {c q : ℕ} {u v : List ℕ} → c ∷ u ≡ q ∷ v → q ≡ c
        heads e = cc

        tails : {c q : ℕ} {u v : List ℕ} → c ∷ u ≡ q ∷ v → v ≡ u
        tails e = cc

        siblings : (o p : ℕ) → o ≡ a → p ≡ b → slice_get h.trails j ≡ Some s → slice_get h.trails l ≡ Some r → j ≡ l
            → IsFollowedFirst refs found j o p → ComesBefore refs (reverse s ++ a ∷ []) (reverse r ++ b ∷ [])
        siblings o p oa pb first last same by =
            let one : s ≡ r = same_Some s r (sym first ∙ ap (slice_get h.trails) same ∙ last) in
            let q = begins_with j by.0.0 by.0.1 s by.1 first in
            let whole : reverse s ≡ reverse q.0 ++ by.0.0 ∷ [] = ap reverse q.1 ∙ reverse_onto q.0 by.0.0 [] in
            let less : position_among (refs by.0.0) a < position_among (refs by.0.0) b =
            subst (λ c. position_among (refs by.0.0) c < position_among (refs by.0.0) b) oa
            (subst (λ c. position_among (refs by.0.0) o < position_among (refs by.0.0) c) pb by.2) in
            subst (λ (l : List ℕ). ComesBefore refs (reverse s ++ a ∷ []) (reverse l ++ b ∷ [])) one
            (subst (λ (l : List ℕ). ComesBefore refs (l ++ a ∷ []) (l ++ b ∷ [])) (sym whole) (parts_last (λ o. o) (reverse q.0) by.0.0 a b less))

    -- Of two trails as long as each other, the one that was found earlier comes before.
    ranked : (t u : List ℕ) (i k : ℕ) → slice_get h.trails i ≡ Some t → slice_get h.trails k ≡ Some u → i < k → length t ≡ length u
        → ComesBefore refs (reverse t) (reverse u)
    ranked [] u i k at then less len = let some = not_empty i [] at in absurd (omega (arith, some))
    ranked (a ∷ s) [] i k at then less len = absurd (omega (arith, len))
    ranked (a ∷ s) (b ∷ r) i k at then less len =
        let e = entry_at i (a ∷ s) at in
        let f = entry_at k (b ∷ r) then in
        by_holders a b s r i k e.0.0 f.0.0 e.0.1 f.0.1 (omega (arith, len)) e.2 f.2
        (ord.in_turn i k e.0.0 f.0.0 e.0.1 f.0.1 less e.1 f.1) (λ j l. ranked s r j l)

    -- one step along a path
    up_step : (o p j : ℕ) (t w : List ℕ) → slice_get h.trails j ≡ Some t → IsTrailOf o t → IsUpTo refs t w
        → Includes arrows (record { from = o; to = p })
        → (i : ℕ) × (u : List ℕ) × (slice_get h.trails i ≡ Some u) × IsTrailOf p u × IsUpTo refs u (w ++ p ∷ [])
    up_step o p j t w at ends up arrow =
        let e = entry_at j t at in
        let same : e.0.0 ≡ o = begins e.0.0 (begins_with j e.0.0 e.0.1 t e.1 at) in
        let low = slice_get_within found j e.0 e.1 in
        let r = ord.first j o p e.0.1 low (e.1 ∙ ap (λ x. Some (x, e.0.1)) same) (out o p arrow) in
        let d = h.have.each r.0 (p, r.1) r.2 in
        by_holder r.1 r.0 d.0 r.3 d.1 d.2
      where
        begins : (q : ℕ) → (rest : List ℕ) × (t ≡ q ∷ rest) → q ≡ o
        begins q r = subst (IsTrailOf o) r.1 ends

        up_holder : (l : ℕ) (s : List ℕ) → slice_get h.trails l ≡ Some s → l ≤ j → IsUpTo refs s w
        up_holder l s is low = elim (cases_eq l j) [
          | inl same ↦ subst (λ (x : List ℕ). IsUpTo refs x w) (same_Some t s (sym at ∙ ap (slice_get h.trails) (sym same) ∙ is)) up
          | inr differs ↦
              let less : l < j = omega (arith, low, differs) in
              let no_more = lengthen_get h.trails h.lengthen l j s t is at less in
              elim (cases_eq (length s) (length t)) [
                | inl len ↦ up_earlier s t w len (ranked s t l j is at less len) up
                | inr other ↦ Shorter (omega (arith, no_more, other, no_longer t w up))
              ]
        ]

        by_holder : (g : Option ℕ) (i : ℕ) (u : List ℕ) → IsNoLater g j → slice_get h.trails i ≡ Some u → TrailBy h.trails i p g u
            → (i : ℕ) × (u : List ℕ) × (slice_get h.trails i ≡ Some u) × IsTrailOf p u × IsUpTo refs u (w ++ p ∷ [])
        by_holder None i u low is by =
            let len = ap length by in
            (i, u, is, subst (IsTrailOf p) (sym by) refl, Shorter (omega (arith, len, length-append w (p ∷ []), no_longer t w up, not_empty j t at)))
        by_holder (Some l) i u low is by = (
          i,
          u,
          is,
          subst (IsTrailOf p) (sym by.1.2) refl,
          subst (λ (x : List ℕ). IsUpTo refs x (w ++ p ∷ [])) (sym by.1.2) (up_longer by.1.0 w p (up_holder l by.1.0 by.1.1 low)),
        )

    along : (object : ℕ) (path : List ℕ) (o j : ℕ) (t w : List ℕ) → slice_get h.trails j ≡ Some t → IsTrailOf o t → IsUpTo refs t w
        → LeadsTo arrows o path object
        → (i : ℕ) × (u : List ℕ) × (slice_get h.trails i ≡ Some u) × IsTrailOf object u × IsUpTo refs u (w ++ path)
    along object [] o j t w at ends up leads = (j, t, at, subst (λ p. IsTrailOf p t) leads ends, subst (IsUpTo refs t) (sym (append-nil w)) up)
    along object (next ∷ path) o j t w at ends up leads =
        let r = up_step o next j t w at ends up leads.0 in
        let s = along object path next r.0 r.1 (w ++ next ∷ []) r.2 r.3 r.4 leads.1 in
        (s.0, s.1, s.2, s.3, subst (IsUpTo refs s.1) (append_assoc w (next ∷ []) path) s.4)

    -- Every other shortest path comes after the one that is told.
    pub first_path : (object place : ℕ) (path : List ℕ) → slice_get (objects_in found) place ≡ Some object → IsPathBack found place path
        → (other : List ℕ) → IsShortestPath Held arrows other object
        → (other ≡ path) ⊎ ComesBefore refs path other
    first_path object place path at back other short = go other refl short.leads
      where
        told : IsShortestPath Held arrows path object
        told = shortest_path Held arrows found h object place path at back

        by_rank : (u : List ℕ) → path ≡ reverse u → IsUpTo refs u other → (other ≡ path) ⊎ ComesBefore refs path other
        by_rank u is (Shorter less) = let len = ap length is in absurd (omega (arith, less, len, length-reverse u, short.shortest path told.leads))
        by_rank u is (Same same) = inl (sym (is ∙ same))
        by_rank u is (Earlier len b) = inr (subst (λ (l : List ℕ). ComesBefore refs l other) (sym is) b)

        go : (w : List ℕ) → w ≡ other → IsPath Held arrows w object → (other ≡ path) ⊎ ComesBefore refs path other
        go [] e leads = absurd leads
        go (start ∷ rest) e leads =
            let j = in_get h.trails (start ∷ []) (h.starts start leads.0) in
            let r = along object rest start j.0 (start ∷ []) (start ∷ []) j.1 refl (Same refl) leads.1 in
            let same : place ≡ r.0 =
            one_place (objects_in found) place r.0 object (h.once object) at (found_of found h.trails h.have r.0 object r.1 r.2 r.3) in
            by_rank r.1 (back h.trails h.have r.1 (ap (slice_get h.trails) same ∙ r.2)) (subst (IsUpTo refs r.1) e r.4)

-- One shortest path comes first.
pub one_first : (store : Store) (object : ℕ) (path other : List ℕ) → IsShortestPath (HeldElse store object) (arrows_of store) path object
    → ComesFirst store object path
    → IsShortestPath (HeldElse store object) (arrows_of store) other object → ComesFirst store object other → path ≡ other
one_first store object path other short first long last =
    either (first other long) (λ e. sym e)
    (λ b. either (last path short) (λ e. e) (λ c. absurd (parts_strict (references_by store) (λ o. o) path
    (parts_trans (references_by store) (λ o. o) path other path b c))))
