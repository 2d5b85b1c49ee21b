-- The breadth-first search: each step keeps its invariant, and at the end the trails are the shortest paths.
use Rattle.std.proofs.Common.{◌≡◌, refl, sym, ◌∙◌, ap, subst, ℕ, zero, suc, ◌+◌, ◌<◌, ◌≤◌, ◌⊎◌, inl, inr, Bool, true, false, cond, List, [], ◌∷◌, ◌++◌, length, map, reverse, take, Option, Some, None, arith, length-append, append_assoc}
use Rattle.std.specs.Prelude.{◌==◌, slice_get}
use Rattle.std.proofs.lemmas.Bool.{eq-eqb, ne_eqb, cases_eq}
use Rattle.std.proofs.lemmas.Option.{slice_get_within, get_or_from_slice_get, same_Some}
use Rattle.std.proofs.lemmas.List.{take_more, append-nil, length-reverse}
use Rattle.std.proofs.lemmas.Grind.{reverse_onto}
use Rattle.cg_graph.specs.declared.Edge.{Edge}
use Rattle.cg_graph.specs.Member.{Includes}
use Rattle.cg_graph.specs.Holdings.{occurrences}
use Rattle.cg_graph.specs.Path.{IsPath, LeadsTo, IsShortestPath, HasNoPath}
use Rattle.cg_graph.proofs.Members.{either, Includes-append_left, Includes-append_right, Includes-append_cases, Includes-map, Includes-map_cases}
use Rattle.cg_graph.proofs.Objects.{occurrences-append}
use Rattle.cg_search.proofs.Places.{occurs, occurrences-cons, absent_from}
use Rattle.cg_search.specs.Walks.{Findings, objects_in, AreOnce, Finds, IsStart, IsTrail, TrailBy, HaveTrails, LeadsOn, IsTrailOf, Lengthen, HasSpread, IsOver}

-- Positions in lists.
pub get_left : {X : Type 0} (xs ys : List X) (i : ℕ) (x : X) → slice_get xs i ≡ Some x → slice_get (xs ++ ys) i ≡ Some x
get_left [] ys i x h = absurd (cc)
get_left (y ∷ xs) ys zero x h = h
get_left (y ∷ xs) ys (suc i) x h = get_left xs ys i x h

pub get_right : {X : Type 0} (xs ys : List X) (i k : ℕ) (x : X) → i ≡ length xs + k → slice_get ys k ≡ Some x → slice_get (xs ++ ys) i ≡ Some x
get_right [] ys i k x e h = let same : k ≡ i = omega (arith, e) in subst (λ j. slice_get ys j ≡ Some x) same h
get_right (y ∷ xs) ys zero k x e h = absurd (omega (arith, e))
get_right (y ∷ xs) ys (suc i) k x e h = get_right xs ys i k x (omega (arith, e)) h

pub get_cases : {X : Type 0} (xs ys : List X) (i : ℕ) (x : X) → slice_get (xs ++ ys) i ≡ Some x → (slice_get xs i ≡ Some x) ⊎ ((k : ℕ) × (i ≡ length xs + k) × (slice_get ys k ≡ Some x))
get_cases [] ys i x h = inr (i, omega arith, h)
get_cases (y ∷ xs) ys zero x h = inl h
get_cases (y ∷ xs) ys (suc i) x h = either (get_cases xs ys i x h) (λ e. inl e) (λ r. inr (r.0, omega (arith, r.1), r.2))

pub get_map : {X Y : Type 0} (f : X → Y) (xs : List X) (i : ℕ) (x : X) → slice_get xs i ≡ Some x → slice_get (map f xs) i ≡ Some (f x)
get_map f [] i x h = absurd (cc)
get_map f (y ∷ xs) zero x h = let e : y ≡ x = cc in ap (λ z. Some (f z)) e
get_map f (y ∷ xs) (suc i) x h = get_map f xs i x h

pub get_in : {X : Type 0} (xs : List X) (i : ℕ) (x : X) → slice_get xs i ≡ Some x → Includes xs x
get_in [] i x h = absurd (cc)
get_in (y ∷ xs) zero x h = let e : y ≡ x = cc in inl e
get_in (y ∷ xs) (suc i) x h = inr (get_in xs i x h)

pub in_get : {X : Type 0} (xs : List X) (x : X) → Includes xs x → (i : ℕ) × (slice_get xs i ≡ Some x)
in_get [] x h = absurd h
in_get (y ∷ xs) x (inl e) = (0, ap Some e)
in_get (y ∷ xs) x (inr h) = let r = in_get xs x h in (suc r.0, r.1)

pub get_below : {X : Type 0} (xs : List X) (i : ℕ) → i < length xs → (x : X) × (slice_get xs i ≡ Some x)
get_below [] i h = absurd (omega (arith, h))
get_below (x ∷ xs) zero h = (x, refl)
get_below (x ∷ xs) (suc i) h = get_below xs i (omega (arith, h))

pub next_taken : {X : Type 0} (xs : List X) (i : ℕ) (x : X) → slice_get xs i ≡ Some x → take (i + 1) xs ≡ take i xs ++ x ∷ []
next_taken xs i x h = take_more xs i x (slice_get_within xs i x h) ∙ ap (λ y. take i xs ++ y ∷ []) (get_or_from_slice_get xs i x x h)

pub taken_left : {X : Type 0} (xs ys : List X) (i : ℕ) → i ≤ length xs → take i (xs ++ ys) ≡ take i xs
taken_left xs ys zero h = refl
taken_left [] ys (suc i) h = absurd (omega (arith, h))
taken_left (x ∷ xs) ys (suc i) h = ap (λ zs. x ∷ zs) (taken_left xs ys i (omega (arith, h)))

pub taken_all : {X : Type 0} (xs : List X) → take (length xs) xs ≡ xs
taken_all [] = refl
taken_all (x ∷ xs) = ap (λ ys. x ∷ ys) (taken_all xs)

-- without duplicates, an element has one position
pub one_place : (xs : List ℕ) (i k o : ℕ) → occurrences o xs ≤ 1 → slice_get xs i ≡ Some o → slice_get xs k ≡ Some o → i ≡ k
one_place [] i k o once h l = absurd (cc)
one_place (x ∷ xs) zero zero o once h l = refl
one_place (x ∷ xs) zero (suc k) o once h l = absurd (twice x xs k o once h l)
  where
    twice : (x : ℕ) (xs : List ℕ) (k o : ℕ) → occurrences o (x ∷ xs) ≤ 1 → Some x ≡ Some o → slice_get xs k ≡ Some o → ⊥
    twice x xs k o once h l =
        let here : occurrences o (x ∷ xs) ≡ 1 + occurrences o xs = occurrences-cons o x xs ∙ ap (λ b. cond b 1 0 + occurrences o xs) (eq-eqb x o (same_Some x o h)) in
        let there = occurs xs o (get_in xs k o l) in
        absurd (omega (arith, here, there, once))
one_place (x ∷ xs) (suc i) zero o once h l = absurd (twice x xs i o once l h)
  where
    twice : (x : ℕ) (xs : List ℕ) (k o : ℕ) → occurrences o (x ∷ xs) ≤ 1 → Some x ≡ Some o → slice_get xs k ≡ Some o → ⊥
    twice x xs k o once h l =
        let here : occurrences o (x ∷ xs) ≡ 1 + occurrences o xs = occurrences-cons o x xs ∙ ap (λ b. cond b 1 0 + occurrences o xs) (eq-eqb x o (same_Some x o h)) in
        let there = occurs xs o (get_in xs k o l) in
        absurd (omega (arith, here, there, once))
one_place (x ∷ xs) (suc i) (suc k) o once h l = ap suc (one_place xs i k o (omega (arith, once, occurrences-cons o x xs)) h l)

-- as many objects as findings
pub length-objects_in : (found : Findings) → length (objects_in found) ≡ length found
length-objects_in [] = refl
length-objects_in (e ∷ found) = ap suc (length-objects_in found)

-- Trails in order of length.
pub lengthen_append : (ts us : List (List ℕ)) → Lengthen ts → Lengthen us → ((t u : List ℕ) → Includes ts t → Includes us u → length t ≤ length u) → Lengthen (ts ++ us)
lengthen_append [] us a b h = b
lengthen_append (t ∷ ts) us a b h =
    (λ u m. either (Includes-append_cases ts us u m) (λ k. a.0 u k) (λ k. h t u (inl refl) k), lengthen_append ts us a.1 b (λ v u k m. h v u (inr k) m))

pub lengthen_flat : (n : ℕ) (us : List (List ℕ)) → ((u : List ℕ) → Includes us u → length u ≡ n) → Lengthen us
lengthen_flat n [] h = tt
lengthen_flat n (t ∷ us) h = (λ u m. omega (arith, h t (inl refl), h u (inr m)), lengthen_flat n us (λ u m. h u (inr m)))

pub lengthen_get : (ts : List (List ℕ)) → Lengthen ts → (i k : ℕ) (t u : List ℕ) → slice_get ts i ≡ Some t → slice_get ts k ≡ Some u → i < k → length t ≤ length u
lengthen_get [] a i k t u h l less = absurd (cc)
lengthen_get (v ∷ ts) a zero (suc k) t u h l less = let e = ap length (same_Some v t h) in let r = a.0 u (get_in ts k u l) in omega (arith, e, r)
lengthen_get (v ∷ ts) a (suc i) (suc k) t u h l less = lengthen_get ts a.1 i k t u h l (omega (arith, less))
lengthen_get (v ∷ ts) a n zero t u h l less = absurd (omega (arith, less))

-- A found object has a trail.
pub trail_of : (found : Findings) (trails : List (List ℕ)) → HaveTrails found trails → (o : ℕ) → Includes (objects_in found) o → (t : List ℕ) × Includes trails t × IsTrailOf o t
trail_of found trails have o m =
    let named = Includes-map_cases (λ (e : ℕ × Option ℕ). e.0) found o m in
    let at = in_get found named.0 named.1 in
    let r = have.each at.0 named.0 at.1 in
    (r.0, get_in trails at.0 r.0 r.1, ends named.0.1 r.0 named.0.0 at.0 r.2 named.2)
  where
    ends : (h : Option ℕ) (t : List ℕ) (p i : ℕ) → TrailBy trails i p h t → p ≡ o → IsTrailOf o t
    ends None t p i by e = subst (IsTrailOf o) (sym by) e
    ends (Some j) t p i by e = subst (IsTrailOf o) (sym by.1.2) e

-- the trail of the object at a position
pub trail_at : (found : Findings) (trails : List (List ℕ)) → HaveTrails found trails → (i o : ℕ) (h : Option ℕ) → slice_get found i ≡ Some (o, h)
    → (rest : List ℕ) × (slice_get trails i ≡ Some (o ∷ rest))
trail_at found trails have i o h at = let r = have.each i (o, h) at in go h r.0 r.1 r.2
  where
    go : (k : Option ℕ) (t : List ℕ) → slice_get trails i ≡ Some t → TrailBy trails i o k t → (rest : List ℕ) × (slice_get trails i ≡ Some (o ∷ rest))
    go None t is by = ([], is ∙ ap Some by)
    go (Some j) t is by = (by.1.0, is ∙ ap Some by.1.2)

-- each trail belongs to a found object
pub found_of : (found : Findings) (trails : List (List ℕ)) → HaveTrails found trails → (i o : ℕ) (t : List ℕ) → slice_get trails i ≡ Some t → IsTrailOf o t → slice_get (objects_in found) i ≡ Some o
found_of found trails have i o t at ends =
    let low = slice_get_within trails i t at in
    let r = get_below found i (omega (arith, low, have.many)) in
    let by = trail_at found trails have i r.0.0 r.0.1 r.1 in
    let same : r.0.0 ∷ by.0 ≡ t = same_Some (r.0.0 ∷ by.0) t (sym by.1 ∙ at) in
    get_map (λ (e : ℕ × Option ℕ). e.0) found i r.0 r.1 ∙ ap Some (subst (IsTrailOf o) (sym same) ends)

abbrev trailed : List ℕ → ℕ × Option ℕ → List ℕ
trailed t e = e.0 ∷ t

module _ (Held : ℕ → Type 0) (arrows : List Edge) where
  -- At first each trail is a single object.
  pub spread_first : (found : Findings) → IsStart Held found → HasSpread Held arrows found 0
  spread_first found start = record {
    trails = map alone found;
    have = record { many = same_length found; each = λ i e at. (alone e, get_map alone found i e at, by i e.0 e.1 (start.only e (get_in found i e at)).1) };
    once = start.once;
    ways = λ t m. let r = Includes-map_cases alone found t m in subst (IsTrail Held arrows) r.2 (start.only r.0 r.1).0;
    starts = λ o h.
        let r = Includes-map_cases (λ (e : ℕ × Option ℕ). e.0) found o (start.all o h) in
        subst (λ p. Includes (map alone found) (p ∷ [])) r.2 (Includes-map alone found r.0 r.1);
    lengthen = lengthen_flat 1 (map alone found) short;
    within = omega arith;
    near = λ t u at m. let e = short u m in omega (arith, e);
    closed = λ t m. absurd m;
  }
    where
      alone : ℕ × Option ℕ → List ℕ
      alone e = e.0 ∷ []

      same_length : (es : Findings) → length (map alone es) ≡ length es
      same_length [] = refl
      same_length (e ∷ es) = ap suc (same_length es)

      short : (u : List ℕ) → Includes (map alone found) u → length u ≡ 1
      short u m = let r = Includes-map_cases alone found u m in ap length (sym r.2)

      by : (i o : ℕ) (h : Option ℕ) → h ≡ None → TrailBy (map alone found) i o h (o ∷ [])
      by i o None e = refl
      by i o (Some j) e = absurd (cc)

  -- One step: finds what the object at the position refers to.
  module _ (found new : Findings) (place o : ℕ) (holder : Option ℕ) (refs : List ℕ) (h : HasSpread Held arrows found place) (at : slice_get found place ≡ Some (o, holder))
      (into : (r : ℕ) → Includes refs r → Includes arrows (record { from = o; to = r })) (out : (r : ℕ) → Includes arrows (record { from = o; to = r }) → Includes refs r)
      (finds : Finds found refs (Some place) new) where
    abbrev here : (rest : List ℕ) × (slice_get h.trails place ≡ Some (o ∷ rest))
    here = trail_at found h.trails h.have place o holder at

    abbrev trail : List ℕ
    trail = o ∷ here.0

    abbrev longer : List (List ℕ)
    longer = map (trailed trail) finds.more

    abbrev trails : List (List ℕ)
    trails = h.trails ++ longer

    long : (u : List ℕ) → Includes longer u → length u ≡ suc (length trail)
    long u m = let r = Includes-map_cases (trailed trail) finds.more u m in ap length (sym r.2)

    at_most : (u : List ℕ) → Includes trails u → length u ≤ suc (length trail)
    at_most u m = either (Includes-append_cases h.trails longer u m) (λ k. h.near trail u here.1 k) (λ k. let e = long u k in omega (arith, e))

    stays : (i p : ℕ) (k : Option ℕ) (t : List ℕ) → TrailBy h.trails i p k t → TrailBy trails i p k t
    stays i p None t by = by
    stays i p (Some j) t by = (by.0, (by.1.0, get_left h.trails longer j by.1.0 by.1.1, by.1.2))

    same_length : (es : Findings) → length (map (trailed trail) es) ≡ length es
    same_length [] = refl
    same_length (e ∷ es) = ap suc (same_length es)

    low : place < length found
    low = slice_get_within found place (o, holder) at

    have : HaveTrails (found ++ finds.more) trails
    have = record {
      many = let m = same_length finds.more in let n = h.have.many in omega (arith, length-append h.trails longer, length-append found finds.more, n, m);
      each = λ i e got. either (get_cases found finds.more i e got)
          (λ old. let r = h.have.each i e old in (r.0, get_left h.trails longer i r.0 r.1, stays i e.0 e.1 r.0 r.2))
          (λ k. (
            trailed trail e,
            get_right h.trails longer i k.0 (trailed trail e) (omega (arith, k.1, h.have.many)) (get_map (trailed trail) finds.more k.0 e k.2),
            by i e.0 e.1 (finds.only e (get_in finds.more k.0 e k.2)).1 (omega (arith, low, k.1)),
          ));
    }
      where
        by : (i p : ℕ) (k : Option ℕ) → k ≡ Some place → place < i → TrailBy trails i p k (p ∷ trail)
        by i p None e less = absurd (cc)
        by i p (Some j) e less =
            let same : j ≡ place = cc in (
              omega (arith, same, less),
              (trail, ap (slice_get trails) same ∙ get_left h.trails longer place trail here.1, refl),
            )

    way : (u : List ℕ) → Includes longer u → IsTrail Held arrows u
    way u m =
        let r = Includes-map_cases (trailed trail) finds.more u m in
        subst (IsTrail Held arrows) r.2 (into r.0.0 (finds.only r.0 r.1).0, h.ways trail (get_in h.trails place trail here.1))

    new_length : length new ≡ length found + length finds.more
    new_length = ap length finds.is ∙ length-append found finds.more

    next_near : (t u : List ℕ) → slice_get trails (place + 1) ≡ Some t → Includes trails u → length u ≤ suc (length t)
    next_near t u got m =
        let less = lengthen_get trails all_lengthen place (place + 1) trail t (get_left h.trails longer place trail here.1) got (omega arith) in
        omega (arith, less, at_most u m)
      where
        all_lengthen : Lengthen trails
        all_lengthen = lengthen_append h.trails longer h.lengthen (lengthen_flat (suc (length trail)) longer long) (λ t u k m. let a = h.near trail t here.1 k
            in let e = long u m in omega (arith, a, e))

    new_have : HaveTrails new trails
    new_have = subst (λ (es : Findings). HaveTrails es trails) (sym finds.is) have

    pub spread_more : HasSpread Held arrows new (place + 1)
    spread_more = record {
      trails = trails;
      have = new_have;
      once = finds.once h.once;
      ways = λ u m. either (Includes-append_cases h.trails longer u m) (λ k. h.ways u k) (λ k. way u k);
      starts = λ p held. Includes-append_left h.trails longer (p ∷ []) (h.starts p held);
      lengthen = lengthen_append h.trails longer h.lengthen (lengthen_flat (suc (length trail)) longer long) (λ t u k m. let a = h.near trail t here.1 k in let e = long u m in omega (arith, a, e));
      within = omega (arith, low, new_length);
      near = next_near;
      closed = λ t m p leads. either (Includes-append_cases (take place h.trails) (trail ∷ []) t (subst (λ (ts : List (List ℕ)). Includes ts t)
          (taken_left h.trails longer (place + 1) (omega (arith, low, h.have.many)) ∙ next_taken h.trails place trail here.1) m))
          (λ k. let r = h.closed t k p leads in (r.0, Includes-append_left h.trails longer r.0 r.1, r.2, r.3))
          (λ k. either k (λ e. last t e p leads) (λ f. absurd f));
    }
      where
        last : (t : List ℕ) → trail ≡ t → (p : ℕ) → LeadsOn arrows t p → (other : List ℕ) × Includes trails other × IsTrailOf p other × (length other ≤ suc (length t))
        last t e p leads =
            let leads_here : LeadsOn arrows trail p = subst (λ (u : List ℕ). LeadsOn arrows u p) (sym e) leads in
            let r = trail_of new trails new_have p (finds.all p (out p leads_here)) in
            let n = ap length e in
            (r.0, r.1, r.2, omega (arith, n, at_most r.0 r.1))

  -- At the end no path is shorter than an object's trail.
  module _ (found : Findings) (h : IsOver Held arrows found) where
    closed_all : (t : List ℕ) → Includes h.trails t → (o : ℕ) → LeadsOn arrows t o → (u : List ℕ) × Includes h.trails u × IsTrailOf o u × (length u ≤ suc (length t))
    closed_all t m = h.closed t (subst (λ (ts : List (List ℕ)). Includes ts t) (sym (taken_all h.trails) ∙ ap (λ n. take n h.trails) h.have.many) m)

    leads_on : (t : List ℕ) (o p : ℕ) → IsTrailOf o t → Includes arrows (record { from = o; to = p }) → LeadsOn arrows t p
    leads_on [] o p e a = absurd e
    leads_on (q ∷ t) o p e a = subst (λ r. Includes arrows (record { from = r; to = p })) (sym e) a

    along : (object : ℕ) (path : List ℕ) (o : ℕ) (t : List ℕ) → Includes h.trails t → IsTrailOf o t → LeadsTo arrows o path object → (u : List ℕ)
        × Includes h.trails u × IsTrailOf object u × (length u ≤ length t + length path)
    along object [] o t m e leads = (t, m, subst (λ p. IsTrailOf p t) leads e, omega arith)
    along object (next ∷ path) o t m e leads =
        let r = closed_all t m next (leads_on t o next e leads.0) in
        let s = along object path next r.0 r.1 r.2 leads.1 in
        (s.0, s.1, s.2, omega (arith, r.3, s.3))

    pub nearest : (object : ℕ) (path : List ℕ) → IsPath Held arrows path object → (u : List ℕ) × Includes h.trails u × IsTrailOf object u × (length u ≤ length path)
    nearest object [] is = absurd is
    nearest object (first ∷ path) is =
        let r = along object path first (first ∷ []) (h.starts first is.0) refl is.1 in
        (r.0, r.1, r.2, omega (arith, r.3))

    -- an object that was not found has no path
    pub no_path : (object : ℕ) → ¬ Includes (objects_in found) object → HasNoPath Held arrows object
    no_path object none path is =
        let r = nearest object path is in
        let at = in_get h.trails r.0 r.1 in
        none (get_in (objects_in found) at.0 object (found_of found h.trails h.have at.0 object r.0 at.1 r.2))

    leads_last : (path : List ℕ) (o p q : ℕ) → LeadsTo arrows o path p → Includes arrows (record { from = p; to = q }) → LeadsTo arrows o (path ++ q ∷ []) q
    leads_last [] o p q leads a = (subst (λ r. Includes arrows (record { from = r; to = q })) (sym leads) a, refl)
    leads_last (r ∷ path) o p q leads a = (leads.0, leads_last path r p q leads.1 a)

    path_last : (path : List ℕ) (p q : ℕ) → IsPath Held arrows path p → Includes arrows (record { from = p; to = q }) → IsPath Held arrows (path ++ q ∷ []) q
    path_last [] p q is a = absurd is
    path_last (first ∷ path) p q is a = (is.0, leads_last path first p q is.1 a)

    trail_leads : (t : List ℕ) (o : ℕ) → IsTrail Held arrows t → IsTrailOf o t → IsPath Held arrows (reverse t) o
    trail_leads [] o none e = absurd none
    trail_leads (p ∷ []) o held e = (held, e)
    trail_leads (p ∷ q ∷ t) o along_it e =
        subst (λ r. IsPath Held arrows (reverse (p ∷ q ∷ t)) r) e
        (subst (λ (l : List ℕ). IsPath Held arrows l p) (sym (reverse_onto (q ∷ t) p []))
        (path_last (reverse (q ∷ t)) q p (trail_leads (q ∷ t) q along_it.1 refl) along_it.0))

    -- the trail of a found object is a shortest path
    pub shortest_path : (object place : ℕ) (path : List ℕ) → slice_get (objects_in found) place ≡ Some object
        → ((trails : List (List ℕ)) → HaveTrails found trails → (t : List ℕ) → slice_get trails place ≡ Some t → path ≡ reverse t) → IsShortestPath Held arrows path object
    shortest_path object place path at back =
        let low = slice_get_within (objects_in found) place object at in
        let r = get_below h.trails place (omega (arith, low, h.have.many, length-objects_in found)) in
        let is : path ≡ reverse r.0 = back h.trails h.have r.0 r.1 in
        let ends : IsTrailOf object r.0 = ending r.0 r.1 in
        record {
          leads = subst (λ (p : List ℕ). IsPath Held arrows p object) (sym is) (trail_leads r.0 object (h.ways r.0 (get_in h.trails place r.0 r.1)) ends);
          shortest = λ other leads.
              let n = nearest object other leads in
              let k = in_get h.trails n.0 n.1 in
              let same : place ≡ k.0 = one_place (objects_in found) place k.0 object (h.once object) at (found_of found h.trails h.have k.0 object n.0 k.1 n.2) in
              let one : r.0 ≡ n.0 = same_Some r.0 n.0 (sym r.1 ∙ ap (slice_get h.trails) same ∙ k.1) in
              let len = ap length is in
              let len_one = ap length one in
              omega (arith, len, len_one, length-reverse r.0, n.3);
        }
      where
        ending : (t : List ℕ) → slice_get h.trails place ≡ Some t → IsTrailOf object t
        ending t got =
            let e = get_below found place (omega (arith, slice_get_within (objects_in found) place object at, length-objects_in found)) in
            let by = trail_at found h.trails h.have place e.0.0 e.0.1 e.1 in
            let same : e.0.0 ∷ by.0 ≡ t = same_Some (e.0.0 ∷ by.0) t (sym by.1 ∙ got) in
            let head : e.0.0 ≡ object = same_Some e.0.0 object (sym (get_map (λ (x : ℕ × Option ℕ). x.0) found place e.0 e.1) ∙ at) in
            subst (IsTrailOf object) same head

-- Following a trail back: the rest of it is the trail of the holder at the cursor.
abbrev pub IsLeft : List (List ℕ) → Option ℕ → List ℕ → Type 0
IsLeft all None rest = rest ≡ []
IsLeft all (Some place) rest = slice_get all place ≡ Some rest

abbrev pub IsWithin : Findings → Option ℕ → Type 0
IsWithin found None = Unit {0}
IsWithin found (Some place) = place < length found

pub record HasGoneBack (found : Findings) (last : ℕ) (path : List ℕ) (cursor : Option ℕ) : Type 0 where
  pub within : IsWithin found cursor
  pub left : (trails : List (List ℕ)) → HaveTrails found trails → (trail : List ℕ) → slice_get trails last ≡ Some trail → (rest : List ℕ) × IsLeft trails cursor rest × (path ++ rest ≡ trail)

abbrev pub ahead_of : Option ℕ → ℕ
ahead_of None = 0
ahead_of (Some place) = place + 1

-- the holder of a found object comes before it
pub back_lower : (found : Findings) (trails : List (List ℕ)) → HaveTrails found trails → (place o : ℕ) (holder : Option ℕ) → slice_get found place
    ≡ Some (o, holder) → (ahead_of holder < ahead_of (Some place)) × IsWithin found holder
back_lower found trails have place o holder at = let r = have.each place (o, holder) at in go holder r.0 r.2
  where
    go : (k : Option ℕ) (t : List ℕ) → TrailBy trails place o k t → (ahead_of k < ahead_of (Some place)) × IsWithin found k
    go None t by = (omega arith, tt)
    go (Some j) t by = (omega (arith, by.0), omega (arith, by.0, slice_get_within found place (o, holder) at))

pub back_more : (found : Findings) (trails : List (List ℕ)) → HaveTrails found trails → (last place o : ℕ) (holder : Option ℕ) (path new : List ℕ)
    → HasGoneBack found last path (Some place) → slice_get found place ≡ Some (o, holder) → new ≡ path ++ o ∷ []
    → HasGoneBack found last new holder
back_more found trails have last place o holder path new gone at is = record {
  within = (back_lower found trails have place o holder at).1;
  left = λ ts has whole there.
      let r = gone.left ts has whole there in
      let e = has.each place (o, holder) at in
      go ts whole r.0 r.1 r.2 holder e.0 e.1 e.2;
}
  where
    go : (ts : List (List ℕ)) (trail rest : List ℕ) → slice_get ts place ≡ Some rest → path ++ rest ≡ trail → (k : Option ℕ) (t : List ℕ) → slice_get ts place ≡ Some t → TrailBy ts place o k t
        → (left : List ℕ) × IsLeft ts k left × (new ++ left ≡ trail)
    go ts all rest got whole None t there by =
        let same : rest ≡ o ∷ [] = same_Some rest t (sym got ∙ there) ∙ by in
        ([], refl, ap (λ (l : List ℕ). l ++ []) is ∙ append_assoc path (o ∷ []) [] ∙ ap (λ (l : List ℕ). path ++ l) (sym same) ∙ whole)
    go ts all rest got whole (Some j) t there by =
        let same : rest ≡ o ∷ by.1.0 = same_Some rest t (sym got ∙ there) ∙ by.1.2 in
        (by.1.0, by.1.1, ap (λ (l : List ℕ). l ++ by.1.0) is ∙ append_assoc path (o ∷ []) by.1.0 ∙ ap (λ (l : List ℕ). path ++ l) (sym same) ∙ whole)

-- Finds objects one by one.
pub finds_none : (found : Findings) (holder : Option ℕ) → Finds found [] holder found
finds_none found holder = record { more = []; is = sym (append-nil found); only = λ e m. absurd m; all = λ o m. absurd m; once = λ h. h }

pub finds_present : (found new : Findings) (object : ℕ) (holder : Option ℕ) → new ≡ found → Includes (objects_in found) object → Finds found (object ∷ []) holder new
finds_present found new object holder is there = record {
  more = [];
  is = is ∙ sym (append-nil found);
  only = λ e m. absurd m;
  all = λ o m. subst (λ (es : Findings). Includes (objects_in es) o) (sym is) (either m (λ e. subst (Includes (objects_in found)) e there) (λ f. absurd f));
  once = λ h. subst AreOnce (sym is) h;
}

pub objects_append : (xs ys : Findings) → objects_in (xs ++ ys) ≡ objects_in xs ++ objects_in ys
objects_append [] ys = refl
objects_append (x ∷ xs) ys = ap (λ l. x.0 ∷ l) (objects_append xs ys)

pub finds_new : (found new : Findings) (object : ℕ) (holder : Option ℕ) → new ≡ found ++ (object, holder) ∷ [] → ¬ Includes (objects_in found) object → Finds found (object ∷ []) holder new
finds_new found new object holder is absent = record {
  more = (object, holder) ∷ [];
  is = is;
  only = λ e m. either m (λ s. (inl (ap (λ (x : ℕ × Option ℕ). x.0) s), sym (ap (λ (x : ℕ × Option ℕ). x.1) s))) (λ f. absurd f);
  all = λ o m. subst (λ (l : List ℕ). Includes l o) (sym objects) (Includes-append_right (objects_in found) (object ∷ []) o m);
  once = λ h o. subst (λ (l : List ℕ). occurrences o l ≤ 1) (sym objects) (one h o);
}
  where
    objects : objects_in new ≡ objects_in found ++ object ∷ []
    objects = ap objects_in is ∙ objects_append found ((object, holder) ∷ [])

    one : AreOnce found → (o : ℕ) → occurrences o (objects_in found ++ object ∷ []) ≤ 1
    one h o = elim (cases_eq object o) [
      | inl same ↦
          let none : occurrences o (objects_in found) ≡ 0 = absent_from (objects_in found) o (λ m. absent (subst (Includes (objects_in found)) (sym same) m)) in
          omega (arith, occurrences-append o (objects_in found) (object ∷ []), none, occurrences-cons o object [], bit (object == o))
      | inr differs ↦
          let none : occurrences o (object ∷ []) ≡ 0 + occurrences o [] = occurrences-cons o object [] ∙ ap (λ b. cond b 1 0 + occurrences o []) (ne_eqb object o differs) in
          omega (arith, occurrences-append o (objects_in found) (object ∷ []), none, h o)
    ]
      where
        bit : (b : Bool) → cond b 1 0 ≤ 1
        bit true = omega arith
        bit false = omega arith

pub finds_more : (old mid new : Findings) (refs : List ℕ) (object : ℕ) (holder : Option ℕ) → Finds old refs holder mid → Finds mid (object ∷ []) holder new → Finds old (refs ++ object ∷ []) holder new
finds_more old mid new refs object holder a b = record {
  more = a.more ++ b.more;
  is = b.is ∙ ap (λ (l : Findings). l ++ b.more) a.is ∙ append_assoc old a.more b.more;
  only = λ e m. either (Includes-append_cases a.more b.more e m)
      (λ k. let r = a.only e k in (Includes-append_left refs (object ∷ []) e.0 r.0, r.1))
      (λ k. let r = b.only e k in (Includes-append_right refs (object ∷ []) e.0 r.0, r.1));
  all = λ o m. either (Includes-append_cases refs (object ∷ []) o m)
      (λ k. subst (λ (l : Findings). Includes (objects_in l) o) (sym b.is)
      (subst (λ (l : List ℕ). Includes l o) (sym (objects_append mid b.more)) (Includes-append_left (objects_in mid) (objects_in b.more) o (a.all o k))))
      (λ k. b.all o k);
  once = λ h. b.once (a.once h);
}

pub start_more : (Held Now : ℕ → Type 0) (old new : Findings) (object : ℕ) → IsStart Held old → Finds old (object ∷ []) None new → Now object
    → ((o : ℕ) → Held o → Now o) → ((o : ℕ) → Now o → Held o ⊎ (object ≡ o)) → IsStart Now new
start_more Held Now old new object a f now into out = record {
  only = λ e m. either (Includes-append_cases old f.more e (subst (λ (l : Findings). Includes l e) f.is m))
      (λ k. let r = a.only e k in (into e.0 r.0, r.1))
      (λ k. let r = f.only e k in (subst Now (either r.0 (λ s. s) (λ x. absurd x)) now, r.1));
  all = λ o h. either (out o h)
      (λ k. subst (λ (l : Findings). Includes (objects_in l) o) (sym f.is)
      (subst (λ (l : List ℕ). Includes l o) (sym (objects_append old f.more)) (Includes-append_left (objects_in old) (objects_in f.more) o (a.all o k))))
      (λ e. f.all o (inl e));
  once = f.once a.once;
}

pub start_same : (Held Now : ℕ → Type 0) (found : Findings) → IsStart Held found → ((o : ℕ) → Held o → Now o) → ((o : ℕ) → Now o → Held o) → IsStart Now found
start_same Held Now found a into out = record { only = λ e m. let r = a.only e m in (into e.0 r.0, r.1); all = λ o h. a.all o (out o h); once = a.once }
