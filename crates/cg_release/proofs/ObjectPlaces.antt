-- Objects by their places among all objects: what dies by count, by serials and by places.
use Rattle.std.proofs.Common.{◌≡◌, refl, sym, ◌∙◌, ap, subst, ℕ, zero, suc, ◌+◌, ◌<◌, Bool, true, false, cond, inl, inr, List, [], ◌∷◌, ◌++◌, length, map, Some, arith}
use Rattle.std.specs.Prelude.{◌↔◌, ◌==◌, if◌then◌else◌, slice_get, slice_index}
use Rattle.std.proofs.lemmas.Bool.{eqb-true, eqb-false, eq-eqb, ne_eqb}
use Rattle.std.proofs.lemmas.List.{append-nil, append_assoc, length-append, length-map, map-append}
use Rattle.std.proofs.lemmas.Option.{get_or_from_slice_get}
use Rattle.cg_graph.specs.Member.{Includes}
use Rattle.cg_graph.specs.Value.{references}
use Rattle.cg_graph.specs.Object.{Object, serials}
use Rattle.cg_graph.specs.Holdings.{occurrences}
use Rattle.cg_graph.proofs.Members.{Includes-map}
use Rattle.cg_graph.proofs.Objects.{occurrences-append}
use Rattle.cg_search.specs.Places.{Marks, is_marked}
use Rattle.cg_search.specs.Counts.{targets_from}
use Rattle.cg_search.proofs.Edges.{marks_of_is, is_of_marks}
use Rattle.cg_snapshot.specs.declared.heap.Member.{Member}
use Rattle.cg_ask.specs.Dying.{Dies, IsClosed as IsClosedByPlaces}
use Rattle.cg_machine.specs.World.{World, opening}
use Rattle.cg_machine.specs.Run.{last_world}
use Rattle.cg_machine.specs.Holdings.{in_degree}
use Rattle.cg_laws.proofs.Lookups.{serial_from}
use Rattle.cg_represents.proofs.Lists.{slice_get_member, occurrences-cons}
use Rattle.cg_represents.proofs.Serials.{Rises}
use Rattle.cg_promises.proofs.FinalizerOnceRuns.{opening_fit, run_fit, run_front}
use Rattle.cg_release.specs.Release.{DiesByCount, IsClosed, references_from}
use Rattle.cg_release.specs.Places.{ReleasesFreeWhatDropTells, IsTheRelease, member_with, members_of, place_of}
use Rattle.cg_release.proofs.Counts.{part}
use Rattle.cg_release.proofs.FreesWhatDies.{frees_exactly, not_both}

-- the element at the place of an object
pub at_place : {X : Type 0} (g : ℕ → X) (objects : List Object) (o : ℕ) (more : List X) → Includes (serials objects) o
    → slice_get (map (λ (x : Object). g x.serial) objects ++ more) (place_of objects o) ≡ Some (g o)
at_place g [] o more m = absurd m
at_place {X} g (x ∷ objects) o more m = go (x.serial == o) refl m (at_place g objects o more)
  where
    go : (b : Bool) → (x.serial == o) ≡ b → Includes (serials (x ∷ objects)) o
        → (Includes (serials objects) o → slice_get (map (λ (x : Object). g x.serial) objects ++ more) (place_of objects o) ≡ Some (g o))
        → slice_get (g x.serial ∷ (map (λ (x : Object). g x.serial) objects ++ more)) (if b then 0 else suc (place_of objects o)) ≡ Some (g o)
    go true e m rest = ap (λ (s : ℕ). Some (g s)) (eqb-true x.serial o e)
    go false e (inl i) rest = absurd (not_both (x.serial == o) (eq-eqb x.serial o i) e)
    go false e (inr m) rest = rest m

-- and the place of that element
pub place_at : (low high : ℕ) (objects : List Object) → Rises low high objects → (i : ℕ) (x : Object) → slice_get objects i ≡ Some x → place_of objects x.serial ≡ i
place_at low high [] r i x e = absurd (cc)
place_at low high (y ∷ objects) r zero x e = let same : y ≡ x = cc in ap (λ (b : Bool). if b then 0 else suc (place_of objects x.serial))
    (eq-eqb y.serial x.serial (ap (λ (z : Object). z.serial) same))
place_at low high (y ∷ objects) r (suc i) x e =
    let later = serial_from (suc y.serial) high objects x r.1 (slice_get_member objects i x e) in
    ap (λ (b : Bool). if b then 0 else suc (place_of objects x.serial)) (ne_eqb y.serial x.serial (λ same. omega (arith, same, later))) ∙ ap suc (place_at (suc y.serial) high objects r.1 i x e)

-- two objects have two places
pub place_same : (objects : List Object) (a b : ℕ) → Includes (serials objects) a → place_of objects a ≡ place_of objects b → a ≡ b
place_same [] a b m e = absurd m
place_same (x ∷ objects) a b m e = go (x.serial == a) (x.serial == b) refl refl m e (place_same objects a b)
  where
    go : (c d : Bool) → (x.serial == a) ≡ c → (x.serial == b) ≡ d → Includes (serials (x ∷ objects)) a → (if c then 0 else suc (place_of objects a)) ≡ (if d then 0 else suc (place_of objects b))
        → (Includes (serials objects) a → place_of objects a ≡ place_of objects b → a ≡ b) → a ≡ b
    go true true f g m e rest = sym (eqb-true x.serial a f) ∙ eqb-true x.serial b g
    go true false f g m e rest = absurd (omega (arith, e))
    go false true f g m e rest = absurd (omega (arith, e))
    go false false f g (inl i) e rest = absurd (not_both (x.serial == a) (eq-eqb x.serial a i) f)
    go false false f g (inr m) e rest = rest m (omega (arith, e))

pub occurrences-placed : (objects : List Object) (a : ℕ) → Includes (serials objects) a → (xs : List ℕ) → occurrences (place_of objects a) (map (place_of objects) xs) ≡ occurrences a xs
occurrences-placed objects a lives [] = refl
occurrences-placed objects a lives (x ∷ xs) =
    occurrences-cons (place_of objects a) (place_of objects x) (map (place_of objects) xs)
    ∙ ap (λ (n : ℕ). cond (place_of objects x == place_of objects a) 1 0 + n) (occurrences-placed objects a lives xs)
    ∙ ap (λ (b : Bool). cond b 1 0 + occurrences a xs) (same (x == a) refl)
    ∙ sym (occurrences-cons a x xs)
  where
    same : (b : Bool) → (x == a) ≡ b → (place_of objects x == place_of objects a) ≡ (x == a)
    same true e = eq-eqb (place_of objects x) (place_of objects a) (ap (place_of objects) (eqb-true x a e)) ∙ sym e
    same false e = ne_eqb (place_of objects x) (place_of objects a) (λ p. eqb-false x a e (sym (place_same objects a x lives (sym p)))) ∙ sym e

-- the references of the marked members, by places
mapped_if : (p : ℕ → ℕ) (refs : List ℕ) (b : Bool) → (if b then map p refs else []) ≡ map p (if b then refs else [])
mapped_if p refs true = refl
mapped_if p refs false = refl

-- the marks of a set
abbrev pub marks_of : (ℕ → Bool) → List Object → List Bool
marks_of set objects = map (λ (x : Object). set x.serial) objects ++ true ∷ []

pub targets_placed : (set : ℕ → Bool) (p d : ℕ → ℕ) (given : List ℕ) (objects : List Object)
    → targets_from (marks_of set objects) (map (λ (m : Member). m.refs) (map (λ (x : Object). member_with (d x.serial) (map p (references x.entries))) objects ++ member_with 0 (map p given) ∷ []))
    ≡ map p (references_from set objects) ++ map p given
targets_placed set p d given [] = append-nil (map p given)
targets_placed set p d given (x ∷ objects) =
    ap (λ (ys : List ℕ). (if set x.serial then map p (references x.entries) else []) ++ ys) (targets_placed set p d given objects)
    ∙ sym (append_assoc (if set x.serial then map p (references x.entries) else []) (map p (references_from set objects)) (map p given))
    ∙ ap (λ (ys : List ℕ). ys ++ map p (references_from set objects) ++ map p given) (mapped_if p (references x.entries) (set x.serial))
    ∙ ap (λ (ys : List ℕ). ys ++ map p given) (sym (map-append p (part set x) (references_from set objects)))

pub degrees_placed : (p d : ℕ → ℕ) (given : List ℕ) (objects : List Object)
    → map (λ (m : Member). m.degree) (map (λ (x : Object). member_with (d x.serial) (map p (references x.entries))) objects ++ member_with 0 (map p given) ∷ [])
    ≡ map (λ (x : Object). d x.serial) objects ++ 0 ∷ []
degrees_placed p d given [] = refl
degrees_placed p d given (x ∷ objects) = ap (λ (ds : List ℕ). d x.serial ∷ ds) (degrees_placed p d given objects)

-- only the release has in-degree 0
pub found_degree : (d : ℕ → ℕ) (objects : List Object) (i : ℕ) → 0 < slice_index (map (λ (x : Object). d x.serial) objects ++ 0 ∷ []) i → (x : Object) × (slice_get objects i ≡ Some x)
found_degree d [] zero h = absurd (omega (arith, h))
found_degree d [] (suc i) h = absurd (omega (arith, h))
found_degree d (x ∷ objects) zero h = (x, refl)
found_degree d (x ∷ objects) (suc i) h = found_degree d objects i h

mark_last : (set : ℕ → Bool) (objects : List Object) → Marks (marks_of set objects) (length objects)
mark_last set [] = refl
mark_last set (x ∷ objects) = mark_last set objects

marks_are : (set : ℕ → Bool) (objects : List Object) (marks : List Bool) → length marks ≡ length objects + 1 → ((i : ℕ) (x : Object) → slice_get objects i ≡ Some x → is_marked marks i ≡ set x.serial)
    → is_marked marks (length objects) ≡ true → marks ≡ marks_of set objects
marks_are set [] [] long h last = absurd (omega (arith, long))
marks_are set [] (b ∷ []) long h last = ap (λ (c : Bool). c ∷ []) last
marks_are set [] (b ∷ c ∷ marks) long h last = absurd (omega (arith, long))
marks_are set (x ∷ objects) [] long h last = absurd (omega (arith, long))
marks_are set (x ∷ objects) (b ∷ marks) long h last =
    ap (λ (c : Bool). c ∷ marks) (h 0 x refl) ∙ ap (λ (ms : List Bool). set x.serial ∷ ms) (marks_are set objects marks (omega (arith, long)) (λ i y e. h (suc i) y e) last)

module _ (w : World) (given : List ℕ) (low high : ℕ) (rises : Rises low high w.objects) where
  abbrev degrees : List ℕ
  degrees = map (λ (m : Member). m.degree) (members_of w given)

  abbrev rows : List (List ℕ)
  rows = map (λ (m : Member). m.refs) (members_of w given)

  count_of_members : length (members_of w given) ≡ length w.objects + 1
  count_of_members = length-append (map (λ (x : Object). member_with (in_degree w x.serial) (map (place_of w.objects) (references x.entries))) w.objects)
      (member_with 0 (map (place_of w.objects) given) ∷ [])
      ∙ ap (λ (n : ℕ). n + 1) (length-map w.objects (λ (x : Object). member_with (in_degree w x.serial) (map (place_of w.objects) (references x.entries))))

  degree_placed : (o : ℕ) → Includes (serials w.objects) o → slice_index degrees (place_of w.objects o) ≡ in_degree w o
  degree_placed o lives = ap (λ (ds : List ℕ). slice_index ds (place_of w.objects o)) (degrees_placed (place_of w.objects) (in_degree w) given w.objects)
      ∙ get_or_from_slice_get (map (λ (x : Object). in_degree w x.serial) w.objects ++ 0 ∷ []) (place_of w.objects o) (in_degree w o) 0 (at_place (in_degree w) w.objects o (0 ∷ []) lives)

  count_placed : (set : ℕ → Bool) (o : ℕ) → Includes (serials w.objects) o → occurrences (place_of w.objects o) (targets_from (marks_of set w.objects) rows)
      ≡ occurrences o (given ++ references_from set w.objects)
  count_placed set o lives =
      let inside = references_from set w.objects in
      let p = place_of w.objects in
      let all : occurrences (p o) (targets_from (marks_of set w.objects) rows) ≡ occurrences (p o) (map p inside ++ map p given) =
      ap (occurrences (p o)) (targets_placed set p (in_degree w) given w.objects) in
      omega (
        arith,
        all,
        occurrences-append (p o) (map p inside) (map p given),
        occurrences-placed w.objects o lives inside,
        occurrences-placed w.objects o
            lives given,
        occurrences-append o given inside,
      )

  -- a closed set of serials, by places
  closed_by_places : (set : ℕ → Bool) → IsClosed w given set → IsClosedByPlaces (members_of w given) (IsTheRelease w) (marks_of set w.objects)
  closed_by_places set closed = record {
    len = length-append (map (λ (x : Object). set x.serial) w.objects) (true ∷ []) ∙ ap (λ (n : ℕ). n + 1) (length-map w.objects (λ (x : Object). set x.serial)) ∙ sym count_of_members;
    given = λ o e. subst (Marks (marks_of set w.objects)) (sym e) (mark_last set w.objects);
    dies = λ o some count.
        let x = found_degree (in_degree w) w.objects o (subst (λ (ds : List ℕ). 0 < slice_index ds o) (degrees_placed (place_of w.objects) (in_degree w) given w.objects) some) in
        let member = slice_get_member w.objects o x.0 x.1 in
        let lives = Includes-map (λ (z : Object). z.serial) w.objects x.0 member in
        let at = place_at low high w.objects rises o x.0 x.1 in
        let degree = degree_placed x.0.serial lives in
        let positive : 0 < in_degree w x.0.serial = subst (λ (n : ℕ). 0 < n) degree (subst (λ (i : ℕ). 0 < slice_index degrees i) (sym at) some) in
        let all : occurrences x.0.serial (given ++ references_from set w.objects) ≡ in_degree w x.0.serial =
        sym (count_placed set x.0.serial lives) ∙ subst (λ (i : ℕ). occurrences i (targets_from (marks_of set w.objects) rows) ≡ slice_index degrees i) (sym at) count ∙ degree in
        subst (Marks (marks_of set w.objects)) at (at_place set w.objects x.0.serial (true ∷ []) lives ∙ ap (λ (b : Bool). Some b) (closed x.0 member positive all));
  }

  -- closed marks, by serials
  closed_by_serials : (marks : List Bool) → IsClosedByPlaces (members_of w given) (IsTheRelease w) marks → IsClosed w given (λ o. is_marked marks (place_of w.objects o))
  closed_by_serials marks closed x member some count =
      let set : ℕ → Bool = λ o. is_marked marks (place_of w.objects o) in
      let lives = Includes-map (λ (z : Object). z.serial) w.objects x member in
      let degree = degree_placed x.serial lives in
      let are : marks ≡ marks_of set w.objects = marks_are set w.objects marks (closed.len ∙ count_of_members)
      (λ i y e. ap (is_marked marks) (sym (place_at low high w.objects rises i y e))) (is_of_marks marks (length w.objects)
      (closed.given (length w.objects) refl)) in
      is_of_marks marks (place_of w.objects x.serial) (closed.dies (place_of w.objects x.serial) (subst (λ (n : ℕ). 0 < n) (sym degree) some)
      (ap (λ (ms : List Bool). occurrences (place_of w.objects x.serial) (targets_from ms rows)) are ∙ count_placed set x.serial lives ∙ count ∙ sym degree))

  pub dies_by_places : (x : Object) → Includes w.objects x → DiesByCount w given x.serial ↔ Dies (members_of w given) (IsTheRelease w) (place_of w.objects x.serial)
  dies_by_places x member = (
    λ h marks closed. marks_of_is marks (place_of w.objects x.serial) (h (λ o. is_marked marks (place_of w.objects o)) (closed_by_serials marks closed)),
    λ h set closed. is_some_true (set x.serial) (sym (at_place set w.objects x.serial (true ∷ []) (Includes-map (λ (z : Object). z.serial) w.objects x member))
        ∙ h (marks_of set w.objects) (closed_by_places set closed)),
  )
    where
      is_some_true : (b : Bool) → Some b ≡ Some true → b ≡ true
      is_some_true true e = refl
      is_some_true false e = absurd (let same : false ≡ true = cc in cc)

pub frees_what_drop_tells : ReleasesFreeWhatDropTells
frees_what_drop_tells script budget before during given below known r x member =
    let first = opening script budget in
    let w = last_world first before in
    let fit = run_fit script first before (run_front script first before during r.run) (opening_fit script budget) in
    let same = dies_by_places w given 1 w.next_serial fit.sound.rises x member in
    let exact = (frees_exactly script budget before during given below known r).freed x.serial in
    (λ m. same.0 (exact.0 m), λ h. exact.1 (same.1 h))
