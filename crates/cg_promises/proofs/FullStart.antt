-- Where a full collection is about to start: a candidate survives exactly if it is reachable from a name, the garbage list,
-- an activity or a death.
use Rattle.std.proofs.Common.{◌≡◌, ◌≢◌, refl, sym, ◌∙◌, ap, subst, ℕ, ◌+◌, ◌<◌, Bool, true, false, inl, inr, ◌⊎◌, List, [], ◌∷◌, ◌++◌, map, filter, arith}
use Rattle.std.specs.Prelude.{cond, flat_map, if◌then◌else◌}
use Rattle.std.proofs.lemmas.Bool.{le-leb}
use Rattle.cg_value.specs.declared.Place.{Place}
use Rattle.cg_value.specs.declared.Place.TheVariants.{Untracked, Gen, Frozen}
use Rattle.cg_graph.specs.Member.{Includes, includes}
use Rattle.cg_graph.specs.Value.{references}
use Rattle.cg_graph.specs.Object.{Object, is_at, objects_at, same_place, serials, with_place}
use Rattle.cg_graph.specs.Holdings.{Graph, entry_holdings, graph_of, name_holdings, occurrences}
use Rattle.cg_graph.specs.declared.Edge.{Edge}
use Rattle.cg_graph.specs.Reach.{edges, first, next as further}
use Rattle.cg_graph.proofs.Objects.{occurrences-append}
use Rattle.cg_graph.proofs.Members.{either, cases_of, Includes-append_cases, Includes-filter, Includes-filter_cases, Includes-map, Includes-map_cases, Includes-of, includes-of}
use Rattle.cg_machine.specs.World.{World, Dying, Death, DyingPhase, AfterFinalizer, AfterLegacy}
use Rattle.cg_machine.specs.Holdings.{dying_holds, holdings, holds, is_dying}
use Rattle.cg_machine.specs.Collect.{merged, merged_place, IsGarbage, IsMemberOf, Survives}
use Rattle.cg_represents.specs.Orderly.{runs_own_frame}
use Rattle.cg_laws.specs.Laws.{IsOfCollection}
use Rattle.cg_represents.proofs.Lists.{present, no_times}
use Rattle.cg_laws.proofs.Lookups.{same_object}
use Rattle.cg_represents.proofs.Serials.{Rises}
use Rattle.cg_represents.proofs.Representing.{death_found as death_on}
use Rattle.cg_laws.proofs.Unheld.{held_by_member}
use Rattle.cg_laws.proofs.Condemned.{filter_holdings}
use Rattle.cg_promises.specs.Reached.{IsReached}
use Rattle.cg_promises.proofs.FinalSetStart.{edge, edge_of, more_held}
use Rattle.cg_promises.proofs.UntrackedStay.{IsSlackWorld}
use Rattle.cg_promises.proofs.UntrackedStayRuns.{death_found}
use Rattle.cg_promises.proofs.Generations.{IsYoung}

pub edge_from : (xs : List Object) (p q : ℕ) → Includes (edges (graph_of xs)) (edge p q) → (y : Object) × Includes xs y × (y.serial ≡ p) × Includes (references y.entries) q
edge_from [] p q m = absurd m
edge_from (x ∷ xs) p q m = either (Includes-append_cases (map (edge x.serial) (references x.entries)) (edges (graph_of xs)) (edge p q) m)
    (λ k. let r = Includes-map_cases (edge x.serial) (references x.entries) (edge p q) k in (
      x,
      inl refl,
      ap (λ (e : Edge). e.from) r.2,
      subst (Includes (references x.entries)) (ap (λ (e : Edge). e.to) r.2) r.1,
    ))
    (λ k. let y = edge_from xs p q k in (y.0, inr y.1, y.2, y.3))

-- what has more holds than those that pass give it is held by one that does not pass
abbrev pub HasOutside : (Object → Bool) → List Object → ℕ → Type 0
HasOutside p objects o = (y : Object) × Includes objects y × (p y ≡ false) × Includes (references y.entries) o

outside_step : (p : Object → Bool) (x : Object) (objects : List Object) (o : ℕ) → (occurrences o (entry_holdings (graph_of (filter p objects))) < occurrences o
    (entry_holdings (graph_of objects)) → HasOutside p objects o)
    → occurrences o (entry_holdings (graph_of (filter p (x ∷ objects)))) < occurrences o (entry_holdings (graph_of (x ∷ objects))) → HasOutside p (x ∷ objects) o
outside_step p x objects o rec less = go (p x) refl less
  where
    all : occurrences o (entry_holdings (graph_of (x ∷ objects))) ≡ occurrences o (references x.entries) + occurrences o (entry_holdings (graph_of objects))
    all = occurrences-append o (references x.entries) (entry_holdings (graph_of objects))

    rest : occurrences o (entry_holdings (graph_of (filter p objects))) < occurrences o (entry_holdings (graph_of objects)) → HasOutside p (x ∷ objects) o
    rest k = let y = rec k in (y.0, inr y.1, y.2, y.3)

    here : p x ≡ false → (t : Bool) → includes (references x.entries) o ≡ t → occurrences o (entry_holdings (graph_of (filter p objects))) < occurrences o
        (entry_holdings (graph_of (x ∷ objects))) → HasOutside p (x ∷ objects) o
    here f true t k = (x, inl refl, f, Includes-of (references x.entries) o t)
    here f false t k = let none = no_times o (references x.entries) (λ m. let no : true ≡ false = sym (includes-of (references x.entries) o m) ∙ t in cc) in rest (omega (arith, all, none, k))

    go : (b : Bool) → p x ≡ b → occurrences o (entry_holdings (graph_of (cond b (x ∷ filter p objects) (filter p objects)))) < occurrences o
        (entry_holdings (graph_of (x ∷ objects))) → HasOutside p (x ∷ objects) o
    go true t k = let some = occurrences-append o (references x.entries) (entry_holdings (graph_of (filter p objects))) in rest (omega (arith, all, some, k))
    go false t k = here t (includes (references x.entries) o) refl k

pub some_outside : (p : Object → Bool) (objects : List Object) (o : ℕ) → occurrences o (entry_holdings (graph_of (filter p objects))) < occurrences o
    (entry_holdings (graph_of objects)) → (y : Object) × Includes objects y × (p y ≡ false) × Includes (references y.entries) o
some_outside p [] o less = absurd (omega (arith, less))
some_outside p (x ∷ objects) o less = outside_step p x objects o (some_outside p objects o) less

-- a merge leaves the graph
abbrev pub in_merge : ℕ → Object → Object
in_merge g x = with_place (merged_place g x.place) x

pub same_graph : (g : ℕ) (objects : List Object) → graph_of (map (in_merge g) objects) ≡ graph_of objects
same_graph g [] = refl
same_graph g (x ∷ objects) = ap (λ (gr : Graph). (x.serial, x.entries) ∷ gr) (same_graph g objects)

-- a death holds its object while the object's own code runs
pub own_held : (o : ℕ) (phase : DyingPhase) → runs_own_frame phase ≡ true → Includes (dying_holds o phase) o
own_held o AfterFinalizer e = inl refl
own_held o AfterLegacy e = inl refl
own_held o phase e = absurd (let k : false ≡ true = e in cc)

-- a full collection examines every tracked object
pub looked_at : (p : Place) → IsYoung p → ¬ IsOfCollection p → p ≢ Frozen → (p ≡ Untracked) ⊎ (same_place (merged_place 2 p) (Gen 2) ≡ true)
looked_at Untracked young apart thawed = inl refl
looked_at (Gen i) young apart thawed = inr (ap (λ b. same_place (if b then Gen 2 else Gen i) (Gen 2)) (le-leb i 2 young))
looked_at Frozen young apart thawed = absurd (thawed refl)
looked_at p young apart thawed = absurd (apart tt)

module _ (w : World) (rises : Rises 1 w.next_serial w.objects) (near : (x : Object) → Includes w.objects x → (x.place ≡ Untracked) ⊎ (is_at (Gen 2) (in_merge 2 x) ≡ true)) where
  abbrev now : World
  now = merged 2 w

  abbrev members : List Object
  members = objects_at now.objects (Gen 2)

  parts : (o : ℕ) → occurrences o (holdings w) ≡ occurrences o (name_holdings w.names) + occurrences o (1 ∷ []) + occurrences o
      (entry_holdings (graph_of w.objects)) + occurrences o (flat_map holds w.stack)
  parts o = let a = occurrences-append o (name_holdings w.names ++ (1 ∷ []) ++ entry_holdings (graph_of w.objects)) (flat_map holds w.stack) in
      let b = occurrences-append o (name_holdings w.names ++ (1 ∷ [])) (entry_holdings (graph_of w.objects)) in
      let c = occurrences-append o (name_holdings w.names) (1 ∷ []) in omega (arith, a, b, c)

  -- the same holdings after the merge
  same_holdings : holdings now ≡ holdings w
  same_holdings = ap (λ (gr : Graph). name_holdings w.names ++ (1 ∷ []) ++ entry_holdings gr ++ flat_map holds w.stack) (same_graph 2 w.objects)

  same_entries : (o : ℕ) → occurrences o (entry_holdings (graph_of now.objects)) ≡ occurrences o (entry_holdings (graph_of w.objects))
  same_entries o = ap (λ (gr : Graph). occurrences o (entry_holdings gr)) (same_graph 2 w.objects)

  count_holdings : (o : ℕ) → occurrences o (holdings now) ≡ occurrences o (holdings w)
  count_holdings o = ap (occurrences o) same_holdings

  -- a member is in no other place
  pub member_tracked : (o : ℕ) → IsMemberOf now (Gen 2) o → (x : Object) → Includes w.objects x → x.serial ≡ o → x.place ≢ Untracked
  member_tracked o m x i s u =
      let z = Includes-map_cases (λ (y : Object). y.serial) members o m in
      let at = Includes-filter_cases (is_at (Gen 2)) now.objects z.0 z.1 in
      let y = Includes-map_cases (in_merge 2) w.objects z.0 at.0 in
      let same : y.0 ≡ x = same_object 1 w.next_serial w.objects y.0 x rises y.1 i (ap (λ (q : Object). q.serial) y.2 ∙ z.2 ∙ sym s) in
      let standing : same_place (merged_place 2 x.place) (Gen 2) ≡ true = subst (λ (q : Object). same_place (merged_place 2 q.place) (Gen 2) ≡ true) same
      (subst (λ (q : Object). is_at (Gen 2) q ≡ true) (sym y.2) at.1) in
      let no : false ≡ true = sym (ap (λ p. same_place (merged_place 2 p) (Gen 2)) u) ∙ standing in cc

  pub member_lives : (o : ℕ) → IsMemberOf now (Gen 2) o → Includes (serials w.objects) o
  member_lives o m =
      let z = Includes-map_cases (λ (y : Object). y.serial) members o m in
      let y = Includes-map_cases (in_merge 2) w.objects z.0 (Includes-filter_cases (is_at (Gen 2)) now.objects z.0 z.1).0 in
      subst (Includes (serials w.objects)) (ap (λ (q : Object). q.serial) y.2 ∙ z.2) (Includes-map (λ (q : Object). q.serial) w.objects y.0 y.1)

  -- held by a name, the garbage root or an activity
  held_first : (o : ℕ) → Includes (flat_map holds w.stack) o → IsMemberOf now (Gen 2) o → Survives now (Gen 2) o
  held_first o k m = let more = present o (flat_map holds w.stack) k in let less = filter_holdings (is_at (Gen 2)) now.objects o
      in first (omega (arith, more, less, same_entries o, count_holdings o, parts o)) m

  -- what is reachable survives
  module _ (faded : (d : Death) → Includes w.stack (Dying d) → runs_own_frame d.phase ≡ false → (x : Object) → Includes w.objects x → x.serial ≡ d.object → x.place ≡ Untracked) where
    dying_survives : (o : ℕ) → IsMemberOf now (Gen 2) o → is_dying w o ≡ true → Survives now (Gen 2) o
    dying_survives o m e = let d = death_on o w.stack e in go d.0 d.1 d.2 (cases_of (runs_own_frame d.0.phase))
      where
        go : (d : Death) → Includes w.stack (Dying d) → d.object ≡ o → (runs_own_frame d.phase ≡ true) ⊎ (runs_own_frame d.phase ≡ false) → Survives now (Gen 2) o
        go d i s (inl own) = held_first o (held_by_member w.stack (Dying d) o i (subst (Includes (dying_holds d.object d.phase)) s (own_held d.object d.phase own))) m
        go d i s (inr fades) = let x = Includes-map_cases (λ (q : Object). q.serial) w.objects o (member_lives o m) in absurd (member_tracked o m x.0 x.1 x.2 (faded d i fades x.0 x.1 (x.2 ∙ sym s)))

    next_one : (p q : ℕ) → (IsMemberOf now (Gen 2) p → Survives now (Gen 2) p) → Includes (edges (graph_of w.objects)) (edge p q) → IsMemberOf now (Gen 2) q → Survives now (Gen 2) q
    next_one p q before arrow m = let y = edge_from w.objects p q arrow in go y.0 y.1 y.2 y.3 (near y.0 y.1)
      where
        go : (y : Object) → Includes w.objects y → y.serial ≡ p → Includes (references y.entries) q → (y.place ≡ Untracked) ⊎ (is_at (Gen 2) (in_merge 2 y) ≡ true) → Survives now (Gen 2) q
        go y i s r (inl u) =
            let less = more_held (is_at (Gen 2)) now.objects (in_merge 2 y) q (Includes-map (in_merge 2) w.objects y i) (ap (λ k. same_place (merged_place 2 k) (Gen 2)) u) r in
            first (omega (arith, less, same_entries q, count_holdings q, parts q)) m
        go y i s r (inr t) =
            let at = Includes-filter (is_at (Gen 2)) now.objects (in_merge 2 y) t (Includes-map (in_merge 2) w.objects y i) in
            let member : IsMemberOf now (Gen 2) p = subst (IsMemberOf now (Gen 2)) s (Includes-map (λ (z : Object). z.serial) members (in_merge 2 y) at) in
            further (before member) (subst (λ n. Includes (edges (graph_of members)) (edge n q)) s (edge_of members (in_merge 2 y) q at r)) m

    pub reached_survives : (o : ℕ) → IsReached w o → IsMemberOf now (Gen 2) o → Survives now (Gen 2) o
    reached_survives o (first held inside) m = either held (dying_survives o m) (λ more. let less = filter_holdings (is_at (Gen 2)) now.objects o
        in first (omega (arith, more, less, same_entries o, count_holdings o)) m)
    reached_survives o (further path arrow inside) m = next_one _ o (λ k. reached_survives _ path k) arrow m

  -- and what survives is reachable
  module _ (slack : IsSlackWorld w) (root : Includes (serials w.objects) 1) where
    outside : (o : ℕ) → 0 < occurrences o (name_holdings w.names) + occurrences o (1 ∷ []) + occurrences o (flat_map holds w.stack) → Includes (serials w.objects) o → IsReached w o
    outside o more lives = first (inr (omega (arith, more, parts o))) lives

    root_reached : IsReached w 1
    root_reached = let more = present 1 (1 ∷ []) (inl refl) in outside 1 (omega (arith, more)) root

    by_entry : (y : Object) (o : ℕ) → Includes w.objects y → Includes (references y.entries) o → Includes (serials w.objects) o → IsReached w y.serial → IsReached w o
    by_entry y o i r lives path = further path (edge_of w.objects y o i r) lives

    by_untracked : (y : Object) (o : ℕ) → Includes w.objects y → y.place ≡ Untracked → Includes (references y.entries) o → IsMemberOf now (Gen 2) o → IsReached w o
    by_untracked y o i u r m = either (slack.slack y i u)
        (λ e. by_entry y o i r (member_lives o m) (either e (λ one. subst (IsReached w) (sym one) root_reached)
        (λ d. first (inl (death_found y.serial d.0 w.stack d.1 d.2)) (Includes-map (λ (q : Object). q.serial) w.objects y i))))
        (λ k. let x = Includes-map_cases (λ (q : Object). q.serial) w.objects o (member_lives o m) in absurd (member_tracked o m x.0 x.1 x.2 (k.1 o r x.0 x.1 x.2).1))

    pub survives_reached : (o : ℕ) → Survives now (Gen 2) o → IsReached w o
    survives_reached o (first held inside) = go (cases_of (includes others o))
      where
        others : List ℕ
        others = name_holdings w.names ++ (1 ∷ []) ++ flat_map holds w.stack

        sum : occurrences o others ≡ occurrences o (name_holdings w.names) + occurrences o (1 ∷ []) + occurrences o (flat_map holds w.stack)
        sum = let a = occurrences-append o (name_holdings w.names ++ (1 ∷ [])) (flat_map holds w.stack) in let b = occurrences-append o (name_holdings w.names) (1 ∷ []) in omega (arith, a, b)

        go : (includes others o ≡ true) ⊎ (includes others o ≡ false) → IsReached w o
        go (inl t) = let more = present o others (Includes-of others o t) in outside o (omega (arith, more, sum)) (member_lives o inside)
        go (inr f) =
            let none = no_times o others (λ k. let no : true ≡ false = sym (includes-of others o k) ∙ f in cc) in
            let y = some_outside (is_at (Gen 2)) now.objects o (omega (arith, held, none, sum, same_entries o, count_holdings o, parts o)) in
            let x = Includes-map_cases (in_merge 2) w.objects y.0 y.1 in
            by_untracked x.0 o x.1 (either (near x.0 x.1) (λ u. u) (λ t. absurd (let no : true ≡ false = sym t ∙ ap (is_at (Gen 2)) x.2 ∙ y.2 in cc)))
            (subst (λ (q : Object). Includes (references q.entries) o) (sym x.2) y.3) inside
    survives_reached o (further path arrow inside) =
        let y = edge_from members _ o arrow in
        let x = Includes-map_cases (in_merge 2) w.objects y.0 (Includes-filter_cases (is_at (Gen 2)) now.objects y.0 y.1).0 in
        by_entry x.0 o x.1 (subst (λ (z : Object). Includes (references z.entries) o) (sym x.2) y.3) (member_lives o inside) (subst (IsReached w) (sym (ap (λ (z : Object). z.serial) x.2 ∙ y.2)) (survives_reached _ path))

    -- an unreachable candidate is garbage
    pub unreached_garbage : (o : ℕ) → IsMemberOf now (Gen 2) o → ¬ IsReached w o → IsGarbage now (Gen 2) o
    unreached_garbage o m none = record { member = m; no_path = λ s. none (survives_reached o s) }
