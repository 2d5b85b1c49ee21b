-- The second reachability pass leaves a sealed final set: what names, activities, survivors and uncondemned objects hold
-- survives.
use Rattle.std.proofs.Common.{◌≡◌, ◌≢◌, refl, sym, ◌∙◌, ap, subst, ℕ, zero, suc, ◌+◌, ◌<◌, ◌≤◌, Bool, true, false, cond, inl, inr, ◌⊎◌, List, [], ◌∷◌, ◌++◌, map, length, Option, Some, None, arith}
use Rattle.std.specs.Prelude.{◌==◌, if◌then◌else◌, filter, flat_map, option_map, option_to_list, unwrap_or, ◌||◌}
use Rattle.cg_value.specs.declared.Place.TheVariants.{Cand, Gen, Legacy, Untracked}
use Rattle.cg_script.specs.declared.Script.{Script}
use Rattle.cg_graph.specs.declared.Edge.{Edge}
use Rattle.cg_graph.specs.Member.{Includes, includes}
use Rattle.cg_graph.specs.Reach.{edges, first, next}
use Rattle.cg_graph.specs.Value.{references}
use Rattle.cg_graph.specs.Object.{Object, object_at, objects_at, is_at, same_place, serials, serials_at, with_place, with_referent}
use Rattle.cg_graph.specs.Holdings.{entry_holdings, graph_of, name_holdings, occurrences}
use Rattle.cg_graph.proofs.Objects.{occurrences-append}
use Rattle.cg_graph.proofs.Members.{either, or_left, Includes-of, includes-of, Includes-append_left, Includes-append_right, Includes-filter, Includes-map, Includes-map_cases, or_right}
use Rattle.cg_machine.specs.declared.event.Event.{Event}
use Rattle.cg_machine.specs.declared.event.FrameSort.{FrameSort}
use Rattle.cg_machine.specs.declared.event.FrameSort.TheVariants.{Callback, Call}
use Rattle.cg_machine.specs.World.{World, Activity, Framed, Dying, Collecting, Collection, Frame, Death, Split, Turns, AfterTurn}
use Rattle.cg_machine.specs.Holdings.{call_holds, holdings, holds}
use Rattle.cg_machine.specs.Weak.{AllLose, NoneLeft, loses_referent}
use Rattle.cg_machine.specs.Collect.{SplitStep, Survives, collection_at, get_older, has_flag, loses_at_split, older, save_all, is_final_in}
use Rattle.cg_represents.specs.Orderly.{all_waits, waits_of}
use Rattle.cg_laws.proofs.Condemned.{held_survives, filter_holdings}
use Rattle.cg_represents.proofs.Lists.{present}
use Rattle.cg_laws.proofs.HeldLivesDeaths.{HasOrder}
use Rattle.cg_laws.proofs.Unreferred.{IsLater, later_refl, later_trans, lives_within, still_later, lost_later}
use Rattle.cg_laws.proofs.Lookups.{at_member, same_object}
use Rattle.cg_laws.proofs.HeldLives.{waits_held}
use Rattle.cg_represents.proofs.Serials.{Rises, Rises-map}
use Rattle.cg_laws.proofs.StackFacts.{AreKnown, IsKnown, KnowsFunction}
use Rattle.cg_laws.proofs.Unheld.{AreOver, AreResting, IsLocalHeld, IsOver, held_by_member, rests_cases}
use Rattle.cg_laws.proofs.SetsApart.{NoneCollects, stands_at}
use Rattle.cg_represents.proofs.Places.{place_is}
use Rattle.cg_promises.proofs.FinalizerOnce.{Marks}
use Rattle.cg_promises.proofs.FinalizersDone.{IsWanted, Primed, legacy_later, ran_later}
use Rattle.cg_promises.proofs.FinalSet.{Fits, IsDone, NotAfter, Sealed}

-- with one that does not pass, there are more holds
pub more_held : (p : Object → Bool) (objects : List Object) (y : Object) (o : ℕ) → Includes objects y → p y ≡ false → Includes (references y.entries) o
    → occurrences o (entry_holdings (graph_of (filter p objects))) < occurrences o (entry_holdings (graph_of objects))
more_held p [] y o m t k = absurd m
more_held p (x ∷ objects) y o (inl e) t k = go (p x) (ap p e ∙ t)
  where
    here : 0 < occurrences o (references x.entries)
    here = present o (references x.entries) (subst (λ (z : Object). Includes (references z.entries) o) (sym e) k)

    go : (b : Bool) → b ≡ false → occurrences o (entry_holdings (graph_of (cond b (x ∷ filter p objects) (filter p objects)))) < occurrences o (entry_holdings (graph_of (x ∷ objects)))
    go true i = absurd (let no : true ≡ false = i in cc)
    go false i = omega (arith, here, filter_holdings p objects o, occurrences-append o (references x.entries) (entry_holdings (graph_of objects)))
more_held p (x ∷ objects) y o (inr m) t k = go (p x) (more_held p objects y o m t k)
  where
    go : (b : Bool) → occurrences o (entry_holdings (graph_of (filter p objects))) < occurrences o (entry_holdings (graph_of objects))
        → occurrences o (entry_holdings (graph_of (cond b (x ∷ filter p objects) (filter p objects)))) < occurrences o (entry_holdings (graph_of (x ∷ objects)))
    go true k = omega (
      arith,
      k,
      occurrences-append o (references x.entries) (entry_holdings (graph_of (filter p objects))),
      occurrences-append o (references x.entries) (entry_holdings (graph_of objects)),
    )
    go false k = omega (arith, k, occurrences-append o (references x.entries) (entry_holdings (graph_of objects)))

abbrev pub edge : ℕ → ℕ → Edge
edge a b = record { from = a; to = b }

pub edge_of : (xs : List Object) (y : Object) (o : ℕ) → Includes xs y → Includes (references y.entries) o → Includes (edges (graph_of xs)) (record { from = y.serial; to = o })
edge_of [] y o m k = absurd m
edge_of (x ∷ xs) y o (inl e) k = Includes-append_left (map (edge x.serial) (references x.entries)) (edges (graph_of xs)) (edge y.serial o)
    (subst (λ (z : Object). Includes (map (edge x.serial) (references x.entries)) (edge z.serial o)) e (Includes-map (edge x.serial) (references x.entries) o
    (subst (λ (z : Object). Includes (references z.entries) o) (sym e) k)))
edge_of (x ∷ xs) y o (inr m) k = Includes-append_right (map (edge x.serial) (references x.entries)) (edges (graph_of xs)) (edge y.serial o) (edge_of xs y o m k)

-- A member that is held from outside the condemned objects survives.
module _ (w : World) (x : Object) (m : Includes (objects_at w.objects Cand) x) where
  inside : Includes (serials_at w.objects Cand) x.serial
  inside = Includes-map (λ (z : Object). z.serial) (objects_at w.objects Cand) x m

  parts : occurrences x.serial (holdings w) ≡ occurrences x.serial (name_holdings w.names) + occurrences x.serial (1 ∷ []) + occurrences x.serial
      (entry_holdings (graph_of w.objects)) + occurrences x.serial (flat_map holds w.stack)
  parts = let a = occurrences-append x.serial (name_holdings w.names ++ (1 ∷ []) ++ entry_holdings (graph_of w.objects)) (flat_map holds w.stack) in
      let b = occurrences-append x.serial (name_holdings w.names ++ (1 ∷ [])) (entry_holdings (graph_of w.objects)) in
      let c = occurrences-append x.serial (name_holdings w.names) (1 ∷ []) in omega (arith, a, b, c)

  named_survives : Includes (name_holdings w.names) x.serial → Survives w Cand x.serial
  named_survives k = let more = present x.serial (name_holdings w.names) k in let less = filter_holdings (is_at Cand) w.objects x.serial in first (omega (arith, more, less, parts)) inside

  root_survives : x.serial ≡ 1 → Survives w Cand x.serial
  root_survives e = let more = present x.serial (1 ∷ []) (inl (sym e)) in let less = filter_holdings (is_at Cand) w.objects x.serial in first (omega (arith, more, less, parts)) inside

  outside_survives : (y : Object) → Includes w.objects y → is_at Cand y ≡ false → Includes (references y.entries) x.serial → Survives w Cand x.serial
  outside_survives y k t i = let less = more_held (is_at Cand) w.objects y x.serial k t i in first (omega (arith, less, parts)) inside

  next_survives : (y : Object) → Includes w.objects y → is_at Cand y ≡ true → Includes (references y.entries) x.serial → Survives w Cand y.serial → Survives w Cand x.serial
  next_survives y k t i s = next s (edge_of (objects_at w.objects Cand) y x.serial (Includes-filter (is_at Cand) w.objects y t k) i) inside

-- what the clearing of weak references leaves
record Tracks (x y : Object) : Type 0 where
  later : IsLater x y
  entries : y.entries ≡ x.entries
  finalized : y.finalized ≡ x.finalized
  place : y.place ≡ x.place

same_tracks : (x : Object) → Tracks x x
same_tracks x = record { later = later_refl x; entries = refl; finalized = refl; place = refl }

lose_back : (wanted : Object → Bool) (weaks : List ℕ) (objects after : List Object) → AllLose wanted objects weaks after → (y : Object) → Includes after y
    → (x : Object) × Includes objects x × Tracks x y
lose_back wanted [] objects after lose y m = (y, subst (λ os. Includes os y) lose.1 m, same_tracks y)
lose_back wanted (weak ∷ weaks) objects after lose y m =
    let z = lose_back wanted weaks (loses_referent weak objects) after lose.1 y m in
    let x = Includes-map_cases (λ x. if x.serial == weak then with_referent None x else x) objects z.0 z.1 in
    let t = subst (Tracks x.0) x.2 (one (x.0.serial == weak) x.0) in
    (x.0, x.1, record { later = later_trans x.0 z.0 y t.later z.2.later; entries = z.2.entries ∙ t.entries; finalized = z.2.finalized ∙ t.finalized; place = z.2.place ∙ t.place })
  where
    one : (b : Bool) (x : Object) → Tracks x (if b then with_referent None x else x)
    one true x = record { later = lost_later; entries = refl; finalized = refl; place = refl }
    one false x = same_tracks x

lose_none : (wanted : Object → Bool) (weaks : List ℕ) (objects after : List Object) → AllLose wanted objects weaks after → NoneLeft wanted after
lose_none wanted [] objects after lose = subst (NoneLeft wanted) (sym lose.1) lose.0
lose_none wanted (weak ∷ weaks) objects after lose = lose_none wanted weaks (loses_referent weak objects) after lose.1

module _ (script : Script) (c : Collection) (below : List Activity) (v : World) (rises : Rises 1 v.next_serial v.objects) (alone : NoneCollects below)
    (clears : has_flag c.flags save_all ≡ false) where
  abbrev now : World
  now = collection_at c Split below v

  module _ (order : HasOrder now) (over : AreOver now.stack) (known : AreKnown v.objects now.stack) (primed : Primed script v.objects now.stack)
      (resting : AreResting script now below) (events : List Event) (after : World) (step : SplitStep c below now events after) where
    abbrev aged : List Object
    aged = get_older c.generation step.alive v.objects

    abbrev members : List ℕ
    members = serials_at step.objects Cand

    -- a condemned object that does not survive
    record IsDead (o : ℕ) : Type 0 where
      object : Object
      member : Includes v.objects object
      serial : object.serial ≡ o
      place : object.place ≡ Cand
      dead : ¬ Survives now Cand object.serial

    at_cand : (x : Object) → x.place ≡ Cand → is_at Cand x ≡ true
    at_cand x e = ap (λ p. same_place p Cand) e

    among : (x : Object) → Includes v.objects x → x.place ≡ Cand → Includes (objects_at v.objects Cand) x
    among x m e = Includes-filter (is_at Cand) v.objects x (at_cand x e) m

    -- where an object comes from: it moved to the older generation, or is where it was
    abbrev Comes : Object → Object → Type 0
    Comes x y = IsLater x y × (y.entries ≡ x.entries) × (y.finalized ≡ x.finalized) × ((includes step.alive x.serial ≡ true)
        × (y.place ≡ Gen (older c.generation)) ⊎ (includes step.alive x.serial ≡ false) × (y.place ≡ x.place))

    back : (y : Object) → Includes step.objects y → (x : Object) × Includes v.objects x × Comes x y
    back y m =
        let z = lose_back (loses_at_split aged) step.cleared aged step.objects step.lose y m in
        let x = Includes-map_cases (λ x. if includes step.alive x.serial then with_place (Gen (older c.generation)) x else x) v.objects z.0 z.1 in
        (x.0, x.1, one x.0 z.0 (includes step.alive x.0.serial) refl x.2 z.2)
      where
        one : (x z : Object) (b : Bool) → includes step.alive x.serial ≡ b → (if b then with_place (Gen (older c.generation)) x else x) ≡ z → Tracks z y → Comes x y
        one x z true t e k = let s : Tracks (with_place (Gen (older c.generation)) x) y = subst (λ q. Tracks q y) (sym e) k in
            (later_trans x (with_place (Gen (older c.generation)) x) y (still_later) s.later, s.entries, s.finalized, inl (t, s.place))
        one x z false t e k = let s : Tracks x y = subst (λ q. Tracks q y) (sym e) k in (s.later, s.entries, s.finalized, inr (t, s.place))

    not_alive : (o : ℕ) → includes step.alive o ≡ false → ¬ Survives now Cand o
    not_alive o e s = let no : true ≡ false = sym (includes-of step.alive o ((step.survivors o).1 s)) ∙ e in cc

    dead_of : (o : ℕ) → Includes members o → IsDead o
    dead_of o k =
        let y = stands_at step.objects Cand o k in
        let x = back y.0 y.1 in
        let at : y.0.place ≡ Cand = place_is y.0.place Cand y.2 in
        either x.2.3 (λ old. absurd (let no : Gen (older c.generation) ≡ Cand = sym old.1 ∙ at in cc))
        (λ same. record { object = x.0; member = x.1; serial = sym x.2.0.serial ∙ y.3; place = sym same.1 ∙ at; dead = not_alive x.0.serial same.0 })

    -- a survivor is no member
    survivor_out : (o : ℕ) → (((x : Object) → Includes (objects_at v.objects Cand) x → x.serial ≡ o → Survives now Cand x.serial)) → ¬ Includes members o
    survivor_out o survives k = let d = dead_of o k in d.dead (survives d.object (among d.object d.member d.place) d.serial)

    held_out : (n : ℕ) → Includes (flat_map holds now.stack) n → ¬ Includes members n
    held_out n h = survivor_out n (λ x m e. held_survives now Cand x m (subst (Includes (flat_map holds now.stack)) (sym e) h))

    entries_in : (y : Object) → Includes step.objects y → (o : ℕ) → Includes members o → Includes (references y.entries) o → Includes members y.serial
    entries_in y m o k r = go (is_at Cand x.0) refl
      where
        x : (x : Object) × Includes v.objects x × Comes x y
        x = back y m

        d : IsDead o
        d = dead_of o k

        refers : Includes (references x.0.entries) d.object.serial
        refers = subst (λ n. Includes (references x.0.entries) n) (sym d.serial) (subst (λ es. Includes (references es) o) x.2.1 r)

        there : y.place ≡ Cand → Includes members y.serial
        there e = Includes-map (λ (z : Object). z.serial) (objects_at step.objects Cand) y (Includes-filter (is_at Cand) step.objects y (at_cand y e) m)

        go : (b : Bool) → is_at Cand x.0 ≡ b → Includes members y.serial
        go false t = absurd (d.dead (outside_survives now d.object (among d.object d.member d.place) x.0 x.1 t refers))
        go true t = either x.2.3
            (λ old. absurd (d.dead (next_survives now d.object (among d.object d.member d.place) x.0 x.1 t refers ((step.survivors x.0.serial).0 (Includes-of step.alive x.0.serial old.0)))))
            (λ same. there (same.1 ∙ place_is x.0.place Cand t))

    unreferred : (y : Object) → Includes step.objects y → (o : ℕ) → Includes members o → y.referent ≢ Some o
    unreferred y m o k e =
        let d = dead_of o k in
        let stays : includes step.alive d.object.serial ≡ false = not_includes d.object.serial d.dead in
        let member : Includes aged d.object = subst (Includes aged) (ap (λ b. if b then with_place (Gen (older c.generation)) d.object else d.object) stays)
        (Includes-map (λ x. if includes step.alive x.serial then with_place (Gen (older c.generation)) x else x) v.objects d.object d.member) in
        let found : object_at aged o ≡ Some d.object = subst (λ n. object_at aged n ≡ Some d.object) d.serial (at_member 1 v.next_serial aged d.object rises_aged member) in
        let loses : loses_at_split aged y ≡ true = ap (λ r. unwrap_or (option_map (λ n. is_final_in aged n || is_at Cand y) r) false) e
        ∙ or_left (is_final_in aged o) (is_at Cand y) (ap (λ r. unwrap_or (option_map (is_at Cand) r) false) found ∙ at_cand d.object d.place) in
        let no : true ≡ false = sym loses ∙ lose_none (loses_at_split aged) step.cleared aged step.objects step.lose y m in cc
      where
        rises_aged : Rises 1 v.next_serial aged
        rises_aged = Rises-map (λ x. if includes step.alive x.serial then with_place (Gen (older c.generation)) x else x) (λ x. same (includes step.alive x.serial) x) 1 v.next_serial v.objects rises
          where
            same : (b : Bool) (x : Object) → (if b then with_place (Gen (older c.generation)) x else x).serial ≡ x.serial
            same true x = refl
            same false x = refl

        not_includes : (n : ℕ) → ¬ Survives now Cand n → includes step.alive n ≡ false
        not_includes n dead = go (includes step.alive n) refl
          where
            go : (b : Bool) → includes step.alive n ≡ b → b ≡ false
            go true t = absurd (dead ((step.survivors n).0 (Includes-of step.alive n t)))
            go false t = refl

    at_place : (y : Object) → Includes step.objects y → Includes members y.serial → y.place ≡ Cand
    at_place y m k =
        let d = dead_of y.serial k in
        let x = back y m in
        let one : d.object ≡ x.0 = same_object 1 v.next_serial v.objects d.object x.0 rises d.member x.1 (d.serial ∙ x.2.0.serial) in
        either x.2.3 (λ old. absurd (d.dead (subst (λ (z : Object). Survives now Cand z.serial) (sym one) ((step.survivors x.0.serial).0 (Includes-of step.alive x.0.serial old.0)))))
        (λ same. same.1 ∙ subst (λ (z : Object). z.place ≡ Cand) one d.place)

    -- a member that was a weak reference is cleared
    lost_own : (y : Object) → Includes step.objects y → y.place ≡ Cand → (r : Option ℕ) → y.referent ≡ r → y.referent ≡ None
    lost_own y m place None e = e
    lost_own y m place (Some r) e =
        let loses : loses_at_split aged y ≡ true = ap (λ q. unwrap_or (option_map (λ n. is_final_in aged n || is_at Cand y) q) false) e
        ∙ or_right (is_final_in aged r) (is_at Cand y) (at_cand y place) in
        absurd (let no : true ≡ false = sym loses ∙ lose_none (loses_at_split aged) step.cleared aged step.objects step.lose y m in cc)

    done_of : (y : Object) → Includes step.objects y → Includes members y.serial → IsDone script y
    done_of y m k =
        let d = dead_of y.serial k in
        let x = back y m in
        let one : d.object ≡ x.0 = same_object 1 v.next_serial v.objects d.object x.0 rises d.member x.1 (d.serial ∙ x.2.0.serial) in
        let place : x.0.place ≡ Cand = subst (λ (z : Object). z.place ≡ Cand) one d.place in
        let marks : Marks x.0 y = record { serial = x.2.0.serial; code = x.2.0.code; class = x.2.0.class; finalized = λ e. x.2.2 ∙ e } in
        record {
          refers_to_none = lost_own y m (at_place y m k) y.referent refl;
          ran = ran_later script x.0 y marks (primed.ran (record c { phase = Split }) (inl refl) x.0 x.1 place);
          no_legacy = legacy_later script x.0 y marks (primed.no_legacy x.0 x.1 (subst IsWanted (sym place) tt));
          not_aside = λ e. either x.2.3 (λ old. let no : Gen (older c.generation) ≡ Legacy = sym old.1 ∙ e in cc) (λ same. let no : Cand ≡ Legacy = sym (same.1 ∙ place) ∙ e in cc);
        }

    -- the frames below
    frame_fits : (sort : FrameSort) (subject : ℕ) (function : Option ℕ) (rest : List Activity) → IsLocalHeld sort subject rest → KnowsFunction v.objects sort
        subject function rest → ((n : ℕ) → Includes (call_holds sort function ++ flat_map holds rest) n → Includes (flat_map holds now.stack) n)
        → ((n : ℕ) → Includes (all_waits rest) n → Includes (all_waits now.stack) n) → (¬ Includes members subject) × ((g : ℕ) → function ≡ Some g → ¬ Includes members g)
    frame_fits Call subject function rest local knows held waits =
        let out = held_out subject (held subject (Includes-append_left (option_to_list function) (flat_map holds rest) subject
        (subst (λ f. Includes (option_to_list f) subject) (sym knows.0) (inl refl)))) in
        (out, λ g e. let both : Some subject ≡ Some g = sym knows.0 ∙ e in let same : subject ≡ g = cc in subst (λ n. ¬ Includes members n) same out)
    frame_fits Callback subject function rest local knows held waits = (
      held_out subject (held subject local),
      λ g e. let both : Some knows.0 ≡ Some g = sym knows.1 ∙ e in let same : knows.0 ≡ g = cc in subst (λ n. ¬ Includes members n) same
          (either knows.2.held (λ h. held_out knows.0 (held knows.0 h)) (λ h. waiting_out knows.0 (waits subject h.0) h.1)),
    )
      where
        waiting_out : (g : ℕ) → Includes (all_waits now.stack) subject → ((x : Object) → Includes v.objects x → x.serial ≡ subject → Includes (references x.entries) g) → ¬ Includes members g
        waiting_out g waits holds_it = survivor_out g (λ x m e.
            let z = Includes-map_cases (λ (y : Object). y.serial) v.objects subject (order.stack_lives subject (waits_held now.stack subject waits)) in
            outside_survives now x m z.0 z.1 (not_cand z.0 z.1 z.2) (subst (Includes (references z.0.entries)) (sym e) (holds_it z.0 z.1 z.2)))
          where
            not_cand : (z : Object) → Includes v.objects z → z.serial ≡ subject → is_at Cand z ≡ false
            not_cand z m e = go (is_at Cand z) refl
              where
                go : (b : Bool) → is_at Cand z ≡ b → b ≡ false
                go true t = absurd ((order.condemned z m (or_left (is_at Cand z) _ t)).0 (subst (Includes (all_waits now.stack)) (sym e) waits))
                go false t = refl
    frame_fits sort subject function rest local knows held waits = (held_out subject (held subject local), λ g e. absurd (let no : None ≡ Some g = sym knows ∙ e in cc))

    frames_fit : (stack : List Activity) → AreOver stack → AreKnown v.objects stack → ((n : ℕ) → Includes (flat_map holds stack) n
        → Includes (flat_map holds now.stack) n) → ((n : ℕ) → Includes (all_waits stack) n → Includes (all_waits now.stack) n)
        → (f : Frame) → Includes stack (Framed f) → Fits members (Framed f)
    frames_fit [] over known held waits f m = absurd m
    frames_fit (a ∷ rest) over known held waits f (inl e) = here (subst (λ b. IsOver b rest) e over.0) (subst (λ b. IsKnown v.objects b rest) e known.0)
        (subst (λ b. (n : ℕ) → Includes (flat_map holds (b ∷ rest)) n → Includes (flat_map holds now.stack) n) e held)
      where
        here : IsLocalHeld f.sort f.subject rest → KnowsFunction v.objects f.sort f.subject f.function rest
            → ((n : ℕ) → Includes (call_holds f.sort f.function ++ flat_map holds rest) n → Includes (flat_map holds now.stack) n) → Fits members (Framed f)
        here local knows held = frame_fits f.sort f.subject f.function rest local knows held (λ n m. waits n (Includes-append_right (waits_of a) (all_waits rest) n m))
    frames_fit (a ∷ rest) over known held waits f (inr m) = frames_fit rest over.1 known.1 (λ n i. held n (Includes-append_right (holds a) (flat_map holds rest)
        n i)) (λ n i. waits n (Includes-append_right (waits_of a) (all_waits rest) n i)) f m

    below_fits : (a : Activity) → Includes below a → Fits members a
    below_fits (Framed f) m = frames_fit now.stack over known (λ n i. i) (λ n i. i) f (inr m)
    below_fits (Dying d) m = λ n i. held_out n (held_by_member now.stack (Dying d) n (inr m) i)
    below_fits (Collecting d) m = absurd (alone d m)
    below_fits a m = tt

    -- none is dying below
    no_death : (d : Death) → Includes below (Dying d) → ¬ Includes members d.object
    no_death d m k = either (rests_cases script now d.object d.phase (resting d m)) (λ own. held_out d.object (held_by_member now.stack (Dying d) d.object (inr m) own) k)
        (λ gone. let q = dead_of d.object k in let no : Untracked ≡ Cand = sym ((gone.unheld.quiet q.object q.member).untracked q.serial) ∙ q.place in cc)

    turns : (n : ℕ) → NotAfter (Collecting (record c { collected = c.collected + length (serials_at step.objects Cand); phase = Turns }) ∷ below) n
    turns n b m = either m (λ e. let same_one : record c { collected = c.collected + length (serials_at step.objects Cand); phase = Turns } ≡ b = cc
        in subst (λ (z : Collection). z.phase ≢ AfterTurn n) same_one (λ p. cc)) (λ i. absurd (alone b i))

    pub split_sealed : Sealed script members step.objects v.names (Collecting (record c { collected = c.collected + length (serials_at step.objects Cand); phase = Turns }) ∷ below) v.next_serial
    split_sealed = record {
      made = λ o k. let d = dead_of o k in (lives_within 1 v.next_serial v.objects o rises (lives d)).1;
      above = λ o k. let d = dead_of o k in
          let low = (lives_within 1 v.next_serial v.objects o rises (lives d)).0 in
          let apart : o ≢ 1 = λ e. d.dead (root_survives now d.object (among d.object d.member d.place) (d.serial ∙ e)) in
          higher o low apart;
      unnamed = λ o k h. let d = dead_of o k in d.dead (named_survives now d.object (among d.object d.member d.place) (subst (Includes (name_holdings v.names)) (sym d.serial) h));
      entries = entries_in;
      referents = unreferred;
      inside = done_of;
      stack_fits = λ a m. either m (λ e. subst (Fits members) e (tt, clears)) (below_fits a);
      collecting = refl;
      under = λ b m. record { holds_none = λ n i. held_out n (held_by_member now.stack b n (inr m) i); no_death = λ d e. no_death d (subst (Includes below) e m) };
      excused = λ y m k. inr (inr (inr (at_place y m k, turns y.serial)));
    }
      where
        lives : {o : ℕ} → IsDead o → Includes (serials v.objects) o
        lives d = subst (Includes (serials v.objects)) d.serial (Includes-map (λ (z : Object). z.serial) v.objects d.object d.member)

        higher : (o : ℕ) → 1 ≤ o → o ≢ 1 → 1 < o
        higher o low apart = either (cases o low) (λ e. absurd (apart e)) (λ h. h)
          where
            cases : (o : ℕ) → 1 ≤ o → (o ≡ 1) ⊎ (1 < o)
            cases zero h = absurd (omega (arith, h))
            cases (suc zero) h = inl refl
            cases (suc (suc n)) h = inr (omega arith)
