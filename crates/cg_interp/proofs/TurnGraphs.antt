-- What a turn shows is what it records.
use Rattle.std.proofs.Common.{◌≡◌, ◌≢◌, refl, sym, ◌∙◌, ap, subst, ℕ, Bool, true, false, ◌⊎◌, inl, inr, List, [], ◌∷◌, ◌++◌, map, Option, None, Some, append_assoc, append-nil, codes}
use Rattle.std.specs.Prelude.{flat_map}
use Rattle.std.proofs.lemmas.Grind.{flat_map-append}
use Rattle.cg_value.specs.declared.Place.{Place}
use Rattle.cg_value.specs.declared.Place.TheVariants.{Cand, Legacy}
use Rattle.cg_script.specs.declared.Script.{Script}
use Rattle.cg_graph.specs.Object.{serials_at}
use Rattle.cg_graph.specs.Store.{Store, list_at}
use Rattle.cg_heap.specs.Calls.{IsListed}
use Rattle.cg_machine.specs.declared.event.Event.{Event}
use Rattle.cg_machine.specs.World.{World, Activity, Collecting, Collection, CollectPhase, Start, Split, Outcome, Running}
use Rattle.cg_machine.specs.Collect.{SameMembers, PhaseStep}
use Rattle.cg_machine.specs.Run.{StepTaken, Run, Step, StepOf, last_world}
use Rattle.cg_represents.specs.Represents.{Represents, Goes}
use Rattle.cg_collect.specs.declared.phase.Phase.{Phase}
use Rattle.cg_collect.specs.declared.phase.Phase.TheVariants as phase_of
use Rattle.cg_collect.specs.Phases.{store_after}
use Rattle.cg_records.specs.declared.graph.Graph.{Graph}
use Rattle.cg_records.specs.Text.{numbered, member_text}
use Rattle.cg_interp.specs.declared.graphs.Detection.{Detection}
use Rattle.cg_interp.specs.declared.graphs.Detection.TheVariants.{First, Second}
use Rattle.cg_interp.specs.Engines.{State}
use Rattle.cg_interp.specs.Collecting.{StandsWith}
use Rattle.cg_interp.specs.Telling.{GoesOnTo, Advances}
use Rattle.cg_interp.specs.Turns.{RunEndsWith}
use Rattle.cg_interp.specs.Graphs.{taken, taken_while, begins_record, unfinished_after, detection_on, graph_in, member_in, members_text, candidates_in, heading, findings, begun_text}
use Rattle.cg_interp.specs.Recorded.{Picture, picture, next_detection, detection_at, RunShows, IsGraphOf, candidates, member_among}
use Rattle.cg_records.specs.Reading.{graph}
use Rattle.cg_interp.specs.Recording.{recorded_next, text_of_turn, picture_text, text_if_taken, text_so_far, unfinished_so_far}
use Rattle.cg_interp.proofs.ShownGraphs.{alone_none, one_alone, shows_one}
use Rattle.cg_interp.proofs.WorldGraphs.{graph_is, stands_alike, members_alike}
use Rattle.cg_interp.proofs.NextDetections.{same_next, at_detection, no_advance}

-- A step with a reachability pass ends no run.
module _ (script : Script) (w after : World) (events : List Event) (d : Detection) where
  phase_runs : (c : Collection) (phase : CollectPhase) (below : List Activity) → detection_at c.generation phase ≡ Some d → PhaseStep script c phase below w events after → after.outcome ≡ w.outcome
  phase_runs c Start below next step = ap (λ (v : World). v.outcome) step.world
  phase_runs c Split below next step = ap (λ (v : World). v.outcome) step.world
  phase_runs c _ below next step = absurd (cc)

  stack_runs : (stack : List Activity) → next_detection stack ≡ Some d → StepOf script w stack events after → after.outcome ≡ w.outcome
  stack_runs (Collecting c ∷ below) next step = phase_runs c c.phase below next step
  stack_runs _ next step = absurd (cc)

  detection_runs : next_detection w.stack ≡ Some d → Step script w events after → after.outcome ≡ Running
  detection_runs next step = stack_runs w.stack next step.step ∙ step.running

-- the lists of a heap with rows still to be removed
later_list : (phase : Phase) (store : Store) (p : Place) → list_at (store_after phase store) p ≡ list_at store p
later_list (phase_of.Living next) store p = refl
later_list _ store p = refl

later_listed : (phase : Phase) (store : Store) → IsListed store → IsListed (store_after phase store)
later_listed (phase_of.Living next) store l = record { ten = l.ten; placed = l.placed; once = l.once }
later_listed _ store l = record { ten = l.ten; placed = l.placed; once = l.once }

-- the objects in a place of an engine's heap are those of its world
pub alike_now : (script : Script) (e : State) (left : List Event) (w : World) → StandsWith script e left w → IsListed e.store → (p : Place) → SameMembers (list_at e.store p) (serials_at w.objects p)
alike_now script e left w (inl s) listed p = stands_alike e.store w listed s.0.represents p
alike_now script e left w (inr t) listed p =
    let phase = t.collection.phase in
    subst (λ (l : List ℕ). SameMembers l (serials_at w.objects p)) (later_list phase e.store p) (stands_alike (store_after phase e.store) w
    (later_listed phase e.store listed) t.collects.shows.represents p)

-- the text of a graph, as it is written before its step and after it
assoc_graph : (h m c l e : List ℕ) → (h ++ m) ++ (c ++ (l ++ e)) ≡ h ++ ((m ++ (c ++ l)) ++ e)
assoc_graph h m c l e = simp (append_assoc)

assoc_second : (h m c e : List ℕ) → (h ++ m) ++ (c ++ e) ≡ h ++ ((m ++ c) ++ e)
assoc_second h m c e = simp (append_assoc)

members_map : (script : Script) (store : Store) (d : Detection) (os : List ℕ) → members_text script store d os ≡ flat_map member_text (map (member_in script store d) os)
members_map script store d [] = refl
members_map script store d (o ∷ os) = ap (λ t. member_text (member_in script store d o) ++ t) (members_map script store d os)

module _ (script : Script) (store now : Store) (unfinished : Bool) where
  graph_written : (d : Detection) → begun_text script store unfinished d ++ findings now d ≡ picture_text unfinished d (graph_in script d store now)
  graph_written (First g) =
      ap (λ t. (heading unfinished (First g) ++ t) ++ findings now (First g)) (members_map script store (First g) (candidates_in store (First g)))
      ∙ assoc_graph (heading unfinished (First g)) (flat_map member_text (map (member_in script store (First g)) (candidates_in store (First g))))
      (flat_map (numbered (codes "lost")) (list_at now Cand)) (flat_map (numbered (codes "lost")) (list_at now Legacy))
      (flat_map (numbered (codes "legacy")) (list_at now Legacy))
      ∙ ap (λ t. heading unfinished (First g) ++ ((flat_map member_text (map (member_in script store (First g)) (candidates_in store (First g))) ++ t)
      ++ flat_map (numbered (codes "legacy")) (list_at now Legacy)))
      (sym (flat_map-append (numbered (codes "lost")) (list_at now Cand) (list_at now Legacy)))
  graph_written Second =
      ap (λ t. (heading unfinished Second ++ t) ++ findings now Second) (members_map script store Second (candidates_in store Second))
      ∙ assoc_second (heading unfinished Second) (flat_map member_text (map (member_in script store Second) (candidates_in store Second)))
      (flat_map (numbered (codes "lost")) (list_at now Cand)) (codes "stop\n")

  if_written : (o : Option Detection) (d : Detection) → (o ≡ None) ⊎ (o ≡ Some d) → text_of_turn script store now unfinished o ≡ text_if_taken unfinished o (graph_in script d store now)
  if_written None d is = refl
  if_written (Some k) d (inl none) = absurd (cc)
  if_written (Some k) d (inr is) = let same : k ≡ d = cc in graph_written k ∙ ap (λ (x : Detection). picture_text unfinished k (graph_in script x store now)) same

pub taken_or_not : (unfinished : Bool) (d : Detection) → (taken_while unfinished d ≡ None) ⊎ (taken_while unfinished d ≡ Some d)
taken_or_not unfinished (First g) = inr refl
taken_or_not true Second = inr refl
taken_or_not false Second = inl refl

still_after : (unfinished : Bool) (d : Detection) → unfinished_after unfinished (taken_while unfinished d) ≡ begins_record d
still_after unfinished (First g) = refl
still_after true Second = refl
still_after false Second = refl

-- The text of a pass's graph begins with what is written before its step.
assoc_begun : (h m l e : List ℕ) → h ++ ((m ++ l) ++ e) ≡ (h ++ m) ++ (l ++ e)
assoc_begun h m l e = simp (append_assoc)

module _ (script : Script) (store : Store) (w : World) (unfinished : Bool) (listed : IsListed store) (rep : Represents store w) (lost legacy : List ℕ) where
  abbrev pub graph_with : Detection → Graph
  graph_with d = graph (map (member_among script w (candidates d w)) (candidates_in store d)) lost legacy

  members_here : (d : Detection) → flat_map member_text (graph_with d).members ≡ members_text script store d (candidates_in store d)
  members_here d = ap (flat_map member_text) (sym (members_alike script d store w listed rep)) ∙ sym (members_map script store d (candidates_in store d))

  pub begun_front : (d : Detection) → (rest : List ℕ) × (picture_text unfinished d (graph_with d) ≡ begun_text script store unfinished d ++ rest)
  begun_front (First g) = (
    flat_map (numbered (codes "lost")) lost ++ flat_map (numbered (codes "legacy")) legacy,
    assoc_begun (heading unfinished (First g)) (flat_map member_text (graph_with (First g)).members) (flat_map (numbered (codes "lost")) lost) (flat_map (numbered (codes "legacy")) legacy)
        ∙ ap (λ t. (heading unfinished (First g) ++ t) ++ (flat_map (numbered (codes "lost")) lost ++ flat_map (numbered (codes "legacy")) legacy)) (members_here (First g)),
  )
  begun_front Second = (
    flat_map (numbered (codes "lost")) lost ++ codes "stop\n",
    assoc_begun (heading unfinished Second) (flat_map member_text (graph_with Second).members) (flat_map (numbered (codes "lost")) lost) (codes "stop\n")
        ∙ ap (λ t. (heading unfinished Second ++ t) ++ (flat_map (numbered (codes "lost")) lost ++ codes "stop\n")) (members_here Second),
  )

-- What a turn shows: these graphs, which are written for it.
pub record TurnShows (script : Script) (w : World) (steps : List StepTaken) (e e' : State) (unfinished : Bool) : Type 0 where
  pub pictures : List Picture
  pub shows : RunShows script w steps pictures
  pub text : text_of_turn script e.store e'.store unfinished (recorded_next unfinished e) ≡ text_so_far unfinished pictures
  pub still : unfinished_after unfinished (recorded_next unfinished e) ≡ unfinished_so_far unfinished pictures

module _ (script : Script) (e e' : State) (unfinished : Bool) (left : List Event) (w : World) (stands : StandsWith script e left w) (listed : IsListed e.store) where
  -- without a pass nothing
  shows_nothing : (events : List Event) (after : World) (goes : Goes script w events after) → detection_on e.activities ≡ None → TurnShows script w goes.steps e e' unfinished
  shows_nothing events after goes none = record {
    pictures = [];
    shows = alone_none script w goes.steps goes.alone (sym (same_next script e left w stands) ∙ none);
    text = ap (λ (d : Option Detection). text_of_turn script e.store e'.store unfinished (taken unfinished d)) none;
    still = ap (λ (d : Option Detection). unfinished_after unfinished (taken unfinished d)) none;
  }

  shows_graph : (d : Detection) (step : StepTaken) → detection_on e.activities ≡ Some d → IsGraphOf script d w step.world (graph_in script d e.store e'.store)
      → TurnShows script w (step ∷ []) e e' unfinished
  shows_graph d step next is = record {
    pictures = picture d (graph_in script d e.store e'.store) ∷ [];
    shows = shows_one script w step d (sym (same_next script e left w stands) ∙ next) (graph_in script d e.store e'.store) is;
    text =
        ap (λ (k : Option Detection). text_of_turn script e.store e'.store unfinished (taken unfinished k)) next
        ∙ if_written script e.store e'.store unfinished (taken_while unfinished d) d (taken_or_not unfinished d)
        ∙ sym (append-nil (text_if_taken unfinished (taken_while unfinished d) (graph_in script d e.store e'.store)));
    still = ap (λ (k : Option Detection). unfinished_after unfinished (taken unfinished k)) next ∙ still_after unfinished d;
  }

  pub shown_on : (told : List Event) (g : GoesOnTo script (Advances e left e') w left told e') → IsListed e'.store → TurnShows script w g.goes.steps e e' unfinished
  shown_on told g listed' = by (detection_on e.activities) refl
    where
      moved : (d : Detection) → detection_on e.activities ≡ Some d → g.goes.steps ≢ []
      moved d next none = elim g.moves [
        | inl some ↦ some none
        | inr rests ↦
            let here : w ≡ g.after = ap (last_world w) (sym none) ∙ g.goes.ends in
            let same : detection_on e'.activities ≡ Some d = same_next script e' g.still g.after g.stands ∙ ap (λ (v : World). next_detection v.stack)
            (sym here) ∙ sym (same_next script e left w stands) ∙ next in
            no_advance e e' d left g.still w g.after (at_detection script e left w d stands next) (at_detection script e' g.still g.after d g.stands same) rests
      ]

      by : (o : Option Detection) → detection_on e.activities ≡ o → TurnShows script w g.goes.steps e e' unfinished
      by None none = shows_nothing g.events g.after g.goes none
      by (Some d) next =
          let one = one_alone w g.goes.steps d g.goes.alone (sym (same_next script e left w stands) ∙ next) (moved d next) in
          let ends : one.0.world ≡ g.after = ap (last_world w) (sym one.1) ∙ g.goes.ends in
          let at = at_detection script e left w d stands next in
          subst (λ (l : List StepTaken). TurnShows script w l e e' unfinished) (sym one.1)
          (shows_graph d one.0 next (subst (λ (v : World). IsGraphOf script d w v (graph_in script d e.store e'.store)) (sym ends)
          (graph_is script d e.store w e'.store g.after listed at.represents (alike_now script e' g.still g.after g.stands listed'))))

  -- a turn that ends the run makes no pass
  pub shown_end : (lines : List Event) (outcome : Outcome) (k : RunEndsWith script w lines outcome) → w.outcome ≡ Running → outcome ≢ Running → TurnShows script w k.goes.steps e e' unfinished
  shown_end lines outcome k runs over = by (detection_on e.activities) refl
    where
      ends_not : (d : Detection) → detection_on e.activities ≡ Some d → ⊥
      ends_not d next = go k.goes.steps refl
        where
          next_here : next_detection w.stack ≡ Some d
          next_here = sym (same_next script e left w stands) ∙ next

          go : (steps : List StepTaken) → k.goes.steps ≡ steps → ⊥
          go [] is = over (sym k.ended ∙ ap (λ (v : World). v.outcome) (sym k.goes.ends ∙ ap (last_world w) is) ∙ runs)
          go (step ∷ more) is =
              let one = one_alone w k.goes.steps d k.goes.alone next_here (λ none. let f : step ∷ more ≡ [] = sym is ∙ none in cc) in
              let run : Run script w (one.0 ∷ []) = subst (Run script w) one.1 k.goes.run in
              over (sym k.ended ∙ ap (λ (v : World). v.outcome) (sym k.goes.ends ∙ ap (last_world w) one.1) ∙ detection_runs script w one.0.world one.0.events d next_here run.0)

      by : (o : Option Detection) → detection_on e.activities ≡ o → TurnShows script w k.goes.steps e e' unfinished
      by None none = shows_nothing lines k.after k.goes none
      by (Some d) next = absurd (ends_not d next)
