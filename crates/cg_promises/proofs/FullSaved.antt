-- With SAVEALL, each member of the final set is still condemned, or the garbage list names it.
use Rattle.std.proofs.Common.{◌≡◌, refl, sym, ◌∙◌, subst, ℕ, ◌+◌, Bool, true, false, inl, inr, ◌⊎◌, List, [], ◌∷◌, ◌++◌, map, length}
use Rattle.std.specs.Prelude.{◌==◌, count_by, if◌then◌else◌}
use Rattle.std.proofs.lemmas.Bool.{eqb-true, eq-eqb}
use Rattle.cg_value.specs.declared.Entry.{Entry}
use Rattle.cg_value.specs.declared.Val.TheVariants.{Ref}
use Rattle.cg_value.specs.declared.Place.TheVariants.{Gen, Cand}
use Rattle.cg_script.specs.declared.Script.{Script}
use Rattle.cg_graph.specs.Member.{Includes}
use Rattle.cg_graph.specs.Value.{entry_references, item, references}
use Rattle.cg_graph.specs.Object.{Object, change, serials, with_entries, with_place}
use Rattle.cg_graph.proofs.Members.{either, cases_of, Includes-append_right, Includes-map, Includes-map_cases}
use Rattle.cg_machine.specs.declared.event.Event.{Event}
use Rattle.cg_machine.specs.declared.event.Event.TheVariants.{Collected, GcSaved, GcUncollectable}
use Rattle.cg_machine.specs.World.{World, Activity, Collecting, Collection, CollectPhase, Turns, Ending, with_stack}
use Rattle.cg_machine.specs.Collect.{all_saved, collection_at, has_flag, lines_if, older, save_all, saved, takes_turn, uncollectable, PhaseStep}
use Rattle.cg_machine.specs.Run.{Run, StepOf, StepTaken, events_of, last_world}
use Rattle.cg_laws.specs.Laws.{is_stop}
use Rattle.cg_laws.proofs.Starting.{turn_either}
use Rattle.cg_promises.proofs.FullPlaces.{test_all}
use Rattle.cg_promises.proofs.FullStop.{Grows, all_saved_grow, grows_trans, test_grows}
use Rattle.cg_promises.proofs.Kept.{appended}
use Rattle.cg_promises.proofs.FinalSetRuns.{none_first, stops}
use Rattle.cg_promises.proofs.FinalizerOnceRuns.{Fit, step_fit}

-- the garbage list names an object
abbrev pub IsNamed : List Object → ℕ → Type 0
IsNamed objects n = (z : Object) × Includes objects z × (z.serial ≡ 1) × Includes (references z.entries) n

pub named_on : (before after : List Object) (n : ℕ) → Grows before after → IsNamed before n → IsNamed after n
named_on before after n grows z = let y = grows z.0 z.1 in (y.0, y.1, y.2 ∙ z.2, y.3 n z.3)

last_named : (entries : List Entry) (n : ℕ) → Includes (references (entries ++ item (Ref n) ∷ [])) n
last_named [] n = inl refl
last_named (e ∷ entries) n = Includes-append_right (entry_references e) (references (entries ++ item (Ref n) ∷ [])) n (last_named entries n)

saved_grow : (o : ℕ) (objects : List Object) → Grows objects (saved o objects)
saved_grow o objects = test_grows (λ x. with_entries (x.entries ++ item (Ref o) ∷ []) x) (λ x. x.serial == 1) objects (λ x. refl) (λ x r i. appended x.entries (item (Ref o) ∷ []) r i)

saved_named : (o : ℕ) (objects : List Object) → Includes (serials objects) 1 → IsNamed (saved o objects) o
saved_named o objects root =
    let z = Includes-map_cases (λ (x : Object). x.serial) objects 1 root in
    go z.0 z.2 (z.0.serial == 1) refl (Includes-map (λ x. if x.serial == 1 then longer x else x) objects z.0 z.1)
  where
    longer : Object → Object
    longer x = with_entries (x.entries ++ item (Ref o) ∷ []) x

    go : (z : Object) → z.serial ≡ 1 → (b : Bool) → (z.serial == 1) ≡ b → Includes (saved o objects) (if b then longer z else z) → IsNamed (saved o objects) o
    go z e true t m = (longer z, m, e, last_named z.entries o)
    go z e false f m = absurd (let no : true ≡ false = sym (eq-eqb z.serial 1 e) ∙ f in cc)

pub all_saved_named : (keeps : List ℕ) (objects : List Object) (o : ℕ) → Includes keeps o → Includes (serials objects) 1 → IsNamed (all_saved keeps objects) o
all_saved_named [] objects o m root = absurd m
all_saved_named (s ∷ keeps) objects o (inl e) root = named_on (saved s objects) (all_saved keeps (saved s objects)) o (all_saved_grow keeps (saved s objects))
    (subst (λ n. IsNamed (saved s objects) n) e (saved_named s objects root))
all_saved_named (s ∷ keeps) objects o (inr m) root = all_saved_named keeps (saved s objects) o m (saved_root s objects root)
  where
    saved_root : (s : ℕ) (objects : List Object) → Includes (serials objects) 1 → Includes (serials (saved s objects)) 1
    saved_root s objects root = let z = saved_named s objects root in subst (Includes (serials (saved s objects))) z.2 (Includes-map (λ (x : Object). x.serial) (saved s objects) z.0 z.1)

-- a member of the final set
abbrev pub IsNamedOrCand : List Object → ℕ → Type 0
IsNamedOrCand objects n = ((y : Object) → Includes objects y → y.serial ≡ n → y.place ≡ Cand) ⊎ IsNamed objects n

-- no member has a turn of its own
abbrev pub IsSaving : CollectPhase → Type 0
IsSaving Turns = Unit {0}
IsSaving Ending = Unit {0}
IsSaving phase = ⊥

module _ (script : Script) (members : List ℕ) (below : List Activity) where
  pub record Saves (w : World) : Type 0 where
    pub collection : Collection
    pub is : w.stack ≡ Collecting collection ∷ below
    pub phase : IsSaving collection.phase
    pub saves : has_flag collection.flags save_all ≡ true
    pub all : (n : ℕ) → Includes members n → IsNamedOrCand w.objects n

  module _ (v : World) (root : Includes (serials v.objects) 1) (c : Collection) (saves : has_flag c.flags save_all ≡ true) (all : (n : ℕ) → Includes members n
      → IsNamedOrCand v.objects n) (events : List Event) (after : World) (on : count_by is_stop events ≡ 0) where
    abbrev standing : CollectPhase → World
    standing phase = collection_at c phase below v

    abbrev now : ℕ → List Object
    now o = change (with_place (Gen (older c.generation))) o (saved o v.objects)

    placed_grow : (o : ℕ) → Grows (saved o v.objects) (now o)
    placed_grow o = test_grows (with_place (Gen (older c.generation))) (λ x. x.serial == o) (saved o v.objects) (λ x. refl) (λ x r i. i)

    saved_one : (o n : ℕ) → IsNamedOrCand v.objects n → IsNamedOrCand (now o) n
    saved_one o n (inr named) = inr (named_on v.objects (now o) n (grows_trans v.objects (saved o v.objects) (now o) (saved_grow o v.objects) (placed_grow o)) named)
    saved_one o n (inl cand) = either (cases_of (o == n))
        (λ t. inr (subst (λ p. IsNamed (now o) p) (eqb-true o n t) (named_on (saved o v.objects) (now o) o (placed_grow o) (saved_named o v.objects root))))
        (λ f. inl (test_all (λ y. y.serial ≡ n → y.place ≡ Cand) (with_place (Gen (older c.generation))) (λ x. x.serial == o) (saved o v.objects)
        (λ x m t p e. absurd (let no : true ≡ false = sym (eq-eqb o n (sym (eqb-true x.serial o t) ∙ e)) ∙ f in cc))
        (test_all (λ y. y.serial ≡ n → y.place ≡ Cand) (λ x. with_entries (x.entries ++ item (Ref o) ∷ []) x) (λ x. x.serial == 1) v.objects (λ x m t p. p) cand)))

    turn_saved : (x : Object) → Saves (takes_turn c x below (standing Turns)).1
    turn_saved x = turn_either (λ lines. Saves) c x below (standing Turns)
        (λ e. record { collection = record c { phase = Turns }; is = refl; phase = tt; saves = saves; all = λ n k. saved_one x.serial n (all n k) })
        (λ e t. absurd (let no : false ≡ true = sym e ∙ saves in cc))
        (λ e t. absurd (let no : false ≡ true = sym e ∙ saves in cc))

    phase_saved : (phase : CollectPhase) → IsSaving phase → PhaseStep script c phase below (standing phase) events after → Saves after
    phase_saved Turns k (inl step) = subst Saves (sym step.yields.1) (turn_saved step.object)
    phase_saved Turns k (inr step) = subst Saves (sym step.1.1) (record { collection = record c { phase = Ending }; is = refl; phase = tt; saves = saves; all = all })
    phase_saved Ending k step = absurd (stops (lines_if (has_flag c.flags uncollectable) (map GcUncollectable step.told) ++ map GcSaved step.keeps) c.generation
        c.collected (length step.told) (lines_if c.asked (Collected (c.collected + length step.told) ∷ [])) events step.lines on)
    phase_saved phase k step = absurd k

  pub saves_after : (w : World) (steps : List StepTaken) → Run script w steps → Fit script w → count_by is_stop (events_of steps) ≡ 0 → Saves w → Saves (last_world w steps)
  saves_after w [] run fit on h = h
  saves_after w (step ∷ steps) run fit on h =
      let n = none_first step.events (events_of steps) on in
      saves_after step.world steps run.1 (step_fit script w step.events step.world run.0 fit) n.1
      (phase_saved w fit.order.root_lives h.collection h.saves h.all step.events step.world n.0 h.collection.phase h.phase
      (subst (λ st. StepOf script (with_stack st w) st step.events step.world) h.is run.0.step))
