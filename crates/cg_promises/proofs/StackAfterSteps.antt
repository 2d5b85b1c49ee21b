-- The stack after a step of a collection; and an object that has its turn without SAVEALL was in its final set.
use Rattle.std.proofs.Common.{◌≡◌, ◌≢◌, refl, sym, ◌∙◌, ap, subst, ℕ, ◌+◌, Bool, true, false, inl, inr, List, [], ◌∷◌, ◌++◌, map, length}
use Rattle.std.specs.Prelude.{◌==◌, if◌then◌else◌}
use Rattle.cg_value.specs.declared.Entry.{Entry}
use Rattle.cg_value.specs.declared.Place.TheVariants.{Cand, Gen}
use Rattle.cg_script.specs.declared.Script.{Script}
use Rattle.cg_graph.specs.Member.{Includes}
use Rattle.cg_graph.specs.Value.{entry_references, last_entry, without_last}
use Rattle.cg_graph.specs.Object.{Object, change, entries_of, is_at, objects_at, same_place, serials_at, with_entries, with_place}
use Rattle.cg_graph.proofs.Members.{either, Includes-filter, Includes-filter_cases, Includes-map, Includes-map_cases}
use Rattle.cg_machine.specs.declared.event.Event.{Event}
use Rattle.cg_machine.specs.World.{World, Activity, Releasing, Collecting, Collection, CollectPhase, Split, Turns, Turn, AfterTurn, Ending}
use Rattle.cg_machine.specs.Collect.{collection_at, empties, has_flag, older, save_all, takes_turn, PhaseStep}
use Rattle.cg_laws.proofs.SetsApart.{NoneCollects}
use Rattle.cg_laws.proofs.Advances.{Advance, Plainly, WithFrame, Continues, CollectionGoesOn, IsEarly, Tops, TopEnds, TopGoesOn, GivesReferences}
use Rattle.cg_laws.proofs.Starting.{begun_frame, starts_either, turn_either, option_either}
use Rattle.cg_represents.proofs.Places.{place_is}

-- a collection in an early phase goes on to one
module _ (script : Script) (v : World) (c : Collection) (below : List Activity) (alone : NoneCollects below) where
  abbrev AreEarly : List Activity → Type 0
  AreEarly stack = IsEarly c.phase → c.phase ≢ Split → (d : Collection) → Includes stack (Collecting d) → IsEarly d.phase

  over_early : (a : Activity) (stack : List Activity) → ((d : Collection) → a ≢ Collecting d) → AreEarly stack → AreEarly (a ∷ stack)
  over_early a stack none h early other d m = either m (λ e. absurd (none d e)) (h early other d)

  continues_early : (before after : List Object) (top a : Activity) → Continues before after top a → top ≡ Collecting c → AreEarly (a ∷ below)
  continues_early before after top a (CollectionGoesOn b next same begun on) e = λ early other d m.
      let is : b ≡ c = cc in
      either m (λ i. let same : next ≡ d = cc in subst (λ (z : Collection). IsEarly z.phase) same
      (on (subst (λ (z : Collection). IsEarly z.phase) (sym is) early) (subst (λ (z : Collection). z.phase ≢ Split) (sym is) other))) (λ k. absurd
      (alone d k))
  continues_early before after top a other e = absurd (cc)

  tops_early : (before after : List Object) (top : Activity) (tops : List Activity) → Tops before after top tops → top ≡ Collecting c → AreEarly (tops ++ below)
  tops_early before after top tops (TopEnds a gone) e = λ early other d m. absurd (alone d m)
  tops_early before after top tops (TopGoesOn t a k held) e = continues_early before after t a k e
  tops_early before after top tops (GivesReferences t a references few k held) e = over_early (Releasing references) (a ∷ below) (λ d i. cc) (continues_early before after t a k e)
  tops_early before after top tops other e = absurd (cc)

  pub early_after : (lines : List Event) (after : World) → Advance script v (Collecting c) below lines after → AreEarly after.stack
  early_after lines after (Plainly tops objects numbers ls t k n shown) = tops_early v.objects objects (Collecting c) tops t refl
  early_after lines after (WithFrame spec a objects s k held m) =
      let early = continues_early v.objects objects (Collecting c) a k refl in
      starts_either (λ es w. AreEarly w.stack) script spec (record v { objects = objects; stack = a ∷ below }) early (λ some. over_early (begun_frame script spec) (a ∷ below) (λ d i. cc) early)

-- a condemned object, or one that has its turn, was in the final set
abbrev pub Finals : (ℕ → Type 0) → Collection → List Object → Type 0
Finals Was c objects = has_flag c.flags save_all ≡ false → (x : Object) → Includes objects x → x.place ≡ Cand → Was x.serial

abbrev pub FinalAt : (ℕ → Type 0) → Collection → CollectPhase → List Object → Type 0
FinalAt Was c Turns objects = Finals Was c objects
FinalAt Was c (Turn o) objects = Finals Was c objects × Was o
FinalAt Was c (AfterTurn o) objects = Finals Was c objects
FinalAt Was c phase objects = Unit {0}

abbrev pub AreFinal : (ℕ → Type 0) → List Object → List Activity → Type 0
AreFinal Was objects stack = (c : Collection) → Includes stack (Collecting c) → FinalAt Was c c.phase objects

-- what is there was there before
abbrev pub Stood : List Object → List Object → Type 0
Stood before after = (y : Object) → Includes after y → y.place ≡ Cand → (x : Object) × Includes before x × (x.serial ≡ y.serial) × (x.place ≡ Cand)

if_stood : (f : Object → Object) (test : Object → Bool) (objects : List Object) → ((x : Object) → (f x).serial ≡ x.serial) → ((x : Object) → (f x).place ≡ Cand
    → x.place ≡ Cand) → Stood objects (map (λ x. if test x then f x else x) objects)
if_stood f test objects serial place y m e =
    let x = Includes-map_cases (λ x. if test x then f x else x) objects y m in
    let k = one (test x.0) x.0 (ap (λ (z : Object). z.place) x.2 ∙ e) in
    (x.0, x.1, k.0 ∙ ap (λ (z : Object). z.serial) x.2, k.1)
  where
    one : (b : Bool) (x : Object) → (if b then f x else x).place ≡ Cand → (x.serial ≡ (if b then f x else x).serial) × (x.place ≡ Cand)
    one true x e = (sym (serial x), place x e)
    one false x e = (refl, e)

older_stood : (g o : ℕ) (objects : List Object) → Stood objects (change (with_place (Gen g)) o objects)
older_stood g o objects = if_stood (with_place (Gen g)) (λ x. x.serial == o) objects (λ x. refl) (λ x e. absurd (let no : Gen g ≡ Cand = e in cc))

entries_stood : (es : List Entry) (o : ℕ) (objects : List Object) → Stood objects (change (with_entries es) o objects)
entries_stood es o objects = if_stood (with_entries es) (λ x. x.serial == o) objects (λ x. refl) (λ x e. e)

pub finals_stay : (Was : ℕ → Type 0) (c d : Collection) (before after : List Object) → d.flags ≡ c.flags → Stood before after → Finals Was c before → Finals Was d after
finals_stay Was c d before after flags stood h clears y m e = let x = stood y m e in subst Was x.2 (h (subst (λ f. has_flag f save_all ≡ false) flags clears) x.0 x.1 x.3)

-- another activity's step
pub final_stays : (Was : ℕ → Type 0) (before after : List Object) → Stood before after → (c : Collection) (phase : CollectPhase) → FinalAt Was c phase before → FinalAt Was c phase after
final_stays Was before after stood c Turns h = finals_stay Was c c before after refl stood h
final_stays Was before after stood c (Turn o) h = (finals_stay Was c c before after refl stood h.0, h.1)
final_stays Was before after stood c (AfterTurn o) h = finals_stay Was c c before after refl stood h
final_stays Was before after stood c phase h = tt

early_final : (Was : ℕ → Type 0) (c : Collection) (phase : CollectPhase) (objects : List Object) → IsEarly phase → FinalAt Was c phase objects
early_final Was c Turns objects early = absurd early
early_final Was c (Turn o) objects early = absurd early
early_final Was c (AfterTurn o) objects early = absurd early
early_final Was c phase objects early = tt

module _ (Was : ℕ → Type 0) (script : Script) (c : Collection) (below : List Activity) (v : World) (alone : NoneCollects below) where
  abbrev standing : CollectPhase → World
  standing phase = collection_at c phase below v

  abbrev FinalIn : World → Type 0
  FinalIn w = AreFinal Was w.objects w.stack

  reach : (after next : World) → after ≡ next → FinalIn next → FinalIn after
  reach after next e k = subst FinalIn (sym e) k

  only : (d : Collection) (objects : List Object) → FinalAt Was d d.phase objects → AreFinal Was objects (Collecting d ∷ below)
  only d objects h b m = either m (λ e. let same : d ≡ b = cc in subst (λ (z : Collection). FinalAt Was z z.phase objects) same h) (λ k. absurd (alone b k))

  under : (refs : List ℕ) (objects : List Object) (stack : List Activity) → AreFinal Was objects stack → AreFinal Was objects (Releasing refs ∷ stack)
  under refs objects stack h b m = either m (λ e. cc) (h b)

  turn_final : (x : Object) → Includes v.objects x → x.place ≡ Cand → Finals Was c v.objects → FinalIn (takes_turn c x below (standing Turns)).1
  turn_final x m at h = turn_either (λ lines. FinalIn) c x below (standing Turns)
      (λ e. only (record c { phase = Turns }) _ (λ clears. absurd (let no : true ≡ false = sym e ∙ clears in cc)))
      (λ e t. only (record c { phase = Turns }) _ (finals_stay Was c (record c { phase = Turns }) v.objects _ refl (older_stood (older c.generation) x.serial v.objects) h))
      (λ e t. only (record c { phase = Turn x.serial }) v.objects (h, h e x m at))

  pub late_final : (phase : CollectPhase) (events : List Event) (after : World) → PhaseStep script c phase below (standing phase) events after
      → ((o : ℕ) → has_flag c.flags save_all ≡ false → phase ≡ Split → Includes (serials_at after.objects Cand) o → Was o)
      → ((d : Collection) → Includes after.stack (Collecting d) → IsEarly phase → phase ≢ Split → IsEarly d.phase) → FinalAt Was c phase v.objects → FinalIn after
  late_final Split events after step splits early h = reach after _ step.world (only (record c { collected = c.collected + length (serials_at step.objects Cand); phase = Turns }) step.objects
      (λ clears x m e. splits x.serial clears refl (subst (λ (w : World). Includes (serials_at w.objects Cand) x.serial) (sym step.world) (member x m e))))
    where
      member : (x : Object) → Includes step.objects x → x.place ≡ Cand → Includes (serials_at step.objects Cand) x.serial
      member x m e = Includes-map (λ (z : Object). z.serial) (objects_at step.objects Cand) x (Includes-filter (is_at Cand) step.objects x (ap (λ p. same_place p Cand) e) m)
  late_final Turns events after (inl step) splits early h = let f = Includes-filter_cases (is_at Cand) v.objects step.object step.member in reach after _ step.yields.1
      (turn_final step.object f.0 (place_is step.object.place Cand f.1) h)
  late_final Turns events after (inr step) splits early h = reach after _ step.1.1 (only (record c { phase = Ending }) v.objects tt)
  late_final (Turn o) events after step splits early h = reach after _ step.1 (option_either (λ lines. FinalIn) (empties c o below (standing (Turn o))) (last_entry (entries_of v.objects o))
      (λ e. under (o ∷ []) v.objects (Collecting (record c { phase = AfterTurn o }) ∷ below) (only (record c { phase = AfterTurn o }) v.objects h.0))
      (λ entry e. under (entry_references entry) _ (Collecting (record c { phase = Turn o }) ∷ below) (only (record c { phase = Turn o }) _
      (finals_stay Was c (record c { phase = Turn o }) v.objects _ refl (entries_stood (without_last (entries_of v.objects o)) o v.objects) h.0, h.1))))
  late_final (AfterTurn o) events after step splits early h =
      reach after _ step.1 (only (record c { phase = Turns }) _ (finals_stay Was c (record c { phase = Turns }) v.objects _ refl
      (older_stood (older c.generation) o v.objects) h))
  late_final at_phase events after step splits early h = λ d m. early_final Was d d.phase after.objects (early d m tt (λ e. cc))
