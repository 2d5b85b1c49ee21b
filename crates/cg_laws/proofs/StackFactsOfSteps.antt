-- Releases, deaths and collections keep the functions of frames known, and clear weak references newest first.
use Rattle.std.proofs.Common.{◌≡◌, ◌≢◌, refl, sym, ◌∙◌, ap, subst, ℕ, suc, ◌≤◌, ◌<◌, Bool, true, false, inl, inr, List, [], ◌∷◌, ◌++◌, reverse, Option, Some, None, arith}
use Rattle.std.specs.Prelude.{◌==◌, if◌then◌else◌, filter, flat_map, option_map, unwrap_or}
use Rattle.std.proofs.lemmas.Bool.{eqb-false}
use Rattle.std.proofs.lemmas.List.{reverse-append}
use Rattle.cg_script.specs.declared.Script.{Script}
use Rattle.cg_graph.specs.Member.{Includes}
use Rattle.cg_graph.specs.Value.{references}
use Rattle.cg_graph.specs.Object.{Object, object_at, serials, with_referent}
use Rattle.cg_graph.proofs.Members.{either, Includes-append_cases, Includes-append_left, Includes-map, Includes-map_cases, Includes-filter, Includes-filter_cases}
use Rattle.cg_machine.specs.declared.event.Event.{Event}
use Rattle.cg_machine.specs.declared.event.FrameSpec.{FrameSpec}
use Rattle.cg_machine.specs.World.{World, Activity, DyingPhase, Clearing}
use Rattle.cg_machine.specs.Holdings.{holds}
use Rattle.cg_machine.specs.Frame.{start_frame}
use Rattle.cg_machine.specs.Weak.{has_weak_references, is_reference_to, weak_references, loses_referent, callback_in, callback_of, is_function}
use Rattle.cg_machine.specs.Collect.{waits}
use Rattle.cg_represents.specs.Orderly.{all_waits, waits_of, HasFunction}
use Rattle.cg_represents.proofs.Serials.{Rises, Rises-filter}
use Rattle.cg_laws.proofs.Unreferred.{lives_within}
use Rattle.cg_laws.proofs.MeasureInDeaths.{Includes-reverse, passed}
use Rattle.cg_laws.proofs.Lookups.{Includes-reversed, callback_at, callback_first, same_object}
use Rattle.cg_laws.proofs.HeldLives.{waits_held}
use Rattle.cg_laws.proofs.HeldLivesDeaths.{HasOrder}
use Rattle.cg_laws.proofs.Advances.{Advance, Plainly, WithFrame, HasChanged, changed_origin, ClearsNone, Continues, DeathGoesOn, DeathClears, CollectionGoesOn, FrameOf, OfCallback, Tops, TopEnds, BeginsDeath, TopGoesOn, GivesReferences}
use Rattle.cg_laws.proofs.Starting.{starts_either}
use Rattle.cg_laws.proofs.Invariants.{on}
use Rattle.cg_laws.proofs.StackFacts.{AreFunctions, HoldsIn, KnowsFunction, AreNewer, ClearsInOrder, IsKnown, AreKnown, IsAllKnown}

greatest_first : (low high : ℕ) (xs : List Object) → Rises low high xs → (weak : ℕ) (weaks : List ℕ) → reverse (serials xs) ≡ weak ∷ weaks → (q : ℕ) → Includes (serials xs) q → q ≤ weak
greatest_first low high [] r weak weaks e q m = absurd m
greatest_first low high (x ∷ xs) r weak weaks e q m = go (reverse (serials xs)) refl (λ first front f k. greatest_first (suc x.serial) high xs r.1 first front f q k)
  where
    whole : reverse (serials xs) ++ x.serial ∷ [] ≡ weak ∷ weaks
    whole = sym (reverse-append (x.serial ∷ []) (serials xs)) ∙ e

    go : (front : List ℕ) → reverse (serials xs) ≡ front → ((first : ℕ) (rest : List ℕ) → reverse (serials xs) ≡ first ∷ rest → Includes (serials xs) q → q ≤ first) → q ≤ weak
    go [] f ih =
        let one : x.serial ∷ [] ≡ weak ∷ weaks = subst (λ ys. ys ++ x.serial ∷ [] ≡ weak ∷ weaks) f whole in
        let same : x.serial ≡ weak = cc in
        either m (λ i. omega (arith, i, same)) (λ k. absurd (subst (λ ys. Includes ys q) f (Includes-reversed (serials xs) q k)))
    go (first ∷ front) f ih =
        let one : first ∷ (front ++ x.serial ∷ []) ≡ weak ∷ weaks = subst (λ ys. ys ++ x.serial ∷ [] ≡ weak ∷ weaks) f whole in
        let same : first ≡ weak = cc in
        let within = lives_within (suc x.serial) high xs first r.1 (Includes-reverse (serials xs) first (subst (λ ys. Includes ys first) (sym f) (inl refl))) in
        either m (λ i. omega (arith, i, same, within.0)) (λ k. let less = ih first front f k in omega (arith, less, same))

first_newest : (high : ℕ) (objects : List Object) → Rises 1 high objects → (o weak : ℕ) (weaks : List ℕ) → weak_references objects o ≡ weak ∷ weaks → (q : ℕ)
    → Includes (weak_references objects o) q → q ≤ weak
first_newest high objects r o weak weaks e q m =
    greatest_first 1 high (filter (is_reference_to o) objects) (Rises-filter (is_reference_to o) 1 high objects r) weak weaks e q (Includes-reverse (serials (filter (is_reference_to o) objects)) q m)

-- a weak reference that still refers after another is cleared referred before, and is not that one
still_refers : (objects : List Object) (weak o q : ℕ) → Includes (weak_references (loses_referent weak objects) o) q → Includes (weak_references objects o) q × (q ≢ weak)
still_refers objects weak o q m =
    let y = Includes-map_cases (λ (x : Object). x.serial) (filter (is_reference_to o) (loses_referent weak objects)) q
    (Includes-reverse (serials (filter (is_reference_to o) (loses_referent weak objects))) q m) in
    let kept = Includes-filter_cases (is_reference_to o) (loses_referent weak objects) y.0 y.1 in
    let x = Includes-map_cases (λ x. if x.serial == weak then with_referent None x else x) objects y.0 kept.0 in
    let found = one x.0 x.1 (x.0.serial == weak) refl (subst (λ z. is_reference_to o z ≡ true) (sym x.2) kept.1) in
    subst (λ s. Includes (weak_references objects o) s × (s ≢ weak)) (ap (λ (z : Object). z.serial) x.2 ∙ y.2) found
  where
    one : (x : Object) → Includes objects x → (b : Bool) → (x.serial == weak) ≡ b → is_reference_to o (if b then with_referent None x else x) ≡ true
        → Includes (weak_references objects o) (if b then with_referent None x else x).serial × ((if b then with_referent None x else x).serial ≢ weak)
    one x m true e t = absurd (let no : false ≡ true = t in cc)
    one x m false e t = (
      Includes-reversed (serials (filter (is_reference_to o) objects)) x.serial (Includes-map (λ (z : Object). z.serial) (filter (is_reference_to o) objects) x
          (Includes-filter (is_reference_to o) objects x t m)),
      eqb-false x.serial weak e,
    )

-- the newest is cleared, and perhaps waits
still_newer : (high : ℕ) (objects : List Object) → Rises 1 high objects → (o weak : ℕ) (weaks waiting : List ℕ) → weak_references objects o ≡ weak ∷ weaks
    → AreNewer objects o waiting → (t : Bool) → AreNewer (loses_referent weak objects) o (waiting ++ (if t then weak ∷ [] else []))
still_newer high objects r o weak weaks waiting e newer t v q m k = either (Includes-append_cases waiting (if t then weak ∷ [] else []) v m) (λ i. newer v q i old.0) (new t)
  where
    old : Includes (weak_references objects o) q × (q ≢ weak)
    old = still_refers objects weak o q k

    less : q < weak
    less = let most : q ≤ weak = first_newest high objects r o weak weaks e q old.0 in let other : q ≢ weak = old.1 in omega (arith, most, other)

    new : (b : Bool) → Includes (if b then weak ∷ [] else []) v → q < v
    new true i = either i (λ same. omega (arith, less, same)) (λ n. absurd n)
    new false i = absurd i

module _ (w : World) (rises : Rises 1 w.next_serial w.objects) (h : HasOrder w) (weak : ℕ) (waits : Includes (all_waits w.stack) weak) where
  abbrev callback : ℕ
  callback = unwrap_or (callback_of w.objects weak) 0

  lives : Includes (serials w.objects) weak
  lives = h.stack_lives weak (waits_held w.stack weak waits)

  all_functions : (f : ℕ) → HasFunction w.objects f → AreFunctions w.objects f
  all_functions f z x m e = let same : x ≡ z.0 = same_object 1 w.next_serial w.objects x z.0 rises m z.1 (e ∙ sym z.2) in ap is_function same ∙ z.3

  by_entries : (x : Object) → Includes w.objects x → x.serial ≡ weak → (m : Option ℕ) → callback_in x.entries ≡ m → Includes (references x.entries)
      (unwrap_or m 0) × AreFunctions w.objects (unwrap_or m 0)
  by_entries x m same None e = absurd ((h.waiting weak waits x m same).callback e)
  by_entries x m same (Some f) e =
      let held = callback_first x.entries f e in
      (held, all_functions f (h.callbacks x m (h.waiting weak waits x m same).code f held))

  is_callback : (x : Object) → Includes w.objects x → x.serial ≡ weak → callback_of w.objects weak ≡ callback_in x.entries
  is_callback x m same = subst (λ s. callback_of w.objects s ≡ callback_in x.entries) same (callback_at 1 w.next_serial w.objects x rises m)

  pub callback_functions : AreFunctions w.objects callback
  callback_functions =
      let x = Includes-map_cases (λ (z : Object). z.serial) w.objects weak lives in
      subst (λ m. AreFunctions w.objects (unwrap_or m 0)) (sym (is_callback x.0 x.1 x.2)) (by_entries x.0 x.1 x.2 (callback_in x.0.entries) refl).1

  pub callback_held : HoldsIn w.objects weak callback
  callback_held x m same = subst (λ k. Includes (references x.entries) (unwrap_or k 0)) (sym (is_callback x m same)) (by_entries x m same (callback_in x.entries) refl).0

-- A world that keeps what is known of the activities below.
abbrev pub Stays : List Activity → World → Type 0
Stays below next = AreKnown next.objects below → IsAllKnown next

-- a started frame has a known function
pub starts_known : (script : Script) (spec : FrameSpec) (u : World) (below : List Activity) → KnowsFunction u.objects spec.sort spec.subject spec.func u.stack
    → Stays below u → Stays below (start_frame script spec u).1
starts_known script spec u below knows h = starts_either (λ lines. Stays below) script spec u h (λ some r. (knows, h r))

fresh_in_order : (objects : List Object) (o : ℕ) (phase : DyingPhase) → ClearsNone phase → ClearsInOrder objects o phase
fresh_in_order objects o (Clearing waiting) none = λ v q m. absurd (subst (λ ws. Includes ws v) none m)
fresh_in_order objects o phase none = tt

module _ (script : Script) (below : List Activity) (v : World) (rises : Rises 1 v.next_serial v.objects) where
  continues_known : (after : List Object) (top a : Activity) → Continues v.objects after top a → IsKnown v.objects top below → AreKnown after below → AreKnown after (a ∷ below)
  continues_known after top a (DeathGoesOn o phase next waits none) k r = (fresh_in_order after o next none, r)
  continues_known after top a (DeathClears o weak waiting weaks t first lost) k r =
      let all = passed (unwrap_or (option_map has_weak_references (object_at v.objects o)) false) (weak_references v.objects o) weak weaks first in
      (subst (λ (os : List Object). AreNewer os o (waiting ++ (if t then weak ∷ [] else []))) (sym lost) (still_newer v.next_serial v.objects rises o weak weaks waiting all k t), r)
  continues_known after top a (CollectionGoesOn c d same begun early) k r = (tt, r)

  tops_known : (after : List Object) (top : Activity) (tops : List Activity) → Tops v.objects after top tops → IsKnown v.objects top below → AreKnown after below → AreKnown after (tops ++ below)
  tops_known after top tops (TopEnds a gone) k r = r
  tops_known after top tops (BeginsDeath o references) k r = (tt, (tt, r))
  tops_known after top tops (TopGoesOn b a c held) k r = continues_known after b a c k r
  tops_known after top tops (GivesReferences b a references few c held) k r = (tt, continues_known after b a c k r)
  tops_known after top tops other k r = (tt, r)

  frame_known : (after : List Object) (top a : Activity) (spec : FrameSpec) → FrameOf script v.objects after top a spec → HasChanged top [] [] v.objects after
      → HasOrder (on top below v) → KnowsFunction after spec.sort spec.subject spec.func (a ∷ below)
  frame_known after top a spec (OfCallback weak p waits held) c h = (
    called,
    refl,
    record {
      functions = λ y m e.
          let x = changed_origin top [] [] v.objects after c y m in
          let code : y.code ≡ x.0.code = x.2.code in
          let same : is_function y ≡ is_function x.0 = cc in
          same ∙ callback_functions (on top below v) rises h weak waits_there x.0 x.1 (sym x.2.serial ∙ e);
      held = either held (λ m. inl (Includes-append_left (holds a) (flat_map holds below) called m))
          (λ m. inr (
            Includes-append_left (waits_of a) (all_waits below) weak m.0,
            subst (λ os. HoldsIn os weak called) (sym m.1)
                (callback_held (on top below v) rises h weak waits_there),
          ));
    },
  )
    where
      called : ℕ
      called = unwrap_or (callback_of v.objects weak) 0

      waits_there : Includes (all_waits (top ∷ below)) weak
      waits_there = Includes-append_left (waits_of top) (all_waits below) weak waits
  frame_known after top a spec other c h = refl

  pub advance_known : (top : Activity) (lines : List Event) (after : World) → Advance script v top below lines after → HasOrder (on top below v) → IsKnown v.objects top below → Stays below after
  advance_known top lines after (Plainly tops objects numbers ls t c n none) h k = tops_known objects top tops t k
  advance_known top lines after (WithFrame spec a objects s c held m) h k = starts_known script spec (record v { objects = objects; stack = a ∷ below }) below
      (frame_known objects top a spec s m h) (continues_known objects top a c k)
