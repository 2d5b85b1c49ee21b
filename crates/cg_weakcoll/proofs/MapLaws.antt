-- The laws on weak references and weak value maps.
use Rattle.std.proofs.Common.{◌≡◌, refl, sym, ◌∙◌, ap, subst, ℕ, true, false, inl, List, [], ◌∷◌, ◌++◌, Some, None, Ok, arith}
use Rattle.std.specs.Prelude.{option_and_then, slice_get}
use Rattle.cg_value.specs.declared.Val.TheVariants.{Ref}
use Rattle.cg_value.specs.declared.Entry.{Entry}
use Rattle.cg_value.specs.declared.KindCode.TheVariants.{Weak}
use Rattle.cg_script.specs.declared.Script.{Script}
use Rattle.cg_script.specs.declared.Operand.{Operand}
use Rattle.cg_script.specs.declared.Operand.TheVariants.{Name}
use Rattle.cg_script.specs.declared.Command.TheVariants.{MakeRef}
use Rattle.cg_graph.specs.Member.{Includes}
use Rattle.cg_graph.specs.Value.{references_of_value, value_at}
use Rattle.cg_graph.specs.Object.{Object, entries_of, first_place}
use Rattle.cg_graph.proofs.Members.{either, Includes-append_cases, Includes-map}
use Rattle.cg_machine.specs.declared.event.Event.TheVariants.{Made}
use Rattle.cg_machine.specs.World.{World, Releasing, DyingPhase, Finalizer, Clearing, Calling, AfterCall, LegacyFinalizer, Detaching, Emptying, opening, push, with_stack}
use Rattle.cg_machine.specs.Operands.{value_of}
use Rattle.cg_machine.specs.Effects.{bound, given_up_by, with_new}
use Rattle.cg_machine.specs.Commands.{DoesEffect}
use Rattle.cg_machine.specs.Run.{StepTaken, Step, Run, IsRun, events_of, last_world, world_after}
use Rattle.cg_laws.proofs.Ending.{Run-append, last_world-append}
use Rattle.cg_laws.proofs.CommandRefs.{name_free}
use Rattle.cg_laws.proofs.Unreferred.{Unheld, lives_within}
use Rattle.cg_represents.proofs.Serials.{Rises}
use Rattle.cg_laws.proofs.Unheld.{Calm, Stands}
use Rattle.cg_laws.proofs.UnheldRuns.{death_stands}
use Rattle.cg_promises.proofs.FinalizerOnceRuns.{Fit, opening_fit, run_back, run_fit, run_front, step_fit}
use Rattle.cg_weakcoll.specs.Maps.{IsUnder, Look, Looks, LooksAnswer, LooksFindReferents, MakesWeak, WeakMapsAnswer, WeakReferencesKeepTheirReferents, before_second, before_third, referent_value, since_making, steps_before_third, steps_of}
use Rattle.cg_weakcoll.proofs.ReferentsLost.{IsFading, is_frameless}
use Rattle.cg_weakcoll.proofs.ReferentsLostRuns.{Keeps, keeps_refers, run_keeps}
use Rattle.cg_weakcoll.proofs.TakenCommands.{Done, Refs, changes_so, ref_refs, taken_done}
use Rattle.cg_weakcoll.proofs.MapRuns.{Found, found, parts}

-- a weak reference that was just made
new_keeps : (u : World) (name object : ℕ) (entries : List Entry) (given_up : List ℕ) → Rises 1 u.next_serial u.objects → Keeps [] u.next_serial object
    (push (Releasing given_up) (bound (with_new u Weak None entries (Some object)) name (Some (Ref u.next_serial))))
new_keeps u name object entries given_up rises = record {
  made = omega arith;
  code = λ y m e. either (Includes-append_cases u.objects (fresh ∷ []) y m) (λ k. absurd (old y k e)) (λ k. either k (λ i. ap (λ (z : Object). z.code) (sym i)) (λ n. absurd n));
  uncleared = λ none y m e. either (Includes-append_cases u.objects (fresh ∷ []) y m) (λ k. absurd (old y k e)) (λ k. either k (λ i. inl (ap (λ (z : Object). z.referent) (sym i))) (λ n. absurd n));
  cleared = λ c. absurd c;
}
  where
    fresh : Object
    fresh = record { serial = u.next_serial; code = Weak; class = None; entries = entries; place = first_place Weak; finalized = false; referent = Some object }

    old : (y : Object) → Includes u.objects y → y.serial ≡ u.next_serial → ⊥
    old y m e = let within = lives_within 1 u.next_serial u.objects y.serial rises (Includes-map (λ (z : Object). z.serial) u.objects y m) in omega (arith, within.1, e)

module _ (script : Script) (w : World) (made : StepTaken) (weak object : ℕ) (fit : Fit script w) (step : Step script w made.events made.world) (makes : MakesWeak w made weak object) where
  did : Done script w (MakeRef makes.name makes.target makes.callback) makes.rest makes.below made
  did = taken_done script w (MakeRef makes.name makes.target makes.callback) makes.rest makes.below made step makes.takes

  abbrev u : World
  u = with_stack (did.top ∷ makes.below) w

  pub made_keeps : Keeps [] weak object made.world
  made_keeps = subst (λ n. Keeps [] n object made.world) serial (subst (λ o. Keeps [] u.next_serial o made.world) same (subst (Keeps [] u.next_serial r.object)
      (sym so.1) (new_keeps u makes.name r.object r.entries (given_up_by u makes.name) fit.sound.rises)))
    where
      r : Refs u makes.name makes.target did.what
      r = ref_refs u makes.name makes.target makes.callback did.what did.is

      so : (made.events ≡ Made Weak u.next_serial ∷ []) × (made.world ≡ push (Releasing (given_up_by u makes.name))
          (bound (with_new u Weak None r.entries (Some r.object)) makes.name (Some (Ref u.next_serial))))
      so = changes_so script u true (Made Weak u.next_serial ∷ []) (given_up_by u makes.name) (bound (with_new u Weak None r.entries (Some r.object)) makes.name
          (Some (Ref u.next_serial))) made.events made.world makes.takes.accepted
          (subst (λ e. DoesEffect script u (Ok e) made.events made.world) r.is did.does)

      serial : u.next_serial ≡ weak
      serial = let lines : Made Weak u.next_serial ∷ [] ≡ Made Weak weak ∷ [] = sym so.0 ∙ makes.line in cc

      same : r.object ≡ object
      same = let both : Some (Ref r.object) ≡ Some (Ref object) = sym r.target_is ∙ did.values makes.target ∙ makes.target_is in cc

pub references_keep : WeakReferencesKeepTheirReferents
references_keep script budget before made after run weak object makes =
    let start : World = opening script budget in
    let w : World = last_world start before in
    let front = run_front script start before (made ∷ after) run in
    let back = run_back script start before (made ∷ after) run in
    let fit : Fit script w = run_fit script start before front (opening_fit script budget) in
    keeps_refers (events_of after) weak object (last_world made.world after)
    (run_keeps script weak object [] made.world after back.1 (step_fit script w made.events made.world back.0 fit) (made_keeps script w made weak object fit back.0 makes))

-- what a look-up finds
look_found : (script : Script) (budget : ℕ) (before : List StepTaken) (look : Look) → IsRun script budget (before ++ steps_of look)
    → (x : ℕ) (map key : Operand) → Looks (world_after script budget before) x map key look → Found look x map key
look_found script budget before look run x map key looks =
    let w : World = last_world (opening script budget) before in
    found script w look (parts script w look (run_back script (opening script budget) before (steps_of look) run)) x map key looks

pub looks_find : LooksFindReferents
looks_find script budget before look run x map key looks = (look_found script budget before look run x map key looks).finds

-- only one weak reference is under a key
one_under : (w : World) (map key : Operand) (m n : ℕ) → IsUnder w map key m → IsUnder w map key n → m ≡ n
one_under w map key m n a b =
    let dicts : Some (Ref a.dict) ≡ Some (Ref b.dict) = sym a.map_is ∙ b.map_is in
    let dict : a.dict ≡ b.dict = cc in
    let keys : Some a.at ≡ Some b.at = sym a.key_is ∙ b.key_is in
    let at : a.at ≡ b.at = cc in
    let entries : Some (Ref m) ≡ Some (Ref n) = sym a.entry ∙ ap (λ o. value_at (entries_of w.objects o) a.at) dict ∙ ap (λ v. value_at (entries_of w.objects b.dict) v) at ∙ b.entry in
    cc

-- a dying object without a frame of its own is unheld and has no name
frameless_unheld : (script : Script) (w : World) (o : ℕ) (phase : DyingPhase) → is_frameless phase ≡ true → Stands script w o phase → Unheld w o
frameless_unheld script w o Finalizer e h = h
frameless_unheld script w o (Clearing waiting) e h = h.0
frameless_unheld script w o (Calling waiting) e h = h.0.unheld
frameless_unheld script w o (AfterCall weak callback waiting) e h = h.1.unheld
frameless_unheld script w o LegacyFinalizer e h = h.unheld
frameless_unheld script w o Detaching e h = h.0
frameless_unheld script w o Emptying e h = h.unheld
frameless_unheld script w o phase e h = absurd (let no : false ≡ true = e in cc)

not_named : (script : Script) (w : World) (x n : ℕ) → Calm script w → IsFading w.stack n → value_of w (Name x) ≡ Some (Ref n) → ⊥
not_named script w x n calm f named =
    let unheld = frameless_unheld script w f.death.object f.death.phase f.frameless (death_stands script w w.stack calm.stack f.death f.member) in
    subst (λ o. Includes (references_of_value (option_and_then (λ v. v) (slice_get w.names x))) o → ⊥) f.object (name_free w.names x f.death.object unheld.names)
    (subst (λ v. Includes (references_of_value v) n) (sym named) (inl refl))

-- What a look-up answers.
pub looks_answer_so : LooksAnswer
looks_answer_so script budget before made between look run weak object makes x map key looks under =
    let start : World = opening script budget in
    let earlier : List StepTaken = before ++ made ∷ between in
    let w : World = last_world start earlier in
    let front = run_front script start earlier (steps_of look) run in
    let p = parts script w look (run_back script start earlier (steps_of look) run) in
    let f = found script w look p x map key looks in
    let first = run_back script start before (made ∷ between) front in
    let v : World = last_world start before in
    let fit : Fit script v = run_fit script start before (run_front script start before (made ∷ between) front) (opening_fit script budget) in
    let made_fit : Fit script made.world = step_fit script v made.events made.world first.0 fit in
    let joined : w ≡ last_world made.world between = last_world-append start before (made ∷ between) in
    let since : Run script made.world (between ++ steps_before_third look) = Run-append script made.world between (steps_before_third look) first.1
    (subst (λ (z : World). Run script z (steps_before_third look)) joined p.front) in
    let there : last_world made.world (between ++ steps_before_third look) ≡ before_third look = last_world-append made.world between (steps_before_third look)
    ∙ ap (λ (z : World). last_world z (steps_before_third look)) (sym joined) ∙ p.world in
    let kept = run_keeps script weak object [] made.world (between ++ steps_before_third look) since made_fit (made_keeps script v made weak object fit first.0 makes) in
    let keeps : Keeps (events_of (between ++ steps_before_third look)) weak object (before_third look) = subst (Keeps (events_of (between ++ steps_before_third look)) weak object) there kept in
    let calm : Calm script (before_third look) = subst (Calm script) there (run_fit script made.world (between ++ steps_before_third look) since made_fit).calm in
    let same : f.finds.weak ≡ weak = one_under (before_second look) map key f.finds.weak weak f.finds.under under in
    let serial : f.finds.reference.serial ≡ weak = f.finds.serial ∙ same in
    record {
      uncleared = λ none. either (keeps.uncleared none f.finds.reference f.finds.member serial)
          (λ refers. f.finds.value ∙ ap (λ r. Some (referent_value r)) refers)
          (λ fading. absurd (not_named script (before_third look) x weak calm fading (f.held ∙ ap (λ n. Some (Ref n)) same)));
      cleared = λ c. f.finds.value ∙ ap (λ r. Some (referent_value r)) (keeps.cleared c f.finds.reference f.finds.member serial);
    }

-- A `wget` finds what a `wset` put into a map.
pub maps_answer : WeakMapsAnswer
maps_answer script budget before store between look run temporary stored_map stored_key v weak object stores x map key looks under =
    looks_answer_so script budget before store.first (since_making store between) look run weak object
    (record { name = temporary; target = v; callback = _; rest = _; below = stores.below; takes = stores.makes; target_is = stores.target_is; line = stores.line }) x map key looks under
