-- What a refused look-up leaves.
use Rattle.std.proofs.Common.{◌≡◌, refl, sym, ◌∙◌, ap, subst, ℕ, false, zero, suc, ◌<◌, List, [], ◌∷◌, ◌++◌, length, Option, Some, Ok, arith, inl}
use Rattle.std.specs.Prelude.{count_by, flat_map, option_and_then, slice_get, slice_set}
use Rattle.cg_value.specs.declared.Val.{Val}
use Rattle.cg_value.specs.declared.Val.TheVariants.{None as Nothing}
use Rattle.cg_script.specs.declared.Operand.TheVariants.{None as NoneWord, Name}
use Rattle.cg_script.specs.declared.Command.{Command}
use Rattle.cg_script.specs.declared.Command.TheVariants.{Bind, Get, Deref}
use Rattle.cg_graph.specs.Member.{Includes}
use Rattle.cg_machine.specs.World.{World, opening, with_stack}
use Rattle.cg_laws.specs.Origins.{commands_on}
use Rattle.cg_machine.specs.Effects.{bound, given_up_by}
use Rattle.cg_machine.specs.Commands.{DoesEffect}
use Rattle.cg_laws.specs.Laws.{is_enter}
use Rattle.cg_machine.specs.Run.{Step, events_of, last_world}
use Rattle.cg_laws.proofs.Ending.{last_world-append}
use Rattle.cg_laws.proofs.OriginsOfRuns.{opening_origin, worlds_have_origins}
use Rattle.cg_laws.proofs.PrintableTexts.{commands_name_texts}
use Rattle.cg_promises.proofs.HoldersMoveRuns.{minded_after, opening_minded}
use Rattle.cg_promises.proofs.FinalizerOnceRuns.{opening_fit, run_back, run_front}
use Rattle.cg_weakcoll.specs.Maps.{MissesLeaveNone}
use Rattle.cg_weakcoll.proofs.TakenCommands.{changes_so, get_refused, none_binds, taken, taken_done}
use Rattle.cg_weakcoll.proofs.MapRuns.{count_append, names_stay}

bound_within : (names : List (Option Val)) (x : ℕ) (v : Val) → x < length names → option_and_then (λ u. u) (slice_get (slice_set names x (Some v)) x) ≡ Some v
bound_within [] x v low = absurd (omega (arith, low))
bound_within (p ∷ names) zero v low = refl
bound_within (p ∷ names) (suc x) v low = bound_within names x v (omega (arith, low))

pub misses_leave_none : MissesLeaveNone
misses_leave_none script budget before first early second known run x map key misses =
    let start : World = opening script budget in
    let w : World = last_world start before in
    let w2 : World = last_world first.world early in
    let left : List Command = Get x map key ∷ Deref x (Name x) ∷ misses.rest in
    let front = run_front script start (before ++ first ∷ early) (second ∷ []) run in
    let w_run = run_front script start before (first ∷ early) front in
    let back = run_back script start before (first ∷ early) front in
    let last = run_back script start (before ++ first ∷ early) (second ∷ []) run in
    let step2 : Step script w2 second.events second.world = subst (λ (z : World). Step script z second.events second.world) (last_world-append start before (first ∷ early)) last.0 in
    let done = taken_done script w (Bind x NoneWord) left misses.below first back.0 misses.binds in
    let u : World = with_stack (done.top ∷ misses.below) w in
    let so = changes_so script u false [] (given_up_by u x) (bound u x (Some Nothing)) first.events first.world misses.binds.accepted
    (subst (λ e. DoesEffect script u (Ok e) first.events first.world) (none_binds u x done.what done.is) done.does) in
    let counts = count_append first.events (events_of early) in
    let quiet : count_by is_enter (events_of early) ≡ 0 = (let none = misses.no_frame in omega (arith, counts, none)) in
    let names : w2.names ≡ slice_set w.names x (Some Nothing) = names_stay script done.top misses.below (λ e. absurd (let no : left ≡ [] = sym done.commands ∙ e
    in cc)) (slice_set w.names x (Some Nothing))
    first.world early back.1 quiet step2.running (given_up_by u x) (ap (λ (z : World). z.stack) so.1) (ap (λ (z : World). z.names) so.1) misses.top misses.stack
    (misses.commands ∙ sym done.commands) in
    let took = taken script w2 (Get x map key) (Deref x (Name x) ∷ misses.rest) misses.below second misses.top misses.stack misses.commands misses.not_due step2 in
    let kept : second.world.names ≡ w2.names = get_refused script (with_stack (took.top ∷ misses.below) w2) x map key second.events second.world misses.number took.does misses.refused in
    let count : length w.names ≡ length script.names = (minded_after script known start before w_run (opening_fit script budget) (opening_origin script budget)
    (opening_minded script known budget)).count in
    let all : flat_map commands_on w.stack ≡ (Bind x NoneWord ∷ left) ++ flat_map commands_on misses.below =
    ap (flat_map commands_on) misses.binds.stack ∙ ap (λ (cs : List Command). cs ++ flat_map commands_on misses.below) misses.binds.commands in
    let own : Includes (flat_map commands_on w.stack) (Bind x NoneWord) = subst (λ (cs : List Command). Includes cs (Bind x NoneWord)) (sym all) (inl refl) in
    let low : x < length script.names = commands_name_texts script known (Bind x NoneWord) ((worlds_have_origins script budget before w_run).commands (Bind x NoneWord) own) x (inl refl) in
    ap (λ (ns : List (Option Val)). option_and_then (λ u. u) (slice_get ns x)) (kept ∙ names) ∙ bound_within w.names x Nothing (omega (arith, count, low))
