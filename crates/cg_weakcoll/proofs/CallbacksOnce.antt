-- Weak references whose callbacks are still to run are cleared. Each callback begins once.
use Rattle.std.proofs.Common.{◌≡◌, refl, sym, ◌∙◌, ap, subst, ℕ, ◌<◌, ◌≤◌, cond, inl, inr, ◌⊎◌, List, [], ◌∷◌, ◌++◌, Some, None, arith}
use Rattle.std.specs.Prelude.{◌==◌}
use Rattle.std.proofs.lemmas.Bool.{eq-eqb}
use Rattle.cg_script.specs.declared.Script.{Script}
use Rattle.cg_graph.specs.Member.{Includes}
use Rattle.cg_graph.specs.Holdings.{occurrences}
use Rattle.cg_graph.specs.Object.{Object}
use Rattle.cg_graph.proofs.Members.{either, Includes-append_cases, Includes-append_left, Includes-append_right}
use Rattle.cg_graph.proofs.Objects.{occurrences-append}
use Rattle.cg_machine.specs.declared.event.Event.{Event}
use Rattle.cg_machine.specs.declared.event.Event.TheVariants.{Enter}
use Rattle.cg_machine.specs.declared.event.FrameSort.TheVariants.{Callback}
use Rattle.cg_machine.specs.World.{World, Activity, Dying, Collecting, CollectPhase, AfterCallback}
use Rattle.cg_represents.specs.Orderly.{IsWaiting, all_waits, collection_waits, waits_of}
use Rattle.cg_represents.proofs.Lists.{present, occurrences-cons, Includes-of_count}
use Rattle.cg_laws.proofs.Unreferred.{IsLater, none_later}
use Rattle.cg_weakcoll.proofs.ActivitySteps.{Acts, Called, IsAside, IsCollected, IsRaised, Waited, all_to_call, to_call, to_call_in}
use Rattle.cg_laws.specs.Apart.{IsFound}
use Rattle.cg_weakcoll.proofs.KnownOfRuns.{Known}

-- an activity of the stack has it to call
pub to_call_of : (stack : List Activity) (n : ℕ) → Includes (all_to_call stack) n → (a : Activity) × Includes stack a × Includes (to_call a) n
to_call_of [] n m = absurd m
to_call_of (a ∷ stack) n m = either (Includes-append_cases (to_call a) (all_to_call stack) n m) (λ i. (a, inl refl, i)) (λ i. let b = to_call_of stack n i in (b.0, inr b.1, b.2))

pub to_call_in_stack : (stack : List Activity) (a : Activity) (n : ℕ) → Includes stack a → Includes (to_call a) n → Includes (all_to_call stack) n
to_call_in_stack [] a n m i = absurd m
to_call_in_stack (b ∷ stack) a n (inl e) i = Includes-append_left (to_call b) (all_to_call stack) n (subst (λ (x : Activity). Includes (to_call x) n) (sym e) i)
to_call_in_stack (b ∷ stack) a n (inr m) i = Includes-append_right (to_call b) (all_to_call stack) n (to_call_in_stack stack a n m i)

-- the former are among those that wait, at most as often
one_waits : (n : ℕ) (a : Activity) → occurrences n (to_call a) ≤ occurrences n (waits_of a)
one_waits n (Collecting c) = by_phase c.phase
  where
    by_phase : (phase : CollectPhase) → occurrences n (to_call_in phase) ≤ occurrences n (collection_waits phase)
    by_phase (AfterCallback weak waiting) = let c = occurrences-cons n weak waiting in omega (arith, c)
    by_phase phase = omega arith
one_waits n a = omega arith

all_wait : (n : ℕ) (stack : List Activity) → occurrences n (all_to_call stack) ≤ occurrences n (all_waits stack)
all_wait n [] = omega arith
all_wait n (a ∷ stack) =
    let one = one_waits n a in
    let rest = all_wait n stack in
    let x = occurrences-append n (to_call a) (all_to_call stack) in
    let y = occurrences-append n (waits_of a) (all_waits stack) in omega (arith, one, rest, x, y)

waits_among : (n : ℕ) (stack : List Activity) → Includes (all_to_call stack) n → 0 < occurrences n (all_waits stack)
waits_among n stack m = let more = present n (all_to_call stack) m in let less = all_wait n stack in omega (arith, more, less)

-- a weak reference whose callback is still to run is cleared
pub lost_referent : (script : Script) (budget : ℕ) (w : World) (n : ℕ) → Known script budget w → Includes (all_to_call w.stack) n → (x : Object) → Includes w.objects x → x.serial ≡ n → IsWaiting x
lost_referent script budget w n k m x i s = k.lawful.orderly.waiting n (Includes-of_count n (all_waits w.stack) (waits_among n w.stack m)) x i s

-- a weak reference whose callback will never run
pub record Spent (s : ℕ) (w : World) : Type 0 where
  pub made : s < w.next_serial
  pub unreferred : (x : Object) → Includes w.objects x → x.serial ≡ s → x.referent ≡ None
  pub uncalled : ¬ Includes (all_to_call w.stack) s

-- what a step does for an existing weak reference
pub record Tells (s : ℕ) (w : World) (events : List Event) (after : World) : Type 0 where
  pub serial : w.next_serial ≤ after.next_serial
  pub comes : (y : Object) → Includes after.objects y → y.serial ≡ s → (x : Object) × Includes w.objects x × IsLater x y
  pub waits : Includes (all_to_call after.stack) s → Waited w s
  pub places : (o : ℕ) (y : Object) → Includes after.objects y → y.serial ≡ o → o < w.next_serial → IsFound y.place → IsAside w o ⊎ IsCollected w o
  pub begins : Includes events (Enter Callback s) → Includes (all_to_call w.stack) s × (¬ Includes (all_to_call after.stack) s) × (events ≡ Enter Callback s ∷ [])

-- a step of an activity other than commands
pub acted_tells : (script : Script) (budget s : ℕ) (w : World) (a : Activity) (below : List Activity) (events : List Event) (after : World)
    → Known script budget w → w.stack ≡ a ∷ below → Acts script w below events after → Tells s w events after
acted_tells script budget s w a below events after k top acts = record {
  serial = let e = acts.serial in omega (arith, e);
  comes = λ y m e. let x = acts.grows y m in (x.0, x.1, x.2.later);
  waits = λ m. let b = to_call_of (acts.tops ++ below) s (subst (λ st. Includes (all_to_call st) s) acts.stack m)
      in either (Includes-append_cases acts.tops below b.0 b.1) (λ i. raised b.0 (acts.raised b.0 i) b.2)
      (λ i. inl (subst (λ st. Includes (all_to_call st) s) (sym top) (Includes-append_right (to_call a) (all_to_call below) s (to_call_in_stack below b.0 s i b.2))));
  places = λ o y m i low f. let x = acts.grows y m in let is = sym x.2.later.serial ∙ i in either (x.2.place f) (λ g. inl (x.0, x.1, is, g)) (λ c. inr (subst (IsCollected w) is c));
  begins = λ m. let c = acts.callbacks s m in (
    subst (λ xs. Includes xs s) (sym c.first) (inl refl),
    λ i. gone c (to_call_of (acts.tops ++ below) s (subst (λ st. Includes (all_to_call st) s) acts.stack i)),
    c.alone,
  );
}
  where
    raised : (b : Activity) → IsRaised script w b → Includes (to_call b) s → Waited w s
    raised (Dying d) r i = r s i
    raised (Collecting c) r i = r s i
    raised a r i = absurd i

    gone : Called w below acts.tops events s → ((b : Activity) × Includes (acts.tops ++ below) b × Includes (to_call b) s) → ⊥
    gone c b =
        let twice : Includes (c.rest ++ all_to_call below) s = either (Includes-append_cases acts.tops below b.0 b.1)
        (λ i. Includes-append_left c.rest (all_to_call below) s (c.others b.0 i s b.2)) (λ i. Includes-append_right c.rest (all_to_call below) s
        (to_call_in_stack below b.0 s i b.2)) in
        let once = k.lawful.orderly.once s in
        let all = all_wait s w.stack in
        let is : occurrences s (all_to_call w.stack) ≡ occurrences s (s ∷ (c.rest ++ all_to_call below)) = ap (occurrences s) c.first in
        let cons = occurrences-cons s s (c.rest ++ all_to_call below) in
        let here : ◌≡◌ {A = ℕ} (cond (s == s) 1 0) 1 = ap (λ t. cond t 1 0) (eq-eqb s s refl) in
        let more = present s (c.rest ++ all_to_call below) twice in
        absurd (omega (arith, once, all, is, cons, here, more))

pub spent_stays : (s : ℕ) (w : World) (events : List Event) (after : World) → Tells s w events after → Spent s w → Spent s after × ¬ Includes events (Enter Callback s)
spent_stays s w events after t h = (
  record {
    made = let m = h.made in let l = t.serial in omega (arith, m, l);
    unreferred = λ y m e. let x = t.comes y m e in none_later x.0 y x.2 (h.unreferred x.0 x.1 (sym x.2.serial ∙ e));
    uncalled = λ m. either (t.waits m) h.uncalled (λ l. let no : None ≡ Some l.referent = sym (h.unreferred l.object l.member l.same) ∙ l.refers in cc);
  },
  λ m. h.uncalled (t.begins m).0,
)

-- once its callback begins, it is spent
pub begun_spent : (script : Script) (budget s : ℕ) (w : World) (events : List Event) (after : World) → Known script budget w → Tells s w events after
    → s < w.next_serial → Includes events (Enter Callback s) → Spent s after
begun_spent script budget s w events after k t low m = record {
  made = let l = t.serial in omega (arith, low, l);
  unreferred = λ y i e. let x = t.comes y i e in none_later x.0 y x.2 (lost_referent script budget w s k (t.begins m).0 x.0 x.1 (sym x.2.serial ∙ e)).referent;
  uncalled = (t.begins m).1;
}
