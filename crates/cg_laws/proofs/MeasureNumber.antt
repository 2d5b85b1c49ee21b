-- The measure as one number: each step of the machine makes it smaller.
use Rattle.std.proofs.Math.Nat.{mul-le-mul_right, mul-le-mul_left}
use Rattle.std.proofs.Common.{ℕ, ◌+◌, ◌*◌, ◌<◌, ◌≤◌, Bool, true, false, List, [], ◌∷◌, arith}
use Rattle.std.specs.Prelude.{◌==◌, if◌then◌else◌}
use Rattle.std.specs.List.{list_any}
use Rattle.cg_value.specs.declared.Place.TheVariants.{Cand}
use Rattle.cg_script.specs.declared.Script.{Script}
use Rattle.cg_graph.specs.Object.{Object, is_at}
use Rattle.cg_machine.specs.declared.event.Event.{Event}
use Rattle.cg_machine.specs.World.{World, Activity, Collecting, CollectPhase, Start, Turn, AfterTurn}
use Rattle.cg_machine.specs.Due.{is_due}
use Rattle.cg_machine.specs.Run.{Step}
use Rattle.cg_laws.proofs.Sums.{tally, bit, tally-le}
use Rattle.cg_laws.proofs.Measure.{is_starting, due_rank, phase_rank, rank_in, candidates, other_candidate, left_at, left_in, size_of, Summary, summary, Bounded, number, Lower, by_commands, by_due, by_rank, by_left, by_entries, by_referents, by_weight}
use Rattle.cg_laws.proofs.InvariantOfRuns.{collections_in, Sound}
use Rattle.cg_laws.proofs.MeasureInCollections.{none_underway}
use Rattle.cg_laws.proofs.MeasureInCommands.{step_moves}

-- products of what does not rise
product : (a b x y : ℕ) → a ≤ b → x ≤ y → a * x ≤ b * y
product a b x y h k = omega (arith, mul-le-mul_right x h, mul-le-mul_left b k)

product_gap : (a b g x y : ℕ) → a + g ≤ b → x ≤ y → a * x + g * y ≤ b * y
product_gap a b g x y h k = omega (arith, mul-le-mul_left a k, mul-le-mul_right y h)

quiet : (n o : Summary) → n.commands ≤ o.commands → n.size ≤ o.size → n.due ≤ o.due → n.rank ≤ o.rank → 30 * n.left + 20 * n.entries + n.referents + n.weight <
    30 * o.left + 20 * o.entries + o.referents + o.weight → number n < number o
quiet n o c s d k h =
    let first = product n.commands o.commands (4000 * (n.size + n.commands + 1) + 80000200) (4000 * (o.size + o.commands + 1) + 80000200) c (omega (arith, s, c)) in
    let second = product (1300 * n.due + 120 * n.rank) (1300 * o.due + 120 * o.rank) (n.size + n.commands + 1) (o.size + o.commands + 1) (omega (arith, d, k)) (omega (arith, s, c)) in
    omega (arith, first, second, h)

pub falls : (n o : Summary) → Bounded n → Lower n o → number n < number o
falls n o b (by_commands c s e r w) =
    let first = product_gap n.commands o.commands 1 (4000 * (n.size + n.commands + 1) + 80000200) (4000 * (o.size + o.commands + 1) + 80000200) (omega (arith, c)) (omega (arith, s)) in
    let second = product (1300 * n.due + 120 * n.rank) 3800 (n.size + n.commands + 1) (o.size + o.commands + 1) (omega (arith, b.due, b.rank)) (omega (arith, s)) in
    omega (arith, first, second, b.left, s, e, r, w)
falls n o b (by_due c s d e r w) =
    let first = product n.commands o.commands (4000 * (n.size + n.commands + 1) + 80000200) (4000 * (o.size + o.commands + 1) + 80000200) c (omega (arith, s, c)) in
    let second = product_gap (1300 * n.due + 120 * n.rank) (1300 * o.due + 120 * o.rank) 100 (n.size + n.commands + 1) (o.size + o.commands + 1) (omega (arith, d, b.rank)) (omega (arith, s, c)) in
    omega (arith, first, second, b.left, s, c, e, r, w)
falls n o b (by_rank c s d k e r w) =
    let first = product n.commands o.commands (4000 * (n.size + n.commands + 1) + 80000200) (4000 * (o.size + o.commands + 1) + 80000200) c (omega (arith, s, c)) in
    let second = product_gap (1300 * n.due + 120 * n.rank) (1300 * o.due + 120 * o.rank) 120 (n.size + n.commands + 1) (o.size + o.commands + 1) (omega (arith, d, k)) (omega (arith, s, c)) in
    omega (arith, first, second, b.left, s, c, e, r, w)
falls n o b (by_left c s d k l e r w) = quiet n o c s d k (omega (arith, l, e, r, w))
falls n o b (by_entries c s d k l e r w) = quiet n o c s d k (omega (arith, l, e, r, w))
falls n o b (by_referents c s d k l e r w) = quiet n o c s d k (omega (arith, l, e, r, w))
falls n o b (by_weight c s d k l e r w) = quiet n o c s d k (omega (arith, l, e, r, w))

-- the bounds that each sound world keeps
due_two : (d s : Bool) → due_rank d s ≤ 2
due_two d true = omega arith
due_two true false = omega arith
due_two false false = omega arith

rank_ten : (p : CollectPhase) → phase_rank p ≤ 10
rank_ten Start = omega arith
rank_ten _ = omega arith

bit_one : (b : Bool) → bit b ≤ 1
bit_one true = omega arith
bit_one false = omega arith

other_one : (o : ℕ) (x : Object) → other_candidate o x ≤ 1
other_one o x = go (x.serial == o)
  where
    go : (b : Bool) → (if b then 0 else bit (is_at Cand x)) ≤ 1
    go true = omega arith
    go false = bit_one (is_at Cand x)

left_bound : (objects : List Object) (p : CollectPhase) → left_at objects p ≤ 3 * size_of objects + 2
left_bound objects (Turn o) = omega (arith, tally-le (other_candidate o) (λ x. 1) (other_one o) objects)
left_bound objects (AfterTurn o) = omega (arith, tally-le (other_candidate o) (λ x. 1) (other_one o) objects)
left_bound objects _ = let all : candidates objects ≤ size_of objects = tally-le (λ x. bit (is_at Cand x)) (λ x. 1) (λ x. bit_one (is_at Cand x)) objects in omega (arith, all)

stack_bound : (objects : List Object) (stack : List Activity) → tally collections_in stack ≤ 1 → (tally rank_in stack ≤ 10) × (tally (left_in objects) stack ≤ 3 * size_of objects + 2)
stack_bound objects [] h = (omega arith, omega arith)
stack_bound objects (Collecting c ∷ stack) h =
    let none = none_underway stack (omega (arith, h)) in
    (omega (arith, rank_ten c.phase, none.rank), omega (arith, left_bound objects c.phase, none.left objects))
stack_bound objects (_ ∷ stack) h = let k = stack_bound objects stack (omega (arith, h)) in (omega (arith, k.0), omega (arith, k.1))

pub bounded : (script : Script) (w : World) → Sound w → Bounded (summary script w)
bounded script w sound = record {
  due = due_two (is_due w.numbers) (list_any is_starting w.stack);
  rank = (stack_bound w.objects w.stack sound.single).0;
  left = (stack_bound w.objects w.stack sound.single).1;
}

-- So each step lowers the number of a sound world, and leaves it sound.
abbrev pub number_of : Script → World → ℕ
number_of script w = number (summary script w)

pub step_falls : (script : Script) (w : World) (events : List Event) (after : World) → Step script w events after → Sound w → Sound after × (number_of script after < number_of script w)
step_falls script w events after step sound =
    let moves = step_moves script w events after step sound in
    (moves.sound, falls (summary script after) (summary script w) (bounded script after moves.sound) moves.lower)
