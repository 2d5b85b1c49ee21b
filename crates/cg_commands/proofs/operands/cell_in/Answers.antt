use Rattle.std.proofs.Common.{◌≡◌, sym, ◌∙◌, ap, ℕ, ◌≤◌, length, Option, Some, None, arith}
use Rattle.std.specs.Prelude.{option_map, option_and_then, slice_get}
use Rattle.std.proofs.lemmas.Option.{slice_get_past}
use Rattle.cg_graph.specs.Store.{Store, entries_of}
use Rattle.cg_commands.specs.declared.locals.Locals.{Locals}
use Rattle.cg_commands.proofs.Reading.{live-value_in}
use Rattle.cg_commands.proofs.operands.cell_in.Goals as goal

pub returns-then-i-len-clause-live : goal.returns-then-i-len-clause-live
returns-then-i-len-clause-live g c = live-value_in c.args.heap.now c.sound.ensures c.in-Some-func.func c.from-i.result c.entry_at.result c.entry_at.ensures

past : (store : Store) (locals : Option Locals) (l : Locals) (f i : ℕ) → locals ≡ Some l → l.func ≡ Some f → length (entries_of store f) ≤ i → None
    ≡ option_and_then (λ (l : Locals). option_and_then (λ f. option_map (λ e. e.val) (slice_get (entries_of store f) i)) l.func) locals
past store locals l f i is func end =
    let found : option_and_then (λ (l : Locals). option_and_then (λ f. option_map (λ e. e.val) (slice_get (entries_of store f) i)) l.func) locals ≡ None =
    ap (option_and_then (λ (l : Locals). option_and_then (λ f. option_map (λ e. e.val) (slice_get (entries_of store f) i)) l.func)) is
    ∙ ap (option_and_then (λ f. option_map (λ e. e.val) (slice_get (entries_of store f) i))) func
    ∙ ap (option_map (λ e. e.val)) (slice_get_past (entries_of store f) i end) in
    sym found

pub returns-else-i-len-clause-value : goal.returns-else-i-len-clause-value
returns-else-i-len-clause-value g c = past c.args.heap.now c.args.locals.now c.in-Some.frame c.in-Some-func.func c.args.i c.in-Some.is c.in-Some-func.is
    (omega (arith, c.if-i-len.false, c.len.ensures, c.from-i.ensures))
