use Rattle.std.proofs.Common.{◌∙◌, sym, nat_eq}
use Rattle.std.specs.Map.{lookup}
use Rattle.indexmap.proofs.CallerLemmas.{insert_entry-new}
use Rattle.cg_inspect.proofs.Positions.{new_in_order, present_in_order}
use Rattle.cg_inspect.proofs.Found.{looked_up, not_looked_up, nothing}
use Rattle.cg_inspect.proofs.search.find.Goals as goal

pub returns-in_ok-insert : goal.returns-in_ok-insert
returns-in_ok-insert c =
    let absent = sym c.contains_key.ensures ∙ c.if-not-contains_key.true in
    new_in_order c.args.found.now.entries c.args.holder c.insert.new.self.entries c.args.object
    (c.in_ok-insert.ensures.entries ∙ insert_entry-new nat_eq c.args.found.now c.args.object c.args.holder (nothing (lookup (nat_eq c.args.object) c.args.found.now.entries) absent))
    (not_looked_up c.args.found.now.entries c.args.object absent)

pub returns-else-not-contains_key : goal.returns-else-not-contains_key
returns-else-not-contains_key c = present_in_order c.args.found.now.entries c.args.holder c.args.object (looked_up c.args.found.now.entries c.args.object
    (sym c.contains_key.ensures ∙ c.if-not-contains_key.false))
