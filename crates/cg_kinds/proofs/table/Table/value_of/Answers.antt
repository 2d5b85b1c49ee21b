use Rattle.std.proofs.Common.{◌∙◌, ap, sym, Some}
use Rattle.std.specs.Option.{option_copied}
use Rattle.cg_kinds.specs.Pairs.{unboxed}
use Rattle.cg_kinds.proofs.TableLemmas.{lookup-ordered}
use Rattle.cg_kinds.proofs.table.Table.value_of.Goals as goal

pub returns-in-Some : goal.returns-in-Some
returns-in-Some c =
    ap Some c.val.ensures ∙ sym (ap option_copied c.in-Some.is) ∙ c.get.ensures.value
    ∙ lookup-ordered c.self.inside.map.entries (unboxed c.self.inside.order) c.self.invariant c.sound.ensures c.len-count.ensures.unique c.args.key c.new.result c.new.ensures _ c.self.view_is

pub returns-in-None : goal.returns-in-None
returns-in-None c =
    sym (ap option_copied c.in-None.is) ∙ c.get.ensures.value
    ∙ lookup-ordered c.self.inside.map.entries (unboxed c.self.inside.order) c.self.invariant c.sound.ensures c.len-count.ensures.unique c.args.key c.new.result c.new.ensures _ c.self.view_is
