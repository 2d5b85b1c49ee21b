-- What each of these commands asks of the script is in the spelling of the command, and what was done is its effect.
use Rattle.std.proofs.Common.{refl, sym, ◌∙◌, ap}
use Rattle.cg_script.specs.declared.command.Command.TheVariants as command
use Rattle.cg_commands.proofs.TextLemmas.{known_in}
use Rattle.cg_commands.proofs.Counting.{plainly}
use Rattle.cg_commands.proofs.Reading.{read_back}
use Rattle.cg_commands.proofs.dispatch.change.Goals as goal

pub returns-in-Bind : goal.returns-in-Bind
returns-in-Bind g c = λ policy. plainly _ policy _ _ _ _ c.in-Bind.is tt _ _ c.bind.ensures refl

pub returns-in-Del : goal.returns-in-Del
returns-in-Del g c = λ policy. plainly _ policy _ _ _ _ c.in-Del.is tt _ _ c.unbind.ensures refl

pub returns-in-Append : goal.returns-in-Append
returns-in-Append g c = λ policy. plainly _ policy _ _ _ _ c.in-Append.is tt _ _ c.append.ensures refl

pub set_item-requires-clause-known : goal.set_item-requires-clause-known
set_item-requires-clause-known g c = known_in _ _ _ c.in-SetItem.is c.requires.spelled

pub returns-in-SetItem : goal.returns-in-SetItem
returns-in-SetItem g c = λ policy.
    plainly _ policy _ _ _ _ (c.in-SetItem.is ∙ ap (λ z. command.SetItem c.in-SetItem.list z c.in-SetItem.value) (sym (read_back c.number.result c.number.type_inv ∙ c.number.ensures))) tt _ _
    c.set_item.ensures refl

pub del_item-requires-clause-known : goal.del_item-requires-clause-known
del_item-requires-clause-known g c = known_in _ _ _ c.in-DelItem.is c.requires.spelled

pub returns-in-DelItem : goal.returns-in-DelItem
returns-in-DelItem g c = λ policy.
    plainly _ policy _ _ _ _ (c.in-DelItem.is ∙ ap (λ z. command.DelItem c.in-DelItem.list z) (sym (read_back c.number-in-DelItem.result c.number-in-DelItem.type_inv ∙
    c.number-in-DelItem.ensures))) tt _ _ c.del_item.ensures refl

pub returns-in-Put : goal.returns-in-Put
returns-in-Put g c = λ policy. plainly _ policy _ _ _ _ c.in-Put.is tt _ _ c.put.ensures refl

pub returns-in-Remove : goal.returns-in-Remove
returns-in-Remove g c = λ policy. plainly _ policy _ _ _ _ c.in-Remove.is tt _ _ c.remove.ensures refl

pub returns-in-SetAttr : goal.returns-in-SetAttr
returns-in-SetAttr g c = λ policy. plainly _ policy _ _ _ _ c.in-SetAttr.is tt _ _ c.set_attr.ensures refl

pub returns-in-DelAttr : goal.returns-in-DelAttr
returns-in-DelAttr g c = λ policy. plainly _ policy _ _ _ _ c.in-DelAttr.is tt _ _ c.del_attr.ensures refl

pub item-requires-clause-known : goal.item-requires-clause-known
item-requires-clause-known g c = known_in _ _ _ c.in-Item.is c.requires.spelled

pub returns-in-Item : goal.returns-in-Item
returns-in-Item g c = λ policy.
    plainly _ policy _ _ _ _ (c.in-Item.is ∙ ap (λ z. command.Item c.in-Item.name c.in-Item.list z) (sym (read_back c.number-in-Item.result c.number-in-Item.type_inv ∙ c.number-in-Item.ensures)))
    tt _ _ c.item.ensures refl

pub returns-in-Get : goal.returns-in-Get
returns-in-Get g c = λ policy. plainly _ policy _ _ _ _ c.in-Get.is tt _ _ c.get.ensures refl

pub returns-in-Attr : goal.returns-in-Attr
returns-in-Attr g c = λ policy. plainly _ policy _ _ _ _ c.in-Attr.is tt _ _ c.attr.ensures refl

pub returns-in-Deref : goal.returns-in-Deref
returns-in-Deref g c = λ policy. plainly _ policy _ _ _ _ c.in-Deref.is tt _ _ c.deref.ensures refl
