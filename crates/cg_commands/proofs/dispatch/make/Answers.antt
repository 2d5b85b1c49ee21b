-- What each command requires of the script is part of the command's spelling, and what was done is its effect.
use Rattle.std.proofs.Common.{refl, sym, ◌∙◌, ap, subst}
use Rattle.cg_script.specs.Spelled.{HasFewWords}
use Rattle.cg_script.specs.declared.command.Command.TheVariants as command
use Rattle.cg_commands.proofs.TextLemmas.{known_in}
use Rattle.cg_commands.proofs.Counting.{made_and_counted}
use Rattle.cg_commands.proofs.dispatch.make.Goals as goal

pub make_dict-made-requires-clause-known : goal.make_dict-made-requires-clause-known
make_dict-made-requires-clause-known g c = known_in _ _ _ c.in-MakeDict.is c.requires.spelled

pub returns-in-MakeDict : goal.returns-in-MakeDict
returns-in-MakeDict g c =
    made_and_counted _ _ _ _ _ _ c.in-MakeDict.is tt _ _ c.make_dict-made.ensures.performs refl c.make_dict-made.ensures.room _ c.count-in-MakeDict.ensures.counts _ c.count-in-MakeDict.ensures.same

pub make_instance-made-requires-clause-known : goal.make_instance-made-requires-clause-known
make_instance-made-requires-clause-known g c = known_in _ _ _ c.in-MakeInst.is c.requires.spelled

pub returns-in-MakeInst : goal.returns-in-MakeInst
returns-in-MakeInst g c =
    made_and_counted _ _ _ _ _ _ c.in-MakeInst.is tt _ _ c.make_instance-made.ensures.performs refl c.make_instance-made.ensures.room _ c.count-in-MakeInst.ensures.counts _
    c.count-in-MakeInst.ensures.same

pub make_weak-made-requires-clause-known : goal.make_weak-made-requires-clause-known
make_weak-made-requires-clause-known g c = known_in _ _ _ c.in-MakeRef.is c.requires.spelled

pub returns-in-MakeRef : goal.returns-in-MakeRef
returns-in-MakeRef g c =
    made_and_counted _ _ _ _ _ _ c.in-MakeRef.is tt _ _ c.make_weak-made.ensures.performs refl c.make_weak-made.ensures.room _ c.count-in-MakeRef.ensures.counts _ c.count-in-MakeRef.ensures.same

pub make_list-made-requires-clause-known : goal.make_list-made-requires-clause-known
make_list-made-requires-clause-known g c = known_in _ _ _ (c.in-MakeList.is ∙ ap (λ ops. command.MakeList c.in-MakeList.name ops) (sym c.as_slice.ensures)) c.requires.spelled

pub make_list-made-requires-clause-count : goal.make_list-made-requires-clause-count
make_list-made-requires-clause-count g c = subst HasFewWords (c.in-MakeList.is ∙ ap (λ ops. command.MakeList c.in-MakeList.name ops) (sym c.as_slice.ensures)) c.requires.spelled.few_words

pub returns-in-MakeList : goal.returns-in-MakeList
returns-in-MakeList g c =
    made_and_counted _ _ _ _ _ _ (c.in-MakeList.is ∙ ap (λ ops. command.MakeList c.in-MakeList.name ops) (sym c.as_slice.ensures)) tt _ _
    c.make_list-made.ensures.performs refl c.make_list-made.ensures.room _ c.count.ensures.counts _ c.count.ensures.same

pub make_tuple-made-requires-clause-known : goal.make_tuple-made-requires-clause-known
make_tuple-made-requires-clause-known g c = known_in _ _ _ (c.in-MakeTuple.is ∙ ap (λ ops. command.MakeTuple c.in-MakeTuple.name ops) (sym c.as_slice-in-MakeTuple.ensures)) c.requires.spelled

pub make_tuple-made-requires-clause-count : goal.make_tuple-made-requires-clause-count
make_tuple-made-requires-clause-count g c = subst HasFewWords (c.in-MakeTuple.is ∙ ap (λ ops. command.MakeTuple c.in-MakeTuple.name ops) (sym c.as_slice-in-MakeTuple.ensures))
    c.requires.spelled.few_words

pub returns-in-MakeTuple : goal.returns-in-MakeTuple
returns-in-MakeTuple g c =
    made_and_counted _ _ _ _ _ _ (c.in-MakeTuple.is ∙ ap (λ ops. command.MakeTuple c.in-MakeTuple.name ops) (sym c.as_slice-in-MakeTuple.ensures)) tt _ _
    c.make_tuple-made.ensures.performs refl c.make_tuple-made.ensures.room _ c.count-in-MakeTuple.ensures.counts _ c.count-in-MakeTuple.ensures.same

pub make_function-made-requires-clause-known : goal.make_function-made-requires-clause-known
make_function-made-requires-clause-known g c = known_in _ _ _ (c.in-MakeFunc.is ∙ ap (λ ops. command.MakeFunc c.in-MakeFunc.name c.in-MakeFunc.proc ops) (sym c.as_slice-in-MakeFunc.ensures))
    c.requires.spelled

pub make_function-made-requires-clause-count : goal.make_function-made-requires-clause-count
make_function-made-requires-clause-count g c = subst HasFewWords (c.in-MakeFunc.is ∙ ap (λ ops. command.MakeFunc c.in-MakeFunc.name c.in-MakeFunc.proc ops) (sym c.as_slice-in-MakeFunc.ensures))
    c.requires.spelled.few_words

pub returns-in-MakeFunc : goal.returns-in-MakeFunc
returns-in-MakeFunc g c =
    made_and_counted _ _ _ _ _ _ (c.in-MakeFunc.is ∙ ap (λ ops. command.MakeFunc c.in-MakeFunc.name c.in-MakeFunc.proc ops) (sym c.as_slice-in-MakeFunc.ensures)) tt _ _
    c.make_function-made.ensures.performs refl c.make_function-made.ensures.room _ c.count-in-MakeFunc.ensures.counts _ c.count-in-MakeFunc.ensures.same
