use Rattle.std.proofs.Common.{sym, ◌∙◌, ap, subst, List, ℕ, length, ◌++◌}
use Rattle.cg_snapshot.specs.Text.{AreMembers}
use Rattle.cg_snapshot.proofs.DistinctRows.{if_some}
use Rattle.cg_ask.specs.Asked.{IsShortest}
use Rattle.cg_ask.specs.Answers.{way_text}
use Rattle.cg_ask.proofs.Answering.{reason_path}
use Rattle.cg_ask.proofs.Marking.{members_of}
use Rattle.cg_ask.proofs.Reaching.{path_members}
use Rattle.cg_ask.proofs.why.put_why.Goals as goal

pub put_path-requires-clause-within : goal.put_path-requires-clause-within
put_path-requires-clause-within c =
    let shortest = if_some _ c.in-Some.path (λ p. IsShortest c.args.members.now c.args.but.now p.items c.args.object) c.in-Some.is c.in_ok-path.ensures.found in
    subst (λ (ns : List ℕ). AreMembers (length c.args.members.now) ns) (sym c.as_slice.ensures.value)
    (members_of (length c.args.members.now) c.in-Some.path.items (path_members c.args.members.now c.args.but.now c.in-Some.path.items c.args.object shortest))

pub returns-in_ok-put_path-in-Some : goal.returns-in_ok-put_path-in-Some
returns-in_ok-put_path-in-Some c =
    let shortest = if_some _ c.in-Some.path (λ p. IsShortest c.args.members.now c.args.but.now p.items c.args.object) c.in-Some.is c.in_ok-path.ensures.found in
    reason_path c.args.members.now c.args.but.now c.in-Some.path.items c.args.object c.args.out.now.items c.put_path.new.out.items shortest
    (c.in_ok-put_path-in-Some.ensures ∙ ap (λ (ns : List ℕ). c.args.out.now.items ++ way_text c.args.members.now ns) c.as_slice.ensures.value)
