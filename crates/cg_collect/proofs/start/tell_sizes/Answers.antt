use Rattle.cg_machine.specs.Collect.{has_flag, collectable}
use Rattle.cg_machine.specs.Program.{profile_of}
use Rattle.cg_policy.specs.Flagset.{bits_of}
use Rattle.cg_collect.proofs.NothingIsMade.{keeps_all}
use Rattle.cg_collect.proofs.TakingTurns.{leads_to, tells}
use Rattle.cg_collect.proofs.StartLines.{ready_told, walk_told, few_told, onward_told, steps_sizes}
use Rattle.cg_collect.proofs.start.tell_sizes.Goals as goal

pub returns : goal.returns
returns g c = λ script policy.
    let store = c.args.heap.now in
    let b = has_flag (bits_of c.args.facts.flags) collectable in
    tells (leads_to c.tells.ensures c.after_sizes.ensures) (steps_sizes script c.args.facts store policy c.args.zero c.args.one c.args.two c.args.frozen)
    (ready_told store c.sound.ensures.listed c.requires.ready.0 c.requires.ready.1 c.args.facts.generation b) (walk_told store c.sound.ensures.listed
    c.requires.ready.0 c.requires.ready.1 (profile_of script.items) b)
    (λ n none. few_told n b store none) (onward_told c.args.zero c.args.one c.args.two c.args.frozen b store) (keeps_all store)
