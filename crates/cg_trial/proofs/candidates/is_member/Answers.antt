use Rattle.std.proofs.Common.{◌≡◌, true, sym, ◌∙◌, arith}
use Rattle.std.proofs.lemmas.Grind.{common_steps}
use Rattle.cg_trial.proofs.PlacesOfObjects.{where_is, is_there}
use Rattle.cg_trial.proofs.candidates.is_member.Goals as goal

pub returns : goal.returns
returns g c =
    let yes : c.eq.result ≡ true → c.args.place ≡ c.args.members = λ h. grind (arith, common_steps) in
    let no : c.args.place ≡ c.args.members → c.eq.result ≡ true = λ h. grind (arith, common_steps) in
    record {
      is = (
        λ h. is_there c.args.heap.now c.sound.ensures.listed c.args.members c.args.object c.requires.live (sym c.requires.stands ∙ yes h),
        λ h. no (c.requires.stands ∙ (where_is c.args.heap.now c.sound.ensures.listed c.args.members c.args.object h).1),
      );
    }
