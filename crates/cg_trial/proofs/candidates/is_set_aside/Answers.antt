use Rattle.std.proofs.Common.{◌≡◌, true, sym, ◌∙◌, arith}
use Rattle.std.proofs.lemmas.Grind.{common_steps}
use Rattle.cg_graph.specs.Member.{Includes}
use Rattle.cg_graph.specs.Store.{list_at}
use Rattle.cg_trial.proofs.Lists.{occurs}
use Rattle.cg_trial.proofs.PlacesOfObjects.{where_is, is_there, once_at, apart}
use Rattle.cg_trial.proofs.candidates.is_set_aside.Goals as goal

pub returns : goal.returns
returns g c =
    let store = c.args.heap.now in
    let yes : c.eq.result ≡ true → c.args.place ≡ c.args.aside = λ h. grind (arith, common_steps) in
    let no : c.args.place ≡ c.args.aside → c.eq.result ≡ true = λ h. grind (arith, common_steps) in
    let there : c.eq.result ≡ true → Includes (list_at store c.args.aside) c.args.object =
    λ h. is_there store c.sound.ensures.listed c.args.aside c.args.object c.requires.live (sym c.requires.stands ∙ yes h) in
    record {
      is = (there, λ h. no (c.requires.stands ∙ (where_is store c.sound.ensures.listed c.args.aside c.args.object h).1));
      once = λ h. omega (arith, once_at store c.sound.ensures.listed c.args.aside c.args.object, occurs (list_at store c.args.aside) c.args.object (there h));
      alone = λ h p differs. apart store c.sound.ensures.listed c.args.aside p c.args.object (λ e. differs (sym e)) (there h);
    }
