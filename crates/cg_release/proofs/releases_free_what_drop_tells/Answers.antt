use Rattle.cg_script.proofs.ReadScripts.{read_known}
use Rattle.cg_release.proofs.ObjectPlaces.{frees_what_drop_tells}
use Rattle.cg_release.proofs.releases_free_what_drop_tells.Goals as goal

pub returns : goal.returns
returns c = record { known = frees_what_drop_tells; read = λ script budget before during given below was. frees_what_drop_tells script budget before during given below (read_known script was) }
