use Rattle.cg_script.proofs.ReadScripts.{read_known}
use Rattle.cg_release.proofs.FreesWhatDies.{frees_exactly}
use Rattle.cg_release.proofs.releases_free_exactly.Goals as goal

pub returns : goal.returns
returns c = record { known = frees_exactly; read = λ script budget before during given below was. frees_exactly script budget before during given below (read_known script was) }
