-- What laws require of a script holds of each parsed one.
use Rattle.std.proofs.Common.{◌≤◌, length}
use Rattle.std.specs.List.{All}
use Rattle.cg_script.specs.declared.item.Script.{Script}
use Rattle.cg_script.specs.Texts.{TextsAreKnown}
use Rattle.cg_script.specs.ReadScripts.{WasRead}
use Rattle.cg_script.proofs.EachLine.{known_texts}
use Rattle.cg_script.proofs.SpelledScripts.{short_texts}

-- it uses its own texts
pub read_known : (script : Script) → WasRead script → TextsAreKnown script
read_known script (bytes, spelled) = known_texts bytes script.names script.items spelled

-- none of which is long
pub read_short : (script : Script) → WasRead script → All (λ text. length text ≤ 1024) script.names
read_short script (bytes, spelled) = short_texts bytes script spelled
