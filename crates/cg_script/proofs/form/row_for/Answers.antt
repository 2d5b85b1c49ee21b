use Rattle.std.proofs.Common.{ap}
use Rattle.cg_script.proofs.form.row_for.Goals as goal

pub returns : goal.returns
returns c = record {
  word = ap (λ r. r.word) c.listed_row.ensures;
  reserved = ap (λ r. r.reserved) c.listed_row.ensures;
  places = ap (λ r. r.places) c.listed_row.ensures;
  fewest = ap (λ r. r.fewest) c.listed_row.ensures;
  most = ap (λ r. r.most) c.listed_row.ensures;
}
