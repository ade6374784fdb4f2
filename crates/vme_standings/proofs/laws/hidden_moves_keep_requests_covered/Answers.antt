use Rattle.vme_standings.proofs.RequestLaws.{hidden_covers, hidden_has}
use Rattle.vme_standings.proofs.laws.hidden_moves_keep_requests_covered.Goals as goal

pub returns : goal.returns
returns c = record {
  covered = λ p h low shared old new ok lows shares m covers. hidden_covers p ok h low shared old new m lows shares covers;
  hidden = λ p h low shared old new ok lows shares m. hidden_has p ok h low shared old new m lows shares;
}
