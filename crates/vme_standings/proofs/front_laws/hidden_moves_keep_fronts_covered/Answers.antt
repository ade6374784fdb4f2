use Rattle.vme_standings.proofs.FrontLaws.{hidden_covers, hidden_has}
use Rattle.vme_standings.proofs.front_laws.hidden_moves_keep_fronts_covered.Goals as goal

pub returns : goal.returns
returns c = record {
  covered = λ p h unseen passing old new ok m covers. hidden_covers p ok h unseen passing old new m covers;
  hidden = λ p pins h n unseen passing d old new ok shows free pass m. hidden_has p ok h unseen passing old new m pins n d shows free pass;
  idle = λ p pins h d old none. record {
    begins = λ n u free waits. absurd (none n u);
    passes = λ n s u on free may reached. absurd (none n u);
  };
}
