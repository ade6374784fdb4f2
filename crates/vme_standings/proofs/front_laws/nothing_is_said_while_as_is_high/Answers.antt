use Rattle.vme_standings.proofs.FrontLaws.{beginning_covers, high_covers}
use Rattle.vme_standings.proofs.front_laws.nothing_is_said_while_as_is_high.Goals as goal

pub returns : goal.returns
returns c = record {
  power_up = λ p new ok. beginning_covers p new ok;
  high = λ p h new high. high_covers p h new high;
}
