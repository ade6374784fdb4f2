use Rattle.vme_standings.proofs.PhaseSteps.{begins_idle}
use Rattle.vme_standings.proofs.GrantBegins.{phase_of, running_covers}
use Rattle.vme_standings.proofs.GrantHidden.{moves_cover, unseen_covers}
use Rattle.vme_standings.proofs.GrantOthers.{keeps}
use Rattle.vme_standings.proofs.grant_laws.grants_stay_covered.Goals as goal

pub returns : goal.returns
returns c = record {
  power_up = λ p. begins_idle p;
  phase = λ version p h ok legal. phase_of version p ok h legal;
  running = λ version p h requests probed low new ok legal asked show all. running_covers version p ok h legal requests asked probed low show new all;
  moves = λ version p h old new ok legal kept covers. moves_cover version p ok h legal old new kept covers;
  unseen = λ version p pins h e requests probed old ok legal none asked probes closed covers. unseen_covers version p ok pins h requests probed old asked probes closed covers e legal none;
  other = λ p h e old a b d covers. keeps p h e old a b d covers;
}
