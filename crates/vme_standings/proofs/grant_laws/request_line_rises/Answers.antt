use Rattle.vme_standings.proofs.GrantOthers.{withdrawn_by, withdrawn_covers}
use Rattle.vme_standings.proofs.grant_laws.request_line_rises.Goals as goal

pub returns : goal.returns
returns c = record {
  by = λ version p pins h e v n boards old ok legal s is fall from covers. withdrawn_by version p ok pins h e v legal s old covers n is fall boards from;
  covered = λ version p pins h e v n old new ok legal s is fall covers exact. withdrawn_covers version p ok pins h e v legal s old covers n is fall new exact;
}
