use Rattle.vme_standings.proofs.GrantOthers.{asked_by, asked_covers}
use Rattle.vme_standings.proofs.grant_laws.request_line_falls.Goals as goal

pub returns : goal.returns
returns c = record {
  by = λ version p pins h e v n boards old ok legal s is fall askers covers. asked_by version p ok pins h e v legal s old covers n is fall boards askers;
  covered = λ version p pins h e v n boards old new ok legal s is fall askers covers behind. asked_covers version p ok pins h e v legal s old covers n is fall boards askers new behind;
}
