use Rattle.vme_standings.proofs.GrantOthers.{cleared_by, cleared_covers}
use Rattle.vme_standings.proofs.grant_laws.bus_clear_falls_and_rises.Goals as goal

pub returns : goal.returns
returns c = record {
  by = λ version p pins h e v old ok legal s is covers. cleared_by version p ok pins h e v legal s old covers is;
  covered = λ version p pins h e v requests old new ok legal s is asked covers exact. cleared_covers version p ok pins h e v legal s old covers is requests asked new exact;
}
