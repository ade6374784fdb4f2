use Rattle.vme_standings.proofs.GrantRows.{segment_by, rise_covers}
use Rattle.vme_standings.proofs.grant_laws.grant_segment_rises.Goals as goal

pub returns : goal.returns
returns c = record {
  by = λ version p pins h e v q c t ok legal s is few wire fall. segment_by version p ok pins h e v legal s q c t few is wire;
  covered = λ version p pins h e v q c t old new ok legal s is few wire fall covers exact. rise_covers version p ok pins h e v legal s q c t few is wire old covers fall new exact;
}
