use Rattle.vme_standings.proofs.GrantRows.{segment_by, pass_able, pass_covers}
use Rattle.vme_standings.proofs.grant_laws.grant_is_passed.Goals as goal

pub returns : goal.returns
returns c = record {
  by = λ version p pins h e v q c t ok legal s is few from wire fall. segment_by version p ok pins h e v legal s q c t few is wire;
  able = λ version p pins h e v q c t old ok legal s is few from wire fall covers. pass_able version p ok pins h e v legal s q c t few is wire old covers fall from;
  covered = λ version p pins h e v q c t old new ok legal s is few from wire fall covers exact. pass_covers version p ok pins h e v legal s q c t few is wire old covers fall from new exact;
}
