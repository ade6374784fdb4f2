use Rattle.std.proofs.Common.{refl}
use Rattle.vme_standings.proofs.GrantRows.{segment_by, grant_able, grant_covers}
use Rattle.vme_standings.proofs.grant_laws.grant_begins.Goals as goal

pub returns : goal.returns
returns c = record {
  by = λ version p pins h e v q c ok legal s is few wire fall. segment_by version p ok pins h e v legal s q c 0 few is wire;
  able = λ version p pins h e v q c requests old ok legal s is few wire fall asked covers. grant_able version p ok pins h e v legal s q c 0 few is wire old covers fall refl requests asked;
  covered = λ version p pins h e v q c requests old new ok legal s is few wire fall asked covers exact.
      grant_covers version p ok pins h e v legal s q c 0 few is wire old covers fall refl requests asked new exact;
}
