use Rattle.std.proofs.Common.{refl}
use Rattle.vme_standings.proofs.GrantRows.{grant_able, grant_covers, pass_able, pass_covers, rise_covers, segment_by}
use Rattle.vme_standings.proofs.grant_laws.grant_segment_falls_and_rises.Goals as goal

pub returns : goal.returns
returns c = record {
  by = λ version p pins h e v q l t ok legal s is few wire. segment_by version p ok pins h e v legal s q l t few is wire;
  granted = λ version p pins h e v q l requests old ok legal s is few wire fall asked covers. grant_able version p ok pins h e v legal s q l 0 few is wire old covers fall refl requests asked;
  begins = λ version p pins h e v q l requests old new ok legal s is few wire fall asked covers exact.
      grant_covers version p ok pins h e v legal s q l 0 few is wire old covers fall refl requests asked new exact;
  passed = λ version p pins h e v q l t old ok legal s is few from wire fall covers. pass_able version p ok pins h e v legal s q l t few is wire old covers fall from;
  passes = λ version p pins h e v q l t old new ok legal s is few from wire fall covers exact. pass_covers version p ok pins h e v legal s q l t few is wire old covers fall from new exact;
  rises = λ version p pins h e v q l t old new ok legal s is few wire fall covers exact. rise_covers version p ok pins h e v legal s q l t few is wire old covers fall new exact;
}
