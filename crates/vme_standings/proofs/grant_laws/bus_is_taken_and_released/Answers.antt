use Rattle.vme_standings.proofs.GrantSeen.{released_by, released_covers, taken_by, taken_covers}
use Rattle.vme_standings.proofs.grant_laws.bus_is_taken_and_released.Goals as goal

pub returns : goal.returns
returns c = record {
  taken_by = λ version p pins h e v requests old ok legal s is fall asked covers. taken_by version p ok pins h e v legal s requests asked old covers is fall;
  taken = λ version p pins h e v requests old new ok legal s is fall asked covers exact. taken_covers version p ok pins h e v legal s requests asked old covers is fall new exact;
  released_by = λ version p pins h e v requests old ok legal s is fall asked covers. released_by version p ok pins h e v legal s requests asked old covers is fall;
  released = λ version p pins h e v requests old new ok legal s is fall asked covers exact. released_covers version p ok pins h e v legal s requests asked old covers is fall new exact;
}
