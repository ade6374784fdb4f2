use Rattle.vme_standings.proofs.GrantSeen.{taken_by, taken_covers}
use Rattle.vme_standings.proofs.grant_laws.bus_is_taken.Goals as goal

pub returns : goal.returns
returns c = record {
  by = λ version p pins h e v requests old ok legal s is fall asked covers. taken_by version p ok pins h e v legal s requests asked old covers is fall;
  covered = λ version p pins h e v requests old new ok legal s is fall asked covers exact. taken_covers version p ok pins h e v legal s requests asked old covers is fall new exact;
}
