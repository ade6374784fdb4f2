use Rattle.vme_standings.proofs.GrantOthers.{asked_by, asked_covers, cleared_by, cleared_covers, strobed_by, strobed_covers, withdrawn_by, withdrawn_covers}
use Rattle.vme_standings.proofs.grant_laws.lines_tell_of_the_phase.Goals as goal

pub returns : goal.returns
returns c = record {
  asked_by = λ version p pins h e v n boards old ok legal s is fall askers covers. asked_by version p ok pins h e v legal s old covers n is fall boards askers;
  asked = λ version p pins h e v n boards old new ok legal s is fall askers covers behind. asked_covers version p ok pins h e v legal s old covers n is fall boards askers new behind;
  withdrawn_by = λ version p pins h e v n boards old ok legal s is fall from covers. withdrawn_by version p ok pins h e v legal s old covers n is fall boards from;
  withdrawn = λ version p pins h e v n old new ok legal s is fall covers exact. withdrawn_covers version p ok pins h e v legal s old covers n is fall new exact;
  shown_by = λ version p pins h e v old ok legal s is fall covers. strobed_by version p ok pins h e v legal s old covers is fall;
  shown = λ version p pins h e v boards old new ok legal s is fall covers among exact. strobed_covers version p ok pins h e v legal s old covers is fall boards among new exact;
  cleared_by = λ version p pins h e v ok legal s is. cleared_by version p ok pins h e v legal s is;
  cleared = λ version p pins h e v requests old new ok legal s is asked covers exact. cleared_covers version p ok pins h e v legal s old covers is requests asked new exact;
}
