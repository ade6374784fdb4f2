use Rattle.vme_standings.proofs.FrontSeen.{error_asked, error_by, error_at_end, error_keeps}
use Rattle.vme_standings.proofs.front_laws.unanswered_acknowledge_ends.Goals as goal

pub returns : goal.returns
returns c = record {
  by = λ version p pins h e v ok legal s is fall. error_by version p ok pins h e v legal s is;
  asked = λ version p pins h e v n ok legal s is fall shows. error_asked version p ok pins h e v legal s is fall n shows;
  at_end = λ version p pins h e v n old ok legal s is fall shows covers. error_at_end version p ok pins h e v legal s is fall n shows old covers;
  covered = λ version p pins h e v n old new ok legal s is fall shows ends covers. error_keeps version p ok pins h e v legal s is fall n shows old covers new ends;
}
