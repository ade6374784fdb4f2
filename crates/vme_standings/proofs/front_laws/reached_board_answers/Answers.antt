use Rattle.vme_standings.proofs.FrontSeen.{answer_asked, answer_by, answer_keeps}
use Rattle.vme_standings.proofs.front_laws.reached_board_answers.Goals as goal

pub returns : goal.returns
returns c = record {
  asked = λ version p pins h e v n ok legal s is fall shows. answer_asked version p ok pins h e v legal s is fall n shows;
  by = λ version p pins h e v n old ok legal s is fall shows covers. answer_by version p ok pins h e v legal s is fall n shows old covers;
  covered = λ version p pins h e v n old new ok legal s is fall shows among covers. answer_keeps version p ok pins h e v legal s is fall n shows old covers new among;
}
