use Rattle.vme_standings.proofs.RequestLaws.{fall_by, fall_keeps}
use Rattle.vme_standings.proofs.laws.interrupt_line_falls.Goals as goal

pub returns : goal.returns
returns c = record {
  by = λ version p pins h e v n boards old ok legal s is fall held covers. fall_by version p pins h e v old old ok legal s covers n boards held is fall;
  covered = λ version p pins h e v n boards old new ok legal s is fall held covers f. fall_keeps version p pins h e v old new ok legal s covers n boards held is fall f;
}
