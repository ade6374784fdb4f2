use Rattle.vme_standings.proofs.RequestLaws.{acknowledge_by, acknowledge_keeps}
use Rattle.vme_standings.proofs.laws.acknowledge_is_answered.Goals as goal

pub returns : goal.returns
returns c = record {
  by = λ version p pins h e v n old ok legal s is fall shows covers. acknowledge_by version p pins h e v old old ok legal s covers is fall n shows;
  covered = λ version p pins h e v n roak answering old new ok legal s is fall shows held among covers a.
      acknowledge_keeps version p pins h e v old new ok legal s covers is fall n shows roak answering held among a;
}
