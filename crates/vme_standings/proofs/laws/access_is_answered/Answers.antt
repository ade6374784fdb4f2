use Rattle.vme_standings.proofs.RequestLaws.{access_by, access_keeps, any_access_keeps}
use Rattle.vme_standings.proofs.laws.access_is_answered.Goals as goal

pub returns : goal.returns
returns c = record {
  by = λ version p pins h e v slot old ok legal s is fall shows covers. access_by version p pins h e v old old ok legal s covers is fall slot shows;
  covered = λ version p pins h e v slot rora old new ok legal s is fall shows held covers a. access_keeps version p pins h e v old new ok legal s covers is fall slot shows rora held a;
  unknown = λ version p pins h e v slot rora old new ok legal s is fall shows held covers a. any_access_keeps version p pins h e v old new ok legal s covers is fall slot shows rora held a;
}
