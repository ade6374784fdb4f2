use Rattle.vme_standings.proofs.GrantOthers.{strobed_by, strobed_covers}
use Rattle.vme_standings.proofs.grant_laws.address_strobe_falls.Goals as goal

pub returns : goal.returns
returns c = record {
  by = λ version p pins h e v old ok legal s is fall covers. strobed_by version p ok pins h e v legal s old covers is fall;
  covered = λ version p pins h e v boards old new ok legal s is fall covers among exact. strobed_covers version p ok pins h e v legal s old covers is fall boards among new exact;
}
