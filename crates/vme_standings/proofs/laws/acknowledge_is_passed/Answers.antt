use Rattle.vme_standings.proofs.RequestPasses.{can_pass, pass_keeps}
use Rattle.vme_standings.proofs.laws.acknowledge_is_passed.Goals as goal

pub returns : goal.returns
returns c = record {
  able = λ version p h e s n boards old ok legal driver wire way shows on held covers. can_pass version p h e s n old ok legal driver wire way shows on covers boards held;
  covered = λ version p h e s n boards low old new ok legal driver wire way shows on covers m. pass_keeps version p h e s n old ok legal driver wire way shows on covers boards low new m;
}
