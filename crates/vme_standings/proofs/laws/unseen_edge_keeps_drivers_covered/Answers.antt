use Rattle.vme_standings.proofs.WhoDrives.{unseen_addressers, unseen_answerers}
use Rattle.vme_standings.proofs.laws.unseen_edge_keeps_drivers_covered.Goals as goal

pub returns : goal.returns
returns c = record {
  strobe = λ version p pins h e old ok legal none covers. unseen_addressers version p ok pins h e legal old none covers;
  answer = λ version p pins h e old ok legal none covers. unseen_answerers version p ok pins h e legal old none covers;
}
