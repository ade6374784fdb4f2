use Rattle.vme_standings.proofs.FrontSeen.{rises, segment_by, segment_rises}
use Rattle.vme_standings.proofs.front_laws.acknowledge_segment_rises.Goals as goal

pub returns : goal.returns
returns c = record {
  by = λ version p pins h e v q place ok legal s is wire fall. segment_by version p ok pins h e v legal s q place is wire;
  high = λ version p pins h e v q place ok legal s is wire fall.
      segment_rises version p ok h e legal (rises version p ok pins h e v legal s fall) place (segment_by version p ok pins h e v legal s q place is wire);
}
