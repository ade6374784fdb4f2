use Rattle.vme_standings.proofs.FrontSeen.{falls, segment_by, segment_asked, segment_able, segment_covers}
use Rattle.vme_standings.proofs.front_laws.acknowledge_segment_falls.Goals as goal

pub returns : goal.returns
returns c = record {
  by = λ version p pins h e v q place ok legal s is wire fall. segment_by version p ok pins h e v legal s q place is wire;
  asked = λ version p pins h e v q place ok legal s is wire fall.
      segment_asked version p ok h e legal (falls version p ok pins h e v legal s fall) place (segment_by version p ok pins h e v legal s q place is wire);
  able = λ version p pins h e v q place old ok legal s is wire fall covers.
      segment_able version p ok h e legal (falls version p ok pins h e v legal s fall) old covers place (segment_by version p ok pins h e v legal s q place is wire);
  covered = λ version p pins h e v q place old new ok legal s is wire fall covers ends.
      segment_covers version p ok h e legal (falls version p ok pins h e v legal s fall) old covers new place (segment_by version p ok pins h e v legal s q place is wire) ends.here;
}
