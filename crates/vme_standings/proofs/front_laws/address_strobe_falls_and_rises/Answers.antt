use Rattle.vme_standings.proofs.FrontSeen.{strobe_clear, strobe_falls, strobe_rises}
use Rattle.vme_standings.proofs.front_laws.address_strobe_falls_and_rises.Goals as goal

pub returns : goal.returns
returns c = record {
  clear = λ version p pins h e v ok legal s is fall. strobe_clear version p ok pins h e v legal s is fall;
  falls = λ version p pins h e v new ok legal s is fall waits. strobe_falls version p ok pins h e v legal s new is fall waits;
  rises = λ version p pins h e v new ok legal s is fall. strobe_rises version p ok pins h e v legal s new is fall;
}
