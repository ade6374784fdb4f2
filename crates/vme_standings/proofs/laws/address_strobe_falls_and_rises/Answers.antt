use Rattle.std.proofs.Common.{◌≡◌, true}
use Rattle.vme_model.specs.declared.signals.Driver.TheVariants.{Slot}
use Rattle.vme_model.specs.declared.signals.Wire.TheVariants.{Bbsy, AddressStrobe}
use Rattle.vme_model.specs.History.{drive}
use Rattle.vme_captures.specs.declared.signals.Line.TheVariants as line
use Rattle.vme_captures.specs.declared.signals.Signal.TheVariants as signal
use Rattle.vme_standings.proofs.WhoDrives.{fall_by, fall_leaves, rise_leaves, rise_by, fell, rose, holds_bus}
use Rattle.vme_standings.proofs.SeenLines.{differs, way}
use Rattle.vme_standings.proofs.laws.address_strobe_falls_and_rises.Goals as goal

pub returns : goal.returns
returns c = record {
  holder = λ version p pins h e v ok legal s is fall.
      let l = fell version p ok h e legal AddressStrobe (differs p ok pins h e v s (signal.Line line.AddressStrobe) is) (way p ok pins h e v s _ fall) in
      fall_by version p ok h e legal AddressStrobe (λ s. drive h (Slot s) Bbsy ≡ true) l.0 l.1 (holds_bus version p ok pins h e legal);
  falls = λ version p pins h e v new ok legal s is fall among.
      let l = fell version p ok h e legal AddressStrobe (differs p ok pins h e v s (signal.Line line.AddressStrobe) is) (way p ok pins h e v s _ fall) in
      fall_leaves version p ok h e legal AddressStrobe new l.0 among;
  by = λ version p pins h e v old ok legal s is fall covers.
      let l = rose version p ok h e legal AddressStrobe (differs p ok pins h e v s (signal.Line line.AddressStrobe) is) (way p ok pins h e v s _ fall) in
      rise_by version p ok h e legal AddressStrobe old l.0 l.1 covers;
  rises = λ version p pins h e v new ok legal s is fall.
      let l = rose version p ok h e legal AddressStrobe (differs p ok pins h e v s (signal.Line line.AddressStrobe) is) (way p ok pins h e v s _ fall) in
      rise_leaves version p ok h e legal AddressStrobe new l.1;
}
