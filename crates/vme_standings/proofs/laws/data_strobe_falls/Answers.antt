use Rattle.std.proofs.Common.{◌≡◌, true}
use Rattle.vme_model.specs.declared.signals.Wire.TheVariants.{DataStrobe}
use Rattle.vme_bus.specs.Sets.{has}
use Rattle.vme_captures.specs.declared.signals.Line.TheVariants as line
use Rattle.vme_captures.specs.declared.signals.Signal.TheVariants as signal
use Rattle.vme_standings.proofs.WhoDrives.{fall_by, fell, strobes}
use Rattle.vme_standings.proofs.SeenLines.{differs, way}
use Rattle.vme_standings.proofs.laws.data_strobe_falls.Goals as goal

pub returns : goal.returns
returns c = λ version p pins h e v old ok legal s is fall covers.
    let l = fell version p ok h e legal DataStrobe (differs p ok pins h e v s (signal.Line line.DataStrobe) is) (way p ok pins h e v s _ fall) in
    fall_by version p ok h e legal DataStrobe (λ s. has old s ≡ true) l.0 l.1 (strobes version p ok pins h e legal old covers)
