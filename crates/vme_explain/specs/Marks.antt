-- Where each number stands, and how a fall of a board's wire moves those of its board.
use Rattle.std.specs.Prelude.{◌+◌, ◌-◌, ◌*◌, ◌^◌, min, ℕ, if◌then◌else◌, Option, Some, None}
use Rattle.std.specs.Option.{option_or}
use Rattle.vme_model.specs.declared.boards.IrqKind.{IrqKind}
use Rattle.vme_model.specs.declared.signals.Driver.{Driver}
use Rattle.vme_model.specs.declared.signals.Wire.{Wire}
use Rattle.vme_model.specs.declared.signals.Wire.TheVariants.{Bbsy, AddressStrobe, DataStrobe, Irq, Dtack}
use Rattle.vme_model.specs.declared.signals.Cycle.{Cycle}
use Rattle.vme_model.specs.History.{serves}
use Rattle.vme_model.specs.Signals.{driver_number, wire_number}

abbrev pub place : Driver → Wire → ℕ
place d w = 16 * driver_number d + wire_number w

-- a board's `ds-` of its cycle after a fall of its wire, the n-th edge
abbrev pub strobe_after : Wire → ℕ → Option ℕ → Option ℕ
strobe_after AddressStrobe n before = None
strobe_after DataStrobe n before = Some n
strobe_after w n before = before

-- the answer that served its interrupter, if the fall was made while this was shown
abbrev pub served_after : IrqKind → Wire → ℕ → Option Cycle → Option ℕ → Option ℕ
served_after kind Irq n v before = None
served_after kind Dtack n v before = option_or before (if serves kind v then Some n else None)
served_after kind w n v before = before

-- how many cycles the board has begun in its tenure; a count stays at its greatest value
abbrev pub made_after : Wire → ℕ → ℕ
made_after Bbsy made = 0
made_after AddressStrobe made = min (made + 1) (2 ^ 64 - 1)
made_after w made = made
