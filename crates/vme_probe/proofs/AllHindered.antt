-- Whoever may not have made a change has a condition that is named, whatever the change is: `hindered_laws`.
use Rattle.std.proofs.Common.{◌≡◌, Bool, true, false, not, refl}
use Rattle.vme_model.specs.Accepted.{IsAccepted}
use Rattle.vme_model.specs.Plan.{Plan}
use Rattle.vme_captures.specs.declared.signals.Change.{Change}
use Rattle.vme_captures.specs.declared.signals.Line.{Line}
use Rattle.vme_captures.specs.declared.signals.Line.TheVariants as line
use Rattle.vme_captures.specs.declared.signals.Signal.{Signal}
use Rattle.vme_captures.specs.declared.signals.Signal.TheVariants as signal
use Rattle.vme_captures.specs.Signals.{is_change}
use Rattle.vme_standings.specs.declared.standings.Drivers.{Drivers}
use Rattle.vme_standings.specs.declared.standings.Probed.{Probed}
use Rattle.vme_standings.specs.declared.standings.Standings.{Standings}
use Rattle.vme_standings.specs.Driving.{AreDrivers}
use Rattle.vme_probe.specs.ChainsFit.{AllFits, IsSeen, is_grant_chain, is_of_acknowledge, is_of_grants}
use Rattle.vme_probe.specs.Hindered.{AreOthersHindered, is_line_but_busy, is_of_a_cycle, is_of_requests}
use Rattle.vme_probe.proofs.Acknowledging.{acknowledges_hindered}
use Rattle.vme_probe.proofs.Cycling.{cycles_hindered}
use Rattle.vme_probe.proofs.Granting.{busy_hindered, clear_hindered, grants_hindered}
use Rattle.vme_probe.proofs.Requesting.{requests_hindered}
use Rattle.vme_probe.proofs.Rising.{rises_hindered}

module _ (p : Plan) (probed : Probed) (st : Standings) (c : Change) (may : Drivers) (ok : IsAccepted p) (who : AreDrivers p probed st c may) (fits : AllFits p probed st) (seen : IsSeen p probed st c)
    (change : is_change c ≡ true) where
  a_request : is_of_requests c.signal ≡ true → c.fall ≡ true → AreOthersHindered p probed.version st c may
  a_request is fall = requests_hindered p probed st c may ok who fall is

  a_cycle : is_of_a_cycle c.signal ≡ true → c.fall ≡ true → AreOthersHindered p probed.version st c may
  a_cycle is fall = cycles_hindered p probed st c may ok who fits.cycle change fall is

  a_rise : is_line_but_busy c.signal ≡ true → c.fall ≡ false → AreOthersHindered p probed.version st c may
  a_rise is rise = rises_hindered p probed st c may ok who rise is

  by_line : (l : Line) → c.signal ≡ signal.Line l → (fall : Bool) → c.fall ≡ fall → AreOthersHindered p probed.version st c may
  by_line line.Bbsy on fall way = busy_hindered p probed st c may ok who fits.grants seen on
  by_line line.Bclr on true way = clear_hindered p probed st c may ok who fits.grants way on
  by_line (line.Br n) on true way = a_request (rw on refl) way
  by_line (line.Irq n) on true way = a_request (rw on refl) way
  by_line line.AddressStrobe on true way = a_cycle (rw on refl) way
  by_line line.DataStrobe on true way = a_cycle (rw on refl) way
  by_line line.Dtack on true way = a_cycle (rw on refl) way
  by_line line.Berr on true way = a_cycle (rw on refl) way
  by_line line.Bclr on false way = a_rise (rw on refl) way
  by_line (line.Br n) on false way = a_rise (rw on refl) way
  by_line (line.Irq n) on false way = a_rise (rw on refl) way
  by_line line.AddressStrobe on false way = a_rise (rw on refl) way
  by_line line.DataStrobe on false way = a_rise (rw on refl) way
  by_line line.Dtack on false way = a_rise (rw on refl) way
  by_line line.Berr on false way = a_rise (rw on refl) way

  by_chain : (b : Bool) → (is_of_grants c.signal ≡ b) → (is_of_acknowledge c.signal ≡ not b) → AreOthersHindered p probed.version st c may
  by_chain true is other = grants_hindered p probed st c may ok who fits.grants seen is
  by_chain false other is = acknowledges_hindered p probed st c may ok who fits.cycle fits.acknowledge seen is

  by_signal : (x : Signal) → c.signal ≡ x → AreOthersHindered p probed.version st c may
  by_signal (signal.Line l) on = by_line l on c.fall refl
  by_signal (signal.Pin q) on = by_chain (is_grant_chain q.chain) (rw on refl) (rw on refl)

pub all_hindered : (p : Plan) (probed : Probed) (st : Standings) (c : Change) (may : Drivers) → IsAccepted p → AreDrivers p probed st c may → AllFits p probed st
    → IsSeen p probed st c → is_change c ≡ true → AreOthersHindered p probed.version st c may
all_hindered p probed st c may ok who fits seen change = by_signal p probed st c may ok who fits seen change c.signal refl
