-- When something is named that stands in the way of whoever may not have made a change.
use Rattle.std.specs.Prelude.{◌≡◌, ◌<◌, ℕ, Bool, true, false, is_some}
use Rattle.vme_model.specs.declared.signals.Driver.{Driver}
use Rattle.vme_model.specs.declared.signals.Driver.TheVariants.{Controller, Slot}
use Rattle.vme_model.specs.declared.signals.Version.{Version}
use Rattle.vme_model.specs.Plan.{Plan}
use Rattle.vme_bus.specs.Sets.{has}
use Rattle.vme_captures.specs.declared.signals.Change.{Change}
use Rattle.vme_standings.specs.declared.standings.Drivers.{Drivers}
use Rattle.vme_standings.specs.declared.standings.Standings.{Standings}
use Rattle.vme_captures.specs.declared.signals.Signal.{Signal}
use Rattle.vme_captures.specs.declared.signals.Signal.TheVariants as signal
use Rattle.vme_captures.specs.declared.signals.Line.TheVariants as line
use Rattle.vme_standings.specs.Driving.{is_left_low}
use Rattle.vme_standings.specs.Requests.{is_interrupter}
use Rattle.vme_standings.specs.Slots.{EachSlot}
use Rattle.vme_standings.specs.Moving.{moved_by}
use Rattle.vme_standings.specs.Standings.{controller_drives, drives}
use Rattle.vme_probe.specs.Conditions.{obstacle}

-- a condition of the change is named for the driver
abbrev pub is_hindered : Plan → Version → Standings → Change → Driver → Bool
is_hindered p version st c d = is_some (obstacle p version st c d)

-- So it is for each that has the line of the change, or drives its wire, and is none of those that
-- may have made it.
pub record AreOthersHindered (p : Plan) (version : Version) (st : Standings) (c : Change)
    (may : Drivers) : Type 0 where
  pub controller : controller_drives (moved_by p c.signal) ≡ true → may.controller ≡ false
      → is_hindered p version st c Controller ≡ true
  pub boards : (s : ℕ) → drives p (moved_by p c.signal) s ≡ true → has may.boards s ≡ false
      → is_hindered p version st c (Slot s) ≡ true

-- What is known of a cycle fits together: DS* is low, and a board may drive AS*, only while a cycle
-- is shown. The low segments of the acknowledge chain end at one that the chain has, and none that
-- is probed lies beyond the last slot.
pub record FitsTogether (p : Plan) (st : Standings) : Type 0 where
  pub strobed : is_left_low st line.DataStrobe ≡ true → is_some st.shown ≡ true
  pub addressed : (s : ℕ) → has st.addressers s ≡ true → is_some st.shown ≡ true
  pub ends : EachSlot (λ s. has st.fronts.ends s ≡ true → is_interrupter p s ≡ true)
  pub segments : (s : ℕ) → has st.low.acknowledge s ≡ true → s < 22

-- a shared line, other than BBSY*
abbrev pub is_line_but_busy : Signal → Bool
is_line_but_busy (signal.Line line.Bbsy) = false
is_line_but_busy (signal.Line l) = true
is_line_but_busy (signal.Pin q) = false

-- BRn*, or IRQn*
abbrev pub is_of_requests : Signal → Bool
is_of_requests (signal.Line (line.Br n)) = true
is_of_requests (signal.Line (line.Irq n)) = true
is_of_requests _ = false

-- AS*, DS*, DTACK* or BERR*
abbrev pub is_of_a_cycle : Signal → Bool
is_of_a_cycle (signal.Line line.AddressStrobe) = true
is_of_a_cycle (signal.Line line.DataStrobe) = true
is_of_a_cycle (signal.Line line.Dtack) = true
is_of_a_cycle (signal.Line line.Berr) = true
is_of_a_cycle _ = false
