-- What an edge makes of the numbers of a state.
use Rattle.std.specs.Prelude.{◌≡◌, ◌+◌, ◌==◌, ◌&&◌, ◌||◌, ℕ, Bool, true, false, not, if◌then◌else◌, Option, nat_lt}
use Rattle.std.specs.Option.{option_map_or}
use Rattle.vme_model.specs.declared.boards.Row.{Row}
use Rattle.vme_model.specs.declared.boards.Release.{Release}
use Rattle.vme_model.specs.declared.boards.Release.TheVariants.{Request}
use Rattle.vme_model.specs.declared.signals.Cycle.{Cycle}
use Rattle.vme_model.specs.declared.signals.Wire.{Wire}
use Rattle.vme_model.specs.declared.signals.Wire.TheVariants.{Bbsy, Addr, AddressStrobe, DataStrobe, Irq, Dtack}
use Rattle.vme_model.specs.declared.signals.Edge.{Edge}
use Rattle.vme_model.specs.Signals.{is_same_wire, is_grant, is_grant_wire, grant_level}
use Rattle.vme_master.specs.Local.{most_cycles}
use Rattle.vme_interrupter.specs.Local.{serves_board}
use Rattle.vme_bus.specs.declared.sets.SlotSet.{SlotSet}
use Rattle.vme_bus.specs.Sets.{has}
use Rattle.vme_bus.specs.Layouts.{grant_head}

-- one place of a set moves
abbrev pub MovesPlace : (Bool → Bool) → ℕ → SlotSet → SlotSet → Type 0
MovesPlace f place old new = (s : ℕ) → has new s ≡ (if place == s then f (has old s) else has old s)

-- some slots of a set move
abbrev pub MovesSlots : (Bool → Bool) → SlotSet → SlotSet → SlotSet → Type 0
MovesSlots f slots old new =
    (s : ℕ) → has new s ≡ (if has slots s then f (has old s) else has old s)

-- the state of an own wire turns with an edge of it
abbrev pub turned_by : Wire → Wire → Bool → Bool
turned_by own wire low = if is_same_wire wire own then not low else low

abbrev pub FollowsWire : Wire → ℕ → Wire → SlotSet → SlotSet → Type 0
FollowsWire own place wire = MovesPlace (turned_by own wire) place

-- that of a grant, at the head of its level
abbrev pub grant_turned_by : Wire → Bool → Bool
grant_turned_by wire low =
    if is_grant_wire wire && nat_lt (grant_level wire) 4 then not low else low

abbrev pub FollowsGrants : Wire → SlotSet → SlotSet → Type 0
FollowsGrants wire = MovesPlace (grant_turned_by wire) (grant_head (grant_level wire))

-- whether a board was served, by whether its answer would serve it
abbrev pub served_by : Wire → Bool → Bool → Bool → Bool
served_by Irq true serves served = false
served_by Dtack true serves served = serves || served
served_by _ _ serves served = served

-- whether its cycle had its data strobe
abbrev pub strobed_by : Wire → Bool → Bool → Bool
strobed_by AddressStrobe true strobed = false
strobed_by DataStrobe true strobed = true
strobed_by _ _ strobed = strobed

-- the cycles of its tenure, as far as they count
abbrev pub cycles_by : Wire → Bool → Release → ℕ → ℕ
cycles_by Bbsy true release cycles = 0
cycles_by AddressStrobe true release cycles =
    if nat_lt cycles (most_cycles release) then cycles + 1 else cycles
cycles_by _ _ release cycles = cycles

-- what is shown
abbrev pub shown_by : Wire → Option Cycle → Option Cycle → Option Cycle
shown_by Addr value shown = value
shown_by _ value shown = shown

-- the level last granted
abbrev pub last_level_by : Edge → ℕ → ℕ
last_level_by e last = if is_grant e then grant_level e.wire else last

-- the board's answer to what is shown serves its interrupter
abbrev pub is_serving : Option Row → Option Cycle → Bool
is_serving o shown = option_map_or (λ r. serves_board r.interrupter shown) o false

-- when the board's requester gives up the bus; without one no cycle counts
abbrev pub release_of : Option Row → Release
release_of o =
    option_map_or (λ r. option_map_or (λ q. q.release) r.requester Request) o Request
