-- What is written at the end of a capture: how the bus stands, and what may come next.
use Rattle.std.specs.Prelude.{◌≡◌, ◌+◌, ◌<◌, ◌&&◌, ◌||◌, not, ◌++◌, ◌∷◌, [], if◌then◌else◌, ℕ, zero, suc, Bool, true, List, Option, Some, None}
use Rattle.std.specs.List.{list_all}
use Rattle.std.specs.Option.{option_map_or}
use Rattle.vme_model.specs.declared.sets.ChainId.{ChainId}
use Rattle.vme_model.specs.declared.sets.ChainId.TheVariants.{Bg0, Bg1, Bg2, Bg3, Iack}
use Rattle.vme_model.specs.declared.signals.Cycle.TheVariants.{Acknowledge}
use Rattle.vme_model.specs.Plan.{Plan}
use Rattle.vme_model.specs.Signals.{is_slot}
use Rattle.vme_bus.specs.declared.sets.SlotSet.{SlotSet}
use Rattle.vme_bus.specs.Sets.{has}
use Rattle.vme_captures.specs.declared.reader.Probe.{Probe}
use Rattle.vme_captures.specs.declared.signals.Change.{Change}
use Rattle.vme_captures.specs.declared.signals.Line.{Line}
use Rattle.vme_captures.specs.declared.signals.Line.TheVariants as line
use Rattle.vme_captures.specs.declared.signals.Signal.TheVariants as signal
use Rattle.vme_captures.specs.declared.signals.Value.{Value}
use Rattle.vme_captures.specs.declared.signals.Value.TheVariants as value
use Rattle.vme_captures.specs.Levels.{is_line_left_low}
use Rattle.vme_standings.specs.declared.phases.GrantPhase.{GrantPhase}
use Rattle.vme_standings.specs.declared.phases.GrantPhase.TheVariants.{Granting, Held}
use Rattle.vme_standings.specs.declared.phases.GrantPhases.{GrantPhases}
use Rattle.vme_standings.specs.declared.requests.Request.TheVariants.{Pending, Served}
use Rattle.vme_standings.specs.declared.standings.Drivers.{Drivers}
use Rattle.vme_standings.specs.declared.standings.Probed.{Probed}
use Rattle.vme_standings.specs.declared.standings.Standings.{Standings}
use Rattle.vme_standings.specs.Cuts.{is_nowhere}
use Rattle.vme_standings.specs.Driving.{AreDrivers}
use Rattle.vme_standings.specs.GrantChains.{is_of_level, place_before}
use Rattle.vme_standings.specs.Phases.{has_phase, is_in_table}
use Rattle.vme_standings.specs.Requests.{is_on_level}
use Rattle.vme_standings.specs.RequestSets.{may_be}
use Rattle.vme_probe.specs.Lines.{cycle_line, grant_line, holder_line, low_line, may_come_line, places_text, possible_line}
use Rattle.vme_probe.specs.Pins.{probe_at, segment_at}

-- ---- how the bus stands

-- the boards that hold the bus in some phase
pub record AreHolders (phases : GrantPhases) (holders : SlotSet) : Type 0 where
  pub some : (b : ℕ) → has holders b ≡ true
      → (b < 22) × ((first : ℕ) × (has_phase phases (Held b first) ≡ true))
  pub all : (b first : ℕ) → b < 22 → has_phase phases (Held b first) ≡ true
      → has holders b ≡ true

-- in some phase no grant waits at a board
pub record IsNowhere (p : Plan) (phases : GrantPhases) (nowhere : Bool) : Type 0 where
  pub some : nowhere ≡ true → (q : GrantPhase) × (has_phase phases q ≡ true)
      × (is_nowhere p q ≡ true)
  pub all : (q : GrantPhase) → is_in_table q ≡ true → has_phase phases q ≡ true
      → is_nowhere p q ≡ true → nowhere ≡ true

-- in some phase a grant of the level waits at the board in the slot
abbrev pub waits_at : Plan → GrantPhases → ℕ → ℕ → Bool
waits_at p phases c s = is_of_level p c s && has_phase phases (Granting c (place_before p c s))

-- the line of a line, if it is low, with those of the boards that pass the test
abbrev pub pulled_line : Standings → Line → (ℕ → Bool) → List ℕ
pulled_line st l pulls = low_line (is_line_left_low st.lines l) l pulls

-- the boards that may pull the interrupt line of a level
abbrev pub may_pull : Plan → Standings → ℕ → ℕ → Bool
may_pull p st n s =
    is_on_level p n s && (may_be st.requests s Pending || may_be st.requests s Served)

-- the lines of BR0* and so on, so many
abbrev pub br_lines : Plan → Standings → ℕ → List ℕ
br_lines p st zero = []
br_lines p st (suc n) = br_lines p st n ++ pulled_line st (line.Br n) (is_of_level p n)

-- the lines of IRQ1* and so on, so many
abbrev pub irq_lines : Plan → Standings → ℕ → List ℕ
irq_lines p st zero = []
irq_lines p st (suc n) =
    irq_lines p st n ++ pulled_line st (line.Irq (n + 1)) (may_pull p st (n + 1))

unfoldable pub request_lines : Plan → Standings → List ℕ
request_lines p st = br_lines p st 4

unfoldable pub interrupt_lines : Plan → Standings → List ℕ
interrupt_lines p st = irq_lines p st 7

abbrev pub standing_text : Plan → Standings → SlotSet → List ℕ → ℕ → List ℕ
standing_text p st holders places changes =
    ((((possible_line changes ++ holder_line (has holders)) ++ grant_line places)
    ++ cycle_line st.shown (has st.addressers)) ++ request_lines p st) ++ interrupt_lines p st

-- ---- the changes that the levels allow

-- a line goes to the other level
abbrev pub next_of : Standings → Line → Change
next_of st l =
    record { signal = signal.Line l; fall = not (is_line_left_low st.lines l); value = None }

-- BR0* and so on, so many
abbrev pub next_brs : Standings → ℕ → List Change
next_brs st zero = []
next_brs st (suc n) = next_brs st n ++ next_of st (line.Br n) ∷ []

-- IRQ1* and so on, so many
abbrev pub next_irqs : Standings → ℕ → List Change
next_irqs st zero = []
next_irqs st (suc n) = next_irqs st n ++ next_of st (line.Irq (n + 1)) ∷ []

abbrev pub strobe_fall : Value → Change
strobe_fall v =
    record { signal = signal.Line line.AddressStrobe; fall = true; value = Some v }

-- falls of AS* with acknowledges of level 1 and so on, so many
abbrev pub next_acknowledges : ℕ → List Change
next_acknowledges zero = []
next_acknowledges (suc n) =
    next_acknowledges n ++ strobe_fall (value.Shown (Acknowledge (n + 1))) ∷ []

-- falls of AS* with any cycle: of an access the slot is not said
unfoldable pub next_cycles : List Change
next_cycles = next_acknowledges 7 ++ strobe_fall value.Access ∷ []

abbrev pub next_strobes : Standings → List Change
next_strobes st =
    if is_line_left_low st.lines line.AddressStrobe then next_of st line.AddressStrobe ∷ []
    else next_cycles

-- a probed pin goes to the other level
abbrev pub next_of_probe : Option Probe → List Change
next_of_probe None = []
next_of_probe (Some r) =
    record { signal = signal.Pin r.pin; fall = not r.low; value = None } ∷ []

-- the pins on the first segments of a chain, so many
abbrev pub pins_below : List Probe → ChainId → ℕ → List Change
pins_below probes c zero = []
pins_below probes c (suc s) =
    pins_below probes c s ++ next_of_probe (probe_at probes (segment_at c s))

unfoldable pub next_pins : List Probe → ChainId → List Change
next_pins probes c = pins_below probes c 22

unfoldable pub next_requests : Standings → List Change
next_requests st = next_brs st 4

unfoldable pub next_interrupts : Standings → List Change
next_interrupts st = next_irqs st 7

abbrev pub next_lines : Standings → List Change
next_lines st =
    ((((((next_requests st ++ next_interrupts st) ++ next_of st line.Bbsy ∷ [])
    ++ next_strobes st) ++ next_of st line.DataStrobe ∷ []) ++ next_of st line.Dtack ∷ [])
    ++ next_of st line.Berr ∷ []) ++ next_of st line.Bclr ∷ []

-- by line, then by chain, from the controller's end
abbrev pub next_changes : Standings → List Probe → List Change
next_changes st probes =
    ((((next_lines st ++ next_pins probes Bg0) ++ next_pins probes Bg1) ++ next_pins probes Bg2)
    ++ next_pins probes Bg3) ++ next_pins probes Iack

-- ---- those of them that may come

-- a line for each of these changes that somebody may make
abbrev pub Coming : Plan → Probed → Standings → List Change → List ℕ → Type 0
Coming p probed st [] text = text ≡ []
Coming p probed st (c ∷ cs) text =
    (d : Drivers) × (others : List ℕ) × AreDrivers p probed st c d
    × Coming p probed st cs others × (text ≡ may_come_line c d ++ others)

-- these lines are appended
pub record AddsComing (p : Plan) (probed : Probed) (st : Standings) (cs : List Change)
    (old new : List ℕ) : Type 0 where
  pub text : List ℕ
  pub added : new ≡ old ++ text
  pub coming : Coming p probed st cs text

-- ---- all of it

-- the places at which a grant may stand
pub record IsPlaces (p : Plan) (phases : GrantPhases) (text : List ℕ) : Type 0 where
  pub nowhere : Bool
  pub nowhere_is : IsNowhere p phases nowhere
  pub is : text ≡ places_text nowhere (waits_at p phases)

-- how the bus stands behind so many changes
pub record IsStanding (p : Plan) (st : Standings) (changes : ℕ) (text : List ℕ) : Type 0 where
  pub holders : SlotSet
  pub holders_are : AreHolders st.phases holders
  pub places : List ℕ
  pub places_are : IsPlaces p st.phases places
  pub is : text ≡ standing_text p st holders places changes

-- and what may come next, with these probes
pub record IsEnd (p : Plan) (probed : Probed) (st : Standings) (probes : List Probe) (changes : ℕ)
    (text : List ℕ) : Type 0 where
  pub standing : List ℕ
  pub stands : IsStanding p st changes standing
  pub adds : AddsComing p probed st (next_changes st probes) standing text

-- each pin is one of a slot that a backplane can have
abbrev pub is_probe : Option Probe → Bool
is_probe probe = option_map_or (λ r. is_slot r.pin.slot) probe true

abbrev pub are_slots : List Probe → Bool
are_slots probes = list_all (λ r. is_slot r.pin.slot) probes
