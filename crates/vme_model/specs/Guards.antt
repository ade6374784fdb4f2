-- Guards as named conditions, and how a condition is spelled. (Profile.)
use Rattle.std.specs.Prelude.{◌&&◌, ◌||◌, ℕ, Bool, true, Option, Some, None, List, [], ◌∷◌, ◌++◌, if◌then◌else◌, codes}
use Rattle.vme_model.specs.declared.conditions.Condition.{Condition}
use Rattle.vme_model.specs.declared.conditions.Condition.TheVariants as condition
use Rattle.vme_model.specs.declared.conditions.Tested.{Tested}

infixl 30 ◌⊓◌
-- a guard: none, a condition by its name and whether it holds, two guards at once, or one that does
-- not bind if a test holds
pub data Guard : Type 0 where
  free : Guard
  asks : Condition → Bool → Guard
  ◌⊓◌ : Guard → Guard → Guard
  unless : Bool → Guard → Guard

-- all its conditions hold
abbrev pub holds : Guard → Bool
holds free = true
holds (asks c b) = b
holds (g ⊓ k) = holds g && holds k
holds (unless b g) = b || holds g

-- its conditions, each with whether it holds, in the order of the guard
abbrev pub conditions : Guard → List Tested
conditions free = []
conditions (asks c b) = record { condition = c; holds = b } ∷ []
conditions (g ⊓ k) = conditions g ++ conditions k
conditions (unless b g) = if b then [] else conditions g

-- its conditions that fail, in the order of the guard
abbrev pub failed : Guard → List Condition
failed free = []
failed (asks c b) = if b then [] else c ∷ []
failed (g ⊓ k) = failed g ++ failed k
failed (unless b g) = if b then [] else failed g

-- the text of a condition on the board's own wires
abbrev pub own_text : Condition → Option (List ℕ)
own_text condition.GrantInHigh = Some (codes "own grant-in is high")
own_text condition.GrantInLow = Some (codes "own grant-in is low")
own_text condition.AcknowledgeInLow = Some (codes "own iackin is low")
own_text condition.OwnRequestHigh = Some (codes "own br is high")
own_text condition.OwnRequestLow = Some (codes "own br is low")
own_text condition.OwnGrantOutHigh = Some (codes "own bgout is high")
own_text condition.OwnBusyHigh = Some (codes "own bbsy is high")
own_text condition.OwnBusyLow = Some (codes "own bbsy is low")
own_text condition.OwnAddressOn = Some (codes "own addr is on")
own_text condition.OwnAddressOff = Some (codes "own addr is off")
own_text condition.AddressFree = Some (codes "own addr is off or own as is low")
own_text condition.OwnAddressStrobeLow = Some (codes "own as is low")
own_text condition.OwnDataStrobeHigh = Some (codes "own ds is high")
own_text condition.OwnAcknowledgeOutHigh = Some (codes "own iackout is high")
own_text condition.OwnDtackHigh = Some (codes "own dtack is high")
own_text condition.Strobed = Some (codes "an own ds- in this cycle")
own_text condition.NotStrobed = Some (codes "no own ds- in this cycle")
own_text c = None

-- the text of a condition, if it does not depend on its edge, its board and what is shown
abbrev pub fixed_text : Condition → Option (List ℕ)
fixed_text condition.GrantsHigh = Some (codes "all four grants are high")
fixed_text condition.ArbiterIsPri = Some (codes "the arbiter is PRI")
fixed_text condition.HigherAsked = Some (codes "a request above the level last granted is low")
fixed_text condition.ClearNotDue = Some (codes "bus clear is not due")
fixed_text condition.BusyHigh = Some (codes "BBSY* is high")
fixed_text condition.BusyLow = Some (codes "BBSY* is low")
fixed_text condition.AddressStrobeHigh = Some (codes "AS* is high")
fixed_text condition.AddressStrobeLow = Some (codes "AS* is low")
fixed_text condition.DataStrobeHigh = Some (codes "DS0* is high")
fixed_text condition.DataStrobeLow = Some (codes "DS0* is low")
fixed_text condition.DtackHigh = Some (codes "DTACK* is high")
fixed_text condition.BerrHigh = Some (codes "BERR* is high")
fixed_text condition.Answered = Some (codes "DTACK* or BERR* is low")
fixed_text condition.AcknowledgeShown = Some (codes "an acknowledge is shown")
fixed_text condition.CycleShown = Some (codes "a cycle is shown")
fixed_text condition.OwnSlotShown = Some (codes "the own slot is shown")
fixed_text condition.Asked = Some (codes "some BR line is low")
fixed_text condition.WithinBurst = Some (codes "fewer cycles than the burst")
fixed_text condition.ChainHigh = Some (codes "iack and every iackout are high")
fixed_text condition.NobodyCanAnswer = Some (codes "nobody can answer")
fixed_text condition.PassedTheLastBoard = Some (codes "the grant has passed the last board")
fixed_text condition.GrantsThrough = Some (codes "every bgout is high")
fixed_text condition.HasRoom = Some (codes "the trace has room")
fixed_text c = own_text c
