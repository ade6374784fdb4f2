-- The numbers by which C names the conditions of the rules.
use Rattle.std.specs.Prelude.{ℕ}
use Rattle.vme_model.specs.declared.conditions.Condition.{Condition}
use Rattle.vme_model.specs.declared.conditions.Condition.TheVariants as condition

-- from 0, in the order of the header; a bus has always room, but its number is kept free
abbrev pub condition_number : Condition → ℕ
condition_number condition.GrantsHigh = 0
condition_number condition.Picked = 1
condition_number condition.ArbiterIsPri = 2
condition_number condition.HigherAsked = 3
condition_number condition.ClearNotDue = 4
condition_number condition.BusyHigh = 5
condition_number condition.BusyLow = 6
condition_number condition.AddressStrobeHigh = 7
condition_number condition.AddressStrobeLow = 8
condition_number condition.DataStrobeHigh = 9
condition_number condition.DataStrobeLow = 10
condition_number condition.DtackHigh = 11
condition_number condition.BerrHigh = 12
condition_number condition.Answered = 13
condition_number condition.AcknowledgeShown = 14
condition_number condition.CycleShown = 15
condition_number condition.OwnSlotShown = 16
condition_number condition.GrantInHigh = 17
condition_number condition.GrantInLow = 18
condition_number condition.AcknowledgeInLow = 19
condition_number condition.OwnRequestHigh = 20
condition_number condition.OwnRequestLow = 21
condition_number condition.OwnGrantOutHigh = 22
condition_number condition.OwnBusyHigh = 23
condition_number condition.OwnBusyLow = 24
condition_number condition.OwnAddressOn = 25
condition_number condition.OwnAddressOff = 26
condition_number condition.AddressFree = 27
condition_number condition.OwnAddressStrobeLow = 28
condition_number condition.OwnDataStrobeHigh = 29
condition_number condition.OwnAcknowledgeOutHigh = 30
condition_number condition.OwnDtackHigh = 31
condition_number condition.Asked = 32
condition_number condition.WithinBurst = 33
condition_number condition.Handled = 34
condition_number condition.InterruptLow = 35
condition_number condition.Strobed = 36
condition_number condition.NotStrobed = 37
condition_number condition.Served = 38
condition_number condition.Pending = 39
condition_number condition.NotPending = 40
condition_number condition.ChainHigh = 41
condition_number condition.NobodyCanAnswer = 42
condition_number condition.PassedTheLastBoard = 43
condition_number condition.GrantsThrough = 44
condition_number condition.HasDriver = 45
condition_number condition.OtherState = 46
condition_number condition.HasRoom = 47
