-- The groups together are all that is printed for a condition.
use Rattle.std.proofs.Common.{◌≡◌, refl, sym, true, false, append_assoc, append-nil, ◌++◌, ◌∷◌, []}
use Rattle.vme_model.specs.declared.conditions.Condition.{Condition}
use Rattle.vme_model.specs.declared.conditions.Condition.TheVariants as condition
use Rattle.vme_model.specs.declared.signals.Edge.{Edge}
use Rattle.vme_model.specs.declared.signals.Wire.TheVariants.{Bbsy}
use Rattle.vme_model.specs.Verdict.{State}
use Rattle.vme_model.specs.Numbered.{Numbered}
use Rattle.vme_model.specs.Witnesses.{witnesses_of, low, low_grants, requests, granted}
use Rattle.vme_explain.specs.Grouped.{is_of_askers, askers_witnesses, other_witnesses}

pub askers_are : (b : State) (k : Numbered) (e : Edge) (c : Condition) → is_of_askers c ≡ true → askers_witnesses b k e c ≡ witnesses_of b k e c
askers_are b k e condition.GrantsHigh h = refl
askers_are b k e condition.Picked h = refl
askers_are b k e condition.ArbiterIsPri h = absurd (cc)
askers_are b k e condition.HigherAsked h = refl
askers_are b k e condition.ClearNotDue h = sym (append_assoc (low b k Bbsy ++ low_grants b k) (requests b k) (granted b k ∷ []))
askers_are b k e condition.BusyHigh h = absurd (cc)
askers_are b k e condition.BusyLow h = absurd (cc)
askers_are b k e condition.AddressStrobeHigh h = absurd (cc)
askers_are b k e condition.AddressStrobeLow h = absurd (cc)
askers_are b k e condition.DataStrobeHigh h = absurd (cc)
askers_are b k e condition.DataStrobeLow h = absurd (cc)
askers_are b k e condition.DtackHigh h = absurd (cc)
askers_are b k e condition.BerrHigh h = absurd (cc)
askers_are b k e condition.Answered h = absurd (cc)
askers_are b k e condition.AcknowledgeShown h = absurd (cc)
askers_are b k e condition.CycleShown h = absurd (cc)
askers_are b k e condition.OwnSlotShown h = absurd (cc)
askers_are b k e condition.GrantInHigh h = absurd (cc)
askers_are b k e condition.GrantInLow h = absurd (cc)
askers_are b k e condition.AcknowledgeInLow h = absurd (cc)
askers_are b k e condition.OwnRequestHigh h = absurd (cc)
askers_are b k e condition.OwnRequestLow h = absurd (cc)
askers_are b k e condition.OwnGrantOutHigh h = absurd (cc)
askers_are b k e condition.OwnBusyHigh h = absurd (cc)
askers_are b k e condition.OwnBusyLow h = absurd (cc)
askers_are b k e condition.OwnAddressOn h = absurd (cc)
askers_are b k e condition.OwnAddressOff h = absurd (cc)
askers_are b k e condition.AddressFree h = absurd (cc)
askers_are b k e condition.OwnAddressStrobeLow h = absurd (cc)
askers_are b k e condition.OwnDataStrobeHigh h = absurd (cc)
askers_are b k e condition.OwnAcknowledgeOutHigh h = absurd (cc)
askers_are b k e condition.OwnDtackHigh h = absurd (cc)
askers_are b k e condition.Asked h = absurd (cc)
askers_are b k e condition.WithinBurst h = absurd (cc)
askers_are b k e condition.Handled h = absurd (cc)
askers_are b k e condition.InterruptLow h = refl
askers_are b k e condition.Strobed h = absurd (cc)
askers_are b k e condition.NotStrobed h = absurd (cc)
askers_are b k e condition.Served h = absurd (cc)
askers_are b k e condition.Pending h = absurd (cc)
askers_are b k e condition.NotPending h = absurd (cc)
askers_are b k e condition.ChainHigh h = absurd (cc)
askers_are b k e condition.NobodyCanAnswer h = absurd (cc)
askers_are b k e condition.PassedTheLastBoard h = absurd (cc)
askers_are b k e condition.GrantsThrough h = absurd (cc)
askers_are b k e condition.HasDriver h = absurd (cc)
askers_are b k e condition.OtherState h = absurd (cc)
askers_are b k e condition.HasRoom h = absurd (cc)

pub others_are : (b : State) (k : Numbered) (e : Edge) (c : Condition) → is_of_askers c ≡ false → other_witnesses b k e c ≡ witnesses_of b k e c
others_are b k e condition.GrantsHigh h = absurd (cc)
others_are b k e condition.Picked h = absurd (cc)
others_are b k e condition.ArbiterIsPri h = refl
others_are b k e condition.HigherAsked h = absurd (cc)
others_are b k e condition.ClearNotDue h = absurd (cc)
others_are b k e condition.BusyHigh h = simp append-nil
others_are b k e condition.BusyLow h = simp append-nil
others_are b k e condition.AddressStrobeHigh h = simp append-nil
others_are b k e condition.AddressStrobeLow h = simp append-nil
others_are b k e condition.DataStrobeHigh h = simp append-nil
others_are b k e condition.DataStrobeLow h = simp append-nil
others_are b k e condition.DtackHigh h = simp append-nil
others_are b k e condition.BerrHigh h = simp append-nil
others_are b k e condition.Answered h = simp append-nil
others_are b k e condition.AcknowledgeShown h = simp append-nil
others_are b k e condition.CycleShown h = simp append-nil
others_are b k e condition.OwnSlotShown h = simp append-nil
others_are b k e condition.GrantInHigh h = refl
others_are b k e condition.GrantInLow h = refl
others_are b k e condition.AcknowledgeInLow h = refl
others_are b k e condition.OwnRequestHigh h = simp append-nil
others_are b k e condition.OwnRequestLow h = simp append-nil
others_are b k e condition.OwnGrantOutHigh h = simp append-nil
others_are b k e condition.OwnBusyHigh h = simp append-nil
others_are b k e condition.OwnBusyLow h = simp append-nil
others_are b k e condition.OwnAddressOn h = simp append-nil
others_are b k e condition.OwnAddressOff h = simp append-nil
others_are b k e condition.AddressFree h = refl
others_are b k e condition.OwnAddressStrobeLow h = simp append-nil
others_are b k e condition.OwnDataStrobeHigh h = simp append-nil
others_are b k e condition.OwnAcknowledgeOutHigh h = simp append-nil
others_are b k e condition.OwnDtackHigh h = simp append-nil
others_are b k e condition.Asked h = simp append-nil
others_are b k e condition.WithinBurst h = refl
others_are b k e condition.Handled h = refl
others_are b k e condition.InterruptLow h = absurd (cc)
others_are b k e condition.Strobed h = refl
others_are b k e condition.NotStrobed h = refl
others_are b k e condition.Served h = refl
others_are b k e condition.Pending h = refl
others_are b k e condition.NotPending h = refl
others_are b k e condition.ChainHigh h = simp append-nil
others_are b k e condition.NobodyCanAnswer h = simp append-nil
others_are b k e condition.PassedTheLastBoard h = simp append-nil
others_are b k e condition.GrantsThrough h = simp append-nil
others_are b k e condition.HasDriver h = refl
others_are b k e condition.OtherState h = simp append-nil
others_are b k e condition.HasRoom h = refl
