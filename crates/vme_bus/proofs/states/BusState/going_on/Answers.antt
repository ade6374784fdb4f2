use Rattle.std.proofs.Common.{◌∙◌, ap, subst, Bool}
use Rattle.std.specs.Prelude.{not}
use Rattle.vme_model.specs.declared.conditions.Condition.TheVariants.{OwnBusyLow, AddressStrobeHigh}
use Rattle.vme_model.specs.declared.signals.Driver.TheVariants.{Slot}
use Rattle.vme_model.specs.declared.signals.Wire.TheVariants.{Bbsy}
use Rattle.vme_model.specs.Guards.{Guard, asks, ◌⊓◌}
use Rattle.vme_model.specs.History.{drive}
use Rattle.vme_model.specs.Readings.{readings}
use Rattle.vme_model.specs.Rules.{addr_goes_on, burst_guard, show_guard}
use Rattle.vme_bus.proofs.states.BusState.going_on.Goals as goal

abbrev free : Bool → Bool → Guard
free bbsy address_strobe = asks OwnBusyLow bbsy ⊓ asks AddressStrobeHigh (not address_strobe)

-- the sets and the history say the same of the first two conditions
pub returns-then-is_final : goal.returns-then-is_final
returns-then-is_final g c version p h r is found some formed =
    let s = c.args.slot in
    let reads = readings p h (Slot s) in
    let bursts = burst_guard reads in
    let shows = show_guard reads c.args.value in
    let final = c.is_final.ensures c.if-is_final.true in
    let here = free c.has.result c.address_strobe.result in
    subst (λ k. g.A.Outcome.reports c.addr_is_free-free.result k)
    (ap (λ x. addr_goes_on x c.address_strobe.result bursts shows) (c.has.ensures ∙ is.bbsy s)
    ∙ ap (λ x. addr_goes_on (drive h (Slot s) Bbsy) x bursts shows) (c.address_strobe.ensures version p h is))
    (final (here ⊓ bursts) shows (final here bursts c.addr_is_free-free.ensures))

pub returns : goal.returns
returns g c version p h r is found some formed =
    let s = c.args.slot in
    let reads = readings p h (Slot s) in
    let bursts = burst_guard reads in
    let shows = show_guard reads c.args.value in
    subst (λ k. g.A.Outcome.reports c.addr_goes_on.result k)
    (ap (λ x. addr_goes_on x c.address_strobe.result bursts shows) (c.has.ensures ∙ is.bbsy s)
    ∙ ap (λ x. addr_goes_on (drive h (Slot s) Bbsy) x bursts shows) (c.address_strobe.ensures version p h is))
    (c.addr_goes_on.ensures c.has.result c.address_strobe.result bursts shows c.addr_is_free-free.ensures (c.bursting-bursting.ensures version p h r is found some)
    (c.showing-showing.ensures version p h r is found formed))
