use Rattle.std.proofs.Common.{◌∙◌, refl, ap, []}
use Rattle.std.specs.Option.{option_and_then}
use Rattle.vme_model.specs.declared.signals.Driver.TheVariants.{Slot}
use Rattle.vme_model.specs.History.{last_value}
use Rattle.vme_histories.proofs.Addressing.{none_addresses}
use Rattle.vme_bus.specs.Layouts.{grant_head, acknowledge_head}
use Rattle.vme_bus.specs.States.{bus_clear_place, bus_error_place}
use Rattle.vme_bus.proofs.PowerUp.{none_held, none_granted, none_acknowledged, none_served, no_cycles}
use Rattle.vme_bus.proofs.states.BusState.new.Goals as goal

pub returns : goal.returns
returns c =
    let p = c.args.plan.now in
    record {
      accepted = c.accepted.ensures;
      legal = tt;
      rules = c.number_of_version.ensures;
      layout = c.new.ensures;
      kind = c.number_of_kind.ensures ∙ c.arbiter.ensures;
      last_level = refl;
      bus_clear = none_held bus_clear_place;
      bus_error = none_held bus_error_place;
      br = none_held;
      bbsy = none_held;
      addr = none_held;
      address_strobe = none_held;
      data_strobe = none_held;
      irq = none_held;
      dtack = none_held;
      grants = λ s near. none_held s;
      grant_heads = λ n near. none_held (grant_head n);
      acknowledges = λ s near. none_held s;
      acknowledges_head = none_held acknowledge_head;
      granted = none_granted p;
      acknowledged = none_acknowledged p;
      served = none_served p;
      strobed = none_held;
      cycles_room = refl;
      cycles = no_cycles p;
      shown = c.of.ensures ∙ ap (option_and_then (λ s. last_value [] (Slot s))) (none_addresses p);
      addressing = none_addresses p;
    }
