use Rattle.std.proofs.Common.{◌∙◌, ap, ℕ}
use Rattle.vme_model.specs.declared.boards.ArbiterKind.{ArbiterKind}
use Rattle.vme_model.specs.declared.sets.BusLevels.{BusLevels}
use Rattle.vme_model.specs.Sets.{has_bus_level, bus_levels}
use Rattle.vme_model.specs.History.{request_line, last_level}
use Rattle.vme_model.specs.Rules.{pick}
use Rattle.vme_model.proofs.PinSets.{pick_of_pins}
use Rattle.vme_bus.proofs.states.BusState.picked.Goals as goal

pub returns : goal.returns
returns c version p h is =
    c.pick.ensures
    ∙ ap (λ (kind : ArbiterKind). pick kind (has_bus_level c.requests.result) c.args.self.now.last_level) (c.from.ensures ∙ c.kind_in.ensures ∙ is.kind)
    ∙ ap (λ (low : BusLevels). pick p.arbiter (has_bus_level low) c.args.self.now.last_level) (c.requests.ensures version p h is)
    ∙ ap (λ (last : ℕ). pick p.arbiter (has_bus_level (bus_levels (request_line p h))) last) is.last_level
    ∙ pick_of_pins p.arbiter (request_line p h) (last_level h)
