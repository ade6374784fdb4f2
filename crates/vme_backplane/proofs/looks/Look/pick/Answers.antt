-- What is picked of the pins is what is picked of the lines.
use Rattle.std.proofs.Common.{◌∙◌, ap, ℕ}
use Rattle.vme_model.specs.declared.boards.ArbiterKind.{ArbiterKind}
use Rattle.vme_model.specs.declared.sets.BusLevels.{BusLevels}
use Rattle.vme_model.specs.Sets.{has_bus_level}
use Rattle.vme_model.specs.History.{request_line}
use Rattle.vme_model.specs.Rules.{pick}
use Rattle.vme_model.proofs.PinSets.{pick_of_pins}
use Rattle.vme_backplane.specs.Looks.{history_of}
use Rattle.vme_backplane.proofs.looks.Look.pick.Goals as goal

pub returns : goal.returns
returns c =
    let plan = c.args.self.now.plan.now in
    let low = request_line plan (history_of c.args.self.now) in
    c.pick.ensures
    ∙ ap (λ (k : ArbiterKind). pick k (has_bus_level c.requests.result) c.last_level.result) (c.from.ensures ∙ c.arbiter.ensures)
    ∙ ap (λ (s : BusLevels). pick plan.arbiter (has_bus_level s) c.last_level.result) c.requests.ensures
    ∙ pick_of_pins plan.arbiter low c.last_level.result
    ∙ ap (λ (n : ℕ). pick plan.arbiter low n) c.last_level.ensures
