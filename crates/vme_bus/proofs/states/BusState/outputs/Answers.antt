use Rattle.std.proofs.Common.{◌∙◌, inl, inr}
use Rattle.vme_bus.proofs.OneSlot.{controllers_wire}
use Rattle.vme_bus.proofs.PowerUp.{none_held}
use Rattle.vme_bus.proofs.states.BusState.outputs.Goals as goal

pub returns-in-Bg : goal.returns-in-Bg
returns-in-Bg c version p h is s near = none_held s ∙ controllers_wire version p h s c.args.wire is.legal (inl (c.in-Bg.field-0, c.in-Bg.is))

pub returns-in-Bclr : goal.returns-in-Bclr
returns-in-Bclr c version p h is s near = none_held s ∙ controllers_wire version p h s c.args.wire is.legal (inr (inl c.in-Bclr.is))

pub returns-in-Iack : goal.returns-in-Iack
returns-in-Iack c version p h is s near = none_held s ∙ controllers_wire version p h s c.args.wire is.legal (inr (inr (inl c.in-Iack.is)))

pub returns-in-Berr : goal.returns-in-Berr
returns-in-Berr c version p h is s near = none_held s ∙ controllers_wire version p h s c.args.wire is.legal (inr (inr (inr c.in-Berr.is)))
