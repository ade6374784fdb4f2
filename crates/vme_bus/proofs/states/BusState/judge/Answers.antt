use Rattle.std.proofs.Common.{refl}
use Rattle.vme_model.specs.declared.signals.Part.TheVariants as parts
use Rattle.vme_bus.proofs.Parts.{of_its_part}
use Rattle.vme_bus.proofs.states.BusState.judge.Goals as goal

pub judge_requester-requires-clause-part : goal.judge_requester-requires-clause-part
judge_requester-requires-clause-part c = of_its_part parts.Requester c.args.edge.wire _ c.part.ensures c.in-Requester.is refl

pub judge_master-requires-clause-part : goal.judge_master-requires-clause-part
judge_master-requires-clause-part c = of_its_part parts.Master c.args.edge.wire _ c.part.ensures c.in-Master.is refl

pub judge_interrupter-requires-clause-part : goal.judge_interrupter-requires-clause-part
judge_interrupter-requires-clause-part c = of_its_part parts.Interrupter c.args.edge.wire _ c.part.ensures c.in-Interrupter.is refl

pub judge_controller-requires-clause-part : goal.judge_controller-requires-clause-part
judge_controller-requires-clause-part c = of_its_part parts.Controller c.args.edge.wire _ c.part.ensures c.in-Controller.is refl
