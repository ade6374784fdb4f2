use Rattle.std.proofs.Common.{◌∙◌, ap, ◌%◌, List, length}
use Rattle.std.specs.Prelude.{slice_get}
use Rattle.vme_model.specs.declared.signals.Edge.{Edge}
use Rattle.vme_bus.proofs.buses.Bus.ready_offer_but_full.Goals as goal

pub returns : goal.returns
returns c = c.chosen.ensures ∙ ap (λ (l : List Edge). slice_get l (c.args.round % length l)) (c.as_slice.ensures.value ∙ c.put_ready.ensures)
