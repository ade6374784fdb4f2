use Rattle.std.proofs.Common.{◌∙◌, ap}
use Rattle.vme_pictures.specs.Columns.{low_by}
use Rattle.vme_pictures.proofs.Rises.{rise_told}
use Rattle.vme_pictures.proofs.wires.state.Goals as goal

pub returns : goal.returns
returns c =
    c.low_by.ensures ∙ ap low_by c.answer.ensures ∙ rise_told c.args.bus.now c.args.driver c.args.wire c.laws.ensures.accepted
