use Rattle.std.proofs.Common.{false, None, List, subst, get_or}
use Rattle.std.proofs.lemmas.List.Elements.{Contains-get_or}
use Rattle.std.specs.List.{Contains}
use Rattle.vme_model.specs.declared.signals.Driver.TheVariants.{Controller}
use Rattle.vme_model.specs.declared.signals.Wire.TheVariants.{Bg}
use Rattle.vme_model.specs.declared.signals.Edge.{Edge}
use Rattle.vme_explain.proofs.Listed.{open_has_word}
use Rattle.vme_explain.proofs.stands.open_line.Goals as goal

pub word_of-requires : goal.word_of-requires
word_of-requires c =
    let b = c.args.bus.now in
    let e = get_or c.as_slice-edge-items.result.now c.loop-edge.edge-index (record { driver = Controller; wire = Bg 0; fall = false; value = None }) in
    open_has_word b e ((c.open_edges.ensures.all e).1 (subst (λ (es : List Edge). Contains es e) c.as_slice-edge-items.ensures.value
    (Contains-get_or c.as_slice-edge-items.result.now c.loop-edge.edge-index (record { driver = Controller; wire = Bg 0; fall = false; value = None }) c.loop-edge-test.true))).1
