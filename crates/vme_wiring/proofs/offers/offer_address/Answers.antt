use Rattle.std.proofs.Common.{◌≡◌, ◌∙◌, ap, ◌++◌, List, take, filter, length, arith}
use Rattle.std.proofs.Math.Seq.{take-length}
use Rattle.vme_model.specs.declared.signals.Edge.{Edge}
use Rattle.vme_wiring.specs.Offered.{is_open}
use Rattle.vme_wiring.proofs.offers.offer_address.Goals as goal

pub returns-clause-offered : goal.returns-clause-offered
returns-clause-offered g c version p h is =
    let before = c.args.offers.now.items in
    let test = is_open version p h in
    let edges = c.as_slice-edge-items.result.now in
    let ended : c.loop-edge.edge-index ≡ length edges = omega arith in
    c.loop-edge.invariant.offered version p h is
    ∙ ap (λ n. before ++ filter test (take n edges)) ended
    ∙ ap (λ (es : List Edge). before ++ filter test es) (take-length edges ∙ c.as_slice-edge-items.ensures.value ∙ c.considered_address.ensures version p h is)
