use Rattle.std.proofs.Common.{sym}
use Rattle.vme_trace.proofs.FrontEdge.{no_driver, no_wire, no_sign, no_value, missed, if_none}
use Rattle.vme_trace.proofs.front.edge_at.Goals as goal

pub returns-in_err-driver-clause-missed : goal.returns-in_err-driver-clause-missed
returns-in_err-driver-clause-missed c = if_none _ _ (missed c.args.text.now (no_driver _ (sym c.in_err-driver.ensures.first)))

pub returns-in_err-wire-clause-missed : goal.returns-in_err-wire-clause-missed
returns-in_err-wire-clause-missed c =
    if_none _ _ (missed c.args.text.now (no_wire _ _ _ (sym c.in_ok-driver.ensures.first) (sym c.in_err-wire.ensures.first)))

pub returns-in_err-fall-clause-missed : goal.returns-in_err-fall-clause-missed
returns-in_err-fall-clause-missed c =
    if_none _ _
    (missed c.args.text.now (no_sign _ _ _ (sym c.in_ok-driver.ensures.first) _ _ (sym c.in_ok-wire.ensures.first) (sym c.in_err-fall.ensures.first)))

pub returns-in_err-value-clause-missed : goal.returns-in_err-value-clause-missed
returns-in_err-value-clause-missed c =
    if_none _ _
    (missed c.args.text.now
    (no_value _ _ _ (sym c.in_ok-driver.ensures.first) _ _ (sym c.in_ok-wire.ensures.first) _ _ (sym c.in_ok-fall.ensures.first)
    (sym c.in_err-value.ensures.first)))
