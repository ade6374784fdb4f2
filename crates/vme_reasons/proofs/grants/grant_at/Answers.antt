use Rattle.std.proofs.Common.{◌∙◌, sym, arith}
use Rattle.vme_model.specs.Plan.{active, grant_chain}
use Rattle.vme_model.specs.Stands.{is_granted_at}
use Rattle.vme_reasons.proofs.Found.{absent, found_on, found_on_later}
use Rattle.vme_reasons.proofs.grants.grant_at.Goals as goal

pub returns-in-Some : goal.returns-in-Some
returns-in-Some c = λ k same marks. let b = c.args.bus.now in
    sym (c.loop-level.invariant k same marks ∙ found_on (is_granted_at b.plan b.history) (λ n. active b.plan (grant_chain n)) c.loop-level.level c.in-Some.slot (omega arith)
    (sym (c.granted_slot.ensures k same marks) ∙ c.in-Some.is))

pub loop-level-preserved : goal.loop-level-preserved
loop-level-preserved c = λ k same marks. let b = c.args.bus.now in
    c.loop-level.invariant k same marks ∙ found_on_later (is_granted_at b.plan b.history) (λ n. active b.plan (grant_chain n)) c.loop-level.level (omega arith)
    (sym (c.granted_slot.ensures k same marks) ∙ absent c.granted_slot.result c.in_default.not-Some)
