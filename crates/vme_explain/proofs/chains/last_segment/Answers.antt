use Rattle.std.proofs.Common.{◌∙◌, sym, subst}
use Rattle.vme_model.specs.Accepted.{IsAccepted}
use Rattle.vme_explain.proofs.OnPlan.{last_slot}
use Rattle.vme_explain.proofs.chains.last_segment.Goals as goal

pub segment_at-requires : goal.segment_at-requires
segment_at-requires c = λ s found.
    let accepted : IsAccepted c.plan-2.result.now = subst IsAccepted (c.plan.ensures ∙ sym c.plan-2.ensures) c.accepted.ensures in
    last_slot c.plan-2.result.now accepted c.args.chain s (sym c.last_active-last.ensures ∙ found)
