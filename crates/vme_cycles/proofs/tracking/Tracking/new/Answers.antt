use Rattle.vme_cycles.proofs.tracking.Tracking.new.Goals as goal

pub returns-clause-tracked : goal.returns-clause-tracked
returns-clause-tracked c = λ p v is. record { follows = c.new.ensures.after p v is; cycle = c.new-2.ensures p; tenure = c.new-3.ensures }
