-- A fault is never want of memory, so a plan with one is refused for that fault.
use Rattle.std.proofs.Common.{◌≡◌, ap, ◌∙◌}
use Rattle.std.specs.Prelude.{Some}
use Rattle.vme_model.specs.Plan.{Plan}
use Rattle.vme_model.specs.Accepted.{plan_fault}
use Rattle.vme_slots.proofs.NoMemory.{fault_is_plain}
use Rattle.vme_slots.proofs.plans.Plan.new.Goals as goal

pub returns-in-Some-clause-memory : goal.returns-in-Some-clause-memory
returns-in-Some-clause-memory c =
    let p : Plan = record { slots = c.args.slots; rows = c.args.rows.now; jumpers = c.args.jumpers.now; arbiter = c.args.arbiter } in
    let found : plan_fault p ≡ Some c.in-Some.fault = cc in
    λ same. absurd (fault_is_plain p (found ∙ ap (λ e. Some e) same))
