use Rattle.std.proofs.Common.{◌∙◌, ℕ, Option, sym, ap, arith}
use Rattle.std.specs.Prelude.{option_map}
use Rattle.vme_model.specs.Plan.{active, grant_chain}
use Rattle.vme_model.specs.Stands.{is_granted_at}
use Rattle.vme_reasons.proofs.Found.{absent, found_on, found_on_later}
use Rattle.vme_pictures.proofs.grants.granted.Goals as goal

pub returns-in-Some-clause-slot : goal.returns-in-Some-clause-slot
returns-in-Some-clause-slot c = let b = c.args.backplane.now in
    sym (ap (λ (o : Option (ℕ × ℕ)). option_map (λ at. at.1) o) (c.loop-level.invariant ∙ found_on (is_granted_at b.plan b.history) (λ n. active b.plan (grant_chain n)) c.loop-level.level c.in-Some.slot (omega arith)
    (sym c.granted_on.ensures.slot ∙ c.in-Some.is)))

pub loop-level-preserved : goal.loop-level-preserved
loop-level-preserved c = let b = c.args.backplane.now in
    c.loop-level.invariant ∙ found_on_later (is_granted_at b.plan b.history) (λ n. active b.plan (grant_chain n)) c.loop-level.level (omega arith)
    (sym c.granted_on.ensures.slot ∙ absent c.granted_on.result c.in_default.not-Some)
