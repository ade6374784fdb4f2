use Rattle.std.proofs.Common.{◌==◌, ◌∙◌, sym, ap, subst, arith, if◌then◌else◌}
use Rattle.std.specs.Io.KnownBytes.{Appends}
use Rattle.vme_model.specs.Verdict.{State}
use Rattle.vme_model.specs.Offers.{rounds}
use Rattle.vme_engines.specs.declared.Status.TheVariants.{Done, Limit}
use Rattle.vme_engines.specs.Texts.{trace_made}
use Rattle.vme_engines.proofs.DriveRounds.{drives_done, drives_cut, drives_safely}
use Rattle.vme_engines.proofs.drives.drive.Goals as goal

pub returns-in-Ok-clause-outcome : goal.returns-in-Ok-clause-outcome
returns-in-Ok-clause-outcome g c = (
  c.in_ok-plan.plan,
  c.in_ok-plan.ensures.ok.0,
  c.in_ok-plan.ensures.ok.1,
  drives_done c.in_ok-plan.plan c.args.version c.args.edges c.write.new.self.bus
      (c.in-Ok.ensures.state ∙ ap (λ (b : State). rounds b c.args.edges) (c.new-drive.ensures.bus ∙ c.new.ensures)) (g.W.Write.contents c.args.out.now) (g.W.Write.contents c.write.new.out) _ (subst (λ (b : State). Appends (g.W.Write.contents c.args.out.now) (g.W.Write.contents c.write.new.out) (trace_made b)) (sym c.in-Ok.ensures.state) c.in-Ok.ensures.ok) c.laws.ensures.legal c.laws.ensures.accepted
      (omega (arith, c.laws.ensures.fits, c.laws.ensures.bounded))
      (c.status_of.ensures ∙ ap (λ n. if n == c.args.edges then Limit else Done) c.len.ensures),
)

pub returns-clause-outcome : goal.returns-clause-outcome
returns-clause-outcome g c = (
  c.in_ok-plan.plan,
  c.in_ok-plan.ensures.ok.0,
  c.in_ok-plan.ensures.ok.1,
  drives_cut c.in_ok-plan.plan c.args.version c.args.edges (rounds c.new-drive.result.bus c.args.edges)
      (ap (λ (b : State). rounds b c.args.edges) (c.new-drive.ensures.bus ∙ c.new.ensures)) (g.W.Write.contents c.args.out.now) (g.W.Write.contents c.write.new.out) _ c.in-Err.ensures.fault c.in-Err.ensures.front,
)

pub returns-in-Ok-clause-safe : goal.returns-in-Ok-clause-safe
returns-in-Ok-clause-safe g c =
    drives_safely c.in_ok-plan.plan c.args.version c.args.edges c.write.new.self.bus
    (c.in-Ok.ensures.state ∙ ap (λ (b : State). rounds b c.args.edges) (c.new-drive.ensures.bus ∙ c.new.ensures)) c.args.scenario.now c.in_ok-plan.ensures.ok.1 c.safety.ensures.safe
