use Rattle.std.proofs.Common.{◌==◌, ◌∙◌, sym, ap, subst, arith, if◌then◌else◌}
use Rattle.std.proofs.lemmas.Result.{err_from_is_err_and}
use Rattle.std.specs.Io.KnownBytes.{Appends}
use Rattle.vme_model.specs.Verdict.{State}
use Rattle.vme_model.specs.Offers.{rounds}
use Rattle.vme_reading.specs.declared.Status.TheVariants.{Done, Limit}
use Rattle.vme_reading.specs.Texts.{trace_made}
use Rattle.vme_drive.proofs.DriveRounds.{drives_done, drives_cut, drives_safe}
use Rattle.vme_drive.proofs.drives.drive_on.Goals as goal

pub returns-in_err-write-clause-outcome : goal.returns-in_err-write-clause-outcome
returns-in_err-write-clause-outcome g c =
    let e = err_from_is_err_and c.from_residual.result c.from_residual.ensures.1 in
    rw (e.1, e.2)
    (drives_cut c.args.plan c.args.version c.args.edges (rounds c.new-drive.result.bus c.args.edges)
    (ap (λ (b : State). rounds b c.args.edges) (c.new-drive.ensures.bus ∙ c.new.ensures)) _ _ _ c.in_err-write.ensures.fault c.in_err-write.ensures.front)

pub returns-clause-outcome : goal.returns-clause-outcome
returns-clause-outcome g c =
    drives_done c.args.plan c.args.version c.args.edges c.write.new.self.bus
    (c.in_ok-write.ensures.state ∙ ap (λ (b : State). rounds b c.args.edges) (c.new-drive.ensures.bus ∙ c.new.ensures)) _ _ _
    (subst (λ (b : State). Appends (g.W.Write.contents c.args.out.now) (g.W.Write.contents c.write.new.out) (trace_made b)) (sym c.in_ok-write.ensures.state) c.in_ok-write.ensures.ok)
    c.laws.ensures.legal c.laws.ensures.accepted
    (omega (arith, c.laws.ensures.fits, c.laws.ensures.bounded))
    (c.status_of.ensures ∙ ap (λ n. if n == c.args.edges then Limit else Done) c.len.ensures)

pub returns-clause-safe : goal.returns-clause-safe
returns-clause-safe g c =
    drives_safe c.args.plan c.args.version c.args.edges c.write.new.self.bus
    (c.in_ok-write.ensures.state ∙ ap (λ (b : State). rounds b c.args.edges) (c.new-drive.ensures.bus ∙ c.new.ensures)) c.safety.ensures.safe
