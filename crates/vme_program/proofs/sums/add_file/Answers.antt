use Rattle.std.proofs.Common.{Ok, Err, refl, subst}
use Rattle.std.proofs.KnownBytes.{Appends-nil}
use Rattle.vme_program.specs.Adding.{AddsFile}
use Rattle.vme_program.specs.CheckingFiles.{Writes}
use Rattle.vme_program.specs.Together.{refused_line}
use Rattle.vme_program.proofs.CheckedFiles.{writes}
use Rattle.vme_program.proofs.sums.add_file.Goals as goal

pub returns-in-Ok : goal.returns-in-Ok
returns-in-Ok g c = λ p short is.
    let h = subst (λ r. AddsFile c.args.trace.now c.args.added.now.sums c.sum_file.new.sums r p) c.in-Ok.is (c.sum_file.ensures p short is) in (
      Ok h.1,
      (h.0, h.2),
      (h.3, c.saturating_add-added.ensures, refl),
      subst (λ status. Writes (g.W.Write.contents c.args.out.now) (g.W.Write.contents c.write_refused.new.out) (refused_line c.args.trace.now status) c.write_refused.result) h.4
          (writes _ _ _ c.write_refused.result c.write_refused.ensures.ok c.write_refused.ensures.front c.write_refused.ensures.fault),
    )

pub returns-in-Err : goal.returns-in-Err
returns-in-Err g c = λ p short is.
    let h = subst (λ r. AddsFile c.args.trace.now c.args.added.now.sums c.sum_file.new.sums r p) c.in-Err.is (c.sum_file.ensures p short is) in (
      Err c.in-Err.fault,
      h.1,
      (h.0, refl, refl),
      Appends-nil _,
    )
