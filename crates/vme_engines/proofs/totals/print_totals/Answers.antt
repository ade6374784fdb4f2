use Rattle.std.proofs.KnownBytes.{Appends-kept}
use Rattle.vme_summary.specs.Sums.{sums_text}
use Rattle.vme_engines.proofs.WrittenLines.{front_kept, on_err}
use Rattle.vme_engines.proofs.totals.print_totals.Goals as goal

pub returns-in_err-flush-clause-front : goal.returns-in_err-flush-clause-front
returns-in_err-flush-clause-front g c =
    on_err c.from_residual-in_err-flush.result _ (λ ts is.
    front_kept _ _ _ (sums_text c.args.plan.now ts) (c.in_ok-write_sums.ensures.ok ts is) c.flush.ensures.kept)

pub returns-clause-ok : goal.returns-clause-ok
returns-clause-ok g c = λ ts is. Appends-kept _ _ _ (sums_text c.args.plan.now ts) (c.in_ok-write_sums.ensures.ok ts is) c.flush.ensures.kept
