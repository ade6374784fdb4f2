use Rattle.std.proofs.Common.{inr}
use Rattle.std.proofs.lemmas.Result.{err_from_is_err_and}
use Rattle.vme_cycles.proofs.LeftOfTrace.{next_cut, next_known}
use Rattle.vme_cycles.proofs.judge.TrackingAtEach.see.Goals as goal

pub returns-in_err-put-clause-stops : goal.returns-in_err-put-clause-stops
returns-in_err-put-clause-stops g c =
    let e = err_from_is_err_and c.from_residual.result c.from_residual.ensures.1 in
    rw (e.1, e.2) (λ _ p v es first known.
    inr (
      c.in_err-put.ensures.fault,
      next_cut p v es c.args.self.now first _ _ known c.args.edge.now _ (c.take_in-line.ensures.line p v es known.1.0)
          (rw (c.as_slice.ensures.value) at c.in_err-put.ensures.front),
    ))

pub returns-clause-knows : goal.returns-clause-knows
returns-clause-knows g c = λ _ p v es first known.
    next_known p v es c.args.self.now first _ _ known c.args.edge.now _ (c.take_in-line.ensures.line p v es known.1.0) c.take_in-line.new.self
    (c.take_in-line.ensures.tracked p v es known.1.0) (rw (c.as_slice.ensures.value) at c.in_ok-put.ensures.ok)
