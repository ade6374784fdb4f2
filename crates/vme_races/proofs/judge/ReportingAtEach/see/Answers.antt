use Rattle.std.proofs.Common.{inl, inr}
use Rattle.std.proofs.lemmas.Result.{err_from_is_err_and}
use Rattle.vme_races.proofs.WrittenRaces.{lines_known, next_cut, next_known}
use Rattle.vme_races.proofs.judge.ReportingAtEach.see.Goals as goal

pub returns-in_err-stop-clause-stops : goal.returns-in_err-stop-clause-stops
returns-in_err-stop-clause-stops g c =
    let e = err_from_is_err_and c.from_residual.result c.from_residual.ensures.1 in
    rw (e.1, e.2) (λ _ p v es first known. inl (c.in_err-stop.ensures.fault, lines_known p v es first _ c.args.self.now known))

pub returns-in_err-write_taken-clause-stops : goal.returns-in_err-write_taken-clause-stops
returns-in_err-write_taken-clause-stops g c =
    let e = err_from_is_err_and c.from_residual-in_err-write_taken.result c.from_residual-in_err-write_taken.ensures.1 in
    rw (e.1, e.2) (λ _ p v es first known.
    inr (
      c.in_err-write_taken.ensures.fault,
      next_cut p v es first _ c.args.self.now known c.args.edge.now _ _ c.take_in.new.self
          (c.in_ok-stop.ensures.line p v es) c.in_err-write_taken.ensures.front,
    ))

pub returns-clause-knows : goal.returns-clause-knows
returns-clause-knows g c = λ _ p v es first known.
    next_known p v es first _ c.args.self.now known c.args.edge.now _ _ c.take_in.new.self (c.in_ok-stop.ensures.line p v es) c.in_ok-write_taken.ensures.ok
