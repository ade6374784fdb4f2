use Rattle.std.proofs.Common.{rules, arith, ◌≡◌, true, [], is_some}
use Rattle.std.proofs.lemmas.Result.{err_from_is_err_and}
use Rattle.vme_trace.proofs.Lines.{no_bytes}
use Rattle.vme_trace.proofs.LinesInPlace.{lines_taken, lines_faulty}
use Rattle.vme_trace.proofs.ReaderSteps.{taken_none, taken_more, taken_all, taken_fault}
use Rattle.vme_trace.proofs.reader.take.Goals as goal

pub returns-in_err-rest-clause-fault : goal.returns-in_err-rest-clause-fault
returns-in_err-rest-clause-fault g c =
    let p = err_from_is_err_and c.from_residual.result c.from_residual.ensures.1 in
    rw (p.1, p.2) (taken_fault _ _ _ _ _ _ _ _ _ _ _ c.lines.invariant.so_far c.in_err-rest.ensures.fault)

pub returns-in_err-rest-2-clause-fault : goal.returns-in_err-rest-2-clause-fault
returns-in_err-rest-2-clause-fault g c =
    let p = err_from_is_err_and c.from_residual-in_err-rest-2.result c.from_residual-in_err-rest-2.ensures.1 in
    let step = c.in_ok-rest.ensures.ok in
    let so_far = taken_more _ _ _ _ _ _ _ _ _ _ _ _ _ c.lines.invariant.so_far step.1 step.2 in
    let known : is_some c.take_front.new.version ≡ true = search rules in
    let none : c.take_front.new.part.items ≡ [] = no_bytes _ (grind arith) in
    rw (p.1, p.2) (lines_faulty _ _ _ _ _ _ _ _ _ _ so_far known none _ c.in_err-rest-2.ensures.fault)

pub lines-preserved-then-is_some : goal.lines-preserved-then-is_some
lines-preserved-then-is_some g c = record {
  part = c.in_ok-rest.ensures.part;
  so_far =
      let step = c.in_ok-rest.ensures.ok in
      let so_far = taken_more _ _ _ _ _ _ _ _ _ _ _ _ _ c.lines.invariant.so_far step.1 step.2 in
      let known : is_some c.take_front.new.version ≡ true = search rules in
      let none : c.take_front.new.part.items ≡ [] = no_bytes _ (grind arith) in
      lines_taken _ _ _ _ _ _ _ _ _ _ so_far known none _ _ c.in_ok-rest-2.ensures.ok;
}

pub lines-preserved : goal.lines-preserved
lines-preserved g c = record {
  part = c.in_ok-rest.ensures.part;
  so_far =
      let step = c.in_ok-rest.ensures.ok in
      taken_more _ _ _ _ _ _ _ _ _ _ _ _ _ c.lines.invariant.so_far step.1 step.2;
}

pub lines-init : goal.lines-init
lines-init g c = record { part = c.requires; so_far = taken_none _ _ _ _ }

pub returns-clause-ok : goal.returns-clause-ok
returns-clause-ok g c = taken_all _ _ _ _ _ _ _ _ c.lines.invariant.so_far (no_bytes _ (grind arith))
