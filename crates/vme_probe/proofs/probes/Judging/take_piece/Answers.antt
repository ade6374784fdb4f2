use Rattle.std.proofs.Common.{◌+◌, ◌++◌, ◌∷◌, [], ℕ, List, Option, Some, Ok, Err, ap, arith, sym, subst, append-nil, drop, get_or, take}
use Rattle.std.proofs.lemmas.Result.{err_from_is_err_and}
use Rattle.std.proofs.lemmas.List.{take_all}
use Rattle.vme_reading.specs.declared.Status.{Status}
use Rattle.vme_probe.specs.Reads.{IsAt, Taken}
use Rattle.vme_probe.proofs.Pieces.{next_piece, whole_piece}
use Rattle.vme_probe.proofs.Reading.{fault_on, status_on}
use Rattle.vme_probe.proofs.probes.Judging.take_piece.Goals as goal

pub loop-at-init : goal.loop-at-init
loop-at-init g c = record {
  reads = c.requires;
  at = λ skew bytes from h.
      subst (λ (l : List ℕ). IsAt c.args.plan.now skew c.args.self.now l from (g.W.Write.contents c.args.out.now)) (sym (append-nil bytes)) h;
}

pub take_byte-requires : goal.take_byte-requires
take_byte-requires g c = c.loop-at.invariant.reads

pub returns-in_err-status-clause-taken : goal.returns-in_err-status-clause-taken
returns-in_err-status-clause-taken g c = λ skew bytes from h.
    let e = err_from_is_err_and c.from_residual.result c.from_residual.ensures.1 in
    let at = c.loop-at.at in
    let piece = c.args.piece.now in
    let front = bytes ++ take at piece in
    rw (e.1, e.2)
    (subst (λ (l : List ℕ). Taken c.args.plan.now skew l from (g.W.Write.contents c.take_byte.new.out) c.take_byte.new.self (Err c.in_err-status.field-0.0))
    (whole_piece bytes piece at c.loop-at-test.true)
    (fault_on c.args.plan.now skew (front ++ get_or piece at 0 ∷ []) (drop (at + 1) piece) from (g.W.Write.contents c.take_byte.new.out) c.take_byte.new.self c.in_err-status.field-0.0
    (c.in_err-status.ensures.taken skew front from (c.loop-at.invariant.at skew bytes from h))))

pub returns-in-Some-clause-taken : goal.returns-in-Some-clause-taken
returns-in-Some-clause-taken g c = λ skew bytes from h.
    let at = c.loop-at.at in
    let piece = c.args.piece.now in
    let front = bytes ++ take at piece in
    subst (λ (l : List ℕ). Taken c.args.plan.now skew l from (g.W.Write.contents c.take_byte.new.out) c.take_byte.new.self (Ok (Some c.in-Some.status)))
    (whole_piece bytes piece at c.loop-at-test.true)
    (status_on c.args.plan.now skew (front ++ get_or piece at 0 ∷ []) (drop (at + 1) piece) from (g.W.Write.contents c.take_byte.new.out) c.take_byte.new.self c.in-Some.status
    (subst (λ (o : Option Status). Taken c.args.plan.now skew (front ++ get_or piece at 0 ∷ []) from (g.W.Write.contents c.take_byte.new.out) c.take_byte.new.self (Ok o)) c.in-Some.is
    (c.in_ok-status.ensures.taken skew front from (c.loop-at.invariant.at skew bytes from h))))

pub loop-at-preserved : goal.loop-at-preserved
loop-at-preserved g c = record {
  reads = c.in_ok-status.ensures.reads;
  at = λ skew bytes from h.
      let at = c.loop-at.at in
      let piece = c.args.piece.now in
      let front = bytes ++ take at piece in
      subst (λ (l : List ℕ). IsAt c.args.plan.now skew c.take_byte.new.self l from (g.W.Write.contents c.take_byte.new.out)) (next_piece bytes piece at c.loop-at-test.true)
      (subst (λ (o : Option Status). Taken c.args.plan.now skew (front ++ get_or piece at 0 ∷ []) from (g.W.Write.contents c.take_byte.new.out) c.take_byte.new.self (Ok o)) c.in_default.is
      (c.in_ok-status.ensures.taken skew front from (c.loop-at.invariant.at skew bytes from h)));
}

pub returns-clause-taken : goal.returns-clause-taken
returns-clause-taken g c = λ skew bytes from h.
    subst (λ (l : List ℕ). IsAt c.args.plan.now skew c.loop-at.self l from (g.W.Write.contents c.loop-at.out))
    (ap (λ (l : List ℕ). bytes ++ l) (take_all c.loop-at.at c.args.piece.now (grind arith)))
    (c.loop-at.invariant.at skew bytes from h)
