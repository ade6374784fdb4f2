use Rattle.std.proofs.Common.{◌≡◌, ◌++◌, [], ℕ, List, Option, Ok, Err, subst, append-nil, take}
use Rattle.std.proofs.KnownBytes.{Consumes-trans}
use Rattle.std.proofs.lemmas.Result.{err_from_is_err_and}
use Rattle.std.specs.Io.KnownBytes.{Consumes}
use Rattle.vme_reading.specs.declared.Status.{Status}
use Rattle.vme_probe.specs.Reads.{ReadsTo, Taken}
use Rattle.vme_probe.proofs.Answered.{ended, failed, not_read, reads_flushed, reads_kept, stopped, unflushed}
use Rattle.vme_probe.proofs.probes.Judging.take_read.Goals as goal

pub returns-in-Err-clause-taken : goal.returns-in-Err-clause-taken
returns-in-Err-clause-taken g c = λ skew from out_from h.
    rw (c.in-Err.ensures.fault)
    (not_read c.args.plan.now skew from (g.R.Read.remaining c.read_piece.new.input) out_from (g.W.Write.contents c.args.out.now) c.args.self.now
    (reads_kept c.args.plan.now skew c.args.self.now from (g.R.Read.remaining c.args.capture.now) (g.R.Read.remaining c.read_piece.new.input) out_from
    (g.W.Write.contents c.args.out.now) h c.in-Err.ensures.err))

nothing_taken : (from mid to : Option (List ℕ)) (bytes buffer : List ℕ) (n : ℕ) → n ≡ 0 → Consumes from mid bytes → Consumes mid to (take n buffer) → Consumes from to bytes
nothing_taken from mid to bytes buffer n none first more =
    subst (λ (l : List ℕ). Consumes from to l) (append-nil bytes)
    (Consumes-trans from mid to bytes [] first (subst (λ k. Consumes mid to (take k buffer)) none more))

pub returns-in_err-finish-clause-taken : goal.returns-in_err-finish-clause-taken
returns-in_err-finish-clause-taken g c = λ skew from out_from h.
    let e = err_from_is_err_and c.from_residual.result c.from_residual.ensures.1 in
    rw (e.1, e.2)
    (ended c.args.plan.now skew from (g.R.Read.remaining c.read_piece.new.input) out_from (g.W.Write.contents c.finish.new.out) h.bytes
    (nothing_taken from (g.R.Read.remaining c.args.capture.now)
    (g.R.Read.remaining c.read_piece.new.input) h.bytes c.read_piece.new.buffer c.in-Ok.count c.if-count-eq0.true h.consumed c.in-Ok.ensures.ok.1)
    (c.in-Ok.ensures.ok.2 c.if-count-eq0.true) (Err c.in_err-finish.field-0.0) (c.in_err-finish.ensures.taken skew h.bytes out_from h.at))

pub returns-then-count-eq0-clause-taken : goal.returns-then-count-eq0-clause-taken
returns-then-count-eq0-clause-taken g c = λ skew from out_from h.
    ended c.args.plan.now skew from (g.R.Read.remaining c.read_piece.new.input) out_from (g.W.Write.contents c.finish.new.out) h.bytes
    (nothing_taken from (g.R.Read.remaining c.args.capture.now)
    (g.R.Read.remaining c.read_piece.new.input) h.bytes c.read_piece.new.buffer c.in-Ok.count c.if-count-eq0.true h.consumed c.in-Ok.ensures.ok.1)
    (c.in-Ok.ensures.ok.2 c.if-count-eq0.true) (Ok c.in_ok-finish.field-0) (c.in_ok-finish.ensures.taken skew h.bytes out_from h.at)

pub returns-in_err-status-clause-taken : goal.returns-in_err-status-clause-taken
returns-in_err-status-clause-taken g c = λ skew from out_from h.
    let e = err_from_is_err_and c.from_residual-in_err-status.result c.from_residual-in_err-status.ensures.1 in
    let piece = take c.in-Ok.count c.read_piece.new.buffer in
    rw (e.1, e.2)
    (failed c.args.plan.now skew from (g.R.Read.remaining c.read_piece.new.input) out_from (g.W.Write.contents c.take_piece.new.out) c.take_piece.new.self (h.bytes ++ piece)
    (Consumes-trans from (g.R.Read.remaining c.args.capture.now) (g.R.Read.remaining c.read_piece.new.input) h.bytes piece h.consumed c.in-Ok.ensures.ok.1)
    c.in_err-status.field-0.0 (c.in_err-status.ensures.taken skew h.bytes out_from h.at))

pub returns-in-Some-clause-taken : goal.returns-in-Some-clause-taken
returns-in-Some-clause-taken g c = λ skew from out_from h.
    let piece = take c.in-Ok.count c.read_piece.new.buffer in
    stopped c.args.plan.now skew from (g.R.Read.remaining c.read_piece.new.input) out_from (g.W.Write.contents c.take_piece.new.out) c.take_piece.new.self (h.bytes ++ piece)
    (Consumes-trans from (g.R.Read.remaining c.args.capture.now) (g.R.Read.remaining c.read_piece.new.input) h.bytes piece h.consumed c.in-Ok.ensures.ok.1)
    c.in-Some.status
    (subst (λ (o : Option Status). Taken c.args.plan.now skew (h.bytes ++ piece) out_from (g.W.Write.contents c.take_piece.new.out) c.take_piece.new.self (Ok o)) c.in-Some.is
    (c.in_ok-status.ensures.taken skew h.bytes out_from h.at))

pub returns-in_err-flush_if-clause-taken : goal.returns-in_err-flush_if-clause-taken
returns-in_err-flush_if-clause-taken g c = λ skew from out_from h.
    let e = err_from_is_err_and c.from_residual-in_err-flush_if.result c.from_residual-in_err-flush_if.ensures.1 in
    let piece = take c.in-Ok.count c.read_piece.new.buffer in
    let reads : ReadsTo c.args.plan.now skew c.take_piece.new.self from (g.R.Read.remaining c.read_piece.new.input) out_from (g.W.Write.contents c.take_piece.new.out) =
    record {
      bytes = h.bytes ++ piece;
      at =
          subst (λ (o : Option Status). Taken c.args.plan.now skew (h.bytes ++ piece) out_from (g.W.Write.contents c.take_piece.new.out) c.take_piece.new.self (Ok o)) c.in_default.is
          (c.in_ok-status.ensures.taken skew h.bytes out_from h.at);
      consumed = Consumes-trans from (g.R.Read.remaining c.args.capture.now) (g.R.Read.remaining c.read_piece.new.input) h.bytes piece h.consumed c.in-Ok.ensures.ok.1;
    } in
    rw (e.1, e.2)
    (unflushed c.args.plan.now skew c.take_piece.new.self from (g.R.Read.remaining c.read_piece.new.input) out_from (g.W.Write.contents c.take_piece.new.out) (g.W.Write.contents c.flush_if.new.out)
    c.in_err-flush_if.field-0.0 c.in_err-flush_if.ensures.fault reads c.in_err-flush_if.ensures.kept)

pub returns-clause-taken : goal.returns-clause-taken
returns-clause-taken g c = λ skew from out_from h.
    let piece = take c.in-Ok.count c.read_piece.new.buffer in
    let reads : ReadsTo c.args.plan.now skew c.take_piece.new.self from (g.R.Read.remaining c.read_piece.new.input) out_from (g.W.Write.contents c.take_piece.new.out) =
    record {
      bytes = h.bytes ++ piece;
      at =
          subst (λ (o : Option Status). Taken c.args.plan.now skew (h.bytes ++ piece) out_from (g.W.Write.contents c.take_piece.new.out) c.take_piece.new.self (Ok o)) c.in_default.is
          (c.in_ok-status.ensures.taken skew h.bytes out_from h.at);
      consumed = Consumes-trans from (g.R.Read.remaining c.args.capture.now) (g.R.Read.remaining c.read_piece.new.input) h.bytes piece h.consumed c.in-Ok.ensures.ok.1;
    } in
    reads_flushed c.args.plan.now skew c.take_piece.new.self from (g.R.Read.remaining c.read_piece.new.input) out_from (g.W.Write.contents c.take_piece.new.out) (g.W.Write.contents c.flush_if.new.out)
    reads c.in_ok-flush_if.ensures.kept
