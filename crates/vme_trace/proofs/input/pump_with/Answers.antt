use Rattle.std.proofs.Common.{length, arith, sym, ◌∙◌}
use Rattle.std.proofs.lemmas.Result.{err_from_is_err_and}
use Rattle.vme_trace.specs.Pieces.{ReadsUpTo}
use Rattle.vme_trace.proofs.FedReader.{pumped_end, pumped_end_fault, pumped_fault}
use Rattle.vme_trace.proofs.input.pump_with.Goals as goal

pub returns-in_err-finish-clause-reads : goal.returns-in_err-finish-clause-reads
returns-in_err-finish-clause-reads g c = λ bytes es read.
    let piece : ReadsUpTo (length c.args.buffer.now) (g.R.Read.remaining c.args.input.now) (g.R.Read.remaining c.read_patiently.new.input) c.read_patiently.new.buffer c.in-Ok.count =
    (grind arith, c.in-Ok.ensures.bytes.0, λ none. c.in-Ok.ensures.bytes.1 none (omega arith)) in
    let p = err_from_is_err_and c.from_residual.result c.from_residual.ensures.1 in
    rw (p.1, p.2)
    (pumped_end_fault _ _ _ bytes es _ _ piece _ read _ _ _ c.if-count-eq0.true (sym c.in_err-finish.was ∙ c.finish.ensures.ends bytes es read)
    c.finish.ensures.used_up c.finish.ensures.version)

pub returns-then-count-eq0-clause-reads : goal.returns-then-count-eq0-clause-reads
returns-then-count-eq0-clause-reads g c = λ bytes es read.
    let piece : ReadsUpTo (length c.args.buffer.now) (g.R.Read.remaining c.args.input.now) (g.R.Read.remaining c.read_patiently.new.input) c.read_patiently.new.buffer c.in-Ok.count =
    (grind arith, c.in-Ok.ensures.bytes.0, λ none. c.in-Ok.ensures.bytes.1 none (omega arith)) in
    pumped_end _ _ _ bytes es _ _ piece _ read _ _ c.if-count-eq0.true (sym c.in_ok-finish.was ∙ c.finish.ensures.ends bytes es read)
    c.finish.ensures.used_up c.finish.ensures.version

pub returns-in_err-feed-clause-reads : goal.returns-in_err-feed-clause-reads
returns-in_err-feed-clause-reads g c = λ bytes es read.
    let piece : ReadsUpTo (length c.args.buffer.now) (g.R.Read.remaining c.args.input.now) (g.R.Read.remaining c.read_patiently.new.input) c.read_patiently.new.buffer c.in-Ok.count =
    (grind arith, c.in-Ok.ensures.bytes.0, λ none. c.in-Ok.ensures.bytes.1 none (omega arith)) in
    let p = err_from_is_err_and c.from_residual-in_err-feed.result c.from_residual-in_err-feed.ensures.1 in
    rw (p.1, p.2) (pumped_fault _ _ _ bytes es _ _ piece _ read _ _ _ _ (c.in_err-feed.ensures.reads bytes es read))
