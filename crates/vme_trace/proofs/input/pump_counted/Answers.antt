use Rattle.std.proofs.Common.{length, arith, sym, ◌∙◌}
use Rattle.vme_trace.specs.Pieces.{ReadsUpTo}
use Rattle.vme_trace.proofs.FedReader.{pumped_end, pumped_end_fault, pumped_fault}
use Rattle.vme_trace.proofs.input.pump_counted.Goals as goal

pub returns-in-Err-clause-reads : goal.returns-in-Err-clause-reads
returns-in-Err-clause-reads g c = λ bytes es read.
    let piece : ReadsUpTo (length c.args.buffer.now) (g.R.Read.remaining c.args.input.now) (g.R.Read.remaining c.read_patiently.new.input) c.read_patiently.new.buffer c.in-Ok.count =
    (grind arith, c.in-Ok.ensures.bytes.0, λ none. c.in-Ok.ensures.bytes.1 none (omega arith)) in
    pumped_end_fault _ _ _ bytes es _ _ piece _ read _ _ _ c.if-count-eq0.true (sym c.in-Err.is ∙ c.finish.ensures.ends bytes es read)
    c.finish.ensures.used_up c.finish.ensures.version

pub returns-in-Ok-finish-clause-reads : goal.returns-in-Ok-finish-clause-reads
returns-in-Ok-finish-clause-reads g c = λ bytes es read.
    let piece : ReadsUpTo (length c.args.buffer.now) (g.R.Read.remaining c.args.input.now) (g.R.Read.remaining c.read_patiently.new.input) c.read_patiently.new.buffer c.in-Ok.count =
    (grind arith, c.in-Ok.ensures.bytes.0, λ none. c.in-Ok.ensures.bytes.1 none (omega arith)) in
    pumped_end _ _ _ bytes es _ _ piece _ read _ _ c.if-count-eq0.true (sym c.in-Ok-finish.is ∙ c.finish.ensures.ends bytes es read)
    c.finish.ensures.used_up c.finish.ensures.version

pub returns-in-Err-feed-clause-reads : goal.returns-in-Err-feed-clause-reads
returns-in-Err-feed-clause-reads g c = λ bytes es read.
    let piece : ReadsUpTo (length c.args.buffer.now) (g.R.Read.remaining c.args.input.now) (g.R.Read.remaining c.read_patiently.new.input) c.read_patiently.new.buffer c.in-Ok.count =
    (grind arith, c.in-Ok.ensures.bytes.0, λ none. c.in-Ok.ensures.bytes.1 none (omega arith)) in
    pumped_fault _ _ _ bytes es _ _ piece _ read _ _ _ _ (c.in-Err-feed.ensures.reads bytes es read)
