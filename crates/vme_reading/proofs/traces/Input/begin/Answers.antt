use Rattle.std.proofs.Common.{[], Bool, Result, sym, ◌∙◌, subst}
use Rattle.vme_trace.specs.declared.Fault.{Fault}
use Rattle.vme_reading.specs.Steps.{Opens}
use Rattle.vme_reading.proofs.FirstReads.{counted_first, unbegun}
use Rattle.vme_reading.proofs.FormedEdges.{formed_first}
use Rattle.vme_reading.proofs.traces.Input.begin.Goals as goal

pub returns-in-Some-clause-ready : goal.returns-in-Some-clause-ready
returns-in-Some-clause-ready g c = record {
  counted = counted_first _ _ [] _ _ _ _ c.open-first.ensures.0;
  well_formed = formed_first _ _ [] _ _ _ _ c.open-first.ensures.0;
}

pub returns-in-Err-clause-unbegun : goal.returns-in-Err-clause-unbegun
returns-in-Err-clause-unbegun g c =
    let opens = subst (λ (a : Result Bool Fault). Opens (g.R.Read.remaining c.args.trace.now) (g.R.Read.remaining c.open-first.new.input) c.open-first.new.reader c.open-first.new.edges.items
    (a, c.open-first.result.1)) c.in-Err.is c.open-first.ensures in
    unbegun _ _ _ _ c.open-first.result.1 (sym c.version.ensures ∙ c.in-None.is) c.in-Err.fault opens
