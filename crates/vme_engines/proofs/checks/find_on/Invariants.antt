use Rattle.std.proofs.Common.{◌≡◌, ℕ, ◌-◌, List, [], Option, Some}
use Rattle.vme_model.specs.declared.signals.Version.{Version}
use Rattle.vme_model.specs.Plan.{Plan}
use Rattle.vme_engines.specs.Outcomes.{bench}
use Rattle.vme_engines.specs.Steps.{Comes, IsCounted}
use Rattle.vme_engines.proofs.Checked.{IsChecking}
use Rattle.vme_engines.proofs.checks.find_on.Given as goal

abbrev pub invariant-reads : goal.invariant-reads
invariant-reads g l = record {
  counted : IsCounted l.reader (l.fn.reads - l.counter) l.judged;
  checking : (p : Plan) (version : Version) (from : Option (List ℕ)) → l.fn.backplane ≡ bench p version → l.fn.reader.version ≡ Some version
      → Comes from (g.R.Read.remaining l.fn.input) [] [] l.fn.reads l.fn.reader l.fn.edges.items l.fn.first
      → IsChecking p version from (g.R.Read.remaining l.input) l.backplane l.reader l.judged (l.fn.reads - l.counter);
}
