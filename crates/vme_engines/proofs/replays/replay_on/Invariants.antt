use Rattle.std.proofs.Common.{◌≡◌, ℕ, ◌-◌, List, Option, Some}
use Rattle.vme_model.specs.declared.signals.Version.{Version}
use Rattle.vme_model.specs.Plan.{Plan}
use Rattle.vme_engines.specs.Outcomes.{bench}
use Rattle.vme_engines.specs.Steps.{Comes, IsCounted}
use Rattle.vme_engines.proofs.Replaying.{IsReplaying}
use Rattle.vme_engines.proofs.replays.replay_on.Given as goal

abbrev pub invariant-reads : goal.invariant-reads
invariant-reads g l = record {
  counted : IsCounted l.reader (l.fn.reads - l.counter) l.judged;
  replaying : (p : Plan) (version : Version) (from : Option (List ℕ)) (text head : List ℕ) → l.fn.backplane ≡ bench p version → l.fn.reader.version ≡ Some version
      → Comes from (g.R.Read.remaining l.fn.input) text head l.fn.reads l.fn.reader l.fn.edges.items l.fn.first
      → IsReplaying p version text head from (g.R.Read.remaining l.input) (g.W.Write.contents l.fn.out) (g.W.Write.contents l.out) l.backplane l.reader l.judged (l.fn.reads - l.counter);
}
