use Rattle.std.proofs.Common.{◌≡◌, ◌+◌, drop, map}
use Rattle.vme_bus.specs.Answers.{answer_of}
use Rattle.vme_check.specs.Unrefused.{first_refused_of}
use Rattle.vme_check.proofs.checks.first_refused_of.Given as goal

abbrev pub invariant-loop-found : goal.invariant-loop-found
invariant-loop-found l = record {
  number : l.n ≡ l.judged + l.found-index;
  run : first_refused_of (l.judged + 1) (map answer_of l.records) ≡ first_refused_of (l.n + 1) (map answer_of (drop l.found-index l.records));
}
