use Rattle.std.proofs.Common.{◌≡◌, drop, map}
use Rattle.std.specs.Prelude.{◌&&◌}
use Rattle.std.specs.List.{list_all}
use Rattle.vme_bus.specs.Answers.{answer_of, is_plain}
use Rattle.vme_replay.proofs.tails.are_plain.Given as goal

abbrev pub invariant-loop-found : goal.invariant-loop-found
invariant-loop-found l = record {
  run : (l.are && list_all is_plain (map answer_of (drop l.found-index l.records))) ≡ list_all is_plain (map answer_of l.records);
}
