use Rattle.std.proofs.Common.{◌≡◌, ◌++◌, drop, length, map, take}
use Rattle.vme_model.specs.Verdict.{kept}
use Rattle.vme_bus.specs.Answers.{answer_of, answers}
use Rattle.vme_bus.proofs.buses.Bus.step_to_end.Given as goal

abbrev pub invariant-loop-edge : goal.invariant-loop-edge
invariant-loop-edge l = record {
  at : l.at ≡ l.edge-index;
  room : length l.records ≡ length l.fn.records;
  state : kept l.fn.self l.edges ≡ kept l.self (drop l.edge-index l.edges);
  answers :
      answers l.fn.self l.edges
      ≡ map answer_of (take l.at l.records) ++ answers l.self (drop l.edge-index l.edges);
}
