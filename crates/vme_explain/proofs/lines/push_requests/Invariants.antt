use Rattle.std.proofs.Common.{◌≡◌, ◌≤◌, ◌+◌, ◌++◌, take, length, map}
use Rattle.std.specs.Prelude.{filter, option_map}
use Rattle.vme_model.specs.declared.signals.Wire.TheVariants.{Br}
use Rattle.vme_model.specs.Numbered.{Numbered, edges_in}
use Rattle.vme_model.specs.Witnesses.{wire_at, holds_low, requester_of}
use Rattle.vme_explain.specs.Marked.{IsMarksOf}
use Rattle.vme_explain.proofs.lines.push_requests.Given as goal

abbrev pub invariant-loop-driver : goal.invariant-loop-driver
invariant-loop-driver l = record {
  witnesses : (k : Numbered) → edges_in k ≡ l.bus.history → IsMarksOf l.bus.plan k l.marks →
      l.witnesses.items ≡ l.fn.witnesses.items ++ map (λ d. wire_at l.bus k d Br (option_map (λ q. q.level) (requester_of l.bus d))) (filter (holds_low l.bus Br) (take l.driver-index l.driver-items));
  few : length l.witnesses.items ≤ length l.fn.witnesses.items + l.driver-index;
}
