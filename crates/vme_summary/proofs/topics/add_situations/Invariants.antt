use Rattle.std.proofs.Common.{◌≡◌, ◌+◌, ◌++◌, length, take}
use Rattle.std.specs.Prelude.{map}
use Rattle.vme_summary.specs.declared.topics.Topic.TheVariants.{Met}
use Rattle.vme_summary.proofs.topics.add_situations.Given as goal

abbrev pub invariant-loop-event : goal.invariant-loop-event
invariant-loop-event l = record {
  items : l.topics.items ≡ l.fn.topics.items ++ map (λ v. Met v) (take l.event-index l.event-items);
  room : length l.topics.items ≡ length l.fn.topics.items + l.event-index;
}
