use Rattle.std.proofs.Common.{◌≡◌, ◌*◌, ◌≤◌, ◌++◌, codes, length, get_or, take}
use Rattle.std.specs.Prelude.{◌==◌, filter}
use Rattle.std.specs.List.{flat_map}
use Rattle.vme_goals.specs.Events.{event_index, event_text}
use Rattle.vme_summary.proofs.lines.event_words.Given as goal

abbrev pub invariant-loop-event : goal.invariant-loop-event
invariant-loop-event l = record {
  words : l.words.items ≡ flat_map (λ v. codes " " ++ event_text v) (filter (λ v. get_or l.times (event_index v) 0 == 0) (take l.event-index l.event-items));
  room : length l.words.items ≤ 15 * l.event-index;
}
