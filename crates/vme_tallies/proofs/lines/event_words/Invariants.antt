use Rattle.std.proofs.Common.{◌≡◌, ◌*◌, ◌≤◌, ◌++◌, codes, length, take}
use Rattle.std.specs.Prelude.{◌==◌, filter}
use Rattle.std.specs.List.{flat_map}
use Rattle.vme_events.specs.Events.{event_text}
use Rattle.vme_tallies.specs.Tally.{times_met}
use Rattle.vme_tallies.specs.Tallied.{OfTally}
use Rattle.vme_tallies.proofs.lines.event_words.Given as goal

abbrev pub invariant-loop-event : goal.invariant-loop-event
invariant-loop-event l = record {
  words : OfTally l.tally (λ t. l.words.items ≡ flat_map (λ v. codes " " ++ event_text v) (filter (λ v. times_met v t == 0) (take l.event-index l.event-items)));
  room : length l.words.items ≤ 15 * l.event-index;
}
