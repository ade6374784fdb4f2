use Rattle.std.proofs.Common.{◌≡◌, length}
use Rattle.vme_same.specs.Kept.{GoesOn}
use Rattle.vme_same.proofs.progress.Pairing.match_waiting.Given as goal

abbrev pub invariant-matches : goal.invariant-matches
invariant-matches l = record {
  going : GoesOn l.fn.self l.self;
  ended : l.self.has_ended ≡ l.fn.self.has_ended;
  over : l.self.is_over ≡ l.fn.self.is_over;
}

abbrev pub decreases-matches : goal.decreases-matches
decreases-matches l = length l.self.waiting.items
