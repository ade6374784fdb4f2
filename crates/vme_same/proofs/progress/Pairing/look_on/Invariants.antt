use Rattle.std.proofs.Common.{◌≡◌, length}
use Rattle.vme_same.specs.Kept.{IsGoing, OfGoing}
use Rattle.vme_same.proofs.progress.Pairing.look_on.Given as goal

abbrev pub invariant-looks : goal.invariant-looks
invariant-looks l = record {
  going : OfGoing l.fn.self (λ p v w k fs. IsGoing p v w k fs l.self);
  ended : l.self.has_ended ≡ l.fn.self.has_ended;
  over : l.self.is_over ≡ l.fn.self.is_over;
}

abbrev pub decreases-looks : goal.decreases-looks
decreases-looks l = length l.self.waiting.items
