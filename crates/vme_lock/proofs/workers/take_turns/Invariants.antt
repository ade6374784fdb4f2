use Rattle.std.specs.Prelude.{◌≡◌, ℕ, ◌+◌, ◌<◌, ◌≤◌, true, length, IfSome}
use Rattle.vme_lock.specs.Endings.{HasNoOffer}
use Rattle.vme_lock.proofs.workers.take_turns.Given as goal

abbrev pub invariant-loop-turn : goal.invariant-loop-turn
invariant-loop-turn g l =
    (l.seat.driver ≡ l.fn.seat.driver) × (l.seat.made ≡ l.fn.seat.made + length l.work.pages.edges)
    × (l.work.turns ≡ l._turn) × (length l.work.pages.edges ≤ l.work.turns) × (length l.work.pages.edges ≤ l.bounds.edges)
    × IfSome l.work.idle (λ i. HasNoOffer g.L.Rig.opened l.seat.driver i.seen)
    × ((t : ℕ) → t < l._turn → g.G.Gate.answers l.gate l.seat.driver t true)
