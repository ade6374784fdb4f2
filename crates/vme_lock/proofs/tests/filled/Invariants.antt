use Rattle.std.specs.Prelude.{◌≡◌, length}
use Rattle.vme_lock.proofs.tests.filled.Given as goal

abbrev pub invariant-loop-edge : goal.invariant-loop-edge
invariant-loop-edge l = (length l.pages.edges ≡ l._edge) × (l.log ≡ l.initial.log)
