use Rattle.std.proofs.Common.{ℕ, List, ◌++◌, take}
use Rattle.vme_replay.specs.Front.{IsFront}
use Rattle.vme_replay.proofs.joins.Front.find.Given as goal

abbrev pub invariant-loop-place : goal.invariant-loop-place
invariant-loop-place l = (bytes : List ℕ) → IsFront l.fn.self bytes → IsFront l.self (bytes ++ take l.place l.piece)
