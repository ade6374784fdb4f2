use Rattle.std.proofs.Common.{◌++◌, ℕ, List, take}
use Rattle.vme_captures.specs.declared.signals.Entry.{Entry}
use Rattle.vme_captures.specs.Feeding.{HasRead}
use Rattle.vme_captures.proofs.reader.Reader.feed.Given as goal

abbrev pub invariant-loop-at : goal.invariant-loop-at
invariant-loop-at l = (bytes : List ℕ) (said : List Entry) → HasRead l.plan l.fn.self bytes said
    → HasRead l.plan l.self (bytes ++ take l.at l.piece) said
