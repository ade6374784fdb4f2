-- Edges that are numbered by their places in a history, and numbers that grow. (Profile.)
use Rattle.std.specs.Prelude.{◌+◌, ◌<◌, ℕ, List, [], ◌∷◌, length}
use Rattle.vme_model.specs.declared.signals.Edge.{Edge}
use Rattle.vme_model.specs.Numbered.{Numbered}

-- a history's edges, each with its place, from 1
abbrev pub by_place : List Edge → Numbered
by_place [] = []
by_place (e ∷ h) = (length h + 1, e) ∷ by_place h

-- the newest edge has a number below n, and each other one a number below that of the edge behind it
abbrev pub AreBelow : ℕ → Numbered → Type 0
AreBelow n [] = Unit {0}
AreBelow n ((m, e) ∷ k) = (m < n) × AreBelow m k
