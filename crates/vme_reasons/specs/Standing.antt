-- The parts of the block that tells where a bus stands: what a line tells of a driver, and the
-- lines of some drivers.
use Rattle.std.specs.Prelude.{◌++◌, List, [], ◌∷◌, ℕ, Option, filter, nat_lt, length, if◌then◌else◌}
use Rattle.std.specs.List.{flat_map}
use Rattle.vme_model.specs.declared.signals.Driver.{Driver}
use Rattle.vme_model.specs.Verdict.{State}
use Rattle.vme_model.specs.Numbered.{Numbered}
use Rattle.vme_model.specs.Stands.{asks_text, pending_text, low_text, open_line}
use Rattle.vme_reasons.specs.declared.stands.Topic.{Topic}
use Rattle.vme_reasons.specs.declared.stands.Topic.TheVariants.{Asks, Pending, Low, Open}

-- what is told of a driver
abbrev pub topic_text : Topic → State → Numbered → Driver → List ℕ
topic_text Asks b k d = asks_text b k d
topic_text Pending b k d = pending_text b k d
topic_text Low b k d = low_text b d
topic_text Open b k d = open_line b d

-- a line of its own, where there is something to tell
abbrev pub line_of : List ℕ → List ℕ
line_of [] = []
line_of (x ∷ xs) = x ∷ xs ++ 10 ∷ []

-- the lines of some drivers
abbrev pub lines_for : (Driver → List ℕ) → List Driver → List ℕ
lines_for text ds = flat_map (λ d. line_of (text d)) ds
