-- The parts of the block that says where a bus stands.
use Rattle.std.specs.Prelude.{◌++◌, ℕ, List, [], ◌∷◌, filter, length, nat_lt}
use Rattle.std.specs.List.{flat_map}
use Rattle.vme_model.specs.declared.signals.Driver.{Driver}
use Rattle.vme_model.specs.Verdict.{State}
use Rattle.vme_model.specs.Numbered.{Numbered}
use Rattle.vme_model.specs.Stands.{after_text, asks_text, grant_text, holder_text, lines_of, low_text, open_line, pending_text, shown_text}
use Rattle.vme_explain.specs.declared.stands.Topic.{Topic}
use Rattle.vme_explain.specs.declared.stands.Topic.TheVariants.{Asks, Pending, Low, Open}

-- what is printed about the whole bus
abbrev pub bus_text : ℕ → State → Numbered → List ℕ
bus_text n b k =
    (after_text n (length b.history) ++ 10 ∷ [])
    ++ (holder_text b k ++ 10 ∷ [])
    ++ (grant_text b ++ 10 ∷ [])
    ++ (shown_text b k ++ 10 ∷ [])

-- what a line says of a driver
abbrev pub topic_text : Topic → State → Numbered → Driver → List ℕ
topic_text Asks b k d = asks_text b k d
topic_text Pending b k d = pending_text b k d
topic_text Low b k d = low_text b d
topic_text Open b k d = open_line b d

-- a line for each of some drivers of which there is something to push_witness
abbrev pub lines_for : (Driver → List ℕ) → List Driver → List ℕ
lines_for text ds = flat_map (λ d. text d ++ 10 ∷ []) (filter (λ d. nat_lt 0 (length (text d))) ds)

-- what is printed about the drivers
abbrev pub drivers_text : State → Numbered → List ℕ
drivers_text b k =
    lines_of b (asks_text b k)
    ++ lines_of b (pending_text b k)
    ++ lines_of b (low_text b)
    ++ lines_of b (open_line b)
