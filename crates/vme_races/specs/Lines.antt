-- The lines that report the races of a trace. (Profile.)
use Rattle.std.specs.Prelude.{ℕ, ◌+◌, Bool, if◌then◌else◌, List, [], ◌∷◌, ◌++◌, length, codes, decimal, nat_lt, Option, Some, None, Err}
use Rattle.vme_model.specs.declared.signals.Edge.{Edge}
use Rattle.vme_model.specs.declared.refusals.Refused.{Refused}
use Rattle.vme_model.specs.Numbered.{Numbered}
use Rattle.vme_model.specs.Report.{verdict_text}
use Rattle.vme_swaps.specs.Stops.{is_race, is_wait}
use Rattle.vme_swaps.specs.StopLines.{edge_text, races_text, stop_text}
use Rattle.vme_swaps.specs.declared.stops.Stop.{Stop}
use Rattle.vme_swaps.specs.declared.stops.Stop.TheVariants.{Races}
use Rattle.vme_races.specs.declared.walks.Walk.{Walk}

-- the line of an accepted edge, the n-th: that of its race, if it has one
abbrev pub race_line : ℕ → Edge → Stop → List ℕ
race_line n e (Races m a outcome) = (edge_text n e ++ races_text m a outcome) ++ 10 ∷ []
race_line n e _ = []

-- the lines of all accepted edges, in the order of time; the newest edge and its walk are first
abbrev pub race_lines : Numbered → List Walk → List ℕ
race_lines ((n, e) ∷ k) (walk ∷ walks) = race_lines k walks ++ race_line n e walk.stop
race_lines _ _ = []

-- ---- the line of one edge

-- since where an edge stands, if it came back
abbrev pub since_text : Option ℕ → List ℕ
since_text None = []
since_text (Some n) = codes " free since " ++ decimal n

-- the line of an accepted edge, the n-th, and that of one that is refused
abbrev pub walk_line : ℕ → Edge → Walk → List ℕ
walk_line n e walk = ((edge_text n e ++ since_text walk.since) ++ stop_text walk.stop) ++ 10 ∷ []

abbrev pub refused_line : ℕ → Edge → Refused → List ℕ
refused_line n e refused = ((edge_text n e ++ codes " ") ++ verdict_text (Err refused)) ++ 10 ∷ []

-- ---- the last line

-- it came back over one edge at the least
abbrev pub is_back : Walk → Bool
is_back walk = nat_lt 0 walk.passed

abbrev pub count_if : Bool → ℕ
count_if test = if test then 1 else 0

-- how many race, how many wait, and how many came back
abbrev pub races_in : List Walk → ℕ
races_in [] = 0
races_in (walk ∷ walks) = races_in walks + count_if (is_race walk.stop)

abbrev pub waits_in : List Walk → ℕ
waits_in [] = 0
waits_in (walk ∷ walks) = waits_in walks + count_if (is_wait walk.stop)

abbrev pub free_in : List Walk → ℕ
free_in [] = 0
free_in (walk ∷ walks) = free_in walks + count_if (is_back walk)

abbrev pub counts_text : ℕ → ℕ → ℕ → ℕ → List ℕ
counts_text accepted races waits free =
    (((((((codes "accepted " ++ decimal accepted) ++ codes " races ") ++ decimal races)
    ++ codes " waits ") ++ decimal waits) ++ codes " free ") ++ decimal free)
    ++ 10 ∷ []

abbrev pub last_line : Numbered → List Walk → List ℕ
last_line k walks = counts_text (length k) (races_in walks) (waits_in walks) (free_in walks)
