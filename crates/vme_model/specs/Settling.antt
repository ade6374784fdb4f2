-- The settling rules, which look at more than one board. They stand for the standard's minimum
-- times. (Profile.)
use Rattle.std.specs.Prelude.{◌&&◌, ◌||◌, ℕ, Bool, true, false, not, Option, Some, None, List, is_none}
use Rattle.std.specs.List.{list_all}
use Rattle.vme_model.specs.declared.conditions.Condition.{Condition}
use Rattle.vme_model.specs.declared.conditions.Condition.TheVariants.{ChainHigh, NobodyCanAnswer, PassedTheLastBoard, GrantsThrough}
use Rattle.vme_model.specs.declared.sets.ChainId.{ChainId}
use Rattle.vme_model.specs.declared.sets.ChainId.TheVariants as chain
use Rattle.vme_model.specs.declared.signals.Version.{Version}
use Rattle.vme_model.specs.declared.signals.Driver.TheVariants.{Slot}
use Rattle.vme_model.specs.declared.signals.Wire.{Wire}
use Rattle.vme_model.specs.declared.signals.Wire.TheVariants.{Bg, Berr, BgOut, Bbsy, AddressStrobe}
use Rattle.vme_model.specs.declared.signals.Cycle.{Cycle}
use Rattle.vme_model.specs.declared.signals.Cycle.TheVariants.{Acknowledge, Access}
use Rattle.vme_model.specs.declared.signals.Edge.{Edge}
use Rattle.vme_model.specs.Signals.{is_two}
use Rattle.vme_model.specs.Plan.{Plan, board, active, grant_chain}
use Rattle.vme_model.specs.History.{drive, line, shown, segment, is_past_end}
use Rattle.vme_model.specs.Guards.{Guard, free, asks, unless, holds, failed}

-- S1: every segment of the chain is high, the controller's and each board's output
abbrev pub is_chain_clear : Plan → List Edge → ChainId → Bool
is_chain_clear p h c =
    not (segment h c None) && list_all (λ s. not (segment h c (Some s))) (active p c)

-- S2: nobody can answer what is shown: the acknowledge has passed every board, or the slot has no
-- board
abbrev pub is_unanswerable : Plan → List Edge → Option Cycle → Bool
is_unanswerable p h (Some (Acknowledge level)) = is_past_end p h chain.Iack
is_unanswerable p h (Some (Access s)) = is_none (board p s)
is_unanswerable p h None = false

-- S4: every board's output is high, on all four grant chains; that the controller's segments are
-- high too is G1's own guard
abbrev pub are_grants_through : Plan → List Edge → Bool
are_grants_through p h = list_all (λ r. not (drive h (Slot r.slot) BgOut)) p.rows

-- S1: no cycle begins before the acknowledge chain of the last one is high again
abbrev pub as_settles : Bool → Guard
as_settles is_clear = asks ChainHigh is_clear

-- S2: a cycle that a board can answer is not timed out
abbrev pub berr_settles : Bool → Guard
berr_settles is_beyond_answer = asks NobodyCanAnswer is_beyond_answer

-- S3, in the second version alone: a grant that nobody took is timed out once it has passed every
-- board
abbrev pub bg_rise_settles : Version → Bool → Bool → Guard
bg_rise_settles version bbsy is_past =
    unless (not (is_two version) || bbsy) (asks PassedTheLastBoard is_past)

-- S4, in the second version alone: no grant begins before every earlier one has risen through
abbrev pub bg_fall_settles : Version → Bool → Guard
bg_fall_settles version are_through = unless (not (is_two version)) (asks GrantsThrough are_through)

-- The number of the settling rule that names a wire and a direction, and its guard; 0 and a guard
-- that always holds if no settling rule names them.
abbrev pub settling_guard : Version → Plan → List Edge → Wire → Bool → ℕ × Guard
settling_guard version p h AddressStrobe true = (1, as_settles (is_chain_clear p h chain.Iack))
settling_guard version p h Berr true = (2, berr_settles (is_unanswerable p h (shown p h)))
settling_guard version p h (Bg n) false =
    (3, bg_rise_settles version (line p h Bbsy) (is_past_end p h (grant_chain n)))
settling_guard version p h (Bg n) true = (4, bg_fall_settles version (are_grants_through p h))
settling_guard version p h _ _ = (0, free)

-- the number of the settling rule that names a wire and a direction, and whether its guard holds
abbrev pub settling : Version → Plan → List Edge → Wire → Bool → ℕ × Bool
settling version p h w fall =
    ((settling_guard version p h w fall).0, holds (settling_guard version p h w fall).1)

-- the conditions of the settling rule that fail before an edge
abbrev pub unsettled : Version → Plan → List Edge → Wire → Bool → List Condition
unsettled version p h w fall = failed (settling_guard version p h w fall).1
