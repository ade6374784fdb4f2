-- What a bus is asked of an edge, of a driver and of a wire, without stepping it.
use Rattle.std.specs.Prelude.{ℕ, Bool, Option, Some, None, List, [], ◌∷◌, ◌++◌, map, slice_get, if◌then◌else◌}
use Rattle.std.specs.Option.{option_map_or}
use Rattle.vme_model.specs.declared.conditions.Condition.{Condition}
use Rattle.vme_model.specs.declared.conditions.Condition.TheVariants.{HasDriver}
use Rattle.vme_model.specs.declared.signals.Version.{Version}
use Rattle.vme_model.specs.declared.signals.Driver.{Driver}
use Rattle.vme_model.specs.declared.signals.Wire.{Wire}
use Rattle.vme_model.specs.declared.signals.Edge.{Edge}
use Rattle.vme_model.specs.Signals.{is_well_formed}
use Rattle.vme_model.specs.Plan.{Plan, board_of}
use Rattle.vme_model.specs.History.{shown}
use Rattle.vme_model.specs.Failing.{unmet_but_full}
use Rattle.vme_model.specs.Sources.{is_ours, profile_mark}
use Rattle.vme_model.specs.Spoken.{condition_text}
use Rattle.vme_model.specs.Text.{spelling}
use Rattle.vme_histories.specs.Opens.{open_but_full}
use Rattle.vmebus_c.specs.Bits.{bit}
use Rattle.vmebus_c.specs.Conditions.{condition_number}
use Rattle.vmebus_c.specs.Numbers.{edge_number}

-- the conditions that an edge fails; what names no edge fails that of E1, as no driver has it
abbrev pub failed_by : Version → Plan → List Edge → Option Edge → List Condition
failed_by version p h (Some e) = unmet_but_full version p h e
failed_by version p h None = HasDriver ∷ []

abbrev pub failed_numbers : Version → Plan → List Edge → Option Edge → List ℕ
failed_numbers version p h e = map condition_number (failed_by version p h e)

-- a condition of an edge as `explain` spells it, with its mark
abbrev pub marked_text : Plan → List Edge → Edge → Condition → List ℕ
marked_text p h e c =
    condition_text c e (board_of p e.driver) (shown p h) ++ profile_mark (is_ours e.wire e.fall c)

-- the text of the condition at a place among those that an edge fails; none if there are not as
-- many, or no edge
abbrev pub why_text : Version → Plan → List Edge → Option Edge → ℕ → List ℕ
why_text version p h (Some e) place =
    if is_well_formed e
    then option_map_or (marked_text p h e) (slice_get (unmet_but_full version p h e) place) []
    else []
why_text version p h None place = []

-- the line of an edge without its line feed; none if it is no edge
abbrev pub spelled : Option Edge → List ℕ
spelled (Some e) = if is_well_formed e then spelling e else []
spelled None = []

-- all edges that a driver can make, as numbers
abbrev pub open_numbers : Version → Plan → List Edge → Option Driver → List ℕ
open_numbers version p h (Some d) = map edge_number (open_but_full version p h d)
open_numbers version p h None = []

-- 1 if a driver and a wire are known and what is asked of them is so
abbrev pub asked_of : (Driver → Wire → Bool) → Option Driver → Option Wire → ℕ
asked_of is_so (Some d) (Some w) = bit (is_so d w) 1
asked_of is_so _ _ = 0
