-- The lines of the answer to a capture.
use Rattle.std.specs.Prelude.{◌++◌, ◌∷◌, [], if◌then◌else◌, ℕ, zero, suc, Bool, true, false, List, Option, Some, None, codes, decimal}
use Rattle.vme_bus.specs.Sets.{has}
use Rattle.vme_captures.specs.declared.signals.Line.{Line}
use Rattle.vme_captures.specs.declared.signals.Change.{Change}
use Rattle.vme_captures.specs.Spelling.{change_text, line_name}
use Rattle.vme_standings.specs.declared.standings.Drivers.{Drivers}
use Rattle.vme_standings.specs.declared.standings.Shown.{Shown}
use Rattle.vme_standings.specs.Standings.{is_nobody}
use Rattle.vme_standings.specs.declared.standings.Shown.TheVariants.{Access, Acknowledge}

-- ---- names of drivers

-- a slot behind a space, if it is to be there
abbrev pub slot_text : Bool → ℕ → List ℕ
slot_text is_there s = if is_there then codes " " ++ decimal s else []

-- the slots below the n-th that pass a test, ascending
abbrev pub slots_below : (ℕ → Bool) → ℕ → List ℕ
slots_below test zero = []
slots_below test (suc n) = slots_below test n ++ slot_text (test n) n

-- of the slots of a backplane those that pass a test
unfoldable pub slots_text : (ℕ → Bool) → List ℕ
slots_text test = slots_below test 22

-- who drives: the controller comes first
abbrev pub by_text : Drivers → List ℕ
by_text d = (codes " by" ++ (if d.controller then codes " c" else [])) ++ slots_text (has d.boards)

-- `none` in the place of no names
abbrev pub or_none : List ℕ → List ℕ
or_none [] = codes " none"
or_none (x ∷ xs) = x ∷ xs

-- ---- changes

-- a change at a moment
abbrev pub seen_text : ℕ → Change → List ℕ
seen_text m c = ((codes "@" ++ decimal m) ++ codes " ") ++ change_text c

-- the line of a change that is possible, with those who may have made it
abbrev pub change_line : ℕ → Change → Drivers → List ℕ
change_line m c d = (seen_text m c ++ by_text d) ++ 10 ∷ []

-- the line of a change that nobody may have made
abbrev pub none_line : ℕ → Change → List ℕ
none_line m c = seen_text m c ++ (codes " by none" ++ 10 ∷ [])

-- whether it breaks our own rules alone
abbrev pub ours_text : Bool → List ℕ
ours_text is_ours = if is_ours then codes " by our rules alone" else []

-- the last line behind such a change
abbrev pub impossible_line : ℕ → Bool → List ℕ
impossible_line m is_ours = ((codes "impossible @" ++ decimal m) ++ ours_text is_ours) ++ 10 ∷ []

-- ---- how the bus stands

abbrev pub possible_line : ℕ → List ℕ
possible_line changes = (codes "possible " ++ decimal changes) ++ 10 ∷ []

-- the boards that may hold the bus
abbrev pub holder_line : (ℕ → Bool) → List ℕ
holder_line holds = (codes "holder" ++ or_none (slots_text holds)) ++ 10 ∷ []

-- the places so far, and one more if a grant may stand there
abbrev pub with_place : List ℕ → Bool → List ℕ → List ℕ
with_place places false place = places
with_place [] true place = codes " " ++ place
with_place (x ∷ xs) true place = ((x ∷ xs) ++ codes ", ") ++ place

abbrev pub place_text : ℕ → ℕ → List ℕ
place_text level s = ((codes "bg" ++ decimal level) ++ codes " at ") ++ decimal s

-- the places so far, and the boards below the n-th at which a grant of the level may stand
abbrev pub places_below : List ℕ → ℕ → (ℕ → Bool) → ℕ → List ℕ
places_below places level test zero = places
places_below places level test (suc n) =
    with_place (places_below places level test n) (test n) (place_text level n)

-- the places so far, and the boards at which a grant of the level may stand
unfoldable pub places_at : List ℕ → ℕ → (ℕ → Bool) → List ℕ
places_at places level test = places_below places level test 22

-- the places at which a grant may stand, by level, then by slot; `none` comes first, if it may
-- stand at no board
abbrev pub places_text : Bool → (ℕ → ℕ → Bool) → List ℕ
places_text nowhere test =
    places_at (places_at (places_at (places_at
    (with_place [] nowhere (codes "none")) 0 (test 0)) 1 (test 1)) 2 (test 2)) 3 (test 3)

abbrev pub grant_line : List ℕ → List ℕ
grant_line places = (codes "grant" ++ places) ++ 10 ∷ []

-- what AS* fell with, as captures spell it
abbrev pub shown_text : Shown → List ℕ
shown_text (Access None) = codes " r"
shown_text (Access (Some s)) = codes " r" ++ decimal s
shown_text (Acknowledge n) = codes " i" ++ decimal n

-- what AS* fell with and who may drive it, while it is low
abbrev pub cycle_line : Option Shown → (ℕ → Bool) → List ℕ
cycle_line None drives = (codes "shown" ++ codes " none") ++ 10 ∷ []
cycle_line (Some v) drives =
    (((codes "shown" ++ shown_text v) ++ codes " by") ++ slots_text drives) ++ 10 ∷ []

-- the boards that may pull a line, if it is low
abbrev pub low_line : Bool → Line → (ℕ → Bool) → List ℕ
low_line false l pulls = []
low_line true l pulls = ((line_name l ++ codes " low by") ++ slots_text pulls) ++ 10 ∷ []

-- a change that may come next, with those who may make it, if there is somebody
abbrev pub may_come_line : Change → Drivers → List ℕ
may_come_line c d =
    if is_nobody d then [] else ((codes "may come " ++ change_text c) ++ by_text d) ++ 10 ∷ []
