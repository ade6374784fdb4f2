-- All edges that a driver can make, with every value. (Profile: their order.)
use Rattle.std.specs.Prelude.{◌≡◌, ◌↔◌, ◌++◌, if◌then◌else◌, true, Some, List, [], ◌∷◌, map, filter, is_ok, Ok}
use Rattle.std.specs.List.{flat_map, Contains}
use Rattle.vme_model.specs.declared.signals.Driver.{Driver}
use Rattle.vme_model.specs.declared.signals.Wire.{Wire}
use Rattle.vme_model.specs.declared.signals.Wire.TheVariants.{Addr}
use Rattle.vme_model.specs.declared.signals.Cycle.{Cycle}
use Rattle.vme_model.specs.declared.signals.Cycle.TheVariants.{Acknowledge, Access}
use Rattle.vme_model.specs.declared.signals.Edge.{Edge}
use Rattle.vme_model.specs.Plan.{up_to}
use Rattle.vme_model.specs.History.{drive}
use Rattle.vme_model.specs.Offers.{turned, wires}
use Rattle.vme_model.specs.Verdict.{State, verdict}

-- the address group going on
abbrev pub showing : Driver → Cycle → Edge
showing d c = record { driver = d; wire = Addr; fall = true; value = Some c }

-- the acknowledges of IRQ1* to IRQ7* (chapter 4)
abbrev pub acknowledges : List Cycle
acknowledges = map (λ level. Acknowledge level) (up_to 7)

-- the accesses to slots 1 to 21 (chapter 7)
abbrev pub accesses : List Cycle
accesses = map (λ s. Access s) (up_to 21)

-- the edges that move a wire to its other state; the address group goes on with each cycle that
-- exists
abbrev pub moves : List Edge → Driver → Wire → List Edge
moves h d Addr =
    if drive h d Addr then turned h d Addr ∷ [] else map (showing d) (acknowledges ++ accesses)
moves h d w = turned h d w ∷ []

-- those edges of a driver's wires that would be accepted
abbrev pub open_edges : State → Driver → List Edge
open_edges b d = filter (λ e. is_ok (verdict b e)) (flat_map (moves b.history d) (wires d))

-- the edges are all that the driver can make after the history, and no others
abbrev pub IsAllThatIsAllowed : State → Driver → List Edge → Type 0
IsAllThatIsAllowed b d es = (e : Edge) → ((e.driver ≡ d) × (verdict b e ≡ Ok tt)) ↔ Contains es e
