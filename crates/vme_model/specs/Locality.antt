-- The verdict on an edge depends on what its driver saw. (The claim is this project's own.)
use Rattle.std.specs.Prelude.{◌≡◌, Bool, true, false, List}
use Rattle.std.specs.List.{list_all}
use Rattle.vme_model.specs.declared.signals.Version.{Version}
use Rattle.vme_model.specs.declared.signals.Wire.{Wire}
use Rattle.vme_model.specs.declared.signals.Wire.TheVariants.{Bg, Berr, AddressStrobe}
use Rattle.vme_model.specs.declared.signals.Edge.{Edge}
use Rattle.vme_model.specs.Signals.{is_two, is_well_formed}
use Rattle.vme_model.specs.Plan.{Plan}
use Rattle.vme_model.specs.Views.{view}
use Rattle.vme_model.specs.Verdict.{verdict_but_full}

-- a settling rule looks at other boards before such an edge: `as-` and `berr-`, and in the second
-- version the grants
abbrev pub is_settled_by_others : Version → Wire → Bool → Bool
is_settled_by_others version AddressStrobe true = true
is_settled_by_others version Berr true = true
is_settled_by_others version (Bg n) _ = is_two version
is_settled_by_others version _ _ = false

-- each edge is one that can exist on some backplane
abbrev pub AreWellFormed : List Edge → Type 0
AreWellFormed h = list_all is_well_formed h ≡ true

-- except for those edges and a full trace, the verdict is the same after two histories in which the
-- driver saw the same
abbrev pub IsLocal : Version → Plan → List Edge → List Edge → Edge → Type 0
IsLocal version p h k e =
    is_settled_by_others version e.wire e.fall ≡ false → view p h e.driver ≡ view p k e.driver
    → verdict_but_full version p h e ≡ verdict_but_full version p k e
