-- When the bus stands alike after two histories. (The definition is this project's own.)
use Rattle.std.specs.Prelude.{◌≡◌, List}
use Rattle.vme_model.specs.declared.signals.Driver.{Driver}
use Rattle.vme_model.specs.declared.signals.Wire.{Wire}
use Rattle.vme_model.specs.declared.signals.Edge.{Edge}
use Rattle.vme_model.specs.Plan.{Plan}
use Rattle.vme_model.specs.History.{drive, shown, last_level, cycles, has_strobed}
use Rattle.vme_model.specs.Readings.{is_served}

-- The bus stands alike after two histories if all is the same that a rule may read of them. Which
-- slot addresses is not named: it is the one whose address group is on.
pub record StandAlike (p : Plan) (g h : List Edge) : Type 0 where
  -- the wires that are low, and the address groups that are on
  pub low : (d : Driver) (w : Wire) → drive g d w ≡ drive h d w
  pub shown : shown p g ≡ shown p h
  pub last_level : last_level g ≡ last_level h
  -- the cycles of each board's tenure
  pub cycles : (d : Driver) → cycles g d ≡ cycles h d
  -- whether its cycle had its data strobe
  pub strobed : (d : Driver) → has_strobed g d ≡ has_strobed h d
  -- whether its interrupt request was served
  pub served : (d : Driver) → is_served p g d ≡ is_served p h d
