-- What a board reads, and is asked.
use Rattle.std.specs.Prelude.{◌≡◌, true, Some, List}
use Rattle.vme_model.specs.declared.boards.Row.{Row}
use Rattle.vme_model.specs.declared.pins.Pins.{Pins}
use Rattle.vme_model.specs.declared.signals.Driver.TheVariants.{Slot}
use Rattle.vme_model.specs.declared.signals.Edge.{Edge}
use Rattle.vme_model.specs.Signals.{is_well_formed}
use Rattle.vme_model.specs.Plan.{Plan, board, drives}
use Rattle.vme_model.specs.Readings.{Readings, readings_of_pins}
use Rattle.vme_model.specs.Views.{pins}
use Rattle.vme_wiring.specs.Chained.{grant_in, iack_in}
use Rattle.vme_wiring.specs.Boards.{low_of}
use Rattle.vme_wiring.specs.declared.boards.Board.{Board}
use Rattle.vme_wiring.specs.declared.chains.Chains.{Chains}
use Rattle.vme_wiring.specs.declared.wirings.Wiring.{Wiring}

-- a board's pins, by the chains and by what all drivers see alike of the lines
abbrev pub seen_by : Chains → Pins → Row → Pins
seen_by chains shared r = record shared { grant_in = grant_in chains r; iack_in = iack_in chains r }

-- what a board's rules read, as far as its stored fields give it
abbrev pub read_by : Wiring → Board → Readings
read_by w b = record (readings_of_pins (seen_by w.chains w.shared b.row)) {
  own = low_of b;
  served_since_request = b.interrupter.is_served;
}

-- a board is asked for an edge of a wire that it drives, with its pins
pub record IsAsked (p : Plan) (h : List Edge) (r : Row) (seen : Pins) (e : Edge) : Type 0 where
  pub driver : e.driver ≡ Slot r.slot
  pub row : board p r.slot ≡ Some r
  pub pins : seen ≡ pins p h (Slot r.slot)
  pub formed : is_well_formed e ≡ true
  pub drives : drives e.wire r ≡ true
