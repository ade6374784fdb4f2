-- A board's parts, by the history of its backplane.
use Rattle.std.specs.Prelude.{◌≡◌, ℕ, Bool, false, Option, Some, List, option_map, slice_get}
use Rattle.std.specs.Option.{option_and_then, option_map_or}
use Rattle.vme_model.specs.declared.boards.Row.{Row}
use Rattle.vme_model.specs.declared.signals.Version.{Version}
use Rattle.vme_model.specs.declared.signals.Edge.{Edge}
use Rattle.vme_model.specs.declared.signals.Wire.{Wire}
use Rattle.vme_model.specs.declared.signals.Wire.TheVariants.{Br, BgOut, Bbsy, Addr, AddressStrobe, DataStrobe, Irq, IackOut, Dtack}
use Rattle.vme_model.specs.Plan.{Plan}
use Rattle.vme_requester.specs.Local.{requester_of}
use Rattle.vme_master.specs.Local.{master_of}
use Rattle.vme_interrupter.specs.Local.{interrupter_of, seen}
use Rattle.vme_wiring.specs.declared.boards.Board.{Board}

-- each part noted the edges that were made
abbrev pub parts_of : Version → Plan → List Edge → Row → Board
parts_of version p h r = record {
  row = r;
  requester = option_map (λ q. requester_of r.slot q version h) r.requester;
  master = option_map (λ q. master_of r.slot q r.handler h) r.requester;
  interrupter = interrupter_of r.slot r.interrupter (seen p h);
}

-- what holds for each history and row by which a board has its parts
abbrev pub OfParts : Board → (Version → Plan → List Edge → Row → Type 0) → Type 0
OfParts b P =
    (version : Version) (p : Plan) (h : List Edge) (r : Row)
    → b ≡ parts_of version p h r → P version p h r

-- the board in a place, if there is one
abbrev pub place : List (Option Board) → ℕ → Option Board
place boards s = option_and_then (λ b. b) (slice_get boards s)

-- what holds for the board in a place
abbrev pub OfPlace : List (Option Board) → ℕ → (Board → Type 0) → Type 0
OfPlace boards s P = (b : Board) → place boards s ≡ Some b → P b

-- the state of the wires, by the parts
abbrev pub low_of : Board → Wire → Bool
low_of b Br = option_map_or (λ q. q.br) b.requester false
low_of b BgOut = option_map_or (λ q. q.bgout) b.requester false
low_of b Bbsy = option_map_or (λ q. q.bbsy) b.requester false
low_of b Addr = option_map_or (λ m. m.addr) b.master false
low_of b AddressStrobe = option_map_or (λ m. m.address_strobe) b.master false
low_of b DataStrobe = option_map_or (λ m. m.data_strobe) b.master false
low_of b Irq = b.interrupter.irq
low_of b IackOut = b.interrupter.iackout
low_of b Dtack = b.interrupter.dtack
low_of b _ = false
