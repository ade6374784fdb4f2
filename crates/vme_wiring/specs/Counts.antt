-- The open-collector lines, as counts of the boards that pull them.
use Rattle.std.specs.Prelude.{◌≡◌, ◌+◌, ◌-◌, ◌<◌, if◌then◌else◌, ℕ, Bool, true, false, List, [], ◌∷◌, Option, None, get_or, set, length, nat_lt}
use Rattle.vme_model.specs.declared.boards.Row.{Row}
use Rattle.vme_model.specs.declared.signals.Driver.TheVariants.{Slot}
use Rattle.vme_model.specs.declared.signals.Wire.{Wire}
use Rattle.vme_model.specs.declared.signals.Wire.TheVariants.{Bclr, Berr, Br, BgOut, Bbsy, Addr, AddressStrobe, DataStrobe, Irq, Dtack}
use Rattle.vme_model.specs.declared.signals.Edge.{Edge}
use Rattle.vme_model.specs.declared.pins.Pins.{Pins}
use Rattle.vme_model.specs.declared.signals.Cycle.{Cycle}
use Rattle.vme_model.specs.Sets.{bus_levels, irq_levels}
use Rattle.vme_model.specs.Plan.{Plan}
use Rattle.vme_model.specs.History.{drive, pulls_line, pulls_request, pulls_interrupt}
use Rattle.vme_histories.specs.Levels.{request_level, interrupt_level}
use Rattle.vme_wiring.specs.declared.lines.Lines.{Lines}

-- how many boards pull a line
abbrev pub pulls : (Row → Bool) → List Row → ℕ
pulls f [] = 0
pulls f (r ∷ rows) = if f r then pulls f rows + 1 else pulls f rows

-- which boards pass a grant on
abbrev pub passes_grant : List Edge → Row → Bool
passes_grant h r = drive h (Slot r.slot) BgOut

-- each count is the number of the boards that pull its line
pub record IsLines (p : Plan) (h : List Edge) (l : Lines) : Type 0 where
  pub br_room : length l.br ≡ 4
  pub irq_room : length l.irq ≡ 8
  pub br : (n : ℕ) → n < 4 → get_or l.br n 0 ≡ pulls (pulls_request h n) p.rows
  pub irq : (n : ℕ) → n < 8 → get_or l.irq n 0 ≡ pulls (pulls_interrupt h n) p.rows
  pub bgout : l.bgout ≡ pulls (passes_grant h) p.rows
  pub bbsy : l.bbsy ≡ pulls (pulls_line h Bbsy) p.rows
  pub address_strobe : l.address_strobe ≡ pulls (pulls_line h AddressStrobe) p.rows
  pub data_strobe : l.data_strobe ≡ pulls (pulls_line h DataStrobe) p.rows
  pub dtack : l.dtack ≡ pulls (pulls_line h Dtack) p.rows

-- nobody pulls a line
abbrev pub no_pulls : Lines
no_pulls = record {
  br = 0 ∷ 0 ∷ 0 ∷ 0 ∷ [];
  irq = 0 ∷ 0 ∷ 0 ∷ 0 ∷ 0 ∷ 0 ∷ 0 ∷ 0 ∷ [];
  bgout = 0;
  bbsy = 0;
  address_strobe = 0;
  data_strobe = 0;
  dtack = 0;
}

-- a count after one more driver pulls, or one fewer, and whether that can be
abbrev pub moved : ℕ → Bool → ℕ
moved n true = n + 1
moved n false = n - 1

abbrev pub moved_at : List ℕ → ℕ → Bool → List ℕ
moved_at ns n fall = set ns n (moved (get_or ns n 0) fall)

abbrev pub is_movable : ℕ → Bool → Bool
is_movable n true = nat_lt n 22
is_movable n false = nat_lt 0 n

-- the count of the line on which a board's wire is
abbrev pub count_of : Lines → Row → Wire → ℕ
count_of l r Br = get_or l.br (request_level r) 0
count_of l r Irq = get_or l.irq (interrupt_level r) 0
count_of l r BgOut = l.bgout
count_of l r Bbsy = l.bbsy
count_of l r AddressStrobe = l.address_strobe
count_of l r DataStrobe = l.data_strobe
count_of l r Dtack = l.dtack
count_of l r _ = 1

-- the lines after an edge of one of the board's wires
abbrev pub lines_after : Lines → Row → Wire → Bool → Lines
lines_after l r Br fall = record l { br = moved_at l.br (request_level r) fall }
lines_after l r Irq fall = record l { irq = moved_at l.irq (interrupt_level r) fall }
lines_after l r BgOut fall = record l { bgout = moved l.bgout fall }
lines_after l r Bbsy fall = record l { bbsy = moved l.bbsy fall }
lines_after l r AddressStrobe fall = record l { address_strobe = moved l.address_strobe fall }
lines_after l r DataStrobe fall = record l { data_strobe = moved l.data_strobe fall }
lines_after l r Dtack fall = record l { dtack = moved l.dtack fall }
lines_after l r _ fall = l

-- what all drivers see if every line is high
abbrev pub high_pins : Pins
high_pins = record {
  requests = bus_levels (λ n. false);
  bbsy = false;
  bclr = false;
  address_strobe = false;
  data_strobe = false;
  dtack = false;
  berr = false;
  irq = irq_levels (λ n. false);
  shown = None;
  grant_in = false;
  iack_in = false;
}

-- what all drivers see of the lines after an edge of one of a board's wires
abbrev pub shared_after : Pins → Lines → Wire → Option Cycle → Pins
shared_after s l Br value = record s { requests = bus_levels (λ n. nat_lt 0 (get_or l.br n 0)) }
shared_after s l Irq value = record s { irq = irq_levels (λ n. nat_lt 0 (get_or l.irq n 0)) }
shared_after s l Bbsy value = record s { bbsy = nat_lt 0 l.bbsy }
shared_after s l Addr value = record s { shown = value }
shared_after s l AddressStrobe value = record s { address_strobe = nat_lt 0 l.address_strobe }
shared_after s l DataStrobe value = record s { data_strobe = nat_lt 0 l.data_strobe }
shared_after s l Dtack value = record s { dtack = nat_lt 0 l.dtack }
shared_after s l _ value = s

-- what all drivers see of the lines after an edge of one of the controller's wires
abbrev pub shared_after_controller : Pins → Wire → Bool → Pins
shared_after_controller s Bclr fall = record s { bclr = fall }
shared_after_controller s Berr fall = record s { berr = fall }
shared_after_controller s _ fall = s
