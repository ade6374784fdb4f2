-- How what a line of a capture says is spelled. (This project's profile.)
use Rattle.std.specs.Prelude.{◌≡◌, ◌&&◌, ◌+◌, ◌++◌, ◌∷◌, ◌^◌, [], ℕ, Bool, true, false, List, Option, Some, None, IsTrue, codes, decimal, nat_lt}
use Rattle.vme_model.specs.declared.sets.ChainId.{ChainId}
use Rattle.vme_model.specs.declared.sets.ChainId.TheVariants as chain
use Rattle.vme_model.specs.declared.signals.Cycle.TheVariants.{Acknowledge, Access}
use Rattle.vme_model.specs.Signals.{is_slot}
use Rattle.vme_model.specs.Text.{sign}
use Rattle.vme_captures.specs.declared.signals.Line.{Line}
use Rattle.vme_captures.specs.declared.signals.Line.TheVariants as line
use Rattle.vme_captures.specs.declared.signals.Side.{Side}
use Rattle.vme_captures.specs.declared.signals.Side.TheVariants.{In, Out}
use Rattle.vme_captures.specs.declared.signals.Pin.{Pin}
use Rattle.vme_captures.specs.declared.signals.Signal.{Signal}
use Rattle.vme_captures.specs.declared.signals.Signal.TheVariants as signal
use Rattle.vme_captures.specs.declared.signals.Value.{Value}
use Rattle.vme_captures.specs.declared.signals.Value.TheVariants as value
use Rattle.vme_captures.specs.declared.signals.Change.{Change}
use Rattle.vme_captures.specs.declared.signals.Entry.{Entry}
use Rattle.vme_captures.specs.declared.signals.Entry.TheVariants as entry
use Rattle.vme_captures.specs.Signals.{is_change, is_signal}

-- the name of a shared line
abbrev pub line_name : Line → List ℕ
line_name (line.Br n) = codes "BR" ++ (48 + n) ∷ []
line_name (line.Irq n) = codes "IRQ" ++ (48 + n) ∷ []
line_name line.Bbsy = codes "BBSY"
line_name line.AddressStrobe = codes "AS"
line_name line.DataStrobe = codes "DS"
line_name line.Dtack = codes "DTACK"
line_name line.Berr = codes "BERR"
line_name line.Bclr = codes "BCLR"

abbrev pub chain_name : ChainId → List ℕ
chain_name chain.Bg0 = codes "BG0"
chain_name chain.Bg1 = codes "BG1"
chain_name chain.Bg2 = codes "BG2"
chain_name chain.Bg3 = codes "BG3"
chain_name chain.Iack = codes "IACK"

abbrev pub side_name : Side → List ℕ
side_name In = codes "IN"
side_name Out = codes "OUT"

-- a pin without its slot
abbrev pub pin_name : ChainId → Side → List ℕ
pin_name c s = chain_name c ++ side_name s

abbrev pub pin_text : Pin → List ℕ
pin_text q = decimal q.slot ++ 32 ∷ pin_name q.chain q.side

abbrev pub signal_text : Signal → List ℕ
signal_text (signal.Line l) = line_name l
signal_text (signal.Pin q) = pin_text q

-- what is seen with a change, after a space
abbrev pub value_text : Option Value → List ℕ
value_text None = []
value_text (Some (value.Shown (Access s))) = codes " r" ++ decimal s
value_text (Some (value.Shown (Acknowledge n))) = codes " i" ++ decimal n
value_text (Some value.Access) = codes " r"
value_text (Some (value.Status b)) = 32 ∷ decimal b

abbrev pub change_text : Change → List ℕ
change_text c = signal_text c.signal ++ (sign c.fall ++ value_text c.value)

abbrev pub entry_text : Entry → List ℕ
entry_text (entry.Pin q) = codes "pin " ++ pin_text q
entry_text entry.Running = codes "running"
entry_text (entry.Low x) = codes "low " ++ signal_text x
entry_text (entry.Moment m) = 64 ∷ decimal m
entry_text (entry.Change c) = change_text c

-- AS* and DS* were high at the beginning
abbrev pub may_be_low : Signal → Bool
may_be_low (signal.Line line.AddressStrobe) = false
may_be_low (signal.Line line.DataStrobe) = false
may_be_low _ = true

-- some capture can say it
abbrev pub is_entry : Entry → Bool
is_entry (entry.Pin q) = is_slot q.slot
is_entry entry.Running = true
is_entry (entry.Low x) = is_signal x && may_be_low x
is_entry (entry.Moment m) = nat_lt m (2 ^ 64)
is_entry (entry.Change c) = is_change c

-- a line, without its line feed, spells what it says
abbrev pub Spells : List ℕ → Entry → Type 0
Spells text e = IsTrue (is_entry e) × (text ≡ entry_text e)
