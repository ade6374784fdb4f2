-- What a line says, word by word. (`laws::line_says_what_it_spells` says that it is what the line
-- spells.)
use Rattle.std.specs.Prelude.{◌==◌, ◌||◌, ◌+◌, if◌then◌else◌, ◌∷◌, [], ℕ, Bool, true, List, Option, Some, None, codes, drop, take, find, length, nat_lt, option_map, slice_index}
use Rattle.std.specs.List.{position_or_len}
use Rattle.std.specs.Str.{bytes_eq}
use Rattle.vme_model.specs.declared.sets.ChainId.{ChainId}
use Rattle.vme_model.specs.declared.sets.ChainId.TheVariants as chain
use Rattle.vme_model.specs.declared.signals.Cycle.TheVariants.{Acknowledge, Access}
use Rattle.vme_model.specs.Signals.{is_level, is_slot}
use Rattle.vme_trace.specs.Fronts.{stands}
use Rattle.vme_moments.specs.Moments.{number_of}
use Rattle.vme_captures.specs.declared.signals.Line.{Line}
use Rattle.vme_captures.specs.declared.signals.Line.TheVariants as line
use Rattle.vme_captures.specs.declared.signals.Side.{Side}
use Rattle.vme_captures.specs.declared.signals.Side.TheVariants.{In, Out}
use Rattle.vme_captures.specs.declared.signals.Pin.{Pin}
use Rattle.vme_captures.specs.declared.signals.Signal.{Signal}
use Rattle.vme_captures.specs.declared.signals.Signal.TheVariants as signal
use Rattle.vme_captures.specs.declared.signals.Value.{Value}
use Rattle.vme_captures.specs.declared.signals.Value.TheVariants as value
use Rattle.vme_captures.specs.declared.signals.Change.{Change}
use Rattle.vme_captures.specs.declared.signals.Entry.{Entry}
use Rattle.vme_captures.specs.declared.signals.Entry.TheVariants as entry
use Rattle.vme_captures.specs.Spelling.{line_name, may_be_low, pin_name}

-- the shared lines
abbrev pub all_lines : List Line
all_lines =
    line.Br 0 ∷ line.Br 1 ∷ line.Br 2 ∷ line.Br 3 ∷ line.Irq 1 ∷ line.Irq 2 ∷ line.Irq 3
    ∷ line.Irq 4 ∷ line.Irq 5 ∷ line.Irq 6 ∷ line.Irq 7 ∷ line.Bbsy ∷ line.AddressStrobe
    ∷ line.DataStrobe ∷ line.Dtack ∷ line.Berr ∷ line.Bclr ∷ []

-- the pins of a slot
abbrev pub all_sides : List (ChainId × Side)
all_sides =
    (chain.Bg0, In) ∷ (chain.Bg1, In) ∷ (chain.Bg2, In) ∷ (chain.Bg3, In) ∷ (chain.Iack, In)
    ∷ (chain.Bg0, Out) ∷ (chain.Bg1, Out) ∷ (chain.Bg2, Out) ∷ (chain.Bg3, Out)
    ∷ (chain.Iack, Out) ∷ []

-- the line of a name
unfoldable pub line_named : List ℕ → Option Line
line_named word = find (λ l. bytes_eq word (line_name l)) all_lines

-- the pin of a name, without its slot
unfoldable pub side_named : List ℕ → Option (ChainId × Side)
side_named word = find (λ s. bytes_eq word (pin_name s.0 s.1)) all_sides

-- a value that passes
abbrev pub if_passes : {A : Type 0} → (A → Bool) → Option A → Option A
if_passes test None = None
if_passes test (Some a) = if test a then Some a else None

-- a number that passes
abbrev pub number_with : (ℕ → Bool) → List ℕ → Option ℕ
number_with test digits = if_passes test (number_of digits)

abbrev pub is_space : ℕ → Bool
is_space b = b == 32

abbrev pub is_sign : ℕ → Bool
is_sign b = b == 45 || b == 43

-- a slot, a space, and the name of its pin
abbrev pub pin_with : Option ℕ → Option (ChainId × Side) → Option Pin
pin_with (Some s) (Some n) = Some (record { slot = s; chain = n.0; side = n.1 })
pin_with _ _ = None

unfoldable pub pin_of : List ℕ → Option Pin
pin_of word =
    let k = position_or_len is_space word in
    if nat_lt k (length word)
    then pin_with (number_with is_slot (take k word)) (side_named (drop (k + 1) word))
    else None

abbrev pub either : Option Line → Option Pin → Option Signal
either (Some l) q = Some (signal.Line l)
either None q = option_map (λ r. signal.Pin r) q

-- a line by its name, or a pin
unfoldable pub signal_of : List ℕ → Option Signal
signal_of word = either (line_named word) (pin_of word)

-- the value that stands behind a fall of AS*
abbrev pub shown_of : List ℕ → Option Value
shown_of text =
    if bytes_eq text (codes " r") then Some value.Access
    else (if stands (codes " r") 0 text
    then option_map (λ s. value.Shown (Access s)) (number_with is_slot (drop 2 text))
    else (if stands (codes " i") 0 text
    then option_map (λ n. value.Shown (Acknowledge n)) (number_with is_level (drop 2 text))
    else None))

-- the value that may stand behind a fall of DTACK*
abbrev pub is_byte : ℕ → Bool
is_byte b = nat_lt b 256

abbrev pub status_of : List ℕ → Option Value
status_of text =
    if slice_index text 0 == 32
    then option_map (λ b. value.Status b) (number_with is_byte (drop 1 text))
    else None

-- what is seen with a change, by what stands behind its sign
abbrev pub nothing_of : List ℕ → Option (Option Value)
nothing_of text = if bytes_eq text [] then Some None else None

abbrev pub value_of : Signal → Bool → List ℕ → Option (Option Value)
value_of (signal.Line line.AddressStrobe) true text = option_map (λ v. Some v) (shown_of text)
value_of (signal.Line line.Dtack) true text =
    if bytes_eq text [] then Some None else option_map (λ v. Some v) (status_of text)
value_of x fall text = nothing_of text

abbrev pub change_with : Option Signal → Bool → List ℕ → Option Change
change_with None fall text = None
change_with (Some x) fall text =
    option_map (λ v. record { signal = x; fall = fall; value = v }) (value_of x fall text)

-- a line or pin, a sign, and what is seen with it
unfoldable pub change_of : List ℕ → Option Change
change_of text =
    let k = position_or_len is_sign text in
    if nat_lt k (length text)
    then change_with (signal_of (take k text)) (slice_index text k == 45) (drop (k + 1) text)
    else None

-- a line or pin that may be low at the beginning
unfoldable pub low_of : List ℕ → Option Signal
low_of text = if_passes may_be_low (signal_of text)

-- what a line says
unfoldable pub entry_of : List ℕ → Option Entry
entry_of text =
    if bytes_eq text (codes "running") then Some entry.Running
    else (if stands (codes "pin ") 0 text
    then option_map (λ q. entry.Pin q) (pin_of (drop 4 text))
    else (if stands (codes "low ") 0 text
    then option_map (λ x. entry.Low x) (low_of (drop 4 text))
    else (if slice_index text 0 == 64
    then option_map (λ m. entry.Moment m) (number_of (drop 1 text))
    else option_map (λ c. entry.Change c) (change_of text))))
