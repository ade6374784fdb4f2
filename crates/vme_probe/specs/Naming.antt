-- What is printed of a capture, beside all buses that keep the rules and show it. (What such a bus
-- shows is `vme_captures.specs.Possible`.) What was said is looked back at, so these lists have the
-- newest first.
use Rattle.std.specs.List.{Contains}
use Rattle.std.specs.Option.{option_map_or}
use Rattle.std.specs.Prelude.{◌≡◌, ◌-◌, ◌++◌, ◌∷◌, [], ℕ, Bool, true, false, List, None, Some, length, reverse}
use Rattle.vme_model.specs.declared.signals.Cycle.{Cycle}
use Rattle.vme_model.specs.declared.signals.Driver.{Driver}
use Rattle.vme_model.specs.declared.signals.Driver.TheVariants.{Slot}
use Rattle.vme_model.specs.declared.signals.Edge.{Edge}
use Rattle.vme_model.specs.declared.signals.Version.{Version}
use Rattle.vme_model.specs.declared.signals.Wire.TheVariants.{AddressStrobe, Bbsy, Br, Irq}
use Rattle.vme_model.specs.GrantSafety.{Travels}
use Rattle.vme_model.specs.History.{drive, line, shown as shown_on}
use Rattle.vme_model.specs.Plan.{Plan}
use Rattle.vme_model.specs.Verdict.{IsLegal}
use Rattle.vme_bus.specs.declared.sets.SlotSet.{SlotSet}
use Rattle.vme_bus.specs.Sets.{has}
use Rattle.vme_captures.specs.declared.signals.Change.{Change}
use Rattle.vme_captures.specs.declared.signals.Entry.{Entry}
use Rattle.vme_captures.specs.declared.signals.Entry.TheVariants as entry
use Rattle.vme_captures.specs.declared.signals.Line.{Line}
use Rattle.vme_captures.specs.declared.signals.Line.TheVariants as on_line
use Rattle.vme_captures.specs.declared.signals.Pin.{Pin}
use Rattle.vme_captures.specs.Changes.{agrees, is_line_low, seen}
use Rattle.vme_captures.specs.Levels.{is_line_left_low}
use Rattle.vme_captures.specs.Possible.{Capture, Explains, IsBy, IsPossible}
use Rattle.vme_captures.specs.Reading.{Reading, capture_of}
use Rattle.vme_captures.specs.Signals.{is_line}
use Rattle.vme_standings.specs.declared.standings.Drivers.{Drivers}
use Rattle.vme_standings.specs.declared.standings.Standings.{Standings}
use Rattle.vme_standings.specs.Covers.{Among, says}
use Rattle.vme_standings.specs.GrantChains.{is_of_level}
use Rattle.vme_standings.specs.Standings.{is_nobody}
use Rattle.vme_probe.specs.Ends.{may_pull, standing_text, waits_at}
use Rattle.vme_probe.specs.Knowing.{seen_at}
use Rattle.vme_probe.specs.Lines.{change_line, may_come_line, places_text, slots_text}

-- ---- the changes

-- whoever may have made the newest change of the capture is among these
abbrev pub AreAllMakers : Plan → Capture → Drivers → Type 0
AreAllMakers p c d = (x : Driver) → IsBy p c (length c.changes - 1) x → Among d x

-- A line for each change of a capture that says this: it names all who may have made the change, by
-- what was said up to there.
abbrev pub Names : Plan → Version → List Entry → List ℕ → Type 0
Names p version [] text = text ≡ []
Names p version (entry.Pin q ∷ said) text = Names p version said text
Names p version (entry.Running ∷ said) text = Names p version said text
Names p version (entry.Low x ∷ said) text = Names p version said text
Names p version (entry.Moment m ∷ said) text = Names p version said text
Names p version (entry.Change c ∷ said) text =
    (before : List ℕ) × (d : Drivers) × Names p version said before
    × AreAllMakers p (capture_of version (entry.Change c ∷ said)) d
    × (text ≡ before ++ change_line (seen_at said c).moment c d)

-- ---- the last lines

-- the line of a line is printed, and names the slot
abbrev pub NamesPuller : Standings → Line → (ℕ → Bool) → ℕ → Type 0
NamesPuller st l pulls s =
    (is_line l ≡ true) × (is_line_left_low st.lines l ≡ true) × (pulls s ≡ true)

-- the lines of the changes that may come, each with those who may make it
abbrev pub coming_text : List (Change × Drivers) → List ℕ
coming_text [] = []
coming_text (x ∷ xs) = may_come_line x.0 x.1 ++ coming_text xs

-- one of these lines is printed of what is seen, and names the driver
pub record NamesNext (coming : List (Change × Drivers)) (v : Change) (x : Driver) : Type 0 where
  pub change : Change
  pub drivers : Drivers
  pub there : Contains coming (change, drivers)
  pub agrees : agrees change v ≡ true
  pub some : is_nobody drivers ≡ false
  pub among : Among drivers x

-- what the last lines say: how the bus stands, and what may come
pub record Told : Type 0 where
  pub st : Standings
  pub holders : SlotSet
  pub nowhere : Bool
  pub count : ℕ
  pub coming : List (Change × Drivers)

abbrev pub last_text : Plan → Told → List ℕ
last_text p t =
    standing_text p t.st t.holders (places_text t.nowhere (waits_at p t.st.phases)) t.count
    ++ coming_text t.coming

-- They leave nothing out of a bus behind the edges of h: who holds it, where a grant stands, who
-- drives AS* and what is shown then, who pulls a request or interrupt line, and each change that is
-- seen of an edge that the rules allow next.
pub record Tells
    (p : Plan) (version : Version) (pins : List Pin) (h : List Edge) (t : Told)
    : Type 0 where
  pub holder : (s : ℕ) → drive h (Slot s) Bbsy ≡ true → has t.holders s ≡ true
  -- `holder none`
  pub free : slots_text (has t.holders) ≡ [] → (s : ℕ) → drive h (Slot s) Bbsy ≡ false
  pub granted : (n s : ℕ) → Travels p h n s → waits_at p t.st.phases n s ≡ true
  pub none : ((n s : ℕ) → Travels p h n s → ⊥) → t.nowhere ≡ true
  pub addresser : (s : ℕ) → drive h (Slot s) AddressStrobe ≡ true → has t.st.addressers s ≡ true
  pub shown : (v : Cycle) → line p h AddressStrobe ≡ true → shown_on p h ≡ Some v
      → option_map_or (says v) t.st.shown false ≡ true
  pub quiet : line p h AddressStrobe ≡ false → t.st.shown ≡ None
  pub levels : (l : Line) → is_line l ≡ true → is_line_left_low t.st.lines l ≡ is_line_low p h l
  pub asker : (s : ℕ) → drive h (Slot s) Br ≡ true
      → (n : ℕ) × NamesPuller t.st (on_line.Br n) (is_of_level p n) s
  pub puller : (s : ℕ) → drive h (Slot s) Irq ≡ true
      → (n : ℕ) × NamesPuller t.st (on_line.Irq n) (may_pull p t.st n) s
  pub next : (e : Edge) (v : Change) → IsLegal version p (e ∷ h) → seen p pins h e ≡ Some v
      → NamesNext t.coming v e.driver

-- The last lines leave out none of the buses that keep the rules and show the whole capture. (The
-- edges of such a bus may end with any number that no probe sees.)
pub record TellsAll (p : Plan) (c : Capture) (last : List ℕ) : Type 0 where
  pub told : Told
  pub is : last ≡ last_text p told
  pub tells : (g h : List Edge) → Explains p c g h → Tells p c.version c.pins (h ++ g) told

-- ---- all of it

-- The text has these lines for all changes of a whole capture, and the last lines behind them.
pub record NamesAll (p : Plan) (r : Reading) (text : List ℕ) : Type 0 where
  pub version : Version
  pub named : r.version ≡ Some version
  pub whole : r.fault ≡ None
  pub said : List Entry
  pub are : r.entries ≡ reverse said
  pub lines : List ℕ
  pub names : Names p version said lines
  pub last : List ℕ
  pub tells : TellsAll p (capture_of version said) last
  pub is : text ≡ lines ++ last

-- The text has these lines for what was said first. With what was said next, no bus that keeps the
-- rules shows it.
pub record IsRefused (p : Plan) (r : Reading) (text : List ℕ) : Type 0 where
  pub version : Version
  pub named : r.version ≡ Some version
  pub judged : List Entry
  pub lines : List ℕ
  pub names : Names p version judged lines
  pub refused : List Entry
  pub others : List Entry
  pub are : r.entries ≡ reverse refused ++ others
  pub never : IsPossible p (capture_of version refused) → ⊥
  pub last : List ℕ
  pub is : text ≡ lines ++ last
