-- When a condition of a change holds of a driver on a bus, by looking back through its list of
-- edges, and what is true of the condition that is named. (The rules and their conditions are those
-- of `vme_model`: a condition of a rule holds if it is none of those that fail at the edge.
-- Chapters 2 to 4.) Lists of edges have the newest first.
use Rattle.std.specs.Prelude.{◌≡◌, ◌==◌, ◌&&◌, ◌||◌, ◌∷◌, ◌++◌, [], ℕ, zero, suc, Bool, true, false, not, List, Option, Some, None, reverse}
use Rattle.std.specs.List.{list_all, list_any}
use Rattle.std.specs.Option.{option_and_then, option_map_or}
use denote.Enum.Bare.{sameb}
use Rattle.vme_model.specs.contracts.sentences.Rule.{the_type}
use Rattle.vme_model.specs.declared.boards.InterrupterRow.{InterrupterRow}
use Rattle.vme_model.specs.declared.conditions.Condition.{Condition}
use Rattle.vme_model.specs.declared.sentences.Rule.{Rule}
use Rattle.vme_model.specs.declared.signals.Cycle.{Cycle}
use Rattle.vme_model.specs.declared.signals.Driver.{Driver}
use Rattle.vme_model.specs.declared.signals.Driver.TheVariants.{Controller, Slot}
use Rattle.vme_model.specs.declared.signals.Edge.{Edge}
use Rattle.vme_model.specs.declared.signals.Version.{Version}
use Rattle.vme_model.specs.declared.signals.Wire.{Wire}
use Rattle.vme_model.specs.declared.signals.Wire.TheVariants as wire
use Rattle.vme_model.specs.History.{drive, last_level, pulls_interrupt, request_line, served_since_request, shown}
use Rattle.vme_model.specs.Plan.{Plan, board_of}
use Rattle.vme_model.specs.Readings.{is_pending, readings}
use Rattle.vme_model.specs.Rules.{failing, is_pick}
use Rattle.vme_model.specs.Sets.{has_level}
use Rattle.vme_model.specs.Settling.{unsettled}
use Rattle.vme_model.specs.Signals.{is_acknowledge, is_same_driver}
use Rattle.vme_model.specs.Sources.{is_same_condition, rule_of, settling_of}
use Rattle.vme_captures.specs.declared.signals.Change.{Change}
use Rattle.vme_captures.specs.declared.signals.Entry.{Entry}
use Rattle.vme_captures.specs.declared.signals.Entry.TheVariants as entry
use Rattle.vme_captures.specs.declared.signals.Line.TheVariants as line
use Rattle.vme_captures.specs.declared.signals.Value.{Value}
use Rattle.vme_captures.specs.declared.signals.Value.TheVariants as value
use Rattle.vme_captures.specs.Changes.{is_low}
use Rattle.vme_captures.specs.Possible.{Capture, Explains}
use Rattle.vme_captures.specs.Reading.{Reading, capture_of}
use Rattle.vme_standings.specs.declared.moving.Moved.{Moved}
use Rattle.vme_standings.specs.declared.moving.Moved.TheVariants as moved
use Rattle.vme_standings.specs.declared.standings.Drivers.{Drivers}
use Rattle.vme_standings.specs.declared.standings.Probed.{Probed}
use Rattle.vme_standings.specs.declared.standings.Standings.{Standings}
use Rattle.vme_standings.specs.Covers.{Among, AreProbed}
use Rattle.vme_standings.specs.Following.{Follows, StartsAs}
use Rattle.vme_standings.specs.Hidden.{HasMoved}
use Rattle.vme_standings.specs.Moving.{moved_by}
use Rattle.vme_standings.specs.Standings.{Drive, controller_drives, drives}
use Rattle.vme_probe.specs.declared.demands.Demand.{Demand}
use Rattle.vme_probe.specs.declared.obstacles.Obstacle.{Obstacle}
use Rattle.vme_probe.specs.declared.obstacles.Obstacle.TheVariants.{NotLow, Fails, NotPicked, NotHandled, NotServed, OtherLow, NotPending, IsPending, NoAcknowledge, OtherByte}
use Rattle.vme_probe.specs.Conditions.{demands, obstacle}
use Rattle.vme_probe.specs.Knowing.{no_beginning}
use Rattle.vme_probe.specs.Stopped.{stopped_text}

-- whether two rules are the same
abbrev pub is_same_rule : Rule → Rule → Bool
is_same_rule = sameb the_type

-- the driver's wire that is moved
abbrev pub wire_moved : Moved → Wire
wire_moved (moved.Line (line.Br n)) = wire.Br
wire_moved (moved.Line (line.Irq n)) = wire.Irq
wire_moved (moved.Line line.Bbsy) = wire.Bbsy
wire_moved (moved.Line line.AddressStrobe) = wire.AddressStrobe
wire_moved (moved.Line line.DataStrobe) = wire.DataStrobe
wire_moved (moved.Line line.Dtack) = wire.Dtack
wire_moved (moved.Line line.Berr) = wire.Berr
wire_moved (moved.Line line.Bclr) = wire.Bclr
wire_moved (moved.Grant c zero) = wire.Bg c
wire_moved (moved.Grant c (suc s)) = wire.BgOut
wire_moved (moved.Acknowledge zero) = wire.Iack
wire_moved (moved.Acknowledge (suc s)) = wire.IackOut

abbrev pub edge : Driver → Wire → Bool → Option Cycle → Edge
edge d w fall v = record { driver = d; wire = w; fall = fall; value = v }

-- the cycle that was seen with a fall of AS*
abbrev pub cycle_seen : Option Value → Option Cycle
cycle_seen (Some (value.Shown v)) = Some v
cycle_seen _ = None

-- The edges that the change asks of a driver. No probe sees an address group: it goes on before AS*
-- falls, and off before AS* rises.
abbrev pub edges : Driver → Moved → Bool → Option Value → List Edge
edges d (moved.Line line.AddressStrobe) fall x =
    edge d wire.Addr fall (cycle_seen x) ∷ edge d wire.AddressStrobe fall None ∷ []
edges d m fall x = edge d (wire_moved m) fall None ∷ []

-- the condition of the rule fails at the edge: the rule is that of the edge, or its settling rule
abbrev pub fails : Version → Plan → List Edge → Rule → Condition → Edge → Bool
fails version p h r c e =
    (is_same_rule r (rule_of e.wire e.fall)
    && list_any (is_same_condition c)
    (failing version (readings p h e.driver) e.wire e.fall e.value))
    || (option_map_or (is_same_rule r) (settling_of e.wire e.fall) false
    && list_any (is_same_condition c) (unsettled version p h e.wire e.fall))

-- the interrupter of the driver's board
abbrev pub interrupter_of : Plan → Driver → Option InterrupterRow
interrupter_of p d = option_and_then (λ b. b.interrupter) (board_of p d)

-- no other board pulls the interrupt line of the level
abbrev pub is_alone : Plan → List Edge → Driver → ℕ → Bool
is_alone p h d n =
    not (list_any (λ r. pulls_interrupt h n r && not (is_same_driver d (Slot r.slot))) p.rows)

-- the condition holds of the driver
abbrev pub holds :
    Version → Plan → List Edge → Driver → Moved → Bool → Option Value → Obstacle → Bool
holds version p h d m fall x (NotLow w) = drive h d w
holds version p h d m fall x (Fails r c) =
    not (list_any (fails version p h r c) (edges d m fall x))
holds version p h d m fall x (NotPicked n) =
    is_pick p.arbiter (request_line p h) (last_level h) n
holds version p h d m fall x (NotHandled n) =
    option_map_or (λ b. has_level b.handler n) (board_of p d) false
holds version p h d m fall x (NotServed k) = served_since_request p h d k
holds version p h d m fall x OtherLow =
    option_map_or (λ i. is_alone p h d i.level) (interrupter_of p d) false
holds version p h d m fall x (NotPending n) = is_pending (readings p h d) n
holds version p h d m fall x (IsPending n) = not (is_pending (readings p h d) n)
holds version p h d m fall x NoAcknowledge = is_acknowledge (shown p h)
holds version p h d m fall x (OtherByte b) =
    option_map_or (λ i. i.status == b) (interrupter_of p d) false

-- all these conditions of the change hold of the driver
abbrev pub all_hold : Version → Plan → List Edge → Driver → Change → List Demand → Bool
all_hold version p h d c ds =
    list_all (λ x. holds version p h d (moved_by p c.signal) c.fall c.value x.obstacle) ds

-- the driver has the line of the change, or drives its wire
abbrev pub has_it : Plan → Moved → Driver → Bool
has_it p m Controller = controller_drives m
has_it p m (Slot s) = drives p m s

-- what is known behind a capture, with the edges that no probe sees
pub record IsKnown (p : Plan) (probed : Probed) (c : Capture) (last : Standings) : Type 0 where
  pub version : c.version ≡ probed.version
  pub probes : AreProbed p c.pins probed.segments
  pub first : Standings
  pub behind : Standings
  pub starts : StartsAs p probed c first
  pub follows : Follows p probed first c.changes behind
  pub hidden : HasMoved p probed behind last

-- The condition is one of the change's for the driver. Together with those above it, it holds of
-- the driver in no list of edges, those of g and then those of h, of which `shows` is true, and
-- behind which the line or pin of the change is at the other level.
pub record NeverHoldsOn
    (p : Plan) (version : Version) (shows : List Edge → List Edge → Type 0) (st : Standings)
    (v : Change) (d : Driver) (o : Obstacle)
    : Type 0 where
  pub above : List Demand
  pub named : Demand
  pub below : List Demand
  pub are : demands p version st v d ≡ above ++ named ∷ below
  pub is : named.obstacle ≡ o
  pub never : (g h : List Edge) → shows g h → is_low p (h ++ g) v.signal ≡ not v.fall
      → all_hold version p (h ++ g) d v (above ++ named ∷ []) ≡ true → ⊥

-- in no list of edges that keeps the rules and shows the capture
abbrev pub NeverHolds : Plan → Capture → Standings → Change → Driver → Obstacle → Type 0
NeverHolds p c st v d o = NeverHoldsOn p c.version (Explains p c) st v d o

-- What was read ends at a change that is refused, and the lines of its drivers are those of what is
-- known before it. Each condition in them is such a condition.
pub record TellsFailing (p : Plan) (r : Reading) (text : List ℕ) : Type 0 where
  pub version : Version
  pub said : List Entry
  pub change : Change
  pub others : List Entry
  pub are : r.entries ≡ reverse said ++ entry.Change change ∷ others
  pub known : Standings
  pub moment : ℕ
  pub drivers : Drivers
  pub have_it : Drive p change.signal drivers
  pub lines : List ℕ
  pub is : text ≡ lines ++ stopped_text p version known moment change drivers
  pub fail : (d : Driver) (o : Obstacle) → Among drivers d
      → obstacle p version known change d ≡ Some o
      → NeverHolds p (capture_of version said) known change d o

-- The head is refused, and no condition is told.
abbrev pub EndsAtHead : List ℕ → Type 0
EndsAtHead text = (lines : List ℕ) × (text ≡ lines ++ no_beginning)
