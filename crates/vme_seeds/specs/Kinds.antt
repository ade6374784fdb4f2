-- The kinds of edges, in the order in which they are drawn. (Profile.)
use Rattle.std.specs.Prelude.{◌==◌, ℕ, Bool, true, false, Option, Some, List, [], ◌∷◌, is_some, if◌then◌else◌, filter, length}
use Rattle.vme_model.specs.declared.signals.Cycle.{Cycle}
use Rattle.vme_model.specs.declared.signals.Cycle.TheVariants as cycle
use Rattle.vme_model.specs.declared.signals.Edge.{Edge}
use Rattle.vme_model.specs.declared.signals.Wire.{Wire}
use Rattle.vme_model.specs.declared.signals.Wire.TheVariants.{Bg, Bclr, Iack, Berr, Br, BgOut, Bbsy, Addr, AddressStrobe, DataStrobe, Irq, IackOut, Dtack}
use Rattle.vme_model.specs.Plan.{Plan, board}
use Rattle.vme_seeds.specs.declared.kinds.Kind.{Kind}
use Rattle.vme_seeds.specs.declared.kinds.Kind.TheVariants.{BgFall, BgRise, BclrFall, BclrRise, IackFall, IackRise, BerrFall, BerrRise, BrFall, BrRise, BgOutFall, BgOutRise, BbsyFall, BbsyRise, Acknowledge, Access, EmptyAccess, AddrOff, AddressStrobeFall, AddressStrobeRise, DataStrobeFall, DataStrobeRise, IrqFall, IrqRise, IackOutFall, IackOutRise, DtackFall, DtackRise}

-- the kinds in their order
unfoldable pub kinds : List Kind
kinds =
    BgFall ∷ BgRise ∷ BclrFall ∷ BclrRise ∷ IackFall ∷ IackRise ∷ BerrFall ∷ BerrRise ∷ BrFall
    ∷ BrRise ∷ BgOutFall ∷ BgOutRise ∷ BbsyFall ∷ BbsyRise ∷ Acknowledge ∷ Access ∷ EmptyAccess
    ∷ AddrOff ∷ AddressStrobeFall ∷ AddressStrobeRise ∷ DataStrobeFall ∷ DataStrobeRise ∷ IrqFall
    ∷ IrqRise ∷ IackOutFall ∷ IackOutRise ∷ DtackFall ∷ DtackRise ∷ []

-- the place of a kind in this order, from 0
abbrev pub number : Kind → ℕ
number BgFall = 0
number BgRise = 1
number BclrFall = 2
number BclrRise = 3
number IackFall = 4
number IackRise = 5
number BerrFall = 6
number BerrRise = 7
number BrFall = 8
number BrRise = 9
number BgOutFall = 10
number BgOutRise = 11
number BbsyFall = 12
number BbsyRise = 13
number Acknowledge = 14
number Access = 15
number EmptyAccess = 16
number AddrOff = 17
number AddressStrobeFall = 18
number AddressStrobeRise = 19
number DataStrobeFall = 20
number DataStrobeRise = 21
number IrqFall = 22
number IrqRise = 23
number IackOutFall = 24
number IackOutRise = 25
number DtackFall = 26
number DtackRise = 27

-- the slots of a plan that have a board
abbrev pub has_board : Plan → ℕ → Bool
has_board p s = is_some (board p s)

-- the kind of an address group that goes on, by the slots that have a board and by what it shows:
-- an acknowledge, or an access to a slot with a board or without one (chapters 4 and 7); each edge
-- that the rules allow shows one of them
abbrev pub addressing : (ℕ → Bool) → Option Cycle → Kind
addressing boards (Some (cycle.Access s)) = if boards s then Access else EmptyAccess
addressing boards _ = Acknowledge

-- the kind of an edge by its wire, whether it is a fall, and its value
abbrev pub kind_on : (ℕ → Bool) → Wire → Bool → Option Cycle → Kind
kind_on boards (Bg level) true v = BgFall
kind_on boards (Bg level) false v = BgRise
kind_on boards Bclr true v = BclrFall
kind_on boards Bclr false v = BclrRise
kind_on boards Iack true v = IackFall
kind_on boards Iack false v = IackRise
kind_on boards Berr true v = BerrFall
kind_on boards Berr false v = BerrRise
kind_on boards Br true v = BrFall
kind_on boards Br false v = BrRise
kind_on boards BgOut true v = BgOutFall
kind_on boards BgOut false v = BgOutRise
kind_on boards Bbsy true v = BbsyFall
kind_on boards Bbsy false v = BbsyRise
kind_on boards Addr true v = addressing boards v
kind_on boards Addr false v = AddrOff
kind_on boards AddressStrobe true v = AddressStrobeFall
kind_on boards AddressStrobe false v = AddressStrobeRise
kind_on boards DataStrobe true v = DataStrobeFall
kind_on boards DataStrobe false v = DataStrobeRise
kind_on boards Irq true v = IrqFall
kind_on boards Irq false v = IrqRise
kind_on boards IackOut true v = IackOutFall
kind_on boards IackOut false v = IackOutRise
kind_on boards Dtack true v = DtackFall
kind_on boards Dtack false v = DtackRise

-- the kind of an edge
abbrev pub kind_of : (ℕ → Bool) → Edge → Kind
kind_of boards e = kind_on boards e.wire e.fall e.value

-- the edge is of that kind
abbrev pub is_of : (ℕ → Bool) → Kind → Edge → Bool
is_of boards k e = number (kind_of boards e) == number k

-- the edges of that kind
abbrev pub of_kind : (ℕ → Bool) → Kind → List Edge → List Edge
of_kind boards k es = filter (is_of boards k) es

-- how many edges of that kind there are
abbrev pub count : (ℕ → Bool) → Kind → List Edge → ℕ
count boards k es = length (of_kind boards k es)
