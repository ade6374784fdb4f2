-- What a driver is offered, and the rounds of `drive`. (Profile.)
use Rattle.std.specs.Prelude.{◌==◌, ◌&&◌, not, if◌then◌else◌, ℕ, zero, suc, ◌+◌, ◌%◌, true, Option, Some, None, List, [], ◌∷◌, ◌++◌, length, map, filter, find, nat_lt, is_some, is_ok, option_map, slice_get}
use Rattle.std.specs.List.{flat_map}
use Rattle.std.specs.Option.{option_map_or, option_or, option_to_list}
use Rattle.vme_model.specs.declared.boards.Row.{Row}
use Rattle.vme_model.specs.declared.signals.Driver.{Driver}
use Rattle.vme_model.specs.declared.signals.Driver.TheVariants.{Controller, Slot}
use Rattle.vme_model.specs.declared.signals.Wire.{Wire}
use Rattle.vme_model.specs.declared.signals.Wire.TheVariants.{Bg, Bclr, Iack, Berr, Br, BgOut, Bbsy, Addr, AddressStrobe, DataStrobe, Irq, IackOut, Dtack}
use Rattle.vme_model.specs.declared.signals.Cycle.{Cycle}
use Rattle.vme_model.specs.declared.signals.Cycle.TheVariants.{Acknowledge, Access}
use Rattle.vme_model.specs.declared.signals.Edge.{Edge}
use Rattle.vme_model.specs.Sets.{has_level}
use Rattle.vme_model.specs.Plan.{Plan, board, up_to, drivers}
use Rattle.vme_model.specs.History.{drive, interrupt_line}
use Rattle.vme_model.specs.Verdict.{State, verdict, made}

-- a driver's wires, in the order of its offers
abbrev pub wires : Driver → List Wire
wires Controller = Bg 0 ∷ Bg 1 ∷ Bg 2 ∷ Bg 3 ∷ Bclr ∷ Iack ∷ Berr ∷ []
wires (Slot s) = Br ∷ BgOut ∷ Bbsy ∷ Addr ∷ AddressStrobe ∷ DataStrobe ∷ Irq ∷ IackOut ∷ Dtack ∷ []

-- the levels of IRQ1* to IRQ7*, the highest first
abbrev pub irq_descending : List ℕ
irq_descending = 7 ∷ 6 ∷ 5 ∷ 4 ∷ 3 ∷ 2 ∷ 1 ∷ []

-- the highest low level that a board handles (chapter 4)
abbrev pub wanted : Plan → List Edge → Row → Option ℕ
wanted p h r = find (λ v. has_level r.handler v && interrupt_line p h v) irq_descending

-- the next slot with a board: the least above s, or the least of all if there is none
abbrev pub next_board : Plan → ℕ → Option ℕ
next_board p s =
    option_or (find (λ t. nat_lt s t && is_some (board p t)) (up_to p.slots))
    (find (λ t. is_some (board p t)) (up_to p.slots))

-- what a board considers to show
abbrev pub cycles_of : Plan → List Edge → Row → List Cycle
cycles_of p h r =
    option_to_list (option_map (λ v. Acknowledge v) (wanted p h r))
    ++ option_to_list (option_map (λ t. Access t) (next_board p r.slot))

-- the address group going on
abbrev pub going_on : Plan → List Edge → Driver → List Edge
going_on p h Controller = []
going_on p h (Slot s) =
    option_map_or
    (λ r. map (λ c. record { driver = Slot s; wire = Addr; fall = true; value = Some c })
    (cycles_of p h r))
    (board p s) []

-- an edge without a value, to the wire's other state
abbrev pub turned : List Edge → Driver → Wire → Edge
turned h d w = record { driver = d; wire = w; fall = not (drive h d w); value = None }

-- the edges of a wire that are considered
abbrev pub considered : Plan → List Edge → Driver → Wire → List Edge
considered p h d Addr = if drive h d Addr then turned h d Addr ∷ [] else going_on p h d
considered p h d w = turned h d w ∷ []

-- what a driver is offered: those of the considered edges that would be accepted
abbrev pub offered : State → Driver → List Edge
offered b d = filter (λ e. is_ok (verdict b e)) (flat_map (considered b.plan b.history d) (wires d))

-- one turn of a driver in round r, while fewer than n edges were made
abbrev pub turn : ℕ → ℕ → State → Driver → State
turn r n b d =
    if length b.history == n then b
    else option_map_or (made b) (slice_get (offered b d) (r % length (offered b d))) b

-- one turn of each of these drivers, in their order
abbrev pub turns : ℕ → ℕ → State → List Driver → State
turns r n b [] = b
turns r n b (d ∷ ds) = turns r n (turn r n b d) ds

-- rounds from the r-th on, until one makes no edge; every other round makes at least one edge, so n
-- of them are enough
abbrev pub rounds_from : ℕ → ℕ → ℕ → State → State
rounds_from zero r n b = b
rounds_from (suc more) r n b =
    let next = turns r n b (drivers b.plan) in
    if length next.history == length b.history then b else rounds_from more (r + 1) n next

-- n edges, or as many as there are until a round makes none
abbrev pub rounds : State → ℕ → State
rounds b n = rounds_from n 0 n b
