-- The boards of a backplane, and the slots that work each daisy chain. (The chains are those of
-- chapters 3 and 4. Which parts a board can have, and that joined pins are one wire, is this
-- project's profile.)
use Rattle.std.specs.Prelude.{◌==◌, ◌++◌, if◌then◌else◌, ℕ, zero, suc, Bool, true, false, Option, None, List, [], ◌∷◌, nat_lt, is_some, filter, map, reverse, find}
use Rattle.std.specs.Option.{option_map_or}
use Rattle.vme_model.specs.declared.boards.Row.{Row}
use Rattle.vme_model.specs.declared.boards.Jumper.{Jumper}
use Rattle.vme_model.specs.declared.boards.ArbiterKind.{ArbiterKind}
use Rattle.vme_model.specs.declared.sets.ChainId.{ChainId}
use Rattle.vme_model.specs.declared.sets.ChainId.TheVariants as chain
use Rattle.vme_model.specs.declared.signals.Driver.{Driver}
use Rattle.vme_model.specs.declared.signals.Driver.TheVariants.{Controller, Slot}
use Rattle.vme_model.specs.declared.signals.Wire.{Wire}
use Rattle.vme_model.specs.declared.signals.Wire.TheVariants as wire
use Rattle.vme_model.specs.Signals.{has_wire}

-- a backplane: how many slots, the boards, the jumpers of empty slots, and the arbiter's policy
pub record Plan : Type 0 where
  pub slots : ℕ
  pub rows : List Row
  pub jumpers : List Jumper
  pub arbiter : ArbiterKind

-- the row that names a slot
abbrev pub row_in : List Row → ℕ → Option Row
row_in rows s = find (λ r. r.slot == s) rows

-- the board in a slot
abbrev pub board : Plan → ℕ → Option Row
board p s = row_in p.rows s

-- the board that a driver stands on; none for the controller
abbrev pub board_of : Plan → Driver → Option Row
board_of p Controller = None
board_of p (Slot s) = board p s

-- the board has a requester on that level (chapter 3)
abbrev pub requests_on : ℕ → Row → Bool
requests_on level r = option_map_or (λ q. q.level == level) r.requester false

-- the board has an interrupter on that level (chapter 4)
abbrev pub interrupts_on : ℕ → Row → Bool
interrupts_on level r = option_map_or (λ i. i.level == level) r.interrupter false

-- the board works the chain: it does not join input and output, but passes it on by an edge
-- (chapters 3 and 4)
abbrev pub works : ChainId → Row → Bool
works chain.Bg0 r = requests_on 0 r
works chain.Bg1 r = requests_on 1 r
works chain.Bg2 r = requests_on 2 r
works chain.Bg3 r = requests_on 3 r
works chain.Iack r = is_some r.interrupter

-- the numbers 1 to n
abbrev pub up_to : ℕ → List ℕ
up_to zero = []
up_to (suc n) = up_to n ++ suc n ∷ []

-- a board in the slot works the chain
abbrev pub is_active : List Row → ChainId → ℕ → Bool
is_active rows c s = option_map_or (works c) (row_in rows s) false

-- the slots whose board works the chain, ascending
abbrev pub active : Plan → ChainId → List ℕ
active p c = filter (is_active p.rows c) (up_to p.slots)

-- the greatest active slot below: each output is the next slot's input (chapter 3)
abbrev pub upstream : Plan → ChainId → ℕ → Option ℕ
upstream p c s = find (λ t. nat_lt t s) (reverse (active p c))

-- the greatest active slot
abbrev pub last_active : Plan → ChainId → Option ℕ
last_active p c = find (λ s. true) (reverse (active p c))

-- the chain of a grant level
abbrev pub grant_chain : ℕ → ChainId
grant_chain level =
    if level == 0 then chain.Bg0
    else (if level == 1 then chain.Bg1 else (if level == 2 then chain.Bg2 else chain.Bg3))

-- the controller's wire at the head of a chain (chapters 3 and 4)
abbrev pub head_wire : ChainId → Wire
head_wire chain.Bg0 = wire.Bg 0
head_wire chain.Bg1 = wire.Bg 1
head_wire chain.Bg2 = wire.Bg 2
head_wire chain.Bg3 = wire.Bg 3
head_wire chain.Iack = wire.Iack

-- the wire at a board's output on a chain: BGnOUT*, and IACKOUT* (chapters 3 and 4)
abbrev pub out_wire : ChainId → Wire
out_wire chain.Iack = wire.IackOut
out_wire _ = wire.BgOut

-- the board has the part that drives the wire (profile)
abbrev pub drives : Wire → Row → Bool
drives wire.Br r = is_some r.requester
drives wire.BgOut r = is_some r.requester
drives wire.Bbsy r = is_some r.requester
drives wire.Addr r = is_some r.requester
drives wire.AddressStrobe r = is_some r.requester
drives wire.DataStrobe r = is_some r.requester
drives wire.Irq r = is_some r.interrupter
drives wire.IackOut r = is_some r.interrupter
drives wire.Dtack r = true
drives _ r = false

-- the backplane has the driver, with such a wire
abbrev pub has_driver : Plan → Driver → Wire → Bool
has_driver p Controller w = has_wire Controller w
has_driver p (Slot s) w = option_map_or (drives w) (board p s) false

-- the drivers of a backplane: the controller, then each board by slot
abbrev pub drivers : Plan → List Driver
drivers p = Controller ∷ map (λ s. Slot s) (filter (λ s. is_some (board p s)) (up_to p.slots))
