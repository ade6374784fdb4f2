-- What a driver considers for its offers, by the stored fields.
use Rattle.std.specs.Prelude.{◌&&◌, ◌++◌, if◌then◌else◌, not, ℕ, Bool, true, false, Option, Some, None, List, [], ◌∷◌, map, find, nat_lt, is_some, option_map}
use Rattle.std.specs.Option.{option_map_or, option_or, option_to_list}
use Rattle.vme_model.specs.declared.boards.Row.{Row}
use Rattle.vme_model.specs.declared.signals.Driver.{Driver}
use Rattle.vme_model.specs.declared.signals.Driver.TheVariants.{Controller, Slot}
use Rattle.vme_model.specs.declared.signals.Wire.{Wire}
use Rattle.vme_model.specs.declared.signals.Wire.TheVariants.{Addr}
use Rattle.vme_model.specs.declared.signals.Cycle.{Cycle}
use Rattle.vme_model.specs.declared.signals.Cycle.TheVariants.{Acknowledge, Access}
use Rattle.vme_model.specs.declared.signals.Edge.{Edge}
use Rattle.vme_model.specs.Sets.{has_level}
use Rattle.vme_model.specs.Plan.{up_to}
use Rattle.vme_model.specs.Offers.{irq_descending}
use Rattle.vme_arbiter.specs.Local.{low}
use Rattle.vme_wiring.specs.Boards.{place, low_of}
use Rattle.vme_wiring.specs.declared.wirings.Wiring.{Wiring}

abbrev pub own_by : Wiring → Driver → Wire → Bool
own_by w Controller x = low w.arbiter.1 x
own_by w (Slot s) x = option_map_or (λ b. low_of b x) (place w.boards s) false

abbrev pub wanted_by : Wiring → Row → Option ℕ
wanted_by w r = find (λ v. has_level r.handler v && has_level w.shared.irq v) irq_descending

abbrev pub board_above : Wiring → ℕ → Option ℕ
board_above w s = find (λ t. nat_lt s t && is_some (place w.boards t)) (up_to w.slots)

abbrev pub next_by : Wiring → ℕ → Option ℕ
next_by w s = option_or (board_above w s) (find (λ t. is_some (place w.boards t)) (up_to w.slots))

abbrev pub cycles_by : Wiring → Row → List Cycle
cycles_by w r = option_to_list (option_map (λ v. Acknowledge v) (wanted_by w r)) ++ option_to_list (option_map (λ t. Access t) (next_by w r.slot))

abbrev pub going_on_by : Wiring → Driver → List Edge
going_on_by w Controller = []
going_on_by w (Slot s) =
    option_map_or (λ b. map (λ c. record { driver = Slot s; wire = Addr; fall = true; value = Some c }) (cycles_by w b.row)) (place w.boards s) []

abbrev pub turned_by : Wiring → Driver → Wire → Edge
turned_by w d x = record { driver = d; wire = x; fall = not (own_by w d x); value = None }

abbrev pub considered_by : Wiring → Driver → Wire → List Edge
considered_by w d Addr = if own_by w d Addr then turned_by w d Addr ∷ [] else going_on_by w d
considered_by w d x = turned_by w d x ∷ []
