-- A slot waits where all parts of its board do: `BusState::movers`.
use Rattle.std.proofs.Common.{◌≡◌, refl, ℕ, true, List}
use Rattle.std.specs.Prelude.{◌&&◌, Option, Some, None}
use Rattle.std.specs.Option.{option_map_or}
use Rattle.vme_model.specs.declared.boards.Row.{Row}
use Rattle.vme_model.specs.declared.signals.Version.{Version}
use Rattle.vme_model.specs.declared.signals.Edge.{Edge}
use Rattle.vme_model.specs.declared.signals.Driver.TheVariants.{Slot}
use Rattle.vme_model.specs.Plan.{Plan, board}
use Rattle.vme_model.specs.Readings.{Readings, readings}
use Rattle.vme_wiring.specs.Waits.{waits_for_grant, waits_for_bus, waits_for_cycle, is_unserved, is_waiting}
use Rattle.vme_wiring.specs.Judged.{requester_waits, master_waits, interrupter_waits}

-- a slot waits where its board's parts do
pub parts_wait : (version : Version) (p : Plan) (h : List Edge) (s : ℕ) → ((requester_waits version p h s && master_waits p h s) && interrupter_waits p h s) ≡ is_waiting version p h (Slot s)
parts_wait version p h s = by_board (readings p h (Slot s)) (board p s)
  where
    by_board : (r : Readings) (o : Option Row) →
        ((option_map_or (waits_for_grant version r) o true && option_map_or (λ (b : Row). waits_for_bus r) o true) && option_map_or (λ (b : Row). waits_for_cycle r b && is_unserved r b) o true)
        ≡ option_map_or (λ (b : Row). (waits_for_grant version r b && waits_for_bus r) && (waits_for_cycle r b && is_unserved r b)) o true
    by_board r None = refl
    by_board r (Some b) = refl
