-- What shows at once that the controller grants nothing.
use Rattle.std.specs.Prelude.{◌&&◌, not, Bool}
use Rattle.std.specs.List.{list_all}
use Rattle.vme_model.specs.declared.signals.Wire.TheVariants.{Bg}
use Rattle.vme_model.specs.Rules.{bus_numbers}
use Rattle.vme_arbiter.specs.Local.{low}
use Rattle.vme_wiring.specs.declared.wirings.Wiring.{Wiring}

-- the grants are high, and the bus is free
abbrev pub may_grant : Wiring → Bool
may_grant w = list_all (λ n. not (low w.arbiter.1 (Bg n))) bus_numbers && not w.shared.bbsy
