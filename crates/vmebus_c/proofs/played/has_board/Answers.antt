use Rattle.std.proofs.Common.{◌≡◌, ◌∙◌, refl}
use Rattle.std.specs.Prelude.{Option, Some, None, is_some, false}
use Rattle.std.specs.Option.{option_map_or}
use Rattle.vme_model.specs.declared.boards.Row.{Row}
use Rattle.vme_model.specs.declared.signals.Wire.TheVariants.{Dtack}
use Rattle.vme_model.specs.Plan.{board, drives}
use Rattle.vmebus_c.proofs.played.has_board.Goals as goal

stands : (o : Option Row) → option_map_or (drives Dtack) o false ≡ is_some o
stands None = refl
stands (Some r) = refl

pub returns : goal.returns
returns c = λ version p h at. c.has_driver.ensures version p h at ∙ stands (board p c.args.slot)
