-- An edge that is met is well formed.
use Rattle.std.specs.Prelude.{Bool, true}
use Rattle.vme_model.specs.Signals.{is_well_formed}
use Rattle.vme_races.specs.declared.walks.Stop.{Stop}
use Rattle.vme_races.specs.declared.walks.Stop.TheVariants.{Begins, Far, Waits, Races}

abbrev pub is_formed : Stop → Bool
is_formed Begins = true
is_formed Far = true
is_formed (Waits n e refused) = is_well_formed e
is_formed (Races n e outcome) = is_well_formed e
