use Rattle.std.proofs.Common.{◌∙◌, ap}
use Rattle.std.specs.Prelude.{slice_get}
use Rattle.vme_seeds.specs.Kinds.{kinds}
use Rattle.vme_seeds.proofs.chances.Chances.kind_at.Goals as goal

pub returns : goal.returns
unfolding kinds
returns c = c.kind_in.ensures ∙ ap (slice_get kinds) c.falls_at.ensures
