use Rattle.vme_show.proofs.Letters.{every_grant, every_holder}
use Rattle.vme_show.proofs.laws.rows_show_every_grant_and_holder.Goals as goal

pub returns-clause-grant : goal.returns-clause-grant
returns-clause-grant c = every_grant

pub returns-clause-holder : goal.returns-clause-holder
returns-clause-holder c = every_holder
