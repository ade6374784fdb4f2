use Rattle.vme_model.proofs.Standing.{holder_holds, grant_travels, none_travels}
use Rattle.vme_model.proofs.laws.bus_stands_where_the_block_says.Goals as goal

pub returns-clause-holder : goal.returns-clause-holder
returns-clause-holder c = holder_holds

pub returns-clause-grant : goal.returns-clause-grant
returns-clause-grant c = grant_travels

pub returns-clause-none : goal.returns-clause-none
returns-clause-none c = none_travels
