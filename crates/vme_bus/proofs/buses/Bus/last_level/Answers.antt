use Rattle.vme_bus.proofs.buses.Bus.last_level.Goals as goal

pub returns : goal.returns
returns c = c.state.ensures.last_level
