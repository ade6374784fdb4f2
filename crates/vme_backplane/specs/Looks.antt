-- What a look at a backplane is of: the edges as a history, and what its driver's rules read.
use Rattle.std.specs.Prelude.{List, reverse}
use Rattle.vme_model.specs.declared.signals.Edge.{Edge}
use Rattle.vme_model.specs.Readings.{Readings, readings}
use Rattle.vme_backplane.specs.declared.looks.Look.{Look}

abbrev pub history_of : Look → List Edge
history_of l = reverse l.edges.now

abbrev pub readings_of : Look → Readings
readings_of l = readings l.plan.now (history_of l) l.driver
