-- What is read of a whole trace.
use Rattle.std.specs.Prelude.{List, Some, None}
use Rattle.vme_model.specs.declared.signals.Version.{Version}
use Rattle.vme_model.specs.declared.signals.Edge.{Edge}
use Rattle.vme_model.specs.Text.{Reading}

-- these edges in this version, and no fault
abbrev pub whole : Version → List Edge → Reading
whole version es = record { version = Some version; edges = es; fault = None }
