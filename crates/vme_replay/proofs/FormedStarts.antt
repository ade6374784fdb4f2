-- Every edge is well formed that was read behind a scenario.
use Rattle.std.proofs.Common.{ℕ, List, [], ◌++◌, Bool, true, false, Result, Ok, Err, refl}
use Rattle.vme_model.specs.declared.signals.Edge.{Edge}
use Rattle.vme_model.specs.Locality.{AreWellFormed}
use Rattle.vme_trace.specs.declared.Fault.{Fault}
use Rattle.vme_trace.specs.Reading as trace
use Rattle.vme_replay.specs.Front.{Starts}
use Rattle.vme_reading.proofs.FormedEdges.{formed_front, formed_read_by}

pub formed_start : (bytes : List ℕ) (reader : trace.ReaderState) (es : List Edge) (answer : Result Bool Fault) → Starts bytes reader es answer → AreWellFormed es
formed_start bytes reader es (Ok true) h = formed_read_by reader bytes es h
formed_start bytes reader es (Ok false) h = absurd h
formed_start bytes reader es (Err f) h = let stops = h [] in formed_front (bytes ++ []) _ es stops.front.0 refl stops.front.1
