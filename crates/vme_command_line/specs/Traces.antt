-- The traces of a command that takes one or more.
use Rattle.std.specs.Prelude.{List, codes}
use Rattle.clap.specs.Words.{Row}
use Rattle.vme_command_line.specs.Asked.{AreSeveral, IsFile, IsOneTrace}
use Rattle.vme_command_line.specs.declared.Traces.{Traces}
use Rattle.vme_command_line.specs.declared.Traces.TheVariants.{One, Several}

abbrev pub AreTraces : List Row → Traces → Type 0
AreTraces rows (One trace) = IsFile (codes "TRACE") rows trace.now × IsOneTrace rows
AreTraces rows (Several traces) = AreSeveral rows traces.items
