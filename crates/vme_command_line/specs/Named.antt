-- The command of a name.
use Rattle.std.specs.Prelude.{Option, find}
use Rattle.std.specs.Str.{bytes_eq}
use Rattle.clap.specs.Words.{Shape, Text}
use Rattle.vme_command_line.specs.Commands.{commands}

abbrev pub command_named : Text → Option Shape
command_named name = find (λ s. bytes_eq s.name name) commands.subs
