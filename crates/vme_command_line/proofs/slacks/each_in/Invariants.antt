use Rattle.std.proofs.Common.{length}
use denote.Text.{Utf8}
use denote.Shadow.{shadow}
use Rattle.vme_command_line.specs.Naming.{HasNamed}
use Rattle.vme_command_line.proofs.slacks.each_in.Given as goal

abbrev pub invariant-parts : goal.invariant-parts
invariant-parts l = shadow (Utf8 l.rest) × HasNamed l.fn.text l.rest l.slacks

abbrev pub decreases-parts : goal.decreases-parts
decreases-parts l = length l.rest
