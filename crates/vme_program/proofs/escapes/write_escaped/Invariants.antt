use Rattle.std.specs.List.{flat_map}
use Rattle.std.specs.Io.KnownBytes.{Appends}
use Rattle.vme_escapes.specs.Shown.{shown}
use Rattle.vme_program.proofs.escapes.write_escaped.Given as goal

abbrev pub invariant-loop-c : goal.invariant-loop-c
invariant-loop-c g l = Appends (g.W.Write.contents l.fn.out) (g.W.Write.contents l.out) (flat_map shown l.yielded)
