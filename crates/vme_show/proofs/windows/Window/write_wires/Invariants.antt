use Rattle.std.proofs.Common.{take}
use Rattle.std.specs.List.{flat_map}
use Rattle.std.specs.Io.KnownBytes.{Appends}
use Rattle.vme_show.specs.Columns.{HasWords, is_moved, wire_line}
use Rattle.vme_show.proofs.Whole.{passing}
use Rattle.vme_show.proofs.windows.Window.write_wires.Given as goal

abbrev pub invariant-loop-wire : goal.invariant-loop-wire
invariant-loop-wire g l =
    HasWords l.self.wires
    → Appends (g.W.Write.contents l.fn.out) (g.W.Write.contents l.out) (flat_map (passing (is_moved l.self.columns) (wire_line l.color l.self.columns)) (take l.wire-index l.wire-items))
