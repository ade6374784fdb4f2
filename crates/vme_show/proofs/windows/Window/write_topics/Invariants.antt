use Rattle.std.proofs.Common.{take}
use Rattle.std.specs.List.{flat_map}
use Rattle.std.specs.Io.KnownBytes.{Appends}
use Rattle.vme_show.specs.Columns.{topic_line, topics}
use Rattle.vme_show.proofs.windows.Window.write_topics.Given as goal

abbrev pub invariant-loop-topic : goal.invariant-loop-topic
invariant-loop-topic g l =
    Appends (g.W.Write.contents l.fn.out) (g.W.Write.contents l.out) (flat_map (topic_line l.color l.self.columns) (take l.topic-index topics))
