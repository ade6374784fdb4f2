use Rattle.std.proofs.Common.{Ok, subst}
use Rattle.vme_reading.specs.declared.Status.{Status}
use Rattle.vme_reading.specs.declared.seeking.Found.{Found}
use Rattle.vme_reading.specs.Streams.{streams, ReadNothing, WroteNothing}
use Rattle.vme_following.proofs.PrintedEdges.{Sought, prints_legal, prints_legal_cut}
use Rattle.vme_following.proofs.printing.print_at_edge.Goals as goal

pub returns-in-Ok : goal.returns-in-Ok
returns-in-Ok g c =
    let W = g.S.AtEdge.writes in
    let F = g.S.AtEdge.fails in
    let asked = c.args.asked.now.edge in
    let text = c.args.scenario.now in
    let from = g.R.Read.remaining c.args.trace.now in
    let to = g.R.Read.remaining c.at_edge.new.trace in
    let old = g.W.Write.contents c.args.out.now in
    let mid = g.W.Write.contents c.at_edge.new.out in
    let s = streams from to old mid in
    let nothing = ReadNothing s × WroteNothing s in
    let legal = subst (λ (f : Found Status). Sought W F asked text nothing from to old mid (Ok f))
    c.in-Ok-Legal.field-0-is c.in-Ok-Legal.ensures in
    prints_legal W F asked text nothing from to old mid c.in-Ok-Legal.edges legal
    (g.W.Write.contents c.write_finding.new.out) c.in-Ok.ensures.ok

pub returns-in-Err-write_finding : goal.returns-in-Err-write_finding
returns-in-Err-write_finding g c =
    let W = g.S.AtEdge.writes in
    let F = g.S.AtEdge.fails in
    let asked = c.args.asked.now.edge in
    let text = c.args.scenario.now in
    let from = g.R.Read.remaining c.args.trace.now in
    let to = g.R.Read.remaining c.at_edge.new.trace in
    let old = g.W.Write.contents c.args.out.now in
    let mid = g.W.Write.contents c.at_edge.new.out in
    let s = streams from to old mid in
    let nothing = ReadNothing s × WroteNothing s in
    let legal = subst (λ (f : Found Status). Sought W F asked text nothing from to old mid (Ok f))
    c.in-Ok-Legal.field-0-is c.in-Ok-Legal.ensures in
    prints_legal_cut W F asked text nothing from to old mid c.in-Ok-Legal.edges legal
    (g.W.Write.contents c.write_finding.new.out) c.in-Err-write_finding.fault
    c.in-Err-write_finding.ensures.fault c.in-Err-write_finding.ensures.front
