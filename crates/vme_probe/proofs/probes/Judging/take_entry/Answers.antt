use Rattle.std.proofs.Common.{◌∷◌, sym, subst}
use Rattle.vme_captures.specs.declared.signals.Entry.{Entry}
use Rattle.vme_captures.specs.Feeding.{HasRead}
use Rattle.vme_probe.specs.Reads.{skew_of, waiting_in}
use Rattle.vme_probe.specs.Steps.{EntryTaken}
use Rattle.vme_probe.proofs.probes.Judging.take_entry.Goals as goal

pub returns-in-Moment-clause-taken : goal.returns-in-Moment-clause-taken
returns-in-Moment-clause-taken g c = λ version bytes said from named read s.
    subst (λ (e : Entry). EntryTaken c.args.plan.now (skew_of c.args.self.now.sampling) version said e c.take_moment.new.self.known (waiting_in c.take_moment.new.self.sampling) from
    (g.W.Write.contents c.take_moment.new.out) c.take_moment.result) (sym c.in-Moment.is)
    (c.take_moment.ensures.taken c.in-Moment.field-0 version bytes said from named
    (subst (λ (e : Entry). HasRead c.args.plan.now c.args.self.now.reader bytes (e ∷ said)) c.in-Moment.is read) s)

pub returns-in-Change-clause-taken : goal.returns-in-Change-clause-taken
returns-in-Change-clause-taken g c = λ version bytes said from named read s.
    subst (λ (e : Entry). EntryTaken c.args.plan.now (skew_of c.args.self.now.sampling) version said e c.take_change.new.self.known (waiting_in c.take_change.new.self.sampling) from
    (g.W.Write.contents c.take_change.new.out) c.take_change.result) (sym c.in-Change.is)
    (c.take_change.ensures.taken version bytes said from named
    (subst (λ (e : Entry). HasRead c.args.plan.now c.args.self.now.reader bytes (e ∷ said)) c.in-Change.is read) s)
