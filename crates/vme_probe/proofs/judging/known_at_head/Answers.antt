use Rattle.std.proofs.Common.{List, false, refl, subst}
use Rattle.vme_captures.specs.declared.reader.Probe.{Probe}
use Rattle.vme_standings.specs.declared.standings.Probed.{Probed}
use Rattle.vme_probe.specs.declared.judging.Known.{Known}
use Rattle.vme_probe.specs.Pins.{HoldsProbed}
use Rattle.vme_probe.proofs.Beginning.{begins, cannot_begin}
use Rattle.vme_probe.proofs.judging.known_at_head.Goals as goal

pub returns-in-Some : goal.returns-in-Some
returns-in-Some c = λ bytes said read.
    let probed : Probed = record { version = c.args.version; segments = c.segments_of.result } in
    let known : Known = record { probed = probed; standings = c.in-Some.standings; changes = 0 } in
    begins c.args.plan.now c.args.reader.now bytes said read probed c.args.version refl
    (subst (λ (ps : List Probe). HoldsProbed false ps c.segments_of.result) c.probes.ensures c.segments_of.ensures)
    known refl refl (c.in-Some.ensures bytes said read)

pub returns-in-None : goal.returns-in-None
returns-in-None c = λ bytes said read.
    let probed : Probed = record { version = c.args.version; segments = c.segments_of.result } in
    cannot_begin c.args.plan.now c.args.reader.now bytes said read probed c.args.version refl
    (subst (λ (ps : List Probe). HoldsProbed false ps c.segments_of.result) c.probes.ensures c.segments_of.ensures)
    (c.in-None.ensures bytes said read)
