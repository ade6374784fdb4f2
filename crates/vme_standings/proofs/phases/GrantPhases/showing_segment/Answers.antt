use Rattle.std.proofs.Common.{◌∙◌, sym}
use Rattle.vme_bus.specs.Sets.{has}
use Rattle.vme_standings.specs.Beginnings.{ShowsAt}
use Rattle.vme_standings.specs.Cuts.{is_so}
use Rattle.vme_standings.specs.LowSegments.{is_low_in}
use Rattle.vme_standings.proofs.SeenPhases.{alike_is, cut_keeps, is_alike}
use Rattle.vme_standings.proofs.phases.GrantPhases.showing_segment.Goals as goal

pub returns : goal.returns
returns c =
    let p = c.args.plan.now in
    let k = c.args.place in
    let fact = c.seen_at.result in
    cut_keeps (ShowsAt p c.args.level c.args.probed c.args.low k) (is_so p fact) c.args.self.now c.keeping.result c.keeping.ensures
    (λ q so on. alike_is (has c.args.low k) (is_low_in p c.args.level k q) (sym (c.seen_at.ensures p q) ∙ so))
    (λ q shows. c.seen_at.ensures p q ∙ is_alike (has c.args.low k) (is_low_in p c.args.level k q) (shows (sym c.has.ensures ∙ c.if-not-has.false)))
