use Rattle.std.proofs.Common.{◌∙◌, sym}
use Rattle.std.specs.Prelude.{◌&&◌}
use Rattle.vme_bus.specs.Sets.{has}
use Rattle.vme_model.specs.Signals.{is_two}
use Rattle.vme_model.proofs.Bools.{and_left, and_right}
use Rattle.vme_standings.specs.GrantChains.{is_of_level, place_before}
use Rattle.vme_standings.specs.Unseen.{is_first, is_unseen, rises_unseen}
use Rattle.vme_standings.proofs.Walked.{nothing, none_there, walks_alike}
use Rattle.vme_standings.proofs.unseen.expired_reached.Goals as goal

pub walk-requires : goal.walk-requires
walk-requires c t h =
    let p = c.args.plan.now in
    let n = c.args.level in
    and_left (is_of_level p n t) (is_unseen c.args.probed.now n (place_before p n t))
    (and_right (is_two c.args.version) (rises_unseen p c.args.probed.now n t) (sym (c.expired_rises.ensures t) ∙ h))

pub returns-then-is_some : goal.returns-then-is_some
returns-then-is_some c =
    let p = c.args.plan.now in
    walks_alike (has c.firsts-from.result) (is_first p c.args.version c.args.probed.now c.args.level c.args.lasts c.args.phases.now) (has c.expired_rises.result)
    (λ t. is_two c.args.version && rises_unseen p c.args.probed.now c.args.level t) (has c.walk.result) (place_before p c.args.level)
    c.firsts-from.ensures c.expired_rises.ensures c.walk.ensures

pub returns : goal.returns
returns c =
    let p = c.args.plan.now in
    nothing (has c.firsts-from.result) (is_first p c.args.version c.args.probed.now c.args.level c.args.lasts c.args.phases.now)
    (λ t. is_two c.args.version && rises_unseen p c.args.probed.now c.args.level t) (place_before p c.args.level) c.firsts-from.ensures
    (none_there c.firsts-from.result c.is_some-is_some.result c.if-is_some.false c.is_some-is_some.ensures.none)
