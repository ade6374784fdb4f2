use Rattle.std.proofs.Common.{◌∙◌, sym}
use Rattle.std.specs.Prelude.{◌&&◌, ◌||◌, ◌==◌, not}
use Rattle.vme_bus.specs.Sets.{has}
use Rattle.vme_model.specs.Signals.{is_two}
use Rattle.vme_model.proofs.Bools.{and_left}
use Rattle.vme_standings.specs.GrantChains.{end_place, is_of_level, place_before}
use Rattle.vme_standings.specs.Unseen.{falls_unseen, is_last, is_unseen}
use Rattle.vme_standings.proofs.Walked.{nothing, none_there, walks_alike}
use Rattle.vme_standings.proofs.unseen.granting_reached.Goals as goal

pub walk-requires : goal.walk-requires
walk-requires c t h =
    let p = c.args.plan.now in
    let n = c.args.level in
    and_left (is_of_level p n t) ((is_two c.args.version || not (t == end_place p n)) && is_unseen c.args.probed.now n t) (sym (c.falls.ensures t) ∙ h)

pub returns-then-is_some : goal.returns-then-is_some
returns-then-is_some c =
    let p = c.args.plan.now in
    walks_alike (has c.lasts-from.result) (is_last p c.args.requests c.args.probed.now c.args.level c.args.phases.now) (has c.falls.result)
    (falls_unseen p c.args.version c.args.probed.now c.args.level) (has c.walk.result) (place_before p c.args.level)
    c.lasts-from.ensures c.falls.ensures c.walk.ensures

pub returns : goal.returns
returns c =
    let p = c.args.plan.now in
    nothing (has c.lasts-from.result) (is_last p c.args.requests c.args.probed.now c.args.level c.args.phases.now) (falls_unseen p c.args.version c.args.probed.now c.args.level)
    (place_before p c.args.level) c.lasts-from.ensures
    (none_there c.lasts-from.result c.is_some-is_some.result c.if-is_some.false c.is_some-is_some.ensures.none)
