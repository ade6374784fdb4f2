use Rattle.std.proofs.Common.{◌∙◌}
use Rattle.vme_standings.specs.Unseen.{ReachesLevel}
use Rattle.vme_standings.proofs.LevelRows.{each_level}
use Rattle.vme_standings.proofs.unseen.round.Goals as goal

pub loop-level-preserved : goal.loop-level-preserved
loop-level-preserved c =
    let inv = c.loop-level.invariant in
    let k = c.loop-level.level in
    let set = c.set_level in
    record {
      level = each_level k c.is_idle_reached-is_idle.result c.granting_reached-lasts.result c.expired_reached-firsts.result c.loop-level.reached set.new.self set.ensures
          (λ n i l f. ReachesLevel c.args.plan.now c.args.version c.args.requests c.args.probed.now n c.args.from.now i l f)
          (record { falls = c.granting_reached-lasts.ensures; rises = c.expired_reached-firsts.ensures; idle = c.is_idle_reached-is_idle.ensures })
          inv.level;
      held = set.ensures.held ∙ inv.held;
    }
