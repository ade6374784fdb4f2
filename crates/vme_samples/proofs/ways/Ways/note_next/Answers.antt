use Rattle.vme_samples.proofs.Towards.{one_noted}
use Rattle.vme_samples.proofs.ways.Ways.note_next.Goals as goal

pub loop-place-preserved : goal.loop-place-preserved
loop-place-preserved c =
    one_noted c.args.plan.now c.args.probed.now c.args.sample.now c.args.self.now.known.items c.args.goal c.args.self.now.reaching.items c.args.places c.loop-place.place c.makers_next-drivers.result
    c.args.makers.now c.loop-place.makers c.note.new.self c.loop-place.is_some _ c.makers_next-drivers.ensures c.note.ensures.here c.note.ensures.others
    (rw (c.is_nobody-is_nobody.ensures) at c.is_either-is_some.ensures) c.loop-place.invariant
