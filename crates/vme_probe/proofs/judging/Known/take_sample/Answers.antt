use Rattle.std.proofs.Common.{arith}
use Rattle.vme_probe.proofs.SampleLines.{one_taken, several_taken, single}
use Rattle.vme_probe.proofs.judging.Known.take_sample.Goals as goal

pub returns-in-len1 : goal.returns-in-len1
returns-in-len1 g c =
    one_taken c.args.plan.now c.args.sample.now _ c.args.self.now c.take.new.self (g.W.Write.contents c.args.out.now) (g.W.Write.contents c.take.new.out) c.take.result
    (single c.args.sample.now _ (omega (arith, c.in-len1.len_at_least)) (omega (arith, c.in-len1.len_below))) c.take.ensures

pub returns-in_default : goal.returns-in_default
returns-in_default g c =
    several_taken c.args.plan.now c.args.sample.now c.args.self.now c.take_several.new.self (g.W.Write.contents c.args.out.now) (g.W.Write.contents c.take_several.new.out) c.take_several.result
    (omega (arith, c.in_default.len_at_least)) c.take_several.ensures
