use Rattle.std.specs.Io.KnownBytes.{Appends}
use Rattle.vme_trace.specs.Writing.{AppendsFront}
use Rattle.vme_explain.specs.Traced.{OfTrace}
use Rattle.vme_explain.specs.Standing.{drivers_text}
use Rattle.vme_explain.proofs.Written.{at_err, at_ok, on_err}
use Rattle.vme_explain.proofs.Block.{front_of_block, front_of_bus, whole_block}
use Rattle.vme_explain.proofs.stands.write_stands.Goals as goal

pub returns-in_err-write_bus-clause-front : goal.returns-in_err-write_bus-clause-front
returns-in_err-write_bus-clause-front g c = on_err c.from_residual.result _ (λ k same marks.
    let b = c.args.bus.now in
    front_of_bus _ _ c.args.n b k (c.in_err-write_bus.ensures.front k same marks))

pub returns-clause-ok : goal.returns-clause-ok
returns-clause-ok g c =
    at_ok c.write_drivers.result (OfTrace c.args.bus.now c.args.marks.now (λ k. Appends (g.W.Write.contents c.write_bus.new.out) (g.W.Write.contents c.write_drivers.new.out)
    (drivers_text c.args.bus.now k))) _
    (λ w k same marks. whole_block _ _ _ c.args.n c.args.bus.now k (c.in_ok-write_bus.ensures.ok k same marks) (w k same marks))
    c.write_drivers.ensures.ok

pub returns-clause-front : goal.returns-clause-front
returns-clause-front g c =
    at_err c.write_drivers.result (OfTrace c.args.bus.now c.args.marks.now (λ k. AppendsFront (g.W.Write.contents c.write_bus.new.out) (g.W.Write.contents c.write_drivers.new.out)
    (drivers_text c.args.bus.now k))) _
    (λ w k same marks. front_of_block _ _ _ c.args.n c.args.bus.now k (c.in_ok-write_bus.ensures.ok k same marks) (w k same marks))
    c.write_drivers.ensures.front
