use Rattle.std.proofs.Common.{ℕ}
use Rattle.vme_model.specs.Plan.{Plan}
use Rattle.vme_captures.specs.declared.levels.Levels.{Levels}
use Rattle.vme_captures.specs.declared.signals.Line.{Line}
use Rattle.vme_captures.specs.declared.signals.Line.TheVariants.{Br, Irq, Bbsy, AddressStrobe, DataStrobe, Dtack, Berr, Bclr}
use Rattle.vme_standings.specs.Running.{IsUndriven}
use Rattle.vme_standings.proofs.running.is_undriven.Goals as goal

-- only the BR and IRQ lines count
each_line : (p : Plan) (lines : Levels) → ((n : ℕ) → IsUndriven p lines (Br n) → ⊥) → ((n : ℕ) → IsUndriven p lines (Irq n) → ⊥) → (l : Line) → IsUndriven p lines l → ⊥
each_line p lines f g (Br n) h = f n h
each_line p lines f g (Irq n) h = g n h
each_line p lines f g Bbsy h = h
each_line p lines f g AddressStrobe h = h
each_line p lines f g DataStrobe h = h
each_line p lines f g Dtack h = h
each_line p lines f g Berr h = h
each_line p lines f g Bclr h = h

pub returns-clause-none : goal.returns-clause-none
returns-clause-none c is =
    each_line c.args.plan.now c.args.lines.now (c.is_request_undriven-is_request.ensures.none c.if-is_request.false) (c.is_interrupt_undriven-is_interrupt.ensures.none is)

pub returns-then-is_request-clause-some : goal.returns-then-is_request-clause-some
returns-then-is_request-clause-some c _ =
    let w = c.is_request_undriven-is_request.ensures.some c.if-is_request.true in (Br w.0, w.1)

pub returns-clause-some : goal.returns-clause-some
returns-clause-some c h =
    let w = c.is_interrupt_undriven-is_interrupt.ensures.some h in (Irq w.0, w.1)
