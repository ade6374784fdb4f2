use Rattle.std.proofs.Common.{◌≡◌, ◌∙◌, sym, ap, true, false, Option}
use Rattle.std.specs.Option.{option_map_or}
use Rattle.vme_model.specs.declared.boards.Row.{Row}
use Rattle.vme_model.specs.declared.signals.Wire.TheVariants.{Irq}
use Rattle.vme_model.specs.Plan.{board_of, interrupts_on}
use Rattle.vme_model.specs.History.{drive}
use Rattle.vme_explain.proofs.Witnessed.{and_so}
use Rattle.vme_explain.proofs.lines.asks_at.Goals as goal

pub returns-then-interrupts_on-clause-asks : goal.returns-then-interrupts_on-clause-asks
returns-then-interrupts_on-clause-asks c =
    let b = c.args.bus.now in
    let d = c.args.driver in
    let level = c.args.level in
    let asks : option_map_or (interrupts_on level) (board_of b.plan d) false ≡ true = ap (λ (r : Option Row). option_map_or (interrupts_on level) r false) (sym c.board_of.ensures.row ∙ c.in-Some.is)
    ∙ sym c.interrupts_on.ensures ∙ c.if-interrupts_on.true in
    and_so (option_map_or (interrupts_on level) (board_of b.plan d) false) (drive b.history d Irq) c.is_low.result asks c.is_low.ensures.low
