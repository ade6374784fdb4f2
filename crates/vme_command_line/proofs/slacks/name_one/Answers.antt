use Rattle.std.proofs.Common.{rules, sym, ◌∙◌}
use Rattle.vme_command_line.specs.Naming.{NamesNone}
use Rattle.vme_command_line.proofs.ListedDrivers.{named_now}
use Rattle.vme_command_line.proofs.slacks.name_one.Goals as goal

pub returns-in_err-driver : goal.returns-in_err-driver
returns-in_err-driver c =
    let none : NamesNone c.args.slacks.now c.args.text.now = λ late is. absurd (c.in_err-driver.ensures late is) in
    search rules

pub returns : goal.returns
returns c =
    named_now c.args.slacks.now c.set.new.self c.args.text.now (record { driver = c.in_ok-driver.driver; slack = c.in_ok-driver.slack }) c.in_ok-driver.ensures
    (sym c.names.ensures ∙ c.if-names.false) c.set.ensures.slack c.set.ensures.others c.set.ensures.named c.set.ensures.kept
