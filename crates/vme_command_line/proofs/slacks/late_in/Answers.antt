use Rattle.std.proofs.Common.{rules, lit<, Some}
use Rattle.std.proofs.lemmas.Str.Pattern.{split_parts}
use Rattle.vme_command_line.specs.Naming.{NamesNoLate}
use Rattle.vme_command_line.proofs.NamedDrivers.{lacks_all, no_slack, only_late}
use Rattle.vme_command_line.proofs.slacks.late_in.Goals as goal

pub returns-in_err-slack : goal.returns-in_err-slack
returns-in_err-slack c =
    let parts = split_parts 61 c.args.text.now (Some (c.in_ok-name.name, c.in_ok-name.number)) c.in_ok-name.ensures.cases (lit< tt) in
    let none : NamesNoLate c.args.text.now =
    no_slack c.args.text.now c.in_ok-name.name.now c.in_ok-name.number.now parts.0 (lacks_all 61 c.in_ok-name.name.now parts.1) c.in_err-slack.ensures in
    search rules

pub returns : goal.returns
returns c =
    let parts = split_parts 61 c.args.text.now (Some (c.in_ok-name.name, c.in_ok-name.number)) c.in_ok-name.ensures.cases (lit< tt) in
    only_late c.args.text.now c.in_ok-name.name.now c.in_ok-name.number.now parts.0
    (lacks_all 61 c.in_ok-name.name.now parts.1) c.in_ok-driver.driver c.in_ok-slack.slack c.in_ok-driver.ensures c.in_ok-slack.ensures
