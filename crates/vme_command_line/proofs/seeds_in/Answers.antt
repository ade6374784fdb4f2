use Rattle.std.proofs.Common.{rules, ◌<◌}
use Rattle.vme_command_line.specs.Asked.{NamesNoSeeds}
use Rattle.vme_command_line.specs.Numbers.{IsSeed}
use Rattle.vme_command_line.proofs.Parting.{IsParted, no_first, no_last, turned, unparted}
use Rattle.vme_command_line.proofs.seeds_in.Goals as goal

pub returns-in_err-first : goal.returns-in_err-first
returns-in_err-first c =
    let none : NamesNoSeeds c.args.text.now = unparted c.args.text.now c.in_err-first.ensures.cases in
    search rules

pub returns-in_err-first-2 : goal.returns-in_err-first-2
returns-in_err-first-2 c =
    let parted : IsParted c.args.text.now c.in_ok-first.first.now c.in_ok-first.last.now = c.in_ok-first.ensures.cases in
    let none : NamesNoSeeds c.args.text.now = no_first c.args.text.now c.in_ok-first.first.now c.in_ok-first.last.now parted c.in_err-first-2.ensures in
    search rules

pub returns-in_err-last : goal.returns-in_err-last
returns-in_err-last c =
    let parted : IsParted c.args.text.now c.in_ok-first.first.now c.in_ok-first.last.now = c.in_ok-first.ensures.cases in
    let none : NamesNoSeeds c.args.text.now = no_last c.args.text.now c.in_ok-first.first.now c.in_ok-first.last.now parted c.in_err-last.ensures in
    search rules

pub returns-else-first-last : goal.returns-else-first-last
returns-else-first-last c =
    let parted : IsParted c.args.text.now c.in_ok-first.first.now c.in_ok-first.last.now = c.in_ok-first.ensures.cases in
    let is_first : IsSeed c.in_ok-first.first.now c.in_ok-first-2.first = c.in_ok-first-2.ensures in
    let is_last : IsSeed c.in_ok-first.last.now c.in_ok-last.last = c.in_ok-last.ensures in
    let below : c.in_ok-last.last < c.in_ok-first-2.first = search rules in
    turned c.args.text.now c.in_ok-first.first.now c.in_ok-first.last.now c.in_ok-first-2.first c.in_ok-last.last parted is_first is_last below
