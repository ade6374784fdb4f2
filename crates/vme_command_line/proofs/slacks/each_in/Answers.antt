use Rattle.std.proofs.Common.{rules, lit<, Some, refl}
use Rattle.std.proofs.lemmas.Str.Pattern.{split_parts}
use Rattle.vme_command_line.proofs.NamedDrivers.{lacks_all}
use Rattle.vme_command_line.proofs.ListedDrivers.{ends, goes_on, refused_before, refused_last}
use Rattle.vme_command_line.proofs.slacks.each_in.Goals as goal

pub returns-in_err-name_one : goal.returns-in_err-name_one
returns-in_err-name_one c =
    let parts = split_parts 44 c.parts.rest.now (Some (c.in-Some.first, c.in-Some.others)) c.in-Some.ensures.cases (lit< tt) in
    rw c.from_residual.ensures
    (refused_before c.args.text.now c.parts.rest.now c.parts.slacks c.parts.invariant.1 c.in-Some.first.now c.in_err-name_one.ensures c.in-Some.others.now parts.0
    (lacks_all 44 c.in-Some.first.now parts.1))

pub parts-preserved : goal.parts-preserved
parts-preserved c =
    let parts = split_parts 44 c.parts.rest.now (Some (c.in-Some.first, c.in-Some.others)) c.in-Some.ensures.cases (lit< tt) in (
      search rules,
      goes_on c.args.text.now c.parts.rest.now c.parts.slacks c.name_one.new.slacks c.parts.invariant.1 c.in-Some.first.now c.in_ok-name_one.ensures c.in-Some.others.now parts.0
          (lacks_all 44 c.in-Some.first.now parts.1),
    )

pub returns-in_err-name_one-2 : goal.returns-in_err-name_one-2
returns-in_err-name_one-2 c =
    let parts = split_parts 44 c.parts.rest.now c.split_once.result c.split_once.ensures.cases (lit< tt) in
    let lacks = rw c.in_default.is at parts in
    rw c.from_residual-in_err-name_one-2.ensures
    (refused_last c.args.text.now c.parts.rest.now c.parts.slacks c.parts.invariant.1 c.parts.rest.now c.in_err-name_one-2.ensures refl (lacks_all 44 c.parts.rest.now lacks))

pub returns : goal.returns
returns c =
    ends c.args.text.now c.parts.rest.now c.parts.slacks c.name_one-2.new.slacks c.parts.invariant.1 c.parts.rest.now c.in_ok-name_one-2.ensures refl
