use Rattle.std.proofs.Common.{◌≤◌, length, arith}
use Rattle.vme_moments.proofs.Whole.{beginning_fits}
use Rattle.vme_moments.proofs.laws.the_longest_is_an_order_if_one_is_legal.Goals as goal

pub returns : goal.returns
returns c = λ version p x ms places order longest legal whole.
    let most : length places ≤ length ms = beginning_fits x ms places longest.legal.begins in
    let least : length order ≤ length places = longest.longest order legal in
    omega arith
