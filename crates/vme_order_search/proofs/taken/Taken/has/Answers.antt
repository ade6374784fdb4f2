use Rattle.std.proofs.Common.{◌≡◌, ◌-◌, false, sym, ◌∙◌, arith, nat_lt}
use Rattle.std.proofs.lemmas.Bool.Decides.{nat_tests}
use Rattle.vme_order_search.proofs.Sets.{far_behind}
use Rattle.vme_order_search.proofs.taken.Taken.has.Goals as goal

pub returns-else-behind-lt128 : goal.returns-else-behind-lt128
returns-else-behind-lt128 c =
    let test : nat_lt (c.args.place - c.args.self.now.least - 1) 128 ≡ false =
    grind (arith, nat_tests) in
    test ∙ sym (far_behind c.args.self.now c.args.place (omega arith) c.if-place-self.false
    c.if-behind-lt128.false)
