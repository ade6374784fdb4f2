use Rattle.std.proofs.Common.{◌≡◌, ◌∙◌, sym, true}
use Rattle.vme_wiring.proofs.Seeing.{grant_gone}
use Rattle.vme_wiring.proofs.wirings.Wiring.is_grant_gone.Goals as goal

pub returns-else-not-is_two : goal.returns-else-not-is_two
returns-else-not-is_two c version p h is =
    let two = c.if-not-is_two.false in
    grant_gone version p h c.args.self.now c.is_low.result is ? c.is_low.ensures
