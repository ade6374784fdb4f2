use Rattle.std.proofs.Common.{refl}
use Rattle.vme_moments.proofs.Spelled.{not_plain, no_text, number_read}
use Rattle.vme_moments.proofs.numbers.number_of.Goals as goal

pub returns-then-not-is_plain : goal.returns-then-not-is_plain
returns-then-not-is_plain c = not_plain c.args.digits.now (c.if-not-is_plain.ensures.other refl)

pub returns-in-Ok : goal.returns-in-Ok
returns-in-Ok c =
    number_read c.args.digits.now c.in-Ok.text.now c.number_in.result c.in-Ok.ensures.cases.0
    (c.if-not-is_plain.ensures.unsigned refl) (c.if-not-is_plain.ensures.short refl)
    c.number_in.ensures

pub returns-in-Err : goal.returns-in-Err
returns-in-Err c = no_text c.args.digits.now c.in-Err.ensures.cases.0
