use Rattle.std.proofs.Common.{◌∙◌, ap, sym, Some}
use Rattle.vme_events.specs.Misses.{is_missed}
use Rattle.vme_events.proofs.Searched.{fall_found, neither_found, rise_found}
use Rattle.vme_events.proofs.searches.on_other.Goals as goal

pub returns-then-is_missed : goal.returns-then-is_missed
returns-then-is_missed c = let b = c.args.bus.now in let o = c.args.only in let m = c.args.miss in let d = c.args.driver in let w = c.args.wire in
    ap (λ e. Some e) c.turned-fall.ensures
    ∙ sym (fall_found b o m d w (ap (is_missed b o m) (sym c.turned-fall.ensures) ∙ sym c.is_missed.ensures ∙ c.if-is_missed.true))

pub returns-then-is_missed-2 : goal.returns-then-is_missed-2
returns-then-is_missed-2 c = let b = c.args.bus.now in let o = c.args.only in let m = c.args.miss in let d = c.args.driver in let w = c.args.wire in
    ap (λ e. Some e) c.turned-rise.ensures
    ∙ sym (rise_found b o m d w (ap (is_missed b o m) (sym c.turned-rise.ensures) ∙ sym c.is_missed-2.ensures ∙ c.if-is_missed-2.true))

pub returns : goal.returns
returns c = let b = c.args.bus.now in let o = c.args.only in let m = c.args.miss in let d = c.args.driver in let w = c.args.wire in
    sym (neither_found b o m d w (ap (is_missed b o m) (sym c.turned-fall.ensures) ∙ sym c.is_missed.ensures ∙ c.if-is_missed.false)
    (ap (is_missed b o m) (sym c.turned-rise.ensures) ∙ sym c.is_missed-2.ensures ∙ c.if-is_missed-2.false))
