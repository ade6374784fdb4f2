use Rattle.std.proofs.Common.{◌≡◌, ◌∙◌, ap, sym, true, false, Some}
use Rattle.std.specs.Prelude.{option_map}
use Rattle.vme_model.specs.declared.signals.Wire.TheVariants.{Addr}
use Rattle.vme_model.specs.Open.{showing}
use Rattle.vme_events.specs.Misses.{is_missed}
use Rattle.vme_events.specs.Turned.{turned_to}
use Rattle.vme_events.proofs.Searched.{off_found, on_found}
use Rattle.vme_events.proofs.searches.on_address.Goals as goal

pub returns-then-is_missed : goal.returns-then-is_missed
returns-then-is_missed c = let b = c.args.bus.now in let o = c.args.only in let m = c.args.miss in let d = c.args.driver in
    let off : is_missed b o m (turned_to d Addr false) ≡ true = ap (is_missed b o m) (sym c.turned-off.ensures) ∙ sym c.is_missed.ensures ∙ c.if-is_missed.true in
    ap (λ e. Some e) c.turned-off.ensures ∙ sym (off_found b o m d off)

pub returns-in-Some : goal.returns-in-Some
returns-in-Some c = let b = c.args.bus.now in let o = c.args.only in let m = c.args.miss in let d = c.args.driver in
    let off : is_missed b o m (turned_to d Addr false) ≡ false = ap (is_missed b o m) (sym c.turned-off.ensures) ∙ sym c.is_missed.ensures ∙ c.if-is_missed.false in
    ap (λ e. Some e) c.showing.ensures ∙ sym (on_found b o m d off ∙ ap (option_map (showing d)) (sym c.shown.ensures ∙ c.in-Some.is))

pub returns-in-None : goal.returns-in-None
returns-in-None c = let b = c.args.bus.now in let o = c.args.only in let m = c.args.miss in let d = c.args.driver in
    let off : is_missed b o m (turned_to d Addr false) ≡ false = ap (is_missed b o m) (sym c.turned-off.ensures) ∙ sym c.is_missed.ensures ∙ c.if-is_missed.false in
    sym (on_found b o m d off ∙ ap (option_map (showing d)) (sym c.shown.ensures ∙ c.in-None.is))
