use Rattle.std.proofs.Common.{◌≡◌, ◌∙◌, ◌<◌, ◌≤◌, ◌^◌, List, length, ap, sym, subst, arith, false}
use Rattle.std.specs.Option.{option_map_or}
use Rattle.vme_model.specs.declared.boards.RequesterRow.{RequesterRow}
use Rattle.vme_model.specs.declared.signals.Driver.TheVariants.{Slot}
use Rattle.vme_model.specs.declared.signals.Edge.{Edge}
use Rattle.vme_model.specs.History.{cycles}
use Rattle.vme_explain.proofs.Witnessed.{cycles_within}
use Rattle.vme_events.specs.Events.{is_filled}
use Rattle.vme_events.proofs.before.fills_burst.Goals as goal

pub returns-in-Slot-Some : goal.returns-in-Slot-Some
returns-in-Slot-Some c = λ k same marks.
    let b = c.args.bus.now in
    let d = c.args.driver in
    let own = Slot c.in-Slot-Some.slot in
    let within : cycles b.history own ≤ length b.history = cycles_within b.history own in
    let few : cycles b.history own < 2 ^ 64 = omega (arith, within, c.laws.ensures.fits, c.laws.ensures.bounded) in
    let alike = ap (λ (h : List Edge). cycles h own) same in
    let count : c.made.result ≡ cycles b.history own = c.made.ensures b.plan k marks (subst (λ x. x < 2 ^ 64) (sym alike) few) ∙ alike in
    c.is_filled.ensures
    ∙ ap (λ n. is_filled n c.in-Slot-Some.requester.release) (count ∙ ap (cycles b.history) (sym c.in-Slot-Some.is-0))
    ∙ ap (λ o. option_map_or (λ (r : RequesterRow). is_filled (cycles b.history d) r.release) o false) (sym c.in-Slot-Some.is-1 ∙ c.requester_of.ensures.part)
