use Rattle.std.proofs.Common.{◌∙◌, ap, subst, ℕ, true, false}
use Rattle.std.specs.Prelude.{not}
use Rattle.vme_model.specs.declared.signals.Wire.TheVariants.{Bg, Berr, AddressStrobe}
use Rattle.vme_model.specs.Guards.{Guard}
use Rattle.vme_model.specs.Settling.{as_settles, berr_settles, bg_rise_settles, bg_fall_settles}
use Rattle.vme_chain.specs.Segments.{is_past_end}
use Rattle.vme_wiring.specs.Chained.{chain_at}
use Rattle.vme_wiring.proofs.FieldReads.{settling_at, acknowledge_clear, grant_seen, grant_gone}
use Rattle.vme_wiring.proofs.wirings.Wiring.settling.Goals as goal

pub returns-in-AddressStrobe-true-clause-answer : goal.returns-in-AddressStrobe-true-clause-answer
returns-in-AddressStrobe-true-clause-answer g c = λ version p h is.
    let reports = g.A.Outcome.reports c.as_settles.result in
    subst (λ (k : ℕ × Guard). reports k.1)
    (settling_at version p h c.args.edge.wire AddressStrobe c.args.edge.fall true c.in-AddressStrobe-true.is-0 c.in-AddressStrobe-true.is-1)
    (subst (λ b. reports (as_settles b)) (c.is_acknowledge_clear.ensures ∙ acknowledge_clear version p h c.args.self.now is) c.as_settles.ensures)

pub returns-in-Berr-true-clause-answer : goal.returns-in-Berr-true-clause-answer
returns-in-Berr-true-clause-answer g c = λ version p h is.
    let reports = g.A.Outcome.reports c.berr_settles.result in
    subst (λ (k : ℕ × Guard). reports k.1)
    (settling_at version p h c.args.edge.wire Berr c.args.edge.fall true c.in-Berr-true.is-0 c.in-Berr-true.is-1)
    (subst (λ b. reports (berr_settles b)) (c.is_unanswerable.ensures version p h is) c.berr_settles.ensures)

pub returns-in-Bg-false-clause-answer : goal.returns-in-Bg-false-clause-answer
returns-in-Bg-false-clause-answer g c = λ version p h is.
    let w = c.args.self.now in
    let n = c.in-Bg-false.level in
    let reports = g.A.Outcome.reports c.bg_rise_settles.result in
    subst (λ (k : ℕ × Guard). reports k.1)
    (settling_at version p h c.args.edge.wire (Bg n) c.args.edge.fall false c.in-Bg-false.is-0 c.in-Bg-false.is-1)
    (subst reports
    (ap (bg_rise_settles w.version w.shared.bbsy) (c.is_past_end-is_past.ensures ∙ ap (λ x. is_past_end (chain_at x w.chains)) c.of_grant.ensures) ∙ grant_seen version p h w n is)
    c.bg_rise_settles.ensures)

pub returns-in-Bg-true-clause-answer : goal.returns-in-Bg-true-clause-answer
returns-in-Bg-true-clause-answer g c = λ version p h is.
    let w = c.args.self.now in
    let reports = g.A.Outcome.reports c.bg_fall_settles.result in
    subst (λ (k : ℕ × Guard). reports k.1)
    (settling_at version p h c.args.edge.wire (Bg c.in-Bg-true.field-0-0) c.args.edge.fall true c.in-Bg-true.is-0 c.in-Bg-true.is-1)
    (subst reports (ap (λ b. bg_fall_settles w.version (not b)) c.is_low-are_through.ensures ∙ grant_gone version p h w is) c.bg_fall_settles.ensures)
