use Rattle.std.proofs.Common.{◌≡◌, ◌∙◌, ◌+◌, ◌<◌, ◌^◌, [], ap, arith, false, is_ok, length, refl, rules, subst, sym, true}
use Rattle.vme_model.specs.Numbered.{numbered}
use Rattle.vme_model.specs.Verdict.{verdict}
use Rattle.vme_reading.specs.Outcomes.{bench}
use Rattle.vme_races.specs.Kinds.{IsOnPlan}
use Rattle.vme_races.specs.Kept.{IsCounted}
use Rattle.vme_races.proofs.TakenIn.{accepted_made, advances_accepted, advances_refused, legal_there, refused_same, walks_within}
use Rattle.vme_races.proofs.racing.Racing.take_in.Goals as goal

pub returns-then-is_err-clause-line : goal.returns-then-is_err-clause-line
returns-then-is_err-clause-line c = λ p v es walks is number.
    let refused : is_ok (verdict c.args.self.now.bus c.args.edge.now) ≡ false = search rules in
    advances_refused p v es c.args.edge.now walks c.args.self.now _ is
    (refused_same c.args.self.now.bus c.args.edge.now refused) c.args.n number
    [] refl refused refl refl refl

pub returns-clause-line : goal.returns-clause-line
returns-clause-line c = λ p v es walks is number.
    let k = numbered (bench p v) es in
    let accepted : is_ok (verdict c.args.self.now.bus c.args.edge.now) ≡ true = search rules in
    let legal = legal_there p v es c.args.edge.now
    (ap (λ s. is_ok (verdict s c.args.edge.now)) (sym is.bus) ∙ accepted) in
    let within = walks_within p v es walks is.walked in
    let room = c.ranges.n in
    let few : length walks + 1 < 2 ^ 64 = omega (arith, within, number, room) in
    advances_accepted p v es c.args.edge.now walks c.args.self.now _ is
    (c.in_ok-keep.ensures.bus ∙ sym (accepted_made c.args.self.now.bus c.args.edge.now accepted))
    c.args.n number c.walk-walk.result _ accepted
    (c.in_ok-keep.ensures.last p v es is.bus is.last)
    (subst (IsOnPlan v p) (sym c.keep.ensures.passing)
    (c.walk-walk.ensures.plan v p k is.last is.passing legal))
    (c.note.ensures walks few (subst (IsCounted walks) (sym c.keep.ensures.counts) is.counts))
    (c.walk-walk.ensures.walk v p k is.last is.passing legal)
    refl
