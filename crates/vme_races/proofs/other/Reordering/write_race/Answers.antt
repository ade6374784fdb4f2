use Rattle.std.proofs.Common.{◌≡◌, ◌∙◌, ◌++◌, ◌∷◌, [], ap, false, is_ok, rules, sym, true}
use Rattle.std.proofs.lemmas.Result.{err_from_is_err_and}
use Rattle.std.proofs.KnownBytes.{Keeps-refl}
use Rattle.vme_model.specs.Numbered.{numbered}
use Rattle.vme_model.specs.Text.{text}
use Rattle.vme_model.specs.Verdict.{verdict}
use Rattle.vme_reading.specs.Outcomes.{bench}
use Rattle.vme_races.specs.Listed.{before_met}
use Rattle.vme_swaps.specs.Stops.{is_race}
use Rattle.vme_races.proofs.OtherOrders.{order_cut, ordered, raceless_none, refused_none}
use Rattle.vme_races.proofs.TakenIn.{legal_there}
use Rattle.vme_races.proofs.other.Reordering.write_race.Goals as goal

pub returns-then-is_err : goal.returns-then-is_err
returns-then-is_err g c = λ p v es are.
    let refused : is_ok (verdict c.args.self.now.racing.bus c.args.edge.now) ≡ false = search rules in
    (refused_none p v es c.args.edge.now c.args.self.now.racing c.args.self.now.edges.items are refused, Keeps-refl _)

pub returns-in_default : goal.returns-in_default
returns-in_default g c = λ p v es are.
    let accepted : is_ok (verdict c.args.self.now.racing.bus c.args.edge.now) ≡ true = search rules in
    let goes = c.walk-walk.ensures.walk v p (numbered (bench p v) es) are.0.1.last are.0.1.passing
    (legal_there p v es c.args.edge.now
    (ap (λ s. is_ok (verdict s c.args.edge.now)) (sym are.0.1.bus) ∙ accepted)) in
    let none : is_race c.walk-walk.result.stop ≡ false = search rules in (
      raceless_none p v es c.args.edge.now c.args.self.now.racing c.args.self.now.edges.items are
          c.walk-walk.result goes none,
      Keeps-refl _,
    )

pub returns-in_err-write_order : goal.returns-in_err-write_order
returns-in_err-write_order g c = λ p v es are.
    let e = err_from_is_err_and c.from_residual.result c.from_residual.ensures.1 in
    let accepted : is_ok (verdict c.args.self.now.racing.bus c.args.edge.now) ≡ true = search rules in
    let goes = c.walk-walk.ensures.walk v p (numbered (bench p v) es) are.0.1.last are.0.1.passing
    (legal_there p v es c.args.edge.now
    (ap (λ s. is_ok (verdict s c.args.edge.now)) (sym are.0.1.bus) ∙ accepted)) in
    rw (e.1, e.2) (order_cut p v es c.args.edge.now _ (g.W.Write.contents c.args.out.now)
    (g.W.Write.contents c.write_order.new.out) c.in_err-write_order.field-0.0 c.in_err-write_order.ensures.fault
    (ordered p v es c.args.edge.now c.args.self.now.racing c.args.self.now.edges.items are c.walk-walk.result
    goes accepted _ c.in-Races.met _ c.in-Races.is) c.in_err-write_order.ensures.front)

pub returns : goal.returns
returns g c = λ p v es are.
    let accepted : is_ok (verdict c.args.self.now.racing.bus c.args.edge.now) ≡ true = search rules in
    let goes = c.walk-walk.ensures.walk v p (numbered (bench p v) es) are.0.1.last are.0.1.passing
    (legal_there p v es c.args.edge.now
    (ap (λ s. is_ok (verdict s c.args.edge.now)) (sym are.0.1.bus) ∙ accepted)) in (
      text c.args.self.now.racing.bus.version
          (before_met c.args.self.now.edges.items c.walk-walk.result.passed ++ c.args.edge.now ∷ c.in-Races.met ∷ []),
      ordered p v es c.args.edge.now c.args.self.now.racing c.args.self.now.edges.items are c.walk-walk.result
          goes accepted _ c.in-Races.met _ c.in-Races.is,
      c.in_ok-write_order.ensures.ok,
    )
