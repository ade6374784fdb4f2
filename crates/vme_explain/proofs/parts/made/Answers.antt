use Rattle.std.proofs.Common.{◌∙◌, ap, sym, subst, ◌<◌, ◌≤◌, ◌^◌, List, length, arith}
use Rattle.vme_model.specs.declared.signals.Driver.TheVariants.{Slot}
use Rattle.vme_model.specs.declared.signals.Edge.{Edge}
use Rattle.vme_model.specs.History.{cycles}
use Rattle.vme_explain.proofs.Witnessed.{cycles_within}
use Rattle.vme_explain.proofs.OnPlan.{below_22}
use Rattle.vme_explain.proofs.parts.made.Goals as goal

pub made-requires : goal.made-requires
made-requires c = below_22 c.args.slot c.requires

pub returns : goal.returns
returns c = λ k at is.
    let b = c.args.bus.now in
    let d = Slot c.args.slot in
    let within : cycles b.history d ≤ length b.history = cycles_within b.history d in
    let few : cycles b.history d < 2 ^ 64 = omega (arith, c.laws.ensures.fits, c.laws.ensures.bounded) in
    let same = ap (λ (h : List Edge). cycles h d) at in
    c.made.ensures b.plan k is (subst (λ x. x < 2 ^ 64) (sym same) few) ∙ same
