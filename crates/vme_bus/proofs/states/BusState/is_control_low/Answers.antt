use Rattle.std.proofs.Common.{◌≡◌, ◌∙◌, ◌≤◌, ◌⊎◌, inl, inr, refl, sym, ap, List, false, arith}
use Rattle.std.specs.Prelude.{nat_lt}
use Rattle.std.proofs.lemmas.Bool.Decides.{nat_tests}
use Rattle.vme_model.specs.declared.signals.Driver.TheVariants.{Controller}
use Rattle.vme_model.specs.declared.signals.Edge.{Edge}
use Rattle.vme_model.specs.declared.signals.Version.{Version}
use Rattle.vme_model.specs.declared.signals.Wire.{Wire}
use Rattle.vme_model.specs.declared.signals.Wire.TheVariants.{Bg, Br, BgOut, Bbsy, Addr, AddressStrobe, DataStrobe, Irq, IackOut, Dtack}
use Rattle.vme_model.specs.Plan.{Plan, has_driver}
use Rattle.vme_model.specs.History.{drive}
use Rattle.vme_model.specs.Verdict.{IsLegal}
use Rattle.vme_histories.proofs.Drivers.{never_drove}
use Rattle.vme_bus.proofs.states.BusState.is_control_low.Goals as goal

module _ (version : Version) (p : Plan) (h : List Edge) (legal : IsLegal version p h) where
  -- the controller drives no wire that it lacks
  never : (w v : Wire) → has_driver p Controller v ≡ false → w ≡ v → false ≡ drive h Controller w
  never w v lacks e = sym (never_drove version p h Controller v legal lacks) ∙ sym (ap (λ (x : Wire). drive h Controller x) e)

pub returns-else-level-lt4 : goal.returns-else-level-lt4
returns-else-level-lt4 c version p h is =
    let n = c.in-Bg.level in
    let beyond = c.if-level-lt4.false in
    let l : 4 ≤ n = omega arith in
    let off : nat_lt n 4 ≡ false = grind (arith, nat_tests) in
    off ∙ never version p h is.legal c.args.wire (Bg n) off c.in-Bg.is

pub returns-in-Br : goal.returns-in-Br
returns-in-Br c version p h is = by_wire c.in-Br.is
  where
    by_wire : (c.args.wire ≡ Br) ⊎ ((c.args.wire ≡ BgOut) ⊎ (c.args.wire ≡ Bbsy)) → false ≡ drive h Controller c.args.wire
    by_wire (inl e) = never version p h is.legal c.args.wire Br refl e
    by_wire (inr (inl e)) = never version p h is.legal c.args.wire BgOut refl e
    by_wire (inr (inr e)) = never version p h is.legal c.args.wire Bbsy refl e

pub returns-in-Addr : goal.returns-in-Addr
returns-in-Addr c version p h is = by_wire c.in-Addr.is
  where
    by_wire : (c.args.wire ≡ Addr) ⊎ ((c.args.wire ≡ AddressStrobe) ⊎ (c.args.wire ≡ DataStrobe)) → false ≡ drive h Controller c.args.wire
    by_wire (inl e) = never version p h is.legal c.args.wire Addr refl e
    by_wire (inr (inl e)) = never version p h is.legal c.args.wire AddressStrobe refl e
    by_wire (inr (inr e)) = never version p h is.legal c.args.wire DataStrobe refl e

pub returns-in-Irq : goal.returns-in-Irq
returns-in-Irq c version p h is = by_wire c.in-Irq.is
  where
    by_wire : (c.args.wire ≡ Irq) ⊎ ((c.args.wire ≡ IackOut) ⊎ (c.args.wire ≡ Dtack)) → false ≡ drive h Controller c.args.wire
    by_wire (inl e) = never version p h is.legal c.args.wire Irq refl e
    by_wire (inr (inl e)) = never version p h is.legal c.args.wire IackOut refl e
    by_wire (inr (inr e)) = never version p h is.legal c.args.wire Dtack refl e
