use Rattle.std.proofs.Common.{◌∙◌, refl, subst, arith}
use Rattle.std.proofs.lemmas.Result.{err_from_is_err_and}
use Rattle.vme_model.specs.Verdict.{State}
use Rattle.vme_trace.specs.Writing.{AppendsFront}
use Rattle.vme_reading.specs.Texts.{lines_made}
use Rattle.vme_drive.proofs.SlotsInTurn.{next_slot, last_slot, slots_front}
use Rattle.vme_drive.proofs.drives.Driving.take_slots.Goals as goal

pub loop-slot-init : goal.loop-slot-init
loop-slot-init g c = record { near = omega arith; so_far = refl; listed = λ first listed. listed }

pub returns-in_err-take_turn : goal.returns-in_err-take_turn
returns-in_err-take_turn g c =
    let e = err_from_is_err_and c.from_residual.result c.from_residual.ensures.1 in
    let turn_is = next_slot c.args.round c.args.edges c.args.self.now.bus c.loop-slot.self.bus c.loop-slot.last c.loop-slot.invariant.so_far c.in-Some.slot c.in-Some.ensures.above
    (λ s above below. c.movers.ensures s (c.in-Some.ensures.least s above below)) in
    rw (e.1, e.2) (
      c.in_err-take_turn.ensures.0,
      λ first listed.
          slots_front c.args.round c.args.edges c.args.self.now.bus c.in-Some.slot c.laws.ensures.accepted first (g.W.Write.contents c.take_turn.new.out)
          (subst (λ (b : State). AppendsFront first (g.W.Write.contents c.take_turn.new.out) (lines_made b)) turn_is
          (c.in_err-take_turn.ensures.1 first (c.loop-slot.invariant.listed first listed))),
    )

pub loop-slot-preserved : goal.loop-slot-preserved
loop-slot-preserved g c = record {
  near = c.in-Some.ensures.near;
  so_far =
      c.in_ok-take_turn.ensures.0
      ∙ next_slot c.args.round c.args.edges c.args.self.now.bus c.loop-slot.self.bus c.loop-slot.last c.loop-slot.invariant.so_far c.in-Some.slot c.in-Some.ensures.above
      (λ s above below. c.movers.ensures s (c.in-Some.ensures.least s above below));
  listed = λ first listed. c.in_ok-take_turn.ensures.1 first (c.loop-slot.invariant.listed first listed);
}

pub returns : goal.returns
returns g c = (
  last_slot c.args.round c.args.edges c.args.self.now.bus c.loop-slot.self.bus c.loop-slot.last c.loop-slot.invariant.so_far c.laws.ensures.accepted
      (λ s above. c.movers.ensures s (c.in_default.ensures s above)),
  c.loop-slot.invariant.listed,
)
