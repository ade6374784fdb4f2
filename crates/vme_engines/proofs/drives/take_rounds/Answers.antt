use Rattle.std.proofs.Common.{◌≡◌, ◌-◌, ◌+◌, suc, ap, sym, ◌∙◌, arith}
use Rattle.vme_model.specs.Offers.{rounds_from}
use Rattle.vme_model.specs.Plan.{drivers}
use Rattle.vme_engines.proofs.DriveRounds.{last_round, next_round, plan_stays}
use Rattle.vme_engines.proofs.drives.take_rounds.Goals as goal

pub returns-then-len-before : goal.returns-then-len-before
returns-then-len-before c =
    let one_less : c.args.edges - c.loop-round.round ≡ suc (c.args.edges - (c.loop-round.round + 1)) = omega arith in
    let all = c.requires ∙ ap drivers (sym c.loop-round.invariant.plan) in
    last_round c.loop-round.round c.args.edges (c.args.edges - (c.loop-round.round + 1)) c.loop-round.backplane c.take_turns.new.backplane c.args.all.now all c.take_turns.ensures
    (sym c.len.ensures ∙ c.if-len-before.true ∙ c.len-before.ensures)
    ∙ ap (λ n. rounds_from n c.loop-round.round c.args.edges c.loop-round.backplane) (sym one_less) ∙ sym c.loop-round.invariant.rest

pub loop-round-preserved : goal.loop-round-preserved
loop-round-preserved c =
    let one_less : c.args.edges - c.loop-round.round ≡ suc (c.args.edges - (c.loop-round.round + 1)) = omega arith in
    let all = c.requires ∙ ap drivers (sym c.loop-round.invariant.plan) in
    record {
      rest = c.loop-round.invariant.rest ∙ ap (λ n. rounds_from n c.loop-round.round c.args.edges c.loop-round.backplane) one_less
          ∙ next_round c.loop-round.round c.args.edges (c.args.edges - (c.loop-round.round + 1)) c.loop-round.backplane c.take_turns.new.backplane c.args.all.now all c.take_turns.ensures
          (λ e. c.if-len-before.false (c.len.ensures ∙ e ∙ sym c.len-before.ensures));
      plan = plan_stays c.loop-round.round c.args.edges 0 c.loop-round.backplane c.take_turns.new.backplane c.args.all.now all c.take_turns.ensures ∙ c.loop-round.invariant.plan;
    }
