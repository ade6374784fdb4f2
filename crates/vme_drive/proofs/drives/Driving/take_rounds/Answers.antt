use Rattle.std.proofs.Common.{◌≡◌, ◌-◌, ◌+◌, suc, ap, sym, ◌∙◌, arith}
use Rattle.std.proofs.lemmas.Result.{err_from_is_err_and}
use Rattle.vme_model.specs.Offers.{rounds_from}
use Rattle.vme_drive.proofs.DriveRounds.{last_round, next_round}
use Rattle.vme_drive.proofs.DrivenLines.{rounds_front}
use Rattle.vme_drive.proofs.drives.Driving.take_rounds.Goals as goal

pub returns-in_err-take_turns : goal.returns-in_err-take_turns
returns-in_err-take_turns g c =
    let e = err_from_is_err_and c.from_residual.result c.from_residual.ensures.1 in
    let one_less : c.args.edges - c.loop-round.round ≡ suc (c.args.edges - (c.loop-round.round + 1)) = omega arith in
    let end = c.loop-round.invariant.rest ∙ ap (λ n. rounds_from n c.loop-round.round c.args.edges c.loop-round.self.bus) one_less in
    rw (e.1, e.2) (
      c.in_err-take_turns.ensures.0,
      λ first listed.
          rounds_front (c.args.edges - (c.loop-round.round + 1)) c.loop-round.round c.args.edges c.loop-round.self.bus _ end first _
          (c.in_err-take_turns.ensures.1 first (c.loop-round.invariant.listed first listed)),
    )

pub returns-then-len-before : goal.returns-then-len-before
returns-then-len-before g c =
    let one_less : c.args.edges - c.loop-round.round ≡ suc (c.args.edges - (c.loop-round.round + 1)) = omega arith in (
      last_round c.loop-round.round c.args.edges (c.args.edges - (c.loop-round.round + 1)) c.loop-round.self.bus c.take_turns.new.self.bus c.in_ok-take_turns.ensures.0
          (sym c.len.ensures ∙ c.if-len-before.true ∙ c.len-before.ensures)
          ∙ ap (λ n. rounds_from n c.loop-round.round c.args.edges c.loop-round.self.bus) (sym one_less) ∙ sym c.loop-round.invariant.rest,
      λ first listed. c.in_ok-take_turns.ensures.1 first (c.loop-round.invariant.listed first listed),
    )

pub loop-round-preserved : goal.loop-round-preserved
loop-round-preserved g c =
    let one_less : c.args.edges - c.loop-round.round ≡ suc (c.args.edges - (c.loop-round.round + 1)) = omega arith in
    record {
      rest = c.loop-round.invariant.rest ∙ ap (λ n. rounds_from n c.loop-round.round c.args.edges c.loop-round.self.bus) one_less
          ∙ next_round c.loop-round.round c.args.edges (c.args.edges - (c.loop-round.round + 1)) c.loop-round.self.bus c.take_turns.new.self.bus c.in_ok-take_turns.ensures.0
          (λ e. c.if-len-before.false (c.len.ensures ∙ e ∙ sym c.len-before.ensures));
      listed = λ first listed. c.in_ok-take_turns.ensures.1 first (c.loop-round.invariant.listed first listed);
    }
