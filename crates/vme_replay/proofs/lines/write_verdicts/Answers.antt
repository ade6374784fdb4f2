use Rattle.std.proofs.Common.{◌≡◌, ◌+◌, ◌∙◌, ap, arith, length, refl, subst, sym, take}
use Rattle.std.proofs.lemmas.List.{length-take-le}
use Rattle.vme_model.specs.Verdict.{kept}
use Rattle.vme_model.specs.Locality.{AreWellFormed}
use Rattle.vme_trace.proofs.WrittenLines.{on_err_map}
use Rattle.vme_reading.proofs.FormedEdges.{formed_both}
use Rattle.vme_replay.proofs.RecordedLines.{lines_of_chunk}
use Rattle.vme_reading.proofs.WrittenLines.{handed_on, handed_front, kept_append, lines_put, on_err}
use Rattle.vme_replay.proofs.lines.write_verdicts.Goals as goal

pub returns-in_err-write_lines-clause-front : goal.returns-in_err-write_lines-clause-front
returns-in_err-write_lines-clause-front g c =
    let number : c.loop-rest.count + length c.split_at.result.0.now ≡ c.loop-rest.count + length c.split_at.result.0.now = refl in
    on_err c.from_residual.result _
    (handed_front _ _ _ _ _ _
    (lines_put _ _ _ _ _ _ _ _ c.loop-rest.invariant.run
    (lines_of_chunk _ _ _ _ _ c.split_at.result.0.now c.split_at.result.1.now _ c.split_at.ensures.by_index.0 c.step_all.ensures.state number c.step_all.ensures.answers) refl)
    c.in_err-write_lines.ensures.front)

pub loop-rest-preserved : goal.loop-rest-preserved
loop-rest-preserved g c =
    let size : length (take (length c.split_at.result.0.now) c.step_all.new.records) ≡ length c.split_at.result.0.now = length-take-le (length _) _ (omega arith) in
    let later : c.write_lines.new.count ≡ c.loop-rest.count + length c.split_at.result.0.now = c.in_ok-write_lines.ensures.count ∙ ap (λ n. c.loop-rest.count + n) size in
    let number : c.write_lines.new.count + length c.split_at.result.1.now ≡ c.args.judged + 1 + length c.args.edges.now = omega (arith, later) in
    let put =
    lines_put _ _ _ _ _ _ _ _ c.loop-rest.invariant.run (lines_of_chunk _ _ _ _ _ _ _ _ c.split_at.ensures.by_index.0 c.step_all.ensures.state later c.step_all.ensures.answers) refl in
    record {
      number = number;
      formed = (formed_both c.split_at.result.0.now c.split_at.result.1.now (subst AreWellFormed c.split_at.ensures.by_index.0 c.loop-rest.invariant.formed)).1;
      state =
          c.loop-rest.invariant.state ∙ ap (kept c.loop-rest.bus) c.split_at.ensures.by_index.0 ∙ kept_append c.loop-rest.bus c.split_at.result.0.now c.split_at.result.1.now
          ∙ ap (λ s. kept s c.split_at.result.1.now) (sym c.step_all.ensures.state);
      run = handed_on _ _ _ _ _ _ put _ c.in_ok-write_lines.ensures.ok;
    }

pub returns-clause-front : goal.returns-clause-front
returns-clause-front g c =
    on_err_map c.hand_on.result _ _ (λ w. handed_front _ _ _ _ _ _ c.loop-rest.invariant.run w) c.hand_on.ensures.front
