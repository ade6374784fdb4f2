use Rattle.std.proofs.Common.{◌≡◌, ◌+◌, ◌++◌, ◌∷◌, ◌∙◌, ap, sym, refl, arith, drop, false, get_or, None, suc}
use Rattle.std.proofs.Math.Seq.{drop-cons}
use Rattle.vme_model.specs.declared.signals.Driver.TheVariants.{Controller}
use Rattle.vme_model.specs.declared.signals.Wire.TheVariants.{Bg}
use Rattle.vme_model.specs.declared.signals.Edge.{Edge}
use Rattle.vme_model.specs.Verdict.{kept}
use Rattle.vme_model.specs.Why.{edge_verdict}
use Rattle.vme_trace.proofs.WrittenLines.{on_err_map}
use Rattle.vme_reading.specs.Outcomes.{full_lines}
use Rattle.vme_reading.proofs.WrittenLines.{full_next, handed_on, handed_front, lines_put, on_err}
use Rattle.vme_replay.proofs.forms.write_full.Goals as goal

abbrev some_edge : Edge
some_edge = record { driver = Controller; wire = Bg 0; fall = false; value = None }

pub returns-in_err-write_full_line-clause-front : goal.returns-in_err-write_full_line-clause-front
returns-in_err-write_full_line-clause-front g c =
    on_err c.from_residual.result _ (handed_front _ _ _ _ _ _ c.loop-edge.invariant.run c.in_err-write_full_line.ensures.front)

pub loop-edge-preserved : goal.loop-edge-preserved
loop-edge-preserved g c =
    let es = c.args.edges.now in
    let i = c.loop-edge.edge-index in
    let n = c.loop-edge.n + 1 in
    let e = get_or es i some_edge in
    let behind = drop (i + 1) es in
    let more : suc i ≡ i + 1 = omega arith in
    let next : drop i es ≡ e ∷ behind = drop-cons es i some_edge c.loop-edge-test.true ∙ ap (λ k. e ∷ drop k es) more in
    let put =
    lines_put _ _ (full_lines _ (c.args.judged + 1) es) _ (full_lines _ n (drop i es)) (edge_verdict n c.loop-edge.bus e)
    (full_lines c.write_full_line.new.bus (n + 1) behind) (c.loop-edge.text ++ edge_verdict n c.loop-edge.bus e) c.loop-edge.invariant.run
    (full_next c.loop-edge.bus c.write_full_line.new.bus n (drop i es) behind e next c.in_ok-write_full_line.ensures.state) refl in
    record {
      number = omega (arith, c.loop-edge.invariant.number);
      state = c.loop-edge.invariant.state ∙ ap (kept c.loop-edge.bus) next ∙ ap (λ s. kept s behind) (sym c.in_ok-write_full_line.ensures.state);
      run = handed_on _ _ _ _ _ _ put _ c.in_ok-write_full_line.ensures.ok;
    }

pub returns-clause-front : goal.returns-clause-front
returns-clause-front g c =
    on_err_map c.hand_on.result _ _ (λ w. handed_front _ _ _ _ _ _ c.loop-edge.invariant.run w) c.hand_on.ensures.front
