use Rattle.std.proofs.Common.{◌+◌, ◌++◌, ◌∷◌, [], ◌≡◌, ◌∙◌, ap, drop, get_or, sym, take, length, true, false}
use Rattle.std.specs.Prelude.{nat_lt}
use Rattle.std.proofs.KnownBytes.{Appends-trans}
use Rattle.vme_model.specs.declared.signals.Driver.TheVariants.{Controller}
use Rattle.vme_model.specs.Plan.{drivers}
use Rattle.vme_explain.specs.Standing.{lines_for, topic_text}
use Rattle.vme_explain.proofs.Listed.{is_no_length, is_some_length, line_more, line_past, lines_from}
use Rattle.vme_explain.proofs.Written.{front_behind, front_of_more, on_err}
use Rattle.vme_explain.proofs.stands.write_lines.Goals as goal
use Rattle.vme_explain.proofs.stands.write_lines.Goals.{then-not-is_empty+in_ok-write_line, else-not-is_empty}

pub returns-in_err-write_line-clause-front : goal.returns-in_err-write_line-clause-front
returns-in_err-write_line-clause-front g c = on_err c.from_residual.result _ (λ k same marks.
    let text = topic_text c.args.topic c.args.bus.now k in
    let ds = c.as_slice-driver-items.result.now in
    let i = c.loop-driver.driver-index in
    let line = c.topic_line-line.ensures k same marks in
    let witnesses : nat_lt 0 (length (text (get_or ds i Controller))) ≡ true = ap (λ l. nat_lt 0 (length l)) (sym line) ∙ is_some_length (length c.topic_line-line.result.items)
    (sym c.is_empty.ensures ∙ c.if-not-is_empty.true) in
    rw (sym (ap (lines_for text) (c.as_slice-driver-items.ensures.value ∙ c.drivers-drivers.ensures ∙ ap drivers c.plan.ensures)) ∙ lines_from text ds i Controller c.loop-driver-test.true witnesses)
    (front_behind _ _ _ (lines_for text (take i ds)) ((text (get_or ds i Controller) ++ 10 ∷ []) ++ lines_for text (drop (i + 1) ds)) (c.loop-driver.invariant k same marks)
    (front_of_more _ _ (text (get_or ds i Controller) ++ 10 ∷ []) (lines_for text (drop (i + 1) ds)) (rw line at c.in_err-write_line.ensures.front))))

pub loop-driver-preserved : goal.loop-driver-preserved
loop-driver-preserved g c = λ k same marks.
    let text = topic_text c.args.topic c.args.bus.now k in
    let ds = c.as_slice-driver-items.result.now in
    let i = c.loop-driver.driver-index in
    let line = c.topic_line-line.ensures k same marks in
    elim c.if-not-is_empty.branch [
      | then-not-is_empty+in_ok-write_line w ↦
          let witnesses : nat_lt 0 (length (text (get_or ds i Controller))) ≡ true = ap (λ l. nat_lt 0 (length l)) (sym line) ∙ is_some_length (length c.topic_line-line.result.items)
          (sym c.is_empty.ensures ∙ w.if-not-is_empty.true) in
          rw (w.out-is, line_more text ds i Controller c.loop-driver-test.true witnesses)
          (Appends-trans _ _ _ (lines_for text (take i ds)) (text (get_or ds i Controller) ++ 10 ∷ []) (c.loop-driver.invariant k same marks) (rw line at w.in_ok-write_line.ensures.ok))
      | else-not-is_empty w ↦
          let witnesses : nat_lt 0 (length (text (get_or ds i Controller))) ≡ false = ap (λ l. nat_lt 0 (length l)) (sym line) ∙ is_no_length (length c.topic_line-line.result.items)
          (sym c.is_empty.ensures ∙ w.if-not-is_empty.false) in
          rw (w.out-is, line_past text ds i Controller c.loop-driver-test.true witnesses) (c.loop-driver.invariant k same marks)
    ]
