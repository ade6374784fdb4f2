use Rattle.std.proofs.Common.{◌∙◌, sym, ap, subst}
use Rattle.vme_model.specs.Text.{edge_lines}
use Rattle.vme_trace.specs.Writing.{AppendsFront}
use Rattle.vme_drive.specs.Drawing.{missed_of}
use Rattle.vme_reading.proofs.WrittenLines.{line_alone}
use Rattle.vme_trace.proofs.WrittenLines.{on_err_map}
use Rattle.vme_drive.proofs.draws.write_missed.Goals as goal

pub returns-in-Missed-clause-front : goal.returns-in-Missed-clause-front
returns-in-Missed-clause-front g c =
    on_err_map c.put.result _ _
    (subst (AppendsFront _ _) (c.as_slice.ensures.value ∙ c.line_of.ensures ∙ line_alone c.in-Missed.edge ∙ ap (λ x. edge_lines (missed_of x)) (sym c.in-Missed.is)))
    c.put.ensures.front
