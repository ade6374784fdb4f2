use Rattle.std.proofs.Common.{ap, ◌∙◌, ◌++◌, ◌∷◌, []}
use Rattle.vme_model.specs.declared.signals.Version.{Version}
use Rattle.vme_model.specs.Text.{header}
use Rattle.vme_model.specs.Offers.{rounds}
use Rattle.vme_reading.specs.Texts.{trace_made}
use Rattle.vme_reading.proofs.WrittenLines.{front_kept, on_err}
use Rattle.vme_drive.proofs.DrivenLines.{unheaded, cut_off, all_written, part_written, on_kept}
use Rattle.vme_drive.proofs.drives.Driving.write.Goals as goal

pub returns-in_err-put-clause-front : goal.returns-in_err-put-clause-front
returns-in_err-put-clause-front g c =
    let is = c.header_line.ensures ∙ ap (λ (v : Version). header v ++ 10 ∷ []) c.version.ensures in
    on_err c.from_residual.result _
    (unheaded c.args.self.now.bus c.args.edges (g.W.Write.contents c.args.out.now) (g.W.Write.contents c.put.new.out) c.header_line.result.now is c.in_err-put.ensures.front)

pub returns-in_err-take_rounds-clause-front : goal.returns-in_err-take_rounds-clause-front
returns-in_err-take_rounds-clause-front g c =
    let is = c.header_line.ensures ∙ ap (λ (v : Version). header v ++ 10 ∷ []) c.version.ensures in
    on_err c.from_residual-in_err-take_rounds.result _ (cut_off _ _ _ _ _ is c.in_ok-put.ensures.ok _ c.requires.empty c.requires.start
    (g.W.Write.contents c.take_rounds.new.out) c.take_rounds.new.self.bus c.take_rounds.new.self.text c.in_err-take_rounds.ensures.1)

pub returns-in_err-hand_on-clause-front : goal.returns-in_err-hand_on-clause-front
returns-in_err-hand_on-clause-front g c =
    let is = c.header_line.ensures ∙ ap (λ (v : Version). header v ++ 10 ∷ []) c.version.ensures in
    on_err c.from_residual-in_err-hand_on.result _
    (part_written _ _ _ _ _ is c.in_ok-put.ensures.ok _ c.requires.empty c.requires.start _ _ _ c.in_ok-take_rounds.ensures.0 c.in_ok-take_rounds.ensures.1 _ c.in_err-hand_on.ensures.front)

pub returns-clause-ok : goal.returns-clause-ok
returns-clause-ok g c =
    let is = c.header_line.ensures ∙ ap (λ (v : Version). header v ++ 10 ∷ []) c.version.ensures in
    on_kept c.flush.result (g.W.Write.contents c.args.out.now) (g.W.Write.contents c.hand_on.new.out) (g.W.Write.contents c.flush.new.out) (trace_made (rounds c.args.self.now.bus c.args.edges))
    (all_written _ _ _ _ _ is c.in_ok-put.ensures.ok _ c.requires.empty c.requires.start
    _ _ _ c.in_ok-take_rounds.ensures.0 c.in_ok-take_rounds.ensures.1 _ c.in_ok-hand_on.ensures.ok) c.flush.ensures.kept

pub returns-clause-front : goal.returns-clause-front
returns-clause-front g c =
    let is = c.header_line.ensures ∙ ap (λ (v : Version). header v ++ 10 ∷ []) c.version.ensures in
    on_err c.flush.result _
    (front_kept (g.W.Write.contents c.args.out.now) (g.W.Write.contents c.hand_on.new.out) (g.W.Write.contents c.flush.new.out) (trace_made (rounds c.args.self.now.bus c.args.edges))
    (all_written _ _ _ _ _ is c.in_ok-put.ensures.ok _ c.requires.empty c.requires.start
    _ _ _ c.in_ok-take_rounds.ensures.0 c.in_ok-take_rounds.ensures.1 _ c.in_ok-hand_on.ensures.ok) c.flush.ensures.kept)
