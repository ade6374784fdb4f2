use Rattle.std.proofs.Common.{◌∙◌, refl, sym, ap, Bool}
use Rattle.vme_model.specs.declared.signals.Wire.TheVariants.{Br, BgOut, Bbsy}
use Rattle.vme_model.specs.Verdict.{ruling_on}
use Rattle.vme_requester.specs.Local.{low, requester_readings}
use Rattle.vme_wiring.specs.Asked.{seen_by}
use Rattle.vme_wiring.proofs.PartAnswers.{requester_ruled, blind_to_acknowledge, is_free, with_inputs}
use Rattle.vme_wiring.proofs.boards.Board.ask_requester.Goals as goal

pub returns-in-Br : goal.returns-in-Br
returns-in-Br c version p h r same asked own =
    let b = c.args.self.now in
    let pins = seen_by c.args.chains.now c.args.pins.now b.row in
    requester_ruled version p h r b c.in-Some.requester pins c.args.edge Br _ same c.in-Some.is asked c.in-Br.is refl
    (c.may_request.ensures pins (is_free b) c.args.edge.value)

pub returns-in-BgOut : goal.returns-in-BgOut
returns-in-BgOut c version p h r same asked own =
    let b = c.args.self.now in
    let pins = seen_by c.args.chains.now c.args.pins.now b.row in
    requester_ruled version p h r b c.in-Some.requester pins c.args.edge BgOut _ same c.in-Some.is asked c.in-BgOut.is refl
    (c.may_pass.ensures pins (is_free b) c.args.edge.value (sym c.grant_in.ensures))

pub returns-in-Bbsy : goal.returns-in-Bbsy
returns-in-Bbsy c version p h r same asked own =
    let b = c.args.self.now in
    let q = c.in-Some.requester in
    let e = c.args.edge in
    let pins = seen_by c.args.chains.now c.args.pins.now b.row in
    let by = λ (grant free : Bool). ruling_on q.version (requester_readings q.slot q.row (low q) (with_inputs c.args.pins.now grant pins.iack_in) free) Bbsy e.fall e.value in
    requester_ruled version p h r b q pins e Bbsy _ same c.in-Some.is asked c.in-Bbsy.is refl
    (c.may_hold.ensures e.value
    ∙ blind_to_acknowledge q.version q.slot q.row (low q) c.args.pins.now c.grant_in-grant_in.result pins.iack_in c.is_address_free.result e.fall e.value
    ∙ ap (λ g. by g c.is_address_free.result) c.grant_in-grant_in.ensures
    ∙ ap (by pins.grant_in) c.is_address_free.ensures)
