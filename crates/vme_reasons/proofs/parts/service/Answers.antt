use Rattle.std.proofs.Common.{◌∙◌, ap, sym}
use Rattle.vme_reasons.proofs.Told.{service_is, service_high}
use Rattle.vme_reasons.proofs.parts.service.Goals as goal

pub returns-in_ok-since-in-Slot : goal.returns-in_ok-since-in-Slot
returns-in_ok-since-in-Slot c = λ k at is. ?

pub returns-in_default : goal.returns-in_default
returns-in_default c = λ k at is. ?
