-- A past owns nothing, so it may go to another thread.
use denote.Param.Send.{IsSend, owning_send, view_send, sendable}
use Rattle.vme_bus.specs.declared.past.Past.{Past, the_code}
use Rattle.vme_bus.specs.declared.past.Past.TheView.{view, invariant}
use Rattle.vme_bus.specs.contracts.past.Past.{the_row}
use Rattle.vme_bus.specs.contracts.past.Past.TheInside as Inside

pub send : IsSend the_row
send = view_send Inside.the_row Past the_code view invariant (owning_send Inside.the_type (search sendable, tt) (λ d. tt) (λ k x w. tt))
