-- A `&` to a past shows nothing.
use denote.Memory.{part_of, raw_all}
use denote.Param.Send.{IsSync, cell_keyless, view_sync}
use Rattle.vme_bus.specs.declared.past.Past.{Past, the_code}
use Rattle.vme_bus.specs.declared.past.Past.TheView.{view, invariant}
use Rattle.vme_bus.specs.contracts.past.Past.{the_row}
use Rattle.vme_bus.specs.contracts.past.Past.TheInside as Inside

inside_sync : IsSync Inside.the_row
unfolding part_of
inside_sync = record { shared = λ d b o κ. λ q vs. (cell_keyless q (raw_all Inside.the_row.mir) vs b o, ((λ _. (tt, (tt, tt))), tt)) }

pub sync : IsSync the_row
sync = view_sync Inside.the_row Past the_code view invariant inside_sync
