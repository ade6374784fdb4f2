-- What numbers of a record stand for.
use Rattle.std.specs.Prelude.{◌==◌, if◌then◌else◌, ℕ, Option, Some, None, nat_lt}
use Rattle.vme_model.specs.declared.boards.ArbiterKind.{ArbiterKind}
use Rattle.vme_model.specs.declared.boards.ArbiterKind.TheVariants as policy
use Rattle.vme_model.specs.declared.boards.InterrupterRow.{InterrupterRow}
use Rattle.vme_model.specs.declared.boards.IrqKind.{IrqKind}
use Rattle.vme_model.specs.declared.boards.IrqKind.TheVariants.{Roak, Rora}
use Rattle.vme_model.specs.declared.boards.Release.{Release}
use Rattle.vme_model.specs.declared.boards.Release.TheVariants.{Done, Request}
use Rattle.vme_model.specs.declared.boards.RequesterRow.{RequesterRow}
use Rattle.vme_model.specs.declared.signals.Cycle.{Cycle}
use Rattle.vme_model.specs.declared.signals.Cycle.TheVariants.{Acknowledge, Access}
use Rattle.vme_model.specs.declared.signals.Version.{Version}
use Rattle.vme_model.specs.declared.signals.Version.TheVariants.{One, Two}
use Rattle.vme_bus.specs.declared.records.CycleRecord.{CycleRecord}
use Rattle.vme_bus.specs.declared.records.RequesterRecord.{RequesterRecord}
use Rattle.vme_bus.specs.declared.records.InterrupterRecord.{InterrupterRecord}
use Rattle.vme_bus.specs.declared.records.SeatRecord.{SeatRecord}
use Rattle.vme_bus.specs.declared.records.Seat.{Seat}

abbrev pub version_in : ℕ → Version
version_in n = if n == 1 then One else Two

abbrev pub kind_in : ℕ → ArbiterKind
kind_in n = if n == 0 then policy.Sgl else (if n == 1 then policy.Pri else policy.Rrs)

abbrev pub slot_in : ℕ → Option ℕ
slot_in n = if nat_lt n 22 then Some n else None

abbrev pub cycle_in : CycleRecord → Option Cycle
cycle_in x =
    if x.kind == 1 then Some (Acknowledge x.number)
    else (if x.kind == 2 then Some (Access x.number) else None)

abbrev pub release_in : RequesterRecord → Release
release_in x = if x.is_done == 0 then Request else Done x.burst

abbrev pub requester_in : RequesterRecord → Option RequesterRow
requester_in x =
    if x.stands == 0 then None else Some (record { level = x.level; release = release_in x })

abbrev pub irq_kind_in : InterrupterRecord → IrqKind
irq_kind_in x = if x.is_rora == 0 then Roak else Rora

abbrev pub interrupter_in : InterrupterRecord → Option InterrupterRow
interrupter_in x =
    if x.stands == 0 then None
    else Some (record { level = x.level; kind = irq_kind_in x; status = x.status })

-- what stands in an empty slot
abbrev pub no_seat : SeatRecord
no_seat = record {
  stands = 0;
  slot = 0;
  requester = record { stands = 0; level = 0; is_done = 0; burst = 0 };
  interrupter = record { stands = 0; level = 0; is_rora = 0; status = 0 };
  handler = 0;
  grant_source = 0;
  acknowledge_source = 0;
}

-- the board of a record that has one
abbrev pub seat_of_record : SeatRecord → Seat
seat_of_record x = record {
  row = record {
    slot = x.slot;
    requester = requester_in x.requester;
    interrupter = interrupter_in x.interrupter;
    handler = record { 0 = x.handler };
  };
  grant_source = x.grant_source;
  acknowledge_source = x.acknowledge_source;
}

abbrev pub seat_in : SeatRecord → Option Seat
seat_in x = if x.stands == 0 then None else Some (seat_of_record x)
