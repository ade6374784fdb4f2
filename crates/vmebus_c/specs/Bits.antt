-- The bits by which C reads what a driver reads on its pins.
use Rattle.std.specs.Prelude.{◌+◌, ◌*◌, ◌%◌, ℕ, Bool, Option, Some, None, if◌then◌else◌}
use Rattle.vme_model.specs.declared.pins.Pins.{Pins}
use Rattle.vme_model.specs.declared.sets.BusLevels.{BusLevels}
use Rattle.vme_model.specs.declared.sets.Levels.{Levels}
use Rattle.vme_model.specs.declared.signals.Cycle.{Cycle}
use Rattle.vme_model.specs.declared.signals.Cycle.TheVariants.{Acknowledge, Access}
use Rattle.vme_model.specs.Sets.{has_bus_level, has_level}

-- the value of a bit if the line is low, and 0 otherwise
abbrev pub bit : Bool → ℕ → ℕ
bit low value = if low then value else 0

-- bits 0 to 3: BR0* to BR3*
abbrev pub request_bits : BusLevels → ℕ
request_bits set =
    bit (has_bus_level set 0) 1 + bit (has_bus_level set 1) 2 + bit (has_bus_level set 2) 4
    + bit (has_bus_level set 3) 8

-- bits 4 to 9: BBSY*, BCLR*, AS*, DS0*, DTACK* and BERR*
abbrev pub line_bits : Pins → ℕ
line_bits pins =
    bit pins.bbsy 16 + bit pins.bclr 32 + bit pins.address_strobe 64 + bit pins.data_strobe 128
    + bit pins.dtack 256 + bit pins.berr 512

-- bits 12 to 18: IRQ1* to IRQ7*
abbrev pub interrupt_bits : Levels → ℕ
interrupt_bits set =
    bit (has_level set 1) 4096 + bit (has_level set 2) 8192 + bit (has_level set 3) 16384
    + bit (has_level set 4) 32768 + bit (has_level set 5) 65536 + bit (has_level set 6) 131072
    + bit (has_level set 7) 262144

-- what is shown, in six bits, as the number that C uses for it; a level or a slot is below 32
abbrev pub shown_number : Option Cycle → ℕ
shown_number None = 0
shown_number (Some (Acknowledge level)) = level % 32
shown_number (Some (Access s)) = 32 + s % 32

-- bit 10 is its own grant-in, bit 11 its own iackin, and from bit 24 on stands what is shown
abbrev pub pins_number : Pins → ℕ
pins_number pins =
    request_bits pins.requests + line_bits pins + bit pins.grant_in 1024 + bit pins.iack_in 2048
    + interrupt_bits pins.irq + shown_number pins.shown * 16777216
