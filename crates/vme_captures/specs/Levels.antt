-- Which of the shared lines are low, as they are kept.
use Rattle.std.specs.Prelude.{Bool, false, slice_index_or}
use Rattle.vme_captures.specs.declared.signals.Line.{Line}
use Rattle.vme_captures.specs.declared.signals.Line.TheVariants.{Br, Irq, Bbsy, AddressStrobe, DataStrobe, Dtack, Berr, Bclr}
use Rattle.vme_captures.specs.declared.levels.Levels.{Levels}

-- the line is low
abbrev pub is_line_left_low : Levels → Line → Bool
is_line_left_low s (Br n) = slice_index_or s.br n false
is_line_left_low s (Irq n) = slice_index_or s.irq n false
is_line_left_low s Bbsy = s.bbsy
is_line_left_low s AddressStrobe = s.address_strobe
is_line_left_low s DataStrobe = s.data_strobe
is_line_left_low s Dtack = s.dtack
is_line_left_low s Berr = s.berr
is_line_left_low s Bclr = s.bclr
