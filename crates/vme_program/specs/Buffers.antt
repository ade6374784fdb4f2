-- The sizes of the buffers of a job, in bytes.
use Rattle.std.specs.Prelude.{ℕ}

-- of an input that is read in small pieces
abbrev pub read_size : ℕ
read_size = 65536

-- of the output
abbrev pub written_size : ℕ
written_size = 270336
