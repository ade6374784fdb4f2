-- What an engine did to its reader and its writer, as far as their bytes are known.
use Rattle.std.specs.Prelude.{◌≡◌, ℕ, List, Option, Some, None}
use Rattle.std.specs.Io.KnownBytes.{Appends, Consumes, IsAtEnd, Keeps}
use Rattle.vme_trace.specs.Writing.{AppendsFront}

-- what the reader had left and has left, and what the writer held and holds
pub record Streams : Type 0 where
  pub from : Option (List ℕ)
  pub to : Option (List ℕ)
  pub old : Option (List ℕ)
  pub new : Option (List ℕ)

abbrev pub streams : Option (List ℕ) → Option (List ℕ) → Option (List ℕ) → Option (List ℕ) → Streams
streams from to old new = record { from = from; to = to; old = old; new = new }

-- these are all the bytes that the reader had to give
abbrev pub IsInput : Option (List ℕ) → List ℕ → Type 0
IsInput None all = Unit {0}
IsInput (Some bytes) all = bytes ≡ all

-- these bytes were read
abbrev pub HasConsumed : Streams → List ℕ → Type 0
HasConsumed s bytes = Consumes s.from s.to bytes

-- the input was read to its end
abbrev pub IsReadOut : Streams → Type 0
IsReadOut s = IsAtEnd s.to

abbrev pub ReadNothing : Streams → Type 0
ReadNothing s = Keeps s.from s.to

-- these bytes were written
abbrev pub Wrote : Streams → List ℕ → Type 0
Wrote s bytes = Appends s.old s.new bytes

-- a prefix of these bytes was written
abbrev pub WroteFront : Streams → List ℕ → Type 0
WroteFront s bytes = AppendsFront s.old s.new bytes

abbrev pub WroteNothing : Streams → Type 0
WroteNothing s = Keeps s.old s.new
