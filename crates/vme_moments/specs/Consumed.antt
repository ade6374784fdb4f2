-- What a reader of moments has read of its input.
use Rattle.std.specs.Prelude.{◌≡◌, ◌≤◌, ◌++◌, [], ℕ, Bool, true, false, List, Option, None, Result, Ok, Err, length}
use Rattle.std.specs.Io.KnownBytes.{Consumes, IsAtEnd}
use Rattle.vme_moments.specs.declared.MomentsFault.{MomentsFault}
use Rattle.vme_moments.specs.declared.reader.Reader.{Reader}
use Rattle.vme_moments.specs.Moments.{read_of}
use Rattle.vme_moments.specs.Reading.{ReadsMoments}
use Rattle.vme_moments.specs.Taking.{IsSound, rest_of}

-- a reader before the first byte
pub record IsNew (r : Reader) : Type 0 where
  pub sound : IsSound r
  pub empty : r.part.items ≡ []
  pub rest : (more : List ℕ) → rest_of r more ≡ read_of more

-- The reader has read what the input gave: from where it stands, further bytes say what the whole
-- says. Before the header line it keeps all of them.
pub record HasRead (from to : Option (List ℕ)) (r : Reader) : Type 0 where
  pub sound : IsSound r
  pub bytes : List ℕ
  pub consumed : Consumes from to bytes
  pub others : (more : List ℕ) → read_of (bytes ++ more) ≡ rest_of r more
  pub start : r.version ≡ None → r.part.items ≡ bytes

-- it has read so many bytes at least
pub record HasReadMany (n : ℕ) (from to : Option (List ℕ)) (r : Reader) : Type 0 where
  pub read : HasRead from to r
  pub many : n ≤ length read.bytes

-- The reader has read the input to its end; or it gave up before that, after one byte at least for
-- each of its reads; or there was a fault.
abbrev pub FeedsAll :
    Option (List ℕ) → Option (List ℕ) → Reader → Result Bool MomentsFault → Type 0
FeedsAll from to r (Ok true) = HasRead from to r × IsAtEnd to
FeedsAll from to r (Ok false) = HasReadMany 16777216 from to r
FeedsAll from to r (Err f) = ReadsMoments from to (Err f)
