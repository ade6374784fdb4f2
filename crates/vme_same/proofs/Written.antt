-- Two lines that are written, one after the other.
use Rattle.std.proofs.Common.{◌++◌, ℕ, List, Option, Result, Ok, Err}
use Rattle.std.specs.Prelude.{OnErr, OnOk}
use Rattle.std.specs.Io.KnownBytes.{Appends, Keeps}
use Rattle.std.proofs.KnownBytes.{Appends-kept, Appends-trans}
use Rattle.vme_trace.specs.declared.Fault.{Fault}
use Rattle.vme_trace.specs.Writing.{AppendsFront}
use Rattle.vme_reading.proofs.WrittenLines.{front_kept}

module _ (a b c d : Option (List ℕ)) (x y : List ℕ) (first : Appends a b x) (second : Appends b c y)
    (kept : Keeps c d) where
  pub both_ok : (r : Result (Unit {0}) Fault) → OnOk r (Appends a d (x ++ y))
  both_ok (Ok u) = Appends-kept a c d (x ++ y) (Appends-trans a b c x y first second) kept
  both_ok (Err f) = tt

  pub both_front : (r : Result (Unit {0}) Fault) → OnErr r (AppendsFront a d (x ++ y))
  both_front (Ok u) = tt
  both_front (Err f) = front_kept a c d (x ++ y) (Appends-trans a b c x y first second) kept
