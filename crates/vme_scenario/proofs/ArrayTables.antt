-- The tables of an array, read one after another.
use Rattle.std.proofs.Common.{List, ◌++◌, Result, Ok, Err}
use Rattle.vme_scenario.specs.Faults.{Fault}

-- what was read, and then the rest
abbrev pub behind : {A : Type 0} → List A → Result (List A) Fault → Result (List A) Fault
behind done (Ok rest) = Ok (done ++ rest)
behind done (Err f) = Err f
