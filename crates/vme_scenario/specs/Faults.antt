-- What can be wrong with a scenario, and at which key.
use Rattle.std.specs.Prelude.{List, ◌++◌, ℕ, Result, Ok, Err, codes}
use Rattle.vme_model.specs.declared.refusals.PlanError.{PlanError}

-- the first thing wrong; a key is its path in bytes
pub data Fault : Type 0 where
  not_toml : Fault
  unknown : List ℕ → Fault
  missing : List ℕ → Fault
  bad : List ℕ → Fault
  plan : PlanError → Fault

-- the path of a key of a table
abbrev pub path : List ℕ → List ℕ → List ℕ
path table key = table ++ codes "." ++ key

-- a fault of a table, seen from the table in which it stands
abbrev pub below : List ℕ → Fault → Fault
below table (unknown key) = unknown (path table key)
below table (missing key) = missing (path table key)
below table (bad key) = bad (path table key)
below table f = f

-- a result, with its fault seen from there
abbrev pub within : {A : Type 0} → List ℕ → Result A Fault → Result A Fault
within table (Ok a) = Ok a
within table (Err f) = Err (below table f)

-- one thing after another, up to the first fault
infixl 10 ◌>>=◌
abbrev pub ◌>>=◌ : {A B : Type 0} → Result A Fault → (A → Result B Fault) → Result B Fault
(Ok a) >>= next = next a
(Err f) >>= next = Err f
