-- What a scenario says: its tables key by key, in the order in which faults are looked for.
use Rattle.std.specs.Prelude.{ℕ, suc, Bool, true, false, List, [], ◌∷◌, Option, Some, None, Result, Ok, Err, codes, decimal, if◌then◌else◌}
use Rattle.std.specs.List.{list_any}
use Rattle.std.specs.Str.{bytes_eq}
use Rattle.toml.specs.Data.{Data, Members, no_members, member, get_member, as_table}
use Rattle.vme_model.specs.declared.boards.Row.{Row}
use Rattle.vme_model.specs.declared.boards.RequesterRow.{RequesterRow}
use Rattle.vme_model.specs.declared.boards.InterrupterRow.{InterrupterRow}
use Rattle.vme_model.specs.declared.boards.Jumper.{Jumper}
use Rattle.vme_model.specs.declared.boards.Release.{Release}
use Rattle.vme_model.specs.declared.boards.Release.TheVariants.{Done, Request}
use Rattle.vme_model.specs.declared.refusals.PlanError.{PlanError}
use Rattle.vme_model.specs.Sets.{no_levels}
use Rattle.vme_model.specs.Plan.{Plan}
use Rattle.vme_model.specs.Accepted.{plan_fault}
use Rattle.vme_scenario.specs.Faults.{Fault, not_toml, unknown, missing, bad, plan, path, within, ◌>>=◌}
use Rattle.vme_scenario.specs.Values.{document, byte, arbiter, interrupter_kind, releases_when_done, tables, levels, chains}

-- the table has only these keys; members ascend, so the unknown key that is named is the least by
-- bytes
abbrev pub only : List (List ℕ) → Members → Result (Unit {0}) Fault
only keys no_members = Ok tt
only keys (member key d ms) =
    if list_any (bytes_eq key) keys then only keys ms else Err (unknown key)

-- what a key's value says
abbrev pub valued : {A : Type 0} → List ℕ → Option A → Result A Fault
valued key (Some a) = Ok a
valued key None = Err (bad key)

-- a key that is required
abbrev pub given : {A : Type 0} → List ℕ → (Data → Option A) → Option Data → Result A Fault
given key read (Some d) = valued key (read d)
given key read None = Err (missing key)

-- what a required key of a table says
abbrev pub needed : {A : Type 0} → List ℕ → (Data → Option A) → Members → Result A Fault
needed key read ms = given key read (get_member key ms)

-- a key that may be absent
abbrev pub given_or : {A : Type 0} → A → List ℕ → (Data → Option A) → Option Data → Result A Fault
given_or absent key read (Some d) = valued key (read d)
given_or absent key read None = Ok absent

-- what a key of a table says, if it is there
abbrev pub optional : {A : Type 0} → A → List ℕ → (Data → Option A) → Members → Result A Fault
optional absent key read ms = given_or absent key read (get_member key ms)

-- what a table at a key says; any other value is bad
abbrev pub inside :
    {A : Type 0} → List ℕ → (Members → Result A Fault) → Option Members
    → Result (Option A) Fault
inside key read (Some ms) = within key (read ms) >>= λ a. Ok (Some a)
inside key read None = Err (bad key)

-- a table that may be absent
abbrev pub given_part :
    {A : Type 0} → List ℕ → (Members → Result A Fault) → Option Data
    → Result (Option A) Fault
given_part key read (Some d) = inside key read (as_table d)
given_part key read None = Ok None

-- what a table inside a table says, if it is there
abbrev pub part :
    {A : Type 0} → List ℕ → (Members → Result A Fault) → Members
    → Result (Option A) Fault
part key read ms = given_part key read (get_member key ms)

-- the keys of a requester that releases the bus when done, and of one that releases it on request
abbrev pub requester_keys : Bool → List (List ℕ)
requester_keys true = codes "level" ∷ codes "release" ∷ codes "burst" ∷ []
requester_keys false = codes "level" ∷ codes "release" ∷ []

-- a burst is given only with the former
abbrev pub release : Bool → Members → Result Release Fault
release true ms = needed (codes "burst") byte ms >>= λ burst. Ok (Done burst)
release false ms = Ok Request

-- a board's requester: `release` comes first, since it says whether `burst` is a key
unfoldable pub requester : Members → Result RequesterRow Fault
requester ms = do
  done ← needed (codes "release") releases_when_done ms
  known ← only (requester_keys done) ms
  level ← needed (codes "level") byte ms
  release ← release done ms
  Ok (record { level = level; release = release })

-- a board's interrupter
unfoldable pub interrupter : Members → Result InterrupterRow Fault
interrupter ms = do
  known ← only (codes "level" ∷ codes "kind" ∷ codes "status" ∷ []) ms
  level ← needed (codes "level") byte ms
  kind ← needed (codes "kind") interrupter_kind ms
  status ← needed (codes "status") byte ms
  Ok (record { level = level; kind = kind; status = status })

-- a board
unfoldable pub board : Members → Result Row Fault
board ms = do
  known ← only (codes "slot" ∷ codes "requester" ∷ codes "interrupter" ∷ codes "handler" ∷ []) ms
  slot ← needed (codes "slot") byte ms
  requester ← part (codes "requester") requester ms
  interrupter ← part (codes "interrupter") interrupter ms
  handler ← optional no_levels (codes "handler") levels ms
  Ok (record { slot = slot; requester = requester; interrupter = interrupter; handler = handler })

-- the jumpers of an empty slot
unfoldable pub jumper : Members → Result Jumper Fault
jumper ms = do
  known ← only (codes "slot" ∷ codes "chains" ∷ []) ms
  slot ← needed (codes "slot") byte ms
  chains ← needed (codes "chains") chains ms
  Ok (record { slot = slot; chains = chains })

-- the tables of an array, numbered from n
abbrev pub each :
    {A : Type 0} → List ℕ → (Members → Result A Fault) → ℕ → List Members
    → Result (List A) Fault
each key read n [] = Ok []
each key read n (ms ∷ rest) =
    within (path key (decimal n)) (read ms) >>= λ first.
    (each key read (suc n) rest >>= λ others. Ok (first ∷ others))

-- a plan without fault, or its first fault
abbrev pub accepted_or : Plan → Option PlanError → Result Plan Fault
accepted_or p None = Ok p
accepted_or p (Some e) = Err (plan e)

-- the top table, then each board, then each jumper
unfoldable pub contents : Members → Result Plan Fault
contents ms = do
  known ← only (codes "slots" ∷ codes "arbiter" ∷ codes "board" ∷ codes "jumper" ∷ []) ms
  slots ← needed (codes "slots") byte ms
  arbiter ← needed (codes "arbiter") arbiter ms
  boards ← needed (codes "board") tables ms
  jumpers ← optional [] (codes "jumper") tables ms
  rows ← each (codes "board") board 1 boards
  jumpers ← each (codes "jumper") jumper 1 jumpers
  Ok (record { slots = slots; rows = rows; jumpers = jumpers; arbiter = arbiter })

-- the plan, if it is accepted
abbrev pub accepted : Plan → Result Plan Fault
accepted p = accepted_or p (plan_fault p)

-- what the top table says; a text without one is not TOML
abbrev pub read_as : Option Members → Result Plan Fault
read_as None = Err not_toml
read_as (Some ms) = contents ms >>= accepted

-- the plan that a text says, or the first thing wrong with it
abbrev pub scenario : List ℕ → Result Plan Fault
scenario text = read_as (document text)
