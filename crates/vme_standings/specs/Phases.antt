-- Which phases of the grants and BBSY* a set has.
use Rattle.std.specs.Prelude.{◌≡◌, ◌<◌, ◌==◌, ◌&&◌, if◌then◌else◌, ℕ, Bool, true, false, Option, Some, None, nat_lt, slice_index_or}
use Rattle.vme_bus.specs.declared.sets.SlotSet.{SlotSet}
use Rattle.vme_bus.specs.Sets.{has}
use Rattle.vme_standings.specs.declared.phases.GrantPhase.{GrantPhase}
use Rattle.vme_standings.specs.declared.phases.GrantPhase.TheVariants.{Idle, Granting, Held, Expired}
use Rattle.vme_standings.specs.declared.phases.GrantPhases.{GrantPhases}

-- the set that holds no slot
abbrev pub no_slots : SlotSet
no_slots = record { bits = 0 }

-- the rows of the set: beyond the end they are empty
abbrev pub is_idle_at : GrantPhases → ℕ → Bool
is_idle_at s c = slice_index_or s.idle c false

abbrev pub granting_row : GrantPhases → ℕ → SlotSet
granting_row s c = slice_index_or s.granting c no_slots

abbrev pub held_row : GrantPhases → ℕ → SlotSet
held_row s b = slice_index_or s.held b no_slots

abbrev pub expired_row : GrantPhases → ℕ → SlotSet
expired_row s c = slice_index_or s.expired c no_slots

-- the phase is in the set
abbrev pub has_phase : GrantPhases → GrantPhase → Bool
has_phase s (Idle c) = is_idle_at s c
has_phase s (Granting c last) = has (granting_row s c) last
has_phase s (Held b first) = has (held_row s b) first
has_phase s (Expired c first) = has (expired_row s c) first

-- a set has a place for the phase: of four levels, of 22 numbers of slots
abbrev pub is_in_table : GrantPhase → Bool
is_in_table (Idle c) = nat_lt c 4
is_in_table (Granting c last) = nat_lt c 4 && nat_lt last 22
is_in_table (Held b first) = nat_lt b 22 && nat_lt first 22
is_in_table (Expired c first) = nat_lt c 4 && nat_lt first 22

-- A set has a bit for each of these phases: of four levels, of 22 numbers of slots, and of the 32
-- bits of a set of slots.
abbrev pub has_bit : GrantPhase → Bool
has_bit (Idle c) = nat_lt c 4
has_bit (Granting c last) = nat_lt c 4 && nat_lt last 32
has_bit (Held b first) = nat_lt b 22 && nat_lt first 32
has_bit (Expired c first) = nat_lt c 4 && nat_lt first 32

-- it holds no others
abbrev pub HoldsBits : GrantPhases → Type 0
HoldsBits s = (q : GrantPhase) → has_phase s q ≡ true → has_bit q ≡ true

-- a board that passes the test holds the bus in the phase
abbrev pub is_held_by : (ℕ → Bool) → GrantPhase → Bool
is_held_by test (Held b first) = test b
is_held_by test _ = false

-- somebody holds the bus in the phase
abbrev pub is_held : GrantPhase → Bool
is_held (Held b first) = true
is_held _ = false

-- the level of a phase in which nobody holds the bus
abbrev pub level_of : GrantPhase → Option ℕ
level_of (Idle c) = Some c
level_of (Granting c last) = Some c
level_of (Held b first) = None
level_of (Expired c first) = Some c

-- the phases of the set are those that pass the test
pub record HasExactly (s : GrantPhases) (test : GrantPhase → Bool) : Type 0 where
  pub idle : (c : ℕ) → c < 4 → has_phase s (Idle c) ≡ test (Idle c)
  pub granting : (c t : ℕ) → c < 4 → t < 32 → has_phase s (Granting c t) ≡ test (Granting c t)
  pub held : (b t : ℕ) → b < 22 → t < 32 → has_phase s (Held b t) ≡ test (Held b t)
  pub expired : (c t : ℕ) → c < 4 → t < 32 → has_phase s (Expired c t) ≡ test (Expired c t)

-- the same of the phases in which nobody holds the bus
pub record HasFree (s : GrantPhases) (test : GrantPhase → Bool) : Type 0 where
  pub idle : (c : ℕ) → c < 4 → has_phase s (Idle c) ≡ test (Idle c)
  pub granting : (c t : ℕ) → c < 4 → t < 32 → has_phase s (Granting c t) ≡ test (Granting c t)
  pub expired : (c t : ℕ) → c < 4 → t < 32 → has_phase s (Expired c t) ≡ test (Expired c t)

-- the new set is the old one but for one row
pub record ChangesIdle (level : ℕ) (may_be : Bool) (old new : GrantPhases) : Type 0 where
  pub idle : (n : ℕ) → is_idle_at new n ≡ (if n == level then may_be else is_idle_at old n)
  pub granting : new.granting ≡ old.granting
  pub held : new.held ≡ old.held
  pub expired : new.expired ≡ old.expired

pub record ChangesGranting (level : ℕ) (lasts : SlotSet) (old new : GrantPhases) : Type 0 where
  pub granting : (n : ℕ)
      → granting_row new n ≡ (if n == level then lasts else granting_row old n)
  pub idle : new.idle ≡ old.idle
  pub held : new.held ≡ old.held
  pub expired : new.expired ≡ old.expired

pub record ChangesHeld (board : ℕ) (firsts : SlotSet) (old new : GrantPhases) : Type 0 where
  pub held : (k : ℕ) → held_row new k ≡ (if k == board then firsts else held_row old k)
  pub idle : new.idle ≡ old.idle
  pub granting : new.granting ≡ old.granting
  pub expired : new.expired ≡ old.expired

pub record ChangesExpired (level : ℕ) (firsts : SlotSet) (old new : GrantPhases) : Type 0 where
  pub expired : (n : ℕ) → expired_row new n ≡ (if n == level then firsts else expired_row old n)
  pub idle : new.idle ≡ old.idle
  pub granting : new.granting ≡ old.granting
  pub held : new.held ≡ old.held
