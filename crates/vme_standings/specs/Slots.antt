-- What is asked of sets of slots.
use Rattle.std.specs.Prelude.{◌≡◌, ◌≢◌, ◌<◌, ℕ, true}
use Rattle.vme_bus.specs.declared.sets.SlotSet.{SlotSet}
use Rattle.vme_bus.specs.Sets.{has}

-- so it is of each slot that a backplane can have
abbrev pub EachSlot : (ℕ → Type 0) → Type 0
EachSlot P = (s : ℕ) → 0 < s → s < 22 → P s

-- the set holds another slot too
pub record HasOther (slots : SlotSet) (s : ℕ) : Type 0 where
  pub other : ℕ
  pub positive : 0 < other
  pub differs : other ≢ s
  pub held : has slots other ≡ true
