-- Which slots a set holds.
use Rattle.std.specs.Prelude.{◌==◌, ◌≡◌, ◌<◌, ℕ, Bool, true, false}
use Rattle.std.specs.Int.{bit_at}
use Rattle.vme_bus.specs.declared.sets.SlotSet.{SlotSet}

-- the slot's bit is set
abbrev pub has : SlotSet → ℕ → Bool
has set s = bit_at set.bits s == 1

-- it holds no slot above that one
abbrev pub HoldsNoneAbove : SlotSet → ℕ → Type 0
HoldsNoneAbove set s = (t : ℕ) → s < t → has set t ≡ false

-- the least slot above that one that it holds
pub record IsNextAbove (set : SlotSet) (s next : ℕ) : Type 0 where
  pub above : s < next
  pub near : next < 32
  pub held : has set next ≡ true
  pub least : (t : ℕ) → s < t → t < next → has set t ≡ false
