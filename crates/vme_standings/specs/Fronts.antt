-- Where the low segments of the acknowledge chain may end, and what the calls of `Fronts` do.
use Rattle.std.specs.Prelude.{◌≡◌, ◌==◌, ◌&&◌, ◌||◌, ◌<◌, if◌then◌else◌, ℕ, Bool, true, false, Option, Some, None}
use Rattle.vme_model.specs.declared.sets.ChainId.TheVariants.{Iack}
use Rattle.vme_model.specs.Plan.{Plan, upstream}
use Rattle.vme_bus.specs.declared.sets.SlotSet.{SlotSet}
use Rattle.vme_bus.specs.Sets.{has}
use Rattle.vme_standings.specs.declared.fronts.Fronts.{Fronts}
use Rattle.vme_standings.specs.declared.interrupters.Interrupters.TheVariants.{All}
use Rattle.vme_standings.specs.Interrupters.{is_meant_at}
use Rattle.vme_standings.specs.Slots.{EachSlot}

-- the place of a segment: the slot that drives it, or 0 for the controller's
abbrev pub place_of : Option ℕ → ℕ
place_of None = 0
place_of (Some s) = s

-- the place of the segment at the slot's input
abbrev pub input_place : Plan → ℕ → ℕ
input_place p s = place_of (upstream p Iack s)

-- the acknowledge may have reached the slot's board, which has an interrupter and has not passed
abbrev pub is_reached : Fronts → Plan → ℕ → Bool
is_reached f p s = is_meant_at All p s && has f.ends (input_place p s)

-- the whole chain is high
pub record IsWaiting (new : Fronts) : Type 0 where
  pub waiting : new.waiting ≡ true
  pub ends : (s : ℕ) → has new.ends s ≡ false

-- edges that no probe sees: the controller's segment falls, and that of a slot whose board passes
-- the acknowledge on, if its input may have fallen last
pub record MovesFronts (p : Plan) (unseen passing : SlotSet) (old new : Fronts) : Type 0 where
  pub waiting : new.waiting ≡ old.waiting
  pub head : has new.ends 0 ≡ (has old.ends 0 || (old.waiting && has unseen 0))
  pub others : EachSlot (λ s. has new.ends s
      ≡ (has old.ends s || ((has unseen s && has passing s) && has new.ends (input_place p s))))

-- the low segments end at the place
pub record EndsAt (place : ℕ) (new : Fronts) : Type 0 where
  pub waiting : new.waiting ≡ false
  pub here : has new.ends place ≡ true
  pub only : (s : ℕ) → has new.ends s ≡ true → s ≡ place

-- the segment at the place may fall: the acknowledge may not have begun, or may have reached its
-- board
abbrev pub may_fall_at : Fronts → Plan → ℕ → Bool
may_fall_at f p place = if place == 0 then f.waiting else has f.ends (input_place p place)

pub record FallsAt (p : Plan) (place : ℕ) (old new : Fronts) : Type 0 where
  pub able : may_fall_at old p place ≡ true
  pub ends : EndsAt place new

-- the acknowledge is at one of these boards, which has not passed it on
pub record Reaches (p : Plan) (boards : SlotSet) (new : Fronts) : Type 0 where
  pub waiting : new.waiting ≡ false
  pub all : EachSlot (λ s. has boards s ≡ true → has new.ends (input_place p s) ≡ true)
  pub only : (t : ℕ) → has new.ends t ≡ true
      → (s : ℕ) × (0 < s) × (s < 22) × (has boards s ≡ true) × (t ≡ input_place p s)
