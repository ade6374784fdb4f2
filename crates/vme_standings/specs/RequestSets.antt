-- What the calls of `Requests` do to the sets, slot by slot.
use Rattle.std.specs.Prelude.{◌≡◌, ◌≢◌, ◌==◌, ◌&&◌, ◌||◌, ◌⊎◌, ◌<◌, not, ℕ, Bool, true, false}
use Rattle.vme_bus.specs.declared.sets.SlotSet.{SlotSet}
use Rattle.vme_bus.specs.Sets.{has}
use Rattle.vme_standings.specs.declared.requests.Request.{Request}
use Rattle.vme_standings.specs.declared.requests.Request.TheVariants.{High, Pending, Served}
use Rattle.vme_standings.specs.declared.requests.Requests.{Requests}
use Rattle.vme_standings.specs.Slots.{EachSlot, HasOther}

-- the request of the slot's board may stand so
abbrev pub may_be : Requests → ℕ → Request → Bool
may_be d s High = has d.high s
may_be d s Pending = has d.pending s
may_be d s Served = has d.served s

-- before any edge
pub record AllHigh (boards : SlotSet) (new : Requests) : Type 0 where
  pub high : (s : ℕ) → may_be new s High ≡ has boards s
  pub pending : (s : ℕ) → may_be new s Pending ≡ false
  pub served : (s : ℕ) → may_be new s Served ≡ false

-- on a bus that is running: the boards of low lines in any way, but one that is alone on its line
-- is not high
pub record Unknown (boards low shared : SlotSet) (new : Requests) : Type 0 where
  pub high : EachSlot (λ s.
      may_be new s High ≡ (has boards s && not (has low s && not (has shared s))))
  pub pending : (s : ℕ) → may_be new s Pending ≡ has low s
  pub served : (s : ℕ) → may_be new s Served ≡ has low s

-- edges that no probe sees: on a low line one that is served may rise if it shares the line, and
-- one that is high may fall
pub record MovesUnseen (low shared : SlotSet) (old new : Requests) : Type 0 where
  pub high : EachSlot (λ s. may_be new s High
      ≡ (may_be old s High || (may_be old s Served && (has low s && has shared s))))
  pub pending : EachSlot (λ s.
      may_be new s Pending ≡ (may_be old s Pending || (may_be new s High && has low s)))
  pub served : (s : ℕ) → may_be new s Served ≡ may_be old s Served

-- the line of these boards falls: each may be pending, and high if another may have pulled it
pub record Falls (boards : SlotSet) (old new : Requests) : Type 0 where
  pub others : EachSlot (λ s.
      has boards s ≡ false → (r : Request) → may_be new s r ≡ may_be old s r)
  pub pending : EachSlot (λ s. has boards s ≡ true → may_be new s Pending ≡ true)
  pub served : EachSlot (λ s. has boards s ≡ true → may_be new s Served ≡ false)
  pub shared : EachSlot (λ s. has boards s ≡ true → HasOther boards s → may_be new s High ≡ true)
  pub alone : EachSlot (λ s. has boards s ≡ true → may_be new s High ≡ true → HasOther boards s)

-- the slot's board may let the line of these boards rise
pub record MayRise (boards : SlotSet) (d : Requests) (s : ℕ) : Type 0 where
  pub board : has boards s ≡ true
  pub served : may_be d s Served ≡ true
  pub others : EachSlot (λ t. has boards t ≡ true → t ≢ s → may_be d t High ≡ true)

-- the line of these boards rises: each of them is high
pub record Rises (boards : SlotSet) (old new : Requests) : Type 0 where
  pub others : EachSlot (λ s.
      has boards s ≡ false → (r : Request) → may_be new s r ≡ may_be old s r)
  pub high : EachSlot (λ s. has boards s ≡ true → may_be new s High ≡ true)
  pub pending : EachSlot (λ s. has boards s ≡ true → may_be new s Pending ≡ false)
  pub served : EachSlot (λ s. has boards s ≡ true → may_be new s Served ≡ false)

-- the slot's board answers an access: it is served if it was pending, and of these
pub record Accessed (slot : ℕ) (rora : SlotSet) (old new : Requests) : Type 0 where
  pub high : (s : ℕ) → may_be new s High ≡ may_be old s High
  pub pending : EachSlot (λ s.
      may_be new s Pending ≡ (may_be old s Pending && not (has rora s && (s == slot))))
  pub served : EachSlot (λ s. may_be new s Served
      ≡ (may_be old s Served || (may_be old s Pending && (has rora s && (s == slot)))))

-- some board answers an access: each of these that may be pending may be served
pub record AnyAccessed (rora : SlotSet) (old new : Requests) : Type 0 where
  pub high : (s : ℕ) → may_be new s High ≡ may_be old s High
  pub pending : (s : ℕ) → may_be new s Pending ≡ may_be old s Pending
  pub served : EachSlot (λ s.
      may_be new s Served ≡ (may_be old s Served || (may_be old s Pending && has rora s)))

-- one of the answering boards answers an acknowledge. If it is the only one, it was pending: it is
-- served if it is of these, and else pending. If there are several, each of these may be served.
pub record Acknowledged (answering roak : SlotSet) (old new : Requests) : Type 0 where
  pub others : EachSlot (λ s.
      has answering s ≡ false → (r : Request) → may_be new s r ≡ may_be old s r)
  -- it is the only one, or it is not
  pub either : EachSlot (λ s.
      has answering s ≡ true → HasOther answering s ⊎ (HasOther answering s → ⊥))
  pub several : EachSlot (λ s. has answering s ≡ true → HasOther answering s
      → (may_be new s High ≡ may_be old s High)
      × (may_be new s Pending ≡ may_be old s Pending)
      × (may_be new s Served ≡ (may_be old s Served || has roak s)))
  pub alone : EachSlot (λ s. has answering s ≡ true → (HasOther answering s → ⊥)
      → (may_be new s High ≡ false)
      × (may_be new s Pending ≡ (may_be old s Pending && not (has roak s)))
      × (may_be new s Served ≡ has roak s))

-- one of these boards may pull the line
abbrev pub pulls : Requests → SlotSet → ℕ → Bool
pulls d boards s = has boards s && (may_be d s Pending || may_be d s Served)

-- it may though the slot's board is not pending
abbrev pub pulls_without : ℕ → Requests → SlotSet → ℕ → Bool
pulls_without slot d boards s =
    has boards s && ((may_be d s Pending && not (s == slot)) || may_be d s Served)

-- the slot's board passes the acknowledge of its level on: it is not pending
pub record Passes (slot : ℕ) (boards : SlotSet) (low : Bool) (old new : Requests) : Type 0 where
  pub able : (may_be old slot High || may_be old slot Served) ≡ true
  pub pulled : low ≡ true → (s : ℕ) × (s < 22) × (pulls_without slot old boards s ≡ true)
  pub high : (s : ℕ) → may_be new s High ≡ may_be old s High
  pub pending : EachSlot (λ s. may_be new s Pending ≡ (may_be old s Pending && not (s == slot)))
  pub served : (s : ℕ) → may_be new s Served ≡ may_be old s Served

-- it may not: it is pending, or nobody else pulls the line, which is low
abbrev pub CannotPass : ℕ → SlotSet → Bool → Requests → Type 0
CannotPass slot boards low d =
    ((may_be d slot High || may_be d slot Served) ≡ false)
    ⊎ ((low ≡ true) × ((s : ℕ) → s < 22 → pulls_without slot d boards s ≡ false))
