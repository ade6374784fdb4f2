-- Which plans are accepted: the first fault, in the order of the tests. (Profile, except for these.
-- P1: chapter 3, the arbiter stands in slot 1. P2: chapter 7. P4: chapters 3 and 4. P5: chapter 3,
-- SGL serves level 3 alone. P6: chapter 4.)
use Rattle.std.specs.Prelude.{◌≡◌, ◌==◌, ◌&&◌, not, ℕ, Bool, true, false, Option, Some, None, List, [], ◌∷◌, ◌++◌, length, map, filter, find, nat_lt, nat_le, is_none, option_map}
use Rattle.std.specs.List.{list_any}
use Rattle.std.specs.Option.{option_map_or}
use Rattle.vme_model.specs.declared.boards.Row.{Row}
use Rattle.vme_model.specs.declared.boards.Jumper.{Jumper}
use Rattle.vme_model.specs.declared.boards.Release.{Release}
use Rattle.vme_model.specs.declared.boards.Release.TheVariants.{Done, Request}
use Rattle.vme_model.specs.declared.boards.ArbiterKind.{ArbiterKind}
use Rattle.vme_model.specs.declared.boards.ArbiterKind.TheVariants.{Sgl}
use Rattle.vme_model.specs.declared.sets.ChainId.{ChainId}
use Rattle.vme_model.specs.declared.sets.ChainId.TheVariants as chain
use Rattle.vme_model.specs.declared.refusals.Field.{Field}
use Rattle.vme_model.specs.declared.refusals.Field.TheVariants as field
use Rattle.vme_model.specs.declared.refusals.PlanError.{PlanError}
use Rattle.vme_model.specs.declared.refusals.PlanError.TheVariants as error
use Rattle.vme_model.specs.Signals.{is_level}
use Rattle.vme_model.specs.Sets.{has_level, has_chain, bits_of_levels, bits_of_chains}
use Rattle.vme_model.specs.Plan.{Plan, board, up_to, works}

-- the first value that there is
abbrev pub first_of : {A : Type 0} → List (Option A) → Option A
first_of [] = None
first_of (Some a ∷ rest) = Some a
first_of (None ∷ rest) = first_of rest

-- the value if the test holds
abbrev pub when : {A : Type 0} → Bool → A → Option A
when true a = Some a
when false a = None

-- P2: a backplane has at most 21 slots (chapter 7)
abbrev pub too_many_slots : Plan → Option PlanError
too_many_slots p = when (nat_lt 21 p.slots) (error.TooManySlots p.slots)

-- the slot is one of 1 to `slots`
abbrev pub is_within : ℕ → ℕ → Bool
is_within slots s = nat_le 1 s && nat_le s slots

-- an RWD requester that may make no cycle (profile)
abbrev pub has_no_burst : Release → Bool
has_no_burst (Done burst) = burst == 0
has_no_burst Request = false

-- the first field of a row that is out of range
abbrev pub row_range : ℕ → Row → Option Field
row_range slots r = first_of (
    when (not (is_within slots r.slot)) field.Slot
    ∷ when (option_map_or (λ q. nat_lt 3 q.level) r.requester false) field.RequesterLevel
    ∷ when (option_map_or (λ q. has_no_burst q.release) r.requester false) field.RequesterBurst
    ∷ when (option_map_or (λ i. not (is_level i.level)) r.interrupter false) field.InterrupterLevel
    ∷ when (nat_lt 127 (bits_of_levels r.handler)) field.Handler
    ∷ [])

-- the first field of a jumper that is out of range
abbrev pub jumper_range : ℕ → Jumper → Option Field
jumper_range slots j = first_of (
    when (not (is_within slots j.slot)) field.JumperSlot
    ∷ when (nat_lt 31 (bits_of_chains j.chains)) field.JumperChains
    ∷ [])

-- P8: the number of slots, then row by row, then jumper by jumper
abbrev pub out_of_range : Plan → Option PlanError
out_of_range p = option_map (λ f. error.OutOfRange f) (first_of (
    when (p.slots == 0) field.Slots
    ∷ map (row_range p.slots) p.rows
    ++ map (jumper_range p.slots) p.jumpers))

-- P1: slot 1 has a board, on which the arbiter stands (chapter 3)
abbrev pub no_controller : Plan → Option PlanError
no_controller p = when (is_none (board p 1)) error.NoController

-- how many rows and jumpers name a slot
abbrev pub namings : Plan → ℕ → ℕ
namings p s =
    length (filter (λ t. t == s) (map (λ r. r.slot) p.rows ++ map (λ j. j.slot) p.jumpers))

-- P3: two rows or jumpers name one slot (profile)
abbrev pub slot_twice : Plan → Option PlanError
slot_twice p =
    option_map (λ s. error.SlotTwice s) (find (λ s. nat_lt 1 (namings p s)) (up_to p.slots))

-- the five daisy chains (chapters 3 and 4)
abbrev pub chains : List ChainId
chains = chain.Bg0 ∷ chain.Bg1 ∷ chain.Bg2 ∷ chain.Bg3 ∷ chain.Iack ∷ []

-- a jumper of the slot joins the chain
abbrev pub is_joined : Plan → ℕ → ChainId → Bool
is_joined p s c = list_any (λ j. j.slot == s && has_chain j.chains c) p.jumpers

-- an empty slot that does not join a chain which a higher slot works
abbrev pub is_broken : Plan → ℕ → ChainId → Bool
is_broken p s c =
    is_none (board p s) && not (is_joined p s c)
    && list_any (λ r. nat_lt s r.slot && works c r) p.rows

-- P4: the least slot, then the least chain; an empty slot joins input to output (chapters 3 and 4)
abbrev pub chain_broken : Plan → Option PlanError
chain_broken p =
    first_of (map (λ s. option_map (λ c. error.ChainBroken s c) (find (is_broken p s) chains))
    (up_to p.slots))

-- a single level arbiter (chapter 3)
abbrev pub is_sgl : ArbiterKind → Bool
is_sgl Sgl = true
is_sgl _ = false

-- P5: an SGL arbiter serves level 3 alone (chapter 3)
abbrev pub level_not_served : Plan → Option PlanError
level_not_served p = option_map (λ r. error.LevelNotServed r.slot)
    (find (λ r. is_sgl p.arbiter && option_map_or (λ q. not (q.level == 3)) r.requester false)
    p.rows)

-- the levels of IRQ1* to IRQ7* (chapter 4)
abbrev pub irq_numbers : List ℕ
irq_numbers = 1 ∷ 2 ∷ 3 ∷ 4 ∷ 5 ∷ 6 ∷ 7 ∷ []

-- P6: each request line has at most one handler (chapter 4)
abbrev pub handler_twice : Plan → Option PlanError
handler_twice p = option_map (λ v. error.HandlerTwice v)
    (find (λ v. nat_lt 1 (length (filter (λ r. has_level r.handler v) p.rows))) irq_numbers)

-- P7: a handler needs a requester to get the bus (profile)
abbrev pub handler_without_requester : Plan → Option PlanError
handler_without_requester p = option_map (λ r. error.HandlerWithoutRequester r.slot)
    (find (λ r. nat_lt 0 (bits_of_levels r.handler) && is_none r.requester) p.rows)

-- the first fault, if there is one
abbrev pub plan_fault : Plan → Option PlanError
plan_fault p = first_of (
    too_many_slots p
    ∷ out_of_range p
    ∷ no_controller p
    ∷ slot_twice p
    ∷ chain_broken p
    ∷ level_not_served p
    ∷ handler_twice p
    ∷ handler_without_requester p
    ∷ [])

-- a plan without a fault
abbrev pub IsAccepted : Plan → Type 0
IsAccepted p = plan_fault p ≡ None
