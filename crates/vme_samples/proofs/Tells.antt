-- What the probes see behind a set of the changes of a sample is the same in whatever order they
-- were made: the levels, what is shown, and whether DS* has fallen in the cycle.
use Rattle.std.proofs.Common.{◌≡◌, ◌∙◌, ◌+◌, ℕ, Bool, true, false, List, length, refl, sym, ap, arith}
use Rattle.std.specs.Prelude.{◌==◌, ◌&&◌, if◌then◌else◌, not, Option, Some, None, is_some, unwrap_or}
use Rattle.std.specs.List.{slice_get}
use Rattle.std.specs.Option.{option_map_or}
use Rattle.std.proofs.lemmas.Bool.Decides.{nat_tests}
use Rattle.std.proofs.lemmas.Nat.Bits.{bit_at-zero, same_from_bits}
use Rattle.vme_model.specs.Plan.{Plan}
use Rattle.vme_model.specs.declared.sets.ChainId.{ChainId}
use Rattle.vme_model.specs.declared.sets.ChainId.TheVariants as chain
use Rattle.vme_model.specs.declared.signals.Cycle.TheVariants as cycle
use Rattle.vme_model.proofs.Bools.{is_true}
use Rattle.vme_bus.specs.declared.sets.SlotSet.{SlotSet}
use Rattle.vme_bus.specs.Sets.{has}
use Rattle.vme_captures.specs.declared.signals.Line.{Line}
use Rattle.vme_captures.specs.declared.signals.Line.TheVariants as line
use Rattle.vme_captures.specs.declared.signals.Pin.{Pin}
use Rattle.vme_captures.specs.declared.signals.Side.{Side}
use Rattle.vme_captures.specs.declared.signals.Side.TheVariants.{In, Out}
use Rattle.vme_captures.specs.declared.signals.Signal.{Signal}
use Rattle.vme_captures.specs.declared.signals.Signal.TheVariants as signal
use Rattle.vme_captures.specs.declared.signals.Value.{Value}
use Rattle.vme_captures.specs.declared.signals.Value.TheVariants as value
use Rattle.vme_captures.specs.Levels.{is_line_left_low}
use Rattle.vme_captures.specs.Signals.{is_same_chain, is_same_pin, is_same_side, is_same_signal}
use Rattle.vme_captures.specs.Wires.{pin_on, wire_of}
use Rattle.vme_standings.specs.declared.standings.Drivers.{Drivers}
use Rattle.vme_standings.specs.declared.standings.Shown.{Shown}
use Rattle.vme_standings.specs.declared.standings.Standings.{Standings}
use Rattle.vme_standings.specs.Behind.{shown_behind, shown_of, strobed_behind}
use Rattle.vme_standings.specs.Driving.{may_show_value}
use Rattle.vme_standings.specs.Moving.{moved_by, segment_moved}
use Rattle.vme_standings.specs.Segments.{has_segment}
use Rattle.vme_standings.specs.Standings.{is_nobody}
use Rattle.vme_standings.specs.Unions.{SeeAlike}
use Rattle.vme_standings.proofs.Tests.{both, never}
use Rattle.vme_samples.specs.declared.places.Places.{Places}
use Rattle.vme_samples.specs.declared.samples.SeenChange.{SeenChange}
use Rattle.vme_samples.specs.Places.{has_place}
use Rattle.vme_samples.specs.Samples.{is_of}
use Rattle.vme_samples.proofs.OneMore.{off_bit}
use Rattle.vme_samples.proofs.Said.{count, said}

-- ---- what the changes say

abbrev pub strobe : Signal
strobe = signal.Line line.AddressStrobe

abbrev pub data_strobe : Signal
data_strobe = signal.Line line.DataStrobe

abbrev pub says_fall : List SeenChange → ℕ → Bool
says_fall sample i = option_map_or (λ s. s.change.fall) (slice_get sample i) false

abbrev pub shows : SeenChange → Option Shown
shows s = if s.change.fall then shown_of s.change.value else None

abbrev pub says_shown : List SeenChange → ℕ → Option Shown
says_shown sample i = option_map_or shows (slice_get sample i) None

-- the wire of a pin is this segment
abbrev pub moves_wire : Plan → ChainId → ℕ → Signal → Bool
moves_wire p c t (signal.Line l) = false
moves_wire p c t (signal.Pin q) = is_same_chain c q.chain && (t == unwrap_or (wire_of p q).place 0)

abbrev pub is_of_wire : Plan → List SeenChange → ChainId → ℕ → ℕ → Bool
is_of_wire p sample c t i = option_map_or (λ s. moves_wire p c t s.change.signal) (slice_get sample i) false

abbrev pub is_fall_of : List SeenChange → Signal → ℕ → Bool
is_fall_of sample x i = is_of sample x i && says_fall sample i

abbrev pub is_rise_of : List SeenChange → Signal → ℕ → Bool
is_rise_of sample x i = is_of sample x i && not (says_fall sample i)

-- a cycle is shown in which DS* has fallen
abbrev pub one_if : Bool → ℕ
one_if true = 1
one_if false = 0

abbrev pub open_cycles : Standings → ℕ
open_cycles st = one_if (is_some st.shown && st.strobed)

-- what was shown before the place
abbrev pub shown_before : List SeenChange → Standings → ℕ → Option Shown
shown_before sample start i = said (is_of sample strobe) (says_shown sample) start.shown (λ j. true) i

-- the standings say what the changes of the set say, and as many falls of DS* as cycles have one
pub record Tells (p : Plan) (sample : List SeenChange) (start : Standings) (set : Places) (st : Standings) : Type 0 where
  pub lines : (l : Line) → is_line_left_low st.lines l ≡ said (is_of sample (signal.Line l)) (says_fall sample) (is_line_left_low start.lines l) (has_place set) (length sample)
  pub low : (c : ChainId) (t : ℕ) → has_segment st.low c t ≡ said (is_of_wire p sample c t) (says_fall sample) (has_segment start.low c t) (has_place set) (length sample)
  pub shown : st.shown ≡ said (is_of sample strobe) (says_shown sample) start.shown (has_place set) (length sample)
  pub strobed : count (is_fall_of sample data_strobe) (has_place set) (length sample) + open_cycles start ≡ count (is_rise_of sample strobe) (has_place set) (length sample) + open_cycles st

-- the change at the place is one of a probe that a backplane can show: AS* falls while nothing is shown
pub record Fits (p : Plan) (pins : List Pin) (sample : List SeenChange) (start : Standings) (i : ℕ) : Type 0 where
  pub wire : (s : SeenChange) (q : Pin) → slice_get sample i ≡ Some s → s.change.signal ≡ signal.Pin q → pin_on p pins (wire_of p q) ≡ Some q
  pub strobe : is_of sample strobe i ≡ true → is_some (shown_before sample start i) ≡ not (says_fall sample i)

-- two that say so of one set say the same
pub alike : (p : Plan) (sample : List SeenChange) (start : Standings) (set : Places) (a b : Standings) → Tells p sample start set a → Tells p sample start set b → SeeAlike a b
alike p sample start set a b x y = record {
  lines = λ l. x.lines l ∙ sym (y.lines l);
  low = λ c t. x.low c t ∙ sym (y.low c t);
  shown = x.shown ∙ sym y.shown;
  strobed = λ on.
      let e : open_cycles a ≡ open_cycles b = omega (arith, x.strobed, y.strobed) in
      one a.strobed b.strobed
      (sym (ap (λ t. one_if (t && a.strobed)) on) ∙ e ∙ ap (λ t. one_if (t && b.strobed)) (ap (λ (k : Option Shown). is_some k) (sym (x.shown ∙ sym y.shown)) ∙ on));
}
  where
    one : (s t : Bool) → one_if (true && s) ≡ one_if (true && t) → s ≡ t
    one true true e = refl
    one false false e = refl
    one true false e = absurd (omega (arith, e))
    one false true e = absurd (omega (arith, e))

-- ---- the same

pub chain_is : (a b : ChainId) → is_same_chain a b ≡ true → a ≡ b
chain_is chain.Bg0 chain.Bg0 h = refl
chain_is chain.Bg1 chain.Bg1 h = refl
chain_is chain.Bg2 chain.Bg2 h = refl
chain_is chain.Bg3 chain.Bg3 h = refl
chain_is chain.Iack chain.Iack h = refl
chain_is a b h = absurd (never false h refl)

pub same_pin : (q : Pin) → is_same_pin q q ≡ true
same_pin q =
    both (q.slot == q.slot && is_same_chain q.chain q.chain) (is_same_side q.side q.side)
    (both (q.slot == q.slot) (is_same_chain q.chain q.chain) (self q.slot) (self_chain q.chain)) (self_side q.side)
  where
    self : (n : ℕ) → (n == n) ≡ true
    self n = grind (arith, nat_tests)

    self_chain : (c : ChainId) → is_same_chain c c ≡ true
    self_chain chain.Bg0 = refl
    self_chain chain.Bg1 = refl
    self_chain chain.Bg2 = refl
    self_chain chain.Bg3 = refl
    self_chain chain.Iack = refl

    self_side : (x : Side) → is_same_side x x ≡ true
    self_side In = refl
    self_side Out = refl

-- ---- somebody makes it

no_slots : (set : SlotSet) → ((s : ℕ) → has set s ≡ false) → (set.bits == 0) ≡ true
no_slots set off = ap (λ n. n == 0) (same_from_bits set.bits 0 (λ s. off_bit set.bits s (off s) ∙ sym (bit_at-zero s)))

pub not_nobody : (d : Drivers) → d.controller ≡ false → is_nobody d ≡ false → ((s : ℕ) → has d.boards s ≡ false) → ⊥
not_nobody d silent some off =
    never (is_nobody d) (ap (λ b. not b && (d.boards.bits == 0)) silent ∙ no_slots d.boards off) some

pub able : (d : Drivers) → d.controller ≡ false → is_nobody d ≡ false → (b : Bool) (t : ℕ → Bool) → ((s : ℕ) → has d.boards s ≡ (b && t s)) → b ≡ true
able d silent some b t are = is_true b (λ off. not_nobody d silent some (λ s. are s ∙ ap (λ x. x && t s) off))

pub shown_pin : (c : ChainId) (place : ℕ) (f : Bool) (v : Option Value) (old : Option Shown) → shown_behind (segment_moved c place) f v old ≡ old
shown_pin chain.Bg0 place f v old = refl
shown_pin chain.Bg1 place f v old = refl
shown_pin chain.Bg2 place f v old = refl
shown_pin chain.Bg3 place f v old = refl
shown_pin chain.Iack place f v old = refl

pub strobed_pin : (c : ChainId) (place : ℕ) (f old : Bool) → strobed_behind (segment_moved c place) f old ≡ old
strobed_pin chain.Bg0 place f old = refl
strobed_pin chain.Bg1 place f old = refl
strobed_pin chain.Bg2 place f old = refl
strobed_pin chain.Bg3 place f old = refl
strobed_pin chain.Iack place f old = refl

pub shown_other : (p : Plan) (x : Signal) (f : Bool) (v : Option Value) (old : Option Shown) → is_same_signal x strobe ≡ false → shown_behind (moved_by p x) f v old ≡ old
shown_other p (signal.Line line.AddressStrobe) f v old other = absurd (never true refl other)
shown_other p (signal.Line l) f v old other = refl
shown_other p (signal.Pin q) f v old other = shown_pin q.chain (unwrap_or (wire_of p q).place 0) f v old

pub shown_strobe : (p : Plan) (f : Bool) (v : Option Value) (old : Option Shown) → shown_behind (moved_by p strobe) f v old ≡ (if f then shown_of v else None)
shown_strobe p true v old = refl
shown_strobe p false v old = refl

-- what may be shown with AS* is shown
pub some_shown : (p : Plan) (v : Option Value) (s : ℕ) → may_show_value p v s ≡ true → is_some (shown_of v) ≡ true
some_shown p (Some (value.Shown (cycle.Acknowledge n))) s may = refl
some_shown p (Some (value.Shown (cycle.Access t))) s may = refl
some_shown p (Some value.Access) s may = refl
some_shown p (Some (value.Status b)) s may = absurd (never false may refl)
some_shown p None s may = absurd (never false may refl)
