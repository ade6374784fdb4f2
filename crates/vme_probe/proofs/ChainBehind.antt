-- What is known of the acknowledge chain fits together behind a change that somebody may have made: `hindered_laws`.
use Rattle.std.proofs.Common.{◌≡◌, ◌≢◌, ◌∙◌, ◌&&◌, ◌||◌, ◌<◌, ◌≤◌, ◌⊎◌, ◌/◌, ℕ, zero, suc, Bool, true, false, cond, not, List, Option, Some, None, is_some, refl, sym, ap, subst, inl, inr, arith}
use Rattle.std.proofs.lemmas.Bool.{and_parts, cases_Bool}
use Rattle.std.proofs.lemmas.Bool.Decides.{nat_tests}
use Rattle.std.proofs.lemmas.Nat.Bits.{bit_at-lt, bit_at-suc, bit_at-zero, bit_at_lowest}
use Rattle.std.specs.Int.{bit_at}
use Rattle.std.specs.Prelude.{nat_lt, nat_le, ◌==◌, if◌then◌else◌, unwrap_or}
use Rattle.vme_model.specs.declared.sets.ChainId.{ChainId}
use Rattle.vme_model.specs.declared.sets.ChainId.TheVariants.{Bg0, Bg1, Bg2, Bg3, Iack}
use Rattle.vme_model.specs.Accepted.{IsAccepted}
use Rattle.vme_model.specs.Plan.{Plan, board}
use Rattle.vme_model.proofs.Bools.{same_number}
use Rattle.vme_bus.specs.declared.sets.SlotSet.{SlotSet}
use Rattle.vme_bus.specs.Sets.{has}
use Rattle.vme_captures.specs.declared.levels.Levels.{Levels}
use Rattle.vme_captures.specs.declared.signals.Change.{Change}
use Rattle.vme_captures.specs.declared.signals.Line.{Line}
use Rattle.vme_captures.specs.declared.signals.Line.TheVariants as line
use Rattle.vme_captures.specs.declared.signals.Signal.{Signal}
use Rattle.vme_captures.specs.declared.signals.Signal.TheVariants as signal
use Rattle.vme_captures.specs.declared.signals.Value.{Value}
use Rattle.vme_captures.specs.Levels.{is_line_left_low}
use Rattle.vme_captures.specs.Signals.{has_value, is_change, is_same_chain, is_signal}
use Rattle.vme_captures.specs.Wires.{wire_of}
use Rattle.vme_standings.specs.declared.fronts.Fronts.{Fronts}
use Rattle.vme_standings.specs.declared.interrupters.Interrupters.TheVariants.{All}
use Rattle.vme_standings.specs.declared.moving.Moved.TheVariants as moved
use Rattle.vme_standings.specs.declared.requests.Request.TheVariants as request
use Rattle.vme_standings.specs.declared.standings.Drivers.{Drivers}
use Rattle.vme_standings.specs.declared.standings.Probed.{Probed}
use Rattle.vme_standings.specs.declared.standings.Shown.{Shown}
use Rattle.vme_standings.specs.declared.standings.Shown.TheVariants as shown
use Rattle.vme_standings.specs.declared.standings.Standings.{Standings}
use Rattle.vme_standings.specs.Behind.{FrontsAnswered, FrontsBehind, FrontsPassed, FrontsTimedOut, IsBehind, LinesBehind, shown_behind}
use Rattle.vme_standings.specs.Driving.{AnswersShown, AreDrivers, AreStarters, BoardsMake, ControllerMakes, PassesShown, can_time_out, is_board_at, is_left_low, is_no_slot, is_under_way, last_place, nobody_answers}
use Rattle.vme_standings.specs.Fronts.{EndsAt, IsWaiting, input_place, is_reached, may_fall_at}
use Rattle.vme_standings.specs.Interrupters.{is_meant, is_meant_at}
use Rattle.vme_standings.specs.Moving.{moved_by, segment_moved}
use Rattle.vme_standings.specs.RequestSets.{may_be}
use Rattle.vme_standings.specs.Standings.{is_nobody}
use Rattle.vme_standings.proofs.Slots.{input_near, wire_near}
use Rattle.vme_standings.proofs.Tests.{both, is_false, never}
use Rattle.vme_probe.specs.ChainsFit.{AcknowledgeFits, may_end_at}
use Rattle.vme_probe.specs.Demands.{is_chain_low}
use Rattle.vme_probe.proofs.ChainKept.{EndsFit, below_last, input_below, same_side}
use Rattle.vme_probe.proofs.Fitting.{pin_shows}
use Rattle.vme_probe.proofs.Leaving.{near_slot}

-- ---- somebody made the change

-- a number that is not 0 has a bit
some_bit : (most n : ℕ) → n ≤ most → (n == 0) ≡ false → (i : ℕ) × ((bit_at n i == 1) ≡ true)
some_bit zero n small nonzero = absurd (nothing n small nonzero)
  where
    nothing : (n : ℕ) → n ≤ 0 → (n == 0) ≡ false → ⊥
    nothing n h e = grind (arith, nat_tests)
some_bit (suc most) n small nonzero = elim (cases_Bool (bit_at n 0 == 1)) [
  | inl one ↦ (0, one)
  | inr off ↦ (let half = some_bit most (n / 2) (omega (arith, small)) (is_false (n / 2 == 0) (λ z. never (n == 0) (all_zero off z) nonzero)) in
      (suc half.0, ap (λ b. b == 1) (bit_at-suc n half.0) ∙ half.1))
]
  where
    all_zero : (bit_at n 0 == 1) ≡ false → (n / 2 == 0) ≡ true → (n == 0) ≡ true
    all_zero off z =
        let less = bit_at-lt n 0 in
        let low : bit_at n 0 ≡ 0 = grind (arith, nat_tests, less, off) in
        let rest = sym (bit_at_lowest n) ∙ low in
        let half = same_number (n / 2) 0 z in
        let is : n ≡ 0 = omega (arith, rest, half) in
        grind (arith, nat_tests, is)

contrary : (b : Bool) → b ≡ true → not b ≡ true → ⊥
contrary true h k = never false k refl
contrary false h k = never false h refl

pub made : (may : Drivers) → is_nobody may ≡ false → (may.controller ≡ true) ⊎ ((s : ℕ) × (has may.boards s ≡ true))
made may some = elim (cases_Bool may.controller) [
  | inl c ↦ inl c
  | inr none ↦ inr (some_bit may.boards.bits may.boards.bits (omega arith) (is_false (may.boards.bits == 0) (λ z. never (is_nobody may) (rw (none, z) refl) some)))
]

module _ (p : Plan) (ok : IsAccepted p) (probed : Probed) (old : Standings) (may : Drivers) (by : (may.controller ≡ true) ⊎ ((s : ℕ) × (has may.boards s ≡ true)))
    (fits : AcknowledgeFits p probed old) where
  -- ---- behind a change of a line

  none_low : is_no_slot old.low.acknowledge ≡ true → (s : ℕ) → has old.low.acknowledge s ≡ false
  none_low h s = ap (λ n. bit_at n s == 1) (same_number old.low.acknowledge.bits 0 h) ∙ ap (λ n. n == 1) (bit_at-zero s)

  begun : (v : Option Value) (new : Fronts) → may.controller ≡ false → AreStarters p old v may.boards → IsWaiting new → EndsFit probed old.low.acknowledge new
  begun v new controller boards h = record {
    some = (None, h.waiting);
    each = front_is;
  }
    where
      high : ((may.controller ≡ true) ⊎ ((s : ℕ) × (has may.boards s ≡ true))) → is_no_slot old.low.acknowledge ≡ true
      high (inl c) = absurd (never may.controller c controller)
      high (inr s) = (boards.some s.0 s.1).0

      front_is : (front : Option ℕ) → may_end_at new front ≡ true → (s : ℕ) → s < 22 → has probed.segments.acknowledge s ≡ true → is_chain_low front s ≡ has old.low.acknowledge s
      front_is None waits s near seen = sym (none_low (high by) s)
      front_is (Some e) there s near seen = absurd (never (has new.ends e) (and_parts (nat_lt e 22) (has new.ends e) there).1 (h.ends e))

  -- an end that was one before
  old_end : is_some old.shown ≡ true → (e : ℕ) → e < 22 → has old.fronts.ends e ≡ true → (s : ℕ) → s < 22 → has probed.segments.acknowledge s ≡ true → nat_le s e ≡ has old.low.acknowledge s
  old_end some e near there s to seen = fits.each some (Some e) (both (nat_lt e 22) (has old.fronts.ends e) (below_last e near) there) s to seen

  same_fronts : is_some old.shown ≡ true → (new : Fronts) → new ≡ old.fronts → EndsFit probed old.low.acknowledge new
  same_fronts some new h = subst (λ f. EndsFit probed old.low.acknowledge f) (sym h) (record { some = fits.some some; each = fits.each some })

  input_of : (s : ℕ) → 0 < s → s < 22 → input_place p s < 22
  input_of s from near = let less = input_below p ok s from in omega (arith, less, near)

  answered : (v : Option Value) (x : Option Shown) → old.shown ≡ x → (new : Fronts) → may.controller ≡ false → AnswersShown p old v old.shown may.boards → FrontsAnswered p old v x new
      → is_some x ≡ true → EndsFit probed old.low.acknowledge new
  answered v (Some (shown.Acknowledge n)) is new controller boards h some = record {
    some = found by;
    each = front_is;
  }
    where
      of : AnswersShown p old v (Some (shown.Acknowledge n)) h.0
      of = subst (λ x. AnswersShown p old v x h.0) is h.1

      mine : AnswersShown p old v (Some (shown.Acknowledge n)) may.boards
      mine = subst (λ x. AnswersShown p old v x may.boards) is boards

      found : ((may.controller ≡ true) ⊎ ((s : ℕ) × (has may.boards s ≡ true))) → (front : Option ℕ) × (may_end_at new front ≡ true)
      found (inl c) = absurd (never may.controller c controller)
      found (inr s) =
          let k = and_parts (is_left_low old line.DataStrobe) _ (sym (mine s.0) ∙ s.1) in
          let l = and_parts (may_be old.requests s.0 request.Pending) _ k.1 in
          let m = and_parts (is_reached old.fronts p s.0) _ l.1 in
          let near = near_slot p ok s.0 (is_meant All) (and_parts (is_meant_at All p s.0) (has old.fronts.ends (input_place p s.0)) m.0).0 in
          let ends = h.2.all s.0 near.0 near.1 (of s.0 ∙ (sym (mine s.0) ∙ s.1)) in
          (Some (input_place p s.0), both (nat_lt (input_place p s.0) 22) (has new.ends (input_place p s.0)) (below_last (input_place p s.0) (input_of s.0 near.0 near.1)) ends)

      front_is : (front : Option ℕ) → may_end_at new front ≡ true → (s : ℕ) → s < 22 → has probed.segments.acknowledge s ≡ true → is_chain_low front s ≡ has old.low.acknowledge s
      front_is None waits s near seen = absurd (never new.waiting waits h.2.waiting)
      front_is (Some e) ends s near seen =
          let r = h.2.only e (and_parts (nat_lt e 22) (has new.ends e) ends).1 in
          let k = and_parts (is_left_low old line.DataStrobe) _ (sym (of r.0) ∙ r.3) in
          let l = and_parts (may_be old.requests r.0 request.Pending) _ k.1 in
          let m = and_parts (is_reached old.fronts p r.0) _ l.1 in
          let reached = (and_parts (is_meant_at All p r.0) (has old.fronts.ends (input_place p r.0)) m.0).1 in
          ap (λ k. nat_le s k) r.4 ∙ old_end (ap is_some is) (input_place p r.0) (input_of r.0 r.1 r.2) reached s near seen
  answered v None is new controller boards h some = absurd (never false some refl)
  answered v (Some (shown.Access t)) is new controller boards h some = same_fronts (ap is_some is) new h

  timed_out : (x : Option Shown) → old.shown ≡ x → (new : Fronts) → may.controller ≡ can_time_out p old → ((s : ℕ) → has may.boards s ≡ false) → FrontsTimedOut p old x new → is_some x ≡ true
      → EndsFit probed old.low.acknowledge new
  timed_out (Some (shown.Acknowledge n)) is new controller boards h some = record {
    some = (Some (last_place p), both (nat_lt (last_place p) 22) (has new.ends (last_place p)) (below_last (last_place p) near_last) h.here);
    each = front_is;
  }
    where
      near_last : last_place p < 22
      near_last = input_near p 22 (omega arith)

      passed : ((may.controller ≡ true) ⊎ ((s : ℕ) × (has may.boards s ≡ true))) → has old.fronts.ends (last_place p) ≡ true
      passed (inl c) =
          let k = and_parts (is_left_low old line.DataStrobe && not (is_left_low old line.Dtack)) (nobody_answers p old.fronts old.shown) (sym controller ∙ c) in
          subst (λ x. nobody_answers p old.fronts x ≡ true) is k.1
      passed (inr s) = absurd (never (has may.boards s.0) s.1 (boards s.0))

      front_is : (front : Option ℕ) → may_end_at new front ≡ true → (s : ℕ) → s < 22 → has probed.segments.acknowledge s ≡ true → is_chain_low front s ≡ has old.low.acknowledge s
      front_is None waits s near seen = absurd (never new.waiting waits h.waiting)
      front_is (Some e) ends s near seen =
          ap (λ k. nat_le s k) (h.only e (and_parts (nat_lt e 22) (has new.ends e) ends).1) ∙ old_end (ap is_some is) (last_place p) near_last (passed by) s near seen
  timed_out None is new controller boards h some = absurd (never false some refl)
  timed_out (Some (shown.Access t)) is new controller boards h some = same_fronts (ap is_some is) new h

  ends_line : (l : Line) (fall : Bool) (v : Option Value) (new : Fronts) → ControllerMakes p probed.version old (moved.Line l) fall may.controller
      → BoardsMake p probed.version old (moved.Line l) fall v may.boards → FrontsBehind p old (moved.Line l) fall v new → is_some (shown_behind (moved.Line l) fall v old.shown) ≡ true
      → EndsFit probed old.low.acknowledge new
  ends_line line.AddressStrobe true v new controller boards h some = begun v new controller boards h
  ends_line line.AddressStrobe false v new controller boards h some = absurd (never false some refl)
  ends_line line.Dtack true v new controller boards h some = answered v old.shown refl new controller boards h some
  ends_line line.Berr true v new controller boards h some = timed_out old.shown refl new controller boards h some
  ends_line l fall v new controller boards h some = same_fronts some new h

  -- ---- behind a change of a pin

  -- the segment may have fallen
  abbrev FallsHere : ℕ → Type 0
  FallsHere place = ((place ≡ 0) × (old.fronts.waiting ≡ true)) ⊎ ((0 < place) × (has old.fronts.ends (input_place p place) ≡ true))

  falls_here : (place : ℕ) (x : Option Shown) → may.controller ≡ (place == 0 && (is_under_way old && old.fronts.waiting)) → PassesShown p old place x may.boards → FallsHere place
  falls_here place x controller boards = by_maker by x boards
    where
      by_board : (s : ℕ) → has may.boards s ≡ true → (x : Option Shown) → PassesShown p old place x may.boards → FallsHere place
      by_board s is None b = absurd (never (has may.boards s) is (b s))
      by_board s is (Some (shown.Access t)) b = absurd (never (has may.boards s) is (b s))
      by_board s is (Some (shown.Acknowledge n)) b =
          let k = and_parts _ (is_board_at place s) (sym (b.2 s) ∙ is) in
          let l = and_parts (is_left_low old line.DataStrobe && not (is_left_low old line.Dtack)) (has old.fronts.ends (input_place p place) && b.0) k.0 in
          let from = (and_parts (nat_lt 0 place) (s == place) k.1).0 in
          inr ((let f : 0 < place = grind (arith, nat_tests) in f), (and_parts (has old.fronts.ends (input_place p place)) b.0 l.1).0)

      by_maker : ((may.controller ≡ true) ⊎ ((s : ℕ) × (has may.boards s ≡ true))) → (x : Option Shown) → PassesShown p old place x may.boards → FallsHere place
      by_maker (inl c) y b =
          let k = and_parts (place == 0) (is_under_way old && old.fronts.waiting) (sym controller ∙ c) in
          inl (same_number place 0 k.0, (and_parts (is_under_way old) old.fronts.waiting k.1).1)
      by_maker (inr s) y b = by_board s.0 s.1 y b

  is_able : (place : ℕ) → FallsHere place → may_fall_at old.fronts p place ≡ true
  is_able place (inl k) = subst (λ b. (if b then old.fronts.waiting else has old.fronts.ends (input_place p place)) ≡ true) (sym (ap (λ n. n == 0) k.0)) k.1
  is_able place (inr k) =
      let from = k.0 in
      let board : (place == 0) ≡ false = grind (arith, nat_tests) in
      subst (λ b. (if b then old.fronts.waiting else has old.fronts.ends (input_place p place)) ≡ true) (sym board) k.1

  fallen : (place : ℕ) → place < 22 → (new : Fronts) (low : SlotSet) → ((s : ℕ) → has low s ≡ (if s == place then true else has old.low.acknowledge s)) → FallsHere place
      → FrontsPassed p place old.fronts new → is_some old.shown ≡ true
      → EndsFit probed low new
  fallen place near new low lows here h some = record {
    some = (Some place, both (nat_lt place 22) (has new.ends place) (below_last place near) ends.here);
    each = front_is;
  }
    where
      ends : EndsAt place new
      ends = h.able (is_able place here)

      before : (s : ℕ) → s < 22 → has probed.segments.acknowledge s ≡ true → s ≢ place → FallsHere place → nat_le s place ≡ has old.low.acknowledge s
      before s to seen other (inl k) = beyond k.0 ∙ fits.each some None k.1 s to seen
        where
          beyond : place ≡ 0 → nat_le s place ≡ false
          beyond e = is_false (nat_le s place) (λ low. other (let l : nat_le s place ≡ true = low in let m : s ≤ place = grind (arith, nat_tests) in omega (arith, e, m)))
      before s to seen other (inr k) =
          let less = input_below p ok place k.0 in
          sym (same_side p ok place s k.0 other (λ from. fits.wires s from to seen)) ∙ old_end some (input_place p place) (omega (arith, less, near)) k.1 s to seen

      at_place : (s : ℕ) → s < 22 → has probed.segments.acknowledge s ≡ true → nat_le s place ≡ has low s
      at_place s to seen = elim (cases_Bool (s == place)) [
        | inl same ↦ (up_to (same_number s place same) ∙ sym (lows s ∙ ap (λ b. if b then true else has old.low.acknowledge s) same))
        | inr other ↦ (before s to seen (λ e. never (s == place) (grind (arith, nat_tests, e)) other) here ∙ sym (lows s ∙ ap (λ b. if b then true else has old.low.acknowledge s) other))
      ]
        where
          up_to : s ≡ place → nat_le s place ≡ true
          up_to e = grind (arith, nat_tests)

      front_is : (front : Option ℕ) → may_end_at new front ≡ true → (s : ℕ) → s < 22 → has probed.segments.acknowledge s ≡ true → is_chain_low front s ≡ has low s
      front_is None waits s to seen = absurd (never new.waiting waits ends.waiting)
      front_is (Some e) there s to seen = ap (λ k. nat_le s k) (ends.only e (and_parts (nat_lt e 22) (has new.ends e) there).1) ∙ at_place s to seen

  with_low : (low : SlotSet) (new : Fronts) → ((s : ℕ) → has low s ≡ has old.low.acknowledge s) → EndsFit probed old.low.acknowledge new → EndsFit probed low new
  with_low low new lows h = record { some = h.some; each = λ front end s near seen. h.each front end s near seen ∙ sym (lows s) }

  ends_pin : (c : ChainId) (place : ℕ) → place < 22 → (fall : Bool) (v : Option Value) (new : Fronts) (low : SlotSet)
      → ((s : ℕ) → has low s ≡ (if is_same_chain Iack c && (s == place) then fall else has old.low.acknowledge s))
      → ControllerMakes p probed.version old (segment_moved c place) fall may.controller → BoardsMake p probed.version old (segment_moved c place) fall v may.boards
      → FrontsBehind p old (segment_moved c place) fall v new
      → is_some old.shown ≡ true → EndsFit probed low new
  ends_pin Iack place near true v new low lows controller boards h some = fallen place near new low lows (falls_here place old.shown controller boards) h some
  ends_pin Iack place near false v new low lows controller boards h some = absurd (not_shown by)
    where
      not_shown : ((may.controller ≡ true) ⊎ ((s : ℕ) × (has may.boards s ≡ true))) → ⊥
      not_shown (inl c) = contrary (is_some old.shown) some (and_parts (place == 0) (not (is_some old.shown)) (sym controller ∙ c)).1
      not_shown (inr s) = contrary (is_some old.shown) some (and_parts (not (is_some old.shown)) (is_board_at place s.0) (sym (boards s.0) ∙ s.1)).0
  ends_pin Bg0 place near fall v new low lows controller boards h some = with_low low new lows (same_fronts some new h)
  ends_pin Bg1 place near fall v new low lows controller boards h some = with_low low new lows (same_fronts some new h)
  ends_pin Bg2 place near fall v new low lows controller boards h some = with_low low new lows (same_fronts some new h)
  ends_pin Bg3 place near fall v new low lows controller boards h some = with_low low new lows (same_fronts some new h)

-- a line other than AS*
abbrev is_address : Line → Bool
is_address line.AddressStrobe = true
is_address _ = false

not_address : (l : Line) → is_address l ≡ false → line.AddressStrobe ≢ l
not_address l other e = never (is_address l) (ap is_address (sym e)) other

-- something is shown only while AS* is low
line_cycle : (p : Plan) (probed : Probed) (old : Standings) (l : Line) (fall : Bool) (v : Option Value) (lines : Levels) → LinesBehind (signal.Line l) fall old.lines lines
    → AcknowledgeFits p probed old
    → is_some (shown_behind (moved.Line l) fall v old.shown) ≡ true → is_line_left_low lines line.AddressStrobe ≡ true
line_cycle p probed old line.AddressStrobe true v lines h fits some = h.set
line_cycle p probed old line.AddressStrobe false v lines h fits some = absurd (never false some refl)
line_cycle p probed old l fall v lines h fits some = h.others line.AddressStrobe (not_address l refl) ∙ fits.cycle some

pub behind : (p : Plan) (probed : Probed) (old new : Standings) (c : Change) (may : Drivers) → IsAccepted p → AreDrivers p probed old c may → is_nobody may ≡ false
    → is_change c ≡ true → IsBehind p probed old c new → AcknowledgeFits p probed old → AcknowledgeFits p probed new
behind p probed old new c may ok who some change h fits = by_signal c.signal refl
  where
    by_signal : (x : Signal) → c.signal ≡ x → AcknowledgeFits p probed new
    by_signal (signal.Line l) is =
        let shown_is : new.shown ≡ shown_behind (moved.Line l) c.fall c.value old.shown = (rw is at h.shown) in
        let ends : is_some (shown_behind (moved.Line l) c.fall c.value old.shown) ≡ true → EndsFit probed old.low.acknowledge new.fronts =
        ends_line p ok probed old may (made may some) fits l c.fall c.value new.fronts (rw is at who.controller) (rw is at who.boards) (rw is at h.fronts) in
        let low_is : new.low ≡ old.low = (rw is at h.low) in
        record {
          wires = fits.wires;
          cycle = λ some. line_cycle p probed old l c.fall c.value new.lines (rw is at h.lines) fits (ap is_some (sym shown_is) ∙ some);
          some = λ some. (ends (ap is_some (sym shown_is) ∙ some)).some;
          each = λ some front end s near seen. (ends (ap is_some (sym shown_is) ∙ some)).each front end s near seen ∙ ap (λ k. has k.acknowledge s) (sym low_is);
        }
    by_signal (signal.Pin q) is =
        let place = unwrap_or (wire_of p q).place 0 in
        let shown_is : new.shown ≡ old.shown = (rw is at h.shown) ∙ pin_shows q.chain (unwrap_or (wire_of p q).place 0) c.fall c.value old.shown in
        let lines_are : new.lines ≡ old.lines = (rw is at h.lines) in
        let near : unwrap_or (wire_of p q).place 0 < 22 = wire_near p q (rw is at (and_parts (is_signal c.signal) (has_value c.signal c.fall c.value) change).0) in
        let ends : is_some old.shown ≡ true → EndsFit probed new.low.acknowledge new.fronts =
        ends_pin p ok probed old may (made may some) fits q.chain (unwrap_or (wire_of p q).place 0) near c.fall c.value new.fronts new.low.acknowledge (λ s. (rw is at h.low) Iack s)
        (rw is at who.controller) (rw is at who.boards)
        (rw is at h.fronts) in
        record {
          wires = fits.wires;
          cycle = λ some. ap (λ l. is_line_left_low l line.AddressStrobe) lines_are ∙ fits.cycle (ap is_some (sym shown_is) ∙ some);
          some = λ some. (ends (ap is_some (sym shown_is) ∙ some)).some;
          each = λ some front end s near seen. (ends (ap is_some (sym shown_is) ∙ some)).each front end s near seen;
        }
