-- What is known of a cycle fits together, and stays so: `laws`.
use Rattle.std.proofs.Common.{◌≡◌, ◌≢◌, ◌∙◌, ◌&&◌, ◌<◌, ◌⊎◌, ℕ, Bool, true, false, cond, not, List, Option, Some, None, is_some, refl, sym, ap, subst, inl, inr, arith}
use Rattle.std.proofs.lemmas.Bool.{and_parts, cases_Bool}
use Rattle.std.proofs.lemmas.Bool.Decides.{nat_tests}
use Rattle.std.specs.Prelude.{nat_lt, ◌==◌, unwrap_or}
use Rattle.std.specs.Option.{option_map_or}
use Rattle.vme_model.specs.declared.boards.InterrupterRow.{InterrupterRow}
use Rattle.vme_model.specs.declared.boards.Row.{Row}
use Rattle.vme_model.specs.declared.sets.ChainId.{ChainId}
use Rattle.vme_model.specs.declared.sets.ChainId.TheVariants.{Bg0, Bg1, Bg2, Bg3, Iack}
use Rattle.vme_model.specs.declared.signals.Cycle.TheVariants as cycle
use Rattle.vme_model.specs.Accepted.{IsAccepted}
use Rattle.vme_model.specs.Plan.{Plan, board, is_active, upstream}
use Rattle.vme_model.proofs.Below.{IsBelow}
use Rattle.vme_model.proofs.Bools.{same_number}
use Rattle.vme_model.proofs.Cycles.{chain_below, interrupts}
use Rattle.vme_model.proofs.Ranges.{in_range}
use Rattle.vme_bus.specs.declared.sets.SlotSet.{SlotSet}
use Rattle.vme_bus.specs.Sets.{has}
use Rattle.vme_captures.specs.declared.levels.Levels.{Levels}
use Rattle.vme_captures.specs.declared.reader.Probe.{Probe}
use Rattle.vme_captures.specs.declared.signals.Change.{Change}
use Rattle.vme_captures.specs.declared.signals.Line.{Line}
use Rattle.vme_captures.specs.declared.signals.Line.TheVariants as line
use Rattle.vme_captures.specs.declared.signals.Pin.{Pin}
use Rattle.vme_captures.specs.declared.signals.Side.{Side}
use Rattle.vme_captures.specs.declared.signals.Side.TheVariants.{In, Out}
use Rattle.vme_captures.specs.declared.signals.Signal.{Signal}
use Rattle.vme_captures.specs.declared.signals.Signal.TheVariants as signal
use Rattle.vme_captures.specs.declared.signals.Value.{Value}
use Rattle.vme_captures.specs.declared.signals.Value.TheVariants as value
use Rattle.vme_captures.specs.Levels.{is_line_left_low}
use Rattle.vme_captures.specs.Signals.{has_value, is_change, is_same_chain, is_signal}
use Rattle.vme_captures.specs.Wires.{input_wire, wire_of, wire_on}
use Rattle.vme_standings.specs.declared.fronts.Fronts.{Fronts}
use Rattle.vme_standings.specs.declared.interrupters.Interrupters.TheVariants.{All}
use Rattle.vme_standings.specs.declared.moving.Moved.TheVariants as moved
use Rattle.vme_standings.specs.declared.segments.Segments.{Segments}
use Rattle.vme_standings.specs.declared.standings.Drivers.{Drivers}
use Rattle.vme_standings.specs.declared.standings.Probed.{Probed}
use Rattle.vme_standings.specs.declared.standings.Shown.{Shown}
use Rattle.vme_standings.specs.declared.standings.Shown.TheVariants as shown
use Rattle.vme_standings.specs.declared.standings.Standings.{Standings}
use Rattle.vme_standings.specs.Behind.{AddressersBehind, FrontsAnswered, FrontsBehind, FrontsPassed, FrontsTimedOut, IsBehind, LinesBehind, SetsWire, shown_behind, shown_of}
use Rattle.vme_standings.specs.Driving.{AreDrivers, BoardsMake, ControllerMakes, can_end, can_strobe, is_left_low}
use Rattle.vme_standings.specs.Fronts.{input_place, may_fall_at, place_of}
use Rattle.vme_standings.specs.Hidden.{FrontsHidden, HasMoved, HidesFronts, is_waited_for}
use Rattle.vme_standings.specs.Interrupters.{is_meant, is_meant_at}
use Rattle.vme_standings.specs.Moving.{segment_moved}
use Rattle.vme_standings.specs.Requests.{is_interrupter}
use Rattle.vme_standings.specs.Running.{IsPowerUp, Runs}
use Rattle.vme_standings.specs.Slots.{EachSlot}
use Rattle.vme_standings.specs.Standings.{is_nobody}
use Rattle.vme_standings.proofs.Slots.{wire_near}
use Rattle.vme_standings.proofs.Tests.{never}
use Rattle.vme_probe.specs.Hindered.{FitsTogether}
use Rattle.vme_probe.specs.Pins.{HoldsProbed, is_in, segment_at}
use Rattle.vme_probe.proofs.Leaving.{or_cases}
use Rattle.vme_probe.proofs.Cycling.{no_bit, no_bits}

-- ---- at the beginning

pub at_power_up : (p : Plan) (st : Standings) → IsPowerUp p st → FitsTogether p st
at_power_up p st is = record {
  strobed = λ low. absurd (never (is_left_low st line.DataStrobe) low (is.lines line.DataStrobe));
  addressed = λ s there. absurd (never (has st.addressers s) there (is.addressers s));
  ends = λ s from to there. absurd (never (has st.fronts.ends s) there (is.fronts.ends s));
  segments = λ s there. absurd (never (has st.low.acknowledge s) there (is.low Iack s));
}

pub on_a_running_bus : (p : Plan) (probed : Probed) (probes : List Probe) (lines : Levels) (low : Segments) (st : Standings) → Runs p probed lines low st
    → HoldsProbed true probes low → is_line_left_low lines line.DataStrobe ≡ false → FitsTogether p st
on_a_running_bus p probed probes lines low st is holds high = record {
  strobed = λ falls. absurd (never (is_left_low st line.DataStrobe) falls (ap (λ l. is_line_left_low l line.DataStrobe) is.lines_are ∙ high));
  addressed = λ s there. absurd (never (has st.addressers s) there (is.addressers s));
  ends = λ s from to there. absurd (never (has st.fronts.ends s) there (is.fronts.ends s));
  segments = λ s there.
      let near = (and_parts (nat_lt s 22) (is_in true probes (segment_at Iack s)) (sym (holds Iack s) ∙ (ap (λ l. has l.acknowledge s) (sym is.low_are) ∙ there))).0 in
      grind (arith, nat_tests, near);
}

-- ---- with the edges that no probe sees

interrupts_if_meant : (p : Plan) (s : ℕ) → is_meant_at All p s ≡ true → is_interrupter p s ≡ true
interrupts_if_meant p s h = of_board (board p s) h
  where
    of_row : (o : Option InterrupterRow) → option_map_or (λ i. true) o false ≡ true → is_some o ≡ true
    of_row None k = k
    of_row (Some i) k = refl

    of_board : (o : Option Row) → option_map_or (is_meant All) o false ≡ true → option_map_or (λ r. is_some r.interrupter) o false ≡ true
    of_board None k = k
    of_board (Some r) k = of_row r.interrupter k

abbrev Ends : Plan → Fronts → Type 0
Ends p f = EachSlot (λ s. has f.ends s ≡ true → is_interrupter p s ≡ true)

hidden_ends : (p : Plan) (probed : Probed) (st : Standings) (n : ℕ) (old new : Fronts) → HidesFronts p probed st n old new → Ends p old → Ends p new
hidden_ends p probed st n old new h fits = λ s from to there.
    at s from to (or_cases (has old.ends s) _ (sym (h.moves.others s from to) ∙ there))
  where
    at : (s : ℕ) → 0 < s → s < 22 → (has old.ends s ≡ true) ⊎ (((has h.unseen s && has h.passing s) && has new.ends (input_place p s)) ≡ true) → is_interrupter p s ≡ true
    at s from to (inl k) = fits s from to k
    at s from to (inr k) =
        let passes = (and_parts (has h.unseen s) (has h.passing s) (and_parts (has h.unseen s && has h.passing s) (has new.ends (input_place p s)) k).0).1 in
        elim (cases_Bool (is_meant_at All p s)) [
          | inl is ↦ interrupts_if_meant p s is
          | inr not_one ↦ absurd (never (has h.passing s) passes (h.passing_are.others s not_one))
        ]

fronts_hidden : (p : Plan) (probed : Probed) (st : Standings) (v : Option Shown) (waited : Bool) (new : Fronts) → FrontsHidden p probed st v waited new → Ends p st.fronts → Ends p new
fronts_hidden p probed st (Some (shown.Acknowledge n)) true new h fits = hidden_ends p probed st n st.fronts new h fits
fronts_hidden p probed st _ _ new h fits = subst (λ f. Ends p f) (sym h) fits

pub with_hidden : (p : Plan) (probed : Probed) (old new : Standings) → HasMoved p probed old new → FitsTogether p old → FitsTogether p new
with_hidden p probed old new h fits = record {
  strobed = λ low. ap is_some h.shown ∙ fits.strobed (ap (λ l. is_line_left_low l line.DataStrobe) (sym h.lines) ∙ low);
  addressed = λ s there. ap is_some h.shown ∙ fits.addressed s (ap (λ a. has a s) (sym h.addressers) ∙ there);
  ends = fronts_hidden p probed (record old { requests = new.requests }) old.shown (is_waited_for old) new.fronts h.fronts fits.ends;
  segments = λ s there. fits.segments s (ap (λ l. has l.acknowledge s) (sym h.low) ∙ there);
}

-- ---- behind a change that somebody may have made

-- a change of AS* shows something
shows : (v : Option Value) → has_value (signal.Line line.AddressStrobe) true v ≡ true → is_some (shown_of v) ≡ true
shows None h = absurd (never false h refl)
shows (Some (value.Shown (cycle.Acknowledge n))) h = refl
shows (Some (value.Shown (cycle.Access s))) h = refl
shows (Some value.Access) h = refl
shows (Some (value.Status b)) h = absurd (never false h refl)

-- somebody may have made the change: what all of them need is so
somebody : (may : Drivers) → is_nobody may ≡ false → may.controller ≡ false → (can : Bool) (f : ℕ → Bool) → ((s : ℕ) → has may.boards s ≡ (can && f s)) → can ≡ true
somebody may some none true f each = refl
somebody may some none false f each =
    let zeros : may.boards.bits ≡ 0 = no_bits may.boards.bits may.boards.bits (omega arith) (λ s. no_bit may.boards s (each s)) in
    let is_zero : (may.boards.bits == 0) ≡ true = grind (arith, nat_tests, zeros) in
    absurd (never (is_nobody may) (rw (none, is_zero) refl) some)

-- a line other than DS*
abbrev is_data : Line → Bool
is_data line.DataStrobe = true
is_data _ = false

not_data : (l : Line) → is_data l ≡ false → line.DataStrobe ≢ l
not_data l other e = never (is_data l) (ap is_data (sym e)) other

-- DS* is as before
data_stays : (l : Line) (fall : Bool) (old new : Levels) → is_data l ≡ false → LinesBehind (signal.Line l) fall old new → is_line_left_low new line.DataStrobe ≡ true
    → is_line_left_low old line.DataStrobe ≡ true
data_stays l fall old new other h low = sym (h.others line.DataStrobe (not_data l other)) ∙ low

strobed_line : (p : Plan) (probed : Probed) (old : Standings) (may : Drivers) (l : Line) (fall : Bool) (v : Option Value) (lines : Levels)
    → ControllerMakes p probed.version old (moved.Line l) fall may.controller → BoardsMake p probed.version old (moved.Line l) fall v may.boards → is_nobody may ≡ false
    → has_value (signal.Line l) fall v ≡ true
    → LinesBehind (signal.Line l) fall old.lines lines → FitsTogether p old → is_line_left_low lines line.DataStrobe ≡ true → is_some (shown_behind (moved.Line l) fall v old.shown) ≡ true
strobed_line p probed old may line.AddressStrobe true v lines controller boards some seen h fits low = shows v seen
strobed_line p probed old may line.AddressStrobe false v lines controller boards some seen h fits low =
    let can = somebody may some controller (can_end old) (has old.addressers) boards in
    absurd (not_both (is_left_low old line.DataStrobe) (data_stays line.AddressStrobe false old.lines lines refl h low) (and_parts old.strobed (not (is_left_low old line.DataStrobe)) can).1)
  where
    not_both : (b : Bool) → b ≡ true → not b ≡ true → ⊥
    not_both true h k = never false k refl
    not_both false h k = never false h refl
strobed_line p probed old may line.DataStrobe true v lines controller boards some seen h fits low =
    let can = somebody may some controller (can_strobe old) (has old.addressers) boards in
    (and_parts (is_some old.shown) (not (is_left_low old line.Dtack)) (and_parts (is_some old.shown && not (is_left_low old line.Dtack)) (not (is_left_low old line.Berr))
    (and_parts (is_some old.shown && not (is_left_low old line.Dtack) && not (is_left_low old line.Berr)) (not old.strobed) can).0).0).0
strobed_line p probed old may line.DataStrobe false v lines controller boards some seen h fits low = absurd (never (is_line_left_low lines line.DataStrobe) low h.set)
strobed_line p probed old may l fall v lines controller boards some seen h fits low = fits.strobed (data_stays l fall old.lines lines refl h low)

addressed_line : (p : Plan) (old : Standings) (l : Line) (fall : Bool) (v : Option Value) (new : SlotSet) → has_value (signal.Line l) fall v ≡ true → AddressersBehind p old (moved.Line l) fall v new
    → FitsTogether p old → (s : ℕ) → has new s ≡ true → is_some (shown_behind (moved.Line l) fall v old.shown) ≡ true
addressed_line p old line.AddressStrobe true v new seen h fits s there = shows v seen
addressed_line p old line.AddressStrobe false v new seen h fits s there = absurd (never (has new s) there (h s))
addressed_line p old l fall v new seen h fits s there = fits.addressed s (ap (λ a. has a s) (sym h) ∙ there)

-- a board's input is the controller's, or the output of a board with an interrupter
input_is : (p : Plan) → IsAccepted p → (s t : ℕ) → 0 < t → t ≡ input_place p s → is_interrupter p t ≡ true
input_is p ok s t from is = at (upstream p Iack s) (chain_below p (in_range p ok) s) is
  where
    at : (o : Option ℕ) → IsBelow (interrupts p) s o → t ≡ place_of o → is_interrupter p t ≡ true
    at None none e = absurd (omega (arith, from, e))
    at (Some u) great e = subst (λ k. is_interrupter p k ≡ true) (sym e) great.passes

answered_ends : (p : Plan) → IsAccepted p → (old : Standings) (v : Option Value) (x : Option Shown) (new : Fronts) → FrontsAnswered p old v x new → Ends p old.fronts → Ends p new
answered_ends p ok old v (Some (shown.Acknowledge n)) new h fits = λ t from to there.
    let r = h.2.only t there in
    input_is p ok r.0 t from r.4
answered_ends p ok old v _ new h fits = subst (λ f. Ends p f) (sym h) fits

timed_out_ends : (p : Plan) → IsAccepted p → (old : Standings) (x : Option Shown) (new : Fronts) → FrontsTimedOut p old x new → Ends p old.fronts → Ends p new
timed_out_ends p ok old (Some (shown.Acknowledge n)) new h fits = λ t from to there. input_is p ok 22 t from (h.only t there)
timed_out_ends p ok old _ new h fits = subst (λ f. Ends p f) (sym h) fits

ends_line : (p : Plan) → IsAccepted p → (old : Standings) (l : Line) (fall : Bool) (v : Option Value) (new : Fronts) → FrontsBehind p old (moved.Line l) fall v new → Ends p old.fronts → Ends p new
ends_line p ok old line.AddressStrobe true v new h fits = λ s from to there. absurd (never (has new.ends s) there (h.ends s))
ends_line p ok old line.Dtack true v new h fits = answered_ends p ok old v old.shown new h fits
ends_line p ok old line.Berr true v new h fits = timed_out_ends p ok old old.shown new h fits
ends_line p ok old l fall v new h fits = subst (λ f. Ends p f) (sym h) fits

-- the wire of a pin of the acknowledge chain is the controller's, or that of a board with an interrupter
pub wire_is : (p : Plan) → IsAccepted p → (s : ℕ) (side : Side) → 0 < unwrap_or (wire_on p Iack s side).place 0 → is_interrupter p (unwrap_or (wire_on p Iack s side).place 0) ≡ true
wire_is p ok s In from = input_wire_is p ok s from
  where
    input_wire_is : (p : Plan) → IsAccepted p → (s : ℕ) → 0 < unwrap_or (upstream p Iack s) 0 → is_interrupter p (unwrap_or (upstream p Iack s) 0) ≡ true
    input_wire_is p ok s from = at (upstream p Iack s) (chain_below p (in_range p ok) s) from
      where
        at : (o : Option ℕ) → IsBelow (interrupts p) s o → 0 < unwrap_or o 0 → is_interrupter p (unwrap_or o 0) ≡ true
        at None none k = absurd (omega (arith, k))
        at (Some u) great k = great.passes
wire_is p ok s Out from = by_board (is_active p.rows Iack s) refl from
  where
    at : (o : Option ℕ) → IsBelow (interrupts p) s o → 0 < unwrap_or o 0 → is_interrupter p (unwrap_or o 0) ≡ true
    at None none k = absurd (omega (arith, k))
    at (Some u) great k = great.passes

    by_board : (b : Bool) → is_active p.rows Iack s ≡ b → 0 < unwrap_or (cond b (record { chain = Iack; place = Some s }) (input_wire p Iack s)).place 0
        → is_interrupter p (unwrap_or (cond b (record { chain = Iack; place = Some s }) (input_wire p Iack s)).place 0) ≡ true
    by_board true is k = is
    by_board false is k = at (upstream p Iack s) (chain_below p (in_range p ok) s) k

passed_ends : (p : Plan) (place : ℕ) (old new : Fronts) → (0 < place → is_interrupter p place ≡ true) → FrontsPassed p place old new → Ends p old → Ends p new
passed_ends p place old new wire h fits =
    elim (cases_Bool (may_fall_at old p place)) [
      | inl able ↦ (λ s from to there. let e = (h.able able).only s there in subst (λ k. is_interrupter p k ≡ true) (sym e) (wire (subst (λ k. 0 < k) e from)))
      | inr unable ↦ subst (λ f. Ends p f) (sym (h.unable unable)) fits
    ]

ends_pin : (p : Plan) → IsAccepted p → (old : Standings) (s : ℕ) (c : ChainId) (side : Side) (fall : Bool) (v : Option Value) (new : Fronts)
    → FrontsBehind p old (segment_moved c (unwrap_or (wire_on p c s side).place 0)) fall v new → Ends p old.fronts → Ends p new
ends_pin p ok old s Iack side true v new h fits = passed_ends p (unwrap_or (wire_on p Iack s side).place 0) old.fronts new (wire_is p ok s side) h fits
ends_pin p ok old s Iack side false v new h fits = subst (λ f. Ends p f) (sym h) fits
ends_pin p ok old s Bg0 side fall v new h fits = subst (λ f. Ends p f) (sym h) fits
ends_pin p ok old s Bg1 side fall v new h fits = subst (λ f. Ends p f) (sym h) fits
ends_pin p ok old s Bg2 side fall v new h fits = subst (λ f. Ends p f) (sym h) fits
ends_pin p ok old s Bg3 side fall v new h fits = subst (λ f. Ends p f) (sym h) fits

segments_pin : (p : Plan) (q : Pin) (fall : Bool) (old new : Segments) → is_signal (signal.Pin q) ≡ true → SetsWire p q fall old new
    → ((s : ℕ) → has old.acknowledge s ≡ true → s < 22) → (s : ℕ) → has new.acknowledge s ≡ true → s < 22
segments_pin p q fall old new near h fits s there = at (is_same_chain Iack q.chain && (s == unwrap_or (wire_of p q).place 0)) refl (sym (h Iack s) ∙ there)
  where
    at : (b : Bool) → (is_same_chain Iack q.chain && (s == unwrap_or (wire_of p q).place 0)) ≡ b → cond b fall (has old.acknowledge s) ≡ true → s < 22
    at true same k =
        let e = same_number s (unwrap_or (wire_of p q).place 0) (and_parts (is_same_chain Iack q.chain) (s == unwrap_or (wire_of p q).place 0) same).1 in
        subst (λ n. n < 22) (sym e) (wire_near p q near)
    at false other k = fits s k

-- a change of a pin leaves what is shown
pub pin_shows : (c : ChainId) (place : ℕ) (fall : Bool) (v : Option Value) (x : Option Shown) → shown_behind (segment_moved c place) fall v x ≡ x
pin_shows Bg0 place fall v x = refl
pin_shows Bg1 place fall v x = refl
pin_shows Bg2 place fall v x = refl
pin_shows Bg3 place fall v x = refl
pin_shows Iack place fall v x = refl

pin_addressers : (p : Plan) (old : Standings) (c : ChainId) (place : ℕ) (fall : Bool) (v : Option Value) (new : SlotSet) → AddressersBehind p old (segment_moved c place) fall v new
    → new ≡ old.addressers
pin_addressers p old Bg0 place fall v new h = h
pin_addressers p old Bg1 place fall v new h = h
pin_addressers p old Bg2 place fall v new h = h
pin_addressers p old Bg3 place fall v new h = h
pin_addressers p old Iack place fall v new h = h

pub behind : (p : Plan) (probed : Probed) (old new : Standings) (c : Change) (may : Drivers) → IsAccepted p → AreDrivers p probed old c may → is_nobody may ≡ false
    → is_change c ≡ true → IsBehind p probed old c new → FitsTogether p old → FitsTogether p new
behind p probed old new c may ok who some seen h fits = by_signal c.signal refl
  where
    by_signal : (x : Signal) → c.signal ≡ x → FitsTogether p new
    by_signal (signal.Line l) is =
        let value = (and_parts (is_signal c.signal) (has_value c.signal c.fall c.value) seen).1 in
        record {
          strobed = λ low. ap is_some (rw is at h.shown)
              ∙ strobed_line p probed old may l c.fall c.value new.lines (rw is at who.controller) (rw is at who.boards) some (rw is at value) (rw is at h.lines) fits low;
          addressed = λ s there. ap is_some (rw is at h.shown) ∙ addressed_line p old l c.fall c.value new.addressers (rw is at value) (rw is at h.addressers) fits s there;
          ends = ends_line p ok old l c.fall c.value new.fronts (rw is at h.fronts) fits.ends;
          segments = λ s there. fits.segments s (ap (λ k. has k.acknowledge s) (sym (rw is at h.low)) ∙ there);
        }
    by_signal (signal.Pin q) is =
        let shown_is : new.shown ≡ old.shown = (rw is at h.shown) ∙ pin_shows q.chain (unwrap_or (wire_of p q).place 0) c.fall c.value old.shown in
        let addressers_are : new.addressers ≡ old.addressers = pin_addressers p old q.chain (unwrap_or (wire_of p q).place 0) c.fall c.value new.addressers (rw is at h.addressers) in
        record {
          strobed = λ low. ap is_some shown_is ∙ fits.strobed (ap (λ l. is_line_left_low l line.DataStrobe) (sym (rw is at h.lines)) ∙ low);
          addressed = λ s there. ap is_some shown_is ∙ fits.addressed s (ap (λ a. has a s) (sym addressers_are) ∙ there);
          ends = ends_pin p ok old q.slot q.chain q.side c.fall c.value new.fronts (rw is at h.fronts) fits.ends;
          segments = segments_pin p q c.fall old.low new.low (rw is at (and_parts (is_signal c.signal) (has_value c.signal c.fall c.value) seen).0) (rw is at h.low) fits.segments;
        }
