-- What the probes see behind one change of a sample more.
use Rattle.std.proofs.Common.{◌≡◌, ◌∙◌, ◌<◌, ◌+◌, ℕ, Bool, true, false, List, length, refl, sym, ap, subst, arith}
use Rattle.std.specs.Prelude.{◌==◌, ◌&&◌, if◌then◌else◌, not, Option, Some, None, is_some, unwrap_or}
use Rattle.std.specs.List.{slice_get}
use Rattle.std.specs.Option.{option_map_or}
use Rattle.vme_model.specs.Accepted.{IsAccepted}
use Rattle.vme_model.specs.Plan.{Plan}
use Rattle.vme_model.specs.declared.sets.ChainId.{ChainId}
use Rattle.vme_model.proofs.Bools.{and_left, and_right, not_true, same_number}
use Rattle.vme_bus.specs.Sets.{has}
use Rattle.vme_captures.specs.declared.signals.Change.{Change}
use Rattle.vme_captures.specs.declared.signals.Line.{Line}
use Rattle.vme_captures.specs.declared.signals.Line.TheVariants as line
use Rattle.vme_captures.specs.declared.signals.Pin.{Pin}
use Rattle.vme_captures.specs.declared.signals.Signal.{Signal}
use Rattle.vme_captures.specs.declared.signals.Signal.TheVariants as signal
use Rattle.vme_captures.specs.Levels.{is_line_left_low}
use Rattle.vme_captures.specs.Signals.{is_same_chain, is_same_line, is_same_signal}
use Rattle.vme_captures.specs.Wires.{pin_on, wire_of}
use Rattle.vme_captures.proofs.Same.{line_other, line_same, signal_same}
use Rattle.vme_standings.specs.declared.standings.Probed.{Probed}
use Rattle.vme_standings.specs.declared.standings.Shown.{Shown}
use Rattle.vme_standings.specs.declared.standings.Standings.{Standings}
use Rattle.vme_standings.specs.Behind.{LinesBehind, LowBehind, shown_behind, strobed_behind}
use Rattle.vme_standings.specs.Covers.{segment_at}
use Rattle.vme_standings.specs.Driving.{BoardsMake, ControllerMakes, can_end, can_strobe}
use Rattle.vme_standings.specs.Moving.{moved_by}
use Rattle.vme_standings.specs.Segments.{has_segment}
use Rattle.vme_standings.proofs.JoinedSegments.{wire_at}
use Rattle.vme_standings.proofs.Tests.{never}
use Rattle.vme_samples.specs.declared.places.Places.{Places}
use Rattle.vme_samples.specs.declared.samples.SeenChange.{SeenChange}
use Rattle.vme_samples.specs.Places.{has_place, with}
use Rattle.vme_samples.specs.Samples.{is_of}
use Rattle.vme_samples.specs.Ways.{Makes}
use Rattle.vme_samples.proofs.Next.{Closed, Next, count_kept, count_next, earlier_of, said_before, said_kept, said_next}
use Rattle.vme_samples.proofs.OneMore.{with_here, with_other}
use Rattle.vme_samples.proofs.Said.{count, said}
use Rattle.vme_samples.proofs.Tells.{Fits, Tells, able, chain_is, data_strobe, is_fall_of, is_of_wire, is_rise_of, moves_wire, one_if, open_cycles, same_pin, says_fall, says_shown, shown_other, shown_pin, shown_strobe, shows, strobe, strobed_pin}

module _ (p : Plan) (ok : IsAccepted p) (pins : List Pin) (probed : Probed) (sample : List SeenChange) (start : Standings) (set : Places) (i : ℕ) (n : Next sample set i) (closed : Closed sample set)
    (old : Standings) (tells : Tells p sample start set old) where
  abbrev c : Change
  c = n.seen.change

  abbrev len : ℕ
  len = length sample

  read : {A : Type 0} (f : SeenChange → A) (d : A) → option_map_or f (slice_get sample i) d ≡ f n.seen
  read f d = ap (λ o. option_map_or f o d) n.at

  is_at : (x y : Signal) → c.signal ≡ x → is_of sample y i ≡ is_same_signal x y
  is_at x y e = read (λ s. is_same_signal s.change.signal y) false ∙ ap (λ z. is_same_signal z y) e

  falls_at : (f : Bool) → c.fall ≡ f → says_fall sample i ≡ f
  falls_at f e = read (λ s. s.change.fall) false ∙ e

  pub one_of : (x : Signal) → is_of sample x i ≡ true → (j : ℕ) → i < j → j < len → has_place set j ≡ true → is_of sample x j ≡ true → (s : SeenChange) × (slice_get sample j ≡ Some s)
      × (is_of sample s.change.signal i ≡ true)
  one_of x own j l m on also = by_change (slice_get sample j) refl also
    where
      by_change : (o : Option SeenChange) → slice_get sample j ≡ o → option_map_or (λ s. is_same_signal s.change.signal x) o false ≡ true → (s : SeenChange) × (slice_get sample j ≡ Some s)
          × (is_of sample s.change.signal i ≡ true)
      by_change None is e = absurd (never false e refl)
      by_change (Some s) is e = (s, is, subst (λ y. is_of sample y i ≡ true) (sym (signal_same s.change.signal x e)) own)

  -- a pin that moves the wire
  record Moves (ch : ChainId) (t : ℕ) (x : Signal) : Type 0 where
    pin : Pin
    is : x ≡ signal.Pin pin
    wire : wire_of p pin ≡ segment_at ch t

  moves_of : (ch : ChainId) (t : ℕ) (x : Signal) → moves_wire p ch t x ≡ true → Moves ch t x
  moves_of ch t (signal.Line l) e = absurd (never false e refl)
  moves_of ch t (signal.Pin q) e = record {
    pin = q;
    is = refl;
    wire =
        wire_at p ok q
        ∙ ap (λ y. segment_at y (unwrap_or (wire_of p q).place 0)) (sym (chain_is ch q.chain (and_left (is_same_chain ch q.chain) (t == unwrap_or (wire_of p q).place 0) e)))
        ∙ ap (λ y. segment_at ch y) (sym (same_number t (unwrap_or (wire_of p q).place 0) (and_right (is_same_chain ch q.chain) (t == unwrap_or (wire_of p q).place 0) e)));
  }

  same_of : (a b : Pin) → Some a ≡ Some b → a ≡ b
  same_of a b e = cc

  module _ (fits : (j : ℕ) → has_place (with set i) j ≡ true → Fits p pins sample start j) where
    fits_old : (j : ℕ) → has_place set j ≡ true → Fits p pins sample start j
    fits_old j on = fits j (with_other set i j n.off (λ e. never (has_place set j) on (subst (λ y. has_place set y ≡ false) (sym e) n.off)) ∙ on)

    fits_here : Fits p pins sample start i
    fits_here = fits i (with_here set i n.off)

    one_wire : (ch : ChainId) (t : ℕ) → is_of_wire p sample ch t i ≡ true → (j : ℕ) → i < j → j < len → has_place set j ≡ true → is_of_wire p sample ch t j ≡ true
        → (s : SeenChange) × (slice_get sample j ≡ Some s) × (is_of sample s.change.signal i ≡ true)
    one_wire ch t own j l m on also = by_change (slice_get sample j) refl also
      where
        here : Moves ch t c.signal
        here = moves_of ch t c.signal (sym (read (λ s. moves_wire p ch t s.change.signal) false) ∙ own)

        by_change : (o : Option SeenChange) → slice_get sample j ≡ o → option_map_or (λ s. moves_wire p ch t s.change.signal) o false ≡ true
            → (s : SeenChange) × (slice_get sample j ≡ Some s) × (is_of sample s.change.signal i ≡ true)
        by_change None is e = absurd (never false e refl)
        by_change (Some s) is e =
            let there = moves_of ch t s.change.signal e in
            let same : there.pin ≡ here.pin =
            same_of there.pin here.pin
            (sym ((fits_old j on).wire s there.pin is there.is) ∙ ap (pin_on p pins) (there.wire ∙ sym here.wire) ∙ fits_here.wire n.seen here.pin n.at here.is) in
            (s, is, is_at (signal.Pin here.pin) s.change.signal here.is ∙ ap (is_same_signal (signal.Pin here.pin)) (there.is ∙ ap (λ q. signal.Pin q) same) ∙ same_pin here.pin)

    module _ (new : Standings) (makes : Makes p probed old c new) where
      abbrev now : ℕ → Bool
      now = has_place (with set i)

      -- ---- the levels

      lines_line : (k : Line) → c.signal ≡ signal.Line k → LinesBehind (signal.Line k) c.fall old.lines new.lines
          → (l : Line) → is_line_left_low new.lines l ≡ said (is_of sample (signal.Line l)) (says_fall sample) (is_line_left_low start.lines l) now len
      lines_line k is sets l = by_test (is_same_line k l) refl
        where
          by_test : (b : Bool) → is_same_line k l ≡ b → is_line_left_low new.lines l ≡ said (is_of sample (signal.Line l)) (says_fall sample) (is_line_left_low start.lines l) now len
          by_test true same =
              let own : is_of sample (signal.Line l) i ≡ true = is_at (signal.Line k) (signal.Line l) is ∙ same in
              subst (λ y. is_line_left_low new.lines y ≡ c.fall) (line_same k l same) sets.set
              ∙ sym (falls_at c.fall refl)
              ∙ sym (said_next sample set i n closed (is_of sample (signal.Line l)) (one_of (signal.Line l)) (says_fall sample) (is_line_left_low start.lines l) own)
          by_test false other =
              sets.others l (line_other k l other) ∙ tells.lines l
              ∙ sym (said_kept sample set i n (is_of sample (signal.Line l)) (says_fall sample) (is_line_left_low start.lines l) (is_at (signal.Line k) (signal.Line l) is ∙ other))

      lines_pin : (q : Pin) → c.signal ≡ signal.Pin q → new.lines ≡ old.lines
          → (l : Line) → is_line_left_low new.lines l ≡ said (is_of sample (signal.Line l)) (says_fall sample) (is_line_left_low start.lines l) now len
      lines_pin q is same l =
          ap (λ x. is_line_left_low x l) same ∙ tells.lines l
          ∙ sym (said_kept sample set i n (is_of sample (signal.Line l)) (says_fall sample) (is_line_left_low start.lines l) (is_at (signal.Pin q) (signal.Line l) is))

      lines_by : (x : Signal) → c.signal ≡ x → LinesBehind x c.fall old.lines new.lines
          → (l : Line) → is_line_left_low new.lines l ≡ said (is_of sample (signal.Line l)) (says_fall sample) (is_line_left_low start.lines l) now len
      lines_by (signal.Line k) is sets l = lines_line k is sets l
      lines_by (signal.Pin q) is sets l = lines_pin q is sets l

      moves_at : (ch : ChainId) (t : ℕ) (x : Signal) → c.signal ≡ x → is_of_wire p sample ch t i ≡ moves_wire p ch t x
      moves_at ch t x is = read (λ s. moves_wire p ch t s.change.signal) false ∙ ap (moves_wire p ch t) is

      low_kept : (ch : ChainId) (t : ℕ) → is_of_wire p sample ch t i ≡ false → has_segment new.low ch t ≡ has_segment old.low ch t
          → has_segment new.low ch t ≡ said (is_of_wire p sample ch t) (says_fall sample) (has_segment start.low ch t) now len
      low_kept ch t other same =
          same ∙ tells.low ch t ∙ sym (said_kept sample set i n (is_of_wire p sample ch t) (says_fall sample) (has_segment start.low ch t) other)

      low_by : (x : Signal) → c.signal ≡ x → LowBehind p x c.fall old.low new.low
          → (ch : ChainId) (t : ℕ) → has_segment new.low ch t ≡ said (is_of_wire p sample ch t) (says_fall sample) (has_segment start.low ch t) now len
      low_by (signal.Line k) is same ch t = low_kept ch t (moves_at ch t (signal.Line k) is) (ap (λ z. has_segment z ch t) same)
      low_by (signal.Pin q) is sets ch t = by_test (moves_wire p ch t (signal.Pin q)) refl
        where
          by_test : (b : Bool) → moves_wire p ch t (signal.Pin q) ≡ b → has_segment new.low ch t ≡ said (is_of_wire p sample ch t) (says_fall sample) (has_segment start.low ch t) now len
          by_test true own =
              sets ch t ∙ ap (λ b. if b then c.fall else has_segment old.low ch t) own ∙ sym (falls_at c.fall refl)
              ∙ sym (said_next sample set i n closed (is_of_wire p sample ch t) (one_wire ch t) (says_fall sample) (has_segment start.low ch t) (moves_at ch t (signal.Pin q) is ∙ own))
          by_test false other =
              low_kept ch t (moves_at ch t (signal.Pin q) is ∙ other)
              (sets ch t ∙ ap (λ b. if b then c.fall else has_segment old.low ch t) other)

      -- ---- the cycle

      shown_now : new.shown ≡ said (is_of sample strobe) (says_shown sample) start.shown now len
      shown_now = by_test (is_same_signal c.signal strobe) refl
        where
          by_test : (b : Bool) → is_same_signal c.signal strobe ≡ b → new.shown ≡ said (is_of sample strobe) (says_shown sample) start.shown now len
          by_test true same =
              makes.behind.shown ∙ ap (λ x. shown_behind (moved_by p x) c.fall c.value old.shown) (signal_same c.signal strobe same)
              ∙ shown_strobe p c.fall c.value old.shown ∙ sym (read shows None)
              ∙ sym (said_next sample set i n closed (is_of sample strobe) (one_of strobe) (says_shown sample) start.shown (is_at c.signal strobe refl ∙ same))
          by_test false other =
              makes.behind.shown ∙ shown_other p c.signal c.fall c.value old.shown other ∙ tells.shown
              ∙ sym (said_kept sample set i n (is_of sample strobe) (says_shown sample) start.shown (is_at c.signal strobe refl ∙ other))

      -- an edge of AS* turns it
      shown_was : (f : Bool) → c.signal ≡ strobe → c.fall ≡ f → is_some old.shown ≡ not f
      shown_was f is fall =
          let own : is_of sample strobe i ≡ true = is_at strobe strobe is in
          ap (λ (y : Option Shown). is_some y) (tells.shown ∙ said_before sample set i n closed (is_of sample strobe) (one_of strobe) (says_shown sample) start.shown own
          (earlier_of sample set i n strobe is))
          ∙ fits_here.strobe own ∙ ap not (falls_at f fall)

      fall_is : (x : Signal) (f : Bool) → c.signal ≡ x → c.fall ≡ f → is_fall_of sample data_strobe i ≡ (is_same_signal x data_strobe && f)
      fall_is x f is fall = ap (λ b. b && says_fall sample i) (is_at x data_strobe is) ∙ ap (λ b. is_same_signal x data_strobe && b) (falls_at f fall)

      rise_is : (x : Signal) (f : Bool) → c.signal ≡ x → c.fall ≡ f → is_rise_of sample strobe i ≡ (is_same_signal x strobe && not f)
      rise_is x f is fall = ap (λ b. b && not (says_fall sample i)) (is_at x strobe is) ∙ ap (λ b. is_same_signal x strobe && not b) (falls_at f fall)

      abbrev Counted : Type 0
      Counted = count (is_fall_of sample data_strobe) now len + open_cycles start ≡ count (is_rise_of sample strobe) now len + open_cycles new

      -- neither a fall of DS* nor a rise of AS*
      neither : is_fall_of sample data_strobe i ≡ false → is_rise_of sample strobe i ≡ false → open_cycles new ≡ open_cycles old → Counted
      neither fall rise same =
          let was = tells.strobed in
          let a = count_kept sample set i n (is_fall_of sample data_strobe) fall in
          let b = count_kept sample set i n (is_rise_of sample strobe) rise in
          omega (arith, was, a, b, same)

      fallen : is_fall_of sample data_strobe i ≡ true → is_rise_of sample strobe i ≡ false → open_cycles new ≡ open_cycles old + 1 → Counted
      fallen fall rise more =
          let was = tells.strobed in
          let a = count_next sample set i n (is_fall_of sample data_strobe) fall in
          let b = count_kept sample set i n (is_rise_of sample strobe) rise in
          omega (arith, was, a, b, more)

      risen : is_fall_of sample data_strobe i ≡ false → is_rise_of sample strobe i ≡ true → open_cycles old ≡ open_cycles new + 1 → Counted
      risen fall rise less =
          let was = tells.strobed in
          let a = count_kept sample set i n (is_fall_of sample data_strobe) fall in
          let b = count_next sample set i n (is_rise_of sample strobe) rise in
          omega (arith, was, a, b, less)

      open_as : (s : Option Shown) (d : Bool) (t u : Bool) → is_some s ≡ t → d ≡ u → one_if (is_some s && d) ≡ one_if (t && u)
      open_as s d t u a b = ap (λ x. one_if (x && d)) a ∙ ap (λ x. one_if (t && x)) b

      none_open : (s : Option Shown) (d : Bool) → is_some s ≡ false → one_if (is_some s && d) ≡ 0
      none_open s d a = ap (λ x. one_if (x && d)) a

      off_open : (s : Option Shown) (d : Bool) → d ≡ false → one_if (is_some s && d) ≡ 0
      off_open None d e = refl
      off_open (Some x) d e = ap one_if e

      shown_as : (x : Signal) (f : Bool) → c.signal ≡ x → c.fall ≡ f → new.shown ≡ shown_behind (moved_by p x) f c.value old.shown
      shown_as x f is fall =
          makes.behind.shown ∙ ap (λ y. shown_behind (moved_by p y) c.fall c.value old.shown) is ∙ ap (λ y. shown_behind (moved_by p x) y c.value old.shown) fall

      strobed_as : (x : Signal) (f : Bool) → c.signal ≡ x → c.fall ≡ f → new.strobed ≡ strobed_behind (moved_by p x) f old.strobed
      strobed_as x f is fall =
          makes.behind.strobed ∙ ap (λ y. strobed_behind (moved_by p y) c.fall old.strobed) is ∙ ap (λ y. strobed_behind (moved_by p x) y old.strobed) fall

      unchanged : (x : Signal) (f : Bool) → c.signal ≡ x → c.fall ≡ f → shown_behind (moved_by p x) f c.value old.shown ≡ old.shown → strobed_behind (moved_by p x) f old.strobed ≡ old.strobed
          → (is_same_signal x data_strobe && f) ≡ false → (is_same_signal x strobe && not f) ≡ false → Counted
      unchanged x f is fall a b d e =
          neither (fall_is x f is fall ∙ d) (rise_is x f is fall ∙ e)
          (ap (λ (y : Option Shown). one_if (is_some y && new.strobed)) (shown_as x f is fall ∙ a) ∙ ap (λ y. one_if (is_some old.shown && y)) (strobed_as x f is fall ∙ b))

      by_controller : (x : Signal) (f : Bool) → c.signal ≡ x → c.fall ≡ f → ControllerMakes p probed.version old (moved_by p x) f makes.drivers.controller
      by_controller x f is fall =
          subst (λ g. ControllerMakes p probed.version old (moved_by p x) g makes.drivers.controller) fall
          (subst (λ y. ControllerMakes p probed.version old (moved_by p y) c.fall makes.drivers.controller) is makes.are.controller)

      by_boards : (x : Signal) (f : Bool) → c.signal ≡ x → c.fall ≡ f → BoardsMake p probed.version old (moved_by p x) f c.value makes.drivers.boards
      by_boards x f is fall =
          subst (λ g. BoardsMake p probed.version old (moved_by p x) g c.value makes.drivers.boards) fall
          (subst (λ y. BoardsMake p probed.version old (moved_by p y) c.fall c.value makes.drivers.boards) is makes.are.boards)

      data_falls : c.signal ≡ data_strobe → c.fall ≡ true → Counted
      data_falls is fall =
          let can : can_strobe old ≡ true = able makes.drivers (by_controller data_strobe true is fall) makes.some (can_strobe old) (has old.addressers) (by_boards data_strobe true is fall) in
          let fresh : old.strobed ≡ false = not_true old.strobed (and_right (is_some old.shown && not (is_line_left_low old.lines line.Dtack) && not (is_line_left_low old.lines line.Berr))
          (not old.strobed) can) in
          let on : is_some old.shown ≡ true =
          and_left (is_some old.shown) (not (is_line_left_low old.lines line.Dtack))
          (and_left (is_some old.shown && not (is_line_left_low old.lines line.Dtack)) (not (is_line_left_low old.lines line.Berr))
          (and_left (is_some old.shown && not (is_line_left_low old.lines line.Dtack) && not (is_line_left_low old.lines line.Berr)) (not old.strobed) can)) in
          fallen (fall_is data_strobe true is fall) (rise_is data_strobe true is fall)
          (open_as new.shown new.strobed true true (ap (λ (y : Option Shown). is_some y) (shown_as data_strobe true is fall) ∙ on) (strobed_as data_strobe true is fall)
          ∙ sym (ap (λ k. k + 1) (open_as old.shown old.strobed true false on fresh)))

      strobe_falls : c.signal ≡ strobe → c.fall ≡ true → Counted
      strobe_falls is fall =
          neither (fall_is strobe true is fall) (rise_is strobe true is fall)
          (off_open new.shown new.strobed (strobed_as strobe true is fall) ∙ sym (none_open old.shown old.strobed (shown_was true is fall)))

      strobe_rises : c.signal ≡ strobe → c.fall ≡ false → Counted
      strobe_rises is fall =
          let can : can_end old ≡ true = able makes.drivers (by_controller strobe false is fall) makes.some (can_end old) (has old.addressers) (by_boards strobe false is fall) in
          let done : old.strobed ≡ true = and_left old.strobed (not (is_line_left_low old.lines line.DataStrobe)) can in
          risen (fall_is strobe false is fall) (rise_is strobe false is fall)
          (open_as old.shown old.strobed true true (shown_was false is fall) done
          ∙ sym (ap (λ k. k + 1) (none_open new.shown new.strobed (ap (λ (y : Option Shown). is_some y) (shown_as strobe false is fall)))))

      counted : (x : Signal) (f : Bool) → c.signal ≡ x → c.fall ≡ f → Counted
      counted (signal.Line line.AddressStrobe) true is fall = strobe_falls is fall
      counted (signal.Line line.AddressStrobe) false is fall = strobe_rises is fall
      counted (signal.Line line.DataStrobe) true is fall = data_falls is fall
      counted (signal.Line line.DataStrobe) false is fall = unchanged data_strobe false is fall refl refl refl refl
      counted (signal.Line (line.Br k)) f is fall = unchanged (signal.Line (line.Br k)) f is fall refl refl refl refl
      counted (signal.Line (line.Irq k)) f is fall = unchanged (signal.Line (line.Irq k)) f is fall refl refl refl refl
      counted (signal.Line line.Bbsy) f is fall = unchanged (signal.Line line.Bbsy) f is fall refl refl refl refl
      counted (signal.Line line.Dtack) f is fall = unchanged (signal.Line line.Dtack) f is fall refl refl refl refl
      counted (signal.Line line.Berr) f is fall = unchanged (signal.Line line.Berr) f is fall refl refl refl refl
      counted (signal.Line line.Bclr) f is fall = unchanged (signal.Line line.Bclr) f is fall refl refl refl refl
      counted (signal.Pin q) f is fall =
          unchanged (signal.Pin q) f is fall (shown_pin q.chain (unwrap_or (wire_of p q).place 0) f c.value old.shown) (strobed_pin q.chain (unwrap_or (wire_of p q).place 0) f old.strobed) refl refl

      pub tells_next : Tells p sample start (with set i) new
      tells_next = record {
        lines = lines_by c.signal refl makes.behind.lines;
        low = low_by c.signal refl makes.behind.low;
        shown = shown_now;
        strobed = counted c.signal c.fall refl refl;
      }
