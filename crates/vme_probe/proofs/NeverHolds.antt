-- The condition that is named, and those above it, hold together on no bus: `condition_laws`.
use Rattle.std.proofs.Common.{◌≡◌, ◌∙◌, ◌++◌, ◌∷◌, ◌<◌, [], ℕ, zero, suc, Bool, true, false, not, List, Option, Some, None, is_some, refl, sym, ap, subst, arith}
use Rattle.std.proofs.lemmas.Bool.Decides.{nat_tests}
use Rattle.std.specs.Prelude.{◌==◌, if◌then◌else◌, nat_lt}
use Rattle.vme_model.specs.declared.sets.ChainId.{ChainId}
use Rattle.vme_model.specs.declared.sets.ChainId.TheVariants as chain
use Rattle.vme_model.specs.declared.signals.Driver.{Driver}
use Rattle.vme_model.specs.declared.signals.Driver.TheVariants.{Controller, Slot}
use Rattle.vme_model.specs.declared.signals.Edge.{Edge}
use Rattle.vme_model.specs.declared.signals.Version.{Version}
use Rattle.vme_model.specs.declared.signals.Wire.TheVariants as wire
use Rattle.vme_model.specs.Accepted.{IsAccepted}
use Rattle.vme_model.specs.History.{drive, segment}
use Rattle.vme_model.specs.Plan.{Plan, is_active}
use Rattle.vme_model.specs.Signals.{driver_number}
use Rattle.vme_model.specs.Verdict.{IsLegal}
use Rattle.vme_model.proofs.Bools.{and_left, and_right, same_number}
use Rattle.vme_captures.specs.declared.signals.Change.{Change}
use Rattle.vme_captures.specs.declared.signals.Line.{Line}
use Rattle.vme_captures.specs.declared.signals.Line.TheVariants as line
use Rattle.vme_captures.specs.declared.signals.Pin.{Pin}
use Rattle.vme_captures.specs.declared.signals.Segment.{Segment}
use Rattle.vme_captures.specs.declared.signals.Signal.{Signal}
use Rattle.vme_captures.specs.declared.signals.Signal.TheVariants as signal
use Rattle.vme_captures.specs.declared.signals.Value.{Value}
use Rattle.vme_captures.specs.Changes.{is_low}
use Rattle.vme_captures.specs.Possible.{Capture, Explains}
use Rattle.vme_captures.specs.Signals.{is_same_segment}
use Rattle.vme_captures.specs.Wires.{wire_of}
use Rattle.vme_standings.specs.declared.moving.Moved.{Moved}
use Rattle.vme_standings.specs.declared.moving.Moved.TheVariants as moved
use Rattle.vme_standings.specs.declared.standings.Probed.{Probed}
use Rattle.vme_standings.specs.declared.standings.Standings.{Standings}
use Rattle.vme_standings.specs.Covers.{Covers, is_segment_low, segment_at}
use Rattle.vme_standings.specs.GrantChains.{is_of_level}
use Rattle.vme_standings.specs.Moving.{moved_by, segment_moved}
use Rattle.vme_standings.proofs.JoinedCaptures.{explained}
use Rattle.vme_standings.proofs.JoinedSegments.{place_of_pin, probed_works, wire_at}
use Rattle.vme_standings.proofs.Tests.{never}
use Rattle.vme_probe.specs.declared.obstacles.Obstacle.{Obstacle}
use Rattle.vme_probe.specs.Conditions.{acknowledge_moves, grant_moves, moves, obstacle}
use Rattle.vme_probe.specs.Demands.{is_left}
use Rattle.vme_probe.specs.Holding.{IsKnown, NeverHolds, NeverHoldsOn, has_it, holds}
use Rattle.vme_probe.proofs.LeftBy.{Tells, first_is, never_first}
use Rattle.vme_probe.proofs.MetGrants.{busies_fall, busies_rise, clear_fall, clear_rise}
use Rattle.vme_probe.proofs.MetStrobes.{addresses_fall, addresses_rise, answers_rise, error_rise, strobes_fall, strobes_rise}
use Rattle.vme_probe.proofs.MetAcknowledges.{passes_fall, passes_rise, starts_fall, starts_rise}
use Rattle.vme_probe.proofs.MetAnswers.{answers_fall, errors_fall}
use Rattle.vme_probe.proofs.MetGrantChains.{boards_fall, boards_rise, heads_fall, heads_rise}
use Rattle.vme_probe.proofs.MetRequests.{interrupts_rise, requests_fall, requests_rise}

-- On each bus that is covered, and on which the signal is at the other level, the conditions of the
-- driver's change that hold are met.
abbrev AllTold : Plan → Version → List Pin → Standings → Signal → Bool → Option Value → Driver → Type 0
AllTold p version pins st x fall value d =
    (ok : IsAccepted p) (h : List Edge) (legal : IsLegal version p h) (covers : Covers p pins h st) → is_low p h x ≡ not fall
    → Tells p ok version pins h legal st covers (holds version p h d (moved_by p x) fall value) (driver_number d) (moves p version st (driver_number d) (moved_by p x) fall value)

never_holds : (p : Plan) (version : Version) (pins : List Pin) (shows : List Edge → List Edge → Type 0) (st : Standings) (v : Change) (d : Driver) (o : Obstacle) → IsAccepted p
    → ((g h : List Edge) → shows g h → IsLegal version p (h ++ g)) → ((g h : List Edge) → shows g h → Covers p pins (h ++ g) st)
    → AllTold p version pins st v.signal v.fall v.value d → obstacle p version st v d ≡ Some o → NeverHoldsOn p version shows st v d o
never_holds p version pins shows st v d o ok legal covered told named =
    let f = first_is (is_left p st (driver_number d)) [] (moves p version st (driver_number d) (moved_by p v.signal) v.fall v.value) o named in
    record {
      above = f.above;
      named = f.named;
      below = f.below;
      are = f.are;
      is = f.is;
      never = λ g h x other all.
          let covers = covered g h x in
          never_first p ok version pins (h ++ g) (legal g h x) st covers (holds version p (h ++ g) d (moved_by p v.signal) v.fall v.value) (driver_number d)
          (moves p version st (driver_number d) (moved_by p v.signal) v.fall v.value) (told ok (h ++ g) (legal g h x) covers other) o f all;
    }

-- ---- the lines

module _ (p : Plan) (version : Version) (pins : List Pin) (st : Standings) where
  line_told : (l : Line) (fall : Bool) (value : Option Value) (d : Driver) → has_it p (moved.Line l) d ≡ true → AllTold p version pins st (signal.Line l) fall value d
  line_told (line.Br n) true value (Slot s) = λ has ok h legal covers other. requests_fall p ok version pins h legal st covers s value n
  line_told (line.Br n) false value (Slot s) = λ has ok h legal covers other. requests_rise p ok version pins h legal st covers s value n
  line_told (line.Irq n) true value (Slot s) = λ has ok h legal covers other. tt
  line_told (line.Irq n) false value (Slot s) = λ has ok h legal covers other. interrupts_rise p ok version pins h legal st covers s value n
  line_told line.Bbsy true value (Slot s) = λ has ok h legal covers other. busies_fall p ok version pins h legal st covers s value
  line_told line.Bbsy false value (Slot s) = λ has ok h legal covers other. busies_rise p ok version pins h legal st covers s value
  line_told line.AddressStrobe true value (Slot s) = λ has ok h legal covers other. addresses_fall p ok version pins h legal st covers s value
  line_told line.AddressStrobe false value (Slot s) = λ has ok h legal covers other. addresses_rise p ok version pins h legal st covers s value
  line_told line.DataStrobe true value (Slot s) = λ has ok h legal covers other. strobes_fall p ok version pins h legal st covers s value
  line_told line.DataStrobe false value (Slot s) = λ has ok h legal covers other. strobes_rise p ok version pins h legal st covers s value
  line_told line.Dtack true value (Slot s) = λ has ok h legal covers other. answers_fall p ok version pins h legal st covers s value
  line_told line.Dtack false value (Slot s) = λ has ok h legal covers other. answers_rise p ok version pins h legal st covers s value
  line_told line.Berr true value Controller = λ has ok h legal covers other. errors_fall p ok version pins h legal st covers value
  line_told line.Berr false value Controller = λ has ok h legal covers other. error_rise p ok version pins h legal st covers value
  line_told line.Bclr true value Controller = λ has ok h legal covers other. clear_fall p ok version pins h legal st covers value
  line_told line.Bclr false value Controller = λ has ok h legal covers other. clear_rise p ok version pins h legal st covers value
  line_told line.Berr fall value (Slot s) = λ has. absurd (never false has refl)
  line_told line.Bclr fall value (Slot s) = λ has. absurd (never false has refl)
  line_told (line.Br n) fall value Controller = λ has. absurd (never false has refl)
  line_told (line.Irq n) fall value Controller = λ has. absurd (never false has refl)
  line_told line.Bbsy fall value Controller = λ has. absurd (never false has refl)
  line_told line.AddressStrobe fall value Controller = λ has. absurd (never false has refl)
  line_told line.DataStrobe fall value Controller = λ has. absurd (never false has refl)
  line_told line.Dtack fall value Controller = λ has. absurd (never false has refl)

-- ---- the pins

not_zero : (t : ℕ) → (suc t == 0) ≡ false
not_zero t = grind (arith, nat_tests)

-- who drives the wire of a pin works its chain
pin_works : (p : Plan) (ok : IsAccepted p) (q : Pin) (t : ℕ) → place_of_pin p ok q ≡ suc t → is_active p.rows q.chain (suc t) ≡ true
pin_works p ok q t at = probed_works p ok (q ∷ []) q.chain t (there (wire_of p q) (wire_at p ok q ∙ ap (segment_at q.chain) at))
  where
    self : (n : ℕ) → (n == n) ≡ true
    self n = grind (arith, nat_tests)

    same : (c : ChainId) → is_same_segment (segment_at c (suc t)) (segment_at c (suc t)) ≡ true
    same chain.Bg0 = self (suc t)
    same chain.Bg1 = self (suc t)
    same chain.Bg2 = self (suc t)
    same chain.Bg3 = self (suc t)
    same chain.Iack = self (suc t)

    there : (g : Segment) → g ≡ segment_at q.chain (suc t) → is_some (if is_same_segment g (segment_at q.chain (suc t)) then Some q else None) ≡ true
    there g is = subst (λ (b : Bool). is_some (if b then Some q else None) ≡ true) (sym (ap (λ x. is_same_segment x (segment_at q.chain (suc t))) is ∙ same q.chain)) refl

module _ (p : Plan) (version : Version) (pins : List Pin) (st : Standings) where
  abbrev Chained : Driver → Moved → Bool → Option Value → Type 0
  Chained d m fall value =
      (ok : IsAccepted p) (h : List Edge) (legal : IsLegal version p h) (covers : Covers p pins h st)
      → Tells p ok version pins h legal st covers (holds version p h d m fall value) (driver_number d) (moves p version st (driver_number d) m fall value)

  grant_told : (c place : ℕ) → c < 4 → ((t : ℕ) → place ≡ suc t → is_of_level p c (suc t) ≡ true) → (fall : Bool) (value : Option Value) (d : Driver) → has_it p (moved.Grant c place) d ≡ true
      → Chained d (moved.Grant c place) fall value
  grant_told c zero few on true value Controller has ok h legal covers = heads_fall p ok version pins h legal st covers c few value
  grant_told c zero few on false value Controller has ok h legal covers = heads_rise p ok version pins h legal st covers c few value
  grant_told c (suc t) few on fall value Controller has ok h legal covers = absurd (never (suc t == 0) has (not_zero t))
  grant_told c zero few on fall value (Slot s) has ok h legal covers = absurd (never (nat_lt 0 0) (and_left (nat_lt 0 0) (s == 0) has) refl)
  grant_told c (suc t) few on fall value (Slot s) has ok h legal covers = by_slot s (same_number s (suc t) (and_right (nat_lt 0 (suc t)) (s == suc t) has))
    where
      by_way : (fall : Bool) → Tells p ok version pins h legal st covers (holds version p h (Slot (suc t)) (moved.Grant c (suc t)) fall value) (suc t) (grant_moves p version st (suc t) c (suc t) fall)
      by_way true = boards_fall p ok version pins h legal st covers c t few (on t refl) value
      by_way false = boards_rise p ok version pins h legal st covers c t few (on t refl) value

      by_slot : (s : ℕ) → s ≡ suc t → Tells p ok version pins h legal st covers (holds version p h (Slot s) (moved.Grant c (suc t)) fall value) s (grant_moves p version st s c (suc t) fall)
      by_slot s is =
          subst (λ y. Tells p ok version pins h legal st covers (holds version p h (Slot y) (moved.Grant c (suc t)) fall value) y (grant_moves p version st y c (suc t) fall)) (sym is) (by_way fall)

  acknowledge_told : (place : ℕ) → ((t : ℕ) → place ≡ suc t → is_active p.rows chain.Iack (suc t) ≡ true) → (fall : Bool) (value : Option Value) (d : Driver)
      → has_it p (moved.Acknowledge place) d ≡ true
      → (ok : IsAccepted p) (h : List Edge) (legal : IsLegal version p h) (covers : Covers p pins h st) → is_segment_low h chain.Iack place ≡ not fall
      → Tells p ok version pins h legal st covers (holds version p h d (moved.Acknowledge place) fall value) (driver_number d)
      (moves p version st (driver_number d) (moved.Acknowledge place) fall value)
  acknowledge_told zero works true value Controller has ok h legal covers other = starts_fall p ok version pins h legal st covers value
  acknowledge_told zero works false value Controller has ok h legal covers other = starts_rise p ok version pins h legal st covers value
  acknowledge_told (suc t) works fall value Controller has ok h legal covers other = absurd (never (suc t == 0) has (not_zero t))
  acknowledge_told zero works fall value (Slot s) has ok h legal covers other = absurd (never (nat_lt 0 0) (and_left (nat_lt 0 0) (s == 0) has) refl)
  acknowledge_told (suc t) works fall value (Slot s) has ok h legal covers other = by_slot s (same_number s (suc t) (and_right (nat_lt 0 (suc t)) (s == suc t) has))
    where
      by_way : (fall : Bool) → drive h (Slot (suc t)) wire.IackOut ≡ not fall
          → Tells p ok version pins h legal st covers (holds version p h (Slot (suc t)) (moved.Acknowledge (suc t)) fall value) (suc t) (acknowledge_moves p st (suc t) (suc t) fall)
      by_way true high = passes_fall p ok version pins h legal st covers t value (works t refl) high
      by_way false low = passes_rise p ok version pins h legal st covers t value

      by_slot : (s : ℕ) → s ≡ suc t → Tells p ok version pins h legal st covers (holds version p h (Slot s) (moved.Acknowledge (suc t)) fall value) s (acknowledge_moves p st s (suc t) fall)
      by_slot s is =
          subst (λ y. Tells p ok version pins h legal st covers (holds version p h (Slot y) (moved.Acknowledge (suc t)) fall value) y (acknowledge_moves p st y (suc t) fall)) (sym is)
          (by_way fall other)

  -- a pin
  pin_told : (q : Pin) (fall : Bool) (value : Option Value) (d : Driver) → has_it p (moved_by p (signal.Pin q)) d ≡ true → AllTold p version pins st (signal.Pin q) fall value d
  pin_told q fall value d has ok h legal covers other =
      by_chain q.chain (place_of_pin p ok q) (λ t at. pin_works p ok q t at) has (subst (λ (g : Segment). segment h g.chain g.place ≡ not fall) (wire_at p ok q) other)
    where
      by_chain : (k : ChainId) (place : ℕ) → ((t : ℕ) → place ≡ suc t → is_active p.rows k (suc t) ≡ true) → has_it p (segment_moved k place) d ≡ true → is_segment_low h k place ≡ not fall
          → Tells p ok version pins h legal st covers (holds version p h d (segment_moved k place) fall value) (driver_number d)
          (moves p version st (driver_number d) (segment_moved k place) fall value)
      by_chain chain.Bg0 place works has other = grant_told 0 place (omega arith) works fall value d has ok h legal covers
      by_chain chain.Bg1 place works has other = grant_told 1 place (omega arith) works fall value d has ok h legal covers
      by_chain chain.Bg2 place works has other = grant_told 2 place (omega arith) works fall value d has ok h legal covers
      by_chain chain.Bg3 place works has other = grant_told 3 place (omega arith) works fall value d has ok h legal covers
      by_chain chain.Iack place works has other = acknowledge_told place works fall value d has ok h legal covers other

  told : (x : Signal) (fall : Bool) (value : Option Value) (d : Driver) → has_it p (moved_by p x) d ≡ true → AllTold p version pins st x fall value d
  told (signal.Line l) fall value d has = line_told p version pins st l fall value d has
  told (signal.Pin q) fall value d has = pin_told q fall value d has

-- what is known covers each bus that shows this
pub named_fails_on : (p : Plan) (version : Version) (pins : List Pin) (shows : List Edge → List Edge → Type 0) (st : Standings) (v : Change) (d : Driver) (o : Obstacle) → IsAccepted p
    → ((g h : List Edge) → shows g h → IsLegal version p (h ++ g)) → ((g h : List Edge) → shows g h → Covers p pins (h ++ g) st)
    → has_it p (moved_by p v.signal) d ≡ true → obstacle p version st v d ≡ Some o → NeverHoldsOn p version shows st v d o
named_fails_on p version pins shows st v d o ok legal covered has named =
    never_holds p version pins shows st v d o ok legal covered (told p version pins st v.signal v.fall v.value d has) named

pub named_fails : (p : Plan) (probed : Probed) (c : Capture) (st : Standings) (v : Change) (d : Driver) (o : Obstacle) → IsAccepted p → IsKnown p probed c st
    → has_it p (moved_by p v.signal) d ≡ true → obstacle p c.version st v d ≡ Some o → NeverHolds p c st v d o
named_fails p probed c st v d o ok known has named =
    named_fails_on p c.version c.pins (Explains p c) st v d o ok (λ g h x. x.legal)
    (λ g h x. explained p ok probed c known.version known.probes g x.begins known.first known.starts h x.legal c.changes x.shows known.behind st known.follows known.hidden) has named
