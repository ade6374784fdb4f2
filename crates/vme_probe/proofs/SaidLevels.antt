-- The levels that are known are those that were said of the lines and of the probed pins: `led_laws`.
use Rattle.std.proofs.Common.{◌≡◌, ◌≢◌, ◌∙◌, ◌∷◌, [], ◌<◌, ℕ, Bool, true, false, not, List, Option, Some, None, is_some, refl, sym, ap, subst, inl, inr, arith}
use Rattle.std.specs.Prelude.{◌==◌, ◌&&◌, ◌||◌, if◌then◌else◌, is_none, nat_lt, unwrap_or}
use Rattle.std.specs.List.{list_any}
use Rattle.std.specs.Option.{option_map_or}
use Rattle.std.proofs.lemmas.Bool.{and_parts, cases_Bool}
use Rattle.std.proofs.lemmas.Bool.Decides.{nat_tests}
use Rattle.vme_model.specs.declared.sets.ChainId.{ChainId}
use Rattle.vme_model.specs.declared.sets.ChainId.TheVariants as chain
use Rattle.vme_model.specs.declared.signals.Version.{Version}
use Rattle.vme_model.specs.Accepted.{IsAccepted, first_of, when}
use Rattle.vme_model.specs.Plan.{Plan}
use Rattle.vme_model.proofs.Bools.{same_number}
use Rattle.vme_captures.specs.declared.levels.Levels.{Levels}
use Rattle.vme_captures.specs.declared.signals.Change.{Change}
use Rattle.vme_captures.specs.declared.signals.Entry.{Entry}
use Rattle.vme_captures.specs.declared.signals.Entry.TheVariants as entry
use Rattle.vme_captures.specs.declared.signals.Line.{Line}
use Rattle.vme_captures.specs.declared.signals.Line.TheVariants as line
use Rattle.vme_captures.specs.declared.signals.Pin.{Pin}
use Rattle.vme_captures.specs.declared.signals.Segment.{Segment}
use Rattle.vme_captures.specs.declared.signals.Signal.{Signal}
use Rattle.vme_captures.specs.declared.signals.Signal.TheVariants as signal
use Rattle.vme_captures.specs.Changes.{differ}
use Rattle.vme_captures.specs.Levels.{is_line_left_low}
use Rattle.vme_captures.specs.Possible.{is_among}
use Rattle.vme_captures.specs.Reading.{capture_of, changes, changes_nothing, fault_at, has_same_wire, is_declared, is_left_low, is_not_probed, is_running, last_moment, lows, pins}
use Rattle.vme_captures.specs.Signals.{is_line, is_same_chain, is_same_line, has_value, is_same_pin, is_same_place, is_same_segment, is_same_signal, is_signal}
use Rattle.vme_captures.specs.Wires.{is_on, pin_on, wire_of}
use Rattle.vme_captures.proofs.Same.{chain_same, line_same, pin_same, segment_same}
use Rattle.vme_standings.specs.declared.segments.Segments.{Segments}
use Rattle.vme_standings.specs.declared.standings.Probed.{Probed}
use Rattle.vme_standings.specs.declared.standings.Standings.{Standings}
use Rattle.vme_standings.specs.Behind.{LinesBehind, LowBehind}
use Rattle.vme_standings.specs.Covers.{AreProbed, segment_at}
use Rattle.vme_standings.specs.Following.{Follows, StartsAs}
use Rattle.vme_standings.specs.Segments.{has_segment}
use Rattle.vme_standings.proofs.JoinedSegments.{place_of_pin, wire_at}
use Rattle.vme_standings.proofs.Slots.{wire_near}
use Rattle.vme_standings.proofs.Tests.{both, is_false, never}
use Rattle.vme_probe.specs.ChainsFit.{IsSeen, is_probed, is_signal_low}
use Rattle.vme_probe.proofs.PinLevels.{pin_self}
use Rattle.vme_probe.proofs.Said.{AllSaid, SaidBy, formed, no_fault_at, said_stands}
use Rattle.vme_probe.proofs.Tied.{low_at, no_changes}

-- ---- what was said has no fault

none_of : {A : Type 0} (o : Option A) (rest : List (Option A)) → first_of (o ∷ rest) ≡ None → (o ≡ None) × (first_of rest ≡ None)
none_of None rest h = (refl, h)
none_of (Some a) rest h = absurd (cc)

not_when : {A : Type 0} (b : Bool) (a : A) → when b a ≡ None → b ≡ false
not_when true a h = absurd (cc)
not_when false a h = refl

-- a pin stands on a wire of its own, and a change is one of a line or a pin that is probed, and changes something
pub record HasNoFault (p : Plan) (before : List Entry) (e : Entry) : Type 0 where
  pub wire : has_same_wire p before e ≡ false
  pub probed : is_not_probed before e ≡ false
  pub changes : changes_nothing before e ≡ false

has_no_fault : (p : Plan) (before : List Entry) (e : Entry) → SaidBy p before e → HasNoFault p before e
has_no_fault p before e s =
    let a = none_of _ _ (no_fault_at p before e s) in
    let b = none_of _ _ a.1 in
    let c = none_of _ _ b.1 in
    let d = none_of _ _ c.1 in
    let f = none_of _ _ d.1 in
    let g = none_of _ _ f.1 in
    record {
      wire = not_when _ _ d.0;
      probed = not_when _ _ f.0;
      changes = not_when _ _ g.0;
    }

denied : (b : Bool) → not b ≡ false → b ≡ true
denied true h = refl
denied false h = absurd (never true refl h)

-- ---- the same line, pin or wire

line_self : (l : Line) → is_same_line l l ≡ true
line_self (line.Br n) = self n
  where
    self : (n : ℕ) → (n == n) ≡ true
    self n = grind (arith, nat_tests)
line_self (line.Irq n) = self n
  where
    self : (n : ℕ) → (n == n) ≡ true
    self n = grind (arith, nat_tests)
line_self line.Bbsy = refl
line_self line.AddressStrobe = refl
line_self line.DataStrobe = refl
line_self line.Dtack = refl
line_self line.Berr = refl
line_self line.Bclr = refl

chain_self : (c : ChainId) → is_same_chain c c ≡ true
chain_self chain.Bg0 = refl
chain_self chain.Bg1 = refl
chain_self chain.Bg2 = refl
chain_self chain.Bg3 = refl
chain_self chain.Iack = refl

number_self : (n : ℕ) → (n == n) ≡ true
number_self n = grind (arith, nat_tests)

some_same : {A : Type 0} (a b : A) → ◌≡◌ {A = Option A} (Some a) (Some b) → a ≡ b
some_same a b h = cc

module _ (p : Plan) (ok : IsAccepted p) where
  abbrev place : Pin → ℕ
  place q = unwrap_or (wire_of p q).place 0

  -- two probed pins are of one wire only if they are the same
  abbrev pub IsApart : Signal → Pin → Type 0
  IsApart (signal.Line l) q = Unit {0}
  IsApart (signal.Pin y) q = (is_same_chain q.chain y.chain && (place q == place y)) ≡ is_same_pin y q

  apart : (qs : List Pin) (y q : Pin) → pin_on p qs (wire_of p y) ≡ Some y → pin_on p qs (wire_of p q) ≡ Some q → (is_same_chain q.chain y.chain && (place q == place y)) ≡ is_same_pin y q
  apart qs y q own found = elim (cases_Bool (is_same_chain q.chain y.chain && (place q == place y))) [
    | inl one ↦ (one ∙ sym (same (wires one)))
    | inr two ↦ (two ∙ sym (is_false (is_same_pin y q) (λ k. never _ (one_wire (pin_same y q k)) two)))
  ]
    where
      wires : (is_same_chain q.chain y.chain && (place q == place y)) ≡ true → wire_of p q ≡ wire_of p y
      wires one =
          let k = and_parts (is_same_chain q.chain y.chain) (place q == place y) one in
          wire_at p ok q ∙ ap (λ c. segment_at c (place q)) (chain_same q.chain y.chain k.0) ∙ ap (λ n. segment_at y.chain n) (same_number (place q) (place y) k.1) ∙ sym (wire_at p ok y)

      same : wire_of p q ≡ wire_of p y → is_same_pin y q ≡ true
      same e =
          let is : y ≡ q = some_same y q (sym own ∙ ap (pin_on p qs) (sym e) ∙ found) in
          subst (λ k. is_same_pin y k ≡ true) is (pin_self y)

      one_wire : y ≡ q → (is_same_chain q.chain y.chain && (place q == place y)) ≡ true
      one_wire e = subst (λ k. (is_same_chain k.chain y.chain && (place k == place y)) ≡ true) e (both _ _ (chain_self y.chain) (number_self (place y)))

  -- ---- the pins that were said

  on_itself : (g : Segment) → is_same_segment g g ≡ true
  on_itself g = both _ _ (chain_self g.chain) (place_self g.place)
    where
      place_self : (o : Option ℕ) → is_same_place o o ≡ true
      place_self None = refl
      place_self (Some n) = number_self n

  pub pin_found : (said : List Entry) → AllSaid p said → (q : Pin) → list_any (is_same_pin q) (pins said) ≡ true → pin_on p (pins said) (wire_of p q) ≡ Some q
  pin_found [] all q there = absurd (never false there refl)
  pin_found (entry.Running ∷ said) all q there = pin_found said all.1 q there
  pin_found (entry.Low y ∷ said) all q there = pin_found said all.1 q there
  pin_found (entry.Moment m ∷ said) all q there = pin_found said all.1 q there
  pin_found (entry.Change c ∷ said) all q there = pin_found said all.1 q there
  pin_found (entry.Pin x ∷ said) all q there = by_pin (is_same_pin q x) refl there (pin_found said all.1 q)
    where
      alone : is_some (pin_on p (pins said) (wire_of p x)) ≡ false
      alone = (has_no_fault p said (entry.Pin x) all.0).wire

      by_wire : (b : Bool) → is_same_segment (wire_of p x) (wire_of p q) ≡ b → pin_on p (pins said) (wire_of p q) ≡ Some q → (if b then Some x else pin_on p (pins said) (wire_of p q)) ≡ Some q
      by_wire true one found =
          absurd (never (is_some (pin_on p (pins said) (wire_of p x))) (ap is_some (ap (pin_on p (pins said)) (segment_same (wire_of p x) (wire_of p q) one) ∙ found)) alone)
      by_wire false two found = found

      by_pin : (b : Bool) → is_same_pin q x ≡ b → (b || list_any (is_same_pin q) (pins said)) ≡ true → (list_any (is_same_pin q) (pins said) ≡ true → pin_on p (pins said) (wire_of p q) ≡ Some q)
          → (if is_same_segment (wire_of p x) (wire_of p q) then Some x else pin_on p (pins said) (wire_of p q)) ≡ Some q
      by_pin true same e earlier =
          let is : q ≡ x = pin_same q x same in
          subst (λ k. (if is_same_segment (wire_of p x) (wire_of p k) then Some x else pin_on p (pins said) (wire_of p k)) ≡ Some k) (sym is)
          (ap (λ b. if b then Some x else pin_on p (pins said) (wire_of p x)) (on_itself (wire_of p x)))
      by_pin false other e earlier = by_wire (is_same_segment (wire_of p x) (wire_of p q)) refl (earlier e)

  -- ---- behind changes

  -- the level of a line or pin behind changes, the newest first
  abbrev behind_all : Signal → List Change → Bool → Bool
  behind_all x [] low = low
  behind_all x (c ∷ cs) low = if is_same_signal c.signal x then c.fall else behind_all x cs low

  line_step : (c : Change) (l : Line) (old new : Levels) → LinesBehind c.signal c.fall old new
      → is_line_left_low new l ≡ (if is_same_signal c.signal (signal.Line l) then c.fall else is_line_left_low old l)
  line_step c l old new h = by_signal c.signal h
    where
      by_signal : (x : Signal) → LinesBehind x c.fall old new → is_line_left_low new l ≡ (if is_same_signal x (signal.Line l) then c.fall else is_line_left_low old l)
      by_signal (signal.Pin q) h = ap (λ x. is_line_left_low x l) h
      by_signal (signal.Line k) h = by_test (is_same_line k l) refl
        where
          by_test : (b : Bool) → is_same_line k l ≡ b → is_line_left_low new l ≡ (if b then c.fall else is_line_left_low old l)
          by_test true same = subst (λ y. is_line_left_low new y ≡ c.fall) (line_same k l same) h.set
          by_test false other = h.others l (λ e. never (is_same_line k l) (subst (λ y. is_same_line k y ≡ true) (sym e) (line_self k)) other)

  pin_step : (c : Change) (q : Pin) (old new : Segments) → LowBehind p c.signal c.fall old new → IsApart c.signal q
      → has_segment new q.chain (place q) ≡ (if is_same_signal c.signal (signal.Pin q) then c.fall else has_segment old q.chain (place q))
  pin_step c q old new h one = by_signal c.signal h one
    where
      by_signal : (x : Signal) → LowBehind p x c.fall old new → IsApart x q
          → has_segment new q.chain (place q) ≡ (if is_same_signal x (signal.Pin q) then c.fall else has_segment old q.chain (place q))
      by_signal (signal.Line l) h one = ap (λ s. has_segment s q.chain (place q)) h
      by_signal (signal.Pin y) h one = h q.chain (place q) ∙ ap (λ b. if b then c.fall else has_segment old q.chain (place q)) one

  abbrev AreApart : List Change → Pin → Type 0
  AreApart [] q = Unit {0}
  AreApart (c ∷ cs) q = IsApart c.signal q × AreApart cs q

  module _ (probed : Probed) (first : Standings) where
    lines_follow : (cs : List Change) (last : Standings) → Follows p probed first cs last → (l : Line) → is_line_left_low last.lines l ≡ behind_all (signal.Line l) cs (is_line_left_low first.lines l)
    lines_follow [] last h l = ap (λ s. is_line_left_low s.lines l) h
    lines_follow (c ∷ cs) last h l =
        line_step c l h.1.lines last.lines h.4.lines
        ∙ ap (λ b. if is_same_signal c.signal (signal.Line l) then c.fall else b) (ap (λ s. is_line_left_low s l) h.3.lines ∙ lines_follow cs h.0 h.2 l)

    pins_follow : (cs : List Change) (last : Standings) → Follows p probed first cs last → (q : Pin) → AreApart cs q
        → has_segment last.low q.chain (place q) ≡ behind_all (signal.Pin q) cs (has_segment first.low q.chain (place q))
    pins_follow [] last h q each = ap (λ s. has_segment s.low q.chain (place q)) h
    pins_follow (c ∷ cs) last h q each =
        pin_step c q h.1.low last.low h.4.low each.0
        ∙ ap (λ b. if is_same_signal c.signal (signal.Pin q) then c.fall else b) (ap (λ s. has_segment s q.chain (place q)) h.3.low ∙ pins_follow cs h.0 h.2 q each.1)

  -- ---- what was said

  said_level : (x : Signal) (said : List Entry) → AllSaid p said → is_left_low said x ≡ behind_all x (changes said) (is_among (lows said) x)
  said_level x [] all = refl
  said_level x (entry.Pin q ∷ said) all = said_level x said all.1
  said_level x (entry.Running ∷ said) all = said_level x said all.1
  said_level x (entry.Moment m ∷ said) all = said_level x said all.1
  said_level x (entry.Change c ∷ said) all = ap (λ b. if is_same_signal c.signal x then c.fall else b) (said_level x said all.1)
  said_level x (entry.Low y ∷ said) all =
      low_at p (entry.Low y ∷ said) all head x
      ∙ sym (ap (λ (cs : List Change). behind_all x cs (is_among (lows (entry.Low y ∷ said)) x)) (no_changes p (entry.Low y ∷ said) all head))
    where
      is_head : (a : Bool) (o : Option ℕ) → (a && is_none o) ≡ true → o ≡ None
      is_head a None h = refl
      is_head true (Some m) h = absurd (cc)
      is_head false (Some m) h = absurd (cc)

      head : last_moment said ≡ None
      head = is_head (is_running said) (last_moment said) (said_stands p said (entry.Low y) all.0)

  -- the changes of pins that were said are apart
  said_apart : (said : List Entry) → AllSaid p said → (q : Pin) → (qs : List Pin) → pin_on p qs (wire_of p q) ≡ Some q
      → ((y : Pin) → list_any (is_same_pin y) (pins said) ≡ true → pin_on p qs (wire_of p y) ≡ Some y) → AreApart (changes said) q
  said_apart [] all q qs found each = tt
  said_apart (entry.Pin x ∷ said) all q qs found each = said_apart said all.1 q qs found (λ y there. each y (later (is_same_pin y x) _ there))
    where
      later : (a b : Bool) → b ≡ true → (a || b) ≡ true
      later a b e = grind arith
  said_apart (entry.Running ∷ said) all q qs found each = said_apart said all.1 q qs found each
  said_apart (entry.Moment m ∷ said) all q qs found each = said_apart said all.1 q qs found each
  said_apart (entry.Low y ∷ said) all q qs found each = said_apart said all.1 q qs found each
  said_apart (entry.Change c ∷ said) all q qs found each =
      (by_signal c.signal (denied (is_declared said c.signal) (has_no_fault p said (entry.Change c) all.0).probed), said_apart said all.1 q qs found each)
    where
      by_signal : (x : Signal) → is_declared said x ≡ true → IsApart x q
      by_signal (signal.Line l) there = tt
      by_signal (signal.Pin y) there = apart qs y q (each y there) found

  -- no level is low at power-up
  none_low : (said : List Entry) → AllSaid p said → is_running said ≡ false → (x : Signal) → is_among (lows said) x ≡ false
  none_low [] all off x = refl
  none_low (entry.Pin q ∷ said) all off x = none_low said all.1 off x
  none_low (entry.Running ∷ said) all off x = absurd (never true refl off)
  none_low (entry.Moment m ∷ said) all off x = none_low said all.1 off x
  none_low (entry.Change c ∷ said) all off x = none_low said all.1 off x
  none_low (entry.Low y ∷ said) all off x =
      absurd (never (is_running said) (and_parts (is_running said) (is_none (last_moment said)) (said_stands p said (entry.Low y) all.0)).0 off)

  module _ (v : Version) (said : List Entry) (all : AllSaid p said) (probed : Probed) (first : Standings) (starts : StartsAs p probed (capture_of v said) first) where
    first_line : (l : Line) → is_line l ≡ true → is_line_left_low first.lines l ≡ is_among (lows said) (signal.Line l)
    first_line l on = by_way (is_running said) refl
      where
        by_way : (b : Bool) → is_running said ≡ b → is_line_left_low first.lines l ≡ is_among (lows said) (signal.Line l)
        by_way true is = let r = starts.running is in ap (λ s. is_line_left_low s l) r.known.lines_are ∙ r.said.shared l on
        by_way false is = (starts.power_up is).lines l ∙ sym (none_low said all is (signal.Line l))

    first_pin : (q : Pin) → pin_on p (pins said) (wire_of p q) ≡ Some q → has_segment first.low q.chain (place q) ≡ is_among (lows said) (signal.Pin q)
    first_pin q found = by_way (is_running said) refl
      where
        at : pin_on p (pins said) (segment_at q.chain (place q)) ≡ Some q
        at = ap (pin_on p (pins said)) (sym (wire_at p ok q)) ∙ found

        by_way : (b : Bool) → is_running said ≡ b → has_segment first.low q.chain (place q) ≡ is_among (lows said) (signal.Pin q)
        by_way true is =
            let r = starts.running is in
            ap (λ s. has_segment s q.chain (place q)) r.known.low_are ∙ r.said.probed q.chain (place q)
            ∙ ap (λ (o : Option Pin). option_map_or (λ k. is_among (lows said) (signal.Pin k)) o false) at
        by_way false is = (starts.power_up is).low q.chain (place q) ∙ sym (none_low said all is (signal.Pin q))

    -- a change that is said next goes to the other level
    pub seen_next : (c : Change) → SaidBy p said (entry.Change c) → AreProbed p (pins said) probed.segments → (last hidden : Standings) → Follows p probed first (changes said) last
        → hidden.lines ≡ last.lines → hidden.low ≡ last.low → IsSeen p probed hidden c
    seen_next c says probes last hidden follows lines low = record {
      probed_is = on c.signal near declared;
      differs = level c.signal near declared ∙ other (is_left_low said c.signal) c.fall fault.changes;
    }
      where
        near : is_signal c.signal ≡ true
        near = (and_parts (is_signal c.signal) (has_value c.signal c.fall c.value) (formed p said (entry.Change c) says)).0

        fault : HasNoFault p said (entry.Change c)
        fault = has_no_fault p said (entry.Change c) says

        declared : is_declared said c.signal ≡ true
        declared = denied (is_declared said c.signal) fault.probed

        other : (a b : Bool) → not (differ a b) ≡ false → a ≡ not b
        other true true h = absurd (never true refl h)
        other true false h = refl
        other false true h = refl
        other false false h = absurd (never true refl h)

        on : (x : Signal) → is_signal x ≡ true → is_declared said x ≡ true → is_probed p probed x ≡ true
        on (signal.Line l) is there = refl
        on (signal.Pin q) is there =
            probes q.chain (place q) (wire_near p q is)
            ∙ ap (λ (o : Option Pin). is_some o) (ap (pin_on p (pins said)) (sym (wire_at p ok q)) ∙ pin_found said all q there)

        level : (x : Signal) → is_signal x ≡ true → is_declared said x ≡ true → is_signal_low p hidden x ≡ is_left_low said x
        level (signal.Line l) is there =
            ap (λ s. is_line_left_low s l) lines ∙ lines_follow probed first (changes said) last follows l
            ∙ ap (λ b. behind_all (signal.Line l) (changes said) b) (first_line l is) ∙ sym (said_level (signal.Line l) said all)
        level (signal.Pin q) is there =
            let found = pin_found said all q there in
            ap (λ s. has_segment s q.chain (place q)) low
            ∙ pins_follow probed first (changes said) last follows q (said_apart said all q (pins said) found (λ y has_it. pin_found said all y has_it))
            ∙ ap (λ b. behind_all (signal.Pin q) (changes said) b) (first_pin q found) ∙ sym (said_level (signal.Pin q) said all)
