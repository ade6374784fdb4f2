-- What is known of a bus covers every bus that shows a capture, and a change that nobody may have made
-- ends no possible capture.
use Rattle.std.proofs.Common.{◌≡◌, ◌∙◌, refl, sym, ap, subst, ℕ, Bool, true, false, List, [], ◌∷◌, ◌++◌, arith}
use Rattle.std.specs.Prelude.{◌==◌, ◌&&◌, ◌||◌, find, if◌then◌else◌, Option, Some, None, is_some}
use Rattle.std.specs.List.{list_any}
use Rattle.std.specs.Option.{option_map_or}
use Rattle.std.proofs.lemmas.Bool.Decides.{nat_tests}
use Rattle.vme_model.specs.declared.sets.ChainId.{ChainId}
use Rattle.vme_model.specs.declared.sets.ChainId.TheVariants as chain
use Rattle.vme_model.specs.declared.signals.Edge.{Edge}
use Rattle.vme_model.specs.Plan.{Plan}
use Rattle.vme_model.specs.Accepted.{IsAccepted}
use Rattle.vme_model.specs.History.{segment}
use Rattle.vme_model.specs.Verdict.{IsLegal}
use Rattle.vme_captures.specs.declared.levels.Levels.{Levels}
use Rattle.vme_captures.specs.declared.signals.Change.{Change}
use Rattle.vme_captures.specs.declared.signals.Line.TheVariants as on_line
use Rattle.vme_captures.specs.declared.signals.Pin.{Pin}
use Rattle.vme_captures.specs.declared.signals.Segment.{Segment}
use Rattle.vme_captures.specs.declared.signals.Side.{Side}
use Rattle.vme_captures.specs.declared.signals.Side.TheVariants.{In, Out}
use Rattle.vme_captures.specs.declared.signals.Signal.TheVariants as signal
use Rattle.vme_captures.specs.Possible.{AgreeEach, Begins, Capture, is_among, sightings}
use Rattle.vme_captures.specs.Signals.{is_same_chain, is_same_pin, is_same_side}
use Rattle.vme_captures.specs.Wires.{is_on, pin_on}
use Rattle.vme_standings.specs.declared.segments.Segments.{Segments}
use Rattle.vme_standings.specs.declared.standings.Drivers.{Drivers}
use Rattle.vme_standings.specs.declared.standings.Probed.{Probed}
use Rattle.vme_standings.specs.declared.standings.Standings.{Standings}
use Rattle.vme_standings.specs.Covers.{AreLevels, AreProbed, Covers, is_segment_low, segment_at}
use Rattle.vme_standings.specs.Driving.{AreDrivers}
use Rattle.vme_standings.specs.Following.{Follows, HeadSays, StartsAs}
use Rattle.vme_standings.specs.Hidden.{HasMoved}
use Rattle.vme_standings.specs.Running.{CannotRun}
use Rattle.vme_standings.specs.Standings.{is_nobody}
use Rattle.vme_standings.proofs.JoinedBegins.{power_up}
use Rattle.vme_standings.proofs.JoinedLists.{followed, newest_somebody}
use Rattle.vme_standings.proofs.JoinedRuns.{runs, runs_covered}
use Rattle.vme_standings.proofs.SeenEdges.{wire_is}
use Rattle.vme_standings.proofs.Tests.{both, or_left, or_true}

same_pin : (q : Pin) → is_same_pin q q ≡ true
same_pin q =
    both (q.slot == q.slot && is_same_chain q.chain q.chain) (is_same_side q.side q.side)
    (both (q.slot == q.slot) (is_same_chain q.chain q.chain) (self q.slot) (self_chain q.chain)) (self_side q.side)
  where
    self : (n : ℕ) → (n == n) ≡ true
    self n = grind (arith, nat_tests)

    self_chain : (c : ChainId) → is_same_chain c c ≡ true
    self_chain chain.Bg0 = refl
    self_chain chain.Bg1 = refl
    self_chain chain.Bg2 = refl
    self_chain chain.Bg3 = refl
    self_chain chain.Iack = refl

    self_side : (x : Side) → is_same_side x x ≡ true
    self_side In = refl
    self_side Out = refl

-- a pin that is found is one of them
found_there : (test : Pin → Bool) (pins : List Pin) (q : Pin) → find test pins ≡ Some q → list_any (is_same_pin q) pins ≡ true
found_there test [] q is = absurd (cc)
found_there test (x ∷ pins) q is = by_test (test x) is (found_there test pins q)
  where
    same : Some x ≡ Some q → x ≡ q
    same e = cc

    by_test : (b : Bool) → (if b then Some x else find test pins) ≡ Some q → (find test pins ≡ Some q → list_any (is_same_pin q) pins ≡ true)
        → (is_same_pin q x || list_any (is_same_pin q) pins) ≡ true
    by_test true e next = or_left (is_same_pin q x) (list_any (is_same_pin q) pins) (subst (λ y. is_same_pin q y ≡ true) (sym (same e)) (same_pin q))
    by_test false e next = or_true (is_same_pin q x) (list_any (is_same_pin q) pins) (next e)

module _ (p : Plan) (ok : IsAccepted p) (probed : Probed) (c : Capture) (version_is : c.version ≡ probed.version) (probes : AreProbed p c.pins probed.segments) (g : List Edge)
    (begins : Begins p c g) where
  legal : IsLegal probed.version p g
  legal = subst (λ v. IsLegal v p g) version_is begins.legal

  -- the levels that the head says
  levels_of : (lines : Levels) (low : Segments) → HeadSays p c lines low → AreLevels p c.pins g lines low
  levels_of lines low said = record {
    shared = λ l on. said.shared l on ∙ sym (begins.levels (signal.Line l) on);
    probed = λ ch s. said.probed ch s ∙ by_pin ch s (pin_on p c.pins (segment_at ch s)) refl;
  }
    where
      by_pin : (ch : ChainId) (s : ℕ) (o : Option Pin) → pin_on p c.pins (segment_at ch s) ≡ o → option_map_or (λ q. is_among c.lows (signal.Pin q)) o false ≡ (is_some o && is_segment_low g ch s)
      by_pin ch s None is = refl
      by_pin ch s (Some q) is =
          sym (begins.levels (signal.Pin q) (found_there (is_on p (segment_at ch s)) c.pins q is))
          ∙ ap (λ (x : Segment). segment g x.chain x.place) (wire_is p c.pins (segment_at ch s) q is)

  pub head_runs : (lines : Levels) (low : Segments) → HeadSays p c lines low → CannotRun p probed lines low → ⊥
  head_runs lines low said cannot = runs p ok probed c.pins probes g legal lines low (levels_of lines low said) cannot

  module _ (first : Standings) (starts : StartsAs p probed c first) where
    covers_first : Covers p c.pins g first
    covers_first = by_running c.is_running refl
      where
        by_running : (b : Bool) → c.is_running ≡ b → Covers p c.pins g first
        by_running false is = subst (λ x. Covers p c.pins x first) (sym (begins.power_up is)) (power_up p c.pins first ok (starts.power_up is))
        by_running true is =
            let r = starts.running is in
            runs_covered p ok probed c.pins probes g legal r.lines r.low (levels_of r.lines r.low r.said) (r.said.shared on_line.AddressStrobe refl ∙ r.high) first r.known

    pub explained : (h : List Edge) → IsLegal c.version p (h ++ g) → (cs : List Change) → AgreeEach cs (sightings p c.pins g h) → (behind last : Standings) → Follows p probed first cs behind
        → HasMoved p probed behind last → Covers p c.pins (h ++ g) last
    explained h l cs agree behind last follows moved = followed p ok probed c.pins probes g first covers_first h (subst (λ v. IsLegal v p (h ++ g)) version_is l) cs agree behind last follows moved

    pub never_impossible : (h : List Edge) → IsLegal c.version p (h ++ g) → (v : Change) (cs : List Change) → AgreeEach (v ∷ cs) (sightings p c.pins g h) → (behind last : Standings)
        → Follows p probed first cs behind → HasMoved p probed behind last
        → (d : Drivers) → AreDrivers p probed last v d → is_nobody d ≡ false
    never_impossible h l v cs agree behind last follows moved d drivers =
        newest_somebody p ok probed c.pins probes g first covers_first h (subst (λ x. IsLegal x p (h ++ g)) version_is l) v cs agree behind last follows moved d drivers
