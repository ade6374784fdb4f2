-- What is known of a running bus, by what the head of a capture says, covers it; and it has levels
-- with which a bus can run.
use Rattle.std.proofs.Common.{◌≡◌, ◌∙◌, refl, sym, ap, subst, ℕ, zero, suc, Bool, true, false, List, [], ◌∷◌, ◌<◌, arith}
use Rattle.std.specs.Prelude.{◌&&◌, not, Option, Some, None, is_some, nat_lt, slice_index_or}
use Rattle.std.specs.Option.{option_map_or}
use Rattle.std.proofs.lemmas.Bool.Decides.{nat_tests}
use Rattle.vme_model.specs.declared.boards.Row.{Row}
use Rattle.vme_model.specs.declared.sets.ChainId.TheVariants as chain
use Rattle.vme_model.specs.declared.signals.Version.{Version}
use Rattle.vme_model.specs.declared.signals.Cycle.{Cycle}
use Rattle.vme_model.specs.declared.signals.Driver.{Driver}
use Rattle.vme_model.specs.declared.signals.Driver.TheVariants.{Controller, Slot}
use Rattle.vme_model.specs.declared.signals.Wire.{Wire}
use Rattle.vme_model.specs.declared.signals.Wire.TheVariants as wire
use Rattle.vme_model.specs.declared.signals.Edge.{Edge}
use Rattle.vme_model.specs.Plan.{Plan, board, grant_chain, interrupts_on, requests_on}
use Rattle.vme_model.specs.Accepted.{IsAccepted}
use Rattle.vme_model.specs.CycleSafety.{OneAnswers}
use Rattle.vme_model.specs.History.{drive, interrupt_line, line, pulls_interrupt, pulls_request}
use Rattle.vme_model.specs.Readings.{is_served}
use Rattle.vme_model.specs.Rules.{is_pri}
use Rattle.vme_model.specs.Safe.{OnEachPrefix}
use Rattle.vme_model.specs.Verdict.{IsLegal}
use Rattle.vme_model.proofs.Bools.{and_left, and_right}
use Rattle.vme_model.proofs.AllowedEdges.{all_passed}
use Rattle.vme_model.proofs.Members.{some_row}
use Rattle.vme_model.proofs.Ranges.{IsRowInRange, in_range}
use Rattle.vme_model.proofs.Safety.{legal_is_orderly}
use Rattle.vme_histories.proofs.Drivers.{own_of_none}
use Rattle.vme_bus.specs.Sets.{has}
use Rattle.vme_captures.specs.declared.levels.Levels.{Levels}
use Rattle.vme_captures.specs.declared.signals.Line.TheVariants as on_line
use Rattle.vme_captures.specs.declared.signals.Pin.{Pin}
use Rattle.vme_captures.specs.Levels.{is_line_left_low}
use Rattle.vme_captures.specs.Signals.{is_line}
use Rattle.vme_standings.specs.declared.segments.Segments.{Segments}
use Rattle.vme_standings.specs.declared.standings.Probed.{Probed}
use Rattle.vme_standings.specs.declared.standings.Standings.{Standings}
use Rattle.vme_standings.specs.Beginnings.{CanBegin}
use Rattle.vme_standings.specs.Covers.{AreLevels, AreProbed, Covers, is_probed, is_segment_low}
use Rattle.vme_standings.specs.GrantChains.{is_of_level}
use Rattle.vme_standings.specs.InPhase.{AreShown, is_place_low}
use Rattle.vme_standings.specs.LowSegments.{is_segment}
use Rattle.vme_standings.specs.Moving.{asked}
use Rattle.vme_standings.specs.Phases.{no_slots}
use Rattle.vme_standings.specs.Requests.{request_by, is_interrupter, is_on_level}
use Rattle.vme_standings.specs.RequestSets.{may_be}
use Rattle.vme_standings.specs.Running.{AnsweredTwice, CannotRun, IsUndriven, NoPhase, NotCleared, Runs, Undriven}
use Rattle.vme_standings.proofs.FrontLaws.{any_meant, high_covers}
use Rattle.vme_standings.proofs.GrantBegins.{can_begin, phase_of, running_covers}
use Rattle.vme_standings.proofs.GrantOthers.{in_table}
use Rattle.vme_standings.proofs.GrantPlaces.{board_segment}
use Rattle.vme_standings.proofs.GrantSegments.{place_segment}
use Rattle.vme_standings.proofs.JoinedCycle.{driven_by}
use Rattle.vme_standings.proofs.JoinedHidden.{asked_is, low_line_is}
use Rattle.vme_standings.proofs.JoinedSegments.{probed_works}
use Rattle.vme_standings.proofs.RequestLaws.{interrupter_in}
use Rattle.vme_standings.proofs.RequestSteps.{interrupts, on_level, pulled_by_other, pulls_it}
use Rattle.vme_standings.proofs.Tests.{both, never}
use Rattle.vme_standings.proofs.WhoDrives.{line_shows}

whole : (P : List Edge → Type 0) (h : List Edge) → OnEachPrefix P h → P h
whole P [] each = each
whole P (e ∷ h) each = each.0

-- only a priority arbiter drives BCLR*
clears : (version : Version) (p : Plan) (h : List Edge) → IsLegal version p h → drive h Controller wire.Bclr ≡ true → is_pri p.arbiter ≡ true
clears version p [] legal low = absurd (cc)
clears version p (e ∷ h) legal low = by_edge e.driver e.wire e.fall e.value legal low (clears version p h legal.1)
  where
    by_edge : (d : Driver) (w : Wire) (fall : Bool) (v : Option Cycle) → (let x : Edge = record { driver = d; wire = w; fall = fall; value = v } in
        IsLegal version p (x ∷ h) → drive (x ∷ h) Controller wire.Bclr ≡ true → (drive h Controller wire.Bclr ≡ true → is_pri p.arbiter ≡ true) → is_pri p.arbiter ≡ true)
    by_edge Controller wire.Bclr true v l x before = and_left (is_pri p.arbiter) _ (and_left _ _ (and_left _ _ (all_passed version p h Controller wire.Bclr true v l.0).rule))
    by_edge Controller wire.Bclr false v l x before = absurd (cc)
    by_edge (Slot s) wire.Bclr fall v l x before = before x
    by_edge d w fall v l x before = before x

module _ (p : Plan) (ok : IsAccepted p) (probed : Probed) (pins : List Pin) (probes : AreProbed p pins probed.segments) (h : List Edge) (legal : IsLegal probed.version p h) (lines : Levels)
    (low : Segments) (are : AreLevels p pins h lines low) where
  abbrev version : Version
  version = probed.version

  -- the probed segments of the grant chains
  place_at : (c s : ℕ) → c < 4 → is_segment_low h (grant_chain c) s ≡ is_place_low h c s
  place_at c zero few = place_segment p h c zero few
  place_at c (suc t) few = place_segment p h c (suc t) few

  shown : AreShown p h probed.segments.grants low.grants
  shown c s few near on = by_level c few on
    where
      -- the chain has a segment on which a probe is
      segment_of : (c s : ℕ) → (is_probed p pins (grant_chain c) s ≡ true → (t : ℕ) → s ≡ suc t → is_of_level p c s ≡ true) → is_probed p pins (grant_chain c) s ≡ true → is_segment p c s ≡ true
      segment_of c zero f x = refl
      segment_of c (suc t) f x = board_segment p c (suc t) (f x t refl)

      and_that : (a b c : Bool) → a ≡ true → c ≡ (a && b) → c ≡ b
      and_that a b c e f = grind arith

      by_level : (c : ℕ) → c < 4 → has (slice_index_or probed.segments.grants c no_slots) s ≡ true → (is_segment p c s ≡ true) × (has (slice_index_or low.grants c no_slots) s ≡ is_place_low h c s)
      by_level zero few on =
          let x : is_probed p pins chain.Bg0 s ≡ true = sym (probes chain.Bg0 s near) ∙ on in (
            segment_of 0 s (λ y t same. subst (λ z. is_of_level p 0 z ≡ true) (sym same) (probed_works p ok pins chain.Bg0 t (subst (λ z. is_probed p pins chain.Bg0 z ≡ true) same y))) x,
            and_that (is_probed p pins chain.Bg0 s) (is_segment_low h chain.Bg0 s) _ x (are.probed chain.Bg0 s) ∙ place_at 0 s few,
          )
      by_level (suc zero) few on =
          let x : is_probed p pins chain.Bg1 s ≡ true = sym (probes chain.Bg1 s near) ∙ on in (
            segment_of 1 s (λ y t same. subst (λ z. is_of_level p 1 z ≡ true) (sym same) (probed_works p ok pins chain.Bg1 t (subst (λ z. is_probed p pins chain.Bg1 z ≡ true) same y))) x,
            and_that (is_probed p pins chain.Bg1 s) (is_segment_low h chain.Bg1 s) _ x (are.probed chain.Bg1 s) ∙ place_at 1 s few,
          )
      by_level (suc (suc zero)) few on =
          let x : is_probed p pins chain.Bg2 s ≡ true = sym (probes chain.Bg2 s near) ∙ on in (
            segment_of 2 s (λ y t same. subst (λ z. is_of_level p 2 z ≡ true) (sym same) (probed_works p ok pins chain.Bg2 t (subst (λ z. is_probed p pins chain.Bg2 z ≡ true) same y))) x,
            and_that (is_probed p pins chain.Bg2 s) (is_segment_low h chain.Bg2 s) _ x (are.probed chain.Bg2 s) ∙ place_at 2 s few,
          )
      by_level (suc (suc (suc zero))) few on =
          let x : is_probed p pins chain.Bg3 s ≡ true = sym (probes chain.Bg3 s near) ∙ on in (
            segment_of 3 s (λ y t same. subst (λ z. is_of_level p 3 z ≡ true) (sym same) (probed_works p ok pins chain.Bg3 t (subst (λ z. is_probed p pins chain.Bg3 z ≡ true) same y))) x,
            and_that (is_probed p pins chain.Bg3 s) (is_segment_low h chain.Bg3 s) _ x (are.probed chain.Bg3 s) ∙ place_at 3 s few,
          )
      by_level (suc (suc (suc (suc n)))) few on = absurd (omega arith)

  busy_is : is_line_left_low lines on_line.Bbsy ≡ line p h wire.Bbsy
  busy_is = are.shared on_line.Bbsy refl

  -- the bus has levels with which it can run
  pub runs : CannotRun p probed lines low → ⊥
  runs (NoPhase none) =
      let q = phase_of version p ok h legal in
      none q.0 (in_table version p ok h legal q.0 q.1)
      (subst (λ b. CanBegin p version (asked lines) b probed.segments.grants low.grants q.0) (sym busy_is)
      (can_begin version p ok h legal (asked lines) (asked_is p h lines are.shared) probed.segments.grants low.grants shown q.0 q.1))
  runs (AnsweredTwice twice) =
      let answered : line p h wire.Dtack ≡ true = sym (are.shared on_line.Dtack refl) ∙ and_left (is_line_left_low lines on_line.Dtack) (is_line_left_low lines on_line.Berr) twice in
      let error : drive h Controller wire.Berr ≡ true = sym (are.shared on_line.Berr refl) ∙ and_right (is_line_left_low lines on_line.Dtack) (is_line_left_low lines on_line.Berr) twice in
      let t = driven_by version p ok h wire.Dtack answered in
      clash t.0 (whole OneAnswers h (legal_is_orderly version p h ok legal).one_answer Controller (Slot t.0) error t.1)
    where
      clash : (t : ℕ) → Controller ≡ Slot t → ⊥
      clash t x = cc
  runs (Undriven (on_line.Br n) u) = pulled u
    where
      few_is : (n : ℕ) → n < 4 → nat_lt n 4 ≡ true
      few_is n l = grind (arith, nat_tests)

      pulled : IsUndriven p lines (on_line.Br n) → ⊥
      pulled (few, on, nobody) =
          let f = some_row (pulls_request h n) (IsRowInRange p) p.rows (in_range p ok).rows (sym (are.shared (on_line.Br n) (few_is n few)) ∙ on) in
          never (is_of_level p n f.0.slot) (ap (λ (o : Option Row). option_map_or (requests_on n) o false) f.2.alone ∙ and_left (requests_on n f.0) (drive h (Slot f.0.slot) wire.Br) f.1)
          (nobody f.0.slot)
  runs (Undriven (on_line.Irq n) u) = pulled u
    where
      level_is : (n : ℕ) → 0 < n → n < 8 → is_line (on_line.Irq n) ≡ true
      level_is n k l = grind (arith, nat_tests)

      pulled : IsUndriven p lines (on_line.Irq n) → ⊥
      pulled (from, few, on, nobody) =
          let f = some_row (pulls_interrupt h n) (IsRowInRange p) p.rows (in_range p ok).rows (sym (are.shared (on_line.Irq n) (level_is n from few)) ∙ on) in
          never (is_on_level p n f.0.slot) (ap (λ (o : Option Row). option_map_or (interrupts_on n) o false) f.2.alone ∙ and_left (interrupts_on n f.0) (drive h (Slot f.0.slot) wire.Irq) f.1)
          (nobody f.0.slot)
  runs (Undriven on_line.Bbsy u) = absurd u
  runs (Undriven on_line.AddressStrobe u) = absurd u
  runs (Undriven on_line.DataStrobe u) = absurd u
  runs (Undriven on_line.Dtack u) = absurd u
  runs (Undriven on_line.Berr u) = absurd u
  runs (Undriven on_line.Bclr u) = absurd u
  runs (NotCleared on off) = never (is_pri p.arbiter) (clears version p h legal (sym (are.shared on_line.Bclr refl) ∙ on)) off

  -- and what is known of it covers it
  module _ (high : is_line_left_low lines on_line.AddressStrobe ≡ false) (new : Standings) (known : Runs p probed lines low new) where
    strobe_high : line p h wire.AddressStrobe ≡ false
    strobe_high = sym (are.shared on_line.AddressStrobe refl) ∙ high

    no_strobe : (s : ℕ) → drive h (Slot s) wire.AddressStrobe ≡ true → ⊥
    no_strobe s on = never (line p h wire.AddressStrobe) (line_shows version p ok h legal s wire.AddressStrobe on) strobe_high

    there : (s : ℕ) (o : Option Row) → board p s ≡ o → drive h (Slot s) wire.Dtack ≡ true → is_some o ≡ true
    there s None found on = absurd (never (drive h (Slot s) wire.Dtack) on (sym (own_of_none version p h s wire.Dtack legal found)))
    there s (Some r) found on = refl

    request_at : (s : ℕ) → is_interrupter p s ≡ true → (low : Bool) → drive h (Slot s) wire.Irq ≡ low → (served : Bool) → is_served p h (Slot s) ≡ served
        → may_be new.requests s (request_by low served) ≡ true
    request_at s on true pulls false served =
        let i = interrupts p s on in
        known.requests.unknown.pending s ∙ known.requests.low_are s ∙ low_line_is p ok h lines are.shared i.interrupter.level s (on_level p s i) ∙ pulls_it p s i ok h pulls
    request_at s on true pulls true served =
        let i = interrupts p s on in
        known.requests.unknown.served s ∙ known.requests.low_are s ∙ low_line_is p ok h lines are.shared i.interrupter.level s (on_level p s i) ∙ pulls_it p s i ok h pulls
    request_at s on false off served x =
        let w = interrupter_in p ok s on in
        known.requests.unknown.high s w.from w.near
        ∙ both (has known.requests.boards s) (not (has known.requests.low s && not (has known.requests.shared s))) (known.requests.boards_are s ∙ any_meant p s on)
        (by_line (has known.requests.low s) refl)
      where
        out : (a b : Bool) → b ≡ true → not (a && not b) ≡ true
        out a b f = grind arith

        by_line : (b : Bool) → has known.requests.low s ≡ b → not (b && not (has known.requests.shared s)) ≡ true
        by_line false y = refl
        by_line true y =
            let i = interrupts p s on in
            let is_low : interrupt_line p h i.interrupter.level ≡ true = sym (low_line_is p ok h lines are.shared i.interrupter.level s (on_level p s i)) ∙ sym (known.requests.low_are s) ∙ y in
            let o = pulled_by_other p ok h i.interrupter.level s is_low off in
            out true (has known.requests.shared s) (known.requests.shared_are.all i.interrupter.level s o.slot (on_level p s i) o.on o.differs)

    pub runs_covered : Covers p pins h new
    runs_covered = record {
      levels = subst (λ x. AreLevels p pins h x new.low) (sym known.lines_are) (subst (λ x. AreLevels p pins h lines x) (sym known.low_are) are);
      shown = record {
        high = λ off. known.shown;
        low = λ on. absurd (never (line p h wire.AddressStrobe) on strobe_high);
        shown = λ v on is. absurd (never (line p h wire.AddressStrobe) on strobe_high);
      };
      strobed = λ s on. absurd (no_strobe s on);
      phases = running_covers version p ok h legal (asked lines) (asked_is p h lines are.shared) probed.segments.grants low.grants shown new.phases
          (λ q on can. known.phases.all q on (subst (λ b. CanBegin p version (asked lines) b probed.segments.grants low.grants q) (sym busy_is) can));
      addressers = λ s on. absurd (no_strobe s on);
      answerers = λ s on. known.answerers s ∙ both (is_line_left_low lines on_line.Dtack) (is_some (board p s)) (are.shared on_line.Dtack refl ∙ line_shows version p ok h legal s wire.Dtack on)
          (there s (board p s) refl on);
      fronts = high_covers p h new.fronts strobe_high;
      requests = λ s on. request_at s on (drive h (Slot s) wire.Irq) refl (is_served p h (Slot s)) refl;
    }
