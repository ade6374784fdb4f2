-- The conditions of AS*, DS*, and of the rises of DTACK* and BERR*, that hold of a bus are met by what
-- covers it: `condition_laws`.
use Rattle.std.proofs.Common.{◌≡◌, ◌∙◌, ◌&&◌, ◌||◌, ℕ, zero, suc, Bool, true, false, not, List, [], ◌∷◌, Option, Some, None, refl, sym, ap, subst, arith}
use Rattle.std.specs.Prelude.{◌==◌}
use Rattle.std.specs.List.{list_all, list_any}
use Rattle.vme_model.specs.declared.conditions.Condition.TheVariants.{Answered, BerrHigh, ChainHigh, DataStrobeHigh, DtackHigh, NotStrobed, OwnAddressStrobeLow, OwnBusyLow, OwnDataStrobeHigh, Strobed}
use Rattle.vme_model.specs.declared.sentences.Rule.TheVariants.{G8, G15, G17, G18, G19, G26, S1}
use Rattle.vme_model.specs.declared.sets.ChainId.TheVariants as chain
use Rattle.vme_model.specs.declared.signals.Cycle.TheVariants as cycle
use Rattle.vme_model.specs.declared.signals.Driver.TheVariants.{Controller, Slot}
use Rattle.vme_model.specs.declared.signals.Edge.{Edge}
use Rattle.vme_model.specs.declared.signals.Version.{Version}
use Rattle.vme_model.specs.declared.signals.Wire.TheVariants as wire
use Rattle.vme_model.specs.Accepted.{IsAccepted}
use Rattle.vme_model.specs.History.{drive, line as line_of}
use Rattle.vme_model.specs.Plan.{Plan}
use Rattle.vme_model.specs.Settling.{is_chain_clear}
use Rattle.vme_model.specs.Verdict.{IsLegal}
use Rattle.vme_model.proofs.Bools.{and_left, not_true}
use Rattle.vme_bus.specs.Sets.{has}
use Rattle.vme_captures.specs.declared.signals.Line.TheVariants as line
use Rattle.vme_captures.specs.declared.signals.Pin.{Pin}
use Rattle.vme_captures.specs.declared.signals.Value.{Value}
use Rattle.vme_captures.specs.declared.signals.Value.TheVariants as value
use Rattle.vme_captures.proofs.BelowSlots.{all_below}
use Rattle.vme_standings.specs.declared.moving.Moved.TheVariants as moved
use Rattle.vme_standings.specs.declared.standings.Standings.{Standings}
use Rattle.vme_standings.specs.Covers.{Covers, is_probed, is_segment_low}
use Rattle.vme_standings.specs.Phases.{is_held_by}
use Rattle.vme_standings.proofs.FrontSteps.{board_high, head_high}
use Rattle.vme_standings.proofs.JoinedCycle.{data_within, driven_by, goes, strobe_alone}
use Rattle.vme_standings.proofs.JoinedSegments.{probed_works}
use Rattle.vme_standings.proofs.Tests.{both, is_false, never}
use Rattle.vme_probe.specs.declared.obstacles.Obstacle.TheVariants.{Fails}
use Rattle.vme_probe.specs.Conditions.{address_falls, address_rises, answer_rises, data_falls, data_rises, is_chain_high, line_falls, line_rises, low}
use Rattle.vme_probe.specs.Demands.{places}
use Rattle.vme_probe.specs.Holding.{cycle_seen, edge, holds}
use Rattle.vme_probe.proofs.LeftBy.{Tells}
use Rattle.vme_probe.proofs.MetGuards.{first_edge, one_met, other_edges, rule_met, settling_met}

-- none of these passes
none_any : (t : ℕ → Bool) (xs : List ℕ) → list_all (λ x. not (t x)) xs ≡ true → not (list_any t xs) ≡ true
none_any t [] h = refl
none_any t (x ∷ xs) h = by_test (t x) h (λ k. none_any t xs k)
  where
    by_test : (b : Bool) → (not b && list_all (λ y. not (t y)) xs) ≡ true → (list_all (λ y. not (t y)) xs ≡ true → not (list_any t xs) ≡ true) → not (b || list_any t xs) ≡ true
    by_test true k next = absurd (never false k refl)
    by_test false k next = next k

not_on : (b : Bool) → b ≡ false → not b ≡ true
not_on b e = grind arith

module _ (p : Plan) (ok : IsAccepted p) (version : Version) (pins : List Pin) (h : List Edge) (legal : IsLegal version p h) (st : Standings) (covers : Covers p pins h st) where
  -- ---- AS*

  -- whoever lets DS* fall drives AS*
  addresses : (s : ℕ) → drive h (Slot s) wire.DataStrobe ≡ true → drive h (Slot s) wire.AddressStrobe ≡ true
  addresses s low = (data_within p h (goes version p ok h legal) s low).0

  -- if whoever drives AS* does not drive DS*, nobody does
  data_high : (s : ℕ) → drive h (Slot s) wire.AddressStrobe ≡ true → drive h (Slot s) wire.DataStrobe ≡ false → line_of p h wire.DataStrobe ≡ false
  data_high s on high = is_false (line_of p h wire.DataStrobe) (λ down.
      let t = driven_by version p ok h wire.DataStrobe down in
      let same = strobe_alone p h (goes version p ok h legal) t.0 s (addresses t.0 t.1) on in
      never (drive h (Slot s) wire.DataStrobe) (subst (λ y. drive h (Slot y) wire.DataStrobe ≡ true) same t.1) high)

  address_rise : (s : ℕ) (x : Option Value) → Tells p ok version pins h legal st covers (holds version p h (Slot s) (moved.Line line.AddressStrobe) false x) s (address_rises st s)
  address_rise s x a = (
    covers.addressers s a,
    λ b. (
      ap not (covers.levels.shared line.DataStrobe refl)
          ∙ not_on (line_of p h wire.DataStrobe) (data_high s a (not_true (drive h (Slot s) wire.DataStrobe)
          (and_left (not (drive h (Slot s) wire.DataStrobe)) true
          (rule_met version p h G19 OwnDataStrobeHigh (edge (Slot s) wire.Addr false (cycle_seen x))
          (first_edge version p h G19 OwnDataStrobeHigh (edge (Slot s) wire.Addr false (cycle_seen x)) (edge (Slot s) wire.AddressStrobe false None ∷ []) b) refl)))),
      λ c. (
        covers.strobed s a ∙ rule_met version p h G19 Strobed (edge (Slot s) wire.Addr false (cycle_seen x))
            (first_edge version p h G19 Strobed (edge (Slot s) wire.Addr false (cycle_seen x)) (edge (Slot s) wire.AddressStrobe false None ∷ []) c) refl,
        tt,
      ),
    ),
  )

  -- no probed segment of a clear chain is low
  clear_high : is_chain_clear p h chain.Iack ≡ true → is_chain_high st ≡ true
  clear_high clear = none_any (λ place. has st.low.acknowledge place) places
      (both (not (has st.low.acknowledge 0)) _ (not_on (has st.low.acknowledge 0) (high 0))
      (all_below (λ k. not (has st.low.acknowledge k)) 21 (λ k from to. not_on (has st.low.acknowledge k) (high k))))
    where
      off_right : (a b : Bool) → b ≡ false → (a && b) ≡ false
      off_right a b e = grind arith

      by_probe : (t : ℕ) (b : Bool) → is_probed p pins chain.Iack (suc t) ≡ b → (b && is_segment_low h chain.Iack (suc t)) ≡ false
      by_probe t false none = refl
      by_probe t true on = board_high p ok h clear (suc t) (probed_works p ok pins chain.Iack t on)

      high : (k : ℕ) → has st.low.acknowledge k ≡ false
      high zero = covers.levels.probed chain.Iack 0 ∙ off_right (is_probed p pins chain.Iack 0) (is_segment_low h chain.Iack 0) (head_high p ok h clear)
      high (suc t) = covers.levels.probed chain.Iack (suc t) ∙ by_probe t (is_probed p pins chain.Iack (suc t)) refl

  module _ (s : ℕ) (x : Option Value) where
    abbrev on : Edge
    on = edge (Slot s) wire.Addr true (cycle_seen x)

    abbrev falls : Edge
    falls = edge (Slot s) wire.AddressStrobe true None

    held_met : holds version p h (Slot s) (moved.Line line.AddressStrobe) true x (Fails G15 OwnBusyLow) ≡ true → is_held_by (λ k. k == s) covers.phases.phase ≡ true
    held_met a =
        sym (covers.phases.is_in.held s)
        ∙ and_left (drive h (Slot s) wire.Bbsy) true (and_left _ _ (and_left _ _ (rule_met version p h G15 OwnBusyLow on (first_edge version p h G15 OwnBusyLow on (falls ∷ []) a) refl)))

    chain_met : holds version p h (Slot s) (moved.Line line.AddressStrobe) true x (Fails S1 ChainHigh) ≡ true → is_chain_high st ≡ true
    chain_met a =
        clear_high (settling_met version p h S1 ChainHigh falls (first_edge version p h S1 ChainHigh falls [] (other_edges version p h S1 ChainHigh on (falls ∷ []) a)) refl)

  address_fall : (s : ℕ) (x : Option Value) → Tells p ok version pins h legal st covers (holds version p h (Slot s) (moved.Line line.AddressStrobe) true x) s (address_falls p st s x)
  address_fall s None = λ a. (held_met s None a, λ b. (chain_met s None b, tt))
  address_fall s (Some (value.Shown (cycle.Acknowledge n))) = λ a.
      (held_met s (Some (value.Shown (cycle.Acknowledge n))) a, λ b. (b, λ c. (chain_met s (Some (value.Shown (cycle.Acknowledge n))) c, tt)))
  address_fall s (Some (value.Shown (cycle.Access t))) = λ a. (held_met s (Some (value.Shown (cycle.Access t))) a, λ b. (chain_met s (Some (value.Shown (cycle.Access t))) b, tt))
  address_fall s (Some value.Access) = λ a. (held_met s (Some value.Access) a, λ b. (chain_met s (Some value.Access) b, tt))
  address_fall s (Some (value.Status n)) = λ a. (held_met s (Some (value.Status n)) a, λ b. (chain_met s (Some (value.Status n)) b, tt))

  -- ---- DS*

  data_fall : (s : ℕ) (x : Option Value) → Tells p ok version pins h legal st covers (holds version p h (Slot s) (moved.Line line.DataStrobe) true x) s (data_falls st s)
  data_fall s x a = (
    covers.addressers s own,
    λ b. (
      ap not (covers.levels.shared line.Dtack refl)
          ∙ and_left (not (line_of p h wire.Dtack)) true (and_left _ true (one_met version p h G17 DtackHigh (edge (Slot s) wire.DataStrobe true None) b refl)),
      λ c. (
        ap not (covers.levels.shared line.Berr refl)
            ∙ and_left (not (drive h Controller wire.Berr)) true (one_met version p h G17 BerrHigh (edge (Slot s) wire.DataStrobe true None) c refl),
        λ d. (ap not (covers.strobed s own) ∙ one_met version p h G17 NotStrobed (edge (Slot s) wire.DataStrobe true None) d refl, tt),
      ),
    ),
  )
    where
      own : drive h (Slot s) wire.AddressStrobe ≡ true
      own = and_left (drive h (Slot s) wire.AddressStrobe) true
          (and_left _ true (and_left _ true (and_left _ true (one_met version p h G17 OwnAddressStrobeLow (edge (Slot s) wire.DataStrobe true None) a refl))))

  data_rise : (s : ℕ) (x : Option Value) → Tells p ok version pins h legal st covers (holds version p h (Slot s) (moved.Line line.DataStrobe) false x) s (data_rises st s)
  data_rise s x a = (
    covers.addressers s (addresses s a),
    λ b. (
      ap (λ y. y || low st line.Berr) (covers.levels.shared line.Dtack refl) ∙ ap (λ y. line_of p h wire.Dtack || y) (covers.levels.shared line.Berr refl)
          ∙ one_met version p h G18 Answered (edge (Slot s) wire.DataStrobe false None) b refl,
      tt,
    ),
  )

  -- ---- the rises of DTACK* and BERR*

  answer_rise : (s : ℕ) (x : Option Value) → Tells p ok version pins h legal st covers (holds version p h (Slot s) (moved.Line line.Dtack) false x) s (answer_rises st s)
  answer_rise s x a = (
    covers.answerers s a,
    λ b. (ap not (covers.levels.shared line.DataStrobe refl) ∙ one_met version p h G26 DataStrobeHigh (edge (Slot s) wire.Dtack false None) b refl, tt),
  )

  pub error_rise : (x : Option Value) → Tells p ok version pins h legal st covers (holds version p h Controller (moved.Line line.Berr) false x) 0 (line_rises p version st 0 line.Berr)
  error_rise x a = (ap not (covers.levels.shared line.DataStrobe refl) ∙ one_met version p h G8 DataStrobeHigh (edge Controller wire.Berr false None) a refl, tt)

  -- ---- all of them

  pub addresses_fall : (s : ℕ) (x : Option Value) → Tells p ok version pins h legal st covers (holds version p h (Slot s) (moved.Line line.AddressStrobe) true x) s
      (line_falls p st s line.AddressStrobe x)
  addresses_fall s x = address_fall s x

  pub addresses_rise : (s : ℕ) (x : Option Value) → Tells p ok version pins h legal st covers (holds version p h (Slot s) (moved.Line line.AddressStrobe) false x) s
      (line_rises p version st s line.AddressStrobe)
  addresses_rise s x = address_rise s x

  pub strobes_fall : (s : ℕ) (x : Option Value) → Tells p ok version pins h legal st covers (holds version p h (Slot s) (moved.Line line.DataStrobe) true x) s (line_falls p st s line.DataStrobe x)
  strobes_fall s x = data_fall s x

  pub strobes_rise : (s : ℕ) (x : Option Value) → Tells p ok version pins h legal st covers (holds version p h (Slot s) (moved.Line line.DataStrobe) false x) s
      (line_rises p version st s line.DataStrobe)
  strobes_rise s x = data_rise s x

  pub answers_rise : (s : ℕ) (x : Option Value) → Tells p ok version pins h legal st covers (holds version p h (Slot s) (moved.Line line.Dtack) false x) s (line_rises p version st s line.Dtack)
  answers_rise s x = answer_rise s x
