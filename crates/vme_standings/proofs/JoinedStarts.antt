-- What is known of the whole bus covers it behind a fall of AS*, and whoever made it is among those
-- who may have.
use Rattle.std.proofs.Common.{◌≡◌, ◌∙◌, refl, sym, ap, subst, ℕ, zero, suc, Bool, true, false, List, ◌∷◌, ◌<◌, arith}
use Rattle.std.specs.Prelude.{◌==◌, ◌&&◌, ◌||◌, if◌then◌else◌, Option, Some, None, is_some, option_map}
use Rattle.std.specs.Int.{bit_at}
use Rattle.std.specs.Option.{option_map_or}
use Rattle.std.proofs.lemmas.Bool.Decides.{nat_tests}
use Rattle.std.proofs.lemmas.Nat.Bits.{bit_at-lt, bit_at-zero, same_from_bits}
use Rattle.vme_model.specs.declared.sets.ChainId.TheVariants as chain
use Rattle.vme_model.specs.declared.signals.Version.{Version}
use Rattle.vme_model.specs.declared.signals.Cycle.{Cycle}
use Rattle.vme_model.specs.declared.signals.Cycle.TheVariants as cycle
use Rattle.vme_model.specs.declared.signals.Driver.TheVariants.{Slot}
use Rattle.vme_model.specs.declared.signals.Wire.TheVariants as wire
use Rattle.vme_model.specs.declared.signals.Edge.{Edge}
use Rattle.vme_model.specs.Signals.{is_edge_of, is_fall_of, is_same_driver, is_same_wire}
use Rattle.vme_model.specs.Plan.{Plan}
use Rattle.vme_model.specs.Accepted.{IsAccepted}
use Rattle.vme_model.specs.History.{drive, has_strobed, line, shown}
use Rattle.vme_model.specs.Settling.{is_chain_clear}
use Rattle.vme_model.specs.Verdict.{IsLegal}
use Rattle.vme_model.proofs.Bools.{and_left, same_number}
use Rattle.vme_bus.specs.declared.sets.SlotSet.{SlotSet}
use Rattle.vme_bus.specs.Sets.{has}
use Rattle.vme_captures.specs.declared.signals.Change.{Change}
use Rattle.vme_captures.specs.declared.signals.Line.TheVariants as on_line
use Rattle.vme_captures.specs.declared.signals.Pin.{Pin}
use Rattle.vme_captures.specs.declared.signals.Signal.TheVariants as signal
use Rattle.vme_captures.specs.declared.signals.Value.{Value}
use Rattle.vme_captures.specs.declared.signals.Value.TheVariants as value
use Rattle.vme_captures.specs.Changes.{are_values_of, is_same_cycle, seen, value_at}
use Rattle.vme_standings.specs.declared.phases.GrantPhase.TheVariants.{Held}
use Rattle.vme_standings.specs.declared.phases.GrantPhases.{GrantPhases}
use Rattle.vme_standings.specs.declared.standings.Probed.{Probed}
use Rattle.vme_standings.specs.declared.standings.Shown.{Shown}
use Rattle.vme_standings.specs.declared.standings.Standings.{Standings}
use Rattle.vme_standings.specs.Behind.{shown_of}
use Rattle.vme_standings.specs.Covers.{Covers, KnowsShown, KnowsStrobed, is_probed, is_segment_low, says}
use Rattle.vme_standings.specs.Cycles.{may_show_at}
use Rattle.vme_standings.specs.Driving.{AreStarters, is_no_slot, may_show_value}
use Rattle.vme_standings.specs.InPhase.{CoversGrants}
use Rattle.vme_standings.specs.Phases.{HasExactly, has_phase, is_held_by}
use Rattle.vme_standings.specs.Requests.{IsBy}
use Rattle.vme_standings.proofs.FrontSeen.{strobe_clear, strobe_falls}
use Rattle.vme_standings.proofs.FrontSteps.{board_high, head_high}
use Rattle.vme_standings.proofs.GrantOthers.{strobed_by, strobed_covers}
use Rattle.vme_standings.proofs.JoinedAnswers.{seen_value}
use Rattle.vme_standings.proofs.JoinedSeen.{Step, by_board, kept_drivers, kept_requests, levels_now}
use Rattle.vme_standings.proofs.JoinedSegments.{probed_works}
use Rattle.vme_standings.proofs.JoinedShows.{Shows, shows_at}
use Rattle.vme_standings.proofs.RequestRows.{passed_as}
use Rattle.vme_standings.proofs.SeenLines.{differs, way}
use Rattle.vme_standings.proofs.Tests.{never}
use Rattle.vme_standings.proofs.WhoDrives.{fall_by, fall_leaves, fell, silent_on}

-- a set without a slot
pub none_in : (set : SlotSet) → ((t : ℕ) → has set t ≡ false) → is_no_slot set ≡ true
none_in set off = zero_test set.bits (same_from_bits set.bits 0 (λ i. no_bit (bit_at set.bits i) (bit_at-lt set.bits i) (off i) ∙ sym (bit_at-zero i)))
  where
    zero_test : (a : ℕ) → a ≡ 0 → (a == 0) ≡ true
    zero_test a x = grind (arith, nat_tests)

    no_bit : (a : ℕ) → a < 2 → (a == 1) ≡ false → a ≡ 0
    no_bit a l x = grind (arith, nat_tests)

same_cycle : (a b : Cycle) → is_same_cycle a b ≡ true → a ≡ b
same_cycle (cycle.Acknowledge m) (cycle.Acknowledge n) e = ap (λ x. cycle.Acknowledge x) (same_number m n e)
same_cycle (cycle.Access m) (cycle.Access n) e = ap (λ x. cycle.Access x) (same_number m n e)
same_cycle (cycle.Acknowledge m) (cycle.Access n) e = absurd (cc)
same_cycle (cycle.Access m) (cycle.Acknowledge n) e = absurd (cc)

-- what was captured of a cycle
says_of : (val : Option Value) (c : Cycle) → are_values_of val (Some (value.Shown c)) ≡ true → option_map_or (says c) (shown_of val) false ≡ true
says_of (Some (value.Shown (cycle.Acknowledge m))) (cycle.Acknowledge n) e = e
says_of (Some (value.Shown (cycle.Access m))) (cycle.Access n) e = e
says_of (Some value.Access) (cycle.Access n) e = refl
says_of (Some value.Access) (cycle.Acknowledge n) e = absurd (cc)
says_of (Some (value.Shown (cycle.Acknowledge m))) (cycle.Access n) e = absurd (cc)
says_of (Some (value.Shown (cycle.Access m))) (cycle.Acknowledge n) e = absurd (cc)
says_of (Some (value.Status b)) c e = absurd (cc)
says_of None c e = absurd (cc)

some_said : (c : Cycle) (k : Option Shown) → option_map_or (says c) k false ≡ true → is_some k ≡ true
some_said c None e = absurd (cc)
some_said c (Some k) e = refl

may_of : (p : Plan) (val : Option Value) (c : Cycle) (t : ℕ) → are_values_of val (Some (value.Shown c)) ≡ true → may_show_at c p t ≡ true → may_show_value p val t ≡ true
may_of p (Some (value.Shown u)) c t e may = ap (λ x. may_show_at x p t) (same_cycle u c e) ∙ may
may_of p (Some value.Access) c t e may = refl
may_of p (Some (value.Status b)) c t e may = absurd (cc)
may_of p None c t e may = absurd (cc)

module _ (probed : Probed) (p : Plan) (ok : IsAccepted p) (pins : List Pin) (h : List Edge) (e : Edge) (v : Change) (legal : IsLegal probed.version p (e ∷ h)) (s : seen p pins h e ≡ Some v)
    (st : Standings) (covers : Covers p pins h st)
    (is : v.signal ≡ signal.Line on_line.AddressStrobe) (fall : v.fall ≡ true) (val : Option Value) (agree : are_values_of val v.value ≡ true) where
  abbrev version : Version
  version = probed.version

  levels : (line p h wire.AddressStrobe ≡ false) × (line p (e ∷ h) wire.AddressStrobe ≡ true)
  levels = fell version p ok h e legal wire.AddressStrobe (differs p ok pins h e v s (signal.Line on_line.AddressStrobe) is) (way p ok pins h e v s true fall)

  -- who begins a cycle drives its address
  record Begins (t : ℕ) : Type 0 where
    moves : is_same_driver e.driver (Slot t) ≡ true
    of : e.wire ≡ wire.AddressStrobe
    falls : e.fall ≡ true
    address : drive h (Slot t) wire.Addr ≡ true

  begins : IsBy e Begins
  begins =
      fall_by version p ok h e legal wire.AddressStrobe Begins levels.0 levels.1
      (λ t driver w f. record {
        moves = driver;
        of = w;
        falls = f;
        address = and_left (drive h (Slot t) wire.Addr) _ (passed_as version p h e t wire.AddressStrobe true legal driver w f).rule;
      })

  abbrev who : ℕ
  who = begins.slot

  shows : Shows p h who
  shows = shows_at version p ok h legal.1 who begins.fact.address

  agrees_it : are_values_of val (Some (value.Shown shows.cycle)) ≡ true
  agrees_it =
      subst (λ o. are_values_of val o ≡ true)
      (seen_value p pins h e v s
      ∙ ap (λ w. value_at p h e w e.fall) begins.fact.of
      ∙ ap (λ f. value_at p h e wire.AddressStrobe f) begins.fact.falls
      ∙ ap (λ o. option_map (λ (c : Cycle). value.Shown c) o) shows.shows)
      agree

  one_of : (t : ℕ) → e.driver ≡ Slot t → who ≡ t
  one_of t x = same who t (sym begins.driver ∙ x)
    where
      same : (a b : ℕ) → Slot a ≡ Slot b → a ≡ b
      same a b y = cc

  -- no probed segment of the acknowledge chain is low
  clear : is_chain_clear p h chain.Iack ≡ true
  clear = strobe_clear version p ok pins h e v legal s is fall

  high : (t : ℕ) → has st.low.acknowledge t ≡ false
  high t = covers.levels.probed chain.Iack t ∙ by_place t (is_probed p pins chain.Iack t) refl
    where
      by_place : (t : ℕ) (b : Bool) → is_probed p pins chain.Iack t ≡ b → (b && is_segment_low h chain.Iack t) ≡ false
      by_place t false x = refl
      by_place zero true x = head_high p ok h clear
      by_place (suc t) true x = board_high p ok h clear (suc t) (probed_works p ok pins chain.Iack t x)

  none_low : is_no_slot st.low.acknowledge ≡ true
  none_low = none_in st.low.acknowledge high

  holds : IsBy e (λ b. (first : ℕ) × (has_phase st.phases (Held b first) ≡ true))
  holds = strobed_by version p ok pins h e v legal s st.phases covers.phases is fall

  held : (boards : SlotSet) → AreStarters p st val boards → has boards who ≡ true
  held boards them =
      let at_it = subst (λ b. (first : ℕ) × (has_phase st.phases (Held b first) ≡ true)) (sym (one_of holds.slot holds.driver)) holds.fact in
      them.all who at_it.0 none_low (may_of p val shows.cycle who agrees_it shows.able) begins.near at_it.1

  among : (boards : SlotSet) → AreStarters p st val boards → (t : ℕ) → e.driver ≡ Slot t → has boards t ≡ true
  among boards them t driver = subst (λ u. has boards u ≡ true) (one_of t driver) (held boards them)

  shown_stays : shown p (e ∷ h) ≡ shown p h
  shown_stays = subst (λ w. shown p (record { driver = e.driver; wire = w; fall = e.fall; value = e.value } ∷ h) ≡ shown p h) (sym begins.fact.of) refl

  said : option_map_or (says shows.cycle) (shown_of val) false ≡ true
  said = says_of val shows.cycle agrees_it

  knows : KnowsShown p (e ∷ h) (shown_of val)
  knows = record {
    high = λ off. absurd (never (line p (e ∷ h) wire.AddressStrobe) levels.1 off);
    low = λ on. some_said shows.cycle (shown_of val) said;
    shown = λ c on x. subst (λ y. option_map_or (says y) (shown_of val) false ≡ true) (same shows.cycle c (sym shows.shows ∙ sym shown_stays ∙ x)) said;
  }
    where
      same : (a b : Cycle) → Some a ≡ Some b → a ≡ b
      same a b x = cc

  not_strobed : KnowsStrobed (e ∷ h) false
  not_strobed t low = by_driver (is_same_driver e.driver (Slot t)) refl
    where
      by_driver : (b : Bool) → is_same_driver e.driver (Slot t) ≡ b → false ≡ has_strobed (e ∷ h) (Slot t)
      by_driver true same =
          sym (ap (λ b. if b then false else (is_fall_of (Slot t) wire.DataStrobe e || has_strobed h (Slot t)))
          (ap (λ f. f && is_edge_of (Slot t) wire.AddressStrobe e) begins.fact.falls
          ∙ ap (λ w. is_same_wire w wire.AddressStrobe && is_same_driver e.driver (Slot t)) begins.fact.of ∙ same))
      by_driver false other =
          absurd (never (drive (e ∷ h) (Slot t) wire.AddressStrobe) low
          (ap (λ b. if b then e.fall else drive h (Slot t) wire.AddressStrobe)
          (ap (λ w. is_same_wire w wire.AddressStrobe && is_same_driver e.driver (Slot t)) begins.fact.of ∙ other)
          ∙ silent_on version p ok h legal.1 t wire.AddressStrobe levels.0))

  phases_now : (new : GrantPhases) → (boards : SlotSet) × AreStarters p st val boards × HasExactly new (λ q. is_held_by (has boards) q && has_phase st.phases q) → CoversGrants p (e ∷ h) new
  phases_now new (boards, them, exact) = strobed_covers version p ok pins h e v legal s st.phases covers.phases is fall boards (among boards them) new exact

  pub strobe_goes_down : Step probed p ok pins h e v legal s st covers (signal.Line on_line.AddressStrobe) true val
  strobe_goes_down = record {
    by = λ d a. by_board probed p ok pins h e v legal s st covers d who begins.driver (held d.boards a.boards);
    covers = λ new b.
        let w = begins.fact.of in
        record {
          levels = levels_now probed p ok pins h e v legal s st covers (signal.Line on_line.AddressStrobe) true val is fall new b;
          shown = subst (KnowsShown p (e ∷ h)) (sym b.shown) knows;
          strobed = subst (KnowsStrobed (e ∷ h)) (sym b.strobed) not_strobed;
          phases = phases_now new.phases b.phases;
          addressers = fall_leaves version p ok h e legal wire.AddressStrobe new.addressers levels.0 (among new.addressers b.addressers);
          answerers = kept_drivers probed p ok pins h e v legal s st covers wire.Dtack new.answerers st.answerers b.answerers covers.answerers (λ y. absurd (cc (w, y)));
          fronts = strobe_falls version p ok pins h e v legal s new.fronts is fall b.fronts;
          requests = kept_requests probed p ok pins h e v legal s st covers new.requests b.requests (λ y. absurd (cc (w, y))) (λ y. absurd (cc (w, y)));
        };
  }
