-- What is known of the whole bus covers it behind a change of a segment of a grant chain, and whoever
-- made it is among those who may have.
use Rattle.std.proofs.Common.{◌≡◌, ◌∙◌, refl, sym, ap, subst, ℕ, zero, suc, Bool, true, false, List, ◌∷◌, ◌<◌, arith}
use Rattle.std.specs.Prelude.{◌==◌, nat_lt, Option, Some}
use Rattle.std.proofs.lemmas.Bool.Decides.{nat_tests}
use Rattle.vme_model.specs.declared.signals.Version.{Version}
use Rattle.vme_model.specs.declared.signals.Wire.{Wire}
use Rattle.vme_model.specs.declared.signals.Wire.TheVariants as wire
use Rattle.vme_model.specs.declared.signals.Edge.{Edge}
use Rattle.vme_model.specs.Plan.{Plan}
use Rattle.vme_model.specs.Accepted.{IsAccepted}
use Rattle.vme_model.specs.Verdict.{IsLegal}
use Rattle.vme_captures.specs.declared.signals.Change.{Change}
use Rattle.vme_captures.specs.declared.signals.Pin.{Pin}
use Rattle.vme_captures.specs.declared.signals.Signal.TheVariants as signal
use Rattle.vme_captures.specs.declared.signals.Value.{Value}
use Rattle.vme_captures.specs.Changes.{seen}
use Rattle.vme_captures.specs.Wires.{wire_of}
use Rattle.vme_standings.specs.declared.moving.Moved.TheVariants as moved
use Rattle.vme_standings.specs.declared.standings.Drivers.{Drivers}
use Rattle.vme_standings.specs.declared.standings.Probed.{Probed}
use Rattle.vme_standings.specs.declared.standings.Standings.{Standings}
use Rattle.vme_standings.specs.Behind.{AddressersBehind, AnswerersBehind, FrontsBehind, GrantFalls, IsBehind, PhasesBehind, RequestsBehind, shown_behind, strobed_behind}
use Rattle.vme_standings.specs.Covers.{Among, Covers}
use Rattle.vme_standings.specs.Driving.{BoardsMake, ControllerMakes, can_rise, is_board_at}
use Rattle.vme_standings.specs.Grants.{is_granted, is_passed}
use Rattle.vme_standings.specs.InPhase.{CoversGrants, IsOfGrant, grant_segment}
use Rattle.vme_standings.specs.Moving.{asked, moved_by}
use Rattle.vme_standings.proofs.GrantRows.{grant_able, grant_covers, pass_able, pass_covers, rise_able, rise_covers, segment_by}
use Rattle.vme_standings.proofs.JoinedSeen.{Step, asked_now, by_board, by_controller, kept_drivers, kept_fronts, kept_requests, kept_shown, kept_strobed, levels_now}
use Rattle.vme_standings.proofs.Tests.{both}

pub self_board : (t : ℕ) → is_board_at (suc t) (suc t) ≡ true
self_board t = both (nat_lt 0 (suc t)) (suc t == suc t) (above t) (self (suc t))
  where
    above : (t : ℕ) → nat_lt 0 (suc t) ≡ true
    above t = grind (arith, nat_tests)

    self : (n : ℕ) → (n == n) ≡ true
    self n = grind (arith, nat_tests)

module _ (probed : Probed) (p : Plan) (ok : IsAccepted p) (pins : List Pin) (h : List Edge) (e : Edge) (v : Change) (legal : IsLegal probed.version p (e ∷ h)) (s : seen p pins h e ≡ Some v)
    (st : Standings) (covers : Covers p pins h st)
    (q : Pin) (c place : ℕ) (few : c < 4) (is : v.signal ≡ signal.Pin q) (at : wire_of p q ≡ grant_segment c place) (m : moved_by p (signal.Pin q) ≡ moved.Grant c place) where
  abbrev version : Version
  version = probed.version

  edge : IsOfGrant e c place
  edge = segment_by version p ok pins h e v legal s q c place few is at

  -- the edge is of a wire of a grant chain
  other : (x : Wire) → (wire.Bg c ≡ x → ⊥) → (wire.BgOut ≡ x → ⊥) → e.wire ≡ x → ⊥
  other x a b same = by_place place edge
    where
      by_place : (t : ℕ) → IsOfGrant e c t → ⊥
      by_place zero o = a (sym o.1 ∙ same)
      by_place (suc t) o = b (sym o.1 ∙ same)

  rest : (f : Bool) (val : Option Value) → v.fall ≡ f → (new : Standings) → IsBehind p probed st (record { signal = signal.Pin q; fall = f; value = val }) new → CoversGrants p (e ∷ h) new.phases
      → Covers p pins (e ∷ h) new
  rest f val fall new b phases = record {
    levels = levels_now probed p ok pins h e v legal s st covers (signal.Pin q) f val is fall new b;
    shown = kept_shown probed p ok pins h e v legal s st covers new.shown (subst (λ y. new.shown ≡ shown_behind y f val st.shown) m b.shown) (other wire.AddressStrobe (λ y. cc) (λ y. cc));
    strobed = kept_strobed probed p ok pins h e v legal s st covers new.strobed (subst (λ y. new.strobed ≡ strobed_behind y f st.strobed) m b.strobed) (other wire.AddressStrobe (λ y. cc) (λ y. cc))
        (λ y. absurd (other wire.DataStrobe (λ z. cc) (λ z. cc) y));
    phases = phases;
    addressers = kept_drivers probed p ok pins h e v legal s st covers wire.AddressStrobe new.addressers st.addressers
        (subst (λ y. AddressersBehind p st y f val new.addressers) m b.addressers) covers.addressers (other wire.AddressStrobe (λ y. cc) (λ y. cc));
    answerers = kept_drivers probed p ok pins h e v legal s st covers wire.Dtack new.answerers st.answerers (subst (λ y. AnswerersBehind p st y f val new.answerers) m b.answerers) covers.answerers
        (other wire.Dtack (λ y. cc) (λ y. cc));
    fronts = kept_fronts probed p ok pins h e v legal s st covers new.fronts (subst (λ y. FrontsBehind p st y f val new.fronts) m b.fronts) (other wire.AddressStrobe (λ y. cc) (λ y. cc))
        (λ y. absurd (other wire.Iack (λ z. cc) (λ z. cc) y)) (λ y. absurd (other wire.IackOut (λ z. cc) (λ z. cc) y));
    requests = kept_requests probed p ok pins h e v legal s st covers new.requests (subst (λ y. RequestsBehind p st y f val new.requests) m b.requests) (other wire.Irq (λ y. cc) (λ y. cc))
        (λ y. absurd (other wire.Dtack (λ z. cc) (λ z. cc) y));
  }

  pub grant_falls : (val : Option Value) → v.fall ≡ true → Step probed p ok pins h e v legal s st covers (signal.Pin q) true val
  grant_falls val fall = record {
    by = λ d a. by_place d (subst (λ y. ControllerMakes p version st y true d.controller) m a.controller) (subst (λ y. BoardsMake p version st y true val d.boards) m a.boards) place refl;
    covers = λ new b. rest true val fall new b (phases new (subst (λ y. PhasesBehind p version st y true val new.phases) m b.phases) place refl);
  }
    where
      by_place : (d : Drivers) → ControllerMakes p version st (moved.Grant c place) true d.controller → BoardsMake p version st (moved.Grant c place) true val d.boards → (t : ℕ) → place ≡ t
          → Among d e.driver
      by_place d head boards zero none =
          let o = subst (IsOfGrant e c) none edge in
          by_controller probed p ok pins h e v legal s st covers d o.0
          (head ∙ both (place == 0) (is_granted p (asked st.lines) c st.phases) (zero_test place none)
          (grant_able version p ok pins h e v legal s q c place few is at st.phases covers.phases fall none (asked st.lines) (asked_now probed p ok pins h e v legal s st covers)))
        where
          zero_test : (a : ℕ) → a ≡ 0 → (a == 0) ≡ true
          zero_test a x = grind (arith, nat_tests)
      by_place d head boards (suc t) own =
          let o = subst (IsOfGrant e c) own edge in
          by_board probed p ok pins h e v legal s st covers d (suc t) o.0
          (boards (suc t) ∙ both (is_passed p version c place st.phases) (is_board_at place (suc t))
          (pass_able version p ok pins h e v legal s q c place few is at st.phases covers.phases fall (above place t own))
          (ap (λ x. is_board_at x (suc t)) own ∙ self_board t))
        where
          above : (a t : ℕ) → a ≡ suc t → 0 < a
          above a t x = omega (arith, x)

      phases : (new : Standings) → GrantFalls p version st c place new.phases → (t : ℕ) → place ≡ t → CoversGrants p (e ∷ h) new.phases
      phases new g zero none =
          grant_covers version p ok pins h e v legal s q c place few is at st.phases covers.phases fall none (asked st.lines) (asked_now probed p ok pins h e v legal s st covers) new.phases
          (g.granted none)
      phases new g (suc t) own =
          let from : 0 < place = omega (arith, own) in
          pass_covers version p ok pins h e v legal s q c place few is at st.phases covers.phases fall from new.phases (g.passed from)

  pub grant_rises : (val : Option Value) → v.fall ≡ false → Step probed p ok pins h e v legal s st covers (signal.Pin q) false val
  grant_rises val fall = record {
    by = λ d a. by_place d (subst (λ y. ControllerMakes p version st y false d.controller) m a.controller) (subst (λ y. BoardsMake p version st y false val d.boards) m a.boards) place refl;
    covers = λ new b. rest false val fall new b (rise_covers version p ok pins h e v legal s q c place few is at st.phases covers.phases fall new.phases
        (subst (λ y. PhasesBehind p version st y false val new.phases) m b.phases));
  }
    where
      able : can_rise p version c place st.phases ≡ true
      able = rise_able version p ok pins h e v legal s q c place few is at st.phases covers.phases fall

      by_place : (d : Drivers) → ControllerMakes p version st (moved.Grant c place) false d.controller → BoardsMake p version st (moved.Grant c place) false val d.boards → (t : ℕ) → place ≡ t
          → Among d e.driver
      by_place d head boards zero none =
          let o = subst (IsOfGrant e c) none edge in
          by_controller probed p ok pins h e v legal s st covers d o.0
          (head ∙ both (place == 0) (can_rise p version c place st.phases) (zero_test place none) able)
        where
          zero_test : (a : ℕ) → a ≡ 0 → (a == 0) ≡ true
          zero_test a x = grind (arith, nat_tests)
      by_place d head boards (suc t) own =
          let o = subst (IsOfGrant e c) own edge in
          by_board probed p ok pins h e v legal s st covers d (suc t) o.0
          (boards (suc t) ∙ both (can_rise p version c place st.phases) (is_board_at place (suc t)) able (ap (λ x. is_board_at x (suc t)) own ∙ self_board t))
