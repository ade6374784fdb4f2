-- What is known of a bus that it covers: who holds the bus, that nobody does, and who pulls an
-- interrupt line.
use Rattle.std.proofs.Common.{◌≡◌, ◌∙◌, refl, sym, ap, subst, ℕ, Bool, true, false, List, arith}
use Rattle.std.specs.Prelude.{◌==◌, ◌&&◌, ◌||◌}
use Rattle.std.proofs.lemmas.Bool.Decides.{nat_tests}
use Rattle.vme_model.specs.declared.signals.Driver.TheVariants.{Slot}
use Rattle.vme_model.specs.declared.signals.Wire.TheVariants as wire
use Rattle.vme_model.specs.declared.signals.Edge.{Edge}
use Rattle.vme_model.specs.Plan.{Plan}
use Rattle.vme_model.specs.History.{drive}
use Rattle.vme_model.specs.Readings.{is_served}
use Rattle.vme_captures.specs.declared.signals.Pin.{Pin}
use Rattle.vme_standings.specs.declared.phases.GrantPhase.{GrantPhase}
use Rattle.vme_standings.specs.declared.phases.GrantPhase.TheVariants.{Idle, Granting, Held, Expired}
use Rattle.vme_standings.specs.declared.requests.Request.TheVariants.{Pending, Served}
use Rattle.vme_standings.specs.declared.standings.Standings.{Standings}
use Rattle.vme_standings.specs.Covers.{Covers}
use Rattle.vme_standings.specs.InPhase.{InPhase}
use Rattle.vme_standings.specs.Phases.{has_phase, is_held}
use Rattle.vme_standings.specs.Requests.{is_on_level, request_by}
use Rattle.vme_standings.specs.RequestSets.{may_be}
use Rattle.vme_standings.proofs.GrantOthers.{held_from}
use Rattle.vme_standings.proofs.RequestRows.{interrupts_there}
use Rattle.vme_standings.proofs.Tests.{both, never, or_left, or_true}

module _ (p : Plan) (pins : List Pin) (h : List Edge) (st : Standings) (covers : Covers p pins h st) where
  pub holder_told : (s : ℕ) → drive h (Slot s) wire.Bbsy ≡ true → (first : ℕ) × (has_phase st.phases (Held s first) ≡ true)
  holder_told s on =
      let x = held_from p h s on covers.phases.phase covers.phases.is_in in
      (x.0, subst (λ q. has_phase st.phases q ≡ true) x.1 covers.phases.member)

  pub nobody_told : ((s : ℕ) → drive h (Slot s) wire.Bbsy ≡ false) → (q : GrantPhase) × (has_phase st.phases q ≡ true) × (is_held q ≡ false)
  nobody_told free = (covers.phases.phase, covers.phases.member, by_phase covers.phases.phase covers.phases.is_in)
    where
      self : (n : ℕ) → (n == n) ≡ true
      self n = grind (arith, nat_tests)

      by_phase : (q : GrantPhase) → InPhase p h q → is_held q ≡ false
      by_phase (Idle c) i = refl
      by_phase (Granting c last) i = refl
      by_phase (Held b first) i = absurd (never (drive h (Slot b) wire.Bbsy) (i.held b ∙ self b) (free b))
      by_phase (Expired c first) i = refl

  pub puller_told : (n s : ℕ) → is_on_level p n s ≡ true → drive h (Slot s) wire.Irq ≡ true → (is_on_level p n s && (may_be st.requests s Pending || may_be st.requests s Served)) ≡ true
  puller_told n s on low =
      both (is_on_level p n s) (may_be st.requests s Pending || may_be st.requests s Served) on
      (by_served (is_served p h (Slot s)) (sym (ap (λ b. may_be st.requests s (request_by b (is_served p h (Slot s)))) low) ∙ covers.requests s (interrupts_there p n s on)))
    where
      by_served : (b : Bool) → may_be st.requests s (request_by true b) ≡ true → (may_be st.requests s Pending || may_be st.requests s Served) ≡ true
      by_served false x = or_left (may_be st.requests s Pending) (may_be st.requests s Served) x
      by_served true x = or_true (may_be st.requests s Pending) (may_be st.requests s Served) x
