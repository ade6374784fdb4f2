-- The laws of the grants and BBSY*, behind an edge that the probes see.
use Rattle.std.proofs.Common.{◌≡◌, sym, subst, ℕ, Bool, true, false, List, ◌∷◌}
use Rattle.std.specs.Prelude.{Some}
use Rattle.vme_model.specs.declared.sets.BusLevels.{BusLevels}
use Rattle.vme_model.specs.declared.signals.Version.{Version}
use Rattle.vme_model.specs.declared.signals.Driver.TheVariants.{Slot}
use Rattle.vme_model.specs.declared.signals.Wire.{Wire}
use Rattle.vme_model.specs.declared.signals.Wire.TheVariants.{Bbsy}
use Rattle.vme_model.specs.declared.signals.Edge.{Edge}
use Rattle.vme_model.specs.Signals.{is_same_driver}
use Rattle.vme_model.specs.Plan.{Plan, drives}
use Rattle.vme_model.specs.Accepted.{IsAccepted}
use Rattle.vme_model.specs.History.{drive, line, pulls_line}
use Rattle.vme_model.specs.Verdict.{IsLegal}
use Rattle.vme_model.proofs.Bools.{and_right}
use Rattle.vme_model.proofs.Members.{some_row}
use Rattle.vme_model.proofs.Ranges.{IsRowInRange, in_range}
use Rattle.vme_histories.proofs.AllowedBoards.{at}
use Rattle.vme_captures.specs.declared.signals.Change.{Change}
use Rattle.vme_captures.specs.declared.signals.Line.TheVariants as on_line
use Rattle.vme_captures.specs.declared.signals.Pin.{Pin}
use Rattle.vme_captures.specs.declared.signals.Signal.TheVariants as signal
use Rattle.vme_captures.specs.Changes.{seen}
use Rattle.vme_standings.specs.declared.phases.GrantPhases.{GrantPhases}
use Rattle.vme_standings.specs.Grants.{behind_release, behind_take, can_release, is_taken}
use Rattle.vme_standings.specs.Phases.{HasExactly}
use Rattle.vme_standings.specs.Requests.{IsBy}
use Rattle.vme_standings.specs.InPhase.{AreAsked, CoversGrants}
use Rattle.vme_standings.proofs.WhoDrives.{fall_by, fell, rose, silent_on}
use Rattle.vme_standings.proofs.RequestLaws.{InSlot, in_slot, is_by}
use Rattle.vme_standings.proofs.RequestRows.{MovedBy, mover}
use Rattle.vme_standings.proofs.RequestSteps.{same_driver}
use Rattle.vme_standings.proofs.SeenLines.{differs, way}
use Rattle.vme_standings.proofs.FrontSeen.{as_edge}
use Rattle.vme_standings.proofs.GrantEdges.{give_able, give_covers, take_able, take_covers}

module _ (version : Version) (p : Plan) (ok : IsAccepted p) (pins : List Pin) (h : List Edge) (e : Edge) (v : Change) (legal : IsLegal version p (e ∷ h)) (s : seen p pins h e ≡ Some v) where
  legal_as : (x : Edge) → e ≡ x → IsLegal version p (x ∷ h)
  legal_as x same = subst (λ y. IsLegal version p (y ∷ h)) same legal

  covers_as : (x : Edge) (new : GrantPhases) → e ≡ x → CoversGrants p (x ∷ h) new → CoversGrants p (e ∷ h) new
  covers_as x new same = subst (λ y. CoversGrants p (y ∷ h) new) (sym same)

  moved_is : (t : ℕ) (w : Wire) (fall : Bool) → is_same_driver e.driver (Slot t) ≡ true → e.wire ≡ w → e.fall ≡ fall → e ≡ at t w fall e.value
  moved_is t w fall driver wire f = as_edge e (Slot t) w fall (same_driver e.driver t driver) wire f

  module _ (requests : BusLevels) (asked : AreAsked p h requests) (old : GrantPhases) (covers : CoversGrants p h old) (is : v.signal ≡ signal.Line on_line.Bbsy) where
    -- BBSY* falls
    module _ (fall : v.fall ≡ true) where
      abbrev falls : (line p h Bbsy ≡ false) × (line p (e ∷ h) Bbsy ≡ true)
      falls = fell version p ok h e legal Bbsy (differs p ok pins h e v s (signal.Line on_line.Bbsy) is) (way p ok pins h e v s true fall)

      pub taken_by : IsBy e (λ t. is_taken p requests old t ≡ true)
      taken_by =
          fall_by version p ok h e legal Bbsy (λ t. is_taken p requests old t ≡ true) falls.0 falls.1
          (λ t driver wire f. take_able version p ok h t e.value (legal_as (at t Bbsy true e.value) (moved_is t Bbsy true driver wire f)) requests asked old covers)

      pub taken_covers : (new : GrantPhases) → HasExactly new (behind_take p requests old) → CoversGrants p (e ∷ h) new
      taken_covers new exact =
          (fall_by version p ok h e legal Bbsy (λ t. CoversGrants p (e ∷ h) new) falls.0 falls.1
          (λ t driver wire f.
          let same = moved_is t Bbsy true driver wire f in
          covers_as (at t Bbsy true e.value) new same
          (take_covers version p ok h t e.value (legal_as (at t Bbsy true e.value) same) requests asked old covers new exact))).fact

    -- BBSY* rises
    module _ (fall : v.fall ≡ false) where
      abbrev rises : (line p h Bbsy ≡ true) × (line p (e ∷ h) Bbsy ≡ false)
      rises = rose version p ok h e legal Bbsy (differs p ok pins h e v s (signal.Line on_line.Bbsy) is) (way p ok pins h e v s false fall)

      released : MovedBy p e Bbsy false InSlot
      released =
          let f = some_row (pulls_line h Bbsy) (IsRowInRange p) p.rows (in_range p ok).rows rises.0 in
          mover p h e Bbsy false InSlot f.0.slot (and_right (drives Bbsy f.0) (drive h (Slot f.0.slot) Bbsy) f.1)
          (silent_on version p ok (e ∷ h) legal f.0.slot Bbsy rises.1)
          (in_slot p ok f.0.slot f.0 f.2.alone)

      abbrev releaser_is : e ≡ at released.slot Bbsy false e.value
      releaser_is = moved_is released.slot Bbsy false released.driver released.wire released.way

      pub released_by : IsBy e (λ t. can_release p requests old t ≡ true)
      released_by =
          is_by e (λ t. can_release p requests old t ≡ true) released.slot released.fact released.driver
          (give_able version p ok h released.slot e.value (legal_as (at released.slot Bbsy false e.value) releaser_is) requests asked old covers)

      pub released_covers : (new : GrantPhases) → HasExactly new (behind_release p requests old) → CoversGrants p (e ∷ h) new
      released_covers new exact =
          covers_as (at released.slot Bbsy false e.value) new releaser_is
          (give_covers version p ok h released.slot e.value (legal_as (at released.slot Bbsy false e.value) releaser_is) requests asked old covers new exact)
