-- Who drives a line that one board drives at a time, AS* or DTACK*, by what the probes see of it.
use Rattle.std.proofs.Common.{◌≡◌, ◌≢◌, ◌∙◌, refl, sym, ap, subst, ℕ, Bool, true, false, List, ◌∷◌, arith}
use Rattle.std.specs.Prelude.{◌==◌, ◌&&◌, not, if◌then◌else◌, Option, Some, None}
use Rattle.std.specs.Option.{option_map_or}
use Rattle.vme_model.specs.declared.boards.Row.{Row}
use Rattle.vme_model.specs.declared.signals.Version.{Version}
use Rattle.vme_model.specs.declared.signals.Driver.{Driver}
use Rattle.vme_model.specs.declared.signals.Driver.TheVariants.{Slot}
use Rattle.vme_model.specs.declared.signals.Wire.{Wire}
use Rattle.vme_model.specs.declared.signals.Wire.TheVariants.{AddressStrobe, Dtack}
use Rattle.vme_model.specs.declared.signals.Edge.{Edge}
use Rattle.vme_model.specs.Signals.{is_same_driver, is_same_wire, is_edge_of}
use Rattle.vme_model.specs.Plan.{Plan, board, board_of, drives, has_driver}
use Rattle.vme_model.specs.Accepted.{IsAccepted}
use Rattle.vme_model.specs.History.{drive, line, pulls_line}
use Rattle.vme_model.specs.Verdict.{IsLegal}
use Rattle.vme_model.proofs.Bools.{and_left, and_right, is_false, not_true}
use Rattle.vme_model.proofs.Members.{found_row, some_row}
use Rattle.vme_model.proofs.Ranges.{IsRowInRange, in_range}
use Rattle.vme_histories.proofs.AllowedBoards.{at}
use Rattle.vme_histories.proofs.Drivers.{never_drove}
use Rattle.vme_bus.specs.declared.sets.SlotSet.{SlotSet}
use Rattle.vme_bus.specs.Sets.{has}
use Rattle.vme_captures.specs.declared.signals.Line.{Line}
use Rattle.vme_captures.specs.declared.signals.Line.TheVariants as on_line
use Rattle.vme_captures.specs.declared.signals.Pin.{Pin}
use Rattle.vme_captures.specs.Changes.{line_of, seen}
use Rattle.vme_standings.specs.Cycles.{CoversDrivers}
use Rattle.vme_standings.specs.Requests.{IsBy}
use Rattle.vme_standings.proofs.Tests.{both, never}
use Rattle.vme_standings.proofs.RequestSteps.{answers_alone, same_driver}
use Rattle.vme_standings.proofs.RequestRows.{MovedBy, mover, passed_as}
use Rattle.vme_standings.proofs.RequestLaws.{InSlot, in_slot, is_by}
use Rattle.vme_standings.proofs.SeenLines.{line_stays}

-- a low wire of a board shows on its line
shows : (p : Plan) → IsAccepted p → (g : List Edge) (s : ℕ) (w : Wire) (r : Row) → board p s ≡ Some r → drives w r ≡ true → drive g (Slot s) w ≡ true → line p g w ≡ true
shows p ok g s w r found on low =
    let f = found_row (IsRowInRange p) p.rows s r (in_range p ok).rows found in
    f.passes (pulls_line g w) (both (drives w r) (drive g (Slot r.slot) w) on (subst (λ x. drive g (Slot x) w ≡ true) (sym f.slot) low))

-- after a legal list a low wire is one of a board that has it
pub line_shows : (version : Version) (p : Plan) → IsAccepted p → (g : List Edge) → IsLegal version p g → (s : ℕ) (w : Wire) → drive g (Slot s) w ≡ true → line p g w ≡ true
line_shows version p ok g legal s w low = by_driver (has_driver p (Slot s) w) refl
  where
    by_board : (o : Option Row) → board p s ≡ o → option_map_or (drives w) o false ≡ true → line p g w ≡ true
    by_board None found on = absurd (never false on refl)
    by_board (Some r) found on = shows p ok g s w r found on low

    by_driver : (b : Bool) → has_driver p (Slot s) w ≡ b → line p g w ≡ true
    by_driver false lacks = absurd (never (drive g (Slot s) w) low (never_drove version p g (Slot s) w legal lacks))
    by_driver true on = by_board (board p s) refl on

pub silent_on : (version : Version) (p : Plan) → IsAccepted p → (g : List Edge) → IsLegal version p g → (s : ℕ) (w : Wire) → line p g w ≡ false → drive g (Slot s) w ≡ false
silent_on version p ok g legal s w high = is_false (drive g (Slot s) w) (λ low. never (line p g w) (line_shows version p ok g legal s w low) high)

-- a board that moved a wire
turned : (h : List Edge) (e : Edge) (s : ℕ) (w : Wire) (b way before behind : Bool) → (if b then way else before) ≡ behind → before ≡ not behind → (b ≡ true) × (way ≡ behind)
turned h e s w true way before behind is was = (refl, is)
turned h e s w false way before true is was = absurd (never before is was)
turned h e s w false way before false is was = absurd (never before was is)

module _ (version : Version) (p : Plan) (ok : IsAccepted p) (h : List Edge) (e : Edge) (legal : IsLegal version p (e ∷ h)) (w : Wire) where
  -- a board whose wire fell made the edge
  fell_by : (s : ℕ) → drive h (Slot s) w ≡ false → drive (e ∷ h) (Slot s) w ≡ true → (is_edge_of (Slot s) w e ≡ true) × (e.fall ≡ true)
  fell_by s before behind = turned h e s w (is_edge_of (Slot s) w e) e.fall (drive h (Slot s) w) true behind before

  driver_of : (s : ℕ) → is_edge_of (Slot s) w e ≡ true → is_same_driver e.driver (Slot s) ≡ true
  driver_of s is = and_right (is_same_wire e.wire w) (is_same_driver e.driver (Slot s)) is

  -- behind the fall of the line whoever made it is the only driver, and behind its rise there is none
  pub fall_leaves : (new : SlotSet) → line p h w ≡ false → ((s : ℕ) → e.driver ≡ Slot s → has new s ≡ true) → CoversDrivers (e ∷ h) w new
  fall_leaves new high among s low =
      among s (same_driver e.driver s (driver_of s (fell_by s (silent_on version p ok h legal.1 s w high) low).0))

  pub rise_leaves : (new : SlotSet) → line p (e ∷ h) w ≡ false → CoversDrivers (e ∷ h) w new
  rise_leaves new high s low = absurd (never (line p (e ∷ h) w) (line_shows version p ok (e ∷ h) legal s w low) high)

  -- whoever lets the line rise drove it
  pub rise_by : (old : SlotSet) → line p h w ≡ true → line p (e ∷ h) w ≡ false → CoversDrivers h w old → IsBy e (λ s. has old s ≡ true)
  rise_by old low high covers =
      let f = some_row (pulls_line h w) (IsRowInRange p) p.rows (in_range p ok).rows low in
      let was : drive h (Slot f.0.slot) w ≡ true = and_right (drives w f.0) (drive h (Slot f.0.slot) w) f.1 in
      let t = turned h e f.0.slot w (is_edge_of (Slot f.0.slot) w e) e.fall (drive h (Slot f.0.slot) w) false (silent_on version p ok (e ∷ h) legal f.0.slot w high) was in
      is_by e (λ s. has old s ≡ true) f.0.slot (in_slot p ok f.0.slot f.0 f.2.alone) (driver_of f.0.slot t.0) (covers f.0.slot was)

  -- an edge that leaves the line leaves the drivers covered, if nobody pulls it while it is low
  pub stay_leaves : (old : SlotSet) → line p (e ∷ h) w ≡ line p h w → ((s : ℕ) → is_edge_of (Slot s) w e ≡ true → e.fall ≡ true → line p h w ≡ false) → CoversDrivers h w old → CoversDrivers (e ∷ h) w old
  stay_leaves old stays alone covers s low = by_level (drive h (Slot s) w) refl
    where
      by_level : (b : Bool) → drive h (Slot s) w ≡ b → has old s ≡ true
      by_level true was = covers s was
      by_level false was =
          let t = fell_by s was low in
          absurd (never (line p h w) (sym stays ∙ line_shows version p ok (e ∷ h) legal s w low) (alone s t.0 t.1))

-- an edge that no probe sees
edge_wire : (e : Edge) (s : ℕ) (w : Wire) → is_edge_of (Slot s) w e ≡ true → is_same_wire e.wire w ≡ true
edge_wire e s w is = and_left (is_same_wire e.wire w) (is_same_driver e.driver (Slot s)) is
