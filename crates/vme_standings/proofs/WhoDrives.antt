-- Who drives a line that one board drives at a time, AS* or DTACK*, by what the probes see of it.
use Rattle.std.proofs.Common.{◌≡◌, ◌∙◌, refl, sym, ap, subst, ℕ, Bool, true, false, List, [], ◌∷◌}
use Rattle.std.specs.Prelude.{not, if◌then◌else◌, Option, Some, None}
use Rattle.std.specs.Option.{option_map_or}
use Rattle.vme_model.specs.declared.boards.Row.{Row}
use Rattle.vme_model.specs.declared.signals.Version.{Version}
use Rattle.vme_model.specs.declared.signals.Driver.TheVariants.{Controller, Slot}
use Rattle.vme_model.specs.declared.signals.Wire.{Wire}
use Rattle.vme_model.specs.declared.signals.Wire.TheVariants.{Berr, Bbsy, Addr, AddressStrobe, DataStrobe, Dtack}
use Rattle.vme_model.specs.declared.signals.Edge.{Edge}
use Rattle.vme_model.specs.Signals.{is_same_driver, is_same_wire, is_edge_of}
use Rattle.vme_model.specs.Plan.{Plan, board, board_of, drives, has_driver}
use Rattle.vme_model.specs.Accepted.{IsAccepted}
use Rattle.vme_model.specs.History.{drive, has_strobed, line, pulls_line}
use Rattle.vme_model.specs.CycleSafety.{KeepsItsAddress}
use Rattle.vme_model.specs.Safe.{OnEachPrefix}
use Rattle.vme_model.specs.Verdict.{IsLegal}
use Rattle.vme_model.proofs.Bools.{and_left, and_right, is_false, is_true, not_true}
use Rattle.vme_model.proofs.Members.{found_row, some_row}
use Rattle.vme_model.proofs.Ranges.{IsRowInRange, in_range}
use Rattle.vme_model.proofs.Safety.{legal_is_orderly}
use Rattle.vme_histories.proofs.AllowedBoards.{at}
use Rattle.vme_histories.proofs.Others.{same_wire}
use Rattle.vme_histories.proofs.Drivers.{never_drove}
use Rattle.vme_bus.specs.declared.sets.SlotSet.{SlotSet}
use Rattle.vme_bus.specs.Sets.{has}
use Rattle.vme_captures.specs.declared.signals.Line.TheVariants as on_line
use Rattle.vme_captures.specs.declared.signals.Pin.{Pin}
use Rattle.vme_captures.specs.Changes.{differ, line_of, seen}
use Rattle.vme_standings.specs.Cycles.{CoversDrivers}
use Rattle.vme_standings.specs.Requests.{IsBy}
use Rattle.vme_standings.proofs.Tests.{both, never}
use Rattle.vme_standings.proofs.RequestSteps.{answers_alone, same_driver}
use Rattle.vme_standings.proofs.RequestRows.{passed_as}
use Rattle.vme_standings.proofs.RequestLaws.{in_slot, is_by}
use Rattle.vme_standings.proofs.SeenLines.{line_stays}

-- a low wire of a board shows on its line
shows : (p : Plan) → IsAccepted p → (g : List Edge) (s : ℕ) (w : Wire) (r : Row) → board p s ≡ Some r → drives w r ≡ true → drive g (Slot s) w ≡ true → line p g w ≡ true
shows p ok g s w r found on low =
    let f = found_row (IsRowInRange p) p.rows s r (in_range p ok).rows found in
    f.passes (pulls_line g w) (both (drives w r) (drive g (Slot r.slot) w) on (subst (λ x. drive g (Slot x) w ≡ true) (sym f.slot) low))

-- after a legal list a low wire is one of a board that has it
pub line_shows : (version : Version) (p : Plan) → IsAccepted p → (g : List Edge) → IsLegal version p g → (s : ℕ) (w : Wire) → drive g (Slot s) w ≡ true → line p g w ≡ true
line_shows version p ok g legal s w low = by_driver (has_driver p (Slot s) w) refl
  where
    by_board : (o : Option Row) → board p s ≡ o → option_map_or (drives w) o false ≡ true → line p g w ≡ true
    by_board None found on = absurd (never false on refl)
    by_board (Some r) found on = shows p ok g s w r found on low

    by_driver : (b : Bool) → has_driver p (Slot s) w ≡ b → line p g w ≡ true
    by_driver false lacks = absurd (never (drive g (Slot s) w) low (never_drove version p g (Slot s) w legal lacks))
    by_driver true on = by_board (board p s) refl on

pub silent_on : (version : Version) (p : Plan) → IsAccepted p → (g : List Edge) → IsLegal version p g → (s : ℕ) (w : Wire) → line p g w ≡ false → drive g (Slot s) w ≡ false
silent_on version p ok g legal s w high = is_false (drive g (Slot s) w) (λ low. never (line p g w) (line_shows version p ok g legal s w low) high)

-- a board that moved a wire
turned : (h : List Edge) (e : Edge) (s : ℕ) (w : Wire) (b way before behind : Bool) → (if b then way else before) ≡ behind → before ≡ not behind → (b ≡ true) × (way ≡ behind)
turned h e s w true way before behind is was = (refl, is)
turned h e s w false way before true is was = absurd (never before is was)
turned h e s w false way before false is was = absurd (never before was is)

module _ (version : Version) (p : Plan) (ok : IsAccepted p) (h : List Edge) (e : Edge) (legal : IsLegal version p (e ∷ h)) (w : Wire) where
  -- a board whose wire fell made the edge
  fell_by : (s : ℕ) → drive h (Slot s) w ≡ false → drive (e ∷ h) (Slot s) w ≡ true → (is_edge_of (Slot s) w e ≡ true) × (e.fall ≡ true)
  fell_by s before behind = turned h e s w (is_edge_of (Slot s) w e) e.fall (drive h (Slot s) w) true behind before

  driver_of : (s : ℕ) → is_edge_of (Slot s) w e ≡ true → is_same_driver e.driver (Slot s) ≡ true
  driver_of s is = and_right (is_same_wire e.wire w) (is_same_driver e.driver (Slot s)) is

  -- behind the fall of the line whoever made it is the only driver, and behind its rise there is none
  pub fall_leaves : (new : SlotSet) → line p h w ≡ false → ((s : ℕ) → e.driver ≡ Slot s → has new s ≡ true) → CoversDrivers (e ∷ h) w new
  fall_leaves new high among s low =
      among s (same_driver e.driver s (driver_of s (fell_by s (silent_on version p ok h legal.1 s w high) low).0))

  pub rise_leaves : (new : SlotSet) → line p (e ∷ h) w ≡ false → CoversDrivers (e ∷ h) w new
  rise_leaves new high s low = absurd (never (line p (e ∷ h) w) (line_shows version p ok (e ∷ h) legal s w low) high)

  -- whoever lets the line rise drove it
  pub rise_by : (old : SlotSet) → line p h w ≡ true → line p (e ∷ h) w ≡ false → CoversDrivers h w old → IsBy e (λ s. has old s ≡ true)
  rise_by old low high covers =
      let f = some_row (pulls_line h w) (IsRowInRange p) p.rows (in_range p ok).rows low in
      let was : drive h (Slot f.0.slot) w ≡ true = and_right (drives w f.0) (drive h (Slot f.0.slot) w) f.1 in
      let t = turned h e f.0.slot w (is_edge_of (Slot f.0.slot) w e) e.fall (drive h (Slot f.0.slot) w) false (silent_on version p ok (e ∷ h) legal f.0.slot w high) was in
      is_by e (λ s. has old s ≡ true) f.0.slot (in_slot p ok f.0.slot f.0 f.2.alone) (driver_of f.0.slot t.0) (covers f.0.slot was)

  -- an edge that leaves the line leaves the drivers covered, if nobody pulls it while it is low
  pub stay_leaves : (old : SlotSet) → ((s : ℕ) → is_edge_of (Slot s) w e ≡ true → line p (e ∷ h) w ≡ line p h w) → ((s : ℕ) → is_edge_of (Slot s) w e ≡ true → e.fall ≡ true → line p h w ≡ false)
      → CoversDrivers h w old → CoversDrivers (e ∷ h) w old
  stay_leaves old stays alone covers s low = by_level (drive h (Slot s) w) refl
    where
      by_level : (b : Bool) → drive h (Slot s) w ≡ b → has old s ≡ true
      by_level true was = covers s was
      by_level false was =
          let t = fell_by s was low in
          absurd (never (line p h w) (sym (stays s t.0) ∙ line_shows version p ok (e ∷ h) legal s w low) (alone s t.0 t.1))

  -- whoever let the line rise let its wire rise
  rose_way : line p h w ≡ true → line p (e ∷ h) w ≡ false → e.fall ≡ false
  rose_way low high =
      let f = some_row (pulls_line h w) (IsRowInRange p) p.rows (in_range p ok).rows low in
      let was : drive h (Slot f.0.slot) w ≡ true = and_right (drives w f.0) (drive h (Slot f.0.slot) w) f.1 in
      (turned h e f.0.slot w (is_edge_of (Slot f.0.slot) w e) e.fall (drive h (Slot f.0.slot) w) false (silent_on version p ok (e ∷ h) legal f.0.slot w high) was).1

  fell_way : line p h w ≡ false → line p (e ∷ h) w ≡ true → e.fall ≡ true
  fell_way high low =
      let f = some_row (pulls_line (e ∷ h) w) (IsRowInRange p) p.rows (in_range p ok).rows low in
      let is : drive (e ∷ h) (Slot f.0.slot) w ≡ true = and_right (drives w f.0) (drive (e ∷ h) (Slot f.0.slot) w) f.1 in
      (fell_by f.0.slot (silent_on version p ok h legal.1 f.0.slot w high) is).1

  -- a line at another level behind an edge moved in its direction
  pub fell : differ (line p h w) (line p (e ∷ h) w) ≡ true → e.fall ≡ true → (line p h w ≡ false) × (line p (e ∷ h) w ≡ true)
  fell d way = by_levels (line p h w) (line p (e ∷ h) w) refl refl d
    where
      by_levels : (a b : Bool) → line p h w ≡ a → line p (e ∷ h) w ≡ b → differ a b ≡ true → (line p h w ≡ false) × (line p (e ∷ h) w ≡ true)
      by_levels false true before behind x = (before, behind)
      by_levels true false before behind x = absurd (never e.fall way (rose_way before behind))
      by_levels true true before behind x = absurd (never false x refl)
      by_levels false false before behind x = absurd (never false x refl)

  pub rose : differ (line p h w) (line p (e ∷ h) w) ≡ true → e.fall ≡ false → (line p h w ≡ true) × (line p (e ∷ h) w ≡ false)
  rose d way = by_levels (line p h w) (line p (e ∷ h) w) refl refl d
    where
      by_levels : (a b : Bool) → line p h w ≡ a → line p (e ∷ h) w ≡ b → differ a b ≡ true → (line p h w ≡ true) × (line p (e ∷ h) w ≡ false)
      by_levels true false before behind x = (before, behind)
      by_levels false true before behind x = absurd (never e.fall (fell_way before behind) way)
      by_levels true true before behind x = absurd (never false x refl)
      by_levels false false before behind x = absurd (never false x refl)

  -- who let the line fall, and what holds of it
  pub fall_by : (P : ℕ → Type 0) → line p h w ≡ false → line p (e ∷ h) w ≡ true → ((s : ℕ) → is_same_driver e.driver (Slot s) ≡ true → e.wire ≡ w → e.fall ≡ true → P s) → IsBy e P
  fall_by P high low fact =
      let f = some_row (pulls_line (e ∷ h) w) (IsRowInRange p) p.rows (in_range p ok).rows low in
      let is : drive (e ∷ h) (Slot f.0.slot) w ≡ true = and_right (drives w f.0) (drive (e ∷ h) (Slot f.0.slot) w) f.1 in
      let t = fell_by f.0.slot (silent_on version p ok h legal.1 f.0.slot w high) is in
      is_by e P f.0.slot (in_slot p ok f.0.slot f.0 f.2.alone) (driver_of f.0.slot t.0)
      (fact f.0.slot (driver_of f.0.slot t.0) (same_wire e.wire w (and_left (is_same_wire e.wire w) (is_same_driver e.driver (Slot f.0.slot)) t.0)) t.1)

-- the wire and the board of an edge
edge_wire : (e : Edge) (s : ℕ) (w : Wire) → is_edge_of (Slot s) w e ≡ true → e.wire ≡ w
edge_wire e s w is = same_wire e.wire w (and_left (is_same_wire e.wire w) (is_same_driver e.driver (Slot s)) is)

edge_driver : (e : Edge) (s : ℕ) (w : Wire) → is_edge_of (Slot s) w e ≡ true → is_same_driver e.driver (Slot s) ≡ true
edge_driver e s w is = and_right (is_same_wire e.wire w) (is_same_driver e.driver (Slot s)) is

legal_as : (version : Version) (p : Plan) (h : List Edge) (e : Edge) (s : ℕ) (w : Wire) → IsLegal version p (e ∷ h) → e.driver ≡ Slot s → e.wire ≡ w → e.fall ≡ true
    → IsLegal version p (at s w true e.value ∷ h)
legal_as version p h e s w legal driver wire way =
    subst (λ f. IsLegal version p (record { driver = Slot s; wire = w; fall = f; value = e.value } ∷ h)) way
    (subst (λ x. IsLegal version p (record { driver = Slot s; wire = x; fall = e.fall; value = e.value } ∷ h)) wire
    (subst (λ d. IsLegal version p (record { driver = d; wire = e.wire; fall = e.fall; value = e.value } ∷ h)) driver legal))

module _ (version : Version) (p : Plan) (ok : IsAccepted p) (pins : List Pin) (h : List Edge) (e : Edge) (legal : IsLegal version p (e ∷ h)) where
  -- behind an edge that no probe sees
  pub unseen_answerers : (old : SlotSet) → seen p pins h e ≡ None → CoversDrivers h Dtack old → CoversDrivers (e ∷ h) Dtack old
  unseen_answerers old none covers =
      stay_leaves version p ok h e legal Dtack old
      (λ s is. line_stays p pins h e on_line.Dtack (ap (λ x. line_of x (board_of p e.driver)) (edge_wire e s Dtack is)) none)
      (λ s is way. answers_alone version p ok h s e.value (legal_as version p h e s Dtack legal (same_driver e.driver s (edge_driver e s Dtack is)) (edge_wire e s Dtack is) way))
      covers

  -- AS* falls from high
  high_before : (s : ℕ) → is_same_driver e.driver (Slot s) ≡ true → e.wire ≡ AddressStrobe → e.fall ≡ true → line p h AddressStrobe ≡ false
  high_before s driver wire way =
      not_true (line p h AddressStrobe)
      (and_right (drive h (Slot s) Addr) (not (line p h AddressStrobe)) (passed_as version p h e s AddressStrobe true legal driver wire way).rule)

  pub unseen_addressers : (old : SlotSet) → seen p pins h e ≡ None → CoversDrivers h AddressStrobe old → CoversDrivers (e ∷ h) AddressStrobe old
  unseen_addressers old none covers =
      stay_leaves version p ok h e legal AddressStrobe old
      (λ s is. line_stays p pins h e on_line.AddressStrobe (ap (λ x. line_of x (board_of p e.driver)) (edge_wire e s AddressStrobe is)) none)
      (λ s is way. high_before s (edge_driver e s AddressStrobe is) (edge_wire e s AddressStrobe is) way)
      covers

  -- who lets AS* fall holds the bus
  pub holds_bus : (s : ℕ) → is_same_driver e.driver (Slot s) ≡ true → e.wire ≡ AddressStrobe → e.fall ≡ true → drive h (Slot s) Bbsy ≡ true
  holds_bus s driver wire way =
      let passed = passed_as version p h e s AddressStrobe true legal driver wire way in
      let addressing : drive h (Slot s) Addr ≡ true = and_left (drive h (Slot s) Addr) (not (line p h AddressStrobe)) passed.rule in
      is_true (drive h (Slot s) Bbsy) (λ free. never (drive h (Slot s) AddressStrobe) (keeps h (legal_is_orderly version p h ok legal.1).keeps_address s addressing free) passed.before)
    where
      keeps : (g : List Edge) → OnEachPrefix KeepsItsAddress g → KeepsItsAddress g
      keeps [] each = each
      keeps (x ∷ g) each = each.0

  -- who lets DS* fall drives AS*
  pub strobes : (old : SlotSet) → CoversDrivers h AddressStrobe old → (s : ℕ) → is_same_driver e.driver (Slot s) ≡ true → e.wire ≡ DataStrobe → e.fall ≡ true → has old s ≡ true
  strobes old covers s driver wire way =
      let passed = passed_as version p h e s DataStrobe true legal driver wire way in
      covers s (and_left (drive h (Slot s) AddressStrobe) (drive h (Slot s) Addr) (and_left _ (not (line p h Dtack))
      (and_left _ (not (drive h Controller Berr)) (and_left _ (not (has_strobed h (Slot s))) passed.rule))))
