-- The boards that pull a request or interrupt line are in the line that is printed of it: `laws`.
use Rattle.std.proofs.Common.{◌≡◌, ◌∙◌, ◌<◌, ℕ, Bool, true, false, List, [], ◌∷◌, Option, Some, None, refl, sym, ap, subst, arith, is_some}
use Rattle.std.specs.Prelude.{◌==◌, if◌then◌else◌}
use Rattle.std.specs.Option.{IfSome, option_map_or}
use Rattle.std.proofs.lemmas.Bool.Decides.{nat_tests}
use Rattle.vme_model.specs.declared.boards.InterrupterRow.{InterrupterRow}
use Rattle.vme_model.specs.declared.boards.RequesterRow.{RequesterRow}
use Rattle.vme_model.specs.declared.boards.Row.{Row}
use Rattle.vme_model.specs.declared.signals.Driver.TheVariants.{Slot}
use Rattle.vme_model.specs.declared.signals.Edge.{Edge}
use Rattle.vme_model.specs.declared.signals.Version.{Version}
use Rattle.vme_model.specs.declared.signals.Wire.{Wire}
use Rattle.vme_model.specs.declared.signals.Wire.TheVariants.{Br, Irq}
use Rattle.vme_model.specs.Accepted.{IsAccepted}
use Rattle.vme_model.specs.History.{drive, pulls_interrupt, pulls_request}
use Rattle.vme_model.specs.Plan.{Plan, board, drives, has_driver, interrupts_on, requests_on}
use Rattle.vme_model.specs.Signals.{is_edge_of, is_same_driver, is_same_wire}
use Rattle.vme_model.specs.Verdict.{IsLegal}
use Rattle.vme_model.proofs.Bools.{and_left, and_right}
use Rattle.vme_model.proofs.Members.{IsFound, found_row}
use Rattle.vme_model.proofs.Ranges.{IsRowInRange, in_range}
use Rattle.vme_captures.specs.declared.signals.Line.TheVariants as on_line
use Rattle.vme_captures.specs.declared.signals.Pin.{Pin}
use Rattle.vme_captures.specs.Signals.{is_line}
use Rattle.vme_standings.specs.declared.standings.Standings.{Standings}
use Rattle.vme_standings.specs.Covers.{Covers}
use Rattle.vme_standings.specs.GrantChains.{is_of_level}
use Rattle.vme_standings.specs.Requests.{is_on_level}
use Rattle.vme_standings.proofs.JoinedTells.{puller_told}
use Rattle.vme_standings.proofs.RequestRows.{level_is, passed_as}
use Rattle.vme_standings.proofs.Tests.{both, never}
use Rattle.vme_probe.specs.Ends.{may_pull}
use Rattle.vme_probe.specs.Naming.{NamesPuller}

-- a board that has the wire
record HasWire (p : Plan) (s : ℕ) (w : Wire) : Type 0 where
  row : Row
  found : board p s ≡ Some row
  has : drives w row ≡ true

-- each wire that passes for this one is this one
abbrev IsAlone : Wire → Type 0
IsAlone w = (x : Wire) → is_same_wire x w ≡ true → x ≡ w

br_alone : IsAlone Br
br_alone Br is = refl
br_alone x is = absurd (cc)

irq_alone : IsAlone Irq
irq_alone Irq is = refl
irq_alone x is = absurd (cc)

-- a slot without such a wire never drove it
never_drove : (version : Version) (p : Plan) (h : List Edge) (s : ℕ) (w : Wire) → IsAlone w → IsLegal version p h → has_driver p (Slot s) w ≡ false → drive h (Slot s) w ≡ false
never_drove version p [] s w alone legal lacks = refl
never_drove version p (e ∷ h) s w alone legal lacks = by_edge (never_drove version p h s w alone legal.1 lacks) (is_edge_of (Slot s) w e) refl
  where
    by_edge : drive h (Slot s) w ≡ false → (b : Bool) → is_edge_of (Slot s) w e ≡ b → (if b then e.fall else drive h (Slot s) w) ≡ false
    by_edge before true is =
        let driver = and_right (is_same_wire e.wire w) (is_same_driver e.driver (Slot s)) is in
        let wire = alone e.wire (and_left (is_same_wire e.wire w) (is_same_driver e.driver (Slot s)) is) in
        absurd (never (has_driver p (Slot s) w) (passed_as version p h e s w e.fall legal driver wire refl).exists lacks)
    by_edge before false is = before

driver_there : (version : Version) (p : Plan) (h : List Edge) → IsLegal version p h → (s : ℕ) (w : Wire) → IsAlone w → drive h (Slot s) w ≡ true → HasWire p s w
driver_there version p h legal s w alone low = by_driver (has_driver p (Slot s) w) refl
  where
    by_board : (o : Option Row) → board p s ≡ o → option_map_or (drives w) o false ≡ true → HasWire p s w
    by_board None found on = absurd (cc)
    by_board (Some r) found on = record { row = r; found = found; has = on }

    by_driver : (b : Bool) → has_driver p (Slot s) w ≡ b → HasWire p s w
    by_driver false lacks = absurd (never (drive h (Slot s) w) low (never_drove version p h s w alone legal lacks))
    by_driver true on = by_board (board p s) refl on

self : (n : ℕ) → (n == n) ≡ true
self n = grind (arith, nat_tests)

module _ (version : Version) (p : Plan) (ok : IsAccepted p) (pins : List Pin) (h : List Edge) (legal : IsLegal version p h) (st : Standings) (covers : Covers p pins h st) (s : ℕ) where
  found_at : (r : Row) → board p s ≡ Some r → IsFound (IsRowInRange p) p.rows s r
  found_at r found = found_row (IsRowInRange p) p.rows s r (in_range p ok).rows found

  pub asker : drive h (Slot s) Br ≡ true → (n : ℕ) × NamesPuller st (on_line.Br n) (is_of_level p n) s
  asker low = by_requester b.row.requester refl b.has
    where
      b : HasWire p s Br
      b = driver_there version p h legal s Br br_alone low

      level : (n : ℕ) → n < 4 → is_line (on_line.Br n) ≡ true
      level n few = grind (arith, nat_tests)

      by_requester : (o : Option RequesterRow) → b.row.requester ≡ o → is_some o ≡ true → (n : ℕ) × NamesPuller st (on_line.Br n) (is_of_level p n) s
      by_requester None is on = absurd (cc)
      by_requester (Some q) is on =
          let f = found_at b.row b.found in
          let there = level q.level (subst (λ (o : Option RequesterRow). IfSome o (λ z. z.level < 4)) is f.fact.level) in
          let asks : requests_on q.level b.row ≡ true = ap (λ (o : Option RequesterRow). option_map_or (λ z. z.level == q.level) o false) is ∙ self q.level in
          let pulls = both (requests_on q.level b.row) (drive h (Slot b.row.slot) Br) asks (subst (λ t. drive h (Slot t) Br ≡ true) (sym f.slot) low) in (
            q.level,
            (
              there,
              covers.levels.shared (on_line.Br q.level) there ∙ f.passes (pulls_request h q.level) pulls,
              ap (λ (o : Option Row). option_map_or (requests_on q.level) o false) b.found ∙ asks,
            ),
          )

  pub puller : drive h (Slot s) Irq ≡ true → (n : ℕ) × NamesPuller st (on_line.Irq n) (may_pull p st n) s
  puller low = by_interrupter b.row.interrupter refl b.has
    where
      b : HasWire p s Irq
      b = driver_there version p h legal s Irq irq_alone low

      by_interrupter : (o : Option InterrupterRow) → b.row.interrupter ≡ o → is_some o ≡ true → (n : ℕ) × NamesPuller st (on_line.Irq n) (may_pull p st n) s
      by_interrupter None is on = absurd (cc)
      by_interrupter (Some i) is on =
          let f = found_at b.row b.found in
          let there = level_is p s b.row i ok b.found is in
          let asks : interrupts_on i.level b.row ≡ true = ap (λ (o : Option InterrupterRow). option_map_or (λ z. z.level == i.level) o false) is ∙ self i.level in
          let pulls = both (interrupts_on i.level b.row) (drive h (Slot b.row.slot) Irq) asks (subst (λ t. drive h (Slot t) Irq ≡ true) (sym f.slot) low) in
          let has : is_on_level p i.level s ≡ true = ap (λ (o : Option Row). option_map_or (interrupts_on i.level) o false) b.found ∙ asks in (
            i.level,
            (
              there,
              covers.levels.shared (on_line.Irq i.level) there ∙ f.passes (pulls_interrupt h i.level) pulls,
              puller_told p pins h st covers i.level s has low,
            ),
          )
