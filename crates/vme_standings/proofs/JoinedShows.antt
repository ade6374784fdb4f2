-- What is shown on a bus that keeps the rules: it is in range, and the board that shows it may.
use Rattle.std.proofs.Common.{◌≡◌, refl, ap, subst, ℕ, Bool, true, false, List, [], ◌∷◌}
use Rattle.std.specs.Prelude.{Option, Some, None}
use Rattle.std.specs.Option.{option_map_or}
use Rattle.vme_model.specs.declared.boards.Row.{Row}
use Rattle.vme_model.specs.declared.signals.Version.{Version}
use Rattle.vme_model.specs.declared.signals.Cycle.{Cycle}
use Rattle.vme_model.specs.declared.signals.Cycle.TheVariants as cycle
use Rattle.vme_model.specs.declared.signals.Driver.{Driver}
use Rattle.vme_model.specs.declared.signals.Driver.TheVariants.{Controller, Slot}
use Rattle.vme_model.specs.declared.signals.Wire.{Wire}
use Rattle.vme_model.specs.declared.signals.Wire.TheVariants as wire
use Rattle.vme_model.specs.declared.signals.Edge.{Edge}
use Rattle.vme_model.specs.Signals.{has_value, is_in_range}
use Rattle.vme_model.specs.Plan.{Plan, board}
use Rattle.vme_model.specs.Accepted.{IsAccepted}
use Rattle.vme_model.specs.Guards.{holds}
use Rattle.vme_model.specs.History.{drive, shown}
use Rattle.vme_model.specs.Readings.{readings}
use Rattle.vme_model.specs.Rules.{show_guard}
use Rattle.vme_model.specs.Verdict.{IsLegal}
use Rattle.vme_model.proofs.Bools.{and_left, and_right}
use Rattle.vme_model.proofs.AllowedEdges.{all_passed}
use Rattle.vme_histories.proofs.Addressing.{one_addresses, showing}
use Rattle.vme_histories.proofs.AllowedBoards.{at, driven, own_after, stands}
use Rattle.vme_histories.proofs.Drivers.{standing}
use Rattle.vme_standings.specs.Cycles.{may_show, may_show_at}
use Rattle.vme_standings.proofs.JoinedLevels.{drive_shrinks}
use Rattle.vme_standings.proofs.Tests.{never}

-- the slot shows this
pub record Shows (p : Plan) (h : List Edge) (s : ℕ) : Type 0 where
  pub cycle : Cycle
  pub shows : shown p h ≡ Some cycle
  pub range : is_in_range cycle ≡ true
  pub able : may_show_at cycle p s ≡ true

module _ (version : Version) (p : Plan) (ok : IsAccepted p) where
  goes_on : (h : List Edge) (t : ℕ) (v : Option Cycle) → IsLegal version p (at t wire.Addr true v ∷ h) → Shows p (at t wire.Addr true v ∷ h) t
  goes_on h t v legal =
      let b = standing version p h t (at t wire.Addr true v) legal.0 refl in
      let d = driven version p h t b.row wire.Addr true v b.found legal.0 in
      by_value v (showing version p h t b.row true v ok legal.1 legal.0 (stands p t b.row ok b.found) d).shown d.value
      (and_right _ (holds (show_guard (readings p h (Slot t)) v)) (all_passed version p h (Slot t) wire.Addr true v legal.0).rule) b.row b.found
    where
      by_value : (o : Option Cycle) → shown p (at t wire.Addr true v ∷ h) ≡ o → has_value wire.Addr true o ≡ true → holds (show_guard (readings p h (Slot t)) o) ≡ true → (r : Row) → board p t ≡ Some r
          → Shows p (at t wire.Addr true v ∷ h) t
      by_value None is has rule r found = absurd (cc)
      by_value (Some (cycle.Acknowledge n)) is has rule r found = record {
        cycle = cycle.Acknowledge n;
        shows = is;
        range = has;
        able = and_left (may_show_at (cycle.Acknowledge n) p t) _ rule;
      }
      by_value (Some (cycle.Access x)) is has rule r found = record {
        cycle = cycle.Access x;
        shows = is;
        range = has;
        able = ap (λ (o : Option Row). option_map_or (may_show (cycle.Access x)) o false) found;
      }

  pub shows_at : (h : List Edge) → IsLegal version p h → (s : ℕ) → drive h (Slot s) wire.Addr ≡ true → Shows p h s
  shows_at [] legal s on = absurd (cc)
  shows_at (e ∷ h) legal s on = by_edge e.driver e.wire e.fall e.value legal on (shows_at h legal.1 s)
    where
      by_edge : (d : Driver) (w : Wire) (fall : Bool) (v : Option Cycle) → (let x : Edge = record { driver = d; wire = w; fall = fall; value = v } in
          IsLegal version p (x ∷ h) → drive (x ∷ h) (Slot s) wire.Addr ≡ true → (drive h (Slot s) wire.Addr ≡ true → Shows p h s) → Shows p (x ∷ h) s)
      by_edge (Slot t) wire.Addr true v l o before =
          let same : t ≡ s = one_addresses version p (at t wire.Addr true v ∷ h) ok l t s (own_after h t t wire.Addr true v refl) o in
          subst (Shows p (at t wire.Addr true v ∷ h)) same (goes_on h t v l)
      by_edge (Slot t) wire.Addr false v l o before =
          let was : drive h (Slot t) wire.Addr ≡ true = (all_passed version p h (Slot t) wire.Addr false v l.0).before in
          let on_now : drive h (Slot s) wire.Addr ≡ true = drive_shrinks h (at t wire.Addr false v) (Slot s) wire.Addr refl o in
          let same : s ≡ t = one_addresses version p h ok l.1 s t on_now was in
          absurd (never (drive (at t wire.Addr false v ∷ h) (Slot s) wire.Addr) o (own_after h t s wire.Addr false v same))
      by_edge Controller wire.Addr fall v l o before = absurd (cc (all_passed version p h Controller wire.Addr fall v l.0).wire)
      by_edge d w fall v l o before = let b = before o in record { cycle = b.cycle; shows = b.shows; range = b.range; able = b.able }
