-- A quiet board that nothing has reached waits.
use Rattle.std.proofs.Common.{◌≡◌, ◌∙◌, refl, ap, Bool, true, false, ℕ, List}
use Rattle.std.specs.Prelude.{◌&&◌, not, Some}
use Rattle.std.specs.List.{list_all}
use Rattle.std.proofs.Math.Path.{fun_ext}
use Rattle.vme_model.specs.declared.signals.Version.{Version}
use Rattle.vme_model.specs.declared.signals.Driver.TheVariants.{Controller, Slot}
use Rattle.vme_model.specs.declared.signals.Wire.{Wire}
use Rattle.vme_model.specs.declared.signals.Wire.TheVariants.{Bg, Bbsy}
use Rattle.vme_model.specs.declared.signals.Edge.{Edge}
use Rattle.vme_model.specs.Plan.{Plan}
use Rattle.vme_model.specs.History.{drive, line}
use Rattle.vme_model.specs.Readings.{readings}
use Rattle.vme_model.specs.Rules.{bus_numbers}
use Rattle.vme_model.specs.Verdict.{IsLegal}
use Rattle.vme_arbiter.specs.Local.{ControllerState, controller_of, low}
use Rattle.vme_wiring.specs.Boards.{low_of, place}
use Rattle.vme_wiring.specs.Asked.{seen_by, read_by}
use Rattle.vme_wiring.specs.Waits.{is_quiet, is_requester_quiet, is_master_quiet, is_interrupter_quiet, is_ungranted, is_unaddressed, is_left_alone, waits_for_grant, waits_for_bus, waits_for_cycle}
use Rattle.vme_histories.specs.Judged.{may_grant}
use Rattle.vme_wiring.specs.Wired.{IsWiringOf}
use Rattle.vme_wiring.specs.declared.boards.Board.{Board}
use Rattle.vme_wiring.specs.declared.wirings.Wiring.{Wiring}
use Rattle.vme_wiring.proofs.FieldReads.{own_of_controller}
use Rattle.vme_wiring.proofs.NoOffers.{reads_grant, reads_bus, reads_cycle}

-- the same truth part by part, or by its wires and then by what reaches it
by_parts : (r m i u a : Bool) → ((r && m && i) && (u && a)) ≡ ((r && u) && m && (i && a))
by_parts true true true true a = refl
by_parts true true true false a = refl
by_parts true true false true a = refl
by_parts true true false false a = refl
by_parts true false i true a = refl
by_parts true false i false a = refl
by_parts false m i u a = refl

pub quiet_waits : (w : Wiring) (b : Board) →
    (is_quiet (low_of b) b.row && is_left_alone w.version (seen_by w.chains w.shared b.row) b.row)
    ≡ (waits_for_grant w.version (read_by w b) b.row && waits_for_bus (read_by w b) && waits_for_cycle (read_by w b) b.row)
quiet_waits w b =
    let seen = seen_by w.chains w.shared b.row in
    by_parts (is_requester_quiet (low_of b) b.row) (is_master_quiet (low_of b)) (is_interrupter_quiet (low_of b) b.row)
    (is_ungranted w.version seen.grant_in b.row) (is_unaddressed seen.shown seen.iack_in b.row)

-- the truth of three parts, with a fourth
pub all_but_last : (a b c d : Bool) → (a && b && c) ≡ true → d ≡ (a && b && (c && d))
all_but_last true true true d waits = refl
all_but_last a b c d waits = absurd (cc)

pub one_moves : (a b c d : Bool) → (a && b && c) ≡ false → false ≡ (a && b && (c && d))
one_moves true true true d moves = absurd (cc)
one_moves true true false d moves = refl
one_moves true false c d moves = refl
one_moves false b c d moves = refl

and_true : (b : Bool) → (b && true) ≡ b
and_true true = refl
and_true false = refl

module _ (version : Version) (p : Plan) (h : List Edge) where
  abbrev grants_high : (Wire → Bool) → Bool
  grants_high f = list_all (λ n. not (f (Bg n))) bus_numbers

  -- the grants and the bus by the controller's state and its pin
  pub free : (c : ControllerState) (bbsy : Bool) → IsLegal version p h → c ≡ controller_of p.arbiter version h → bbsy ≡ line p h Bbsy → ((grants_high (low c) && not bbsy) && true) ≡ may_grant p h
  free c bbsy legal state pin =
      let own : (x : Wire) → low c x ≡ drive h Controller x = λ x. ap (λ (a : ControllerState). low a x) state ∙ own_of_controller version p h x legal in
      and_true (grants_high (low c) && not bbsy)
      ∙ ap (λ f. grants_high f && not bbsy) (fun_ext own)
      ∙ ap (λ b. grants_high (drive h Controller) && not b) pin

module _ (version : Version) (p : Plan) (h : List Edge) (w : Wiring) (s : ℕ) (b : Board) (is : IsWiringOf version p h w) (here : Some b ≡ place w.boards s) where
  -- what the fields say of a board in its place, by what its rules read
  pub quiet_reads :
      (is_quiet (low_of b) b.row && is_left_alone w.version (seen_by w.chains w.shared b.row) b.row)
      ≡ (waits_for_grant version (readings p h (Slot s)) b.row && waits_for_bus (readings p h (Slot s)) && waits_for_cycle (readings p h (Slot s)) b.row)
  quiet_reads =
      quiet_waits w b
      ∙ ap (λ x. x && waits_for_bus (read_by w b) && waits_for_cycle (read_by w b) b.row) (reads_grant version p h w s b is here)
      ∙ ap (λ x. waits_for_grant version (readings p h (Slot s)) b.row && x && waits_for_cycle (read_by w b) b.row) (reads_bus version p h w s b is here)
      ∙ ap (λ x. waits_for_grant version (readings p h (Slot s)) b.row && waits_for_bus (readings p h (Slot s)) && x) (reads_cycle version p h w s b is here)
