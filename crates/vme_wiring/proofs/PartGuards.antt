-- The guard that a part reads by its own fields is the one that the whole backplane reads.
use Rattle.std.proofs.Common.{◌≡◌, ◌∙◌, refl, sym, ap, subst, Bool, true, List}
use Rattle.std.specs.Prelude.{Some, is_some}
use Rattle.vme_model.specs.declared.boards.Row.{Row}
use Rattle.vme_model.specs.declared.pins.Pins.{Pins}
use Rattle.vme_model.specs.declared.signals.Version.{Version}
use Rattle.vme_model.specs.declared.signals.Edge.{Edge}
use Rattle.vme_model.specs.declared.signals.Wire.TheVariants.{Bbsy}
use Rattle.vme_model.specs.Plan.{Plan}
use Rattle.vme_model.specs.Rules.{guard}
use Rattle.vme_requester.specs.Local.{RequesterState, requester_of, is_requesters, guard_over}
use Rattle.vme_master.specs.Local.{MasterState, master_of, is_masters, over as master_over}
use Rattle.vme_interrupter.specs.Local.{InterrupterState, interrupter_of, is_interrupters, over as interrupter_over, seen}
use Rattle.vme_wiring.specs.Asked.{asked_guard, IsAsked}
use Rattle.vme_wiring.specs.Boards.{parts_of, low_of}
use Rattle.vme_wiring.specs.declared.boards.Board.{Board}
use Rattle.vme_wiring.proofs.Parts.{part, free_at, low_at}
use Rattle.vme_wiring.proofs.PartAnswers.{is_free}
use Rattle.vme_wiring.proofs.RuleRows.{requester_guarded, master_guarded, interrupter_guarded}

module _ (version : Version) (p : Plan) (h : List Edge) (r : Row) (b : Board) (pins : Pins) (e : Edge) (same : b ≡ parts_of version p h r) where
  -- a requester noted the history
  pub requester_noted : (q : RequesterState) → b.requester ≡ Some q → q ≡ requester_of q.slot q.row q.version h
  requester_noted q has =
      let k = part (λ q. requester_of r.slot q version h) r.requester q (sym has ∙ ap (λ (b : Board). b.requester) same) in
      let P : RequesterState → Type 0 = λ x. x ≡ requester_of x.slot x.row x.version h in
      subst P (sym k.is_part) refl

  pub requester_guard : (q : RequesterState) (free : Bool) → b.requester ≡ Some q → free ≡ is_free b → IsAsked p h r pins e → is_requesters e.wire ≡ true →
      guard_over q.slot q.row q.version h pins free e ≡ asked_guard version p h e
  requester_guard q free has told asked own =
      let k = part (λ q. requester_of r.slot q version h) r.requester q (sym has ∙ ap (λ (b : Board). b.requester) same) in
      let some : is_some r.requester ≡ true = ap is_some k.is_row in
      ap (λ (x : RequesterState). guard_over x.slot x.row x.version h pins free e) k.is_part
      ∙ requester_guarded version p h r k.of pins free e asked k.is_row (told ∙ free_at version p h r b same some) own

  -- a master
  pub master_noted : (m : MasterState) → b.master ≡ Some m → m ≡ master_of m.slot m.row m.handler h
  master_noted m has =
      let k = part (λ q. master_of r.slot q r.handler h) r.requester m (sym has ∙ ap (λ (b : Board). b.master) same) in
      let P : MasterState → Type 0 = λ x. x ≡ master_of x.slot x.row x.handler h in
      subst P (sym k.is_part) refl

  pub master_guard : (m : MasterState) (holds : Bool) → b.master ≡ Some m → holds ≡ low_of b Bbsy → IsAsked p h r pins e → is_masters e.wire ≡ true →
      (guard version (master_over m.slot m.row m.handler h pins holds) e.wire e.fall e.value).1 ≡ asked_guard version p h e
  master_guard m holds has told asked own =
      let k = part (λ q. master_of r.slot q r.handler h) r.requester m (sym has ∙ ap (λ (b : Board). b.master) same) in
      let some : is_some r.requester ≡ true = ap is_some k.is_row in
      ap (λ (x : MasterState). (guard version (master_over x.slot x.row x.handler h pins holds) e.wire e.fall e.value).1) k.is_part
      ∙ master_guarded version p h r k.of pins holds e asked k.is_row (told ∙ low_at version p h r b Bbsy same some) own

  -- an interrupter
  pub interrupter_noted : b.interrupter ≡ interrupter_of b.interrupter.slot b.interrupter.row (seen p h)
  interrupter_noted =
      let P : InterrupterState → Type 0 = λ x. x ≡ interrupter_of x.slot x.row (seen p h) in
      subst P (sym (ap (λ (b : Board). b.interrupter) same)) refl

  pub interrupter_guard : IsAsked p h r pins e → is_interrupters e.wire ≡ true →
      (guard version (interrupter_over b.interrupter.slot b.interrupter.row (seen p h) pins) e.wire e.fall e.value).1 ≡ asked_guard version p h e
  interrupter_guard asked own =
      ap (λ (b : Board). (guard version (interrupter_over b.interrupter.slot b.interrupter.row (seen p h) pins) e.wire e.fall e.value).1) same
      ∙ interrupter_guarded version p h r pins e asked own
