use Rattle.std.proofs.Common.{◌∙◌, sym, ap, Bool}
use Rattle.std.specs.Prelude.{◌&&◌, not}
use Rattle.std.specs.Option.{option_copied}
use Rattle.vme_model.specs.Plan.{requests_on}
use Rattle.vme_bus.specs.declared.layouts.Seat.{Seat}
use Rattle.vme_bus.proofs.OneSlot.{seated, unseated}
use Rattle.vme_model.specs.Plan.{board}
use Rattle.vme_bus.proofs.Standing.{granted_here, none_here, same_four}
use Rattle.vme_bus.proofs.states.BusState.is_granted.Goals as goal

pub returns-in-Some : goal.returns-in-Some
returns-in-Some c = λ version p h is.
    let s = c.args.slot in
    let level = c.args.level in
    let k = seated p s c.in-Some.seat.now (sym (ap option_copied c.in-Some.is) ∙ c.seat.ensures ∙ is.layout.seats s) in
    let f : Bool → Bool → Bool → Bool → Bool = λ requests grant out bbsy. ((requests && grant) && not out) && not bbsy in
    same_four f _ _ _ _ _ _ _ _
    (c.requests_on.ensures ∙ ap (λ (x : Seat). requests_on level x.row) k.same)
    (c.grant_in.ensures version p h k.row is k.found k.same)
    (c.is_slot_low.ensures version p h is) (c.is_slot_low-in-Some.ensures version p h is)
    ∙ granted_here p h level s k.row is.accepted k.found c.requires.level

pub returns-in-None : goal.returns-in-None
returns-in-None c = λ version p h is.
    let s = c.args.slot in
    let none = unseated p (board p s) (sym (is.layout.seats s) ∙ sym c.seat.ensures ∙ ap option_copied c.in-None.is) in
    none_here p h c.args.level s c.requires.level none
