use Rattle.std.proofs.Common.{◌≡◌, ◌∙◌, sym, ap, Bool, ◌++◌, ◌∷◌, [], List, filter, map}
use Rattle.std.specs.Prelude.{if◌then◌else◌}
use Rattle.std.specs.Option.{option_to_list}
use Rattle.vme_model.specs.declared.signals.Driver.TheVariants.{Slot}
use Rattle.vme_model.specs.declared.signals.Wire.TheVariants.{Addr}
use Rattle.vme_model.specs.declared.signals.Cycle.TheVariants.{Acknowledge, Access}
use Rattle.vme_model.specs.declared.signals.Edge.{Edge}
use Rattle.vme_model.specs.History.{drive}
use Rattle.vme_model.specs.Offers.{going_on, next_board, turned, wanted}
use Rattle.vme_model.specs.Open.{showing}
use Rattle.vme_histories.specs.Offered.{is_open}
use Rattle.vme_histories.proofs.Considered.{goes_on, goes_on_none}
use Rattle.vme_histories.proofs.More.{none_more, one_more}
use Rattle.vme_histories.proofs.offers.offer_address.Goals as goal

pub returns-then-is_low-clause-offered : goal.returns-then-is_low-clause-offered
returns-then-is_low-clause-offered g c version p h is =
    let d = Slot c.args.slot in
    let behind : Bool → List Edge = λ low. c.args.offers.now.items ++ filter (is_open version p h) (if low then turned h d Addr ∷ [] else going_on p h d) in
    c.offer_turned.ensures.offered version p h is
    ∙ sym (ap behind (sym (c.is_low.ensures version p h is) ∙ c.if-is_low.true))

pub returns-in-Some-clause-offered : goal.returns-in-Some-clause-offered
returns-in-Some-clause-offered g c version p h is =
    let s = c.args.slot in
    let d = Slot s in
    let test = is_open version p h in
    let before = c.args.offers.now.items in
    let behind : Bool → List Edge = λ low. before ++ filter test (if low then turned h d Addr ∷ [] else going_on p h d) in
    let k = goes_on p h s c.in-Some.handled (sym (c.handled.ensures version p h is) ∙ c.in-Some.is) in
    one_more test before c.offer_acknowledge.new.offers.items c.offer_access.new.offers.items
    (map (λ v. showing d (Acknowledge v)) (option_to_list (wanted p h k.row))) (map (λ t. showing d (Access t)) (option_to_list (next_board p s)))
    (c.offer_acknowledge.ensures.offered version p h is k.row k.handles) (c.offer_access.ensures.offered version p h is)
    ∙ ap (λ (es : List Edge). before ++ filter test es) k.shows
    ∙ sym (ap behind (sym (c.is_low.ensures version p h is) ∙ c.if-is_low.false))

pub returns-in_default-clause-offered : goal.returns-in_default-clause-offered
returns-in_default-clause-offered g c version p h is =
    let s = c.args.slot in
    let d = Slot s in
    let none : going_on p h d ≡ [] = goes_on_none p h s (sym (c.handled.ensures version p h is) ∙ c.in_default.is) in
    let considered : Bool → List Edge = λ low. if low then turned h d Addr ∷ [] else going_on p h d in
    none_more c.args.offers.now.items (filter (is_open version p h) (considered (drive h d Addr)))
    (ap (λ low. filter (is_open version p h) (considered low)) (sym (c.is_low.ensures version p h is) ∙ c.if-is_low.false)
    ∙ ap (filter (is_open version p h)) none)
