use Rattle.std.proofs.Common.{◌∙◌, sym, ap, Bool, ◌++◌, ◌∷◌, [], List, filter, map}
use Rattle.std.specs.Prelude.{if◌then◌else◌}
use Rattle.std.proofs.lemmas.List.{map-append}
use Rattle.vme_model.specs.declared.signals.Driver.TheVariants.{Slot}
use Rattle.vme_model.specs.declared.signals.Wire.TheVariants.{Addr}
use Rattle.vme_model.specs.declared.signals.Edge.{Edge}
use Rattle.vme_model.specs.Offers.{turned}
use Rattle.vme_model.specs.Open.{accesses, acknowledges, showing}
use Rattle.vme_histories.specs.Offered.{is_open}
use Rattle.vme_histories.proofs.More.{one_more}
use Rattle.vme_histories.proofs.opens.open_address.Goals as goal

pub returns-then-is_low-clause-opened : goal.returns-then-is_low-clause-opened
returns-then-is_low-clause-opened g c version p h is =
    let d = Slot c.args.slot in
    let behind : Bool → List Edge = λ low. c.args.edges.now.items ++ filter (is_open version p h) (if low then turned h d Addr ∷ [] else map (showing d) (acknowledges ++ accesses)) in
    c.offer_turned.ensures.offered version p h is
    ∙ sym (ap behind (sym (c.is_low.ensures version p h is) ∙ c.if-is_low.true))

pub returns-else-is_low-clause-opened : goal.returns-else-is_low-clause-opened
returns-else-is_low-clause-opened g c version p h is =
    let d = Slot c.args.slot in
    let test = is_open version p h in
    let before = c.args.edges.now.items in
    let behind : Bool → List Edge = λ low. before ++ filter test (if low then turned h d Addr ∷ [] else map (showing d) (acknowledges ++ accesses)) in
    one_more test before c.open_acknowledges.new.edges.items c.open_accesses.new.edges.items (map (showing d) acknowledges) (map (showing d) accesses)
    (c.open_acknowledges.ensures.opened version p h is) (c.open_accesses.ensures.opened version p h is)
    ∙ ap (λ (es : List Edge). before ++ filter test es) (sym (map-append (showing d) acknowledges accesses))
    ∙ sym (ap behind (sym (c.is_low.ensures version p h is) ∙ c.if-is_low.false))
