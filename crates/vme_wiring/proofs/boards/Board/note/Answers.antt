-- The parts that the wire does not concern stay as they were.
use Rattle.std.proofs.Common.{◌≡◌, ◌∙◌, refl, ap, sym}
use Rattle.vme_model.specs.declared.signals.Wire.TheVariants.{Br, BgOut, Addr, AddressStrobe, DataStrobe}
use Rattle.vme_wiring.specs.declared.boards.Board.{Board}
use Rattle.vme_wiring.proofs.Others.{concerns_master, concerns_requester, concerns_interrupter, of_wire, either, requester_kept, master_kept, interrupter_kept, assembled}
use Rattle.vme_wiring.proofs.boards.Board.note.Goals as goal

pub returns-in-Br : goal.returns-in-Br
returns-in-Br c version p h r same shown =
    let e = c.args.edge in
    let no_master = either concerns_master e.wire Br refl (λ (is : e.wire ≡ BgOut). ap concerns_master is) c.in-Br.is in
    let no_interrupter = either concerns_interrupter e.wire Br refl (λ (is : e.wire ≡ BgOut). ap concerns_interrupter is) c.in-Br.is in
    assembled (ap (λ (b : Board). b.row) same)
    (c.note_requester.ensures r.slot r.requester version h (ap (λ (b : Board). b.requester) same))
    (ap (λ (b : Board). b.master) same ∙ sym (master_kept r.slot r.requester r.handler h e (of_wire concerns_master r.slot e no_master)))
    (ap (λ (b : Board). b.interrupter) same ∙ sym (interrupter_kept p r.slot r.interrupter h e (of_wire concerns_interrupter r.slot e no_interrupter)))

pub returns-in-Bbsy : goal.returns-in-Bbsy
returns-in-Bbsy c version p h r same shown =
    let e = c.args.edge in
    let others = of_wire concerns_interrupter r.slot e (ap concerns_interrupter c.in-Bbsy.is) in
    assembled (ap (λ (b : Board). b.row) same)
    (c.note_requester-in-Bbsy.ensures r.slot r.requester version h (ap (λ (b : Board). b.requester) same))
    (c.note_master.ensures r.slot r.requester r.handler h (ap (λ (b : Board). b.master) same))
    (ap (λ (b : Board). b.interrupter) same ∙ sym (interrupter_kept p r.slot r.interrupter h e others))

pub returns-in-Addr : goal.returns-in-Addr
returns-in-Addr c version p h r same shown =
    let e = c.args.edge in
    let no_requester = either concerns_requester e.wire Addr refl (either concerns_requester e.wire AddressStrobe refl (λ (is : e.wire ≡ DataStrobe). ap concerns_requester is)) c.in-Addr.is in
    let no_interrupter = either concerns_interrupter e.wire Addr refl (either concerns_interrupter e.wire AddressStrobe refl (λ (is : e.wire ≡ DataStrobe). ap concerns_interrupter is)) c.in-Addr.is in
    assembled (ap (λ (b : Board). b.row) same)
    (ap (λ (b : Board). b.requester) same ∙ sym (requester_kept r.slot r.requester version h e (of_wire concerns_requester r.slot e no_requester)))
    (c.note_master-in-Addr.ensures r.slot r.requester r.handler h (ap (λ (b : Board). b.master) same))
    (ap (λ (b : Board). b.interrupter) same ∙ sym (interrupter_kept p r.slot r.interrupter h e (of_wire concerns_interrupter r.slot e no_interrupter)))
